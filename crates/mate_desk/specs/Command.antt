-- The properties of a run, by what its command reads.
use Rattle.std.specs.Prelude.{◌≡◌, ℕ, List, [], Option, Some, IsSomeAnd, slice_get}
use Rattle.desk_base.specs.Files.{Files}
use Rattle.desk_base.specs.Lines.{Lines, lines_of}
use Rattle.desk_files.specs.FileClaim.{MissesFetch}
use Rattle.desk_report.specs.OfText.{IsBehindTextOf, OfLines}
use Rattle.desk_report.specs.Outcome.{NeverMisses, Report}
use Rattle.desk_text.specs.Text.{problems}
use Rattle.desk_text.specs.declared.problem.Problem.{Problem}

-- the report on the text at the front of these bytes
abbrev pub OfText : (Problem → Lines → Report → Type 0) → Files → List ℕ → Report → Type 0
OfText reports files bytes report = OfLines problems reports files (lines_of bytes) report

-- the bytes taken are the text of a sound position with this property, and at most 256 bytes after it
abbrev pub IsBehindText : (Holds : Problem → Type 0) → (taken : List ℕ) → Type 0
IsBehindText Holds taken = IsBehindTextOf problems Holds taken

-- when the shelf may fail while it stores a file: the arguments name it, and there is a file to store for the text that
-- was taken
pub record MayMissKeep (HasFile : Problem → Type 0) (name : Option (List ℕ)) (taken : List ℕ)
    (keeping : Option (List ℕ)) : Type 0 where
  pub named : keeping ≡ name
  pub text : IsBehindText HasFile taken

-- the report for a name, if there is one
abbrev pub OfName : (name : Option (List ℕ)) → ((name : List ℕ) → Report → Type 0) → Report → Type 0
OfName name reports report = IsSomeAnd name (λ name'. reports name' report)

-- the report for two names, if there are both
abbrev pub OfNames : (from to : Option (List ℕ)) → ((from to : List ℕ) → Report → Type 0) → Report → Type 0
OfNames from to reports = OfName from (λ from'. OfName to (λ to'. reports from' to'))

-- When the shelf may fail between reading one file and storing the other: nothing of the input was taken, and the two
-- names and the files allow it.
pub record MayMissBetween (misses : (from to : List ℕ) → Files → Option (List ℕ) → Type 0) (words : List (List ℕ))
    (taken : List ℕ) (files : Files) (keeping : Option (List ℕ)) : Type 0 where
  pub none : taken ≡ []
  pub from : List ℕ
  pub to : List ℕ
  pub from_named : slice_get words 1 ≡ Some from
  pub to_named : slice_get words 2 ≡ Some to
  pub fails : misses from to files keeping

-- The properties of a run of a command.
pub record Command : Type 1 where
  -- the report, given the arguments with their names, the bytes of the input, and the files
  pub reports : (words : List (List ℕ)) → List ℕ → Files → Report → Type 0
  -- the command allocates for the problem of a text, or for one that follows from a seed
  pub takes : Problem → Type 0
  -- memory may run out after these bytes were taken
  pub may_lack : (taken : List ℕ) → Type 0
  -- the shelf with these files may fail then, while the file of this name, or none, is being stored
  pub may_miss : (words : List (List ℕ)) → (taken : List ℕ) → Files → (keeping : Option (List ℕ)) → Type 0
  -- it reads a position text
  pub text : Type 0
  -- it uses no file
  pub no_shelf : Type 0
  -- it reads neither a text nor lines
  pub no_text : Type 0

-- a command on the problem of a text and the lines after it
abbrev pub of_text : (says : Problem → Lines → Files → Report → Type 0) → (takes : Problem → Type 0) → Command
of_text says takes =
    record {
      reports = λ words bytes files. OfText (λ problem rest. says problem rest files) files bytes;
      takes = takes;
      may_lack = IsBehindText takes;
      may_miss = λ words taken files. NeverMisses;
      text = Unit {0};
      no_shelf = Unit {0};
      no_text = ⊥;
    }

-- a command on the problem of a text that stores a file; its name is the third argument
abbrev pub of_text_to_keep : (says : Problem → (name : List ℕ) → Files → Report → Type 0)
    → (takes has_file : Problem → Type 0) → Command
of_text_to_keep says takes has_file =
    record {
      reports =
          λ words bytes files.
          OfText (λ problem rest. OfName (slice_get words 2) (λ name. says problem name files)) files bytes;
      takes = takes;
      may_lack = IsBehindText takes;
      may_miss = λ words taken files. MayMissKeep has_file (slice_get words 2) taken;
      text = Unit {0};
      no_shelf = ⊥;
      no_text = ⊥;
    }

-- a command on the file named by the second argument, and on the lines of the input, if it reads any
abbrev pub of_file : (says : Lines → (name : List ℕ) → Files → Report → Type 0) → (no_text : Type 0) → Command
of_file says no_text =
    record {
      reports = λ words bytes files. OfName (slice_get words 1) (λ name. says (lines_of bytes) name files);
      takes = λ problem. ⊥;
      may_lack = λ taken. taken ≡ [];
      may_miss = λ words taken files. MissesFetch taken;
      text = ⊥;
      no_shelf = ⊥;
      no_text = no_text;
    }

-- a command on the file named by the second argument that stores a file under the third
abbrev pub of_files : (says : (from to : List ℕ) → Files → Report → Type 0)
    → (misses : (from to : List ℕ) → Files → Option (List ℕ) → Type 0) → Command
of_files says misses =
    record {
      reports =
          λ words bytes files. OfNames (slice_get words 1) (slice_get words 2) (λ from to. says from to files);
      takes = λ problem. ⊥;
      may_lack = λ taken. taken ≡ [];
      may_miss = MayMissBetween misses;
      text = ⊥;
      no_shelf = ⊥;
      no_text = Unit {0};
    }

-- a command on the lines of the input alone
abbrev pub of_lines : (says : Lines → Files → Report → Type 0) → (may_lack : (taken : List ℕ) → Type 0) → Command
of_lines says may_lack =
    record {
      reports = λ words bytes. says (lines_of bytes);
      takes = λ problem. ⊥;
      may_lack = may_lack;
      may_miss = λ words taken files. NeverMisses;
      text = ⊥;
      no_shelf = Unit {0};
      no_text = ⊥;
    }

-- a command on its arguments alone, for which memory may run out if there is something to compute
abbrev pub of_words : (says : Files → Report → Type 0) → (some : Type 0) → (takes : Problem → Type 0) → Command
of_words says some takes =
    record {
      reports = λ words bytes. says;
      takes = takes;
      may_lack = λ taken. (taken ≡ []) × some;
      may_miss = λ words taken files. NeverMisses;
      text = ⊥;
      no_shelf = Unit {0};
      no_text = Unit {0};
    }
