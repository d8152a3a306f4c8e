-- What was written of a fault line and of a text.
use Rattle.std.proofs.Common.{◌≡◌, ◌≢◌, ℕ, List, [], ◌++◌, length, Option, Some, None, IfSome, Result, Ok, Err, OnOk, OnErr, inl, inr, refl, sym, ◌∙◌, subst, arith}
use Rattle.std.specs.Io.KnownBytes.{Appends}
use Rattle.std.proofs.lemmas.List.{take_all, append-nil}
use Rattle.desk_base.specs.Faults.{HasRisen}
use Rattle.desk_base.specs.Files.{Files, Go}
use Rattle.desk_base.specs.Moves.{AppendsFront}
use Rattle.desk_report.specs.Outcome.{DoesReport, RunEndsAs, NeverMisses, Report, Seen, Writes, of_shelf, of_sink, of_streams, reported_on}
use Rattle.desk_report.specs.declared.status.Status.{Status}
use Rattle.desk_report.specs.declared.status.Status.TheVariants as is

-- after the fault line was handed to the sink
pub fault_line : {A E : Type 0} (r : Result A E) (line : List ℕ) (old new : Option (List ℕ)) (failed : Type 0) → OnOk r (Appends old new line)
    → OnErr r (AppendsFront old new line) → OnErr r failed → Writes [] line old new failed
fault_line (Ok a) line old new failed all err fails = record {
  count = length line;
  front = subst (Appends old new) (sym (take_all (length line) line (omega arith))) all;
  whole = inl (omega arith);
}
fault_line (Err e) line old new failed all err fails = record { count = err.count; front = err.front; whole = inr fails }

-- all of a text, and no fault line
pub text_written : (text : List ℕ) (old new : Option (List ℕ)) (failed : Type 0) → Appends old new text → Writes text [] old new failed
text_written text old new failed wrote = record {
  count = 0;
  front = subst (Appends old new) (sym (append-nil text)) wrote;
  whole = inl (omega arith);
}

-- what is reported may say less, memory may lack more often, and so may the shelf fail
pub ends_as : (status : Status) (reports more : Report → Type 0) (may_lack lacks_more : Type 0) (may_miss misses_more : Option (List ℕ) → Type 0) (old new : Seen)
    → ((report : Report) → reports report → more report) → (may_lack → lacks_more) → ((keeping : Option (List ℕ)) → may_miss keeping → misses_more keeping)
    → RunEndsAs status reports may_lack may_miss old new → RunEndsAs status more lacks_more misses_more old new
ends_as is.Done reports more may_lack lacks_more may_miss misses_more old new says lacks misses ends = (ends.0, says ends.0 ends.1, ends.2)
ends_as is.Usage reports more may_lack lacks_more may_miss misses_more old new says lacks misses ends = (ends.0, says ends.0 ends.1, ends.2)
ends_as is.Text reports more may_lack lacks_more may_miss misses_more old new says lacks misses ends = (ends.0, says ends.0 ends.1, ends.2)
ends_as is.Unsound reports more may_lack lacks_more may_miss misses_more old new says lacks misses ends = (ends.0, says ends.0 ends.1, ends.2)
ends_as is.ReadFault reports more may_lack lacks_more may_miss misses_more old new says lacks misses ends = (ends.0, says ends.0 ends.1, ends.2)
ends_as is.WriteFault reports more may_lack lacks_more may_miss misses_more old new says lacks misses ends = (ends.0, says ends.0 ends.1, ends.2)
ends_as is.Budget reports more may_lack lacks_more may_miss misses_more old new says lacks misses ends = (ends.0, says ends.0 ends.1, ends.2)
ends_as is.Wide reports more may_lack lacks_more may_miss misses_more old new says lacks misses ends = (ends.0, says ends.0 ends.1, ends.2)
ends_as is.File reports more may_lack lacks_more may_miss misses_more old new says lacks misses ends = (ends.0, says ends.0 ends.1, ends.2)
ends_as is.Ended reports more may_lack lacks_more may_miss misses_more old new says lacks misses ends = (ends.0, says ends.0 ends.1, ends.2)
ends_as is.TooMany reports more may_lack lacks_more may_miss misses_more old new says lacks misses ends = (ends.0, says ends.0 ends.1, ends.2)
ends_as is.Memory reports more may_lack lacks_more may_miss misses_more old new says lacks misses ends = (lacks ends.0, ends.1)
ends_as is.ShelfFault reports more may_lack lacks_more may_miss misses_more old new says lacks misses ends = (ends.0, misses ends.0 ends.1, ends.2)

-- what is printed is what is to be reported
pub printed : (status : Status) (reports : Report → Type 0) (may_lack : Type 0) (old new : Seen) (due : Report) → reports due
    → RunEndsAs status (λ report. report ≡ due) ⊥ NeverMisses old new → RunEndsAs status reports may_lack NeverMisses old new
printed status reports may_lack old new due right =
    ends_as status (λ report. report ≡ due) reports ⊥ may_lack NeverMisses NeverMisses old new (λ report is'. subst reports (sym is') right) (λ none. absurd none)
    (λ keeping never. never)

-- files that are the same are told so
pub unchanged : (before after : Option Files) → after ≡ before → Go before after (λ x y. y ≡ x)
unchanged before after is' = let P : Option Files → Type 0 = λ told. Go before told (λ x y. y ≡ x) in subst P (sym is') (still_there before)
  where
    still_there : (told : Option Files) → Go told told (λ x y. y ≡ x)
    still_there None = tt
    still_there (Some x) = refl

-- so they are what they were
pub go_same : (files : Files) (way : Files → Files → Type 0) (before after : Option Files) → Go before after (λ x y. y ≡ x)
    → IfSome before (λ told. told ≡ files) → way files files → Go before after way
go_same files way None after is' told holds = tt
go_same files way (Some x) (Some y) is' told holds =
    let P : Files → Type 0 = λ x. way x y in
    let Q : Files → Type 0 = λ y. way files y in
    subst P (sym told) (subst Q (sym (is' ∙ told)) holds)
go_same files way (Some x) None is' told holds = absurd is'

-- The files of a run stay, and its command sees them told. It begins when the source has failed so often.
module _ (files : Files) (old new : Seen) (kept : IfSome old.files (λ told. told ≡ files)) (same : Go old.files new.files (λ x y. y ≡ x)) where
  -- what the command sees, with these bytes to come
  abbrev told : Seen → Option (List ℕ) → ℕ → Seen
  told seen left reads = of_streams files left seen.written reads seen.write_faults

  module _ (left_old left_new : Option (List ℕ)) (reads later : ℕ) where
    does : {status : Status} {report : Report} → DoesReport status report (told old left_old reads) (told new left_new later) → DoesReport status report old new
    does {report} d =
        record { reported = d.reported; written = d.written; files = go_same files (λ before after. after ≡ report.files) old.files new.files same kept d.files }

    -- so the run ends as its command does
    pub at_files : (HasRisen reads later → HasRisen old.read_faults new.read_faults) → (status : Status) (reports : Report → Type 0) (may_lack : Type 0)
        → RunEndsAs status reports may_lack NeverMisses (told old left_old reads) (told new left_new later) → RunEndsAs status reports may_lack NeverMisses old new
    at_files rises is.Done reports may_lack ends = (ends.0, ends.1, does ends.2)
    at_files rises is.Usage reports may_lack ends = (ends.0, ends.1, does ends.2)
    at_files rises is.Text reports may_lack ends = (ends.0, ends.1, does ends.2)
    at_files rises is.Unsound reports may_lack ends = (ends.0, ends.1, does ends.2)
    at_files rises is.Budget reports may_lack ends = (ends.0, ends.1, does ends.2)
    at_files rises is.Wide reports may_lack ends = (ends.0, ends.1, does ends.2)
    at_files rises is.Ended reports may_lack ends = (ends.0, ends.1, does ends.2)
    at_files rises is.TooMany reports may_lack ends = (ends.0, ends.1, does ends.2)
    at_files rises is.File reports may_lack ends = (ends.0, ends.1, does ends.2)
    at_files rises is.ReadFault reports may_lack ends =
        let some = ends.2 in (
          ends.0,
          ends.1,
          record { failed = rises some.failed; short = some.short; written = some.written; files = go_same files (λ before after. after ≡ before) old.files new.files same kept refl },
        )
    at_files rises is.WriteFault reports may_lack ends =
        let some = ends.2 in (
          ends.0,
          ends.1,
          record { failed = some.failed; written = some.written; files = go_same files (λ before after. after ≡ ends.0.files) old.files new.files same kept some.files },
        )
    at_files rises is.ShelfFault reports may_lack ends = absurd ends.1
    at_files rises is.Memory reports may_lack ends =
        (ends.0, record { written = ends.1.written; files = go_same files (λ before after. after ≡ before) old.files new.files same kept refl })

  -- and as one that has the sink alone, whose source does not fail
  pub at_sink : (status : Status) (reports : Report → Type 0) (may_lack : Type 0)
      → RunEndsAs status reports may_lack NeverMisses (of_sink files old.written old.write_faults) (of_sink files new.written new.write_faults)
      → RunEndsAs status reports may_lack NeverMisses old new
  at_sink status reports may_lack ends = at_files None None 0 0 (λ risen. absurd (omega (arith, risen))) status reports may_lack ends

shelf_does : {status : Status} {report : Report} (old new : Seen)
    → DoesReport status report (of_shelf old.written old.files old.write_faults old.shelf_faults)
    (of_shelf new.written new.files new.write_faults new.shelf_faults)
    → DoesReport status report old new
shelf_does old new d = record { reported = d.reported; written = d.written; files = d.files }

-- a command that has no source does not fail to read
pub no_read_fault : (status : Status) (reports : Report → Type 0) (may_lack : Type 0) (may_miss : Option (List ℕ) → Type 0) (old new : Seen)
    → old.read_faults ≡ 0 → new.read_faults ≡ 0 → RunEndsAs status reports may_lack may_miss old new → status ≢ is.ReadFault
no_read_fault status reports may_lack may_miss old new before after ends same =
    let P : Status → Type 0 = λ s. RunEndsAs s reports may_lack may_miss old new in
    let failed = (subst P same ends).2.failed in
    absurd (omega (arith, failed, before, after))

-- and it ends as it does whatever the source tells
pub with_source : (status : Status) (reports : Report → Type 0) (may_lack : Type 0) (may_miss : Option (List ℕ) → Type 0) (old new : Seen)
    → RunEndsAs status reports may_lack may_miss (of_shelf old.written old.files old.write_faults old.shelf_faults) (of_shelf new.written new.files new.write_faults new.shelf_faults)
    → RunEndsAs status reports may_lack may_miss old new
with_source is.Done reports may_lack may_miss old new ends = (ends.0, ends.1, shelf_does old new ends.2)
with_source is.Usage reports may_lack may_miss old new ends = (ends.0, ends.1, shelf_does old new ends.2)
with_source is.Text reports may_lack may_miss old new ends = (ends.0, ends.1, shelf_does old new ends.2)
with_source is.Unsound reports may_lack may_miss old new ends = (ends.0, ends.1, shelf_does old new ends.2)
with_source is.Budget reports may_lack may_miss old new ends = (ends.0, ends.1, shelf_does old new ends.2)
with_source is.Wide reports may_lack may_miss old new ends = (ends.0, ends.1, shelf_does old new ends.2)
with_source is.File reports may_lack may_miss old new ends = (ends.0, ends.1, shelf_does old new ends.2)
with_source is.Ended reports may_lack may_miss old new ends = (ends.0, ends.1, shelf_does old new ends.2)
with_source is.TooMany reports may_lack may_miss old new ends = (ends.0, ends.1, shelf_does old new ends.2)
with_source is.ReadFault reports may_lack may_miss old new ends = absurd (omega (arith, ends.2.failed))
with_source is.WriteFault reports may_lack may_miss old new ends =
    let some = ends.2 in (ends.0, ends.1, record { failed = some.failed; written = some.written; files = some.files })
with_source is.ShelfFault reports may_lack may_miss old new (None, misses, miss) =
    (None, misses, record { failed = miss.failed; written = miss.written; files = miss.files })
with_source is.ShelfFault reports may_lack may_miss old new (Some name, misses, miss) =
    (Some name, misses, record { failed = miss.failed; written = miss.written; files = miss.files })
with_source is.Memory reports may_lack may_miss old new ends = (ends.0, record { written = ends.1.written; files = ends.1.files })

-- where the source has not failed, the report is on all bytes
pub on_all : (status : Status) (taken rest : List ℕ) → status ≢ is.ReadFault → reported_on status taken rest ≡ taken ++ rest
on_all is.ReadFault taken rest not = absurd (not refl)
on_all is.Usage taken rest not = refl
on_all is.Done taken rest not = refl
on_all is.Text taken rest not = refl
on_all is.Unsound taken rest not = refl
on_all is.WriteFault taken rest not = refl
on_all is.ShelfFault taken rest not = refl
on_all is.Budget taken rest not = refl
on_all is.Wide taken rest not = refl
on_all is.Memory taken rest not = refl
on_all is.File taken rest not = refl
on_all is.Ended taken rest not = refl
on_all is.TooMany taken rest not = refl
