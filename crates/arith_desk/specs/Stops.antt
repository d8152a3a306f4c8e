-- The first field that is not allowed at its position. It is given by the number of fields from it on, including it, or 0 if fields
-- are missing.
use Rattle.std.specs.Prelude.{◌≡◌, ◌≢◌, ◌⊎◌, ℕ, zero, suc, ◌<◌, List, [], ◌∷◌, ◌++◌, length, ℤ, pos, negsuc, ◌≤ℤ◌}
use Rattle.std.specs.List.{All}
use Rattle.std.specs.Fmt.{signed_decimal}
use Rattle.track_word.specs.declared.tracks.Var.{Var}
use Rattle.track_word.specs.declared.atoms.Rel.{Rel}
use Rattle.lin_formula.specs.Free.{IsOneOf}
use Rattle.arith_desk.specs.declared.words.BinaryOp.{BinaryOp}
use Rattle.arith_desk.specs.declared.words.Quantifier.{Quantifier}
use Rattle.arith_desk.specs.declared.words.Word.{Word}
use Rattle.arith_desk.specs.declared.words.Word.TheVariants.{Not, Join, Bind, Compare}
use Rattle.arith_desk.specs.declared.errors.Stop.{Stop}
use Rattle.arith_desk.specs.declared.errors.Stop.TheVariants.{Left, Memory}
use Rattle.arith_desk.specs.Words.{IsFactor, letter, word_text}
use Rattle.arith_desk.specs.Typed.{Typed, IsProper, spelled}

-- the first field is missing, or does not have the property
abbrev pub Fails : (List ℕ → Type 0) → List (List ℕ) → ℕ → Type 0
Fails Is [] left = left ≡ 0
Fails Is (field ∷ rest) left = (¬ Is field) × (left ≡ length (field ∷ rest))

abbrev pub IsWord : List ℕ → Type 0
IsWord field = (word : Word) × (field ≡ word_text word)

abbrev pub IsNumberBetween : ℤ → ℤ → List ℕ → Type 0
IsNumberBetween low high field = (n : ℤ) × (low ≤ℤ n) × (n ≤ℤ high) × (field ≡ signed_decimal n)

abbrev pub IsFactorField : List ℕ → Type 0
IsFactorField field = (a : ℤ) × IsFactor a × (field ≡ signed_decimal a)

-- a letter of no enclosing quantifier
abbrev pub IsFreshLetter : List Var → List ℕ → Type 0
IsFreshLetter scope field = (x : Var) × (x.0 < 16) × (¬ IsOneOf x scope) × (field ≡ letter x)

-- a letter of an enclosing quantifier, and of no earlier term
abbrev pub IsKnownLetter : List Var → List (ℤ × Var) → List ℕ → Type 0
IsKnownLetter scope terms field =
    (x : Var) × (x.0 < 16) × IsOneOf x scope × All (λ t. t.1 ≢ x) terms × (field ≡ letter x)

-- in this many more terms after some terms, or in the bound after them
abbrev pub StopsTerms : List Var → List (ℤ × Var) → ℕ → List (List ℕ) → ℕ → Type 0
StopsTerms scope terms zero fields left = Fails (IsNumberBetween (negsuc 999) (pos 1000)) fields left
StopsTerms scope terms (suc due) fields left =
    Fails IsFactorField fields left
    ⊎ ((a : ℤ) × (rest : List (List ℕ)) × IsFactor a × (fields ≡ signed_decimal a ∷ rest)
    × Fails (IsKnownLetter scope terms) rest left)
    ⊎ ((a : ℤ) × (x : Var) × (rest : List (List ℕ)) × IsFactor a × IsOneOf x scope × All (λ t. t.1 ≢ x) terms
    × (fields ≡ signed_decimal a ∷ letter x ∷ rest) × StopsTerms scope (terms ++ (a, x) ∷ []) due rest left)

-- in the number of terms, in the terms or in the bound
abbrev pub StopsComparison : List Var → List (List ℕ) → ℕ → Type 0
StopsComparison scope fields left =
    Fails (IsNumberBetween (pos 1) (pos 8)) fields left
    ⊎ ((due : ℕ) × (rest : List (List ℕ)) × (0 < due) × (due < 9) × (fields ≡ signed_decimal (pos due) ∷ rest)
    × StopsTerms scope [] due rest left)

-- in a formula at the start of the fields, within quantifiers of these letters
pub data Stops : List Var → List (List ℕ) → ℕ → Type 0 where
  at_word : (scope : List Var) (fields : List (List ℕ)) (left : ℕ) → Fails IsWord fields left → Stops scope fields left
  behind_not : (scope : List Var) (fields rest : List (List ℕ)) (left : ℕ) → fields ≡ word_text Not ∷ rest
      → Stops scope rest left → Stops scope fields left
  in_first : (scope : List Var) (connective : BinaryOp) (fields rest : List (List ℕ)) (left : ℕ)
      → fields ≡ word_text (Join connective) ∷ rest
      → Stops scope rest left → Stops scope fields left
  in_second : (scope : List Var) (connective : BinaryOp) (first : Typed) (fields rest : List (List ℕ)) (left : ℕ)
      → IsProper scope first → fields ≡ word_text (Join connective) ∷ (spelled first ++ rest)
      → Stops scope rest left → Stops scope fields left
  at_letter : (scope : List Var) (quantifier : Quantifier) (fields rest : List (List ℕ)) (left : ℕ)
      → fields ≡ word_text (Bind quantifier) ∷ rest
      → Fails (IsFreshLetter scope) rest left → Stops scope fields left
  in_body : (scope : List Var) (quantifier : Quantifier) (x : Var) (fields rest : List (List ℕ)) (left : ℕ)
      → x.0 < 16 → ¬ IsOneOf x scope → fields ≡ word_text (Bind quantifier) ∷ letter x ∷ rest
      → Stops (x ∷ scope) rest left → Stops scope fields left
  in_comparison : (scope : List Var) (rel : Rel) (fields rest : List (List ℕ)) (left : ℕ)
      → fields ≡ word_text (Compare rel) ∷ rest → StopsComparison scope rest left → Stops scope fields left

-- in one of two formulas
abbrev pub StopsJoined : List Var → List (List ℕ) → ℕ → Type 0
StopsJoined scope fields left =
    Stops scope fields left
    ⊎ ((first : Typed) × (rest : List (List ℕ)) × IsProper scope first × (fields ≡ spelled first ++ rest)
    × Stops scope rest left)

-- in a letter or the body after it
abbrev pub StopsBound : List Var → List (List ℕ) → ℕ → Type 0
StopsBound scope fields left =
    Fails (IsFreshLetter scope) fields left
    ⊎ ((x : Var) × (rest : List (List ℕ)) × (x.0 < 16) × (¬ IsOneOf x scope) × (fields ≡ letter x ∷ rest)
    × Stops (x ∷ scope) rest left)

-- in the formula that all of the fields must be, or after it
abbrev pub StopsWhole : List (List ℕ) → ℕ → Type 0
StopsWhole fields left =
    Stops [] fields left
    ⊎ ((f : Typed) × (rest : List (List ℕ)) × IsProper [] f × (fields ≡ spelled f ++ rest) × (0 < left)
    × (left ≡ length rest))

-- this many fields were left
abbrev pub IsStop : (ℕ → Type 0) → Stop → Type 0
IsStop Is (Left left) = Is left
IsStop Is Memory = Unit {0}
