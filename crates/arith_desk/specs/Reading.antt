-- The results of parsing fields and lines.
use Rattle.std.specs.Prelude.{◌≡◌, ℕ, ◌+◌, List, [], ◌∷◌, ◌++◌, length, ℤ, pos, Result, IfOk}
use Rattle.std.specs.Borrow.{Bor}
use Rattle.std.specs.List.{All}
use Rattle.std.specs.Fmt.{signed_decimal}
use Rattle.track_word.specs.declared.tracks.Var.{Var}
use Rattle.track_word.specs.declared.atoms.Rel.{Rel}
use Rattle.track_word.specs.Atom.{IsAtom, IsBound, IsCoefficient, IsDistinct}
use Rattle.lin_formula.specs.Tree as tree
use Rattle.lin_formula.specs.Tree.{Tree}
use Rattle.lin_formula.specs.TreeOf.{tree_of}
use Rattle.lin_formula.specs.declared.formula.Formula.{Formula}
use Rattle.lin_formula.specs.Free.{IsOneOf}
use Rattle.arith_desk.specs.declared.words.BinaryOp.{BinaryOp}
use Rattle.arith_desk.specs.declared.words.Quantifier.{Quantifier}
use Rattle.arith_desk.specs.declared.errors.ArithError.{ArithError}
use Rattle.arith_desk.specs.declared.errors.ArithError.TheVariants.{Field, Memory}
use Rattle.arith_desk.specs.declared.errors.Stop.{Stop}
use Rattle.arith_desk.specs.Line.{AreFields, texts}
use Rattle.arith_desk.specs.Words.{letter}
use Rattle.arith_desk.specs.Typed.{Typed, IsProper, bind, join, meaning, spelled, term_fields}
use Rattle.arith_desk.specs.Stops.{StopsWhole}

-- the line is a formula with this meaning
pub record IsFormulaLine (line : List ℕ) (f : Tree) : Type 0 where
  pub typed : Typed
  pub line_is : AreFields line (spelled typed)
  pub proper : IsProper [] typed
  pub means : f ≡ meaning typed

-- the field with this number is the first of the line that is not allowed at its position
pub record IsFirstRefused (line : List ℕ) (number : ℕ) : Type 0 where
  pub fields : List (List ℕ)
  pub line_is : AreFields line fields
  pub left : ℕ
  pub stops : StopsWhole fields left
  pub counted : number + left ≡ length fields + 1

-- why the line is not parsed as a formula
abbrev pub IsRefusal : List ℕ → ArithError → Type 0
IsRefusal line (Field number) = IsFirstRefused line number
IsRefusal line Memory = Unit {0}

-- the remaining fields of a line
abbrev pub Rest : Type 0
Rest = Bor (List (Bor (List ℕ)))

-- if a formula is parsed, its meaning and the texts of the fields after it have the property
abbrev pub IfReadFormula : Result (Formula × Rest) Stop → (Tree → List (List ℕ) → Type 0) → Type 0
IfReadFormula result Of = IfOk result (λ read. Of (tree_of read.0) (texts read.1.now))

-- if a number is parsed, it and the texts of the fields after it have the property
abbrev pub IfReadNumber : Result (ℤ × Rest) Stop → (ℤ → List (List ℕ) → Type 0) → Type 0
IfReadNumber result Of = IfOk result (λ read. Of read.0 (texts read.1.now))

-- all of the fields are a formula with this meaning
pub record IsReadWhole (fields : List (List ℕ)) (f : Tree) : Type 0 where
  pub typed : Typed
  pub proper : IsProper [] typed
  pub fields_are : fields ≡ spelled typed
  pub means : f ≡ meaning typed

-- the fields start with a formula with this meaning, followed by the rest
pub record IsRead (scope : List Var) (fields : List (List ℕ)) (f : Tree) (rest : List (List ℕ)) : Type 0 where
  pub typed : Typed
  pub proper : IsProper scope typed
  pub fields_are : fields ≡ spelled typed ++ rest
  pub means : f ≡ meaning typed

-- the fields start with two formulas
pub record IsReadJoined (connective : BinaryOp) (scope : List Var) (fields : List (List ℕ)) (f : Tree)
    (rest : List (List ℕ)) : Type 0 where
  pub first : Typed
  pub second : Typed
  pub first_proper : IsProper scope first
  pub second_proper : IsProper scope second
  pub fields_are : fields ≡ spelled first ++ (spelled second ++ rest)
  pub means : f ≡ join connective (meaning first) (meaning second)

-- the fields start with a letter and a body
pub record IsReadBound (quantifier : Quantifier) (scope : List Var) (fields : List (List ℕ)) (f : Tree)
    (rest : List (List ℕ)) : Type 0 where
  pub var : Var
  pub body : Typed
  pub proper : IsProper scope (Typed.Bound quantifier var body)
  pub fields_are : fields ≡ letter var ∷ (spelled body ++ rest)
  pub means : f ≡ bind quantifier var (meaning body)

-- the fields start with the number of terms, the terms and the bound of a comparison
pub record IsReadComparison (rel : Rel) (scope : List Var) (fields : List (List ℕ)) (f : Tree)
    (rest : List (List ℕ)) : Type 0 where
  pub terms : List (ℤ × Var)
  pub bound : ℤ
  pub atom : IsAtom terms bound
  pub known : All (λ t. IsOneOf t.1 scope) terms
  pub fields_are :
      fields ≡ signed_decimal (pos (length terms)) ∷ ((term_fields terms ++ signed_decimal bound ∷ []) ++ rest)
  pub means : f ≡ tree.Lin terms rel bound

-- the fields start with this many more terms after some terms, followed by the bound
pub record IsReadTerms (scope : List Var) (old : List (ℤ × Var)) (due : ℕ) (fields : List (List ℕ))
    (new : List (ℤ × Var))
    (bound : ℤ) (rest : List (List ℕ)) : Type 0 where
  pub added : List (ℤ × Var)
  pub count : length added ≡ due
  pub after : new ≡ old ++ added
  pub coefficients : All IsCoefficient added
  pub known : All (λ t. IsOneOf t.1 scope) added
  pub distinct : IsDistinct old → IsDistinct new
  pub is_bound : IsBound bound
  pub fields_are : fields ≡ term_fields added ++ signed_decimal bound ∷ rest
