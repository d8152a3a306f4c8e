-- Typed formulas, their spelling and their meaning.
use Rattle.std.specs.Prelude.{ℕ, ◌<◌, List, [], ◌∷◌, ◌++◌, length, ℤ, pos}
use Rattle.std.specs.List.{All}
use Rattle.std.specs.Fmt.{signed_decimal}
use Rattle.track_word.specs.declared.tracks.Var.{Var}
use Rattle.track_word.specs.declared.atoms.Rel.{Rel}
use Rattle.track_word.specs.Atom.{IsAtom}
use Rattle.lin_formula.specs.Tree as tree
use Rattle.lin_formula.specs.Tree.{Tree}
use Rattle.lin_formula.specs.Free.{IsOneOf}
use Rattle.arith_desk.specs.declared.words.BinaryOp.{BinaryOp}
use Rattle.arith_desk.specs.declared.words.BinaryOp.TheVariants.{And, Or}
use Rattle.arith_desk.specs.declared.words.Quantifier.{Quantifier}
use Rattle.arith_desk.specs.declared.words.Quantifier.TheVariants as quantifiers
use Rattle.arith_desk.specs.declared.words.Word.TheVariants as words
use Rattle.arith_desk.specs.Words.{word_text, letter}

-- a comparison of a sum of terms with a bound, and combinations of formulas
pub data Typed : Type 0 where
  Compared : Rel → List (ℤ × Var) → ℤ → Typed
  Denied : Typed → Typed
  Joined : BinaryOp → Typed → Typed → Typed
  Bound : Quantifier → Var → Typed → Typed

-- the fields of terms: a coefficient and a letter each
abbrev pub term_fields : List (ℤ × Var) → List (List ℕ)
term_fields [] = []
term_fields (t ∷ terms) = signed_decimal t.0 ∷ letter t.1 ∷ term_fields terms

-- the fields of a formula
abbrev pub spelled : Typed → List (List ℕ)
spelled (Compared rel terms bound) =
    word_text (words.Compare rel) ∷ signed_decimal (pos (length terms))
    ∷ (term_fields terms ++ signed_decimal bound ∷ [])
spelled (Denied f) = word_text words.Not ∷ spelled f
spelled (Joined connective f g) = word_text (words.Join connective) ∷ (spelled f ++ spelled g)
spelled (Bound quantifier x f) = word_text (words.Bind quantifier) ∷ letter x ∷ spelled f

abbrev pub join : BinaryOp → Tree → Tree → Tree
join And f g = tree.And f g
join Or f g = tree.Or f g

-- existential or universal quantification
abbrev pub bind : Quantifier → Var → Tree → Tree
bind quantifiers.Ex x f = tree.Ex x f
bind quantifiers.All x f = tree.Not (tree.Ex x (tree.Not f))

abbrev pub meaning : Typed → Tree
meaning (Compared rel terms bound) = tree.Lin terms rel bound
meaning (Denied f) = tree.Not (meaning f)
meaning (Joined connective f g) = join connective (meaning f) (meaning g)
meaning (Bound quantifier x f) = bind quantifier x (meaning f)

-- Within quantifiers of these letters: each further quantifier has a letter that no enclosing one has, and each letter of a
-- comparison is that of an enclosing quantifier.
abbrev pub IsProper : List Var → Typed → Type 0
IsProper scope (Compared rel terms bound) = IsAtom terms bound × All (λ t. IsOneOf t.1 scope) terms
IsProper scope (Denied f) = IsProper scope f
IsProper scope (Joined connective f g) = IsProper scope f × IsProper scope g
IsProper scope (Bound quantifier x f) = (x.0 < 16) × (¬ IsOneOf x scope) × IsProper (x ∷ scope) f
