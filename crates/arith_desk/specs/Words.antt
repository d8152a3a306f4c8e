-- The tokens of fields.
use Rattle.std.specs.Prelude.{◌≡◌, ◌≢◌, ℕ, ◌+◌, List, [], ◌∷◌, ℤ, pos, negsuc, ◌≤ℤ◌, Option, Some, None, codes}
use Rattle.track_word.specs.declared.tracks.Var.{Var}
use Rattle.track_word.specs.declared.atoms.Rel.TheVariants.{Le, Eq}
use Rattle.arith_desk.specs.declared.words.BinaryOp.TheVariants.{And, Or}
use Rattle.arith_desk.specs.declared.words.Quantifier.TheVariants as quantifiers
use Rattle.arith_desk.specs.declared.words.Word.{Word}
use Rattle.arith_desk.specs.declared.words.Word.TheVariants.{Not, Join, Bind, Compare}

abbrev pub word_text : Word → List ℕ
word_text Not = codes "not"
word_text (Join And) = codes "and"
word_text (Join Or) = codes "or"
word_text (Bind quantifiers.Ex) = codes "ex"
word_text (Bind quantifiers.All) = codes "all"
word_text (Compare Le) = codes "le"
word_text (Compare Eq) = codes "eq"

-- the keyword that the field is, or none
abbrev pub IsNamed : List ℕ → Option Word → Type 0
IsNamed field (Some word) = field ≡ word_text word
IsNamed field None = (word : Word) → field ≢ word_text word

-- the letter of a variable: a for the first
abbrev pub letter : Var → List ℕ
letter x = (97 + x.0) ∷ []

-- a coefficient: from -64 to 64 but 0
abbrev pub IsFactor : ℤ → Type 0
IsFactor a = (a ≢ pos 0) × (negsuc 63 ≤ℤ a) × (a ≤ℤ pos 64)
