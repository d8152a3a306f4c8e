-- Linear atoms: a sum of terms, each a coefficient times a variable, compared with a bound.
use Rattle.std.specs.Prelude.{◌≡◌, ◌≢◌, ℕ, ◌<◌, ◌≤◌, List, [], ◌∷◌, length, All, ℤ, pos, negsuc, ◌+ℤ◌, ◌*ℤ◌, ◌≤ℤ◌}
use Rattle.track_word.specs.declared.tracks.Var.{Var}
use Rattle.track_word.specs.declared.atoms.Rel.{Rel}
use Rattle.track_word.specs.declared.atoms.Rel.TheVariants.{Le, Eq}
use Rattle.track_word.specs.Tracks.{Values, with_vars, word_values}

-- the sum of coefficient times value over the terms
abbrev pub sum_of : List (ℤ × Var) → Values → ℤ
sum_of [] v = pos 0
sum_of (t ∷ terms) v = (t.0 *ℤ v t.1.0) +ℤ sum_of terms v

abbrev pub Compares : Rel → ℤ → ℤ → Type 0
Compares Le sum bound = sum ≤ℤ bound
Compares Eq sum bound = sum ≡ bound

-- no variable occurs in two terms
abbrev pub IsDistinct : List (ℤ × Var) → Type 0
IsDistinct [] = Unit {0}
IsDistinct (t ∷ terms) = All (λ u. u.1 ≢ t.1) terms × IsDistinct terms

abbrev pub IsCoefficient : ℤ × Var → Type 0
IsCoefficient t = (t.0 ≢ pos 0) × (negsuc 63 ≤ℤ t.0) × (t.0 ≤ℤ pos 64)

abbrev pub IsCount : List (ℤ × Var) → Type 0
IsCount terms = (0 < length terms) × (length terms ≤ 8) × IsDistinct terms

abbrev pub IsBound : ℤ → Type 0
IsBound bound = (negsuc 999 ≤ℤ bound) × (bound ≤ℤ pos 1000)

-- one to eight terms with different variables, coefficients from -64 to 64 but 0, and a bound from -1000 to 1000
abbrev pub IsAtom : List (ℤ × Var) → ℤ → Type 0
IsAtom terms bound = IsCount terms × All IsCoefficient terms × IsBound bound

abbrev pub term_vars : List (ℤ × Var) → List Var
term_vars [] = []
term_vars (t ∷ terms) = t.1 ∷ term_vars terms

-- the variables of the terms in ascending order
abbrev pub atom_tracks : List (ℤ × Var) → List Var
atom_tracks terms = with_vars (term_vars terms) []

-- the sum at the values that the word spells on the atom's tracks compares with the bound
abbrev pub AtomHolds : List (ℤ × Var) → Rel → ℤ → List ℕ → Type 0
AtomHolds terms rel bound word = Compares rel (sum_of terms (word_values (atom_tracks terms) word)) bound

-- a word over this one variable spells the value
abbrev pub ValueHolds : Var → ℤ → List ℕ → Type 0
ValueHolds var n word = word_values (var ∷ []) word var.0 ≡ n
