-- The fields of a line.
use Rattle.std.specs.Prelude.{◌≡◌, ◌≢◌, ℕ, List, [], ◌∷◌, ◌++◌, map}
use Rattle.std.specs.Borrow.{Bor}
use Rattle.std.specs.List.{All}
use Rattle.text_fields.specs.Blanks.{HasNoBlank}

-- fields separated by one blank each
abbrev pub parted : List (List ℕ) → List ℕ
parted [] = []
parted (field ∷ []) = field
parted (field ∷ next ∷ fields) = field ++ 32 ∷ parted (next ∷ fields)

-- These are the fields of the line, at least one. Between two adjacent blanks is an empty field.
pub record AreFields (line : List ℕ) (fields : List (List ℕ)) : Type 0 where
  pub some : fields ≢ []
  pub no_blank : All HasNoBlank fields
  pub is : line ≡ parted fields

-- the borrowed texts
abbrev pub texts : List (Bor (List ℕ)) → List (List ℕ)
texts fields = map (λ field. field.now) fields

-- the fields of the line are appended
pub record AddsFields (line : List ℕ) (old new : List (List ℕ)) : Type 0 where
  pub added : List (List ℕ)
  pub are_fields : AreFields line added
  pub after : new ≡ old ++ added
