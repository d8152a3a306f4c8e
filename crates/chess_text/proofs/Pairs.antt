-- Texts of two fields. Crates above cite these lemmas.
use Rattle.std.proofs.Common.{◌≡◌, ℕ, List, ◌∷◌, ◌++◌, sym, ◌∙◌, subst}
use Rattle.text_fields.specs.Blanks.{HasNoBlank}
use Rattle.text_fields.proofs.Blanks.{no_blank_within, same_parts}
use Rattle.chess_text.specs.Fields.{HasTwoFields, IsField}

pub no_two_fields : (text : List ℕ) → HasNoBlank text → HasTwoFields text → ⊥
no_two_fields text h t = no_blank_within t.first t.second (subst HasNoBlank t.joined h)

-- where two fields are split at the first blank, both parts are fields
pub fields_are : (text a b : List ℕ) → text ≡ a ++ 32 ∷ b → HasNoBlank a → HasTwoFields text → IsField a × IsField b
fields_are text a b e h t =
    let parts = same_parts a b t.first t.second h t.is_first.no_blank (sym e ∙ t.joined) in
    (subst IsField (sym parts.0) t.is_first, subst IsField (sym parts.1) t.is_second)
