-- Texts with a blank in them, and texts without one. Crates above cite these lemmas.
use Rattle.std.proofs.Common.{◌≡◌, ◌≢◌, ℕ, List, [], ◌∷◌, ◌++◌, refl}
use Rattle.std.proofs.lemmas.List.Elements.{All-head, All-tail}
use Rattle.text_fields.specs.Blanks.{HasNoBlank}

pub head_no_blank : (x : ℕ) (a : List ℕ) → HasNoBlank (x ∷ a) → x ≢ 32
head_no_blank x a h = All-head (λ byte. byte ≢ 32) x a h

pub tail_no_blank : (x : ℕ) (a : List ℕ) → HasNoBlank (x ∷ a) → HasNoBlank a
tail_no_blank x a h = All-tail (λ byte. byte ≢ 32) x a h

-- a text has a blank where it is a front and a blank and more
pub no_blank_within : (a b : List ℕ) → HasNoBlank (a ++ 32 ∷ b) → ⊥
no_blank_within [] b h = head_no_blank 32 b h refl
no_blank_within (x ∷ a) b h = no_blank_within a b (tail_no_blank x (a ++ 32 ∷ b) h)

-- what stands before the first blank, and what after it, are determined
pub same_parts : (a b c d : List ℕ) → HasNoBlank a → HasNoBlank c → a ++ 32 ∷ b ≡ c ++ 32 ∷ d → (a ≡ c) × (b ≡ d)
same_parts [] b [] d ha hc h = (refl, cc)
same_parts [] b (y ∷ c) d ha hc h = absurd (head_no_blank y c hc cc)
same_parts (x ∷ a) b [] d ha hc h = absurd (head_no_blank x a ha cc)
same_parts (x ∷ a) b (y ∷ c) d ha hc h =
    let first : x ≡ y = cc in
    let rest : a ++ 32 ∷ b ≡ c ++ 32 ∷ d = cc in
    let parts = same_parts a b c d (tail_no_blank x a ha) (tail_no_blank y c hc) rest in
    (let same = parts.0 in cc, parts.1)
