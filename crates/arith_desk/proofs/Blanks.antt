-- The fields of a line are determined.
use Rattle.std.proofs.Common.{◌≡◌, ◌≢◌, ℕ, List, [], ◌∷◌, refl, sym, ap, ◌∙◌, subst}
use Rattle.std.specs.List.{All}
use Rattle.std.proofs.lemmas.List.Elements.{All-head, All-tail}
use Rattle.text_fields.specs.Blanks.{HasNoBlank}
use Rattle.text_fields.proofs.Blanks.{no_blank_within, same_parts}
use Rattle.arith_desk.specs.Line.{AreFields, parted}

parted_same : (fs gs : List (List ℕ)) → fs ≢ [] → gs ≢ [] → All HasNoBlank fs → All HasNoBlank gs → parted fs ≡ parted gs → fs ≡ gs
parted_same [] gs some_f some_g hf hg e = absurd (some_f refl)
parted_same (f ∷ fs) [] some_f some_g hf hg e = absurd (some_g refl)
parted_same (f ∷ []) (g ∷ []) some_f some_g hf hg e = ap (λ t. t ∷ []) e
parted_same (f ∷ []) (g ∷ h ∷ gs) some_f some_g hf hg e =
    absurd (no_blank_within g (parted (h ∷ gs)) (subst HasNoBlank e (All-head HasNoBlank f [] hf)))
parted_same (f ∷ h ∷ fs) (g ∷ []) some_f some_g hf hg e =
    absurd (no_blank_within f (parted (h ∷ fs)) (subst HasNoBlank (sym e) (All-head HasNoBlank g [] hg)))
parted_same (f ∷ h ∷ fs) (g ∷ k ∷ gs) some_f some_g hf hg e =
    let parts = same_parts f (parted (h ∷ fs)) g (parted (k ∷ gs)) (All-head HasNoBlank f (h ∷ fs) hf) (All-head HasNoBlank g (k ∷ gs) hg) e in
    let rest = parted_same (h ∷ fs) (k ∷ gs) (λ n. cc) (λ n. cc) (All-tail HasNoBlank f (h ∷ fs) hf) (All-tail HasNoBlank g (k ∷ gs) hg) parts.1 in
    ap (λ t. t ∷ h ∷ fs) parts.0 ∙ ap (λ l. g ∷ l) rest

pub same_fields : {line : List ℕ} {fs gs : List (List ℕ)} → AreFields line fs → AreFields line gs → fs ≡ gs
same_fields {fs} {gs} a b = parted_same fs gs a.some b.some a.no_blank b.no_blank (sym a.is ∙ b.is)
