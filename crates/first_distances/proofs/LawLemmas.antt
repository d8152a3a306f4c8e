-- A ray has one set of distances, and one end of its formula within a budget.
use Rattle.std.proofs.Common.{◌≡◌, ℕ, ◌+◌, pos, List, [], ◌∷◌, Option, Some, None, inl, inr, refl, sym, ap, subst, ◌∙◌}
use Rattle.lin_formula.specs.Holds.{Sets}
use Rattle.lin_formula.specs.Tree.{Tree, steps}
use Rattle.formula_auto.specs.Step.{FirstOver}
use Rattle.formula_auto.specs.declared.errors.CompileError.TheVariants.{Over, Memory}
use Rattle.winner_session.specs.Firsts.{Firsts}
use Rattle.first_distances.specs.FirstSet.{kept_after}
use Rattle.first_distances.specs.Laws.{HasFirsts, NoErrorWithin, OneFirstSet, OneRayError}
use Rattle.first_distances.specs.RayFormula.{ray_formula}

pub one_over : (fs : List Tree) (e : Sets) (budget from : ℕ) (a b : Option ℕ) → FirstOver fs e budget from a → FirstOver fs e budget from b → a ≡ b
one_over [] e budget from a b h k = h ∙ sym k
one_over (f ∷ fs) e budget from a b (inl (over, is)) (inl (also, at)) = is ∙ sym at
one_over (f ∷ fs) e budget from a b (inl (over, is)) (inr (within, rest)) = absurd (within over)
one_over (f ∷ fs) e budget from a b (inr (within, rest)) (inl (over, is)) = absurd (within over)
one_over (f ∷ fs) e budget from a b (inr (within, rest)) (inr (also, more)) = one_over fs e budget (from + 1) a b rest more

pub has_firsts : HasFirsts
has_firsts winner n p man ray a is t = (
  λ h.
      let d = (is.firsts (pos t ∷ [])).0 h in
      let tuple : pos t ∷ [] ≡ pos d.distance ∷ [] = d.is_tuple in
      let same : t ≡ d.distance = cc in
      subst (Firsts winner n p man ray) (sym same) d.has,
  λ h. (is.firsts (pos t ∷ [])).1 (record { distance = t; is_tuple = refl; has = h }),
)

pub one_first_set : OneFirstSet
one_first_set winner n p man ray a b is also tuple = (
  λ h. (also.firsts tuple).1 ((is.firsts tuple).0 h),
  λ h. (is.firsts tuple).1 ((also.firsts tuple).0 h),
)

pub no_error_within : NoErrorWithin
no_error_within winner n p man ray budget (Over step) within h =
    let no : None ≡ Some step = one_over (steps (ray_formula p man ray)) (kept_after winner n p) budget 1 None (Some step) within h in absurd (cc)
no_error_within winner n p man ray budget Memory within h = refl

pub one_ray_error : OneRayError
one_ray_error winner n p man ray budget (Over step) (Over next) a b h k =
    let same : Some step ≡ Some next = one_over (steps (ray_formula p man ray)) (kept_after winner n p) budget 1 (Some step) (Some next) h k in
    let steps_same : step ≡ next = cc in ap (λ n. Over n) steps_same
one_ray_error winner n p man ray budget Memory other a b h k = absurd (a refl)
one_ray_error winner n p man ray budget (Over step) Memory a b h k = absurd (b refl)
