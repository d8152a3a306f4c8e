-- Fronts of what a reader has.
use Rattle.std.proofs.Common.{◌≡◌, ℕ, ◌<◌, List, [], ◌++◌, length, take, Option, None, Some, IfSome, ◌∙◌, ap, arith, take_all}
use Rattle.std.specs.Option.{option_map}
use Rattle.std.proofs.lemmas.List.{length-take}

-- a front that is shorter than it may be is all
pub whole_front : (known : Option (List ℕ)) (most : ℕ) (old new : List ℕ) → old ≡ [] → length new < most →
    IfSome (option_map (take most) known) (λ front. new ≡ old ++ front) → IfSome known (λ all. new ≡ all)
whole_front None most old new none short is = tt
whole_front (Some all) most old new none short is =
    let front : new ≡ take most all = is ∙ ap (λ o. o ++ take most all) none in
    front ∙ take_all most all (omega (arith, short, ap length front, length-take most all))
