-- Men who stand near enough, place by place.
use Rattle.std.proofs.Common.{◌≡◌, ℕ, zero, suc, ◌<◌, List, length, get_or, Some, refl, subst}
use Rattle.std.specs.List.{All}
use Rattle.std.proofs.lemmas.Option.{get_or_from_slice_get, slice_get-get_or, slice_get_within}
use Rattle.game_rules.specs.declared.men.Man.{Man}
use Rattle.game_rules.specs.declared.men.Place.{Place}
use Rattle.game_rules.specs.declared.men.Place.TheVariants.{Gone, At}
use Rattle.game_rules.specs.declared.men.Square.{Square}
use Rattle.game_rules.specs.Game.{place_square}
use Rattle.line_formula.specs.Small.{AreNear, IsNearSquare}
use Rattle.line_formula.proofs.GapLemmas.{near_square}
use Rattle.line_engine.specs.Crowds.{IsNearPlace}

pub near_at : (men : List Man) (i : ℕ) (d : Man) → AreNear men → i < length men → IsNearPlace (get_or men i d).place
near_at men i d near within = by (get_or men i d).place refl
  where
    by : (place : Place) → (get_or men i d).place ≡ place → IsNearPlace place
    by Gone is = tt
    by (At x y) is = near_square men (suc i) (get_or men i d) x y near (slice_get-get_or men i d within) is

near_place : (place : Place) (z : Square) → IsNearPlace place → place_square place ≡ Some z → IsNearSquare z
near_place Gone z near is = absurd (cc)
near_place (At x y) z near is = let same : record { x = x; y = y } ≡ z = cc in subst IsNearSquare same near

pub are_near : (men : List Man) → All (λ m. IsNearPlace m.place) men → AreNear men
are_near men near zero m z at stands = absurd (cc)
are_near men near (suc i) m z at stands =
    let same : get_or men i m ≡ m = get_or_from_slice_get men i m m at in
    let here : IsNearPlace m.place = subst (λ (a : Man). IsNearPlace a.place) same (near i m (slice_get_within men i m at)) in
    near_place m.place z here stands
