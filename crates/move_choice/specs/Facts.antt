-- The facts that a man moves, and that the sets meet their conditions, are propositions. So fields of a struct can hold
-- them.
use Rattle.std.specs.Prelude.{◌≡◌, ℕ, Option, Some, length, unwrap_or}
use Rattle.std.specs.Coded.{Coded, Coded-set, coded_bool, coded_option, coded_ℕ, ×_prop, →_prop, Π_prop, Σ_prop}
use mathlib.Core.HLevel.{¬_prop, Σ_prop_path}
use mathlib.Core.Path.{ap, sym, ◌∙◌}
use Rattle.auto_core.specs.Automaton.{Automaton}
use Rattle.auto_core.specs.Integers.{DecidesIntegers}
use Rattle.game_rules.specs.Game.{Position, StandsOn, man_at, square_of}
use Rattle.game_rules.specs.Rays.{ray_of}
use Rattle.game_rules.specs.declared.men.Man.{Man}
use Rattle.game_rules.specs.declared.men.Ray.{Ray}
use Rattle.game_rules.specs.declared.men.Square.{Square}
use Rattle.game_rules.specs.contracts.men.Man as man
use Rattle.game_rules.specs.contracts.men.Ray as ray
use Rattle.game_rules.specs.contracts.men.Side as side
use Rattle.game_rules.specs.contracts.men.Square as square
use Rattle.mask_sets.specs.Sets.{IsSetFor, Table}
use Rattle.mask_sets.specs.Tuple.{tuple_of}
use Rattle.move_choice.specs.Aims.{AreNext, IsMover}

-- an option contains at most one value
only_one : {A : Type 0} → Coded A → (o : Option A) → IsProp ((x : A) × (o ≡ Some x))
only_one code o u v = Σ_prop_path (λ x. Coded-set (coded_option code) o (Some x)) (ap (λ w. unwrap_or w u.0) (sym u.1 ∙ v.1))

module _ (p : Position) (i n : ℕ) (r : Ray) where
  -- the man and his square, each with its property
  abbrev MoverParts : Type 0
  MoverParts =
      (m : (him : Man) × (man_at p i ≡ Some him))
      × ((m.0.side ≡ p.turn) × (((square : Square) × StandsOn m.0 square) × (ray_of m.0.kind m.0.side n ≡ Some r)))

  MoverParts-prop : IsProp MoverParts
  MoverParts-prop =
      Σ_prop (only_one man.the_row.coded (man_at p i))
      (λ m. ×_prop (Coded-set side.the_row.coded m.0.side p.turn)
      (×_prop (only_one square.the_row.coded (square_of m.0))
      (Coded-set (coded_option ray.the_row.coded) (ray_of m.0.kind m.0.side n) (Some r))))

  abbrev mover_of : MoverParts → IsMover p i n r
  mover_of h = record { man = h.0.0; is_man = h.0.1; turn = h.1.0; square = h.1.1.0.0; stands = h.1.1.0.1; is_ray = h.1.1.1 }

  pub IsMover-prop : IsProp (IsMover p i n r)
  IsMover-prop h g =
      ap mover_of
      (MoverParts-prop ((h.man, h.is_man), (h.turn, ((h.square, h.stands), h.is_ray)))
      ((g.man, g.is_man), (g.turn, ((g.square, g.stands), g.is_ray))))

DecidesIntegers-prop : (a : Automaton) → IsProp (DecidesIntegers a)
DecidesIntegers-prop a h g = λ i. record {
  stable = Π_prop (λ word. →_prop (×_prop (→_prop (Coded-set coded_bool _ _)) (→_prop (Coded-set coded_bool _ _)))) h.stable g.stable i;
}

IsSetFor-prop : (q : Position) (a : Automaton) → IsProp (IsSetFor q a)
IsSetFor-prop q a h g = λ i. record {
  integers = DecidesIntegers-prop a h.integers g.integers i;
  count = Coded-set coded_ℕ (length (tuple_of q)) (length a.tracks) h.count g.count i;
}

pub AreNext-prop : (p : Position) (sets : Table) → IsProp (AreNext p sets)
AreNext-prop p sets h g = λ i. record {
  askable = Π_prop (λ q. →_prop (Π_prop (λ a. →_prop (IsSetFor-prop q a)))) h.askable g.askable i;
  legal = Π_prop (λ k. Π_prop (λ z. Π_prop (λ q. →_prop (→_prop ¬_prop)))) h.legal g.legal i;
}
