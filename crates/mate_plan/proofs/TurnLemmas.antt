-- How long a side waits for its turn; other crates may cite these lemmas.
use Rattle.std.proofs.Common.{◌≡◌, ℕ, zero, suc, ◌+◌, ◌*◌, refl, sym, ap, ◌∙◌, arith}
use Rattle.game_rules.specs.Game.{other}
use Rattle.game_rules.specs.declared.men.Side.{Side}
use Rattle.game_rules.specs.declared.men.Side.TheVariants.{White, Black}
use Rattle.game_laws.proofs.SoundLemmas.{other_other}
use Rattle.mate_plan.specs.Plan.{turn_at}
use Rattle.mate_plan.specs.Turns.{plies_before_turn}

-- one of the two sides waits, for one ply
pub waits_sum : (side first : Side) → plies_before_turn (other side) first + plies_before_turn side first ≡ 1
waits_sum White White = refl
waits_sum White Black = refl
waits_sum Black White = refl
waits_sum Black Black = refl

-- then it is its turn
pub waits_turn : (side first : Side) → turn_at first (plies_before_turn side first) ≡ side
waits_turn White White = refl
waits_turn White Black = refl
waits_turn Black White = refl
waits_turn Black Black = refl

pub waits_none : (side first : Side) → first ≡ side → plies_before_turn side first ≡ 0
waits_none White first is = cc
waits_none Black first is = cc

pub waits_one : (side first : Side) → first ≡ other side → plies_before_turn side first ≡ 1
waits_one White first is = cc
waits_one Black first is = cc

-- where it waits for none it moves first, and else the other side does
pub moves_first : (side first : Side) → plies_before_turn side first ≡ 0 → first ≡ side
moves_first White White none = refl
moves_first White Black none = absurd (omega (arith, none))
moves_first Black White none = absurd (omega (arith, none))
moves_first Black Black none = refl

pub moves_later : (side first : Side) (n : ℕ) → plies_before_turn side first ≡ suc n → first ≡ other side
moves_later White White n some = absurd (omega (arith, some))
moves_later White Black n some = refl
moves_later Black White n some = refl
moves_later Black Black n some = absurd (omega (arith, some))

-- from its first turn on it is to move at every second ply
pub its_plies : (side first : Side) (ply : ℕ) → turn_at first ply ≡ side → (k : ℕ) × (plies_before_turn side first + 2 * k ≡ ply)
its_plies side first zero is = let none = waits_none side first is in (0, omega (arith, none))
its_plies side first (suc ply) is =
    let there = its_plies (other side) first ply (sym (other_other (turn_at first ply)) ∙ ap other is) in
    let before = there.1 in
    let one = waits_sum side first in
    (there.0 + plies_before_turn (other side) first, omega (arith, before, one))
