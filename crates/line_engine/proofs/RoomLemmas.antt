-- How many steps there are by all options together.
use Rattle.std.proofs.Common.{◌≡◌, ℕ, suc, ◌+◌, ◌*◌, ◌^◌, ◌≤◌, Bool, true, false, Ok, Err, ap, ◌∙◌, arith}
use Rattle.std.specs.Prelude.{IfOk, Result, if◌then◌else◌}
use Rattle.game_rules.specs.declared.men.Side.{Side}
use Rattle.rule_formula.specs.Options.{is_side}
use Rattle.line_plan.specs.Plan.{plies}
use Rattle.std.proofs.Math.Nat.{mul-le-mul_right}
use Rattle.std.proofs.Math.Pow.{pow_mono}
use Rattle.std.proofs.lemmas.Nat.{pow-add}
use Rattle.line_engine.specs.Answers.{most_of_option, most_steps}

next_power : (left : ℕ) → 2 ^ (16 * suc left + 22) ≡ 65536 * 2 ^ (16 * left + 22)
next_power left =
    ap (λ n. 2 ^ n) (let same : 16 * suc left + 22 ≡ 16 + (16 * left + 22) = omega arith in same) ∙ pow-add 2 16 (16 * left + 22)

some_power : (left : ℕ) → 4194304 ≤ 2 ^ (16 * left + 22)
some_power left = pow_mono (let less : 22 ≤ 16 * left + 22 = omega arith in less)

-- the steps of this number of options, and some more, are few enough
pub all_few : (left done : ℕ) → done ≤ 2 ^ 15 → done * most_of_option left + 2 ^ 21 ≤ most_steps (suc left)
all_few left done few =
    let power : ℕ = 2 ^ (16 * left + 22) in
    let most : done * (2097152 + power) ≤ 32768 * (2097152 + power) = mul-le-mul_right (2097152 + power) few in
    let next = next_power left in
    let some = some_power left in
    omega (arith, most, next, some)

-- one option more
pub one_more : (done cost : ℕ) → (done + 1) * cost ≡ done * cost + cost
one_more done cost = omega arith

-- the plan of a crowd has few plies and few steps
pub few_plies : (turn winner : Side) (moves : ℕ) → moves ≤ 2 → plies turn winner moves ≤ 5
few_plies turn winner moves few = by (is_side turn winner)
  where
    by : (b : Bool) → (if b then 2 * moves else 2 * moves + 1) ≤ 5
    by true = omega (arith, few)
    by false = omega (arith, few)

pub start_room : (left : ℕ) → left ≤ 5 → 1 + most_steps left ≤ 2 ^ 127
start_room left few =
    let most : 2 ^ (16 * left + 22) ≤ 2 ^ 102 = pow_mono (let less : 16 * left + 22 ≤ 102 = omega (arith, few) in less) in
    omega (arith, most)

-- where a result is, a greater bound holds too
pub room_more : {T E : Type 0} (r : Result T E) (a b c : ℕ) → IfOk r (λ _. a ≤ b) → b ≤ c → IfOk r (λ _. a ≤ c)
room_more (Ok x) a b c h k = omega (arith, h, k)
room_more (Err e) a b c h k = tt
