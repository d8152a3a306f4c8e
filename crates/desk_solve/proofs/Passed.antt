-- The numbers of moves that `least` has gone through.
use Rattle.std.proofs.Common.{◌≡◌, ℕ, ◌+◌, ◌<◌, ◌≤◌, ◌↔◌, Bool, true, false, IsTrue, Some, None, below_more, arith}
use Rattle.game_rules.specs.Game.{Value}
use Rattle.desk_text.specs.declared.problem.Problem.{Problem}
use Rattle.desk_verdict.specs.Verdict.{FitsBudget}
use Rattle.desk_solve.specs.Least.{LeastFinds}

-- the winner mates within none of these numbers of moves, and their plans are within the budget
abbrev pub ArePassed : Problem → ℕ → ℕ → Type 0
ArePassed problem budget count = (n : ℕ) → n < count → FitsBudget problem budget n × (Value problem.winner n problem.position → ⊥)

-- one number more
pub passed_more : (problem : Problem) (budget n : ℕ) (won : Bool) → ArePassed problem budget n → FitsBudget problem budget n
    → IsTrue won ↔ Value problem.winner n problem.position → won ≡ false → ArePassed problem budget (n + 1)
passed_more problem budget n won passed fits is not_won =
    let P : ℕ → Type 0 = λ k. FitsBudget problem budget k × (Value problem.winner k problem.position → ⊥) in
    below_more P n passed (fits, λ value. let t = is.1 value in cc)

-- this number is the least, or none up to the limit is
pub found_at : (problem : Problem) (budget limit n : ℕ) (won : Bool) → n ≤ limit → ArePassed problem budget n → FitsBudget problem budget n
    → IsTrue won ↔ Value problem.winner n problem.position → won ≡ true → LeastFinds limit budget problem (Some n)
found_at problem budget limit n won within passed fits is has =
    let Fits : ℕ → Type 0 = λ k. FitsBudget problem budget k in
    ((within, is.0 has, λ k below. (passed k below).1), λ k le. below_more Fits n (λ j below. (passed j below).0) fits k (omega (arith, le)))

pub none_found : (problem : Problem) (budget limit count : ℕ) → limit < count → ArePassed problem budget count → LeastFinds limit budget problem None
none_found problem budget limit count more passed = (λ k le value. (passed k (omega (arith, le, more))).1 value, λ k le. (passed k (omega (arith, le, more))).0)
