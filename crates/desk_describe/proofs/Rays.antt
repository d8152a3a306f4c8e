-- A ray with a first move.
use Rattle.std.proofs.Common.{◌≡◌, ℕ, Result, Err, IfErr, sym, subst}
use Rattle.chess_game.specs.declared.way.Frame.{Frame}
use Rattle.game_rules.specs.Game.{Position}
use Rattle.game_rules.specs.declared.men.Side.{Side}
use Rattle.winner_session.proofs.FirstLemmas.{line_first}
use Rattle.winner_session.specs.Firsts.{IsFirstLine, NoFirsts}
use Rattle.winner_session.specs.declared.first_line.FirstLine.{FirstLine}
use Rattle.desk_describe.specs.Describe.{RayTells, StopsAt}
use Rattle.desk_describe.specs.RayStep.{StopsWith}
use Rattle.desk_describe.specs.declared.ray_step.DescribeError.{DescribeError}
use Rattle.desk_describe.specs.declared.ray_step.DescribeError.TheVariants.{Over, Memory}

pub has_first : {frame : Frame} {winner : Side} {n : ℕ} {p : Position} {man ray : ℕ} {line : FirstLine} → IsFirstLine frame winner n p man ray line → ¬ NoFirsts winner n p man ray
has_first is none = let some = line_first is in none some.0 some.1

pub ray_stops : (budget : ℕ) (winner : Side) (n : ℕ) (p : Position) (man ray : ℕ) (error : DescribeError) → ¬ NoFirsts winner n p man ray
    → StopsWith (StopsAt budget winner n p man ray) error → StopsWith (λ step. RayTells budget winner n p man ray (Err step)) error
ray_stops budget winner n p man ray (Over step) some stop = (some, stop)
ray_stops budget winner n p man ray Memory some stop = tt

-- an error that is handed on
pub handed_on : {A : Type 0} (result : Result A DescribeError) (error : DescribeError) (Holds : DescribeError → Type 0) → result ≡ Err error → Holds error → IfErr result Holds
handed_on {A} result error Holds is holds = subst (λ (r : Result A DescribeError). IfErr r Holds) (sym is) holds
