-- The meaning of the formulas of a path.
use Rattle.std.specs.Prelude.{◌≡◌, ◌↔◌, ◌<◌, ◌≤◌, ℕ, List, ◌∷◌, length, ℤ, Contains}
use Rattle.game_rules.specs.declared.men.Square.{Square}
use Rattle.game_rules.specs.Game.{InCheck, Legal, Position, Sound}
use Rattle.track_word.specs.Tracks.{Values}
use Rattle.lin_formula.specs.Holds.{Holds, with_value}
use Rattle.lin_formula.specs.SetOf.{SetOf, members}
use Rattle.rule_formula.specs.declared.opt.Bearing.{Bearing}
use Rattle.rule_formula.specs.declared.opt.Opt.{Opt}
use Rattle.rule_formula.specs.Fine.{AllHold}
use Rattle.rule_formula.specs.Seats.{var}
use Rattle.line_formula.specs.Paths.{GoesBy, Plays, after, bear_after, first_part, further_parts, options_at, threats_at, turn_at}

-- after legal moves of a path, the parts of a further move are true if and only if it is legal
abbrev pub PartsMeanLegal : Type 0
PartsMeanLegal =
    (p : Position) (s : List Opt) (o : Opt) (e : ℕ → SetOf) (v : Values) → Sound p → length s < 16 → Plays p s v
    → Contains (options_at p s) o
    → AllHold (first_part p s o ∷ further_parts p s o) (members e) v
    ↔ GoesBy o (v (length s)) (after p s v) (after p (o ∷ s) v)

-- each legal move after a path is one by an option at some distance
abbrev pub LegalIsByOption : Type 0
LegalIsByOption =
    (p : Position) (s : List Opt) (v : Values) (i : ℕ) (z : Square) (r : Position) → Sound p → Plays p s v
    → Legal (after p s v) i z r
    → (o : Opt) × (t : ℤ) × Contains (options_at p s) o
    × (r ≡ after p (o ∷ s) (with_value v (var (length s)) t))
    × GoesBy o t (after p s v) r

-- the side to move is in check if and only if a man of the other side attacks its king
abbrev pub BearsMeanCheck : Type 0
BearsMeanCheck =
    (p : Position) (s : List Opt) (e : ℕ → SetOf) (v : Values) → Sound p → length s ≤ 16 → Plays p s v
    → InCheck (after p s v) (turn_at p s)
    ↔ ((b : Bearing) × Contains (threats_at p s) b × Holds (bear_after p s b) (members e) v)
