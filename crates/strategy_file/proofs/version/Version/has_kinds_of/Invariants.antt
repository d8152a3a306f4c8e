use Rattle.std.proofs.Common.{ℕ, ◌<◌, ◌≤◌, get_or}
use Rattle.game_rules.specs.declared.men.Man.{Man}
use Rattle.strategy_file.specs.Versions.{most_kind}
use Rattle.strategy_file.specs.Numbers.{kind_byte}
use Rattle.strategy_file.proofs.version.Version.has_kinds_of.Given as goal

abbrev pub invariant-loop-n : goal.invariant-loop-n
invariant-loop-n l = (k : ℕ) → k < l.n → (d : Man) → kind_byte (get_or l.position.men k d).kind ≤ most_kind l.self
