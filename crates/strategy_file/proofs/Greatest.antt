-- The greatest numbers of a file's bytes are no more than those of version 2.
use Rattle.std.proofs.Common.{ℕ, ◌≤◌, List, length, All, get_or, arith}
use Rattle.game_rules.specs.Game.{Position}
use Rattle.game_rules.specs.declared.men.Man.{Man}
use Rattle.game_rules.specs.declared.men.Kind.{Kind}
use Rattle.game_rules.specs.declared.men.Kind.TheVariants.{King, Queen, Rook, Bishop, Knight, Pawn, Chancellor, Archbishop, Amazon, Nightrider}
use Rattle.game_rules.specs.declared.men.Side.{Side}
use Rattle.game_rules.specs.declared.men.Side.TheVariants.{White, Black}
use Rattle.strategy_file.specs.declared.version.Version.{Version}
use Rattle.strategy_file.specs.declared.version.Version.TheVariants.{Dense, Shared}
use Rattle.strategy_file.specs.Fitting.{FitsVersion}
use Rattle.strategy_file.specs.Versions.{most_kind, most_men, most_turn}
use Rattle.strategy_file.specs.Numbers.{kind_byte, turn_byte}

pub few_men : (version : Version) (n : ℕ) → n ≤ most_men version → n ≤ most_men Shared
few_men Dense n h = omega (arith, h)
few_men Shared n h = h

turn_small : (winner turn : Side) → turn_byte winner turn ≤ most_turn Shared
turn_small White White = omega arith
turn_small White Black = omega arith
turn_small Black White = omega arith
turn_small Black Black = omega arith

kind_small : (k : Kind) → kind_byte k ≤ most_kind Shared
kind_small King = omega arith
kind_small Queen = omega arith
kind_small Rook = omega arith
kind_small Bishop = omega arith
kind_small Knight = omega arith
kind_small Pawn = omega arith
kind_small Chancellor = omega arith
kind_small Archbishop = omega arith
kind_small Amazon = omega arith
kind_small Nightrider = omega arith

kinds_small : (men : List Man) → All (λ m. kind_byte m.kind ≤ most_kind Shared) men
kinds_small men = λ i d h. kind_small (get_or men i d).kind

-- version 2 fits each winner and each position of at most eight men
pub fits_newest : (winner : Side) (p : Position) → length p.men ≤ most_men Shared → FitsVersion Shared winner p
fits_newest winner p few = record { turn = turn_small winner p.turn; most = few; kinds = kinds_small p.men }
