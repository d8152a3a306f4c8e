-- Claims that have a file.
use Rattle.std.specs.Prelude.{◌≡◌, ◌≤◌, length, map}
use Rattle.std.specs.List.{All}
use Rattle.limits.specs.declared.numbers.TheConstants.{MOST_MOVES}
use Rattle.strategy_file.specs.declared.most.TheConstants.{MOST_FILED_STATES}
use Rattle.auto_core.specs.Automaton.{IsAutomaton}
use Rattle.game_rules.specs.Game.{Position, SoundWithKings}
use Rattle.game_rules.specs.declared.men.Side.{Side}
use Rattle.chess_game.specs.Near.{IsNarrowPosition}
use Rattle.rule_formula.specs.Mean.{mask_tracks}
use Rattle.mate_plan.specs.Claim.{Claim, ClaimedSet}
use Rattle.strategy_file.specs.declared.version.Version.{Version}
use Rattle.strategy_file.specs.declared.version.Version.TheVariants as versions
use Rattle.strategy_file.specs.Versions.{most_turn, most_men, most_kind}
use Rattle.strategy_file.specs.StrategyFile.{places_of}
use Rattle.strategy_file.specs.Numbers.{turn_byte, kind_byte}

-- an automaton over the tracks of the mask's men, with at most as many states as a set in a file may have
pub record IsFormed (p : Position) (s : ClaimedSet) : Type 0 where
  pub tracks : s.set.tracks ≡ mask_tracks p s.mask
  pub valid : IsAutomaton s.set
  pub few : length s.set.accept ≤ MOST_FILED_STATES

-- a file of the version can name the winner, and has room for the men and numbers for their kinds
pub record FitsVersion (version : Version) (winner : Side) (p : Position) : Type 0 where
  pub turn : turn_byte winner p.turn ≤ most_turn version
  pub most : length p.men ≤ most_men version
  pub kinds : All (λ m. kind_byte m.kind ≤ most_kind version) p.men

-- The claim has a file of a version: the winner mates within at most 20 moves from a sound position of at least two men
-- that fits the version and has coordinates of 64 bits, and there is a set for each ply of the loser and each mask, in
-- order.
pub record HasFile (version : Version) (c : Claim) : Type 0 where
  pub fits : FitsVersion version c.winner c.position
  pub sound : SoundWithKings c.position
  pub moves : c.moves ≤ MOST_MOVES
  pub least : 2 ≤ length c.position.men
  pub narrow : IsNarrowPosition c.position
  pub places : map (λ s. (s.ply, s.mask)) c.sets ≡ places_of c.winner c.position c.moves
  pub sets : All (IsFormed c.position) c.sets

-- the claim has a file of the newest version; every claim with a file has one
abbrev pub HasFileOf : Claim → Type 0
HasFileOf c = HasFile versions.Shared c
