use Rattle.game_forever.proofs.GrowthLemmas.{mate_forced, win_mates}
use Rattle.game_forever.proofs.laws.wins_force_mate.Goals as goal

pub returns : goal.returns
returns c = record { wins = win_mates; moves = mate_forced }
