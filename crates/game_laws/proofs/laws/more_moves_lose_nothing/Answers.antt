use Rattle.game_laws.proofs.ValueLemmas.{lost_more, win_more}
use Rattle.game_laws.proofs.laws.more_moves_lose_nothing.Goals as goal

pub returns : goal.returns
returns c = record { wins = win_more; loses = lost_more }
