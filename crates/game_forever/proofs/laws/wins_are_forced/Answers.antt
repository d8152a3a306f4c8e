use Rattle.game_forever.proofs.ForcesLemmas.{forced_win, win_forced}
use Rattle.game_forever.proofs.laws.wins_are_forced.Goals as goal

pub returns : goal.returns
returns c = λ winner n p. (win_forced winner n p, forced_win winner n p)
