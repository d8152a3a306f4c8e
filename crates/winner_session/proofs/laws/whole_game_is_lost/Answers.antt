use Rattle.winner_session.proofs.Games.{whole_game}
use Rattle.winner_session.proofs.laws.whole_game_is_lost.Goals as goal

pub returns : goal.returns
returns c = λ s f typed games valid value plays. whole_game s f typed games valid value plays
