use Rattle.winner_session.proofs.Games as games
use Rattle.winner_session.proofs.laws.all_lost.Goals as goal

pub returns : goal.returns
returns c = λ g typed after game plays. games.all_lost g typed after game plays
