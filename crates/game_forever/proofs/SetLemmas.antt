-- The sound positions of a stock are closed under legal moves.
use Rattle.std.proofs.Common.{List}
use Rattle.game_rules.specs.declared.men.Man.{Man}
use Rattle.game_laws.proofs.SoundLemmas.{legal_sound}
use Rattle.game_laws.proofs.StockLemmas.{step_stock}
use Rattle.game_forever.specs.Sets.{IsClosed, IsOfStock}

pub stock_closed : (stock : List Man) → IsClosed (IsOfStock stock)
stock_closed stock p q (sound, has) (i, z, legal) = (legal_sound p i z q sound legal, step_stock has legal.step.after)
