use Rattle.std.specs.Int.{w8}
use Rattle.std.proofs.Common.{◌*◌, ◌^◌, ◌%◌}
use Rattle.std.proofs.lemmas.Nat.{or_lt}
use Rattle.std.proofs.lemmas.Nat.Bits.{bit_at_set_other, bit_at_set_same}
use Rattle.chess_game.proofs.MaskLemmas.{bit_below}
use Rattle.chess_game.proofs.board.with_bit.Goals as goal

pub returns-clause-set : goal.returns-clause-set
returns-clause-set c = bit_at_set_same w8 c.args.mask c.args.index c.requires

pub returns-clause-others : goal.returns-clause-others
returns-clause-others c = λ k ne. bit_at_set_other w8 c.args.mask c.args.index c.requires k ne

pub returns-clause-bound : goal.returns-clause-bound
returns-clause-bound c =
    λ n low below. or_lt n c.args.mask (1 * 2 ^ c.args.index % 256) below (bit_below c.args.index n c.requires low)
