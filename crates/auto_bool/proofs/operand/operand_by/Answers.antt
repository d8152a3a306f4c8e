use Rattle.auto_bool.specs.declared.operand.Operand.TheVariants.{Left, Right}
use Rattle.auto_bool.proofs.OperandLemmas.{IsOperand-at_hand}
use Rattle.auto_bool.proofs.operand.operand_by.Goals as goal

pub returns-then-are_among-clause-is : goal.returns-then-are_among-clause-is
returns-then-are_among-clause-is c =
    let among = rw (c.tracks.ensures.tracks, c.tracks-then-yields_left.ensures.tracks) at (c.are_among.ensures.0 c.if-are_among.true) in
    IsOperand-at_hand c.args.a.now c.args.b.now c.tracks.ensures.valid c.tracks-then-yields_left.ensures.valid c.args.connective c.args.budget Left (record {
      yields = c.yields_left.ensures.0 c.if-yields_left.true;
      among = among;
      room = c.pairs_fit.ensures.room.0 c.if-not-pairs_fit.false;
    }) (c.pairs_fit.ensures.within c.if-not-pairs_fit.false)

pub returns-then-are_among-2-clause-is : goal.returns-then-are_among-2-clause-is
returns-then-are_among-2-clause-is c =
    let among = rw (c.tracks-then-yields_right.ensures.tracks, c.tracks-then-yields_right-2.ensures.tracks) at (c.are_among-then-yields_right.ensures.0 c.if-are_among-2.true) in
    IsOperand-at_hand c.args.a.now c.args.b.now c.tracks-then-yields_right-2.ensures.valid c.tracks-then-yields_right.ensures.valid c.args.connective c.args.budget Right (record {
      yields = c.yields_right.ensures.0 c.if-yields_right.true;
      among = among;
      room = c.pairs_fit.ensures.room.0 c.if-not-pairs_fit.false;
    }) (c.pairs_fit.ensures.within c.if-not-pairs_fit.false)
