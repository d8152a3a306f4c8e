use Rattle.std.proofs.Common.{inl, inr, sym, true≢false}
use Rattle.formula_auto.proofs.Operands.{shortcut-itself, shortcut-operand, seen-way}
use Rattle.formula_auto.proofs.memo.Memo.shortcut.Goals.{else-same_place-via-then-same_place+else-fits_with_itself, else-same_place-via-else-same_place}
use Rattle.formula_auto.proofs.memo.Memo.shortcut.Goals as goal

pub returns-then-fits_with_itself-clause-is : goal.returns-then-fits_with_itself-clause-is
returns-then-fits_with_itself-clause-is c =
    let fits = c.if-fits_with_itself.true in
    rw c.with_itself.ensures
    (shortcut-itself c.args.connective c.args.self.now c.args.meets.now c.args.left.now c.args.right.now
    c.automata.result.0.now c.automata.result.1.now c.automata.ensures.left c.automata.ensures.right
    (c.same_place.ensures.0 c.if-same_place.true) (rw c.budget-most.ensures.is at (c.fits_with_itself.ensures.both fits))
    (rw c.budget-most.ensures.is at (c.fits_with_itself.ensures.either fits)) (rw c.budget-most.ensures.is at (c.fits_with_itself.ensures.neither fits)))

pub returns-clause-is : goal.returns-clause-is
returns-clause-is c =
    shortcut-operand c.args.connective c.args.self.now c.args.meets.now c.args.left.now c.args.right.now
    c.automata.result.0.now c.automata.result.1.now c.automata.ensures.left c.automata.ensures.right
    c.in_ok-operand_by.field-0 (rw c.budget-most.ensures.is at c.in_ok-operand_by.ensures.is)

pub returns-in_err-operand_by-clause-found : goal.returns-in_err-operand_by-clause-found
returns-in_err-operand_by-clause-found c = λ seen.
    let way = seen-way c.args.connective c.args.self.now c.args.meets.now c.args.left.now c.args.right.now
    c.automata.result.0.now c.automata.result.1.now c.automata.ensures.left c.automata.ensures.right seen in
    elim way [
      | inl same ↦ elim c.else-same_place.branch [
        | else-same_place-via-then-same_place+else-fits_with_itself w ↦
            let fits = w.fits_with_itself.ensures.room.1 (rw c.budget-most.ensures.is same.1) in
            absurd (cc (fits, w.if-fits_with_itself.false))
        | else-same_place-via-else-same_place w ↦ absurd (cc (c.same_place.ensures.1 same.0, w.if-same_place.false))
      ]
      | inr operand ↦
          let found = c.operand_by.ensures.found operand.0 (rw c.budget-most.ensures.is operand.1) in
          absurd (true≢false (sym (rw c.in_err-operand_by.was at found)))
    ]
