use Rattle.std.proofs.Common.{sym, ◌∙◌}
use Rattle.rule_formula.specs.Placed.{is_live, without}
use Rattle.rule_formula.specs.Seats.{seat_of}
use Rattle.rule_formula.proofs.ChainLemmas.{vars_passed, vars_pushed}
use Rattle.rule_formula.proofs.chains.among_seats.Goals.{then-is_kept+in_ok-push_seat, else-is_kept}
use Rattle.rule_formula.proofs.chains.among_seats.Goals as goal

pub loop-n-preserved : goal.loop-n-preserved
loop-n-preserved c =
    let seats = seat_of c.args.seats in
    let live = without (is_live c.args.men.mask) c.args.gone in
    elim c.if-is_kept.branch [
      | then-is_kept+in_ok-push_seat w ↦
          rw w.vars-is
          (vars_pushed seats live c.loop-n.n w.seat.result c.loop-n.vars.items _ (sym c.is_kept.ensures ∙ w.if-is_kept.true) w.seat.ensures c.loop-n.invariant w.in_ok-push_seat.ensures)
      | else-is_kept w ↦ rw w.vars-is (vars_passed seats live c.loop-n.n c.loop-n.vars.items (sym c.is_kept.ensures ∙ w.if-is_kept.false) c.loop-n.invariant)
    ]
