use Rattle.std.proofs.Common.{arith, ◌≡◌, ℕ, length, take, sym, ap, ◌∙◌, subst}
use Rattle.std.proofs.Math.Seq.{take-length}
use Rattle.letter_diagram.specs.Carried.{Carries, CanBeCarried}
use Rattle.letter_diagram.specs.Listed.{EachAnswers}
use Rattle.letter_diagram.proofs.Maps.{Grows-trans}
use Rattle.letter_diagram.proofs.Carryings.{Carries-grows, CanBeCarried-grows}
use Rattle.letter_diagram.proofs.Lists.{EachAnswers-push}
use Rattle.letter_diagram.proofs.carry.rebuilt_all.Goals as goal

pub loop-node-preserved : goal.loop-node-preserved
loop-node-preserved g c =
    let e = c.in_ok-answer.ensures in
    let i = c.loop-node.invariant in
    let stays = λ (x y : ℕ). Carries-grows (g.C.Rebuild.carrier c.args.carry.now) x y e.grows in
    record {
      grows = Grows-trans i.grows e.grows;
      remembered = e.remembered;
      answered = rw c.in_ok-push.ensures.items (EachAnswers-push _ _ _ _ _ stays c.loop-node-test.true c.node-item.is i.answered e.rebuilt);
    }

pub returns-in_err-answer-clause-grows : goal.returns-in_err-answer-clause-grows
returns-in_err-answer-clause-grows g c = Grows-trans c.loop-node.invariant.grows c.in_err-answer.ensures.grows

pub returns-in_err-push-clause-grows : goal.returns-in_err-push-clause-grows
returns-in_err-push-clause-grows g c = Grows-trans c.loop-node.invariant.grows c.in_ok-answer.ensures.grows

pub returns-clause-grows : goal.returns-clause-grows
returns-clause-grows g c = c.loop-node.invariant.grows

pub returns-clause-rebuilt : goal.returns-clause-rebuilt
returns-clause-rebuilt g c =
    let past = c.loop-node-test.false in
    let most = c.loop-node.auto.node-index-end in
    let end : c.loop-node.node-index ≡ length c.args.nodes.now = omega (arith, past, most) in
    subst (λ nodes. EachAnswers (Carries (g.C.Rebuild.carrier c.args.carry.now) c.loop-node.to) nodes c.loop-node.made.items)
    (ap (λ n. take n c.args.nodes.now) end ∙ take-length c.args.nodes.now) c.loop-node.invariant.answered

pub rebuilt-requires : goal.rebuilt-requires
rebuilt-requires g c =
    let can = c.requires.can c.loop-node.node-index c.node-item.result c.loop-node-test.true in
    record {
      can =
          CanBeCarried-grows c.loop-node.invariant.grows
          (subst (CanBeCarried (g.C.Rebuild.carrier c.args.carry.now) (g.C.Rebuild.can c.args.carry.now) c.args.to.now) (sym c.node-item.is) can);
      remembered = c.loop-node.invariant.remembered;
    }
