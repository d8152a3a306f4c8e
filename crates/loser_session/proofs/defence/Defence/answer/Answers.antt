use Rattle.std.proofs.Common.{◌≡◌, refl, subst, sym}
use Rattle.game_rules.specs.Game.{Legal, Position}
use Rattle.game_laws.proofs.MoveLemmas.{same_after}
use Rattle.move_choice.specs.Choice.{target}
use Rattle.winner_session.specs.Game.{Game, moved_to}
use Rattle.loser_session.specs.Defending.{IsDefence, IsNextUnwon, seen}
use Rattle.loser_session.proofs.Defending.{pick_keeps}
use Rattle.loser_session.proofs.defence.Defence.answer.Goals as goal

pub make-requires : goal.make-requires
make-requires c =
    let g = c.args.self.now in
    let keeps = c.position-position.ensures.defence in
    let choice = c.in-Some.choice in
    let pick = c.in-Some.ensures.pick in
    subst (λ (h : Game). (q : Position) → Legal h.position choice.mv.man (target choice.mv) q → IsDefence (moved_to h q)) (sym c.pick.ensures.kept)
    (λ q legal.
    let same : pick.position ≡ q = same_after pick.leads.legal.step.after legal.step.after in
    pick_keeps g keeps c.requires.turn c.requires.left legal (subst (IsNextUnwon (seen g)) same pick.leads.is_in))

pub unreachable-requires : goal.unreachable-requires
unreachable-requires c =
    let choice = c.in-Some.choice in
    let none = subst (λ (h : Game). (q : Position) → Legal h.position choice.mv.man (target choice.mv) q → ⊥) c.pick.ensures.kept c.in-Err.ensures.illegal in
    none c.in-Some.ensures.pick.position c.in-Some.ensures.pick.leads.legal

pub returns-clause-defended : goal.returns-clause-defended
returns-clause-defended c =
    let choice = c.in-Some.choice in
    let after = c.make.new.self in
    let legal = subst (λ (h : Game). Legal h.position choice.mv.man (target choice.mv) after.position) c.pick.ensures.kept c.in-Ok.ensures.legal in
    let is = subst (λ (h : Game). after ≡ moved_to h after.position) c.pick.ensures.kept c.in-Ok.ensures.after in
    (choice, refl, record { pick = c.in-Some.ensures.pick; legal = legal; is_after = is })
