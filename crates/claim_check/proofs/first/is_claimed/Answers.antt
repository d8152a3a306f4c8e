use Rattle.std.proofs.Common.{◌≡◌, Some, None, Option, length, ap, subst, sym, ◌∙◌, option_copied, ℕ}
use Rattle.auto_core.specs.Automaton.{Automaton}
use Rattle.auto_core.specs.Integers.{IsAccepted}
use Rattle.lin_formula.specs.SetOf.{Member, as_set}
use Rattle.mask_sets.specs.Stock.{mask_of}
use Rattle.mask_sets.specs.Tuple.{tuple_of}
use Rattle.mask_sets.proofs.Masks.{mask_one}
use Rattle.mate_plan.specs.Claim.{claimed_at}
use Rattle.mate_plan.proofs.FirstMoves.{own_count}
use Rattle.claim_check.specs.Ready.{claim_in}
use Rattle.claim_check.proofs.ReadySets.{claimed_on}
use Rattle.claim_check.proofs.first.is_claimed.Goals.{In-Some}
use Rattle.claim_check.proofs.first.is_claimed.Goals as goal

there : (c : In-Some) → claimed_at (claim_in c.args.claim.now) 0 (mask_of c.args.claim.now.position) ≡ Some c.in-Some.set.now
there c =
    let At : ℕ → Type 0 = λ m. claimed_at (claim_in c.args.claim.now) 0 m ≡ Some c.in-Some.set.now in
    subst At (mask_one c.mask.ensures ∙ ap mask_of c.bench-bench.ensures.position) (sym c.set.ensures ∙ ap option_copied c.in-Some.is)

pub member-requires-clause-count : goal.member-requires-clause-count
member-requires-clause-count c =
    let s = c.args.claim.now in
    let at = (goal.at.member-requires-clause-count c).In-Some in
    let on = claimed_on c.bench-bench.ensures.ready c.requires 0 (mask_of s.position) c.in-Some.set.now (there at) in
    ap length (c.as_slice.ensures.value ∙ (c.coordinates.ensures ∙ ap tuple_of c.bench-bench.ensures.position)) ∙ own_count c.bench-bench.ensures.ready.claim.sound ∙ sym (ap length on.decides.tracks_are)

pub member-requires-clause-decides : goal.member-requires-clause-decides
member-requires-clause-decides c = c.requires 0 (mask_of c.args.claim.now.position) c.in-Some.set.now (there (goal.at.member-requires-clause-decides c).In-Some)

pub returns-in-Some : goal.returns-in-Some
returns-in-Some c =
    let same = c.as_slice.ensures.value ∙ (c.coordinates.ensures ∙ ap tuple_of c.bench-bench.ensures.position) in
    let is = there (goal.at.returns-in-Some c).In-Some in
    let In : Option Automaton → Type 0 = λ o. Member (as_set o) (tuple_of c.args.claim.now.position) in (
      λ yes. subst In (sym is) (subst (IsAccepted c.in-Some.set.now) same (c.member.ensures.member.0 yes)),
      λ has. c.member.ensures.member.1 (subst (IsAccepted c.in-Some.set.now) (sym same) (subst In is has)),
    )

pub returns-in-None : goal.returns-in-None
returns-in-None c =
    let At : ℕ → Type 0 = λ m. claimed_at (claim_in c.args.claim.now) 0 m ≡ None in
    let none = subst At (mask_one c.mask.ensures ∙ ap mask_of c.bench-bench.ensures.position) (sym c.set.ensures ∙ ap option_copied c.in-None.is) in
    let In : Option Automaton → Type 0 = λ o. Member (as_set o) (tuple_of c.args.claim.now.position) in
    (λ never. cc, λ has. absurd (subst In none has))
