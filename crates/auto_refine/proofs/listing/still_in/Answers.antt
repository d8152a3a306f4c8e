use Rattle.std.proofs.Common.{arith, ◌≡◌, ◌<◌, ◌∷◌, ◌++◌, [], ◌∙◌, length, get_or, sym, ap, subst, inl, inr}
use Rattle.std.specs.List.{Contains}
use Rattle.std.proofs.lemmas.Bool.{cases_lt}
use Rattle.std.proofs.lemmas.List.{get_or_default, get_or_read}
use Rattle.std.proofs.lemmas.List.Elements.{Contains-get_or, Contains-push, Contains-push_cases, Contains-append_left}
use Rattle.auto_refine.proofs.listing.still_in.Goals as goal
use Rattle.auto_refine.proofs.listing.still_in.Goals.{then-index-class+in_ok-push, else-index-class}

pub loop-state-preserved : goal.loop-state-preserved
loop-state-preserved c =
    let classes = c.args.partition.now.classes.items in
    let states = c.args.states.now in
    let kept = c.loop-state.kept.items in
    let turn = c.loop-state.state-index in
    let state = get_or states turn 0 in
    let before = c.loop-state.invariant in
    let known : state < length classes = c.requires turn 0 c.loop-state-test.true in
    let class = get_or_read classes state c.index.result.now known c.index.ensures 0 in
    elim c.if-index-class.branch [
      | then-index-class+in_ok-push w ↦ rw (w.kept-is, w.in_ok-push.ensures.items) (record {
        only = λ s there. elim (Contains-push_cases kept state s there) [
          | inl old ↦ before.only s old
          | inr same ↦ subst (λ n. get_or classes n 0 ≡ c.args.class) same (sym class ∙ w.if-index-class.true)
        ];
        fewer = λ s there. elim (Contains-push_cases kept state s there) [
          | inl old ↦ before.fewer s old
          | inr same ↦ subst (Contains states) same (Contains-get_or states turn 0 c.loop-state-test.true)
        ];
        stays = λ k less has. elim (cases_lt k turn) [
          | inl low ↦ Contains-append_left kept (state ∷ []) _ (before.stays k low has)
          | inr past ↦ let same : turn ≡ k = omega (arith, less, past) in subst (λ n. Contains (kept ++ state ∷ []) (get_or states n 0)) same (Contains-push kept state)
        ];
      })
      | else-index-class w ↦ rw w.kept-is (record {
        only = before.only;
        fewer = before.fewer;
        stays = λ k less has. elim (cases_lt k turn) [
          | inl low ↦ before.stays k low has
          | inr past ↦ let same : turn ≡ k = omega (arith, less, past) in absurd (w.if-index-class.false (class ∙ ap (λ n. get_or classes (get_or states n 0) 0) same ∙ has))
        ];
      })
    ]

pub returns : goal.returns
returns c =
    let states = c.args.states.now in
    let end = c.loop-state.auto.state-index-end in
    let kept = c.loop-state.kept.items in
    record {
      only = c.loop-state.invariant.only;
      fewer = c.loop-state.invariant.fewer;
      stays = λ state there has.
          let less = there.1 in
          let is = get_or_default states there.0 0 state there.1 ∙ there.2 in
          let class = ap (λ s. get_or c.args.partition.now.classes.items s 0) is ∙ has in
          subst (Contains kept) is (c.loop-state.invariant.stays there.0 (omega (arith, less, end, c.loop-state-test.false)) class);
    }
