use Rattle.std.proofs.Common.{rules, arith, ◌≡◌, ◌<◌, ◌∷◌, ◌++◌, [], ◌∙◌, true, false, length, get_or, sym, subst, inl, inr}
use Rattle.std.specs.List.{Contains}
use Rattle.std.proofs.lemmas.Bool.{cases_lt, cases_eq}
use Rattle.std.proofs.lemmas.List.{get_or_default, get_or_read, get_or-set_other}
use Rattle.std.proofs.lemmas.List.Elements.{All-push, Contains-push, Contains-append_left}
use Rattle.auto_refine.proofs.moves.each_once.Goals as goal
use Rattle.auto_refine.proofs.moves.each_once.Goals.{then-not-index+in_ok-push, else-not-index}

pub loop-state-preserved : goal.loop-state-preserved
loop-state-preserved c =
    let states = c.args.states.now in
    let seen = c.loop-state.seen.items in
    let once = c.loop-state.once.items in
    let turn = c.loop-state.state-index in
    let state = get_or states turn 0 in
    let before = c.loop-state.invariant in
    let known : state < c.args.count = c.requires turn 0 c.loop-state-test.true in
    let inside : state < length seen = omega (arith, known, before.size) in
    let mark = get_or_read seen state c.index.result.now inside c.index.ensures false in
    elim c.if-not-index.branch [
      | then-not-index+in_ok-push w ↦ rw (w.seen-is, w.once-is, w.in_ok-push.ensures.items) (record {
        size = search rules;
        within = All-push (λ s. s < c.args.count) once state before.within known;
        noted = λ s on. elim (cases_eq state s) [
          | inl e ↦ subst (Contains (once ++ state ∷ [])) e (Contains-push once state)
          | inr ne ↦ Contains-append_left once (state ∷ []) s (before.noted s (sym (get_or-set_other seen state s true false (λ same. ne (sym same))) ∙ on))
        ];
        all = λ k less. elim (cases_lt k turn) [
          | inl low ↦ Contains-append_left once (state ∷ []) _ (before.all k low)
          | inr past ↦ let same : turn ≡ k = omega (arith, less, past) in subst (λ n. Contains (once ++ state ∷ []) (get_or states n 0)) same (Contains-push once state)
        ];
      })
      | else-not-index w ↦ rw (w.seen-is, w.once-is) (record {
        size = before.size;
        within = before.within;
        noted = before.noted;
        all = λ k less. elim (cases_lt k turn) [
          | inl low ↦ before.all k low
          | inr past ↦ let same : turn ≡ k = omega (arith, less, past) in subst (λ n. Contains once (get_or states n 0)) same (before.noted state (sym mark ∙ w.if-not-index.false))
        ];
      })
    ]

pub returns-clause-all : goal.returns-clause-all
returns-clause-all c = λ state there.
    let states = c.args.states.now in
    let end = c.loop-state.auto.state-index-end in
    let less = there.1 in
    let is = get_or_default states there.0 0 state there.1 ∙ there.2 in
    subst (Contains c.loop-state.once.items) is (c.loop-state.invariant.all there.0 (omega (arith, less, end, c.loop-state-test.false)))
