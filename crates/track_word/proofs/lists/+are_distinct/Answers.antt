use Rattle.std.proofs.Common.{◌≡◌, ◌≢◌, ℕ, ◌<◌, suc, List, length, AllPairs, true, false, nat_eq, ◌∷◌, get_or, arith, sym, ap, subst}
use Rattle.std.proofs.lemmas.Grind.{common_steps}
use Rattle.std.proofs.lemmas.List.Kept.{AllPairs-cons}
use Rattle.track_word.specs.declared.tracks.Var.{Var}
use Rattle.track_word.proofs.lists.+are_distinct.Goals as goal

same-var : (x y : Var) → nat_eq x.0 y.0 ≡ true → x ≡ y
same-var x y e = let var : ℕ → Var = λ n. record { 0 = n } in let number : x.0 ≡ y.0 = grind (arith, common_steps, e) in ap var number

other-var : (x y : Var) → nat_eq x.0 y.0 ≡ false → y ≢ x
other-var x y e same = let number : x.0 ≡ y.0 = ap (λ (v : Var). v.0) (sym same) in grind (arith, common_steps, e, number)

repeated : (vars : List Var) (var : Var) (rest : List Var) (k : ℕ) → vars ≡ var ∷ rest → k < length rest → ((d : Var) → nat_eq (get_or rest k d).0 var.0 ≡ true) → AllPairs (λ x y. x ≢ y) vars → ⊥
repeated vars var rest k is within same apart =
    let all = subst (AllPairs (λ x y. x ≢ y)) is apart in
    all 0 (suc k) var (omega arith) (omega (arith, within)) (sym (same-var (get_or rest k var) var (same var)))

rest-apart : (vars : List Var) (var : Var) (rest : List Var) → vars ≡ var ∷ rest → AllPairs (λ x y. x ≢ y) vars → AllPairs (λ x y. x ≢ y) rest
rest-apart vars var rest is apart i j d before within =
    let all = subst (AllPairs (λ x y. x ≢ y)) is apart in
    all (suc i) (suc j) d (omega (arith, before)) (omega (arith, within))

pub returns-then-contains : goal.returns-then-contains
returns-then-contains t c =
    let again = c.if-contains.ensures.cases in
    (λ off. cc, λ apart. absurd (repeated c.args.tracks.now c.in-Some.track.now c.in-Some.rest.now again.0 c.in-Some.ensures.cases.0 again.1 again.2 apart))

pub returns-else-contains : goal.returns-else-contains
returns-else-contains t c =
    let is = c.in-Some.ensures.cases.0 in
    let vars = c.args.tracks.now in
    let var = c.in-Some.track.now in
    let rest = c.in-Some.rest.now in (
      λ said.
          subst (AllPairs (λ x y. x ≢ y)) (sym is)
          (AllPairs-cons (λ x y. x ≢ y) var rest (λ k d within. other-var (get_or rest k d) var (c.if-contains.ensures.cases k d (omega arith) within)) (c.are_distinct.ensures.0 said)),
      λ apart. c.are_distinct.ensures.1 (rest-apart vars var rest is apart),
    )
