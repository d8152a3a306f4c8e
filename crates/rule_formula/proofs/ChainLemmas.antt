-- What a chain of And says.
use Rattle.std.proofs.Common.{◌≡◌, ◌⊎◌, ◌↔◌, ℕ, zero, suc, ◌+◌, ◌<◌, ◌≤◌, Bool, true, false, IsTrue, List, [], ◌∷◌, ◌++◌, inl, inr, refl, subst, sym, ap, ◌∙◌, ◌&&◌, not, arith}
use Rattle.std.specs.Prelude.{◌==◌, if◌then◌else◌}
use Rattle.std.proofs.lemmas.Bool.Decides.{nat_tests}
use Rattle.track_word.specs.declared.tracks.Var.{Var}
use Rattle.rule_formula.specs.declared.seats.Seat.{Seat}
use Rattle.rule_formula.specs.Placed.{without}
use Rattle.rule_formula.specs.Seats.{vars_to}
use Rattle.lin_formula.specs.Tree.{Tree}
use Rattle.lin_formula.specs.Holds.{Holds, Sets}
use Rattle.track_word.specs.Tracks.{Values}
use Rattle.rule_formula.specs.Trees.{and_all, clear, is_other}
use Rattle.lin_formula.specs.Tree as tree
use Rattle.rule_formula.specs.Fine.{AllHold}

pub and_all_holds : (f : Tree) (gs : List Tree) (e : Sets) (v : Values) → Holds (and_all f gs) e v ↔ (Holds f e v × AllHold gs e v)
and_all_holds f [] e v = (λ h. (h, tt), λ h. h.0)
and_all_holds f (g ∷ gs) e v =
    let rest : Holds (and_all (tree.And f g) gs) e v ↔ (Holds (tree.And f g) e v × AllHold gs e v) = and_all_holds (tree.And f g) gs e v in
    (λ h. let w : Holds (tree.And f g) e v × AllHold gs e v = rest.0 h in (w.0.0, (w.0.1, w.1)), λ h. rest.1 ((h.0, h.1.0), h.1.1))

and_if_holds : (f g : Tree) (e : Sets) (v : Values) (b : Bool) → Holds (if b then tree.And f g else f) e v ↔ (Holds f e v × (IsTrue b → Holds g e v))
and_if_holds f g e v true = (λ h. (h.0, λ b. h.1), λ h. (h.0, h.1 refl))
and_if_holds f g e v false = (λ h. (h, λ b. absurd (cc)), λ h. h.0)

pub last_or_before : (k n : ℕ) → k ≤ suc n → (k ≤ n) ⊎ (k ≡ suc n)
last_or_before k n h = grind arith

-- each of the first n, by number
abbrev pub Each : (ℕ → Type 0) → ℕ → Type 0
Each P n = (k : ℕ) → 0 < k → k ≤ n → P k

pub each_more : (P : ℕ → Type 0) (n : ℕ) → Each P (suc n) ↔ (Each P n × P (suc n))
each_more P n = (
  λ h. (λ k low high. h k low (omega arith), h (suc n) (omega arith) (omega arith)),
  λ h k low high. elim (last_or_before k n high) [ inl before ↦ h.0 k low before | inr last ↦ subst P (sym last) h.1 ],
)

pub clear_holds : (f : Tree) (hit : ℕ → Tree) (live : ℕ → Bool) (i j n : ℕ) (e : Sets) (v : Values)
    → Holds (clear f hit live i j n) e v ↔ (Holds f e v × Each (λ k. IsTrue (is_other live i j k) → ¬ Holds (hit k) e v) n)
clear_holds f hit live i j zero e v = (λ h. (h, λ k low high. absurd (omega arith)), λ h. h.0)
clear_holds f hit live i j (suc n) e v =
    let before : Holds (clear f hit live i j n) e v ↔ (Holds f e v × Each (λ k. IsTrue (is_other live i j k) → ¬ Holds (hit k) e v) n) = clear_holds f hit live i j n e v in
    let step : Holds (clear f hit live i j (suc n)) e v ↔ (Holds (clear f hit live i j n) e v × (IsTrue (is_other live i j (suc n)) → ¬ Holds (hit (suc n)) e v)) =
    and_if_holds (clear f hit live i j n) (tree.Not (hit (suc n))) e v (is_other live i j (suc n))
    in
    let more = each_more (λ k. IsTrue (is_other live i j k) → ¬ Holds (hit k) e v) n in (
      λ h. ((before.0 (step.0 h).0).0, more.1 ((before.0 (step.0 h).0).1, (step.0 h).1)),
      λ h. step.1 (before.1 (h.0, (more.0 h.1).0), (more.0 h.1).1),
    )

pub and_all-append : (f : Tree) (gs hs : List Tree) → and_all f (gs ++ hs) ≡ and_all (and_all f gs) hs
and_all-append f [] hs = refl
and_all-append f (g ∷ gs) hs = and_all-append (tree.And f g) gs hs

and_nobody : (b : Bool) (k : ℕ) → 0 < k → (b && not (k == 0)) ≡ b
and_nobody true k low = grind (arith, nat_tests)
and_nobody false k low = refl

pub vars_to-without : (seats : ℕ → Seat) (live : ℕ → Bool) (n : ℕ) → vars_to seats (without live 0) n ≡ vars_to seats live n
vars_to-without seats live zero = refl
vars_to-without seats live (suc n) =
    let e : without live 0 (suc n) ≡ live (suc n) = and_nobody (live (suc n)) (suc n) (omega arith) in
    let rest : vars_to seats (without live 0) n ≡ vars_to seats live n = vars_to-without seats live n in
    ap (λ b. if b then vars_to seats (without live 0) n ++ (seats (suc n)).x ∷ (seats (suc n)).y ∷ [] else vars_to seats (without live 0) n) e
    ∙ ap (λ xs. if live (suc n) then xs ++ (seats (suc n)).x ∷ (seats (suc n)).y ∷ [] else xs) rest

-- one man more, who is live
pub vars_pushed : (seats : ℕ → Seat) (live : ℕ → Bool) (n : ℕ) (s : Seat) (old new : List Var) → live (n + 1) ≡ true → s ≡ seats (n + 1)
    → old ≡ vars_to seats live n → new ≡ old ++ s.x ∷ s.y ∷ [] → new ≡ vars_to seats live (n + 1)
vars_pushed seats live n s old new on seat_is old_is new_is =
    let next : n + 1 ≡ suc n = omega arith in
    let here : live (suc n) ≡ true = subst (λ k. live k ≡ true) next on in
    let his : s ≡ seats (suc n) = subst (λ k. s ≡ seats k) next seat_is in
    subst (λ k. new ≡ vars_to seats live k) (sym next)
    (new_is ∙ ap (λ xs. xs ++ s.x ∷ s.y ∷ []) old_is ∙ ap (λ (a : Seat). vars_to seats live n ++ a.x ∷ a.y ∷ []) his
    ∙ sym (ap (λ (b : Bool). if b then vars_to seats live n ++ (seats (suc n)).x ∷ (seats (suc n)).y ∷ [] else vars_to seats live n) here))

-- one man more, who is not
pub vars_passed : (seats : ℕ → Seat) (live : ℕ → Bool) (n : ℕ) (old : List Var) → live (n + 1) ≡ false → old ≡ vars_to seats live n → old ≡ vars_to seats live (n + 1)
vars_passed seats live n old off old_is =
    let next : n + 1 ≡ suc n = omega arith in
    let here : live (suc n) ≡ false = subst (λ k. live k ≡ false) next off in
    subst (λ k. old ≡ vars_to seats live k) (sym next)
    (old_is ∙ sym (ap (λ (b : Bool). if b then vars_to seats live n ++ (seats (suc n)).x ∷ (seats (suc n)).y ∷ [] else vars_to seats live n) here))

-- the lemmas on chains that the code's proofs use
pub ruleset more = (and_all-append, vars_to-without)
