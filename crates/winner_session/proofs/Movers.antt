-- Who moves is one of eight men.
use Rattle.std.proofs.Common.{◌≡◌, inl, inr, ℕ, zero, suc, ◌≤◌, length, Some, None, ap, sym, subst, ◌∙◌, arith}
use Rattle.std.proofs.lemmas.Option.{slice_get_cases}
use Rattle.game_rules.specs.Game.{Legal, Position, man_at}
use Rattle.game_rules.specs.declared.men.Square.{Square}
use Rattle.winning_sets.specs.Reach.{Reach}

-- a position that is reached has as many men as the first
as_many : (p : Position) (ply : ℕ) (q : Position) → Reach p ply q → length q.men ≡ length p.men
as_many p zero q is = ap (λ (x : Position). length x.men) is
as_many p (suc ply) q (before, reached, (i, z, legal)) = legal.step.after.same_count ∙ as_many p ply before reached

by_number : (p q : Position) (z : Square) (j : ℕ) → Legal p j z q → length p.men ≤ 8 → (1 ≤ j) × (j ≤ 8)
by_number p q z zero legal few = absurd (let is : man_at p 0 ≡ Some legal.step.man = legal.step.is_man in cc)
by_number p q z (suc j) legal few = elim (slice_get_cases p.men j).1 [
  | inl (m, low, at, x) ↦ (omega arith, omega (arith, low, few))
  | inr (past, none) ↦ absurd (let no_man : None ≡ Some legal.step.man = sym none ∙ legal.step.is_man in cc)
]

-- where at most eight men stood at first, this is so for each move to a position that is reached
pub mover_number : (first : Position) (ply : ℕ) {p q : Position} {i : ℕ} {z : Square} → length first.men ≤ 8 → Reach first ply q → Legal p i z q → (1 ≤ i) × (i ≤ 8)
mover_number first ply {p} {q} {i} {z} few reached legal =
    let now : length q.men ≤ 8 = subst (λ n. n ≤ 8) (sym (as_many first ply q reached)) few in
    by_number p q z i legal (subst (λ n. n ≤ 8) legal.step.after.same_count now)
