use Rattle.std.proofs.Common.{◌≡◌, ℕ, ◌+◌, ◌-◌, ◌*◌, ◌^◌, ◌<◌, ◌≤◌, arith, inl, inr, subst}
use Rattle.std.specs.Int.Count.{count_leading_zeros}
use Rattle.std.proofs.lemmas.Bool.{cases_lt}
use Rattle.std.proofs.lemmas.Nat.{leading_length}
use Rattle.auto_search.proofs.Fronts.{pow_le}
use Rattle.auto_search.proofs.ray.bits_of.Goals as goal

-- the bits of a number hold it, and no bit is too many
length-bits : (number : ℕ) → number < 2 ^ 67
    → (number < 2 ^ (128 - count_leading_zeros 128 number)) × (2 ^ (128 - count_leading_zeros 128 number) ≤ 2 * number + 1) × (128 - count_leading_zeros 128 number ≤ 67)
length-bits number h =
    let l = leading_length 128 number (omega (arith, h)) in
    let sum = l.1 in
    let low = l.3 in
    let e : l.0 ≡ 128 - count_leading_zeros 128 number = omega (arith, sum) in
    let few : l.0 ≤ 67 = elim (cases_lt l.0 68) [ inl below ↦ omega (arith, below) | inr past ↦ let p = pow_le 68 l.0 past in absurd (omega (arith, p, low, h)) ] in
    subst (λ n. (number < 2 ^ n) × (2 ^ n ≤ 2 * number + 1) × (n ≤ 67)) e (l.2, low, few)

pub returns-clause-enough : goal.returns-clause-enough
returns-clause-enough c = (length-bits c.args.number c.requires).0

pub returns-clause-needed : goal.returns-clause-needed
returns-clause-needed c = (length-bits c.args.number c.requires).1

pub returns-clause-few : goal.returns-clause-few
returns-clause-few c = (length-bits c.args.number c.requires).2
