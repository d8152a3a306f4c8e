-- Plies, one after another.
use Rattle.std.proofs.Common.{◌≡◌, ℕ, suc, ◌+◌, ◌*◌, ◌-◌, ◌<◌, List, ◌++◌, ap, sym, ◌∙◌, append_assoc, arith}
use Rattle.std.specs.List.{flat_map}
use Rattle.std.proofs.lemmas.List.Concat.{flat_map-cons}
use Rattle.mate_plan.specs.Claim.{every_second}

pub next_ply : {P : Type 0} (f : ℕ → List P) (places : List P) (first count i : ℕ) (total : List P) → i < count
    → places ++ flat_map f (every_second (first + 2 * i) (count - i)) ≡ total → (places ++ f (first + 2 * i)) ++ flat_map f (every_second (first + 2 * (i + 1)) (count - (i + 1))) ≡ total
next_ply f places first count i total lt so_far =
    let k : count - i ≡ suc (count - (i + 1)) = omega arith in
    let p : first + 2 * (i + 1) ≡ first + 2 * i + 2 = omega arith in
    append_assoc places (f (first + 2 * i)) (flat_map f (every_second (first + 2 * (i + 1)) (count - (i + 1))))
    ∙ ap (λ n. places ++ (f (first + 2 * i) ++ flat_map f (every_second n (count - (i + 1))))) p
    ∙ ap (λ ps. places ++ ps) (sym (flat_map-cons f (first + 2 * i) (every_second (first + 2 * i + 2) (count - (i + 1)))))
    ∙ ap (λ n. places ++ flat_map f (every_second (first + 2 * i) n)) (sym k) ∙ so_far
