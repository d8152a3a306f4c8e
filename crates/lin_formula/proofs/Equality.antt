-- What `==` says of variables and terms.
use Rattle.std.proofs.Common.{◌≡◌, ℕ, ℤ, ◌&&◌, ap}
use Rattle.std.specs.Prelude.{◌==◌}
use Rattle.std.specs.Ordering.{int_eq}
use Rattle.std.specs.Bool.{Decides}
use Rattle.std.proofs.lemmas.Bool.Decides.{Decides-eqb, Decides-int_eq, Decides-like, Decides-and}
use Rattle.track_word.specs.declared.tracks.Var.{Var}

pub same_var : (a b : Var) → Decides (a.0 == b.0) (a ≡ b)
same_var a b =
    let var : ℕ → Var = λ n. record { 0 = n } in
    Decides-like (a.0 == b.0) (λ e. ap var e) (λ e. ap (λ (v : Var). v.0) e) (Decides-eqb a.0 b.0)

pub same_term : (a b : ℤ × Var) → Decides (int_eq a.0 b.0 && (a.1.0 == b.1.0)) (a ≡ b)
same_term a b =
    Decides-like (int_eq a.0 b.0 && (a.1.0 == b.1.0)) (λ p. λ i. (p.0 i, p.1 i)) (λ e. (ap (λ (t : ℤ × Var). t.0) e, ap (λ (t : ℤ × Var). t.1) e))
    (Decides-and (int_eq a.0 b.0) (a.1.0 == b.1.0) (Decides-int_eq a.0 b.0) (same_var a.1 b.1))
