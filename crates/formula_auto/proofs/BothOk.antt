-- Two facts of what a call answers.
use Rattle.std.proofs.Common.{Result, Ok, Err, IfOk, IfErr}

pub both_ok : {T E : Type 0} (r : Result T E) (P Q R : T → Type 0) → ((x : T) → P x → Q x → R x) → IfOk r P → IfOk r Q → IfOk r R
both_ok (Ok x) P Q R f p q = f x p q
both_ok (Err e) P Q R f p q = p

-- what follows of either answer
pub either_way : {T E R : Type 0} (r : Result T E) (P : T → Type 0) (Q : E → Type 0) → ((x : T) → P x → R) → ((e : E) → Q e → R) → IfOk r P → IfErr r Q → R
either_way (Ok x) P Q f g p q = f x p
either_way (Err e) P Q f g p q = g e q
