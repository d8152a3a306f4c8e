-- The live men after a move are determined by the live men before it.
use Rattle.std.proofs.Common.{◌≡◌, ◌≢◌, ◌⊎◌, inl, inr, ℕ, zero, suc, ◌<◌, List, [], ◌∷◌, length, Some, None, slice_get, refl, sym, ap, ◌∙◌, arith, ℤ}
use Rattle.std.proofs.lemmas.Option.{same_Some}
use Rattle.game_rules.specs.Game.{IsAfter, IsLeftBy, Position, StandsOn, man_at, place_square}
use Rattle.game_rules.specs.declared.men.Man.{Man}
use Rattle.game_rules.specs.declared.men.Place.{Place}
use Rattle.game_rules.specs.declared.men.Place.TheVariants.{Gone, At}
use Rattle.game_rules.specs.declared.men.Square.{Square}
use Rattle.game_laws.proofs.MoveLemmas.{stands_or_not}
use Rattle.stock_position.specs.Live.{live_men, with_live}
use Rattle.stock_laws.proofs.LiveLists.{rank, rank_step}

abbrev pub keep_if : {A B : Type 0} → A ⊎ B → Man → List Man → List Man
keep_if (inl h) m l = l
keep_if (inr n) m l = m ∷ l

-- the men who do not stand on z
abbrev pub kept : Square → List Man → List Man
kept z [] = []
kept z (m ∷ l) = keep_if (stands_or_not m z) m (kept z l)

-- the live men after the man of this number among them, counted from 0, has gone to z
abbrev pub moved_live : List Man → ℕ → Square → List Man
moved_live [] k z = []
moved_live (m ∷ l) zero z = record m { place = At z.x z.y } ∷ kept z l
moved_live (m ∷ l) (suc k) z = keep_if (stands_or_not m z) m (moved_live l k z)

-- one man who is left, before others
left_gone : (z : Square) (m r : Man) → IsLeftBy z m r → m.place ≡ Gone → (rest to : List Man) → rest ≡ to → with_live r.place r rest ≡ to
left_gone z m r left is rest to e =
    let off : StandsOn m z → ⊥ = λ s. let none : None ≡ Some z = sym (ap place_square is) ∙ s in cc in
    ap (λ (n : Man). with_live n.place n rest) (left.kept off) ∙ ap (λ a. with_live a m rest) is ∙ e

left_at : (z : Square) (m r : Man) {x y : ℤ} → IsLeftBy z m r → m.place ≡ At x y → (rest to : List Man) → rest ≡ to
    → with_live r.place r rest ≡ keep_if (stands_or_not m z) m to
left_at z m r left is rest to e =
    elim (stands_or_not m z) as (λ d. with_live r.place r rest ≡ keep_if d m to) [
      | inl s ↦ ap (λ (n : Man). with_live n.place n rest) (left.taken s) ∙ e
      | inr off ↦ ap (λ (n : Man). with_live n.place n rest) (left.kept off) ∙ ap (λ a. with_live a m rest) is ∙ ap (λ l. m ∷ l) e
    ]

one_left : (z : Square) (m r : Man) (a : Place) → m.place ≡ a → IsLeftBy z m r → (before after : List Man) → after ≡ kept z before
    → with_live r.place r after ≡ kept z (with_live a m before)
one_left z m r Gone is left before after e = left_gone z m r left is after (kept z before) e
one_left z m r (At x y) is left before after e = left_at z m r left is after (kept z before) e

pub all_left : (z : Square) (ms rs : List Man) → length rs ≡ length ms
    → ((k : ℕ) (m n : Man) → slice_get ms k ≡ Some m → slice_get rs k ≡ Some n → IsLeftBy z m n) → live_men rs ≡ kept z (live_men ms)
all_left z [] [] len each = refl
all_left z [] (r ∷ rs) len each = absurd (omega (arith, len))
all_left z (m ∷ ms) [] len each = absurd (omega (arith, len))
all_left z (m ∷ ms) (r ∷ rs) len each =
    one_left z m r m.place refl (each zero m r refl refl) (live_men ms) (live_men rs)
    (all_left z ms rs (omega (arith, len)) (λ k a b is_a is_b. each (suc k) a b is_a is_b))

one_passed : (z : Square) (m r : Man) (a : Place) → m.place ≡ a → IsLeftBy z m r → (before after : List Man) (k : ℕ) → after ≡ moved_live before k z
    → with_live r.place r after ≡ moved_live (with_live a m before) (rank_step a k) z
one_passed z m r Gone is left before after k e = left_gone z m r left is after (moved_live before k z) e
one_passed z m r (At x y) is left before after k e = left_at z m r left is after (moved_live before k z) e

one_moved : (z : Square) (m : Man) (a : Place) → a ≢ Gone → (before after : List Man) → after ≡ kept z before
    → record m { place = At z.x z.y } ∷ after ≡ moved_live (with_live a m before) zero z
one_moved z m Gone live before after e = absurd (live refl)
one_moved z m (At x y) live before after e = ap (λ l. record m { place = At z.x z.y } ∷ l) e

moved : (z : Square) (ms rs : List Man) (j : ℕ) (m : Man) → length rs ≡ length ms → slice_get ms j ≡ Some m → m.place ≢ Gone
    → slice_get rs j ≡ Some (record m { place = At z.x z.y })
    → ((k : ℕ) (a b : Man) → k ≢ j → slice_get ms k ≡ Some a → slice_get rs k ≡ Some b → IsLeftBy z a b)
    → live_men rs ≡ moved_live (live_men ms) (rank ms j) z
moved z [] rs j m len is live mover others = absurd (let e : None ≡ Some m = is in cc)
moved z (x ∷ ms) [] j m len is live mover others = absurd (omega (arith, len))
moved z (x ∷ ms) (r ∷ rs) zero m len is live mover others =
    let same : x ≡ m = same_Some x m is in
    let his : r ≡ record m { place = At z.x z.y } = same_Some r (record m { place = At z.x z.y }) mover in
    let rest = all_left z ms rs (omega (arith, len)) (λ k a b is_a is_b. others (suc k) a b (λ e. absurd (omega (arith, e))) is_a is_b) in
    let alive : x.place ≢ Gone = λ e. live (sym (ap (λ (a : Man). a.place) same) ∙ e) in
    ap (λ (n : Man). with_live n.place n (live_men rs)) (his ∙ ap (λ (n : Man). record n { place = At z.x z.y }) (sym same))
    ∙ one_moved z x x.place alive (live_men ms) (live_men rs) rest
moved z (x ∷ ms) (r ∷ rs) (suc j) m len is live mover others =
    let rest = moved z ms rs j m (omega (arith, len)) is live mover (λ k a b ne is_a is_b. others (suc k) a b (λ e. ne (omega (arith, e))) is_a is_b) in
    one_passed z x r x.place refl (others zero x r (λ e. absurd (omega (arith, e))) refl refl) (live_men ms) (live_men rs) (rank ms j) rest

pub live_after : {p r : Position} {z : Square} (i : ℕ) (m : Man) → IsAfter p (suc i) z r → man_at p (suc i) ≡ Some m → m.place ≢ Gone
    → live_men r.men ≡ moved_live (live_men p.men) (rank p.men i) z
live_after {p} {r} {z} i m after is live =
    moved z p.men r.men i m after.same_count is live (after.mover m is) (λ k a b ne is_a is_b. after.others (suc k) a b (λ e. ne (omega (arith, e))) is_a is_b)
