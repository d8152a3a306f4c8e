-- How many bytes are written.
use Rattle.std.proofs.Common.{◌≡◌, ℕ, zero, suc, ◌+◌, ◌*◌, ◌^◌, ◌<◌, ◌≤◌, List, ◌∷◌, ◌++◌, length, drop, Some, refl, ap, sym, ◌∙◌, arith, add-one, drop-cons, lit<}
use Rattle.std.specs.Prelude.{slice_get}
use Rattle.std.proofs.lemmas.List.Concat.{flat_map-cons}
use Rattle.std.proofs.lemmas.Option.{get_or_from_slice_get, slice_get_within}
use Rattle.game_rules.specs.Game.{Position, man_at}
use Rattle.game_rules.specs.declared.men.Man.{Man}
use Rattle.std.proofs.Math.Nat.{pow-le-pow_right, mul-le-mul_left}
use Rattle.std.specs.List.{flat_map, range_with_len}
use Rattle.std.specs.Int.{w32, to_be_bytes}
use Rattle.std.proofs.lemmas.List.{length-append}
use Rattle.auto_core.specs.Automaton.{Automaton, first_state, next_state, width}
use Rattle.mate_plan.specs.Claim.{Claim, ClaimedSet}
use Rattle.strategy_file.specs.declared.version.Version.TheVariants as versions
use Rattle.strategy_writer.specs.Written.{written_dense, start_bytes, man_bytes, row_bytes, state_bytes, table_bytes, set_bytes}

-- as many bytes for each number of a range
range_length : (f : ℕ → List ℕ) (m : ℕ) → ((k : ℕ) → length (f k) ≡ m) → (a n : ℕ) → length (flat_map f (range_with_len a n)) ≡ n * m
range_length f m each a zero = omega arith
range_length f m each a (suc n) =
    let whole = length-append (f a) (flat_map f (range_with_len (a + 1) n)) in
    let here = each a in
    let rest = range_length f m each (a + 1) n in
    whole ∙ rw (here, rest) (omega arith)

row_length : (letters : ℕ) (state : ℕ → ℕ) → length (row_bytes letters state) ≡ letters * 4
unfolding row_bytes
row_length letters state = range_length (λ letter. to_be_bytes w32 (state letter)) 4 (λ k. refl) 0 letters

state_length : (a : Automaton) (state : ℕ) → length (state_bytes a state) ≡ 1 + width a * 4
unfolding state_bytes
state_length a state = let r = row_length (width a) (next_state a state) in omega (arith, r)

table_length : (a : Automaton) → length (table_bytes a) ≡ 4 + width a * 4 + length a.accept * (1 + width a * 4)
unfolding table_bytes
table_length a =
    let front = length-append (to_be_bytes w32 (length a.accept)) (row_bytes (width a) (first_state a)) in
    let whole = length-append (to_be_bytes w32 (length a.accept) ++ row_bytes (width a) (first_state a)) (flat_map (state_bytes a) (range_with_len 0 (length a.accept))) in
    let row = row_length (width a) (first_state a) in
    let states = range_length (state_bytes a) (1 + width a * 4) (state_length a) 0 (length a.accept) in
    whole ∙ rw (front, row, states) refl

pub set_bytes_length : (c : ClaimedSet) → length (set_bytes c) ≡ 6 + width c.set * 4 + length c.set.accept * (1 + width c.set * 4)
unfolding set_bytes
set_bytes_length c = let t = table_length c.set in omega (arith, t)

pub set_length_is : (c : ClaimedSet) (row states : ℕ) → row ≡ 4 * width c.set → states ≡ length c.set.accept → 6 + row + states * (1 + row) ≡ length (set_bytes c)
set_length_is c row states r s =
    let w : row ≡ width c.set * 4 = omega (arith, r) in
    let l = set_bytes_length c in
    rw (w, s) (sym l)

pub set_length_bound : (tracks letters states : ℕ) → tracks ≤ 20 → letters ≡ 2 ^ tracks → states < 2 ^ 31 → 6 + 4 * letters + states * (1 + 4 * letters) < 2 ^ 60
set_length_bound tracks letters states few is below =
    let power : 2 ^ tracks ≤ 2 ^ 20 = pow-le-pow_right {n = 2} (lit< tt) few in
    let wide : letters ≤ 2 ^ 20 = omega (arith, is, power) in
    let a : states * (1 + 4 * letters) ≤ states * (1 + 4 * 2 ^ 20) = mul-le-mul_left states (omega (arith, wide)) in
    omega (arith, wide, a, below)

pub written_length : (c : Claim) (men sets : ℕ) → men ≡ length (flat_map man_bytes c.position.men) → sets ≡ length (flat_map set_bytes c.sets) → 8 + men + sets ≡ length (written_dense c)
unfolding written_dense start_bytes
written_length c men sets m s =
    let whole = length-append (start_bytes versions.Dense c.winner c.position c.moves) (flat_map set_bytes c.sets) in
    omega (arith, whole, m, s)

-- one man more
pub men_step : (p : Position) (n : ℕ) (m : Man) (total step whole : ℕ) → man_at p (n + 1) ≡ Some m
    → step ≡ length (man_bytes m) → total + length (flat_map man_bytes (drop n p.men)) ≡ whole
    → (total + step) + length (flat_map man_bytes (drop (n + 1) p.men)) ≡ whole
men_step p n m total step whole is size so_far =
    let there : slice_get p.men n ≡ Some m = rw add-one at is in
    let same = get_or_from_slice_get p.men n m m there in
    let front : drop n p.men ≡ m ∷ drop (n + 1) p.men = rw add-one (drop-cons p.men n m (slice_get_within p.men n m there) ∙ ap (λ x. x ∷ drop (suc n) p.men) same) in
    let cons = flat_map-cons man_bytes m (drop (n + 1) p.men) in
    let both = length-append (man_bytes m) (flat_map man_bytes (drop (n + 1) p.men)) in
    let e : length (flat_map man_bytes (drop n p.men)) ≡ length (man_bytes m) + length (flat_map man_bytes (drop (n + 1) p.men)) =
    ap (λ l. length (flat_map man_bytes l)) front ∙ ap length cons ∙ both in
    omega (arith, e, size, so_far)
