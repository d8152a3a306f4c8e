-- Fronts of heads, and the distances that heads meet.
use Rattle.std.proofs.Common.{◌≡◌, ℕ, zero, suc, ◌+◌, ◌-◌, ◌*◌, ◌/◌, ◌%◌, ◌^◌, ◌<◌, ◌≤◌, Bool, true, false, List, [], ◌∷◌, length, get_or, Option, None, option_map, arith, inl, inr, sym, ap, ◌∙◌, subst}
use Rattle.std.proofs.lemmas.Bool.{cases_eq}
use Rattle.std.proofs.lemmas.Nat.{mod_below, pow_pos}
use Rattle.std.proofs.Math.Nat.{div-add-mod, mul_comm}
use Rattle.track_word.specs.Word.{BitsSpell, RepeatKeepsValues, EqualValuesEqualWords}
use Rattle.track_word.proofs.Spelling.{integer_bit-lt}
use Rattle.auto_core.specs.Automaton.{Automaton, IsAutomaton, next_state}
use Rattle.auto_core.specs.Integers.{DecidesIntegers}
use Rattle.auto_search.specs.declared.ray.TrackRay.{TrackRay}
use Rattle.auto_search.specs.declared.few.Few.{Few}
use Rattle.auto_search.specs.Fews.{HasFew}
use Rattle.auto_search.specs.declared.tuple_ray.TupleRay.{TupleRay}
use Rattle.auto_search.specs.TupleRay.{IsTupleRay, IsHit, HasHits}
use Rattle.auto_search.specs.Bits.{number, sum_at, letter_at, carry, slot_of, IsRay}
use Rattle.auto_search.specs.Search.{Suits, IsStep, IsStart, Leads}
use Rattle.auto_search.specs.Heads.{IsTrimmed, head_number, read, IsOpened}
use Rattle.auto_search.specs.Met.{IsSlot, Meets}
use Rattle.auto_search.proofs.Sums.{added-le, carry-le}
use Rattle.auto_search.proofs.Fronts.{slot-parts}
use Rattle.auto_search.proofs.Carries.{whole}
use Rattle.auto_search.proofs.Hits.{bits-for}
use Rattle.auto_search.proofs.Heads.{head-decides}
use Rattle.auto_search.proofs.Counts.{Raised, raised-has}
use Rattle.auto_search.proofs.Tallies.{has-same}

-- the front of a head
pub record IsHeadFront (a : Automaton) (ray : TrackRay) (head : List Bool) (front : List (Option ℕ)) : Type 0 where
  pub at : (slot : ℕ) → slot < 9 → IsSlot ray slot → get_or front slot None ≡ read a ray head (slot / 3) (slot % 3)

head-start : {a : Automaton} {ray : TrackRay} {front : List (Option ℕ)} → IsStart a ray front → IsHeadFront a ray [] front
head-start is = record { at = λ slot small fits. is.at slot small }

head-step : {a : Automaton} {ray : TrackRay} (suits : Suits a ray) {head : List Bool} {bit : Bool} {front after : List (Option ℕ)}
    → IsHeadFront a ray head front → IsStep a ray ray.top bit front after → IsHeadFront a ray (bit ∷ head) after
head-step {a} {ray} suits {bit} is step = record {
  at = λ slot small fits.
      let sx = sum_at ray.x ray.top (slot / 3) bit in
      let sy = sum_at ray.y ray.top (slot % 3) bit in
      let fx = fits.0 in
      let fy = fits.1 in
      let bx = integer_bit-lt ray.x.base ray.top in
      let by = integer_bit-lt ray.y.base ray.top in
      let wx = added-le ray.x bit in
      let wy = added-le ray.y bit in
      let xs = suits.x_small in
      let ys = suits.y_small in
      let px : sx / 2 ≤ ray.x.zero + ray.x.one = omega (arith, fx, bx, wx) in
      let py : sy / 2 ≤ ray.y.zero + ray.y.one = omega (arith, fy, by, wy) in
      let parts = slot-parts (sx / 2) (sy / 2) (omega (arith, py, ys)) in
      let above = is.at (3 * (sx / 2) + sy / 2) (omega (arith, px, py, xs, ys)) (rw parts.0 px, rw parts.1 py) in
      let above' = rw (parts.0, parts.1) at above in
      step.at slot small fx fy ∙ ap (option_map (λ (state : ℕ). next_state a state (letter_at ray ray.top sx sy))) above';
}

pub opened-steps : {a : Automaton} {ray : TrackRay} (suits : Suits a ray) (f0 f1 f2 f3 : List (Option ℕ)) → IsStart a ray f0
    → IsStep a ray ray.top false f0 f1 → IsStep a ray ray.top false f1 f2 → IsStep a ray ray.top false f2 f3 → IsOpened a ray f3
opened-steps suits f0 f1 f2 f3 s0 s1 s2 s3 =
    let h = head-step suits (head-step suits (head-step suits (head-start s0) s1) s2) s3 in
    record { at = λ slot small x y. h.at slot small (x, y); only = s3.only }

-- the head of a number
trimmed-for : (fuel n : ℕ) → n ≤ fuel → (h : List Bool) × IsTrimmed h × (head_number h ≡ n)
trimmed-for zero n f = ([], tt, omega (arith, f))
trimmed-for (suc fuel) n f = elim (cases_eq n 0) [
  | inl z ↦ ([], tt, sym z)
  | inr some ↦
      let r = trimmed-for fuel (n / 2) (omega (arith, f, some)) in
      let e = r.2 in
      elim (cases_eq (n % 2) 0) [
        | inl even ↦ (false ∷ r.0, (r.1, omega (arith, e, even, some)), omega (arith, e, even))
        | inr odd ↦ (true ∷ r.0, (r.1, omega arith), omega (arith, e, odd))
      ]
]

module _ (a : Automaton) (valid : IsAutomaton a) (decides : DecidesIntegers a) (spell : BitsSpell) (keeps : RepeatKeepsValues) (equal : EqualValuesEqualWords)
    (way : TupleRay) (ray : TrackRay) (is_tuple_ray : IsTupleRay way) (is : IsRay way 1 0 ray) (count : length way.fixed.now ≡ length a.tracks) (suits : Suits a ray) where
  slot-carries : (lo : List Bool) → (slot_of ray lo / 3 ≡ carry ray.x lo) × (slot_of ray lo % 3 ≡ carry ray.y lo)
  slot-carries lo =
      let hy = carry-le ray.y lo in
      let sy = suits.y_small in
      slot-parts (carry ray.x lo) (carry ray.y lo) (omega (arith, hy, sy))

  same-whole : (head lo : List Bool) → length lo ≡ ray.top → whole (head_number head) lo ≡ head_number head * 2 ^ ray.top + number lo
  same-whole head lo size = ap (λ k. head_number head * 2 ^ k + number lo) size

  to-hit : (t : ℕ) → Raised 1 (Meets a ray) t → (1 ≤ t) × IsHit a way t
  to-hit t (n, e, m) =
      let d = head-decides a valid decides spell keeps equal way 1 ray is_tuple_ray is count m.head m.lo m.size in
      let parts = slot-carries m.lo in
      let reads = rw (parts.0, parts.1) at m.reads in
      let same : m.state ≡ d.0 = let x = sym reads ∙ d.1.reads in cc in
      let hit = d.1.to (subst (λ q. Leads a ray q m.lo) same m.leads) in
      let where_is : 1 + whole (head_number m.head) m.lo ≡ t = ap (λ k. 1 + k) (same-whole m.head m.lo m.size ∙ sym m.is) ∙ sym e in
      (omega (arith, e), rw where_is at hit)

  from-hit : (t : ℕ) → (1 ≤ t) × IsHit a way t → Raised 1 (Meets a ray) t
  from-hit t (some, hit) =
      let n = t - 1 in
      let h = trimmed-for (n / 2 ^ ray.top) (n / 2 ^ ray.top) (omega arith) in
      let l = bits-for ray.top (n % 2 ^ ray.top) (mod_below n (2 ^ ray.top) (pow_pos ray.top)) in
      let eh = h.2 in
      let el = l.2 in
      let total : n ≡ head_number h.0 * 2 ^ ray.top + number l.0 = rw (eh, el) (let h = div-add-mod n (2 ^ ray.top) in let c = mul_comm (n / 2 ^ ray.top) (2 ^ ray.top) in omega (arith, h, c)) in
      let where_is : 1 + whole (head_number h.0) l.0 ≡ t = ap (λ k. 1 + k) (same-whole h.0 l.0 l.1 ∙ sym total) ∙ (let z : 1 + n ≡ t = omega (arith, some) in z) in
      let d = head-decides a valid decides spell keeps equal way 1 ray is_tuple_ray is count h.0 l.0 l.1 in
      let parts = slot-carries l.0 in (
        n,
        (let z : t ≡ 1 + n = omega (arith, some) in z),
        record {
          head = h.0;
          trimmed = h.1;
          lo = l.0;
          size = l.1;
          is = total;
          state = d.0;
          reads = rw (parts.0, parts.1) d.1.reads;
          leads = d.1.from (rw where_is hit);
        },
      )

  -- what heads meet are the distances, less one
  pub hits-counted : (few : Few) → HasFew few (Meets a ray) → HasHits a way few
  hits-counted few h = has-same few (Raised 1 (Meets a ray)) (λ t. (1 ≤ t) × IsHit a way t) (raised-has few 1 (Meets a ray) h) to-hit from-hit
