-- The winner's first moves along a ray are those into the sets that are kept after it. The second half is for other crates: where there are none,
-- what they tell of the value, and that a line of them is one.
use Rattle.std.proofs.Common.{◌≡◌, ◌≢◌, inl, inr, ℕ, zero, suc, ◌-◌, ◌*◌, ◌≤◌, Option, Some, None, refl, sym, ap, subst, ◌∙◌, arith}
use Rattle.std.proofs.lemmas.Option.{same_Some}
use Rattle.auto_search.specs.Fews.{HasFew}
use Rattle.auto_search.specs.declared.few.Few.{Few}
use Rattle.auto_search.specs.declared.few.Few.TheVariants.{Zero, One, More}
use Rattle.auto_search.proofs.Tallies.{has-same}
use Rattle.game_rules.specs.declared.men.Man.{Man}
use Rattle.game_rules.specs.declared.men.Place.TheVariants.{Gone}
use Rattle.game_rules.specs.declared.men.Side.{Side}
use Rattle.game_rules.specs.declared.men.Square.{Square}
use Rattle.game_rules.specs.Game.{Position, Legal, Lost, Value, man_at, other}
use Rattle.game_rules.specs.Rays.{ray_of}
use Rattle.game_laws.proofs.SoundLemmas.{other_other}
use Rattle.chess_game.specs.declared.way.Frame.{Frame}
use Rattle.mask_sets.specs.Sets.{HaveAtMost, IsIn, Table}
use Rattle.winning_sets.specs.Claimed.{IsHeld, IsHeldFrom, IsValid}
use Rattle.winning_sets.specs.Kept.{Kept, moves_left}
use Rattle.winning_sets.specs.Solve.{Solution, end_of}
use Rattle.winning_sets.specs.declared.origin.Origin.{Origin}
use Rattle.winning_sets.specs.declared.origin.Origin.TheVariants.{Plan}
use Rattle.winning_sets.proofs.KeptParts.{value_lost}
use Rattle.winning_sets.proofs.WonLemmas.{last_winner}
use Rattle.move_choice.specs.Aims.{AreNext, HasRay}
use Rattle.move_choice.specs.Along.{IsLeastOrNone, LeadsAlong}
use Rattle.move_choice.proofs.Bridges.{led_to}
use Rattle.move_choice.proofs.Tuples.{stands_live}
use Rattle.winner_session.specs.Firsts.{Firsts, FirstsInside, IsFirstLine}
use Rattle.winner_session.specs.Game.{HasRoom}
use Rattle.winner_session.specs.declared.first_line.FirstLine.{FirstLine}
use Rattle.winner_session.proofs.Games.{are_next, held_next, kept_set, next_held, table_of}

-- the sets that are kept after the winner's first move, as they are lent
module _ (s : Solution) (valid : IsValid s) (plan : s.origin ≡ Plan) (turn : s.position.turn ≡ s.winner) (moves : 1 ≤ s.moves) where
  last_is : end_of s ≡ 2 * s.moves
  last_is = last_winner s.winner s.position.turn s.moves turn

  left_is : moves_left (end_of s) 1 ≡ s.moves - 1
  left_is = omega (arith, last_is, moves)

  -- a first move leads into them where the loser is then lost in time
  in_lost : {i : ℕ} {z : Square} {q : Position} → Legal s.position i z q → IsIn (table_of s 1) q → Lost s.winner (s.moves - 1) q
  in_lost {q} legal is =
      let held : IsHeld s 1 q = next_held s valid 0 s.position refl turn legal.step is in
      let kept : Kept s.winner s.position s.moves 1 q = subst (λ (o : Origin). IsHeldFrom o s 1 q) plan held in
      subst (λ n. Lost s.winner n q) left_is (value_lost s.winner (moves_left (end_of s) 1) q (legal.step.after.turn ∙ ap other turn) kept.value)

  lost_in : {i : ℕ} {z : Square} {q : Position} → Legal s.position i z q → Lost s.winner (s.moves - 1) q → IsIn (table_of s 1) q
  lost_in {i} {z} {q} legal lost =
      let kept : Kept s.winner s.position s.moves 1 q = record {
        reached = (s.position, refl, (i, z, legal));
        value = inr (subst (λ n. Lost s.winner n q) (sym left_is) lost);
      } in
      let held : IsHeld s 1 q = subst (λ (o : Origin). IsHeldFrom o s 1 q) (sym plan) kept in
      held_next s valid 0 s.position refl turn (omega (arith, last_is, moves)) legal.step held

  module _ (t : Table) (is : t ≡ table_of s 1) where
    pub first_next : AreNext s.position t
    first_next = subst (AreNext s.position) (sym is) (are_next s valid 0 s.position refl turn)

    pub first_room : (states : ℕ) → HasRoom states s → HaveAtMost states t
    first_room states room = subst (HaveAtMost states) (sym is) (λ mask a at. room 1 mask a (sym (kept_set s 1 mask) ∙ at))

    module _ (T : Square → Type 0) (i n : ℕ) where
      abbrev InSets : ℕ → Type 0
      InSets k = LeadsAlong T (IsIn t) s.position i n k

      abbrev IsLost : ℕ → Type 0
      IsLost k = LeadsAlong T (Lost s.winner (s.moves - 1)) s.position i n k

      sets_lost : (k : ℕ) → InSets k → IsLost k
      sets_lost k w =
          led_to T (Lost s.winner (s.moves - 1)) w w.is_target
          (in_lost w.legal (subst (λ u. IsIn u w.after) is w.is_in))

      lost_sets : (k : ℕ) → IsLost k → InSets k
      lost_sets k w =
          led_to T (IsIn t) w w.is_target
          (subst (λ u. IsIn u w.after) (sym is) (lost_in w.legal w.is_in))

      -- from the position and the numbers that were passed
      pub passed_on : (Of : (ℕ → Type 0) → Type 0) (p : Position) (j m : ℕ) → p ≡ s.position → j ≡ i → m ≡ n → Of (LeadsAlong T (IsIn t) p j m) → Of InSets
      passed_on Of p j m at man ray h =
          subst (λ k. Of (LeadsAlong T (IsIn t) s.position i k)) ray
          (subst (λ k. Of (LeadsAlong T (IsIn t) s.position k m)) man (subst (λ (q : Position). Of (LeadsAlong T (IsIn t) q j m)) at h))

      pub firsts_few : (few : Few) → HasFew few InSets → HasFew few IsLost
      firsts_few few has = has-same few InSets IsLost has sets_lost lost_sets

      pub firsts_least : (o : Option ℕ) → IsLeastOrNone InSets o → IsLeastOrNone IsLost o
      firsts_least None none = λ k w. none k (lost_sets k w)
      firsts_least (Some k) is_least = record { has = sets_lost k is_least.has; least = λ n w. is_least.least n (lost_sets n w) }

-- a man with a first move along a ray is a live man of the side to move, and that ray is one of his
pub firsts_ray : (winner : Side) (n : ℕ) (p : Position) (man ray distance : ℕ) → Firsts winner n p man ray distance → HasRay p man ray
firsts_ray winner n p man ray distance w =
    let his : w.legal.step.man ≡ w.him = same_Some w.legal.step.man w.him (sym w.legal.step.is_man ∙ w.is_man) in (
      w.on.ray,
      record { man = w.him; is_man = w.is_man; turn = subst (λ m. m.side ≡ p.turn) his w.legal.step.his_turn; square = w.from; stands = w.stands; is_ray = w.on.is_ray },
    )

module _ (winner : Side) (n : ℕ) (p : Position) (man : ℕ) where
  module _ (m : Man) (is : man_at p man ≡ Some m) where
    -- a man who is captured or of the other side has no first move
    pub firsts_idle : ((m.side ≡ p.turn) × (m.place ≢ Gone) → ⊥) → (ray distance : ℕ) → Firsts winner n p man ray distance → ⊥
    firsts_idle idle ray distance w =
        let mover = (firsts_ray winner n p man ray distance w).1 in
        let same : mover.man ≡ m = same_Some mover.man m (sym mover.is_man ∙ is) in
        idle (subst (λ k. k.side ≡ p.turn) same mover.turn, subst (λ k. k.place ≢ Gone) same (stands_live mover.man mover.square mover.stands))

    -- nor along a ray past his last
    pub firsts_past : (ray : ℕ) → ray_of m.kind m.side ray ≡ None → (distance : ℕ) → Firsts winner n p man ray distance → ⊥
    firsts_past ray past distance w =
        let same : w.him ≡ m = same_Some w.him m (sym w.is_man ∙ is) in
        let here : ray_of m.kind m.side ray ≡ Some w.on.ray = subst (λ k. ray_of k.kind k.side ray ≡ Some w.on.ray) same w.on.is_ray in
        let no : None ≡ Some w.on.ray = sym past ∙ here in
        cc

-- where there is one, the winner mates in time
pub firsts_value : (winner : Side) (n : ℕ) (p : Position) (man ray distance : ℕ) → 1 ≤ n → Firsts winner n p man ray distance → Value winner n p
firsts_value winner zero p man ray distance some w = absurd (omega (arith, some))
firsts_value winner (suc n) p man ray distance some w =
    let less : suc n - 1 ≡ n = omega arith in
    let his : p.turn ≡ winner = sym (other_other p.turn) ∙ (ap other (sym w.legal.step.after.turn ∙ w.is_in.0) ∙ other_other winner) in
    inl (his, (man, w.to, w.after, w.legal, subst (λ k. Lost winner k w.after) less w.is_in))

-- a set has only one of these sizes
few_once : (a b : Few) (P : ℕ → Type 0) → HasFew a P → HasFew b P → a ≡ b
few_once Zero Zero P h k = refl
few_once One One P h k = refl
few_once More More P h k = refl
few_once Zero One P h k = absurd (h k.0 k.1)
few_once Zero More P h k = absurd (h k.0 k.3)
few_once One Zero P h k = absurd (k h.0 h.1)
few_once More Zero P h k = absurd (k h.0 h.3)
few_once One More P h k = absurd (let first = h.2 k.0 k.3 in let second = h.2 k.1 k.4 in let less = k.2 in omega (arith, first, second, less))
few_once More One P h k = absurd (let first = k.2 h.0 h.3 in let second = k.2 h.1 h.4 in let less = h.2 in omega (arith, first, second, less))

-- and one least number, or none
least_once : (P : ℕ → Type 0) (a b : Option ℕ) → IsLeastOrNone P a → IsLeastOrNone P b → a ≡ b
least_once P None None h k = refl
least_once P None (Some n) h k = absurd (h n k.has)
least_once P (Some n) None h k = absurd (k n h.has)
least_once P (Some m) (Some n) h k =
    let low = h.least n k.has in
    let high = k.least m h.has in
    let same : m ≡ n = omega (arith, low, high) in
    ap (λ t. Some t) same

-- a line has some distance
pub line_first : {frame : Frame} {winner : Side} {n : ℕ} {p : Position} {man ray : ℕ} {line : FirstLine} → IsFirstLine frame winner n p man ray line
    → (distance : ℕ) × Firsts winner n p man ray distance
line_first {winner} {n} {p} {man} {ray} {line} h = by line.few h.some h.few
  where
    by : (few : Few) → few ≢ Zero → HasFew few (Firsts winner n p man ray) → (distance : ℕ) × Firsts winner n p man ray distance
    by Zero some has = absurd (some refl)
    by One some has = (has.0, has.1)
    by More some has = (has.0, has.3)

-- and a line of a man, a ray and a frame is one
pub line_once : {frame : Frame} {winner : Side} {n : ℕ} {p : Position} {man ray : ℕ} {a b : FirstLine}
    → IsFirstLine frame winner n p man ray a → IsFirstLine frame winner n p man ray b → a ≡ b
line_once {frame} {winner} {n} {p} {man} {ray} {a} {b} h k =
    let him : h.him ≡ k.him = same_Some h.him k.him (sym h.is_man ∙ k.is_man) in
    let step : h.step ≡ k.step = same_Some h.step k.step (subst (λ m. Some h.step ≡ ray_of m.kind m.side ray) him (sym h.is_ray) ∙ k.is_ray) in
    let least : a.least ≡ b.least = least_once (FirstsInside frame winner n p man ray) a.least b.least h.least k.least in
    let few : a.few ≡ b.few = few_once a.few b.few (Firsts winner n p man ray) h.few k.few in
    let man_is : a.man ≡ b.man = h.man_is ∙ sym k.man_is in
    let dx : a.dx ≡ b.dx = h.dx_is ∙ (ap (λ r. r.dx) step ∙ sym k.dx_is) in
    let dy : a.dy ≡ b.dy = h.dy_is ∙ (ap (λ r. r.dy) step ∙ sym k.dy_is) in
    ap (λ i. record { man = i; dx = a.dx; dy = a.dy; least = a.least; few = a.few }) man_is
    ∙ (ap (λ d. record { man = b.man; dx = d; dy = a.dy; least = a.least; few = a.few }) dx
    ∙ (ap (λ d. record { man = b.man; dx = b.dx; dy = d; least = a.least; few = a.few }) dy
    ∙ (ap (λ o. record { man = b.man; dx = b.dx; dy = b.dy; least = o; few = a.few }) least
    ∙ ap (λ f. record { man = b.man; dx = b.dx; dy = b.dy; least = b.least; few = f }) few)))
