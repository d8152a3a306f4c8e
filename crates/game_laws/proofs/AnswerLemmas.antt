-- In check, one square on each ray decides whether it is mate.
use Rattle.std.proofs.Common.{◌≡◌, ◌≢◌, ◌↔◌, ◌⊎◌, inl, inr, ℕ, zero, suc, ◌<◌, ◌+◌, ◌*◌, ◌/◌, ℤ, pos, negsuc, ◌+ℤ◌, ◌-ℤ◌, ◌*ℤ◌, unsigned_abs, true, Option, Some, None, sym, ap, subst, ◌∙◌, arith, refl}
use Rattle.std.specs.Prelude.{IsSomeAnd}
use Rattle.std.specs.List.{Any}
use Rattle.std.proofs.lemmas.Int.{ints}
use Rattle.std.proofs.lemmas.Option.{get_or_from_slice_get, same_Some, slice_get_within}
use Rattle.std.proofs.Math.Nat.{mul-div_cancel}
use Rattle.game_rules.specs.declared.men.Kind.{Kind}
use Rattle.game_rules.specs.declared.men.Kind.TheVariants.{King}
use Rattle.game_rules.specs.declared.men.Man.{Man}
use Rattle.game_rules.specs.declared.men.Ray.{Ray}
use Rattle.game_rules.specs.declared.men.Side.{Side}
use Rattle.game_rules.specs.declared.men.Square.{Square}
use Rattle.game_rules.specs.Game.{Position, Attacked, InCheck, IsBetween, IsDirection, IsLiveAnd, IsOpen, Legal, Mate, Sound, StandsOn, after_steps, man_at, other, square_of}
use Rattle.game_rules.specs.Rays.{ray_of, rays_of}
use Rattle.game_laws.specs.Answer.{CanGo, HasAnswer, IsCheckFrom, answer_square, answer_steps, cross, distance, off_line, steps_to, toward_x, toward_y}
use Rattle.game_laws.specs.OnRay.{IsOnOneRay}
use Rattle.game_laws.specs.Reach.{HasReach}
use Rattle.game_laws.proofs.OpenLemmas.{bears_openly}
use Rattle.game_laws.proofs.SoundLemmas.{any_at, live_at}
use Rattle.game_laws.proofs.LineLemmas.{IsOnWay, on_way, steps_distance, steps_toward_x, steps_toward_y, toward}
use Rattle.game_laws.proofs.CrossLemmas.{IsOpposite, IsSame, cross_off, cross_steps, none_after, parallel, steps_ahead, steps_back, steps_behind, steps_facing}
use Rattle.game_laws.proofs.CheckLemmas.{IsChecked, any_is, not_checker, some_and}
use Rattle.game_laws.proofs.TableLemmas.{ray_is}
use Rattle.game_laws.proofs.RayLemmas.{step_one, true_or_not}
use Rattle.game_laws.proofs.MateLemmas.{IsAnswerSquare, answers}

-- who stands between two squares is in the way
in_the_way : (p : Position) (a b : Square) → IsOpen p a b → (i : ℕ) (m : Man) (w : Square) → man_at p i ≡ Some m → StandsOn m w → IsBetween a b w → ⊥
in_the_way p a b clear zero m w is s h = cc
in_the_way p a b clear (suc k) m w is s h =
    subst (λ n. IsLiveAnd n (IsBetween a b) → ⊥) (get_or_from_slice_get p.men k m m is) (clear k m (slice_get_within p.men k m is)) (live_at m w (IsBetween a b) s h)

three_ways : (a b : ℕ) → ((r : ℕ) × (0 < r) × (b ≡ a + r)) ⊎ ((a ≡ b) ⊎ ((r : ℕ) × (0 < r) × (a ≡ b + r)))
three_ways zero zero = inr (inl refl)
three_ways zero (suc b) = inl (suc b, omega arith, omega arith)
three_ways (suc a) zero = inr (inr (suc a, omega arith, omega arith))
three_ways (suc a) (suc b) =
    elim (three_ways a b) [
      | inl h ↦ inl (h.0, h.1, omega (arith, h.2))
      | inr h ↦ elim h [ inl e ↦ inr (inl (ap suc e)) | inr h ↦ inr (inr (h.0, h.1, omega (arith, h.2))) ]
    ]

-- a man of the side in check, other than the king, who goes along a far ray to a square between checker and king
module _ (p : Position) (c : IsChecked p) (i : ℕ) (z : Square) (q : Position) (sound : Sound p) (l : Legal p i z q) (other_man : i ≢ c.king_number)
    (b : Square) (there : StandsOn l.step.man b) (u v : ℤ) (d : IsDirection u v) (t : ℕ) (goes : z ≡ after_steps b t u v) (clear : IsOpen p b z)
    (line : IsBetween c.square c.king_square z) where
  abbrev a : Square
  a = c.square

  abbrev k : Square
  k = c.king_square

  not_at_checker : b ≡ a → ⊥
  not_at_checker e =
      not_checker p c i z q sound l (sound.apart c.number i c.checker l.step.man a c.checker_is l.step.is_man c.there (subst (StandsOn l.step.man) e there))

  not_at_king : b ≡ k → ⊥
  not_at_king e =
      other_man (sound.apart i c.king_number l.step.man c.king k l.step.is_man c.king_is (subst (StandsOn l.step.man) e there) c.king_there)

  -- he does not stand on the line before the king
  not_before : (r : ℕ) → 0 < r → r < line.whole → b ≡ after_steps a r line.dx line.dy → ⊥
  not_before r begun fewer is =
      in_the_way p a k c.clear i l.step.man b l.step.is_man there
      (record { dx = line.dx; dy = line.dy; direction = line.direction; whole = line.whole; part = r; begun = begun; fewer = fewer; to_b = line.to_b; to_z = is })

  -- nor does another man stand on his way
  not_on_way : (j : ℕ) (m : Man) (w : Square) → man_at p j ≡ Some m → StandsOn m w → (r : ℕ) → 0 < r → r < t → w ≡ after_steps b r u v → ⊥
  not_on_way j m w is s r begun fewer at_w =
      in_the_way p b z clear j m w is s
      (record { dx = u; dy = v; direction = d; whole = t; part = r; begun = begun; fewer = fewer; to_b = goes; to_z = at_w })

  not_same : IsSame u v line.dx line.dy → ⊥
  not_same e =
      let here : z ≡ after_steps b t line.dx line.dy = goes ∙ ap (λ x. after_steps b t x v) e.0 ∙ ap (λ y. after_steps b t line.dx y) e.1 in
      elim (three_ways t line.part) [
        | inl h ↦ not_before h.0 h.1 (omega (arith, h.2, line.fewer)) (steps_behind z b a line.dx line.dy t h.0 here (line.to_z ∙ ap (λ n. after_steps a n line.dx line.dy) h.2))
        | inr w ↦ elim w [
          | inl s ↦ not_at_checker (steps_behind z b a line.dx line.dy t 0 here (line.to_z ∙ ap (λ n. after_steps a n line.dx line.dy) (omega (arith, s))) ∙ sym (none_after a line.dx line.dy))
          | inr h ↦
              let back : z ≡ after_steps a line.part u v = line.to_z ∙ ap (λ x. after_steps a line.part x line.dy) (sym e.0) ∙ ap (λ y. after_steps a line.part u y) (sym e.1) in
              not_on_way c.number c.checker a c.checker_is c.there h.0 h.1 (omega (arith, h.2, line.begun))
              (steps_behind z a b u v line.part h.0 back (goes ∙ ap (λ n. after_steps b n u v) h.2))
        ]
      ]

  not_opposite : IsOpposite u v line.dx line.dy → ⊥
  not_opposite o =
      let from_a : b ≡ after_steps a (line.part + t) line.dx line.dy = steps_facing z b a u v line.dx line.dy t line.part o goes line.to_z in
      elim (three_ways (line.part + t) line.whole) [
        | inl h ↦ not_before (line.part + t) (omega (arith, line.begun)) (omega (arith, h.1, h.2)) from_a
        | inr w ↦ elim w [
          | inl s ↦ not_at_king (from_a ∙ ap (λ n. after_steps a n line.dx line.dy) s ∙ sym line.to_b)
          | inr h ↦ not_on_way c.king_number c.king k c.king_is c.king_there h.0 h.1 (omega (arith, h.2, line.fewer))
              (steps_back b k u v line.dx line.dy h.0 o (steps_ahead b k a line.dx line.dy line.whole h.0 line.to_b (from_a ∙ ap (λ n. after_steps a n line.dx line.dy) h.2)))
        ]
      ]

  -- his ray leads off the line
  pub crosses_line : cross u v (toward_x a k) (toward_y a k) ≢ pos 0
  crosses_line flat =
      let low : 0 < line.whole = omega (arith, line.begun, line.fewer) in
      let x : toward_x a k ≡ line.dx = steps_toward_x a k line.dx line.dy line.direction line.whole line.to_b low in
      let y : toward_y a k ≡ line.dy = steps_toward_y a k line.dx line.dy line.direction line.whole line.to_b low in
      let flat' : cross u v line.dx line.dy ≡ pos 0 = subst (λ e. cross u v line.dx e ≡ pos 0) y (subst (λ e. cross u v e (toward_y a k) ≡ pos 0) x flat) in
      elim (parallel u v line.dx line.dy d line.direction flat') [ inl s ↦ not_same s | inr o ↦ not_opposite o ]

abs_none : (n : ℤ) → unsigned_abs n ≡ 0 → n ≡ pos 0
abs_none (pos n) h = ap pos h
abs_none (negsuc n) h = absurd (cc)

steps_are : (each off direct t : ℕ) → off ≡ t * each → (each ≡ 0 → direct ≡ t) → steps_to true each off direct ≡ t
steps_are zero off direct t far along = along refl
steps_are (suc each) off direct t far along = ap (λ n. n / suc each) far ∙ mul-div_cancel t (omega arith)

both_ways : (z b a m n : ℤ) → z ≡ b +ℤ m → z ≡ a +ℤ n → (b -ℤ a) +ℤ m ≡ n
both_ways z b a m n h k = omega (arith, ints, h, k)

-- where the ray leads to the line, its steps are as many as fit into the distance off it
off_is : (a k b z : Square) (u v : ℤ) (t j : ℕ) → z ≡ after_steps b t u v
    → z ≡ toward a k j → off_line (b.x -ℤ a.x) (b.y -ℤ a.y) a k ≡ t * off_line u v a k
off_is a k b z u v t j goes on =
    cross_off (b.x -ℤ a.x) (b.y -ℤ a.y) (pos t *ℤ u) (pos t *ℤ v) (toward_x a k) (toward_y a k) j
    (both_ways z.x b.x a.x (pos t *ℤ u) (pos j *ℤ toward_x a k) (ap (λ s. s.x) goes) (ap (λ s. s.x) on))
    (both_ways z.y b.y a.y (pos t *ℤ v) (pos j *ℤ toward_y a k) (ap (λ s. s.y) goes) (ap (λ s. s.y) on))
    ∙ cross_steps t u v (toward_x a k) (toward_y a k)

-- a legal move in check, by a man at b
module _ (p : Position) (c : IsChecked p) (i : ℕ) (z : Square) (q : Position) (sound : Sound p) (l : Legal p i z q) (b : Square)
    (there : StandsOn l.step.man b) (one : IsOnOneRay p l.step.man b z) where
  abbrev r : Ray
  r = one.on.ray

  abbrev t : ℕ
  t = one.distance

  far_answer : r.far ≡ true → IsAnswerSquare p c z → i ≢ c.king_number → answer_steps r b c.square c.king_square ≡ t
  far_answer far (inl e) other_man =
      let d = (ray_is l.step.man.side l.step.man.kind one.number r one.on.is_ray).direction in
      ap (λ f. steps_to f (off_line r.dx r.dy c.square c.king_square) (off_line (b.x -ℤ c.square.x) (b.y -ℤ c.square.y) c.square c.king_square) (distance b c.square)) far
      ∙ steps_are _ _ _ t
      (off_is c.square c.king_square b z r.dx r.dy t 0 one.on.leads.leads (e ∙ none_after c.square (toward_x c.square c.king_square) (toward_y c.square c.king_square)))
      (λ flat. steps_distance b c.square r.dx r.dy d t (sym e ∙ one.on.leads.leads))
  far_answer far (inr h) other_man =
      let d = (ray_is l.step.man.side l.step.man.kind one.number r one.on.is_ray).direction in
      let w : IsOnWay c.square c.king_square z = on_way h in
      ap (λ f. steps_to f (off_line r.dx r.dy c.square c.king_square) (off_line (b.x -ℤ c.square.x) (b.y -ℤ c.square.y) c.square c.king_square) (distance b c.square)) far
      ∙ steps_are _ _ _ t
      (off_is c.square c.king_square b z r.dx r.dy t w.part one.on.leads.leads w.is)
      (λ flat. absurd (crosses_line p c i z q sound l other_man b there r.dx r.dy d t one.on.leads.leads (one.clear far) h (abs_none _ flat)))

  not_king : l.step.man.kind ≢ King → i ≢ c.king_number
  not_king differs e =
      let here : man_at p i ≡ Some c.king = subst (λ n. man_at p n ≡ Some c.king) (sym e) c.king_is in
      let same : l.step.man ≡ c.king = same_Some l.step.man c.king (sym l.step.is_man ∙ here) in
      differs (ap (λ m. m.kind) same ∙ c.king_kind)

  answer_is : answer_steps r b c.square c.king_square ≡ t
  answer_is =
      elim (true_or_not r.far) [
        | inl far ↦
            let other_man = not_king ((ray_is l.step.man.side l.step.man.kind one.number r one.on.is_ray).not_king far) in
            far_answer far (answers c sound l other_man) other_man
        | inr near ↦
            ap (λ f. steps_to f (off_line r.dx r.dy c.square c.king_square) (off_line (b.x -ℤ c.square.x) (b.y -ℤ c.square.y) c.square c.king_square) (distance b c.square)) near
            ∙ sym (one.on.leads.one near)
      ]

  on_the_ray : z ≡ answer_square c.square c.king_square b r
  on_the_ray = one.on.leads.leads ∙ ap (λ n. after_steps b n r.dx r.dy) (sym answer_is)

any_ray : (P : Ray → Type 0) (k : Kind) (s : Side) (n : ℕ) (r : Ray) → ray_of k s n ≡ Some r → P r → Any P (rays_of k s)
any_ray P k s n r is h = (n, r, slice_get_within (rays_of k s) n r is, get_or_from_slice_get (rays_of k s) n r r is, h)

-- a legal move in check goes to one of the few squares
pub answer_found : {p : Position} (c : IsChecked p) {i : ℕ} {z : Square} {q : Position} → Sound p → Legal p i z q → HasAnswer p c.square c.king_square i
answer_found {p} c {i} {z} {q} sound l =
    let w = some_and (square_of l.step.man) _ (step_one p i z q l.step) in
    let one : IsOnOneRay p l.step.man w.0 z = w.2 in
    there_of p i l.step.man w.0 (λ m b. Any (λ r. CanGo p i (answer_square c.square c.king_square b r)) (rays_of m.kind m.side)) l.step.is_man w.1
    (any_ray (λ r. CanGo p i (answer_square c.square c.king_square w.0 r)) l.step.man.kind l.step.man.side one.number one.on.ray one.on.is_ray
    (subst (CanGo p i) (on_the_ray p c i z q sound l w.0 w.1 one) (q, l)))
  where
    there_of : (p : Position) (i : ℕ) (m : Man) (b : Square) (P : Man → Square → Type 0) → man_at p i ≡ Some m → StandsOn m b → P m b → IsSomeAnd (man_at p i) (λ m. IsLiveAnd m (P m))
    there_of p i m b P is s h = rw is (rw s h)

some_there : (o : Option Square) (P : Square → Type 0) → IsSomeAnd o P → (b : Square) × P b
some_there None P h = absurd h
some_there (Some b) P h = (b, h)

there_is : (o : Option Man) (P : Man → Square → Type 0) → IsSomeAnd o (λ m. IsLiveAnd m (P m)) → (m : Man) × (b : Square) × P m b
there_is None P h = absurd h
there_is (Some m) P h = let w = some_there (square_of m) (P m) h in (m, w.0, w.1)

pub answer_goes : (p : Position) (a k : Square) (i : ℕ) → HasAnswer p a k i → (z : Square) × CanGo p i z
answer_goes p a k i h =
    let w = there_is (man_at p i) (λ m b. Any (λ r. CanGo p i (answer_square a k b r)) (rays_of m.kind m.side)) h in
    (answer_square a k w.1 w.2.1, w.2.4)

-- what holds of the square where he stands
pub same_stand : (o : Option Square) (a : Square) (P : Square → Type 0) → o ≡ Some a → IsSomeAnd o P → P a
same_stand o a P e h = let k : IsSomeAnd (Some a) P = subst (λ o. IsSomeAnd o P) e h in k

-- from the king and a man who gives check
module _ (p : Position) (a k : Square) (h : IsCheckFrom p a k) where
  abbrev Reaches : Man → Square → Type 0
  Reaches m a = HasReach m.side m.kind (k.x -ℤ a.x) (k.y -ℤ a.y) × IsOpen p a k

  checked_from : (c : IsChecked p) × (c.square ≡ a) × (c.king_square ≡ k)
  checked_from =
      let king = any_is p _ h.king in
      let checker = any_is p _ h.checker in
      let bears : Reaches checker.1 a = same_stand (square_of checker.1) a (Reaches checker.1) checker.3.1 (bears_openly p checker.1 k checker.3.2) in (
        record {
          king_number = king.0;
          king = king.1;
          king_is = king.2;
          king_side = king.3.0;
          king_kind = king.3.1;
          king_square = k;
          king_there = king.3.2;
          number = checker.0;
          checker = checker.1;
          checker_is = checker.2;
          checker_side = checker.3.0;
          square = a;
          there = checker.3.1;
          reach = bears.0;
          clear = bears.1;
        },
        refl,
        refl,
      )

  in_check : InCheck p p.turn
  in_check =
      let king = any_is p _ h.king in
      let checker = any_is p _ h.checker in
      let attacked : Attacked p (other p.turn) k = any_at p _ checker.0 checker.1 checker.2 (checker.3.0, checker.3.2) in
      any_at p _ king.0 king.1 king.2 (king.3.0, king.3.1, live_at king.1 k (Attacked p (other p.turn)) king.3.2 attacked)

  pub mate_by_rays : Sound p → Mate p ↔ ((i : ℕ) → HasAnswer p a k i → ⊥)
  mate_by_rays sound = (
    λ mate i answer. let w = answer_goes p a k i answer in mate.stuck i w.0 w.1.0 w.1.1,
    λ none. record {
      check = in_check;
      stuck = λ i z q l.
          let c = checked_from in
          none i (subst (λ a. HasAnswer p a k i) c.1 (subst (λ k. HasAnswer p c.0.square k i) c.2 (answer_found c.0 sound l)));
    },
  )
