-- The formulas of a path mean the rules.
use Rattle.std.proofs.Common.{◌≡◌, ◌≢◌, ◌↔◌, ℕ, zero, suc, ◌<◌, ◌≤◌, Bool, true, false, List, [], ◌∷◌, map, length, ℤ, pos, ◌+ℤ◌, ◌*ℤ◌, Some, inl, inr, refl, sym, ap, ◌∙◌, subst, arith}
use Rattle.std.specs.Prelude.{Contains}
use Rattle.std.proofs.lemmas.List.Elements.{Contains-append_right}
use Rattle.game_rules.specs.declared.men.Man.{Man}
use Rattle.game_rules.specs.declared.men.Place.{Place}
use Rattle.game_rules.specs.declared.men.Place.TheVariants.{Gone, At}
use Rattle.game_rules.specs.declared.men.Ray.{Ray}
use Rattle.game_rules.specs.declared.men.Side.{Side}
use Rattle.game_rules.specs.declared.men.Square.{Square}
use Rattle.game_rules.specs.Game.{InCheck, IsAfter, IsApart, Position, Sound, StandsOn, after_steps, man_at, other, place_square}
use Rattle.game_rules.specs.Rays.{IsAt, ray_of}
use Rattle.game_laws.proofs.SoundLemmas.{legal_sound, other_other}
use Rattle.track_word.specs.Tracks.{Values}
use Rattle.lin_formula.specs.Holds.{Holds, Sets, with_value}
use Rattle.lin_formula.specs.SetOf.{SetOf, members}
use Rattle.lin_formula.specs.Tree.{Tree, Not}
use Rattle.rule_formula.specs.declared.opt.Bearing.{Bearing}
use Rattle.rule_formula.specs.declared.opt.Opt.{Opt}
use Rattle.rule_formula.specs.Bearings.{IsBearingOf, bearings_of}
use Rattle.rule_formula.specs.Fits.{Fits, IsGameMask, target_of}
use Rattle.mask_sets.specs.Stock.{mask_of}
use Rattle.rule_formula.specs.Meaning.{BearsAlong, BearsBy, IsBearing, IsOption, IsOptionOfSide, StepsBy, TakesOption}
use Rattle.rule_formula.specs.Placed.{is_live, men_from, place_at, placed, without}
use Rattle.game_laws.specs.Stock.{stock_man}
use Rattle.rule_formula.specs.Seats.{var}
use Rattle.rule_formula.specs.Trees.{man_square, ray_at}
use Rattle.rule_formula.proofs.AfterTheorem.{after_is, moved, moved_other, moved_same}
use Rattle.rule_formula.proofs.BearLemmas.{man_placed}
use Rattle.rule_formula.proofs.BearTheorem.{bears_of, sees_of}
use Rattle.rule_formula.proofs.BearingTheorem.{bearings_are, checks_are}
use Rattle.rule_formula.specs.Fine.{AllHold}
use Rattle.mask_sets.proofs.Masks.{mask_tells}
use Rattle.game_laws.proofs.StockLemmas.{stock_has, stock_man-men}
use Rattle.rule_formula.proofs.GameTheorem.{arrives, fits_mask, live_by_mask, prey_live, sound_fits}
use Rattle.rule_formula.proofs.KindLemmas.{ray_is}
use Rattle.rule_formula.proofs.LawTheorem.{no_king_taken, self_placed, square_self, squares_of}
use Rattle.rule_formula.proofs.ListTheorem.{options_are}
use Rattle.rule_formula.proofs.MaskLemmas.{without_is}
use Rattle.rule_formula.proofs.MeaningLemmas.{ray_at_is, ray_placed, takes_is}
use Rattle.rule_formula.proofs.MoveLemmas.{EachOther, IsMove, move_of, option_untaken, same_man, same_number, steps_by}
use Rattle.rule_formula.proofs.OptionTheorem.{option_of_step}
use Rattle.rule_formula.proofs.PlacedLemmas.{stands_placed}
use Rattle.rule_formula.proofs.RayLemmas.{IsFair, IsSteps, IsWithin, LiesOn, all_hold-append, far, near, slide_steps_same, square_at, steps_same}
use Rattle.rule_formula.proofs.SweptLemmas.{placed_same, value_other, value_same}
use Rattle.line_formula.specs.declared.leg.Leg.{Leg}
use Rattle.line_formula.specs.Places.{home, place, square_or, step_x, step_y}
use Rattle.line_formula.specs.Paths.{GoesBy, Plays, after, bear_after, dangers_at, first_part, further_parts, leg_of, legs_at, legs_of, mask_at, options_at, threats_at, turn_at}
use Rattle.line_formula.specs.Rules.{capture_parts, clear_parts}
use Rattle.line_formula.specs.Laws.{BearsMeanCheck, LegalIsByOption, PartsMeanLegal}
use Rattle.line_formula.proofs.BearFormulas.{bear_sees}
use Rattle.line_formula.proofs.MoveFormulas.{IsDistance, capture_holds, clear_holds_all, distance_from, distance_to, move_from_parts, place_moves, place_stays}

-- positions with the same live men
men_live : (n : ℕ) (stock : List Man) (live other_live : ℕ → Bool) (f : ℕ → Square) → ((k : ℕ) → n ≤ k → live k ≡ other_live k)
    → men_from n stock live f ≡ men_from n stock other_live f
men_live n [] live other_live f h = refl
men_live n (m ∷ ms) live other_live f h =
    ap (λ b. record m { place = place_at b (f n) } ∷ men_from (suc n) ms live f) (h n (omega arith))
    ∙ ap (λ xs. record m { place = place_at (other_live n) (f n) } ∷ xs) (men_live (suc n) ms live other_live f (λ k low. h k (omega arith)))

placed_live : (stock : List Man) (live other_live : ℕ → Bool) (turn : Side) (f : ℕ → Square) → ((k : ℕ) → 0 < k → live k ≡ other_live k)
    → placed stock live turn f ≡ placed stock other_live turn f
placed_live stock live other_live turn f h = ap (λ xs. record { men = xs; turn = turn }) (men_live 1 stock live other_live f (λ k low. h k (omega arith)))

-- a man of the position has the rays of the man of the stock
ray_there : (stock : List Man) (live : ℕ → Bool) (turn : Side) (f : ℕ → Square) (k n : ℕ) (m q : Man) (r : Ray) → stock_man stock k ≡ Some m
    → man_at (placed stock live turn f) k ≡ Some q → ray_of m.kind m.side n ≡ Some r → ray_of q.kind q.side n ≡ Some r
ray_there stock live turn f k n m q r is at ray =
    let same : q ≡ man_placed live f k m = same_man stock live turn f k m q is at in
    subst (λ (a : Man). ray_of a.kind a.side n ≡ Some r) (sym same) ray

-- where a man goes from and to, by the squares before and after
ends_of : {stock : List Man} {mask i n t : ℕ} {man : Man} {r : Ray} → IsOption stock mask i n t man r → (side side_after : Side) (f g : ℕ → Square) (m : Man) (from to : Square)
    → man_at (placed stock (is_live mask) side f) i ≡ Some m → StandsOn m from
    → IsAfter (placed stock (is_live mask) side f) i to (placed stock (without (is_live mask) t) side_after g) → (f i ≡ from) × (to ≡ g i)
ends_of {stock} {mask} {i} {t} {man} o side side_after f g m from to at stands step =
    let is : m ≡ man_placed (is_live mask) f i man = same_man stock (is_live mask) side f i man m o.is_man at in
    let from_is : f i ≡ from = (stands_placed (is_live mask i) (f i) from (subst (λ a. StandsOn a from) is stands)).1 in
    let there = step.mover m at in
    let same : record m { place = At to.x to.y } ≡ man_placed (without (is_live mask) t) g i man =
    same_man stock (without (is_live mask) t) side_after g i man (record m { place = At to.x to.y }) o.is_man there in
    let stands_there : StandsOn (man_placed (without (is_live mask) t) g i man) to = subst (λ a. StandsOn a to) same refl in
    (from_is, sym (stands_placed (without (is_live mask) t i) (g i) to stands_there).1)

same_distance : {r : Ray} → IsFair r → {a b : Square} (w : LiesOn r a b) (d : ℕ) → IsSteps r a b d → (r.far ≡ false → d ≡ 1) → w.distance ≡ d
same_distance (far x y some) w d steps one = slide_steps_same x y some w.steps steps
same_distance (near dx dy some) w d steps one = w.near refl ∙ sym (one refl)

steps_at : {r : Ray} {a b : Square} {d : ℕ} → IsAt r d a b → IsSteps r a b d
steps_at h = record { right = ap (λ (z : Square). z.x) h.leads; up = ap (λ (z : Square). z.y) h.leads }

at_steps : {r : Ray} {a b : Square} {d : ℕ} → 0 < d → (r.far ≡ false → d ≡ 1) → IsSteps r a b d → IsAt r d a b
at_steps {r} {a} {b} {d} some one h =
    record { begun = omega arith; one = one; leads = square_at b (after_steps a d r.dx r.dy) h.right h.up }

goes_takes : {o : Opt} {t : ℤ} {q r : Position} → GoesBy o t q r → TakesOption o q r
goes_takes h =
    record {
      man = h.man;
      ray = h.ray;
      is_man = h.is_man;
      is_ray = h.is_ray;
      steps = record { man = h.man; from = h.from; to = h.to; is_man = h.is_man; stands = h.stands; along = (h.steps, h.leads); takes = h.takes; step = h.legal.step };
    }

-- values that agree on the legs give the same places
pub place_kept : (home : ℕ → Square) (legs : List Leg) (v w : Values) → ((j : ℕ) → j < length legs → v j ≡ w j) → (k : ℕ) → place home legs v k ≡ place home legs w k
place_kept home [] v w same k = refl
place_kept home (leg ∷ legs) v w same k =
    let before = place_kept home legs v w (λ j less. same j (omega arith)) k in
    let here : v (length legs) ≡ w (length legs) = same (length legs) (omega arith) in
    square_at (place home (leg ∷ legs) v k) (place home (leg ∷ legs) w k)
    (ap (λ (z : Square). z.x +ℤ (v (length legs) *ℤ step_x k leg)) before ∙ ap (λ n. (place home legs w k).x +ℤ (n *ℤ step_x k leg)) here)
    (ap (λ (z : Square). z.y +ℤ (v (length legs) *ℤ step_y k leg)) before ∙ ap (λ n. (place home legs w k).y +ℤ (n *ℤ step_y k leg)) here)

pub legs-length : (men : List Man) (s : List Opt) → length (legs_of men s) ≡ length s
legs-length men [] = refl
legs-length men (o ∷ s) = ap (λ n. suc n) (legs-length men s)

pub after_kept : (p : Position) (s : List Opt) (v w : Values) → ((j : ℕ) → j < length s → v j ≡ w j) → after p s v ≡ after p s w
after_kept p s v w same =
    let count = legs-length p.men s in
    placed_same p.men (is_live (mask_at p s)) (turn_at p s) (place (home p.men) (legs_at p s) v) (place (home p.men) (legs_at p s) w)
    (λ k low high on. place_kept (home p.men) (legs_at p s) v w (λ j less. same j (omega (arith, count, less))) k)

pub plays_kept : (p : Position) (s : List Opt) (v w : Values) → ((j : ℕ) → j < length s → v j ≡ w j) → Plays p s v → Plays p s w
plays_kept p [] v w same h = tt
plays_kept p (o ∷ s) v w same (before, listed, goes) =
    let here : v (length s) ≡ w (length s) = same (length s) (omega arith) in
    let q = after_kept p s v w (λ j less. same j (omega arith)) in
    let r = after_kept p (o ∷ s) v w same in (
      plays_kept p s v w (λ j less. same j (omega arith)) before,
      listed,
      subst (λ t. GoesBy o t (after p s w) (after p (o ∷ s) w)) here
          (subst (λ x. GoesBy o (v (length s)) x (after p (o ∷ s) w)) q (subst (GoesBy o (v (length s)) (after p s v)) r goes)),
    )

-- what is known of the position after a path
pub record IsPlayed (p : Position) (s : List Opt) (v : Values) : Type 0 where
  pub sound : Sound (after p s v)
  pub fits : Fits p (turn_at p s) (after p s v)
  pub mask : mask_of (after p s v) ≡ mask_at p s

option_after : (p : Position) (s : List Opt) (v : Values) (o : Opt) → IsPlayed p s v → Contains (options_at p s) o → IsOptionOfSide p.men (mask_of (after p s v)) (turn_at p s) o
option_after p s v o h listed =
    subst (λ m. IsOptionOfSide p.men m (turn_at p s) o) (sym h.mask) ((options_are p.men (mask_at p s) (turn_at p s) o).0 listed)

home_is : (p : Position) (k : ℕ) (m : Man) → stock_man p.men k ≡ Some m → is_live (mask_of p) k ≡ true → home p.men k ≡ squares_of p k
home_is p k m is on = by m.place refl
  where
    by : (q : Place) → m.place ≡ q → home p.men k ≡ squares_of p k
    by Gone gone = absurd (live_by_mask p k m (sym (stock_man-men p k) ∙ is) on gone)
    by (At x y) at = ap (λ o. square_or (man_square o)) is ∙ ap (λ q. square_or (place_square q)) at ∙ sym (square_self p k m x y is at)

-- before any move, each man is at home
pub at_home : (p : Position) (v : Values) → after p [] v ≡ p
at_home p v =
    placed_same p.men (is_live (mask_of p)) p.turn (place (home p.men) [] v) (squares_of p)
    (λ k low high on.
    let (m, is) = stock_has p.men k low high in home_is p k m is on)
    ∙ self_placed (mask_tells p)

pub played : (p : Position) → Sound p → (s : List Opt) (v : Values) → Plays p s v → IsPlayed p s v
played p sound [] v h =
    let same : after p [] v ≡ p = at_home p v in
    record {
      sound = subst Sound (sym same) sound;
      fits = subst (Fits p p.turn) (sym same) (sound_fits sound);
      mask = ap mask_of same;
    }
played p sound (o ∷ s) v (before, listed, goes) =
    let h = played p sound s v before in
    let w = arrives sound.kings h.fits (option_after p s v o h listed) (goes_takes goes) in
    record {
      sound = legal_sound (after p s v) o.man goes.to (after p (o ∷ s) v) h.sound goes.legal;
      fits = w.fits;
      mask = w.mask ∙ ap (λ m. target_of m o) h.mask;
    }

-- bear holds where the man bears on the king
pub bear_means : (p : Position) (s : List Opt) (e : Sets) (v : Values) → length s ≤ 16 → (side : Side) (b : Bearing) → IsBearingOf p.men (mask_at p s) side b
    → Holds (bear_after p s b) e v ↔ BearsBy b.man b.ray b.king (after p s v)
bear_means p s e v few side b is =
    let w = is.bearer in
    let f = place (home p.men) (legs_at p s) v in
    let count = legs-length p.men s in
    let short : length (legs_at p s) ≤ 16 = omega (arith, count) in
    let same = ray_at_is p.men b.man b.ray w.man w.ray w.is.is_man w.is.ray in
    let bearing : IsBearing p.men (mask_at p s) b.man b.ray b.king w.man w.target (ray_at p.men b.man b.ray) =
    subst (λ r. IsBearing p.men (mask_at p s) b.man b.ray b.king w.man w.target r) same w.is in
    let fair = (ray_is w.man.side w.man.kind b.ray (ray_at p.men b.man b.ray) bearing.ray).fair in
    let sees = bear_sees (home p.men) (legs_at p s) short e v p.men w.man (is_live (mask_at p s)) fair b.man b.king in (
      λ h.
          let bears = bears_of (turn_at p s) bearing f (sees.0 h) in
          record {
            man = bears.man;
            ray = ray_at p.men b.man b.ray;
            is_man = bears.is_man;
            is_ray = ray_there p.men (is_live (mask_at p s)) (turn_at p s) f b.man b.ray w.man bears.man (ray_at p.men b.man b.ray) bearing.is_man bears.is_man bearing.ray;
            bears = bears;
          },
      λ h.
          let ray = ray_placed p.men (is_live (mask_at p s)) (turn_at p s) f b.man b.ray w.man h.man (ray_at p.men b.man b.ray) h.ray bearing.is_man h.is_man bearing.ray h.is_ray in
          sees.1 (sees_of (turn_at p s) bearing f (subst (λ r. BearsAlong r b.man b.king (after p s v)) ray h.bears)),
    )

game_mask : (p : Position) (s : List Opt) (v : Values) → IsPlayed p s v → IsGameMask p (mask_at p s)
game_mask p s v h = subst (IsGameMask p) h.mask (fits_mask (turn_at p s) (after p s v) h.fits)

-- the side t is in check where one of the other bears on its king
check_means : (p : Position) → Sound p → (s : List Opt) (e : Sets) (v : Values) → length s ≤ 16 → (turn : Side) → Fits p turn (after p s v) → mask_of (after p s v) ≡ mask_at p s
    → (side : Side)
    → InCheck (after p s v) (other side) ↔ ((b : Bearing) × Contains (bearings_of p.men (mask_at p s) side) b × Holds (bear_after p s b) e v)
check_means p sound s e v few turn fits mask side =
    let checks = checks_are side fits in
    let game : IsGameMask p (mask_at p s) = subst (IsGameMask p) mask (fits_mask turn (after p s v) fits) in (
      λ h.
          let (b, is, bears) = checks.0 h in
          let here : IsBearingOf p.men (mask_at p s) side b = subst (λ m. IsBearingOf p.men m side b) mask is in
          (b, (bearings_are side b sound.kings game).1 here, (bear_means p s e v few side b here).1 bears),
      λ (b, listed, holds).
          let here = (bearings_are side b sound.kings game).0 listed in
          checks.1 (b, subst (λ m. IsBearingOf p.men m side b) (sym mask) here, (bear_means p s e v few side b here).0 holds),
    )

pub bears_mean_check : BearsMeanCheck
bears_mean_check p s e v sound few plays =
    let h = played p sound s v plays in
    let same = other_other (turn_at p s) in
    subst (λ side. InCheck (after p s v) side ↔ ((b : Bearing) × Contains (threats_at p s) b × Holds (bear_after p s b) (members e) v)) same
    (check_means p sound s (members e) v few (turn_at p s) h.fits h.mask (other (turn_at p s)))

safe_all : (e : Sets) (v : Values) (f : Bearing → Tree) (bs : List Bearing) → ((b : Bearing) → Contains bs b → ¬ Holds (f b) e v) → AllHold (map (λ b. Not (f b)) bs) e v
safe_all e v f [] h = tt
safe_all e v f (b ∷ bs) h = (h b (0, omega arith, refl), safe_all e v f bs (λ c is. h c (Contains-append_right (b ∷ []) bs c is)))

all_safe : (e : Sets) (v : Values) (f : Bearing → Tree) (bs : List Bearing) → AllHold (map (λ b. Not (f b)) bs) e v → (b : Bearing) → Contains bs b → ¬ Holds (f b) e v
all_safe e v f [] h b (k, less, is) = absurd (omega (arith, less))
all_safe e v f (c ∷ bs) h b (zero, less, same) = subst (λ x. ¬ Holds (f x) e v) same h.0
all_safe e v f (c ∷ bs) h b (suc k, less, is) = all_safe e v f bs h.1 b (k, omega arith, is)

-- an option after a path, with all that is known of it
record Chosen (p : Position) (s : List Opt) (v : Values) (o : Opt) : Type 0 where
  man : Man
  option : IsOption p.men (mask_at p s) o.man o.ray o.taken man (ray_at p.men o.man o.ray)
  his : man.side ≡ turn_at p s
  fair : IsFair (ray_at p.men o.man o.ray)
  before : placed p.men (is_live (mask_at p s)) man.side (place (home p.men) (legs_at p s) v) ≡ after p s v
  later : placed p.men (without (is_live (mask_at p s)) o.taken) (other man.side) (place (home p.men) (legs_at p (o ∷ s)) v) ≡ after p (o ∷ s) v

chosen : (p : Position) (s : List Opt) (v : Values) (o : Opt) → Contains (options_at p s) o → Chosen p s v o
chosen p s v o listed =
    let (w, his) = (options_are p.men (mask_at p s) (turn_at p s) o).0 listed in
    let mask : ℕ = mask_at p s in
    let g = place (home p.men) (legs_at p (o ∷ s)) v in
    let same = ray_at_is p.men o.man o.ray w.man w.ray w.is.is_man w.is.ray in
    let option : IsOption p.men mask o.man o.ray o.taken w.man (ray_at p.men o.man o.ray) = subst (IsOption p.men mask o.man o.ray o.taken w.man) same w.is in
    record {
      man = w.man;
      option = option;
      his = his;
      fair = (ray_is w.man.side w.man.kind o.ray (ray_at p.men o.man o.ray) option.ray).fair;
      before = ap (λ side. placed p.men (is_live mask) side (place (home p.men) (legs_at p s) v)) his;
      later =
          ap (λ side. placed p.men (without (is_live mask) o.taken) (other side) g) his
          ∙ placed_live p.men (without (is_live mask) o.taken) (is_live (target_of mask o)) (other (turn_at p s)) g
          (λ k low. sym (without_is mask o.taken k low (prey_live p.men mask w.man.side o.taken w.is.prey)));
    }

module _ (p : Position) (sound : Sound p) (s : List Opt) (o : Opt) (e : ℕ → SetOf) (v : Values) (few : length s < 16) (plays : Plays p s v) (listed : Contains (options_at p s) o) where
  short : length (legs_at p s) < 16
  short = let count = legs-length p.men s in omega (arith, count)

  value_is : v (length (legs_at p s)) ≡ v (length s)
  value_is = ap v (legs-length p.men s)

  legal_of_parts : AllHold (first_part p s o ∷ further_parts p s o) (members e) v → GoesBy o (v (length s)) (after p s v) (after p (o ∷ s) v)
  legal_of_parts (one_part, rest) =
      let c = chosen p s v o listed in
      let h = played p sound s v plays in
      let first = home p.men in
      let legs = legs_at p s in
      let leg : Leg = leg_of p.men o in
      let live : ℕ → Bool = is_live (mask_at p s) in
      let f = place first legs v in
      let g = place first (leg ∷ legs) v in
      let (d, dist) = distance_from first leg.ray (length s) (members e) v one_part in
      let there : IsDistance leg.ray (v (length legs)) d = subst (λ x. IsDistance leg.ray x d) (sym value_is) dist in
      let split = (all_hold-append (capture_parts first legs leg o.taken) _ (members e) v).0 rest in
      let parts = (all_hold-append (clear_parts first legs leg live o.taken (length p.men)) _ (members e) v).0 split.1 in
      let untaken : o.taken ≢ o.man = λ same. option_untaken c.option (sym same) in
      let move : IsMove p.men live o.man leg.ray o.taken f g = move_from_parts first legs short (members e) v leg d there c.fair p.men c.man live o.taken untaken split.0 parts.0 in
      let steps_placed = steps_by c.option move in
      let steps : StepsBy o.man leg.ray o.taken (after p s v) (after p (o ∷ s) v) =
      subst (λ x. StepsBy o.man leg.ray o.taken x (after p (o ∷ s) v)) c.before (subst (StepsBy o.man leg.ray o.taken _) c.later steps_placed) in
      let takes : TakesOption o (after p s v) (after p (o ∷ s) v) =
      (takes_is p.men live (turn_at p s) f o c.man leg.ray (after p (o ∷ s) v) c.option.is_man c.option.ray).0 steps in
      let arrival = arrives sound.kings h.fits (option_after p s v o h listed) takes in
      let mask : mask_of (after p (o ∷ s) v) ≡ mask_at p (o ∷ s) = arrival.mask ∙ ap (λ m. target_of m o) h.mask in
      let safe : InCheck (after p (o ∷ s) v) (turn_at p s) → ⊥ = λ check.
      let side : Side = turn_at p (o ∷ s) in
      let turned : InCheck (after p (o ∷ s) v) (other side) = subst (InCheck (after p (o ∷ s) v)) (sym (other_other (turn_at p s))) check in
      let (b, is, holds) = (check_means p sound (o ∷ s) (members e) v (omega arith) side arrival.fits mask side).0 turned in
      all_safe (members e) v (bear_after p (o ∷ s)) (dangers_at p (o ∷ s)) parts.1 b is holds
      in
      let ends = ends_of c.option (turn_at p s) (turn_at p (o ∷ s)) f g steps.man steps.from steps.to steps.is_man steps.stands
      (subst (IsAfter (after p s v) o.man steps.to) (sym (later_turn c)) steps.step.after) in
      let own : IsAt leg.ray d (f o.man) (g o.man) = at_steps there.some there.one (place_moves first legs leg v d there.is) in
      record {
        man = steps.man;
        ray = leg.ray;
        from = steps.from;
        to = steps.to;
        steps = d;
        is_man = steps.is_man;
        is_ray = ray_there p.men live (turn_at p s) f o.man o.ray c.man steps.man leg.ray c.option.is_man steps.is_man c.option.ray;
        stands = steps.stands;
        distance = dist.is;
        leads = subst (λ a. IsAt leg.ray d a steps.to) ends.0 (subst (IsAt leg.ray d (f o.man)) (sym ends.1) own);
        takes = steps.takes;
        legal = record { step = steps.step; safe = safe };
      }
    where
      later_turn : (c : Chosen p s v o) → placed p.men (without (is_live (mask_at p s)) o.taken) (turn_at p (o ∷ s)) (place (home p.men) (legs_at p (o ∷ s)) v) ≡ after p (o ∷ s) v
      later_turn c = ap (λ side. placed p.men (without (is_live (mask_at p s)) o.taken) (other side) (place (home p.men) (legs_at p (o ∷ s)) v)) (sym c.his) ∙ c.later

  parts_of_legal : GoesBy o (v (length s)) (after p s v) (after p (o ∷ s) v) → AllHold (first_part p s o ∷ further_parts p s o) (members e) v
  parts_of_legal goes =
      let c = chosen p s v o listed in
      let h = played p sound s v plays in
      let first = home p.men in
      let legs = legs_at p s in
      let leg : Leg = leg_of p.men o in
      let live : ℕ → Bool = is_live (mask_at p s) in
      let f = place first legs v in
      let g = place first (leg ∷ legs) v in
      let q = after p s v in
      let r = after p (o ∷ s) v in
      let d : ℕ = goes.steps in
      let takes : TakesOption o q r = goes_takes goes in
      let steps : StepsBy o.man leg.ray o.taken q r = (takes_is p.men live (turn_at p s) f o c.man leg.ray r c.option.is_man c.option.ray).1 takes in
      let ray : goes.ray ≡ leg.ray = ray_placed p.men live (turn_at p s) f o.man o.ray c.man goes.man leg.ray goes.ray c.option.is_man goes.is_man c.option.ray goes.is_ray in
      let later : placed p.men (without live o.taken) (turn_at p (o ∷ s)) g ≡ r = ap (λ side. placed p.men (without live o.taken) (other side) g) (sym c.his) ∙ c.later in
      let ends = ends_of c.option (turn_at p s) (turn_at p (o ∷ s)) f g goes.man goes.from goes.to goes.is_man goes.stands
      (subst (IsAfter q o.man goes.to) (sym later) goes.legal.step.after) in
      let leads : IsAt leg.ray d (f o.man) (g o.man) =
      subst (λ y. IsAt y d (f o.man) (g o.man)) ray (subst (λ a. IsAt goes.ray d a (g o.man)) (sym ends.0) (subst (IsAt goes.ray d goes.from) ends.1 goes.leads)) in
      let there : IsDistance leg.ray (v (length legs)) d = record { is = value_is ∙ goes.distance; some = let b = leads.begun in omega (arith, b); one = leads.one } in
      let dist : IsDistance leg.ray (v (length s)) d = subst (λ x. IsDistance leg.ray x d) value_is there in
      let untaken : o.taken ≢ o.man = λ same. option_untaken c.option (sym same) in
      let apart : IsApart (placed p.men live c.man.side f) = subst IsApart (sym c.before) h.sound.apart in
      let steps_placed : StepsBy o.man leg.ray o.taken (placed p.men live c.man.side f) (placed p.men (without live o.taken) (other c.man.side) g) =
      subst (λ x. StepsBy o.man leg.ray o.taken x (placed p.men (without live o.taken) (other c.man.side) g)) (sym c.before) (subst (StepsBy o.man leg.ray o.taken q) (sym c.later) steps) in
      let move = move_of c.option f g apart steps_placed in
      let same : move.along.distance ≡ d = same_distance c.fair move.along d (steps_at leads) leads.one in
      let clear = (clear_holds_all first legs short (members e) v leg d there c.fair p.men c.man live o.taken).1
      (subst (λ n. EachOther p.men live o.man o.taken (λ k. IsWithin leg.ray (f o.man) (f k) (suc n) → ⊥)) same move.clear) in
      let w = played p sound (o ∷ s) v (plays, listed, goes) in
      let side : Side = turn_at p (o ∷ s) in
      let safe = safe_all (members e) v (bear_after p (o ∷ s)) (dangers_at p (o ∷ s)) (λ b is holds.
      goes.legal.safe (subst (InCheck r) (other_other (turn_at p s))
      ((check_means p sound (o ∷ s) (members e) v (omega arith) side w.fits w.mask side).1 (b, is, holds)))) in (
        distance_to first leg.ray (length s) (members e) v d dist,
        (all_hold-append (capture_parts first legs leg o.taken) _ (members e) v).1 (
          (capture_holds first legs short (members e) v leg d there o.taken untaken).1 move.taken,
          (all_hold-append (clear_parts first legs leg live o.taken (length p.men)) _ (members e) v).1 (clear, safe),
        ),
      )

pub parts_mean_legal : PartsMeanLegal
parts_mean_legal p s o e v sound few plays listed = (legal_of_parts p sound s o e v few plays listed, parts_of_legal p sound s o e v few plays listed)

pub legal_is_by_option : LegalIsByOption
legal_is_by_option p s v i z r sound plays legal =
    let h = played p sound s v plays in
    let live : ℕ → Bool = is_live (mask_at p s) in
    let first = home p.men in
    let legs = legs_at p s in
    let f = place first legs v in
    let kings = no_king_taken h.sound legal.step in
    let (o, of_man, w, takes) = option_of_step p.men (mask_at p s) (turn_at p s) f kings legal.step in
    let mine : takes.steps.step.man ≡ man_placed live f o.man w.man = same_man p.men live (turn_at p s) f o.man w.man takes.steps.step.man w.is.is_man takes.steps.step.is_man in
    let his : w.man.side ≡ turn_at p s = sym (ap (λ (a : Man). a.side) mine) ∙ takes.steps.step.his_turn in
    let listed : Contains (options_at p s) o = (options_are p.men (mask_at p s) (turn_at p s) o).1 (w, his) in
    let leg : Leg = leg_of p.men o in
    let c = chosen p s v o listed in
    let before : Position = placed p.men live c.man.side f in
    let there : StepsBy o.man leg.ray o.taken (after p s v) r = (takes_is p.men live (turn_at p s) f o c.man leg.ray r c.option.is_man c.option.ray).1 takes in
    let steps : StepsBy o.man leg.ray o.taken before r = subst (λ x. StepsBy o.man leg.ray o.taken x r) (sym c.before) there in
    let (d, leads) = steps.along in
    let n : ℕ = length s in
    let u : Values = with_value v (var n) (pos d) in
    let later = chosen p s u o listed in
    let kept : (j : ℕ) → j < n → v j ≡ u j = λ j less. sym (value_other v (var n) (pos d) j (omega arith)) in
    let count = legs-length p.men s in
    let same_place : (k : ℕ) → f k ≡ place first legs u k = place_kept first legs v u (λ j less. kept j (omega (arith, count, less))) in
    let own : u (length legs) ≡ pos d = ap u count ∙ value_same v (var n) (pos d) n refl in
    let apart : IsApart before = subst IsApart (sym c.before) h.sound.apart in
    let is : steps.man ≡ man_placed live f o.man c.man = same_man p.men live c.man.side f o.man c.man steps.man c.option.is_man steps.is_man in
    let from : f o.man ≡ steps.from = (stands_placed (live o.man) (f o.man) steps.from (subst (λ a. StandsOn a steps.from) is steps.stands)).1 in
    let one : IsSteps leg.ray (place first legs u o.man) steps.to d =
    subst (λ a. IsSteps leg.ray a steps.to d) (sym from ∙ same_place o.man) (steps_at leads) in
    let mover : steps.to ≡ place first (leg ∷ legs) u o.man = steps_same one (place_moves first legs leg u d own) in
    let squares : (k : ℕ) → moved f o.man steps.to k ≡ place first (leg ∷ legs) u k = λ k.
    elim (same_number k o.man) [
      | inl e ↦ moved_same f o.man k steps.to e ∙ mover ∙ ap (place first (leg ∷ legs) u) (sym e)
      | inr ne ↦ moved_other f o.man k steps.to ne ∙ same_place k ∙ sym (place_stays first legs leg u k ne)
    ]
    in
    let turn : other c.man.side ≡ other later.man.side = ap other (c.his ∙ sym later.his) in
    let arrived : r ≡ after p (o ∷ s) u =
    after_is c.option f apart steps
    ∙ placed_same p.men (without live o.taken) (other c.man.side) (moved f o.man steps.to) (place first (leg ∷ legs) u) (λ k low high on. squares k)
    ∙ ap (λ side. placed p.men (without live o.taken) side (place first (leg ∷ legs) u)) turn
    ∙ later.later in
    let goes : GoesBy o (pos d) before r = record {
      man = steps.man;
      ray = leg.ray;
      from = steps.from;
      to = steps.to;
      steps = d;
      is_man = steps.is_man;
      is_ray = ray_there p.men live c.man.side f o.man o.ray c.man steps.man leg.ray c.option.is_man steps.is_man c.option.ray;
      stands = steps.stands;
      distance = refl;
      leads = leads;
      takes = steps.takes;
      legal = record { step = steps.step; safe = λ check. legal.safe (subst (InCheck r) c.his check) };
    } in
    (o, pos d, listed, arrived, subst (λ x. GoesBy o (pos d) x r) c.before goes)
