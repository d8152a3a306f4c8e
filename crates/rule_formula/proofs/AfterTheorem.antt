-- A step by an option leads to a position of the same stock.
use Rattle.std.proofs.Common.{◌≡◌, ◌≢◌, ℕ, zero, suc, ◌<◌, Bool, true, not, List, [], ◌∷◌, length, Some, inl, inr, refl, subst, sym, ap, ◌∙◌, arith}
use Rattle.std.specs.Prelude.{◌==◌, if◌then◌else◌, slice_get}
use Rattle.std.proofs.lemmas.Bool.Decides.{nat_tests}
use Rattle.game_rules.specs.declared.men.Man.{Man}
use Rattle.game_rules.specs.declared.men.Place.TheVariants.{At}
use Rattle.game_rules.specs.declared.men.Square.{Square}
use Rattle.game_rules.specs.Game.{IsLeftBy, Position, StandsOn, man_at, other, IsApart}
use Rattle.game_rules.specs.declared.men.Ray.{Ray}
use Rattle.game_laws.proofs.RayLemmas.{true_or_not}
use Rattle.rule_formula.specs.Placed.{is_live, men_from, place_at, placed, without}
use Rattle.game_laws.specs.Stock.{stock_man}
use Rattle.rule_formula.specs.Meaning.{IsOption, StepsBy, Takes}
use Rattle.rule_formula.proofs.BearLemmas.{man_placed}
use Rattle.rule_formula.proofs.MoveLemmas.{kept_live, never_live, nobody_there, option_untaken, place_gone, place_is, same_man, same_number, some_number, taken_gone}
use Rattle.rule_formula.proofs.PlacedLemmas.{from_placed, length_placed, placed_man}

list_same : (xs ys : List Man) → length xs ≡ length ys → ((k : ℕ) (m n : Man) → slice_get xs k ≡ Some m → slice_get ys k ≡ Some n → m ≡ n) → xs ≡ ys
list_same [] [] e h = refl
list_same [] (y ∷ ys) e h = absurd (omega (arith, e))
list_same (x ∷ xs) [] e h = absurd (omega (arith, e))
list_same (x ∷ xs) (y ∷ ys) e h =
    ap (λ m. m ∷ xs) (h zero x y refl refl) ∙ ap (λ ms. y ∷ ms) (list_same xs ys (omega (arith, e)) (λ k m n. h (suc k) m n))

-- the squares after man i has gone to z
abbrev pub moved : (ℕ → Square) → ℕ → Square → ℕ → Square
moved f i z k = if k == i then z else f k

pub moved_same : (f : ℕ → Square) (i k : ℕ) (z : Square) → k ≡ i → moved f i z k ≡ z
moved_same f i k z e = grind (arith, nat_tests)

pub moved_other : (f : ℕ → Square) (i k : ℕ) (z : Square) → k ≢ i → moved f i z k ≡ f k
moved_other f i k z ne = grind (arith, nat_tests)

taken_stands : (t : ℕ) (p : Position) (z : Square) → Takes t p z → (k : ℕ) (m : Man) → k ≡ t → 0 < k → man_at p k ≡ Some m → StandsOn m z
taken_stands zero p z h k m e low is = absurd (omega arith)
taken_stands (suc t) p z h k m e low is =
    let there : man_at p (suc t) ≡ Some m = subst (λ j. man_at p j ≡ Some m) e is in
    let both : Some h.0 ≡ Some m = sym h.1 ∙ there in
    let same : h.0 ≡ m = cc in subst (λ a. StandsOn a z) same h.2

-- each man of q is the man of the stock on his new square
man_is : {stock : List Man} {mask i n t : ℕ} {man : Man} {r : Ray} → IsOption stock mask i n t man r → (f : ℕ → Square)
    → IsApart (placed stock (is_live mask) man.side f) → {q : Position} → (h : StepsBy i r t (placed stock (is_live mask) man.side f) q)
    → (k : ℕ) (m b : Man) → stock_man stock k ≡ Some m → man_at q k ≡ Some b → b ≡ man_placed (without (is_live mask) t) (moved f i h.to) k m
man_is {stock} {mask} {i} {t} {man} o f apart {q} h k m b is at =
    let p : Position = placed stock (is_live mask) man.side f in
    let live : ℕ → Bool = is_live mask in
    elim (same_number k i) [
      | inl e ↦
          let his : stock_man stock k ≡ Some man = subst (λ j. stock_man stock j ≡ Some man) (sym e) o.is_man in
          let both : Some m ≡ Some man = sym is ∙ his in
          let same : m ≡ man = cc in
          let mine : h.man ≡ man_placed live f i man = same_man stock live man.side f i man h.man o.is_man h.is_man in
          let there : man_at q k ≡ Some (record h.man { place = At h.to.x h.to.y }) =
          subst (λ j. man_at q j ≡ Some (record h.man { place = At h.to.x h.to.y })) (sym e) (h.step.after.mover h.man h.is_man) in
          let two : Some b ≡ Some (record h.man { place = At h.to.x h.to.y }) = sym at ∙ there in
          let b_is : b ≡ record h.man { place = At h.to.x h.to.y } = cc in
          let on : without live t k ≡ true = kept_live (live k) k t (subst (λ j. live j ≡ true) (sym e) o.live) (λ w. option_untaken o (sym e ∙ w)) in
          let place : place_at (without live t k) (moved f i h.to k) ≡ At h.to.x h.to.y =
          place_is (without live t k) (moved f i h.to k) on ∙ ap (λ (z : Square). At z.x z.y) (moved_same f i k h.to e) in
          b_is
          ∙ ap (λ (a : Man). record a { place = At h.to.x h.to.y }) mine
          ∙ ap (λ (a : Man). record a { place = At h.to.x h.to.y }) (sym same)
          ∙ ap (λ x. record m { place = x }) (sym place)
      | inr other_than ↦
          let here : man_at p k ≡ Some (man_placed live f k m) = placed_man stock live man.side f k m is in
          let left : IsLeftBy h.to (man_placed live f k m) b = h.step.after.others k (man_placed live f k m) b other_than here at in
          let square : moved f i h.to k ≡ f k = moved_other f i k h.to other_than in
          elim (same_number k t) [
            | inl e ↦
                let stands : StandsOn (man_placed live f k m) h.to = taken_stands t p h.to h.takes k (man_placed live f k m) e (some_number stock k m is) here in
                left.taken stands ∙ ap (λ x. record m { place = x }) (sym (place_gone (without live t k) (moved f i h.to k) (taken_gone (live k) k t e)))
            | inr untaken ↦
                let same : b ≡ man_placed live f k m = left.kept (λ stands. nobody_there t p h.to h.takes apart k (man_placed live f k m) here stands untaken) in
                same ∙ ap (λ x. record m { place = x }) (elim (true_or_not (live k)) [
                  | inl on ↦ place_is (live k) (f k) on ∙ ap (λ (z : Square). At z.x z.y) (sym square) ∙ sym (place_is (without live t k) (moved f i h.to k) (kept_live (live k) k t on untaken))
                  | inr off ↦ place_gone (live k) (f k) off ∙ sym (place_gone (without live t k) (moved f i h.to k) (never_live (live k) (not (k == t)) off))
                ])
          ]
    ]

-- where live men stand apart, the option leads to the position with man i on his new square and man t gone
pub after_is : {stock : List Man} {mask i n t : ℕ} {man : Man} {r : Ray} → IsOption stock mask i n t man r → (f : ℕ → Square)
    → IsApart (placed stock (is_live mask) man.side f) → {q : Position} → (h : StepsBy i r t (placed stock (is_live mask) man.side f) q)
    → q ≡ placed stock (without (is_live mask) t) (other man.side) (moved f i h.to)
after_is {stock} {mask} {i} {t} {man} o f apart {q} h =
    let live : ℕ → Bool = is_live mask in
    let count : length q.men ≡ length (men_from 1 stock (without live t) (moved f i h.to)) =
    h.step.after.same_count ∙ length_placed 1 stock live f ∙ sym (length_placed 1 stock (without live t) (moved f i h.to)) in
    let men : q.men ≡ men_from 1 stock (without live t) (moved f i h.to) = list_same q.men (men_from 1 stock (without live t) (moved f i h.to)) count
    (λ k b c at is_c.
    let w = from_placed stock (without live t) (other man.side) (moved f i h.to) (suc k) c is_c in
    man_is o f apart h (suc k) w.man b w.is_man at ∙ sym w.is)
    in
    ap (λ xs. record { men = xs; turn = q.turn }) men ∙ ap (λ s. record { men = men_from 1 stock (without live t) (moved f i h.to); turn = s }) h.step.after.turn
