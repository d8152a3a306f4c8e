-- In check, a move of a man other than the king takes the checker or comes between.
use Rattle.std.proofs.Common.{◌≡◌, ◌≢◌, ℕ, suc, ◌<◌, ◌-ℤ◌, length, Option, Some, None, sym, ap, subst, ◌∙◌, arith, refl}
use Rattle.std.specs.Prelude.{IsSomeAnd}
use Rattle.std.proofs.lemmas.Option.{slice_get-get_or}
use Rattle.std.specs.List.{Any}
use Rattle.game_rules.specs.Game.{Position, Attacked, Bears, InCheck, IsBetween, IsLiveAnd, IsOpen, Legal, Sound, StandsOn, man_at, other, square_of}
use Rattle.game_rules.specs.declared.men.Kind.TheVariants.{King}
use Rattle.game_rules.specs.declared.men.Man.{Man}
use Rattle.game_rules.specs.declared.men.Square.{Square}
use Rattle.game_laws.specs.Reach.{HasReach}
use Rattle.game_laws.proofs.MoveLemmas.{after_each}
use Rattle.game_laws.proofs.OpenLemmas.{bears_openly, openly_bears}
use Rattle.game_laws.proofs.SoundLemmas.{Fate, moved, taken, kept, any_at, at_same, fate, king_not_taken, live_at, other_differs}

-- one man bears on the king of the side to move
pub record IsChecked (p : Position) : Type 0 where
  pub king_number : ℕ
  pub king : Man
  pub king_is : man_at p king_number ≡ Some king
  pub king_side : king.side ≡ p.turn
  pub king_kind : king.kind ≡ King
  pub king_square : Square
  pub king_there : StandsOn king king_square
  pub number : ℕ
  pub checker : Man
  pub checker_is : man_at p number ≡ Some checker
  pub checker_side : checker.side ≡ other p.turn
  pub square : Square
  pub there : StandsOn checker square
  pub reach : HasReach checker.side checker.kind (king_square.x -ℤ square.x) (king_square.y -ℤ square.y)
  pub clear : IsOpen p square king_square

pub some_and : (o : Option Square) (P : Square → Type 0) → IsSomeAnd o P → (a : Square) × (o ≡ Some a) × P a
some_and None P h = absurd h
some_and (Some a) P h = (a, refl, h)

pub any_is : (p : Position) (P : Man → Type 0) → Any P p.men → (k : ℕ) × (m : Man) × (man_at p k ≡ Some m) × P m
any_is p P (k, m, within, is, h) = (suc k, m, slice_get-get_or p.men k m within ∙ ap (λ n. Some n) is, h)

pub checked : (p : Position) → InCheck p p.turn → IsChecked p
checked p check =
    let k = any_is p _ check in
    let at_king = some_and (square_of k.1) _ k.3.2 in
    let c = any_is p _ at_king.2 in
    let at_checker = some_and (square_of c.1) _ (bears_openly p c.1 at_king.0 c.3.1) in
    record {
      king_number = k.0;
      king = k.1;
      king_is = k.2;
      king_side = k.3.0;
      king_kind = k.3.1;
      king_square = at_king.0;
      king_there = at_king.1;
      number = c.0;
      checker = c.1;
      checker_is = c.2;
      checker_side = c.3.0;
      square = at_checker.0;
      there = at_checker.1;
      reach = at_checker.2.0;
      clear = at_checker.2.1;
    }

pub one_square : (m : Man) (a z : Square) → StandsOn m a → StandsOn m z → z ≡ a
one_square m a z s t = let same : Some a ≡ Some z = sym s ∙ t in cc

module _ (p : Position) (c : IsChecked p) (i : ℕ) (z : Square) (q : Position) (sound : Sound p) (l : Legal p i z q) where
  king_stays : i ≢ c.king_number → man_at q c.king_number ≡ Some c.king
  king_stays ne =
      let k = at_same p q c.king_number c.king l.step.after.same_count c.king_is in
      let f : Fate i z c.king_number c.king k.0 = fate l.step.after c.king_number c.king k.0 c.king_is k.1 in
      elim f [
        | moved e is ↦ absurd (ne (sym e))
        | taken e s is ↦ absurd (king_not_taken p i z q sound l.step c.king_number c.king c.king_is c.king_kind s)
        | kept off is ↦ k.1 ∙ ap (λ n. Some n) is
      ]

  pub not_checker : c.number ≡ i → ⊥
  not_checker e =
      let here : man_at p i ≡ Some c.checker = subst (λ n. man_at p n ≡ Some c.checker) e c.checker_is in
      let both : Some l.step.man ≡ Some c.checker = sym l.step.is_man ∙ here in
      let same : l.step.man ≡ c.checker = cc in
      other_differs p.turn (sym l.step.his_turn ∙ ap (λ m. m.side) same ∙ c.checker_side)

  checker_stays : z ≢ c.square → man_at q c.number ≡ Some c.checker
  checker_stays ne =
      let k = at_same p q c.number c.checker l.step.after.same_count c.checker_is in
      let f : Fate i z c.number c.checker k.0 = fate l.step.after c.number c.checker k.0 c.checker_is k.1 in
      elim f [
        | moved e is ↦ absurd (not_checker e)
        | taken e s is ↦ absurd (ne (one_square c.checker c.square z c.there s))
        | kept off is ↦ k.1 ∙ ap (λ n. Some n) is
      ]

  stays_open : (a k : Square) → IsOpen p a k → (IsBetween a k z → ⊥) → IsOpen q a k
  stays_open a k clear off =
      λ j d within.
      let before : j < length p.men = omega (arith, within, l.step.after.same_count) in
      after_each l.step.after j d before (λ m. IsLiveAnd m (IsBetween a k) → ⊥) (λ e. off) (λ ne s h. h) (λ ne s. clear j d before)

  -- a legal move of another man than the king is to the checker's square or between
  pub not_elsewhere : i ≢ c.king_number → z ≢ c.square → (IsBetween c.square c.king_square z → ⊥) → ⊥
  not_elsewhere other_man off off_line =
      let bears : Bears q c.checker c.king_square =
      openly_bears q c.checker c.king_square
      (live_at c.checker c.square (λ a. HasReach c.checker.side c.checker.kind (c.king_square.x -ℤ a.x) (c.king_square.y -ℤ a.y) × IsOpen q a c.king_square) c.there
      (c.reach, stays_open c.square c.king_square c.clear off_line)) in
      let attacked : Attacked q (other p.turn) c.king_square = any_at q _ c.number c.checker (checker_stays off) (c.checker_side, bears) in
      l.safe (any_at q _ c.king_number c.king (king_stays other_man)
      (c.king_side, c.king_kind, live_at c.king c.king_square (Attacked q (other p.turn)) c.king_there attacked))
