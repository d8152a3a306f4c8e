-- The positions of `drill` are sound.
use Rattle.std.proofs.Common.{◌≡◌, ◌≢◌, ◌<◌, ℕ, zero, suc, ◌%◌, ◌/◌, ◌^◌, Some, false, refl, ap, sym, ◌∙◌, subst, inl, inr, arith}
use Rattle.std.specs.Ordering.{int_eq}
use Rattle.std.specs.Prelude.{◌==◌, ℤ, pos, negsuc, ◌-ℤ◌, max, unsigned_abs}
use Rattle.std.proofs.lemmas.Bool.Decides.{Decides-eqb, Decides-int_eq, not_from_Decides}
use Rattle.std.proofs.lemmas.Option.{same_Some}
use Rattle.game_rules.specs.Game.{Position, Attacked, Bears, HasOneKing, InCheck, IsApart, IsLiveAnd, IsStraight, Sound, StandsOn, man_at}
use Rattle.game_rules.specs.declared.men.Kind.TheVariants.{King, Rook}
use Rattle.game_rules.specs.declared.men.Man.{Man}
use Rattle.game_rules.specs.declared.men.Side.{Side}
use Rattle.game_rules.specs.declared.men.Side.TheVariants.{White, Black}
use Rattle.game_rules.specs.declared.men.Square.{Square}
use Rattle.game_laws.specs.Symmetry.{place_on}
use Rattle.game_laws.proofs.BoardMaps.{shift_keeps}
use Rattle.game_laws.proofs.CheckLemmas.{any_is}
use Rattle.game_laws.proofs.KingLemmas.{both_kings}
use Rattle.desk_solve.specs.Drill.{case_position, offset, position_of, rooks_position}

abbrev at : ℤ → ℤ → Square
at x y = record { x = x; y = y }

-- the square of Black's king
abbrev corner : Square
corner = at (pos 0) (pos 0)

-- he stands neither in the column nor in the row of Black's king
record IsOff (a : Square) : Type 0 where
  column : pos 0 -ℤ a.x ≢ pos 0
  row : pos 0 -ℤ a.y ≢ pos 0

-- the men stand in rows of their own, and none of White's bears on Black's king
record AreClear (king first second : Square) : Type 0 where
  far : max (unsigned_abs (pos 0 -ℤ king.x)) (unsigned_abs (pos 0 -ℤ king.y)) ≢ 1
  king_row : king.y ≢ pos 0
  first_off : IsOff first
  second_off : IsOff second
  king_first : king.y ≢ first.y
  king_second : king.y ≢ second.y
  first_second : first.y ≢ second.y

-- squares of different rows are two
two : {A : Type 0} (a b z : Square) → a.y ≢ b.y → a ≡ z → b ≡ z → A
two a b z rows is so = absurd (rows (ap (λ (s : Square). s.y) (is ∙ sym so)))

off_row : {a : Square} → IsOff a → a.y ≢ pos 0
off_row off same = off.row (ap (λ y. pos 0 -ℤ y) same)

off_line : {a : Square} → IsOff a → IsStraight (pos 0 -ℤ a.x) (pos 0 -ℤ a.y) → ⊥
off_line off (inl reach) = off.column reach.0
off_line off (inr reach) = off.row reach.1

white_is_black : {A : Type 0} → White ≡ Black → A
white_is_black same = absurd (cc)

rook_is_king : {A : Type 0} → Rook ≡ King → A
rook_is_king same = absurd (cc)

module _ (king first second : Square) (clear : AreClear king first second) where
  abbrev p : Position
  p = rooks_position (place_on king) (place_on first) (place_on second)

  -- the number of a man and his square
  data Standing (i : ℕ) (z : Square) : Type 0 where
    as_king : i ≡ 1 → king ≡ z → Standing i z
    as_first : i ≡ 2 → first ≡ z → Standing i z
    as_second : i ≡ 3 → second ≡ z → Standing i z
    as_black : i ≡ 4 → corner ≡ z → Standing i z

  -- the man of a number is the one that is named
  as_man : (a m : Man) (P : Man → Type 0) → Some a ≡ Some m → P m → P a
  as_man a m P is holds = subst P (sym (same_Some a m is)) holds

  standing : (i : ℕ) (m : Man) (z : Square) → man_at p i ≡ Some m → StandsOn m z → Standing i z
  standing zero m z is stands = absurd (cc)
  standing (suc zero) m z is stands = as_king refl (same_Some king z (as_man _ m (λ n. StandsOn n z) is stands))
  standing (suc (suc zero)) m z is stands = as_first refl (same_Some first z (as_man _ m (λ n. StandsOn n z) is stands))
  standing (suc (suc (suc zero))) m z is stands = as_second refl (same_Some second z (as_man _ m (λ n. StandsOn n z) is stands))
  standing (suc (suc (suc (suc zero)))) m z is stands = as_black refl (same_Some corner z (as_man _ m (λ n. StandsOn n z) is stands))
  standing (suc (suc (suc (suc (suc i))))) m z is stands = absurd (cc)

  one_number : {i j : ℕ} {z : Square} → Standing i z → Standing j z → i ≡ j
  one_number (as_king e a) (as_king f b) = e ∙ sym f
  one_number {z} (as_king e a) (as_first f b) = two king first z clear.king_first a b
  one_number {z} (as_king e a) (as_second f b) = two king second z clear.king_second a b
  one_number {z} (as_king e a) (as_black f b) = two king corner z clear.king_row a b
  one_number {z} (as_first e a) (as_king f b) = two king first z clear.king_first b a
  one_number (as_first e a) (as_first f b) = e ∙ sym f
  one_number {z} (as_first e a) (as_second f b) = two first second z clear.first_second a b
  one_number {z} (as_first e a) (as_black f b) = two first corner z (off_row clear.first_off) a b
  one_number {z} (as_second e a) (as_king f b) = two king second z clear.king_second b a
  one_number {z} (as_second e a) (as_first f b) = two first second z clear.first_second b a
  one_number (as_second e a) (as_second f b) = e ∙ sym f
  one_number {z} (as_second e a) (as_black f b) = two second corner z (off_row clear.second_off) a b
  one_number {z} (as_black e a) (as_king f b) = two king corner z clear.king_row b a
  one_number {z} (as_black e a) (as_first f b) = two first corner z (off_row clear.first_off) b a
  one_number {z} (as_black e a) (as_second f b) = two second corner z (off_row clear.second_off) b a
  one_number (as_black e a) (as_black f b) = e ∙ sym f

  apart : IsApart p
  apart i j m n z is_m is_n s t = one_number (standing i m z is_m s) (standing j n z is_n t)

  only_white : (k : ℕ) (m : Man) → man_at p k ≡ Some m → m.side ≡ White → m.kind ≡ King → k ≡ 1
  only_white zero m is side kind = absurd (cc)
  only_white (suc zero) m is side kind = refl
  only_white (suc (suc zero)) m is side kind = rook_is_king (as_man _ m (λ n. n.kind ≡ King) is kind)
  only_white (suc (suc (suc zero))) m is side kind = rook_is_king (as_man _ m (λ n. n.kind ≡ King) is kind)
  only_white (suc (suc (suc (suc zero)))) m is side kind = white_is_black (sym (as_man _ m (λ n. n.side ≡ White) is side))
  only_white (suc (suc (suc (suc (suc k))))) m is side kind = absurd (cc)

  only_black : (k : ℕ) (m : Man) → man_at p k ≡ Some m → m.side ≡ Black → k ≡ 4
  only_black zero m is side = absurd (cc)
  only_black (suc zero) m is side = white_is_black (as_man _ m (λ n. n.side ≡ Black) is side)
  only_black (suc (suc zero)) m is side = white_is_black (as_man _ m (λ n. n.side ≡ Black) is side)
  only_black (suc (suc (suc zero))) m is side = white_is_black (as_man _ m (λ n. n.side ≡ Black) is side)
  only_black (suc (suc (suc (suc zero)))) m is side = refl
  only_black (suc (suc (suc (suc (suc k))))) m is side = absurd (cc)

  kings : (s : Side) → HasOneKing p s
  kings White = record { number = 1; king = _; is_man = refl; is_king = (refl, refl); live = λ gone. absurd (cc); only = only_white }
  kings Black = record { number = 4; king = _; is_man = refl; is_king = (refl, refl); live = λ gone. absurd (cc); only = λ k m is side kind. only_black k m is side }

  -- no man of White bears on Black's king
  no_reach : (k : ℕ) (m : Man) → man_at p k ≡ Some m → m.side ≡ White → Bears p m corner → ⊥
  no_reach zero m is side bears = absurd (cc)
  no_reach (suc zero) m is side bears = clear.far (as_man _ m (λ n. Bears p n corner) is bears)
  no_reach (suc (suc zero)) m is side bears = off_line clear.first_off ((as_man _ m (λ n. Bears p n corner) is bears).0)
  no_reach (suc (suc (suc zero))) m is side bears = off_line clear.second_off ((as_man _ m (λ n. Bears p n corner) is bears).0)
  no_reach (suc (suc (suc (suc zero)))) m is side bears = white_is_black (sym (as_man _ m (λ n. n.side ≡ White) is side))
  no_reach (suc (suc (suc (suc (suc k))))) m is side bears = absurd (cc)

  not_attacked : Attacked p White corner → ⊥
  not_attacked attacked =
      let man = any_is p (λ m. (m.side ≡ White) × Bears p m corner) attacked in no_reach man.0 man.1 man.2 man.3.0 man.3.1

  -- so Black is not in check
  other_safe : InCheck p Black → ⊥
  other_safe check =
      let IsChecked : Man → Type 0 = λ m. (m.side ≡ Black) × (m.kind ≡ King) × IsLiveAnd m (Attacked p White) in
      let man = any_is p IsChecked check in
      let fourth : man_at p 4 ≡ Some man.1 = subst (λ k. man_at p k ≡ Some man.1) (only_black man.0 man.1 man.2 man.3.0) man.2 in
      not_attacked ((as_man _ man.1 IsChecked fourth man.3).2)

  clear_sound : Sound p
  clear_sound = record { kings = both_kings kings; apart = apart; other_safe = other_safe }

-- tests tell these
abbrev differs : ℤ → ℤ → Type 0
differs x y = int_eq x y ≡ false

differ : (x y : ℤ) → differs x y → x ≢ y
differ x y is same = absurd (not_from_Decides (int_eq x y) (Decides-int_eq x y) is same)

differ_from_one : (n : ℕ) → (n == 1) ≡ false → n ≢ 1
differ_from_one n is same = absurd (not_from_Decides (n == 1) (Decides-eqb n 1) is same)

off : (a : Square) → differs (pos 0 -ℤ a.x) (pos 0) → differs (pos 0 -ℤ a.y) (pos 0) → IsOff a
off a column row = record { column = differ (pos 0 -ℤ a.x) (pos 0) column; row = differ (pos 0 -ℤ a.y) (pos 0) row }

tested : (king : Square) {first second : Square} → (max (unsigned_abs (pos 0 -ℤ king.x)) (unsigned_abs (pos 0 -ℤ king.y)) == 1) ≡ false → differs king.y (pos 0)
    → IsOff first → IsOff second → differs king.y first.y → differs king.y second.y → differs first.y second.y
    → Sound (rooks_position (place_on king) (place_on first) (place_on second))
tested king {first} {second} far king_row first_off second_off king_first king_second first_second = clear_sound king first second (record {
  far = differ_from_one (max (unsigned_abs (pos 0 -ℤ king.x)) (unsigned_abs (pos 0 -ℤ king.y))) far;
  king_row = differ king.y (pos 0) king_row;
  first_off = first_off;
  second_off = second_off;
  king_first = differ king.y first.y king_first;
  king_second = differ king.y second.y king_second;
  first_second = differ first.y second.y first_second;
})

-- where White's men stand in the first case
abbrev home : Square
home = at (pos 0) (negsuc 1)

abbrev right : Square
right = at (pos 10) (pos 1)

abbrev above : Square
above = at (pos 5) (pos 7)

-- the case of each number
case_sound : (k : ℕ) → k < 8 → Sound (case_position k)
case_sound zero small = tested home refl refl (off right refl refl) (off above refl refl) refl refl refl
case_sound (suc zero) small = tested (at (pos 100) (pos 98)) refl refl (off right refl refl) (off above refl refl) refl refl refl
case_sound (suc (suc zero)) small = let r = at (pos 10) (pos 2) in tested home refl refl (off r refl refl) (off above refl refl) refl refl refl
case_sound (suc (suc (suc zero))) small = let r = at (negsuc 4) (pos 7) in tested home refl refl (off right refl refl) (off r refl refl) refl refl refl
case_sound (suc (suc (suc (suc zero)))) small = let r = at (pos 5) (pos 1) in tested home refl refl (off r refl refl) (off above refl refl) refl refl refl
case_sound (suc (suc (suc (suc (suc zero))))) small = let r = at (pos 5) (negsuc 6) in tested home refl refl (off right refl refl) (off r refl refl) refl refl refl
case_sound (suc (suc (suc (suc (suc (suc zero)))))) small = let r = at (negsuc 9) (pos 1) in tested home refl refl (off r refl refl) (off above refl refl) refl refl refl
case_sound (suc (suc (suc (suc (suc (suc (suc zero))))))) small = let r = at (pos 1) (pos 7) in tested home refl refl (off right refl refl) (off r refl refl) refl refl refl
case_sound (suc (suc (suc (suc (suc (suc (suc (suc k)))))))) small = absurd (omega arith)

pub drill_sound : (state : ℕ) → Sound (position_of state)
drill_sound state = ((shift_keeps (offset (state / 2 ^ 16)) (offset (state / 2 ^ 32))).sound (case_position (state % 8))).0 (case_sound (state % 8) (omega arith))
