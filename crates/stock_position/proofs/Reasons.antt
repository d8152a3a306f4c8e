-- The first reason against the soundness of a position whose winner may have no king.
use Rattle.std.proofs.Common.{◌≡◌, ◌≢◌, ◌⊎◌, inl, inr, ◌↔◌, ℕ, ◌+◌, ◌<◌, Result, Ok, Err, IsOk, IfErr, OnOk, refl, sym, subst, ap, ◌∙◌, arith}
use Rattle.game_rules.specs.Game.{HasOneKingAtMost, InCheck, Position, man_at, other}
use Rattle.game_rules.specs.declared.men.Place.TheVariants.{Gone}
use Rattle.game_rules.specs.declared.men.Side.{Side}
use Rattle.game_rules.specs.declared.men.Side.TheVariants.{White, Black}
use Rattle.chess_game.specs.Unsoundness.{AreTwins, IsFirstPair, IsKingAt, IsLesserPair, IsUnsoundFor, rank}
use Rattle.chess_game.specs.declared.unsoundness.Unsound.{Unsound}
use Rattle.chess_game.specs.declared.unsoundness.Unsound.TheVariants.{NoKing, ManyKings, KingGone, SameSquare, OtherInCheck}
use Rattle.chess_game.proofs.UnsoundnessLemmas.{apart_from, man_of_some, number_cases}
use Rattle.stock_position.specs.Soundness.{IsFirstUnsoundnessFor, IsSoundFor}

-- a side is the winner or the loser
side_cases : (winner side : Side) → (side ≡ winner) ⊎ (side ≡ other winner)
side_cases White White = inl refl
side_cases White Black = inr refl
side_cases Black White = inr refl
side_cases Black Black = inl refl

not_winner : (winner : Side) → other winner ≡ winner → ⊥
not_winner White e = cc
not_winner Black e = cc

-- for a sound position with a king of the loser no reason holds
refuted : (e : Unsound) {p : Position} (winner : Side) → e ≢ NoKing winner → IsUnsoundFor p e → IsSoundFor winner p → ⊥
refuted (NoKing s) {p} winner counts h fine =
    elim (side_cases winner s) [
      | inl is ↦ counts (ap (λ t. NoKing t) is)
      | inr is ↦
          let one = fine.king in
          h one.number (rw one.is_man (one.is_king.0 ∙ sym is, one.is_king.1))
    ]
refuted (ManyKings s) {p} winner counts (i, j, lt, a, b) fine =
    let wa = man_of_some (man_at p i) _ a in
    let wb = man_of_some (man_at p j) _ b in
    let e : i ≡ j = (fine.sound.kings.few s).only i j wa.0 wb.0 wa.1 wb.1 wa.2.0 wb.2.0 wa.2.1 wb.2.1 in
    omega arith
refuted (KingGone s) {p} winner counts (i, a, gone) fine =
    let wa = man_of_some (man_at p i) _ a in
    let none : wa.0.place ≡ Gone = rw wa.1 at gone in
    (fine.sound.kings.few s).live i wa.0 wa.1 wa.2.0 wa.2.1 none
refuted (SameSquare i j) {p} winner counts (lt, (z, a, b)) fine =
    let wa = man_of_some (man_at p i) _ a in
    let wb = man_of_some (man_at p j) _ b in
    let e : i ≡ j = fine.sound.apart i j wa.0 wb.0 z wa.1 wb.1 wa.2 wb.2 in
    omega arith
refuted OtherInCheck winner counts h fine = fine.sound.other_safe h

pub unsound_refuted : (e : Unsound) (winner : Side) (p : Position) → IsFirstUnsoundnessFor winner p e → IsSoundFor winner p → ⊥
unsound_refuted e winner p h fine = refuted e winner h.counts h.holds fine

-- a check that returns the first reason returns no error if and only if the position is sound
pub ok_exactly : {A : Type 0} (r : Result A Unsound) (winner : Side) (p : Position) → OnOk r (IsSoundFor winner p) → IfErr r (IsFirstUnsoundnessFor winner p)
    → IsOk r ↔ IsSoundFor winner p
ok_exactly (Ok done) winner p fine reason = (λ t. fine, λ h. refl)
ok_exactly (Err e) winner p fine reason = (λ t. absurd (cc), λ h. absurd (unsound_refuted e winner p reason h))

-- no reason before this rank holds, but that the winner may have no king
abbrev pub IsClearFor : Side → Position → ℕ → Type 0
IsClearFor winner p n = (f : Unsound) → f ≢ NoKing winner → rank f < n → IsUnsoundFor p f → ⊥

-- the kings, one side after the other
pub record AreKingsFine (winner : Side) (p : Position) : Type 0 where
  pub number : ℕ
  pub king : IsKingAt p (other winner) number
  pub few_white : IsUnsoundFor p (ManyKings White) → ⊥
  pub few_black : IsUnsoundFor p (ManyKings Black) → ⊥
  pub live_white : IsUnsoundFor p (KingGone White) → ⊥
  pub live_black : IsUnsoundFor p (KingGone Black) → ⊥

-- where the loser has a king, that a side has none is no reason
some_king : (p : Position) (winner : Side) (number : ℕ) → IsKingAt p (other winner) number → (s : Side) → NoKing s ≢ NoKing winner
    → IsUnsoundFor p (NoKing s) → ⊥
some_king p winner number king s counts h =
    elim (side_cases winner s) [
      | inl is ↦ counts (ap (λ t. NoKing t) is)
      | inr is ↦ h number (subst (λ t. IsKingAt p t number) (sym is) king)
    ]

pub clear_some : (p : Position) (winner : Side) (number : ℕ) → IsKingAt p (other winner) number → IsClearFor winner p 2
clear_some p winner number king (NoKing s) counts low h = some_king p winner number king s counts h
clear_some p winner number king (ManyKings White) counts low h = absurd (omega (arith, low))
clear_some p winner number king (ManyKings Black) counts low h = absurd (omega (arith, low))
clear_some p winner number king (KingGone White) counts low h = absurd (omega (arith, low))
clear_some p winner number king (KingGone Black) counts low h = absurd (omega (arith, low))
clear_some p winner number king (SameSquare i j) counts low h = absurd (omega (arith, low))
clear_some p winner number king OtherInCheck counts low h = absurd (omega (arith, low))

-- one reason more that does not hold
pub clear_more : (p : Position) (winner : Side) (n : ℕ) → IsClearFor winner p n → ((f : Unsound) → rank f ≡ n → IsUnsoundFor p f → ⊥)
    → IsClearFor winner p (n + 1)
clear_more p winner n clear none f counts low h =
    elim (number_cases (rank f) n) [
      | inl lt ↦ clear f counts lt h
      | inr r ↦ elim r [ inl is ↦ none f is h | inr gt ↦ omega (arith, gt, low) ]
    ]

pub at_two : (p : Position) → (IsUnsoundFor p (ManyKings White) → ⊥) → (f : Unsound) → rank f ≡ 2 → IsUnsoundFor p f → ⊥
at_two p none (ManyKings White) is h = none h
at_two p none (ManyKings Black) is h = omega (arith, is)
at_two p none (NoKing White) is h = omega (arith, is)
at_two p none (NoKing Black) is h = omega (arith, is)
at_two p none (KingGone White) is h = omega (arith, is)
at_two p none (KingGone Black) is h = omega (arith, is)
at_two p none (SameSquare i j) is h = omega (arith, is)
at_two p none OtherInCheck is h = omega (arith, is)

pub at_three : (p : Position) → (IsUnsoundFor p (ManyKings Black) → ⊥) → (f : Unsound) → rank f ≡ 3 → IsUnsoundFor p f → ⊥
at_three p none (ManyKings Black) is h = none h
at_three p none (ManyKings White) is h = omega (arith, is)
at_three p none (NoKing White) is h = omega (arith, is)
at_three p none (NoKing Black) is h = omega (arith, is)
at_three p none (KingGone White) is h = omega (arith, is)
at_three p none (KingGone Black) is h = omega (arith, is)
at_three p none (SameSquare i j) is h = omega (arith, is)
at_three p none OtherInCheck is h = omega (arith, is)

pub at_four : (p : Position) → (IsUnsoundFor p (KingGone White) → ⊥) → (f : Unsound) → rank f ≡ 4 → IsUnsoundFor p f → ⊥
at_four p none (KingGone White) is h = none h
at_four p none (KingGone Black) is h = omega (arith, is)
at_four p none (NoKing White) is h = omega (arith, is)
at_four p none (NoKing Black) is h = omega (arith, is)
at_four p none (ManyKings White) is h = omega (arith, is)
at_four p none (ManyKings Black) is h = omega (arith, is)
at_four p none (SameSquare i j) is h = omega (arith, is)
at_four p none OtherInCheck is h = omega (arith, is)

pub at_five : (p : Position) → (IsUnsoundFor p (KingGone Black) → ⊥) → (f : Unsound) → rank f ≡ 5 → IsUnsoundFor p f → ⊥
at_five p none (KingGone Black) is h = none h
at_five p none (KingGone White) is h = omega (arith, is)
at_five p none (NoKing White) is h = omega (arith, is)
at_five p none (NoKing Black) is h = omega (arith, is)
at_five p none (ManyKings White) is h = omega (arith, is)
at_five p none (ManyKings Black) is h = omega (arith, is)
at_five p none (SameSquare i j) is h = omega (arith, is)
at_five p none OtherInCheck is h = omega (arith, is)

pub at_six : (p : Position) → ((i k : ℕ) → i < k → AreTwins p i k → ⊥) → (f : Unsound) → rank f ≡ 6 → IsUnsoundFor p f → ⊥
at_six p none (SameSquare i j) is h = none i j h.0 h.1
at_six p none (KingGone White) is h = omega (arith, is)
at_six p none (KingGone Black) is h = omega (arith, is)
at_six p none (NoKing White) is h = omega (arith, is)
at_six p none (NoKing Black) is h = omega (arith, is)
at_six p none (ManyKings White) is h = omega (arith, is)
at_six p none (ManyKings Black) is h = omega (arith, is)
at_six p none OtherInCheck is h = omega (arith, is)

no_pair : (f e : Unsound) → (rank e ≡ 6 → ⊥) → IsLesserPair f e → ⊥
no_pair (SameSquare k l) (SameSquare i j) ne h = ne refl
no_pair (SameSquare k l) (NoKing s) ne h = h
no_pair (SameSquare k l) (ManyKings s) ne h = h
no_pair (SameSquare k l) (KingGone s) ne h = h
no_pair (SameSquare k l) OtherInCheck ne h = h
no_pair (NoKing s) e ne h = h
no_pair (ManyKings s) e ne h = h
no_pair (KingGone s) e ne h = h
no_pair OtherInCheck e ne h = h

-- a reason that holds is the first one if none of a lesser rank holds
pub first_reason : (p : Position) (winner : Side) (e : Unsound) → e ≢ NoKing winner → (rank e ≡ 6 → ⊥) → IsClearFor winner p (rank e)
    → IsUnsoundFor p e → IsFirstUnsoundnessFor winner p e
first_reason p winner e counts ne clear h =
    record {
      counts = counts;
      holds = h;
      first = λ f may before there.
          elim before [ inl lt ↦ clear f may lt there | inr lesser ↦ no_pair f e ne lesser ];
    }

-- a missing king of the loser is the first reason
below_no_king : (winner : Side) (p : Position) → IsClearFor winner p (rank (NoKing (other winner)))
below_no_king White p (NoKing White) counts low h = counts refl
below_no_king White p (NoKing Black) counts low h = omega (arith, low)
below_no_king White p (ManyKings White) counts low h = omega (arith, low)
below_no_king White p (ManyKings Black) counts low h = omega (arith, low)
below_no_king White p (KingGone White) counts low h = omega (arith, low)
below_no_king White p (KingGone Black) counts low h = omega (arith, low)
below_no_king White p (SameSquare i j) counts low h = omega (arith, low)
below_no_king White p OtherInCheck counts low h = omega (arith, low)
below_no_king Black p f counts low h = omega (arith, low)

rank_no_king : (s : Side) → rank (NoKing s) ≡ 6 → ⊥
rank_no_king White e = omega (arith, e)
rank_no_king Black e = omega (arith, e)

king_injective : (s t : Side) → NoKing s ≡ NoKing t → s ≡ t
king_injective s t e = cc

pub no_king_first : (p : Position) (winner : Side) → IsUnsoundFor p (NoKing (other winner)) → IsFirstUnsoundnessFor winner p (NoKing (other winner))
no_king_first p winner h =
    first_reason p winner (NoKing (other winner)) (λ e. not_winner winner (king_injective (other winner) winner e)) (rank_no_king (other winner))
    (below_no_king winner p) h

no_lesser : (p : Position) (i j : ℕ) (f : Unsound) → IsFirstPair p (SameSquare i j) → IsLesserPair f (SameSquare i j) → IsUnsoundFor p f → ⊥
no_lesser p i j (SameSquare k l) h (inl lt) there = h.2 k l lt there.0 there.1
no_lesser p i j (SameSquare k l) h (inr w) there =
    h.3 l (subst (λ n. n < l) w.0 there.0) w.1 (subst (λ n. AreTwins p n l) w.0 there.1)
no_lesser p i j (NoKing s) h lesser there = lesser
no_lesser p i j (ManyKings s) h lesser there = lesser
no_lesser p i j (KingGone s) h lesser there = lesser
no_lesser p i j OtherInCheck h lesser there = lesser

-- the first two men on one square are the first reason, if the kings are fine
pub first_pair : (p : Position) (winner : Side) (e : Unsound) → IsClearFor winner p 6 → IsFirstPair p e → IsFirstUnsoundnessFor winner p e
first_pair p winner (SameSquare i j) clear h =
    record {
      counts = λ e. cc;
      holds = (h.0, h.1);
      first = λ f may before there. elim before [ inl lt ↦ clear f may lt there | inr lesser ↦ no_lesser p i j f h lesser there ];
    }
first_pair p winner (NoKing s) clear h = absurd h
first_pair p winner (ManyKings s) clear h = absurd h
first_pair p winner (KingGone s) clear h = absurd h
first_pair p winner OtherInCheck clear h = absurd h

-- the clear ranks before a reason, as the checks go on
pub clear_three : (p : Position) (winner : Side) (number : ℕ) → IsKingAt p (other winner) number → (IsUnsoundFor p (ManyKings White) → ⊥) → IsClearFor winner p 3
clear_three p winner number king few = clear_more p winner 2 (clear_some p winner number king) (at_two p few)

pub clear_four : (p : Position) (winner : Side) (number : ℕ) → IsKingAt p (other winner) number → (IsUnsoundFor p (ManyKings White) → ⊥)
    → (IsUnsoundFor p (ManyKings Black) → ⊥) → IsClearFor winner p 4
clear_four p winner number king white black = clear_more p winner 3 (clear_three p winner number king white) (at_three p black)

pub clear_five : (p : Position) (winner : Side) (number : ℕ) → IsKingAt p (other winner) number → (IsUnsoundFor p (ManyKings White) → ⊥)
    → (IsUnsoundFor p (ManyKings Black) → ⊥) → (IsUnsoundFor p (KingGone White) → ⊥) → IsClearFor winner p 5
clear_five p winner number king white black live = clear_more p winner 4 (clear_four p winner number king white black) (at_four p live)

pub clear_kings : {p : Position} {winner : Side} → AreKingsFine winner p → IsClearFor winner p 6
clear_kings {p} {winner} h =
    clear_more p winner 5 (clear_five p winner h.number h.king h.few_white h.few_black h.live_white) (at_five p h.live_black)

pub clear_apart : {p : Position} {winner : Side} → AreKingsFine winner p → ((i k : ℕ) → i < k → AreTwins p i k → ⊥) → IsClearFor winner p 7
clear_apart {p} {winner} h apart = clear_more p winner 6 (clear_kings h) (at_six p apart)

-- a side has at most one king, who is live
few_kings : {p : Position} (s : Side) → (IsUnsoundFor p (ManyKings s) → ⊥) → (IsUnsoundFor p (KingGone s) → ⊥) → HasOneKingAtMost p s
few_kings {p} s few live =
    record {
      live = λ k m is side kind gone. live (k, rw is (side, kind), rw is gone);
      only = λ j k m n is_m is_n side_m side_n kind_m kind_n.
          elim (number_cases j k) [
            | inl lt ↦ absurd (few (j, k, lt, rw is_m (side_m, kind_m), rw is_n (side_n, kind_n)))
            | inr r ↦ elim r [
              | inl e ↦ e
              | inr gt ↦ absurd (few (k, j, gt, rw is_n (side_n, kind_n), rw is_m (side_m, kind_m)))
            ]
          ];
    }

few_of : {winner : Side} {p : Position} → AreKingsFine winner p → (s : Side) → HasOneKingAtMost p s
few_of h White = few_kings White h.few_white h.live_white
few_of h Black = few_kings Black h.few_black h.live_black

pub sound_for : {winner : Side} {p : Position} → AreKingsFine winner p → ((i k : ℕ) → i < k → AreTwins p i k → ⊥) → (InCheck p (other p.turn) → ⊥)
    → IsSoundFor winner p
sound_for {winner} {p} h apart safe =
    let w = man_of_some (man_at p h.number) _ h.king in
    let few = few_of h (other winner) in
    record {
      sound = record {
        kings = record {
          few = few_of h;
          some = λ none. none h.number w.0 w.1 w.2.1;
        };
        apart = apart_from p apart;
        other_safe = safe;
      };
      king = record {
        number = h.number;
        king = w.0;
        is_man = w.1;
        is_king = w.2;
        live = few.live h.number w.0 w.1 w.2.0 w.2.1;
        only = λ k m is side kind. few.only k h.number m w.0 is w.1 side w.2.0 kind w.2.1;
      };
    }
