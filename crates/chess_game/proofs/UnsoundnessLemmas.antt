-- Which positions are sound, and the first reason why one is not.
use Rattle.std.proofs.Common.{◌≡◌, ◌⊎◌, inl, inr, ℕ, zero, suc, ◌<◌, ◌≤◌, length, Option, Some, None, subst, ◌∙◌, arith, refl}
use Rattle.std.proofs.lemmas.Option.{slice_get_cases}
use Rattle.std.specs.Prelude.{IsSomeAnd}
use Rattle.game_rules.specs.Game.{Position, HasBothKings, HasOneKing, Sound, SoundWithKings, StandsOn, man_at}
use Rattle.game_rules.specs.declared.men.Man.{Man}
use Rattle.game_rules.specs.declared.men.Place.TheVariants.{Gone}
use Rattle.game_rules.specs.declared.men.Side.{Side}
use Rattle.game_rules.specs.declared.men.Side.TheVariants.{White, Black}
use Rattle.game_rules.specs.declared.men.Square.{Square}
use Rattle.chess_game.specs.Unsoundness.{AreTwins, IsUnsoundFor, IsFirstUnsoundness, IsFirstPair, IsGoneAt, IsKingAt, IsLesserPair, rank}
use Rattle.chess_game.specs.declared.unsoundness.Unsound.{Unsound}
use Rattle.chess_game.specs.declared.unsoundness.Unsound.TheVariants.{NoKing, ManyKings, KingGone, SameSquare, OtherInCheck}

-- a man has a number
pub within : (p : Position) (i : ℕ) (P : Man → Type 0) → IsSomeAnd (man_at p i) P → (0 < i) × (i ≤ length p.men)
within p zero P h = absurd h
within p (suc k) P h =
    elim (slice_get_cases p.men k).1 [
      | inl w ↦ (omega arith, omega (arith, w.1))
      | inr w ↦ absurd (rw w.1 at h)
    ]

-- who he is
pub man_of_some : (o : Option Man) (P : Man → Type 0) → IsSomeAnd o P → (m : Man) × (o ≡ Some m) × P m
man_of_some None P h = absurd h
man_of_some (Some m) P h = (m, refl, h)

pub number_cases : (i j : ℕ) → (i < j) ⊎ ((i ≡ j) ⊎ (j < i))
number_cases i j = grind arith

-- the first king is the only one, and live
pub one_king : (p : Position) (s : Side) (i : ℕ) → IsKingAt p s i → ((k : ℕ) → k < i → IsKingAt p s k → ⊥)
    → ((k : ℕ) → i < k → IsKingAt p s k → ⊥) → (IsGoneAt p i → ⊥) → HasOneKing p s
one_king p s i king first last live =
    let w = man_of_some (man_at p i) _ king in
    record {
      number = i;
      king = w.0;
      is_man = w.1;
      is_king = w.2;
      live = λ gone. live (rw w.1 gone);
      only = λ k m is side kind.
          let here : IsKingAt p s k = rw is (side, kind) in
          elim (number_cases k i) [
            | inl lt ↦ absurd (first k lt here)
            | inr r ↦ elim r [ inl e ↦ e | inr gt ↦ absurd (last k gt here) ]
          ];
    }

pub apart_from : (p : Position) → ((i k : ℕ) → i < k → AreTwins p i k → ⊥) → (i j : ℕ) (m n : Man) (z : Square)
    → man_at p i ≡ Some m → man_at p j ≡ Some n → StandsOn m z → StandsOn n z → i ≡ j
apart_from p none i j m n z is_m is_n s t =
    elim (number_cases i j) [
      | inl lt ↦ absurd (none i j lt (z, rw is_m s, rw is_n t))
      | inr r ↦ elim r [ inl e ↦ e | inr gt ↦ absurd (none j i gt (z, rw is_n t, rw is_m s)) ]
    ]

-- for a sound position with both kings no reason holds
refuted : (e : Unsound) {p : Position} → IsUnsoundFor p e → Sound p → HasBothKings p → ⊥
refuted (NoKing s) h sound kings =
    let one = kings s in h one.number (rw one.is_man one.is_king)
refuted (ManyKings s) {p} (i, j, lt, a, b) sound kings =
    let wa = man_of_some (man_at p i) _ a in
    let wb = man_of_some (man_at p j) _ b in
    let e : i ≡ j = (sound.kings.few s).only i j wa.0 wb.0 wa.1 wb.1 wa.2.0 wb.2.0 wa.2.1 wb.2.1 in
    omega arith
refuted (KingGone s) {p} (i, a, gone) sound kings =
    let wa = man_of_some (man_at p i) _ a in
    let none : wa.0.place ≡ Gone = rw wa.1 at gone in
    (sound.kings.few s).live i wa.0 wa.1 wa.2.0 wa.2.1 none
refuted (SameSquare i j) {p} (lt, (z, a, b)) sound kings =
    let wa = man_of_some (man_at p i) _ a in
    let wb = man_of_some (man_at p j) _ b in
    let e : i ≡ j = sound.apart i j wa.0 wb.0 z wa.1 wb.1 wa.2 wb.2 in
    omega arith
refuted OtherInCheck h sound kings = sound.other_safe h

pub unsound_refuted : (e : Unsound) (p : Position) → IsFirstUnsoundness p e → SoundWithKings p → ⊥
unsound_refuted e p h whole = refuted e h.holds whole.sound whole.kings

pub kings_from : {p : Position} → HasOneKing p White → HasOneKing p Black → (s : Side) → HasOneKing p s
kings_from w b White = w
kings_from w b Black = b

-- no reason before this place in the order holds
abbrev pub IsClear : Position → ℕ → Type 0
IsClear p n = (f : Unsound) → rank f < n → IsUnsoundFor p f → ⊥

-- the only king of the side is live
not_many : (p : Position) (s : Side) (i : ℕ) → ((k : ℕ) → k < i → IsKingAt p s k → ⊥) → ((k : ℕ) → i < k → IsKingAt p s k → ⊥) → IsUnsoundFor p (ManyKings s) → ⊥
not_many p s i first last (a, b, lt, ka, kb) =
    elim (number_cases a i) [
      | inl less ↦ first a less ka
      | inr r ↦ elim r [ inl same ↦ last b (omega arith) kb | inr gt ↦ last a gt ka ]
    ]

not_gone : (p : Position) (s : Side) (i : ℕ) → ((k : ℕ) → k < i → IsKingAt p s k → ⊥)
    → ((k : ℕ) → i < k → IsKingAt p s k → ⊥) → (IsGoneAt p i → ⊥) → IsUnsoundFor p (KingGone s) → ⊥
not_gone p s i first last live (a, ka, gone) =
    elim (number_cases a i) [
      | inl less ↦ first a less ka
      | inr r ↦ elim r [ inl same ↦ live (subst (IsGoneAt p) same gone) | inr gt ↦ last a gt ka ]
    ]

-- where each side's first king is its only one, and live, no reason that speaks of kings alone holds
pub clear_kings : (p : Position) (w b : ℕ) → IsKingAt p White w → IsKingAt p Black b → ((k : ℕ) → k < w → IsKingAt p White k → ⊥)
    → ((k : ℕ) → k < b → IsKingAt p Black k → ⊥) → ((k : ℕ) → w < k → IsKingAt p White k → ⊥) → ((k : ℕ) → b < k → IsKingAt p Black k → ⊥)
    → (IsGoneAt p w → ⊥) → (IsGoneAt p b → ⊥) → IsClear p 6
clear_kings p w b kw kb fw fb lw lb gw gb (NoKing White) low h = h w kw
clear_kings p w b kw kb fw fb lw lb gw gb (NoKing Black) low h = h b kb
clear_kings p w b kw kb fw fb lw lb gw gb (ManyKings White) low h = not_many p White w fw lw h
clear_kings p w b kw kb fw fb lw lb gw gb (ManyKings Black) low h = not_many p Black b fb lb h
clear_kings p w b kw kb fw fb lw lb gw gb (KingGone White) low h = not_gone p White w fw lw gw h
clear_kings p w b kw kb fw fb lw lb gw gb (KingGone Black) low h = not_gone p Black b fb lb gb h
clear_kings p w b kw kb fw fb lw lb gw gb (SameSquare i j) low h = absurd (omega arith)
clear_kings p w b kw kb fw fb lw lb gw gb OtherInCheck low h = absurd (omega arith)

no_pair : (f e : Unsound) → (rank e ≡ 6 → ⊥) → IsLesserPair f e → ⊥
no_pair (SameSquare k l) (SameSquare i j) ne h = ne refl
no_pair (SameSquare k l) (NoKing s) ne h = h
no_pair (SameSquare k l) (ManyKings s) ne h = h
no_pair (SameSquare k l) (KingGone s) ne h = h
no_pair (SameSquare k l) OtherInCheck ne h = h
no_pair (NoKing s) e ne h = h
no_pair (ManyKings s) e ne h = h
no_pair (KingGone s) e ne h = h
no_pair OtherInCheck e ne h = h

pub first_unsoundness : (p : Position) (e : Unsound) → (rank e ≡ 6 → ⊥) → IsClear p (rank e) → IsUnsoundFor p e → IsFirstUnsoundness p e
first_unsoundness p e ne clear h =
    record {
      holds = h;
      first = λ f before there.
          elim before [ inl lt ↦ clear f lt there | inr lesser ↦ no_pair f e ne lesser ];
    }

no_lesser : (p : Position) (i j : ℕ) (f : Unsound) → IsFirstPair p (SameSquare i j) → IsLesserPair f (SameSquare i j) → IsUnsoundFor p f → ⊥
no_lesser p i j (SameSquare k l) h (inl lt) there = h.2 k l lt there.0 there.1
no_lesser p i j (SameSquare k l) h (inr w) there =
    h.3 l (subst (λ n. n < l) w.0 there.0) w.1 (subst (λ n. AreTwins p n l) w.0 there.1)
no_lesser p i j (NoKing s) h lesser there = lesser
no_lesser p i j (ManyKings s) h lesser there = lesser
no_lesser p i j (KingGone s) h lesser there = lesser
no_lesser p i j OtherInCheck h lesser there = lesser

-- the first two men on one square are the first reason, where no other stands before
pub first_pair : (p : Position) (e : Unsound) → IsClear p 6 → IsFirstPair p e → IsFirstUnsoundness p e
first_pair p (SameSquare i j) clear h =
    record {
      holds = (h.0, h.1);
      first = λ f before there. elim before [ inl lt ↦ clear f lt there | inr lesser ↦ no_lesser p i j f h lesser there ];
    }
first_pair p (NoKing s) clear h = absurd h
first_pair p (ManyKings s) clear h = absurd h
first_pair p (KingGone s) clear h = absurd h
first_pair p OtherInCheck clear h = absurd h

-- nor do two men stand on one square
pub clear_apart : (p : Position) → IsClear p 6 → ((i k : ℕ) → i < k → AreTwins p i k → ⊥) → IsClear p 7
clear_apart p clear apart (SameSquare i j) low h = apart i j h.0 h.1
clear_apart p clear apart (NoKing White) low h = clear (NoKing White) (omega arith) h
clear_apart p clear apart (NoKing Black) low h = clear (NoKing Black) (omega arith) h
clear_apart p clear apart (ManyKings White) low h = clear (ManyKings White) (omega arith) h
clear_apart p clear apart (ManyKings Black) low h = clear (ManyKings Black) (omega arith) h
clear_apart p clear apart (KingGone White) low h = clear (KingGone White) (omega arith) h
clear_apart p clear apart (KingGone Black) low h = clear (KingGone Black) (omega arith) h
clear_apart p clear apart OtherInCheck low h = absurd (omega arith)
