-- The king of the side to move, and who gives him check.
use Rattle.std.proofs.Common.{◌≡◌, ◌≢◌, ◌↔◌, ℕ, ◌<◌, length, List, get_or, Option, Some, None, sym, ap, subst, ◌∙◌, refl, arith, rules}
use Rattle.std.specs.Prelude.{IsSomeAnd}
use Rattle.std.specs.List.{Any}
use Rattle.std.specs.Option.{ForSome, MatchOption}
use Rattle.std.proofs.lemmas.Int.{ints}
use Rattle.std.proofs.lemmas.Option.{same_Some}
use Rattle.game_rules.specs.declared.men.Kind.TheVariants.{King}
use Rattle.game_rules.specs.declared.men.Man.{Man}
use Rattle.game_rules.specs.declared.men.Place.{Place}
use Rattle.game_rules.specs.declared.men.Place.TheVariants.{Gone, At}
use Rattle.game_rules.specs.declared.men.Side.{Side}
use Rattle.game_rules.specs.declared.men.Square.{Square}
use Rattle.game_rules.specs.Game.{Position, Attacked, HasOneKingAtMost, InCheck, IsLiveAnd, Sound, StandsOn, man_at, other, place_square, square_of}
use Rattle.game_rules.specs.declared.men.Ray.{Ray}
use Rattle.game_rules.specs.Rays.{rays_of}
use Rattle.game_laws.specs.Answer.{CanGo, HasAnswer, answer_square}
use Rattle.game_laws.proofs.AnswerLemmas.{same_stand}
use Rattle.game_laws.proofs.CheckLemmas.{any_is}
use Rattle.game_laws.proofs.SoundLemmas.{any_at}
use Rattle.chess_game.specs.Check.{HasNoKing, IsClose, IsKingOn}
use Rattle.chess_game.specs.Near.{IsNarrow, IsNarrowMan, IsNarrowPosition}

-- what holds of no element holds of none of them
pub none_any : {X : Type 0} (P : X → Type 0) (xs : List X) → ((k : ℕ) (d : X) → k < length xs → P (get_or xs k d) → ⊥) → Any P xs → ⊥
none_any P xs none (k, x, within, is, h) = none k x within (subst P (sym is) h)

live_square : (a : Place) → a ≢ Gone → (z : Square) × (place_square a ≡ Some z)
live_square Gone live = absurd (live refl)
live_square (At x y) live = (record { x = x; y = y }, refl)

some_matches : {X : Type 0} (P : Type 0) (Q : X → Type 0) (o : Option X) → IsSomeAnd o Q → MatchOption o P Q
some_matches P Q None h = absurd h
some_matches P Q (Some x) h = h

-- a side with no king is not in check
pub no_check : (p : Position) (s : Side) → HasNoKing p s → InCheck p s → ⊥
no_check p s none check =
    let there = any_is p _ check in none (any_at p _ there.0 there.1 there.2 (there.3.0, there.3.1))

module _ (p : Position) (sound : Sound p) where
  few : HasOneKingAtMost p p.turn
  few = sound.kings.few p.turn

  -- two kings of the side to move are one man
  is_one : (j k : ℕ) (m n : Man) → man_at p j ≡ Some m → man_at p k ≡ Some n → (m.side ≡ p.turn) × (m.kind ≡ King) → (n.side ≡ p.turn) × (n.kind ≡ King) → m ≡ n
  is_one j k m n is_m is_n king_m king_n =
      let same : j ≡ k = few.only j k m n is_m is_n king_m.0 king_n.0 king_m.1 king_n.1 in
      same_Some m n (sym is_m ∙ ap (man_at p) same ∙ is_n)

  -- he is live
  pub king_on : (k : ℕ) (m : Man) → man_at p k ≡ Some m → m.side ≡ p.turn → m.kind ≡ King → IsSomeAnd (square_of m) (λ z. Any (IsKingOn p.turn z) p.men)
  king_on k m is side kind =
      let w = live_square m.place (few.live k m is side kind) in
      subst (λ o. IsSomeAnd o (λ z. Any (IsKingOn p.turn z) p.men)) (sym w.1) (any_at p (IsKingOn p.turn w.0) k m is (side, kind, w.1))

  pub king_on_some : (k : ℕ) (m : Man) → man_at p k ≡ Some m → m.side ≡ p.turn → m.kind ≡ King
      → MatchOption (square_of m) (HasNoKing p p.turn) (λ z. Any (IsKingOn p.turn z) p.men)
  king_on_some k m is side kind = some_matches (HasNoKing p p.turn) (λ z. Any (IsKingOn p.turn z) p.men) (square_of m) (king_on k m is side kind)

  -- in check, the square where he stands is attacked
  pub king_attacked : (z : Square) → Any (IsKingOn p.turn z) p.men → InCheck p p.turn → Attacked p (other p.turn) z
  king_attacked z on check =
      let here = any_is p (IsKingOn p.turn z) on in
      let there = any_is p _ check in
      let same : there.1 ≡ here.1 = is_one there.0 here.0 there.1 here.1 there.2 here.2 (there.3.0, there.3.1) (here.3.0, here.3.1) in
      let attacked : IsLiveAnd here.1 (Attacked p (other p.turn)) = subst (λ m. IsLiveAnd m (Attacked p (other p.turn))) same there.3.2 in
      same_stand (square_of here.1) z (Attacked p (other p.turn)) here.3.2 attacked

-- man i, who stands at b, has the answers of his rays
pub answers_at : (p : Position) (a k : Square) (i : ℕ) (m : Man) (b : Square) → man_at p i ≡ Some m → StandsOn m b
    → HasAnswer p a k i ↔ Any (λ r. CanGo p i (answer_square a k b r)) (rays_of m.kind m.side)
answers_at p a k i m b is s =
    let Goes : Square → Ray → Type 0 = λ b r. CanGo p i (answer_square a k b r) in
    let Along : Man → Type 0 = λ m. IsLiveAnd m (λ b. Any (Goes b) (rays_of m.kind m.side)) in
    let On : Option Square → Type 0 = λ o. IsSomeAnd o (λ b. Any (Goes b) (rays_of m.kind m.side)) in (
      λ h.
          let at_man : Along m = subst (λ o. IsSomeAnd o Along) is h in
          let at_square : On (Some b) = subst On s at_man in
          at_square,
      λ h.
          let at_man : Along m = subst On (sym s) h in
          subst (λ o. IsSomeAnd o Along) (sym is) at_man,
    )

narrow_some : (a : Square) → ForSome (Some a) IsNarrow → IsNarrow a
narrow_some a h = search (rules, h)

-- where a man stands is close
pub any_close : (p : Position) → IsNarrowPosition p → (z : Square) (Q : Man → Type 0) → ((m : Man) → Q m → StandsOn m z) → Any Q p.men → IsClose z
any_close p narrow z Q on (k, m, within, is, h) =
    let here : IsNarrowMan m = subst IsNarrowMan is (narrow k m within) in
    let some : ForSome (Some z) IsNarrow = subst (λ o. ForSome o IsNarrow) (on m h) here in
    let fits : IsNarrow z = narrow_some z some in
    record { x = omega (arith, ints, fits.0); y = omega (arith, ints, fits.1) }
