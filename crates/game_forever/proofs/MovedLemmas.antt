-- Maps of the board that keep the game keep forced mate; translations one after the other.
use Rattle.std.proofs.Common.{◌≡◌, ◌↔◌, ℕ, ℤ, ◌+ℤ◌, List, [], ◌∷◌, map, refl, ap, subst, ◌∙◌, arith}
use Rattle.std.proofs.lemmas.Int.{ints}
use Rattle.game_rules.specs.Game.{Legal, Position}
use Rattle.game_rules.specs.declared.men.Man.{Man}
use Rattle.game_rules.specs.declared.men.Place.{Place}
use Rattle.game_rules.specs.declared.men.Place.TheVariants.{At, Gone}
use Rattle.game_rules.specs.declared.men.Side.{Side}
use Rattle.game_rules.specs.declared.men.Square.{Square}
use Rattle.game_laws.specs.Symmetry.{BoardMap, mapped, mapped_man, mapped_place, shift}
use Rattle.game_laws.proofs.BoardMaps.{negated, shift_undone}
use Rattle.game_laws.proofs.SymmetryLemmas.{IsUndone, again, from_mapped, keeps_game, legal_from, undone_back}
use Rattle.game_forever.specs.AtLast.{ForcesMate, later, now}

-- the first map is undone by the second: mate that is forced here is forced on the mapped board
module _ (f g : BoardMap) (u : IsUndone f g) where
  mate_to : (winner : Side) (p : Position) → ForcesMate winner p → ForcesMate (f.side winner) (mapped f p)
  mate_to winner p (now i z q turn l mate) =
      now i (f.square z) (mapped f q) (ap f.side turn) (((keeps_game u).legal p i z q).0 l) (((keeps_game u).mate q).0 mate)
  mate_to winner p (later i z q turn l move each) =
      later i (f.square z) (mapped f q) (ap f.side turn) (((keeps_game u).legal p i z q).0 l) (((keeps_game u).has_move q).0 move)
      (λ j w r next.
      subst (ForcesMate (f.side winner)) (again g f (undone_back u) r)
      (mate_to winner (mapped g r) (each j (g.square w) (mapped g r) (legal_from f g u q next))))

pub map_keeps_mate : {f g : BoardMap} → IsUndone f g → (winner : Side) (p : Position) → ForcesMate winner p ↔ ForcesMate (f.side winner) (mapped f p)
map_keeps_mate {f} {g} u winner p = (mate_to f g u winner p, from_mapped u ForcesMate (mate_to g f (undone_back u)) winner p)

-- two translations are one
module _ (dx dy ex ey ax ay : ℤ) (x_is : dx +ℤ ex ≡ ax) (y_is : dy +ℤ ey ≡ ay) where
  place_twice : (a : Place) → mapped_place (shift ex ey) (mapped_place (shift dx dy) a) ≡ mapped_place (shift ax ay) a
  place_twice Gone = refl
  place_twice (At x y) =
      let across : (x +ℤ dx) +ℤ ex ≡ x +ℤ ax = omega (arith, ints, x_is) in
      let up : (y +ℤ dy) +ℤ ey ≡ y +ℤ ay = omega (arith, ints, y_is) in
      ap (λ u. At u ((y +ℤ dy) +ℤ ey)) across ∙ ap (λ v. At (x +ℤ ax) v) up

  men_twice : (ms : List Man) → map (mapped_man (shift ex ey)) (map (mapped_man (shift dx dy)) ms) ≡ map (mapped_man (shift ax ay)) ms
  men_twice [] = refl
  men_twice (m ∷ ms) =
      ap (λ a. record m { place = a } ∷ map (mapped_man (shift ex ey)) (map (mapped_man (shift dx dy)) ms)) (place_twice m.place)
      ∙ ap (λ ns. mapped_man (shift ax ay) m ∷ ns) (men_twice ms)

  pub shifted_twice : (p : Position) → mapped (shift ex ey) (mapped (shift dx dy) p) ≡ mapped (shift ax ay) p
  shifted_twice p = ap (λ ms. record { men = ms; turn = p.turn }) (men_twice p.men)

-- there and back, and back and there
pub shifted_back : (dx dy : ℤ) (p : Position) → mapped (shift (negated dx) (negated dy)) (mapped (shift dx dy) p) ≡ p
shifted_back dx dy p = again (shift dx dy) (shift (negated dx) (negated dy)) (shift_undone dx dy) p

pub shifted_forth : (dx dy : ℤ) (p : Position) → mapped (shift dx dy) (mapped (shift (negated dx) (negated dy)) p) ≡ p
shifted_forth dx dy p = again (shift (negated dx) (negated dy)) (shift dx dy) (undone_back (shift_undone dx dy)) p

-- each legal move from a translated position is a translated legal move
pub legal_back : (dx dy : ℤ) (p : Position) (i : ℕ) (z : Square) (r : Position) → Legal (mapped (shift dx dy) p) i z r
    → Legal p i ((shift (negated dx) (negated dy)).square z) (mapped (shift (negated dx) (negated dy)) r)
legal_back dx dy p i z r l = legal_from (shift dx dy) (shift (negated dx) (negated dy)) (shift_undone dx dy) p l
