-- Positions that are moved there and back, and sets of positions that translations keep.
use Rattle.std.proofs.Common.{◌≡◌, Some, ℤ, pos, ◌+ℤ◌, ap, ◌∙◌, subst, arith}
use Rattle.std.proofs.lemmas.Int.{ints}
use Rattle.game_rules.specs.Game.{Position, StandsOn, place_square}
use Rattle.game_rules.specs.declared.men.Man.{Man}
use Rattle.game_rules.specs.declared.men.Place.{Place}
use Rattle.game_rules.specs.declared.men.Place.TheVariants.{Gone, At}
use Rattle.game_rules.specs.declared.men.Side.{Side}
use Rattle.game_rules.specs.declared.men.Square.{Square}
use Rattle.game_laws.specs.Symmetry.{mapped_place, shift}
use Rattle.game_laws.proofs.BoardMaps.{negated, shift_undone}
use Rattle.game_laws.proofs.SymmetryLemmas.{again, man_from, undone_back}
use Rattle.game_forever.specs.Centre.{IsMovable}
use Rattle.table_plan.specs.TableMeans.{KingStandsOn, moved_by, moved_from, origin}
use Rattle.table_plan.proofs.MovedSets.{further}

-- there and back, and back and there
pub to_and_fro : (dx dy : ℤ) (q : Position) → moved_by dx dy (moved_by (negated dx) (negated dy) q) ≡ q
to_and_fro dx dy q = again (shift (negated dx) (negated dy)) (shift dx dy) (undone_back (shift_undone dx dy)) q

pub fro_and_to : (dx dy : ℤ) (q : Position) → moved_by (negated dx) (negated dy) (moved_by dx dy q) ≡ q
fro_and_to dx dy q = again (shift dx dy) (shift (negated dx) (negated dy)) (shift_undone dx dy) q

stands_further : (dx dy : ℤ) (x : Place) (z : Square) → place_square x ≡ Some z → place_square (mapped_place (shift dx dy) x) ≡ Some (further dx dy z)
stands_further dx dy Gone z e = absurd (cc)
stands_further dx dy (At x y) z e =
    let there : Some (record { x = x; y = y }) ≡ Some z = e in
    let same : record { x = x; y = y } ≡ z = cc in ap (λ (w : Square). Some (further dx dy w)) same

-- the king moves with the others
pub king_further : (s : Side) (dx dy : ℤ) (z : Square) (q : Position) → KingStandsOn s z q → KingStandsOn s (further dx dy z) (moved_by dx dy q)
king_further s dx dy z q stands k n is his sort =
    let (m, was, same) = man_from (shift dx dy) q k n is in
    let on : StandsOn m z = stands k m was (ap (λ (a : Man). a.side) same ∙ his) (ap (λ (a : Man). a.kind) same ∙ sort) in
    subst (λ a. StandsOn a (further dx dy z)) same (stands_further dx dy m.place z on)

square_back : (z : Square) → further (negated z.x) (negated z.y) z ≡ origin
square_back z =
    let ex : z.x +ℤ negated z.x ≡ pos 0 = omega (arith, ints) in
    let ey : z.y +ℤ negated z.y ≡ pos 0 = omega (arith, ints) in
    ap (λ n. record { x = n; y = z.y +ℤ negated z.y }) ex ∙ ap (λ n. record { x = pos 0; y = n }) ey

-- moved so that his square comes to 0 0
pub king_to_origin : (s : Side) (z : Square) (q : Position) → KingStandsOn s z q → KingStandsOn s origin (moved_from z q)
king_to_origin s z q stands = subst (λ w. KingStandsOn s w (moved_from z q)) (square_back z) (king_further s (negated z.x) (negated z.y) z q stands)

-- a set that translations keep has a position if it has a translation of it
pub from_moved : (S : Position → Type 0) → IsMovable S → (dx dy : ℤ) (q : Position) → S (moved_by dx dy q) → S q
from_moved S movable dx dy q h = subst S (fro_and_to dx dy q) (movable (negated dx) (negated dy) (moved_by dx dy q) h)
