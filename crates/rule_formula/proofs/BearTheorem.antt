-- The formulas bear and safe say that a man bears along a ray.
use Rattle.std.proofs.Common.{◌≡◌, ◌↔◌, ℕ, true, List, length, inl, inr, subst, sym}
use Rattle.game_rules.specs.declared.men.Side.{Side}
use Rattle.game_rules.specs.declared.men.Man.{Man}
use Rattle.game_rules.specs.declared.men.Square.{Square}
use Rattle.game_rules.specs.Game.{Bears, Position, StandsOn}
use Rattle.lin_formula.specs.Holds.{Holds, Sets}
use Rattle.track_word.specs.Tracks.{Values}
use Rattle.game_rules.specs.declared.men.Ray.{Ray}
use Rattle.rule_formula.proofs.RayLemmas.{LiesOn, is_along, lies_on, IsWithin}
use Rattle.rule_formula.specs.Placed.{IsMember, is_live, placed}
use Rattle.rule_formula.specs.Seats.{own, squares, vars_to}
use Rattle.rule_formula.specs.Trees.{bear_tree, safe_tree}
use Rattle.rule_formula.specs.Meaning.{BearsAlong, IsBearing}
use Rattle.rule_formula.proofs.BearLemmas.{IsClearTo, bears_along, man_placed, not_at_end, not_at_start, stands_at}
use Rattle.rule_formula.proofs.FormulaLemmas.{SeesAlong, among_holds, bear_chain_holds, own_apart}
use Rattle.rule_formula.proofs.KindLemmas.{IsRayOf, ray_is}
use Rattle.rule_formula.proofs.MoveLemmas.{same_man, same_number, some_number}
use Rattle.rule_formula.proofs.PlacedLemmas.{placed_man, stands_placed}
use Rattle.lin_formula.specs.Tree as tree

pub bears_of : {stock : List Man} (turn : Side) {mask k n g : ℕ} {man target : Man} {r : Ray} → IsBearing stock mask k n g man target r → (f : ℕ → Square)
    → SeesAlong stock (is_live mask) k g r f → BearsAlong r k g (placed stock (is_live mask) turn f)
bears_of {stock} turn {mask} {k} {n} {g} {man} {target} {r} b f (along, clear) =
    let ray : IsRayOf man.side man.kind n r = ray_is man.side man.kind n r b.ray in
    let stands : StandsOn (man_placed (is_live mask) f k man) (f k) = stands_at (is_live mask k) (f k) b.live in
    let open_to : r.far ≡ true → IsClearTo stock (is_live mask) f r (f k) along.distance = λ is_far l m is on within.
    elim (same_number l k) [
      | inl e ↦ not_at_start ray.fair is_far (subst (λ j. IsWithin r (f k) (f j) along.distance) e within)
      | inr first ↦ elim (same_number l g) [
        | inl e ↦ not_at_end ray.fair is_far along.steps (subst (λ j. IsWithin r (f k) (f j) along.distance) e within)
        | inr second ↦ clear is_far l m is on first second within
      ]
    ]
    in
    record {
      man = man_placed (is_live mask) f k man;
      target = man_placed (is_live mask) f g target;
      from = f k;
      to = f g;
      is_man = placed_man stock (is_live mask) turn f k man b.is_man;
      is_target = placed_man stock (is_live mask) turn f g target b.is_target;
      stands = stands;
      target_stands = stands_at (is_live mask g) (f g) b.target_live;
      along = is_along along;
      bears = (bears_along stock (is_live mask) turn f (man_placed (is_live mask) f k man) n r (f k) (f g) ray b.serves stands along).1 open_to;
    }

pub sees_of : {stock : List Man} (turn : Side) {mask k n g : ℕ} {man target : Man} {r : Ray} → IsBearing stock mask k n g man target r → (f : ℕ → Square)
    → BearsAlong r k g (placed stock (is_live mask) turn f) → SeesAlong stock (is_live mask) k g r f
sees_of {stock} turn {mask} {k} {n} {g} {man} {target} {r} b f h =
    let p : Position = placed stock (is_live mask) turn f in
    let ray : IsRayOf man.side man.kind n r = ray_is man.side man.kind n r b.ray in
    let is : h.man ≡ man_placed (is_live mask) f k man = same_man stock (is_live mask) turn f k man h.man b.is_man h.is_man in
    let target_is : h.target ≡ man_placed (is_live mask) f g target = same_man stock (is_live mask) turn f g target h.target b.is_target h.is_target in
    let from_is : f k ≡ h.from = (stands_placed (is_live mask k) (f k) h.from (subst (λ m. StandsOn m h.from) is h.stands)).1 in
    let to_is : f g ≡ h.to = (stands_placed (is_live mask g) (f g) h.to (subst (λ m. StandsOn m h.to) target_is h.target_stands)).1 in
    let along : LiesOn r (f k) (f g) = subst (λ a. LiesOn r a (f g)) (sym from_is) (subst (LiesOn r h.from) (sym to_is) (lies_on r h.from h.to h.along)) in
    let bears : Bears p (man_placed (is_live mask) f k man) (f g) = subst (Bears p (man_placed (is_live mask) f k man)) (sym to_is) (subst (λ m. Bears p m h.to) is h.bears) in
    let stands : StandsOn (man_placed (is_live mask) f k man) (f k) = stands_at (is_live mask k) (f k) b.live in (
      along,
      λ is_far l m is_m on first second within.
          (bears_along stock (is_live mask) turn f (man_placed (is_live mask) f k man) n r (f k) (f g) ray b.serves stands along).0 bears is_far l m is_m on within,
    )

-- bear holds of the positions of the set in which the man bears along the ray
pub bear_holds : {stock : List Man} (turn : Side) {mask k n g : ℕ} {man target : Man} {r : Ray} → IsBearing stock mask k n g man target r
    → (s : ℕ) (e : Sets) (v : Values)
    → Holds (bear_tree (length stock) mask k r g s) e v
    ↔ (IsMember e s (placed stock (is_live mask) turn (squares v)) × BearsAlong r k g (placed stock (is_live mask) turn (squares v)))
bear_holds {stock} turn {mask} {k} {n} {g} {man} {target} {r} b s e v =
    let ray : IsRayOf man.side man.kind n r = ray_is man.side man.kind n r b.ray in
    let suits = own_apart k g r (some_number stock k man b.is_man) (some_number stock g target b.is_target) b.apart in
    let chain = bear_chain_holds stock man (is_live mask) k g ray.fair (tree.Among s (vars_to own (is_live mask) (length stock))) suits e v in
    let among = among_holds stock (is_live mask) turn own s e v in (
      λ h. let w = chain.0 h in (subst (λ (P : Type 0). P) among w.0, bears_of turn b (squares v) w.1),
      λ h. chain.1 (subst (λ (P : Type 0). P) (sym among) h.0, sees_of turn b (squares v) h.1),
    )

-- safe holds of the others
pub safe_holds : {stock : List Man} (turn : Side) {mask k n g : ℕ} {man target : Man} {r : Ray} → IsBearing stock mask k n g man target r
    → (s : ℕ) (e : Sets) (v : Values)
    → Holds (safe_tree (length stock) mask k r g s) e v
    ↔ (IsMember e s (placed stock (is_live mask) turn (squares v)) × (¬ BearsAlong r k g (placed stock (is_live mask) turn (squares v))))
safe_holds {stock} turn {mask} b s e v =
    let among = among_holds stock (is_live mask) turn own s e v in
    let bear = bear_holds turn b s e v in (
      λ h. let w = subst (λ (P : Type 0). P) among h.0 in (w, λ bears. h.1 (bear.1 (w, bears))),
      λ h. (subst (λ (P : Type 0). P) (sym among) h.0, λ bears. h.1 (bear.0 bears).1),
    )
