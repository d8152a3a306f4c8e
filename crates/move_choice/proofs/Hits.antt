-- The moves along one ray that lead into the sets, and the hits of the search.
use Rattle.std.proofs.Common.{◌≡◌, ◌↔◌, ℕ, ◌≤◌, true, false, Option, Some, None, sym, ap, subst, ◌∙◌, arith}
use Rattle.std.specs.Prelude.{IsTrue, IsSomeAnd}
use Rattle.std.proofs.lemmas.Option.{same_Some}
use Rattle.auto_core.specs.Automaton.{Automaton}
use Rattle.auto_core.specs.Integers.{IsAccepted}
use Rattle.game_rules.specs.declared.men.Ray.{Ray}
use Rattle.game_rules.specs.declared.men.Square.{Square}
use Rattle.game_rules.specs.Game.{Position, IsEmptySquare, Legal, StandsOn, Step, man_at}
use Rattle.game_rules.specs.Rays.{IsAt, ray_of, serves_moves}
use Rattle.game_laws.specs.OnRay.{IsOnRay}
use Rattle.game_laws.proofs.CheckLemmas.{one_square}
use Rattle.chess_game.specs.Way.{IsFreeFrom, IsInside}
use Rattle.chess_game.specs.declared.way.Frame.{Frame}
use Rattle.mask_sets.specs.Stock.{mask_of}
use Rattle.mask_sets.specs.Tuple.{tuple_of}
use Rattle.move_choice.specs.Along.{LeadsAlong}
use Rattle.move_choice.specs.Choice.{IsQuiet, Leads, target}
use Rattle.move_choice.specs.Aims.{AreNext, IsHitAlong, IsMover, tuple_along}
use Rattle.mask_sets.specs.Sets.{IsIn, Table, set_at}
use Rattle.move_choice.specs.declared.choice.Choice.{Choice}
use Rattle.move_choice.proofs.Tuples.{mask_after, tuple_hit}
use Rattle.move_choice.proofs.Ways.{free_step, nobody_to, serves_quiet}
use Rattle.move_choice.proofs.Bridges.{along_of}

-- a live man of the side to move, and one of his rays
module _ {p : Position} {i n : ℕ} {r : Ray} (mover : IsMover p i n r) where
  -- he goes along the ray itself
  abbrev pub Going : Square → ℕ → Position → Type 0
  Going z t q = (on : IsOnRay mover.man mover.square z n t) × (on.ray ≡ r) × Step p i z q

  pub going_at : {z : Square} {t : ℕ} {q : Position} → Going z t q → IsAt r t mover.square z
  going_at {z} {t} g = subst (λ k. IsAt k t mover.square z) g.1 g.0.leads

  -- what is known of a move along the ray
  module _ {Set : Position → Type 0} {T : Square → Type 0} {t : ℕ} (w : LeadsAlong T Set p i n t) where
    his_man : w.him ≡ mover.man
    his_man = same_Some w.him mover.man (sym w.is_man ∙ mover.is_man)

    his_square : w.from ≡ mover.square
    his_square = one_square mover.man mover.square w.from mover.stands (subst (λ m. StandsOn m w.from) his_man w.stands)

    pub along_goes : Going w.to t w.after
    along_goes =
        let on : IsOnRay mover.man mover.square w.to n t =
        subst (λ a. IsOnRay mover.man a w.to n t) his_square (subst (λ m. IsOnRay m w.from w.to n t) his_man w.on) in
        (on, same_Some on.ray r (sym on.is_ray ∙ mover.is_ray), w.legal.step)

  -- without a set no quiet move leads into the sets
  pub quiet_unset : {t : ℕ} (table : Table) → set_at table (mask_of p) ≡ None
      → LeadsAlong (IsEmptySquare p) (IsIn table) p i n t → ⊥
  quiet_unset table none w =
      let q = w.after in
      let mask : mask_of q ≡ mask_of p = mask_after i mover.square mover.man mover.is_man mover.stands w.legal.step.after w.is_target in
      let no : set_at table (mask_of q) ≡ None = ap (set_at table) mask ∙ none in
      subst (λ (o : Option Automaton). IsSomeAnd o (λ a. IsAccepted a (tuple_of q))) no w.is_in

  -- nor is there one on a ray that does not serve moves
  pub quiet_unserved : {Set : Position → Type 0} {t : ℕ} → serves_moves mover.man.kind n ≡ false
      → LeadsAlong (IsEmptySquare p) Set p i n t → ⊥
  quiet_unserved {Set} {t} never w =
      let g = along_goes w in
      let serves : serves_moves mover.man.kind n ≡ true = serves_quiet p i w.to w.after g.2 mover.man mover.is_man mover.square mover.stands n t g.0 w.is_target in
      let no : false ≡ true = sym never ∙ serves in
      cc

  module _ {table : Table} (next : AreNext p table) {a : Automaton} (set_is : set_at table (mask_of p) ≡ Some a) where
    -- a position after a quiet step along the ray is in the set where the search hits
    pub hit_is : {q : Position} {z : Square} {t : ℕ} → Step p i z q → IsEmptySquare p z → IsAt r t mover.square z
        → IsIn table q ↔ IsHitAlong a p i r t
    hit_is {q} {z} {t} step none at =
        let mask : mask_of q ≡ mask_of p = mask_after i mover.square mover.man mover.is_man mover.stands step.after none in
        let tuple : tuple_of q ≡ tuple_along p i r t = tuple_hit i mover.square mover.man r t mover.is_man mover.stands step.after none at.leads in
        let there : set_at table (mask_of q) ≡ Some a = ap (set_at table) mask ∙ set_is in
        let Has : Option Automaton → Type 0 = λ o. IsSomeAnd o (λ b. IsAccepted b (tuple_of q)) in (
          λ is. subst (IsAccepted a) tuple (subst Has there is),
          λ hit. subst Has (sym there) (subst (IsAccepted a) (sym tuple) hit),
        )

    -- a quiet move into the sets goes over empty squares, and the search hits it
    pub quiet_hit : {T : Square → Type 0} {t : ℕ} (w : LeadsAlong T (IsIn table) p i n t) → IsEmptySquare p w.to
        → IsAt r t mover.square w.to × ((k : ℕ) (z : Square) → k ≤ t → IsAt r k mover.square z → IsEmptySquare p z) × IsHitAlong a p i r t
    quiet_hit {T} {t} w none =
        let g = along_goes w in
        let at = going_at g in
        let empty = nobody_to p i w.to w.after g.2 mover.man mover.is_man mover.square mover.stands n t g.0 none in (
          at,
          λ k z low on. empty k z low (subst (λ b. IsAt b k mover.square z) (sym g.1) on),
          (hit_is g.2 none at).0 w.is_in,
        )

    -- a hit over empty squares is a move into the sets
    pub hit_moves : {t : ℕ} {z : Square} → IsTrue (serves_moves mover.man.kind n) → IsAt r t mover.square z
        → ((k : ℕ) (b : Square) → k ≤ t → IsAt r k mover.square b → IsEmptySquare p b) → IsHitAlong a p i r t
        → (q : Position) × Legal p i z q × IsIn table q
    hit_moves {t} {z} serves at empty hit =
        let w = free_step p mover.man n r mover.is_ray mover.square mover.stands t z at empty i mover.is_man mover.turn serves in
        let is_in : IsIn table w.0 = (hit_is w.1 (empty t z (omega arith) at) at).1 hit in
        (w.0, record { step = w.1; safe = next.legal i z w.0 w.1 is_in }, is_in)

-- the same for choices of moves to squares of a frame
module _ {p : Position} {table : Table} (next : AreNext p table) {f : Frame} where
  module _ {i n : ℕ} {r : Ray} (mover : IsMover p i n r) where
    pub going : {d : Choice} {q : Position} → d.mv.man ≡ i → d.ray ≡ n → Leads (IsIn table) f p d q
        → Going mover (target d.mv) d.distance q
    going e ray h = along_goes mover (along_of (IsInside f) e ray h.inside h)

    -- a quiet choice is at a free distance, and the search hits it
    pub choice_hit : {a : Automaton} {d : Choice} {q : Position} → set_at table (mask_of p) ≡ Some a → IsQuiet p i n d
        → Leads (IsIn table) f p d q
        → IsFreeFrom p mover.square r f d.distance × IsHitAlong a p i r d.distance
    choice_hit {a} {d} set_is (e, ray, none) h =
        let quiet = quiet_hit mover next set_is (along_of (IsEmptySquare p) e ray none h) none in
        (record { to = target d.mv; leads = quiet.0; inside = h.inside; empty = quiet.1 }, quiet.2)

    -- a hit at a free distance is a quiet choice into the sets
    pub hit_leads : {a : Automaton} (c : Choice) → set_at table (mask_of p) ≡ Some a → c.mv.man ≡ i → c.ray ≡ n
        → IsTrue (serves_moves mover.man.kind n) → (w : IsFreeFrom p mover.square r f c.distance) → target c.mv ≡ w.to
        → IsHitAlong a p i r c.distance → IsQuiet p i n c × ((q : Position) × Leads (IsIn table) f p c q)
    hit_leads c set_is e ray serves w to hit =
        let at : IsAt r c.distance mover.square (target c.mv) = subst (IsAt r c.distance mover.square) (sym to) w.leads in
        let moves = hit_moves mover next set_is serves at w.empty hit in (
          (e, ray, w.empty c.distance (target c.mv) (omega arith) at),
          (
            moves.0,
            record {
              man = mover.man;
              from = mover.square;
              is_man = ap (man_at p) e ∙ mover.is_man;
              stands = mover.stands;
              on = record { ray = r; is_ray = ap (λ k. ray_of mover.man.kind mover.man.side k) ray ∙ mover.is_ray; leads = at };
              inside = subst (IsInside f) (sym to) w.inside;
              legal = subst (λ k. Legal p k (target c.mv) moves.0) (sym e) moves.1;
              is_in = moves.2;
            },
          ),
        )
