-- The sets of a ply as they are lent, and what it is to move into them.
use Rattle.std.proofs.Common.{◌≡◌, ◌↔◌, ℕ, suc, ◌<◌, ◌≤◌, ◌==◌, if◌then◌else◌, Bool, true, false, List, [], ◌∷◌, length, Option, Some, None, refl, sym, ap, ◌∙◌, subst, arith}
use Rattle.std.specs.Prelude.{IsSomeAnd}
use Rattle.std.specs.List.{All}
use Rattle.std.proofs.lemmas.List.Elements.{All-head, All-tail}
use Rattle.auto_core.specs.Automaton.{Automaton}
use Rattle.auto_core.specs.Integers.{IsAccepted}
use Rattle.set_plan.proofs.Composition.{none_some}
use Rattle.game_rules.specs.Game.{InCheck, Legal, Position, Step, other}
use Rattle.game_rules.specs.declared.men.Square.{Square}
use Rattle.game_laws.proofs.SoundLemmas.{other_other}
use Rattle.chess_game.specs.declared.way.Frame.{Frame}
use Rattle.mask_sets.specs.Sets.{HaveAtMost, IsIn, Table, set_at, set_of}
use Rattle.set_plan.proofs.Takings.{same_some}
use Rattle.mate_plan.specs.Plan.{turn_at}
use Rattle.game_laws.specs.Sets.{LeadsInto}
use Rattle.mask_sets.specs.Stock.{mask_of}
use Rattle.game_laws.specs.Stock.{HasStock}
use Rattle.rule_formula.specs.Fits.{masks_of}
use Rattle.mask_sets.specs.Tuple.{tuple_of}
use Rattle.rule_formula.proofs.StockLemmas.{stock_unique}
use Rattle.winning_sets.specs.Reach.{Reach}
use Rattle.winning_sets.specs.Solve.{IsSolution, Solution, end_of}
use Rattle.winning_sets.proofs.KeptParts.{reached_sound, turn-reach}
use Rattle.winning_sets.proofs.KeptPlan.{fits_reached}
use Rattle.winning_sets.proofs.MeaningLaws.{mean, some_point}
use Rattle.winning_sets.proofs.Tuples.{tuple_count}
use Rattle.move_choice.specs.Aims.{AreNext}
use Rattle.move_choice.specs.Choice.{Leads, Pick, target}
use Rattle.move_choice.specs.declared.choice.Choice.{Choice}
use Rattle.game_laws.proofs.StockLemmas.{step_stock, stock_trans}
use Rattle.loser_session.specs.Unwon.{AreUnwonPlies, AreUnwonSets, HaveRoom, IsUnwon, IsUnwonSet, sets_into, table_into}
use Rattle.loser_session.specs.Leading.{LeadsNowhere}
use Rattle.loser_session.proofs.SetsInto.{are_unwon}

-- the first move into a set is the first into another, where a legal move leads into both or into neither
module _ (S T : Position → Type 0) (f : Frame) (p : Position) (same : (i : ℕ) (z : Square) (q : Position) → Legal p i z q → S q ↔ T q) where
  led : {c : Choice} {q : Position} (h : Leads S f p c q) → T q → Leads T f p c q
  led h is = record {
    man = h.man;
    from = h.from;
    is_man = h.is_man;
    stands = h.stands;
    on = h.on;
    inside = h.inside;
    legal = h.legal;
    is_in = is;
  }

  back : {c : Choice} {q : Position} (h : Leads T f p c q) → S q → Leads S f p c q
  back h is = record {
    man = h.man;
    from = h.from;
    is_man = h.is_man;
    stands = h.stands;
    on = h.on;
    inside = h.inside;
    legal = h.legal;
    is_in = is;
  }

  pub pick_same : (o : Option Choice) → Pick S f p o → Pick T f p o
  pick_same None none = λ i z q legal inside is. none i z q legal inside ((same i z q legal).1 is)
  pick_same (Some c) h = record {
    has = tt;
    position = h.position;
    leads = led h.leads ((same c.mv.man (target c.mv) h.position h.leads.legal).0 h.leads.is_in);
    first = λ d q has into before. h.first d q tt (back into ((same d.mv.man (target d.mv) q into.legal).1 into.is_in)) before;
  }

  pub leads_same : LeadsInto S p → LeadsInto T p
  leads_same (q, (i, z, legal), is) = (q, (i, z, legal), (same i z q legal).0 is)

  pub nowhere_same : LeadsNowhere S p → LeadsNowhere T p
  nowhere_same none i z q legal is = none i z q legal ((same i z q legal).1 is)

module _ (s : Solution) (valid : IsSolution s) (plies : List (List Automaton)) (unwon : AreUnwonPlies s plies) (ply : ℕ) (within : suc ply < end_of s) where
  abbrev table : Table
  table = table_into s plies (suc ply)

  next_sets : AreUnwonSets s (suc ply) (sets_into s plies (suc ply))
  next_sets = are_unwon s plies (suc ply) valid unwon (omega arith) within

  -- a position of the stock, with the turn of the ply, is in its set if and only if it is reached and not won
  pub in_unwon : (q : Position) → HasStock s.position.men q → q.turn ≡ turn_at s.position.turn (suc ply) → IsIn table q → IsUnwon s (suc ply) q
  in_unwon q stock turn is = by (set_at table (mask_of q)) refl is
    where
      by : (o : Option Automaton) → set_at table (mask_of q) ≡ o → IsSomeAnd o (λ a. IsAccepted a (tuple_of q)) → IsUnwon s (suc ply) q
      by None e h = absurd h
      by (Some a) e h =
          let set : IsUnwonSet s (suc ply) (mask_of q) a = next_sets.each (mask_of q) a e in
          let w = (set.tuples.same (tuple_of q)).0 h in
          let there = fits_reached s.position valid.sound valid.few (mean valid.sound valid.few) (some_point valid.sound) (suc ply) w.position w.is_in.reached in
          let same : w.position ≡ q = stock_unique there.stock stock (there.turn ∙ sym turn) w.mask_is w.tuple_is in
          subst (IsUnwon s (suc ply)) same w.is_in

  pub unwon_in : (q : Position) → IsUnwon s (suc ply) q → IsIn table q
  unwon_in q rest =
      let fits = fits_reached s.position valid.sound valid.few (mean valid.sound valid.few) (some_point valid.sound) (suc ply) q rest.reached in
      let game = (mean valid.sound valid.few).game in
      let found = next_sets.found (mask_of q) (game.mask_is (turn_at s.position.turn (suc ply)) q fits) in
      let set : IsUnwonSet s (suc ply) (mask_of q) found.0 = next_sets.each (mask_of q) found.0 found.1 in
      subst (λ o. IsSomeAnd o (λ a. IsAccepted a (tuple_of q))) (sym found.1)
      ((set.tuples.same (tuple_of q)).1 (record { position = q; is_in = rest; mask_is = refl; tuple_is = refl }))

  module _ (p : Position) (reached : Reach s.position ply p) where
    stock : HasStock s.position.men p
    stock = (fits_reached s.position valid.sound valid.few (mean valid.sound valid.few) (some_point valid.sound) ply p reached).stock

    step_unwon : {i : ℕ} {z : Square} {q : Position} → Step p i z q → IsIn table q → IsUnwon s (suc ply) q
    step_unwon {q} step is =
        in_unwon q (step_stock stock step.after) (step.after.turn ∙ ap other (turn-reach s.position p ply reached)) is

    -- a legal move leads into them if and only if it leads to a position that is not won
    pub moves_unwon : {i : ℕ} {z : Square} {q : Position} → Legal p i z q → IsIn table q ↔ IsUnwon s (suc ply) q
    moves_unwon {q} legal = (step_unwon legal.step, unwon_in q)

    pub are_next : AreNext p table
    are_next = record {
      askable = λ q of_stock a is.
          let set : IsUnwonSet s (suc ply) (mask_of q) a = next_sets.each (mask_of q) a is in
          record { integers = set.formed.integers; count = tuple_count (stock_trans stock of_stock) ∙ sym (ap length set.formed.tracks) };
      legal = λ i z q step is check.
          let sound = reached_sound s.position valid.sound (suc ply) q (step_unwon step is).reached in
          let mover : other q.turn ≡ p.turn = ap other step.after.turn ∙ other_other p.turn in
          sound.other_safe (subst (InCheck q) (sym mover) check);
    }

-- a search that has room for each of the sets has room for those of a ply
set_few : (masks : List ℕ) (others : List Automaton) (states : ℕ) → All (λ a. length a.accept ≤ states) others → (mask : ℕ) (a : Automaton)
    → set_of masks others mask ≡ Some a → length a.accept ≤ states
set_few [] others states all mask a is = none_some (sym is)
set_few (m ∷ masks) [] states all mask a is = none_some (sym is)
set_few (m ∷ masks) (b ∷ others) states all mask a is =
    by (m == mask) is (λ at. set_few masks others states (All-tail (λ (c : Automaton). length c.accept ≤ states) b others all) mask a at)
  where
    by : (t : Bool) → (if t then Some b else set_of masks others mask) ≡ Some a → (set_of masks others mask ≡ Some a → length a.accept ≤ states) → length a.accept ≤ states
    by true at rest = subst (λ (c : Automaton). length c.accept ≤ states) (same_some at) (All-head (λ (c : Automaton). length c.accept ≤ states) b others all)
    by false at rest = rest at

pub table_few : (s : Solution) (plies : List (List Automaton)) (states ply : ℕ) → HaveRoom states s plies → ply < end_of s → HaveAtMost states (table_into s plies ply)
table_few s plies states ply room before = λ mask a is. set_few (masks_of s.position) (sets_into s plies ply) states (room ply before) mask a is

-- the sets of the next ply, as they are lent
pub table_is : (s : Solution) (plies : List (List Automaton)) (ply next : ℕ) (masks : List ℕ) (sets : List Automaton) (t : Table) → next ≡ suc ply
    → masks ≡ masks_of s.position → sets ≡ sets_into s plies next → t ≡ record { masks = masks; sets = sets } → t ≡ table_into s plies (suc ply)
table_is s plies ply next masks sets t is_next masks_are sets_are is =
    let Of : List ℕ → List Automaton → Table = λ ms xs. record { masks = ms; sets = xs } in
    is ∙ (ap (λ ms. Of ms sets) masks_are ∙ (ap (Of (masks_of s.position)) sets_are ∙ ap (λ k. Of (masks_of s.position) (sets_into s plies k)) is_next))
