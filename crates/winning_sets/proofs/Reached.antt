-- The sets that a solver lends.
use Rattle.std.proofs.Common.{◌≡◌, ℕ, zero, suc, ◌<◌, List, [], ◌∷◌, length, get_or, map, Option, Some, None, inr, refl, sym, ap, ◌∙◌, subst, arith}
use Rattle.std.specs.Prelude.{IfSome, IsSomeAnd, option_and_then, slice_get}
use Rattle.std.proofs.lemmas.List.{get_or_default, length-map}
use Rattle.std.proofs.lemmas.List.Elements.{All-get_or}
use Rattle.std.proofs.lemmas.Option.{slice_get-get_or}
use Rattle.auto_core.specs.Automaton.{Automaton}
use Rattle.game_rules.specs.Game.{Position}
use Rattle.game_rules.specs.declared.men.Man.{Man}
use Rattle.game_rules.specs.declared.men.Side.{Side}
use Rattle.lin_formula.specs.declared.formula.SetId.{SetId}
use Rattle.rule_formula.specs.Fits.{masks_of}
use Rattle.set_plan.specs.Sets.{Grows}
use Rattle.mate_plan.specs.Levels.{AreNames}
use Rattle.winning_sets.specs.Finished.{AreFinished}
use Rattle.winning_sets.specs.Lent.{AreEmpties, set_or, sets_or}
use Rattle.winning_sets.specs.Reach.{Reach}
use Rattle.mask_sets.specs.Sets.{set_of}
use Rattle.winning_sets.specs.Solve.{HasTuplesOf, IsReachedSet, IsUnreached, SolverState, sets_at}
use Rattle.winning_sets.proofs.Answered.{all_reached_are}
use Rattle.winning_sets.proofs.Growing.{names-grow, sets_or-grows}
use Rattle.winning_sets.proofs.LentLemmas.{Names, lent_at_place, lent_count, names_within}
use Rattle.winning_sets.proofs.MeaningLaws.{mean}
use Rattle.mask_sets.proofs.Lookups.{set_of-place}

-- there is an empty set and a name for each of the masks
pub empties_count : (stock : List Man) (masks : List ℕ) (empties : List Automaton) → AreEmpties stock masks empties → length empties ≡ length masks
empties_count stock [] [] are = refl
empties_count stock [] (a ∷ empties) are = absurd are
empties_count stock (m ∷ masks) [] are = absurd are
empties_count stock (m ∷ masks) (a ∷ empties) (is, are) = ap suc (empties_count stock masks empties are)

pub names_count : (stock : List Man) (table : List Automaton) (masks : List ℕ) (ids : Names) → AreNames stock table masks ids → length ids ≡ length masks
names_count stock table [] [] names = refl
names_count stock table [] (id ∷ ids) names = absurd names
names_count stock table (m ∷ masks) [] names = absurd names
names_count stock table (m ∷ masks) (id ∷ ids) (name, names) = ap suc (names_count stock table masks ids names)

mapped : {X Y : Type 0} (f : X → Y) (xs : List X) (k : ℕ) (x : X) → k < length xs → x ≡ get_or xs k x → slice_get (map f xs) k ≡ Some (f x)
mapped f [] k x within is = absurd (omega (arith, within))
mapped f (y ∷ xs) zero x within is = ap (λ z. Some (f z)) (sym is)
mapped f (y ∷ xs) (suc k) x within is = mapped f xs k x (omega (arith, within)) is

module _ (p : Position) (winner : Side) (budget : ℕ) (masks : List ℕ) (empties table after : List Automaton) (levels : List Names)
    (is : AreFinished p budget masks empties table levels) (grows : Grows table after) where
  abbrev state : SolverState
  state = record { position = p; winner = winner; budget = budget; reach = map (sets_or table empties) levels }

  module _ (ply mask k : ℕ) (some : 0 < ply) (within : ply < length levels) (ids : Names) (at : ids ≡ get_or levels ply ids)
      (in_masks : k < length masks) (found : get_or masks k 0 ≡ mask) (before : (j : ℕ) → j < k → get_or masks j 0 ≡ mask → ⊥) where
    masks_are : masks ≡ masks_of p
    masks_are = is.masks_are (omega (arith, within))

    empties_are : AreEmpties p.men (masks_of p) empties
    empties_are = is.empties_are (omega (arith, within))

    named : AreNames p.men table (masks_of p) ids
    named = subst (AreNames p.men table (masks_of p)) (sym at) (All-get_or (AreNames p.men table (masks_of p)) levels ply ids within is.names)

    size : length masks ≡ length (masks_of p)
    size = ap length masks_are

    -- the place is one of a set and of a name
    pub in_empties : k < length empties
    in_empties = omega (arith, in_masks, size, empties_count p.men (masks_of p) empties empties_are)

    pub in_names : k < length ids
    in_names = omega (arith, in_masks, size, names_count p.men table (masks_of p) ids named)

    pub name_within : IfSome (get_or ids k None) (λ i. i.0 < length after)
    name_within =
        let there = names_within p.men after (masks_of p) empties ids empties_are (names-grow table after grows p.men (masks_of p) ids named) in
        All-get_or (λ i. IfSome i (λ n. n.0 < length after)) ids k None in_names there.names

    module _ (a other : Automaton) (id : Option SetId) (is_other : other ≡ get_or empties k other) (is_id : id ≡ get_or ids k id) (lends : a ≡ set_or after other id) where
      there : set_of (masks_of p) (sets_or table empties ids) mask ≡ Some a
      there =
          let At : List ℕ → Type 0 = λ ms. set_of ms (sets_or table empties ids) mask ≡ Some a in
          let count = lent_count table empties ids (omega (arith, empties_count p.men (masks_of p) empties empties_are, names_count p.men table (masks_of p) ids named)) in
          let grown : sets_or after empties ids ≡ sets_or table empties ids = sets_or-grows table after grows p.men (masks_of p) empties ids named in
          let here : get_or (sets_or table empties ids) k a ≡ a =
          ap (λ l. get_or l k a) (sym grown) ∙ lent_at_place after empties ids k other a id in_names in_empties
          ∙ ap (λ o. set_or after o (get_or ids k id)) (sym is_other) ∙ ap (λ i. set_or after other i) (sym is_id) ∙ sym lends in
          subst At masks_are
          (set_of-place masks (sets_or table empties ids) mask k in_masks found before ∙ slice_get-get_or (sets_or table empties ids) k a (omega (arith, in_names, count)) ∙ ap Some here)

      is_there : sets_at (masks_of p) (map (sets_or table empties) levels) ply mask ≡ Some a
      is_there =
          ap (option_and_then (λ sets. set_of (masks_of p) sets mask)) (mapped (sets_or table empties) levels ply ids within at) ∙ there

      -- what is lent is what is reached
      pub reached_set : IsReachedSet (record { position = p; winner = winner; budget = budget; reach = map (sets_or table empties) levels }) ply mask a
      reached_set =
          let are = all_reached_are p budget masks empties table levels is (omega (arith, within)) in
          let (last, game) = are.only ply mask a is_there in
          record {
            first = some;
            last = omega (arith, within, length-map levels (sets_or table empties));
            game = game;
            is_there = is_there;
            tuples = subst (λ o. IsSomeAnd o (HasTuplesOf (Reach p ply) mask)) is_there (are.found ply mask last game);
            formed = are.formed ply mask a is_there;
          }

  -- nor of a mask that is none of the position
  pub none_of : (ply mask : ℕ) → 0 < length levels → ((j : ℕ) → j < length masks → get_or masks j 0 ≡ mask → ⊥)
      → IsUnreached (record { position = p; winner = winner; budget = budget; reach = map (sets_or table empties) levels }) ply mask
  none_of ply mask some none =
      let masks_are = is.masks_are some in
      inr (inr (λ game.
      let (j, within, same) = ((mean is.sound is.few).game.masks mask).1 game in
      let less : j < length masks = omega (arith, within, ap length masks_are) in
      none j less (ap (λ ms. get_or ms j 0) masks_are ∙ get_or_default (masks_of p) j 0 mask within ∙ same)))
