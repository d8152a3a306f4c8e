-- Where no step of a plan exceeds the budget, none of its parts does in which kept sets are taken from reached ones; and those parts, over the sets of
-- the solution, have steps of the same spreads.
use Rattle.std.proofs.Common.{◌≡◌, ◌↔◌, ℕ, zero, suc, ◌+◌, ◌*◌, ◌<◌, ◌≤◌, if◌then◌else◌, Bool, List, [], ◌∷◌, length, Option, Some, None, inl, inr, refl, sym, subst, arith}
use Rattle.std.specs.Prelude.{IsSomeAnd}
use Rattle.std.specs.List.{Contains}
use Rattle.std.proofs.lemmas.Bool.{cases_lt}
use Rattle.track_word.specs.Tracks.{IsAscending}
use Rattle.auto_core.specs.Automaton.{Automaton}
use Rattle.game_rules.specs.Game.{Position}
use Rattle.lin_formula.specs.SetOf.{Member, SetOf, as_set}
use Rattle.mask_sets.specs.Stock.{mask_of}
use Rattle.rule_formula.specs.Fits.{IsGameMask, masks_of}
use Rattle.rule_formula.specs.Mean.{RulesMean}
use Rattle.rule_formula.specs.Trees.{point_of}
use Rattle.set_plan.specs.Outcome.{Ends}
use Rattle.set_plan.specs.Program.{Give, each}
use Rattle.set_plan.specs.Same.{SameSets}
use Rattle.set_plan.proofs.Alike.{Ends-alike}
use Rattle.set_plan.proofs.Composition.{Ends-split}
use Rattle.set_plan.proofs.Tables.{table_decided}
use Rattle.set_plan.proofs.Takings.{contains_cases, contains_none}
use Rattle.mate_plan.specs.Claim.{IsLosersPly}
use Rattle.mate_plan.specs.Once.{SameLevels}
use Rattle.mate_plan.specs.Plan.{Level, Program, backward, backward_from, for_masks, forward, kept_level as plan_kept, level_with, lost_level, lost_set_if, no_sets, plan, rest_set, turn_at, win_level, with_mask}
use Rattle.mate_plan.specs.PlanOf.{plan_of, plan_to, rules_of}
use Rattle.mate_plan.specs.declared.names.Part.TheVariants as kind
use Rattle.mate_plan.proofs.PlanOnce.{difference-alike}
use Rattle.winning_sets.specs.Kept.{Kept}
use Rattle.winning_sets.specs.PlanMeans.{IsDecided, IsLevelOf}
use Rattle.winning_sets.specs.Reach.{Reach}
use Rattle.winning_sets.specs.Solve.{AreSets, HasTuplesOf, IsSolution, IsWithin, Sets, Solution, end_of, kept_at, reach_at}
use Rattle.mate_plan.proofs.MaskTracks.{tracks_ascend}
use Rattle.winning_sets.proofs.KeptParts.{two_steps}
use Rattle.winning_sets.proofs.KeptBounds.{level-of}
use Rattle.winning_sets.proofs.KeptPlan.{AllReached, IsKept, IsReached, fits_reached, forward-reached, kept-last, kept-next}
use Rattle.winning_sets.proofs.MeaningLaws.{mean, some_point}
use Rattle.loser_session.specs.Unwon.{RestsFit, kept_level, reach_level, rest_part}
use Rattle.loser_session.proofs.UnwonParts.{are_reached}

-- the program of a mask comes to its end where the level does
masks_end : (f : ℕ → Program SetOf) (budget : ℕ) (masks : List ℕ) (level rests : Level) → Ends (for_masks masks f level) budget rests
    → (mask : ℕ) → Contains masks mask → IsWithin (f mask) budget
masks_end f budget [] level rests ends mask is = absurd (contains_none mask is)
masks_end f budget (m ∷ masks) level rests ends mask is =
    let (one, first, rest) = Ends-split (with_mask f m level) (each masks (with_mask f)) ends in
    elim (contains_cases m masks mask is) [
      | inl same ↦
          let (u, here, give) = Ends-split (f m) (λ s. Give (level_with level m s)) first in
          subst (λ k. IsWithin (f k) budget) same (record { value = u; ends = here })
      | inr later ↦ masks_end f budget masks one rests rest mask later
    ]

-- sets that are as they should be are those of a level that is
module _ {p : Position} (Set : ℕ → Position → Type 0) (last : ℕ) (sets : Sets) (are : AreSets Set p last sets) (ply : ℕ) (within : ply ≤ last)
    (game : (q : Position) → Set ply q → IsGameMask p (mask_of q)) (l : Level) (is : IsLevelOf (Set ply) l) where
  pub same_sets : SameLevels l (λ m. as_set (sets ply m))
  same_sets m tuple = by (sets ply m) refl
    where
      by : (o : Option Automaton) → sets ply m ≡ o → Member (l m) tuple ↔ Member (as_set o) tuple
      by None e = (
        λ h.
            let w = (is.same m tuple).0 h in
            let of_game : IsGameMask p m = subst (IsGameMask p) w.mask_is (game w.position w.is_in) in
            subst (λ (o : Option Automaton). IsSomeAnd o (HasTuplesOf (Set ply) m)) e (are.found ply m within of_game),
        λ h. absurd h,
      )
      by (Some a) e =
          let found = are.found ply m within (are.only ply m a e).1 in
          let tuples : HasTuplesOf (Set ply) m a = subst (λ (o : Option Automaton). IsSomeAnd o (HasTuplesOf (Set ply) m)) e found in
          (λ h. (tuples.same tuple).1 ((is.same m tuple).0 h), λ h. (is.same m tuple).1 ((tuples.same tuple).0 h))

module _ (s : Solution) (valid : IsSolution s) (budget : ℕ) where
  abbrev p : Position
  p = s.position

  abbrev means : RulesMean s.position
  means = mean valid.sound valid.few

  abbrev point : point_of s.position.men ≡ None → ⊥
  point = some_point valid.sound

  abbrev last : ℕ
  last = end_of s

  abbrev ReachedAt : ℕ → Level → Type 0
  ReachedAt j level = IsReached s.position valid.sound valid.few means point j level

  abbrev KeptAt : ℕ → Level → Type 0
  KeptAt j level = IsKept s.position valid.sound valid.few means point s.winner s.moves j level

  of_game : (j : ℕ) (q : Position) → Reach s.position j q → IsGameMask s.position (mask_of q)
  of_game j q reached =
      means.game.mask_is (turn_at s.position.turn j) q (fits_reached s.position valid.sound valid.few means point j q reached)

  reach_level_is : (j : ℕ) (level : Level) → ReachedAt j level → IsLevelOf (Reach s.position j) level
  reach_level_is j level h =
      level-of s.position (turn_at s.position.turn j) (Reach s.position j) level
      (fits_reached s.position valid.sound valid.few means point j) h.stands h.fitting

  kept_level_is : (j : ℕ) (level : Level) → KeptAt j level → IsLevelOf (Kept s.winner s.position s.moves j) level
  kept_level_is j level h =
      level-of s.position (turn_at s.position.turn j) (Kept s.winner s.position s.moves j) level
      (λ q k. fits_reached s.position valid.sound valid.few means point j q k.reached) h.stands h.fitting

  reach_same : (j : ℕ) (level : Level) → 0 < end_of s → j ≤ end_of s → ReachedAt j level → SameLevels level (reach_level s j)
  reach_same j level some within h =
      same_sets (Reach s.position) (end_of s) (reach_at s) (are_reached s valid some) j within (of_game j) level (reach_level_is j level h)

  kept_same : (j : ℕ) (level : Level) → j ≤ end_of s → KeptAt j level → SameLevels level (kept_level s j)
  kept_same j level within h =
      same_sets (Kept s.winner s.position s.moves) (end_of s) (kept_at s) valid.kept j within (λ q k. of_game j q k.reached) level (kept_level_is j level h)

  -- a level of what is kept is decided, since the solution's sets are
  table_known : (j m : ℕ) (o : Option Automaton) → kept_at s j m ≡ o → IsDecided (as_set o)
  table_known j m None e tuple = inr (λ h. h)
  table_known j m (Some a) e tuple =
      let formed = valid.kept.formed j m a e in
      table_decided a (subst IsAscending (sym formed.tracks) (tracks_ascend s.position.men m)) formed.integers tuple

  kept_known : (j : ℕ) (level : Level) → j ≤ end_of s → KeptAt j level → (m : ℕ) → IsDecided (level m)
  kept_known j level within h m tuple =
      let same = kept_same j level within h m tuple in
      elim (table_known j m (kept_at s j m) refl tuple) [ inl is ↦ inl (same.1 is) | inr off ↦ inr (λ k. off (same.0 k)) ]

  -- the part of the loser's ply
  losing_part : (j k left : ℕ) (reach reach1 kept1 level : Level) → suc left ≡ 2 * k + 1 → j < end_of s
      → ReachedAt (suc j) reach1 → KeptAt (suc j) kept1 → Ends (plan_kept (rules_of s.position) s.position.turn j (suc left) reach reach1 kept1) budget level
      → (mask : ℕ) → IsGameMask s.position mask → IsWithin (rest_part s (suc j) mask) budget
  losing_part j k left reach reach1 kept1 level odd within reached1 kept ends mask game =
      elim (two_steps (suc left)) [
        | inl (i, even, is) ↦ absurd (omega (arith, odd, even))
        | inr (i, e, is) ↦
            let side = turn_at s.position.turn j in
            let rules = rules_of s.position in
            let here : Ends (lost_level rules side j reach reach1 kept1) budget level =
            subst (λ (b : Bool). Ends (if b then win_level rules side j reach kept1 else lost_level rules side j reach reach1 kept1) budget level) is ends in
            let (rests, first, rest) =
            Ends-split (for_masks (masks_of s.position) (rest_set rules (suc j) reach1 kept1) no_sets)
            (λ rests. for_masks (masks_of s.position) (lost_set_if rules side j reach reach1 rests) no_sets) here in
            let one = masks_end (rest_set rules (suc j) reach1 kept1) budget (masks_of s.position) no_sets rests first mask ((means.game.masks mask).1 game) in
            let same1 = reach_same (suc j) reach1 (omega (arith, within)) (omega (arith, within)) reached1 in
            let samek = kept_same (suc j) kept1 (omega (arith, within)) kept in
            let alike = difference-alike rules (suc j) mask kind.Rest (reach1 mask) (reach_level s (suc j) mask) (kept1 mask) (kept_level s (suc j) mask) (same1 mask) (samek mask) in
            let (u, ended, related) = Ends-alike SameSets (rest_part s (suc j) mask) alike one.ends in
            record { value = u; ends = ended }
      ]

  abbrev FitTo : ℕ → Type 0
  FitTo count = (ply mask : ℕ) → ply < count → IsLosersPly s.winner s.position s.moves ply → IsGameMask s.position mask → IsWithin (rest_part s (suc ply) mask) budget

  abbrev Reached : List Level → Type 0
  Reached levels = AllReached s.position valid.sound valid.few means point levels

  -- on the way back
  way_fits : (before : List Level) (reach1 kept1 : Level) (later levels : List Level) → ReachedAt (length before) reach1 → Reached before
      → KeptAt (length before) kept1 → length before + length later ≡ end_of s
      → Ends (backward (rules_of s.position) s.position.turn reach1 before kept1 later) budget levels → FitTo (length before)
  way_fits [] reach1 kept1 later levels reached1 all kept sum ends ply mask less losers game = absurd (omega (arith, less))
  way_fits (reach ∷ before) reach1 kept1 later levels reached1 all kept sum ends ply mask less losers game =
      let j = length before in
      let (level, one, rest) =
      Ends-split (plan_kept (rules_of s.position) s.position.turn (length before) (suc (length later)) reach reach1 kept1)
      (λ level. backward (rules_of s.position) s.position.turn reach before level (kept1 ∷ later)) ends in
      let e : length before + suc (length later) ≡ end_of s = omega (arith, sum) in
      let known = kept_known (suc (length before)) kept1 (omega (arith, e)) kept in
      let now : KeptAt (length before) level =
      kept-next s.position valid.sound valid.few means point s.winner s.moves (length later) level one.entries e all.0 reached1 kept known one.takes in
      elim (cases_lt ply (length before)) [
        | inl earlier ↦ way_fits before reach level (kept1 ∷ later) levels all.0 all.1 now e rest ply mask earlier losers game
        | inr at_it ↦
            let is : ply ≡ length before = omega (arith, at_it, less) in
            let odd = losers.before in
            subst (λ n. IsWithin (rest_part s (suc n) mask) budget) (sym is)
            (losing_part (length before) losers.left (length later) reach reach1 kept1 level (omega (arith, odd, is, e)) (omega (arith, e)) reached1 kept one mask game)
      ]

  -- and on the whole way
  plan_way : (last : ℕ) (levels : List Level) → last ≡ end_of s → Ends (plan (rules_of s.position) s.position.turn (mask_of s.position) last) budget levels → FitTo last
  plan_way last levels is ends =
      let (reached, first, rest) = Ends-split (forward (rules_of s.position) s.position.turn (mask_of s.position) last) (backward_from (rules_of s.position) s.position.turn) ends in
      let (all, count) = forward-reached s.position valid.sound valid.few means point last reached first.entries first.takes in
      from reached all count rest
    where
      from : (reached : List Level) → Reached reached → length reached ≡ suc last
          → Ends (backward_from (rules_of s.position) s.position.turn reached) budget levels → FitTo last
      from [] all count rest = absurd (omega (arith, count))
      from (reach ∷ before) all count rest =
          let at : end_of s ≡ length before = omega (arith, count, is) in
          let none : KeptAt (end_of s) no_sets = kept-last s.position valid.sound valid.few means point s.winner s.moves in
          let kept : KeptAt (length before) no_sets = subst (λ (n : ℕ). KeptAt n no_sets) at none in
          let n : length before ≡ last = omega (arith, count) in
          subst FitTo n (way_fits before reach no_sets [] levels all.0 all.1 kept (omega (arith, at)) rest)

  plan_to_fits : (n : ℕ) → n ≡ end_of s → IsWithin (plan_to s.position n) budget → FitTo n
  plan_to_fits zero is fit ply mask less losers game = absurd (omega (arith, less))
  plan_to_fits (suc n) is fit ply mask less losers game = plan_way (suc n) fit.value is fit.ends ply mask less losers game

  pub rests_fit : IsWithin (plan_of s.winner s.position s.moves) budget → RestsFit s budget
  rests_fit fit ply mask losers game =
      let before = losers.before in
      plan_to_fits (end_of s) refl fit ply mask (omega (arith, before)) losers game
