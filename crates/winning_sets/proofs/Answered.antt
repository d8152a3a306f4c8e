-- What is finished of a plan is what is reached, and what its way back gives is what is kept.
use Rattle.std.proofs.Common.{◌≡◌, ◌↔◌, ℕ, zero, suc, ◌+◌, ◌-◌, ◌<◌, ◌≤◌, List, [], ◌∷◌, length, get_or, take, map, Some, None, sym, ap, ◌∙◌, subst, arith}
use Rattle.std.specs.Prelude.{reverse, slice_get}
use Rattle.std.specs.List.{All}
use Rattle.std.proofs.lemmas.List.{get_or-reverse, length-reverse, take_all}
use Rattle.std.proofs.lemmas.List.Elements.{All-take}
use Rattle.std.proofs.lemmas.Option.{get_or_from_slice_get, slice_get-get_or, slice_get_within}
use Rattle.auto_core.specs.Automaton.{Automaton}
use Rattle.game_rules.specs.Game.{Position, Sound, Value}
use Rattle.game_rules.specs.declared.men.Side.{Side}
use Rattle.rule_formula.specs.Fits.{masks_of}
use Rattle.set_plan.specs.Outcome.{Ends}
use Rattle.set_plan.specs.Sets.{Grows}
use Rattle.mate_plan.specs.Levels.{AreNames, level_of}
use Rattle.mate_plan.specs.Plan.{Level}
use Rattle.mate_plan.specs.PlanOf.{last_ply, plan_of}
use Rattle.winning_sets.specs.Finished.{AreFinished}
use Rattle.winning_sets.specs.Kept.{Kept}
use Rattle.winning_sets.specs.Lent.{AreEmpties, sets_or}
use Rattle.winning_sets.specs.PlanMeans.{AreLevelsOf, IsLevelOf}
use Rattle.winning_sets.specs.Reach.{Reach}
use Rattle.winning_sets.specs.Solve.{AreKept, AreReached, AreReachedTo, AreSets, IsKeptIn, IsSolution, Sets, Solution, sets_at}
use Rattle.winning_sets.specs.declared.origin.Origin.TheVariants.{Plan}
use Rattle.winning_sets.proofs.Growing.{all_lent-grow}
use Rattle.winning_sets.proofs.KeptParts.{kept_end, kept_first}
use Rattle.winning_sets.proofs.LentLemmas.{Names, empty_sets_are, lent_sets_are}
use Rattle.winning_sets.proofs.MeaningLaws.{forward_means, keeps_kept, mean, names_known, plan_means}

-- levels that are those of their positions from the last one on, turned
turned_levels : (Set : ℕ → Position → Type 0) {last : ℕ} (levels : List Level) → AreLevelsOf (λ number. Set (last - number)) last (reverse levels) → AreLevelsOf Set last levels
turned_levels Set {last} levels are =
    let count : length levels ≡ suc last = sym (length-reverse levels) ∙ are.count in
    record {
      count = count;
      each = λ number level at.
          let within = slice_get_within levels number level at in
          let back : last - (last - number) ≡ number = omega (arith, within, count) in
          let place : length levels - 1 - (last - number) ≡ number = omega (arith, within, count) in
          let is : get_or (reverse levels) (last - number) level ≡ level =
          get_or-reverse levels (last - number) level (omega (arith, within, count)) ∙ ap (λ n. get_or levels n level) place ∙ get_or_from_slice_get levels number level level at in
          let there : slice_get (reverse levels) (last - number) ≡ Some level =
          slice_get-get_or (reverse levels) (last - number) level (omega (arith, length-reverse levels, within, count)) ∙ ap Some is in
          subst (λ (n : ℕ). IsLevelOf (Set n) level) back (are.each (last - number) level there);
    }

reached_to : (p : Position) (last : ℕ) (sets : Sets) → 0 < last → AreReached p last sets → AreReachedTo p last sets
reached_to p zero sets some are = absurd (omega (arith, some))
reached_to p (suc last) sets some are = are

module _ (p : Position) (budget : ℕ) (masks : List ℕ) (empties table : List Automaton) (levels : List Names) (is : AreFinished p budget masks empties table levels) where
  -- what is finished up to a ply
  pub reached_are : (last : ℕ) → last < length levels → AreReached p last (sets_at (masks_of p) (map (sets_or table empties) (take (suc last) levels)))
  reached_are last within =
      let ends = is.ends last within in
      let backwards = forward_means p last ends.entries (reverse (map (level_of table (masks_of p)) (take (suc last) levels))) is.sound is.few ends.takes in
      let are = turned_levels (Reach p) (map (level_of table (masks_of p)) (take (suc last) levels)) backwards in
      lent_sets_are (Reach p) p (mean is.sound is.few).game last table empties (take (suc last) levels) (is.empties_are (omega (arith, within)))
      (All-take (AreNames p.men table (masks_of p)) (suc last) levels is.names) are

  -- a solution of it
  pub solution_is : (winner : Side) (moves last : ℕ) (after : List Automaton) (kept reach : List (List Automaton))
      → last ≡ last_ply winner p.turn moves → 0 < last → last < length levels → moves ≤ 20 → Grows table after
      → reach ≡ map (sets_or after empties) (take (last + 1) levels) → AreKept winner p moves (sets_at (masks_of p) kept)
      → IsSolution (record { origin = Plan; position = p; winner = winner; moves = moves; kept = kept; reach = reach })
  solution_is winner moves last after kept reach is_last some within small grows made keeps =
      let one : last + 1 ≡ suc last = omega arith in
      let named = All-take (AreNames p.men table (masks_of p)) (last + 1) levels is.names in
      let same : reach ≡ map (sets_or table empties) (take (suc last) levels) =
      made ∙ all_lent-grow table after grows p.men (masks_of p) empties (take (last + 1) levels) named ∙ ap (λ n. map (sets_or table empties) (take n levels)) one in
      let reached : AreReachedTo p last (sets_at (masks_of p) reach) =
      reached_to p last (sets_at (masks_of p) reach) some (subst (λ (r : List (List Automaton)). AreReached p last (sets_at (masks_of p) r)) (sym same) (reached_are last within)) in
      record {
        sound = is.sound;
        few = is.few;
        moves = small;
        kept = keeps;
        reached = subst (λ (n : ℕ). AreReachedTo p n (sets_at (masks_of p) reach)) is_last reached;
      }

  -- and all that is finished
  pub all_reached_are : 0 < length levels → AreReached p (length levels - 1) (sets_at (masks_of p) (map (sets_or table empties) levels))
  all_reached_are some =
      let whole : take (suc (length levels - 1)) levels ≡ levels = take_all (suc (length levels - 1)) levels (omega (arith, some)) in
      subst (λ (l : List Names). AreReached p (length levels - 1) (sets_at (masks_of p) (map (sets_or table empties) l))) whole (reached_are (length levels - 1) (omega (arith, some)))

  -- what is kept by names in a table
  pub kept_are : (winner : Side) (moves : ℕ) (after : List Automaton) (kept : List Names) → 0 < length levels → 0 < last_ply winner p.turn moves
      → All (AreNames p.men after (masks_of p)) kept → Ends (plan_of winner p moves) budget (map (level_of after (masks_of p)) kept)
      → AreKept winner p moves (sets_at (masks_of p) (map (sets_or after empties) kept))
  kept_are winner moves after kept some last named ends =
      let decided = names_known is.sound is.few after (masks_of p) kept named in
      let are = plan_means winner p moves ends.entries (map (level_of after (masks_of p)) kept) is.sound is.few last decided ends.takes in
      lent_sets_are (Kept winner p moves) p (mean is.sound is.few).game (last_ply winner p.turn moves) after empties kept (is.empties_are some) named are

-- nothing is kept where the winner is to move and has no move
pub none_kept_are : (winner : Side) {p : Position} (moves : ℕ) (empties : List Automaton) → Sound p → length p.men ≤ 8
    → last_ply winner p.turn moves ≡ 0 → AreEmpties p.men (masks_of p) empties → AreKept winner p moves (sets_at (masks_of p) (empties ∷ []))
none_kept_are winner {p} moves empties sound few last are =
    let none : (q : Position) → Kept winner p moves 0 q → ⊥ = λ q h. kept_end winner p moves (subst (λ (n : ℕ). Kept winner p moves n q) (sym last) h) in
    let zero_sets = empty_sets_are (Kept winner p moves) (mean sound few).game empties are none in
    subst (λ (n : ℕ). AreSets (Kept winner p moves) p n (sets_at (masks_of p) (empties ∷ []))) (sym last) zero_sets

pub none_solution : (winner : Side) {p : Position} (moves : ℕ) (empties : List Automaton) (kept reach : List (List Automaton)) → Sound p
    → length p.men ≤ 8 → moves ≤ 20 → last_ply winner p.turn moves ≡ 0 → AreEmpties p.men (masks_of p) empties → kept ≡ empties ∷ [] → reach ≡ []
    → IsSolution (record { origin = Plan; position = p; winner = winner; moves = moves; kept = kept; reach = reach })
none_solution winner {p} moves empties kept reach sound few small last are is none =
    let none_at : (ply mask : ℕ) → sets_at (masks_of p) reach ply mask ≡ None = λ ply mask. ap (λ r. sets_at (masks_of p) r ply mask) none in
    record {
      sound = sound;
      few = few;
      moves = small;
      kept = subst (λ (k : List (List Automaton)). AreKept winner p moves (sets_at (masks_of p) k)) (sym is) (none_kept_are winner moves empties sound few last are);
      reached = subst (λ (n : ℕ). AreReachedTo p n (sets_at (masks_of p) reach)) (sym last) none_at;
    }

-- the starting position is kept exactly where the winner mates in time
pub start_kept : {s : Solution} → IsSolution s → IsKeptIn s 0 s.position ↔ Value s.winner s.moves s.position
start_kept {s} is =
    let keeps = keeps_kept s 0 s.position is.sound is.few is.kept in
    let first = kept_first s.winner s.position s.moves in
    (λ h. first.1 (keeps.0 h).1, λ h. keeps.1 (omega arith, first.0 h))
