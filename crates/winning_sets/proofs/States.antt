-- What a solver has finished, from one state to a later one.
use Rattle.std.proofs.Common.{◌≡◌, ℕ, ◌≤◌, List, [], ◌∷◌, ◌++◌, length, take, map, refl, sym, ap, ◌∙◌, subst, arith}
use Rattle.std.specs.List.{All}
use Rattle.std.proofs.lemmas.List.{append-nil, map_push, take_all}
use Rattle.auto_core.specs.Automaton.{Automaton}
use Rattle.game_rules.specs.Game.{Position}
use Rattle.game_rules.specs.declared.men.Side.{Side}
use Rattle.rule_formula.specs.Fits.{masks_of}
use Rattle.set_plan.specs.Sets.{Grows}
use Rattle.mate_plan.specs.Levels.{AreNames}
use Rattle.winning_sets.specs.Lent.{sets_or}
use Rattle.winning_sets.specs.Solve.{IsSolverAfter, SolverState}
use Rattle.winning_sets.proofs.Growing.{all_lent-grow, grows-take, grows-trans, take-grows}
use Rattle.winning_sets.proofs.LentLemmas.{Names}

pub after_self : (s : SolverState) → IsSolverAfter s s
after_self s = record { position = refl; winner = refl; budget = refl; added = []; reach = sym (append-nil s.reach) }

-- the first sets that are finished
pub after_first : (s t : SolverState) → t.position ≡ s.position → t.winner ≡ s.winner → t.budget ≡ s.budget → s.reach ≡ [] → IsSolverAfter s t
after_first s t position winner budget none = record {
  position = position;
  winner = winner;
  budget = budget;
  added = t.reach;
  reach = ap (λ l. l ++ t.reach) (sym none);
}

pub map-none : {X Y : Type 0} (f : X → Y) (xs : List X) → map f xs ≡ [] → xs ≡ []
map-none f [] e = refl
map-none f (x ∷ xs) e = cc

module _ (p : Position) (winner : Side) (empties : List Automaton) where
  abbrev pub state_of : ℕ → List Automaton → List Names → SolverState
  state_of budget table levels = record { position = p; winner = winner; budget = budget; reach = map (sets_or table empties) levels }

  module _ (budget other : ℕ) (old new : List Automaton) (count : ℕ) (levels : List Names) (within : count ≤ length old) (grows : Grows old new) (same : other ≡ budget) where
    -- with more sets in the table nothing changes
    pub state-grows : (more : List Names) → more ≡ levels → state_of other (take count new) more ≡ state_of budget (take count old) levels
    state-grows more is =
        ap (λ b. state_of b (take count new) more) same
        ∙ ap (λ t. state_of budget t more) (take-grows old new count grows within)
        ∙ ap (λ l. state_of budget (take count old) l) is

    pub after_grown : (more : List Names) → more ≡ levels → IsSolverAfter (state_of budget (take count old) levels) (state_of other (take count new) more)
    after_grown more is =
        subst (λ (s : SolverState). IsSolverAfter (state_of budget (take count old) levels) s) (sym (state-grows more is)) (after_self (state_of budget (take count old) levels))

    -- one more ply
    pub after_push : (size : ℕ) (ids : Names) (more : List Names) → All (AreNames p.men (take count old) (masks_of p)) levels → size ≡ length new
        → more ≡ levels ++ ids ∷ [] → IsSolverAfter (state_of budget (take count old) levels) (state_of other (take size new) more)
    after_push size ids more named all is =
        let whole : take size new ≡ new = take_all size new (omega (arith, all)) in
        let later = grows-trans (take count old) old new (grows-take count old) grows in
        record {
          position = refl;
          winner = refl;
          budget = same;
          added = sets_or new empties ids ∷ [];
          reach =
              ap (λ t. map (sets_or t empties) more) whole ∙ ap (map (sets_or new empties)) is ∙ map_push (sets_or new empties) levels ids
              ∙ ap (λ l. l ++ sets_or new empties ids ∷ []) (all_lent-grow (take count old) new later p.men (masks_of p) empties levels named);
        }
