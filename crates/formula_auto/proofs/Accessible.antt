-- Automata to each state of which a word leads.
use Rattle.std.proofs.Common.{◌≡◌, ℕ, ◌≤◌, List, length, Result, Ok, Err, IfOk, map, sym, ap, ◌∙◌, arith, not}
use Rattle.std.proofs.lemmas.List.{length-map}
use Rattle.track_word.specs.declared.tracks.Var.{Var}
use Rattle.track_word.specs.Tracks.{without_var}
use Rattle.auto_core.specs.Automaton.{Automaton, IsAutomaton, Accepts}
use Rattle.auto_core.specs.Reduced.{AllReached, IsReduced, IsReachedState}
use Rattle.auto_core.specs.Spread.{ExSpreadExceeds, LiftsInto}
use Rattle.auto_core.proofs.States.{same_state}
use Rattle.auto_project.specs.Lifted.{LiftLeads, MoreSets}
use Rattle.formula_auto.specs.Compiled.{IsAccessible}

pub accessible : {E : Type 0} (r : Result Automaton E) (budget : ℕ) → IfOk r AllReached
    → IfOk r (λ m. length m.accept ≤ budget) → IfOk r (IsAccessible budget)
accessible (Ok m) budget reached few = record { reached = reached; few = few }
accessible (Err why) budget reached few = reached

-- after a merge
pub accessible-merged : {E : Type 0} (r : Result Automaton E) (a : Automaton)
    → IfOk r (λ m. AllReached a → AllReached m)
    → IfOk r (λ m. length m.accept ≤ length a.accept) → IfOk r (λ m. (budget : ℕ) → IsAccessible budget a → IsAccessible budget m)
accessible-merged (Ok m) a reached fewer = λ budget h. record { reached = reached h.reached; few = omega (arith, fewer, h.few) }
accessible-merged (Err why) a reached fewer = reached

-- the complement has the same states and the same ways to them
reached-turned : {a : Automaton} (n : Automaton) {state : ℕ} → n.tracks ≡ a.tracks → n.first ≡ a.first → n.next ≡ a.next → IsReachedState a state → IsReachedState n state
reached-turned n tracks first next h = record {
  word = h.word;
  is_word = rw tracks h.is_word;
  leads = rw (tracks, first, next) h.leads;
}

pub AllReached-turned : {E : Type 0} (r : Result Automaton E) (a : Automaton) → IfOk r (λ n. n.tracks ≡ a.tracks) → IfOk r (λ n. n.first ≡ a.first) → IfOk r (λ n. n.next ≡ a.next)
    → IfOk r (λ n. n.accept ≡ map not a.accept) → AllReached a → IfOk r AllReached
AllReached-turned (Ok n) a tracks first next accept reached = λ state within.
    let size : length n.accept ≡ length a.accept = ap length accept ∙ length-map a.accept not in
    reached-turned n tracks first next (reached state (omega (arith, size, within)))
AllReached-turned (Err why) a tracks first next accept reached = tracks

pub no_larger-turned : {E : Type 0} (r : Result Automaton E) (a : Automaton) → IfOk r (λ n. n.accept ≡ map not a.accept) → IfOk r (λ n. length n.accept ≤ length a.accept)
no_larger-turned (Ok n) a accept = let size : length n.accept ≡ length a.accept = ap length accept ∙ length-map a.accept not in omega (arith, size)
no_larger-turned (Err why) a accept = accept

-- words whose lifts lead a reduced automaton to different sets of states are not alike
module _ (x : Var) (a : Automaton) (valid : IsAutomaton a) (reduced : IsReduced a) where
  leads_too : {v : List ℕ} (w : List ℕ) (state : ℕ) → LiftsInto (without_var x a.tracks) a.tracks (Accepts a) v w
      → LiftLeads a (without_var x a.tracks) v state → LiftLeads a (without_var x a.tracks) w state
  leads_too w state into h =
      let other = into h.lift h.is in
      let same = same_state valid reduced h.is.is_word.nonempty other.1.is_word.nonempty other.2 in
      record { lift = other.0; is = other.1; leads = sym same ∙ h.leads }

  pub ExSpreadExceeds-from_sets : {budget : ℕ} → MoreSets a (without_var x a.tracks) budget → ExSpreadExceeds x a.tracks (Accepts a) budget
  ExSpreadExceeds-from_sets more = record {
    words = more.words;
    count = more.count;
    are_words = more.are_words;
    apart = λ i j d less within alike. more.apart i j d less within (λ state. (leads_too _ state alike.forth, leads_too _ state alike.back));
  }
