-- What is made of an image by moving tracks.
use Rattle.std.proofs.Common.{◌≡◌, ℕ, ◌+◌, ◌*◌, ◌<◌, ◌≤◌, List, [], ◌∷◌, length, map, All, refl, sym, ◌∙◌, subst, inl, inr, arith}
use Rattle.std.proofs.lemmas.List.Elements.{All-nil, All-cons}
use Rattle.track_word.specs.declared.tracks.Var.{Var}
use Rattle.track_word.specs.Word.{IsWord}
use Rattle.track_word.specs.Tracks.{with_vars, place, word_values}
use Rattle.auto_core.specs.Automaton.{Automaton}
use Rattle.lin_formula.specs.Tree.{Tree, Not, free_vars}
use Rattle.lin_formula.specs.Holds.{Holds}
use Rattle.lin_formula.specs.SetOf.{SetOf, members}
use Rattle.lin_formula.proofs.FreeVars.{one_of-with_vars}
use Rattle.formula_auto.specs.Decides.{Decides}
use Rattle.formula_auto.specs.Compiled.{IsAccessible, IsCompiledOn}
use Rattle.formula_auto.proofs.Sayings.{decides-says}
use Rattle.shift_image.specs.Equations.{open_ways}
use Rattle.shift_image.specs.declared.shift.ValueShift.{ValueShift}
use Rattle.shift_image.specs.Image.{Image, IsShiftable, and_all, image_tree, part_tree, moved_vars, equation_of}
use Rattle.shift_image.specs.Laws.{ImageSaysPart, StepsAreWithin, AreClearWithin, HasFewStates, change_colours}
use Rattle.shift_image.specs.LeftOut.{AreLeftByTurns}
use Rattle.shift_image.proofs.Shifts.{IsAmong, new-among, moved-vars}
use Rattle.shift_image.proofs.Moving.{place-within}

all-among : (P : ValueShift → Type 0) (shifts : List ValueShift) → ((s : ValueShift) → IsAmong s shifts → P s) → All P shifts
all-among P [] h = All-nil P
all-among P (s ∷ shifts) h = All-cons P s shifts (h s (inl refl)) (all-among P shifts (λ t among. h t (inr among)))

-- the new values have tracks in the set that is renamed
pub new-places : {i : Image} → IsShiftable i → (tracks : List Var) → tracks ≡ with_vars (moved_vars i) []
    → All (λ s. place tracks s.new < length tracks) i.shifts
new-places {i} is tracks same =
    all-among (λ s. place tracks s.new < length tracks) i.shifts (λ s among.
    let one = (moved-vars i is s.new).1 (inl (new-among s i.shifts among)) in
    rw same (place-within s.new (with_vars (moved_vars i) []) ((one_of-with_vars s.new (moved_vars i) []).1 (inl one))))

module _ (e : ℕ → SetOf) (budget each : ℕ) where
  pub decides-all : {f : Tree} (gs : List Tree) {a : Automaton} (b : Automaton) → Decides a f (members e) → AreLeftByTurns e budget each gs a b
      → Decides b (and_all f (map Not gs)) (members e)
  decides-all {f} [] b decides same = subst (λ c. Decides c f (members e)) (sym same) decides
  decides-all {f} (g ∷ gs) b decides (m, left, rest) = decides-all gs b (left.decides f decides) rest

  pub clear-within : {f : Tree} (gs : List Tree) {a : Automaton} (b : Automaton) → Decides a f (members e) → AreLeftByTurns e budget each gs a b
      → AreClearWithin f gs e budget each
  clear-within [] b decides same = tt
  clear-within {f} (g ∷ gs) b decides (m, left, rest) =
      (left.asked, left.within f decides, clear-within gs b (left.decides f decides) rest)

-- one at least
colours-least : (shifts : List ValueShift) (each budget : ℕ) → change_colours shifts * each ≤ budget → each ≤ budget
colours-least [] each budget h = omega (arith, h)
colours-least (s ∷ shifts) each budget h = one_more (open_ways (map equation_of (s ∷ shifts))) each budget h
  where
    one_more : (ways each budget : ℕ) → (ways + 1) * each ≤ budget → each ≤ budget
    one_more ways each budget h = let sum : (ways + 1) * each ≡ ways * each + each = grind arith in omega (arith, h, sum)

pub compiled-on : (i : Image) (e : ℕ → SetOf) (budget each : ℕ) (part : Automaton) → ImageSaysPart → StepsAreWithin → IsShiftable i
    → HasFewStates i e budget each → Decides part (part_tree i) (members e) → IsAccessible each part
    → IsCompiledOn (image_tree i) e 0 budget part
compiled-on i e budget each part says within is few decides accessible = record {
  made = record {
    decides = decides-says e (says i is) decides;
    within = within i e budget each is few;
  };
  reached = accessible.reached;
  few = λ some. let least = colours-least i.shifts each budget few.changes in omega (arith, least, accessible.few);
}
