-- Automata that are made one after the other.
use Rattle.std.proofs.Common.{◌≡◌, ◌↔◌, ℕ, ◌+◌, ◌<◌, ℤ, pos, List, Bor, ◌∷◌, length, get_or, drop, sym, ap, ◌∙◌, subst, add-one, drop-cons, inl, inr, None}
use Rattle.std.proofs.lemmas.List.{get_or-map, length-map}
use Rattle.track_word.specs.declared.tracks.Var.{Var}
use Rattle.track_word.specs.Word.{IsWord, repeat_first}
use Rattle.track_word.proofs.Repeats.{IsWord-again}
use Rattle.track_word.specs.Tracks.{with_vars, place, part_of, IsAscending}
use Rattle.auto_core.specs.Automaton.{Automaton, Accepts}
use Rattle.auto_core.specs.Spread.{BothSpreadExceeds}
use Rattle.auto_core.specs.Integers.{DecidesIntegers}
use Rattle.auto_bool.proofs.TrackLemmas.{ascending-with_vars}
use Rattle.auto_shift.specs.Moved.{DecidesMoved}
use Rattle.lin_formula.specs.Tree.{Tree, steps, free_vars}
use Rattle.lin_formula.specs.TreeOf.{tree_of}
use Rattle.lin_formula.specs.declared.formula.Formula.{Formula}
use Rattle.lin_formula.specs.Free.{IsOneOf}
use Rattle.lin_formula.specs.SetOf.{SetOf, members}
use Rattle.lin_formula.proofs.FreeVars.{free_vars-ascend, one_of-with_vars}
use Rattle.formula_auto.specs.Decides.{Decides}
use Rattle.formula_auto.specs.Nodes.{AcceptSame}
use Rattle.formula_auto.specs.Step.{FirstOver}
use Rattle.formula_auto.specs.Compiled.{IsAccessible}
use Rattle.auto_bool.specs.declared.connective.Connective.TheVariants.{AndNot}
use Rattle.formula_auto.proofs.Exceedings.{Exceeds-connect}
use Rattle.formula_auto.proofs.Parts.{Decides-AndNot}
use Rattle.shift_image.specs.Laws.{IsMovedBy, negated}
use Rattle.shift_image.specs.Read.{trees}
use Rattle.shift_image.specs.LeftOut.{IsDifference, IsLeftOf, AreLeftByTurns}
use Rattle.shift_image.specs.declared.shift.ValueShift.{ValueShift}
use Rattle.formula_auto.proofs.Variables.{same-ascending}

-- an automaton of the same words
pub moved-same : {a b c : Automaton} {track : ℕ} {d : ℤ} → DecidesMoved a b track d → AcceptSame b c → DecidesMoved a c track d
moved-same moved same = record {
  tracks = same.tracks ∙ moved.tracks;
  words = λ u v is k.
      let w = same.words u (subst (λ t. IsWord (length t) u) (sym moved.tracks) is) in
      let m = moved.words u v is k in
      (λ h. m.0 (w.0 h), λ h. w.1 (m.1 h));
}

-- a shift where a list has none
abbrev pub nowhere : ValueShift
nowhere = record { gone = record { 0 = 0 }; new = record { 0 = 0 }; by = pos 0 }

drop-here : {X : Type 0} (xs : List X) (i : ℕ) (d : X) → i < length xs → get_or xs i d ∷ drop (i + 1) xs ≡ drop i xs
drop-here xs i d within = rw add-one (sym (drop-cons xs i d within))

-- one shift more
pub moved-more : (shifts : List ValueShift) (i : ℕ) (d : ValueShift) (a : Automaton) {m next : Automaton} → i < length shifts
    → ((b : Automaton) → IsMovedBy (drop i shifts) m b → IsMovedBy shifts a b)
    → DecidesMoved m next (place m.tracks (get_or shifts i d).new) (negated (get_or shifts i d).by)
    → (b : Automaton) → IsMovedBy (drop (i + 1) shifts) next b → IsMovedBy shifts a b
moved-more shifts i d a {m} {next} within rest moved b h =
    let from : IsMovedBy (get_or shifts i d ∷ drop (i + 1) shifts) m b = (next, moved, h) in
    rest b (subst (λ l. IsMovedBy l m b) (drop-here shifts i d within) from)

-- one formula more
pub left-more : {e : ℕ → SetOf} {budget each : ℕ} (gs : List Tree) (i : ℕ) {g : Tree} (a : Automaton) {m next : Automaton} → i < length gs
    → get_or gs i g ≡ g → ((b : Automaton) → AreLeftByTurns e budget each (drop i gs) m b → AreLeftByTurns e budget each gs a b)
    → IsLeftOf e budget each g m next
    → (b : Automaton) → AreLeftByTurns e budget each (drop (i + 1) gs) next b → AreLeftByTurns e budget each gs a b
left-more {e} {budget} {each} gs i {g} a {m} {next} within is rest left b h =
    let from : AreLeftByTurns e budget each (g ∷ drop (i + 1) gs) m b = (next, left, h) in
    let here = ap (λ h. h ∷ drop (i + 1) gs) (sym is) ∙ drop-here gs i g within in
    rest b (subst (λ l. AreLeftByTurns e budget each l m b) here from)

-- the tree of the formula at a place
pub tree-at : (formulas : List (Bor Formula)) (i : ℕ) (f : Bor Formula) → i < length formulas → f ≡ get_or formulas i f
    → get_or (trees formulas) i (tree_of f.now) ≡ tree_of f.now
tree-at formulas i f within is =
    get_or-map (λ (f : Bor Formula). tree_of f.now) formulas i f (tree_of f.now) within ∙ ap (λ (f : Bor Formula). tree_of f.now) (sym is)

-- a formula over some of the tracks adds none
pub same_tracks : (tracks : List Var) (g : Tree) → IsAscending tracks → ((x : Var) → IsOneOf x (free_vars g) → IsOneOf x tracks)
    → with_vars tracks (free_vars g) ≡ tracks
same_tracks tracks g up about =
    same-ascending (with_vars tracks (free_vars g)) tracks (ascending-with_vars tracks (free_vars g) (free_vars-ascend g)) up
    (λ x one. elim ((one_of-with_vars x tracks (free_vars g)).0 one) [ inl there ↦ there | inr new ↦ about x new ])
    (λ x one. (one_of-with_vars x tracks (free_vars g)).1 (inl one))

pub integers-same : {b c : Automaton} → DecidesIntegers b → AcceptSame b c → DecidesIntegers c
integers-same integers same = record {
  stable = λ word is_c.
      let is = subst (λ t. IsWord (length t) word) same.tracks is_c in
      let s = integers.stable word is in
      let once = same.words word is in
      let twice = same.words (repeat_first word) (IsWord-again is) in
      (λ h. twice.1 (s.0 (once.0 h)), λ h. once.1 (s.1 (twice.0 h)));
}

-- of what is left, for any formulas that the automata decide
pub differs : {budget : ℕ} {a b c : Automaton} → c.tracks ≡ with_vars a.tracks b.tracks
    → ((word : List ℕ) → IsWord (length c.tracks) word
    → Accepts c word ↔ (Accepts a (part_of c.tracks a.tracks word) × ¬ Accepts b (part_of c.tracks b.tracks word)))
    → ¬ BothSpreadExceeds a.tracks b.tracks (Accepts a) (Accepts b) budget → IsAccessible budget c → IsDifference budget a b c
differs {budget = budget} {a = a} {b = b} {c = c} tracks words within accessible = record {
  tracks = tracks;
  decides = λ f g e left right. Decides-AndNot (members e) f g a b c left right tracks words;
  within = λ f g e left right over. within ((Exceeds-connect (members e) f g a b budget left right AndNot).1 over);
  accessible = accessible;
}

-- where the second automaton decides a formula over the tracks of the first
pub left-of : {e : ℕ → SetOf} {budget each : ℕ} {g : Tree} {a b c : Automaton} → IsAscending a.tracks
    → ((x : Var) → IsOneOf x (free_vars g) → IsOneOf x a.tracks) → Decides b g (members e)
    → FirstOver (steps g) (members e) budget 1 None → IsDifference each a b c → IsLeftOf e budget each g a c
left-of {e = e} {g = g} {a = a} up about decides asked h = record {
  tracks = h.tracks ∙ ap (with_vars a.tracks) decides.tracks ∙ same_tracks a.tracks g up about;
  asked = asked;
  decides = λ f left. h.decides f g e left decides;
  within = λ f left. h.within f g e left decides;
  accessible = h.accessible;
}

pub length-trees : (formulas : List (Bor Formula)) → length (trees formulas) ≡ length formulas
length-trees formulas = length-map formulas (λ (f : Bor Formula). tree_of f.now)
