-- States that share a class of a partition that respects flags and rows are told apart by no letters.
use Rattle.std.proofs.Common.{◌≡◌, ℕ, ◌<◌, List, [], ◌∷◌, length, get_or, All, inl, inr}
use Rattle.std.proofs.lemmas.Bool.{cases_eq}
use Rattle.std.proofs.lemmas.List.Elements.{All-head, All-tail}
use Rattle.auto_core.specs.Automaton.{Automaton, IsAutomaton, width, next_state, run, is_final}
use Rattle.auto_refine.specs.Coarsest.{Respects, IsCoarsest}
use Rattle.auto_refine.proofs.States.{next_within}

-- after any letters such states have one flag
same_flag_after : {a : Automaton} {classes : List ℕ} → IsAutomaton a → Respects a classes → (letters : List ℕ) (j k : ℕ) → All (λ letter. letter < width a) letters
    → j < length a.accept → k < length a.accept → get_or classes j 0 ≡ get_or classes k 0 → is_final a (run a j letters) ≡ is_final a (run a k letters)
same_flag_after is r [] j k all jw kw same = r.flags j k jw kw same
same_flag_after {a} is r (letter ∷ letters) j k all jw kw same =
    same_flag_after is r letters (next_state a j letter) (next_state a k letter) (All-tail (λ l. l < width a) letter letters all) (next_within is j letter) (next_within is k letter)
    (r.rows j k letter jw kw (All-head (λ l. l < width a) letter letters all) same)

pub coarser : (a : Automaton) (classes other : List ℕ) (count : ℕ) → IsAutomaton a → IsCoarsest a classes count → Respects a other
    → (j k : ℕ) → j < length a.accept → k < length a.accept → get_or other j 0 ≡ get_or other k 0 → get_or classes j 0 ≡ get_or classes k 0
coarser a classes other count is coarse r j k jw kw same = elim (cases_eq (get_or classes j 0) (get_or classes k 0)) [
  | inl e ↦ e
  | inr differ ↦ let apart = coarse.apart j k jw kw differ in absurd (apart.differ (same_flag_after is r apart.letters j k apart.are_letters jw kw same))
]
