-- A repeated first letter never matters just where each sign letter, read once more, leads a reduced automaton to the same state.
use Rattle.std.proofs.Common.{arith, ◌≡◌, ◌↔◌, ℕ, ◌<◌, ◌%◌, ◌^◌, List, [], ◌∷◌, length, get_or, slice_get, Some, All, refl, sym, ap, ◌∙◌, subst, inl, inr}
use Rattle.std.proofs.lemmas.Bool.{cases_eq}
use Rattle.std.proofs.lemmas.Nat.{mod_below, pow_pos}
use Rattle.std.proofs.lemmas.List.Elements.{All-head, All-cons}
use Rattle.std.proofs.lemmas.Option.{slice_get_within, get_or_from_slice_get}
use Rattle.track_word.specs.Word.{IsWord, repeat_first}
use Rattle.track_word.proofs.Repeats.{IsWord-again}
use Rattle.letter_diagram.specs.declared.diagrams.Shape.{Shape}
use Rattle.letter_diagram.specs.Diagram.{map_at, LooksBelow, Grows}
use Rattle.diagram_product.specs.Paired.{AreAnswers}
use Rattle.letter_diagram.specs.Leaves.{AreLeaves}
use Rattle.auto_core.specs.Automaton.{Automaton, IsAutomaton, width, first_state, next_state, run, is_final, Accepts}
use Rattle.auto_core.specs.Reduced.{IsReduced}
use Rattle.auto_core.specs.Integers.{DecidesIntegers}
use Rattle.auto_core.proofs.States.{same_flag}
use Rattle.auto_walk.proofs.WalkWords.{map_at-low}
use Rattle.auto_reduce.specs.Stable.{Keeps}
use Rattle.auto_core.specs.Words.{HasSameWords}
use Rattle.auto_refine.proofs.States.{first_within, next_within}
use Rattle.auto_reduce.proofs.Orders.{place_in}

-- the sign letters that lead to a state lead from it to itself
pub record IsKept (a : Automaton) (state : ℕ) : Type 0 where
  pub keeps : (letter : ℕ) → letter < width a → first_state a letter ≡ state → next_state a state letter ≡ state

module _ (a : Automaton) where
  pub DecidesIntegers-kept : ((letter : ℕ) → letter < width a → IsKept a (first_state a letter)) → DecidesIntegers a
  DecidesIntegers-kept kept = record { stable = word }
    where
      word : (w : List ℕ) → IsWord (length a.tracks) w → Accepts a w ↔ Accepts a (repeat_first w)
      word [] is_word = absurd (is_word.nonempty refl)
      word (sign ∷ letters) is_word =
          let below = All-head (λ l. l < width a) sign letters is_word.letters in
          let flag = ap (λ s. is_final a (run a s letters)) ((kept sign below).keeps sign below refl) in
          (λ p. flag ∙ p, λ p. sym flag ∙ p)

  module _ (is : IsAutomaton a) (reduced : IsReduced a) (d : DecidesIntegers a) where
    stays : (letter : ℕ) → letter < width a → next_state a (first_state a letter) letter ≡ first_state a letter
    stays letter below =
        let once = first_state a letter in
        let twice = next_state a (first_state a letter) letter in
        elim (cases_eq (next_state a (first_state a letter) letter) (first_state a letter)) [
          | inl same ↦ same
          | inr other ↦
              let t = reduced.apart (next_state a (first_state a letter) letter) (first_state a letter) (next_within is (first_state a letter) letter) (first_within is letter) other in
              let word = d.stable (letter ∷ t.letters) (record { nonempty = λ e. cc e; letters = All-cons (λ l. l < width a) letter t.letters below t.are_letters }) in
              absurd (t.differ (sym (same_flag _ _ word)))
        ]

    pub IsKept-stable : (state : ℕ) → IsKept a state
    IsKept-stable state = record {
      keeps = λ letter below leads. subst (λ s. next_state a s letter ≡ s) leads (stays letter below);
    }

-- a repeated first letter matters to the same words
pub DecidesIntegers-words : (m a : Automaton) → m.tracks ≡ a.tracks → HasSameWords a m → DecidesIntegers m ↔ DecidesIntegers a
DecidesIntegers-words m a tracks same = (
  λ d. record {
    stable = λ word is.
        let here = same word is in
        let once = same (repeat_first word) (IsWord-again is) in
        let s = d.stable word (subst (λ t. IsWord (length t) word) (sym tracks) is) in
        (λ p. once.0 (s.0 (here.1 p)), λ p. here.0 (s.1 (once.1 p)));
  },
  λ d. record {
    stable = λ word is_m.
        let is = subst (λ t. IsWord (length t) word) tracks is_m in
        let here = same word is in
        let once = same (repeat_first word) (IsWord-again is) in
        let s = d.stable word is in
        (λ p. once.1 (s.0 (here.0 p)), λ p. here.1 (s.1 (once.0 p)));
  },
)

module _ (shapes : List Shape) (first row state : ℕ) (pairs : List (ℕ × ℕ)) where
  abbrev PairsKeep : Type 0
  PairsKeep = All (λ pair. pair.0 ≡ state → pair.1 ≡ state) pairs

  -- the pairs of the values of both are kept just where the maps are
  pub Keeps-pairs : (after : List Shape) (node : ℕ)
      → ((letter : ℕ) → slice_get pairs (map_at after node letter) ≡ Some (map_at shapes first letter, map_at shapes row letter))
      → PairsKeep → Keeps shapes first row state
  Keeps-pairs after node map kept letter leads =
      let number = map_at after node letter in
      let both : ℕ × ℕ = (map_at shapes first letter, map_at shapes row letter) in
      let within = slice_get_within pairs number both (map letter) in
      let P : ℕ × ℕ → Type 0 = λ pair. pair.0 ≡ state → pair.1 ≡ state in
      subst P (get_or_from_slice_get pairs number both both (map letter)) (kept number both within) leads

  pub pairs-Keep : AreAnswers shapes 0 pairs first row → Keeps shapes first row state → PairsKeep
  pairs-Keep are kept number none within is =
      let answer = are.answer number (omega arith) within in
      let both = get_or_from_slice_get pairs number _ none answer.1 in
      let b = ap (λ p. p.0) both in
      let t = ap (λ p. p.1) both in
      t ∙ kept answer.0 (sym b ∙ is)

-- the rows of the states of an automaton, over more nodes
module _ (a : Automaton) (own shapes : List Shape) (first row state : ℕ) (grows : Grows own shapes) (first_known : first < length own) (row_known : row < length own)
    (first_narrow : LooksBelow own first (length a.tracks)) (row_narrow : LooksBelow own row (length a.tracks))
    (first_leads : (letter : ℕ) → letter < 2 ^ length a.tracks → map_at own first letter ≡ first_state a letter)
    (row_leads : (letter : ℕ) → letter < 2 ^ length a.tracks → map_at own row letter ≡ next_state a state letter) where
  pub IsKept-row : Keeps shapes first row state → IsKept a state
  IsKept-row keeps = record {
    keeps = λ letter below leads.
        sym (row_leads letter below) ∙ sym (grows.map row letter row_known)
        ∙ keeps letter (grows.map first letter first_known ∙ first_leads letter below ∙ leads);
  }

  pub row-IsKept : IsKept a state → Keeps shapes first row state
  row-IsKept kept letter leads =
      let own_letter = letter % 2 ^ length a.tracks in
      let below = mod_below letter (2 ^ length a.tracks) (pow_pos (length a.tracks)) in
      let low = sym (first_leads own_letter below) ∙ sym (map_at-low letter first_narrow) ∙ sym (grows.map first letter first_known) ∙ leads in
      grows.map row letter row_known ∙ map_at-low letter row_narrow ∙ row_leads own_letter below ∙ kept.keeps own_letter below low

-- where the states among the leaves of the first row are kept, all are
pub IsKept-leaves : (a : Automaton) {shapes : List Shape} {first : ℕ} {leaves : List ℕ} → AreLeaves shapes first leaves
    → ((letter : ℕ) → letter < width a → map_at shapes first letter ≡ first_state a letter)
    → ((k : ℕ) → k < length leaves → IsKept a (get_or leaves k 0)) → (letter : ℕ) → letter < width a → IsKept a (first_state a letter)
IsKept-leaves a {shapes} {first} {leaves} are leads kept letter below =
    let p = place_in leaves (map_at shapes first letter) (are.all letter) in
    subst (IsKept a) (p.2 ∙ leads letter below) (kept p.0 p.1)

-- a leaf is below the bound of all values
pub leaf_within : {shapes : List Shape} {first : ℕ} (bound : ℕ) {leaves : List ℕ} → AreLeaves shapes first leaves
    → ((letter : ℕ) → map_at shapes first letter < bound) → (k : ℕ) → k < length leaves → get_or leaves k 0 < bound
leaf_within bound are below k within = let g = are.given k within in subst (λ v. v < bound) g.1 (below g.0)
