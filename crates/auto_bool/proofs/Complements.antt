-- An automaton with the same rows and each flag turned accepts the other words, and is as reduced.
use Rattle.std.proofs.Common.{◌≡◌, ◌≢◌, ◌↔◌, ℕ, ◌<◌, ◌+◌, ◌*◌, ◌^◌, Bool, true, false, not, IsTrue, List, [], ◌∷◌, length, map, get_or, arith, refl, sym, ap, ◌∙◌, subst, true≢false}
use Rattle.std.specs.List.{All}
use Rattle.std.proofs.lemmas.List.{length-map}
use Rattle.std.proofs.lemmas.Grind.{common_steps}
use Rattle.auto_core.specs.Automaton.{Automaton, IsAutomaton, width, next_state, run, state_of, is_final, Accepts}
use Rattle.auto_core.specs.Reduced.{IsReduced}
use Rattle.track_word.specs.declared.tracks.Var.{Var}
use Rattle.track_word.specs.Word.{IsWord}
use Rattle.letter_diagram.specs.declared.diagrams.Shape.{Shape}
use Rattle.letter_diagram.specs.Diagram.{map_at}
use Rattle.auto_core.specs.Rows.{AreRows}
use Rattle.auto_core.proofs.States.{state_within, run_within}

turned : (b : Bool) → IsTrue (not b) ↔ (IsTrue b → ⊥)
turned true = (λ e h. true≢false (sym e), λ h. absurd (h refl))
turned false = (λ e h. true≢false (sym h), λ h. refl)

not-differ : (b c : Bool) → b ≢ c → not b ≢ not c
not-differ true true h e = h refl
not-differ true false h e = true≢false (sym e)
not-differ false true h e = true≢false e
not-differ false false h e = h refl

-- an automaton with the rows of another
pub record HasRowsOf (a n : Automaton) : Type 0 where
  pub tracks : n.tracks ≡ a.tracks
  pub first : n.first ≡ a.first
  pub next : n.next ≡ a.next
  pub accept : n.accept ≡ map not a.accept

module _ (a n : Automaton) (same : HasRowsOf a n) where
  next-same : (state letter : ℕ) → next_state n state letter ≡ next_state a state letter
  next-same state letter =
      ap (λ l. get_or l (state * width n + letter) 0) same.next ∙ ap (λ t. get_or a.next (state * 2 ^ length t + letter) 0) same.tracks

  run-same : (letters : List ℕ) (state : ℕ) → run n state letters ≡ run a state letters
  run-same [] state = refl
  run-same (letter ∷ letters) state = ap (λ s. run n s letters) (next-same state letter) ∙ run-same letters (next_state a state letter)

  pub state_of-same : (word : List ℕ) → state_of n word ≡ state_of a word
  state_of-same [] = refl
  state_of-same (sign ∷ letters) = ap (λ l. run n (get_or l sign 0) letters) same.first ∙ run-same letters (get_or a.first sign 0)

  flag-same : (state : ℕ) → state < length a.accept → is_final n state ≡ not (is_final a state)
  flag-same state within =
      let flag : get_or (map not a.accept) state false ≡ not (get_or a.accept state false) = grind (arith, common_steps) in
      ap (λ l. get_or l state false) same.accept ∙ flag

  module _ (is : IsAutomaton a) where
    pub Accepts-turned : (word : List ℕ) → Accepts n word ↔ (Accepts a word → ⊥)
    Accepts-turned word =
        let flag = ap (is_final n) (state_of-same word) ∙ flag-same (state_of a word) (state_within is word) in
        let t = turned (is_final a (state_of a word)) in
        (λ h. t.0 (sym flag ∙ h), λ h. flag ∙ t.1 h)

    pub IsReduced-turned : IsReduced a → IsReduced n
    IsReduced-turned reduced =
        let size : length n.accept ≡ length a.accept = ap length same.accept ∙ length-map a.accept not in
        record {
          reached = λ state within.
              let r = reduced.reached state (omega (arith, size, within)) in
              record { word = r.word; is_word = subst (λ t. IsWord (length t) r.word) (sym same.tracks) r.is_word; leads = state_of-same r.word ∙ r.leads };
          apart = λ j k j_known k_known other.
              let known_j : j < length a.accept = omega (arith, size, j_known) in
              let known_k : k < length a.accept = omega (arith, size, k_known) in
              let t = reduced.apart j k known_j known_k other in
              let flag = λ (s : ℕ) (known : s < length a.accept). ap (is_final n) (run-same t.letters s) ∙ flag-same (run a s t.letters) (run_within is t.letters s known) in
              record {
                letters = t.letters;
                are_letters = subst (λ tracks. All (λ letter. letter < 2 ^ length tracks) t.letters) (sym same.tracks) t.are_letters;
                differ = λ e. not-differ _ _ t.differ (sym (flag j known_j) ∙ e ∙ flag k known_k);
              };
        }

-- flags don't matter to rows, as long as there are as many
pub AreRows-flags : {tracks : List Var} {shapes : List Shape} {first : ℕ} {rows : List ℕ} {old : List Bool} (new : List Bool) → length new ≡ length old → AreRows tracks shapes first rows old
    → AreRows tracks shapes first rows new
AreRows-flags {shapes} {first} {rows} new size are = record {
  ascending = are.ascending;
  few_tracks = are.few_tracks;
  some_state = let s = are.some_state in omega (arith, size, s);
  few_states = let s = are.few_states in omega (arith, size, s);
  rows_size = are.rows_size ∙ sym size;
  first_known = are.first_known;
  first_narrow = are.first_narrow;
  first_within = subst (λ n. (letter : ℕ) → map_at shapes first letter < n) (sym size) are.first_within;
  rows_known = are.rows_known;
  rows_narrow = are.rows_narrow;
  rows_within = subst (λ n. All (λ node. (letter : ℕ) → map_at shapes node letter < n) rows) (sym size) are.rows_within;
}
