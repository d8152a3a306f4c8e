-- States that lead to themselves by each letter, and the nodes of their rows.
use Rattle.std.proofs.Common.{◌≡◌, ℕ, ◌<◌, ◌%◌, ◌^◌, Bool, length, Option, Some, None, arith, sym, ◌∙◌, subst}
use Rattle.std.proofs.lemmas.Nat.{pow_pos, mod_below}
use Rattle.std.proofs.lemmas.Option.{same_Some}
use Rattle.letter_diagram.specs.declared.diagrams.Shape.TheVariants.{Test}
use Rattle.letter_diagram.specs.Diagram.{map_at, LooksBelow, IsDiagram, IsTest, HasChildren}
use Rattle.letter_diagram.proofs.Canonical.{node-from_map}
use Rattle.auto_core.specs.Automaton.{Automaton, width, next_state}
use Rattle.auto_walk.proofs.WalkWords.{map_at-low}
use Rattle.auto_bool.specs.Absorbed.{IsSink, IsFirstSink}

module _ {a : Automaton} {flag : Bool} {state node : ℕ} (is : IsSink a flag state) (leads : (letter : ℕ) → letter < width a → map_at a.shapes node letter ≡ next_state a state letter) where
  -- the row of such a state leads each letter to it
  row_stays : LooksBelow a.shapes node (length a.tracks) → (letter : ℕ) → map_at a.shapes node letter ≡ state
  row_stays narrow letter =
      let below = mod_below letter (2 ^ length a.tracks) (pow_pos (length a.tracks)) in
      map_at-low letter narrow ∙ leads (letter % 2 ^ length a.tracks) below ∙ is.stays (letter % 2 ^ length a.tracks) below

  -- so the node of the row is no test
  pub not_test : LooksBelow a.shapes node (length a.tracks) → IsDiagram a.shapes → (track low high : ℕ) → node < length a.shapes → IsTest a.shapes node track low high
      → HasChildren a.shapes node (Test track low high) → ⊥
  not_test narrow diagram track low high known fits children =
      let low_before = fits.low_before in
      let high_before = fits.high_before in
      let stays = row_stays narrow in
      fits.differ (node-from_map a.shapes diagram low high (omega (arith, low_before, known)) (omega (arith, high_before, known)) (λ letter.
      let l = (children letter).0 in
      let h = (children letter).1 in
      sym l.1 ∙ stays l.0 ∙ sym (stays h.0) ∙ h.1))

-- the first of such states is one of them
pub IsSink-first : {a : Automaton} {flag : Bool} {first : Option ℕ} → IsFirstSink a flag first → (state : ℕ) → first ≡ Some state → IsSink a flag state
IsSink-first {a} {flag} {first = None} none state e = absurd (let no : None ≡ Some state → ⊥ = λ f. cc in no e)
IsSink-first {a} {flag} {first = Some first} is state e = subst (λ s. IsSink a flag s) (same_Some _ _ e) is.0
