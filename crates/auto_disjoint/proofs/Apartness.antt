-- Where all nodes that are met are settled, no word is accepted by both.
use Rattle.std.proofs.Common.{◌≡◌, ◌⊎◌, ℕ, zero, suc, ◌<◌, ◌+◌, ◌^◌, nat_eq, Bool, true, false, true≢false, IsTrue, ◌&&◌, Option, Some, None, List, [], ◌∷◌, length, map, arith, refl, sym, ap, ◌∙◌, subst, inl, inr}
use Rattle.std.specs.List.{All}
use Rattle.std.proofs.lemmas.Grind.{common_steps}
use Rattle.std.proofs.lemmas.List.Elements.{All-head, All-tail}
use Rattle.track_word.specs.declared.tracks.Var.{Var}
use Rattle.track_word.specs.Word.{IsWord}
use Rattle.track_word.specs.Tracks.{restrict, part_of}
use Rattle.diagram_product.specs.declared.absorbing.Absorbing.{Absorbing}
use Rattle.diagram_product.specs.Absorbed.{absorbs, absorbed}
use Rattle.diagram_product.proofs.Absorptions.{absorbed-neither}
use Rattle.auto_core.specs.Automaton.{Automaton, run, is_final, Accepts}
use Rattle.auto_core.proofs.Restricted.{restrict-below}
use Rattle.auto_bool.specs.Absorbed.{IsSink}
use Rattle.auto_bool.proofs.AbsorbedPairs.{absorbs-is}
use Rattle.auto_disjoint.specs.declared.meeting.Meeting.{Meeting}
use Rattle.auto_disjoint.specs.Apart.{AreApart}
use Rattle.auto_disjoint.specs.Met.{IsMetIn}
use Rattle.auto_disjoint.specs.Meetings.{states_at, AreFirstNodes, AreStatesSettled, AreSettled}

-- a pair stands for itself, unless one of its values is absorbing
absorbed-cases : (g : Absorbing) (x y : ℕ) → (absorbed g x y ≡ (x, y)) ⊎ ((g.left ≡ Some x) ⊎ (g.right ≡ Some y))
absorbed-cases g x y = by (absorbs g.left x) (absorbs g.right y) refl refl
  where
    by : (b c : Bool) → absorbs g.left x ≡ b → absorbs g.right y ≡ c → (absorbed g x y ≡ (x, y)) ⊎ ((g.left ≡ Some x) ⊎ (g.right ≡ Some y))
    by true c e f = inr (inl (absorbs-is g.left x e))
    by false true e f = inr (inr (absorbs-is g.right y f))
    by false false e f = inl (absorbed-neither g x y e f)

-- a state that rejects for good is not left
sink_run : (tracks : List Var) (a : Automaton) (state : ℕ) → IsSink a false state → (letters : List ℕ) → run a state (map (restrict tracks a.tracks) letters) ≡ state
sink_run tracks a state sink [] = refl
sink_run tracks a state sink (letter ∷ letters) =
    ap (λ s. run a s (map (restrict tracks a.tracks) letters)) (sink.stays (restrict tracks a.tracks letter) (restrict-below tracks a.tracks letter)) ∙ sink_run tracks a state sink letters

sink_rejects : (tracks : List Var) (a : Automaton) (state : ℕ) → IsSink a false state → (letters : List ℕ) → IsTrue (is_final a (run a state (map (restrict tracks a.tracks) letters))) → ⊥
sink_rejects tracks a state sink letters accepted = true≢false (sym accepted ∙ ap (is_final a) (sink_run tracks a state sink letters) ∙ sink.accepts)

not_both : (p q : Bool) → (p && q) ≡ false → IsTrue p → IsTrue q → ⊥
not_both true q h p_true q_true = true≢false (sym q_true ∙ h)
not_both false q h p_true q_true = true≢false (sym p_true)

module _ (m : Meeting) (seen : List (ℕ × ℕ)) (settled : (nodes : ℕ × ℕ) → IsMetIn seen nodes → AreSettled m seen nodes) where
  -- the states to which nodes that are met lead a letter, by smaller and smaller nodes
  settled_within : (bound : ℕ) (nodes : ℕ × ℕ) → nodes.0 + nodes.1 < bound → IsMetIn seen nodes → (letter : ℕ) → AreStatesSettled m seen (states_at m nodes letter)
  settled_within zero nodes less there letter = absurd (omega (arith, less))
  settled_within (suc bound) nodes less there letter = elim (settled nodes there letter) [
    | inl states ↦ states
    | inr has ↦
        let smaller = has.less in
        subst (AreStatesSettled m seen) has.same (settled_within bound has.smaller (omega (arith, less, smaller)) has.there letter)
  ]

  settled_at : (nodes : ℕ × ℕ) → IsMetIn seen nodes → (letter : ℕ) → AreStatesSettled m seen (states_at m nodes letter)
  settled_at nodes there letter = settled_within (suc (nodes.0 + nodes.1)) nodes (omega arith) there letter

  rejects_on : (letters : List ℕ) (p q : ℕ) → (m.absorbing.left ≡ Some p) ⊎ (m.absorbing.right ≡ Some q)
      → IsTrue (is_final m.left.now (run m.left.now p (map (restrict m.tracks.items m.left.now.tracks) letters)))
      → IsTrue (is_final m.right.now (run m.right.now q (map (restrict m.tracks.items m.right.now.tracks) letters))) → ⊥
  rejects_on letters p q (inl e) left right = sink_rejects m.tracks.items m.left.now p (m.deciding_states.left p e) letters left
  rejects_on letters p q (inr e) left right = sink_rejects m.tracks.items m.right.now q (m.deciding_states.right q e) letters right

  -- from settled states no further letters lead to states that both accept
  not_accepted : (letters : List ℕ) → All (λ letter. letter < 2 ^ length m.tracks.items) letters → (p q : ℕ) → AreStatesSettled m seen (absorbed m.absorbing p q)
      → IsTrue (is_final m.left.now (run m.left.now p (map (restrict m.tracks.items m.left.now.tracks) letters)))
      → IsTrue (is_final m.right.now (run m.right.now q (map (restrict m.tracks.items m.right.now.tracks) letters))) → ⊥
  not_accepted [] small p q states left right = elim (absorbed-cases m.absorbing p q) [
    | inl same ↦ elim (subst (AreStatesSettled m seen) same states) [
      | inl rejects ↦ rejects_on [] p q rejects left right
      | inr on ↦ not_both (is_final m.left.now p) (is_final m.right.now q) on.rejected left right
    ]
    | inr rejects ↦ rejects_on [] p q rejects left right
  ]
  not_accepted (letter ∷ letters) small p q states left right = elim (absorbed-cases m.absorbing p q) [
    | inl same ↦ elim (subst (AreStatesSettled m seen) same states) [
      | inl rejects ↦ rejects_on (letter ∷ letters) p q rejects left right
      | inr on ↦
          let below = All-head (λ l. l < 2 ^ length m.tracks.items) letter letters small in
          not_accepted letters (All-tail (λ l. l < 2 ^ length m.tracks.items) letter letters small) _ _
          (subst (AreStatesSettled m seen) (on.rows.leads letter below) (settled_at on.nodes on.there letter)) left right
    ]
    | inr rejects ↦ rejects_on (letter ∷ letters) p q rejects left right
  ]

  apart_over : (first : ℕ × ℕ) → IsMetIn seen first → AreFirstNodes m first → (word : List ℕ) → IsWord (length m.tracks.items) word
      → Accepts m.left.now (part_of m.tracks.items m.left.now.tracks word) → Accepts m.right.now (part_of m.tracks.items m.right.now.tracks word) → ⊥
  apart_over first there are [] is left right = is.nonempty refl
  apart_over first there are (sign ∷ letters) is left right =
      let below = All-head (λ l. l < 2 ^ length m.tracks.items) sign letters is.letters in
      not_accepted letters (All-tail (λ l. l < 2 ^ length m.tracks.items) sign letters is.letters) _ _
      (subst (AreStatesSettled m seen) (are.leads sign below) (settled_at first there sign)) left right

  pub AreApart-settled : (first : ℕ × ℕ) → IsMetIn seen first → AreFirstNodes m first → AreApart m.left.now m.right.now
  AreApart-settled first there are =
      subst (λ (t : List Var). (word : List ℕ) → IsWord (length t) word
      → Accepts m.left.now (part_of t m.left.now.tracks word) × Accepts m.right.now (part_of t m.right.now.tracks word) → ⊥) m.tracks_are
      (λ word is both. apart_over first there are word is both.0 both.1)
