-- Whether one set has each tuple of another, told by what is left of the other.
use Rattle.std.proofs.Common.{◌≡◌, ◌⊎◌, ℕ, List, Bool, true, false, Option, Some, None, IfSome, inl, inr, ℤ, sym, ap, ◌∙◌, subst}
use Rattle.std.specs.Borrow.{Bor}
use Rattle.std.specs.Bool.{OnFalse, OnTrue}
use Rattle.track_word.specs.declared.tracks.Var.{Var}
use Rattle.track_word.specs.Tracks.{IsAscending, values_at, with_vars, word_values}
use Rattle.auto_core.specs.Automaton.{Automaton}
use Rattle.lin_formula.specs.Tree.{Among, Or, free_vars}
use Rattle.lin_formula.specs.SetOf.{IsEmpty, Member, Nothing, SetOf, Table}
use Rattle.set_plan.specs.Program.{Program, Give, Ask, Within}
use Rattle.set_plan.specs.Outcome.{Ends}
use Rattle.set_plan.specs.Sets.{IsSetOn, lent}
use Rattle.set_plan.specs.Unite.{is_within, difference_set}
use Rattle.set_plan.proofs.BothSets.{with_vars-self}
use Rattle.set_plan.proofs.Composition.{Ends-ask_no, Ends-ask_yes, Ends-bind, Ends-give}
use Rattle.set_plan.proofs.Decided.{with_vars-ascending}
use Rattle.set_plan.proofs.Tables.{table_decided}
use Rattle.set_plan.proofs.Takings.{IsOver, difference_set-members}

free : (tracks : List Var) → IsAscending tracks → free_vars (Or (Among 0 tracks) (Among 1 tracks)) ≡ tracks
free tracks ascending =
    let one = with_vars-ascending tracks ascending in
    ap (λ xs. with_vars xs (free_vars (Among 1 tracks))) one ∙ (ap (with_vars tracks) one ∙ with_vars-self tracks ascending)

module _ {P : Type 0} (tracks : List Var) (part : P) (budget : ℕ) where
  abbrev asked : SetOf → SetOf → SetOf → Program P Bool
  asked s t rest = Ask (Within s t) (Give true) (Give false)

  ends-yes : (s t : SetOf) {rest : SetOf} → Ends (difference_set tracks part s t) budget rest → ((tuple : List ℤ) → Member s tuple → Member t tuple) → Ends (is_within tracks part s t) budget true
  ends-yes s t {rest} ends within =
      Ends-bind (difference_set tracks part s t) (asked s t) budget rest true ends (Ends-ask_yes (Within s t) (Give true) (Give false) budget within (Ends-give budget true))

  ends-no : (s t : SetOf) {rest : SetOf}
      → Ends (difference_set tracks part s t) budget rest → (((tuple : List ℤ) → Member s tuple → Member t tuple) → ⊥)
      → Ends (is_within tracks part s t) budget false
  ends-no s t {rest} ends off =
      Ends-bind (difference_set tracks part s t) (asked s t) budget rest false ends (Ends-ask_no (Within s t) (Give true) (Give false) budget false off (Ends-give budget false))

  pub within-nothing : (t : SetOf) {rest : SetOf} → Ends (difference_set tracks part Nothing t) budget rest → Ends (is_within tracks part Nothing t) budget true
  within-nothing t ends = ends-yes Nothing t ends (λ tuple h. absurd h)

  module _ (a : Automaton) (on : IsSetOn tracks a) (ascending : IsAscending a.tracks) where
    ordered : IsAscending tracks
    ordered = subst IsAscending on.decides.tracks_are ascending

    over : IsOver tracks (Table a)
    over tuple h = (word_values a.tracks h.word, ap (λ vars. values_at vars (word_values a.tracks h.word)) (sym on.decides.tracks_are) ∙ h.values)

    known : (t : Option (Bor Automaton)) → IfSome t (λ b. IsSetOn tracks b.now) → (tuple : List ℤ) → Member (lent t) tuple ⊎ (Member (lent t) tuple → ⊥)
    known None is tuple = inr (λ h. h)
    known (Some b) is tuple = table_decided b.now (subst IsAscending (sym is.decides.tracks_are) ordered) is.decides.integers tuple

    within-empty : (t : Option (Bor Automaton)) {rest : SetOf} → IfSome t (λ b. IsSetOn tracks b.now)
        → Ends (difference_set tracks part (Table a) (lent t)) budget rest → IsEmpty rest → Ends (is_within tracks part (Table a) (lent t)) budget true
    within-empty t {rest} is ends empty =
        ends-yes (Table a) (lent t) ends
        (λ tuple h. elim (known t is tuple) [
          | inl there ↦ there
          | inr off ↦ absurd (empty tuple ((difference_set-members tracks part (free tracks ordered) (Table a) (lent t) ends.entries rest over ends.takes tuple).1 (h, off)))
        ])

    within-some : (t : Option (Bor Automaton)) {rest : SetOf} → Ends (difference_set tracks part (Table a) (lent t)) budget rest → (IsEmpty rest → ⊥)
        → Ends (is_within tracks part (Table a) (lent t)) budget false
    within-some t {rest} ends some =
        ends-no (Table a) (lent t) ends
        (λ within. some (λ tuple h.
        let (there, off) = (difference_set-members tracks part (free tracks ordered) (Table a) (lent t) ends.entries rest over ends.takes tuple).0 h in
        off (within tuple there)))

    -- as it is told whether nothing is left
    pub within-told : (t : Option (Bor Automaton)) (rest : SetOf) (b : Bool) → IfSome t (λ b. IsSetOn tracks b.now)
        → Ends (difference_set tracks part (Table a) (lent t)) budget rest → OnTrue b (IsEmpty rest) → OnFalse b (¬ IsEmpty rest)
        → Ends (is_within tracks part (Table a) (lent t)) budget b
    within-told t rest true is ends empty some = within-empty t is ends empty
    within-told t rest false is ends empty some = within-some t ends some
