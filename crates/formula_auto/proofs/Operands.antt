-- Steps whose automaton is that of one of their parts.
use Rattle.std.proofs.Common.{◌≡◌, ℕ, ◌+◌, ◌≤◌, ◌⊎◌, length, Some, false, refl, sym, ◌∙◌, subst}
use Rattle.std.specs.List.{slice_get}
use Rattle.auto_core.specs.Automaton.{Automaton}
use Rattle.auto_core.specs.Reduced.{AllReached}
use Rattle.track_word.specs.Tracks.{with_vars}
use Rattle.auto_bool.specs.declared.operand.Operand.{Operand}
use Rattle.auto_bool.specs.declared.operand.Operand.TheVariants.{Left, Right}
use Rattle.auto_bool.specs.Words.{AcceptsBy, StepExceeds}
use Rattle.auto_bool.specs.Operands.{operand_of, IsAtHand, IsOperand, IsProductWithin, IsNothingLeft}
use Rattle.lin_formula.specs.SetOf.{SetOf, members}
use Rattle.lin_formula.specs.TreeOf.{tree_of}
use Rattle.formula_auto.specs.Connected.{connected}
use Rattle.formula_auto.specs.Nodes.{IsStepWithin, DecidesBoth}
use Rattle.formula_auto.specs.MeetState.{MeetState, MeetsGrow}
use Rattle.formula_auto.specs.MemoState.{MemoState}
use Rattle.formula_auto.specs.Recalled.{is_recalled, MayBeOneStep}
use Rattle.formula_auto.specs.PartOf.{IsPart, IsSamePlace, IsRememberedPart}
use Rattle.formula_auto.specs.Shortcuts.{Serves, with_itself, IsShortcutOf, IsSeen}
use Rattle.formula_auto.specs.Joints.{joint_part, Joins, IsJointOf}
use Rattle.formula_auto.specs.declared.joint.Joint.{Joint}
use Rattle.formula_auto.specs.declared.joint.Joint.TheVariants as joint
use Rattle.formula_auto.specs.Compiled.{IsAccessible}
use Rattle.auto_bool.specs.declared.connective.Connective.{Connective}
use Rattle.auto_bool.specs.declared.connective.Connective.TheVariants.{And, Or, AndNot}
use Rattle.formula_auto.specs.declared.pair.FormulaPair.{FormulaPair}
use Rattle.formula_auto.specs.declared.standing.PartPosition.{PartPosition}
use Rattle.formula_auto.specs.declared.part_auto.PartAuto.{PartAuto}
use Rattle.formula_auto.specs.declared.part_auto.PartAuto.TheVariants.{Fresh, Kept, Paired, Named, Shared}
use Rattle.formula_auto.specs.declared.part_auto.Remembered.{Remembered}
use Rattle.formula_auto.specs.declared.shortcut.Shortcut.{Shortcut}
use Rattle.formula_auto.specs.declared.shortcut.Shortcut.TheVariants as shortcut
use Rattle.formula_auto.proofs.Parts.{Decides-And, Decides-Or, Decides-AndNot}
use Rattle.formula_auto.proofs.PartLemmas.{one_automaton, part-after, same_few}
use Rattle.formula_auto.proofs.WithMemo.{remembered_both}

-- a product serves as the step
pub decides-by : (connective : Connective) {a b m : Automaton} → m.tracks ≡ with_vars a.tracks b.tracks → AcceptsBy connective a b m → DecidesBoth connective a b m
decides-by And {a} {b} {m} tracks words = λ f g e left right. Decides-And (members e) f g a b m left right tracks words
decides-by Or {a} {b} {m} tracks words = λ f g e left right. Decides-Or (members e) f g a b m left right tracks words
decides-by AndNot {a} {b} {m} tracks words = λ f g e left right. Decides-AndNot (members e) f g a b m left right tracks words

step-product : (connective : Connective) {a b m : Automaton} {budget : ℕ} → IsProductWithin a b connective budget m → IsStepWithin connective a b budget m
step-product connective made = record { decides = decides-by connective made.tracks made.words; few = made.few; within = made.within }

-- at one place stands one automaton
part-same_place : (m : MemoState) (l : MeetState) (left right : PartAuto) (b : Automaton) → IsSamePlace left right → IsPart m l right b → IsPart m l left b
part-same_place m l (Fresh a) (Fresh c) b same has = absurd same
part-same_place m l (Fresh a) (Kept place) b same has = absurd same
part-same_place m l (Fresh a) (Paired place) b same has = absurd same
part-same_place m l (Fresh a) (Named set) b same has = absurd same
part-same_place m l (Fresh a) (Shared auto) b same has = absurd same
part-same_place m l (Kept place) (Fresh c) b same has = absurd same
part-same_place m l (Kept place) (Kept other) b same has = (has.0, subst (λ n. slice_get m.entries n ≡ Some (has.0, b)) (sym same) has.1)
part-same_place m l (Kept place) (Paired other) b same has = absurd same
part-same_place m l (Kept place) (Named set) b same has = absurd same
part-same_place m l (Kept place) (Shared auto) b same has = absurd same
part-same_place m l (Paired place) (Fresh c) b same has = absurd same
part-same_place m l (Paired place) (Kept other) b same has = absurd same
part-same_place m l (Paired place) (Paired other) b same has = (has.0, subst (λ n. slice_get l.pairs n ≡ Some (has.0, b)) (sym same) has.1)
part-same_place m l (Paired place) (Named set) b same has = absurd same
part-same_place m l (Paired place) (Shared auto) b same has = absurd same
part-same_place m l (Named set) (Fresh c) b same has = absurd same
part-same_place m l (Named set) (Kept other) b same has = absurd same
part-same_place m l (Named set) (Paired other) b same has = absurd same
part-same_place m l (Named set) (Named other) b same has = subst (λ n. slice_get l.sets n ≡ Some b) (sym same) has
part-same_place m l (Named set) (Shared auto) b same has = absurd same
part-same_place m l (Shared auto) right b same has = absurd same

-- so that what serves an automaton and itself serves both parts there
serves-itself : (connective : Connective) (a : Automaton) (budget : ℕ) → IsProductWithin a a And budget a → IsProductWithin a a Or budget a
    → IsNothingLeft a budget → Serves connective a a budget (with_itself connective)
serves-itself And a budget both either neither = step-product And both
serves-itself Or a budget both either neither = step-product Or either
serves-itself AndNot a budget both either neither = λ n none. step-product AndNot (neither n none)

module _ (connective : Connective) (m : MemoState) (l : MeetState) (left right : PartAuto) (a b : Automaton) (has_left : IsPart m l left a) (has_right : IsPart m l right b) where
  shortcut-serves : (shortcut : Shortcut) → Serves connective a b m.budget shortcut → IsShortcutOf connective m l left right shortcut
  shortcut-serves shortcut serves = λ p q is_p is_q.
      let first = one_automaton m l left a p has_left is_p in
      let second = one_automaton m l right b q has_right is_q in
      subst (λ y. Serves connective p y m.budget shortcut) second (subst (λ x. Serves connective x b m.budget shortcut) first serves)

  pub shortcut-itself : IsSamePlace left right → IsProductWithin a a And m.budget a → IsProductWithin a a Or m.budget a
      → IsNothingLeft a m.budget → IsShortcutOf connective m l left right (with_itself connective)
  shortcut-itself same both either neither =
      let one = one_automaton m l left a b has_left (part-same_place m l left right b same has_right) in
      shortcut-serves (with_itself connective) (subst (λ x. Serves connective a x m.budget (with_itself connective)) one (serves-itself connective a m.budget both either neither))

  pub shortcut-operand : (operand : Operand) → IsOperand a b connective m.budget operand → IsShortcutOf connective m l left right (shortcut.Operand operand)
  shortcut-operand operand is = shortcut-serves (shortcut.Operand operand) (step-product connective is)

  -- where it is seen, one of the two ways finds it
  pub seen-way : IsSeen connective m l left right
      → (IsSamePlace left right × (length a.accept ≤ m.budget)) ⊎ ((operand : Operand) × IsAtHand a b connective m.budget operand)
  seen-way is =
      let first = one_automaton m l left is.first a is.has_first has_left in
      let second = one_automaton m l right is.second b is.has_second has_right in
      subst (λ y. (IsSamePlace left right × (length a.accept ≤ m.budget)) ⊎ ((operand : Operand) × IsAtHand a y connective m.budget operand)) second
      (subst (λ x. (IsSamePlace left right × (length x.accept ≤ m.budget)) ⊎ ((operand : Operand) × IsAtHand x is.second connective m.budget operand)) first is.seen)

has-operand : (operand : Operand) (m : MemoState) (l : MeetState) (left right : PartAuto) (a b : Automaton) → IsPart m l left a → IsPart m l right b
    → IsPart m l (operand_of operand left right) (operand_of operand a b)
has-operand Left m l left right a b has_left has_right = has_left
has-operand Right m l left right a b has_left has_right = has_right

reached-operand : (operand : Operand) (a b : Automaton) → AllReached a → AllReached b → AllReached (operand_of operand a b)
reached-operand Left a b left right = left
reached-operand Right a b left right = right

-- the part has an automaton that serves as the step on two others, to each state of which words lead
pub record IsJoined (connective : Connective) (a b : Automaton) (m : MemoState) (l : MeetState) (part : PartAuto) : Type 0 where
  pub auto : Automaton
  pub has : IsPart m l part auto
  pub reached : AllReached auto
  pub step : IsStepWithin connective a b m.budget auto

module _ (connective : Connective) (m : MemoState) (l : MeetState) (left right : PartAuto) (a b : Automaton) (has_left : IsPart m l left a) (has_right : IsPart m l right b)
    (a_reached : AllReached a) (b_reached : AllReached b) where
  -- what two parts make, put together
  pub joint-auto : (joint : Joint) → IsJointOf connective m l left right joint → IsJoined connective a b m l (joint_part joint left right)
  joint-auto (joint.Operand operand) is = record {
    auto = operand_of operand a b;
    has = has-operand operand m l left right a b has_left has_right;
    reached = reached-operand operand a b a_reached b_reached;
    step = is a b has_left has_right;
  }
  joint-auto (joint.Made c) is =
      let made = is a b has_left has_right in
      record { auto = c; has = refl; reached = made.1; step = made.0 }

-- a part whose automaton serves is what the step makes
module _ (pair : FormulaPair) {e : ℕ → SetOf} {standing : PartPosition} {m0 m1 m2 : MemoState} {l k : MeetState} {left right : Remembered}
    (outside : is_recalled standing.recall (connected pair) ≡ false) (one : MayBeOneStep standing.recall pair.connective (tree_of pair.right.now))
    (first : IsRememberedPart (tree_of pair.left.now) e standing m0 m1 l left)
    (second : IsRememberedPart (tree_of pair.right.now) e (record standing { before = left.done }) m1 m2 k right) where
  part-made : (c : Automaton) (part : PartAuto) → IsPart m2 k part c → AllReached c → IsStepWithin pair.connective first.auto second.auto m2.budget c
      → IsRememberedPart (connected pair) e standing m0 m2 k (record { part = part; done = right.done + 1 })
  part-made c part has reached made = record {
    auto = c;
    has = has;
    reached = reached;
    few = λ some. same_few c (second.remembered.after.budget ∙ first.remembered.after.budget) made.few;
    remembered = remembered_both pair outside one first.remembered second.remembered made.decides made.within;
  }

  -- where it is one of the two, that one's automaton is not made again
  pub part-joint : (joint : Joint) → MeetsGrow l k → IsJointOf pair.connective m2 k left.part right.part joint
      → IsRememberedPart (connected pair) e standing m0 m2 k (record { part = joint_part joint left.part right.part; done = right.done + 1 })
  part-joint joint grows is =
      let still = part-after left.part first.auto first.has second.remembered.after grows in
      let made = joint-auto pair.connective m2 k left.part right.part first.auto second.auto still second.has first.reached second.reached joint is in
      part-made made.auto (joint_part joint left.part right.part) made.has made.reached made.step

-- what two parts make by their automata
module _ (connective : Connective) (m : MemoState) (l : MeetState) (left right : PartAuto) (a b : Automaton) (has_left : IsPart m l left a) (has_right : IsPart m l right b) where
  pub by_theirs : (P : Automaton → Automaton → Type 0) → P a b → (x y : Automaton) → IsPart m l left x → IsPart m l right y → P x y
  by_theirs P here x y is_x is_y =
      subst (λ z. P x z) (one_automaton m l right b y has_right is_y) (subst (λ z. P z b) (one_automaton m l left a x has_left is_x) here)

  pub joint-made : {c : Automaton} → DecidesBoth connective a b c → IsAccessible m.budget c → (StepExceeds a b m.budget → ⊥) → IsJointOf connective m l left right (joint.Made c)
  joint-made {c} decides accessible within =
      by_theirs (λ x y. Joins connective x y m.budget (joint.Made c))
      (record { decides = decides; few = accessible.few; within = within }, accessible.reached)
