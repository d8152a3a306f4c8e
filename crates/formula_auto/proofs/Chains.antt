-- And of a formula and of short formulas, one after another, before it is made.
use Rattle.std.proofs.Common.{◌≡◌, ℕ, zero, suc, ◌+◌, ◌*◌, ◌<◌, ◌≤◌, [], ◌++◌, List, length, refl, sym, ap, ◌∙◌, subst, inr, arith}
use Rattle.std.proofs.Math.Nat.{mul_assoc}
use Rattle.limits.specs.declared.numbers.TheConstants.{MOST_TRACKS}
use Rattle.track_word.specs.declared.tracks.Var.{Var}
use Rattle.track_word.specs.Tracks.{with_vars}
use Rattle.auto_core.specs.Automaton.{Automaton, IsAutomaton}
use Rattle.auto_core.specs.Reduced.{AllReached}
use Rattle.auto_bool.specs.Words.{StepExceeds}
use Rattle.auto_bool.specs.declared.connective.Connective.TheVariants.{And}
use Rattle.auto_bool.proofs.Spreads.{few_pairs}
use Rattle.auto_walk.specs.declared.grown.Grown.{Grown}
use Rattle.auto_walk.specs.declared.grown.Grown.TheVariants as grown
use Rattle.lin_formula.specs.Tree as tree
use Rattle.lin_formula.specs.Tree.{Tree, HasStep, free_vars, symbols, steps}
use Rattle.lin_formula.specs.TreeOf.{tree_of}
use Rattle.lin_formula.specs.SetOf.{SetOf, members}
use Rattle.lin_formula.specs.Free.{IsOneOf}
use Rattle.lin_formula.proofs.FreeVars.{one_of-with_vars}
use Rattle.lin_formula.specs.declared.formula.Formula.{Formula}
use Rattle.formula_auto.specs.Compiled.{IsMade}
use Rattle.formula_auto.specs.Decides.{Decides}
use Rattle.formula_auto.specs.Nodes.{IsStepWithin}
use Rattle.formula_auto.specs.Saying.{SaysTheSame}
use Rattle.formula_auto.specs.Step.{Exceeds}
use Rattle.formula_auto.specs.StepError.{step_error}
use Rattle.formula_auto.specs.MemoState.{MemoState, IsMemo, IsMemoAfter}
use Rattle.formula_auto.specs.MeetState.{MeetState, MeetsGrow}
use Rattle.formula_auto.specs.Joints.{joint_part, IsJointOf, FitTogether, TogetherExceed}
use Rattle.formula_auto.specs.Short.{IsShort, IsShortPart}
use Rattle.formula_auto.specs.Chains.{IsPartOf, IsPending, IsLink, FitsAfter, IsPutTo, IsMadeLink, IsNextLink, IsStepStopped, HasStates, HasRoom}
use Rattle.formula_auto.specs.declared.chain.Pending.{Pending}
use Rattle.formula_auto.specs.declared.chain.ShortPart.{ShortPart}
use Rattle.formula_auto.specs.declared.chain.Link.{Link}
use Rattle.formula_auto.specs.declared.chain.Link.TheVariants.{Made, Waiting}
use Rattle.formula_auto.specs.declared.errors.CompileError.{CompileError}
use Rattle.formula_auto.specs.declared.errors.CompileError.TheVariants.{Memory}
use Rattle.formula_auto.specs.declared.joint.Joint.{Joint}
use Rattle.formula_auto.specs.declared.joint.Joint.TheVariants as joint
use Rattle.formula_auto.specs.declared.part_auto.PartAuto.{PartAuto}
use Rattle.formula_auto.specs.declared.part_auto.PartAuto.TheVariants.{Fresh}
use Rattle.formula_auto.specs.declared.part_auto.Remembered.{Remembered}
use Rattle.formula_auto.proofs.Compiles.{made_two}
use Rattle.formula_auto.proofs.Exceedings.{Exceeds-connect}
use Rattle.formula_auto.proofs.FirstOvers.{FirstOver-from}
use Rattle.formula_auto.proofs.Operands.{joint-auto, by_theirs}
use Rattle.formula_auto.proofs.PairAutomata.{pairs, pairs-size, pairs-valid, pairs-decide}
use Rattle.formula_auto.proofs.PartLemmas.{part-after}
use Rattle.formula_auto.proofs.Projections.{apart-free}
use Rattle.formula_auto.proofs.Rooms.{length-among}
use Rattle.formula_auto.proofs.Sayings.{decides-says, and-from_right, and-says, says-again, says-itself}

-- an automaton with so many states that decides a formula
pub record IsDecided (f : Tree) (e : ℕ → SetOf) (states : ℕ) : Type 0 where
  pub auto : Automaton
  pub valid : IsAutomaton auto
  pub size : length auto.accept ≡ states
  pub decides : Decides auto f (members e)

-- And with another formula is no step past the budget, where the budget has room for all pairs of states
decided-within : {f g : Tree} {e : ℕ → SetOf} {states budget : ℕ} {d : Automaton} → IsDecided f e states → IsAutomaton d → Decides d g (members e)
    → states * length d.accept ≤ budget → Exceeds (tree.And f g) (members e) budget → ⊥
decided-within {f} {g} {e} {states} {budget} {d} whole valid decides room over =
    few_pairs whole.auto d whole.valid valid budget (subst (λ n. n * length d.accept ≤ budget) (sym whole.size) room)
    ((Exceeds-connect (members e) f g whole.auto d budget whole.decides decides And).1 over)

module _ {g : Tree} {m : MemoState} {l : MeetState} {part : PartAuto} (short : IsShortPart m l g part) where
  pub short-decides : (e : ℕ → SetOf) → Decides short.auto g (members e)
  short-decides e = (short.short.compiled e).made.decides

abbrev rest_of : Pending → Tree
rest_of pending = tree_of pending.rest.formula

module _ {f : Tree} {e : ℕ → SetOf} {m : MemoState} {l : MeetState} {pending : Pending} (is : IsPending f e m l pending) where
  rest-decides : Decides is.rest.auto (rest_of pending) (members e)
  rest-decides = short-decides is.rest e

  rest-reached : AllReached is.rest.auto
  rest-reached = (is.rest.short.compiled e).reached

  all_tracks : with_vars is.base.auto.tracks is.rest.auto.tracks ≡ free_vars f
  all_tracks = (λ i. with_vars (is.base.decides.tracks i) (rest-decides.tracks i)) ∙ sym is.same.vars

  fit : length (with_vars is.base.auto.tracks is.rest.auto.tracks) ≤ MOST_TRACKS
  fit = subst (λ t. length t ≤ MOST_TRACKS) (sym all_tracks) is.few_vars

  pub pending-fits : FitTogether m l pending.base pending.rest.part
  pending-fits =
      by_theirs And m l pending.base pending.rest.part is.base.auto is.rest.auto is.base.has is.rest.has
      (λ a b. length (with_vars a.tracks b.tracks) ≤ MOST_TRACKS) fit

  -- what is made of it is within the budget
  pub pending-within : TogetherExceed m l pending.base pending.rest.part → ⊥
  pending-within over =
      few_pairs is.base.auto is.rest.auto is.base_valid is.rest_valid m.budget is.room (over is.base.auto is.rest.auto is.base.has is.rest.has)

  pub pending-made : (joint : Joint) → IsJointOf And m l pending.base pending.rest.part joint → IsPartOf f e m l (joint_part joint pending.base pending.rest.part)
  pending-made joint h =
      let made = joint-auto And m l pending.base pending.rest.part is.base.auto is.rest.auto is.base.has is.rest.has is.base.reached rest-reached joint h in
      record {
        auto = made.auto;
        has = made.has;
        reached = made.reached;
        few = λ some. made.step.few;
        decides = decides-says e is.same (made.step.decides is.left (rest_of pending) e is.base.decides rest-decides);
      }

  -- the automaton of all pairs decides the formula
  pub pending-decided : IsMemo m → IsDecided f e (length is.base.auto.accept * length is.rest.auto.accept)
  pending-decided memo = record {
    auto = pairs is.base.auto is.rest.auto is.base_valid is.rest_valid;
    valid = pairs-valid is.base.auto is.rest.auto is.base_valid is.rest_valid (omega (arith, is.room, memo.most)) fit;
    size = pairs-size is.base.auto is.rest.auto is.base_valid is.rest_valid;
    decides = decides-says e is.same (pairs-decide is.base.auto is.rest.auto is.base_valid is.rest_valid is.left (rest_of pending) e is.base.decides rest-decides);
  }

put_off : {f g : Tree} {e : ℕ → SetOf} {m : MemoState} {l : MeetState} {pending : Pending} → IsPending (tree.And f g) e m l pending → IsMemo m
    → (Exceeds (tree.And f g) (members e) m.budget → ⊥) → IsPutTo f g e m l (Waiting pending)
put_off is memo within =
    let whole = pending-decided is memo in
    record { is = is; auto = whole.auto; decides = whole.decides; within = within }

module _ {f : Tree} {e : ℕ → SetOf} {m : MemoState} {l : MeetState} {pending : Pending} (is : IsPending f e m l pending) where
  module _ {g : Tree} {part : PartAuto} (next : IsShortPart m l g part) (fits : FitsAfter f g) where
    next-decides : Decides next.auto g (members e)
    next-decides = short-decides next e

    says-longer : SaysTheSame (tree.And f g) (tree.And is.left (tree.And (rest_of pending) g))
    says-longer = says-again (and-says g is.same) (and-from_right is.left (rest_of pending) g)

    -- And of the rest and of the next formula has few variables
    few-rest : length (free_vars (tree.And (rest_of pending) g)) ≤ MOST_TRACKS
    few-rest =
        let among = λ (x : Var) (one : IsOneOf x (free_vars (tree.And (rest_of pending) g))).
        (one_of-with_vars x (free_vars is.left) (free_vars (tree.And (rest_of pending) g))).1 (inr one) in
        let less = length-among (free_vars (tree.And (rest_of pending) g)) (free_vars (tree.And is.left (tree.And (rest_of pending) g))) (apart-free (tree.And (rest_of pending) g)) among in
        let same = ap length says-longer.vars in
        omega (arith, less, same, fits)

    pub rest-fits : FitTogether m l pending.rest.part part
    rest-fits =
        by_theirs And m l pending.rest.part part is.rest.auto next.auto is.rest.has next.has (λ a b. length (with_vars a.tracks b.tracks) ≤ MOST_TRACKS)
        (subst (λ t. length t ≤ MOST_TRACKS) (λ i. with_vars (sym (rest-decides is).tracks i) (sym next-decides.tracks i)) few-rest)

    -- with more formulas at its end it waits on
    pub pending-longer : {longer : ShortPart} {step : ℕ} → IsMemo m → IsAutomaton next.auto
        → length is.base.auto.accept * (length is.rest.auto.accept * length next.auto.accept) ≤ m.budget
        → tree_of longer.formula ≡ tree.And (rest_of pending) g → (more : IsShortPart m l (tree_of longer.formula) longer.part) → IsAutomaton more.auto
        → length is.base.auto.accept * length more.auto.accept ≤ m.budget
        → IsPutTo f g e m l (Waiting (record { base = pending.base; rest = longer; done = step }))
    pending-longer {longer} {step} memo next_valid all same more more_valid room =
        let waiting : IsPending (tree.And f g) e m l (record { base = pending.base; rest = longer; done = step }) = record {
          left = is.left;
          base = is.base;
          rest = more;
          same = subst (λ r. SaysTheSame (tree.And f g) (tree.And is.left r)) (sym same) says-longer;
          few_vars = fits;
          base_valid = is.base_valid;
          rest_valid = more_valid;
          room = room;
        } in
        put_off waiting memo
        (decided-within (pending-decided is memo) next_valid next-decides
        (subst (λ n. n ≤ m.budget) (sym (mul_assoc (length is.base.auto.accept) (length is.rest.auto.accept) (length next.auto.accept))) all))

-- a formula is put to one whose automaton is made
module _ {f g : Tree} {e : ℕ → SetOf} {m : MemoState} {l : MeetState} {left part : PartAuto} (is : IsPartOf f e m l left) (next : IsShortPart m l g part) where
  pub next-fits : FitsAfter f g → FitTogether m l left part
  next-fits fits =
      by_theirs And m l left part is.auto next.auto is.has next.has (λ a b. length (with_vars a.tracks b.tracks) ≤ MOST_TRACKS)
      (subst (λ t. length t ≤ MOST_TRACKS) (λ i. with_vars (sym is.decides.tracks i) (sym (short-decides next e).tracks i)) fits)

  -- the budget has room for all pairs of states, and the two wait
  pub waits : {formula : Formula} {step : ℕ} → IsMemo m → FitsAfter f g → tree_of formula ≡ g → IsAutomaton is.auto → IsAutomaton next.auto
      → length is.auto.accept * length next.auto.accept ≤ m.budget
      → IsPutTo f g e m l (Waiting (record { base = left; rest = record { formula = formula; part = part }; done = step }))
  waits {formula} {step} memo fits same valid next_valid room =
      let waiting : IsPending (tree.And f g) e m l (record { base = left; rest = record { formula = formula; part = part }; done = step }) = record {
        left = f;
        base = is;
        rest = record { auto = next.auto; has = next.has; short = subst (λ h. IsShort m.budget h next.auto) (sym same) next.short };
        same = subst (λ h. SaysTheSame (tree.And f g) (tree.And f h)) (sym same) (says-itself (tree.And f g));
        few_vars = fits;
        base_valid = valid;
        rest_valid = next_valid;
        room = room;
      } in
      put_off waiting memo (decided-within (record { auto = is.auto; valid = valid; size = refl; decides = is.decides }) next_valid (short-decides next e) room)

  on_theirs : StepExceeds is.auto next.auto m.budget → Exceeds (tree.And f g) (members e) m.budget
  on_theirs = (Exceeds-connect (members e) f g is.auto next.auto m.budget is.decides (short-decides next e) And).0

  -- the step is taken
  pub taken-now : (joint : Joint) (step : ℕ) → IsJointOf And m l left part joint → IsPutTo f g e m l (Made (record { part = joint_part joint left part; done = step }))
  taken-now joint step h =
      let made = joint-auto And m l left part is.auto next.auto is.has next.has is.reached (next.short.compiled e).reached joint h in
      record {
        is = record {
          auto = made.auto;
          has = made.has;
          reached = made.reached;
          few = λ some. made.step.few;
          decides = made.step.decides f g e is.decides (short-decides next e);
        };
        auto = made.auto;
        decides = made.step.decides f g e is.decides (short-decides next e);
        within = λ over. made.step.within ((Exceeds-connect (members e) f g is.auto next.auto m.budget is.decides (short-decides next e) And).1 over);
      }

  pub stopped-now : (step : ℕ) (cause : Grown) → (cause ≡ grown.Over → TogetherExceed m l left part) → IsStepStopped f g e m.budget step (step_error step cause)
  stopped-now step cause over = record { cause = cause; is = refl; over = λ h. on_theirs (over h is.auto next.auto is.has next.has) }

-- And of two short formulas is short
module _ {f g : Tree} {budget : ℕ} {a b : Automaton} (left : IsShort budget f a) (right : IsShort budget g b) where
  none_named : symbols (tree.And f g) ≡ []
  none_named = λ i. left.no_set i ++ right.no_set i

  pub short-and : {made : Automaton} → IsStepWithin And a b budget made → AllReached made → IsShort budget (tree.And f g) made
  short-and step reached = record {
    no_set = none_named;
    compiled = λ e.
        let first = (left.compiled e).made in
        let second = (right.compiled e).made in
        let done = 0 + length (steps f) in
        let after : IsMade g e done budget b =
        record { decides = second.decides; within = FirstOver-from (steps g) (members e) budget 1 (done + 1) second.within } in
        record {
          made = made_two e budget 0 And f g a done refl first b (done + length (steps g)) refl after (step.decides f g e first.decides second.decides)
              (λ over. step.within ((Exceeds-connect (members e) f g a b budget first.decides second.decides And).1 over));
          reached = reached;
          few = λ some. step.few;
        };
  }

pub together-short : {f g : Tree} {m : MemoState} {l : MeetState} {left right : PartAuto} {made : Automaton} → IsShortPart m l f left → IsShortPart m l g right
    → IsJointOf And m l left right (joint.Made made) → IsShortPart m l (tree.And f g) (Fresh made)
together-short {made = made} first second joint =
    let h = joint first.auto second.auto first.has second.has in
    record { auto = made; has = refl; short = short-and first.short second.short h.0 h.1 }

-- what a link has, when the memo and the table of meets have grown
module _ {f : Tree} {e : ℕ → SetOf} {m n : MemoState} {l k : MeetState} {fs : List Tree} (after : IsMemoAfter m n fs) (grows : MeetsGrow l k) where
  abbrev part_of-after : (part : PartAuto) → IsPartOf f e m l part → IsPartOf f e n k part
  part_of-after part is = record {
    auto = is.auto;
    has = part-after part is.auto is.has after grows;
    reached = is.reached;
    few = λ some. subst (λ b. length is.auto.accept ≤ b) (sym after.budget) (is.few some);
    decides = is.decides;
  }

pub link-after : (f : Tree) (e : ℕ → SetOf) {m n : MemoState} {l k : MeetState} {fs : List Tree} → IsMemoAfter m n fs → MeetsGrow l k → (link : Link)
    → IsLink f e m l link → IsLink f e n k link
link-after f e after grows (Made made) is = part_of-after after grows made.part is
link-after f e after grows (Waiting pending) is = record {
  left = is.left;
  base = part_of-after after grows pending.base is.base;
  rest = record {
    auto = is.rest.auto;
    has = part-after pending.rest.part is.rest.auto is.rest.has after grows;
    short = subst (λ b. IsShort b (rest_of pending) is.rest.auto) (sym after.budget) is.rest.short;
  };
  same = is.same;
  few_vars = is.few_vars;
  base_valid = is.base_valid;
  rest_valid = is.rest_valid;
  room = subst (λ b. length is.base.auto.accept * length is.rest.auto.accept ≤ b) (sym after.budget) is.room;
}

-- what is put to a made chain is put to the chain
pub next-after : {m : MemoState} {l : MeetState} {before : Link} {made : Remembered} {g : Tree} {step : ℕ} {link : Link} → IsMadeLink m l before made
    → IsNextLink m l (Made made) g step link → IsNextLink m l before g step link
next-after made next = record { done = next.done; puts = λ f e fits is. next.puts f e fits (made.is f e is) }

pub out_of_memory : {f g : Tree} {e : ℕ → SetOf} {budget step : ℕ} {why : CompileError} → why ≡ Memory → IsStepStopped f g e budget step why
out_of_memory same = record { cause = grown.Memory; is = same; over = λ over. absurd (cc) }

least-product : (n x : ℕ) → 0 < n → x ≤ n * x
least-product zero x some = absurd (omega (arith, some))
least-product (suc n) x some = let sum : suc n * x ≡ n * x + x = grind arith in omega (arith, sum)

-- where the budget has room for all threes of states, it has room for all pairs of two of the automata
pub room-rest : {base a b : Automaton} {n k j budget : ℕ} → HasStates base n → HasStates a k → HasStates b j → n * (k * j) ≤ budget → HasRoom a b budget
room-rest {base} {a} {b} {n} {k} {j} {budget} first second third enough =
    let valid = first.valid in
    let some : 0 < n = subst (λ x. 0 < x) first.count valid.some_state in
    let less = least-product n (k * j) some in
    let room : k * j ≤ budget = omega (arith, less, enough) in
    record { left = second.valid; right = third.valid; room = rw (second.count, third.count) room }
