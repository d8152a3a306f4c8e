-- What a part of a formula has, also when the memo has grown since.
use Rattle.std.proofs.Common.{◌≡◌, ℕ, ◌+◌, ◌<◌, ◌≤◌, arith, List, [], ◌∷◌, ◌++◌, length, Some, refl, sym, ap, ◌∙◌, subst, zero, suc, true, inl, inr}
use Rattle.std.specs.List.{slice_get}
use Rattle.std.proofs.lemmas.Bool.{cases_lt}
use Rattle.std.proofs.lemmas.Option.{none-some, same_Some}
use Rattle.auto_core.specs.Automaton.{Automaton}
use Rattle.auto_core.specs.Reduced.{AllReached, IsReduced}
use Rattle.lin_formula.specs.Tree.{Tree, HasStep, steps}
use Rattle.lin_formula.specs.declared.formula.Formula.{Formula}
use Rattle.lin_formula.specs.SetOf.{SetOf, members}
use Rattle.formula_auto.specs.Decides.{Decides}
use Rattle.formula_auto.specs.PlainParts.{is_plain}
use Rattle.formula_auto.specs.Compiled.{IsCompiledOn}
use Rattle.formula_auto.specs.Nodes.{AcceptSame}
use Rattle.formula_auto.specs.MeetState.{MeetState, MeetsGrow}
use Rattle.formula_auto.specs.MemoState.{MemoState, IsEntryAt, IsMemoAfter, counted}
use Rattle.formula_auto.specs.Recalled.{is_recalled, start}
use Rattle.formula_auto.specs.declared.standing.Recall.{Recall}
use Rattle.formula_auto.specs.Remembered.{IsRemembered}
use Rattle.formula_auto.specs.PartOf.{IsPart, IsRememberedPart}
use Rattle.formula_auto.specs.declared.standing.PartPosition.{PartPosition}
use Rattle.formula_auto.specs.declared.part_auto.PartAuto.{PartAuto}
use Rattle.formula_auto.specs.declared.part_auto.PartAuto.TheVariants.{Fresh, Kept, Paired, Named, Shared}
use Rattle.formula_auto.specs.declared.part_auto.Remembered.{Remembered}
use Rattle.formula_auto.proofs.MemoLemmas.{known-at}
use Rattle.formula_auto.proofs.PlainLemmas.{some_step}
use Rattle.formula_auto.proofs.WithMemo.{remembered_found, remembered_leaf, made_same}

pub get-append : {X : Type 0} (xs ys : List X) (k : ℕ) (x : X) → slice_get xs k ≡ Some x → slice_get (xs ++ ys) k ≡ Some x
get-append [] ys k x there = absurd (none-some x there)
get-append (y ∷ xs) ys zero x there = there
get-append (y ∷ xs) ys (suc k) x there = get-append xs ys k x there

-- a part has one automaton
pub one_automaton : (m : MemoState) (l : MeetState) (part : PartAuto) (a b : Automaton) → IsPart m l part a → IsPart m l part b → a ≡ b
one_automaton m l (Fresh c) a b left right = sym left ∙ right
one_automaton m l (Kept place) a b left right =
    ap (λ (entry : Formula × Automaton). entry.1) (same_Some (left.0, a) (right.0, b) (sym left.1 ∙ right.1))
one_automaton m l (Paired place) a b left right =
    ap (λ (entry : Formula × Automaton). entry.1) (same_Some (left.0, a) (right.0, b) (sym left.1 ∙ right.1))
one_automaton m l (Named set) a b left right = same_Some a b (sym left ∙ right)
one_automaton m l (Shared auto) a b left right = sym left ∙ right

-- entries are only added
pub part-after : {old new : MemoState} {fs : List Tree} {l k : MeetState} (part : PartAuto) (a : Automaton) → IsPart old l part a → IsMemoAfter old new fs → MeetsGrow l k → IsPart new k part a
part-after {old} {new} {fs} {l} {k} (Fresh c) a has after grows = has
part-after {old} {new} {fs} {l} {k} (Kept place) a has after grows = (
  has.0,
  subst (λ entries. slice_get entries place ≡ Some (has.0, a)) (sym after.entries) (get-append old.entries after.added place (has.0, a) has.1),
)
part-after {old} {new} {fs} {l} {k} (Paired place) a has after grows = (
  has.0,
  subst (λ pairs. slice_get pairs place ≡ Some (has.0, a)) (sym grows.pairs) (get-append l.pairs grows.added place (has.0, a) has.1),
)
part-after {old} {new} {fs} {l} {k} (Named set) a has after grows = subst (λ sets. slice_get sets set.0 ≡ Some a) (sym grows.sets) has
part-after {old} {new} {fs} {l} {k} (Shared auto) a has after grows = has

pub same_few : {n m : ℕ} (a : Automaton) → n ≡ m → length a.accept ≤ n → length a.accept ≤ m
same_few a same = subst (λ n. length a.accept ≤ n) same

module _ {f : Tree} {e : ℕ → SetOf} {standing : PartPosition} {l : MeetState} where
  pub part-fresh : {old new : MemoState} {a : Automaton} {last : ℕ} {made : Remembered} → made ≡ record { part = Fresh a; done = last }
      → AllReached a → (0 < length (steps f) → length a.accept ≤ old.budget) → IsRemembered f e standing old new a last → IsRememberedPart f e standing old new l made
  part-fresh {old = old} {new = new} {a = a} is reached few remembered =
      subst (IsRememberedPart f e standing old new l) (sym is) (record { auto = a; has = refl; reached = reached; few = few; remembered = remembered })

  pub part-whole : {m : MemoState} {a : Automaton} {part : PartAuto} → IsPart m l part a → AllReached a → steps f ≡ [] → Decides a f (members e)
      → IsRememberedPart f e standing m m l (record { part = part; done = standing.before })
  part-whole {a = a} has reached none decides = record {
    auto = a;
    has = has;
    reached = reached;
    few = λ some. absurd (let size : length (steps f) ≡ 0 = ap length none in omega (arith, size, some));
    remembered = remembered_leaf none decides;
  }

  pub part-leaf : {m : MemoState} {a : Automaton} {made : Remembered} → made ≡ record { part = Fresh a; done = standing.before } → AllReached a → steps f ≡ [] → Decides a f (members e)
      → IsRememberedPart f e standing m m l made
  part-leaf {m = m} is reached none decides = subst (IsRememberedPart f e standing m m l) (sym is) (part-whole refl reached none decides)

  pub part-found : {m : MemoState} {place last : ℕ} → is_recalled standing.recall f ≡ true → last ≡ standing.before + length (steps f) → IsEntryAt m f place
      → IsRememberedPart f e standing m (record m { found = counted m.found }) l (record { part = Kept place; done = last })
  part-found {m = m} {place = place} recalled counts at = record {
    auto = at.auto;
    has = (at.formula, at.there);
    reached = at.entry.reduced.reached;
    few = λ some. at.entry.few;
    remembered = remembered_found recalled counts (known-at m f place at) at.entry;
  }

  module _ {old new : MemoState} {made : Remembered} (part : IsRememberedPart f e standing old new l made) where
    -- the memo and the table of meets have its automaton, and it is no other
    pub lent : {a : Automaton} → IsPart new l made.part a → IsRemembered f e standing old new a made.done
    lent {a = a} has = subst (λ b. IsRemembered f e standing old new b made.done) (one_automaton new l made.part part.auto a part.has has) part.remembered

    pub lent-reached : {a : Automaton} → IsPart new l made.part a → AllReached a
    lent-reached {a = a} has = subst AllReached (one_automaton new l made.part part.auto a part.has has) part.reached

    pub lent-few : (a : Automaton) → IsPart new l made.part a → 0 < length (steps f) → length a.accept ≤ old.budget
    lent-few a has some = subst (λ b. length b.accept ≤ old.budget) (one_automaton new l made.part part.auto a part.has has) (part.few some)

    -- an automaton with as many states at most, that may be kept
    pub few_kept : (c : Automaton) → is_plain f ≡ true → length c.accept ≤ length part.auto.accept → length c.accept ≤ old.budget
    few_kept c plain fewer =
        let some = some_step f plain in
        let few = part.few some in
        omega (arith, fewer, few)

    -- also when they have grown since
    pub lent-later : {later : MemoState} {fs : List Tree} {k : MeetState} {a : Automaton} → IsMemoAfter new later fs → MeetsGrow l k → IsPart later k made.part a
        → IsRemembered f e standing old new a made.done
    lent-later {later = later} {fs = fs} {k = k} {a = a} after grows has =
        let still = part-after made.part part.auto part.has after grows in
        subst (λ b. IsRemembered f e standing old new b made.done) (one_automaton later k made.part part.auto a still has) part.remembered

-- made of a whole formula: as its last step made it, or reduced
pub compiled_on : {f : Tree} {e : ℕ → SetOf} {r : Recall} {old new : MemoState} {l : MeetState} {made : Remembered} {a : Automaton}
    → IsRememberedPart f e (start r) old new l made → ((b : Automaton) → IsPart new l made.part b → AcceptSame b a)
    → (HasStep f → IsPart new l made.part a) → (length (steps f) ≤ 0 → IsReduced a) → IsCompiledOn f e 0 old.budget a
compiled_on {f = f} {l = l} {a = a} part same as_it_is reduced = record {
  made = made_same (same part.auto part.has) part.remembered.made;
  reached = elim (cases_lt 0 (length (steps f))) [
    | inl some ↦ lent-reached part (as_it_is some)
    | inr none ↦ (reduced none).reached
  ];
  few = λ some. lent-few part a (as_it_is some) some;
}
