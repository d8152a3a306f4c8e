-- Short formulas, whose automata are shared.
use Rattle.std.proofs.Common.{◌≡◌, ℕ, ◌+◌, ◌≤◌, true, false, ◌&&◌, nat_eq, nat_lt, nat_le, List, [], ◌∷◌, length, refl, sym, ap, subst, arith}
use Rattle.auto_core.specs.Automaton.{Automaton}
use Rattle.auto_core.specs.Reduced.{AllReached}
use Rattle.lin_formula.specs.Tree.{Tree, HasStep, symbols, steps}
use Rattle.lin_formula.specs.SetOf.{SetOf, members}
use Rattle.formula_auto.specs.Compiled.{IsMade}
use Rattle.formula_auto.specs.Nodes.{AcceptSame}
use Rattle.formula_auto.specs.Recalled.{is_recalled, recalled_parts}
use Rattle.formula_auto.specs.MemoState.{MemoState, IsMemoAfter}
use Rattle.formula_auto.specs.MeetState.{MeetState}
use Rattle.formula_auto.specs.PartOf.{IsRememberedPart}
use Rattle.formula_auto.specs.Short.{is_short, IsShort, IsShortPart}
use Rattle.formula_auto.specs.declared.standing.PartPosition.{PartPosition}
use Rattle.formula_auto.specs.declared.standing.Recall.{Recall}
use Rattle.formula_auto.specs.declared.standing.Recall.TheVariants.{Plain, Nothing}
use Rattle.formula_auto.specs.declared.plain.TheConstants.{MOST_SHORT_STEPS}
use Rattle.formula_auto.specs.declared.part_auto.PartAuto.{PartAuto}
use Rattle.formula_auto.specs.declared.part_auto.Remembered.{Remembered}
use Rattle.formula_auto.proofs.NoSets.{Decides-no_set, steps-no_set, FirstOver-no_set}
use Rattle.formula_auto.proofs.FirstOvers.{FirstOver-from}
use Rattle.formula_auto.proofs.MemoLemmas.{no_member, stepless}
use Rattle.formula_auto.proofs.PlainLemmas.{and_right, after-none}
use Rattle.formula_auto.proofs.WithMemo.{made_same}

pub short-no_set : (f : Tree) → is_short f ≡ true → symbols f ≡ []
short-no_set f h = no_member (symbols f) (and_right (nat_le (length (steps f)) MOST_SHORT_STEPS) (nat_eq (length (symbols f)) 0) h)

no_step : (fs : List Tree) → nat_lt 0 (length fs) ≡ false → fs ≡ []
no_step [] h = refl
no_step (f ∷ fs) h = absurd (grind arith)

-- one that the memo is not asked for has no part that it is asked for
short_parts : (r : Recall) (f : Tree) → symbols f ≡ [] → is_recalled r f ≡ false → recalled_parts r f ≡ []
short_parts Plain f none h =
    let size : length (symbols f) ≡ 0 = ap length none in
    stepless f (length (steps f)) (no_step (steps f) (subst (λ n. (nat_eq n 0 && nat_lt 0 (length (steps f))) ≡ false) size h))
short_parts Nothing f none h = refl

-- what is made of a formula without sets serves whatever sets there are
short_made : {f : Tree} {e : ℕ → SetOf} {before budget : ℕ} {a : Automaton} → symbols f ≡ [] → IsMade f e before budget a → AllReached a
    → (HasStep f → length a.accept ≤ budget) → IsShort budget f a
short_made {f} {e} {before} {budget} none made reached few = record {
  no_set = none;
  compiled = λ d. record {
    made = record {
      decides = Decides-no_set (members d) none made.decides;
      within = FirstOver-no_set (steps f) (members e) (members d) budget (before + 1) 1 (steps-no_set f none) made.within;
    };
    reached = reached;
    few = few;
  };
}

-- and so does another automaton of the same words
pub short_same : {f : Tree} {budget : ℕ} {a c : Automaton} → IsShort budget f a → AcceptSame a c → AllReached c → length c.accept ≤ length a.accept → IsShort budget f c
short_same short same reached fewer = record {
  no_set = short.no_set;
  compiled = λ e.
      let was = short.compiled e in
      record { made = made_same same was.made; reached = reached; few = λ some. let few = was.few some in omega (arith, fewer, few) };
}

module _ {f : Tree} {standing : PartPosition} {old new : MemoState} {l : MeetState} {e : ℕ → SetOf} where
  -- what compiling it made may be kept
  pub short_part : {made : Remembered} → is_short f ≡ true → IsRememberedPart f e standing old new l made → IsShortPart new l f made.part
  short_part short part = record {
    auto = part.auto;
    has = part.has;
    short = subst (λ b. IsShort b f part.auto) (sym part.remembered.after.budget)
        (short_made (short-no_set f short) part.remembered.made part.reached part.few);
  }

  -- and what is kept serves again
  pub part-short : {part : PartAuto} {last : ℕ} → IsShortPart new l f part → last ≡ standing.before + length (steps f) → IsMemoAfter old new (recalled_parts standing.recall f)
      → IsRememberedPart f e standing old new l (record { part = part; done = last })
  part-short part counts after =
      let short : IsShort old.budget f part.auto = subst (λ b. IsShort b f part.auto) after.budget part.short in
      let was = short.compiled e in
      record {
        auto = part.auto;
        has = part.has;
        reached = was.reached;
        few = was.few;
        remembered = record {
          counts = counts;
          made = record {
            decides = was.made.decides;
            within = FirstOver-from (steps f) (members e) old.budget 1 (standing.before + 1) was.made.within;
          };
          after = after;
        };
      }

-- of a short formula that the memo is not asked for it has nothing
pub after-short : (r : Recall) (f : Tree) (m : MemoState) → is_short f ≡ true → is_recalled r f ≡ false → IsMemoAfter m m (recalled_parts r f)
after-short r f m short outside = subst (IsMemoAfter m m) (sym (short_parts r f (short-no_set f short) outside)) (after-none m)
