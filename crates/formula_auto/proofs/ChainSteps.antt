-- A chain of And on the way up a formula.
use Rattle.std.proofs.Common.{◌≡◌, ℕ, ◌+◌, ◌≤◌, Bool, false, ◌&&◌, nat_eq, nat_lt, IsTrue, length, refl, sym, ap, subst, arith, length-append}
use Rattle.auto_core.specs.Automaton.{Automaton}
use Rattle.auto_bool.specs.declared.connective.Connective.TheVariants.{And}
use Rattle.lin_formula.specs.Tree.{Tree, symbols, steps}
use Rattle.lin_formula.specs.TreeOf.{tree_of}
use Rattle.lin_formula.specs.SetOf.{SetOf, tables}
use Rattle.formula_auto.specs.Chains.{IsLink, IsLinkedOn, IsMadeLink, IsNextLink, IsNextStopped, FitsAfter, IsExtension, and_of, link_done}
use Rattle.formula_auto.specs.MeetState.{MeetState}
use Rattle.formula_auto.specs.MemoState.{MemoState}
use Rattle.formula_auto.specs.Recalled.{is_recalled}
use Rattle.formula_auto.specs.Remembered.{IsRemembered, IsInterrupted}
use Rattle.formula_auto.specs.PartOf.{IsRememberedOn}
use Rattle.formula_auto.specs.declared.chain.Extension.{Extension}
use Rattle.formula_auto.specs.declared.chain.Link.{Link}
use Rattle.formula_auto.specs.declared.chain.Link.TheVariants.{Made}
use Rattle.formula_auto.specs.declared.standing.PartPosition.{PartPosition}
use Rattle.formula_auto.specs.declared.standing.Recall.{Recall}
use Rattle.formula_auto.specs.declared.standing.Recall.TheVariants.{Plain, Nothing}
use Rattle.formula_auto.specs.declared.errors.CompileError.{CompileError}
use Rattle.formula_auto.specs.declared.pair.FormulaPair.{FormulaPair}
use Rattle.formula_auto.specs.declared.part_auto.Remembered.{Remembered}
use Rattle.formula_auto.proofs.WithMemo.{remembered_two, remembered_as, interrupted_left, interrupted_right, interrupted_at_two}

abbrev pub as_pair : Extension → FormulaPair
as_pair extension = record { connective = And; left = extension.left; right = extension.right }

some_symbol : (n k : ℕ) (b : Bool) → IsTrue (nat_lt 0 n) → (nat_eq (n + k) 0 && b) ≡ false
some_symbol n k b h =
    let some : nat_eq (n + k) 0 ≡ false = grind (arith, h) in
    ap (λ c. c && b) some

-- what names a set is not looked up
pub extension-outside : (r : Recall) (extension : Extension) → IsExtension extension → is_recalled r (and_of extension) ≡ false
extension-outside Plain extension is =
    let size = length-append (symbols (tree_of extension.left.now)) (symbols (tree_of extension.right.now)) in
    subst (λ n. (nat_eq n 0 && nat_lt 0 (length (steps (and_of extension)))) ≡ false) (sym size)
    (some_symbol (length (symbols (tree_of extension.left.now))) (length (symbols (tree_of extension.right.now))) _ is.names)
extension-outside Nothing extension is = refl

module _ (extension : Extension) (is : IsExtension extension) where
  outside : (r : Recall) → is_recalled r (and_of extension) ≡ false
  outside r = extension-outside r extension is

  pub stopped_before : {standing : PartPosition} {m0 m1 : MemoState} {e : ℕ → SetOf} {why : CompileError} → IsInterrupted (tree_of extension.left.now) e standing m0 m1 why
      → IsInterrupted (and_of extension) e standing m0 m1 why
  stopped_before {standing} h = interrupted_left (as_pair extension) (outside standing.recall) tt h

  module _ {standing : PartPosition} {m0 m1 : MemoState} {e : ℕ → SetOf} {a : Automaton} {last : ℕ} (left : IsRemembered (tree_of extension.left.now) e standing m0 m1 a last) where
    pub stopped_beside : {m2 : MemoState} {why : CompileError} → IsInterrupted (tree_of extension.right.now) e (record standing { before = last }) m1 m2 why
        → IsInterrupted (and_of extension) e standing m0 m2 why
    stopped_beside h = interrupted_right (as_pair extension) (outside standing.recall) tt left h

    module _ {m2 : MemoState} {b : Automaton} {end : ℕ} (right : IsRemembered (tree_of extension.right.now) e (record standing { before = last }) m1 m2 b end)
        (l : MeetState) (before : Link) (link : IsLink (tree_of extension.left.now) e m2 l before) where
      -- the formula was put to the chain before
      pub linked : {l0 : MeetState} {made : Link} → tables l0.sets ≡ e → FitsAfter (tree_of extension.left.now) (tree_of extension.right.now)
          → IsNextLink m2 l before (tree_of extension.right.now) (end + 1) made → IsLinkedOn (and_of extension) standing m0 m2 l0 l made
      linked {l0} {made} same fits next =
          let put = next.puts (tree_of extension.left.now) e fits link in
          record {
            auto = put.auto;
            remembered = subst (λ d. IsRemembered (and_of extension) d standing m0 m2 put.auto (link_done made)) (sym same)
                (subst (λ n. IsRemembered (and_of extension) e standing m0 m2 put.auto n) (sym next.done)
                (remembered_two (as_pair extension) (outside standing.recall) tt left right put.decides put.within));
            is = subst (λ d. IsLink (and_of extension) d m2 l made) (sym same) put.is;
          }

      -- or that step stopped
      pub stopped_at : {why : CompileError} → IsNextStopped m2 l before (tree_of extension.right.now) (end + 1) why → IsInterrupted (and_of extension) e standing m0 m2 why
      stopped_at stopped =
          let h = stopped (tree_of extension.left.now) e link in
          subst (IsInterrupted (and_of extension) e standing m0 m2) (sym h.is)
          (interrupted_at_two (as_pair extension) (outside standing.recall) tt left right h.cause h.over)

module _ {f : Tree} {standing : PartPosition} {old new : MemoState} {l k : MeetState} where
  -- a chain begins with what is made
  pub linked-made : {made : Remembered} → IsRememberedOn f standing old new l k made → IsLinkedOn f standing old new l k (Made made)
  linked-made part = record {
    auto = part.auto;
    remembered = part.remembered;
    is = record {
      auto = part.auto;
      has = part.has;
      reached = part.reached;
      few = λ some. subst (λ b. length part.auto.accept ≤ b) (sym part.remembered.after.budget) (part.few some);
      decides = part.remembered.made.decides;
    };
  }

  -- and is made at its end
  pub made-linked : {link : Link} {made : Remembered} → IsLinkedOn f standing old new l k link → IsMadeLink new k link made → IsRememberedOn f standing old new l k made
  made-linked {link} {made} linked h =
      let part = h.is f (tables l.sets) linked.is in
      record {
        auto = part.auto;
        has = part.has;
        reached = part.reached;
        few = λ some. subst (λ b. length part.auto.accept ≤ b) linked.remembered.after.budget (part.few some);
        remembered = subst (λ n. IsRemembered f (tables l.sets) standing old new part.auto n) (sym h.done) (remembered_as linked.remembered part.decides);
      }
