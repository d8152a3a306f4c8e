-- What a memo keeps while formulas are compiled, and a memo that is as it was.
use Rattle.std.proofs.Common.{◌≡◌, ℕ, ◌+◌, List, [], ◌++◌, length, Some, Result, Ok, Err, IfErr, sym, ap, ◌∙◌, subst, arith, length-append, append-nil}
use Rattle.std.specs.List.{slice_get}
use Rattle.std.specs.Prelude.{OnOk}
use Rattle.std.proofs.lemmas.List.{length-map, nil_from_length}
use Rattle.auto_core.specs.Automaton.{Automaton}
use Rattle.lin_formula.specs.Tree.{Tree}
use Rattle.lin_formula.specs.declared.formula.Formula.{Formula}
use Rattle.formula_auto.specs.PlainParts.{plain_parts}
use Rattle.formula_auto.specs.MemoState.{MemoState, known, IsMemoAfter, IsMemoStopped, KeepsEntries}
use Rattle.formula_auto.specs.declared.errors.CompileError.{CompileError}
use Rattle.formula_auto.specs.declared.errors.CompileError.TheVariants.{Over, Memory}
use Rattle.formula_auto.proofs.Entries.{tree_in}
use Rattle.formula_auto.proofs.PartLemmas.{get-append}

pub keeps-after : {old new : MemoState} {fs : List Tree} → IsMemoAfter old new fs → KeepsEntries old new
keeps-after {old} {new} after = λ place entry there.
    subst (λ entries. slice_get entries place ≡ Some entry) (sym after.entries) (get-append old.entries after.added place entry there)

pub keeps-stopped : (f : Tree) (old new : MemoState) (why : CompileError) → IsMemoStopped old new f why → KeepsEntries old new
keeps-stopped f old new (Over step) after = keeps-after after
keeps-stopped f old new Memory (done, after) = keeps-after after

-- whatever compiling a formula answers
pub keeps-compiled : (f : Tree) (old new : MemoState) (r : Result Automaton CompileError) → OnOk r (IsMemoAfter old new (plain_parts f))
    → IfErr r (IsMemoStopped old new f) → KeepsEntries old new
keeps-compiled f old new (Ok a) after stopped = keeps-after after
keeps-compiled f old new (Err why) after stopped = keeps-stopped f old new why stopped

same_state : {m n : MemoState} → n.budget ≡ m.budget → n.entries ≡ m.entries → n.found ≡ m.found → n ≡ m
same_state {m} {n} budget entries found =
    ap (λ b. record { budget = b; entries = n.entries; found = n.found }) budget
    ∙ (ap (λ es. record { budget = m.budget; entries = es; found = n.found }) entries ∙ ap (λ k. record { budget = m.budget; entries = m.entries; found = k }) found)

-- where no formula has passed
pub still_same : {old new : MemoState} → IsMemoAfter old new [] → new ≡ old
still_same {old} {new} after =
    let count : length (known new) ≡ length (known old) = ap length after.passes.0 in
    let before : length (known old) ≡ length old.entries = length-map old.entries tree_in in
    let now : length (known new) ≡ length new.entries = length-map new.entries tree_in in
    let more : length new.entries ≡ length old.entries + length after.added = ap length after.entries ∙ length-append old.entries after.added in
    let none : after.added ≡ [] = nil_from_length after.added (omega arith) in
    let entries : new.entries ≡ old.entries = after.entries ∙ (ap (λ xs. old.entries ++ xs) none ∙ append-nil old.entries) in
    same_state after.budget entries after.passes.1
