-- A table of short formulas, as entries are put in.
use Rattle.std.proofs.Common.{◌≡◌, ℕ, nat_eq, None, Some, sym, subst}
use Rattle.std.specs.HashMap.{HashMap, Updates, IsEmpty, IsUnchanged}
use Rattle.lin_formula.specs.Tree.{Tree}
use Rattle.lin_formula.specs.TreeOf.{tree_of}
use Rattle.letter_diagram.proofs.Memos.{answers-insert}
use Rattle.formula_auto.specs.Short.{IsShort}
use Rattle.formula_auto.specs.ShortTable.{AreShort}
use Rattle.formula_auto.specs.declared.short_table.ShortEntry.{ShortEntry}

module _ {S : Type 0} {budget : ℕ} where
  pub short-empty : {m : HashMap ℕ ShortEntry S} → IsEmpty m → AreShort budget m
  short-empty empty = record { each = λ hash entry at. absurd (nothing entry (rw empty at at)) }
    where
      nothing : (entry : ShortEntry) → None ≡ Some entry → ⊥
      nothing entry e = cc

  pub short-unchanged : {m n : HashMap ℕ ShortEntry S} → IsUnchanged m n → AreShort budget m → AreShort budget n
  short-unchanged same all = record { each = λ hash entry at. all.each hash entry (rw same at at) }

  pub short-put : {m n : HashMap ℕ ShortEntry S} {old : ℕ} {f : Tree} (hash : ℕ) (entry : ShortEntry) → AreShort budget m → Updates nat_eq m n hash (Some entry)
      → budget ≡ old → tree_of entry.formula ≡ f → IsShort old f entry.auto.value → AreShort budget n
  short-put {m} {n} {old} {f} hash entry all updates same tree is =
      let here : IsShort budget (tree_of entry.formula) entry.auto.value =
      subst (λ t. IsShort budget t entry.auto.value) (sym tree) (subst (λ b. IsShort b f entry.auto.value) (sym same) is) in
      record { each = answers-insert (λ h (en : ShortEntry). IsShort budget (tree_of en.formula) en.auto.value) m n hash entry all.each updates here }
