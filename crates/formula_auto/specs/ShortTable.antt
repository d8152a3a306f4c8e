-- The entries of the short-formula cache.
use Rattle.std.specs.Prelude.{◌≡◌, ℕ, nat_eq, Some}
use Rattle.std.specs.HashMap.{HashMap, get}
use Rattle.lin_formula.specs.TreeOf.{tree_of}
use Rattle.formula_auto.specs.Short.{IsShort}
use Rattle.formula_auto.specs.declared.short_table.ShortEntry.{ShortEntry}

-- for each hash, an automaton of the formula stored with it
pub record AreShort {S : Type 0} (budget : ℕ) (entries : HashMap ℕ ShortEntry S) : Type 0 where
  pub each : (hash : ℕ) (entry : ShortEntry) → get nat_eq entries hash ≡ Some entry
      → IsShort budget (tree_of entry.formula) entry.auto.value
