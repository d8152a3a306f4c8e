-- What is remembered over one table of sets.
use Rattle.std.proofs.Common.{◌≡◌, ℕ, List, [], ◌∷◌, ◌++◌, map, length, Option, None, Some, refl, sym, ◌∙◌, subst}
use Rattle.std.specs.Prelude.{IfSome}
use Rattle.std.specs.List.{slice_get}
use Rattle.std.proofs.lemmas.List.{length-map}
use Rattle.auto_core.specs.Automaton.{Automaton}
use Rattle.lin_formula.specs.Tree.{Tree}
use Rattle.lin_formula.specs.TreeOf.{tree_of}
use Rattle.lin_formula.specs.declared.formula.Formula.{Formula}
use Rattle.formula_auto.specs.declared.entry.MemoEntry.{MemoEntry}
use Rattle.formula_auto.specs.EntryOf.{entry_of, IsPlaceOf}
use Rattle.formula_auto.specs.MeetState.{MeetState, IsPair, IsMeetTable, IsPairAt, MeetsGrow}
use Rattle.formula_auto.proofs.Entries.{mapped_there, mapped_all, entries_is, all_pushed, last_pushed}

-- the fields of a table of meets as contracts see them
abbrev pub meets_of : List Automaton → ℕ → List MemoEntry → MeetState
meets_of sets budget items = record { sets = sets; budget = budget; pairs = map entry_of items }

module _ (sets : List Automaton) (budget : ℕ) (items : List MemoEntry) (l : MeetState) (view_is : meets_of sets budget items ≡ l) where
  pub pair_found : (slice : List MemoEntry) (f : Tree) (place : Option ℕ) → slice ≡ items
      → IsMeetTable (meets_of sets budget items) → IfSome place (IsPlaceOf slice f) → IfSome place (IsPairAt l f)
  pair_found slice f None same meets some = some
  pair_found slice f (Some k) same meets some =
      let at : IsPlaceOf items f k = subst (λ es. IsPlaceOf es f k) same some in
      let here : IsPairAt (meets_of sets budget items) (tree_of at.entry.formula) k = record {
        formula = at.entry.formula;
        auto = at.entry.auto;
        there = mapped_there at;
        pair = mapped_all at (λ pair. IsPair sets budget (tree_of pair.0) pair.1) meets.pairs;
      } in
      subst (λ t. IsPairAt l t k) at.same (subst (λ n. IsPairAt n (tree_of at.entry.formula) k) view_is here)

  module _ (longer : List MemoEntry) (en : MemoEntry) (pushed : longer ≡ items ++ en ∷ []) where
    pub meets-pushed : (f : Tree) → tree_of en.formula ≡ f → IsMeetTable (meets_of sets budget items) → IsPair l.sets l.budget f en.auto → IsMeetTable (meets_of sets budget longer)
    meets-pushed f tree meets pair =
        let here : IsPair sets budget f en.auto = subst (λ n. IsPair n.sets n.budget f en.auto) (sym view_is) pair in
        record {
          pairs = all_pushed items longer en pushed (λ pair. IsPair sets budget (tree_of pair.0) pair.1) meets.pairs (subst (λ t. IsPair sets budget t en.auto) (sym tree) here);
        }

    pub grows-pushed : MeetsGrow l (meets_of sets budget longer)
    grows-pushed =
        let added : MeetsGrow (meets_of sets budget items) (meets_of sets budget longer) = record {
          sets = refl;
          budget = refl;
          added = entry_of en ∷ [];
          pairs = entries_is items longer en pushed;
        } in
        subst (λ n. MeetsGrow n (meets_of sets budget longer)) view_is added

    pub there-pushed : (place : ℕ) → place ≡ length items → (f : Formula) × (slice_get (map entry_of longer) place ≡ Some (f, en.auto))
    there-pushed place here = last_pushed items longer en pushed place (length-map items entry_of ∙ sym here)
