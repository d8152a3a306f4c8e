-- Maps to sets, as more nodes and sets are known.
use Rattle.std.proofs.Common.{◌≡◌, ℕ, ◌<◌, List, length, get_or, slice_index, Contains, arith, sym, ◌∙◌, subst}
use Rattle.std.specs.List.{All}
use Rattle.std.proofs.lemmas.Option.{slice_get-get_or}
use Rattle.std.proofs.lemmas.List.Elements.{All-from_get_or}
use Rattle.track_word.specs.declared.tracks.Var.{Var}
use Rattle.letter_diagram.specs.declared.diagrams.Shape.{Shape}
use Rattle.letter_diagram.specs.Diagram.{map_at, Grows}
use Rattle.letter_diagram.specs.Sets.{SetsKept}
use Rattle.letter_diagram.specs.Listed.{EachAnswers}
use Rattle.letter_diagram.specs.Merged.{HasSets, IsMerged}
use Rattle.letter_diagram.proofs.Mergings.{HasSets-grows, IsMerged-grows}
use Rattle.auto_core.specs.Automaton.{Automaton}
use Rattle.auto_project.specs.SetMaps.{set_of, IsNarrow, IsSetRow, AreSetRows, IsLedRow, IsUnionRow, HasStates, HasUnionRows}
use Rattle.auto_project.proofs.Walks.{set_of-kept}

module _ (shapes more : List Shape) (sets sets' : List (List ℕ)) (grows : Grows shapes more) (kept : SetsKept sets sets') where
  pub stays : {node : ℕ} (letter : ℕ) → HasSets shapes sets node → set_of more sets' node letter ≡ set_of shapes sets node letter
  stays {node} letter is = set_of-kept node letter grows kept is.known (is.numbered letter)

  pub has-kept : {node : ℕ} (letter state : ℕ) → HasSets shapes sets node → Contains (set_of shapes sets node letter) state → Contains (set_of more sets' node letter) state
  has-kept letter state is c = subst (λ set. Contains set state) (sym (stays letter is)) c

  pub had : {node : ℕ} (letter state : ℕ) → HasSets shapes sets node → Contains (set_of more sets' node letter) state → Contains (set_of shapes sets node letter) state
  had letter state is c = subst (λ set. Contains set state) (stays letter is) c

  pub IsNarrow-kept : {tracks node : ℕ} → HasSets shapes sets node → IsNarrow shapes sets tracks node → IsNarrow more sets' tracks node
  IsNarrow-kept is narrow = record { same = λ x y state agree c. has-kept y state is (narrow.same x y state agree (had x state is c)) }

  pub IsSetRow-kept : {tracks node : ℕ} {Holds : ℕ → ℕ → Type 0} → IsSetRow shapes sets tracks node Holds → IsSetRow more sets' tracks node Holds
  IsSetRow-kept {Holds = Holds} row = record {
    is = HasSets-grows grows kept row.is;
    narrow = IsNarrow-kept row.is row.narrow;
    members = λ letter state below. (λ c. (row.members letter state below).0 (had letter state row.is c), λ h. has-kept letter state row.is ((row.members letter state below).1 h));
  }

  pub AreSetRows-kept : {a : Automaton} {some : List Var} {rows : List ℕ} → AreSetRows shapes sets a some rows → AreSetRows more sets' a some rows
  AreSetRows-kept are = record { size = are.size; each = λ state node at. IsSetRow-kept (are.each state node at) }

  pub IsLedRow-kept : {a : Automaton} {some : List Var} {node : ℕ} → IsLedRow shapes sets a some node → IsLedRow more sets' a some node
  IsLedRow-kept row = record {
    is = HasSets-grows grows kept row.is;
    narrow = IsNarrow-kept row.is row.narrow;
    nonempty = λ letter below none. row.nonempty letter below (sym (stays letter row.is) ∙ none);
    led = λ letter state below c. row.led letter state below (had letter state row.is c);
  }

  pub IsUnionRow-kept : {rows set : List ℕ} {node : ℕ} → ((from : ℕ) → Contains set from → HasSets shapes sets (slice_index rows from)) → IsUnionRow shapes sets rows set node
      → IsUnionRow more sets' rows set node
  IsUnionRow-kept of union = record {
    is = HasSets-grows grows kept union.is;
    members = λ letter state. (
      λ c. let one = (union.members letter state).0 (had letter state union.is c) in (one.0, one.1, has-kept letter state (of one.0 one.1) one.2),
      λ one. has-kept letter state union.is ((union.members letter state).1 (one.0, one.1, had letter state (of one.0 one.1) one.2)),
    );
  }

  pub HasStates-kept : {count node : ℕ} → HasStates shapes sets count node → HasStates more sets' count node
  HasStates-kept has = record {
    is = HasSets-grows grows kept has.is;
    nonempty = λ letter none. has.nonempty letter (sym (stays letter has.is) ∙ none);
    within = λ letter state c. has.within letter state (had letter state has.is c);
  }

  pub HasUnionRows-kept : {rows table : List ℕ} {node : ℕ} → All (HasSets shapes sets) rows → HasStates shapes sets (length rows) node → HasUnionRows shapes sets rows node table
      → HasUnionRows more sets' rows node table
  HasUnionRows-kept {rows} {table} {node} all has of = record {
    known = λ i d h. let known = of.known i d h in let longer = grows.longer in omega (arith, known, longer);
    within = λ letter. subst (λ n. n < length table) (sym (grows.map node letter has.is.known)) (of.within letter);
    union = λ letter.
        subst (λ n. IsUnionRow more sets' rows (set_of more sets' node letter) (slice_index table n)) (sym (grows.map node letter has.is.known))
        (subst (λ set. IsUnionRow more sets' rows set (slice_index table (map_at shapes node letter))) (sym (stays letter has.is))
        (IsUnionRow-kept (λ from c. all from 0 (has.within letter from c)) (of.union letter)));
  }

-- the nodes of rows
pub rows-sets : {shapes : List Shape} {sets : List (List ℕ)} {a : Automaton} {some : List Var} {rows : List ℕ} → AreSetRows shapes sets a some rows → All (HasSets shapes sets) rows
rows-sets {shapes} {sets} {rows} are = All-from_get_or (HasSets shapes sets) rows 0 (λ i h. (are.each i (get_or rows i 0) (slice_get-get_or rows i 0 h)).is)

-- merged rows, as more nodes and sets are known
pub EachMerged-kept : {shapes more : List Shape} {sets sets' : List (List ℕ)} (track : ℕ) {nodes answers : List ℕ} → Grows shapes more → SetsKept sets sets'
    → EachAnswers (IsMerged shapes sets track) nodes answers → EachAnswers (IsMerged more sets' track) nodes answers
EachMerged-kept track grows kept each = record { size = each.size; each = λ i h. IsMerged-grows grows kept (each.each i h) }
