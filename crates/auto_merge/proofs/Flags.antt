-- Whether the places that got the classes first are accepting, and all that an automaton over classes is made of.
use Rattle.std.proofs.Common.{◌≡◌, ℕ, ◌<◌, ◌+◌, Bool, false, List, [], ◌∷◌, ◌++◌, length, take, get_or, slice_get, Option, Some, arith, sym, ap, ◌∙◌, subst, inl, inr}
use Rattle.std.proofs.lemmas.Bool.{cases_lt}
use Rattle.std.proofs.lemmas.List.{length_push, get_or_append_left, get_or_push, take_more}
use Rattle.std.proofs.lemmas.Option.{slice_get_within, slice_get-get_or, get_or_from_slice_get, same_Some}
use Rattle.auto_core.specs.Rows.{dense}
use Rattle.auto_walk.specs.Walker.{Walker, AreTracks}
use Rattle.auto_walk.specs.Rows.{IsFlagOf}
use Rattle.auto_merge.specs.declared.merging.Merging.{Merging}
use Rattle.auto_merge.specs.Graph.{Graph, IsRowSpot}
use Rattle.auto_merge.specs.Merging.{IsMerging, Keeps}
use Rattle.auto_merge.specs.Merged.{IsRowTo, AreClassFlags, IsMerged, IsSettledIn, AreClassRowsIn, AreClassFlagsIn}
use Rattle.auto_merge.proofs.Padded.{classed_count_few}
use Rattle.auto_merge.proofs.Mergings.{class_few}
use Rattle.auto_merge.proofs.ClassStates.{IsRowTo-led, IsRowTo-more, AreMade, IsMerged-classes}

AreClassFlags-push : (w : Walker) (places : List (List ℕ)) (done : List ℕ) (number : ℕ) {flags : List Bool} (flag : Bool) → IsFlagOf w places number flag → AreClassFlags w places done flags
    → AreClassFlags w places (done ++ number ∷ []) (flags ++ flag ∷ [])
AreClassFlags-push w places done number {flags} flag is all =
    let size = all.size in
    let longer = length_push done number in
    let longer' = length_push flags flag in
    record {
      size = omega (arith, size, longer, longer');
      at = λ class owner has.
          let within = slice_get_within (done ++ number ∷ []) class has.number has.at in
          let here = get_or_from_slice_get (done ++ number ∷ []) class has.number has.number has.at in
          elim (cases_lt class (length done)) [
            | inl before ↦
                let same = sym (get_or_append_left done (number ∷ []) has.number class before) ∙ here in
                get_or_append_left flags (flag ∷ []) false class (omega (arith, before, size))
                ∙ all.at class owner (record { number = has.number; at = slice_get-get_or done class has.number before ∙ ap Some same; is = has.is })
            | inr past ↦
                let end : length done ≡ class = omega (arith, within, longer, past) in
                let same : number ≡ has.number = sym (get_or_push done number has.number class end) ∙ here in
                let place = same_Some is.0 owner (sym is.1 ∙ ap (slice_get places) same ∙ has.is) in
                get_or_push flags flag false class (omega (arith, end, size)) ∙ is.2 ∙ ap w.final place
          ];
    }

-- one flag more
pub AreClassFlags-more : (w : Walker) (places : List (List ℕ)) (owners : List ℕ) (i number : ℕ) {flags : List Bool} (flag : Bool) → i < length owners → number ≡ get_or owners i number → IsFlagOf w places number flag
    → AreClassFlags w places (take i owners) flags → AreClassFlags w places (take (i + 1) owners) (flags ++ flag ∷ [])
AreClassFlags-more w places owners i number {flags} flag below at is all =
    subst (λ l. AreClassFlags w places l (flags ++ flag ∷ [])) (sym (take_more owners i number below ∙ ap (λ n. take i owners ++ n ∷ []) (sym at))) (AreClassFlags-push w places (take i owners) number flag is all)

-- ---- all that an automaton over classes is made of

module _ {R Spot Seen Memo : Type 0} {g : Graph Spot} {places : Seen → List (List ℕ)} {answers : Memo → Option ℕ → Spot → ℕ → Type 0} where
  -- the first row, as more classes get their rows
  pub IsRowTo-settled : {old new : Merging R Spot Seen Memo} {spot : Spot} {node : ℕ} (lead : ℕ → List ℕ) → IsMerging g places answers old → Keeps places old new → IsRowSpot g lead spot
      → IsSettledIn g places old spot node → IsRowTo g.walker (places new.led.seen) new.table.items new.led.to lead node
  IsRowTo-settled lead before keeps row led = IsRowTo-more (record { kept = keeps.classes }) keeps.nodes (IsRowTo-led before.seen.different row led)

  pub AreMade-merging : {m : Merging R Spot Seen Memo} {first : ℕ} {rows : List ℕ} {accept : List Bool} → AreTracks g.walker.tracks → IsMerging g places answers m
      → IsRowTo g.walker (places m.led.seen) m.table.items m.led.to g.walker.first first → AreClassRowsIn g places m rows → length rows ≡ length m.owners.items → AreClassFlagsIn g places m accept
      → AreMade g.walker (places m.led.seen) m.table.items m.owners.items m.led.to first rows accept
  AreMade-merging {m} tracks is first rows size flags = record {
    tracks = tracks;
    different = is.seen.different;
    few = class_few is.seen is.classes (length m.owners.items) (omega arith);
    classes = is.classes;
    first_row = first;
    class_rows = rows;
    rows_size = size;
    flags = flags;
  }

  pub IsMerged-merging : {m : Merging R Spot Seen Memo} {first : ℕ} {rows : List ℕ} {accept : List Bool} → IsMerging g places answers m
      → AreMade g.walker (places m.led.seen) m.table.items m.owners.items m.led.to first rows accept → IsMerged g (dense g.walker.tracks m.led.to first rows accept)
  IsMerged-merging {m} is made =
      let few = is.classes.few in
      let count = classed_count_few m.table.items in
      let room = is.classes.room in
      IsMerged-classes is.seen (omega (arith, few, count, room)) made
