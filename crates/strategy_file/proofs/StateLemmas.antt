-- Flags and rows of states, one after another.
use Rattle.std.proofs.Common.{◌≡◌, ℕ, suc, ◌+◌, ◌-◌, ◌*◌, ◌^◌, ◌<◌, ◌≤◌, Bool, List, [], ◌∷◌, ◌++◌, map, length, take, drop, refl, sym, ap, ◌∙◌, arith}
use Rattle.std.specs.List.{flat_map}
use Rattle.std.proofs.lemmas.Grind.{common_steps}
use Rattle.std.proofs.lemmas.List.{take_all, take-append-le, drop-append-le, take-append-drop, length-append, length-drop}
use Rattle.std.proofs.lemmas.List.Elements.{All-append}
use Rattle.track_word.specs.declared.tracks.Var.{Var}
use Rattle.track_word.specs.Tracks.{IsAscending}
use Rattle.auto_core.specs.Rows.{AreTables}
use Rattle.strategy_file.specs.States.{AreEntries, AreStates, states_in}
use Rattle.strategy_file.specs.Tables.{table_with}

-- one more row, and the sizes of what is left after it
long_enough : (size count width : ℕ) → size ≡ suc count * width → width ≤ size
long_enough size count width e = grind (arith, common_steps, e)

rest_of : (size count width : ℕ) → size ≡ suc count * width → size - width ≡ count * width
rest_of size count width e = grind (arith, common_steps, e)

module _ (width : ℕ) where
  pub states_in-push : (flags : List Bool) (next : List ℕ) (b : Bool) (row : List ℕ) → length next ≡ length flags * width → length row ≡ width
      → states_in width (flags ++ b ∷ []) (next ++ row) ≡ states_in width flags next ++ (b, row) ∷ []
  states_in-push [] [] b row size wide = ap (λ r. (b, r) ∷ []) (take_all width row (omega (arith, wide)))
  states_in-push [] (n ∷ next) b row size wide = absurd (omega (arith, size))
  states_in-push (a ∷ flags) next b row size wide =
      let long = long_enough (length next) (length flags) width size in
      let rest = length-drop width next ∙ rest_of (length next) (length flags) width size in
      rw (take-append-le width next row long, drop-append-le width next row long) (ap (λ states. (a, take width next) ∷ states) (states_in-push flags (drop width next) b row rest wide))

  flags_of : (flags : List Bool) (next : List ℕ) → map (λ s. s.0) (states_in width flags next) ≡ flags
  flags_of [] next = refl
  flags_of (b ∷ flags) next = ap (λ rest. b ∷ rest) (flags_of flags (drop width next))

  next_of : (flags : List Bool) (next : List ℕ) → length next ≡ length flags * width → flat_map (λ s. s.1) (states_in width flags next) ≡ next
  next_of [] [] size = refl
  next_of [] (n ∷ next) size = absurd (omega (arith, size))
  next_of (b ∷ flags) next size =
      let rest = length-drop width next ∙ rest_of (length next) (length flags) width size in
      ap (λ others. take width next ++ others) (next_of flags (drop width next) rest) ∙ take-append-drop width next

  pub table_with-states : (first : List ℕ) (flags : List Bool) (next : List ℕ) → length next ≡ length flags * width
      → table_with first (states_in width flags next) ≡ record { first = first; next = next; accept = flags }
  table_with-states first flags next size = rw (flags_of flags next, next_of flags next size) refl

-- one more state
module _ (tracks states count : ℕ) (flags : List Bool) (next : List ℕ) (b : Bool) (row : List ℕ) (are : AreStates tracks states count flags next) (entries : AreEntries tracks states row) where
  pub AreStates-push : AreStates tracks states (count + 1) (flags ++ b ∷ []) (next ++ row)
  AreStates-push = record {
    flags_size = let l = length-append flags (b ∷ []) in let s = are.flags_size in omega (arith, l, s);
    next_size = let l = length-append next row in let s = are.next_size in let e = entries.size in grind (arith, common_steps, l, s, e);
    within = All-append (λ e. e < states) next row are.within entries.within;
  }

  pub states_in-step : states_in (2 ^ tracks) (flags ++ b ∷ []) (next ++ row) ≡ states_in (2 ^ tracks) flags next ++ (b, row) ∷ []
  states_in-step = states_in-push (2 ^ tracks) flags next b row (are.next_size ∙ ap (λ n. n * 2 ^ tracks) (sym are.flags_size)) entries.size

-- a first row, and the states, are the tables of an automaton
pub AreTables-states : (tracks : List Var) (states : ℕ) (first next : List ℕ) (flags : List Bool) → IsAscending tracks → length tracks ≤ 20 → 1 ≤ states → states ≤ 200000
    → AreEntries (length tracks) states first → AreStates (length tracks) states states flags next → AreTables tracks first next flags
AreTables-states tracks states first next flags ascending few some most entries are =
    let size = are.flags_size in
    record {
      ascending = ascending;
      few_tracks = few;
      some_state = omega (arith, size, some);
      few_states = omega (arith, size, most);
      first_size = entries.size;
      next_size = are.next_size ∙ ap (λ n. n * 2 ^ length tracks) (sym size);
      first_within = rw size entries.within;
      next_within = rw size are.within;
    }
