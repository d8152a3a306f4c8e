-- Ascending lists of tracks, and words over some of their tracks.
use Rattle.std.specs.Prelude.{ℕ, ◌+◌, ◌*◌, List, [], ◌∷◌, map, nat_eq, nat_lt, ◌==◌, if◌then◌else◌, filter, not, ℤ}
use Rattle.std.specs.List.{position_or_len}
use Rattle.std.specs.List.Sorted.{IsStrictlyIncreasing}
use Rattle.std.specs.Int.{bit_at}
use Rattle.track_word.specs.declared.tracks.Var.{Var}
use Rattle.track_word.specs.Word.{val}

-- tracks in ascending order, without repeats
abbrev pub IsAscending : List Var → Type 0
IsAscending tracks = IsStrictlyIncreasing (map (λ v. v.0) tracks)

-- an ascending list of tracks with one more track
abbrev pub with_var : Var → List Var → List Var
with_var x [] = x ∷ []
with_var x (y ∷ ys) = if nat_lt x.0 y.0 then x ∷ y ∷ ys else (if x.0 == y.0 then y ∷ ys else y ∷ with_var x ys)

-- an ascending list of tracks with the tracks of another list
abbrev pub with_vars : List Var → List Var → List Var
with_vars [] ys = ys
with_vars (x ∷ xs) ys = with_var x (with_vars xs ys)

-- a list of tracks without one track
abbrev pub without_var : Var → List Var → List Var
without_var x ys = filter (λ y. not (y.0 == x.0)) ys

-- the index of a track in a list of tracks, or the length of the list
abbrev pub place : List Var → Var → ℕ
place tracks var = position_or_len (λ other. nat_eq other.0 var.0) tracks

-- the letter over the second list of tracks whose bits are those of a letter over the first
abbrev pub restrict : List Var → List Var → ℕ → ℕ
restrict all [] letter = 0
restrict all (var ∷ vars) letter = bit_at letter (place all var) + 2 * restrict all vars letter

-- a word over the first list of tracks, restricted to the second
abbrev pub part_of : List Var → List Var → List ℕ → List ℕ
part_of all some word = map (restrict all some) word

-- a value for each variable
abbrev pub Values : Type 0
Values = ℕ → ℤ

-- the value that a word over the tracks spells on each track
abbrev pub word_values : List Var → List ℕ → Values
word_values tracks word x = val word (place tracks (record { 0 = x }))

-- the values of some variables, in order
abbrev pub values_at : List Var → Values → List ℤ
values_at vars v = map (λ x. v x.0) vars
