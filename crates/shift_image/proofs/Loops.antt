-- What a loop over a list has shown at its end.
use Rattle.std.proofs.Common.{ℕ, ◌≤◌, List, length, take, All, sym}
use Rattle.std.proofs.lemmas.List.{take_all}
use Rattle.std.proofs.lemmas.List.Elements.{All-same}

pub all-whole : {X : Type 0} (P : X → Type 0) (xs : List X) (i : ℕ) → length xs ≤ i → All P (take i xs) → All P xs
all-whole P xs i past h = All-same P xs (take i xs) (sym (take_all i xs past)) h
