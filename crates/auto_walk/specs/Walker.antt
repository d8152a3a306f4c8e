-- Places that words reach, and the automaton whose states are these places.
use Rattle.std.specs.Prelude.{◌≡◌, ◌≢◌, ◌↔◌, ℕ, ◌+◌, ◌≤◌, Bool, IsTrue, List, [], ◌∷◌, length, fold, All, AllPairs}
use Rattle.limits.specs.declared.numbers.TheConstants.{MOST_TRACKS}
use Rattle.track_word.specs.declared.tracks.Var.{Var}
use Rattle.track_word.specs.Word.{IsWord}
use Rattle.track_word.specs.Tracks.{IsAscending}
use Rattle.auto_core.specs.Automaton.{Automaton, state_of, Accepts}
use Rattle.auto_core.specs.Reduced.{AllReached}

-- a place for each sign letter, a next place for each place and further letter, and which places accept
pub record Walker : Type 0 where
  pub tracks : List Var
  pub first : ℕ → List ℕ
  pub next : List ℕ → ℕ → List ℕ
  pub final : List ℕ → Bool

-- the place that a word reaches
abbrev pub place_of : Walker → List ℕ → List ℕ
place_of w [] = []
place_of w (sign ∷ letters) = fold w.next (w.first sign) letters

-- ascending tracks, at most 20
pub record AreTracks (tracks : List Var) : Type 0 where
  pub ascending : IsAscending tracks
  pub few : length tracks ≤ MOST_TRACKS

-- some word reaches the place
pub record IsReached (w : Walker) (place : List ℕ) : Type 0 where
  pub word : List ℕ
  pub is_word : IsWord (length w.tracks) word
  pub leads : place_of w word ≡ place

-- budget + 1 words, each two of which reach different places
pub record MoreThan (w : Walker) (budget : ℕ) : Type 0 where
  pub words : List (List ℕ)
  pub count : length words ≡ budget + 1
  pub are_words : All (IsWord (length w.tracks)) words
  pub apart : AllPairs (λ u v. place_of w u ≢ place_of w v) words

-- the automaton has one state for each place that a word reaches, and accepts at the accepting places
pub record IsWalked (w : Walker) (m : Automaton) : Type 0 where
  pub tracks : m.tracks ≡ w.tracks
  pub words : (word : List ℕ) → IsWord (length w.tracks) word → Accepts m word ↔ IsTrue (w.final (place_of w word))
  pub reached : AllReached m
  pub same : (u v : List ℕ) → IsWord (length w.tracks) u → IsWord (length w.tracks) v
      → (state_of m u ≡ state_of m v) ↔ (place_of w u ≡ place_of w v)
