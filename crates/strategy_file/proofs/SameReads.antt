-- The claim of the tables of a claim has the same sets.
use Rattle.std.proofs.Common.{◌↔◌, ℕ, Bool, true, false, ◌&&◌, ◌==◌, List, [], ◌∷◌, map, Option, Some, refl}
use Rattle.std.specs.Prelude.{if◌then◌else◌}
use Rattle.auto_core.specs.Automaton.{Automaton, Accepts}
use Rattle.mate_plan.specs.Claim.{ClaimedSet, claimed_in}
use Rattle.mate_plan.specs.SameClaim.{AreSameSets, IsSameSet}
use Rattle.strategy_file.specs.Claims.{set_with}
use Rattle.strategy_file.specs.Laws.{ReadIsSame}
use Rattle.strategy_file.specs.StrategyFile.{chart_of}
use Rattle.strategy_file.specs.Tables.{automaton_of}

-- an automaton with its tables alone
unfoldable pub listed : Automaton → Automaton
listed a = automaton_of a.tracks a.first a.next a.accept

pub same_words : (a : Automaton) (word : List ℕ) → Accepts a word ↔ Accepts (listed a) word
unfolding listed
same_words a [] = (λ h. h, λ h. h)
same_words a (sign ∷ letters) = (λ h. h, λ h. h)

same_set : (a : Automaton) → IsSameSet a (listed a)
unfolding listed
same_set a = record { tracks = refl; words = record { same = λ word is. same_words a word } }

pub either : (b : Bool) {x y : Automaton} (o u : Option Automaton) → IsSameSet x y → AreSameSets o u → AreSameSets (if b then Some x else o) (if b then Some y else u)
either true o u here later = here
either false o u here later = later

same_in : (sets : List ClaimedSet) (ply mask : ℕ) → AreSameSets (claimed_in sets ply mask) (claimed_in (map set_with (map chart_of sets)) ply mask)
unfolding listed
same_in [] ply mask = tt
same_in (s ∷ sets) ply mask =
    either ((s.ply == ply) && (s.mask == mask)) (claimed_in sets ply mask) (claimed_in (map set_with (map chart_of sets)) ply mask) (same_set s.set) (same_in sets ply mask)

pub read_is_same : ReadIsSame
read_is_same = λ c. record { position = refl; winner = refl; moves = refl; sets = λ ply mask. same_in c.sets ply mask }
