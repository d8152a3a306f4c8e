use Rattle.std.proofs.Common.{rules, ◌≡◌, ◌≢◌, ℕ, ◌<◌, ◌^◌, All, AllPairs, length, sym, subst}
use Rattle.track_word.specs.Word.{IsWord}
use Rattle.letter_diagram.specs.Relabelled.{relabelled}
use Rattle.auto_core.specs.Automaton.{width}
use Rattle.auto_core.proofs.Renamed.{AreRenamed, AreRenamed-brought, AreRows-renamed, words-renamed, DecidesIntegers-renamed, AllReached-renamed, IsReduced-renamed}
use Rattle.auto_core.proofs.Inverses.{covered}
use Rattle.auto_core.proofs.auto.Auto.over_tracks.Goals as goal
use Rattle.auto_core.proofs.auto.Auto.over_tracks.Goals.{In_ok-accept, After-diagrams}

accept-is : (c : In_ok-accept) → c.in_ok-accept.accept.items ≡ c.args.self.now.accept
accept-is c = search rules

pub from_diagrams-renamed-requires : goal.from_diagrams-renamed-requires
from_diagrams-renamed-requires c =
    AreRows-renamed _ _ c.nodes_over.ensures.over c.requires.ascending c.requires.few (accept-is c) c.requires.places
    (AreRenamed-brought _ _ _ _ _ _ c.in_ok-diagrams.ensures.brought c.remove-first.ensures.value c.remove-first.ensures.items)

accept-end : (c : After-diagrams) → c.from_diagrams-renamed.result.accept ≡ c.args.self.now.accept
accept-end c = search rules

made-end : (c : After-diagrams)
    → AreRenamed c.args.self.now c.from_diagrams-renamed.result.shapes c.args.places.now c.from_diagrams-renamed.result.first_node c.from_diagrams-renamed.result.row_nodes
made-end c =
    let e = c.from_diagrams-renamed.ensures in
    rw (e.shapes, e.first_node, e.row_nodes) (AreRenamed-brought _ _ _ _ _ _ c.in_ok-diagrams.ensures.brought c.remove-first.ensures.value c.remove-first.ensures.items)

pub returns-clause-words : goal.returns-clause-words
returns-clause-words c = λ word is.
    words-renamed _ _ _ c.nodes_over.ensures.over c.diagrams.ensures.nodes c.requires.count (accept-end c) (made-end c)
    word (subst (λ t. IsWord (length t) word) (sym c.from_diagrams-renamed.ensures.tracks) is)

pub returns-clause-integers : goal.returns-clause-integers
returns-clause-integers c = DecidesIntegers-renamed _ _ _ c.nodes_over.ensures.over c.diagrams.ensures.nodes c.requires.count (accept-end c) (made-end c)

-- each letter that the automaton reads is read from some letter over the tracks
covers : (c : After-diagrams) → AllPairs (λ p q. p ≢ q) c.args.places.now → (letter : ℕ) → letter < width c.args.self.now
    → (from : ℕ) × (from < width c.from_diagrams-renamed.result) × (relabelled c.args.places.now from ≡ letter)
covers c different letter small =
    covered c.args.places.now (length c.from_diagrams-renamed.result.tracks) letter different
    (subst (λ t. All (λ p. p < length t) c.args.places.now) (sym c.from_diagrams-renamed.ensures.tracks) c.requires.places) (subst (λ n. letter < 2 ^ n) (sym c.requires.count) small)

pub returns-clause-reached : goal.returns-clause-reached
returns-clause-reached c = λ reached different.
    AllReached-renamed _ _ _ c.nodes_over.ensures.over c.diagrams.ensures.nodes c.requires.count (accept-end c) (made-end c) (covers c different) reached

pub returns-clause-reduced : goal.returns-clause-reduced
returns-clause-reduced c = λ reduced different.
    IsReduced-renamed _ _ _ c.nodes_over.ensures.over c.diagrams.ensures.nodes c.requires.count (accept-end c) (made-end c) (covers c different) reduced
