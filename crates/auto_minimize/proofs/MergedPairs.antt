-- The automaton over classes of pairs of states is that of the product.
use Rattle.std.proofs.Common.{◌≡◌, ℕ, List, IsTrue, Result, Ok, Err, IfOk, OnOk, ap, ◌∙◌, subst}
use Rattle.track_word.specs.Tracks.{with_vars}
use Rattle.diagram_product.specs.declared.absorbing.Absorbing.{Absorbing}
use Rattle.auto_core.specs.Automaton.{Automaton}
use Rattle.auto_core.specs.Words.{AcceptsWhere}
use Rattle.auto_walk.specs.Walker.{Walker, place_of, IsReached, MoreThan}
use Rattle.auto_bool.specs.declared.connective.Connective.{Connective}
use Rattle.auto_bool.specs.Absorbed.{AreSinks, absorbing_walker, IsProduct}
use Rattle.auto_bool.proofs.PairLemmas.{IsProduct-words}
use Rattle.auto_merge.specs.Graph.{Graph}
use Rattle.auto_merge.specs.Merged.{IsMerged}

pub IsProduct-merged : {Spot : Type 0} (graph : Graph Spot) (g : Absorbing) (a b m : Automaton) (connective : Connective) → AreSinks a b connective g
    → graph.walker ≡ absorbing_walker g (with_vars a.tracks b.tracks) a b connective → ((place : List ℕ) → graph.is_place place → IsReached graph.walker place)
    → IsMerged graph m → IsProduct a b connective m
IsProduct-merged graph g a b m connective deciding_states same reached merged =
    IsProduct-words g a b m connective deciding_states (merged.tracks ∙ ap (λ w. w.tracks) same)
    (subst (λ w. AcceptsWhere w.tracks (λ word. IsTrue (w.final (place_of w word))) m) same merged.words) (merged.reached reached)

-- more places than may be, of the same walk
pub MoreThan-same : {w v : Walker} {most budget : ℕ} → w ≡ v → most ≡ budget → MoreThan w most → MoreThan v budget
MoreThan-same {v} {most} same few more = subst (MoreThan v) few (subst (λ w. MoreThan w most) same more)

-- what is so of each result is so where there is one
pub OnOk-from : {X E : Type 0} {P : X → Type 0} {Q : Type 0} (r : Result X E) → IfOk r P → ((x : X) → P x → Q) → OnOk r Q
OnOk-from (Ok x) h so = so x h
OnOk-from (Err e) h so = tt
