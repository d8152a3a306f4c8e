use Rattle.std.proofs.Common.{◌≡◌, ◌∙◌, subst}
use Rattle.std.proofs.lemmas.List.Elements.{All-map}
use Rattle.strategy_writer.specs.KeptClaims.{as_set}
use Rattle.strategy_writer.specs.SolvedFile.{IsOfKeptSet}
use Rattle.strategy_file.specs.StrategyFile.{places_of}
use Rattle.winning_sets.specs.Claimed.{IsValidBy}
use Rattle.winning_sets.specs.Solve.{IsSolution}
use Rattle.strategy_writer.proofs.KeptClaims.{kept_few}
use Rattle.strategy_file.proofs.ReadLemmas.{places_twice}
use Rattle.strategy_writer.proofs.kept.kept_claim.Goals as goal

pub returns-clause-claim : goal.returns-clause-claim
returns-clause-claim c =
    let all : c.as_slice.result.now ≡ places_of c.args.solved.now.winner c.args.solved.now.position c.args.solved.now.moves =
    c.as_slice.ensures.value ∙ (rw (c.masks.ensures.masks, c.winner.ensures, c.moves.ensures, c.turn.ensures, c.position-position.ensures) at c.in_ok-places.ensures) in
    record {
      position = c.position-position.ensures;
      winner = c.winner-2.ensures;
      moves = c.moves-2.ensures;
      places = places_twice as_set c.in_ok-sets.sets.items ∙ c.in_ok-sets.ensures.places ∙ all;
      sets = All-map (IsOfKeptSet c.args.solved.now) as_set c.in_ok-sets.sets.items c.in_ok-sets.ensures.sets;
    }

pub invariant_of-result : goal.invariant_of-result
invariant_of-result c =
    let s = c.args.solved.now in
    let valid : IsSolution s = subst (λ o. IsValidBy o s) c.requires.plan c.masks.ensures.valid in
    let all : c.as_slice.result.now ≡ places_of s.winner s.position s.moves =
    c.as_slice.ensures.value ∙ (rw (c.masks.ensures.masks, c.winner.ensures, c.moves.ensures, c.turn.ensures, c.position-position.ensures) at c.in_ok-places.ensures) in
    record { few = kept_few s.winner s.position s.moves c.in_ok-sets.sets.items (c.in_ok-sets.ensures.places ∙ all) valid.few valid.moves }
