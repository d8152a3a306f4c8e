use Rattle.std.proofs.Common.{◌≡◌, ◌+◌, ◌∷◌, ◌++◌, ◌∙◌, [], ap, subst, take, map, get_or, List, ℕ}
use Rattle.std.specs.Prelude.{Contains}
use Rattle.std.proofs.lemmas.List.{map_push, take_more}
use Rattle.std.proofs.lemmas.List.Elements.{All-push, Contains-get_or}
use Rattle.strategy_writer.specs.KeptClaims.{as_set}
use Rattle.strategy_writer.specs.SolvedFile.{IsOfKeptSet}
use Rattle.strategy_writer.proofs.SolvedFiles.{kept_there, pair_of}
use Rattle.strategy_writer.proofs.kept.kept_sets.Goals as goal

pub kept_set-requires : goal.kept_set-requires
kept_set-requires c =
    let place : ℕ × ℕ = get_or c.args.places.now c.loop-ply.ply-index (0, 0) in
    let there : Contains {X = ℕ × ℕ} c.args.places.now place = Contains-get_or c.args.places.now c.loop-ply.ply-index (0, 0) c.loop-ply-test.true in
    kept_there c.args.solved.now c.requires.valid place.0 place.1 (subst (λ (ps : List (ℕ × ℕ)). Contains {X = ℕ × ℕ} ps place) c.requires.all there)

pub loop-ply-preserved : goal.loop-ply-preserved
loop-ply-preserved c =
    let place : ℕ × ℕ = get_or c.args.places.now c.loop-ply.ply-index (0, 0) in
    let own : (c.in_ok-set.set.ply, c.in_ok-set.set.mask) ≡ place = pair_of c.in_ok-set.set.ply c.in_ok-set.set.mask place c.in_ok-set.ensures.ply c.in_ok-set.ensures.mask in
    let mapped : map {B = ℕ × ℕ} (λ s. (s.ply, s.mask)) c.push.new.self.items ≡ map {B = ℕ × ℕ} (λ s. (s.ply, s.mask)) c.loop-ply.sets.items ++ place ∷ [] =
    rw c.in_ok-push.ensures.items
    (map_push (λ s. (s.ply, s.mask)) c.loop-ply.sets.items c.in_ok-set.set
    ∙ ap (λ (x : ℕ × ℕ). map {B = ℕ × ℕ} (λ s. (s.ply, s.mask)) c.loop-ply.sets.items ++ x ∷ []) own) in
    let taken_more : take (c.loop-ply.ply-index + 1) c.args.places.now ≡ take c.loop-ply.ply-index c.args.places.now ++ place ∷ [] =
    take_more c.args.places.now c.loop-ply.ply-index (0, 0) c.loop-ply-test.true in
    record {
      places = rw (mapped, taken_more) (ap (λ ps. ps ++ place ∷ []) c.loop-ply.invariant.places);
      sets = rw c.in_ok-push.ensures.items (All-push (λ s. IsOfKeptSet c.args.solved.now (as_set s)) c.loop-ply.sets.items c.in_ok-set.set c.loop-ply.invariant.sets c.in_ok-set.ensures.set);
    }
