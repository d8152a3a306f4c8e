use Rattle.std.proofs.Common.{◌≡◌, ◌∙◌, ap, sym, slice_index, arith}
use Rattle.std.proofs.lemmas.Grind.{common_steps}
use Rattle.auto_core.specs.Dense.{place_of}
use Rattle.auto_core.proofs.Places.{place_of-last, chosen-place}
use Rattle.auto_core.proofs.dense.+node_from.Goals as goal

pub returns-then-track-tracks-clause-part : goal.returns-then-track-tracks-clause-part
returns-then-track-tracks-clause-part t c = record {
  known = c.in_ok-node.ensures.known;
  map = λ letter.
      let here : slice_index c.args.table.now c.args.offset ≡ slice_index c.args.table.now (place_of c.args.tracks c.args.track c.args.offset letter) =
      ap (λ k. slice_index c.args.table.now k) (sym (ap (λ n. place_of n c.args.track c.args.offset letter) (sym c.if-track-tracks.true) ∙ place_of-last c.args.track c.args.offset letter)) in
      c.in_ok-node.ensures.map letter ∙ here;
  top = let top = c.in_ok-node.ensures.top in let few = c.requires.few in let within = c.requires.track in omega arith;
}

pub returns-clause-part : goal.returns-clause-part
returns-clause-part t c = record {
  known = c.in_ok-node-2.ensures.known;
  map = λ letter.
      let low = c.in_ok-low.ensures.part in
      let high = c.in_ok-high.ensures.part in
      c.in_ok-node-2.ensures.map letter
      ∙ chosen-place _ _ _ _ _ _ _ _ letter (let ne = c.if-track-tracks.false in let le = c.requires.track in grind (arith, ne, le)) (grind (arith, common_steps))
      (c.in_ok-high.ensures.grows.map _ letter low.known ∙ low.map letter) (high.map letter);
  top = c.in_ok-node-2.ensures.top;
}
