use Rattle.std.proofs.Common.{arith, ◌<◌, length, get_or, slice_set, ◌∙◌}
use Rattle.std.proofs.lemmas.Option.{slice_get-get_or}
use Rattle.std.proofs.lemmas.List.Elements.{All-get_or}
use Rattle.auto_predecessors.proofs.Climbs.{IsListed-set, AddsListed-set, AreListedBelow-adds, owned_more}
use Rattle.auto_predecessors.proofs.ways.own_all.Goals as goal

pub loop-state-preserved : goal.loop-state-preserved
loop-state-preserved c =
    let rows = c.args.rows.now in
    let owners = c.loop-state.owners in
    let state = c.loop-state.state in
    let before = c.loop-state.invariant in
    let place = get_or rows state 0 in
    let within = All-get_or (λ p. p < length c.args.owners.now) rows state 0 (omega (arith, c.requires.states, c.loop-state-test.true)) c.requires.within in
    let size = before.size in
    let list = get_or owners place c.index-owners-rows.result in
    let at = slice_get-get_or owners place c.index-owners-rows.result (omega (arith, within, size)) in
    let items = c.in_ok-push.ensures.ok in
    let adds = AddsListed-set owners place state list c.push.new.self at items in
    record {
      size = adds.size ∙ before.size;
      below = AreListedBelow-adds before.below adds;
      owned = owned_more rows before.owned adds (IsListed-set owners place state list c.push.new.self at items);
    }
