use Rattle.std.proofs.Common.{◌≡◌, ◌≤◌, [], None, length}
use Rattle.play_loop.specs.Played.{IsDue, ports}
use Rattle.play_loop.specs.declared.player.GameState.TheVariants.{LineDue}
use Rattle.play_loop.proofs.GameSteps.{AtDue, SoFar}
use Rattle.play_loop.proofs.play.play_game.Given as goal

abbrev pub invariant-loop-read : goal.invariant-loop-read
invariant-loop-read g l =
    let player = g.P.Player in
    let source = g.S.Source in
    let sink = g.K.Sink in
    record {
      kept : player.is_kept (player.seen l.player);
      stands : player.rules.Stands (player.seen l.player) LineDue;
      goes_on : l.reader.stopped ≡ None;
      few : length l.reader.pending ≤ 256;
      first : IsDue player.rules l.before (player.seen l.fn.player) [];
      so_far :
          SoFar player.rules (AtDue player.rules l.before l.read (player.seen l.player)) l.before l.read (player.seen l.fn.player)
          (ports l.fn.reader.pending (source.left l.fn.source) (sink.written l.fn.sink)) (ports l.reader.pending (source.left l.source) (sink.written l.sink));
      reads : source.faults l.fn.source ≤ source.faults l.source;
      writes : sink.faults l.fn.sink ≤ sink.faults l.sink;
    }
