use Rattle.std.proofs.Common.{◌≡◌, ◌/◌, ◌^◌}
use Rattle.desk_describe.specs.Description.{rests_in}
use Rattle.desk_describe.proofs.lists.rests_below.Given as goal

abbrev pub invariant-loop-rest : goal.invariant-loop-rest
invariant-loop-rest l = record {
  bits : l.bits ≡ l.rests / 2 ^ l.rest;
  found : l.found.items ≡ rests_in l.rests l.rest;
}
