use Rattle.std.proofs.Common.{◌≡◌, ◌↔◌, Option, Some, length, ap, subst, sym, ◌∙◌}
use Rattle.std.specs.Prelude.{IsSomeAnd, IsTrue}
use Rattle.auto_core.specs.Automaton.{Automaton}
use Rattle.auto_core.specs.Integers.{IsAccepted}
use Rattle.mask_sets.specs.Stock.{mask_of}
use Rattle.mask_sets.specs.Tuple.{tuple_of}
use Rattle.winning_sets.specs.Solve.{kept_at}
use Rattle.winning_sets.proofs.Places.{kept_at-table}
use Rattle.winning_sets.proofs.Tuples.{tuple_count}
use Rattle.winning_sets.proofs.ValidLemmas.{valid_formed}
use Rattle.winning_sets.proofs.solved.Solved.has_tuple.Goals as goal

pub contains-requires : goal.contains-requires
contains-requires c =
    let s = c.args.self.now in
    λ a is.
    let at : kept_at s c.args.ply (mask_of c.args.p.now) ≡ Some a =
    sym (kept_at-table s c.args.ply (mask_of c.args.p.now) c.masks.result.now c.kept_sets.result.now c.new.result c.masks.ensures.masks c.kept_sets.ensures.sets c.new.ensures) ∙ is in
    let formed = valid_formed s c.masks.ensures.valid c.args.ply (mask_of c.args.p.now) a at in
    record { integers = formed.integers; count = tuple_count c.requires ∙ sym (ap length formed.tracks) }

pub returns : goal.returns
returns c =
    let s = c.args.self.now in
    let same = kept_at-table s c.args.ply (mask_of c.args.p.now) c.masks.result.now c.kept_sets.result.now c.new.result c.masks.ensures.masks c.kept_sets.ensures.sets c.new.ensures in
    subst (λ (o : Option Automaton). IsTrue c.contains.result ↔ IsSomeAnd o (λ a. IsAccepted a (tuple_of c.args.p.now))) same c.contains.ensures
