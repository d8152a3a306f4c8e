use Rattle.std.proofs.Common.{arith, ◌∙◌, ◌≡◌, [], ◌∷◌}
use Rattle.std.proofs.lemmas.Int.{to_z-of_z}
use Rattle.std.specs.Int.{w64}
use Rattle.auto_core.proofs.Prefixes.{AreTables-prefix, value_words-same}
use Rattle.auto_core.proofs.Members.{DecidesIntegers-values}
use Rattle.auto_core.proofs.auto.Auto.value.Goals as goal

pub from_rows-requires : goal.from_rows-requires
from_rows-requires c =
    rw (c.in_ok-tracks.ensures.items, c.in_ok-first.ensures.items)
    (AreTables-prefix _ c.state_after.ensures c.state_after-2.ensures c.in_ok-next.ensures c.in_ok-accept.ensures)

pub returns-clause-words : goal.returns-clause-words
returns-clause-words c =
    let made = c.in_ok-decided.ensures in
    value_words-same _ _ (to_z-of_z w64 c.args.value c.ranges.value) c.ranges.value made.valid (made.tracks ∙ c.in_ok-tracks.ensures.items)
    (made.first ∙ c.in_ok-first.ensures.items) (rw made.next c.in_ok-next.ensures) (rw made.accept c.in_ok-accept.ensures) c.state_after.ensures
    c.state_after-2.ensures

pub returns-clause-tracks : goal.returns-clause-tracks
returns-clause-tracks c = c.in_ok-decided.ensures.tracks ∙ c.in_ok-tracks.ensures.items

pub returns-clause-few : goal.returns-clause-few
returns-clause-few c = let size = c.in_ok-accept.ensures.size in rw c.in_ok-decided.ensures.accept (omega (arith, size))

pub returns-clause-integers : goal.returns-clause-integers
returns-clause-integers c =
    DecidesIntegers-values c.repeating_first_letter_keeps_values.ensures c.in_ok-decided.decided (c.args.var ∷ [])
    (λ v. v c.args.var.0 ≡ c.args.value) (returns-clause-tracks c) (returns-clause-words c)
