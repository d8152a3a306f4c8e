use Rattle.chess_text.proofs.Pairs.{no_two_fields, fields_are}
use Rattle.chess_text.proofs.fields.split_fields.Goals as goal

pub returns-in_default-clause-none : goal.returns-in_default-clause-none
returns-in_default-clause-none c = no_two_fields c.args.text.now c.in_default.ensures.none

pub returns-then-not-is_field-2-clause-none : goal.returns-then-not-is_field-2-clause-none
returns-then-not-is_field-2-clause-none c = λ t.
    let some = c.in-Some.ensures.some in
    let fields = fields_are c.args.text.now c.in-Some.first.now c.in-Some.second.now some.0 some.1 t in
    let is = c.is_field-2.ensures.1 fields.1 in
    cc
