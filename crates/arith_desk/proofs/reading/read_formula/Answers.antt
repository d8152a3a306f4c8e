use Rattle.std.proofs.Common.{◌≡◌, ◌+◌, ◌-◌, length, refl, arith, subst}
use Rattle.lin_formula.specs.TreeOf.{tree_of}
use Rattle.arith_desk.specs.Line.{AreFields, texts}
use Rattle.arith_desk.specs.Reading.{IsFirstRefused}
use Rattle.arith_desk.proofs.WholeLemmas.{all_fields, count_texts, first_refused, short_line, whole_line, whole_question, whole_within}
use Rattle.arith_desk.proofs.reading.read_formula.Goals as goal

pub returns-in-Ok-clause-formula : goal.returns-in-Ok-clause-formula
returns-in-Ok-clause-formula c =
    let line = c.args.line.now in
    let fields = texts c.push_fields.new.fields.items in
    let adds = rw c.new-fields.ensures.items at c.in_ok-push_fields.ensures in
    let are : AreFields line fields = all_fields refl adds in
    let read = rw c.as_slice.ensures.value at c.in-Ok.ensures.ok in
    whole_line are read

pub returns-in-Ok-clause-question : goal.returns-in-Ok-clause-question
returns-in-Ok-clause-question c =
    let line = c.args.line.now in
    let fields = texts c.push_fields.new.fields.items in
    let adds = rw c.new-fields.ensures.items at c.in_ok-push_fields.ensures in
    let are : AreFields line fields = all_fields refl adds in
    let read = rw c.as_slice.ensures.value at c.in-Ok.ensures.ok in
    whole_question c.requires are read

pub overflow_sub-result : goal.overflow_sub-result
overflow_sub-result c =
    let fields = texts c.push_fields.new.fields.items in
    let stops = rw (c.as_slice.ensures.value, c.in-Err-Left.field-0-is) at c.in-Err-Left.ensures.err in
    let within = whole_within fields c.in-Err-Left.left stops in
    let count = count_texts c.push_fields.new.fields.items in
    omega arith

pub overflow_cast-result : goal.overflow_cast-result
overflow_cast-result c =
    let line = c.args.line.now in
    let fields = texts c.push_fields.new.fields.items in
    let adds = rw c.new-fields.ensures.items at c.in_ok-push_fields.ensures in
    let are : AreFields line fields = all_fields refl adds in
    let short = short_line c.requires are in
    let count = count_texts c.push_fields.new.fields.items in
    omega arith

pub returns-in-Err-Left-clause-refused : goal.returns-in-Err-Left-clause-refused
returns-in-Err-Left-clause-refused c =
    let line = c.args.line.now in
    let fields = texts c.push_fields.new.fields.items in
    let adds = rw c.new-fields.ensures.items at c.in_ok-push_fields.ensures in
    let are : AreFields line fields = all_fields refl adds in
    let stops = rw (c.as_slice.ensures.value, c.in-Err-Left.field-0-is) at c.in-Err-Left.ensures.err in
    let count = count_texts c.push_fields.new.fields.items in
    let number : length fields - c.in-Err-Left.left + 1 ≡ c.len.result - c.in-Err-Left.left + 1 = omega arith in
    subst (IsFirstRefused line) number (first_refused c.in-Err-Left.left are stops)
