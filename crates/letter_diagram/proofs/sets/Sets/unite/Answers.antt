use Rattle.std.proofs.Common.{arith, sym, ap, length, ◌∙◌, ◌≡◌}
use Rattle.std.proofs.lemmas.List.{length-map}
use Rattle.letter_diagram.specs.Sets.{set_at}
use Rattle.letter_diagram.proofs.SetNumbers.{IsUnion-numbered, set_read, slice_get-last}
use Rattle.letter_diagram.proofs.sets.Sets.unite.Goals as goal

first : (c : goal.In_ok-number) → set_at c.args.self.now c.args.a ≡ c.as_slice.result.now
first c =
    let l = ap length c.self.view_is in
    let m = length-map c.self.inside.sets.items (λ s. s.items) in
    let known = c.requires.a_known in
    rw (← c.self.view_is) (
    set_read (λ s. s.items) c.self.inside.sets.items c.args.a c.index.result.now
    (omega (arith, l, m, known)) c.index.ensures)
    ∙ sym c.as_slice.ensures.value

second : (c : goal.In_ok-number) → set_at c.args.self.now c.args.b ≡ c.as_slice-2.result.now
second c =
    let l = ap length c.self.view_is in
    let m = length-map c.self.inside.sets.items (λ s. s.items) in
    let known = c.requires.b_known in
    rw (← c.self.view_is) (
    set_read (λ s. s.items) c.self.inside.sets.items c.args.b c.index-2.result.now
    (omega (arith, l, m, known)) c.index-2.ensures)
    ∙ sym c.as_slice-2.ensures.value

pub returns-clause-union : goal.returns-clause-union
returns-clause-union c =
    IsUnion-numbered c.in_ok-number.ensures.kept c.requires.a_known c.requires.b_known c.in_ok-number.ensures.number (first c) (second c) c.in_ok-both.ensures.members

pub returns-clause-answers : goal.returns-clause-answers
returns-clause-answers c = λ number from below.
    IsUnion-numbered c.in_ok-number.ensures.kept c.requires.a_known c.requires.b_known
    (slice_get-last _ _ _ number c.in_ok-number.ensures.sets from below) (first c) (second c) c.in_ok-both.ensures.members
