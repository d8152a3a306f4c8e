use Rattle.std.proofs.Common.{◌≡◌, ◌∙◌, sym, ap, arith, refl, Some, None, option_copied}
use Rattle.std.proofs.lemmas.Str.Pattern.{split_parts}
use Rattle.trial_rows.proofs.fields.Fields.word.Goals as goal

pub returns-in-Some-split_once-clause-next : goal.returns-in-Some-split_once-clause-next
returns-in-Some-split_once-clause-next c =
    let text : c.args.self.now ≡ Some c.in-Some.text.now = sym c.self.view_is ∙ ap option_copied c.in-Some.is in
    let parts = split_parts 32 c.in-Some.text.now (Some (c.in-Some-split_once.field, c.in-Some-split_once.rest)) c.in-Some-split_once.ensures.cases (omega arith) in
    rw text (record { plain = parts.1; parts = parts.0 })

pub returns-in-None-clause-next : goal.returns-in-None-clause-next
returns-in-None-clause-next c =
    let text : c.args.self.now ≡ Some c.in-Some.text.now = sym c.self.view_is ∙ ap option_copied c.in-Some.is in
    rw text (record { plain = split_parts 32 c.in-Some.text.now None c.in-None.ensures.cases (omega arith); parts = refl })
