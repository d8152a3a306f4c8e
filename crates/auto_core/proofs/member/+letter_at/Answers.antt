use Rattle.std.proofs.Common.{rules}
use mir.Val.{SFits}
use Rattle.std.specs.Int.{w64}
use Rattle.auto_core.proofs.Members.{fits-cons}
use Rattle.auto_core.proofs.member.+letter_at.Goals as goal

pub returns-in-Some-clause-fits : goal.returns-in-Some-clause-fits
returns-in-Some-clause-fits t c =
    let fits : SFits w64 c.in-Some.value.now = search rules in
    rw c.in-Some.ensures.cases.0 (fits-cons c.in-Some.value.now c.in-Some.rest.now fits c.letter_at.ensures.fits)
