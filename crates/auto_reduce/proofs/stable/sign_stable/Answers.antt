use Rattle.auto_reduce.proofs.Stables.{DecidesIntegers-words}
use Rattle.auto_reduce.proofs.stable.sign_stable.Goals as goal

pub returns : goal.returns
returns c =
    let made = c.in_ok-m.ensures in
    let same = DecidesIntegers-words c.in_ok-m.m c.args.a.now made.tracks made.words in
    let stay = c.in_ok-stable.ensures in
    (λ said. same.0 (stay.0 said), λ d. stay.1 (same.1 d))
