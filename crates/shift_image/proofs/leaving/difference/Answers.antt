use Rattle.shift_image.proofs.Lefts.{differs}
use Rattle.shift_image.proofs.leaving.difference.Goals as goal

pub returns : goal.returns
returns c =
    let only = c.in_ok-only.ensures in
    differs only.tracks only.words only.within (record { reached = only.reached; few = only.few })
