use Rattle.claim_check.proofs.in_turn.first_failing.Goals as goal

pub each-requires : goal.each-requires
each-requires g c = record { fits = (c.requires.fits, c.requires.items) }
