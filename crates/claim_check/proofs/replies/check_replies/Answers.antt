use Rattle.claim_check.proofs.replies.check_replies.Goals as goal

pub first_failing-requires : goal.first_failing-requires
first_failing-requires c = record { fits = c.requires.signed; items = c.requires.low }
