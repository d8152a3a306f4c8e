use Rattle.std.proofs.Common.{◌∙◌}
use Rattle.line_engine.proofs.StartLemmas.{accepts_all}
use Rattle.line_engine.proofs.engine.no_distance.Goals as goal

pub returns : goal.returns
returns c =
    let flags = rw c.new-accept.ensures.items at c.in_ok-push-3.ensures.items in
    accepts_all c.in_ok-one.one c.in_ok-one.ensures.valid (c.in_ok-one.ensures.tracks ∙ c.new.ensures.items) (c.in_ok-one.ensures.accept ∙ flags)
