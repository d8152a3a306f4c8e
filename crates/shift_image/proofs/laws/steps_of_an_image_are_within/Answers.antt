use Rattle.shift_image.proofs.Quantified.{steps-within}
use Rattle.shift_image.proofs.laws.steps_of_an_image_are_within.Goals as goal

pub returns : goal.returns
returns c = λ i e budget each is few. steps-within (record {
  conjunctions = c.conjunctions_are_bounded.ensures;
  equations = c.equations_are_bounded.ensures;
  projections = c.projections_are_bounded.ensures;
  states = c.states_bound_residuals.ensures;
}) is few
