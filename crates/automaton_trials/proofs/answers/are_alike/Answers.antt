use Rattle.std.proofs.Common.{◌∙◌, sym}
use Rattle.std.proofs.lemmas.Slice.Eq.{slice_eq-Decides}
use Rattle.lin_formula.proofs.Equality.{same_var}
use Rattle.automaton_trials.proofs.answers.are_alike.Goals as goal

pub returns : goal.returns
returns c = λ same.
    sym c.tracks.ensures.tracks ∙ (slice_eq-Decides same_var c.tracks.result.now c.tracks-2.result.now c.eq.result c.eq.ensures).0 same ∙ c.tracks-2.ensures.tracks
