use Rattle.letter_diagram.proofs.TopTracks.{looks_at_top}
use Rattle.letter_diagram.proofs.laws.a_map_looks_at_its_top_track.Goals as goal

pub returns : goal.returns
returns c = λ shapes is node known low ignores. looks_at_top is known low ignores
