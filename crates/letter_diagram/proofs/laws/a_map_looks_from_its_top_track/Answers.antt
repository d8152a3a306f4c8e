use Rattle.letter_diagram.proofs.Canonical.{map_at-agree}
use Rattle.letter_diagram.proofs.laws.a_map_looks_from_its_top_track.Goals as goal

pub returns : goal.returns
returns c = λ shapes is node x y known agree. map_at-agree shapes is node known x y agree
