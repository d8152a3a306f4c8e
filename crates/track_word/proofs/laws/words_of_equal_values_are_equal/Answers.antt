use Rattle.track_word.proofs.Spelling.{same-words}
use Rattle.track_word.proofs.laws.words_of_equal_values_are_equal.Goals as goal

pub returns : goal.returns
returns c = same-words
