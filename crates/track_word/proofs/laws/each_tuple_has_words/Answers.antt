use Rattle.std.proofs.Common.{◌≡◌, ◌≤◌, ℕ, zero, suc, ℤ, List, length, arith, ap}
use Rattle.track_word.specs.Word.{Spells, spelled}
use Rattle.track_word.proofs.Spelling.{Spells-spelled, fits-bound, bound_of, length-letters}
use Rattle.track_word.proofs.laws.each_tuple_has_words.Goals as goal

words : (integers : List ℤ) (n : ℕ) → suc (bound_of integers) ≤ n → (word : List ℕ) × Spells integers word × (length word ≡ n)
words integers zero h = absurd (omega (arith, h))
words integers (suc n) h = (spelled integers n, Spells-spelled integers n (fits-bound integers n (omega (arith, h))), ap suc (length-letters integers n))

pub returns : goal.returns
returns c = λ integers few. (suc (bound_of integers), λ n h. words integers n h)
