-- How many men are live, one man after another.
use Rattle.std.proofs.Common.{◌≡◌, ℕ, ◌+◌, true, false, List, take, Some, slice_get, ap, ◌∙◌}
use Rattle.std.specs.Prelude.{count_by, is_some}
use Rattle.std.proofs.lemmas.List.Sums.{count_by_more_no, count_by_more_yes}
use Rattle.std.proofs.lemmas.Option.{slice_get_within, get_or_from_slice_get}
use Rattle.game_rules.specs.Game.{square_of}
use Rattle.game_rules.specs.declared.men.Man.{Man}

-- one man more
module _ (men : List Man) (i : ℕ) (m : Man) (at : slice_get men i ≡ Some m) where
  pub live_more : is_some (square_of m) ≡ true → count_by (λ n. is_some (square_of n)) (take (i + 1) men) ≡ count_by (λ n. is_some (square_of n)) (take i men) + 1
  live_more live = count_by_more_yes (λ n. is_some (square_of n)) men i m (slice_get_within men i m at) (ap (λ n. is_some (square_of n)) (get_or_from_slice_get men i m m at) ∙ live)

  pub gone_more : is_some (square_of m) ≡ false → count_by (λ n. is_some (square_of n)) (take (i + 1) men) ≡ count_by (λ n. is_some (square_of n)) (take i men)
  gone_more gone = count_by_more_no (λ n. is_some (square_of n)) men i m (slice_get_within men i m at) (ap (λ n. is_some (square_of n)) (get_or_from_slice_get men i m m at) ∙ gone)
