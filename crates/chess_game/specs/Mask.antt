-- The bit mask of the live men.
use Rattle.std.specs.Prelude.{◌≡◌, ◌≢◌, ◌↔◌, ℕ, ◌<◌, ◌^◌, List, Some, slice_get}
use Rattle.std.specs.Int.{bit_at}
use Rattle.game_rules.specs.declared.men.Man.{Man}
use Rattle.game_rules.specs.declared.men.Place.TheVariants.{Gone}

-- the mask has the bits of the live men below an index, and no others
pub record IsMaskBelow (ms : List Man) (n mask : ℕ) : Type 0 where
  pub live : (k : ℕ) (m : Man) → k < n → slice_get ms k ≡ Some m → (bit_at mask k ≡ 1) ↔ (m.place ≢ Gone)
  pub no_more : mask < 2 ^ n
