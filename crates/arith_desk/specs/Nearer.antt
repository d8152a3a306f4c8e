-- The nearer of two numbers on both sides of 0.
use Rattle.std.specs.Prelude.{ℕ, ℤ, pos, neg_ℤ, Option, Some, None, nat_lt, if◌then◌else◌}

-- The nearer of two numbers, given by their distances above and below 0; that above if both are equally near.
abbrev pub nearer_of : (above below : Option ℕ) → Option ℤ
nearer_of None None = None
nearer_of (Some above) None = Some (pos above)
nearer_of None (Some below) = Some (neg_ℤ (pos below))
nearer_of (Some above) (Some below) = if nat_lt below above then Some (neg_ℤ (pos below)) else Some (pos above)
