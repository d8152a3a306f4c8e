-- The meaning of the bare name of a `&mut` parameter in a clause.
use denote.Triple.Both.{Both}
use Rattle.std.specs.Borrow.{MutBor}

-- a value lent to a call: before the call, and at the return
abbrev pub Lent : Type 0 → Type 0
Lent T = Both (MutBor T) (MutBor T)

-- the value before the call, `.old` in a clause
abbrev pub old_of : {T : Type 0} → Lent T → T
old_of lent = lent.entry.now

-- the value at the return, `.new` in a clause
abbrev pub new_of : {T : Type 0} → Lent T → T
new_of lent = lent.exit.now

-- both values before the call
abbrev pub both_old : {S K : Type 0} → Lent S × Lent K → S × K
both_old ports = (old_of ports.0, old_of ports.1)

abbrev pub both_new : {S K : Type 0} → Lent S × Lent K → S × K
both_new ports = (new_of ports.0, new_of ports.1)

-- all three values before the call
abbrev pub all_old : {S K H : Type 0} → Lent S × Lent K × Lent H → S × K × H
all_old ports = (old_of ports.0, old_of ports.1, old_of ports.2)

abbrev pub all_new : {S K H : Type 0} → Lent S × Lent K × Lent H → S × K × H
all_new ports = (new_of ports.0, new_of ports.1, new_of ports.2)
