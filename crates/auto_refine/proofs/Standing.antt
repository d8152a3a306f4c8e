-- A state that stands for each class.
use Rattle.std.proofs.Common.{◌≡◌, ℕ, ◌<◌, List, length, get_or, All, subst}
use Rattle.auto_refine.specs.Coarsest.{AreMembers, IsPartition}

pub AreMembers-from : {classes : List ℕ} (members : List ℕ) {count : ℕ} → IsPartition (length classes) classes count → length members ≡ count → All (λ s. s < length classes) members
    → ((k : ℕ) → k < length classes → get_or classes (get_or members (get_or classes k 0) 0) 0 ≡ get_or classes k 0) → AreMembers classes count members
AreMembers-from {classes} members p size within has = record {
  size = size;
  within = within;
  has = λ class below.
      let rep = p.attained class below in
      subst (λ c. get_or classes (get_or members c 0) 0 ≡ c) rep.has (has rep.state rep.within);
}
