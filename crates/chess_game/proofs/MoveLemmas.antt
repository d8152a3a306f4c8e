-- Lemmas on what becomes of the men, one after another.
use Rattle.std.proofs.Common.{◌≢◌, ℕ, ◌+◌, ◌<◌, List, length, get_or, set, arith, get_or-set_other, get_or-set_same, below_more}
use Rattle.game_rules.specs.Game.{IsLeftBy}
use Rattle.game_rules.specs.declared.men.Man.{Man}
use Rattle.game_rules.specs.declared.men.Square.{Square}

-- one more man has met his fate
pub left_more : (z : Square) (old new : List Man) (i : ℕ) (r : Man) → i < length new
    → ((k : ℕ) (d : Man) → k < i → IsLeftBy z (get_or old k d) (get_or new k d)) → ((d : Man) → IsLeftBy z (get_or old i d) r) → (k : ℕ) → k < i + 1
    → (d : Man) → IsLeftBy z (get_or old k d) (get_or (set new i r) k d)
left_more z old new i r within left here =
    below_more (λ k. (d : Man) → IsLeftBy z (get_or old k d) (get_or (set new i r) k d)) i
    (λ k h d. let ne : k ≢ i = omega arith in rw get_or-set_other (left k d h))
    (λ d. rw get_or-set_same (here d))
