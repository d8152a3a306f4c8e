-- Men whose coordinates are numbers of 64 bits.
use Rattle.std.proofs.Common.{◌≡◌, ℕ, ◌+◌, ◌≤◌, length, take, Some, All, sym, subst, add-one}
use Rattle.std.specs.Prelude.{slice_get}
use Rattle.std.proofs.lemmas.List.{take_all}
use Rattle.std.proofs.lemmas.List.Elements.{All-more}
use Rattle.std.proofs.lemmas.Option.{get_or_from_slice_get, slice_get_within}
use Rattle.game_rules.specs.Game.{Position, man_at}
use Rattle.game_rules.specs.declared.men.Man.{Man}
use Rattle.chess_game.specs.Near.{IsNarrowMan, IsNarrowPosition}

-- one man more
pub narrow_more : (p : Position) (n : ℕ) (m : Man) → man_at p (n + 1) ≡ Some m → IsNarrowMan m → All IsNarrowMan (take n p.men) → All IsNarrowMan (take (n + 1) p.men)
narrow_more p n m is here before =
    let there : slice_get p.men n ≡ Some m = rw add-one at is in
    let same = get_or_from_slice_get p.men n m m there in
    All-more IsNarrowMan p.men n m (slice_get_within p.men n m there) before (subst IsNarrowMan (sym same) here)

-- and all of them
pub narrow_all : (p : Position) (n : ℕ) → length p.men ≤ n → All IsNarrowMan (take n p.men) → IsNarrowPosition p
narrow_all p n long each = subst (All IsNarrowMan) (take_all n p.men long) each
