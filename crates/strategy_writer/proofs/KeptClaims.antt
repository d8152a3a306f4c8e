-- The sets of a claim that is written, as they are made one after another.
use Rattle.std.proofs.Common.{◌≡◌, ℕ, ◌+◌, ◌^◌, ◌<◌, ◌≤◌, List, [], ◌∷◌, ◌++◌, map, take, get_or, length, sym, ap, ◌∙◌, subst, arith}
use Rattle.std.specs.List.{AllZip}
use Rattle.std.proofs.lemmas.List.{length-map, length-take, map_push, take_more}
use Rattle.std.proofs.lemmas.List.Elements.{AllZip-push, length_all_zip}
use Rattle.game_rules.specs.Game.{Position}
use Rattle.game_rules.specs.declared.men.Side.{Side}
use Rattle.mate_plan.specs.Claim.{ClaimedSet}
use Rattle.strategy_file.specs.Claims.{claim_of, set_of}
use Rattle.strategy_file.specs.Fitting.{HasFileOf}
use Rattle.strategy_writer.specs.KeptClaims.{as_set}
use Rattle.strategy_writer.specs.ReducedClaims.{IsReducedSet}
use Rattle.strategy_file.specs.StrategyFile.{places_of}
use Rattle.strategy_file.specs.declared.claim.Claim.{Claim as ClaimHere}
use Rattle.strategy_file.specs.declared.claim.ClaimedSet.{ClaimedSet as SetHere}
use Rattle.strategy_writer.specs.declared.kept_claim.KeptSet.{KeptSet}
use Rattle.strategy_file.proofs.FileClaims.{place_of}
use Rattle.strategy_writer.proofs.SetCounts.{places_few}

-- a set of each place, for few places
pub kept_few : (winner : Side) (p : Position) (moves : ℕ) (sets : List KeptSet) → map {B = ℕ × ℕ} (λ s. (s.ply, s.mask)) sets ≡ places_of winner p moves
    → length p.men ≤ 8 → moves ≤ 20 → length sets ≤ 2 ^ 16
kept_few winner p moves sets places men few =
    let size = length-map {B = ℕ × ℕ} sets (λ s. (s.ply, s.mask)) in
    let count = ap length places in
    let most = places_few winner p moves men few in
    omega (arith, size, count, most)

-- one set more is reduced
pub reduced_next : (sets items : List SetHere) (i : ℕ) (made : List KeptSet) (item d : SetHere) (kept : KeptSet) → items ≡ sets → i < length items → item ≡ get_or items i d
    → IsReducedSet (set_of item) (as_set kept) → AllZip IsReducedSet (map set_of (take i sets)) (map as_set made)
    → AllZip IsReducedSet (map set_of (take (i + 1) sets)) (map as_set (made ++ kept ∷ []))
reduced_next sets items i made item d kept same within is here so_far =
    let below : i < length sets = subst (λ (l : List SetHere). i < length l) same within in
    let own : get_or sets i d ≡ item = ap (λ (l : List SetHere). get_or l i d) (sym same) ∙ sym is in
    let front : map set_of (take (i + 1) sets) ≡ map set_of (take i sets) ++ set_of item ∷ [] =
    ap (map set_of) (take_more sets i d below ∙ ap (λ x. take i sets ++ x ∷ []) own) ∙ map_push set_of (take i sets) item in
    let back : map as_set (made ++ kept ∷ []) ≡ map as_set made ++ as_set kept ∷ [] = map_push as_set made kept in
    let more = AllZip-push IsReducedSet (map set_of (take i sets)) (map as_set made) (set_of item) (as_set kept) so_far here in
    let Of : List ClaimedSet → Type 0 = λ l. AllZip IsReducedSet l (map as_set made ++ as_set kept ∷ []) in
    let To : List ClaimedSet → Type 0 = λ l. AllZip IsReducedSet (map set_of (take (i + 1) sets)) l in
    subst To (sym back) (subst Of (sym front) more)

-- and there are few
pub reduced_few : (c : ClaimHere) → HasFileOf (claim_of c) → (i : ℕ) (made : List KeptSet) → AllZip IsReducedSet (map set_of (take i c.sets.items)) (map as_set made) → length made ≤ 2 ^ 16
reduced_few c file i made reduced =
    let both = length_all_zip IsReducedSet (map set_of (take i c.sets.items)) (map as_set made) reduced in
    let made_size = length-map made as_set in
    let taken_size = length-map (take i c.sets.items) set_of in
    let taken = length-take i c.sets.items in
    let sets_size = length-map c.sets.items set_of in
    let places_size = length-map {B = ℕ × ℕ} (map set_of c.sets.items) place_of in
    let places = ap length file.places in
    let most = places_few c.winner c.position c.moves file.fits.most file.moves in
    omega (arith, both, made_size, taken_size, taken, sets_size, places_size, places, most)
