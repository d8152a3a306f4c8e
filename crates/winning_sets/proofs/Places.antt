-- Where the set of a ply and a mask is.
use Rattle.std.proofs.Common.{◌≡◌, ℕ, zero, suc, List, [], ◌∷◌, get_or, None, refl, ap, ◌∙◌}
use Rattle.auto_core.specs.Automaton.{Automaton}
use Rattle.mask_sets.specs.Sets.{Table, set_at, set_of}
use Rattle.rule_formula.specs.Fits.{masks_of}
use Rattle.winning_sets.specs.Solve.{Solution, kept_at, sets_at}

no_sets : (masks : List ℕ) (mask : ℕ) → set_of masks [] mask ≡ None
no_sets [] mask = refl
no_sets (m ∷ masks) mask = refl

-- it is the set of the mask among those of the ply
pub sets_at-ply : (masks : List ℕ) (plies : List (List Automaton)) (ply mask : ℕ) → set_of masks (get_or plies ply []) mask ≡ sets_at masks plies ply mask
sets_at-ply masks [] ply mask = no_sets masks mask
sets_at-ply masks (x ∷ xs) zero mask = refl
sets_at-ply masks (x ∷ xs) (suc ply) mask = sets_at-ply masks xs ply mask

-- the kept sets of a ply as they are handed out
pub kept_at-table : (s : Solution) (ply mask : ℕ) (masks : List ℕ) (sets : List Automaton) (t : Table) → masks ≡ masks_of s.position
    → sets ≡ get_or s.kept ply [] → t ≡ record { masks = masks; sets = sets } → set_at t mask ≡ kept_at s ply mask
kept_at-table s ply mask masks sets t masks_are sets_are is =
    ap (λ u. set_at u mask) is
    ∙ (ap (λ l. set_of l sets mask) masks_are ∙ (ap (λ l. set_of (masks_of s.position) l mask) sets_are ∙ sets_at-ply (masks_of s.position) s.kept ply mask))
