-- The table of kept sets, mask by mask.
use Rattle.std.proofs.Common.{◌≡◌, ℕ, ◌+◌, ◌<◌, ◌≤◌, List, [], ◌∷◌, ◌++◌, length, map, take, get_or, Option, Some, None, Bor, sym, ap, subst, ◌∙◌, arith}
use Rattle.std.specs.Prelude.{IsSomeAnd, option_copied}
use Rattle.std.proofs.lemmas.List.{length-map, length-take-le, map-append, take_more}
use Rattle.auto_core.specs.Automaton.{Automaton}
use Rattle.rule_formula.specs.Fits.{IsGameMask}
use Rattle.winning_sets.specs.Claimed.{IsValid}
use Rattle.winning_sets.specs.Kept.{Kept}
use Rattle.winning_sets.specs.Solve.{HasTuplesOf, Solution, end_of, kept_at}
use Rattle.winning_sets.specs.declared.origin.Origin.TheVariants.{Plan}
use Rattle.winning_sets.proofs.ValidLemmas.{plan_valid}

-- each mask of the game has a kept set
pub kept_some : (s : Solution) → IsValid s → s.origin ≡ Plan → 1 ≤ end_of s → (mask : ℕ) → IsGameMask s.position mask → (o : Option (Bor Automaton))
    → option_copied o ≡ kept_at s 1 mask → o ≡ None → ⊥
kept_some s valid plan ply mask game o is none =
    let found = (plan_valid s valid plan).kept.found 1 mask ply game in
    let gone : kept_at s 1 mask ≡ None = sym is ∙ ap option_copied none in
    subst (λ (k : Option Automaton). IsSomeAnd k (HasTuplesOf (Kept s.winner s.position s.moves 1) mask)) gone found

pub put_some : (old new : List Automaton) (a : Automaton) (o : Option Automaton) → new ≡ old ++ a ∷ [] → Some a ≡ o → map Some new ≡ map Some old ++ o ∷ []
put_some old new a o is same = ap (map Some) is ∙ map-append Some old (a ∷ []) ∙ ap (λ k. map Some old ++ k ∷ []) same

module _ (f : ℕ → Option Automaton) (masks : List ℕ) where
  pub put_next : (i d : ℕ) (old new : List Automaton) → i < length masks → map Some old ≡ map f (take i masks)
      → map Some new ≡ map Some old ++ f (get_or masks i d) ∷ [] → map Some new ≡ map f (take (i + 1) masks)
  put_next i d old new low was is =
      is ∙ ap (λ l. l ++ f (get_or masks i d) ∷ []) was ∙ sym (map-append f (take i masks) (get_or masks i d ∷ [])) ∙ ap (map f) (sym (take_more masks i d low))

  pub few_sets : (i : ℕ) (sets : List Automaton) → i ≤ length masks → length masks ≤ 9 → map Some sets ≡ map f (take i masks) → length sets ≤ 9
  few_sets i sets low few are =
      let left : length (map Some sets) ≡ length sets = length-map sets Some in
      let right : length (map f (take i masks)) ≡ length (take i masks) = length-map (take i masks) f in
      let size = length-take-le i masks low in
      let same : length (map Some sets) ≡ length (map f (take i masks)) = ap length are in
      omega (arith, left, right, size, same, low, few)
