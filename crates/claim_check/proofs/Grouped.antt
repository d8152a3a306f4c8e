-- Sets that are taken ply by ply from the front of a list.
use Rattle.std.proofs.Common.{◌≡◌, ℕ, zero, suc, ◌+◌, ◌*◌, ◌-◌, ◌<◌, ◌≤◌, List, [], ◌∷◌, ◌++◌, length, map, take, drop, refl, sym, ap, ◌∙◌, subst, append_assoc, arith}
use Rattle.std.specs.List.{AllZip, flat_map}
use Rattle.std.proofs.lemmas.List.Concat.{flat_map-cons}
use Rattle.std.proofs.lemmas.List.{append-nil, length_push}
use Rattle.auto_core.specs.Automaton.{Automaton}
use Rattle.mate_plan.specs.Claim.{ClaimedSet, every_second}
use Rattle.strategy_file.specs.ClaimedAutos.{automaton_in}
use Rattle.strategy_file.specs.Claims.{set_of}
use Rattle.strategy_file.specs.StrategyFile.{places_with}
use Rattle.strategy_file.specs.declared.claim.ClaimedSet.{ClaimedSet as SetHere}
use Rattle.winning_sets.specs.Claimed.{sets_from, sets_of_ply}
use Rattle.claim_check.specs.Reduced.{AreReduced, IsReducedOf}
use Rattle.claim_check.proofs.ReducedSets.{reduced_append}

abbrev place_of : SetHere → ℕ × ℕ
place_of s = (s.ply, s.mask)

abbrev table_of : SetHere → Automaton
table_of s = automaton_in s.set

-- one more ply at the end
from_push : (ply : ℕ) (masks : List ℕ) (plies : List (List Automaton)) (sets : List Automaton)
    → sets_from ply masks (plies ++ sets ∷ []) ≡ sets_from ply masks plies ++ sets_of_ply (ply + length plies) masks sets
from_push ply masks [] sets =
    let here : ply ≡ ply + 0 = omega arith in
    append-nil (sets_of_ply ply masks sets) ∙ ap (λ n. sets_of_ply n masks sets) here
from_push ply masks (first ∷ plies) sets =
    let next : suc ply + length plies ≡ ply + suc (length plies) = omega arith in
    ap (λ l. sets_of_ply ply masks first ++ l) (from_push (suc ply) masks plies sets ∙ ap (λ n. sets_from (suc ply) masks plies ++ sets_of_ply n masks sets) next)
    ∙ sym (append_assoc (sets_of_ply ply masks first) (sets_from (suc ply) masks plies) (sets_of_ply (ply + suc (length plies)) masks sets))

from_start : (masks : List ℕ) (plies : List (List Automaton)) (sets : List Automaton)
    → sets_from 0 masks (plies ++ sets ∷ []) ≡ sets_from 0 masks plies ++ sets_of_ply (length plies) masks sets
from_start masks plies sets =
    let here : 0 + length plies ≡ length plies = omega arith in
    from_push 0 masks plies sets ∙ ap (λ n. sets_from 0 masks plies ++ sets_of_ply n masks sets) here

no_sets_of : (ply : ℕ) (masks : List ℕ) → sets_of_ply ply masks [] ≡ []
no_sets_of ply [] = refl
no_sets_of ply (m ∷ masks) = refl

-- a ply without sets
from_none : (masks : List ℕ) (plies : List (List Automaton)) → sets_from 0 masks (plies ++ [] ∷ []) ≡ sets_from 0 masks plies
from_none masks plies =
    from_start masks plies []
    ∙ ap (λ l. sets_from 0 masks plies ++ l) (no_sets_of (length plies) masks)
    ∙ append-nil (sets_from 0 masks plies)

-- the sets of a ply stand at its places
at_places : (ply : ℕ) (masks : List ℕ) (left : List SetHere) (more : List (ℕ × ℕ)) (sets : List Automaton) → map place_of left ≡ map (λ m. (ply, m)) masks ++ more
    → AllZip IsReducedOf (map table_of (take (length masks) left)) sets → AreReduced (map set_of (take (length masks) left)) (sets_of_ply ply masks sets)
at_places ply [] left more [] is h = tt
at_places ply [] left more (a ∷ sets) is h = absurd h
at_places ply (m ∷ masks) [] more sets is h = absurd (cc)
at_places ply (m ∷ masks) (s ∷ left) more [] is h = absurd h
at_places ply (m ∷ masks) (s ∷ left) more (a ∷ sets) is (r, h) =
    let first : place_of s ≡ (ply, m) = cc in
    let rest : map place_of left ≡ map (λ k. (ply, k)) masks ++ more = cc in
    (record { ply = ap (λ p. p.0) first; mask = ap (λ p. p.1) first; set = r }, at_places ply masks left more sets rest h)

places_left : (ply : ℕ) (masks : List ℕ) (left : List SetHere) (more : List (ℕ × ℕ))
    → map place_of left ≡ map (λ m. (ply, m)) masks ++ more → map place_of (drop (length masks) left) ≡ more
places_left ply [] left more is = is
places_left ply (m ∷ masks) [] more is = absurd (cc)
places_left ply (m ∷ masks) (s ∷ left) more is =
    let rest : map place_of left ≡ map (λ k. (ply, k)) masks ++ more = cc in
    places_left ply masks left more rest

enough_left : (ply : ℕ) (masks : List ℕ) (left : List SetHere) (more : List (ℕ × ℕ)) → map place_of left ≡ map (λ m. (ply, m)) masks ++ more → length masks ≤ length left
enough_left ply [] left more is = omega arith
enough_left ply (m ∷ masks) [] more is = absurd (cc)
enough_left ply (m ∷ masks) (s ∷ left) more is =
    let rest : map place_of left ≡ map (λ k. (ply, k)) masks ++ more = cc in
    let less = enough_left ply masks left more rest in
    omega (arith, less)

two_parts : (n : ℕ) (left : List SetHere) → map set_of (take n left) ++ map set_of (drop n left) ≡ map set_of left
two_parts zero left = refl
two_parts (suc n) [] = refl
two_parts (suc n) (s ∷ left) = ap (λ l. set_of s ∷ l) (two_parts n left)

module _ (masks : List ℕ) where
  -- before the first ply of the loser there are only plies without sets
  pub record AreBare (plies : List (List Automaton)) (size : ℕ) : Type 0 where
    pub none : sets_from 0 masks plies ≡ []
    pub size_is : length plies ≡ size

  pub bare_none : AreBare [] 0
  bare_none = record { none = refl; size_is = refl }

  pub bare_more : {plies : List (List Automaton)} {size : ℕ} → AreBare plies size → AreBare (plies ++ [] ∷ []) (size + 1)
  bare_more {plies} h = record {
    none = from_none masks plies ∙ h.none;
    size_is = length_push plies [] ∙ ap (λ n. n + 1) h.size_is;
  }

module _ (all : List SetHere) (masks : List ℕ) (first count : ℕ) where
  -- so many plies of the loser are grouped, and these sets are left
  pub record Grouped (done : ℕ) (left : List SetHere) (plies : List (List Automaton)) : Type 0 where
    pub front : List ClaimedSet
    pub whole : front ++ map set_of left ≡ map set_of all
    pub reduced : AreReduced front (sets_from 0 masks plies)
    pub size : length plies ≡ first + 2 * done
    pub places : map place_of left ≡ places_with (every_second (first + 2 * done) (count - done)) masks

  pub grouped_none : {plies : List (List Automaton)} → AreBare masks plies first → map place_of all ≡ places_with (every_second first count) masks → Grouped 0 all plies
  grouped_none bare is =
      let at : first ≡ first + 2 * 0 = omega arith in
      let full : count ≡ count - 0 = omega arith in
      let Of : List ClaimedSet → Type 0 = λ l. AreReduced [] l in
      record {
        front = [];
        whole = refl;
        reduced = subst Of (sym bare.none) tt;
        size = bare.size_is ∙ at;
        places = is ∙ ap (λ n. places_with (every_second n count) masks) at ∙ ap (λ n. places_with (every_second (first + 2 * 0) n) masks) full;
      }

  module _ (done : ℕ) (left : List SetHere) (plies : List (List Automaton)) (h : Grouped done left plies) (less : done < count) where
    abbrev ply : ℕ
    ply = first + 2 * done

    abbrev later : List (ℕ × ℕ)
    later = places_with (every_second (first + 2 * (done + 1)) (count - (done + 1))) masks

    here : map place_of left ≡ map (λ m. (first + 2 * done, m)) masks ++ places_with (every_second (first + 2 * (done + 1)) (count - (done + 1))) masks
    here =
        let some : count - done ≡ suc (count - (done + 1)) = omega (arith, less) in
        let next : first + 2 * done + 2 ≡ first + 2 * (done + 1) = omega arith in
        let f : ℕ → List (ℕ × ℕ) = λ n. map (λ m. (n, m)) masks in
        h.places
        ∙ ap (λ n. flat_map f (every_second (first + 2 * done) n)) some
        ∙ flat_map-cons f (first + 2 * done) (every_second (first + 2 * done + 2) (count - (done + 1)))
        ∙ ap (λ n. f (first + 2 * done) ++ flat_map f (every_second n (count - (done + 1)))) next

    pub grouped_enough : length masks ≤ length left
    grouped_enough = enough_left (first + 2 * done) masks left later here

    -- the next ply is grouped, and the winner's ply behind it has no sets
    pub grouped_more : (sets : List Automaton) → AllZip IsReducedOf (map table_of (take (length masks) left)) sets
        → Grouped (done + 1) (drop (length masks) left) ((plies ++ sets ∷ []) ++ [] ∷ [])
    grouped_more sets of =
        let taken = map set_of (take (length masks) left) in
        let rest = map set_of (drop (length masks) left) in
        let Of : List ClaimedSet → Type 0 = λ l. AreReduced (h.front ++ taken) l in
        let At : ℕ → Type 0 = λ n. AreReduced taken (sets_of_ply n masks sets) in
        let more = reduced_append h.front (sets_from 0 masks plies) taken (sets_of_ply (length plies) masks sets) h.reduced
        (subst At (sym h.size) (at_places (first + 2 * done) masks left later sets here of)) in
        let size = h.size in
        let one = length_push plies sets in
        let two = length_push (plies ++ sets ∷ []) [] in
        record {
          front = h.front ++ taken;
          whole = append_assoc h.front taken rest ∙ ap (λ l. h.front ++ l) (two_parts (length masks) left) ∙ h.whole;
          reduced = subst Of (sym (from_none masks (plies ++ sets ∷ []) ∙ from_start masks plies sets)) more;
          size = omega (arith, size, one, two);
          places = places_left (first + 2 * done) masks left later here;
        }

  pub grouped_all : (done : ℕ) (left : List SetHere) (plies : List (List Automaton)) → Grouped done left plies → count ≤ done → AreReduced (map set_of all) (sets_from 0 masks plies)
  grouped_all done left plies h full =
      let none : count - done ≡ 0 = omega (arith, full) in
      let is : map place_of left ≡ [] = h.places ∙ ap (λ n. places_with (every_second (first + 2 * done) n) masks) none in
      let Of : List ClaimedSet → Type 0 = λ l. AreReduced l (sets_from 0 masks plies) in
      subst Of (sym (append-nil h.front) ∙ ap (λ l. h.front ++ map set_of l) (sym (no_more left is)) ∙ h.whole) h.reduced
    where
      no_more : (l : List SetHere) → map place_of l ≡ [] → l ≡ []
      no_more [] e = refl
      no_more (s ∷ l) e = absurd (cc)
