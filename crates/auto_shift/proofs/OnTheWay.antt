-- UnitShifts on the way to a set that is moved by a number: how many pairs of states they have does not depend on how states are numbered.
use Rattle.std.proofs.Common.{◌≡◌, ℕ, zero, suc, ◌+◌, ◌<◌, Bool, true, false, List, [], ◌∷◌, length, All, ℤ, arith, refl, sym, ap, ◌∙◌, subst, inl, inr}
use Rattle.std.proofs.lemmas.Bool.{cases_eq}
use Rattle.std.proofs.lemmas.Int.{ints}
use Rattle.track_word.specs.Word.{IsWord}
use Rattle.auto_core.specs.Automaton.{Automaton, state_of}
use Rattle.auto_walk.specs.Walker.{place_of, MoreThan}
use Rattle.auto_bool.proofs.PairLemmas.{first_of_two, second_of_two}
use Rattle.auto_shift.specs.Shifted.{along, shift_walker}
use Rattle.auto_shift.specs.Moved.{IsWalkedTimes, IsOverOnTheWay}
use Rattle.auto_shift.proofs.ShiftWords.{moved_word, place_of-shifted, IsMoved-word}

module _ (track : ℕ) (up : Bool) (a : Automaton) (below : track < length a.tracks) where
  tracks_kept : (times : ℕ) (part : Automaton) → IsWalkedTimes up track times a part → part.tracks ≡ a.tracks
  tracks_kept zero part is = ap (λ b. b.tracks) is
  tracks_kept (suc times) part (before, explored, last) = last.tracks ∙ tracks_kept times before explored

  -- words that lead to one state of an automaton lead to one state of another
  abbrev AreAlike : Automaton → Automaton → Type 0
  AreAlike m o = (u v : List ℕ) → IsWord (length a.tracks) u → IsWord (length a.tracks) v → state_of m u ≡ state_of m v → state_of o u ≡ state_of o v

  places_alike : (m o : Automaton) → AreAlike m o → (u v : List ℕ) → IsWord (length a.tracks) u → IsWord (length a.tracks) v
      → place_of (shift_walker m track up) u ≡ place_of (shift_walker m track up) v → place_of (shift_walker o track up) u ≡ place_of (shift_walker o track up) v
  places_alike m o alike u v is_u is_v same =
      let pair = sym (place_of-shifted track up m u is_u.nonempty) ∙ same ∙ place_of-shifted track up m v is_v.nonempty in
      let moved_u = (IsMoved-word track up (length a.tracks) below is_u).is_word in
      let moved_v = (IsMoved-word track up (length a.tracks) below is_v).is_word in
      let kept = alike u v is_u is_v (first_of_two _ _ _ _ pair) in
      let moved = alike (moved_word track up u) (moved_word track up v) moved_u moved_v (second_of_two _ _ _ _ pair) in
      place_of-shifted track up o u is_u.nonempty ∙ (λ i. kept i ∷ moved i ∷ []) ∙ sym (place_of-shifted track up o v is_v.nonempty)

  walked_alike : (times : ℕ) (m o : Automaton) → IsWalkedTimes up track times a m → IsWalkedTimes up track times a o → AreAlike m o
  walked_alike zero m o is other = λ u v is_u is_v same. subst (λ b. state_of b u ≡ state_of b v) (is ∙ sym other) same
  walked_alike (suc times) m o (p, to_p, then) (q, to_q, other) = λ u v is_u is_v same.
      let of_p = λ (w : List ℕ) (is : IsWord (length a.tracks) w). subst (λ t. IsWord (length t) w) (sym (tracks_kept times p to_p)) is in
      let of_q = λ (w : List ℕ) (is : IsWord (length a.tracks) w). subst (λ t. IsWord (length t) w) (sym (tracks_kept times q to_q)) is in
      let at_p = (then.same u v (of_p u is_u) (of_p v is_v)).0 same in
      (other.same u v (of_q u is_u) (of_q v is_v)).1 (places_alike p q (walked_alike times p q to_p to_q) u v is_u is_v at_p)

  -- two automata of so many steps have as many pairs of states
  more_alike : (times : ℕ) (m o : Automaton) (budget : ℕ) → IsWalkedTimes up track times a m → IsWalkedTimes up track times a o
      → MoreThan (shift_walker m track up) budget → MoreThan (shift_walker o track up) budget
  more_alike times m o budget to_m to_o more =
      let are_words = subst (λ t. All (IsWord (length t)) more.words) (tracks_kept times m to_m) more.are_words in
      record {
        words = more.words;
        count = more.count;
        are_words = subst (λ t. All (IsWord (length t)) more.words) (sym (tracks_kept times o to_o)) are_words;
        apart = λ i j d less within same.
            more.apart i j d less within (places_alike o m (walked_alike times o m to_o to_m) _ _ (are_words i d (omega arith)) (are_words j d within) same);
      }

-- no step before so many has more pairs of states than the budget
abbrev pub IsWithinBefore : Bool → ℕ → Automaton → ℕ → ℕ → Type 0
IsWithinBefore up track a budget times =
    (done : ℕ) → done < times → (part : Automaton) → IsWalkedTimes up track done a part → MoreThan (shift_walker part track up) budget → ⊥

pub within-next : (a m : Automaton) {track budget : ℕ} (up : Bool) (times : ℕ) → track < length a.tracks → IsWalkedTimes up track times a m
    → (MoreThan (shift_walker m track up) budget → ⊥) → IsWithinBefore up track a budget times → IsWithinBefore up track a budget (times + 1)
within-next a m {track} {budget} up times below to_m few before = λ done less part to_part more.
    elim (cases_eq done times) [
      | inl e ↦ few (more_alike track up a below times part m budget (subst (λ n. IsWalkedTimes up track n a part) e to_part) to_m more)
      | inr ne ↦ before done (omega (arith, less, ne)) part to_part more
    ]

pub within-one : (a : Automaton) {track budget : ℕ} (up : Bool) → track < length a.tracks → (MoreThan (shift_walker a track up) budget → ⊥) → IsWithinBefore up track a budget 1
within-one a up below few = within-next a a up 0 below refl few (λ done less. absurd (omega (arith, less)))

-- a number is one way, so many times
one_way : (up way : Bool) (times more : ℕ) → 0 < times → along up times ≡ along way more → (up ≡ way) × (times ≡ more)
one_way true true times more some e = (refl, omega (arith, ints, e))
one_way true false times more some e = absurd (omega (arith, ints, some, e))
one_way false true times more some e = absurd (omega (arith, ints, some, e))
one_way false false times more some e = (refl, omega (arith, ints, e))

pub within-all : (a : Automaton) {track budget : ℕ} {by : ℤ} (up : Bool) (times : ℕ) → 0 < times → along up times ≡ by → IsWithinBefore up track a budget times
    → IsOverOnTheWay a track by budget → ⊥
within-all a {track} {budget} up times some all before over =
    let one = one_way up over.up times over.times some (all ∙ sym over.all) in
    let explored = subst (λ way. IsWalkedTimes way track over.done a over.part) (sym one.0) over.explored in
    let more = subst (λ way. MoreThan (shift_walker over.part track way) budget) (sym one.0) over.more in
    before over.done (omega (arith, over.before, one.1)) over.part explored more
