-- What is reached and not kept, as a set.
use Rattle.std.proofs.Common.{◌≡◌, ◌↔◌, ℕ, zero, suc, ◌+◌, ◌<◌, ◌≤◌, List, [], ◌∷◌, ◌++◌, length, get_or, Option, Some, None, ◌⊎◌, inl, inr, ℤ, refl, sym, ap, ◌∙◌, subst, arith}
use Rattle.std.specs.Prelude.{IfSome, IsSomeAnd, option_copied}
use Rattle.std.specs.Borrow.{Bor}
use Rattle.std.specs.List.{Contains}
use Rattle.std.proofs.lemmas.Bool.{cases_lt}
use Rattle.std.proofs.lemmas.List.{get_or_append_left, get_or_default, get_or_push, length-append}
use Rattle.track_word.specs.Tracks.{IsAscending, values_at, word_values}
use Rattle.auto_core.specs.Automaton.{Automaton}
use Rattle.auto_core.specs.Integers.{IsAccepted}
use Rattle.game_rules.specs.Game.{Position, Win, other}
use Rattle.game_rules.specs.declared.men.Side.{Side}
use Rattle.game_laws.proofs.SoundLemmas.{other_differs, other_other}
use Rattle.lin_formula.specs.SetOf.{Member, Nothing, SetOf, as_set}
use Rattle.mask_sets.specs.Stock.{mask_of}
use Rattle.rule_formula.specs.Fits.{IsGameMask, masks_of}
use Rattle.rule_formula.specs.Mean.{mask_tracks}
use Rattle.mask_sets.specs.Tuple.{tuple_of}
use Rattle.set_plan.specs.Outcome.{Ends, Stops}
use Rattle.set_plan.specs.Sets.{IsSetOn, lent}
use Rattle.set_plan.specs.declared.stop.PartStep.{PartStep}
use Rattle.set_plan.specs.Same.{SameSets}
use Rattle.set_plan.proofs.Alike.{SameSets-self}
use Rattle.set_plan.proofs.Tables.{table_decided}
use Rattle.set_plan.proofs.Takings.{IsOver, difference_set-members}
use Rattle.set_plan.proofs.Unique.{Ends-not_stops}
use Rattle.mate_plan.specs.Claim.{IsLosersPly}
use Rattle.mate_plan.specs.Plan.{turn_at}
use Rattle.mate_plan.specs.PlanOf.{rules_of}
use Rattle.mate_plan.specs.declared.names.Part.TheVariants as kind
use Rattle.mate_plan.specs.declared.names.PartName.{PartName}
use Rattle.mate_plan.proofs.PlanOnce.{difference-alike}
use Rattle.winner_session.proofs.Held.{losers_ply}
use Rattle.winning_sets.specs.Kept.{Kept, moves_left}
use Rattle.winning_sets.specs.Reach.{Reach}
use Rattle.winning_sets.specs.Solve.{AreReached, AreReachedTo, HasTuplesOf, IsSetAt, IsSolution, IsTupleOf, IsWithin, Solution, end_of, kept_at, reach_at}
use Rattle.mate_plan.proofs.MaskTracks.{tracks_ascend}
use Rattle.winning_sets.proofs.KeptParts.{kept_end, turn-reach, value_win, won_turn}
use Rattle.winning_sets.proofs.KeptPlan.{fits_reached}
use Rattle.winning_sets.proofs.MeaningLaws.{keeps_kept, mean, some_point}
use Rattle.loser_session.specs.Unwon.{AreUnwonAt, AreUnwonTo, IsUnwon, IsUnwonSet, RestsFit, kept_level, reach_level, rest_part}

-- with the loser to move nothing is won
pub not_won : (winner : Side) (n : ℕ) (q : Position) → q.turn ≡ other winner → Win winner n q → ⊥
not_won winner n q turn h = other_differs winner (sym (won_turn winner n q h) ∙ turn)

module _ (s : Solution) (valid : IsSolution s) where
  -- up to the last ply there is what is reached, where there is more than one
  reached_to : (last : ℕ) → AreReachedTo s.position last (reach_at s) → 0 < last → AreReached s.position last (reach_at s)
  reached_to zero are some = absurd (omega (arith, some))
  reached_to (suc last) are some = are

  pub are_reached : 0 < end_of s → AreReached s.position (end_of s) (reach_at s)
  are_reached some = reached_to (end_of s) valid.reached some

  module _ (ply mask : ℕ) (game : IsGameMask s.position mask) where
    -- a set that is reached, or kept, is there
    pub reach_found : ply < end_of s → reach_at s ply mask ≡ None → ⊥
    reach_found before none =
        let found = (are_reached (omega (arith, before))).found ply mask (omega (arith, before)) game in
        subst (λ (o : Option Automaton). IsSomeAnd o (HasTuplesOf (Reach s.position ply) mask)) none found

    pub kept_found : ply ≤ end_of s → kept_at s ply mask ≡ None → ⊥
    kept_found within none =
        let found = valid.kept.found ply mask within game in
        subst (λ (o : Option Automaton). IsSomeAnd o (HasTuplesOf (Kept s.winner s.position s.moves ply) mask)) none found

    pub reach_tuples : ply < end_of s → (a : Automaton) → reach_at s ply mask ≡ Some a → HasTuplesOf (Reach s.position ply) mask a
    reach_tuples before a is =
        subst (λ (o : Option Automaton). IsSomeAnd o (HasTuplesOf (Reach s.position ply) mask)) is ((are_reached (omega (arith, before))).found ply mask (omega (arith, before)) game)

    pub kept_tuples : ply ≤ end_of s → (a : Automaton) → kept_at s ply mask ≡ Some a → HasTuplesOf (Kept s.winner s.position s.moves ply) mask a
    kept_tuples within a is =
        subst (λ (o : Option Automaton). IsSomeAnd o (HasTuplesOf (Kept s.winner s.position s.moves ply) mask)) is (valid.kept.found ply mask within game)

    pub reach_formed : ply < end_of s → (a : Automaton) → reach_at s ply mask ≡ Some a → IsSetAt s.position.men mask a
    reach_formed before a is = (are_reached (omega (arith, before))).formed ply mask a is

  -- as a set over the tracks of the mask's men
  pub set_on : (mask : ℕ) (a : Automaton) → IsSetAt s.position.men mask a → IsSetOn (mask_tracks s.position mask) a
  set_on mask a is = record { reduced = is.reduced; decides = record { integers = is.integers; tracks_are = is.tracks }; few = is.few }

  pub set_at : (mask : ℕ) (a : Automaton) → IsSetOn (mask_tracks s.position mask) a → IsSetAt s.position.men mask a
  set_at mask a is = record { reduced = is.reduced; integers = is.decides.integers; tracks = is.decides.tracks_are; few = is.few }

  -- a set that is lent
  pub lent_reach : (ply mask : ℕ) (o : Option (Bor Automaton)) → ply < end_of s → option_copied o ≡ reach_at s ply mask → IfSome o (λ a. IsSetOn (mask_tracks s.position mask) a.now)
  lent_reach ply mask None before is = tt
  lent_reach ply mask (Some a) before is = set_on mask a.now ((are_reached (omega (arith, before))).formed ply mask a.now (sym is))

  pub lent_kept : (ply mask : ℕ) (o : Option (Bor Automaton)) → option_copied o ≡ kept_at s ply mask → IfSome o (λ a. IsSetOn (mask_tracks s.position mask) a.now)
  lent_kept ply mask None is = tt
  lent_kept ply mask (Some a) is = set_on mask a.now (valid.kept.formed ply mask a.now (sym is))

  -- at a ply of the loser no position is won
  pub all_unwon : (ply mask : ℕ) (a : Automaton) → IsGameMask s.position mask → ply < end_of s → turn_at s.position.turn ply ≡ other s.winner
      → reach_at s ply mask ≡ Some a → IsUnwonSet s ply mask a
  all_unwon ply mask a game before turn is =
      let tuples = reach_tuples ply mask game before a is in
      record {
        formed = reach_formed ply mask game before a is;
        tuples = record {
          same = λ tuple. (
            λ h.
                let w = (tuples.same tuple).0 h in
                record {
                  position = w.position;
                  is_in = record {
                    reached = w.is_in;
                    not_won = not_won s.winner (moves_left (end_of s) ply) w.position (turn-reach s.position w.position ply w.is_in ∙ turn);
                  };
                  mask_is = w.mask_is;
                  tuple_is = w.tuple_is;
                },
            λ w. (tuples.same tuple).1 (record { position = w.position; is_in = w.is_in.reached; mask_is = w.mask_is; tuple_is = w.tuple_is }),
          );
        };
      }

  -- at a ply of the winner those are not won that are not kept
  module _ (ply : ℕ) (within : ply < end_of s) (turn : turn_at s.position.turn ply ≡ s.winner) where
    abbrev IsKept : Position → Type 0
    IsKept q = Kept s.winner s.position s.moves ply q

    pub unwon_not_kept : (q : Position) → IsUnwon s ply q → IsKept q → ⊥
    unwon_not_kept q rest kept =
        rest.not_won (value_win s.winner (moves_left (end_of s) ply) q (turn-reach s.position q ply rest.reached ∙ turn) kept.value)

    pub not_kept_unwon : (q : Position) → Reach s.position ply q → (IsKept q → ⊥) → IsUnwon s ply q
    not_kept_unwon q reached off = record { reached = reached; not_won = λ win. off (record { reached = reached; value = inl win }) }

    -- a position is determined by its mask and its tuple
    one_position : (p q : Position) → Reach s.position ply p → Reach s.position ply q → mask_of p ≡ mask_of q → tuple_of p ≡ tuple_of q → p ≡ q
    one_position p q one two =
        let fits = fits_reached s.position valid.sound valid.few (mean valid.sound valid.few) (some_point valid.sound) ply in
        (mean valid.sound valid.few).game.unique (turn_at s.position.turn ply) p q (fits p one) (fits q two)

    -- the tuples that are reached and not kept
    unwon_tuples : (mask : ℕ) (R K : SetOf) (a : Automaton)
        → ((tuple : List ℤ) → Member R tuple ↔ IsTupleOf (Reach s.position ply) mask tuple)
        → ((tuple : List ℤ) → Member K tuple ↔ IsTupleOf IsKept mask tuple)
        → ((tuple : List ℤ) → IsAccepted a tuple ↔ (Member R tuple × (Member K tuple → ⊥)))
        → HasTuplesOf (IsUnwon s ply) mask a
    unwon_tuples mask R K a reach kept left = record {
      same = λ tuple. (
        λ h.
            let (is, off) = (left tuple).0 h in
            let w = (reach tuple).0 is in
            record {
              position = w.position;
              is_in = not_kept_unwon w.position w.is_in
                  (λ k. off ((kept tuple).1 (record { position = w.position; is_in = k; mask_is = w.mask_is; tuple_is = w.tuple_is })));
              mask_is = w.mask_is;
              tuple_is = w.tuple_is;
            },
        λ w. (left tuple).1 (
          (reach tuple).1 (record { position = w.position; is_in = w.is_in.reached; mask_is = w.mask_is; tuple_is = w.tuple_is }),
          λ k.
              let u = (kept tuple).0 k in
              let same : u.position ≡ w.position =
              one_position u.position w.position u.is_in.reached w.is_in.reached (u.mask_is ∙ sym w.mask_is) (u.tuple_is ∙ sym w.tuple_is) in
              unwon_not_kept w.position w.is_in (subst IsKept same u.is_in),
        ),
      );
    }

    module _ (mask : ℕ) (game : IsGameMask s.position mask) where
      abbrev R : SetOf
      R = reach_level s ply mask

      abbrev K : SetOf
      K = kept_level s ply mask

      reach_by : (o : Option Automaton) → reach_at s ply mask ≡ o → (tuple : List ℤ) → Member (as_set o) tuple ↔ IsTupleOf (Reach s.position ply) mask tuple
      reach_by None is tuple = absurd (reach_found ply mask game within is)
      reach_by (Some a) is tuple = (reach_tuples ply mask game within a is).same tuple

      pub reach_is : (tuple : List ℤ) → Member R tuple ↔ IsTupleOf (Reach s.position ply) mask tuple
      reach_is = reach_by (reach_at s ply mask) refl

      kept_by : (o : Option Automaton) → kept_at s ply mask ≡ o → (tuple : List ℤ) → Member (as_set o) tuple ↔ IsTupleOf IsKept mask tuple
      kept_by None is tuple = absurd (kept_found ply mask game (omega (arith, within)) is)
      kept_by (Some a) is tuple = (kept_tuples ply mask game (omega (arith, within)) a is).same tuple

      pub kept_is : (tuple : List ℤ) → Member K tuple ↔ IsTupleOf IsKept mask tuple
      kept_is = kept_by (kept_at s ply mask) refl

      over_by : (o : Option Automaton) → reach_at s ply mask ≡ o → IsOver (mask_tracks s.position mask) (as_set o)
      over_by None is tuple h = absurd h
      over_by (Some a) is tuple h =
          let formed = reach_formed ply mask game within a is in
          (word_values a.tracks h.word, ap (λ t. values_at t (word_values a.tracks h.word)) (sym formed.tracks) ∙ h.values)

      -- what the part of the plan gives has these tuples
      pub rest_members : (u : SetOf) (budget : ℕ) → Ends (rest_part s ply mask) budget u → (tuple : List ℤ) → Member u tuple ↔ (Member R tuple × (Member K tuple → ⊥))
      rest_members u budget ends tuple =
          difference_set-members (mask_tracks s.position mask) (record { ply = ply; mask = mask; part = kind.Rest })
          ((mean valid.sound valid.few).game.tracks mask 0 1) R K ends.entries u (over_by (reach_at s ply mask) refl) ends.takes tuple

      pub some_unwon : (u : SetOf) (budget : ℕ) (a : Automaton) → Ends (rest_part s ply mask) budget u
          → ((tuple : List ℤ) → IsAccepted a tuple ↔ Member u tuple) → IsSetAt s.position.men mask a → IsUnwonSet s ply mask a
      some_unwon u budget a ends same formed = record {
        formed = formed;
        tuples = unwon_tuples mask R K a reach_is kept_is (λ tuple.
            let h = rest_members u budget ends tuple in
            let k = same tuple in
            (λ is. h.0 (k.0 is), λ is. k.1 (h.1 is)));
      }

      -- the part doesn't stop where it ends
      pub not_stopped : (budget : ℕ) → IsWithin (rest_part s ply mask) budget → (name : PartStep PartName) → Stops (rest_part s ply mask) budget name → ⊥
      not_stopped budget fits name stops =
          Ends-not_stops SameSets (rest_part s ply mask) (rest_part s ply mask) budget
          (difference-alike (rules_of s.position) ply mask kind.Rest R R K K (SameSets-self R) (SameSets-self K)) fits.value name fits.ends stops

    -- where the ply is not the first, the loser has moved before it
    pub fits_here : (budget mask : ℕ) → RestsFit s budget → 0 < ply → IsGameMask s.position mask → IsWithin (rest_part s ply mask) budget
    fits_here budget mask fits some game = by ply refl some
      where
        by : (k : ℕ) → ply ≡ k → 0 < k → IsWithin (rest_part s ply mask) budget
        by zero e less = absurd (omega (arith, less))
        by (suc k) e less =
            let his : other (turn_at s.position.turn k) ≡ s.winner = ap (turn_at s.position.turn) (sym e) ∙ turn in
            let losers : turn_at s.position.turn k ≡ other s.winner = sym (other_other (turn_at s.position.turn k)) ∙ ap other his in
            let at : IsLosersPly s.winner s.position s.moves k = losers_ply s.winner s.position s.moves k (omega (arith, within, e)) losers in
            subst (λ (n : ℕ). IsWithin (rest_part s n mask) budget) (sym e) (fits k mask at game)

  -- at the last ply nothing is kept
  pub none_last : (mask : ℕ) (a : Automaton) → IsGameMask s.position mask → kept_at s (end_of s) mask ≡ Some a → (tuple : List ℤ) → IsAccepted a tuple ↔ Member Nothing tuple
  none_last mask a game is tuple = (
    λ h. kept_end s.winner s.position s.moves (((kept_tuples (end_of s) mask game (omega arith) a is).same tuple).0 h).is_in,
    λ h. absurd h,
  )

-- of a reached position it is known whether it is kept
module _ (s : Solution) (valid : IsSolution s) (ply : ℕ) (within : ply ≤ end_of s) (q : Position) (reached : Reach s.position ply q) where
  abbrev AtHand : Option Automaton → Type 0
  AtHand o = IsSomeAnd o (λ a. IsAccepted a (tuple_of q))

  in_or_not : (o : Option Automaton) → kept_at s ply (mask_of q) ≡ o → AtHand o ⊎ (AtHand o → ⊥)
  in_or_not None is = inr (λ h. h)
  in_or_not (Some a) is =
      let formed = valid.kept.formed ply (mask_of q) a is in
      table_decided a (subst IsAscending (sym formed.tracks) (tracks_ascend s.position.men (mask_of q))) formed.integers (tuple_of q)

  pub kept_or_not : Kept s.winner s.position s.moves ply q ⊎ (Kept s.winner s.position s.moves ply q → ⊥)
  kept_or_not =
      let fits = fits_reached s.position valid.sound valid.few (mean valid.sound valid.few) (some_point valid.sound) ply q reached in
      let keeps = keeps_kept s ply q valid.sound valid.few valid.kept in
      elim (in_or_not (kept_at s ply (mask_of q)) refl) [
        | inl is ↦ inl (keeps.0 (record { stock = fits.stock; turn = fits.turn; is_in = is })).1
        | inr off ↦ inr (λ kept. let h = keeps.1 (within, kept) in off h.is_in)
      ]

-- the set of a name that is lent
pub lent_is : (o : Option (Bor Automaton)) → lent o ≡ as_set (option_copied o)
lent_is None = refl
lent_is (Some a) = refl

-- the sets of one more ply
pub plies_more : (s : Solution) (count : ℕ) (plies : List (List Automaton)) (sets : List Automaton) → AreUnwonTo s count plies → AreUnwonAt s count sets
    → AreUnwonTo s (count + 1) (plies ++ sets ∷ [])
plies_more s count plies sets so_far here =
    let size = so_far.count_is in
    let more = length-append plies (sets ∷ []) in
    record {
      count_is = omega (arith, more, size);
      each = λ ply less.
          elim (cases_lt ply count) [
            | inl before ↦
                subst (AreUnwonAt s ply) (sym (get_or_append_left plies (sets ∷ []) [] ply (omega (arith, before, size)))) (so_far.each ply before)
            | inr last ↦
                let at : count ≡ ply = omega (arith, last, less) in
                subst (AreUnwonAt s ply) (sym (get_or_push plies sets [] ply (size ∙ at))) (subst (λ n. AreUnwonAt s n sets) at here)
          ];
    }

pub no_plies : (s : Solution) → AreUnwonTo s 0 []
no_plies s = record { count_is = refl; each = λ ply less. absurd (omega (arith, less)) }

-- each of the masks, by its place, is one of the position
pub game_at : (s : Solution) → IsSolution s → (masks : List ℕ) → masks ≡ masks_of s.position → (i : ℕ) → i < length masks → IsGameMask s.position (get_or masks i 0)
game_at s valid masks is i within =
    let mask = get_or masks i 0 in
    let among : Contains masks mask = (i, within, sym (get_or_default masks i 0 mask within)) in
    ((mean valid.sound valid.few).game.masks mask).0 (subst (λ (ms : List ℕ). Contains ms mask) is among)
