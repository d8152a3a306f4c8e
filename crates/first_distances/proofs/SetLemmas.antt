-- The table of kept sets, and what is compiled over it.
use Rattle.std.proofs.Common.{◌≡◌, ◌↔◌, ℕ, zero, suc, ◌+◌, ◌^◌, ◌<◌, ◌≤◌, ℤ, pos, List, [], ◌∷◌, length, map, Option, Some, None, inl, inr, refl, sym, ap, subst, ◌∙◌, arith}
use Rattle.std.specs.Prelude.{IfErr, IfOk, IsSomeAnd, OnOk, Result, Ok, Err, slice_get}
use Rattle.auto_core.specs.Automaton.{Automaton}
use Rattle.auto_core.specs.Integers.{DecidesIntegers, IsAccepted}
use Rattle.auto_core.specs.Reduced.{IsReduced}
use Rattle.track_word.specs.declared.tracks.Var.{Var}
use Rattle.track_word.specs.Tracks.{values_at}
use Rattle.lin_formula.specs.Holds.{Holds, Sets}
use Rattle.lin_formula.specs.SetOf.{HoldsAt, Member, as_set, members, tables}
use Rattle.lin_formula.specs.Tree.{Tree, free_vars, steps}
use Rattle.formula_auto.specs.Compiled.{IsCompilable, IsCompileError, IsSetFor}
use Rattle.formula_auto.specs.Decides.{Decides}
use Rattle.formula_auto.specs.Step.{FirstOver, StaysWithin}
use Rattle.formula_auto.specs.declared.errors.CompileError.{CompileError}
use Rattle.formula_auto.specs.declared.errors.CompileError.TheVariants.{Over, Memory}
use Rattle.set_plan.proofs.Decided.{IsSetOf-decides}
use Rattle.set_plan.proofs.SameSets.{Exceeds-same, Holds-same}
use Rattle.game_rules.specs.Game.{Position}
use Rattle.game_rules.specs.declared.men.Ray.{Ray}
use Rattle.game_rules.specs.declared.men.Side.{Side}
use Rattle.mask_sets.specs.Stock.{mask_of}
use Rattle.mate_plan.specs.PlanOf.{last_ply}
use Rattle.winning_sets.specs.Claimed.{IsValid}
use Rattle.winning_sets.specs.Kept.{Kept}
use Rattle.winning_sets.specs.Solve.{HasTuplesOf, IsSetAt, IsSolution, IsTupleOf, Solution, end_of, kept_at}
use Rattle.winning_sets.specs.declared.origin.Origin.TheVariants.{Plan}
use Rattle.winning_sets.proofs.KeptParts.{left_first}
use Rattle.winning_sets.proofs.ValidLemmas.{plan_valid}
use Rattle.move_choice.specs.Aims.{HasRay, IsMover}
use Rattle.winner_session.specs.Firsts.{Firsts}
use Rattle.first_distances.specs.FirstSet.{IsDistance, IsFirstSet, IsRayError, RayStaysWithin, kept_after}
use Rattle.first_distances.specs.RayFormula.{capture_masks, masks_after, ray_formula, t_var}
use Rattle.first_distances.proofs.DistanceLemmas.{first_formula, formula_first, mask_game, masks_stand}
use Rattle.first_distances.proofs.FreeLemmas.{formula_free}
use Rattle.first_distances.proofs.MaskLemmas.{captures_few}
use Rattle.first_distances.proofs.MoverLemmas.{formula_is, his_dx, his_dy, his_high, his_low, his_square_is}
use Rattle.first_distances.proofs.SizeLemmas.{IsSmall, few_known, small_formula}

-- the first step that exceeds the budget is the same over sets with the same tuples
pub over_same : (d e : Sets) → ((k : ℕ) (tuple : List ℤ) → d k tuple ↔ e k tuple) → (fs : List Tree) (budget from : ℕ) (answer : Option ℕ)
    → FirstOver fs d budget from answer → FirstOver fs e budget from answer
over_same d e same [] budget from answer h = h
over_same d e same (f ∷ fs) budget from answer (inl (over, is)) = inl (Exceeds-same d e same f budget over, is)
over_same d e same (f ∷ fs) budget from answer (inr (within, rest)) =
    inr ((λ over. within (Exceeds-same e d (λ k tuple. ((same k tuple).1, (same k tuple).0)) f budget over)), over_same d e same fs budget (from + 1) answer rest)

-- with a move of the winner there is a ply after the first one
pub some_ply : (w t : Side) (n : ℕ) → 1 ≤ n → 1 ≤ last_ply w t n
some_ply w t n some = let left = left_first w t n in omega (arith, left, some)

module _ (f : ℕ → Option Automaton) where
  same_head : (x : Automaton) (xs : List Automaton) (m : ℕ) (ms : List ℕ) → map Some (x ∷ xs) ≡ map f (m ∷ ms) → (Some x ≡ f m) × (map Some xs ≡ map f ms)
  same_head x xs m ms are =
      let whole : Some x ∷ map Some xs ≡ f m ∷ map f ms = are in
      let head : Some x ≡ f m = cc in
      let tail : map Some xs ≡ map f ms = cc in
      (head, tail)

  pub table_at : (sets : List Automaton) (masks : List ℕ) → map Some sets ≡ map f masks → (k mask : ℕ) → slice_get masks k ≡ Some mask → slice_get sets k ≡ f mask
  table_at sets [] are k mask at = absurd (cc)
  table_at [] (m ∷ ms) are k mask at = let no : [] ≡ f m ∷ map f ms = are in absurd (cc)
  table_at (x ∷ xs) (m ∷ ms) are zero mask at = let same : m ≡ mask = cc in (same_head x xs m ms are).0 ∙ ap f same
  table_at (x ∷ xs) (m ∷ ms) are (suc k) mask at = table_at xs ms (same_head x xs m ms are).1 k mask at

  table_none : (sets : List Automaton) (masks : List ℕ) → map Some sets ≡ map f masks → (k : ℕ) → slice_get masks k ≡ None → slice_get sets k ≡ None
  table_none [] [] are k none = refl
  table_none (x ∷ xs) [] are k none = let no : Some x ∷ map Some xs ≡ [] = are in absurd (cc)
  table_none [] (m ∷ ms) are k none = refl
  table_none (x ∷ xs) (m ∷ ms) are zero none = absurd (cc)
  table_none (x ∷ xs) (m ∷ ms) are (suc k) none = table_none xs ms (same_head x xs m ms are).1 k none

module _ (s : Solution) (valid : IsSolution s) (turn : s.position.turn ≡ s.winner) (some : 1 ≤ s.moves) (sets : List Automaton)
    (are : map Some sets ≡ map (kept_at s 1) (masks_after s.position)) where
  abbrev p : Position
  p = s.position

  abbrev Wanted : Sets
  Wanted = kept_after s.winner s.moves s.position

  abbrev Named : Sets
  Named = members (tables sets)

  first_ply : 1 ≤ end_of s
  first_ply = some_ply s.winner s.position.turn s.moves some

  there : (k mask : ℕ) → slice_get (masks_after s.position) k ≡ Some mask
      → (a : Automaton) × (slice_get sets k ≡ Some a) × IsSetAt s.position.men mask a × HasTuplesOf (Kept s.winner s.position s.moves 1) mask a
  there k mask at =
      by (kept_at s 1 mask) refl (valid.kept.found 1 mask first_ply (mask_game s.position valid.sound k mask at))
    where
      by : (o : Option Automaton) → kept_at s 1 mask ≡ o → IsSomeAnd o (HasTuplesOf (Kept s.winner s.position s.moves 1) mask)
          → (a : Automaton) × (slice_get sets k ≡ Some a) × IsSetAt s.position.men mask a × HasTuplesOf (Kept s.winner s.position s.moves 1) mask a
      by None is h = absurd h
      by (Some a) is h = (a, table_at (kept_at s 1) sets (masks_after s.position) are k mask at ∙ is, valid.kept.formed 1 mask a is, h)

  -- the automata have the tuples that are wanted
  named_wanted : (k : ℕ) (tuple : List ℤ) → Named k tuple ↔ Wanted k tuple
  named_wanted k tuple = by (slice_get (masks_after s.position) k) refl
    where
      by : (o : Option ℕ) → slice_get (masks_after s.position) k ≡ o → Named k tuple ↔ IsSomeAnd o (λ mask. IsTupleOf (Kept s.winner s.position s.moves 1) mask tuple)
      by None is =
          let none : slice_get sets k ≡ None = table_none (kept_at s 1) sets (masks_after s.position) are k is in
          (λ h. subst (λ o. Member (as_set o) tuple) none h, λ h. absurd h)
      by (Some mask) is =
          let (a, at, formed, has) = there k mask is in (
            λ h. (has.same tuple).0 (subst (λ o. Member (as_set o) tuple) at h),
            λ h. subst (λ o. Member (as_set o) tuple) (sym at) ((has.same tuple).1 h),
          )

  module _ {i ray : ℕ} {r : Ray} (mover : IsMover s.position i ray r) where
    abbrev P : ℕ × List Var → Type 0
    P m = IsSetFor sets m.0 (length m.1)

    within : i ≤ 8
    within = let high = his_high mover in let few = valid.few in omega (arith, high, few)

    captures : length (capture_masks s.position) ≤ 8
    captures = let count = captures_few s.position (length s.position.men) in let few = valid.few in omega (arith, count, few)

    small : IsSmall P 1000 (ray_formula s.position i ray)
    small =
        subst (IsSmall P 1000) (sym (formula_is mover))
        (small_formula P s.position valid.few i (his_low mover) within r (his_dx mover) (his_dy mover) (capture_masks s.position) (mask_of s.position) captures
        (λ j mask at.
        let (a, is_there, formed, has) = there j mask at in
        record { set = a; is_there = is_there; reached = formed.reduced.reached; integers = formed.integers; arity = ap length formed.tracks }))

    pub ray_compilable : IsCompilable (ray_formula s.position i ray) sets
    ray_compilable = record {
      well_made = small.made;
      few_vars = few_known (ray_formula s.position i ray) small.known;
      has_sets = small.names;
    }

    pub ray_steps : length (steps (ray_formula s.position i ray)) < 2 ^ 31
    ray_steps = let few = small.steps_few in omega (arith, few)

    one_track : free_vars (ray_formula s.position i ray) ≡ t_var ∷ []
    one_track =
        ap free_vars (formula_is mover)
        ∙ formula_free s.position i (his_low mover) within r mover.square (his_square_is mover) (mask_of s.position) (capture_masks s.position) (masks_stand s.position valid.sound)

    module _ (a : Automaton) (decides : Decides a (ray_formula s.position i ray) (members (tables sets))) where
      abbrev IsFirst : List ℤ → Type 0
      IsFirst tuple = IsDistance (Firsts s.winner s.moves s.position i ray) tuple

      accepted_first : (tuple : List ℤ) → IsAccepted a tuple → IsFirst tuple
      accepted_first tuple h =
          let at : HoldsAt (free_vars (ray_formula s.position i ray)) (Holds (ray_formula s.position i ray) (members (tables sets))) tuple =
          ((IsSetOf-decides (ray_formula s.position i ray) (tables sets) a decides).same tuple).0 h in
          let holds : Holds (ray_formula s.position i ray) Wanted at.values = (Holds-same Named Wanted named_wanted (ray_formula s.position i ray) at.values).0 at.holds in
          let (t, is, first) = formula_first mover valid.few valid.sound s.winner turn s.moves at.values holds in
          let here : at.values 18 ∷ [] ≡ tuple = subst (λ vars. values_at vars at.values ≡ tuple) one_track at.is_tuple in
          record { distance = t; is_tuple = sym here ∙ ap (λ n. n ∷ []) is; has = first }

      first_accepted : (tuple : List ℤ) → IsFirst tuple → IsAccepted a tuple
      first_accepted tuple h =
          let holds : Holds (ray_formula s.position i ray) Wanted (λ x. pos h.distance) =
          first_formula mover valid.few valid.sound s.winner turn s.moves (λ x. pos h.distance) h.distance refl h.has in
          let at : HoldsAt (free_vars (ray_formula s.position i ray)) (Holds (ray_formula s.position i ray) (members (tables sets))) tuple = record {
            values = λ x. pos h.distance;
            is_tuple = subst (λ vars. values_at vars (λ x. pos h.distance) ≡ tuple) (sym one_track) (sym h.is_tuple);
            holds = (Holds-same Named Wanted named_wanted (ray_formula s.position i ray) (λ x. pos h.distance)).1 holds;
          } in
          ((IsSetOf-decides (ray_formula s.position i ray) (tables sets) a decides).same tuple).1 at

      pub ray_first_set : IsReduced a → DecidesIntegers a → IsFirstSet s.winner s.moves s.position i ray a
      ray_first_set reduced integers = record {
        reduced = reduced;
        integers = integers;
        tracks = decides.tracks ∙ one_track;
        firsts = λ tuple. (accepted_first tuple, first_accepted tuple);
      }

    pub ray_within : (budget : ℕ) → FirstOver (steps (ray_formula s.position i ray)) (members (tables sets)) budget 1 None
        → RayStaysWithin s.winner s.moves s.position i ray budget
    ray_within budget h = over_same Named Wanted named_wanted (steps (ray_formula s.position i ray)) budget 1 None h

    pub ray_error : (budget : ℕ) (e : CompileError) → IsCompileError (ray_formula s.position i ray) (tables sets) 0 budget e
        → IsRayError s.winner s.moves s.position i ray budget e
    ray_error budget (Over step) h = over_same Named Wanted named_wanted (steps (ray_formula s.position i ray)) budget 1 (Some step) h
    ray_error budget Memory h = tt

-- the table and the formula that are made, in the words of the solution
pub record IsPrepared (s : Solution) (man ray : ℕ) (sets : List Automaton) (f : Tree) : Type 0 where
  pub sets_are : map Some sets ≡ map (kept_at s 1) (masks_after s.position)
  pub formula_same : f ≡ ray_formula s.position man ray

pub prepared : (s : Solution) (man ray : ℕ) (sets : List Automaton) (f : Tree) {q : Position} {lent items : List ℕ} {i n : ℕ} → q ≡ s.position → lent ≡ items
    → items ≡ masks_after q → map Some sets ≡ map (kept_at s 1) lent → f ≡ ray_formula q i n → i ≡ man → n ≡ ray → IsPrepared s man ray sets f
prepared s man ray sets f {q} {lent} {items} {i} {n} is same masks kept made his number = record {
  sets_are = kept ∙ ap (map (kept_at s 1)) (same ∙ masks ∙ ap masks_after is);
  formula_same = made ∙ ap (λ (p : Position). ray_formula p i n) is ∙ ap (λ k. ray_formula s.position k n) his ∙ ap (ray_formula s.position man) number;
}

-- a solution of a plan, with the winner to move, and one of his rays
pub record IsAsked (s : Solution) (man ray : ℕ) : Type 0 where
  pub valid : IsValid s
  pub plan : s.origin ≡ Plan
  pub turn : s.position.turn ≡ s.winner
  pub moves : 1 ≤ s.moves
  pub mover : HasRay s.position man ray

module _ (s : Solution) (man ray : ℕ) (sets : List Automaton) (f : Tree) (asked : IsAsked s man ray) (ready : IsPrepared s man ray sets f) where
  solution : IsSolution s
  solution = plan_valid s asked.valid asked.plan

  pub made_compilable : IsCompilable f sets
  made_compilable = subst (λ g. IsCompilable g sets) (sym ready.formula_same) (ray_compilable s solution asked.turn asked.moves sets ready.sets_are asked.mover.1)

  pub made_steps : length (steps f) < 2 ^ 31
  made_steps = subst (λ g. length (steps g) < 2 ^ 31) (sym ready.formula_same) (ray_steps s solution asked.turn asked.moves sets ready.sets_are asked.mover.1)

  made_first_set : (a : Automaton) → IsReduced a → Decides a f (members (tables sets)) → DecidesIntegers a → IsFirstSet s.winner s.moves s.position man ray a
  made_first_set a reduced decides integers =
      ray_first_set s solution asked.turn asked.moves sets ready.sets_are asked.mover.1 a (subst (λ g. Decides a g (members (tables sets))) ready.formula_same decides) reduced integers

  made_within : (budget : ℕ) → StaysWithin f (members (tables sets)) budget → RayStaysWithin s.winner s.moves s.position man ray budget
  made_within budget h =
      ray_within s solution asked.turn asked.moves sets ready.sets_are asked.mover.1 budget
      (subst (λ g. StaysWithin g (members (tables sets)) budget) ready.formula_same h)

  made_error : (budget : ℕ) (e : CompileError) → IsCompileError f (tables sets) 0 budget e → IsRayError s.winner s.moves s.position man ray budget e
  made_error budget e h =
      ray_error s solution asked.turn asked.moves sets ready.sets_are asked.mover.1 budget e
      (subst (λ g. IsCompileError g (tables sets) 0 budget e) ready.formula_same h)

  pub made_firsts : (r : Result Automaton CompileError) → IfOk r IsReduced → IfOk r (λ a. Decides a f (members (tables sets))) → IfOk r DecidesIntegers
      → IfOk r (IsFirstSet s.winner s.moves s.position man ray)
  made_firsts (Ok a) reduced decides integers = made_first_set a reduced decides integers
  made_firsts (Err e) reduced decides integers = tt

  pub made_stays : (budget : ℕ) (r : Result Automaton CompileError) → OnOk r (StaysWithin f (members (tables sets)) budget)
      → OnOk r (RayStaysWithin s.winner s.moves s.position man ray budget)
  made_stays budget (Ok a) h = made_within budget h
  made_stays budget (Err e) h = tt

  pub made_over : (budget : ℕ) (r : Result Automaton CompileError) → IfErr r (IsCompileError f (tables sets) 0 budget)
      → IfErr r (IsRayError s.winner s.moves s.position man ray budget)
  made_over budget (Ok a) h = tt
  made_over budget (Err e) h = made_error budget e h
