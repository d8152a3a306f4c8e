-- Why a set at no tuple of which the first part of a formula holds is left as it is.
use Rattle.std.proofs.Common.{◌≡◌, ℕ, ◌+◌, ◌*◌, ◌≤◌, List, [], ◌∷◌, ◌++◌, length, length-append, map, Option, Some, None, Ok, Err, Bool, IsTrue, IfSome, inl, inr, refl, ◌↔◌, sym, ap, ◌∙◌, subst, arith}
use Rattle.std.specs.Prelude.{IfOk, Result}
use Rattle.limits.specs.declared.numbers.TheConstants.{MOST_TRACKS}
use Rattle.track_word.specs.declared.tracks.Var.{Var}
use Rattle.track_word.specs.Tracks.{Values, IsAscending, part_of, with_vars, word_values}
use Rattle.track_word.specs.Word.{IsWord}
use Rattle.auto_core.specs.Automaton.{Automaton, Accepts, IsAutomaton}
use Rattle.auto_disjoint.specs.Apart.{AreApart}
use Rattle.lin_formula.proofs.Coincide.{coincide}
use Rattle.lin_formula.proofs.FreeVars.{free_vars-free, one_of-with_vars}
use Rattle.lin_formula.specs.Free.{IsOneOf}
use Rattle.lin_formula.specs.Holds.{Sets, Holds}
use Rattle.lin_formula.specs.SetOf.{NoneEmpty, Table, members, tables}
use Rattle.lin_formula.specs.Tree.{Tree, Lin, Value, Among, Not, And, Or, Ex, free_vars, steps, symbols}
use Rattle.formula_auto.specs.Compiled.{IsCompilable}
use Rattle.formula_auto.proofs.Rooms.{ready}
use Rattle.formula_auto.specs.Decides.{Decides}
use Rattle.formula_auto.specs.Step.{Says, StaysWithin}
use Rattle.formula_auto.proofs.Atoms.{Decides-itself}
use Rattle.formula_auto.proofs.NoSets.{FirstOver-no_set, Holds-no_set, steps-no_set}
use Rattle.formula_auto.proofs.Parts.{Holds-part}
use Rattle.formula_auto.proofs.SameWords.{IsWord-part, SameResidual-same, SameWords}
use Rattle.rule_formula.proofs.FineLemmas.{fine_few, fine_made, fine_names}
use Rattle.line_engine.specs.Answers.{NoSet}
use Rattle.line_engine.specs.Misses.{FitsWith, IsAsked, IsMadeOf, IsMissed, IsPlain, IsProductOf, IsSized, lead, no_sets}
use Rattle.line_engine.specs.Sizes.{HasSize}
use Rattle.line_engine.proofs.SizeLemmas.{size-and_not, size-auto, stays-and_not, within-by_size}
use Rattle.line_engine.proofs.ItemLemmas.{HasSet, any_fine, fine_symbols, low_distances, there}
use Rattle.line_engine.proofs.SetLemmas.{answers_narrowed}
use Rattle.set_plan.specs.Outcome.{Ends}
use Rattle.set_plan.specs.Sets.{item_of}
use Rattle.set_plan.specs.Unite.{Made, positives}
use Rattle.set_plan.proofs.Makes.{Ends-make}
use Rattle.set_plan.proofs.Decided.{IsSetOf-decides, has_word}
use Rattle.line_plan.specs.Plan.{distances, narrow}
use Rattle.line_plan.proofs.SetFacts.{distances-ascend}
use Rattle.rule_formula.specs.Fine.{IsFine, IsLow}

module _ (V : Var → Type 0) where
  lead_fine : (f : Tree) → IsFine V NoSet f → IsFine V NoSet (lead f)
  lead_fine (Lin terms rel bound) h = h
  lead_fine (Value x n) h = h
  lead_fine (Among s vars) h = h
  lead_fine (Not f) h = h
  lead_fine (And f (Not g)) h = lead_fine f h.0
  lead_fine (And f (Lin terms rel bound)) h = h
  lead_fine (And f (Value x n)) h = h
  lead_fine (And f (Among s vars)) h = h
  lead_fine (And f (And g k)) h = h
  lead_fine (And f (Or g k)) h = h
  lead_fine (And f (Ex x g)) h = h
  lead_fine (Or f g) h = h
  lead_fine (Ex x f) h = h

-- the first of two formulas has no more steps than both
fewer : (f g : Tree) → length (steps f) ≤ length (steps (And f (Not g)))
fewer f g =
    let all = length-append (steps f ++ steps g) (And f (Not g) ∷ []) in
    let both = length-append (steps f) (steps g) in
    omega (arith, all, both)

lead_steps : (f : Tree) → length (steps (lead f)) ≤ length (steps f)
lead_steps (Lin terms rel bound) = omega arith
lead_steps (Value x n) = omega arith
lead_steps (Among s vars) = omega arith
lead_steps (Not f) = omega arith
lead_steps (And f (Not g)) = let rest = lead_steps f in let more = fewer f g in omega (arith, rest, more)
lead_steps (And f (Lin terms rel bound)) = omega arith
lead_steps (And f (Value x n)) = omega arith
lead_steps (And f (Among s vars)) = omega arith
lead_steps (And f (And g k)) = omega arith
lead_steps (And f (Or g k)) = omega arith
lead_steps (And f (Ex x g)) = omega arith
lead_steps (Or f g) = omega arith
lead_steps (Ex x f) = omega arith

pub lead_plain : (f : Tree) → IsPlain f → IsPlain (lead f)
lead_plain f h =
    let fewer = lead_steps f in
    record { fine = lead_fine IsLow f h.fine; few_steps = let few = h.few_steps in omega (arith, fewer, few) }

pub lead_holds : (f : Tree) (e : Sets) (v : Values) → Holds f e v → Holds (lead f) e v
lead_holds (Lin terms rel bound) e v h = h
lead_holds (Value x n) e v h = h
lead_holds (Among s vars) e v h = h
lead_holds (Not f) e v h = h
lead_holds (And f (Not g)) e v h = lead_holds f e v h.0
lead_holds (And f (Lin terms rel bound)) e v h = h
lead_holds (And f (Value x n)) e v h = h
lead_holds (And f (Among s vars)) e v h = h
lead_holds (And f (And g k)) e v h = h
lead_holds (And f (Or g k)) e v h = h
lead_holds (And f (Ex x g)) e v h = h
lead_holds (Or f g) e v h = h
lead_holds (Ex x f) e v h = h

pub plain_compilable : (f : Tree) → IsPlain f → IsCompilable f []
plain_compilable f h =
    let few = fine_few NoSet f h.fine in
    record {
      well_made = fine_made IsLow NoSet f h.fine;
      few_vars = omega (arith, few);
      has_sets = fine_names IsLow (HasSet []) f (any_fine IsLow (HasSet []) f h.fine);
    }

-- of an automaton that decides the formula
pub sized_made : (f : Tree) (budget : ℕ) (a : Automaton) → IsMadeOf f budget a → IsAutomaton a → IsSized f budget (length a.accept)
sized_made f budget a made valid = record { size = size-auto made.decides valid; within = made.within }

-- of both parts of the chain
pub sized_product : (f g : Tree) (budget : ℕ) (one other size : Option ℕ) → IfSome one (IsSized f budget) → IfSome other (IsSized g budget)
    → IfSome size (IsProductOf one other budget) → IfSome size (IsSized (And f (Not g)) budget)
sized_product f g budget one other None left right h = tt
sized_product f g budget one other (Some n) left right h =
    let first : IsSized f budget h.first = rw h.first_is at left in
    let second : IsSized g budget h.second = rw h.second_is at right in
    let is = h.is in
    let few = h.few in
    let e : Sets = members no_sets in
    record {
      size = subst (HasSize (And f (Not g)) e) (sym h.is) (size-and_not first.size second.size);
      within = stays-and_not f g e budget first.within second.within (within-by_size first.size second.size (omega (arith, is, few)));
    }

-- of automata that are apart not both formulas hold
module _ (e d : Sets) (f g : Tree) (a b : Automaton) (left : Decides a f e) (right : Decides b g d) (apart : AreApart a b) where
  abbrev pub all : List Var
  all = with_vars a.tracks b.tracks

  accepts : (h : Tree) (s : Sets) (c : Automaton) → Decides c h s → (word : List ℕ) → IsWord (length all) word → Holds h s (word_values all word)
      → Accepts c (part_of all c.tracks word)
  accepts h s c decides word is holds =
      subst (λ t. Accepts c (part_of all t word)) (sym decides.tracks)
      ((decides.words (part_of all (free_vars h) word) (IsWord-part all (free_vars h) is)).1 ((Holds-part h s all word).0 holds))

  pub not_both : (word : List ℕ) → IsWord (length all) word → Holds f e (word_values all word) → Holds g d (word_values all word) → ⊥
  not_both word is first second = apart word is (accepts f e a left word is first, accepts g d b right word is second)

  -- as a word over all tracks has any values
  pub not_at : (v : Values) → Holds f e v → Holds g d v → ⊥
  not_at v first second =
      let has = has_word all v in
      let both = λ (x : Var). one_of-with_vars x a.tracks b.tracks in
      not_both has.word has.is_word
      (coincide f e v (word_values all has.word)
      (λ x is. sym (has.agree x ((both x).1 (inl (subst (IsOneOf x) (sym left.tracks) ((free_vars-free f x).1 is)))))) first)
      (coincide g d v (word_values all has.word)
      (λ x is. sym (has.agree x ((both x).1 (inr (subst (IsOneOf x) (sym right.tracks) ((free_vars-free g x).1 is)))))) second)

module _ (a : Automaton) (f : Tree) (asked : IsAsked a f) where
  abbrev pub own : List Var
  own = a.tracks

  abbrev pub sets : Sets
  sets = members (tables (a ∷ []))

  own_is : own ≡ distances asked.count
  own_is = asked.filled.reached.decides.tracks_are

  ascending : IsAscending own
  ascending = subst IsAscending (sym own_is) (distances-ascend asked.count)

  itself : Decides a (Among 0 own) sets
  itself = Decides-itself (tables (a ∷ [])) 0 refl asked.filled.reached.decides.integers ascending

  -- leaving the formula out adds no variable
  pub over : free_vars (And (Among 0 own) (Not f)) ≡ own
  over = subst (λ (t : List Var). free_vars (And (Among 0 t) (Not f)) ≡ t) (sym own_is) asked.part.over

  pub plain : IsPlain f
  plain = record { fine = asked.part.fine; few_steps = asked.part.few_steps }

  none : symbols f ≡ []
  none = fine_symbols IsLow f asked.part.fine

  pub decides_missed : (first : Automaton) → Decides first (lead f) (members no_sets) → AreApart a first → Decides a (And (Among 0 own) (Not f)) sets
  decides_missed first lead_decides apart = record {
    tracks = sym over;
    words = λ word is.
        let values : Values = word_values own word in
        let there : IsWord (length own) word = subst (λ (t : List Var). IsWord (length t) word) over is in
        let same : Accepts a word ↔ Holds (Among 0 own) sets values = own_word word there in
        let misses : Holds (Among 0 own) sets values → Holds f sets values → ⊥ =
        λ k h. not_at sets (members no_sets) (Among 0 own) (lead f) a first itself lead_decides apart values k
        (lead_holds f (members no_sets) values (Holds-no_set f sets (members no_sets) values none h)) in
        subst (λ (t : List Var). Accepts a word ↔ (Holds (Among 0 own) sets (word_values t word) × ¬ Holds f sets (word_values t word))) (sym over)
        (λ k. let h = same.0 k in (h, misses h), λ h. same.1 h.0);
  }
    where
      own_word : (word : List ℕ) → IsWord (length own) word → Accepts a word ↔ Holds (Among 0 own) sets (word_values own word)
      own_word word is =
          let w = itself.words word (subst (λ (t : List Var). IsWord (length t) word) itself.tracks is) in
          subst (λ (t : List Var). Accepts a word ↔ Holds (Among 0 own) sets (word_values t word)) (sym itself.tracks) w

  -- the words that the formula distinguishes do not depend on the sets
  size_there : {n : ℕ} → HasSize f (members no_sets) n → HasSize f sets n
  size_there {n} h = λ all.
      let told = h all in
      let same : SameWords (length (free_vars f)) (Says f sets) (Says f (members no_sets)) =
      λ word is. (Holds-no_set f sets (members no_sets) _ none, Holds-no_set f (members no_sets) sets _ none) in
      record {
        number = told.number;
        below = told.below;
        alike = λ v w is_v is_w alike.
            SameResidual-same (Says f sets) same (IsWord-part all (free_vars f) is_v) (IsWord-part all (free_vars f) is_w)
            (told.alike v w is_v is_w alike);
      }

  pub within_missed : (valid : IsAutomaton a) (budget : ℕ) → FitsWith f budget (length a.accept) → StaysWithin (And (Among 0 own) (Not f)) sets budget
  within_missed valid budget fits =
      let there = FirstOver-no_set (steps f) (members no_sets) sets budget 1 1 (steps-no_set f none) fits.sized.within in
      let room = fits.room in
      stays-and_not (Among 0 own) f sets budget refl there
      (within-by_size (size-auto itself valid) (size_there fits.sized.size) room)

  -- the set and the first part have few tracks together
  pub apart_room : (budget : ℕ) (first : Automaton) → IsMadeOf (lead f) budget first → length (with_vars own first.tracks) ≤ MOST_TRACKS
  apart_room budget first made =
      let lead_is = lead_plain f plain in
      let few = asked.few in
      let whole : Tree = And (Among 0 (distances asked.count)) (lead f) in
      let fine : IsFine IsLow (HasSet (a ∷ [])) whole =
      ((there asked.count 0 (a ∷ []) a asked.filled refl, low_distances asked.count (omega (arith, few))), any_fine IsLow (HasSet (a ∷ [])) (lead f) lead_is.fine) in
      let most = fine_few (HasSet (a ∷ [])) whole fine in
      let compilable : IsCompilable whole (a ∷ []) = record {
        well_made = fine_made IsLow (HasSet (a ∷ [])) whole fine;
        few_vars = omega (arith, most);
        has_sets = fine_names IsLow (HasSet (a ∷ [])) whole fine;
      } in
      let tracks : free_vars (Among 0 (distances asked.count)) ≡ own =
      ap (λ (t : List Var). free_vars (Among 0 t)) (sym own_is) ∙ sym itself.tracks in
      subst (λ (t : List Var). length (with_vars t first.tracks) ≤ MOST_TRACKS) tracks
      (subst (λ (t : List Var). length (with_vars (free_vars (Among 0 (distances asked.count))) t) ≤ MOST_TRACKS) (sym made.decides.tracks)
      (ready compilable).0)

  -- the first part holds nowhere in the set, and the budget has room
  pub missed_where : (budget : ℕ) (first : Automaton) → IsMadeOf (lead f) budget first → AreApart a first → IsAutomaton a
      → FitsWith f budget (length a.accept) → IsMissed a f budget
  missed_where budget first made apart valid fits =
      record { decides = decides_missed first made.decides apart; within = within_missed valid budget fits }

  pub missed_if : {E : Type 0} (budget : ℕ) (first : Automaton) → IsMadeOf (lead f) budget first → AreApart a first → IsAutomaton a → (fits : Result Bool E)
      → IfOk fits (λ b. IsTrue b → FitsWith f budget (length a.accept)) → IfOk fits (λ b. IsTrue b → IsMissed a f budget)
  missed_if budget first made apart valid (Ok b) h = λ is. missed_where budget first made apart valid (h is)
  missed_if budget first made apart valid (Err why) h = tt

  -- the set is what it was, and the steps are counted
  pub ends_missed : (at budget : ℕ) → IsMissed a f budget
      → Ends (narrow asked.count (Not f) (Table a, at)) budget (Table a, at + length (steps (And (Among 0 (distances asked.count)) (Not f))))
  ends_missed at budget missed =
      let whole : Tree = And (Among 0 (distances asked.count)) (Not f) in
      let there : List Var → Type 0 = λ t. Decides a (And (Among 0 t) (Not f)) sets in
      let stays : List Var → Type 0 = λ t. StaysWithin (And (Among 0 t) (Not f)) sets budget in
      let decides = subst there own_is missed.decides in
      let within = subst stays own_is missed.within in
      let made : Made = (Table a, at + length (steps whole)) in
      let is = IsSetOf-decides whole (tables (a ∷ [])) a decides in
      let some : NoneEmpty (map (tables (a ∷ [])) (positives whole)) = (asked.filled.some, tt) in
      answers_narrowed {R = Made} a (a ∷ []) whole at budget (λ (m : Made). m) (Ok made) asked.count (Not f) refl refl none
      (Ends-make tt at (item_of (a ∷ []) whole) budget some is within)

  -- one step more than the formula has
  pub steps_missed : length (steps (And (Among 0 (distances asked.count)) (Not f))) ≡ length (steps f) + 1
  steps_missed = length-append (steps f) (And (Among 0 (distances asked.count)) (Not f) ∷ [])
