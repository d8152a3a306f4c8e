-- How many of the positions of a seed are mates in one move, and that of a seed and a count one thing is reported.
use Rattle.std.proofs.Common.{◌≡◌, ◌↔◌, ◌+◌, ℕ, zero, suc, Bool, true, false, cond, IsTrue, List, [], ◌∷◌, ◌++◌, length, Some, inl, inr, refl, sym, ap, subst, ◌∙◌, below_more, arith}
use Rattle.std.specs.Prelude.{count_by, slice_get}
use Rattle.std.proofs.lemmas.List.{length-append}
use Rattle.std.proofs.lemmas.List.Sums.{sum_by_push}
use Rattle.std.proofs.lemmas.Option.{same_Some}
use Rattle.desk_args.specs.declared.order.TheConstants.{DEFAULT_STATES}
use Rattle.desk_base.specs.Files.{Files}
use Rattle.game_rules.specs.Game.{Value}
use Rattle.game_rules.specs.declared.men.Side.TheVariants.{White}
use Rattle.chess_game.proofs.UnsoundnessLemmas.{number_cases}
use Rattle.winning_sets.specs.declared.names.StepName.{StepName}
use Rattle.desk_solve.specs.Drill.{AreVerdicts, DrillFinds, DrillReports, DrillStops, drill_line, drilled}
use Rattle.desk_report.specs.Outcome.{done_with}
use Rattle.desk_report.proofs.One.{IsDueOf, IsOne, line_row, over_row}
use Rattle.desk_verdict.specs.StepLines.{budget_line}
use Rattle.desk_verdict.specs.Verdict.{ExceedsAt, FitsBudget}
use Rattle.desk_verdict.proofs.OneStep.{exceeds_once, fits_exceeds}

-- how many verdicts are that White mates
abbrev won_of : List Bool → ℕ
won_of verdicts = count_by (λ won. won) verdicts

-- the last of a list, or one before it
pushed : (verdicts : List Bool) (won w : Bool) (k : ℕ) → slice_get (verdicts ++ won ∷ []) k ≡ Some w → (P : ℕ → Bool → Type 0)
    → ((j : ℕ) (v : Bool) → slice_get verdicts j ≡ Some v → P j v) → P (length verdicts) won → P k w
pushed [] won w zero is P before last = subst (P 0) (same_Some won w is) last
pushed [] won w (suc k) is P before last = absurd (cc)
pushed (v ∷ verdicts) won w zero is P before last = before 0 w is
pushed (v ∷ verdicts) won w (suc k) is P before last = pushed verdicts won w k is (λ j. P (suc j)) (λ j u at. before (suc j) u at) last

-- one position more
module _ (seed count mates : ℕ) (won : Bool) (finds : DrillFinds seed count mates) (fits : FitsBudget (drilled seed count) DEFAULT_STATES 1)
    (is : IsTrue won ↔ Value White 1 (drilled seed count).position) where
  more_verdicts : AreVerdicts seed (count + 1) (finds.verdicts ++ won ∷ [])
  more_verdicts =
      let Right : ℕ → Bool → Type 0 = λ k w. IsTrue w ↔ Value White 1 (drilled seed k).position in
      record {
        one_each = length-append finds.verdicts (won ∷ []) ∙ ap (λ n. n + 1) finds.are_verdicts.one_each;
        right = λ k w at.
            pushed finds.verdicts won w k at Right finds.are_verdicts.right (subst (λ n. Right n won) (sym finds.are_verdicts.one_each) is);
      }

  pub finds_more : DrillFinds seed (count + 1) (mates + cond won 1 0)
  finds_more =
      let Fits : ℕ → Type 0 = λ k. FitsBudget (drilled seed k) DEFAULT_STATES 1 in
      record {
        fits = below_more Fits count finds.fits fits;
        verdicts = finds.verdicts ++ won ∷ [];
        are_verdicts = more_verdicts;
        counted = ap (λ n. n + cond won 1 0) finds.counted ∙ sym (sum_by_push (λ w. cond w 1 0) finds.verdicts won);
      }

same_bool : (a b : Bool) → IsTrue a ↔ IsTrue b → a ≡ b
same_bool true true is = refl
same_bool true false is = let t = is.0 refl in cc
same_bool false true is = let t = is.1 refl in cc
same_bool false false is = refl

-- lists of one length with the same elements at each place are one
same_list : (xs ys : List Bool) → length xs ≡ length ys → ((k : ℕ) (a b : Bool) → slice_get xs k ≡ Some a → slice_get ys k ≡ Some b → a ≡ b) → xs ≡ ys
same_list [] [] long same = refl
same_list [] (y ∷ ys) long same = absurd (omega (arith, long))
same_list (x ∷ xs) [] long same = absurd (omega (arith, long))
same_list (x ∷ xs) (y ∷ ys) long same =
    ap (λ a. a ∷ xs) (same 0 x y refl refl) ∙ ap (λ l. y ∷ l) (same_list xs ys (omega (arith, long)) (λ k. same (suc k)))

through : {A B C : Type 0} → A ↔ C → B ↔ C → A ↔ B
through f g = (λ a. g.1 (f.0 a), λ b. f.1 (g.0 b))

once_found : {seed count one other : ℕ} → DrillFinds seed count one → DrillFinds seed count other → one ≡ other
once_found a b =
    let same : a.verdicts ≡ b.verdicts =
    same_list a.verdicts b.verdicts (a.are_verdicts.one_each ∙ sym b.are_verdicts.one_each)
    (λ k v w is so. same_bool v w (through (a.are_verdicts.right k v is) (b.are_verdicts.right k w so))) in
    a.counted ∙ ap won_of same ∙ sym b.counted

-- the positions are gone through to one end
found_stops : {seed count mates : ℕ} (step : StepName) → DrillFinds seed count mates → DrillStops seed count step → ⊥
found_stops {seed} step finds (n, within, before, over) = fits_exceeds (drilled seed n) DEFAULT_STATES 1 step (finds.fits n within) over

once_stop : (seed count : ℕ) (one other : StepName) → DrillStops seed count one → DrillStops seed count other → one ≡ other
once_stop seed count one other a b = elim (number_cases a.0 b.0) [
  | inl less ↦ absurd (fits_exceeds (drilled seed a.0) DEFAULT_STATES 1 one (b.2 a.0 less) a.3)
  | inr (inl same) ↦ exceeds_once (drilled seed b.0) DEFAULT_STATES 1 one other (subst (λ n. ExceedsAt (drilled seed n) DEFAULT_STATES 1 one) same a.3) b.3
  | inr (inr more) ↦ absurd (fits_exceeds (drilled seed b.0) DEFAULT_STATES 1 other (a.2 b.0 more) b.3)
]

pub drill_row : (seed count : ℕ) (files : Files) → IsOne (DrillReports seed count files)
drill_row seed count files =
    over_row budget_line (DrillStops seed count) {rest = IsDueOf (DrillFinds seed count) (λ mates. done_with files (drill_line mates count))} files
    (line_row (DrillFinds seed count) (λ mates. drill_line mates count) files (λ m n a b. ap (λ mates. drill_line mates count) (once_found a b)))
    (λ s t a b. ap budget_line (once_stop seed count s t a b)) (λ step report stops right. found_stops step right.1 stops)
