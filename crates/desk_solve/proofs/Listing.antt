-- The lines of the winner's first moves, and that an input of `first` has one report.
use Rattle.std.proofs.Common.{◌≡◌, ◌↔◌, ℕ, zero, suc, ◌+◌, ◌≤◌, Bool, false, IsTrue, List, [], ◌++◌, length, inl, inr, refl, sym, ap, subst, ◌∙◌, append_assoc, arith}
use Rattle.std.specs.Prelude.{codes}
use Rattle.std.proofs.lemmas.List.{append-nil}
use Rattle.desk_base.specs.Files.{Files}
use Rattle.game_rules.specs.Game.{Position, Value}
use Rattle.game_rules.specs.declared.men.Side.{Side}
use Rattle.game_laws.proofs.SoundLemmas.{side_or_other}
use Rattle.move_choice.specs.Aims.{HasRay}
use Rattle.winner_session.specs.Firsts.{Firsts}
use Rattle.winner_session.proofs.FirstLemmas.{firsts_ray, firsts_value, line_first, line_once}
use Rattle.winning_sets.specs.Solve.{IsOf, Solution}
use Rattle.desk_solve.specs.First.{Adds, AreLines, FirstReports, HasNoFirstMove, Listed, ManText, RayText, line_of, ray_total}
use Rattle.desk_report.specs.Outcome.{done_with}
use Rattle.desk_report.proofs.One.{IsOne, and_row, due_row, either_row, line_row}
use Rattle.desk_text.specs.declared.problem.Problem.{Problem}
use Rattle.desk_verdict.proofs.Rows.{within_row}

-- a list of texts, and one text more
module _ (Of : ℕ → List ℕ → Type 0) where
  listed_none : Listed Of 0 []
  unfolding Listed
  listed_none = refl

  listed_more : (k : ℕ) (front last : List ℕ) → Listed Of k front → Of k last → Listed Of (suc k) (front ++ last)
  unfolding Listed
  listed_more k front last before here = (front, last, before, here, refl)

  listed_empty : ((k : ℕ) → Of k []) → (k : ℕ) → Listed Of k []
  unfolding Listed
  listed_empty none zero = refl
  listed_empty none (suc k) = ([], [], listed_empty none k, none k, refl)

  listed_once : ((k : ℕ) (a b : List ℕ) → Of k a → Of k b → a ≡ b) → (k : ℕ) (a b : List ℕ) → Listed Of k a → Listed Of k b → a ≡ b
  unfolding Listed
  listed_once once zero a b h j = h ∙ sym j
  listed_once once (suc k) a b (f, l, h, last, is) (g, m, j, also, so) =
      is ∙ ap (λ t. t ++ l) (listed_once once k f g h j) ∙ ap (λ t. g ++ t) (once k l m last also) ∙ sym so

  pub adds_none : (old : List ℕ) → Adds (Listed Of 0) old old
  adds_none old = ([], listed_none, sym (append-nil old))

  pub adds_more : (k : ℕ) (old mid new : List ℕ) → Adds (Listed Of k) old mid → Adds (Of k) mid new → Adds (Listed Of (k + 1)) old new
  adds_more k old mid new (front, before, is) (last, here, so) =
      let next : suc k ≡ k + 1 = omega arith in (
        front ++ last,
        subst (λ n. Listed Of n (front ++ last)) next (listed_more k front last before here),
        so ∙ ap (λ t. t ++ last) is ∙ append_assoc old front last,
      )

module _ (winner : Side) (n : ℕ) (p : Position) where
  -- nothing is added for a ray with no first move
  pub no_line : (man ray : ℕ) (old : List ℕ) → ((distance : ℕ) → Firsts winner n p man ray distance → ⊥) → Adds (RayText winner n p man ray) old old
  no_line man ray old none = ([], inl (none, refl), sym (append-nil old))

  pub no_ray : (man ray : ℕ) (old : List ℕ) → (HasRay p man ray → ⊥) → Adds (RayText winner n p man ray) old old
  no_ray man ray old none = no_line man ray old (λ distance first. none (firsts_ray winner n p man ray distance first))

  ray_once : (man ray : ℕ) (a b : List ℕ) → RayText winner n p man ray a → RayText winner n p man ray b → a ≡ b
  ray_once man ray a b (inl (none, is)) (inl (also, so)) = is ∙ sym so
  ray_once man ray a b (inl (none, is)) (inr (line, h, so)) = let some = line_first h in absurd (none some.0 some.1)
  ray_once man ray a b (inr (line, h, is)) (inl (none, so)) = let some = line_first h in absurd (none some.0 some.1)
  ray_once man ray a b (inr (line, h, is)) (inr (other, j, so)) = is ∙ ap line_of (line_once h j) ∙ sym so

  man_once : (man : ℕ) (a b : List ℕ) → ManText winner n p man a → ManText winner n p man b → a ≡ b
  man_once man = listed_once (RayText winner n p man) (ray_once man) (ray_total p man)

  lines_once : (a b : List ℕ) → AreLines winner n p a → AreLines winner n p b → a ≡ b
  lines_once a b (t, h, is) (u, j, so) =
      is ∙ ap (λ text. text ++ codes "end\n") (listed_once (λ before. ManText winner n p (suc before)) (λ before. man_once (suc before)) (length p.men) t u h j) ∙ sym so

  -- where the winner does not mate in time there is the last line alone
  pub last_line : 1 ≤ n → ¬ Value winner n p → AreLines winner n p (codes "end\n")
  last_line some none =
      let rays : (man ray : ℕ) → RayText winner n p man ray [] = λ man ray. inl (λ distance first. none (firsts_value winner n p man ray distance some first), refl) in
      let men : (before : ℕ) → ManText winner n p (suc before) [] = λ before. listed_empty (RayText winner n p (suc before)) (rays (suc before)) (ray_total p (suc before)) in
      ([], listed_empty (λ before. ManText winner n p (suc before)) men (length p.men), refl)

-- a test that says no
pub not_so : (P : Type 0) (test : Bool) → IsTrue test ↔ P → test ≡ false → ¬ P
not_so P test says none holds = let t = says.1 holds in cc

-- a first move of the winner
module _ (n : ℕ) (problem : Problem) (some : ¬ HasNoFirstMove n problem) where
  pub some_moves : 1 ≤ n
  some_moves = by n refl
    where
      by : (k : ℕ) → n ≡ k → 1 ≤ n
      by zero is = absurd (some (inl is))
      by (suc k) is = omega (arith, is)

  pub first_turn : (s : Solution) → IsOf problem.position problem.winner n s → s.position.turn ≡ s.winner
  first_turn s of = elim (side_or_other problem.position.turn problem.winner) [
    | inl same ↦ ap (λ q. q.turn) of.position ∙ same ∙ sym of.winner_is
    | inr other ↦ absurd (some (inr other))
  ]

  pub first_moves_left : (s : Solution) → IsOf problem.position problem.winner n s → 1 ≤ s.moves
  first_moves_left s of = subst (λ k. 1 ≤ k) (sym of.moves_are) some_moves

-- the lines of a solved position are those of the problem that it solves
pub lines_of_problem : (n : ℕ) (problem : Problem) (s : Solution) (told : List ℕ) → IsOf problem.position problem.winner n s
    → AreLines s.winner s.moves s.position told → AreLines problem.winner n problem.position told
lines_of_problem n problem s told of are =
    subst (λ (p : Position). AreLines problem.winner n p told) of.position
    (subst (λ k. AreLines problem.winner k s.position told) of.moves_are (subst (λ w. AreLines w s.moves s.position told) of.winner_is are))

-- of a problem one thing is reported
pub first_row : (n budget : ℕ) (problem : Problem) (files : Files) → IsOne (FirstReports n budget problem files)
first_row n budget problem files =
    either_row
    (and_row (HasNoFirstMove n problem) (due_row (done_with files (codes "end\n")) (λ e. absurd (cc))))
    (and_row (¬ HasNoFirstMove n problem) (within_row n budget problem files
    (line_row (AreLines problem.winner n problem.position) (λ told. told) files (lines_once problem.winner n problem.position))))
    (λ r s none some. some.0 none.0)
