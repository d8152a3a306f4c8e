-- What `describe` and `first` report of the rays.
use Rattle.std.proofs.Common.{◌≡◌, ◌≢◌, ◌↔◌, ℕ, zero, suc, List, [], length, Option, Some, None, Ok, Err, inl, inr, refl, sym, ap, subst, ◌∙◌, arith}
use Rattle.std.specs.Prelude.{codes}
use Rattle.std.proofs.lemmas.Option.{same_Some}
use Rattle.auto_numbers.specs.Numbers.{Has}
use Rattle.auto_search.specs.Fews.{HasFew}
use Rattle.auto_search.specs.declared.few.Few.{Few}
use Rattle.auto_search.specs.declared.few.Few.TheVariants.{Zero, One, More}
use Rattle.desk_base.specs.Files.{Files}
use Rattle.game_rules.specs.Game.{Position}
use Rattle.game_rules.specs.declared.men.Side.{Side}
use Rattle.game_laws.proofs.SoundLemmas.{other_differs, side_or_other}
use Rattle.move_choice.specs.Along.{IsLeastOf, IsLeastOrNone}
use Rattle.move_choice.specs.Squares.{all_squares}
use Rattle.winner_session.specs.Firsts.{Firsts, FirstsInside, IsFirstLine}
use Rattle.winner_session.specs.declared.first_line.FirstLine.{FirstLine}
use Rattle.winner_session.proofs.FirstLemmas.{line_first}
use Rattle.first_distances.proofs.LawLemmas.{has_firsts}
use Rattle.period_sets.proofs.Told.{told}
use Rattle.desk_report.specs.Outcome.{Report}
use Rattle.desk_text.specs.declared.problem.Problem.{Problem}
use Rattle.desk_solve.specs.First.{HasNoFirstMove, Listed, ManText, RayText, ray_total}
use Rattle.desk_solve.proofs.Listing.{some_moves}
use Rattle.desk_describe.specs.Describe.{AllTell, DescribeReports, IsDescribed, ManTells, RayTells, Told}
use Rattle.desk_describe.specs.declared.description.Description.{Description}
use Rattle.desk_describe.specs.declared.description.Description.TheVariants as tells
use Rattle.desk_describe.proofs.AllTold.{all_empty}
use Rattle.desk_args.specs.declared.order.Order.TheVariants.{Describe}
use Rattle.mate_desk.specs.Laws.{DescribesExactly, DescribesMoves, DescribesRay, IsOfRays, LineSaysFirst, ListsOnly, MatesBy, MatesInside, MatesNowhere, WritesRay}
use Rattle.mate_desk.proofs.Exact.{of_text, of_words}

-- texts with one property that have another
module _ (Of Also : ℕ → List ℕ → Type 0) (each : (k : ℕ) (text : List ℕ) → Of k text → Also k text) where
  listed_also : (k : ℕ) (text : List ℕ) → Listed Of k text → Listed Also k text
  unfolding Listed
  listed_also zero text h = h
  listed_also (suc k) text (front, last, before, here, is) = (front, last, listed_also k front before, each k last here, is)

module _ (Of : ℕ → Told → Type 0) (Also : ℕ → List ℕ → Type 0) (each : (k : ℕ) (text : List ℕ) → Of k (Ok text) → Also k text) where
  told_listed : (k : ℕ) (text : List ℕ) → AllTell Of k (Ok text) → Listed Also k text
  unfolding AllTell Listed
  told_listed zero text h = h
  told_listed (suc k) text (front, last, before, here, is) = (front, last, told_listed k front before, each k last here, is)

-- the texts that are told have the property
abbrev TellsTexts : (ℕ → List ℕ → Type 0) → ℕ → Told → Type 0
TellsTexts Also k (Ok text) = Also k text
TellsTexts Also k (Err step) = ⊥

nothing_listed : (Also : ℕ → List ℕ → Type 0) → ((k : ℕ) → Also k []) → (k : ℕ) → Listed Also k []
nothing_listed Also none k = told_listed (TellsTexts Also) Also (λ j text h. h) k [] (all_empty (TellsTexts Also) none k)

-- the last line alone, if there is nothing to write of any ray
no_rays : (Of : (man ray : ℕ) → List ℕ → Type 0) (p : Position) → ((man ray : ℕ) → Of man ray []) → IsOfRays Of p (codes "end\n")
no_rays Of p none = (
  [],
  nothing_listed (λ before. Listed (Of (suc before)) (ray_total p (suc before))) (λ before. nothing_listed (Of (suc before)) (none (suc before)) (ray_total p (suc before))) (length p.men),
  refl,
)

-- the least number of one set, or none, is the least one of a set with the same members
least_same : (P Q : ℕ → Type 0) → ((t : ℕ) → P t ↔ Q t) → (o : Option ℕ) → IsLeastOrNone P o → (t : ℕ) → (o ≡ Some t) ↔ IsLeastOf Q t
least_same P Q same None none t = (λ e. absurd (cc), λ h. absurd (none t ((same t).1 h.has)))
least_same P Q same (Some s) h t = (
  λ e. subst (IsLeastOf Q) (same_Some s t e) (record { has = (same s).0 h.has; least = λ u q. h.least u ((same u).1 q) }),
  λ k.
      let low = h.least t ((same t).1 k.has) in
      let high = k.least s ((same s).0 h.has) in
      let equal : s ≡ t = omega (arith, low, high) in
      ap (λ u. Some u) equal,
)

abbrev IsOnlyOne : (ℕ → Type 0) → Type 0
IsOnlyOne Q = (t : ℕ) × Q t × ((u : ℕ) → Q u → u ≡ t)

-- there is one member if and only if the count says so
only_same : (P Q : ℕ → Type 0) → ((t : ℕ) → P t ↔ Q t) → (few : Few) → few ≢ Zero → HasFew few P → (few ≡ One) ↔ IsOnlyOne Q
only_same P Q same Zero some has = absurd (some refl)
only_same P Q same One some has = (λ e. (has.0, (same has.0).0 has.1, λ u q. has.2 u ((same u).1 q)), λ only. refl)
only_same P Q same More some has = (
  λ e. absurd (cc),
  λ only.
      let first = only.2 has.0 ((same has.0).0 has.3) in
      let second = only.2 has.1 ((same has.1).0 has.4) in
      let less = has.2 in
      absurd (omega (arith, first, second, less)),
)

-- if the winner has no first move, no move of his mates in time
no_move : (n : ℕ) (problem : Problem) → HasNoFirstMove n problem → (man ray : ℕ) → MatesNowhere problem.winner n problem.position man ray
no_move n problem (inl none) man ray distance mates = let some = mates.some in absurd (omega (arith, none, some))
no_move n problem (inr turn) man ray distance mates = absurd (other_differs problem.winner (sym mates.turn ∙ turn))

module _ (n : ℕ) (problem : Problem) (some : ¬ HasNoFirstMove n problem) where
  abbrev winner : Side
  winner = problem.winner

  abbrev p : Position
  p = problem.position

  winners_turn : p.turn ≡ winner
  winners_turn = elim (side_or_other p.turn winner) [
    | inl same ↦ same
    | inr turn ↦ absurd (some (inr turn))
  ]

  mates : (man ray t : ℕ) → Firsts winner n p man ray t ↔ MatesBy winner n p man ray t
  mates man ray t = (λ h. record { some = some_moves n problem some; turn = winners_turn; first = h }, λ m. m.first)

  mates_inside : (man ray t : ℕ) → FirstsInside all_squares winner n p man ray t ↔ MatesInside winner n p man ray t
  mates_inside man ray t = (λ h. record { some = some_moves n problem some; turn = winners_turn; first = h }, λ m. m.first)

  -- what a description lists
  lists : (budget man ray : ℕ) (description : Description) → IsDescribed budget winner n p man ray description
      → ListsOnly (MatesBy winner n p man ray) description
  lists budget man ray (tells.Repeats periodic) (a, within, is) = λ t positive.
      let listed = told (Has a) periodic t is.0 positive in
      let has = has_firsts winner n p man ray a within.firsts t in
      let mates = mates man ray t in
      (λ h. mates.0 (has.0 (listed.1 h)), λ m. listed.0 (has.1 (mates.1 m)))
  lists budget man ray tells.NoPeriod h = tt
  lists budget man ray tells.Far h = tt
  lists budget man ray tells.Many h = tt

  ray_described : (budget man ray : ℕ) (text : List ℕ) → RayTells budget winner n p man ray (Ok text) → DescribesRay budget winner n p man ray text
  ray_described budget man ray text (inl (none, is)) = inl (λ t m. none t m.first, is)
  ray_described budget man ray text (inr (there, (step, description, mover, described, is))) = inr (
    λ nowhere. there (λ t h. nowhere t ((mates man ray t).0 h)),
    record { step = step; mover = mover; description = description; described = described; lists = lists budget man ray description described; line = is },
  )

  rays_described : (budget : ℕ) (text : List ℕ) → AllTell (λ before. ManTells budget winner n p (suc before)) (length p.men) (Ok text)
      → Listed (λ before. Listed (DescribesRay budget winner n p (suc before)) (ray_total p (suc before))) (length p.men) text
  rays_described budget =
      told_listed (λ before. ManTells budget winner n p (suc before)) (λ before. Listed (DescribesRay budget winner n p (suc before)) (ray_total p (suc before)))
      (λ before. told_listed (RayTells budget winner n p (suc before)) (DescribesRay budget winner n p (suc before)) (ray_described budget (suc before)) (ray_total p (suc before)))
      (length p.men)

  first_said : (man ray : ℕ) (line : FirstLine) → IsFirstLine all_squares winner n p man ray line → LineSaysFirst winner n p man ray line
  first_said man ray line is =
      let first = line_first is in
      record {
        of_ray = is;
        some = (first.0, (mates man ray first.0).0 first.1);
        least = least_same (FirstsInside all_squares winner n p man ray) (MatesInside winner n p man ray) (mates_inside man ray) line.least is.least;
        only = only_same (Firsts winner n p man ray) (MatesBy winner n p man ray) (mates man ray) line.few is.some is.few;
      }

  ray_written : (man ray : ℕ) (text : List ℕ) → RayText winner n p man ray text → WritesRay winner n p man ray text
  ray_written man ray text (inl (none, is)) = inl (λ t m. none t m.first, is)
  ray_written man ray text (inr (line, of_ray, is)) = inr (line, first_said man ray line of_ray, is)

  pub rays_written : (text : List ℕ) → Listed (λ before. ManText winner n p (suc before)) (length p.men) text
      → Listed (λ before. Listed (WritesRay winner n p (suc before)) (ray_total p (suc before))) (length p.men) text
  rays_written =
      listed_also (λ before. ManText winner n p (suc before)) (λ before. Listed (WritesRay winner n p (suc before)) (ray_total p (suc before)))
      (λ before. listed_also (RayText winner n p (suc before)) (WritesRay winner n p (suc before)) (ray_written (suc before)) (ray_total p (suc before)))
      (length p.men)

describes : (n budget : ℕ) (problem : Problem) (files : Files) (report : Report) → DescribeReports n budget problem files report → DescribesMoves n budget problem files report
describes n budget problem files report (inl (none, is)) = inr (inr (
  codes "end\n",
  no_rays (DescribesRay budget problem.winner n problem.position) problem.position (λ man ray. inl (no_move n problem none man ray, refl)),
  is,
))
describes n budget problem files report (inr (some, inl over)) = inl over
describes n budget problem files report (inr (some, inr (fits, inl over))) = inr (inl over)
describes n budget problem files report (inr (some, inr (fits, inr (told, (text, men, all), is)))) =
    inr (inr (told, (text, rays_described n problem some budget text men, all), is))

pub describes_exactly : DescribesExactly
describes_exactly words bytes files n budget problem rest report ordered at sound reports =
    describes n budget problem files report
    (of_text (λ read behind. DescribeReports n budget read files) files bytes problem rest report at sound (of_words words bytes files (Describe n budget) report ordered reports))

-- what `first` reports if the winner has no first move
pub none_written : (n : ℕ) (problem : Problem) → HasNoFirstMove n problem → IsOfRays (WritesRay problem.winner n problem.position) problem.position (codes "end\n")
none_written n problem none = no_rays (WritesRay problem.winner n problem.position) problem.position (λ man ray. inl (no_move n problem none man ray, refl))
