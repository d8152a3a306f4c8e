-- What `decide`, `least` and `first` write.
use Rattle.std.proofs.Common.{◌≡◌, ◌↔◌, ◌⊎◌, ℕ, List, [], ◌++◌, take, Option, Some, None, IfSome, inl, inr, refl, sym, ◌∙◌, ap, subst, arith}
use Rattle.std.specs.Io.KnownBytes.{Appends, Consumes}
use Rattle.std.proofs.lemmas.List.{append-nil, append_cancel_left, take_all}
use Rattle.desk_base.specs.Files.{Files}
use Rattle.desk_base.specs.Lines.{lines_of}
use Rattle.game_rules.specs.Game.{Position}
use Rattle.game_rules.specs.declared.men.Side.{Side}
use Rattle.chess_text.specs.PositionText.{position_text}
use Rattle.desk_solve.specs.Decide.{IsAnswered, IsOverBudget}
use Rattle.mate_desk.specs.Laws.{DecideWrites, FirstWrites, HasRun, IsOfRays, LeastWrites, WritesRay}
use Rattle.desk_solve.specs.First.{FirstReports}
use Rattle.desk_solve.specs.Least.{LeastFinds, LeastReports, least_line}
use Rattle.desk_report.specs.Outcome.{Report, Seen}
use Rattle.desk_text.specs.Text.{TextAt, whole}
use Rattle.desk_text.specs.TextLaws.{text_problem}
use Rattle.desk_verdict.specs.Verdict.{mate_line, no_mate_line}
use Rattle.desk_args.specs.declared.order.Order.{Order}
use Rattle.desk_args.specs.declared.order.Order.TheVariants as orders
use Rattle.desk_text.specs.declared.problem.Problem.{Problem}
use Rattle.desk_report.specs.declared.status.Status.TheVariants as is
use Rattle.mate_desk.proofs.Exact.{decides_exactly, of_text, of_words}
use Rattle.mate_desk.proofs.FirstMoves.{none_written, rays_written}
use Rattle.desk_text.proofs.RoundTrip.{text_is_read}

-- what was given is what the source told
pub given_bytes : (before after : Option (List ℕ)) (bytes taken rest : List ℕ) → before ≡ Some bytes → Consumes before after taken
    → IfSome after (λ told. told ≡ rest) → bytes ≡ taken ++ rest
given_bytes None after bytes taken rest told consumed left = absurd (cc)
given_bytes (Some xs) None bytes taken rest told consumed left = absurd consumed
given_bytes (Some xs) (Some ys) bytes taken rest told consumed left = let same : bytes ≡ xs = cc in same ∙ consumed ∙ ap (λ r. taken ++ r) left

-- what was written is what the sink tells
pub told_bytes : (before after : Option (List ℕ)) (out text : List ℕ) → before ≡ Some out → Appends before after text → (all : List ℕ) × (after ≡ Some all) × (all ≡ out ++ text)
told_bytes None after out text told appends = absurd (cc)
told_bytes (Some xs) None out text told appends = absurd appends
told_bytes (Some xs) (Some ys) out text told appends = let same : xs ≡ out = cc in (ys, refl, appends ∙ ap (λ l. l ++ text) same)

pub take_none : (count : ℕ) (line : List ℕ) → line ≡ [] → take count line ≡ []
take_none count line none = ap (λ l. take count l) none ∙ take_all count [] (omega arith)

module _ (words : List (List ℕ)) (order : Order) (p : Position) (winner : Side) (old new : Seen) (out : List ℕ) (run : HasRun words order p winner old new out) where
  abbrev reported : Report
  reported = run.ends.ends.0

  -- the problem that was read
  abbrev problem : Problem
  problem = text_problem p winner

  is_read : TextAt (run.ends.given.taken ++ run.ends.given.rest) (whole problem (lines_of run.behind))
  is_read =
      let P : List ℕ → Type 0 = λ b. TextAt b (whole problem (lines_of run.behind)) in
      subst P (given_bytes old.left new.left (position_text p winner ++ run.behind) run.ends.given.taken run.ends.given.rest run.input run.ends.given.consumed run.ends.given.left)
      (text_is_read p winner run.behind run.writable)

  -- all that was written
  wrote : reported.fault ≡ [] → (all : List ℕ) × (new.written ≡ Some all) × (all ≡ out ++ reported.text)
  wrote none =
      let written = run.ends.ends.2.written in
      let told = told_bytes old.written new.written out (reported.text ++ take written.count reported.fault) run.output written.front in
      (told.0, told.1, told.2 ∙ ap (λ l. out ++ l) (ap (λ l. reported.text ++ l) (take_none written.count reported.fault none) ∙ append-nil reported.text))

pub same_text : (out text all line : List ℕ) → all ≡ out ++ text → (all ≡ out ++ line) ↔ (text ≡ line)
same_text out text all line is = (λ e. append_cancel_left out text line (sym is ∙ e), λ e. is ∙ ap (λ l. out ++ l) e)

pub through : {A B C : Type 0} → A ↔ B → B ↔ C → A ↔ C
through f g = (λ a. g.0 (f.0 a), λ c. f.1 (g.1 c))

answered : (n budget : ℕ) (problem : Problem) (report : Report) → report.status ≡ is.Done → (IsAnswered n report) ⊎ (IsOverBudget n budget problem report) → IsAnswered n report
answered n budget problem report done (inl a) = a
answered n budget problem report done (inr b) = let other = b.status in absurd (cc)

pub one_of : (n : ℕ) (out text all : List ℕ) → all ≡ out ++ text → (text ≡ mate_line n) ⊎ (text ≡ no_mate_line n) → (all ≡ out ++ mate_line n) ⊎ (all ≡ out ++ no_mate_line n)
one_of n out text all is (inl e) = inl (is ∙ ap (λ l. out ++ l) e)
one_of n out text all is (inr e) = inr (is ∙ ap (λ l. out ++ l) e)

pub decide_writes : DecideWrites
decide_writes words n budget p winner old new out run =
    let order = orders.Decide n budget in
    let given = run.ends.given in
    let report = run.ends.ends.0 in
    let done = sym run.ends.ends.2.reported in
    let read = problem words order p winner old new out run in
    let exact =
    decides_exactly words (given.taken ++ given.rest) given.files n budget read (lines_of run.behind) report run.ordered (is_read words order p winner old new out run) run.sound run.ends.ends.1 in
    let answer = answered n budget read report done exact.cause in
    let all = wrote words order p winner old new out run answer.fault in (
      all.0,
      all.1,
      record {
        one = one_of n out report.text all.0 all.2 answer.text;
        mate = through (same_text out report.text all.0 (mate_line n) all.2) (exact.mate done);
        no_mate = through (same_text out report.text all.0 (no_mate_line n) all.2) (exact.no_mate done);
      },
    )

-- what is reported of `least` that is done
record SaysLeast (limit budget : ℕ) (problem : Problem) (report : Report) : Type 0 where
  found : Option ℕ
  finds : LeastFinds limit budget problem found
  wrote : report.text ≡ least_line limit found
  fault : report.fault ≡ []

says_least : (limit budget : ℕ) (problem : Problem) (files : Files) (report : Report) → report.status ≡ is.Done
    → LeastReports limit budget problem files report → SaysLeast limit budget problem report
says_least limit budget problem files report done (inl (step, stops, is')) = let e : is.Done ≡ is.Budget = sym done ∙ ap (λ r. r.status) is' in absurd (cc)
says_least limit budget problem files report done (inr (found, finds, is')) = record { found = found; finds = finds; wrote = ap (λ r. r.text) is'; fault = ap (λ r. r.fault) is' }

pub least_writes : LeastWrites
least_writes words limit budget p winner old new out run =
    let order = orders.Least limit budget in
    let given = run.ends.given in
    let report = run.ends.ends.0 in
    let bytes = given.taken ++ given.rest in
    let read = problem words order p winner old new out run in
    let reports = of_words words bytes given.files order report run.ordered run.ends.ends.1 in
    let right =
    of_text (λ r behind. LeastReports limit budget r given.files) given.files bytes read (lines_of run.behind) report (is_read words order p winner old new out run) run.sound reports in
    let says = says_least limit budget read given.files report (sym run.ends.ends.2.reported) right in
    let all = wrote words order p winner old new out run says.fault in (
      all.0,
      all.1,
      record { found = says.found; least = says.finds.0; written = all.2 ∙ ap (λ l. out ++ l) says.wrote },
    )

-- what is reported of `first` that is done
record SaysFirst (n : ℕ) (problem : Problem) (report : Report) : Type 0 where
  rays : IsOfRays (WritesRay problem.winner n problem.position) problem.position report.text
  fault : report.fault ≡ []

says_first : (n budget : ℕ) (problem : Problem) (files : Files) (report : Report) → report.status ≡ is.Done → FirstReports n budget problem files report
    → SaysFirst n problem report
says_first n budget problem files report done (inl (none, is')) =
    let P : List ℕ → Type 0 = IsOfRays (WritesRay problem.winner n problem.position) problem.position in
    record { rays = subst P (sym (ap (λ r. r.text) is')) (none_written n problem none); fault = ap (λ r. r.fault) is' }
says_first n budget problem files report done (inr (some, inl (step, stops, is'))) =
    let e : is.Done ≡ is.Budget = sym done ∙ ap (λ r. r.status) is' in absurd (cc)
says_first n budget problem files report done (inr (some, inr (fits, (told, (text, men, all), is')))) =
    record { rays = (text, rays_written n problem some text men, ap (λ r. r.text) is' ∙ all); fault = ap (λ r. r.fault) is' }

pub first_writes : FirstWrites
first_writes words n budget p winner old new out run =
    let order = orders.First n budget in
    let given = run.ends.given in
    let report = run.ends.ends.0 in
    let bytes = given.taken ++ given.rest in
    let read = problem words order p winner old new out run in
    let reports = of_words words bytes given.files order report run.ordered run.ends.ends.1 in
    let right =
    of_text (λ r behind. FirstReports n budget r given.files) given.files bytes read (lines_of run.behind) report (is_read words order p winner old new out run) run.sound reports in
    let says = says_first n budget read given.files report (sym run.ends.ends.2.reported) right in
    let all = wrote words order p winner old new out run says.fault in
    (all.0, all.1, record { text = report.text; rays = says.rays; written = all.2 })
