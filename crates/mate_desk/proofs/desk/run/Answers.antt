use Rattle.std.proofs.Common.{◌<◌, map, string_bytes, refl, subst}
use Rattle.desk_formula.specs.Arith.{ArithReports, IsBehindLine}
use Rattle.desk_crowd.specs.Crowd.{CrowdSays, IsBehindCrowd}
use Rattle.desk_solve.specs.Drill.{DrillReports}
use Rattle.desk_args.specs.Order.{IsAsked, as_order}
use Rattle.desk_args.specs.declared.order.Asked.{Asked}
use Rattle.desk_args.specs.declared.order.Order.TheVariants.{Crowd, Check, Resume, Migrate, Drill, Arith}
use Rattle.mate_desk.proofs.Reporting.{check_ends, lines_ends, lines_not_usage, migrate_ends, resume_ends, usage_ends, words_ends}
use Rattle.mate_desk.proofs.Rows.{text_order}
use Rattle.mate_desk.proofs.StatusLaws.{no_textless, ordered_not_usage, unused}
use Rattle.mate_desk.proofs.desk.run.Goals as goal

pub returns-in-Err-clause-ends : goal.returns-in-Err-clause-ends
returns-in-Err-clause-ends g c = usage_ends (map string_bytes c.args.words.now.items) _ _ refl c.in-Err.why c.in-Err.ensures.ordered refl (rw c.line.ensures at c.refuse.ensures.written)

pub returns-in-Text-clause-ends : goal.returns-in-Text-clause-ends
returns-in-Text-clause-ends g c =
    let words = map string_bytes c.args.words.now.items in
    let Is : Asked → Type 0 = λ a. IsAsked a words in
    let o = subst Is c.in-Text.is c.asked.ensures.asked in
    c.answer.ensures.ends words o

pub returns-in-Text-clause-nothing_read : goal.returns-in-Text-clause-nothing_read
returns-in-Text-clause-nothing_read g c = λ usage.
    let words = map string_bytes c.args.words.now.items in
    let Is : Asked → Type 0 = λ a. IsAsked a words in
    let o = subst Is c.in-Text.is c.asked.ensures.asked in
    absurd (ordered_not_usage words (as_order c.in-Text.order) c.answer.result _ _ o.ordered (c.answer.ensures.ends words o) usage)

pub returns-in-Text-clause-no_text_read : goal.returns-in-Text-clause-no_text_read
returns-in-Text-clause-no_text_read g c = λ other also none.
    let words = map string_bytes c.args.words.now.items in
    let Is : Asked → Type 0 = λ a. IsAsked a words in
    let o = subst Is c.in-Text.is c.asked.ensures.asked in
    absurd (no_textless words _ o.ordered (text_order c.in-Text.order words).reads other also none)

pub returns-in-Text-clause-shelf_untouched : goal.returns-in-Text-clause-shelf_untouched
returns-in-Text-clause-shelf_untouched g c = λ other also none.
    let words = map string_bytes c.args.words.now.items in
    let Is : Asked → Type 0 = λ a. IsAsked a words in
    let o = subst Is c.in-Text.is c.asked.ensures.asked in
    c.answer.ensures.shelf_untouched (unused words _ o.ordered other also none)

pub returns-in-Crowd-clause-ends : goal.returns-in-Crowd-clause-ends
returns-in-Crowd-clause-ends g c =
    let words = map string_bytes c.args.words.now.items in
    let Is : Asked → Type 0 = λ a. IsAsked a words in
    let o = subst Is c.in-Crowd.is c.asked.ensures.asked in
    let moves = c.in-Crowd.moves in
    let budget = c.in-Crowd.budget in
    lines_ends words _ _ c.crowd.result (Crowd moves budget) (λ lines. CrowdSays moves budget lines) IsBehindCrowd o refl (λ bytes files report right. right) (λ taken some. some)
    c.crowd.ensures.ends

pub returns-in-Crowd-clause-nothing_read : goal.returns-in-Crowd-clause-nothing_read
returns-in-Crowd-clause-nothing_read g c = λ usage.
    let words = map string_bytes c.args.words.now.items in
    let moves = c.in-Crowd.moves in
    let budget = c.in-Crowd.budget in
    absurd (lines_not_usage (Crowd moves budget) words (λ lines. CrowdSays moves budget lines) IsBehindCrowd c.crowd.result (λ bytes files report right. right)
    _ _ _ _ _ _ _ _ c.crowd.ensures.ends usage)

pub returns-in-Crowd-clause-no_text_read : goal.returns-in-Crowd-clause-no_text_read
returns-in-Crowd-clause-no_text_read g c = λ other also none.
    let words = map string_bytes c.args.words.now.items in
    let Is : Asked → Type 0 = λ a. IsAsked a words in
    let o = subst Is c.in-Crowd.is c.asked.ensures.asked in
    absurd (no_textless words (Crowd c.in-Crowd.moves c.in-Crowd.budget) o (λ none. none) other also none)

pub returns-in-Check-clause-ends : goal.returns-in-Check-clause-ends
returns-in-Check-clause-ends g c =
    let words = map string_bytes c.args.words.now.items in
    let Is : Asked → Type 0 = λ a. IsAsked a words in
    let o = subst Is c.in-Check.is c.asked.ensures.asked in
    check_ends words _ _ c.check.result c.in-Check.budget c.in-Check.name.now o.ordered o.named refl c.check.ensures.ends

pub returns-in-Check-clause-shelf_untouched : goal.returns-in-Check-clause-shelf_untouched
returns-in-Check-clause-shelf_untouched g c = λ other also none.
    let words = map string_bytes c.args.words.now.items in
    let Is : Asked → Type 0 = λ a. IsAsked a words in
    let o = subst Is c.in-Check.is c.asked.ensures.asked in
    absurd (unused words (Check c.in-Check.budget) o.ordered other also none)

pub returns-in-Resume-clause-ends : goal.returns-in-Resume-clause-ends
returns-in-Resume-clause-ends g c =
    let words = map string_bytes c.args.words.now.items in
    let Is : Asked → Type 0 = λ a. IsAsked a words in
    let o = subst Is c.in-Resume.is c.asked.ensures.asked in
    resume_ends words _ _ c.resume.result c.in-Resume.budget c.in-Resume.name.now o.ordered o.named c.resume.ensures.ends

pub returns-in-Resume-clause-no_text_read : goal.returns-in-Resume-clause-no_text_read
returns-in-Resume-clause-no_text_read g c = λ other also none.
    let words = map string_bytes c.args.words.now.items in
    let Is : Asked → Type 0 = λ a. IsAsked a words in
    let o = subst Is c.in-Resume.is c.asked.ensures.asked in
    absurd (no_textless words (Resume c.in-Resume.budget) o.ordered (λ none. none) other also none)

pub returns-in-Resume-clause-shelf_untouched : goal.returns-in-Resume-clause-shelf_untouched
returns-in-Resume-clause-shelf_untouched g c = λ other also none.
    let words = map string_bytes c.args.words.now.items in
    let Is : Asked → Type 0 = λ a. IsAsked a words in
    let o = subst Is c.in-Resume.is c.asked.ensures.asked in
    absurd (unused words (Resume c.in-Resume.budget) o.ordered other also none)

pub returns-in-Migrate-clause-ends : goal.returns-in-Migrate-clause-ends
returns-in-Migrate-clause-ends g c =
    let words = map string_bytes c.args.words.now.items in
    let Is : Asked → Type 0 = λ a. IsAsked a words in
    migrate_ends words _ _ c.migrate.result c.in-Migrate.from.now c.in-Migrate.to.now (subst Is c.in-Migrate.is c.asked.ensures.asked) refl c.migrate.ensures.ends

pub returns-in-Migrate-clause-shelf_untouched : goal.returns-in-Migrate-clause-shelf_untouched
returns-in-Migrate-clause-shelf_untouched g c = λ other also none.
    let words = map string_bytes c.args.words.now.items in
    let Is : Asked → Type 0 = λ a. IsAsked a words in
    let o = subst Is c.in-Migrate.is c.asked.ensures.asked in
    absurd (unused words Migrate o.ordered other also none)

pub returns-in-Drill-clause-ends : goal.returns-in-Drill-clause-ends
returns-in-Drill-clause-ends g c =
    let words = map string_bytes c.args.words.now.items in
    let Is : Asked → Type 0 = λ a. IsAsked a words in
    let o = subst Is c.in-Drill.is c.asked.ensures.asked in
    let seed = c.in-Drill.seed in
    let count = c.in-Drill.count in
    words_ends words _ _ refl (Drill seed count) (DrillReports seed count) (0 < count) c.drill.result o refl (λ bytes files report right. right) (λ some. (refl, some)) c.drill.ensures.ends

pub returns-in-Drill-clause-nothing_read : goal.returns-in-Drill-clause-nothing_read
returns-in-Drill-clause-nothing_read g c = λ usage. refl

pub returns-in-Arith-clause-ends : goal.returns-in-Arith-clause-ends
returns-in-Arith-clause-ends g c =
    let words = map string_bytes c.args.words.now.items in
    let Is : Asked → Type 0 = λ a. IsAsked a words in
    let o = subst Is c.in-Arith.is c.asked.ensures.asked in
    let budget = c.in-Arith.budget in
    lines_ends words _ _ c.arith.result (Arith budget) (λ lines. ArithReports budget lines) IsBehindLine o refl (λ bytes files report right. right) (λ taken some. some) c.arith.ensures.ends

pub returns-in-Arith-clause-nothing_read : goal.returns-in-Arith-clause-nothing_read
returns-in-Arith-clause-nothing_read g c = λ usage.
    let words = map string_bytes c.args.words.now.items in
    let budget = c.in-Arith.budget in
    absurd (lines_not_usage (Arith budget) words (λ lines. ArithReports budget lines) IsBehindLine c.arith.result (λ bytes files report right. right) _ _ _ _ _ _ _ _ c.arith.ensures.ends usage)

pub returns-in-Arith-clause-no_text_read : goal.returns-in-Arith-clause-no_text_read
returns-in-Arith-clause-no_text_read g c = λ other also none.
    let words = map string_bytes c.args.words.now.items in
    let Is : Asked → Type 0 = λ a. IsAsked a words in
    let o = subst Is c.in-Arith.is c.asked.ensures.asked in
    absurd (no_textless words (Arith c.in-Arith.budget) o (λ none. none) other also none)
