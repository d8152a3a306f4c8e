use Rattle.std.proofs.Common.{map, string_bytes, Ok, subst, arith}
use Rattle.desk_args.specs.Order.{Ordered}
use Rattle.desk_args.specs.declared.order.Order.{Order}
use Rattle.desk_args.proofs.Names.{keep_long, check_long, resume_long, migrate_long}
use Rattle.desk_args.proofs.order.Order.asked.Goals as goal

pub word_at-name-requires : goal.word_at-name-requires
word_at-name-requires c =
    let Is : Order → Type 0 = λ order. Ordered (map string_bytes c.args.words.now.items) (Ok order) in
    keep_long string_bytes c.args.words.now.items _ _ (subst Is c.in-Keep.is c.requires.ordered)

pub word_at-name-requires-in-Check : goal.word_at-name-requires-in-Check
word_at-name-requires-in-Check c =
    let Is : Order → Type 0 = λ order. Ordered (map string_bytes c.args.words.now.items) (Ok order) in
    check_long string_bytes c.args.words.now.items _ (subst Is c.in-Check.is c.requires.ordered)

pub word_at-name-requires-in-Resume : goal.word_at-name-requires-in-Resume
word_at-name-requires-in-Resume c =
    let Is : Order → Type 0 = λ order. Ordered (map string_bytes c.args.words.now.items) (Ok order) in
    resume_long string_bytes c.args.words.now.items _ (subst Is c.in-Resume.is c.requires.ordered)

pub word_at-from-requires : goal.word_at-from-requires
word_at-from-requires c =
    let Is : Order → Type 0 = λ order. Ordered (map string_bytes c.args.words.now.items) (Ok order) in
    let long = migrate_long string_bytes c.args.words.now.items (subst Is c.in-Migrate.is c.requires.ordered) in omega (arith, long)

pub word_at-to-requires : goal.word_at-to-requires
word_at-to-requires c =
    let Is : Order → Type 0 = λ order. Ordered (map string_bytes c.args.words.now.items) (Ok order) in
    migrate_long string_bytes c.args.words.now.items (subst Is c.in-Migrate.is c.requires.ordered)
