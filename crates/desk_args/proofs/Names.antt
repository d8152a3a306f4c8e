-- Where an order has a name, its words are so many.
use Rattle.std.proofs.Common.{◌≡◌, ◌<◌, ◌≤◌, ℕ, List, [], ◌∷◌, length, map, Ok, Err, inl, inr, sym, subst, arith}
use Rattle.std.proofs.lemmas.List.{length-map}
use Rattle.desk_args.specs.Order.{Asks, Ordered, OrderedBy, Row, moves_name_and_budget, name_and_budget, rows, two_names}
use Rattle.desk_args.specs.declared.order.Order.{Order}
use Rattle.desk_args.specs.declared.order.Order.TheVariants.{Keep, Check, Resume, Migrate}

-- so many words stand behind the command
abbrev IsLong : Order → List (List ℕ) → Type 0
IsLong (Keep moves budget) words = 2 ≤ length words
IsLong (Check budget) words = 1 ≤ length words
IsLong (Resume budget) words = 1 ≤ length words
IsLong Migrate words = 2 ≤ length words
IsLong order words = Unit {0}

-- so it is with what a command orders
abbrev IsRowLong : Row → Type 0
IsRowLong r = (words : List (List ℕ)) (asked : r.Told) → Asks r.words words (Ok asked) → IsLong (r.order asked) words

-- a name, and a budget
one_name : (words : List (List ℕ)) (budget : ℕ) → Asks name_and_budget words (Ok budget) → 1 ≤ length words
one_name [] budget reads = absurd (cc)
one_name (name ∷ words) budget reads = omega arith

-- and a number before them
two_words : (words : List (List ℕ)) (asked : ℕ × ℕ) → Asks moves_name_and_budget words (Ok asked) → 2 ≤ length words
two_words [] asked reads = absurd (cc)
two_words (moves ∷ []) asked reads = absurd (cc)
two_words (moves ∷ name ∷ words) asked reads = omega arith

-- two names
both_names : (words : List (List ℕ)) (asked : Unit {0}) → Asks two_names words (Ok asked) → 2 ≤ length words
both_names [] asked reads = absurd (cc)
both_names (from ∷ []) asked reads = absurd (cc)
both_names (from ∷ to ∷ words) asked reads = omega arith

-- and with what each of these commands does
data AreLong : List Row → Type 1 where
  none : AreLong []
  also : {first : Row} {others : List Row} → IsRowLong first → AreLong others → AreLong (first ∷ others)

rows_long : AreLong rows
rows_long =
    also (λ words asked reads. tt) (also (λ words asked reads. tt) (also (λ words asked reads. tt) (also (λ words asked reads. tt)
    (also (λ words asked reads. tt) (also (λ words asked reads. tt)
    (also two_words (also (λ words asked reads. tt) (also (λ words asked reads. tt) (also one_name (also one_name
    (also both_names
    (also (λ words asked reads. tt) (also (λ words asked reads. tt) none)))))))))))))

named_long : {commands : List Row} → AreLong commands → (name : List ℕ) (words : List (List ℕ)) (order : Order) → OrderedBy commands name words (Ok order) → IsLong order words
named_long none name words order is = absurd (cc)
named_long (also long rest) name words order (inr (not, is)) = named_long rest name words order is
named_long (also long rest) name words order (inl (same, (Err why, reads, is))) = absurd (cc)
named_long (also {first} long rest) name words order (inl (same, (Ok asked, reads, is))) =
    let so : order ≡ first.order asked = cc in
    subst (λ o. IsLong o words) (sym so) (long words asked reads)

module _ {A : Type 0} (f : A → List ℕ) where
  pub keep_long : (words : List A) (moves budget : ℕ) → Ordered (map f words) (Ok (Keep moves budget)) → 2 < length words
  keep_long [] moves budget h = absurd (cc)
  keep_long (word ∷ words) moves budget h =
      let long : 2 ≤ length (map f words) = named_long rows_long (f word) (map f words) (Keep moves budget) h in omega (arith, long, length-map words f)

  pub check_long : (words : List A) (budget : ℕ) → Ordered (map f words) (Ok (Check budget)) → 1 < length words
  check_long [] budget h = absurd (cc)
  check_long (word ∷ words) budget h =
      let long : 1 ≤ length (map f words) = named_long rows_long (f word) (map f words) (Check budget) h in omega (arith, long, length-map words f)

  pub resume_long : (words : List A) (budget : ℕ) → Ordered (map f words) (Ok (Resume budget)) → 1 < length words
  resume_long [] budget h = absurd (cc)
  resume_long (word ∷ words) budget h =
      let long : 1 ≤ length (map f words) = named_long rows_long (f word) (map f words) (Resume budget) h in omega (arith, long, length-map words f)

  pub migrate_long : (words : List A) → Ordered (map f words) (Ok Migrate) → 2 < length words
  migrate_long [] h = absurd (cc)
  migrate_long (word ∷ words) h =
      let long : 2 ≤ length (map f words) = named_long rows_long (f word) (map f words) Migrate h in omega (arith, long, length-map words f)
