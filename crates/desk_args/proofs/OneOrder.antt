-- Words are one order, or none for one reason.
use Rattle.std.proofs.Common.{◌≡◌, ℕ, Bool, true, false, List, [], ◌∷◌, Result, Ok, Err, inl, inr, refl, sym, ap, subst, ◌∙◌, arith}
use Rattle.desk_args.specs.declared.order.TheConstants.{MOST_NAMED_STATES}
use Rattle.desk_args.specs.Order.{Asks, FromNumber, IfSoMany, Ordered, OrderedBy, OrdersAs, ReadsNumber, ReadsWords, Row, WithName, WithNumber, Words, End, Numeral, Named, Budgeted, are_so_many, order_for, rows}
use Rattle.desk_args.specs.declared.order.Order.{Order}
use Rattle.desk_args.specs.declared.order.UsageWhy.{UsageWhy}
use Rattle.desk_args.specs.declared.order.UsageWhy.TheVariants.{NoCommand, Unknown, Count, Number, Limit, Name}

-- a word is one number, or none for one reason
once_number : (word : List ℕ) (low high : ℕ) (one other : Result ℕ UsageWhy) → ReadsNumber word low high one → ReadsNumber word low high other → one ≡ other
once_number word low high (Ok m) (Ok n) a b = ap Ok (sym a.0.value ∙ b.0.value)
once_number word low high (Ok m) (Err Number) a b = absurd (b m a.0)
once_number word low high (Ok m) (Err Limit) a b = absurd (b.2 (omega (arith, a.1, a.0.value, b.1.value)) (omega (arith, a.2, a.0.value, b.1.value)))
once_number word low high (Ok m) (Err NoCommand) a b = absurd b
once_number word low high (Ok m) (Err Unknown) a b = absurd b
once_number word low high (Ok m) (Err Count) a b = absurd b
once_number word low high (Ok m) (Err Name) a b = absurd b
once_number word low high (Err Number) (Ok n) a b = absurd (a n b.0)
once_number word low high (Err Number) (Err Number) a b = refl
once_number word low high (Err Number) (Err Limit) a b = absurd (a b.0 b.1)
once_number word low high (Err Number) (Err NoCommand) a b = absurd b
once_number word low high (Err Number) (Err Unknown) a b = absurd b
once_number word low high (Err Number) (Err Count) a b = absurd b
once_number word low high (Err Number) (Err Name) a b = absurd b
once_number word low high (Err Limit) (Ok n) a b = absurd (a.2 (omega (arith, b.1, b.0.value, a.1.value)) (omega (arith, b.2, b.0.value, a.1.value)))
once_number word low high (Err Limit) (Err Number) a b = absurd (b a.0 a.1)
once_number word low high (Err Limit) (Err Limit) a b = refl
once_number word low high (Err Limit) (Err NoCommand) a b = absurd b
once_number word low high (Err Limit) (Err Unknown) a b = absurd b
once_number word low high (Err Limit) (Err Count) a b = absurd b
once_number word low high (Err Limit) (Err Name) a b = absurd b
once_number word low high (Err NoCommand) other a b = absurd a
once_number word low high (Err Unknown) other a b = absurd a
once_number word low high (Err Count) other a b = absurd a
once_number word low high (Err Name) other a b = absurd a

module _ {A : Type 0} (one other : Result A UsageWhy) where
  from_number : (number : Result ℕ UsageWhy) (F G : ℕ → Type 0) → ((n : ℕ) → F n → G n → one ≡ other) → FromNumber number one F → FromNumber number other G → one ≡ other
  from_number (Ok n) F G once a b = once n a b
  from_number (Err why) F G once a b = a ∙ sym b

  with_number : (word : List ℕ) (low high : ℕ) (F G : ℕ → Type 0) → ((n : ℕ) → F n → G n → one ≡ other)
      → WithNumber word low high one F → WithNumber word low high other G → one ≡ other
  with_number word low high F G once (m, is_m, a) (n, is_n, b) =
      let P : Result ℕ UsageWhy → Type 0 = λ r. FromNumber r other G in
      from_number m F G once a (subst P (sym (once_number word low high m n is_m is_n)) b)

-- a word is a name, or none
with_name : {A : Type 0} (one other : Result A UsageWhy) (word : List ℕ) (F G : Type 0) → (F → G → one ≡ other) → WithName word one F → WithName word other G → one ≡ other
with_name one other word F G once (inl (no_name, a)) (inl (also, b)) = a ∙ sym b
with_name one other word F G once (inl (no_name, a)) (inr (named, b)) = absurd (no_name named)
with_name one other word F G once (inr (named, a)) (inl (no_name, b)) = absurd (no_name named)
with_name one other word F G once (inr (named, a)) (inr (also, b)) = once a b

-- words ask one thing, or nothing for one reason
module _ {A : Type 0} (one other : Result A UsageWhy) where
  once_read : (may : Words A) (words : List (List ℕ)) → ReadsWords may words one → ReadsWords may words other → one ≡ other
  once_read (End asked) words a b = a ∙ sym b
  once_read (Numeral low high next) [] a b = a ∙ sym b
  once_read (Numeral low high next) (word ∷ words) a b =
      with_number one other word low high (λ n. ReadsWords (next n) words one) (λ n. ReadsWords (next n) words other) (λ n x y. once_read (next n) words x y) a b
  once_read (Named next) [] a b = a ∙ sym b
  once_read (Named next) (word ∷ words) a b =
      with_name one other word (ReadsWords next words one) (ReadsWords next words other) (λ x y. once_read next words x y) a b
  once_read (Budgeted asked) [] a b = a ∙ sym b
  once_read (Budgeted asked) (word ∷ words) a b =
      with_number one other word 1 MOST_NAMED_STATES (λ k. one ≡ Ok (asked k)) (λ k. other ≡ Ok (asked k)) (λ k u v. u ∙ sym v) a b

  once_so_many : (many : Bool) (F G : Type 0) → (F → G → one ≡ other) → IfSoMany many one F → IfSoMany many other G → one ≡ other
  once_so_many true F G once a b = once a b
  once_so_many false F G once a b = a ∙ sym b

once_asked : {A : Type 0} (may : Words A) (words : List (List ℕ)) (one other : Result A UsageWhy) → Asks may words one → Asks may words other → one ≡ other
once_asked may words one other a b =
    once_so_many one other (are_so_many may words) (ReadsWords may words one) (ReadsWords may words other) (once_read one other may words) a b

module _ (one other : Result Order UsageWhy) where
  once_ordered : {A : Type 0} (may : Words A) (order : A → Order) (words : List (List ℕ)) → OrdersAs may order words one → OrdersAs may order words other → one ≡ other
  once_ordered may order words a b = a.2 ∙ ap (order_for order) (once_asked may words a.0 b.0 a.1 b.1) ∙ sym b.2

  once_named : (commands : List Row) (name : List ℕ) (words : List (List ℕ)) → OrderedBy commands name words one → OrderedBy commands name words other → one ≡ other
  once_named [] name words a b = a ∙ sym b
  once_named (first ∷ others) name words (inl (is, a)) (inl (so, b)) = once_ordered first.words first.order words a b
  once_named (first ∷ others) name words (inl (is, a)) (inr (not, b)) = absurd (not is)
  once_named (first ∷ others) name words (inr (not, a)) (inl (so, b)) = absurd (not so)
  once_named (first ∷ others) name words (inr (not, a)) (inr (also, b)) = once_named others name words a b

  pub once_words : (words : List (List ℕ)) → Ordered words one → Ordered words other → one ≡ other
  once_words [] a b = a ∙ sym b
  once_words (word ∷ words) a b = once_named rows word words a b
