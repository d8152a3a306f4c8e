-- Words that are numbers, and words behind a command.
use Rattle.std.proofs.Common.{◌≡◌, ◌≢◌, ℕ, zero, suc, ◌<◌, ◌≤◌, ◌^◌, List, [], ◌∷◌, length, get_or, drop, map, Result, Err, inl, inr, subst, take, ◌-◌, arith}
use Rattle.std.specs.Char.{IsAsciiDigit}
use Rattle.std.specs.List.{All}
use Rattle.std.specs.Str.Parse.{AllDigits, digits_value, ParsesUnsigned}
use Rattle.std.proofs.lemmas.Str.Parse.{IsNumeralModel, numerals_by_value, tells_digits, parse_plain}
use Rattle.std.proofs.lemmas.List.Elements.{All-head, All-tail}
use Rattle.std.proofs.lemmas.Grind.{same_number_lists}
use Rattle.std.proofs.lemmas.List.{take_rest}
use Rattle.limits.specs.declared.numbers.TheConstants.{MOST_MOVES}
use Rattle.desk_args.specs.Order.{IsNaturalText, Asks, Ordered, OrderedBy, ReadsNumber, moves_name_and_budget, rows}
use Rattle.desk_args.specs.declared.order.Order.{Order}
use Rattle.desk_args.specs.declared.order.UsageWhy.{UsageWhy}

digits_model : IsNumeralModel (AllDigits 10) (digits_value 10)
digits_model = numerals_by_value (AllDigits 10) tells_digits

all_digits : (word : List ℕ) → All IsAsciiDigit word → AllDigits 10 word
all_digits [] h = tt
all_digits (d ∷ word) h = tells_digits.more d word (All-head IsAsciiDigit d word h) (all_digits word (All-tail IsAsciiDigit d word h))

-- a natural's text is digits, and no plus stands first
natural_digits : (word : List ℕ) → IsNaturalText word → AllDigits 10 word × (0 < length word) × (get_or word 0 0 ≢ 43)
natural_digits [] h = absurd h
natural_digits (first ∷ rest) (inl (zero', none)) =
    (rw none (tells_digits.more first [] (omega (arith, zero'), omega (arith, zero')) tt), omega arith, λ plus. omega (arith, plus, zero'))
natural_digits (first ∷ rest) (inr (low, high, more)) =
    (tells_digits.more first rest (omega (arith, low), high) (all_digits rest more), omega arith, λ plus. omega (arith, plus, low))

-- a natural that is no u64 is too large
pub no_number : {E : Type 0} (word : List ℕ) (why : E) → IsNaturalText word → ParsesUnsigned 64 10 word (Err why) → digits_value 10 word < 2 ^ 64 → ⊥
no_number word why text parsed small =
    let shape = natural_digits word text in
    parse_plain digits_model 64 word (Err why) parsed shape.2 (shape.0, shape.1, small)

-- what words order is what they order behind the first of them
pub behind : {A : Type 0} (f : A → List ℕ) (answer : Result Order UsageWhy) (words : List A) (first : A) → 1 ≤ length words
    → first ≡ get_or words 0 first → OrderedBy rows (f first) (map f (take (length words - 1) (drop 1 words))) answer → Ordered (map f words) answer
behind f answer [] first some at says = absurd (omega arith)
behind {A} f answer (head ∷ words) first some at says =
    let P : List A → Type 0 = λ rest. OrderedBy rows (f head) (map f rest) answer in
    let Q : A → Type 0 = λ word. OrderedBy rows (f word) (map f (take (length (head ∷ words) - 1) (drop 1 (head ∷ words)))) answer in
    subst P (take_rest (head ∷ words) 1) (subst Q at says)

-- three words of which the first is to be a number of moves, and is none
pub moves_refused : {A : Type 0} (f : A → List ℕ) (answer : Result (ℕ × ℕ) UsageWhy) (why : UsageWhy) (words : List A) (first : A) → 3 ≤ length words
    → length words < 4 → first ≡ get_or words 0 first → ReadsNumber (f first) 0 MOST_MOVES (Err why) → answer ≡ Err why
    → Asks moves_name_and_budget (map f words) answer
moves_refused f answer why [] first low high at reads is = absurd (omega arith)
moves_refused f answer why (a ∷ []) first low high at reads is = absurd (omega arith)
moves_refused f answer why (a ∷ b ∷ []) first low high at reads is = absurd (omega arith)
moves_refused {A} f answer why (a ∷ b ∷ c ∷ []) first low high at reads is =
    let P : A → Type 0 = λ w. ReadsNumber (f w) 0 MOST_MOVES (Err why) in (Err why, subst P at reads, is)
moves_refused f answer why (a ∷ b ∷ c ∷ d ∷ words) first low high at reads is = absurd (omega arith)

-- eight bytes, one by one
pub eight_bytes : (xs : List ℕ) (a b c d e f g h : ℕ) → length xs ≡ 8 → get_or xs 0 0 ≡ a → get_or xs 1 0 ≡ b → get_or xs 2 0 ≡ c → get_or xs 3 0 ≡ d
    → get_or xs 4 0 ≡ e → get_or xs 5 0 ≡ f → get_or xs 6 0 ≡ g → get_or xs 7 0 ≡ h → xs ≡ a ∷ b ∷ c ∷ d ∷ e ∷ f ∷ g ∷ h ∷ []
eight_bytes xs a b c d e f g h long i j k l m n o p = same_number_lists xs (a ∷ b ∷ c ∷ d ∷ e ∷ f ∷ g ∷ h ∷ []) long at
  where
    at : (q : ℕ) → q < length xs → get_or xs q 0 ≡ get_or (a ∷ b ∷ c ∷ d ∷ e ∷ f ∷ g ∷ h ∷ []) q 0
    at zero less = i
    at (suc zero) less = j
    at (suc (suc zero)) less = k
    at (suc (suc (suc zero))) less = l
    at (suc (suc (suc (suc zero)))) less = m
    at (suc (suc (suc (suc (suc zero))))) less = n
    at (suc (suc (suc (suc (suc (suc zero)))))) less = o
    at (suc (suc (suc (suc (suc (suc (suc zero))))))) less = p
    at (suc (suc (suc (suc (suc (suc (suc (suc q)))))))) less = absurd (omega (arith, less, long))
