-- The command that arguments are.
use Rattle.std.specs.Prelude.{◌≡◌, ◌≢◌, ◌⊎◌, ℕ, ◌-◌, ◌^◌, ◌≤◌, Bool, true, false, List, [], ◌∷◌, length, Option, Some, None, Result, Ok, Err, String, codes, map, slice_get, string_bytes}
use Rattle.std.specs.Char.{IsAsciiDigit}
use Rattle.std.specs.declared.alloc.Global.{Global}
use Rattle.std.specs.List.{All}
use Rattle.std.specs.Str.Parse.{digits_value}
use Rattle.limits.specs.declared.numbers.TheConstants.{MOST_MOVES}
use Rattle.desk_args.specs.declared.order.TheConstants.{DEFAULT_STATES, MOST_CROWD_MOVES, MOST_NAMED_STATES}
use Rattle.desk_args.specs.declared.order.Asked.{Asked}
use Rattle.desk_args.specs.declared.order.Asked.TheVariants as asked
use Rattle.desk_args.specs.declared.order.Order.{Order}
use Rattle.desk_args.specs.declared.order.Order.TheVariants.{Decide, Least, First, Describe, Play, Defend, Keep, Crowd, Check, Resume, Migrate, Show, Drill, Arith}
use Rattle.desk_args.specs.declared.order.TextOrder.{TextOrder}
use Rattle.desk_args.specs.declared.order.TextOrder.TheVariants as text_orders
use Rattle.desk_args.specs.declared.order.UsageWhy.{UsageWhy}
use Rattle.desk_args.specs.declared.order.UsageWhy.TheVariants.{NoCommand, Unknown, Count, Number, Limit, Name}

-- the bytes of the arguments
abbrev pub texts : List (String Global) → List (List ℕ)
texts words = map string_bytes words

-- the greatest seed
abbrev pub most_seed : ℕ
most_seed = 2 ^ 64 - 1

-- the greatest number of positions of `drill`
abbrev pub most_positions : ℕ
most_positions = 100

-- 0, or a digit from 1 to 9 and any digits
abbrev pub IsNaturalText : List ℕ → Type 0
IsNaturalText [] = ⊥
IsNaturalText (first ∷ rest) = ((first ≡ 48) × (rest ≡ [])) ⊎ ((49 ≤ first) × (first ≤ 57) × All IsAsciiDigit rest)

-- the argument is this natural number
pub record IsNatural (word : List ℕ) (n : ℕ) : Type 0 where
  pub text : IsNaturalText word
  pub value : digits_value 10 word ≡ n

-- the natural number that the argument is, if it lies within the limits, or the first reason why there is none
abbrev pub ReadsNumber : List ℕ → ℕ → ℕ → Result ℕ UsageWhy → Type 0
ReadsNumber word low high (Ok n) = IsNatural word n × (low ≤ n) × (n ≤ high)
ReadsNumber word low high (Err Number) = (n : ℕ) → IsNatural word n → ⊥
ReadsNumber word low high (Err Limit) = (n : ℕ) × IsNatural word n × (low ≤ n → n ≤ high → ⊥)
ReadsNumber word low high (Err _) = ⊥

-- the result is what `go_on` says of the number, or the reason why there is none
abbrev pub FromNumber : {A : Type 0} → Result ℕ UsageWhy → Result A UsageWhy → (ℕ → Type 0) → Type 0
FromNumber (Ok n) answer go_on = go_on n
FromNumber (Err why) answer go_on = answer ≡ Err why

abbrev pub WithNumber : {A : Type 0} → List ℕ → ℕ → ℕ → Result A UsageWhy → (ℕ → Type 0) → Type 0
WithNumber word low high answer go_on =
    (number : Result ℕ UsageWhy) × ReadsNumber word low high number × FromNumber number answer go_on

-- a small letter, a digit, or _
abbrev pub IsNameByte : ℕ → Type 0
IsNameByte byte = ((97 ≤ byte) × (byte ≤ 122)) ⊎ IsAsciiDigit byte ⊎ (byte ≡ 95)

-- the argument is the name of a file: 1 to 32 such bytes
pub record IsName (word : List ℕ) : Type 0 where
  pub some : 1 ≤ length word
  pub short : length word ≤ 32
  pub bytes : All IsNameByte word

-- whether the argument is a name
abbrev pub ReadsName : {A : Type 0} → List ℕ → Result A UsageWhy → Type 0
ReadsName word (Ok read) = IsName word
ReadsName word (Err why) = (¬ IsName word) × (why ≡ Name)

-- the result is as `go_on` says if the argument is a name, or the reason why it is none
abbrev pub WithName : {A : Type 0} → List ℕ → Result A UsageWhy → (go_on : Type 0) → Type 0
WithName word answer go_on = ((¬ IsName word) × (answer ≡ Err Name)) ⊎ (IsName word × go_on)

-- The arguments that a command takes, from the left, and what they ask for.
pub data Words (A : Type 0) : Type 0 where
  -- no further argument
  End : A → Words A
  -- a number within these limits, and the arguments after it
  Numeral : (low high : ℕ) → (ℕ → Words A) → Words A
  -- the name of a file, and the arguments after it
  Named : Words A → Words A
  -- a budget, or no further argument
  Budgeted : (ℕ → A) → Words A

-- the number of arguments is right
abbrev pub are_so_many : {A : Type 0} → Words A → List (List ℕ) → Bool
are_so_many (End a) [] = true
are_so_many (End a) (word ∷ words) = false
are_so_many (Numeral low high next) [] = false
are_so_many (Numeral low high next) (word ∷ words) = are_so_many (next low) words
are_so_many (Named next) [] = false
are_so_many (Named next) (word ∷ words) = are_so_many next words
are_so_many (Budgeted asked) [] = true
are_so_many (Budgeted asked) (word ∷ []) = true
are_so_many (Budgeted asked) (word ∷ other ∷ words) = false

-- what the arguments ask for, or the first reason, from the left, why they are refused
abbrev pub ReadsWords : {A : Type 0} → Words A → List (List ℕ) → Result A UsageWhy → Type 0
ReadsWords (End a) words answer = answer ≡ Ok a
ReadsWords (Numeral low high next) [] answer = answer ≡ Err Count
ReadsWords (Numeral low high next) (word ∷ words) answer =
    WithNumber word low high answer (λ n. ReadsWords (next n) words answer)
ReadsWords (Named next) [] answer = answer ≡ Err Count
ReadsWords (Named next) (word ∷ words) answer = WithName word answer (ReadsWords next words answer)
ReadsWords (Budgeted asked) [] answer = answer ≡ Ok (asked DEFAULT_STATES)
ReadsWords (Budgeted asked) (word ∷ words) answer =
    WithNumber word 1 MOST_NAMED_STATES answer (λ b. answer ≡ Ok (asked b))

abbrev pub IfSoMany : Bool → {A : Type 0} → Result A UsageWhy → (reads : Type 0) → Type 0
IfSoMany true answer reads = reads
IfSoMany false answer reads = answer ≡ Err Count

-- what the arguments ask for, if their number is right
abbrev pub Asks : {A : Type 0} → Words A → List (List ℕ) → Result A UsageWhy → Type 0
Asks may words answer = IfSoMany (are_so_many may words) answer (ReadsWords may words answer)

-- the command for what is asked, or the reason why the arguments are refused
abbrev pub order_for : {A : Type 0} → (A → Order) → Result A UsageWhy → Result Order UsageWhy
order_for order (Ok asked) = Ok (order asked)
order_for order (Err why) = Err why

-- a number of moves, at most `most`, and a budget
abbrev pub moves_up_to : ℕ → Words (ℕ × ℕ)
moves_up_to most = Numeral 0 most (λ moves. Budgeted (λ budget. (moves, budget)))

-- a number of moves, and a budget
abbrev pub moves_and_budget : Words (ℕ × ℕ)
moves_and_budget = moves_up_to MOST_MOVES

-- a number of moves for a crowd, and a budget
abbrev pub crowd_moves_and_budget : Words (ℕ × ℕ)
crowd_moves_and_budget = moves_up_to MOST_CROWD_MOVES

-- a number of moves, a name, and a budget
abbrev pub moves_name_and_budget : Words (ℕ × ℕ)
moves_name_and_budget = Numeral 0 MOST_MOVES (λ moves. Named (Budgeted (λ budget. (moves, budget))))

-- a name, and a budget
abbrev pub name_and_budget : Words ℕ
name_and_budget = Named (Budgeted (λ budget. budget))

-- two names
abbrev pub two_names : Words (Unit {0})
two_names = Named (Named (End tt))

-- a budget alone
abbrev pub budget_alone : Words ℕ
budget_alone = Budgeted (λ budget. budget)

-- no argument
abbrev pub no_words : Words (Unit {0})
no_words = End tt

-- a seed, and a number of positions
abbrev pub seed_and_count : Words (ℕ × ℕ)
seed_and_count = Numeral 0 most_seed (λ seed. Numeral 0 most_positions (λ count. End (seed, count)))

-- a command: its name, the arguments that it takes, and the `Order` that they are
pub record Row : Type 1 where
  pub name : List ℕ
  pub Told : Type 0
  pub words : Words Told
  pub order : Told → Order

abbrev pub row : List ℕ → {A : Type 0} → Words A → (A → Order) → Row
row name {A} words order = record { name = name; Told = A; words = words; order = order }

-- the commands that read no position text, one row each
abbrev pub textless_rows : List Row
textless_rows =
    row (codes "crowd") crowd_moves_and_budget (λ asked. Crowd asked.0 asked.1)
    ∷ row (codes "check") name_and_budget (λ budget. Check budget)
    ∷ row (codes "resume") name_and_budget (λ budget. Resume budget)
    ∷ row (codes "migrate") two_names (λ asked. Migrate)
    ∷ row (codes "drill") seed_and_count (λ asked. Drill asked.0 asked.1)
    ∷ row (codes "arith") budget_alone (λ budget. Arith budget)
    ∷ []

-- all commands, one row each: those that read a position text, and the others
abbrev pub rows : List Row
rows =
    row (codes "decide") moves_and_budget (λ asked. Decide asked.0 asked.1)
    ∷ row (codes "least") moves_and_budget (λ asked. Least asked.0 asked.1)
    ∷ row (codes "first") moves_and_budget (λ asked. First asked.0 asked.1)
    ∷ row (codes "describe") moves_and_budget (λ asked. Describe asked.0 asked.1)
    ∷ row (codes "play") moves_and_budget (λ asked. Play asked.0 asked.1)
    ∷ row (codes "defend") moves_and_budget (λ asked. Defend asked.0 asked.1)
    ∷ row (codes "keep") moves_name_and_budget (λ asked. Keep asked.0 asked.1)
    ∷ row (codes "show") no_words (λ asked. Show)
    ∷ textless_rows

-- the command that the arguments are, if they ask for this
abbrev pub OrdersAs : {A : Type 0} → Words A → (A → Order) → List (List ℕ) → Result Order UsageWhy → Type 0
OrdersAs {A} may order words answer =
    (asked : Result A UsageWhy) × Asks may words asked × (answer ≡ order_for order asked)

-- the command that the arguments after this name are, or that no row has this name
abbrev pub OrderedBy : List Row → (name : List ℕ) → List (List ℕ) → Result Order UsageWhy → Type 0
OrderedBy [] name words answer = answer ≡ Err Unknown
OrderedBy (first ∷ others) name words answer =
    ((name ≡ first.name) × OrdersAs first.words first.order words answer)
    ⊎ ((name ≢ first.name) × OrderedBy others name words answer)

-- the command that the arguments are, or the first reason why they are none
abbrev pub Ordered : List (List ℕ) → Result Order UsageWhy → Type 0
Ordered [] answer = answer ≡ Err NoCommand
Ordered (word ∷ words) answer = OrderedBy rows word words answer

-- the file name of a command, if it has one: the third argument, or the second, the name of the command included
abbrev pub name_in : Order → (words : List (List ℕ)) → Option (List ℕ)
name_in (Keep moves budget) words = slice_get words 2
name_in (Check budget) words = slice_get words 1
name_in (Resume budget) words = slice_get words 1
name_in order words = None

-- a command that reads a text, as a command
abbrev pub as_order : TextOrder → Order
as_order (text_orders.Decide moves budget) = Decide moves budget
as_order (text_orders.Least limit budget) = Least limit budget
as_order (text_orders.First moves budget) = First moves budget
as_order (text_orders.Describe moves budget) = Describe moves budget
as_order (text_orders.Play moves budget) = Play moves budget
as_order (text_orders.Defend moves budget) = Defend moves budget
as_order (text_orders.Keep moves budget name) = Keep moves budget
as_order text_orders.Show = Show

-- the arguments have the file name of a command that reads a text, if it has one
abbrev pub HasName : TextOrder → (words : List (List ℕ)) → Type 0
HasName (text_orders.Keep moves budget name) words = name_in (Keep moves budget) words ≡ Some name.now
HasName order words = Unit {0}

-- the arguments are this command
pub record IsOrderOf (o : TextOrder) (words : List (List ℕ)) : Type 0 where
  pub ordered : Ordered words (Ok (as_order o))
  pub named : HasName o words

-- the arguments are a command on the file of this name
pub record IsOfFile (order : Order) (name : List ℕ) (words : List (List ℕ)) : Type 0 where
  pub ordered : Ordered words (Ok order)
  pub named : name_in order words ≡ Some name

-- the arguments are a command that writes the claim of the file `from` under the name `to`
pub record IsOfFiles (from to : List ℕ) (words : List (List ℕ)) : Type 0 where
  pub ordered : Ordered words (Ok Migrate)
  pub from_named : slice_get words 1 ≡ Some from
  pub to_named : slice_get words 2 ≡ Some to

-- the arguments ask for this
abbrev pub IsAsked : Asked → (words : List (List ℕ)) → Type 0
IsAsked (asked.Text order) words = IsOrderOf order words
IsAsked (asked.Crowd moves budget) words = Ordered words (Ok (Crowd moves budget))
IsAsked (asked.Check name budget) words = IsOfFile (Check budget) name.now words
IsAsked (asked.Resume name budget) words = IsOfFile (Resume budget) name.now words
IsAsked (asked.Migrate from to) words = IsOfFiles from.now to.now words
IsAsked (asked.Drill seed count) words = Ordered words (Ok (Drill seed count))
IsAsked (asked.Arith budget) words = Ordered words (Ok (Arith budget))

-- the numbers of a command are within their limits
abbrev pub IsWithinLimits : Order → Type 0
IsWithinLimits (Decide moves budget) = moves ≤ MOST_MOVES
IsWithinLimits (Least limit budget) = limit ≤ MOST_MOVES
IsWithinLimits (First moves budget) = moves ≤ MOST_MOVES
IsWithinLimits (Describe moves budget) = moves ≤ MOST_MOVES
IsWithinLimits (Play moves budget) = moves ≤ MOST_MOVES
IsWithinLimits (Defend moves budget) = moves ≤ MOST_MOVES
IsWithinLimits (Keep moves budget) = moves ≤ MOST_MOVES
IsWithinLimits (Crowd moves budget) = moves ≤ MOST_CROWD_MOVES
IsWithinLimits (Drill seed count) = (seed ≤ most_seed) × (count ≤ most_positions)
IsWithinLimits order = Unit {0}

-- the numbers of what is asked are within their limits
abbrev pub IsAskedWithin : Asked → Type 0
IsAskedWithin (asked.Text order) = IsWithinLimits (as_order order)
IsAskedWithin (asked.Crowd moves budget) = IsWithinLimits (Crowd moves budget)
IsAskedWithin other = Unit {0}

-- the fault line of arguments that are not a command
abbrev pub usage_line : UsageWhy → List ℕ
usage_line NoCommand = codes "usage no command\n"
usage_line Unknown = codes "usage unknown\n"
usage_line Count = codes "usage count\n"
usage_line Number = codes "usage number\n"
usage_line Limit = codes "usage limit\n"
usage_line Name = codes "usage name\n"
