-- What is written is read again, whatever follows.
use Rattle.std.proofs.Common.{◌≡◌, ℕ, suc, ◌+◌, ◌^◌, ◌≤◌, ◌<◌, Bool, true, false, cond, ltb, leb, ◌&&◌, List, [], ◌∷◌, ◌++◌, map, ◌-◌, length, Some, None, Ok, refl, sym, ap, subst, ◌∙◌, append_assoc, arith}
use Rattle.std.specs.Int.{w8, w32, w64, byte_len, from_be_bytes, to_be_bytes, cast_unsigned, cast_signed}
use Rattle.std.specs.List.{flat_map, AllByRecursion}
use Rattle.std.proofs.lemmas.Bool.{le-ltb, le-leb}
use Rattle.std.proofs.lemmas.List.{take_at, drop_at, length-append, append-nil}
use Rattle.std.proofs.lemmas.List.Concat.{flat_map-cons}
use Rattle.std.proofs.lemmas.Nat.{from_be_bytes-to_be_bytes_4, from_be_bytes-to_be_bytes_8}
use Rattle.std.proofs.lemmas.Int.{to_z-of_z, ints}
use Rattle.strategy_file.specs.declared.refusal.ByteWhy.{ByteWhy}
use Rattle.strategy_file.specs.declared.refusal.ByteWhy.TheVariants as why
use Rattle.std.specs.Prelude.{ℤ, FitsSigned, ◌==◌}
use Rattle.game_rules.specs.declared.men.Man.{Man}
use Rattle.game_rules.specs.declared.men.Place.{Place}
use Rattle.game_rules.specs.declared.men.Place.TheVariants.{Gone, At}
use Rattle.game_rules.specs.declared.men.Side.{Side}
use Rattle.game_rules.specs.declared.men.Side.TheVariants.{White, Black}
use Rattle.game_rules.specs.declared.men.Kind.{Kind}
use Rattle.game_rules.specs.declared.men.Kind.TheVariants.{King, Queen, Rook, Bishop, Knight, Pawn, Chancellor, Archbishop, Amazon, Nightrider}
use Rattle.strategy_file.specs.Numbers.{side_byte, turn_byte, kind_byte}
use Rattle.strategy_writer.specs.Written.{coordinate_bytes, square_bytes, place_bytes, man_bytes, flag_byte}
use Rattle.strategy_file.specs.Men.{side_of, turn_of, winner_of, kind_of, man_of, man_layout, coordinate_layout, place_layout}
use Rattle.strategy_file.specs.declared.version.Version.TheVariants as versions
use Rattle.strategy_file.specs.Tables.{entry_layout, row_layout, state_layout, dense_layout, rows_layout, table_layout, table_with}
use Rattle.strategy_file.specs.Layout.{Field, Layout, Give, bind, one, any, between, repeated, each}
use Rattle.strategy_file.specs.Reading.{taken}
use Rattle.strategy_file.proofs.Takings.{then_ok}
use Rattle.strategy_file.proofs.TableLemmas.{given}

-- these bytes are read as this value, whatever follows them
pub record Again {A : Type 0} (l : Layout A) (bytes : List ℕ) (x : A) : Type 0 where
  pub read : (at : ℕ) (rest : List ℕ) → taken l at (bytes ++ rest) ≡ Ok (x, record { at = at + length bytes; bytes = rest })

pub give_again : {A : Type 0} (x : A) → Again (Give x) [] x
give_again x = record { read = λ at rest. ap (λ n. Ok (x, record { at = n; bytes = rest })) (let e : at ≡ at + 0 = omega arith in e) }

pub field_again : (field : Field) (n : ℕ) (bytes : List ℕ) → length bytes ≡ byte_len field.width
    → from_be_bytes field.width bytes ≡ n → field.wrong n ≡ None → Again (one field) bytes n
field_again field n bytes size number right = record {
  read = λ at rest.
      let long : ltb (length (bytes ++ rest)) (byte_len field.width) ≡ false = le-ltb _ _ (let l = length-append bytes rest in omega (arith, l, size)) in
      rw (long, take_at bytes rest (byte_len field.width) size, drop_at bytes rest (byte_len field.width) size, number, right, size) refl;
}

pub then_again : {A B : Type 0} (l : Layout A) (f : A → Layout B) (front back : List ℕ) (x : A) (y : B) → Again l front x → Again (f x) back y → Again (bind l f) (front ++ back) y
then_again l f front back x y first second = record {
  read = λ at rest.
      let whole = length-append front back in
      let place : at + length front + length back ≡ at + length (front ++ back) = omega (arith, whole) in
      ap (taken (bind l f) at) (append_assoc front back rest)
      ∙ then_ok l f at (front ++ (back ++ rest)) x (record { at = at + length front; bytes = back ++ rest })
      (Ok (y, record { at = at + length front + length back; bytes = rest })) (first.read at (back ++ rest))
      (second.read (at + length front) rest)
      ∙ ap (λ n. Ok (y, record { at = n; bytes = rest })) place;
}

pub as_again : {A : Type 0} (l : Layout A) (a b : List ℕ) (x : A) → a ≡ b → Again l a x → Again l b x
as_again l a b x same again = record { read = λ at rest. rw (← same) (again.read at rest) }

pub repeated_again : {A : Type 0} (l : Layout A) (bytes : A → List ℕ) (xs : List A) → AllByRecursion (λ x. Again l (bytes x) x) xs → Again (repeated (length xs) l) (flat_map bytes xs) xs
repeated_again l bytes [] all = give_again []
repeated_again l bytes (x ∷ xs) all =
    let rest = then_again (repeated (length xs) l) (λ ys. Give (x ∷ ys)) (flat_map bytes xs) [] xs (x ∷ xs) (repeated_again l bytes xs all.1) (give_again (x ∷ xs)) in
    as_again (repeated (suc (length xs)) l) (bytes x ++ (flat_map bytes xs ++ [])) (flat_map bytes (x ∷ xs)) (x ∷ xs)
    (ap (λ b. bytes x ++ b) (append-nil (flat_map bytes xs)) ∙ sym (flat_map-cons bytes x xs))
    (then_again l (λ y. bind (repeated (length xs) l) (λ ys. Give (y ∷ ys))) (bytes x) (flat_map bytes xs ++ []) x (x ∷ xs) all.0 rest)

pub each_again : {A P : Type 0} (f : P → Layout A) (place : A → P) (bytes : A → List ℕ) (xs : List A)
    → AllByRecursion (λ x. Again (f (place x)) (bytes x) x) xs → Again (each (map place xs) f) (flat_map bytes xs) xs
each_again f place bytes [] all = give_again []
each_again f place bytes (x ∷ xs) all =
    let rest = then_again (each (map place xs) f) (λ ys. Give (x ∷ ys)) (flat_map bytes xs) [] xs (x ∷ xs) (each_again f place bytes xs all.1) (give_again (x ∷ xs)) in
    as_again (each (place x ∷ map place xs) f) (bytes x ++ (flat_map bytes xs ++ [])) (flat_map bytes (x ∷ xs)) (x ∷ xs)
    (ap (λ b. bytes x ++ b) (append-nil (flat_map bytes xs)) ∙ sym (flat_map-cons bytes x xs))
    (then_again (f (place x)) (λ y. bind (each (map place xs) f) (λ ys. Give (y ∷ ys))) (bytes x) (flat_map bytes xs ++ []) x (x ∷ xs) all.0 rest)

-- ---- the fields of a file

pub in_range : (least most n : ℕ) (w : ByteWhy) → least ≤ n → n ≤ most → cond (leb least n && leb n most) None (Some w) ≡ None
in_range least most n w a b = rw (le-leb least n a, le-leb n most b) refl

pub byte_again : (least most n : ℕ) (w : ByteWhy) → least ≤ n → n ≤ most → Again (one (between w8 least most w)) (n ∷ []) n
byte_again least most n w a b = field_again (between w8 least most w) n (n ∷ []) refl refl (in_range least most n w a b)

pub number_again : (least most n : ℕ) (w : ByteWhy) → least ≤ n → n ≤ most → n < 2 ^ 32 → Again (one (between w32 least most w)) (to_be_bytes w32 n) n
number_again least most n w a b small = field_again (between w32 least most w) n (to_be_bytes w32 n) refl (from_be_bytes-to_be_bytes_4 n small) (in_range least most n w a b)

-- a row of states
pub row_again : (tracks states : ℕ) (row : List ℕ) → length row ≡ 2 ^ tracks → states ≤ 200000 → AllByRecursion (λ s. s < states) row
    → Again (row_layout tracks states) (flat_map (to_be_bytes w32) row) row
unfolding row_layout
row_again tracks states row size few within =
    subst (λ n. Again (repeated n (entry_layout states)) (flat_map (to_be_bytes w32) row) row) size (repeated_again (entry_layout states) (to_be_bytes w32) row (entries row within))
  where
    entries : (r : List ℕ) → AllByRecursion (λ s. s < states) r → AllByRecursion (λ s. Again (entry_layout states) (to_be_bytes w32 s) s) r
    entries [] all = tt
    entries (s ∷ r) all = (let here = all.0 in number_again 0 (states - 1) s why.Entry (omega arith) (omega (arith, here)) (omega (arith, here, few)), entries r all.1)

-- ---- men

pub turn_again : (winner turn : Side) → turn_of (turn_byte winner turn) ≡ turn
turn_again White White = refl
turn_again White Black = refl
turn_again Black White = refl
turn_again Black Black = refl

pub winner_again : (winner turn : Side) → winner_of (turn_byte winner turn) ≡ winner
winner_again White White = refl
winner_again White Black = refl
winner_again Black White = refl
winner_again Black Black = refl

side_again : (s : Side) → side_of (side_byte s) ≡ s
side_again White = refl
side_again Black = refl

kind_again : (k : Kind) → kind_of (kind_byte k) ≡ k
kind_again King = refl
kind_again Queen = refl
kind_again Rook = refl
kind_again Bishop = refl
kind_again Knight = refl
kind_again Pawn = refl
kind_again Chancellor = refl
kind_again Archbishop = refl
kind_again Amazon = refl
kind_again Nightrider = refl

side_small : (s : Side) → side_byte s ≤ 1
side_small White = omega arith
side_small Black = omega arith

coordinate_again : (x : ℤ) → FitsSigned w64 x → Again coordinate_layout (coordinate_bytes x) x
unfolding coordinate_bytes
coordinate_again x fits =
    let small : cast_unsigned w64 x < 2 ^ 64 = omega (arith, ints, fits) in
    let number = field_again (any w64) (cast_unsigned w64 x) (to_be_bytes w64 (cast_unsigned w64 x)) refl (from_be_bytes-to_be_bytes_8 (cast_unsigned w64 x) small) refl in
    let back : cast_signed w64 (cast_unsigned w64 x) ≡ x = to_z-of_z w64 x fits in
    as_again coordinate_layout (to_be_bytes w64 (cast_unsigned w64 x) ++ []) (to_be_bytes w64 (cast_unsigned w64 x)) x (append-nil (to_be_bytes w64 (cast_unsigned w64 x)))
    (then_again (one (any w64)) (λ n. Give (cast_signed w64 n)) (to_be_bytes w64 (cast_unsigned w64 x)) [] (cast_unsigned w64 x) x number
    (subst (λ y. Again (Give (cast_signed w64 (cast_unsigned w64 x))) [] y) back (give_again (cast_signed w64 (cast_unsigned w64 x)))))

square_again : (x y : ℤ) → FitsSigned w64 x → FitsSigned w64 y → Again (place_layout 1) (coordinate_bytes x ++ coordinate_bytes y) (At x y)
unfolding place_layout
square_again x y fx fy =
    let last = then_again coordinate_layout (λ v. Give (At x v)) (coordinate_bytes y) [] y (At x y) (coordinate_again y fy) (give_again (At x y)) in
    as_again (bind coordinate_layout (λ u. bind coordinate_layout (λ v. Give (At u v)))) (coordinate_bytes x ++ (coordinate_bytes y ++ [])) (coordinate_bytes x ++ coordinate_bytes y) (At x y)
    (ap (λ b. coordinate_bytes x ++ b) (append-nil (coordinate_bytes y)))
    (then_again coordinate_layout (λ u. bind coordinate_layout (λ v. Give (At u v))) (coordinate_bytes x) (coordinate_bytes y ++ []) x (At x y) (coordinate_again x fx) last)

-- coordinates are numbers of 64 bits
abbrev pub FitsPlace : Place → Type 0
FitsPlace Gone = Unit {0}
FitsPlace (At x y) = FitsSigned w64 x × FitsSigned w64 y

pub place_again : (p : Place) → FitsPlace p → Again (bind (one (between w8 0 1 why.PlaceTag)) place_layout) (place_bytes p) p
unfolding place_layout square_bytes
place_again Gone fits = then_again (one (between w8 0 1 why.PlaceTag)) place_layout (0 ∷ []) [] 0 Gone (byte_again 0 1 0 why.PlaceTag (omega arith) (omega arith)) (give_again Gone)
place_again (At x y) fits =
    then_again (one (between w8 0 1 why.PlaceTag)) place_layout (1 ∷ []) (coordinate_bytes x ++ coordinate_bytes y) 1 (At x y)
    (byte_again 0 1 1 why.PlaceTag (omega arith) (omega arith)) (square_again x y fits.0 fits.1)

man_rest : ℕ → ℕ → Layout Man
man_rest side kind = bind (bind (one (between w8 0 1 why.PlaceTag)) place_layout) (λ p. Give (man_of side kind p))

pub man_again : (most : ℕ) (m : Man) → kind_byte m.kind ≤ most → FitsPlace m.place → Again (man_layout most) (man_bytes m) m
unfolding man_layout man_bytes man_rest
man_again most m small fits =
    let s = side_byte m.side in
    let k = kind_byte m.kind in
    let made : Man = man_of s k m.place in
    let tail : Again (man_rest s k) (place_bytes m.place ++ []) made =
    then_again (bind (one (between w8 0 1 why.PlaceTag)) place_layout) (λ p. Give (man_of s k p)) (place_bytes m.place) [] m.place made (place_again m.place fits) (give_again made) in
    let kind : Again (bind (one (between w8 0 most why.Kind)) (λ k'. man_rest s k')) ((k ∷ []) ++ (place_bytes m.place ++ [])) made =
    then_again (one (between w8 0 most why.Kind)) (λ k'. man_rest s k') (k ∷ []) (place_bytes m.place ++ []) k made (byte_again 0 most k why.Kind (omega arith) small) tail in
    let whole =
    then_again (one (between w8 0 1 why.Side)) (λ s'. bind (one (between w8 0 most why.Kind)) (λ k'. man_rest s' k')) (s ∷ [])
    ((k ∷ []) ++ (place_bytes m.place ++ [])) s made (byte_again 0 1 s why.Side (omega arith) (side_small m.side)) kind in
    let same : made ≡ m = rw (side_again m.side, kind_again m.kind) refl in
    subst (λ n. Again (man_layout most) (man_bytes m) n) same
    (as_again (man_layout most) ((s ∷ []) ++ ((k ∷ []) ++ (place_bytes m.place ++ []))) (man_bytes m) made (ap (λ b. s ∷ k ∷ b) (append-nil (place_bytes m.place))) whole)

-- ---- a state's flag and row

pub flag_again : (b : Bool) → (flag_byte b == 1) ≡ b
flag_again false = refl
flag_again true = refl

pub flag_small : (b : Bool) → flag_byte b ≤ 1
flag_small false = omega arith
flag_small true = omega arith

pub state_again : (tracks states : ℕ) (b : Bool) (row : List ℕ) → length row ≡ 2 ^ tracks → states ≤ 200000 → AllByRecursion (λ s. s < states) row
    → Again (state_layout tracks states) (flag_byte b ∷ flat_map (to_be_bytes w32) row) (b, row)
unfolding state_layout
state_again tracks states b row size few within =
    let f = flag_byte b in
    let made : Bool × List ℕ = (f == 1, row) in
    let bytes = flat_map (to_be_bytes w32) row in
    let tail = then_again (row_layout tracks states) (λ r. given (f == 1) r) bytes [] row made (row_again tracks states row size few within) (give_again made) in
    let whole =
    then_again (one (between w8 0 1 why.Flag)) (λ f'. bind (row_layout tracks states) (λ r. given (f' == 1) r)) (f ∷ []) (bytes ++ []) f made
    (byte_again 0 1 f why.Flag (omega arith) (flag_small b)) tail in
    subst (λ x. Again (state_layout tracks states) (f ∷ bytes) (x, row)) (flag_again b)
    (as_again (state_layout tracks states) (f ∷ (bytes ++ [])) (f ∷ bytes) made (ap (λ t. f ∷ t) (append-nil bytes)) whole)

pub table_again : (tracks states : ℕ) (first : List ℕ) (pairs : List (Bool × List ℕ)) → length first ≡ 2 ^ tracks → 1 ≤ states → states ≤ 200000
    → length pairs ≡ states → AllByRecursion (λ s. s < states) first
    → AllByRecursion (λ p. (length p.1 ≡ 2 ^ tracks) × AllByRecursion (λ s. s < states) p.1) pairs
    → Again (table_layout versions.Dense tracks) (to_be_bytes w32 states ++ (flat_map (to_be_bytes w32) first ++ flat_map (λ p. flag_byte p.0 ∷ flat_map (to_be_bytes w32) p.1) pairs)) (table_with first pairs)
unfolding table_layout rows_layout dense_layout
table_again tracks states first pairs size some few count within rows =
    let row_bytes = flat_map (to_be_bytes w32) first in
    let pair_bytes = flat_map (λ p. flag_byte p.0 ∷ flat_map (to_be_bytes w32) p.1) pairs in
    let made = table_with first pairs in
    let all : Again (repeated states (state_layout tracks states)) pair_bytes pairs =
    subst (λ n. Again (repeated n (state_layout tracks states)) pair_bytes pairs) count
    (repeated_again (state_layout tracks states) (λ p. flag_byte p.0 ∷ flat_map (to_be_bytes w32) p.1) pairs (each_state pairs rows)) in
    let last = then_again (repeated states (state_layout tracks states)) (λ ps. Give (table_with first ps)) pair_bytes [] pairs made all (give_again made) in
    let front =
    then_again (row_layout tracks states) (λ r. bind (repeated states (state_layout tracks states)) (λ ps. Give (table_with r ps))) row_bytes
    (pair_bytes ++ []) first made (row_again tracks states first size few within) last in
    let whole =
    then_again (one (between w32 1 200000 why.States))
    (λ n. bind (row_layout tracks n) (λ r. bind (repeated n (state_layout tracks n)) (λ ps. Give (table_with r ps)))) (to_be_bytes w32 states)
    (row_bytes ++ (pair_bytes ++ [])) states made
    (number_again 1 200000 states why.States some few (omega arith)) front in
    as_again (table_layout versions.Dense tracks) (to_be_bytes w32 states ++ (row_bytes ++ (pair_bytes ++ []))) (to_be_bytes w32 states ++ (row_bytes ++ pair_bytes)) made
    (ap (λ t. to_be_bytes w32 states ++ (row_bytes ++ t)) (append-nil pair_bytes)) whole
  where
    each_state : (ps : List (Bool × List ℕ)) → AllByRecursion (λ p. (length p.1 ≡ 2 ^ tracks) × AllByRecursion (λ s. s < states) p.1) ps
        → AllByRecursion (λ p. Again (state_layout tracks states) (flag_byte p.0 ∷ flat_map (to_be_bytes w32) p.1) p) ps
    each_state [] all = tt
    each_state (p ∷ ps) all = (state_again tracks states p.0 p.1 all.0.0 few all.0.1, each_state ps all.1)
