-- Each line is a reply, or is refused as one. It belongs in chess_text.
use Rattle.std.proofs.Common.{◌≡◌, ◌≢◌, ◌⊎◌, inl, inr, ℕ, ◌^◌, ◌<◌, ◌≤◌, List, [], ◌∷◌, ℤ, pos, negsuc, FitsSigned, Option, Some, None, refl, sym, ap, subst, ◌∙◌, arith, codes}
use Rattle.std.specs.Int.{w64}
use Rattle.std.specs.Fmt.{signed_decimal}
use Rattle.std.proofs.lemmas.List.Elements.{All-cons, All-nil}
use Rattle.game_laws.proofs.DecideLemmas.{Decided, below, both, either, less, map_decided, number_same}
use Rattle.chess_game.specs.declared.moves.Move.{Move}
use Rattle.text_fields.specs.Blanks.{HasNoBlank}
use Rattle.text_fields.specs.Numbers.{IsNumber}
use Rattle.text_fields.proofs.Blanks.{no_blank_within}
use Rattle.chess_text.specs.Fields.{HasNoNumber, HasTwoFields, IsField, pair_text, two_fields}
use Rattle.chess_text.specs.Replies.{HasDigit, man_digit}
use Rattle.chess_text.specs.declared.replies.MoveWhy.TheVariants as why
use Rattle.chess_text.specs.declared.replies.Typed.{Typed}
use Rattle.chess_text.specs.declared.replies.Typed.TheVariants as typed
use Rattle.chess_text.proofs.Pairs.{fields_are, no_two_fields}
use Rattle.play_loop.specs.Turns.{IsTyped}

same_bytes : (xs ys : List ℕ) → Decided (xs ≡ ys)
same_bytes [] [] = inl refl
same_bytes [] (y ∷ ys) = inr (λ e. cc)
same_bytes (x ∷ xs) [] = inr (λ e. cc)
same_bytes (x ∷ xs) (y ∷ ys) =
    map_decided ((x ≡ y) × (xs ≡ ys)) (x ∷ xs ≡ y ∷ ys)
    (λ h. let one = h.0 in let rest = h.1 in cc) (λ e. (let one : x ≡ y = cc in one, let rest : xs ≡ ys = cc in rest))
    (both _ _ (number_same x y) (same_bytes xs ys))

-- the text before the first blank, and the text after it
record IsSplit (text : List ℕ) : Type 0 where
  first : List ℕ
  second : List ℕ
  joined : text ≡ two_fields first second
  no_blank : HasNoBlank first

split_more : (x : ℕ) (xs : List ℕ) → Decided (x ≡ 32) → IsSplit xs ⊎ HasNoBlank xs → IsSplit (x ∷ xs) ⊎ HasNoBlank (x ∷ xs)
split_more x xs (inl is) rest = inl (record { first = []; second = xs; joined = ap (λ y. y ∷ xs) is; no_blank = All-nil (λ byte. byte ≢ 32) })
split_more x xs (inr ne) (inl h) = inl (record { first = x ∷ h.first; second = h.second; joined = ap (λ ys. x ∷ ys) h.joined; no_blank = All-cons (λ byte. byte ≢ 32) x h.first ne h.no_blank })
split_more x xs (inr ne) (inr h) = inr (All-cons (λ byte. byte ≢ 32) x xs ne h)

split : (text : List ℕ) → IsSplit text ⊎ HasNoBlank text
split [] = inr (All-nil (λ byte. byte ≢ 32))
split (x ∷ xs) = split_more x xs (number_same x 32) (split xs)

some_byte : (text : List ℕ) → Decided (text ≢ [])
some_byte [] = inr (λ h. h refl)
some_byte (x ∷ xs) = inl (λ e. cc)

blank_in : {text : List ℕ} → IsSplit text → HasNoBlank text → ⊥
blank_in h k = no_blank_within h.first h.second (subst HasNoBlank h.joined k)

field_of : (text : List ℕ) → IsSplit text ⊎ HasNoBlank text → Decided (IsField text)
field_of text (inl h) = inr (λ k. blank_in h k.no_blank)
field_of text (inr h) = map_decided (text ≢ []) (IsField text) (λ some. record { some = some; no_blank = h }) (λ k. k.some) (some_byte text)

is_field : (text : List ℕ) → Decided (IsField text)
is_field text = field_of text (split text)

-- the text is a number in one of its two signs
plus : (text : List ℕ) → Decided ((n : ℕ) × (n < 2 ^ 63) × (text ≡ signed_decimal (pos n)))
plus text = below (λ n. text ≡ signed_decimal (pos n)) (λ n. same_bytes text (signed_decimal (pos n))) (2 ^ 63)

minus : (text : List ℕ) → Decided ((n : ℕ) × (n < 2 ^ 63) × (text ≡ signed_decimal (negsuc n)))
minus text = below (λ n. text ≡ signed_decimal (negsuc n)) (λ n. same_bytes text (signed_decimal (negsuc n))) (2 ^ 63)

is_number : (text : List ℕ) → Decided (IsNumber text)
is_number text =
    map_decided _ (IsNumber text)
    (λ h. elim h [
      | inl (n, low, is) ↦ record { number = pos n; fits = omega (arith, low); spelled = is }
      | inr (n, low, is) ↦ record { number = negsuc n; fits = omega (arith, low); spelled = is }
    ])
    (λ h. by h.number h.fits h.spelled) (either _ _ (plus text) (minus text))
  where
    by : (z : ℤ) → FitsSigned w64 z → text ≡ signed_decimal z
        → ((n : ℕ) × (n < 2 ^ 63) × (text ≡ signed_decimal (pos n))) ⊎ ((n : ℕ) × (n < 2 ^ 63) × (text ≡ signed_decimal (negsuc n)))
    by (pos n) fits is = inl (n, omega (arith, fits), is)
    by (negsuc n) fits is = inr (n, omega (arith, fits), is)

fields_of : (text : List ℕ) → IsSplit text ⊎ HasNoBlank text → Decided (HasTwoFields text)
fields_of text (inl h) =
    map_decided (IsField h.first × IsField h.second) (HasTwoFields text)
    (λ k. record { first = h.first; second = h.second; is_first = k.0; is_second = k.1; joined = h.joined })
    (fields_are text h.first h.second h.joined h.no_blank) (both _ _ (is_field h.first) (is_field h.second))
fields_of text (inr h) = inr (no_two_fields text h)

-- a number from 1 to 8 has this digit
abbrev IsDigit : ℕ → Type 0
IsDigit d = (man : ℕ) × (man < 9) × ((1 ≤ man) × (d ≡ man_digit man))

is_digit : (d : ℕ) → Decided (IsDigit d)
is_digit d = below (λ man. (1 ≤ man) × (d ≡ man_digit man)) (λ man. both _ _ (less 0 man) (number_same d (man_digit man))) 9

module _ (d b : ℕ) (rest : List ℕ) where
  abbrev Front : Type 0
  Front = (b ≡ 32) × (IsDigit d × HasTwoFields rest)

  of_front : Front → HasDigit HasTwoFields (d ∷ b ∷ rest)
  of_front h =
      let man = h.1.0.0 in
      let low = h.1.0.1 in
      record {
        man = man;
        first = h.1.0.2.0;
        last = omega (arith, low);
        rest = rest;
        front = ap (λ x. x ∷ b ∷ rest) h.1.0.2.1 ∙ ap (λ x. man_digit man ∷ x ∷ rest) h.0;
        shape = h.1.1;
      }

  front_of : HasDigit HasTwoFields (d ∷ b ∷ rest) → Front
  front_of h =
      let is = h.front in
      let blank : b ≡ 32 = cc in
      let digit : d ≡ man_digit h.man = cc in
      let more : rest ≡ h.rest = cc in
      let high = h.last in
      (blank, ((h.man, omega (arith, high), (h.first, digit)), subst HasTwoFields (sym more) h.shape))

has_digit : (line : List ℕ) → Decided (HasDigit HasTwoFields line)
has_digit [] = inr (λ h. let is = h.front in cc)
has_digit (d ∷ []) = inr (λ h. let is = h.front in cc)
has_digit (d ∷ b ∷ rest) =
    map_decided (Front d b rest) (HasDigit HasTwoFields (d ∷ b ∷ rest)) (of_front d b rest) (front_of d b rest)
    (both _ _ (number_same b 32) (both _ _ (is_digit d) (fields_of rest (split rest))))

abbrev Found : List ℕ → Type 0
Found line = (reply : Option Typed) × IsTyped line reply

no_number_in : {line : List ℕ} (h : HasDigit HasTwoFields line) → (IsNumber h.shape.first → ⊥) ⊎ (IsNumber h.shape.second → ⊥) → Found line
no_number_in h none =
    let t = h.shape in
    let fault : HasNoNumber h.rest =
    record { first = t.first; second = t.second; is_first = t.is_first; is_second = t.is_second; joined = t.joined; other = none } in
    (None, (why.Number, record { man = h.man; first = h.first; last = h.last; rest = h.rest; front = h.front; shape = fault }))

numbers_in : {line : List ℕ} (h : HasDigit HasTwoFields line) → Decided (IsNumber h.shape.first) → Decided (IsNumber h.shape.second) → Found line
numbers_in h (inr none) d = no_number_in h (inl none)
numbers_in h (inl x) (inr none) = no_number_in h (inr none)
numbers_in h (inl x) (inl y) =
    let mv : Move = record { man = h.man; x = x.number; y = y.number } in
    let pair : h.rest ≡ pair_text x.number y.number =
    h.shape.joined ∙ (ap (λ a. two_fields a h.shape.second) x.spelled ∙ ap (two_fields (signed_decimal x.number)) y.spelled) in (
      Some (typed.Move mv),
      (h.front ∙ ap (λ rest. man_digit h.man ∷ 32 ∷ rest) pair, record { first = h.first; last = h.last; right = x.fits; up = y.fits }),
    )

past_quit : (line : List ℕ) → (line ≡ codes "quit" → ⊥) → Decided (HasDigit HasTwoFields line) → Found line
past_quit line other (inr none) = (None, (why.Shape, λ h. elim h [ inl is ↦ other is | inr digit ↦ none digit ]))
past_quit line other (inl h) = numbers_in h (is_number h.shape.first) (is_number h.shape.second)

pub some_typed : (line : List ℕ) → Found line
some_typed line = elim (same_bytes line (codes "quit")) [ inl is ↦ (Some typed.Quit, is) | inr other ↦ past_quit line other (has_digit line) ]
