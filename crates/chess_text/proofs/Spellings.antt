-- Numbers, places and men have one spelling.
use Rattle.std.proofs.Common.{◌≡◌, ◌≢◌, ◌⊎◌, inl, inr, ℕ, ◌<◌, ◌+◌, ◌==◌, if◌then◌else◌, ◌^◌, ◌%◌, zero, suc, List, [], ◌∷◌, ◌++◌, length, ℤ, pos, negsuc, FitsSigned, refl, sym, ap, ◌∙◌, subst, arith, codes}
use Rattle.std.specs.Int.{w64}
use Rattle.std.specs.Fmt.{decimal, signed_decimal}
use Rattle.std.proofs.lemmas.Fmt.{decimal_by_steps, decimal_nonempty}
use Rattle.game_rules.specs.declared.men.Side.{Side}
use Rattle.game_rules.specs.declared.men.Side.TheVariants.{White, Black}
use Rattle.game_rules.specs.declared.men.Kind.{Kind}
use Rattle.game_rules.specs.declared.men.Kind.TheVariants.{King, Queen, Rook, Bishop, Knight, Pawn, Chancellor, Archbishop, Amazon, Nightrider}
use Rattle.game_rules.specs.declared.men.Place.{Place}
use Rattle.game_rules.specs.declared.men.Place.TheVariants.{Gone, At}
use Rattle.game_rules.specs.declared.men.Man.{Man}
use Rattle.text_fields.specs.Blanks.{HasNoBlank}
use Rattle.text_fields.specs.Numbers.{IsNumber}
use Rattle.text_fields.proofs.Blanks.{head_no_blank, no_blank_within, same_parts, tail_no_blank}
use Rattle.text_fields.proofs.Signed.{same_number}
use Rattle.chess_text.specs.Fields.{HasTwoFields, HasNoNumber, HasOtherField, IsField, IsPairRefusal, pair_text}
use Rattle.chess_text.specs.Grammar.{IsCoordinate, IsCoordinateOf, IsPlaceOf}
use Rattle.chess_text.specs.ManLine.{HasPlaceFault, HasPlaceShape, IsManLine, IsManRefusal, IsPlaceRefusal, behind_letters, kind_letter, place_text, side_letter, turn_text}
use Rattle.chess_text.specs.PositionText.{FitsPlace}
use Rattle.chess_text.specs.declared.grammar.Grammar.{Grammar}
use Rattle.chess_text.specs.declared.fields.PairWhy.{PairWhy}
use Rattle.chess_text.specs.declared.fields.PairWhy.TheVariants as pair_why
use Rattle.chess_text.specs.declared.man_line.TextWhy.{TextWhy}
use Rattle.chess_text.specs.declared.man_line.TextWhy.TheVariants as why

cons_no_blank : (x : ℕ) (a : List ℕ) → x ≢ 32 → HasNoBlank a → HasNoBlank (x ∷ a)
cons_no_blank x a ne h zero e lt is = ne is
cons_no_blank x a ne h (suc k) e lt is = h k e (omega arith) is

no_blank_append : (a b : List ℕ) → HasNoBlank a → HasNoBlank b → HasNoBlank (a ++ b)
no_blank_append [] b ha hb = hb
no_blank_append (x ∷ a) b ha hb = cons_no_blank x (a ++ b) (head_no_blank x a ha) (no_blank_append a b (tail_no_blank x a ha) hb)

nil_no_blank : HasNoBlank []
nil_no_blank k e lt is = absurd (omega arith)

no_blank_digit : (d : ℕ) → HasNoBlank ((48 + d) ∷ [])
no_blank_digit d = cons_no_blank (48 + d) [] (omega arith) nil_no_blank

-- a number's text has no blank, and a byte
no_blank_decimal : (n : ℕ) → n < 2 ^ 64 → HasNoBlank (decimal n)
no_blank_decimal n h =
    decimal_by_steps (λ m ds. HasNoBlank ds) (λ m lt. no_blank_digit m) (λ m ds ge before. no_blank_append ds ((48 + m % 10) ∷ []) before (no_blank_digit (m % 10))) n h

pub no_blank_signed : (z : ℤ) → FitsSigned w64 z → HasNoBlank (signed_decimal z)
no_blank_signed (pos n) fits = no_blank_decimal n (omega (arith, fits))
no_blank_signed (negsuc n) fits = cons_no_blank 45 (decimal (suc n)) (omega arith) (no_blank_decimal (suc n) (omega (arith, fits)))

nonempty : (xs : List ℕ) → 0 < length xs → xs ≢ []
nonempty [] h = absurd (omega arith)
nonempty (x ∷ xs) h = λ e. cc

some_signed : (z : ℤ) → FitsSigned w64 z → signed_decimal z ≢ []
some_signed (pos n) fits = nonempty (decimal n) (decimal_nonempty n (omega (arith, fits)))
some_signed (negsuc n) fits = λ e. cc

pub signed_is_field : (z : ℤ) → FitsSigned w64 z → IsField (signed_decimal z)
signed_is_field z fits = record { some = some_signed z fits; no_blank = no_blank_signed z fits }

pub same_pair : (x y u v : ℤ) → FitsSigned w64 x → FitsSigned w64 y → FitsSigned w64 u → FitsSigned w64 v → pair_text x y ≡ pair_text u v → (x ≡ u) × (y ≡ v)
same_pair x y u v fx fy fu fv h =
    let parts = same_parts (signed_decimal x) (signed_decimal y) (signed_decimal u) (signed_decimal v) (no_blank_signed x fx) (no_blank_signed u fu) h in
    (same_number x u fx fu parts.0, same_number y v fy fv parts.1)

-- two numbers are two fields
pub pair_has_fields : (x y : ℤ) → FitsSigned w64 x → FitsSigned w64 y → HasTwoFields (pair_text x y)
pair_has_fields x y fx fy =
    record { first = signed_decimal x; second = signed_decimal y; is_first = signed_is_field x fx; is_second = signed_is_field y fy; joined = refl }

is_number : (text : List ℕ) (z : ℤ) → FitsSigned w64 z → signed_decimal z ≡ text → IsNumber text
is_number text z fits h = record { number = z; fits = fits; spelled = sym h }

-- two fields that are as they should be are not refused
pair_no_other : (Is : List ℕ → Type 0) (x y : ℤ) → FitsSigned w64 x → FitsSigned w64 y → Is (signed_decimal x) → Is (signed_decimal y)
    → HasOtherField Is (pair_text x y) → ⊥
pair_no_other Is x y fx fy ix iy h =
    let parts = same_parts (signed_decimal x) (signed_decimal y) h.first h.second (no_blank_signed x fx) h.is_first.no_blank h.joined in
    elim h.other [ inl f ↦ f (subst Is parts.0 ix) | inr f ↦ f (subst Is parts.1 iy) ]

-- two numbers are not refused as none
pub pair_no_fault : (x y : ℤ) → FitsSigned w64 x → FitsSigned w64 y → HasNoNumber (pair_text x y) → ⊥
pair_no_fault x y fx fy h = pair_no_other IsNumber x y fx fy (is_number (signed_decimal x) x fx refl) (is_number (signed_decimal y) y fy refl) h

-- where one field is not as it should be, there are two fields
pub fault_has_fields : {Is : List ℕ → Type 0} (text : List ℕ) → HasOtherField Is text → HasTwoFields text
fault_has_fields text h = record { first = h.first; second = h.second; is_first = h.is_first; is_second = h.is_second; joined = h.joined }

is_coordinate : {g : Grammar} (z : ℤ) → IsCoordinateOf g z → IsCoordinate g (signed_decimal z)
is_coordinate z taken = record { number = z; taken = taken; spelled = refl }

-- two fields of which one is no number are no coordinates
pub numbers_fail : {g : Grammar} {text : List ℕ} → HasNoNumber text → HasPlaceFault g text
numbers_fail {g} h =
    let is : (text : List ℕ) → IsCoordinate g text → IsNumber text = λ text c. record { number = c.number; fits = c.taken.fits; spelled = c.spelled } in
    record {
      first = h.first;
      second = h.second;
      is_first = h.is_first;
      is_second = h.is_second;
      joined = h.joined;
      other = elim h.other [ inl f ↦ inl (λ c. f (is h.first c)) | inr f ↦ inr (λ c. f (is h.second c)) ];
    }

-- a number that is no coordinate of a text is spelled as none
not_coordinate : {g : Grammar} (z : ℤ) → FitsSigned w64 z → (IsCoordinateOf g z → ⊥) → IsCoordinate g (signed_decimal z) → ⊥
not_coordinate {g} z fits far c = far (subst (IsCoordinateOf g) (sym (same_number z c.number fits c.taken.fits c.spelled)) c.taken)

-- what is no pair of numbers behind the letters, and no captured man, is no place
pub not_place : (g : Grammar) {text : List ℕ} (reason : PairWhy) → text ≢ codes "gone" → IsPairRefusal text reason → IsPlaceRefusal g text reason
not_place g pair_why.Shape ne h = λ shape. elim shape [ inl gone ↦ ne gone | inr fields ↦ h fields ]
not_place g pair_why.Number ne h = numbers_fail h

-- two numbers of which one is no coordinate
pub pair_is_far : {g : Grammar} (x y : ℤ) → FitsSigned w64 x → FitsSigned w64 y → (IsCoordinateOf g x → ⊥) ⊎ (IsCoordinateOf g y → ⊥)
    → HasPlaceFault g (pair_text x y)
pair_is_far x y fx fy far =
    record {
      first = signed_decimal x;
      second = signed_decimal y;
      is_first = signed_is_field x fx;
      is_second = signed_is_field y fy;
      joined = refl;
      other = elim far [ inl f ↦ inl (not_coordinate x fx f) | inr f ↦ inr (not_coordinate y fy f) ];
    }

-- a pair is not the word for a captured man
gone_no_blank : HasNoBlank (codes "gone")
gone_no_blank =
    cons_no_blank 103 (111 ∷ 110 ∷ 101 ∷ []) (omega arith)
    (cons_no_blank 111 (110 ∷ 101 ∷ []) (omega arith) (cons_no_blank 110 (101 ∷ []) (omega arith) (cons_no_blank 101 [] (omega arith) nil_no_blank)))

pub gone_no_fields : HasTwoFields (codes "gone") → ⊥
gone_no_fields t = no_blank_within t.first t.second (subst HasNoBlank t.joined gone_no_blank)

-- what a text may name has 64 bits
pub place_fits : (g : Grammar) (a : Place) → IsPlaceOf g a → FitsPlace a
place_fits g Gone h = h
place_fits g (At x y) h = (h.0.fits, h.1.fits)

-- a place has one text
same_place : (a b : Place) → FitsPlace a → FitsPlace b → place_text a ≡ place_text b → a ≡ b
same_place Gone Gone fa fb h = refl
same_place Gone (At u v) fa fb h = absurd (gone_no_fields (subst HasTwoFields (sym h) (pair_has_fields u v fb.0 fb.1)))
same_place (At x y) Gone fa fb h = absurd (gone_no_fields (subst HasTwoFields h (pair_has_fields x y fa.0 fa.1)))
same_place (At x y) (At u v) fa fb h =
    let parts = same_pair x y u v fa.0 fa.1 fb.0 fb.1 h in
    let right = parts.0 in let up = parts.1 in cc

pub same_side : (s t : Side) → side_letter s ≡ side_letter t → s ≡ t
same_side White White h = refl
same_side White Black h = absurd (omega arith)
same_side Black White h = absurd (omega arith)
same_side Black Black h = refl

-- the second line has one reading
pub same_turn : (s w t v : Side) → turn_text s w ≡ turn_text t v → (s ≡ t) × (w ≡ v)
same_turn s White t White h = let letter : side_letter s ≡ side_letter t = cc in (same_side s t letter, refl)
same_turn s Black t Black h = let letter : side_letter s ≡ side_letter t = cc in (same_side s t letter, refl)
same_turn s White t Black h = absurd cc
same_turn s Black t White h = absurd cc

-- the kind of a letter, among the six of chess and among the others
chess_kind_of : ℕ → Kind
chess_kind_of n =
    if n == 75 then King
    else (if n == 81 then Queen else (if n == 82 then Rook else (if n == 66 then Bishop else (if n == 78 then Knight else Pawn))))

kind_of : ℕ → Kind
kind_of n =
    if n == 67 then Chancellor
    else (if n == 65 then Archbishop else (if n == 90 then Amazon else (if n == 72 then Nightrider else chess_kind_of n)))

kind_again : (k : Kind) → kind_of (kind_letter k) ≡ k
unfolding kind_of chess_kind_of
kind_again King = refl
kind_again Queen = refl
kind_again Rook = refl
kind_again Bishop = refl
kind_again Knight = refl
kind_again Pawn = refl
kind_again Chancellor = refl
kind_again Archbishop = refl
kind_again Amazon = refl
kind_again Nightrider = refl

same_kind : (k l : Kind) → kind_letter k ≡ kind_letter l → k ≡ l
same_kind k l h = sym (kind_again k) ∙ ap kind_of h ∙ kind_again l

-- what stands behind the letters is determined, and so are the letters
same_behind : (s t : Side) (k l : Kind) (a b : List ℕ) → behind_letters s k a ≡ behind_letters t l b → (s ≡ t) × (k ≡ l) × (a ≡ b)
same_behind s t k l a b h =
    let side : side_letter s ≡ side_letter t = cc in
    let kind : kind_letter k ≡ kind_letter l = cc in
    let rest : a ≡ b = cc in
    (same_side s t side, same_kind k l kind, rest)

-- a man has one line
pub same_man : {g : Grammar} {line : List ℕ} {m n : Man} → IsManLine g line m → IsManLine g line n → m ≡ n
same_man {g} {m = m} {n = n} hm hn =
    let parts = same_behind m.side n.side m.kind n.kind (place_text m.place) (place_text n.place) (sym hm.spelled ∙ hn.spelled) in
    let side = parts.0 in
    let kind = parts.1 in
    let place = same_place m.place n.place (place_fits g m.place hm.fits) (place_fits g n.place hn.fits) parts.2 in
    λ i. record { side = side i; kind = kind i; place = place i }

place_no_fault : {g : Grammar} (a : Place) → IsPlaceOf g a → HasPlaceFault g (place_text a) → ⊥
place_no_fault Gone fits h = gone_no_fields (fault_has_fields (codes "gone") h)
place_no_fault {g} (At x y) fits h =
    pair_no_other (IsCoordinate g) x y fits.0.fits fits.1.fits (is_coordinate x fits.0) (is_coordinate y fits.1) h

place_shape : (a : Place) → FitsPlace a → HasPlaceShape (place_text a)
place_shape Gone fits = inl refl
place_shape (At x y) fits = inr (pair_has_fields x y fits.0 fits.1)

-- a man's line is not refused
pub man_no_refusal : {g : Grammar} {line : List ℕ} {m : Man} (reason : TextWhy) → IsManLine g line m → IsManRefusal g line reason → ⊥
man_no_refusal {g} {m = m} why.ManLine h refusal =
    refusal (record {
      side = m.side;
      kind = m.kind;
      rest = place_text m.place;
      letters = h.spelled;
      shape = place_shape m.place (place_fits g m.place h.fits);
    })
man_no_refusal {g} {m = m} why.Number h refusal =
    let parts = same_behind m.side refusal.side m.kind refusal.kind (place_text m.place) refusal.rest (sym h.spelled ∙ refusal.letters) in
    place_no_fault m.place h.fits (subst (HasPlaceFault g) (sym parts.2) refusal.no_coordinate)
man_no_refusal why.Header h refusal = refusal
man_no_refusal why.Turn h refusal = refusal
man_no_refusal why.TooFew h refusal = refusal
man_no_refusal why.TooMany h refusal = refusal

-- a line is refused as no man for one reason
pub one_refusal : (g : Grammar) (line : List ℕ) (a b : TextWhy) → IsManRefusal g line a → IsManRefusal g line b → a ≡ b
one_refusal g line why.ManLine why.ManLine ha hb = refl
one_refusal g line why.ManLine why.Number ha hb =
    absurd (ha (record { side = hb.side; kind = hb.kind; rest = hb.rest; letters = hb.letters; shape = inr (fault_has_fields hb.rest hb.no_coordinate) }))
one_refusal g line why.Number why.ManLine ha hb =
    absurd (hb (record { side = ha.side; kind = ha.kind; rest = ha.rest; letters = ha.letters; shape = inr (fault_has_fields ha.rest ha.no_coordinate) }))
one_refusal g line why.Number why.Number ha hb = refl
one_refusal g line why.Header b ha hb = absurd ha
one_refusal g line why.Turn b ha hb = absurd ha
one_refusal g line why.TooFew b ha hb = absurd ha
one_refusal g line why.TooMany b ha hb = absurd ha
one_refusal g line why.ManLine why.Header ha hb = absurd hb
one_refusal g line why.ManLine why.Turn ha hb = absurd hb
one_refusal g line why.ManLine why.TooFew ha hb = absurd hb
one_refusal g line why.ManLine why.TooMany ha hb = absurd hb
one_refusal g line why.Number why.Header ha hb = absurd hb
one_refusal g line why.Number why.Turn ha hb = absurd hb
one_refusal g line why.Number why.TooFew ha hb = absurd hb
one_refusal g line why.Number why.TooMany ha hb = absurd hb
