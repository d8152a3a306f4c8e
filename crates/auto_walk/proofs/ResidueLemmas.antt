-- The walk over residues.
use Rattle.std.proofs.Common.{◌≡◌, ℕ, suc, ◌+◌, ◌-◌, ◌*◌, ◌%◌, ◌^◌, ◌<◌, pos, ◌+ℤ◌, ◌-ℤ◌, true, List, [], ◌∷◌, length, get_or, slice_get, Some, nat_eq, if◌then◌else◌, arith, refl, sym, ap, ◌∙◌, subst, inl, inr}
use Rattle.std.specs.List.{fold}
use Rattle.std.specs.Int.{bit_at, int_rem_euclid}
use Rattle.std.proofs.lemmas.Int.{int_rem_euclid_is}
use Rattle.std.proofs.lemmas.Grind.{common_steps}
use Rattle.std.proofs.lemmas.Nat.{pow_pos, pow-add, mul-mod_second}
use Rattle.std.proofs.Math.Nat.{mod-add-mod, mod-eq_of_lt}
use Rattle.std.proofs.lemmas.Int.{ints}
use Rattle.track_word.proofs.LetterBits.{bit_cases}
use Rattle.track_word.specs.declared.tracks.Var.{Var}
use Rattle.track_word.specs.Word.{IsWord, val, low_value, RepeatKeepsValues}
use Rattle.track_word.specs.Tracks.{word_values}
use Rattle.letter_diagram.specs.declared.diagrams.Shape.{Shape}
use Rattle.letter_diagram.specs.Diagram.{map_at}
use Rattle.letter_diagram.proofs.Lists.{one_place}
use Rattle.auto_core.specs.Automaton.{Automaton}
use Rattle.auto_core.specs.Words.{AcceptsWhere}
use Rattle.auto_core.specs.Integers.{DecidesIntegers}
use Rattle.auto_core.proofs.Prefixes.{alone}
use Rattle.auto_core.proofs.Members.{DecidesIntegers-values}
use Rattle.auto_walk.specs.Walker.{Walker, place_of, IsWalked}
use Rattle.auto_walk.specs.Rows.{IsRow}
use Rattle.auto_walk.specs.Residue.{next_residue, residue_walker, ResidueHolds, IsBitRow}

-- one of two numbers by the last bit of a letter
abbrev pub by_bit : ℕ → ℕ → ℕ → ℕ
by_bit low high letter = if nat_eq (bit_at letter 0) 0 then low else high

-- a row by one bit, over one track
pub IsRow-bits : (w : Walker) {shapes : List Shape} {old new : List (List ℕ)} (lead : ℕ → List ℕ) {low high node : ℕ} → length w.tracks ≡ 1
    → ((letter : ℕ) → lead letter ≡ by_bit low high letter ∷ []) → IsBitRow shapes old new low high node → IsRow w shapes old new lead node
IsRow-bits w {shapes} {new} lead {low} {high} {node} one leads_to row =
    let at : (letter : ℕ) → slice_get new (map_at shapes node letter) ≡ Some (lead letter) = λ letter. row.leads letter ∙ ap Some (sym (leads_to letter)) in
    record {
      known = row.known;
      narrow = record {
        same = λ a b agree.
            let bits = agree 0 (omega (arith, one)) in
            one_place new row.different _ _ (by_bit low high b ∷ []) (row.leads a ∙ ap (λ bit. Some ((if nat_eq bit 0 then low else high) ∷ [])) bits) (row.leads b);
      };
      leads = λ letter below. at letter;
      different = row.different;
      led = λ number past within. elim (row.added number past within) [
        | inl e ↦ record { letter = 0; below = pow_pos (length w.tracks); leads = e ∙ ap Some (sym (leads_to 0)) }
        | inr e ↦ record { letter = 1; below = rw one (omega arith); leads = e ∙ ap Some (sym (leads_to 1)) }
      ];
    }

-- by the bit's value
choice : (low high letter bit : ℕ) → bit_at letter 0 ≡ bit → by_bit low high letter ≡ (if nat_eq bit 0 then low else high)
choice low high letter bit e = ap (λ b. if nat_eq b 0 then low else high) e

pub first-by_bit : (modulus letter : ℕ) → bit_at letter 0 * (modulus - 1) ∷ [] ≡ by_bit 0 (modulus - 1) letter ∷ []
first-by_bit modulus letter = ap (λ n. n ∷ []) (elim (bit_cases letter 0) [
  | inl e ↦ ap (λ b. b * (modulus - 1)) e ∙ (let none : 0 * (modulus - 1) ≡ 0 = omega arith in none) ∙ sym (choice 0 (modulus - 1) letter 0 e)
  | inr e ↦ ap (λ b. b * (modulus - 1)) e ∙ (let one : 1 * (modulus - 1) ≡ modulus - 1 = omega arith in one) ∙ sym (choice 0 (modulus - 1) letter 1 e)
])

pub next-by_bit : (modulus letter low high : ℕ) (place : List ℕ) → low ≡ (2 * get_or place 0 0 + 0) % modulus → high ≡ (2 * get_or place 0 0 + 1) % modulus
    → next_residue modulus place letter ≡ by_bit low high letter ∷ []
next-by_bit modulus letter low high place l h = ap (λ n. n ∷ []) (elim (bit_cases letter 0) [
  | inl e ↦ ap (λ b. (2 * get_or place 0 0 + b) % modulus) e ∙ sym l ∙ sym (choice low high letter 0 e)
  | inr e ↦ ap (λ b. (2 * get_or place 0 0 + b) % modulus) e ∙ sym h ∙ sym (choice low high letter 1 e)
])

-- ---- what a word's residue is

spread : (n bit p q low : ℕ) → q ≡ p + p → (2 * n + bit) * p + low ≡ n * q + (bit * p + low)
spread n bit p q low e = rw e (grind arith)

pull : (bit p k : ℕ) → bit * p * (k + 1) ≡ bit * p + bit * k * p
pull bit p k = grind arith

-- what letters make of a number that has been read
abbrev read_on : ℕ → List ℕ → ℕ
read_on n letters = n * 2 ^ length letters + low_value letters 0

fold-residue : (modulus : ℕ) (letters : List ℕ) (n : ℕ) → fold (next_residue modulus) (n % modulus ∷ []) letters ≡ read_on n letters % modulus ∷ []
fold-residue modulus [] n = ap (λ k. k % modulus ∷ []) (let e : n ≡ n * 1 + 0 = omega arith in e)
fold-residue modulus (letter ∷ letters) n =
    let step : (2 * (n % modulus) + bit_at letter 0) % modulus ≡ (2 * n + bit_at letter 0) % modulus =
    sym (mod-add-mod (2 * (n % modulus)) modulus (bit_at letter 0)) ∙ ap (λ x. (x + bit_at letter 0) % modulus) (mul-mod_second 2 n modulus) ∙ mod-add-mod (2 * n) modulus (bit_at letter 0) in
    let twice : 2 ^ suc (length letters) ≡ 2 ^ length letters + 2 ^ length letters =
    ap (λ k. 2 ^ k) (let one_more : suc (length letters) ≡ 1 + length letters = omega arith in one_more) ∙ pow-add 2 1 (length letters)
    ∙ omega arith in
    ap (λ k. fold (next_residue modulus) (k ∷ []) letters) step ∙ fold-residue modulus letters (2 * n + bit_at letter 0)
    ∙ ap (λ k. k % modulus ∷ []) (spread n (bit_at letter 0) (2 ^ length letters) (2 ^ suc (length letters)) (low_value letters 0) twice)

sign-below : (modulus sign : ℕ) → 0 < modulus → bit_at sign 0 * (modulus - 1) < modulus
sign-below modulus sign positive = elim (bit_cases sign 0) [
  | inl e ↦ subst (λ b. b * (modulus - 1) < modulus) (sym e) (omega arith)
  | inr e ↦ subst (λ b. b * (modulus - 1) < modulus) (sym e) (omega arith)
]

place-residue : (tracks : List Var) (modulus wanted sign : ℕ) (letters : List ℕ) → 0 < modulus
    → place_of (residue_walker tracks modulus wanted) (sign ∷ letters) ≡ read_on (bit_at sign 0 * (modulus - 1)) letters % modulus ∷ []
place-residue tracks modulus wanted sign letters positive =
    ap (λ k. fold (next_residue modulus) (k ∷ []) letters) (sym (mod-eq_of_lt {n = bit_at sign 0 * (modulus - 1)} {m = modulus} (sign-below modulus sign positive)))
    ∙ fold-residue modulus letters (bit_at sign 0 * (modulus - 1))

rem-read : (modulus sign : ℕ) (letters : List ℕ) → 0 < modulus → int_rem_euclid (val (sign ∷ letters) 0) (pos modulus) ≡ pos (read_on (bit_at sign 0 * (modulus - 1)) letters % modulus)
rem-read modulus sign letters positive =
    let more : modulus - 1 + 1 ≡ modulus = omega arith in
    let pulled : bit_at sign 0 * 2 ^ length letters * modulus ≡ bit_at sign 0 * 2 ^ length letters + bit_at sign 0 * (modulus - 1) * 2 ^ length
    letters =
    subst (λ m. bit_at sign 0 * 2 ^ length letters * m ≡ bit_at sign 0 * 2 ^ length letters + bit_at sign 0 * (modulus - 1) * 2 ^ length letters)
    more (pull (bit_at sign 0) (2 ^ length letters) (modulus - 1)) in
    int_rem_euclid_is (val (sign ∷ letters) 0) (pos modulus) modulus (bit_at sign 0 * 2 ^ length letters)
    (read_on (bit_at sign 0 * (modulus - 1)) letters) positive refl
    (settle (low_value letters 0) (bit_at sign 0 * 2 ^ length letters) (bit_at sign 0 * 2 ^ length letters * modulus)
    (bit_at sign 0 * (modulus - 1) * 2 ^ length letters) pulled)
  where
    settle : (low x y z : ℕ) → y ≡ x + z → (pos low -ℤ pos x) +ℤ pos y ≡ pos (z + low)
    settle low x y z e = omega (arith, ints, e)

same_residue : (a b : ℕ) → pos a ≡ pos b → a ≡ b
same_residue a b e = cc

-- a word is accepted just if its value leaves the residue
pub residue_words : {a : Automaton} (tracks : List Var) (var : Var) (modulus wanted : ℕ) → 0 < modulus → tracks ≡ var ∷ [] → IsWalked (residue_walker tracks modulus wanted) a
    → AcceptsWhere (var ∷ []) (ResidueHolds var modulus wanted) a
residue_words tracks var modulus wanted positive one explored [] is_word = absurd (is_word.nonempty refl)
residue_words tracks var modulus wanted positive one explored (sign ∷ letters) is_word =
    let n : ℕ = read_on (bit_at sign 0 * (modulus - 1)) letters % modulus in
    let size : length tracks ≡ 1 = ap length one in
    let accepts = explored.words (sign ∷ letters) (subst (λ k. IsWord k (sign ∷ letters)) (sym size) is_word) in
    let place : place_of (residue_walker tracks modulus wanted) (sign ∷ letters) ≡ n ∷ [] = place-residue tracks modulus wanted sign letters positive in
    let value : int_rem_euclid (word_values (var ∷ []) (sign ∷ letters) var.0) (pos modulus) ≡ pos n =
    ap (λ track. int_rem_euclid (val (sign ∷ letters) track) (pos modulus)) (alone var) ∙ rem-read modulus sign letters positive in (
      λ yes. value ∙ ap pos (nat_eq-true (sym (ap (λ p. nat_eq (get_or p 0 0) wanted) place) ∙ accepts.0 yes)),
      λ holds. accepts.1 (ap (λ p. nat_eq (get_or p 0 0) wanted) place ∙ nat_eq-same (same_residue n wanted (sym value ∙ holds))),
    )
  where
    nat_eq-true : {x y : ℕ} → nat_eq x y ≡ true → x ≡ y
    nat_eq-true {x} {y} e = grind (arith, common_steps, e)

    nat_eq-same : {x y : ℕ} → x ≡ y → nat_eq x y ≡ true
    nat_eq-same {x} {y} e = grind (arith, common_steps, e)

pub residue_integers : RepeatKeepsValues → {a : Automaton} (tracks : List Var) (var : Var) (modulus wanted : ℕ) → 0 < modulus → tracks ≡ var ∷ []
    → IsWalked (residue_walker tracks modulus wanted) a → DecidesIntegers a
residue_integers repeat {a} tracks var modulus wanted positive one explored =
    DecidesIntegers-values repeat a (var ∷ []) (λ v. int_rem_euclid (v var.0) (pos modulus) ≡ pos wanted) (explored.tracks ∙ one) (residue_words tracks var modulus wanted positive one explored)
