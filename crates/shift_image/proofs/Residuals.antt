-- Words of one colour whose parts a formula says alike, and what is said alike of them.
use Rattle.std.proofs.Common.{◌≡◌, ◌≢◌, ℕ, ◌+◌, ◌*◌, ◌^◌, ◌<◌, List, [], ◌∷◌, ◌++◌, length, All}
use Rattle.std.proofs.Common.{arith, refl, sym, ap, subst, inl, inr}
use Rattle.std.proofs.lemmas.List.Elements.{All-map, All-weaker}
use Rattle.track_word.specs.declared.tracks.Var.{Var}
use Rattle.track_word.specs.Tracks.{restrict, part_of, word_values}
use Rattle.auto_core.proofs.Restricted.{restrict-below}
use Rattle.lin_formula.specs.Tree.{Tree, free_vars}
use Rattle.lin_formula.specs.Free.{IsOneOf}
use Rattle.lin_formula.specs.Holds.{Sets}
use Rattle.formula_auto.specs.Step.{Says}
use Rattle.formula_auto.proofs.Values.{bit_at-restrict}
use Rattle.formula_auto.proofs.Parts.{Holds-part}
use Rattle.shift_image.specs.Equations.{Equation, AreSolved, colours, colour}
use Rattle.shift_image.specs.Factored.{IsFactored}
use Rattle.shift_image.specs.States.{SaysAlike}
use Rattle.shift_image.proofs.Equations.{way-below, way-same}

-- a part of a part is a part
restrict-restrict : (all some few : List Var) (letter : ℕ) → ((x : Var) → IsOneOf x few → IsOneOf x some)
    → restrict some few (restrict all some letter) ≡ restrict all few letter
restrict-restrict all some [] letter among = refl
restrict-restrict all some (x ∷ few) letter among =
    let here = bit_at-restrict all some x letter (among x (inl refl)) in
    let rest = restrict-restrict all some few letter (λ y h. among y (inr h)) in
    λ i. here i + 2 * rest i

pub part-part : (all some few : List Var) (word : List ℕ) → ((x : Var) → IsOneOf x few → IsOneOf x some)
    → part_of some few (part_of all some word) ≡ part_of all few word
part-part all some few [] among = refl
part-part all some few (l ∷ word) among =
    λ i. restrict-restrict all some few l among i ∷ part-part all some few word among i

pub part-append : (all some : List Var) (v w : List ℕ)
    → part_of all some (v ++ w) ≡ part_of all some v ++ part_of all some w
part-append all some [] w = refl
part-append all some (x ∷ v) w = ap (λ l. restrict all some x ∷ l) (part-append all some v w)

pub letters-part : (all some : List Var) (letters : List ℕ) → All (λ l. l < 2 ^ length all) letters
    → All (λ l. l < 2 ^ length some) (part_of all some letters)
letters-part all some letters h =
    let below = λ (l : ℕ) (_ : l < 2 ^ length all). restrict-below all some l in
    All-map (λ l. l < 2 ^ length some) (restrict all some) letters
    (All-weaker (λ l. l < 2 ^ length all) (λ l. restrict all some l < 2 ^ length some) below letters h)

pub SaysAlike-sym : (f : Tree) (e : Sets) (v w : List ℕ) → SaysAlike f e v w → SaysAlike f e w v
SaysAlike-sym f e v w h = record { same = λ letters all. let s = h.same letters all in (s.1, s.0) }

pub SaysAlike-trans : (f : Tree) (e : Sets) (u v w : List ℕ) → SaysAlike f e u v → SaysAlike f e v w
    → SaysAlike f e u w
SaysAlike-trans f e u v w a b = record {
  same = λ letters all.
      let s = a.same letters all in
      let t = b.same letters all in
      (λ h. t.0 (s.0 h), λ h. s.1 (t.1 h));
}

pub colour-below : (all : List Var) (qs : List Equation) (w : List ℕ) → colour all qs w < colours qs
colour-below all [] w = omega arith
colour-below all (q ∷ qs) w = let h = way-below all (q ∷ qs) w in omega (arith, h)

pub colour-same : (all : List Var) (qs : List Equation) (v w letters : List ℕ) → v ≢ [] → w ≢ []
    → colour all qs v ≡ colour all qs w → AreSolved qs (word_values all (v ++ letters))
    → AreSolved qs (word_values all (w ++ letters))
colour-same all [] v w letters v_some w_some e h = tt
colour-same all (q ∷ qs) v w letters v_some w_some e h = way-same all (q ∷ qs) v w letters v_some w_some e h

module _ (whole part : Tree) (qs : List Equation) (e : Sets) (is : IsFactored whole part qs e) where
  abbrev on_part : List ℕ → List ℕ
  on_part w = part_of (free_vars whole) (free_vars part) w

  says-on : (v w letters : List ℕ) → v ≢ [] → w ≢ [] → All (λ l. l < 2 ^ length (free_vars whole)) letters
      → colour (free_vars whole) qs v ≡ colour (free_vars whole) qs w → SaysAlike part e (on_part v) (on_part w)
      → Says whole e (v ++ letters) → Says whole e (w ++ letters)
  says-on v w letters v_some w_some all same alike says =
      let both = (is.holds (word_values (free_vars whole) (v ++ letters))).0 says in
      let there = (Holds-part part e (free_vars whole) (v ++ letters)).0 both.0 in
      let split = subst (Says part e) (part-append (free_vars whole) (free_vars part) v letters) there in
      let few = letters-part (free_vars whole) (free_vars part) letters all in
      let moved = (alike.same (on_part letters) few).0 split in
      let joined = subst (Says part e) (sym (part-append (free_vars whole) (free_vars part) w letters)) moved in
      let back = (Holds-part part e (free_vars whole) (w ++ letters)).1 joined in
      let solved = colour-same (free_vars whole) qs v w letters v_some w_some same both.1 in
      (is.holds (word_values (free_vars whole) (w ++ letters))).1 (back, solved)

  -- words of one colour whose parts are alike are alike
  pub alike-factored : (v w : List ℕ) → v ≢ [] → w ≢ []
      → colour (free_vars whole) qs v ≡ colour (free_vars whole) qs w → SaysAlike part e (on_part v) (on_part w)
      → SaysAlike whole e v w
  alike-factored v w v_some w_some same alike = record {
    same = λ letters all. (
      says-on v w letters v_some w_some all same alike,
      says-on w v letters w_some v_some all (sym same) (SaysAlike-sym part e _ _ alike),
    );
  }
