-- Nodes that are carried over, as nodes are added.
use Rattle.std.proofs.Common.{◌≡◌, ℕ, ◌<◌, ◌≤◌, List, Option, Bool, true, false, length, nat_eq, None, Some, arith, refl, sym, ap, ◌∙◌, subst, inl, inr, if◌then◌else◌}
use Rattle.std.specs.Int.{bit_at}
use Rattle.std.proofs.lemmas.Bool.{cases_lt}
use Rattle.letter_diagram.specs.declared.diagrams.Shape.{Shape}
use Rattle.letter_diagram.specs.declared.diagrams.Shape.TheVariants.{Leaf, Test}
use Rattle.letter_diagram.specs.Diagram.{map_at, top_track, IsDiagram, IsTest, IsAt, HasChildren, Grows}
use Rattle.letter_diagram.specs.Carried.{KeepsLetters, IsCarried, Carrier, shapes_or, source_of, Carries, CanBeCarried, RemembersCarried, Learns, side_at}
use Rattle.letter_diagram.proofs.Maps.{Grows-refl}
use Rattle.letter_diagram.proofs.Canonical.{HasChildren-at}
use Rattle.letter_diagram.proofs.Narrow.{LooksBelow-low, LooksBelow-high, LooksBelow-grows, track-below}

shapes_or-grows : (from : Option (List Shape)) {old new : List Shape} → Grows old new → Grows (shapes_or from old) (shapes_or from new)
shapes_or-grows (Some from) grows = Grows-refl from
shapes_or-grows None grows = grows

pub source-grows : (c : Carrier) {old new : List Shape} → Grows old new → Grows (source_of c old) (source_of c new)
source-grows c grows = shapes_or-grows c.from grows

pub IsCarried-grows : {from source old new : List Shape} {letters values : ℕ → ℕ} {a r : ℕ} → Grows from source → Grows old new → IsCarried from old letters values a r
    → IsCarried source new letters values a r
IsCarried-grows {letters} {values} {a} {r} from_grows grows is =
    let known = is.known in
    let source_known = is.source_known in
    let longer = grows.longer in
    let from_longer = from_grows.longer in
    let top_a = from_grows.top a is.source_known in
    let top_r = grows.top r is.known in
    record {
      known = omega (arith, known, longer);
      source_known = omega (arith, source_known, from_longer);
      map = λ letter. grows.map r letter is.known ∙ is.map letter ∙ ap values (sym (from_grows.map a (letters letter) is.source_known));
      top = λ keeps. let top = is.top keeps in omega (arith, top, top_a, top_r);
    }

pub Carries-grows : (c : Carrier) {old new : List Shape} (a r : ℕ) → Grows old new → Carries c old a r → Carries c new a r
Carries-grows c a r grows is = IsCarried-grows (source-grows c grows) grows is

pub RemembersCarried-grows : {c : Carrier} {old new : List Shape} {answers : ℕ → Option ℕ} → Grows old new → RemembersCarried c old answers → RemembersCarried c new answers
RemembersCarried-grows {c} {old} {new} grows all = record { rebuilt = λ a r at. Carries-grows c a r grows (all.rebuilt a r at) }

pub RemembersCarried-learns : {c : Carrier} {shapes : List Shape} {old new : ℕ → Option ℕ} {node made : ℕ} → Learns old new node made → Carries c shapes node made
    → RemembersCarried c shapes old → RemembersCarried c shapes new
RemembersCarried-learns {c} {shapes} {node} learns is all = record {
  rebuilt = λ a r at. elim (learns.only a r at) [
    | inl before ↦ all.rebuilt a r before
    | inr now ↦ let R : ℕ → ℕ → Type 0 = λ x y. Carries c shapes x y in subst (λ n. R n r) (sym now.0) (subst (R node) (sym now.1) is)
  ];
}

pub CanBeCarried-grows : {c : Carrier} {Can : ℕ → Type 0} {old new : List Shape} {a : ℕ} → Grows old new → CanBeCarried c Can old a → CanBeCarried c Can new a
CanBeCarried-grows {c} {Can} {old} {new} {a} grows can =
    let more = source-grows c grows in
    let known = can.known in
    let longer = more.longer in
    record {
      known = omega (arith, known, longer);
      narrow = λ few. LooksBelow-grows can.known more (can.narrow few);
      values = λ letter. subst Can (sym (more.map a letter can.known)) (can.values letter);
    }

-- a test that is carried: its sides, and the nodes that are made of them
module _ {c : Carrier} {Can : ℕ → Type 0} {shapes : List Shape} {a : ℕ} (track low high : ℕ)
    (is : IsDiagram (source_of c shapes)) (at : IsAt (source_of c shapes) a (Test track low high)) (fits : IsTest (source_of c shapes) a track low high) (can : CanBeCarried c Can shapes a) where
  children : HasChildren (source_of c shapes) a (Test track low high)
  children = HasChildren-at (source_of c shapes) is a (Test track low high) at fits

  pub CanBeCarried-low : CanBeCarried c Can shapes low
  CanBeCarried-low =
      let within = at.within in
      let before = fits.low_before in
      record {
        known = omega (arith, within, before);
        narrow = λ few. LooksBelow-low is at fits (can.narrow few);
        values = λ letter. let v = (children letter).0 in subst Can v.1 (can.values v.0);
      }

  pub CanBeCarried-high : CanBeCarried c Can shapes high
  CanBeCarried-high =
      let within = at.within in
      let before = fits.high_before in
      record {
        known = omega (arith, within, before);
        narrow = λ few. LooksBelow-high is at fits (can.narrow few);
        values = λ letter. let v = (children letter).1 in subst Can v.1 (can.values v.0);
      }

  -- the track of a test that can be carried is below the bound
  pub track-within : track < c.tracks
  track-within = elim (cases_lt c.tracks 20) [
    | inl few ↦ track-below is at fits (can.narrow few)
    | inr all ↦ let track_low = fits.track_low in omega (arith, all, track_low)
  ]

pub Carries-leaf : (c : Carrier) (shapes new : List Shape) (a r value : ℕ) → IsAt (source_of c shapes) a (Leaf value) → Grows shapes new → r < length new
    → ((letter : ℕ) → map_at new r letter ≡ c.values value) → top_track new r ≡ 20 → Carries c new a r
Carries-leaf c shapes new a r value at grows known map top =
    let more = source-grows c grows in
    let within = at.within in
    let longer = more.longer in
    let same = more.top a at.within in
    let leaf = at.top in
    record {
      known = known;
      source_known = omega (arith, within, longer);
      map = λ letter. map letter ∙ ap c.values (sym (more.map a (c.letters letter) at.within ∙ at.map (c.letters letter)));
      top = λ keeps. omega (arith, top, same, leaf);
    }

-- a value of one of two maps, carried over
values-either : (values : ℕ → ℕ) (b : Bool) (v w : ℕ) → (if b then values v else values w) ≡ values (if b then v else w)
values-either values true v w = refl
values-either values false v w = refl

pub Carries-test : (c : Carrier) (shapes mid new : List Shape) (a r track low high low' high' : ℕ) → IsAt (source_of c shapes) a (Test track low high)
    → IsTest (source_of c shapes) a track low high → Grows shapes mid → Grows mid new
    → Carries c mid low low' → Carries c mid high high' → r < length new → ((letter : ℕ) → map_at new r letter ≡ side_at c mid track low' high' letter)
    → (KeepsLetters c.letters → track ≤ top_track new r) → Carries c new a r
Carries-test c shapes mid new a r track low high low' high' at fits to_mid from_mid l h known map top =
    let before = source-grows c to_mid in
    let after = source-grows c from_mid in
    let within = at.within in
    let longer = before.longer in
    let longer' = after.longer in
    let low_before = fits.low_before in
    let high_before = fits.high_before in
    let mid_known : a < length (source_of c mid) = omega (arith, within, longer) in
    let own = after.top a mid_known in
    let own' = before.top a at.within in
    let is = at.top in
    let low_known : low < length (source_of c shapes) = omega (arith, low_before, within) in
    let high_known : high < length (source_of c shapes) = omega (arith, high_before, within) in
    let bit = λ (letter : ℕ). nat_eq (bit_at (c.letters letter) track) 0 in
    record {
      known = known;
      source_known = omega (arith, mid_known, longer');
      map = λ letter.
          map letter
          ∙ (λ i. if bit letter then l.map letter i else h.map letter i)
          ∙ values-either c.values (bit letter) (map_at (source_of c mid) low (c.letters letter)) (map_at (source_of c mid) high (c.letters letter))
          ∙ ap c.values (λ i. if bit letter then before.map low (c.letters letter) low_known i else before.map high (c.letters letter) high_known i)
          ∙ ap c.values (sym (after.map a (c.letters letter) mid_known ∙ before.map a (c.letters letter) at.within ∙ at.map (c.letters letter)));
      top = λ keeps. let t = top keeps in omega (arith, t, own, own', is);
    }
