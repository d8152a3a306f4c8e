-- Claims whose sets were reduced, place by place, are the same.
use Rattle.std.proofs.Common.{◌≡◌, ◌↔◌, ℕ, ◌≤◌, ◌&&◌, ◌==◌, if◌then◌else◌, Bool, true, false, List, [], ◌∷◌, ◌++◌, length, Option, Some, None, refl, sym, ap, ◌∙◌, subst, arith}
use Rattle.std.specs.List.{All}
use Rattle.std.proofs.lemmas.List.Elements.{All-head, All-tail}
use Rattle.limits.specs.declared.numbers.TheConstants.{MOST_STATES}
use Rattle.auto_core.specs.Automaton.{Accepts, Automaton}
use Rattle.auto_core.specs.Reduced.{IsReduced}
use Rattle.track_word.specs.Word.{IsWord}
use Rattle.track_word.specs.declared.tracks.Var.{Var}
use Rattle.mate_plan.specs.Claim.{ClaimedSet, claimed_in}
use Rattle.set_plan.proofs.Composition.{none_some}
use Rattle.mate_plan.specs.SameClaim.{AreSameSets}
use Rattle.claim_check.specs.Reduced.{AreReduced, IsReducedOf}

-- automata with equal tables accept the same words
abbrev with_tables : List Var → List ℕ → List ℕ → List Bool → Automaton
with_tables tracks first next accept =
    record { tracks = tracks; first = first; next = next; accept = accept; shapes = []; first_node = 0; row_nodes = [] }

pub accepts_alike : (a b : Automaton) (word : List ℕ) → a.tracks ≡ b.tracks → a.first ≡ b.first → a.next ≡ b.next → a.accept ≡ b.accept → Accepts a word → Accepts b word
accepts_alike a b word tracks first next accept h =
    let One : List Var → Type 0 = λ ts. Accepts (with_tables ts a.first a.next a.accept) word in
    let Two : List ℕ → Type 0 = λ fs. Accepts (with_tables b.tracks fs a.next a.accept) word in
    let Three : List ℕ → Type 0 = λ ns. Accepts (with_tables b.tracks b.first ns a.accept) word in
    let Four : List Bool → Type 0 = λ flags. Accepts (with_tables b.tracks b.first b.next flags) word in
    back b word (subst Four accept (subst Three next (subst Two first (subst One tracks (there a word h)))))
  where
    there : (a : Automaton) (word : List ℕ) → Accepts a word → Accepts (with_tables a.tracks a.first a.next a.accept) word
    there a [] h = h
    there a (sign ∷ letters) h = h

    back : (a : Automaton) (word : List ℕ) → Accepts (with_tables a.tracks a.first a.next a.accept) word → Accepts a word
    back a [] h = h
    back a (sign ∷ letters) h = h

pub reduced_of : (a b : Automaton) {m : Automaton} → b.tracks ≡ a.tracks → b.first ≡ a.first → b.next ≡ a.next → b.accept ≡ a.accept
    → m.tracks ≡ b.tracks → ((word : List ℕ) → IsWord (length b.tracks) word → Accepts m word ↔ Accepts b word)
    → IsReduced m → length m.accept ≤ length b.accept → IsReducedOf a m
reduced_of a b {m} tracks first next accept over words reduced fewer =
    let Long : List Bool → Type 0 = λ flags. length m.accept ≤ length flags in
    let Word : List Var → List ℕ → Type 0 = λ ts word. IsWord (length ts) word in
    record {
      same = record {
        tracks = sym (over ∙ tracks);
        words = record {
          same = λ word is.
              let both = words word (subst (λ (ts : List Var). Word ts word) (sym tracks) is) in (
                λ h. both.1 (accepts_alike a b word (sym tracks) (sym first) (sym next) (sym accept) h),
                λ h. accepts_alike b a word tracks first next accept (both.0 h),
              );
        };
      };
      reduced = reduced;
      fewer = subst Long accept fewer;
    }

-- what is looked up on both sides
abbrev Both : Option Automaton → Option Automaton → Type 0
Both None None = Unit {0}
Both None (Some b) = ⊥
Both (Some a) None = ⊥
Both (Some a) (Some b) = IsReducedOf a b

both_by : (s t : Bool) (a b : Automaton) (o u : Option Automaton) → s ≡ t → IsReducedOf a b → Both o u → Both (if s then Some a else o) (if t then Some b else u)
both_by true true a b o u e r h = r
both_by true false a b o u e r h = absurd (cc)
both_by false true a b o u e r h = absurd (cc)
both_by false false a b o u e r h = h

looked_up : (cs ds : List ClaimedSet) (ply mask : ℕ) → AreReduced cs ds → Both (claimed_in cs ply mask) (claimed_in ds ply mask)
looked_up [] [] ply mask h = tt
looked_up [] (d ∷ ds) ply mask h = absurd h
looked_up (c ∷ cs) [] ply mask h = absurd h
looked_up (c ∷ cs) (d ∷ ds) ply mask (r, rest) =
    both_by ((c.ply == ply) && (c.mask == mask)) ((d.ply == ply) && (d.mask == mask)) c.set d.set (claimed_in cs ply mask) (claimed_in ds ply mask)
    (ap (λ (n : ℕ). (n == ply) && (c.mask == mask)) r.ply ∙ ap (λ (n : ℕ). (d.ply == ply) && (n == mask)) r.mask)
    r.set (looked_up cs ds ply mask rest)

same_sets : (o u : Option Automaton) → Both o u → AreSameSets o u
same_sets None None h = tt
same_sets None (Some b) h = h
same_sets (Some a) None h = h
same_sets (Some a) (Some b) h = h.same

from_some : (o u : Option Automaton) (b : Automaton) → Both o u → u ≡ Some b → (a : Automaton) × (o ≡ Some a) × IsReducedOf a b
from_some o None b h e = none_some (sym e)
from_some None (Some v) b h e = absurd h
from_some (Some a) (Some v) b h e =
    let is : v ≡ b = cc in
    (a, refl, subst (IsReducedOf a) is h)

-- what holds of each claimed set holds of one that is looked up
one_of : (P : ClaimedSet → Type 0) (cs : List ClaimedSet) (ply mask : ℕ) (a : Automaton) → All P cs → claimed_in cs ply mask ≡ Some a → (s : ClaimedSet) × P s × (s.set ≡ a)
one_of P [] ply mask a h e = none_some (sym e)
one_of P (c ∷ cs) ply mask a h e = by ((c.ply == ply) && (c.mask == mask)) e (λ k. one_of P cs ply mask a (All-tail P c cs h) k)
  where
    by : (t : Bool) → (if t then Some c.set else claimed_in cs ply mask) ≡ Some a
        → (claimed_in cs ply mask ≡ Some a → (s : ClaimedSet) × P s × (s.set ≡ a))
        → (s : ClaimedSet) × P s × (s.set ≡ a)
    by true is later = (c, All-head P c cs h, cc)
    by false is later = later is

module _ (cs ds : List ClaimedSet) (are : AreReduced cs ds) where
  pub reduced_same : (ply mask : ℕ) → AreSameSets (claimed_in cs ply mask) (claimed_in ds ply mask)
  reduced_same ply mask = same_sets (claimed_in cs ply mask) (claimed_in ds ply mask) (looked_up cs ds ply mask are)

  pub reduced_are : (ply mask : ℕ) (b : Automaton) → claimed_in ds ply mask ≡ Some b → IsReduced b
  reduced_are ply mask b e = (from_some (claimed_in cs ply mask) (claimed_in ds ply mask) b (looked_up cs ds ply mask are) e).2.reduced

  pub reduced_few : (P : ClaimedSet → Type 0) → ((s : ClaimedSet) → P s → length s.set.accept ≤ MOST_STATES) → All P cs → (ply mask : ℕ) (b : Automaton)
      → claimed_in ds ply mask ≡ Some b → length b.accept ≤ MOST_STATES
  reduced_few P few all ply mask b e =
      let (a, there, is) = from_some (claimed_in cs ply mask) (claimed_in ds ply mask) b (looked_up cs ds ply mask are) e in
      let (s, known, same) = one_of P cs ply mask a all there in
      let most : length s.set.accept ≤ MOST_STATES = few s known in
      let At : Automaton → Type 0 = λ x. length x.accept ≤ MOST_STATES in
      let here : length a.accept ≤ MOST_STATES = subst At same most in
      let fewer = is.fewer in
      omega (arith, here, fewer)

-- lists one behind the other
pub reduced_append : (ls bs cs ds : List ClaimedSet) → AreReduced ls bs → AreReduced cs ds → AreReduced (ls ++ cs) (bs ++ ds)
reduced_append [] [] cs ds h k = k
reduced_append [] (b ∷ bs) cs ds h k = absurd h
reduced_append (a ∷ ls) [] cs ds h k = absurd h
reduced_append (a ∷ ls) (b ∷ bs) cs ds (r, h) k = (r, reduced_append ls bs cs ds h k)
