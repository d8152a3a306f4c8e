-- The places of the walk over sets of states, what it accepts, and how many words it tells apart.
use Rattle.std.proofs.Common.{◌≡◌, ◌≢◌, ◌↔◌, ℕ, ◌<◌, ◌^◌, List, [], ◌∷◌, length, Contains, arith, refl, sym, ap, ◌∙◌, subst}
use Rattle.std.specs.Prelude.{Result, IfOk, OnOk}
use Rattle.std.specs.List.{fold, list_any}
use Rattle.std.specs.List.Sorted.{IsStrictlyIncreasing}
use Rattle.std.proofs.lemmas.Result.{IfOk-weaker, on_ok_weaker}
use Rattle.std.proofs.lemmas.List.Elements.{All-get_or, All-head, All-tail}
use Rattle.track_word.specs.declared.tracks.Var.{Var}
use Rattle.track_word.specs.Word.{IsWord}
use Rattle.track_word.specs.Tracks.{without_var}
use Rattle.letter_diagram.specs.declared.diagrams.Shape.{Shape}
use Rattle.letter_diagram.specs.Diagram.{map_at, Grows}
use Rattle.letter_diagram.specs.Sets.{set_at, SetsKept}
use Rattle.letter_diagram.proofs.SetNumbers.{set_at-kept}
use Rattle.auto_core.specs.Automaton.{Automaton, state_of, is_final, Accepts}
use Rattle.auto_core.specs.Reduced.{IsReduced}
use Rattle.auto_core.specs.Spread.{IsLift, LiftsInto, AlikeLifted, ExSpreadExceeds}
use Rattle.auto_walk.specs.Walker.{Walker, place_of, MoreThan, IsWalked}
use Rattle.auto_core.proofs.States.{same_state, same_residual}
use Rattle.auto_project.specs.Lifted.{LiftLeads, MoreSets, AcceptsLifted}
use Rattle.auto_project.specs.Subsets.{next_set, set_walker}
use Rattle.auto_project.specs.SetMaps.{set_of, HasClosedRows}
use Rattle.auto_project.proofs.Lists.{same_sets}
use Rattle.auto_project.proofs.Lifts.{any-from, any-to, steps-next, lift_from, lift_to, increasing-next}

-- sets of nodes that are known stay
pub set_of-kept : {shapes more : List Shape} {sets sets' : List (List ℕ)} (node letter : ℕ) → Grows shapes more → SetsKept sets sets' → node < length shapes
    → map_at shapes node letter < length sets → set_of more sets' node letter ≡ set_of shapes sets node letter
set_of-kept {shapes} {sets'} node letter grows kept known numbered = ap (set_at sets') (grows.map node letter known) ∙ set_at-kept (map_at shapes node letter) kept numbered

-- the walk stays where more nodes and sets are known
pub walker-kept : (a : Automaton) (some : List Var) {shapes more : List Shape} {sets sets' : List (List ℕ)} (first : ℕ) → Grows shapes more → SetsKept sets sets'
    → first < length shapes → ((letter : ℕ) → map_at shapes first letter < length sets)
    → set_walker a some more sets' first ≡ set_walker a some shapes sets first
walker-kept a some first grows kept known numbered = λ i. record {
  tracks = some;
  first = λ sign. set_of-kept first sign grows kept known (numbered sign) i;
  next = next_set a some;
  final = list_any (is_final a);
}

module _ (a : Automaton) (x : Var) (shapes : List Shape) (sets : List (List ℕ)) (first : ℕ) (rows : List ℕ) (closed : HasClosedRows shapes sets a (without_var x a.tracks) first rows) where
  -- a word leads to the set of the states to which its lifts lead
  pub place-lifts : {word : List ℕ} (t : ℕ) → IsWord (length (without_var x a.tracks)) word
      → Contains (place_of (set_walker a (without_var x a.tracks) shapes sets first) word) t ↔ LiftLeads a (without_var x a.tracks) word t
  place-lifts {word = []} t is = absurd (is.nonempty refl)
  place-lifts {word = sign ∷ letters} t is =
      let small = All-head (λ l. l < 2 ^ length (without_var x a.tracks)) sign letters is.letters in
      let later = All-tail (λ l. l < 2 ^ length (without_var x a.tracks)) sign letters is.letters in
      let members = λ (s : ℕ). closed.first_row.members sign s small in (
        lift_from a (without_var x a.tracks) (next_set a (without_var x a.tracks)) (steps-next a x closed.valid) sign letters (set_of shapes sets first sign) t (λ s. (members s).0) later,
        lift_to a (without_var x a.tracks) (next_set a (without_var x a.tracks)) (steps-next a x closed.valid) sign letters (set_of shapes sets first sign) t (λ s. (members s).1),
      )

  fold-increasing : (letters set : List ℕ) → IsStrictlyIncreasing set → IsStrictlyIncreasing (fold (next_set a (without_var x a.tracks)) set letters)
  fold-increasing [] set up = up
  fold-increasing (letter ∷ letters) set up = fold-increasing letters (next_set a (without_var x a.tracks) set letter) (increasing-next a x closed.valid set letter)

  place-increasing : (word : List ℕ) → word ≢ [] → IsStrictlyIncreasing (place_of (set_walker a (without_var x a.tracks) shapes sets first) word)
  place-increasing [] nonempty = absurd (nonempty refl)
  place-increasing (sign ∷ letters) nonempty =
      fold-increasing letters (set_of shapes sets first sign)
      (All-get_or IsStrictlyIncreasing sets (map_at shapes first sign) [] (closed.first_row.is.numbered sign) closed.ascend)

  pub accepts-lifts : {m : Automaton} → IsWalked (set_walker a (without_var x a.tracks) shapes sets first) m → (word : List ℕ) → IsWord (length m.tracks) word
      → Accepts m word ↔ ((lift : List ℕ) × IsLift m.tracks a.tracks word lift × Accepts a lift)
  accepts-lifts {m} explored word is =
      subst (λ tracks. Accepts m word ↔ ((lift : List ℕ) × IsLift tracks a.tracks word lift × Accepts a lift)) (sym explored.tracks) (to, from)
    where
      here : IsWord (length (without_var x a.tracks)) word
      here = subst (λ tracks. IsWord (length tracks) word) explored.tracks is

      to : Accepts m word → (lift : List ℕ) × IsLift (without_var x a.tracks) a.tracks word lift × Accepts a lift
      to accepted =
          let one = any-from (is_final a) (place_of (set_walker a (without_var x a.tracks) shapes sets first) word) ((explored.words word here).0 accepted) in
          let l = (place-lifts one.0 here).0 one.1 in
          (l.lift, l.is, ap (is_final a) l.leads ∙ one.2)

      from : ((lift : List ℕ) × IsLift (without_var x a.tracks) a.tracks word lift × Accepts a lift) → Accepts m word
      from (lift, l, accepted) =
          let c = (place-lifts (state_of a lift) here).1 (record { lift = lift; is = l; leads = refl }) in
          (explored.words word here).1 (any-to (is_final a) (place_of (set_walker a (without_var x a.tracks) shapes sets first) word) (state_of a lift) c accepted)

  -- words that lead to one set are alike, whatever the automaton
  into_other : {v w : List ℕ} → IsWord (length (without_var x a.tracks)) v → IsWord (length (without_var x a.tracks)) w
      → place_of (set_walker a (without_var x a.tracks) shapes sets first) v ≡ place_of (set_walker a (without_var x a.tracks) shapes sets first) w
      → LiftsInto (without_var x a.tracks) a.tracks (Accepts a) v w
  into_other is_v is_w e lift is =
      let c = (place-lifts (state_of a lift) is_v).1 (record { lift = lift; is = is; leads = refl }) in
      let l = (place-lifts (state_of a lift) is_w).0 (subst (λ p. Contains p (state_of a lift)) e c) in
      (l.lift, l.is, same_residual a lift l.lift is.is_word.nonempty l.is.is_word.nonempty (sym l.leads))

  pub MoreThan-from_spread : (budget : ℕ) → ExSpreadExceeds x a.tracks (Accepts a) budget → MoreThan (set_walker a (without_var x a.tracks) shapes sets first) budget
  MoreThan-from_spread budget more = record {
    words = more.words;
    count = more.count;
    are_words = more.are_words;
    apart = λ i j d less within e.
        let v = more.are_words i d (omega arith) in
        let w = more.are_words j d within in
        more.apart i j d less within (record { forth = into_other v w e; back = into_other w v (sym e) });
  }

  -- what was made by a walk that is this one
  module _ {E : Type 0} (w : Walker) (same : w ≡ set_walker a (without_var x a.tracks) shapes sets first) (r : Result Automaton E) where
    pub tracks-if : IfOk r (IsWalked w) → IfOk r (λ m. m.tracks ≡ without_var x a.tracks)
    tracks-if = IfOk-weaker r (IsWalked w) (λ m. m.tracks ≡ without_var x a.tracks) (λ m explored. (subst (λ v. IsWalked v m) same explored).tracks)

    pub words-if : IfOk r (IsWalked w) → IfOk r (AcceptsLifted a)
    words-if = IfOk-weaker r (IsWalked w) (AcceptsLifted a) (λ m explored. accepts-lifts (subst (λ v. IsWalked v m) same explored))

    pub within-if : (budget : ℕ) → OnOk r (MoreThan w budget → ⊥) → OnOk r (ExSpreadExceeds x a.tracks (Accepts a) budget → ⊥)
    within-if budget = on_ok_weaker r (λ few spread. few (subst (λ v. MoreThan v budget) (sym same) (MoreThan-from_spread budget spread)))

  -- words whose lifts lead to the same states lead to one set
  same_lifts : {v w : List ℕ} → IsWord (length (without_var x a.tracks)) v → IsWord (length (without_var x a.tracks)) w
      → ((t : ℕ) → LiftLeads a (without_var x a.tracks) v t ↔ LiftLeads a (without_var x a.tracks) w t)
      → place_of (set_walker a (without_var x a.tracks) shapes sets first) v ≡ place_of (set_walker a (without_var x a.tracks) shapes sets first) w
  same_lifts {v} {w} is_v is_w alike =
      same_sets _ _ (place-increasing v is_v.nonempty) (place-increasing w is_w.nonempty)
      (λ t c. (place-lifts t is_w).1 ((alike t).0 ((place-lifts t is_v).0 c)))
      (λ t c. (place-lifts t is_v).1 ((alike t).1 ((place-lifts t is_w).0 c)))

  pub many-from : {w : Walker} → w ≡ set_walker a (without_var x a.tracks) shapes sets first → {budget : ℕ} → MoreThan w budget
      → MoreSets a (without_var x a.tracks) budget
  many-from same {budget} more = apart_sets (subst (λ v. MoreThan v budget) same more)
    where
      apart_sets : MoreThan (set_walker a (without_var x a.tracks) shapes sets first) budget → MoreSets a (without_var x a.tracks) budget
      apart_sets sets_apart = record {
        words = sets_apart.words;
        count = sets_apart.count;
        are_words = sets_apart.are_words;
        apart = λ i j d less within alike.
            sets_apart.apart i j d less within
            (same_lifts (sets_apart.are_words i d (omega arith)) (sets_apart.are_words j d within) alike);
      }

  -- words that are alike in a reduced automaton lead to one set
  module _ (reduced : IsReduced a) where
    within_place : {v w : List ℕ} → IsWord (length (without_var x a.tracks)) v → IsWord (length (without_var x a.tracks)) w → LiftsInto (without_var x a.tracks) a.tracks (Accepts a) v w
        → (t : ℕ) → Contains (place_of (set_walker a (without_var x a.tracks) shapes sets first) v) t → Contains (place_of (set_walker a (without_var x a.tracks) shapes sets first) w) t
    within_place is_v is_w into t c =
        let l = (place-lifts t is_v).0 c in
        let other = into l.lift l.is in
        let same = same_state closed.valid reduced l.is.is_word.nonempty other.1.is_word.nonempty other.2 in
        (place-lifts t is_w).1 (record { lift = other.0; is = other.1; leads = sym same ∙ l.leads })

    same_place : {v w : List ℕ} → IsWord (length (without_var x a.tracks)) v → IsWord (length (without_var x a.tracks)) w → AlikeLifted (without_var x a.tracks) a.tracks (Accepts a) v w
        → place_of (set_walker a (without_var x a.tracks) shapes sets first) v ≡ place_of (set_walker a (without_var x a.tracks) shapes sets first) w
    same_place {v} {w} is_v is_w alike =
        same_sets _ _ (place-increasing v is_v.nonempty) (place-increasing w is_w.nonempty) (within_place is_v is_w alike.forth) (within_place is_w is_v alike.back)

    pub ExSpreadExceeds-from : {budget : ℕ} → MoreThan (set_walker a (without_var x a.tracks) shapes sets first) budget → ExSpreadExceeds x a.tracks (Accepts a) budget
    ExSpreadExceeds-from more = record {
      words = more.words;
      count = more.count;
      are_words = more.are_words;
      apart = λ i j d less within alike.
          more.apart i j d less within (same_place (more.are_words i d (omega arith)) (more.are_words j d within) alike);
    }

    pub over-from : {w : Walker} → w ≡ set_walker a (without_var x a.tracks) shapes sets first → {budget : ℕ} → MoreThan w budget → ExSpreadExceeds x a.tracks (Accepts a) budget
    over-from same {budget} more = ExSpreadExceeds-from (subst (λ v. MoreThan v budget) same more)

pub walker-at : (a b : Automaton) (tracks some : List Var) (shapes : List Shape) (sets : List (List ℕ)) (first : ℕ) → a ≡ b → tracks ≡ some
    → set_walker a tracks shapes sets first ≡ set_walker b some shapes sets first
walker-at a b tracks some shapes sets first same same_tracks = λ i. set_walker (same i) (same_tracks i) shapes sets first
