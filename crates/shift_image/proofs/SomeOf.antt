-- Formulas that are left out at once, where their automata have few tuples of states.
use Rattle.std.proofs.Common.{◌≡◌, ℕ, ◌*◌, ◌<◌, ◌≤◌, ◌^◌, List, [], ◌∷◌, length, map, All, not, IsTrue, Result, Ok, Err, IfOk, refl, sym, ap, ◌∙◌, subst, inl, inr, arith}
use Rattle.std.proofs.lemmas.List.{length-map}
use Rattle.std.proofs.lemmas.List.Elements.{All-head, All-tail}
use Rattle.limits.specs.declared.numbers.TheConstants.{MOST_TRACKS}
use Rattle.track_word.specs.declared.tracks.Var.{Var}
use Rattle.track_word.specs.Tracks.{with_vars, IsAscending}
use Rattle.auto_core.specs.Automaton.{Automaton, IsAutomaton, Accepts}
use Rattle.auto_bool.proofs.Complements.{HasRowsOf, Accepts-turned}
use Rattle.auto_bool.proofs.Spreads.{few_pairs}
use Rattle.auto_bool.specs.declared.connective.Connective.TheVariants.{Or, AndNot}
use Rattle.auto_bool.specs.Words.{AcceptsBy}
use Rattle.lin_formula.specs.Tree as tree
use Rattle.lin_formula.specs.Tree.{Tree, Not, And, free_vars}
use Rattle.lin_formula.specs.Free.{IsOneOf}
use Rattle.lin_formula.specs.SetOf.{SetOf, members}
use Rattle.lin_formula.proofs.FreeVars.{one_of-with_vars}
use Rattle.formula_auto.specs.Decides.{Decides}
use Rattle.formula_auto.specs.Saying.{SaysTheSame}
use Rattle.formula_auto.specs.Compiled.{IsAccessible}
use Rattle.formula_auto.proofs.Exceedings.{Exceeds-connect}
use Rattle.formula_auto.proofs.Operands.{decides-by}
use Rattle.formula_auto.proofs.PairAutomata.{pairs, pairs-size, pairs-valid, pairs-decide}
use Rattle.formula_auto.proofs.Parts.{Decides-Not}
use Rattle.formula_auto.proofs.Projections.{apart-free}
use Rattle.formula_auto.proofs.Rooms.{length-among}
use Rattle.formula_auto.proofs.Sayings.{decides-says, and-from_right, says-again, says-itself}
use Rattle.shift_image.specs.Image.{and_all, IsAbout}
use Rattle.shift_image.specs.Laws.{AreClearWithin}
use Rattle.shift_image.specs.LeftOut.{IsDifference, AreLeftOf, AreLeftByTurns, some_of, DecidesSome, AreFew, IsAnswer, MayBeAsked, MayAllBeAsked}
use Rattle.shift_image.proofs.Lefts.{same_tracks}
use Rattle.shift_image.proofs.Results.{decides-all, clear-within}

-- what is said of a result by two clauses
pub ok-both : {X E : Type 0} (P Q R : X → Type 0) (r : Result X E) → ((x : X) → P x → Q x → R x) → IfOk r P → IfOk r Q → IfOk r R
ok-both P Q R (Ok x) h p q = h x p q
ok-both P Q R (Err why) h p q = tt

-- none of two is neither
not-either : (f g h : Tree) → SaysTheSame (And (And f (Not g)) (Not h)) (And f (Not (tree.Or g h)))
not-either f g h = record {
  vars = (and-from_right f (Not g) (Not h)).vars;
  holds = λ e v. (
    λ k. (k.0.0, λ one. elim one [ inl l ↦ k.0.1 l | inr r ↦ k.1 r ]),
    λ k. ((k.0, λ l. k.1 (inl l)), λ r. k.1 (inr r)),
  );
}

-- that none of the formulas holds is that not some of them does
pub none-some : (f g : Tree) (gs : List Tree) → SaysTheSame (and_all f (map Not (g ∷ gs))) (And f (Not (some_of g gs)))
none-some f g [] = says-itself (And f (Not g))
none-some f g (h ∷ hs) = says-again (none-some (And f (Not g)) h hs) (not-either f g (some_of h hs))

-- the automaton with each flag turned
abbrev turned : Automaton → Automaton
turned m = record m { accept = map not m.accept }

turned-valid : {m : Automaton} → IsAutomaton m → IsAutomaton (turned m)
turned-valid {m} is =
    let size : length (map not m.accept) ≡ length m.accept = length-map m.accept not in
    record {
      ascending = is.ascending;
      few_tracks = is.few_tracks;
      some_state = omega (arith, size, is.some_state);
      few_states = omega (arith, size, is.few_states);
      first_size = is.first_size;
      next_size = is.next_size ∙ ap (λ n. n * 2 ^ length m.tracks) (sym size);
      first_within = subst (λ n. All (λ state. state < n) m.first) (sym size) is.first_within;
      next_within = subst (λ n. All (λ state. state < n) m.next) (sym size) is.next_within;
    }

turned-decides : (e : ℕ → SetOf) {m : Automaton} {g : Tree} → IsAutomaton m → Decides m g (members e) → Decides (turned m) (Not g) (members e)
turned-decides e {m} is decides =
    let rows : HasRowsOf m (turned m) = record { tracks = refl; first = refl; next = refl; accept = refl } in
    Decides-Not (turned m) decides refl (λ word _. Accepts-turned m (turned m) rows is word)

-- an automaton over these tracks, with so many states, that decides a formula
record IsDecidedOver (tracks : List Var) (f : Tree) (e : ℕ → SetOf) (states : ℕ) : Type 0 where
  auto : Automaton
  valid : IsAutomaton auto
  same : auto.tracks ≡ tracks
  size : length auto.accept ≡ states
  decides : Decides auto f (members e)

module _ (e : ℕ → SetOf) where
  decided-self : {f : Tree} {a : Automaton} → IsAutomaton a → Decides a f (members e) → IsDecidedOver a.tracks f e (length a.accept)
  decided-self {a = a} valid decides = record { auto = a; valid = valid; same = refl; size = refl; decides = decides }

  -- of all pairs of states with those of an automaton for another formula about the tracks
  decided-more : {tracks : List Var} {f g : Tree} {states : ℕ} {m : Automaton} → IsDecidedOver tracks f e states → IsAutomaton m → Decides m g (members e)
      → IsAbout tracks g → states * length m.accept < 2 ^ 31 → IsDecidedOver tracks (And f (Not g)) e (states * length m.accept)
  decided-more {tracks} {f} {g} {states} {m} d valid decides about few =
      let other = turned-valid valid in
      let other_size : length (map not m.accept) ≡ length m.accept = length-map m.accept not in
      let up = subst IsAscending d.same d.valid.ascending in
      let over : with_vars d.auto.tracks m.tracks ≡ tracks =
      (λ i. with_vars (d.same i) (decides.tracks i)) ∙ same_tracks tracks g up about in
      let count : length d.auto.accept * length (map not m.accept) ≡ states * length m.accept = (λ i. d.size i * other_size i) in
      let fit : length (with_vars d.auto.tracks m.tracks) ≤ MOST_TRACKS =
      subst (λ t. length t ≤ MOST_TRACKS) (d.same ∙ sym over) d.valid.few_tracks in
      record {
        auto = pairs d.auto (turned m) d.valid other;
        valid = pairs-valid d.auto (turned m) d.valid other (subst (λ n. n < 2 ^ 31) (sym count) few) fit;
        same = over;
        size = pairs-size d.auto (turned m) d.valid other ∙ count;
        decides = pairs-decide d.auto (turned m) d.valid other f (Not g) e d.decides (turned-decides e valid decides);
      }

  -- no step that leaves formulas out, one after the other, has to tell apart more words than there are tuples of states
  few-clear : (budget most each : ℕ) {tracks : List Var} (gs : List Tree) {f : Tree} {states : ℕ} → most ≤ each → most < 2 ^ 31
      → All (IsAbout tracks) gs → IsDecidedOver tracks f e states → AreFew e budget most gs states → AreClearWithin f gs e budget each
  few-clear budget most each [] enough small about d few = tt
  few-clear budget most each {tracks} (g ∷ gs) {f} {states} enough small about d (m, answer, room, rest) =
      let here = All-head (IsAbout tracks) g gs about in
      let all : length d.auto.accept * length m.accept ≤ each = subst (λ n. n * length m.accept ≤ each) (sym d.size) (omega (arith, room, enough)) in
      let next = decided-more d answer.valid answer.decides here (omega (arith, room, small)) in (
        answer.within,
        λ over. few_pairs d.auto m d.valid answer.valid each all ((Exceeds-connect (members e) f g d.auto m each d.decides answer.decides AndNot).1 over),
        few-clear budget most each gs enough small (All-tail (IsAbout tracks) g gs about) next rest,
      )

-- with one formula more before them
pub few-more : (e : ℕ → SetOf) (budget most : ℕ) {m : Automaton} (g : Tree) (gs : List Tree) (count : ℕ) {states tuples : ℕ} → IsAnswer e budget g m
    → tuples ≡ count * states → states ≡ length m.accept → tuples ≤ most → AreFew e budget most gs tuples → AreFew e budget most (g ∷ gs) count
few-more e budget most {m} g gs count answer product size few rest =
    let same = product ∙ ap (λ n. count * n) size in
    (m, answer, subst (λ n. n ≤ most) same few, subst (AreFew e budget most gs) same rest)

-- what some of the formulas are about
some-about : (vars : List Var) (g : Tree) (gs : List Tree) → All (IsAbout vars) (g ∷ gs) → IsAbout vars (some_of g gs)
some-about vars g [] about = All-head (IsAbout vars) g [] about
some-about vars g (h ∷ hs) about = λ x one. elim ((one_of-with_vars x (free_vars g) (free_vars (some_of h hs))).0 one) [
  | inl l ↦ All-head (IsAbout vars) g (h ∷ hs) about x l
  | inr r ↦ some-about vars h hs (All-tail (IsAbout vars) g (h ∷ hs) about) x r
]

abouts : {sets : List Automaton} {vars : List Var} (gs : List Tree) → All (MayBeAsked sets vars) gs → All (IsAbout vars) gs
abouts gs h = λ i d within. (h i d within).about

-- what is asked of all, of the first and of the others
pub may-first : {sets : List Automaton} (g : Tree) (gs : List Tree) (may : MayAllBeAsked sets (g ∷ gs)) → MayBeAsked sets may.vars g
may-first {sets} g gs may = All-head (MayBeAsked sets may.vars) g gs may.each

pub may-others : {sets : List Automaton} (g : Tree) (gs : List Tree) → MayAllBeAsked sets (g ∷ gs) → MayAllBeAsked sets gs
may-others {sets} g gs may = record { vars = may.vars; few = may.few; each = All-tail (MayBeAsked sets may.vars) g gs may.each }

module _ (e : ℕ → SetOf) where
  -- an automaton for some of the formulas has few tracks together with that of one more
  pub some-fit : {sets : List Automaton} {a : Automaton} (b : Automaton) (g : Tree) (gs : List Tree) → MayAllBeAsked sets (g ∷ gs) → Decides a g (members e)
      → DecidesSome gs e b → length (with_vars a.tracks b.tracks) ≤ MOST_TRACKS
  some-fit b g [] may left right = absurd right
  some-fit {sets} {a} b g (h ∷ hs) may left right =
      let about = some-about may.vars g (h ∷ hs) (abouts (g ∷ h ∷ hs) may.each) in
      let less = length-among (free_vars (some_of g (h ∷ hs))) may.vars (apart-free (some_of g (h ∷ hs))) about in
      let fit : length (free_vars (some_of g (h ∷ hs))) ≤ MOST_TRACKS = omega (arith, less, may.few) in
      subst (λ t. length t ≤ MOST_TRACKS) (λ i. with_vars (sym left.tracks i) (sym right.tracks i)) fit

  -- put together with it
  pub some-more : {a : Automaton} (b : Automaton) {c : Automaton} (g : Tree) (gs : List Tree) → Decides a g (members e) → DecidesSome gs e b → c.tracks ≡ with_vars a.tracks b.tracks
      → AcceptsBy Or a b c → DecidesSome (g ∷ gs) e c
  some-more b g [] left right tracks words = absurd right
  some-more b g (h ∷ hs) left right tracks words = decides-by Or tracks words g (some_of h hs) e left right

  -- it adds no tracks to a set's
  pub some-tracks : {sets : List Automaton} {a : Automaton} (any : Automaton) (gs : List Tree) → IsAutomaton a → All (MayBeAsked sets a.tracks) gs
      → DecidesSome gs e any → with_vars a.tracks any.tracks ≡ a.tracks
  some-tracks any [] valid may some = absurd some
  some-tracks {a = a} any (g ∷ gs) valid may some =
      ap (with_vars a.tracks) some.tracks ∙ same_tracks a.tracks (some_of g gs) valid.ascending (some-about a.tracks g gs (abouts (g ∷ gs) may))

  -- what is left of a set without what some of the formulas hold of
  pub left-at-once : (budget most each : ℕ) {sets : List Automaton} {a any b : Automaton} (gs : List Tree) → most ≤ each → most < 2 ^ 31
      → IsAutomaton a → All (MayBeAsked sets a.tracks) gs → DecidesSome gs e any → AreFew e budget most gs (length a.accept) → IsDifference each a any b
      → AreLeftOf e budget each gs a b
  left-at-once budget most each [] enough small valid may some few h = absurd some
  left-at-once budget most each (g ∷ gs) enough small valid may some few h = record {
    decides = λ f left. decides-says e (none-some f g gs) (h.decides f (some_of g gs) e left some);
    within = λ f left. few-clear e budget most each (g ∷ gs) enough small (abouts (g ∷ gs) may) (decided-self e valid left) few;
    accessible = λ was. h.accessible;
  }

  -- or one after the other
  pub left-by-turns : (budget each : ℕ) {a b : Automaton} (gs : List Tree) → AreLeftByTurns e budget each gs a b
      → (IsAccessible each a → IsAccessible each b) → AreLeftOf e budget each gs a b
  left-by-turns budget each {b = b} gs h accessible = record {
    decides = λ f left. decides-all e budget each gs b left h;
    within = λ f left. clear-within e budget each gs b left h;
    accessible = accessible;
  }
