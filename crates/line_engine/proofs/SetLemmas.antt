-- The set of an item, also where none stands for an empty one, and items over the sets of a table.
use Rattle.std.proofs.Common.{◌≡◌, ℕ, zero, suc, List, [], ◌∷◌, ◌++◌, Option, Some, None, IfSome, IfNone, inl, refl, sym, ap, ◌∙◌, subst}
use Rattle.std.specs.Prelude.{Result}
use Rattle.track_word.specs.declared.tracks.Var.{Var}
use Rattle.auto_core.specs.Automaton.{Automaton}
use Rattle.lin_formula.specs.SetOf.{IsEmpty, Nothing, SetOf, Table, as_set, tables}
use Rattle.lin_formula.specs.Tree.{Tree, Lin, Value, Among, Not, And, Or, Ex, symbols}
use Rattle.set_plan.specs.Outcome.{Ends}
use Rattle.set_plan.specs.Program.{Empty, Give, IsSetOf, Item}
use Rattle.set_plan.specs.Relabel.{relabel}
use Rattle.set_plan.specs.Same.{SameItem, SameSets}
use Rattle.set_plan.specs.Sets.{IsReachedOn, item_of}
use Rattle.set_plan.specs.Unite.{Made, difference, join, make, two}
use Rattle.set_plan.proofs.Alike.{SameSets-self}
use Rattle.set_plan.proofs.Composition.{Ends-ask_no, Ends-ask_yes, Ends-give}
use Rattle.set_plan.proofs.Makes.{Ends-join_left, Ends-join_right}
use Rattle.set_plan.proofs.SameSets.{SameItem-relabel, SameItem-sets}
use Rattle.rule_formula.specs.Seats.{var}
use Rattle.line_plan.specs.Plan.{distances, narrow, narrowed, shortened, shortened_rest}
use Rattle.line_engine.specs.declared.errors.CrowdError.{CrowdError}
use Rattle.line_engine.specs.Answers.{Answers, IsFilledOn, IsThisOne, rest_of}
use Rattle.line_engine.proofs.AnswerLemmas.{answers_joined, answers_no, answers_same, ends_lacking}

-- nothing has the tuples of an empty item
pub set_or_none : (item : Item) (a : Automaton) (set : Option Automaton) → IsSetOf item (Table a) → IfSome set (IsThisOne a) → IfNone set (IsEmpty (Table a))
    → IsSetOf item (as_set set)
set_or_none item a None is some none = record { same = λ tuple. (λ h. absurd h, λ h. none tuple ((is.same tuple).1 h)) }
set_or_none item a (Some b) is some none = subst (λ (x : Automaton). IsSetOf item (Table x)) (sym some.same) is

none_left : (xs ys : List ℕ) → xs ++ ys ≡ [] → xs ≡ []
none_left [] ys e = refl
none_left (x ∷ xs) ys e = cc

none_right : (xs ys : List ℕ) → xs ++ ys ≡ [] → ys ≡ []
none_right [] ys e = e
none_right (x ∷ xs) ys e = cc

-- a formula that names no set has no numbers to change
relabel-none : (name : ℕ → ℕ) (f : Tree) → symbols f ≡ [] → relabel name f ≡ f
relabel-none name (Lin terms rel bound) none = refl
relabel-none name (Value x n) none = refl
relabel-none name (Among set vars) none = absurd (cc)
relabel-none name (Not f) none = ap (λ g. Not g) (relabel-none name f none)
relabel-none name (And f g) none =
    ap (λ h. And h (relabel name g)) (relabel-none name f (none_left (symbols f) (symbols g) none))
    ∙ ap (λ h. And f h) (relabel-none name g (none_right (symbols f) (symbols g) none))
relabel-none name (Or f g) none =
    ap (λ h. Or h (relabel name g)) (relabel-none name f (none_left (symbols f) (symbols g) none))
    ∙ ap (λ h. Or f h) (relabel-none name g (none_right (symbols f) (symbols g) none))
relabel-none name (Ex x f) none = ap (λ g. Ex x g) (relabel-none name f none)

-- over a table of one set each name is the set
pub one_same : (a : Automaton) (f : Tree) → relabel (λ _. 0) f ≡ f → SameItem (item_of (a ∷ []) f) (record { formula = f; sets = λ _. Table a })
one_same a f same =
    subst (λ (g : Tree). SameItem (record { formula = g; sets = tables (a ∷ []) }) (record { formula = f; sets = λ _. Table a })) same
    (SameItem-relabel (λ _. 0) (tables (a ∷ [])) f)

module _ {R : Type 0} (a : Automaton) (sets : List Automaton) (f : Tree) (at budget : ℕ) (view : R → Made) (r : Result R CrowdError) where
  -- a formula over a table of one set
  answers_one : (whole : Tree) → f ≡ whole → sets ≡ a ∷ [] → relabel (λ _. 0) whole ≡ whole → Answers (make tt at (item_of sets f)) budget view r
      → Answers (make tt at (record { formula = whole; sets = λ _. Table a })) budget view r
  answers_one whole same is plain h =
      answers_same at budget (item_of (a ∷ []) whole) (record { formula = whole; sets = λ _. Table a }) view r (one_same a whole plain)
      (subst (λ (g : Tree). Answers (make tt at (item_of (a ∷ []) g)) budget view r) same
      (subst (λ (xs : List Automaton). Answers (make tt at (item_of xs f)) budget view r) is h))

  -- a set narrowed by a part
  pub answers_narrowed : (n : ℕ) (part : Tree) → f ≡ And (Among 0 (distances n)) part → sets ≡ a ∷ [] → symbols part ≡ []
      → Answers (make tt at (item_of sets f)) budget view r → Answers (narrow n part (Table a, at)) budget view r
  answers_narrowed n part same is none h =
      answers_one (And (Among 0 (distances n)) part) same is (ap (λ g. And (Among 0 (distances n)) g) (relabel-none (λ _. 0) part none)) h

  -- a set without its last distance
  pub answers_shortened : (n : ℕ) → f ≡ Ex (var n) (Among 0 (distances (suc n))) → sets ≡ a ∷ [] → Answers (make tt at (item_of sets f)) budget view r
      → Answers (make tt at (shortened n (Table a))) budget view r
  answers_shortened n same is h = answers_one (Ex (var n) (Among 0 (distances (suc n)))) same is refl h

-- the first set, or the second
abbrev pub second : ℕ → ℕ
second zero = 0
second (suc k) = 1

abbrev pub named_two : Automaton → Automaton → ℕ → SetOf
named_two a b k = tables (a ∷ b ∷ []) (second k)

pub two_same : (a b : Automaton) (k : ℕ) → SameSets (named_two a b k) (two (Table a) (Table b) k)
two_same a b zero = SameSets-self (Table a)
two_same a b (suc k) = SameSets-self (Table b)

-- there is none, or it is this one, which is filled
pub filled_or_none : (tracks : List Var) (a : Automaton) (set : Option Automaton) → IfSome set (IsThisOne a) → IsReachedOn tracks a → IfSome set (IsFilledOn tracks)
filled_or_none tracks a None is on = tt
filled_or_none tracks a (Some b) is on =
    let this : IsFilledOn tracks a = record { reached = on; some = is.some } in
    subst (IsFilledOn tracks) (sym is.same) this

module _ {R : Type 0} (a b : Automaton) (sets : List Automaton) (f : Tree) (at budget : ℕ) (view : R → Made) (r : Result R CrowdError) where
  -- a formula over a table of two sets
  pub answers_two : (whole : Tree) → f ≡ whole → sets ≡ a ∷ b ∷ [] → relabel second whole ≡ whole → Answers (make tt at (item_of sets f)) budget view r
      → Answers (make tt at (record { formula = whole; sets = two (Table a) (Table b) })) budget view r
  answers_two whole same is plain h =
      let named : Item = record { formula = whole; sets = named_two a b } in
      let alike : SameItem (item_of (a ∷ b ∷ []) whole) named =
      subst (λ (g : Tree). SameItem (record { formula = g; sets = tables (a ∷ b ∷ []) }) named) plain (SameItem-relabel second (tables (a ∷ b ∷ [])) whole) in
      answers_same at budget named (record { formula = whole; sets = two (Table a) (Table b) }) view r
      (SameItem-sets whole (named_two a b) (two (Table a) (Table b)) (two_same a b))
      (answers_same at budget (item_of (a ∷ b ∷ []) whole) named view r alike
      (subst (λ (g : Tree). Answers (make tt at (item_of (a ∷ b ∷ []) g)) budget view r) same
      (subst (λ (xs : List Automaton). Answers (make tt at (item_of xs f)) budget view r) is h)))

  -- one set or the other, neither of which is empty
  pub answers_either : (n : ℕ) → f ≡ Or (Among 0 (distances n)) (Among 1 (distances n)) → sets ≡ a ∷ b ∷ [] → ¬ IsEmpty (Table a) → ¬ IsEmpty (Table b)
      → Answers (make tt at (item_of sets f)) budget view r → Answers (join (distances n) tt (Table a) (Table b, at)) budget view r
  answers_either n same is some_a some_b h =
      answers_joined (distances n) at budget (Table a) (Table b) view r some_a some_b (answers_two (Or (Among 0 (distances n)) (Among 1 (distances n))) same is refl h)

  -- what the one set has and the other has not
  pub answers_rest : (n : ℕ) → f ≡ And (Among 0 (distances n)) (Not (Among 1 (distances n))) → sets ≡ a ∷ b ∷ [] → ¬ IsEmpty (Table b)
      → Answers (make tt at (item_of sets f)) budget view r → Answers (rest_of n (Table a, at) (Table b)) budget view r
  answers_rest n same is some_b h =
      answers_no (Empty (Table b ∷ [])) (Give (Table a, at)) (make tt at (difference (distances n) (Table a) (Table b))) budget view r (some_b, tt)
      (answers_two (And (Among 0 (distances n)) (Not (Among 1 (distances n)))) same is refl h)

  -- the same without the last distance
  pub answers_shortened_rest : (n : ℕ) → f ≡ Ex (var n) (And (Among 0 (distances (suc n))) (Not (Among 1 (distances (suc n))))) → sets ≡ a ∷ b ∷ []
      → Answers (make tt at (item_of sets f)) budget view r → Answers (make tt at (shortened_rest n (Table a) (Table b))) budget view r
  answers_shortened_rest n same is h =
      answers_two (Ex (var n) (And (Among 0 (distances (suc n))) (Not (Among 1 (distances (suc n)))))) same is refl h

none_empty : IsEmpty Nothing
none_empty tuple h = h

-- nothing narrowed is nothing
pub ends_narrowed : (n at budget : ℕ) (part : Tree) → Ends (narrow n part (Nothing, at)) budget (Nothing, at)
ends_narrowed n at budget part = ends_lacking at budget (narrowed n part Nothing) (inl none_empty)

-- where there was nothing so far, the next set is left
pub ends_joined_next : (tracks : List Var) (at budget : ℕ) (next : Option Automaton) → IfSome next (IsFilledOn tracks)
    → Ends {P = Unit {0}} (join tracks tt Nothing (as_set next, at)) budget (as_set next, at)
ends_joined_next tracks at budget None filled = Ends-join_left tracks tt budget Nothing (Nothing, at) none_empty
ends_joined_next tracks at budget (Some b) filled = Ends-join_right tracks tt budget Nothing (Table b, at) filled.some none_empty

-- where there is nothing further, what there is so far is left
pub ends_joined_none : (tracks : List Var) (at budget : ℕ) (s : SetOf) → Ends {P = Unit {0}} (join tracks tt s (Nothing, at)) budget (s, at)
ends_joined_none tracks at budget s = Ends-join_left tracks tt budget s (Nothing, at) none_empty

-- without nothing all is left
pub ends_rest_all : (n at budget : ℕ) (s : SetOf) → Ends (rest_of n (s, at) Nothing) budget (s, at)
ends_rest_all n at budget s =
    Ends-ask_yes (Empty (Nothing ∷ [])) (Give (s, at)) (make tt at (difference (distances n) s Nothing)) budget (inl none_empty) (Ends-give budget (s, at))

-- of nothing nothing is left
pub ends_rest_none : (n at budget : ℕ) (t : SetOf) → ¬ IsEmpty t → Ends (rest_of n (Nothing, at) t) budget (Nothing, at)
ends_rest_none n at budget t some =
    Ends-ask_no (Empty (t ∷ [])) (Give (Nothing, at)) (make tt at (difference (distances n) Nothing t)) budget (Nothing, at) (some, tt)
    (ends_lacking at budget (difference (distances n) Nothing t) (inl none_empty))
