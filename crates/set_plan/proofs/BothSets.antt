-- Two automata over the same tracks, put together by a connective.
use Rattle.std.proofs.Common.{◌≡◌, ◌↔◌, ℕ, suc, ◌<◌, ◌≤◌, List, [], ◌∷◌, length, map, true, nat_lt, ◌==◌, if◌then◌else◌, refl, sym, ap, ◌∙◌, subst, inl, inr, None, arith, eq-eqb}
use Rattle.std.specs.List.{AllPairs}
use Rattle.std.proofs.lemmas.Bool.{ltb-true}
use Rattle.std.proofs.lemmas.List.Kept.{AllPairs-from_increasing}
use Rattle.limits.specs.declared.numbers.TheConstants.{MOST_STATES}
use Rattle.track_word.specs.declared.tracks.Var.{Var}
use Rattle.track_word.specs.Word.{IsWord}
use Rattle.track_word.specs.Tracks.{IsAscending, with_var, with_vars}
use Rattle.auto_core.specs.Automaton.{Automaton, Accepts}
use Rattle.auto_core.specs.Reduced.{AllReached, IsReduced}
use Rattle.auto_core.specs.Spread.{BothSpreadExceeds}
use Rattle.auto_bool.specs.Words.{AcceptsBy}
use Rattle.auto_bool.specs.Operands.{operand_of, IsOperand}
use Rattle.auto_bool.specs.declared.operand.Operand.{Operand}
use Rattle.auto_bool.specs.declared.operand.Operand.TheVariants.{Left, Right}
use Rattle.lin_formula.specs.Tree.{Tree, Among, free_vars, steps}
use Rattle.lin_formula.specs.SetOf.{SetOf, Table, members}
use Rattle.lin_formula.specs.Free.{IsOneOf}
use Rattle.lin_formula.proofs.FreeVars.{if_cases}
use Rattle.formula_auto.specs.Connected.{connect}
use Rattle.formula_auto.specs.Step.{FirstOver}
use Rattle.formula_auto.specs.Decides.{Decides}
use Rattle.auto_bool.specs.declared.connective.Connective.{Connective}
use Rattle.auto_bool.specs.declared.connective.Connective.TheVariants.{And, Or, AndNot}
use Rattle.formula_auto.proofs.Exceedings.{Exceeds-connect}
use Rattle.formula_auto.proofs.Parts.{Decides-And, Decides-AndNot, Decides-Or, Decides-same}
use Rattle.formula_auto.proofs.Projections.{above}
use Rattle.set_plan.specs.Program.{Item, IsSetOf, LastExceeds}
use Rattle.set_plan.specs.Sets.{DecidesOn, IsReachedOn, IsSetOn}
use Rattle.set_plan.specs.Unite.{two}
use Rattle.set_plan.proofs.Decided.{Decides-among, DecidesIntegers-decides, IsSetOf-decides, with_vars-ascending}
use Rattle.set_plan.proofs.FewStates.{few_states}

with_var-there : (x : Var) (ys : List Var) → AllPairs (λ a b. a < b) (map (λ v. v.0) ys) → IsOneOf x ys → with_var x ys ≡ ys
with_var-there x [] h is = absurd is
with_var-there x (y ∷ ys) h (inl is) =
    let same : x.0 ≡ y.0 = ap (λ (v : Var). v.0) is in
    if_cases (nat_lt x.0 y.0) (x ∷ y ∷ ys) (if x.0 == y.0 then y ∷ ys else y ∷ with_var x ys) (λ (l : List Var). l ≡ y ∷ ys)
    (λ e. let less : x.0 < y.0 = ltb-true x.0 y.0 e in absurd (omega arith))
    (λ e. if_cases (x.0 == y.0) (y ∷ ys) (y ∷ with_var x ys) (λ (l : List Var). l ≡ y ∷ ys)
    (λ here. refl)
    (λ other. let t : x.0 == y.0 ≡ true = eq-eqb x.0 y.0 same in cc))
with_var-there x (y ∷ ys) h (inr is) =
    let later : y.0 < x.0 = above y.0 ys (λ j within. h 0 (suc j) 0 (omega arith) (omega arith)) x is in
    let rest : with_var x ys ≡ ys = with_var-there x ys (λ i j d less within. h (suc i) (suc j) d (omega arith) (omega arith)) is in
    if_cases (nat_lt x.0 y.0) (x ∷ y ∷ ys) (if x.0 == y.0 then y ∷ ys else y ∷ with_var x ys) (λ (l : List Var). l ≡ y ∷ ys)
    (λ e. let less : x.0 < y.0 = ltb-true x.0 y.0 e in absurd (omega arith))
    (λ e. if_cases (x.0 == y.0) (y ∷ ys) (y ∷ with_var x ys) (λ (l : List Var). l ≡ y ∷ ys) (λ here. refl) (λ other. ap (λ (l : List Var). y ∷ l) rest))

with_vars-there : (xs ys : List Var) → AllPairs (λ a b. a < b) (map (λ v. v.0) ys) → ((x : Var) → IsOneOf x xs → IsOneOf x ys) → with_vars xs ys ≡ ys
with_vars-there [] ys h there = refl
with_vars-there (x ∷ xs) ys h there = ap (with_var x) (with_vars-there xs ys h (λ y is. there y (inr is))) ∙ with_var-there x ys h (there x (inl refl))

pub with_vars-self : (tracks : List Var) → IsAscending tracks → with_vars tracks tracks ≡ tracks
with_vars-self tracks h = with_vars-there tracks tracks (AllPairs-from_increasing (map (λ v. v.0) tracks) h) (λ x is. is)

-- the two named sets, over these tracks
abbrev names : Connective → List Var → Tree
names connective tracks = connect connective (Among 0 tracks) (Among 1 tracks)

-- what the connective makes of two sets over these tracks
abbrev pub both : Connective → List Var → SetOf → SetOf → Item
both connective tracks s t = record { formula = names connective tracks; sets = two s t }

some_step : (connective : Connective) (tracks : List Var) → 0 < length (steps (names connective tracks))
some_step And tracks = omega arith
some_step Or tracks = omega arith
some_step AndNot tracks = omega arith

module _ (tracks : List Var) (a b : Automaton) (left : DecidesOn tracks a) (right : DecidesOn tracks b) (ascending : IsAscending a.tracks) where
  pub ordered : IsAscending tracks
  ordered = subst IsAscending left.tracks_are ascending

  pub few-tracks : length a.tracks ≤ 20 → length (with_vars a.tracks b.tracks) ≤ 20
  few-tracks few =
      let same : b.tracks ≡ a.tracks = right.tracks_are ∙ sym left.tracks_are in
      let whole : with_vars a.tracks b.tracks ≡ a.tracks = ap (λ t. with_vars a.tracks t) same ∙ with_vars-self a.tracks ascending in
      subst (λ (t : List Var). length t ≤ 20) (sym whole) few

  first : Decides a (Among 0 tracks) (members (two (Table a) (Table b)))
  first = Decides-among (two (Table a) (Table b)) 0 tracks refl left.integers ascending left.tracks_are

  second : Decides b (Among 1 tracks) (members (two (Table a) (Table b)))
  second = Decides-among (two (Table a) (Table b)) 1 tracks refl right.integers (subst IsAscending (sym right.tracks_are) ordered) right.tracks_are

  over-tracks : with_vars (with_vars tracks []) (with_vars tracks []) ≡ tracks
  over-tracks =
      let same = with_vars-ascending tracks ordered in
      ap (λ (t : List Var). with_vars t t) same ∙ with_vars-self tracks ordered

  free-tracks : (connective : Connective) → free_vars (names connective tracks) ≡ tracks
  free-tracks And = over-tracks
  free-tracks Or = over-tracks
  free-tracks AndNot = over-tracks

  pub both-exceeds : (connective : Connective) (budget : ℕ)
      → BothSpreadExceeds a.tracks b.tracks (Accepts a) (Accepts b) budget ↔ LastExceeds (both connective tracks (Table a) (Table b)) budget
  both-exceeds connective budget = Exceeds-connect (members (two (Table a) (Table b))) (Among 0 tracks) (Among 1 tracks) a b budget first second connective

  none-over : (connective : Connective) (budget : ℕ) → (LastExceeds (both connective tracks (Table a) (Table b)) budget → ⊥)
      → FirstOver (steps (names connective tracks)) (members (two (Table a) (Table b))) budget 1 None
  none-over And budget within = inr (within, refl)
  none-over Or budget within = inr (within, refl)
  none-over AndNot budget within = inr (within, refl)

  both-decides : (connective : Connective) (c : Automaton) → c.tracks ≡ with_vars a.tracks b.tracks → AcceptsBy connective a b c
      → Decides c (names connective tracks) (members (two (Table a) (Table b)))
  both-decides And c tracks_c words_c = Decides-And (members (two (Table a) (Table b))) (Among 0 tracks) (Among 1 tracks) a b c first second tracks_c words_c
  both-decides Or c tracks_c words_c = Decides-Or (members (two (Table a) (Table b))) (Among 0 tracks) (Among 1 tracks) a b c first second tracks_c words_c
  both-decides AndNot c tracks_c words_c = Decides-AndNot (members (two (Table a) (Table b))) (Among 0 tracks) (Among 1 tracks) a b c first second tracks_c words_c

  module _ (connective : Connective) (c r : Automaton) (tracks_c : c.tracks ≡ with_vars a.tracks b.tracks) (words_c : AcceptsBy connective a b c)
      (tracks_r : r.tracks ≡ c.tracks) (words_r : (word : List ℕ) → IsWord (length c.tracks) word → Accepts r word ↔ Accepts c word) where
    decided : Decides r (names connective tracks) (members (two (Table a) (Table b)))
    decided = Decides-same (both-decides connective c tracks_c words_c) tracks_r words_r

    pub both-is : IsSetOf (both connective tracks (Table a) (Table b)) (Table r)
    both-is = IsSetOf-decides (names connective tracks) (two (Table a) (Table b)) r decided

    decides-on : DecidesOn tracks r
    decides-on = record {
      integers = DecidesIntegers-decides (names connective tracks) (two (Table a) (Table b)) r decided;
      tracks_are = decided.tracks ∙ free-tracks connective;
    }

    pub both-set : IsReduced r → (budget : ℕ) → budget ≤ MOST_STATES → (BothSpreadExceeds a.tracks b.tracks (Accepts a) (Accepts b) budget → ⊥) → IsSetOn tracks r
    both-set reduced budget high within =
        let states =
        few_states (members (two (Table a) (Table b))) budget 1 (some_step connective tracks) decided reduced
        (none-over connective budget (λ over. within ((both-exceeds connective budget).1 over))) in
        record { reduced = reduced; decides = decides-on; few = omega (arith, states, high) }

    pub both-reached : AllReached r → length r.accept ≤ MOST_STATES → IsReachedOn tracks r
    both-reached reached few = record { reached = reached; decides = decides-on; few = few }

  -- a side that serves as the product
  pub operand-is : (connective : Connective) (budget : ℕ) (operand : Operand) → IsOperand a b connective budget operand
      → IsSetOf (both connective tracks (Table a) (Table b)) (Table (operand_of operand a b))
  operand-is connective budget operand is = both-is connective (operand_of operand a b) (operand_of operand a b) is.tracks is.words refl (λ word w. ((λ h. h), (λ h. h)))

  pub operand-within : (connective : Connective) (budget : ℕ) (operand : Operand) → IsOperand a b connective budget operand
      → LastExceeds (both connective tracks (Table a) (Table b)) budget → ⊥
  operand-within connective budget operand is over = is.within ((both-exceeds connective budget).1 over)

-- each side is a set, so that the one that is meant is
pub operand-set : (P : Automaton → Type 0) (operand : Operand) {a b : Automaton} → P a → P b → P (operand_of operand a b)
operand-set P Left left right = left
operand-set P Right left right = right
