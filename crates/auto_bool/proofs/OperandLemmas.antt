-- Products of which one of the two automata accepts all words or none, or that are of an automaton with itself.
use Rattle.std.proofs.Common.{◌≡◌, ◌↔◌, ℕ, ◌<◌, ◌≤◌, ◌*◌, Bool, false, true≢false, List, length, arith, sym, ap, ◌∙◌, subst, inl, inr}
use Rattle.std.proofs.Math.Nat.{mul-le-mul_left}
use Rattle.track_word.specs.Word.{IsWord}
use Rattle.track_word.specs.Tracks.{with_vars, part_of}
use Rattle.auto_core.specs.Automaton.{Automaton, IsAutomaton, state_of, is_final, Accepts}
use Rattle.auto_core.proofs.States.{state_within}
use Rattle.auto_bool.specs.declared.connective.Connective.{Connective}
use Rattle.auto_bool.specs.declared.connective.Connective.TheVariants.{And, Or, AndNot}
use Rattle.auto_bool.specs.declared.operand.Operand.{Operand}
use Rattle.auto_bool.specs.declared.operand.Operand.TheVariants.{Left, Right}
use Rattle.auto_bool.specs.Words.{AcceptsBy, StepExceeds}
use Rattle.auto_bool.specs.Operands.{IsConstant, Yields, IsAtHand, IsOperand, IsProductWithin, IsNothingLeft}
use Rattle.auto_bool.proofs.TrackLemmas.{with_vars-left, with_vars-right, AreAmong-itself, part_of-whole}
use Rattle.auto_bool.proofs.Spreads.{few_twice}

-- a single state's flag is that of each word
flag_of-constant : {a : Automaton} {flag : Bool} → IsAutomaton a → IsConstant a flag → (word : List ℕ) → is_final a (state_of a word) ≡ flag
flag_of-constant {a} valid constant word =
    let within = state_within valid word in
    let single = constant.single in
    let first : state_of a word ≡ 0 = omega (arith, within, single) in
    ap (is_final a) first ∙ constant.flagged

pub accepts-none : {a : Automaton} → IsAutomaton a → IsConstant a false → (word : List ℕ) → Accepts a word → ⊥
accepts-none valid none word h = true≢false (sym h ∙ flag_of-constant valid none word)

-- a word over the automaton's tracks is its own part on them
accepts-whole : {a : Automaton} → IsAutomaton a → {word : List ℕ} → IsWord (length a.tracks) word → Accepts a word ↔ Accepts a (part_of a.tracks a.tracks word)
accepts-whole {a} valid {word} is =
    let whole = part_of-whole a.tracks word valid.ascending is.letters in
    (λ h. subst (Accepts a) (sym whole) h, λ h. subst (Accepts a) whole h)

more_pairs : (m n : ℕ) → 0 < n → m ≤ m * n
more_pairs m n some = let more = mul-le-mul_left {m = 1} {n = n} m some in omega (arith, more)

module _ (a b : Automaton) (a_valid : IsAutomaton a) (b_valid : IsAutomaton b) where
  words-left : (connective : Connective) → Yields connective Left a b → AcceptsBy connective a b a
  words-left And (inl none) = λ word is. (λ h. absurd (accepts-none a_valid none word h), λ h. (accepts-whole a_valid is).1 h.0)
  words-left And (inr all) = λ word is. (λ h. ((accepts-whole a_valid is).0 h, flag_of-constant b_valid all (part_of a.tracks b.tracks word)), λ h. (accepts-whole a_valid is).1 h.0)
  words-left Or (inl all) = λ word is. (λ h. inl ((accepts-whole a_valid is).0 h), λ h. flag_of-constant a_valid all word)
  words-left Or (inr none) = λ word is. (
    λ h. inl ((accepts-whole a_valid is).0 h),
    λ h. elim h [ inl left ↦ (accepts-whole a_valid is).1 left | inr right ↦ absurd (accepts-none b_valid none (part_of a.tracks b.tracks word) right) ],
  )
  words-left AndNot (inl none) = λ word is. (λ h. absurd (accepts-none a_valid none word h), λ h. (accepts-whole a_valid is).1 h.0)
  words-left AndNot (inr none) = λ word is. (
    λ h. ((accepts-whole a_valid is).0 h, λ right. accepts-none b_valid none (part_of a.tracks b.tracks word) right),
    λ h. (accepts-whole a_valid is).1 h.0,
  )

  words-right : (connective : Connective) → Yields connective Right a b → AcceptsBy connective a b b
  words-right And (inl none) = λ word is. (λ h. absurd (accepts-none b_valid none word h), λ h. (accepts-whole b_valid is).1 h.1)
  words-right And (inr all) = λ word is. (λ h. (flag_of-constant a_valid all (part_of b.tracks a.tracks word), (accepts-whole b_valid is).0 h), λ h. (accepts-whole b_valid is).1 h.1)
  words-right Or (inl all) = λ word is. (λ h. inr ((accepts-whole b_valid is).0 h), λ h. flag_of-constant b_valid all word)
  words-right Or (inr none) = λ word is. (
    λ h. inr ((accepts-whole b_valid is).0 h),
    λ h. elim h [ inl left ↦ absurd (accepts-none a_valid none (part_of b.tracks a.tracks word) left) | inr right ↦ (accepts-whole b_valid is).1 right ],
  )
  words-right AndNot never = absurd never

  pub IsOperand-at_hand : (connective : Connective) (budget : ℕ) (operand : Operand) → IsAtHand a b connective budget operand → (StepExceeds a b budget → ⊥)
      → IsOperand a b connective budget operand
  IsOperand-at_hand connective budget Left at within = record {
    tracks = sym (with_vars-left a_valid.ascending b_valid.ascending at.among);
    words = words-left connective at.yields;
    few = let room = at.room in let more = more_pairs (length a.accept) (length b.accept) b_valid.some_state in omega (arith, room, more);
    within = within;
  }
  IsOperand-at_hand connective budget Right at within = record {
    tracks = sym (with_vars-right b_valid.ascending at.among);
    words = words-right connective at.yields;
    few =
        let room = at.room in
        let more = more_pairs (length b.accept) (length a.accept) a_valid.some_state in
        let turned : length b.accept * length a.accept ≡ length a.accept * length b.accept = omega arith in
        omega (arith, room, more, turned);
    within = within;
  }

module _ (a : Automaton) (valid : IsAutomaton a) (budget : ℕ) (room : length a.accept ≤ budget) where
  twice : with_vars a.tracks a.tracks ≡ a.tracks
  twice = with_vars-right valid.ascending (AreAmong-itself a.tracks)

  pub both-itself : IsProductWithin a a And budget a
  both-itself = record {
    tracks = sym twice;
    words = λ word is. (λ h. ((accepts-whole valid is).0 h, (accepts-whole valid is).0 h), λ h. (accepts-whole valid is).1 h.0);
    few = room;
    within = few_twice valid budget room;
  }

  pub either-itself : IsProductWithin a a Or budget a
  either-itself = record {
    tracks = sym twice;
    words = λ word is. (
      λ h. inl ((accepts-whole valid is).0 h),
      λ h. elim h [ inl left ↦ (accepts-whole valid is).1 left | inr right ↦ (accepts-whole valid is).1 right ],
    );
    few = room;
    within = few_twice valid budget room;
  }

  pub neither-itself : IsNothingLeft a budget
  neither-itself n none = record {
    tracks = none.tracks ∙ sym twice;
    words = λ word is. (λ h. absurd (none.words word is h), λ h. absurd (h.1 h.0));
    few = let single = none.single in let some = valid.some_state in omega (arith, single, some, room);
    within = few_twice valid budget room;
  }
