-- A set, and the same set reduced.
use Rattle.std.proofs.Common.{◌≡◌, ◌↔◌, ℕ, ◌≤◌, List, length, sym, ◌∙◌, subst, arith}
use Rattle.track_word.specs.declared.tracks.Var.{Var}
use Rattle.track_word.specs.Word.{IsWord, repeat_first}
use Rattle.track_word.specs.Tracks.{word_values, values_at}
use Rattle.track_word.proofs.Repeats.{IsWord-again}
use Rattle.auto_core.specs.Automaton.{Automaton, Accepts}
use Rattle.auto_core.specs.Integers.{DecidesIntegers}
use Rattle.auto_core.specs.Reduced.{IsReduced}
use Rattle.lin_formula.specs.Tree.{Among, Or}
use Rattle.lin_formula.specs.SetOf.{SetOf, Table, members}
use Rattle.set_plan.specs.Program.{IsSetOf, LastExceeds}
use Rattle.set_plan.specs.Same.{SameSets, SameItem}
use Rattle.set_plan.specs.Sets.{IsReductionOf}
use Rattle.set_plan.specs.Unite.{either, two}
use Rattle.set_plan.proofs.Alike.{IsSetOf-same}
use Rattle.set_plan.proofs.Combined.{two-same}
use Rattle.set_plan.proofs.SameSets.{Exceeds-same, SameItem-sets}

module _ (a r : Automaton) (tracks : r.tracks ≡ a.tracks) (words : (word : List ℕ) → IsWord (length a.tracks) word → Accepts r word ↔ Accepts a word) where
  over : {word : List ℕ} → IsWord (length r.tracks) word → IsWord (length a.tracks) word
  over {word} is = subst (λ (t : List Var). IsWord (length t) word) tracks is

  same-table : SameSets (Table a) (Table r)
  same-table tuple = (
    λ h. record {
      word = h.word;
      is_word = subst (λ (t : List Var). IsWord (length t) h.word) (sym tracks) h.is_word;
      values = subst (λ (t : List Var). values_at t (word_values t h.word) ≡ tuple) (sym tracks) h.values;
      accepts = (words h.word h.is_word).1 h.accepts;
    },
    λ h. record {
      word = h.word;
      is_word = over h.is_word;
      values = subst (λ (t : List Var). values_at t (word_values t h.word) ≡ tuple) tracks h.values;
      accepts = (words h.word (over h.is_word)).0 h.accepts;
    },
  )

  integers-same : DecidesIntegers a → DecidesIntegers r
  integers-same decides = record {
    stable = λ word is.
        let once = words word (over is) in
        let twice = words (repeat_first word) (IsWord-again (over is)) in
        let same = decides.stable word (over is) in
        (λ h. twice.1 (same.0 (once.0 h)), λ h. once.1 (same.1 (twice.0 h)));
  }

  pub reduction : IsReduced r → length r.accept ≤ length a.accept → IsReductionOf a r
  reduction reduced fewer = record {
    same = same-table;
    set = λ tracks_on on. record {
      reduced = reduced;
      decides = record { integers = integers-same on.decides.integers; tracks_are = tracks ∙ on.decides.tracks_are };
      few = omega (arith, fewer, on.few);
    };
  }

back : (s t : SetOf) → SameSets s t → SameSets t s
back s t same tuple = ((same tuple).1, (same tuple).0)

-- what is joined of two reduced sets is joined of the sets themselves
module _ (tracks : List Var) (a b left right : Automaton) (one : IsReductionOf a left) (other : IsReductionOf b right) where
  same-two : (k : ℕ) → SameSets (two (Table left) (Table right) k) (two (Table a) (Table b) k)
  same-two k = two-same (Table left) (Table a) (Table right) (Table b) (back (Table a) (Table left) one.same) (back (Table b) (Table right) other.same) k

  same-either : SameItem (either tracks (Table left) (Table right)) (either tracks (Table a) (Table b))
  same-either = SameItem-sets (Or (Among 0 tracks) (Among 1 tracks)) (two (Table left) (Table right)) (two (Table a) (Table b)) same-two

  pub either-of_reduced : (s : SetOf) → IsSetOf (either tracks (Table left) (Table right)) s → IsSetOf (either tracks (Table a) (Table b)) s
  either-of_reduced s is = IsSetOf-same same-either is

  pub exceeds-of_reduced : (budget : ℕ)
      → LastExceeds (either tracks (Table left) (Table right)) budget ↔ LastExceeds (either tracks (Table a) (Table b)) budget
  exceeds-of_reduced budget = (
    Exceeds-same (members (two (Table left) (Table right))) (members (two (Table a) (Table b))) (λ k t. same-two k t) (Or (Among 0 tracks) (Among 1 tracks)) budget,
    Exceeds-same (members (two (Table a) (Table b))) (members (two (Table left) (Table right))) (λ k t. ((same-two k t).1, (same-two k t).0)) (Or (Among 0 tracks) (Among 1 tracks)) budget,
  )
