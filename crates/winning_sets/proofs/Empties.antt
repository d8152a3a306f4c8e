-- The automaton of the set without a tuple.
use Rattle.std.proofs.Common.{◌≡◌, ℕ, zero, suc, ◌^◌, ◌<◌, false, List, [], ◌∷◌, length, get_or, refl, ap, ◌∙◌, arith}
use Rattle.std.proofs.lemmas.List.Elements.{All-cons, All-get_or, All-nil}
use Rattle.std.proofs.lemmas.Nat.{pow_pos}
use Rattle.track_word.specs.declared.tracks.Var.{Var}
use Rattle.track_word.specs.Word.{IsWord, repeat_first}
use Rattle.auto_core.specs.Automaton.{Accepts, Automaton, IsAutomaton, is_final, state_of}
use Rattle.auto_core.specs.Reduced.{IsReduced}
use Rattle.winning_sets.specs.Lent.{IsEmptyOn}

flag_off : (n : ℕ) → get_or (false ∷ []) n false ≡ false
flag_off zero = refl
flag_off (suc n) = refl

module _ (tracks : List Var) (a : Automaton) (tracks_are : a.tracks ≡ tracks) (off : a.accept ≡ false ∷ []) (valid : IsAutomaton a) where
  one : length a.accept ≡ 1
  one = ap length off

  never : (word : List ℕ) → Accepts a word → ⊥
  never word h =
      let is : is_final a (state_of a word) ≡ false = ap (λ flags. get_or flags (state_of a word) false) off ∙ flag_off (state_of a word) in
      cc

  zero_state : get_or a.first 0 0 ≡ 0
  zero_state =
      let power = pow_pos (length a.tracks) in
      let first = All-get_or (λ s. s < length a.accept) a.first 0 0 (omega (arith, valid.first_size, power)) valid.first_within in
      omega (arith, first, one)

  is_word : IsWord (length a.tracks) (0 ∷ [])
  is_word = record { nonempty = λ e. cc; letters = All-cons (λ l. l < 2 ^ length a.tracks) 0 [] (pow_pos (length a.tracks)) (All-nil (λ l. l < 2 ^ length a.tracks)) }

  reduced : IsReduced a
  reduced = record {
    reached = λ state within.
        let same : get_or a.first 0 0 ≡ state = omega (arith, within, one, zero_state) in
        record { word = 0 ∷ []; is_word = is_word; leads = same };
    apart = λ j k in_j in_k other. let same : j ≡ k = omega (arith, in_j, in_k, one) in absurd (other same);
  }

  -- a valid automaton whose one state does not accept
  pub empty_on : IsEmptyOn tracks a
  empty_on = record {
    set = record {
      reduced = reduced;
      decides = record {
        integers = record { stable = λ word is. (λ h. absurd (never word h), λ h. absurd (never (repeat_first word) h)) };
        tracks_are = tracks_are;
      };
      few = omega (arith, one);
    };
    none = λ tuple h. never h.word h.accepts;
  }
