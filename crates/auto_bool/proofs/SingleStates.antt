-- The automaton that accepts no word.
use Rattle.std.proofs.Common.{◌≡◌, ◌<◌, ◌^◌, false, [], ◌∷◌, length, arith, refl, ap}
use Rattle.std.proofs.lemmas.Nat.{pow_pos}
use Rattle.std.proofs.lemmas.List.Elements.{All-nil, All-cons}
use Rattle.auto_core.specs.Automaton.{Automaton, IsAutomaton, is_final}
use Rattle.auto_core.proofs.States.{state_within}
use Rattle.auto_bool.specs.Operands.{IsNoneOf}
use Rattle.auto_bool.proofs.OperandLemmas.{accepts-none}

-- to a single state each word leads
pub IsNoneOf-single : (a n : Automaton) → IsAutomaton n → n.tracks ≡ a.tracks → n.accept ≡ false ∷ [] → IsNoneOf a n
IsNoneOf-single a n valid tracks accept =
    let single : length n.accept ≡ 1 = ap length accept in
    let flagged : is_final n 0 ≡ false = rw accept refl in
    record {
      tracks = tracks;
      single = single;
      reached = λ state below.
          let within = state_within valid (0 ∷ []) in
          record {
            word = 0 ∷ [];
            is_word = record {
              nonempty = λ e. cc e;
              letters = All-cons (λ l. l < 2 ^ length n.tracks) 0 [] (pow_pos (length n.tracks)) (All-nil (λ l. l < 2 ^ length n.tracks));
            };
            leads = omega (arith, below, within, single);
          };
      words = λ word is h. accepts-none valid (record { single = single; flagged = flagged }) word h;
    }
