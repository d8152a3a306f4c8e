-- The set of the empty tuple as an automaton, and the verdict that follows from what is kept from there.
use Rattle.std.proofs.Common.{◌≡◌, ◌↔◌, ℕ, ◌^◌, ◌<◌, ◌≤◌, Bool, true, false, IsTrue, List, [], ◌∷◌, length, Option, Some, None, IfSome, ℤ, pos, inl, inr, refl, sym, ap, ◌∙◌, subst, arith}
use Rattle.std.specs.Prelude.{is_some, slice_index_or}
use Rattle.std.proofs.lemmas.List.Elements.{All-cons, All-nil}
use Rattle.std.proofs.lemmas.Nat.{pow_pos}
use Rattle.game_rules.specs.Game.{Position, Sound, Value}
use Rattle.game_rules.specs.declared.men.Side.{Side}
use Rattle.track_word.specs.declared.tracks.Var.{Var}
use Rattle.track_word.specs.Tracks.{IsAscending, values_at, word_values}
use Rattle.track_word.specs.Word.{IsWord, repeat_first}
use Rattle.auto_core.specs.Automaton.{Accepts, Automaton, IsAutomaton, state_of}
use Rattle.auto_core.proofs.States.{state_within}
use Rattle.lin_formula.specs.SetOf.{Member, Table}
use Rattle.set_plan.specs.Outcome.{Ends}
use Rattle.set_plan.specs.Program.{Ask, Give, Has}
use Rattle.set_plan.specs.Same.{SameSets}
use Rattle.set_plan.specs.Sets.{DecidesOn}
use Rattle.set_plan.proofs.Alike.{Alike, Ends-alike, Stops-alike}
use Rattle.set_plan.proofs.Composition.{Ends-ask_no, Ends-ask_yes, Ends-bind, Ends-give, Stops-bind}
use Rattle.set_plan.proofs.Tables.{table_decided}
use Rattle.line_plan.specs.Plan.{Found, Program, kept, no_distance, plan, plies, verdict}
use Rattle.line_plan.proofs.Keeps.{plan_decides}
use Rattle.line_plan.proofs.Once.{SameFound, kept_alike}
use Rattle.line_plan.proofs.SetFacts.{distances-ascend}
use Rattle.line_engine.specs.declared.errors.CrowdError.{CrowdError}
use Rattle.line_engine.specs.declared.errors.CrowdError.TheVariants.{Over, Memory}
use Rattle.line_engine.specs.Answers.{IsErrorOf, IsFilledOn, found_at}

-- an automaton of one state, which accepts, over no track
module _ (a : Automaton) (is : IsAutomaton a) (none : a.tracks ≡ []) (flags : a.accept ≡ true ∷ []) where
  one : length a.accept ≡ 1
  one = ap (λ xs. length xs) flags

  first : (word : List ℕ) → state_of a word ≡ 0
  first word = let less = state_within is word in let count = one in omega (arith, less, count)

  accepted : (word : List ℕ) → Accepts a word
  accepted word =
      subst (λ k. IsTrue (slice_index_or a.accept k false)) (sym (first word)) (subst (λ xs. IsTrue (slice_index_or xs 0 false)) (sym flags) refl)

  letter : IsWord (length a.tracks) (0 ∷ [])
  letter = record {
    nonempty = λ e. absurd (cc);
    letters = All-cons (λ letter. letter < 2 ^ length a.tracks) 0 [] (pow_pos (length a.tracks)) (All-nil (λ letter. letter < 2 ^ length a.tracks));
  }

  pub accepts_all : IsFilledOn [] a
  accepts_all =
      record {
        reached = record {
          reached = λ state less. record {
            word = 0 ∷ [];
            is_word = letter;
            leads = let start = first (0 ∷ []) in let count = one in omega (arith, less, start, count);
          };
          decides = record {
            integers = record { stable = λ word w. (λ h. accepted (repeat_first word), λ h. accepted word) };
            tracks_are = none;
          };
          few = let count = one in omega (arith, count);
        };
        some = λ empty. empty [] (record {
          word = 0 ∷ [];
          is_word = letter;
          values = ap (λ (vars : List Var). values_at vars (word_values vars (0 ∷ []))) none;
          accepts = accepted (0 ∷ []);
        });
      }

only_empty : (a : Automaton) → DecidesOn [] a → (tuple : List ℤ) → Member (Table a) tuple → tuple ≡ []
only_empty a on tuple h = sym h.values ∙ ap (λ (vars : List Var). values_at vars (word_values vars h.word)) on.tracks_are

has_empty : (a : Automaton) → IsFilledOn [] a → Member (Table a) []
has_empty a is =
    elim (table_decided a (subst IsAscending (sym is.reached.decides.tracks_are) (distances-ascend 0)) is.reached.decides.integers []) [
      | inl has ↦ has
      | inr never ↦ absurd (is.some (λ tuple h. never (subst (λ (t : List ℤ). Member (Table a) t) (only_empty a is.reached.decides tuple h) h)))
    ]

start_same : (a : Automaton) → IsFilledOn [] a → SameSets (Table a) no_distance
start_same a is tuple = (
  λ h.
      let start : Member no_distance [] = record { values = λ _. pos 0; is_tuple = refl; holds = (pos 0, refl) } in
      subst (λ (t : List ℤ). Member no_distance t) (sym (only_empty a is.reached.decides tuple h)) start,
  λ h. subst (λ (t : List ℤ). Member (Table a) t) h.is_tuple (has_empty a is),
)

module _ (p : Position) (winner : Side) (moves budget : ℕ) (start : Automaton) (is : IsFilledOn [] start) where
  abbrev pub from_start : Program Found
  from_start = kept p winner (plies p.turn winner moves) [] (Table start, 1)

  abbrev from_none : Program Found
  from_none = kept p winner (plies p.turn winner moves) [] (no_distance, 1)

  abbrev given : Found → Program (Option Bool)
  given found = Ask (Has found.set []) (Give (verdict p winner found.known true)) (Give (verdict p winner found.known false))

  alike : Alike SameFound from_start from_none
  alike = kept_alike p winner (plies p.turn winner moves) [] (Table start, 1) (no_distance, 1) (record { sets = start_same start is; at = refl })

  pub plan_error : (e : CrowdError) → IsErrorOf from_start budget e → IsErrorOf (plan p winner moves) budget e
  plan_error (Over step) h = Stops-bind from_none given budget (Stops-alike SameFound from_none alike h)
  plan_error Memory h = tt

  -- something is kept: the empty tuple
  pub plan_mates : (a : Automaton) (at : ℕ) → IsFilledOn [] a → Ends from_start budget (found_at at (Some a)) → Ends (plan p winner moves) budget (Some true)
  plan_mates a at filled h =
      let (found, ends, same) = Ends-alike SameFound from_none alike h in
      Ends-bind from_none given budget found (Some true) ends
      (Ends-ask_yes (Has found.set []) (Give (verdict p winner found.known true)) (Give (verdict p winner found.known false)) budget ((same.sets []).0 (has_empty a filled))
      (subst (λ b. Ends {P = Unit {0}} (Give (verdict p winner b true)) budget (Some true)) same.known (Ends-give budget (Some true))))

  -- nothing is kept
  pub plan_fails : (at : ℕ) → Ends from_start budget (found_at at None) → Ends (plan p winner moves) budget (Some false)
  plan_fails at h =
      let (found, ends, same) = Ends-alike SameFound from_none alike h in
      Ends-bind from_none given budget found (Some false) ends
      (Ends-ask_no (Has found.set []) (Give (verdict p winner found.known true)) (Give (verdict p winner found.known false)) budget (Some false) (λ has. (same.sets []).1 has)
      (subst (λ b. Ends {P = Unit {0}} (Give (verdict p winner b false)) budget (Some false)) same.known (Ends-give budget (Some false))))

-- where the plan has a verdict, it is right
pub verdict_right : (p : Position) (winner : Side) (moves budget : ℕ) (mates : Bool) → Sound p → moves ≤ 2 → Ends (plan p winner moves) budget (Some mates)
    → IsTrue mates ↔ Value winner moves p
verdict_right p winner moves budget mates sound few ends =
    let most : moves ≤ 7 = omega (arith, few) in plan_decides p winner moves ends.entries mates sound most ends.takes

-- the verdict is whether something is kept
pub plan_verdict : (p : Position) (winner : Side) (moves budget : ℕ) (start : Automaton) (is : IsFilledOn [] start) (at : ℕ) (found : Option Automaton) (mates : Bool) → mates ≡ is_some found
    → IfSome found (IsFilledOn []) → Ends (from_start p winner moves budget start is) budget (found_at at found) → Ends (plan p winner moves) budget (Some mates)
plan_verdict p winner moves budget start is at None mates told filled h = subst (λ b. Ends (plan p winner moves) budget (Some b)) (sym told) (plan_fails p winner moves budget start is at h)
plan_verdict p winner moves budget start is at (Some a) mates told filled h = subst (λ b. Ends (plan p winner moves) budget (Some b)) (sym told) (plan_mates p winner moves budget start is a at filled h)
