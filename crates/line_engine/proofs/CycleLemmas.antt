-- What is answered at a path, option by option.
use Rattle.std.proofs.Common.{◌≡◌, ◌⊎◌, ℕ, suc, Bool, true, false, ◌&&◌, List, [], ◌∷◌, map, length, Option, Some, None, IfSome, ℤ, inl, inr, sym, ap, ◌∙◌, subst}
use Rattle.std.specs.Prelude.{Result}
use Rattle.game_rules.specs.Game.{Position}
use Rattle.game_rules.specs.declared.men.Side.{Side}
use Rattle.track_word.specs.declared.tracks.Var.{Var}
use Rattle.track_word.specs.Tracks.{IsAscending, Values, values_at, word_values}
use Rattle.auto_core.specs.Automaton.{Automaton}
use Rattle.lin_formula.specs.SetOf.{IsEmpty, Member, Nothing, SetOf, Table, as_set}
use Rattle.rule_formula.specs.declared.opt.Opt.{Opt}
use Rattle.rule_formula.specs.Options.{is_side}
use Rattle.line_formula.specs.Paths.{bear_after, options_at, threats_at, turn_at}
use Rattle.set_plan.specs.Outcome.{Ends}
use Rattle.set_plan.specs.Program.{Ask, Empty, Give, Item, Within, bind, each}
use Rattle.set_plan.specs.Sets.{DecidesOn}
use Rattle.set_plan.specs.Unite.{Made, join, make, unite, with_item}
use Rattle.set_plan.proofs.Composition.{Ends-give, Error-bind, LeadsTo, LeadsTo-later, LeadsTo-self}
use Rattle.set_plan.proofs.Tables.{table_decided}
use Rattle.line_plan.specs.Plan.{Found, Program, distances, is_known, kept, kept_by, known_of, lose, lose_option, lost_by, narrowed, reach, shorten_rest, shortened, shortened_rest, win, win_option, won_by}
use Rattle.line_plan.specs.Plan.{Losing as Lost}
use Rattle.line_plan.proofs.SetFacts.{distances-ascend, free_known}
use Rattle.line_engine.specs.declared.errors.CrowdError.{CrowdError}
use Rattle.line_engine.specs.declared.losing.LoserProgress.{LoserProgress}
use Rattle.line_engine.specs.Answers.{Answers, IsErrorOf, IsFilledOn, as_plan_error, escape_by, found_at, losing_at, made_at, rest_of}
use Rattle.line_engine.proofs.LeadLemmas.{first_error, item_error, item_made, last_answers, leads_answers, leads_no, leads_yes, nothing_joined}

-- an option of the loser by which this is reached, of which this is kept
module _ (n budget : ℕ) (reached kept : SetOf) (so_far : Lost) where
  abbrev pub escaped : Program Lost
  escaped = escape_by n reached kept so_far

  abbrev pub ended : Made → Made → Lost
  ended escape moves = record { escape = escape.0; moves = moves.0; at = moves.1; known = true }

  abbrev pub moved : Made → Program Lost
  moved escape = bind (with_item (distances n) tt (shortened n reached) (so_far.moves, escape.1)) (λ moves. Give (ended escape moves))

  abbrev flight : Item → Program Lost
  flight item = bind (with_item (distances n) tt item (so_far.escape, so_far.at)) moved

  -- where nothing is kept he escapes wherever he can move, and else where it is not kept
  pub flees_all : IsEmpty kept → LeadsTo (flight (shortened n reached)) escaped budget
  flees_all empty = leads_yes (Empty (kept ∷ [])) (flight (shortened n reached)) (flight (shortened_rest n reached kept)) (inl empty) (LeadsTo-self escaped budget)

  pub flees_rest : ¬ IsEmpty kept → LeadsTo (flight (shortened_rest n reached kept)) escaped budget
  flees_rest some = leads_no (Empty (kept ∷ [])) (flight (shortened n reached)) (flight (shortened_rest n reached kept)) (some, tt) (LeadsTo-self escaped budget)

  module _ (item : Item) (leads : LeadsTo (flight item) escaped budget) where
    pub flight_error : (e : CrowdError) → IsErrorOf (make tt so_far.at item) budget e → IsErrorOf escaped budget e
    flight_error e h = item_error (distances n) item (so_far.escape, so_far.at) moved leads e h

    module _ (first : Made) (is_first : Ends (make {P = Unit {0}} tt so_far.at item) budget first) where
      to_join : LeadsTo (bind (join {P = Unit {0}} (distances n) tt so_far.escape first) moved) escaped budget
      to_join = item_made (distances n) item (so_far.escape, so_far.at) moved leads first is_first

      pub flight_unjoined : (e : CrowdError) → IsErrorOf (join (distances n) tt so_far.escape first) budget e → IsErrorOf escaped budget e
      flight_unjoined e h = first_error (join (distances n) tt so_far.escape first) moved e to_join h

      module _ (escape : Made) (is_escape : Ends (join {P = Unit {0}} (distances n) tt so_far.escape first) budget escape) where
        to_move : LeadsTo (moved escape) escaped budget
        to_move = LeadsTo-later moved is_escape to_join

        pub moves_error : (e : CrowdError) → IsErrorOf (make tt escape.1 (shortened n reached)) budget e → IsErrorOf escaped budget e
        moves_error e h = item_error (distances n) (shortened n reached) (so_far.moves, escape.1) (λ moves. Give (ended escape moves)) to_move e h

        module _ (second : Made) (is_second : Ends (make {P = Unit {0}} tt escape.1 (shortened n reached)) budget second) where
          to_end : LeadsTo (bind (join {P = Unit {0}} (distances n) tt so_far.moves second) (λ moves. Give (ended escape moves))) escaped budget
          to_end = item_made (distances n) (shortened n reached) (so_far.moves, escape.1) (λ moves. Give (ended escape moves)) to_move second is_second

          pub moves_unjoined : (e : CrowdError) → IsErrorOf (join (distances n) tt so_far.moves second) budget e → IsErrorOf escaped budget e
          moves_unjoined e h = first_error (join (distances n) tt so_far.moves second) (λ moves. Give (ended escape moves)) e to_end h

          pub escape_ends : (moves : Made) → Ends (join {P = Unit {0}} (distances n) tt so_far.moves second) budget moves → Ends escaped budget (ended escape moves)
          escape_ends moves h = (LeadsTo-later (λ moves. Give (ended escape moves)) h to_end).ends (ended escape moves) (Ends-give budget (ended escape moves))

-- of each tuple that is reached it is known whether it is kept
decided : (n : ℕ) (kept : Option Automaton) → IfSome kept (IsFilledOn (distances n)) → (tuple : List ℤ) → Member (as_set kept) tuple ⊎ ¬ Member (as_set kept) tuple
decided n None is tuple = inr (λ never. never)
decided n (Some a) is tuple = table_decided a (subst IsAscending (sym is.reached.decides.tracks_are) (distances-ascend n)) is.reached.decides.integers tuple

pub all_known : (n : ℕ) (a : Automaton) (kept : Option Automaton) → DecidesOn (distances n) a → IfSome kept (IsFilledOn (distances n))
    → (tuple : List ℤ) → Member (Table a) tuple → Member (known_of n (as_set kept)) tuple
all_known n a kept on is tuple h =
    let v : Values = word_values a.tracks h.word in
    let over : values_at (distances n) v ≡ tuple = ap (λ (vars : List Var). values_at vars v) (sym on.tracks_are) ∙ h.values in
    let told : Member (as_set kept) (values_at (distances n) v) ⊎ ¬ Member (as_set kept) (values_at (distances n) v) = decided n kept is (values_at (distances n) v) in
    record { values = v; is_tuple = ap (λ (vars : List Var). values_at vars v) (free_known n) ∙ over; holds = told }

module _ (p : Position) (winner : Side) (then_kept : List Opt → Made → Program Found) (s : List Opt) (reached : SetOf) where
  -- one more option of the winner
  module _ (o : Opt) (so_far : Found) (budget : ℕ) where
    abbrev pub won : Program Found
    won = win_option p winner then_kept s reached o so_far

    abbrev won_later : Made → Program Found
    won_later next = Ask (Empty (next.0 ∷ [])) (Give (record { set = so_far.set; at = next.1; known = so_far.known })) (won_by p winner then_kept s reached o next so_far)

    abbrev with_kept : Found → Program Found
    with_kept inner =
        bind (with_item (distances (length s)) tt (shortened (length s) inner.set) (so_far.set, inner.at))
        (λ made. Give (record { set = made.0; at = made.1; known = so_far.known && inner.known }))

    pub won_unreached : (e : CrowdError) → IsErrorOf (reach p winner s o (reached, so_far.at)) budget e → IsErrorOf won budget e
    won_unreached e h = Error-bind (reach p winner s o (reached, so_far.at)) won_later budget (as_plan_error e) h

    module _ (next : Made) (is_next : Ends (reach p winner s o (reached, so_far.at)) budget next) where
      pub won_nowhere : IsEmpty next.0 → Ends won budget (record { set = so_far.set; at = next.1; known = so_far.known })
      won_nowhere empty =
          (leads_yes (Empty (next.0 ∷ [])) (Give (record { set = so_far.set; at = next.1; known = so_far.known })) (won_by p winner then_kept s reached o next so_far) (inl empty)
          (LeadsTo-later won_later is_next (LeadsTo-self won budget))).ends (record { set = so_far.set; at = next.1; known = so_far.known })
          (Ends-give budget (record { set = so_far.set; at = next.1; known = so_far.known }))

      module _ (some : ¬ IsEmpty next.0) where
        to_kept : LeadsTo (won_by p winner then_kept s reached o next so_far) won budget
        to_kept =
            leads_no (Empty (next.0 ∷ [])) (Give (record { set = so_far.set; at = next.1; known = so_far.known })) (won_by p winner then_kept s reached o next so_far) (some, tt)
            (LeadsTo-later won_later is_next (LeadsTo-self won budget))

        pub won_unkept : (e : CrowdError) → IsErrorOf (then_kept (o ∷ s) next) budget e → IsErrorOf won budget e
        won_unkept e h = first_error (then_kept (o ∷ s) next) with_kept e to_kept h

        -- nothing is kept
        pub won_none : (last : ℕ) → Ends (then_kept (o ∷ s) next) budget (found_at last None) → Ends won budget (record { set = so_far.set; at = last; known = so_far.known && true })
        won_none last h =
            (LeadsTo-later (λ made. Give (record { set = made.0; at = made.1; known = so_far.known && true }))
            (nothing_joined (distances (length s)) (length s) budget (so_far.set, last)) (LeadsTo-later with_kept h to_kept)).ends
            (record { set = so_far.set; at = last; known = so_far.known && true })
            (Ends-give budget (record { set = so_far.set; at = last; known = so_far.known && true }))

        module _ (inner : Found) (is_inner : Ends (then_kept (o ∷ s) next) budget inner) where
          to_item : LeadsTo (with_kept inner) won budget
          to_item = LeadsTo-later with_kept is_inner to_kept

          pub won_unmade : (e : CrowdError) → IsErrorOf (make tt inner.at (shortened (length s) inner.set)) budget e → IsErrorOf won budget e
          won_unmade e h =
              item_error (distances (length s)) (shortened (length s) inner.set) (so_far.set, inner.at)
              (λ made. Give (record { set = made.0; at = made.1; known = so_far.known && inner.known })) to_item e h

          pub won_answers : (made : Made) → Ends (make {P = Unit {0}} tt inner.at (shortened (length s) inner.set)) budget made → (last : ℕ) (r : Result (Option Automaton) CrowdError)
              → Answers (join (distances (length s)) tt so_far.set made) budget (made_at last) r
              → Answers won budget (λ set. record { set = as_set set; at = last; known = so_far.known && inner.known }) r
          won_answers made is_made last r h =
              last_answers (join (distances (length s)) tt so_far.set made) (λ made. record { set = made.0; at = made.1; known = so_far.known && inner.known }) (made_at last) r
              (item_made (distances (length s)) (shortened (length s) inner.set) (so_far.set, inner.at)
              (λ made. Give (record { set = made.0; at = made.1; known = so_far.known && inner.known })) to_item made is_made) h

  -- one more option of the loser
  module _ (o : Opt) (at : ℕ) (lost : LoserProgress) (budget : ℕ) where
    abbrev pub lost_with : Program Lost
    lost_with = lose_option p winner then_kept s reached o (losing_at at lost)

    abbrev lost_later : Made → Program Lost
    lost_later next = Ask (Empty (next.0 ∷ [])) (Give (losing_at next.1 lost)) (lost_by p winner then_kept s reached o next (losing_at at lost))

    abbrev ended_by : Found → Bool → Made → Made → Lost
    ended_by inner sure escape moves = record { escape = escape.0; moves = moves.0; at = moves.1; known = true && (inner.known && sure) }

    abbrev if_sure : Made → Found → Bool → Program Lost
    if_sure next inner sure =
        bind (shorten_rest p winner s next.0 inner.set (as_set lost.escape, inner.at))
        (λ escape. bind (with_item (distances (length s)) tt (shortened (length s) next.0) (as_set lost.moves, escape.1)) (λ moves. Give (ended_by inner sure escape moves)))

    abbrev lost_kept : Made → Found → Program Lost
    lost_kept next inner = bind (is_known p winner (o ∷ s) next.0 inner.set) (if_sure next inner)

    pub lost_unreached : (e : CrowdError) → IsErrorOf (reach p winner s o (reached, at)) budget e → IsErrorOf lost_with budget e
    lost_unreached e h = Error-bind (reach p winner s o (reached, at)) lost_later budget (as_plan_error e) h

    module _ (next : Made) (is_next : Ends (reach p winner s o (reached, at)) budget next) where
      pub lost_nowhere : IsEmpty next.0 → Ends lost_with budget (losing_at next.1 lost)
      lost_nowhere empty =
          (leads_yes (Empty (next.0 ∷ [])) (Give (losing_at next.1 lost)) (lost_by p winner then_kept s reached o next (losing_at at lost)) (inl empty)
          (LeadsTo-later lost_later is_next (LeadsTo-self lost_with budget))).ends (losing_at next.1 lost) (Ends-give budget (losing_at next.1 lost))

      module _ (some : ¬ IsEmpty next.0) where
        to_lost : LeadsTo (lost_by p winner then_kept s reached o next (losing_at at lost)) lost_with budget
        to_lost =
            leads_no (Empty (next.0 ∷ [])) (Give (losing_at next.1 lost)) (lost_by p winner then_kept s reached o next (losing_at at lost)) (some, tt)
            (LeadsTo-later lost_later is_next (LeadsTo-self lost_with budget))

        pub lost_unkept : (e : CrowdError) → IsErrorOf (then_kept (o ∷ s) next) budget e → IsErrorOf lost_with budget e
        lost_unkept e h = first_error (then_kept (o ∷ s) next) (lost_kept next) e to_lost h

        module _ (last : ℕ) (kept_set : Option Automaton) (is_kept : Ends (then_kept (o ∷ s) next) budget (found_at last kept_set))
            (known : (tuple : List ℤ) → Member next.0 tuple → Member (known_of (suc (length s)) (as_set kept_set)) tuple) where
          to_escape : LeadsTo (escape_by (length s) next.0 (as_set kept_set) (losing_at last lost)) lost_with budget
          to_escape =
              leads_yes (Within next.0 (known_of (suc (length s)) (as_set kept_set))) (if_sure next (found_at last kept_set) true) (if_sure next (found_at last kept_set) false) known
              (LeadsTo-later (lost_kept next) is_kept to_lost)

          pub lost_answers : (end : ℕ) (r : Result LoserProgress CrowdError) → Answers (escape_by (length s) next.0 (as_set kept_set) (losing_at last lost)) budget (losing_at end) r
              → Answers lost_with budget (losing_at end) r
          lost_answers end r h = leads_answers (losing_at end) r to_escape h

  -- all options of the loser have been tried
  module _ (at budget : ℕ) where
    abbrev pub lost_first : Lost
    lost_first = record { escape = Nothing; moves = Nothing; at = at; known = true }

    abbrev pub lost_all : Program Lost
    lost_all = each (options_at p s) (lose_option p winner then_kept s reached) lost_first

    abbrev pub checks : Lost → Program Made
    checks lost = unite (distances (length s)) tt (Nothing, lost.at) (map (λ b. narrowed (length s) (bear_after p s b) reached) (threats_at p s))

    abbrev given : Lost → Made → Found
    given lost left = record { set = left.0; at = left.1; known = lost.known }

    abbrev with_all : Lost → Made → Program Found
    with_all lost all = bind (rest_of (length s) all lost.escape) (λ left. Give (given lost left))

    abbrev with_checks : Lost → Made → Program Found
    with_checks lost check = bind (join (distances (length s)) tt check.0 (lost.moves, check.1)) (with_all lost)

    abbrev with_lost : Lost → Program Found
    with_lost lost = bind (checks lost) (with_checks lost)

    pub lose_unlost : (e : CrowdError) → IsErrorOf lost_all budget e → IsErrorOf (lose p winner then_kept s reached at) budget e
    lose_unlost e h = Error-bind lost_all with_lost budget (as_plan_error e) h

    module _ (lost : Lost) (is_lost : Ends lost_all budget lost) where
      to_checks : LeadsTo (with_lost lost) (lose p winner then_kept s reached at) budget
      to_checks = LeadsTo-later with_lost is_lost (LeadsTo-self (lose p winner then_kept s reached at) budget)

      pub lose_unchecked : (e : CrowdError) → IsErrorOf (checks lost) budget e → IsErrorOf (lose p winner then_kept s reached at) budget e
      lose_unchecked e h = first_error (checks lost) (with_checks lost) e to_checks h

      module _ (check : Made) (is_check : Ends (checks lost) budget check) where
        to_all : LeadsTo (with_checks lost check) (lose p winner then_kept s reached at) budget
        to_all = LeadsTo-later (with_checks lost) is_check to_checks

        pub lose_unjoined : (e : CrowdError) → IsErrorOf (join (distances (length s)) tt check.0 (lost.moves, check.1)) budget e
            → IsErrorOf (lose p winner then_kept s reached at) budget e
        lose_unjoined e h = first_error (join (distances (length s)) tt check.0 (lost.moves, check.1)) (with_all lost) e to_all h

        pub lose_answers : (all : Made) → Ends (join {P = Unit {0}} (distances (length s)) tt check.0 (lost.moves, check.1)) budget all
            → (last : ℕ) (r : Result (Option Automaton) CrowdError) → Answers (rest_of (length s) all lost.escape) budget (made_at last) r
            → Answers (lose p winner then_kept s reached at) budget (λ set. record { set = as_set set; at = last; known = lost.known }) r
        lose_answers all is_all last r h =
            last_answers (rest_of (length s) all lost.escape) (given lost) (made_at last) r (LeadsTo-later (with_all lost) is_all to_all) h

-- what is kept after a path with some moves left is by whose turn it is
module _ {R : Type 0} (p : Position) (winner : Side) (left before : ℕ) (s : List Opt) (reached : SetOf) (at budget : ℕ) (view : R → Found) (r : Result R CrowdError) (is : left ≡ suc before) where
  by_turn : (b : Bool) → is_side (turn_at p s) winner ≡ b → Answers (kept_by p winner (kept p winner before) s reached b at) budget view r
      → Answers (kept p winner left s (reached, at)) budget view r
  by_turn b turn h =
      subst (λ n. Answers (kept p winner n s (reached, at)) budget view r) (sym is)
      (subst (λ c. Answers (kept_by p winner (kept p winner before) s reached c at) budget view r) (sym turn) h)

  pub kept_wins : is_side (turn_at p s) winner ≡ true → Answers (win p winner (kept p winner before) s reached at) budget view r → Answers (kept p winner left s (reached, at)) budget view r
  kept_wins turn h = by_turn true turn h

  pub kept_loses : is_side (turn_at p s) winner ≡ false → Answers (lose p winner (kept p winner before) s reached at) budget view r → Answers (kept p winner left s (reached, at)) budget view r
  kept_loses turn h = by_turn false turn h

-- with none left nothing is kept
pub kept_nothing : (p : Position) (winner : Side) (left : ℕ) (s : List Opt) (reached : SetOf) (at budget : ℕ) → left ≡ 0 → Ends (kept p winner left s (reached, at)) budget (found_at at None)
kept_nothing p winner left s reached at budget is =
    subst (λ n. Ends (kept p winner n s (reached, at)) budget (found_at at None)) (sym is) (Ends-give budget (found_at at None))

pub none_is_empty : (set : Option Automaton) → set ≡ None → IsEmpty (as_set set)
none_is_empty None e = λ tuple never. never
none_is_empty (Some a) e = absurd (cc)

-- a filled set is not empty
pub filled_is_some : (tracks : List Var) (set : Option Automaton) (a : Automaton) → set ≡ Some a → IfSome set (IsFilledOn tracks) → IsFilledOn tracks a
filled_is_some tracks None a e h = absurd (cc)
filled_is_some tracks (Some b) a e h = let same : b ≡ a = cc in subst (IsFilledOn tracks) same h
