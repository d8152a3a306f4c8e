-- What a defence keeps, move by move.
use Rattle.std.proofs.Common.{◌≡◌, ◌↔◌, inl, inr, ℕ, zero, suc, ◌<◌, ◌≤◌, List, [], ◌∷◌, Option, Some, refl, sym, ap, subst, ◌∙◌, arith}
use Rattle.std.specs.Prelude.{slice_get}
use Rattle.std.proofs.lemmas.Bool.{cases_lt}
use Rattle.std.proofs.lemmas.Option.{same_Some}
use Rattle.auto_core.specs.Automaton.{Automaton}
use Rattle.game_rules.specs.declared.men.Square.{Square}
use Rattle.game_rules.specs.Game.{Position, HasMove, Legal, Sound, Value, other}
use Rattle.game_laws.proofs.DecideLemmas.{Decided, not_decided}
use Rattle.game_laws.proofs.MoveLemmas.{same_after}
use Rattle.game_laws.proofs.SoundLemmas.{side_or_other}
use Rattle.chess_game.specs.declared.moves.Move.{Move}
use Rattle.chess_game.specs.declared.way.Frame.{Frame}
use Rattle.mask_sets.specs.Sets.{HaveAtMost, IsIn, Table}
use Rattle.game_laws.specs.Sets.{LeadsInto}
use Rattle.winning_sets.specs.Kept.{moves_left}
use Rattle.winning_sets.specs.Reach.{Reach}
use Rattle.winning_sets.specs.Solve.{IsSolution, Solution, end_of}
use Rattle.winning_sets.specs.declared.origin.Origin.TheVariants.{Plan}
use Rattle.winning_sets.proofs.KeptParts.{reached_sound, value_win}
use Rattle.move_choice.specs.Aims.{AreNext}
use Rattle.move_choice.specs.Choice.{Pick}
use Rattle.move_choice.specs.declared.choice.Choice.{Choice}
use Rattle.winner_session.specs.Game.{Game, made_in, moved_to, start_of}
use Rattle.winner_session.proofs.Games.{none_get}
use Rattle.loser_session.specs.Leading.{LeadsNowhere}
use Rattle.loser_session.specs.Defending.{CanDefend, Continues, DefencePick, Defends, HasMovesLeft, IsDefence, IsDefended, IsLosersTurn, IsNextUnwon, IsSaved, IsWinnersTurn, LoserContinues, seen, StandsAs}
use Rattle.loser_session.specs.Unwon.{AreUnwonPlies, HaveRoom, IsUnwon, IsWon, table_into}
use Rattle.loser_session.specs.declared.defence.Stand.{Stand}
use Rattle.loser_session.specs.declared.defence.Stand.TheVariants.{Held, Stuck, Attack, Answer}
use Rattle.loser_session.proofs.FirstSteps.{moves_known}
use Rattle.loser_session.proofs.Matches.{first_unwon, his_next, made_within, not_all_won, pick_unwon, two_left, typed_unwon, unmated}
use Rattle.loser_session.proofs.UnwonParts.{kept_or_not, not_won}
use Rattle.loser_session.proofs.UnwonTables.{are_next, leads_same, moves_unwon, nowhere_same, pick_same, table_few}

module _ (g : Game) (keeps : IsDefence g) where
  pub defence_sound : Sound g.position
  defence_sound = reached_sound g.solution.position keeps.valid.sound g.ply g.position keeps.unwon.reached

  -- with the loser to move
  module _ (turn : IsLosersTurn (seen g)) where
    -- a legal move to a position that is not won keeps the defence
    pub pick_keeps : HasMovesLeft (seen g) → {i : ℕ} {z : Square} {q : Position} → Legal g.position i z q → IsNextUnwon (seen g) q → IsDefence (moved_to g q)
    pick_keeps on legal unwon = record { plan = keeps.plan; valid = keeps.valid; unwon = pick_unwon (seen g) keeps.unwon turn on legal unwon }

    -- it is known of each legal move whether it leads to a position that is won
    won_or_not : HasMovesLeft (seen g) → (i : ℕ) (z : Square) (q : Position) → Legal g.position i z q → Decided (IsWon g.solution (suc g.ply) q)
    won_or_not on i z q legal =
        let two = two_left (seen g) keeps.unwon on in
        let reached : Reach g.solution.position (suc g.ply) q = (g.position, keeps.unwon.reached, (i, z, legal)) in
        elim (kept_or_not g.solution keeps.valid (suc g.ply) (omega (arith, two)) q reached) [
          | inl kept ↦ inl (value_win g.solution.winner (moves_left (end_of g.solution) (suc g.ply)) q (his_next (seen g) keeps.unwon turn legal) kept.value)
          | inr off ↦ inr (λ win. off (record { reached = reached; value = inl win }))
        ]

    pub unwon_or_not : HasMovesLeft (seen g) → (i : ℕ) (z : Square) (q : Position) → Legal g.position i z q → Decided (IsNextUnwon (seen g) q)
    unwon_or_not on i z q legal = not_decided (IsWon g.solution (suc g.ply) q) (won_or_not on i z q legal)

  -- with the winner to move, his legal move keeps the defence
  pub typed_keeps : IsWinnersTurn (seen g) → HasMovesLeft (seen g) → {i : ℕ} {z : Square} {q : Position} → Legal g.position i z q → IsDefence (moved_to g q)
  typed_keeps turn on legal = record { plan = keeps.plan; valid = keeps.valid; unwon = typed_unwon (seen g) keeps.unwon turn on legal }

  -- on either turn, a position that a legal move leads to is reached
  reached_unwon : {i : ℕ} {z : Square} {q : Position} → Legal g.position i z q → IsUnwon g.solution (suc g.ply) q ↔ IsNextUnwon (seen g) q
  reached_unwon {i} {z} {q} legal = (λ h. h.not_won, λ h. record { reached = (g.position, keeps.unwon.reached, (i, z, legal)); not_won = h })

  -- the sets of the next ply, as they are lent
  module _ (plies : List (List Automaton)) (unwon : AreUnwonPlies g.solution plies) (on : HasMovesLeft (seen g)) (t : Table) (is : t ≡ table_into g.solution plies (suc g.ply)) where
    within : suc g.ply < end_of g.solution
    within = two_left (seen g) keeps.unwon on

    pub lent_next : AreNext g.position t
    lent_next = subst (AreNext g.position) (sym is) (are_next g.solution keeps.valid plies unwon g.ply within g.position keeps.unwon.reached)

    pub lent_few : (states : ℕ) → HaveRoom states g.solution plies → HaveAtMost states t
    lent_few states room = subst (HaveAtMost states) (sym is) (table_few g.solution plies states (suc g.ply) room within)

    -- a legal move leads into them if and only if it leads to a position that is not won
    lent_same : (i : ℕ) (z : Square) (q : Position) → Legal g.position i z q → IsIn t q ↔ IsNextUnwon (seen g) q
    lent_same i z q legal =
        let in_sets = moves_unwon g.solution keeps.valid plies unwon g.ply within g.position keeps.unwon.reached legal in
        let next = reached_unwon legal in
        (λ h. next.0 (in_sets.0 (subst (λ u. IsIn u q) is h)), λ h. subst (λ u. IsIn u q) (sym is) (in_sets.1 (next.1 h)))

    pub lent_pick : (o : Option Choice) → Pick (IsIn t) g.frame g.position o → DefencePick (seen g) o
    lent_pick o pick = pick_same (IsIn t) (IsNextUnwon (seen g)) g.frame g.position lent_same o pick

    pub lent_leads : LeadsInto (IsIn t) g.position → CanDefend (seen g)
    lent_leads leads = leads_same (IsIn t) (IsNextUnwon (seen g)) g.frame g.position lent_same leads

    pub lent_nowhere : LeadsNowhere (IsIn t) g.position → LeadsNowhere (IsNextUnwon (seen g)) g.position
    lent_nowhere none = nowhere_same (IsIn t) (IsNextUnwon (seen g)) g.frame g.position lent_same none

  -- where no legal move leads to a position that is not won, there is no legal move
  pub none_moves : HasMovesLeft (seen g) → LeadsNowhere (IsNextUnwon (seen g)) g.position → HasMove g.position → ⊥
  none_moves on none moves =
      elim (side_or_other g.position.turn g.solution.winner) [
        | inl his ↦
            let (i, z, q, legal) = moves in
            none i z q legal
            (not_won g.solution.winner (moves_left (end_of g.solution) (suc g.ply)) q (legal.step.after.turn ∙ ap other his))
        | inr turn ↦ not_all_won (seen g) keeps.unwon turn moves (λ i z q legal. elim (won_or_not turn on i z q legal) [ inl won ↦ won | inr unwon ↦ absurd (none i z q legal unwon) ])
      ]

pub moves_of : {S : Position → Type 0} (p : Position) → LeadsInto S p → HasMove p
moves_of p (q, (i, z, legal), is) = (i, z, q, legal)

-- the first game
pub first_defence : (s : Solution) (f : Frame) → s.origin ≡ Plan → IsSolution s → (Value s.winner s.moves s.position → ⊥) → IsDefence (start_of s f)
first_defence s f plan valid none = record { plan = plan; valid = valid; unwon = first_unwon (seen (start_of s f)) refl refl none }

pub saved : {g : Game} (after : Game) → IsDefence after → after.solution ≡ g.solution → IsSaved g after
saved {g} after keeps same = record {
  same = same;
  within = subst (λ (s : Solution). made_in after ≤ s.moves) same (made_within (seen after) keeps.unwon);
  not_mated = unmated (seen after) keeps.unwon;
}

-- so does the loser's pick
pub defended_keeps : {g : Game} (after : Game) (choice : Choice) → IsDefence g → HasMovesLeft (seen g) → IsLosersTurn (seen g) → IsDefended g choice after → IsDefence after
defended_keeps {g} after choice keeps on turn h =
    let same : h.pick.position ≡ after.position = same_after h.pick.leads.legal.step.after h.legal.step.after in
    let unwon : IsNextUnwon (seen g) after.position = subst (IsNextUnwon (seen g)) same h.pick.leads.is_in in
    subst IsDefence (sym h.is_after) (pick_keeps g keeps turn on h.legal unwon)

abbrev EachSaved : Game → List Game → Type 0
EachSaved g games = (k : ℕ) (after : Game) → slice_get games k ≡ Some after → IsSaved g after

-- one more game before
more_saved : (g next : Game) (games later : List Game) → games ≡ next ∷ later → next.solution ≡ g.solution → IsDefence next → EachSaved next later → EachSaved g games
more_saved g next games later is same keeps rest k after at = by k (ap (λ l. slice_get l k) (sym is) ∙ at)
  where
    by : (k : ℕ) → slice_get (next ∷ later) k ≡ Some after → IsSaved g after
    by zero here = subst (IsSaved g) (same_Some next after here) (saved next keeps same)
    by (suc k) there =
        let h = rest k after there in
        record {
          same = h.same ∙ same;
          within = subst (λ (s : Solution). made_in after ≤ s.moves) same h.within;
          not_mated = h.not_mated;
        }

loser_saved : {g : Game} (On : Game → List Game → Type 0) (games : List Game) → IsDefence g → LoserContinues On g games
    → ((next : Game) (later : List Game) → IsDefence next → On next later → EachSaved next later) → EachSaved g games
loser_saved On games keeps (inl (stands, none)) go k after is = absurd (none_get games k after none is)
loser_saved On games keeps (inr (inl (stands, wide, none))) go k after is = absurd (none_get games k after none is)
loser_saved {g} On games keeps (inr (inr (stands, (choice, next, later, defended, is_games, goes)))) go k after is =
    let kept = defended_keeps next choice keeps stands.0 stands.2 defended in
    let same : next.solution ≡ g.solution = ap (λ h. h.solution) defended.is_after in
    more_saved g next games later is_games same kept (go next later kept goes) k after is

goes_saved : {g : Game} (typed : List Move) (games : List Game) → IsDefence g → Continues g typed games → EachSaved g games
goes_saved [] games keeps goes k after is = absurd (none_get games k after goes is)
goes_saved (mv ∷ typed) games keeps (inl (stands, none)) k after is = absurd (none_get games k after none is)
goes_saved (mv ∷ typed) games keeps (inr (inl (stands, refused, goes))) k after is = goes_saved typed games keeps goes k after is
goes_saved {g} (mv ∷ typed) games keeps (inr (inr (stands, (q, later, legal, is_games, goes)))) k after is =
    let next : IsDefence (moved_to g q) = typed_keeps g keeps stands.2 stands.0 legal in
    more_saved g (moved_to g q) games later is_games refl next
    (loser_saved (λ h rest. Continues h typed rest) later next goes (λ h rest kept on j at there. goes_saved typed rest kept on j at there)) k after is

pub all_saved : (g : Game) (typed : List Move) (games : List Game) → IsDefence g → Defends g typed games → EachSaved g games
all_saved g typed games keeps (inl (turn, goes)) k after is = goes_saved typed games keeps goes k after is
all_saved g typed games keeps (inr (turn, goes)) k after is =
    loser_saved (λ h rest. Continues h typed rest) games keeps goes (λ h rest kept on j at there. goes_saved typed rest kept on j at there) k after is

-- a defence stands in some way: it is known whether there is a legal move
pub some_stand : (g : Game) → IsDefence g → (stand : Stand) × StandsAs (seen g) stand
some_stand g keeps = elim (cases_lt (made_in g) g.solution.moves) [
  | inr all ↦ let few = made_within (seen g) keeps.unwon in (Held, omega (arith, all, few))
  | inl left ↦ elim (moves_known g.position (defence_sound g keeps)) [
    | inr none ↦ (Stuck, (left, none))
    | inl moves ↦ elim (side_or_other g.position.turn g.solution.winner) [
      | inl his ↦ (Attack, (left, moves, his))
      | inr turn ↦ (Answer, (left, moves, turn))
    ]
  ]
]
