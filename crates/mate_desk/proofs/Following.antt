-- What comes after each move of the winner in a game that is reported.
use Rattle.std.proofs.Common.{◌≡◌, ◌⊎◌, ℕ, zero, suc, ◌+◌, ◌*◌, ◌-◌, ◌/◌, ◌≤◌, List, [], ◌∷◌, ◌++◌, Option, Some, None, slice_get, inl, inr, refl, sym, ◌∙◌, ap, subst, arith, append-nil, codes}
use Rattle.std.proofs.lemmas.Option.{same_Some}
use Rattle.desk_base.specs.Files.{Files}
use Rattle.desk_base.specs.Lines.{Lines}
use Rattle.game_rules.specs.Game.{Legal, Lost, Position, Value, Win, other}
use Rattle.game_rules.specs.declared.men.Side.{Side}
use Rattle.game_rules.specs.declared.men.Square.{Square}
use Rattle.game_rules.specs.declared.men.Side.TheVariants.{White, Black}
use Rattle.game_laws.proofs.MoveLemmas.{same_after}
use Rattle.game_laws.proofs.SoundLemmas.{side_or_other}
use Rattle.chess_game.specs.declared.moves.Move.{Move}
use Rattle.move_choice.specs.Choice.{Pick, target}
use Rattle.move_choice.specs.declared.choice.Choice.{Choice}
use Rattle.chess_text.specs.declared.replies.Typed.{Typed}
use Rattle.chess_text.specs.declared.replies.Typed.TheVariants as typed
use Rattle.claim_plan.proofs.ClaimLemmas.{claimed_is_lost, won_is_value}
use Rattle.winner_player.specs.WinnerRules.{ByClaim, ByKept, HeldPick, Match, Strategy, moved, winner_rules}
use Rattle.winner_player.proofs.Played.{not_at_rest, reply_his}
use Rattle.play_loop.specs.LineReport.{AtLines, IsReport, LineReport}
use Rattle.play_loop.specs.Turns.{AtMove, AtRest, Comes, OfLine, OfTyped, Turn, moves_first, stopped}
use Rattle.play_loop.specs.declared.ending.Ending.{Ending}
use Rattle.play_loop.specs.declared.ending.Ending.TheVariants.{Quit, Wide}
use Rattle.play_loop.proofs.TurnLemmas.{IsDueIn, comes_lasts, line_lasts}
use Rattle.play_loop.proofs.Walks.{first, walk}
use Rattle.move_choice.specs.Squares.{all_squares}
use Rattle.mate_plan.specs.Claim.{Claim, IsClaim, IsClaimed}
use Rattle.mate_plan.specs.PlanOf.{last_ply}
use Rattle.mate_plan.specs.Won.{Won}
use Rattle.winning_sets.specs.Kept.{Kept, moves_left}
use Rattle.winning_sets.specs.Reach.{Reach}
use Rattle.winning_sets.proofs.KeptParts.{moves_counted}
use Rattle.mate_desk.specs.Laws.{IsKeptGame, IsLostGame, PlayKeeps, PlaysGame}
use Rattle.desk_report.specs.Outcome as desk
use Rattle.desk_games.specs.Play.{PlayReports, first_match}
use Rattle.desk_games.specs.Resume.{claimed_match}
use Rattle.desk_args.specs.declared.order.Order.TheVariants.{Play}
use Rattle.desk_text.specs.declared.problem.Problem.{Problem}
use Rattle.mate_desk.proofs.Exact.{of_text, of_words}

-- after the winner's move of this number
record IsHeldAfter (w : Side) (n : ℕ) (start : Position) (number : ℕ) (after : Match) : Type 0 where
  reached : Reach start after.ply after.position
  few : number + 1 ≤ n
  lost : Lost w (n - (number + 1)) after.position

no_game : (k : ℕ) (after : Match) → slice_get [] k ≡ Some after → ⊥
no_game k after is = absurd (cc)

-- who mates has a move left, and is to move
win_some : (w : Side) (m : ℕ) (p : Position) → Win w m p → (p.turn ≡ w) × (1 ≤ m)
win_some w zero p win = absurd win
win_some w (suc m) p win = (win.0, omega arith)

sides_differ : (w : Side) → w ≡ other w → ⊥
sides_differ White e = absurd (cc)
sides_differ Black e = absurd (cc)

value_win : (w : Side) (m : ℕ) (p : Position) → p.turn ≡ w → Value w m p → Win w m p
value_win w m p turn (inl win) = win
value_win w m p turn (inr lost) = absurd (sides_differ w (sym turn ∙ lost.0))

value_lost : (w : Side) (m : ℕ) (p : Position) → p.turn ≡ other w → Value w m p → Lost w m p
value_lost w m p turn (inl win) = absurd (sides_differ w (sym (win_some w m p win).0 ∙ turn))
value_lost w m p turn (inr lost) = lost

-- after each reply of a lost position the winner mates
reply_wins : (w : Side) (m : ℕ) (p q : Position) (i : ℕ) (z : Square) → Lost w m p → Legal p i z q → Win w m q
reply_wins w m p q i z (turn, inl mate) legal = absurd (mate.stuck i z q legal)
reply_wins w m p q i z (turn, inr (some, each)) legal = each i z q legal

module _ (w : Side) (start : Position) (n : ℕ) (by : Strategy) where
  abbrev at : Position → ℕ → Match
  at p ply = record { winner = w; start = start; moves = n; strategy = by; frame = all_squares; position = p; ply = ply }

  -- the winner's moves lead into these positions, from which the loser is mated in time
  module _ (Held : ℕ → Position → Type 0) (picks : (p : Position) (ply : ℕ) (c : Choice) → HeldPick (at p ply) (Some c) → Pick (Held (suc ply)) all_squares p (Some c))
      (first_ply : ℕ) (lost_at : (j : ℕ) (q : Position) → q.turn ≡ other w → Held (first_ply + 2 * j) q → Lost w (n - (j + 1)) q) where
    -- where j moves of the winner were made before, the games after his next ones
    abbrev Follow : ℕ → List Match → Type 0
    Follow j games = (k m : ℕ) (after : Match) → slice_get games k ≡ Some after → m ≡ j + k → IsHeldAfter w n start m after

    none_follow : (j : ℕ) → Follow j []
    none_follow j k m after is number = absurd (no_game k after is)

    one_more : (j : ℕ) (g : Match) (later : List Match) → IsHeldAfter w n start j g → Follow (j + 1) later → Follow j (g ∷ later)
    one_more j g later held follow zero m after is number =
        let P : Match → Type 0 = λ x. IsHeldAfter w n start m x in
        let Q : ℕ → Type 0 = λ k. IsHeldAfter w n start k g in
        subst P (same_Some g after is) (subst Q (omega (arith, number)) held)
    one_more j g later held follow (suc k) m after is number = follow k m after is (omega (arith, number))

    -- so many moves of the winner were made; the loser is to move and lost, or the winner is and mates
    abbrev LosersTurn : ℕ → Match → Type 0
    LosersTurn j m = (m.position.turn ≡ other w) × (m.ply + 2 ≡ first_ply + 2 * j) × Lost w (n - j) m.position

    abbrev WinnersTurn : ℕ → Match → Type 0
    WinnersTurn j m = (m.position.turn ≡ w) × (m.ply + 1 ≡ first_ply + 2 * j) × Win w (n - j) m.position

    record IsOn (m : Match) : Type 0 where
      number : ℕ
      here : m ≡ at m.position m.ply
      reached : Reach start m.ply m.position
      stands : LosersTurn number m ⊎ WinnersTurn number m

    his_turn : (m : Match) (on : IsOn m) → m.position.turn ≡ m.winner → WinnersTurn on.number m
    his_turn m on turn = elim (on.stands) [
      | inl losers ↦ absurd (sides_differ w (sym (turn ∙ ap (λ (x : Match). x.winner) on.here) ∙ losers.0))
      | inr winners ↦ winners
    ]

    losers_turn : (m : Match) (on : IsOn m) → m.position.turn ≡ other m.winner → LosersTurn on.number m
    losers_turn m on turn = elim (on.stands) [
      | inl losers ↦ losers
      | inr winners ↦ absurd (sides_differ w (sym winners.0 ∙ (turn ∙ ap (λ (x : Match). other x.winner) on.here)))
    ]

    -- after the winner's move the loser is lost in time
    module _ (m : Match) (c : Choice) (q : Position) (on : IsOn m) (turn : m.position.turn ≡ m.winner) (picked : HeldPick m (Some c)) (legal : Legal m.position c.mv.man (target c.mv) q) where
      now : Reach start (suc m.ply) q
      now = (m.position, on.reached, (c.mv.man, target c.mv, legal))

      his : WinnersTurn on.number m
      his = his_turn m on turn

      losers : q.turn ≡ other w
      losers = legal.step.after.turn ∙ ap other his.0

      few_moves : on.number + 1 ≤ n
      few_moves = let some = (win_some w (n - on.number) m.position his.2).1 in omega (arith, some)

      lost_now : Lost w (n - (on.number + 1)) q
      lost_now =
          let pick = picks m.position m.ply c (subst (λ (x : Match). HeldPick x (Some c)) on.here picked) in
          let same : pick.position ≡ q = same_after pick.leads.legal.step.after legal.step.after in
          let count = his.1 in
          let H : Position → Type 0 = λ x. Held (suc m.ply) x in
          let P : ℕ → Type 0 = λ k. Held k q in
          lost_at on.number q losers (subst P (omega (arith, count)) (subst H same pick.leads.is_in))

      held_after : IsHeldAfter w n start on.number (moved m q)
      held_after = record { reached = now; few = few_moves; lost = lost_now }

      on_after : IsOn (moved m q)
      on_after =
          let count = his.1 in
          record { number = on.number + 1; here = ap (λ (x : Match). moved x q) on.here; reached = now; stands = inl (losers, omega (arith, count), lost_now) }

    -- and after a reply the winner mates
    on_reply : (m : Match) (mv : Move) (q : Position) → IsOn m → m.position.turn ≡ other m.winner → Legal m.position mv.man (target mv) q → IsOn (moved m q)
    on_reply m mv q on turn legal =
        let his = losers_turn m on turn in
        let count = his.1 in
        record {
          number = on.number;
          here = ap (λ (x : Match). moved x q) on.here;
          reached = (m.position, on.reached, (mv.man, target mv, legal));
          stands = inr (reply_his m mv q turn legal ∙ ap (λ (x : Match). x.winner) on.here, omega (arith, count), reply_wins w (n - on.number) m.position q mv.man (target mv) his.2 legal);
        }

    -- behind a turn come these games, or none where it ends the game
    record Later (t : Turn Match) (games : List Match) : Type 0 where
      follow : (j : ℕ) → t.after.ply + 2 ≡ first_ply + 2 * j → Follow j games
      ends : (ending : Ending) → t.over ≡ Some ending → games ≡ []

    abbrev TurnFollows : ℕ → Turn Match → Type 0
    TurnFollows j t = (games : List Match) → Later t games → Follow j (t.games ++ games)

    still_follows : (m : Match) (text : List ℕ) (over : Option Ending) (j : ℕ) → m.ply + 2 ≡ first_ply + 2 * j → TurnFollows j (record { text = text; games = []; after = m; over = over })
    still_follows m text over j count games later = later.follow j count

    moved_follows : (m : Match) (c : Choice) (q : Position) (text : List ℕ) (over : Option Ending) (on : IsOn m) → m.position.turn ≡ m.winner → HeldPick m (Some c)
        → Legal m.position c.mv.man (target c.mv) q
        → TurnFollows on.number (moves_first winner_rules c.mv (moved m q) (record { text = text; games = []; after = moved m q; over = over }))
    moved_follows m c q text over on turn picked legal games later =
        let count = (his_turn m on turn).1 in
        one_more on.number (moved m q) games (held_after m c q on turn picked legal) (later.follow (on.number + 1) (omega (arith, count)))

    rest_follows : (m : Match) (c : Choice) (q : Position) (rest : Turn Match) (on : IsOn m) → m.position.turn ≡ m.winner → HeldPick m (Some c)
        → Legal m.position c.mv.man (target c.mv) q → AtRest winner_rules (moved m q) rest → TurnFollows on.number (moves_first winner_rules c.mv (moved m q) rest)
    rest_follows m c q rest on turn picked legal (inl (ending, stands, is)) =
        subst (λ (r : Turn Match). TurnFollows on.number (moves_first winner_rules c.mv (moved m q) r)) (sym is)
        (moved_follows m c q (stopped ending (moved m q)).text (Some ending) on turn picked legal)
    rest_follows m c q rest on turn picked legal (inr (due, is)) =
        subst (λ (r : Turn Match). TurnFollows on.number (moves_first winner_rules c.mv (moved m q) r)) (sym is) (moved_follows m c q [] None on turn picked legal)

    move_follows : (m : Match) (t : Turn Match) (on : IsOn m) → m.position.turn ≡ m.winner → AtMove winner_rules m t → TurnFollows on.number t
    move_follows m t on turn (inl (none, is)) =
        subst (TurnFollows on.number) (sym is) (λ games later. subst (Follow on.number) (sym (later.ends Wide refl)) (none_follow on.number))
    move_follows m t on turn (inr (c, q, rest, picked, legal, at_rest, is)) =
        subst (TurnFollows on.number) (sym is) (rest_follows m c q rest on turn picked legal at_rest)

    quit_follows : (m : Match) (j : ℕ) → TurnFollows j (stopped Quit m)
    quit_follows m j games later = subst (Follow j) (sym (later.ends Quit refl)) (none_follow j)

    typed_follows : (m : Match) (reply : Option Typed) (t : Turn Match) (due : IsDueIn winner_rules IsOn m) → OfTyped winner_rules m reply t → TurnFollows due.0.number t
    unfolding on_reply
    typed_follows m None t due is =
        subst (TurnFollows due.0.number) (sym is) (still_follows m (codes "unreadable\n") None due.0.number (losers_turn m due.0 due.1.0).1)
    typed_follows m (Some typed.Quit) t due is = subst (TurnFollows due.0.number) (sym is) (quit_follows m due.0.number)
    typed_follows m (Some (typed.Move mv)) t due (inl (none, is)) =
        subst (TurnFollows due.0.number) (sym is) (still_follows m (codes "illegal\n") None due.0.number (losers_turn m due.0 due.1.0).1)
    typed_follows m (Some (typed.Move mv)) t due (inr (q, legal, inl rest)) = absurd (not_at_rest (moved m q) t (reply_his m mv q due.1.0 legal) rest)
    typed_follows m (Some (typed.Move mv)) t due (inr (q, legal, inr (turn, goes))) = move_follows (moved m q) t (on_reply m mv q due.0 due.1.0 legal) turn goes

    over_follows : (j : ℕ) (t : Turn Match) (ending : Ending) → TurnFollows j t → t.over ≡ Some ending → Follow j t.games
    over_follows j t ending follows over =
        subst (Follow j) (append-nil t.games) (follows [] (record { follow = λ i count. none_follow i; ends = λ e is. refl }))

    -- where a line is due
    abbrev LinesFollow : Match → LineReport Match → Type 0
    LinesFollow m r = (j : ℕ) → m.ply + 2 ≡ first_ply + 2 * j → Follow j r.games

    on_follows : (j : ℕ) (t : Turn Match) (later : LineReport Match) → TurnFollows j t → t.over ≡ None → LinesFollow t.after later → Follow j (t.games ++ later.games)
    on_follows j t later follows still lines =
        follows later.games (record { follow = lines; ends = λ e over. absurd (let no : None ≡ Some e = sym still ∙ over in cc) })

    same_number : (m : Match) (due : IsDueIn winner_rules IsOn m) (j : ℕ) → m.ply + 2 ≡ first_ply + 2 * j → due.0.number ≡ j
    same_number m due j count = let his = (losers_turn m due.0 due.1.0).1 in omega (arith, his, count)

    on_lasts : (m : Match) (line : List ℕ) (t : Turn Match) → IsDueIn winner_rules IsOn m → OfLine winner_rules m line t → t.over ≡ None → IsDueIn winner_rules IsOn t.after
    on_lasts m line t due of still =
        line_lasts winner_rules IsOn (λ x c q on turn picked legal. on_after x c q on turn picked legal) (λ x mv q on stands legal. on_reply x mv q on stands.0 legal) m line t due of still

    lines_follow : (before read : ℕ) (lines : Lines) (m : Match) (r : LineReport Match) → IsDueIn winner_rules IsOn m → AtLines winner_rules before read lines m r → LinesFollow m r
    lines_follow before read lines m r due h =
        walk winner_rules (IsDueIn winner_rules IsOn) LinesFollow on_lasts
        (λ x ending left on is j count. none_follow j)
        (λ x line t ending left on is over j count. over_follows j t ending (subst (λ i. TurnFollows i t) (same_number x on j count) (typed_follows x is.0 t on is.2)) over)
        (λ x line t later on is still more j count. on_follows j t later (subst (λ i. TurnFollows i t) (same_number x on j count) (typed_follows x is.0 t on is.2)) still more)
        before read lines m r due h

    -- the whole report
    module _ (on : IsOn (at start 0)) where
      first_follows : (t : Turn Match) → Comes winner_rules (at start 0) t → TurnFollows on.number t
      first_follows t (inl (inl (ending, (e, turn, mate), is))) =
          subst (TurnFollows on.number) (sym is) (still_follows (at start 0) (stopped ending (at start 0)).text (Some ending) on.number (losers_turn (at start 0) on turn).1)
      first_follows t (inl (inr ((turn, none), is))) =
          subst (TurnFollows on.number) (sym is) (still_follows (at start 0) [] None on.number (losers_turn (at start 0) on turn).1)
      first_follows t (inr (turn, goes)) = move_follows (at start 0) t on turn goes

      first_lasts : (t : Turn Match) → Comes winner_rules (at start 0) t → t.over ≡ None → IsDueIn winner_rules IsOn t.after
      first_lasts t comes still =
          comes_lasts winner_rules IsOn (λ x c q o turn picked legal. on_after x c q o turn picked legal) (λ x mv q o stands legal. on_reply x mv q o stands.0 legal) (at start 0) t on comes still

      report_follows : (before : ℕ) (lines : Lines) (r : LineReport Match) → IsReport winner_rules before lines (at start 0) r → Follow on.number r.games
      report_follows before lines r h =
          first winner_rules LinesFollow (λ x. Follow on.number x.games) (at start 0)
          (λ t ending left comes over. over_follows on.number t ending (first_follows t comes) over)
          (λ t later comes still more. on_follows on.number t later (first_follows t comes) still more) before lines
          (λ t later comes still at_lines. lines_follow before 0 lines t.after later (first_lasts t comes still) at_lines) r h

half_first : (m : ℕ) → (1 + 2 * m + 1) / 2 ≡ m + 1
half_first m = omega arith

half_second : (m : ℕ) → (2 + 2 * m) / 2 ≡ m + 1
half_second m = omega arith

all_left : (n : ℕ) → n ≡ n - 0
all_left n = omega arith

module _ (w : Side) (start : Position) (n : ℕ) (by : Strategy) (Held : ℕ → Position → Type 0)
    (picks : (p : Position) (ply : ℕ) (c : Choice) → HeldPick (at w start n by p ply) (Some c) → Pick (Held (suc ply)) all_squares p (Some c))
    (lost_in : (ply : ℕ) (q : Position) → q.turn ≡ other w → Held ply q → Lost w (moves_left (last_ply w start.turn n) ply) q) where
  lost_first : start.turn ≡ w → (j : ℕ) (q : Position) → q.turn ≡ other w → Held (1 + 2 * j) q → Lost w (n - (j + 1)) q
  lost_first turn j q his held =
      let left : moves_left (last_ply w start.turn n) (1 + 2 * j) ≡ n - (j + 1) =
      ap (λ s. moves_left (last_ply w s n) (1 + 2 * j)) turn ∙ (moves_counted w n (1 + 2 * j)).0 ∙ ap (λ x. n - x) (half_first j) in
      let P : ℕ → Type 0 = λ m. Lost w m q in subst P left (lost_in (1 + 2 * j) q his held)

  lost_second : start.turn ≡ other w → (j : ℕ) (q : Position) → q.turn ≡ other w → Held (2 + 2 * j) q → Lost w (n - (j + 1)) q
  lost_second turn j q his held =
      let left : moves_left (last_ply w start.turn n) (2 + 2 * j) ≡ n - (j + 1) =
      ap (λ s. moves_left (last_ply w s n) (2 + 2 * j)) turn ∙ (moves_counted w n (2 + 2 * j)).1 ∙ ap (λ x. n - x) (half_second j) in
      let P : ℕ → Type 0 = λ m. Lost w m q in subst P left (lost_in (2 + 2 * j) q his held)

  on_start : Value w n start → (turn : (start.turn ≡ w) ⊎ (start.turn ≡ other w)) → (before : ℕ) (lines : Lines) (r : LineReport Match)
      → IsReport winner_rules before lines (at w start n by start 0) r → (k : ℕ) (after : Match) → slice_get r.games k ≡ Some after → IsHeldAfter w n start k after
  on_start value (inl turn) before lines r h k after is =
      let P : ℕ → Type 0 = λ m. Win w m start in
      let win = subst P (all_left n) (value_win w n start turn value) in
      report_follows w start n by Held picks 1 (lost_first turn)
      (record { number = 0; here = refl; reached = refl; stands = inr (turn, omega arith, win) }) before lines r h k k after is (omega arith)
  on_start value (inr turn) before lines r h k after is =
      let P : ℕ → Type 0 = λ m. Lost w m start in
      let lost = subst P (all_left n) (value_lost w n start turn value) in
      report_follows w start n by Held picks 2 (lost_second turn)
      (record { number = 0; here = refl; reached = refl; stands = inl (turn, omega arith, lost) }) before lines r h k k after is (omega arith)

  report_after : Value w n start → (before : ℕ) (lines : Lines) (r : LineReport Match) → IsReport winner_rules before lines (at w start n by start 0) r → (k : ℕ) (after : Match)
      → slice_get r.games k ≡ Some after → IsHeldAfter w n start k after
  report_after value before lines r h k after is = on_start value (side_or_other start.turn w) before lines r h k after is

-- after the winner's move the loser is mated within the moves that the winner has left
report_keeps : (n : ℕ) (problem : Problem) → Value problem.winner n problem.position → (before : ℕ) (lines : Lines) (r : LineReport Match) → IsReport winner_rules before lines (first_match n problem) r
    → (k : ℕ) (after : Match) → slice_get r.games k ≡ Some after → IsKeptGame n problem k after
report_keeps n problem value before lines r report k after is =
    let w = problem.winner in
    let start = problem.position in
    let h = report_after w start n ByKept (Kept w start n) (λ p ply c pick. pick)
    (λ ply q turn held. value_lost w (moves_left (last_ply w start.turn n) ply) q turn held.value) value before lines r report k after is in
    record { reached = h.reached; few = h.few; lost = h.lost }

-- and so it is in a game by a claim
pub claim_keeps : {c : Claim} → IsClaim c → Won c → (before : ℕ) (lines : Lines) (r : LineReport Match) → IsReport winner_rules before lines (claimed_match c) r
    → (k : ℕ) (after : Match) → slice_get r.games k ≡ Some after → IsLostGame c k after
claim_keeps {c} is_claim won before lines r report k after is =
    let h = report_after c.winner c.position c.moves (ByClaim c) (IsClaimed c) (λ p ply d pick. pick)
    (λ ply q turn held. claimed_is_lost c ply q is_claim won held) (won_is_value c is_claim won) before lines r report k after is in
    record { reached = h.reached; few = h.few; lost = h.lost }

pub says_game : (n budget : ℕ) (problem : Problem) (lines : Lines) (files : Files) (report : desk.Report)
    → PlayReports n budget problem lines files report → PlaysGame n budget problem lines files report
says_game n budget problem lines files report (inl over) = inl over
says_game n budget problem lines files report (inr (fits, inl none)) = inr (inl none)
says_game n budget problem lines files report (inr (fits, inr (value, (played, right, is)))) =
    inr (inr (value, (played, right, is, λ k after at. report_keeps n problem value problem.lines lines played right k after at)))

pub play_keeps : PlayKeeps
play_keeps words bytes files n budget problem rest report ordered at sound reports =
    says_game n budget problem rest files report
    (of_text (λ read behind. PlayReports n budget read behind files) files bytes problem rest report at sound (of_words words bytes files (Play n budget) report ordered reports))
