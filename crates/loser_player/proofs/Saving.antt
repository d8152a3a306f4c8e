-- What is kept through a report of a game in which the winner does not mate in time.
use Rattle.std.proofs.Common.{◌≡◌, inl, inr, ℕ, ◌-◌, List, Option, Some, None, refl, sym, subst, arith}
use Rattle.std.specs.List.{All}
use Rattle.std.proofs.lemmas.List.Elements.{All-append, All-cons, All-nil, All-weaker}
use Rattle.desk_base.specs.Lines.{Lines}
use Rattle.game_rules.specs.Game.{Legal, Position, Value}
use Rattle.game_laws.proofs.MoveLemmas.{same_after}
use Rattle.chess_text.specs.declared.replies.Typed.{Typed}
use Rattle.chess_text.specs.declared.replies.Typed.TheVariants as typed
use Rattle.winning_sets.specs.Kept.{moves_left}
use Rattle.move_choice.specs.Choice.{target}
use Rattle.move_choice.specs.declared.choice.Choice.{Choice}
use Rattle.play_loop.specs.LineReport.{IsReport, LineReport}
use Rattle.play_loop.specs.Turns.{AtMove, AtRest, Comes, OfLine, OfTyped, Turn, stopped}
use Rattle.play_loop.specs.declared.ending.Ending.{Ending}
use Rattle.play_loop.specs.declared.ending.Ending.TheVariants as ending
use Rattle.play_loop.specs.declared.player.GameState.TheVariants.{LineDue, ToMove}
use Rattle.play_loop.proofs.Walks.{first, walk}
use Rattle.loser_session.specs.Defending.{DefenceMatch, DefencePick, IsNextUnwon, IsUnwonMatch, last_of, made_of, moved}
use Rattle.loser_session.proofs.Matches.{left_is, made_within, pick_unwon, typed_unwon, unmated}
use Rattle.loser_player.specs.Laws.{IsSavedGame, IsSavedReport}
use Rattle.loser_player.specs.LoserRules.{StandsFor, loser_rules}
use Rattle.loser_player.specs.Playable.{told_turn}

-- the game before its first move
abbrev begun : DefenceMatch → DefenceMatch
begun g = record { winner = g.winner; start = g.start; moves = g.moves; frame = g.frame; position = g.start; ply = 0 }

saved_begun : (g : DefenceMatch) → IsUnwonMatch g → IsSavedGame (begun g) g
saved_begun g unwon =
    let left = left_is g unwon in
    let count : moves_left (last_of g) g.ply ≡ g.moves - made_of g = omega (arith, left) in
    record {
      reached = unwon.reached;
      within = made_within g unwon;
      not_won = λ value. unwon.not_won (subst (λ n. Value g.winner n g.position) (sym count) value);
      not_mated = unmated g unwon;
    }

module _ (start : DefenceMatch) where
  -- the game began as this one did, and is not won
  record GoesOn (g : DefenceMatch) : Type 0 where
    same : begun g ≡ begun start
    unwon : IsUnwonMatch g

  saved_game : (g : DefenceMatch) → GoesOn g → IsSavedGame start g
  saved_game g goes =
      let there : IsSavedGame (begun start) g = subst (λ (m : DefenceMatch). IsSavedGame m g) goes.same (saved_begun g goes.unwon) in
      record { reached = there.reached; within = there.within; not_won = there.not_won; not_mated = there.not_mated }

  -- so it is after the loser's move, and after the winner's
  picked_goes : (g : DefenceMatch) (c : Choice) (q : Position) → GoesOn g → StandsFor g ToMove → DefencePick g (Some c)
      → Legal g.position c.mv.man (target c.mv) q → GoesOn (moved g q)
  picked_goes g c q goes stands pick legal =
      let answer = told_turn g ToMove stands in
      let same : pick.position ≡ q = same_after pick.leads.legal.step.after legal.step.after in
      record { same = goes.same; unwon = pick_unwon g goes.unwon answer.2 answer.0 legal (subst (IsNextUnwon g) same pick.leads.is_in) }

  -- so it is after each move of the loser in a turn, and after the turn, when a line is due, if the game is not over
  record EachGoes (t : Turn DefenceMatch) : Type 0 where
    games : All GoesOn t.games
    after : GoesOn t.after
    due : t.over ≡ None → StandsFor t.after LineDue

  over_goes : (g : DefenceMatch) (ending : Ending) → GoesOn g → EachGoes (stopped ending g)
  over_goes g ending goes = record { games = All-nil GoesOn; after = goes; due = λ none. absurd (cc) }

  rest_goes : (g : DefenceMatch) (t : Turn DefenceMatch) → GoesOn g → AtRest loser_rules g t → EachGoes t
  rest_goes g t goes (inl (ending, stands, is)) = subst EachGoes (sym is) (over_goes g ending goes)
  rest_goes g t goes (inr (due, is)) = subst EachGoes (sym is) (record { games = All-nil GoesOn; after = goes; due = λ none. due })

  move_goes : (g : DefenceMatch) (t : Turn DefenceMatch) → GoesOn g → StandsFor g ToMove → AtMove loser_rules g t → EachGoes t
  move_goes g t goes stands (inl (none, is)) = subst EachGoes (sym is) (over_goes g ending.Wide goes)
  move_goes g t goes stands (inr (choice, q, later, pick, legal, rest, is)) =
      let next = picked_goes g choice q goes stands pick legal in
      let on = rest_goes (moved g q) later next rest in
      subst EachGoes (sym is) (record { games = All-cons GoesOn (moved g q) later.games next on.games; after = on.after; due = on.due })

  comes_goes : (g : DefenceMatch) (t : Turn DefenceMatch) → GoesOn g → Comes loser_rules g t → EachGoes t
  comes_goes g t goes (inl rest) = rest_goes g t goes rest
  comes_goes g t goes (inr (stands, move)) = move_goes g t goes stands move

  -- a line is due
  record GoesDue (g : DefenceMatch) : Type 0 where
    goes : GoesOn g
    due : StandsFor g LineDue

  typed_goes : (g : DefenceMatch) (reply : Option Typed) (t : Turn DefenceMatch) → GoesDue g → OfTyped loser_rules g reply t → EachGoes t
  typed_goes g None t h is = subst EachGoes (sym is) (record { games = All-nil GoesOn; after = h.goes; due = λ none. h.due })
  typed_goes g (Some typed.Quit) t h is = subst EachGoes (sym is) (over_goes g ending.Quit h.goes)
  typed_goes g (Some (typed.Move mv)) t h (inl (none, is)) = subst EachGoes (sym is) (record { games = All-nil GoesOn; after = h.goes; due = λ none. h.due })
  typed_goes g (Some (typed.Move mv)) t h (inr (q, legal, comes)) =
      let goes = h.goes in
      let attack = told_turn g LineDue h.due in
      comes_goes (moved g q) t (record { same = goes.same; unwon = typed_unwon g goes.unwon attack.2 attack.0 legal }) comes

  line_goes : (g : DefenceMatch) (line : List ℕ) (t : Turn DefenceMatch) → GoesDue g → OfLine loser_rules g line t → EachGoes t
  line_goes g line t h (reply, is, of) = typed_goes g reply t h of

  record AllGo (r : LineReport DefenceMatch) : Type 0 where
    games : All GoesOn r.games
    last : GoesOn r.last

  report_goes : (before : ℕ) (lines : Lines) (g : DefenceMatch) (report : LineReport DefenceMatch) → GoesOn g → IsReport loser_rules before lines g report → AllGo report
  report_goes before lines g report goes =
      first loser_rules (λ h r. AllGo r) AllGo g
      (λ t end left comes is. let turn = comes_goes g t goes comes in record { games = turn.games; last = turn.after })
      (λ t later comes is on. let turn = comes_goes g t goes comes in record { games = All-append GoesOn t.games later.games turn.games on.games; last = on.last })
      before lines
      (λ t later comes is at.
      let begin = comes_goes g t goes comes in
      walk loser_rules GoesDue (λ h r. AllGo r)
      (λ h line u due of over. let turn = line_goes h line u due of in record { goes = turn.after; due = turn.due over })
      (λ h end left due of. record { games = All-nil GoesOn; last = due.goes })
      (λ h line u end left due of over. let turn = line_goes h line u due of in record { games = turn.games; last = turn.after })
      (λ h line u more due of over on. let turn = line_goes h line u due of in record { games = All-append GoesOn u.games more.games turn.games on.games; last = on.last })
      before 0 lines t.after later (record { goes = begin.after; due = begin.due is }) at)
      report

pub report_saved : (before : ℕ) (lines : Lines) (g : DefenceMatch) (report : LineReport DefenceMatch) → IsUnwonMatch g → IsReport loser_rules before lines g report
    → IsSavedReport g report
report_saved before lines g report unwon at =
    let all = report_goes g before lines g report (record { same = refl; unwon = unwon }) at in
    record { each = All-weaker (GoesOn g) (IsSavedGame g) (saved_game g) report.games all.games; last = saved_game g report.last all.last }
