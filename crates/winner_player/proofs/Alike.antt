-- Reports of games by claims that claim the same positions: a report by the one is a report by the other, with the same text, ending and lines left,
-- and its games are the same but for what the winner plays by. Other crates may cite `report_alike`, and the words that it is said in.
use Rattle.std.proofs.Common.{◌≡◌, ◌↔◌, inl, inr, ℕ, suc, ◌+◌, ◌==◌, List, map, Bool, true, false, Option, Some, None, refl, ap, subst, ◌∙◌, ◌++◌}
use Rattle.std.proofs.lemmas.List.{map-append}
use Rattle.desk_base.specs.Lines.{Lines, full, ended, cut, long}
use Rattle.game_rules.specs.Game.{Position}
use Rattle.chess_game.specs.declared.way.Frame.{Frame}
use Rattle.chess_text.specs.declared.replies.Typed.{Typed}
use Rattle.chess_text.specs.declared.replies.Typed.TheVariants as typed
use Rattle.mate_plan.specs.Claim.{Claim, IsClaimed}
use Rattle.move_choice.specs.Choice.{Leads, Pick}
use Rattle.move_choice.specs.declared.choice.Choice.{Choice}
use Rattle.play_loop.specs.LineReport.{AtLines, BeginsAs, IsReport, LineReport, OrTooMany, behind, most_lines}
use Rattle.play_loop.specs.Turns.{AtRest, Comes, OfLine, OfTyped, Turn}
use Rattle.play_loop.specs.declared.ending.Ending.{Ending}
use Rattle.play_loop.proofs.TurnLemmas.{IsDueIn, comes_lasts, line_lasts}
use Rattle.winner_player.specs.WinnerRules.{ByClaim, HeldPick, Match, moved, winner_rules}

-- the game, where the winner plays by the claim
abbrev pub by_claim : Claim → Match → Match
by_claim c g =
    record { winner = g.winner; start = g.start; moves = g.moves; strategy = ByClaim c; frame = g.frame; position = g.position; ply = g.ply }

-- the report, where he plays by it
abbrev pub report_by : Claim → LineReport Match → LineReport Match
report_by c r = record { text = r.text; games = map (by_claim c) r.games; last = by_claim c r.last; ending = r.ending; left = r.left }

-- and the turn
abbrev turn_by : Claim → Turn Match → Turn Match
turn_by c t = record { text = t.text; games = map (by_claim c) t.games; after = by_claim c t.after; over = t.over }

module _ (S T : Position → Type 0) (same : (q : Position) → S q ↔ T q) (f : Frame) (p : Position) where
  leads_alike : {c : Choice} {q : Position} → Leads S f p c q → Leads T f p c q
  leads_alike {q} h = record {
    man = h.man;
    from = h.from;
    is_man = h.is_man;
    stands = h.stands;
    on = h.on;
    inside = h.inside;
    legal = h.legal;
    is_in = (same q).0 h.is_in;
  }

-- the first move into the one set is the first into the other
pick_alike : (S T : Position → Type 0) → ((q : Position) → S q ↔ T q) → (f : Frame) (p : Position) (o : Option Choice) → Pick S f p o → Pick T f p o
pick_alike S T same f p None none = λ i z q legal inside is_in. none i z q legal inside ((same q).1 is_in)
pick_alike S T same f p (Some c) h = record {
  has = tt;
  position = h.position;
  leads = leads_alike S T same f p h.leads;
  first = λ d q has leads before. h.first d q tt (leads_alike T S (λ x. ((same x).1, (same x).0)) f p leads) before;
}

-- of a report that a turn begins
behind_by : (d : Claim) (t : Turn Match) (later : LineReport Match) → report_by d (behind t later) ≡ behind (turn_by d t) (report_by d later)
behind_by d t later =
    ap (λ (games : List Match). record { text = t.text ++ later.text; games = games; last = by_claim d later.last; ending = later.ending; left = later.left })
    (map-append (by_claim d) t.games later.games)

module _ (c d : Claim) (same : (ply : ℕ) (q : Position) → IsClaimed c ply q ↔ IsClaimed d ply q) where
  -- the winner plays by the first
  abbrev IsBy : Match → Type 0
  IsBy g = g ≡ by_claim c g

  by_moved : (g : Match) (q : Position) → IsBy g → IsBy (moved g q)
  by_moved g q is = ap (λ (x : Match). moved x q) is

  held_alike : (g : Match) (o : Option Choice) → IsBy g → HeldPick g o → HeldPick (by_claim d g) o
  held_alike g o is pick =
      pick_alike (IsClaimed c (suc g.ply)) (IsClaimed d (suc g.ply)) (same (suc g.ply)) g.frame g.position o (subst (λ (x : Match). HeldPick x o) is pick)

  rest_alike : (g : Match) (t : Turn Match) → AtRest winner_rules g t → AtRest winner_rules (by_claim d g) (turn_by d t)
  rest_alike g t (inl (ending, stands, is)) = inl (ending, stands, ap (turn_by d) is)
  rest_alike g t (inr (due, is)) = inr (due, ap (turn_by d) is)

  comes_alike : (g : Match) (t : Turn Match) → IsBy g → Comes winner_rules g t → Comes winner_rules (by_claim d g) (turn_by d t)
  comes_alike g t by (inl rest) = inl (rest_alike g t rest)
  comes_alike g t by (inr (his, inl (none, is))) = inr (his, inl (held_alike g None by none, ap (turn_by d) is))
  comes_alike g t by (inr (his, inr (choice, q, later, pick, legal, rest, is))) =
      inr (his, inr (choice, q, turn_by d later, held_alike g (Some choice) by pick, legal, rest_alike (moved g q) later rest, ap (turn_by d) is))

  typed_alike : (g : Match) (reply : Option Typed) (t : Turn Match) → IsBy g → OfTyped winner_rules g reply t → OfTyped winner_rules (by_claim d g) reply (turn_by d t)
  typed_alike g None t by is = ap (turn_by d) is
  typed_alike g (Some typed.Quit) t by is = ap (turn_by d) is
  typed_alike g (Some (typed.Move mv)) t by (inl (none, is)) = inl (none, ap (turn_by d) is)
  typed_alike g (Some (typed.Move mv)) t by (inr (q, legal, h)) = inr (q, legal, comes_alike (moved g q) t (by_moved g q by) h)

  line_alike : (g : Match) (line : List ℕ) (t : Turn Match) → IsBy g → OfLine winner_rules g line t → OfLine winner_rules (by_claim d g) line (turn_by d t)
  line_alike g line t by (reply, is, h) = (reply, is, typed_alike g reply t by h)

  -- what is reported after a turn
  module _ (On Off : Match → LineReport Match → Type 0) (t : Turn Match) (go : (later : LineReport Match) → t.over ≡ None → On t.after later → Off (by_claim d t.after) (report_by d later)) where
    begins_alike : (o : Option Ending) (left : Lines) (r : LineReport Match) → t.over ≡ o → BeginsAs o On left t r → BeginsAs o Off left (turn_by d t) (report_by d r)
    begins_alike (Some ending) left r is h = ap (report_by d) h
    begins_alike None left r is (later, on, h) = (report_by d later, go later is on, ap (report_by d) h ∙ behind_by d t later)

  many_alike : (stop : Bool) (g : Match) (left : Lines) (r : LineReport Match) (A B : Type 0) → (A → B) → OrTooMany stop g left r A → OrTooMany stop (by_claim d g) left (report_by d r) B
  many_alike true g left r A B each h = ap (report_by d) h
  many_alike false g left r A B each h = each h

  by_lasts : (g : Match) (line : List ℕ) (t : Turn Match) → IsDueIn winner_rules IsBy g → OfLine winner_rules g line t → t.over ≡ None → IsDueIn winner_rules IsBy t.after
  by_lasts g line t due of still =
      line_lasts winner_rules IsBy (λ x choice q by his pick legal. by_moved x q by) (λ x mv q by turn legal. by_moved x q by) g line t due of still

  lines_alike : (before read : ℕ) (lines : Lines) (g : Match) (r : LineReport Match) → IsDueIn winner_rules IsBy g → AtLines winner_rules before read lines g r
      → AtLines winner_rules before read lines (by_claim d g) (report_by d r)
  lines_alike before read (full line rest) g r due h =
      many_alike (read == most_lines) g (full line rest) r _ _
      (λ turn. (
        turn_by d turn.0,
        line_alike g line turn.0 due.0 turn.1,
        begins_alike (AtLines winner_rules before (read + 1) rest) (AtLines winner_rules before (read + 1) rest) turn.0
            (λ later still at. lines_alike before (read + 1) rest turn.0.after later (by_lasts g line turn.0 due turn.1 still) at) turn.0.over rest r refl turn.2,
      )) h
  lines_alike before read ended g r due h = many_alike (read == most_lines) g ended r _ _ (ap (report_by d)) h
  lines_alike before read (cut front) g r due h = many_alike (read == most_lines) g (cut front) r _ _ (ap (report_by d)) h
  lines_alike before read long g r due h = many_alike (read == most_lines) g long r _ _ (ap (report_by d)) h

  first_alike : (before : ℕ) (lines : Lines) (g : Match) (r : LineReport Match) → IsBy g → IsReport winner_rules before lines g r → IsReport winner_rules before lines (by_claim d g) (report_by d r)
  first_alike before lines g r by (t, comes, begins) = (
    turn_by d t,
    comes_alike g t by comes,
    begins_alike (AtLines winner_rules before 0 lines) (AtLines winner_rules before 0 lines) t
        (λ later still at. lines_alike before 0 lines t.after later
        (comes_lasts winner_rules IsBy (λ x choice q is his pick legal. by_moved x q is) (λ x mv q is turn legal. by_moved x q is) g t by comes still) at) t.over lines r refl begins,
  )

  pub report_alike : (before : ℕ) (lines : Lines) (g : Match) (r : LineReport Match) → IsReport winner_rules before lines (by_claim c g) r
      → IsReport winner_rules before lines (by_claim d g) (report_by d r)
  report_alike before lines g r h = first_alike before lines (by_claim c g) r refl h
