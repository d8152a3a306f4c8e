-- The games of a report are games that are played, and lost in time.
use Rattle.std.proofs.Common.{◌≡◌, ◌⊎◌, inl, inr, ℕ, zero, suc, ◌+◌, ◌-◌, ◌<◌, ◌≤◌, List, [], ◌∷◌, ◌++◌, length, map, Option, Some, None, refl, sym, ap, subst, ◌∙◌, arith, codes, append-nil, length-append}
use Rattle.std.specs.Prelude.{slice_get}
use Rattle.std.proofs.lemmas.Option.{same_Some}
use Rattle.desk_base.specs.Lines.{Lines}
use Rattle.game_rules.specs.declared.men.Side.{Side}
use Rattle.game_rules.specs.Game.{Position, Legal, Lost, Mate, Value, other}
use Rattle.game_laws.proofs.SoundLemmas.{other_differs, other_other}
use Rattle.chess_game.specs.declared.moves.Move.{Move}
use Rattle.chess_text.specs.declared.replies.Typed.{Typed}
use Rattle.chess_text.specs.declared.replies.Typed.TheVariants as typed
use Rattle.mate_plan.specs.Plan.{turn_at}
use Rattle.mate_plan.specs.Turns.{plies_before_turn}
use Rattle.mate_plan.proofs.TurnLemmas.{waits_none}
use Rattle.winning_sets.specs.Claimed.{IsValid}
use Rattle.winning_sets.specs.Solve.{Solution}
use Rattle.move_choice.specs.Choice.{target}
use Rattle.move_choice.specs.Squares.{all_squares}
use Rattle.move_choice.specs.declared.choice.Choice.{Choice}
use Rattle.play_loop.specs.LineReport.{AtLines, IsReport, LineReport, behind, closes, ends}
use Rattle.play_loop.specs.Turns.{AtMove, AtRest, Comes, OfLine, OfTyped, Turn, moves_first, stopped, told}
use Rattle.play_loop.specs.declared.ending.Ending.{Ending}
use Rattle.play_loop.specs.declared.ending.Ending.TheVariants.{Mated, Quit, Wide}
use Rattle.play_loop.proofs.TurnLemmas.{IsDueIn, comes_lasts, line_lasts}
use Rattle.play_loop.proofs.Walks.{first, walk}
use Rattle.winner_session.specs.Game.{Game, Continues, IsGame, IsPicked, Plays, WinnerContinues, made_in, start_of}
use Rattle.winner_session.proofs.Games.{first_game, game_turn, game_within, held_reply, left_made, lost_in, picked_game, whole_game, winner_ply}
use Rattle.winner_player.specs.WinnerRules.{HeldPick, IsLosersTurn, Match, first_seen, moved, seen, winner_rules}
use Rattle.winner_player.specs.Playable.{pick_told}

-- after a legal reply the winner is to move
pub reply_his : (m : Match) (mv : Move) (q : Position) → IsLosersTurn m → Legal m.position mv.man (target mv) q → q.turn ≡ m.winner
reply_his m mv q turn legal = legal.step.after.turn ∙ (ap other turn ∙ other_other m.winner)

-- where he is to move the game is not at rest
pub not_at_rest : (m : Match) (t : Turn Match) → m.position.turn ≡ m.winner → AtRest winner_rules m t → ⊥
not_at_rest m t his (inl (ending, (e, turn, mate), is)) = other_differs m.winner (sym his ∙ turn)
not_at_rest m t his (inr ((turn, none), is)) = other_differs m.winner (sym his ∙ turn)

module _ (s : Solution) where
  -- the game after some moves, played on all squares
  abbrev at : Position → ℕ → Game
  at p ply = record { solution = s; frame = all_squares; position = p; ply = ply }

  abbrev game_of : Match → Game
  game_of m = at m.position m.ply

  -- the match is one of the solution
  abbrev IsHere : Match → Type 0
  IsHere m = m ≡ seen (game_of m)

  here_moved : (m : Match) (q : Position) → IsHere m → IsHere (moved m q)
  here_moved m q is = ap (λ (x : Match). moved x q) is

  here_picked : (m : Match) (c : Choice) (q : Position) → IsHere m → HeldPick m (Some c) → Legal m.position c.mv.man (target c.mv) q → IsPicked (game_of m) c (game_of (moved m q))
  here_picked m c q here pick legal =
      record { pick = (pick_told (game_of m) (Some c)).1 (subst (λ (x : Match). HeldPick x (Some c)) here pick); legal = legal; is_after = refl }

  -- what is typed after a turn, and its games: none if the turn ends the game
  record Later (t : Turn Match) : Type 0 where
    typed : List Move
    games : List Game
    continues : Continues (game_of t.after) typed games
    ends : (ending : Ending) → t.over ≡ Some ending → games ≡ []

  -- with the turn they are typed moves and games
  abbrev Goes : Match → Turn Match → Type 0
  Goes m t = (later : Later t) → (typed : List Move) × (games : List Game) × Continues (game_of m) typed games × (t.games ++ map seen later.games ≡ map seen games)

  -- and so where the winner is to move
  abbrev WinnerGoes : Match → Turn Match → Type 0
  WinnerGoes m t =
      (later : Later t) → (games : List Game) × WinnerContinues (λ after more. Continues after later.typed more) (game_of m) games × (t.games ++ map seen later.games ≡ map seen games)

  -- the winner has moved, and does not move again
  moved_goes : (m : Match) (c : Choice) (q : Position) (text : List ℕ) (over : Option Ending) → IsHere m → HeldPick m (Some c) → Legal m.position c.mv.man (target c.mv) q
      → WinnerGoes m (moves_first winner_rules c.mv (moved m q) (record { text = text; games = []; after = moved m q; over = over }))
  moved_goes m c q text over here pick legal later =
      let next = moved m q in (
        game_of next ∷ later.games,
        inr (c, game_of next, later.games, here_picked m c q here pick legal, refl, later.continues),
        ap (λ (x : Match). x ∷ map seen later.games) (here_moved m q here),
      )

  rest_goes : (m : Match) (c : Choice) (q : Position) (rest : Turn Match) → IsHere m → HeldPick m (Some c) → Legal m.position c.mv.man (target c.mv) q
      → AtRest winner_rules (moved m q) rest → WinnerGoes m (moves_first winner_rules c.mv (moved m q) rest)
  rest_goes m c q rest here pick legal (inl (ending, stands, is)) =
      subst (λ (r : Turn Match). WinnerGoes m (moves_first winner_rules c.mv (moved m q) r)) (sym is) (moved_goes m c q (stopped ending (moved m q)).text (Some ending) here pick legal)
  rest_goes m c q rest here pick legal (inr (due, is)) =
      subst (λ (r : Turn Match). WinnerGoes m (moves_first winner_rules c.mv (moved m q) r)) (sym is) (moved_goes m c q [] None here pick legal)

  winner_goes : (m : Match) (t : Turn Match) → IsHere m → AtMove winner_rules m t → WinnerGoes m t
  winner_goes m t here (inl (none, is)) =
      let no_pick = (pick_told (game_of m) None).1 (subst (λ (x : Match). HeldPick x None) here none) in
      subst (WinnerGoes m) (sym is) (λ later. ([], inl (no_pick, refl), ap (λ (xs : List Game). map seen xs) (later.ends Wide refl)))
  winner_goes m t here (inr (c, q, rest, pick, legal, at_rest, is)) = subst (WinnerGoes m) (sym is) (rest_goes m c q rest here pick legal at_rest)

  -- nothing was moved
  still_goes : (m : Match) (text : List ℕ) (over : Option Ending) → Goes m (record { text = text; games = []; after = m; over = over })
  still_goes m text over later = (later.typed, later.games, later.continues, refl)

  typed_goes : (m : Match) (reply : Option Typed) (t : Turn Match) → IsDueIn winner_rules IsHere m → OfTyped winner_rules m reply t → Goes m t
  typed_goes m None t due is = subst (Goes m) (sym is) (still_goes m (codes "unreadable\n") None)
  typed_goes m (Some typed.Quit) t due is = subst (Goes m) (sym is) (still_goes m [] (Some Quit))
  typed_goes m (Some (typed.Move mv)) t due (inl (none, is)) =
      subst (Goes m) (sym is) (λ later. (mv ∷ later.typed, later.games, inl (none, later.continues), refl))
  typed_goes m (Some (typed.Move mv)) t (here, (turn, not_mate)) (inr (q, legal, inl rest)) = absurd (not_at_rest (moved m q) t (reply_his m mv q turn legal) rest)
  typed_goes m (Some (typed.Move mv)) t (here, due) (inr (q, legal, inr (his, goes))) =
      λ later. let h = winner_goes (moved m q) t (here_moved m q here) goes later in (mv ∷ later.typed, h.0, inr (q, legal, h.1), h.2)

  abbrev Continued : Match → LineReport Match → Type 0
  Continued m r = (typed : List Move) × (games : List Game) × Continues (game_of m) typed games × (r.games ≡ map seen games)

  over_continued : (m : Match) (t : Turn Match) (ending : Ending) (left : Lines) → Goes m t → t.over ≡ Some ending → Continued m (closes t ending left)
  over_continued m t ending left goes over =
      let h = goes (record { typed = []; games = []; continues = refl; ends = λ e is. refl }) in
      (h.0, h.1, h.2, let all : t.games ++ [] ≡ map seen h.1 = h.3 in sym (append-nil t.games) ∙ all)

  on_continued : (m : Match) (t : Turn Match) (later : LineReport Match) → Goes m t → t.over ≡ None → Continued t.after later → Continued m (behind t later)
  on_continued m t later goes still (typed, games, continues, is) =
      let h = goes (record { typed = typed; games = games; continues = continues; ends = λ e over. absurd (let no : None ≡ Some e = sym still ∙ over in cc) }) in
      (h.0, h.1, h.2, ap (λ xs. t.games ++ xs) is ∙ h.3)

  here_lasts : (m : Match) (line : List ℕ) (t : Turn Match) → IsDueIn winner_rules IsHere m → OfLine winner_rules m line t → t.over ≡ None → IsDueIn winner_rules IsHere t.after
  here_lasts m line t due of still =
      line_lasts winner_rules IsHere (λ x c q here his pick legal. here_moved x q here) (λ x mv q here turn legal. here_moved x q here) m line t due of still

  lines_continue : (before read : ℕ) (lines : Lines) (m : Match) (r : LineReport Match) → IsDueIn winner_rules IsHere m → AtLines winner_rules before read lines m r → Continued m r
  lines_continue before read lines m r due at_lines =
      walk winner_rules (IsDueIn winner_rules IsHere) Continued here_lasts
      (λ x ending left here is. ([], [], refl, refl))
      (λ x line t ending left here is over. over_continued x t ending left (typed_goes x is.0 t here is.2) over)
      (λ x line t later here is still h. on_continued x t later (typed_goes x is.0 t here is.2) still h) before read lines m r due at_lines

  abbrev Played : LineReport Match → Type 0
  Played r = (typed : List Move) × (games : List Game) × Plays (start_of s all_squares) typed games × (r.games ≡ map seen games)

  -- what comes at first
  abbrev FirstGoes : Turn Match → Type 0
  FirstGoes t =
      (later : Later t) → (typed : List Move) × (games : List Game) × Plays (start_of s all_squares) typed games × (t.games ++ map seen later.games ≡ map seen games)

  first_still : (text : List ℕ) (over : Option Ending) → s.position.turn ≡ other s.winner → FirstGoes (record { text = text; games = []; after = first_seen s; over = over })
  first_still text over turn later = (later.typed, later.games, inl (turn, later.continues), refl)

  first_goes : (t : Turn Match) → Comes winner_rules (first_seen s) t → FirstGoes t
  first_goes t (inl (inl (ending, (e, turn, mate), is))) = subst FirstGoes (sym is) (first_still (stopped ending (first_seen s)).text (Some ending) turn)
  first_goes t (inl (inr ((turn, none), is))) = subst FirstGoes (sym is) (first_still [] None turn)
  first_goes t (inr (his, goes)) = λ later. let h = winner_goes (first_seen s) t refl goes later in (later.typed, h.0, inr (his, h.1), h.2)

  over_played : (t : Turn Match) (ending : Ending) (left : Lines) → FirstGoes t → t.over ≡ Some ending → Played (closes t ending left)
  over_played t ending left goes over =
      let h = goes (record { typed = []; games = []; continues = refl; ends = λ e is. refl }) in
      (h.0, h.1, h.2, let all : t.games ++ [] ≡ map seen h.1 = h.3 in sym (append-nil t.games) ∙ all)

  on_played : (t : Turn Match) (later : LineReport Match) → FirstGoes t → t.over ≡ None → Continued t.after later → Played (behind t later)
  on_played t later goes still (typed, games, continues, is) =
      let h = goes (record { typed = typed; games = games; continues = continues; ends = λ e over. absurd (let no : None ≡ Some e = sym still ∙ over in cc) }) in
      (h.0, h.1, h.2, ap (λ xs. t.games ++ xs) is ∙ h.3)

  first_here : (t : Turn Match) → Comes winner_rules (first_seen s) t → t.over ≡ None → IsDueIn winner_rules IsHere t.after
  first_here t comes still =
      comes_lasts winner_rules IsHere (λ x c q here his pick legal. here_moved x q here) (λ x mv q here turn legal. here_moved x q here) (first_seen s) t refl comes still

  pub report_played : (before : ℕ) (lines : Lines) (r : LineReport Match) → IsReport winner_rules before lines (first_seen s) r → Played r
  report_played before lines r h =
      first winner_rules Continued Played (first_seen s)
      (λ t ending left comes over. over_played t ending left (first_goes t comes) over)
      (λ t later comes still goes. on_played t later (first_goes t comes) still goes) before lines
      (λ t later comes still at_lines. lines_continue before 0 lines t.after later (first_here t comes still) at_lines) r h

  get_seen : (games : List Game) (k : ℕ) (after : Match) → slice_get (map seen games) k ≡ Some after → (g : Game) × (slice_get games k ≡ Some g) × (seen g ≡ after)
  get_seen [] k after is = absurd (cc)
  get_seen (g ∷ games) zero after is = (g, refl, same_Some (seen g) after is)
  get_seen (g ∷ games) (suc k) after is = get_seen games k after is

  module _ (valid : IsValid s) (value : Value s.winner s.moves s.position) where
    pub report_lost : (before : ℕ) (lines : Lines) (r : LineReport Match) → IsReport winner_rules before lines (first_seen s) r
        → (k : ℕ) (after : Match) → slice_get r.games k ≡ Some after → (suc k ≤ s.moves) × Lost s.winner (s.moves - suc k) after.position
    report_lost before lines r h k after is =
        let played = report_played before lines r h in
        let one = get_seen played.1 k after (sym (ap (λ xs. slice_get xs k) played.3) ∙ is) in
        let lost = whole_game s all_squares played.0 played.1 valid value played.2 k one.0 one.1 in
        (lost.0, subst (λ (m : Match). Lost s.winner (s.moves - suc k) m.position) one.2 lost.1)

-- a loser that is not mated, and is mated within n moves, has n above 0
some_left : (w : Side) (n : ℕ) (p : Position) → Lost w n p → (Mate p → ⊥) → 0 < n
some_left w zero p lost none = elim (lost.1) [ inl mate ↦ absurd (none mate) | inr go ↦ absurd (go.1 go.0.0 go.0.1 go.0.2 go.0.3) ]
some_left w (suc n) p lost none = omega arith

module _ (s : Solution) where
  abbrev made_of : Match → ℕ
  made_of m = made_in (game_of s m)

  -- the winner makes no more moves than he has left, and fewer if he does not mate
  record IsInTime (m : Match) (r : LineReport Match) : Type 0 where
    few : length r.games + made_of m ≤ s.moves
    fewer : (r.ending ≡ Mated) ⊎ (length r.games + made_of m < s.moves)

  -- the match is one that a session keeps
  abbrev IsKept : Match → Type 0
  IsKept m = IsHere s m × IsGame (game_of s m)

  winners_turn : {m : Match} → IsKept m → m.position.turn ≡ m.winner → m.position.turn ≡ s.winner
  winners_turn kept turn = turn ∙ ap (λ (x : Match). x.winner) kept.0

  losers_turn : {m : Match} → IsKept m → IsLosersTurn m → m.position.turn ≡ other s.winner
  losers_turn kept turn = turn ∙ ap (λ (x : Match). other x.winner) kept.0

  picked_kept : (m : Match) (c : Choice) (q : Position) → IsKept m → m.position.turn ≡ m.winner → HeldPick m (Some c) → Legal m.position c.mv.man (target c.mv) q
      → IsKept (moved m q) × (made_of (moved m q) ≡ made_of m + 1)
  picked_kept m c q kept turn pick legal =
      let next = picked_game (game_of s (moved m q)) c kept.1 (winners_turn kept turn) (here_picked s m c q kept.0 pick legal) in
      ((here_moved s m q kept.0, next.0), next.3)

  reply_kept : (m : Match) (mv : Move) (q : Position) → IsKept m → IsLosersTurn m → Legal m.position mv.man (target mv) q → IsKept (moved m q) × (made_of (moved m q) ≡ made_of m)
  reply_kept m mv q kept turn legal =
      let his = losers_turn kept turn in
      let none : plies_before_turn (other s.winner) (turn_at s.position.turn m.ply) ≡ 0 =
      waits_none (other s.winner) (turn_at s.position.turn m.ply) (sym (game_turn (game_of s m) kept.1) ∙ his) in
      ((here_moved s m q kept.0, held_reply (game_of s m) kept.1 his legal), omega (arith, none))

  moves_to_make : (m : Match) → IsKept m → IsLosersTurn m → (Mate m.position → ⊥) → made_of m < s.moves
  moves_to_make m kept turn none =
      let lost = lost_in (game_of s m) kept.1 (losers_turn kept turn) in
      let more = some_left s.winner lost.left m.position lost.lost none in
      let count = lost.count in omega (arith, more, count)

  -- the moves of a turn are counted, and where it ends the game there were no more than promised
  record IsTimely (m : Match) (t : Turn Match) : Type 0 where
    made : made_of t.after ≡ made_of m + length t.games
    over : (ending : Ending) → t.over ≡ Some ending → (made_of t.after ≤ s.moves) × ((ending ≡ Mated) ⊎ (made_of t.after < s.moves))

  goes_timely : (m : Match) (text : List ℕ) → IsTimely m (told text m)
  goes_timely m text = record { made = omega arith; over = λ ending is. absurd (let no : None ≡ Some ending = is in cc) }

  rest_timely : (m : Match) (t : Turn Match) → IsKept m → AtRest winner_rules m t → IsTimely m t
  rest_timely m t kept (inl (ending, (e, turn, mate), is)) =
      let count = (lost_in (game_of s m) kept.1 (losers_turn kept turn)).count in
      subst (IsTimely m) (sym is) (record { made = omega arith; over = λ f same. (omega (arith, count), inl (sym (same_Some ending f same) ∙ e)) })
  rest_timely m t kept (inr (due, is)) = subst (IsTimely m) (sym is) (goes_timely m [])

  move_timely : (m : Match) (t : Turn Match) → IsKept m → m.position.turn ≡ m.winner → AtMove winner_rules m t → IsTimely m t
  move_timely m t kept turn (inl (none, is)) =
      let count = left_made s.winner s.position.turn s.moves m.ply (game_within (game_of s m) kept.1) in
      let more = winner_ply (game_of s m) kept.1 (winners_turn kept turn) in
      let low : made_of m < s.moves = omega (arith, count, more) in
      subst (IsTimely m) (sym is) (record { made = omega arith; over = λ f same. (omega (arith, low), inr low) })
  move_timely m t kept turn (inr (c, q, rest, pick, legal, at_rest, is)) =
      let next = picked_kept m c q kept turn pick legal in
      let h = rest_timely (moved m q) rest next.0 at_rest in
      let one = next.1 in
      let all = h.made in
      subst (IsTimely m) (sym is) (record { made = omega (arith, one, all); over = λ f same. h.over f same })

  comes_timely : (m : Match) (t : Turn Match) → IsKept m → Comes winner_rules m t → IsTimely m t
  comes_timely m t kept (inl rest) = rest_timely m t kept rest
  comes_timely m t kept (inr (his, goes)) = move_timely m t kept his goes

  typed_timely : (m : Match) (reply : Option Typed) (t : Turn Match) → IsDueIn winner_rules IsKept m → OfTyped winner_rules m reply t → IsTimely m t
  typed_timely m None t due is = subst (IsTimely m) (sym is) (goes_timely m (codes "unreadable\n"))
  typed_timely m (Some typed.Quit) t (kept, (turn, none)) is =
      let low = moves_to_make m kept turn none in
      subst (IsTimely m) (sym is) (record { made = omega arith; over = λ f same. (omega (arith, low), inr low) })
  typed_timely m (Some (typed.Move mv)) t due (inl (none, is)) = subst (IsTimely m) (sym is) (goes_timely m (codes "illegal\n"))
  typed_timely m (Some (typed.Move mv)) t (kept, (turn, none)) (inr (q, legal, comes)) =
      let next = reply_kept m mv q kept turn legal in
      let h = comes_timely (moved m q) t next.0 comes in
      let same = next.1 in
      let all = h.made in
      record { made = omega (arith, same, all); over = λ f is. h.over f is }

  over_in_time : (m : Match) (t : Turn Match) (ending : Ending) (left : Lines) → IsTimely m t → t.over ≡ Some ending → IsInTime m (closes t ending left)
  over_in_time m t ending left h over =
      let low = h.over ending over in
      let count = h.made in
      let most = low.0 in
      record {
        few = omega (arith, count, most);
        fewer = elim (low.1) [ inl mate ↦ inl mate | inr less ↦ inr (omega (arith, count, less)) ];
      }

  on_in_time : (m : Match) (t : Turn Match) (later : LineReport Match) → IsTimely m t → IsInTime t.after later → IsInTime m (behind t later)
  on_in_time m t later h k =
      let count = h.made in
      let low = k.few in
      let all : length (t.games ++ later.games) ≡ length t.games + length later.games = length-append t.games later.games in
      record {
        few = omega (arith, count, all, low);
        fewer = elim (k.fewer) [ inl mate ↦ inl mate | inr less ↦ inr (omega (arith, count, all, less)) ];
      }

  none_yet : (m : Match) (ending : Ending) (left : Lines) → IsDueIn winner_rules IsKept m → IsInTime m (ends ending m left)
  none_yet m ending left (kept, (turn, none)) =
      let low = moves_to_make m kept turn none in record { few = omega (arith, low); fewer = inr (omega (arith, low)) }

  kept_lasts : (m : Match) (line : List ℕ) (t : Turn Match) → IsDueIn winner_rules IsKept m → OfLine winner_rules m line t → t.over ≡ None → IsDueIn winner_rules IsKept t.after
  kept_lasts m line t due of still =
      line_lasts winner_rules IsKept (λ x c q kept his pick legal. (picked_kept x c q kept his pick legal).0) (λ x mv q kept stands legal. (reply_kept x mv q kept stands.0 legal).0) m line t due of still

  lines_in_time : (before read : ℕ) (lines : Lines) (m : Match) (r : LineReport Match) → IsDueIn winner_rules IsKept m → AtLines winner_rules before read lines m r → IsInTime m r
  lines_in_time before read lines m r due at_lines =
      walk winner_rules (IsDueIn winner_rules IsKept) IsInTime kept_lasts
      (λ x ending left kept is. none_yet x ending left kept)
      (λ x line t ending left kept is over. over_in_time x t ending left (typed_timely x is.0 t kept is.2) over)
      (λ x line t later kept is still h. on_in_time x t later (typed_timely x is.0 t kept is.2) h) before read lines m r due at_lines

  from_start : (r : LineReport Match) → IsInTime (first_seen s) r → (length r.games ≤ s.moves) × ((r.ending ≡ Mated) ⊎ (length r.games < s.moves))
  from_start r h =
      let low = h.few in
      (omega (arith, low), elim (h.fewer) [ inl mate ↦ inl mate | inr less ↦ inr (omega (arith, less)) ])

  module _ (valid : IsValid s) (value : Value s.winner s.moves s.position) where
    first_kept : IsKept (first_seen s)
    first_kept = (refl, first_game s all_squares valid value)

    first_lasts : (t : Turn Match) → Comes winner_rules (first_seen s) t → t.over ≡ None → IsDueIn winner_rules IsKept t.after
    first_lasts t comes still =
        comes_lasts winner_rules IsKept (λ x c q kept his pick legal. (picked_kept x c q kept his pick legal).0)
        (λ x mv q kept stands legal. (reply_kept x mv q kept stands.0 legal).0) (first_seen s) t first_kept comes still

    pub report_in_time : (before : ℕ) (lines : Lines) (r : LineReport Match) → IsReport winner_rules before lines (first_seen s) r
        → (length r.games ≤ s.moves) × ((r.ending ≡ Mated) ⊎ (length r.games < s.moves))
    report_in_time before lines r h =
        from_start r
        (first winner_rules IsInTime (IsInTime (first_seen s)) (first_seen s)
        (λ t ending left comes over. over_in_time (first_seen s) t ending left (comes_timely (first_seen s) t first_kept comes) over)
        (λ t later comes still k. on_in_time (first_seen s) t later (comes_timely (first_seen s) t first_kept comes) k) before lines
        (λ t later comes still at_lines. lines_in_time before 0 lines t.after later (first_lasts t comes still) at_lines) r h)
