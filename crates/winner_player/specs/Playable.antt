-- The games of sessions can be played by the winner's rules: the conditions of the law of a player, step by step. No
-- definition cites this module.
use Rattle.std.proofs.Common.{◌≡◌, ◌↔◌, inl, inr, ℕ, suc, Option, Some, refl, sym, ap, subst, ◌∙◌}
use Rattle.game_rules.specs.Game.{Position, Legal, Mate, other}
use Rattle.game_laws.proofs.DecideLemmas.{Decided}
use Rattle.game_laws.proofs.SoundLemmas.{other_differs, side_or_other}
use Rattle.chess_game.specs.declared.moves.Move.{Move}
use Rattle.chess_game.specs.declared.way.Frame.{Frame}
use Rattle.winning_sets.specs.Claimed.{IsHeldFrom as IsHeldOf}
use Rattle.winning_sets.specs.Solve.{Solution}
use Rattle.winning_sets.specs.declared.origin.Origin.{Origin}
use Rattle.winning_sets.specs.declared.origin.Origin.TheVariants.{Plan, Claim as Claimed}
use Rattle.move_choice.specs.Choice.{Pick, target}
use Rattle.move_choice.specs.declared.choice.Choice.{Choice}
use Rattle.move_choice.proofs.Once.{pick_once}
use Rattle.winner_session.specs.Game.{Game, IsGame, WinPick, moved_to}
use Rattle.winner_session.proofs.Games.{game_sound, held_reply, picked_game}
use Rattle.winner_session.proofs.Known.{mate_or_not, some_held}
use Rattle.play_loop.specs.Turns.{ArePlayable}
use Rattle.play_loop.specs.declared.ending.Ending.TheVariants.{Mated}
use Rattle.play_loop.specs.declared.player.GameState.{GameState}
use Rattle.play_loop.specs.declared.player.GameState.TheVariants.{Over, LineDue, ToMove}
use Rattle.winner_player.specs.WinnerRules.{HeldPick, IsHeldBy, IsLosersTurn, IsOfSession, Match, StandsAs, moved, seen, strategy_by, winner_rules}

-- the winner's first move into held positions is the one in the report
pick_by : (o : Origin) (s : Solution) (f : Frame) (p : Position) (ply : ℕ) (choice : Option Choice)
    → Pick (IsHeldOf o s (suc ply)) f p choice
    ↔ HeldPick (record { winner = s.winner; start = s.position; moves = s.moves; strategy = strategy_by o s; frame = f; position = p; ply = ply }) choice
pick_by Plan s f p ply choice = (λ h. h, λ h. h)
pick_by Claimed s f p ply choice = (λ h. h, λ h. h)

pub pick_told : (g : Game) (choice : Option Choice) → WinPick g choice ↔ HeldPick (seen g) choice
pick_told g choice = pick_by g.solution.origin g.solution g.frame g.position g.ply choice

one_standing : (g : Match) (one two : GameState) → StandsAs g one → StandsAs g two → one ≡ two
one_standing g (Over a) (Over b) h k = ap (λ x. Over x) (h.0 ∙ sym k.0)
one_standing g (Over a) LineDue h k = absurd (k.1 h.2)
one_standing g (Over a) ToMove h k = absurd (other_differs g.winner (sym k ∙ h.1))
one_standing g LineDue (Over b) h k = absurd (h.1 k.2)
one_standing g LineDue LineDue h k = refl
one_standing g LineDue ToMove h k = absurd (other_differs g.winner (sym k ∙ h.0))
one_standing g ToMove (Over b) h k = absurd (other_differs g.winner (sym h ∙ k.1))
one_standing g ToMove LineDue h k = absurd (other_differs g.winner (sym h ∙ k.0))
one_standing g ToMove ToMove h k = refl

-- the same, for a session
module _ (g : Game) (game : IsGame g) where
  losers_standing : g.position.turn ≡ other g.solution.winner → Decided (Mate g.position) → (standing : GameState) × StandsAs (seen g) standing
  losers_standing turn (inl mate) = (Over Mated, (refl, turn, mate))
  losers_standing turn (inr none) = (LineDue, (turn, none))

  session_stands : (standing : GameState) × StandsAs (seen g) standing
  session_stands = elim (side_or_other g.position.turn g.solution.winner) [
    | inl turn ↦ (ToMove, turn)
    | inr turn ↦ losers_standing turn (mate_or_not (game_sound g game))
  ]

  session_picks : g.position.turn ≡ g.solution.winner → (choice : Option Choice) × HeldPick (seen g) choice
  session_picks turn = let h = some_held g game turn in (h.0, (pick_told g h.0).0 h.1)

  pick_keeps : (c : Choice) (q : Position) → g.position.turn ≡ g.solution.winner → HeldPick (seen g) (Some c) → Legal g.position c.mv.man (target c.mv) q
      → IsOfSession (moved (seen g) q) × (q.turn ≡ g.solution.winner → ⊥)
  pick_keeps c q turn pick legal =
      let next = picked_game (moved_to g q) c game turn (record { pick = (pick_told g (Some c)).1 pick; legal = legal; is_after = refl }) in
      ((moved_to g q, next.0, refl), λ again. other_differs g.solution.winner (sym again ∙ next.2))

  reply_keeps : (mv : Move) (q : Position) → g.position.turn ≡ other g.solution.winner → Legal g.position mv.man (target mv) q → IsOfSession (moved (seen g) q)
  reply_keeps mv q turn legal = (moved_to g q, held_reply g game turn legal, refl)

some_standing : (m : Match) → IsOfSession m → (standing : GameState) × StandsAs m standing
some_standing m (g, game, is) = subst (λ (x : Match). (standing : GameState) × StandsAs x standing) is (session_stands g game)

held_some : (m : Match) → IsOfSession m → m.position.turn ≡ m.winner → (choice : Option Choice) × HeldPick m choice
held_some m (g, game, is) = subst (λ (x : Match). x.position.turn ≡ x.winner → (choice : Option Choice) × HeldPick x choice) is (session_picks g game)

abbrev PickKeeps : Match → Type 0
PickKeeps m =
    (c : Choice) (q : Position) → m.position.turn ≡ m.winner → HeldPick m (Some c) → Legal m.position c.mv.man (target c.mv) q
    → IsOfSession (moved m q) × (q.turn ≡ m.winner → ⊥)

held_keeps : (m : Match) → IsOfSession m → PickKeeps m
held_keeps m (g, game, is) = subst PickKeeps is (λ c q turn pick legal. pick_keeps g game c q turn pick legal)

abbrev ReplyKeeps : Match → Type 0
ReplyKeeps m = (mv : Move) (q : Position) → IsLosersTurn m → Legal m.position mv.man (target mv) q → IsOfSession (moved m q)

typed_keeps : (m : Match) → IsOfSession m → ReplyKeeps m
typed_keeps m (g, game, is) = subst ReplyKeeps is (λ mv q turn legal. reply_keeps g game mv q turn legal)

pub winner_playable : ArePlayable winner_rules IsOfSession
winner_playable = record {
  one_standing = λ g one two h k. one_standing g one two h k;
  some_standing = λ g kept. some_standing g kept;
  one_pick = λ g one two h k. pick_once (IsHeldBy g.strategy g (suc g.ply)) g.frame g.position one two h k;
  some_pick = λ g kept his. held_some g kept his;
  picks_lead = λ g c pick. (pick.position, pick.leads.legal);
  picks_keep = λ g c q kept his pick legal. held_keeps g kept c q his pick legal;
  typed_keep = λ g mv q kept due legal. typed_keeps g kept mv q due.0 legal;
  moved_to = λ g q. refl;
}
