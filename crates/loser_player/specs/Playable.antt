-- The games of defences can be played by the loser's rules: the conditions of the law of a player, step by step. No
-- definition cites this module.
use Rattle.std.proofs.Common.{◌≡◌, Option, Some, refl, sym, ap, subst, ◌∙◌}
use Rattle.game_rules.specs.Game.{Legal, Position, other}
use Rattle.game_laws.proofs.MoveLemmas.{same_after}
use Rattle.game_laws.proofs.SoundLemmas.{other_differs, other_other}
use Rattle.chess_game.specs.declared.moves.Move.{Move}
use Rattle.move_choice.specs.Choice.{target}
use Rattle.move_choice.specs.declared.choice.Choice.{Choice}
use Rattle.move_choice.proofs.Once.{pick_once}
use Rattle.move_choice.proofs.Picking.{some_pick}
use Rattle.winner_session.specs.Game.{Game, moved_to}
use Rattle.play_loop.specs.Turns.{ArePlayable}
use Rattle.play_loop.specs.declared.player.GameState.{GameState}
use Rattle.play_loop.specs.declared.player.GameState.TheVariants.{Over, LineDue, ToMove}
use Rattle.loser_session.specs.Defending.{DefenceMatch, DefencePick, IsDefence, IsNextUnwon, StandsAs, moved, seen}
use Rattle.loser_session.specs.declared.defence.Stand.{Stand}
use Rattle.loser_session.specs.declared.defence.Stand.TheVariants.{Held, Stuck, Attack, Answer}
use Rattle.loser_session.proofs.Defending.{pick_keeps, some_stand, typed_keeps, unwon_or_not}
use Rattle.loser_session.proofs.Matches.{stands_once}
use Rattle.loser_player.specs.LoserRules.{IsOfDefence, StandsFor, loser_rules, standing_of}

-- whose turn it is in a state
abbrev TellsOf : DefenceMatch → GameState → Type 0
TellsOf g (Over ending) = Unit {0}
TellsOf g LineDue = StandsAs g Attack
TellsOf g ToMove = StandsAs g Answer

tells : (g : DefenceMatch) (stand : Stand) → StandsAs g stand → TellsOf g (standing_of stand)
tells g Held h = tt
tells g Stuck h = tt
tells g Attack h = h
tells g Answer h = h

-- a line is due if it is the winner's turn, and it is the loser's turn if he is to answer
pub told_turn : (g : DefenceMatch) (standing : GameState) → StandsFor g standing → TellsOf g standing
told_turn g standing (stand, is, h) = subst (TellsOf g) (sym is) (tells g stand h)

stand_once : (g : DefenceMatch) (one two : GameState) → StandsFor g one → StandsFor g two → one ≡ two
stand_once g one two (s, e, h) (t, f, k) = e ∙ ap standing_of (stands_once g s t h k) ∙ sym f

-- a property of defences is a property of the games that they are seen as
module _ (P : DefenceMatch → Type 0) (each : (g : Game) → IsDefence g → P (seen g)) where
  pub of_defence : (g : DefenceMatch) → IsOfDefence g → P g
  of_defence g h = subst P h.same (each h.game h.defence)

module _ (g : Game) (keeps : IsDefence g) where
  some_standing : (standing : GameState) × StandsFor (seen g) standing
  some_standing = let some = some_stand g keeps in (standing_of some.0, (some.0, refl, some.1))

  some_answer : StandsFor (seen g) ToMove → (choice : Option Choice) × DefencePick (seen g) choice
  some_answer stands =
      let answer = told_turn (seen g) ToMove stands in
      some_pick (IsNextUnwon (seen g)) g.frame g.position (unwon_or_not g keeps answer.2 answer.0)

  pub picked_keeps : (c : Choice) (q : Position) → StandsFor (seen g) ToMove → DefencePick (seen g) (Some c)
      → Legal g.position c.mv.man (target c.mv) q → IsDefence (moved_to g q)
  picked_keeps c q stands pick legal =
      let answer = told_turn (seen g) ToMove stands in
      let same : pick.position ≡ q = same_after pick.leads.legal.step.after legal.step.after in
      pick_keeps g keeps answer.2 answer.0 legal (subst (IsNextUnwon (seen g)) same pick.leads.is_in)

  -- it is then the winner's turn
  moves_once : (c : Choice) (q : Position) → StandsFor (seen g) ToMove → Legal g.position c.mv.man (target c.mv) q
      → StandsFor (moved (seen g) q) ToMove → ⊥
  moves_once c q stands legal again =
      let w = g.solution.winner in
      let turn = (told_turn (seen g) ToMove stands).2 in
      let his : q.turn ≡ w = legal.step.after.turn ∙ (ap other turn ∙ other_other w) in
      other_differs w (sym his ∙ (told_turn (moved (seen g) q) ToMove again).2)

  pub line_keeps : (mv : Move) (q : Position) → StandsFor (seen g) LineDue → Legal g.position mv.man (target mv) q → IsDefence (moved_to g q)
  line_keeps mv q stands legal = let attack = told_turn (seen g) LineDue stands in typed_keeps g keeps attack.2 attack.0 legal

pub loser_plays : ArePlayable loser_rules IsOfDefence
loser_plays = record {
  one_standing = stand_once;
  some_standing = of_defence (λ m. (standing : GameState) × StandsFor m standing) some_standing;
  one_pick = λ g. pick_once (IsNextUnwon g) g.frame g.position;
  some_pick = of_defence (λ m. StandsFor m ToMove → (choice : Option Choice) × DefencePick m choice) some_answer;
  picks_lead = λ g c pick. (pick.position, pick.leads.legal);
  picks_keep = λ m c q kept stands pick legal.
      of_defence
      (λ m. StandsFor m ToMove → DefencePick m (Some c) → Legal m.position c.mv.man (target c.mv) q → IsOfDefence (moved m q) × (StandsFor (moved m q) ToMove → ⊥))
      (λ g keeps still choice goes.
      (record { game = moved_to g q; defence = picked_keeps g keeps c q still choice goes; same = refl }, moves_once g keeps c q still goes))
      m kept stands pick legal;
  typed_keep = λ m mv q kept stands legal.
      of_defence
      (λ m. StandsFor m LineDue → Legal m.position mv.man (target mv) q → IsOfDefence (moved m q))
      (λ g keeps due goes. record { game = moved_to g q; defence = line_keeps g keeps mv q due goes; same = refl })
      m kept stands legal;
  moved_to = λ g q. refl;
}
