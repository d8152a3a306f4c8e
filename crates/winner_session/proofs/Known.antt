-- What is known of a game: whether it is mate, and whether the winner has a move.
use Rattle.std.proofs.Common.{◌≡◌, inl, inr, ℕ, suc, Option, Some, None, refl, sym, subst, ◌∙◌, arith}
use Rattle.std.specs.Prelude.{IsSomeAnd}
use Rattle.track_word.specs.Tracks.{IsAscending}
use Rattle.auto_core.specs.Automaton.{Automaton}
use Rattle.auto_core.specs.Integers.{IsAccepted}
use Rattle.game_rules.specs.declared.men.Square.{Square}
use Rattle.game_rules.specs.Game.{Position, InCheck, Legal, Mate, Sound}
use Rattle.game_laws.proofs.DecideLemmas.{Decided, in_check, map_decided}
use Rattle.game_laws.proofs.MateLemmas.{mate_or_move}
use Rattle.mask_sets.specs.Sets.{IsIn, set_at}
use Rattle.mask_sets.specs.Stock.{mask_of}
use Rattle.mask_sets.specs.Tuple.{tuple_of}
use Rattle.set_plan.proofs.Tables.{table_decided}
use Rattle.winning_sets.specs.Claimed.{IsHeld}
use Rattle.mate_plan.proofs.MaskTracks.{tracks_ascend}
use Rattle.winning_sets.proofs.ValidLemmas.{valid_formed}
use Rattle.move_choice.specs.declared.choice.Choice.{Choice}
use Rattle.move_choice.proofs.Picking.{some_pick}
use Rattle.winner_session.specs.Game.{Game, IsGame, WinPick}
use Rattle.winner_session.proofs.Games.{held_next, kept_set, next_held, table_of, winner_ply}

-- it is known whether a sound position is mate; this belongs in game_laws
pub mate_or_not : {p : Position} → Sound p → Decided (Mate p)
mate_or_not {p} sound = by (in_check p p.turn)
  where
    by : Decided (InCheck p p.turn) → Decided (Mate p)
    by (inl check) = elim (mate_or_move p sound check) [ inl mate ↦ inl mate | inr go ↦ inr (λ mate. mate.stuck go.0 go.1 go.2 go.3) ]
    by (inr safe) = inr (λ mate. safe mate.check)

-- it is known which positions after a move of the winner are held
module _ (g : Game) (game : IsGame g) (turn : g.position.turn ≡ g.solution.winner) where
  accepted_or_not : (q : Position) (o : Option Automaton) → set_at (table_of g.solution (suc g.ply)) (mask_of q) ≡ o → Decided (IsSomeAnd o (λ a. IsAccepted a (tuple_of q)))
  accepted_or_not q None e = inr (λ h. h)
  accepted_or_not q (Some a) e =
      let s = g.solution in
      let formed = valid_formed s game.valid (suc g.ply) (mask_of q) a (sym (kept_set s (suc g.ply) (mask_of q)) ∙ e) in
      table_decided a (subst IsAscending (sym formed.tracks) (tracks_ascend s.position.men (mask_of q))) formed.integers (tuple_of q)

  held_or_not : (i : ℕ) (z : Square) (q : Position) → Legal g.position i z q → Decided (IsHeld g.solution (suc g.ply) q)
  held_or_not i z q legal =
      let s = g.solution in
      let later = winner_ply g game turn in
      map_decided (IsIn (table_of s (suc g.ply)) q) (IsHeld s (suc g.ply) q)
      (next_held s game.valid g.ply g.position game.reached turn legal.step)
      (held_next s game.valid g.ply g.position game.reached turn (omega (arith, later)) legal.step)
      (accepted_or_not q (set_at (table_of s (suc g.ply)) (mask_of q)) refl)

  -- so he has a pick, or there is none
  pub some_held : (o : Option Choice) × WinPick g o
  some_held = some_pick (IsHeld g.solution (suc g.ply)) g.frame g.position held_or_not
