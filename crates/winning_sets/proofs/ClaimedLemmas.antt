-- The positions of a won claim are of the game, and the winner mates in time. Other crates may cite these lemmas.
use Rattle.std.proofs.Common.{◌≡◌, ℕ, Bool, Option, Some, None, refl, sym, ◌∙◌, subst}
use Rattle.std.specs.Prelude.{IsSomeAnd}
use Rattle.auto_core.specs.Automaton.{Automaton}
use Rattle.auto_core.specs.Integers.{IsAccepted}
use Rattle.game_rules.specs.Game.{HasKings, InCheck, IsApart, Position, Sound, Value, other}
use Rattle.game_rules.specs.declared.men.Side.{Side}
use Rattle.game_laws.proofs.SoundLemmas.{other_other}
use Rattle.rule_formula.specs.Fits.{Fits, IsGameMask}
use Rattle.mask_sets.specs.Stock.{mask_of}
use Rattle.game_laws.specs.Stock.{HasStock}
use Rattle.rule_formula.specs.Placed.{is_live, placed}
use Rattle.mask_sets.specs.Tuple.{tuple_of}
use Rattle.rule_formula.proofs.GameTheorem.{placed_fits}
use Rattle.rule_formula.proofs.LawTheorem.{squares_of}
use Rattle.game_laws.proofs.StockLemmas.{stock_man-men}
use Rattle.rule_formula.proofs.StockLemmas.{stock_placed}
use Rattle.mate_plan.specs.Claim.{Claim, IsClaim, IsClaimed, IsLosersPly, claimed_at}
use Rattle.mate_plan.specs.Won.{Won}
use Rattle.winning_sets.specs.OfGame.{AreOfGame}
use Rattle.winning_sets.proofs.WonLemmas.{won_value}

-- a position of the stock with a mask of the game whose men stand apart is one of the game
pub stock_fits : {p q : Position} → HasKings p → HasStock p.men q → IsGameMask p (mask_of q) → IsApart q → Fits p q.turn q
stock_fits {p} {q} kings stock game apart =
    let live : ℕ → Bool = is_live (mask_of q) in
    let is : placed p.men live q.turn (squares_of q) ≡ q = stock_placed stock in
    subst (Fits p q.turn) is
    (placed_fits p live q.turn (squares_of q) (subst IsApart (sym is) apart) kings
    (λ k m at king. game.kings k m (sym (stock_man-men p k) ∙ at) king)
    (λ k m at on. game.live k m (sym (stock_man-men p k) ∙ at) on))

-- and it is sound where the side that is not to move is not in check
pub fits_sound : {p : Position} {side : Side} {q : Position} → Fits p side q → (InCheck q (other side) → ⊥) → Sound q
fits_sound {q} fits safe = record {
  kings = fits.kings;
  apart = fits.apart;
  other_safe = let P : Side → Type 0 = λ s. InCheck q (other s) → ⊥ in subst P (sym fits.turn) safe;
}

module _ (c : Claim) (is : IsClaim c) where
  set_there : (ply : ℕ) (q : Position) (o : Option Automaton) → claimed_at c ply (mask_of q) ≡ o → IsSomeAnd o (λ a. IsAccepted a (tuple_of q))
      → IsLosersPly c.winner c.position c.moves ply × IsGameMask c.position (mask_of q)
  set_there ply q None e h = absurd h
  set_there ply q (Some a) e h = is.only ply (mask_of q) a e

  pub claimed_there : {ply : ℕ} {q : Position} → IsClaimed c ply q → IsLosersPly c.winner c.position c.moves ply × IsGameMask c.position (mask_of q)
  claimed_there {ply} {q} h = set_there ply q (claimed_at c ply (mask_of q)) refl h.is_in

  -- claimed positions whose men stand apart fit
  pub claimed_fits : {ply : ℕ} {q : Position} → IsClaimed c ply q → IsApart q → Fits c.position (other c.winner) q
  claimed_fits {q} h apart =
      let P : Side → Type 0 = λ s. Fits c.position s q in
      subst P h.turn (stock_fits is.sound.kings h.stock (claimed_there h).1 apart)

  pub claimed_sound : {ply : ℕ} {q : Position} → IsClaimed c ply q → IsApart q → (InCheck q c.winner → ⊥) → Sound q
  claimed_sound {q} h apart safe =
      let P : Side → Type 0 = λ s. InCheck q s → ⊥ in
      fits_sound (claimed_fits h apart) (subst P (sym (other_other c.winner)) safe)

  pub of_game : Won c → AreOfGame c.winner c.position c.moves (IsClaimed c)
  of_game won = record {
    plies = λ ply q h. (claimed_there h).0;
    turn = λ ply q h. h.turn;
    sound = λ ply q h. claimed_sound h (won.positions.same ply q h) (won.positions.guard ply q h);
  }

  -- and the winner mates in time
  pub claim_value : Won c → Value c.winner c.moves c.position
  claim_value won = won_value c.winner c.position c.moves (IsClaimed c) (of_game won) won.positions
