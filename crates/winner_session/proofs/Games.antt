-- What a session keeps, move by move.
use Rattle.std.proofs.Common.{◌≡◌, inl, inr, ℕ, zero, suc, ◌+◌, ◌-◌, ◌/◌, ◌<◌, ◌≤◌, List, [], ◌∷◌, length, get_or, Option, Some, None, refl, sym, ap, subst, ◌∙◌, arith}
use Rattle.std.specs.Prelude.{IsSomeAnd, slice_get}
use Rattle.std.proofs.lemmas.Option.{same_Some}
use Rattle.auto_core.specs.Automaton.{Automaton}
use Rattle.auto_core.specs.Integers.{IsAccepted}
use Rattle.game_rules.specs.declared.men.Side.{Side}
use Rattle.game_rules.specs.declared.men.Square.{Square}
use Rattle.game_rules.specs.Game.{Position, InCheck, Legal, Lost, Moves, Sound, Step, Value, other}
use Rattle.game_laws.proofs.MoveLemmas.{same_after}
use Rattle.game_laws.proofs.SoundLemmas.{other_differs, other_other}
use Rattle.chess_game.specs.declared.moves.Move.{Move}
use Rattle.chess_game.specs.declared.way.Frame.{Frame}
use Rattle.rule_formula.specs.Fits.{masks_of}
use Rattle.mask_sets.specs.Stock.{mask_of}
use Rattle.game_laws.specs.Stock.{HasStock}
use Rattle.mask_sets.specs.Tuple.{tuple_of}
use Rattle.mask_sets.specs.Sets.{HaveAtMost, IsIn, Table, set_at}
use Rattle.mate_plan.specs.Plan.{turn_at}
use Rattle.mate_plan.specs.PlanOf.{last_ply}
use Rattle.mate_plan.specs.Turns.{plies_before_turn}
use Rattle.mate_plan.specs.Won.{IsBegun, IsWonBy}
use Rattle.mate_plan.proofs.TurnLemmas.{its_plies, moves_first, moves_later, waits_none, waits_one, waits_sum}
use Rattle.winning_sets.specs.Claimed.{IsHeld, IsValid}
use Rattle.winning_sets.specs.Kept.{moves_left}
use Rattle.winning_sets.specs.Reach.{Reach}
use Rattle.winning_sets.specs.Solve.{Solution, end_of, kept_at}
use Rattle.winning_sets.proofs.KeptParts.{reached_sound, turn-reach}
use Rattle.winning_sets.proofs.Places.{sets_at-ply}
use Rattle.winning_sets.proofs.Tuples.{tuple_count}
use Rattle.winning_sets.proofs.ValidLemmas.{valid_formed, valid_sound}
use Rattle.move_choice.specs.Aims.{AreNext}
use Rattle.move_choice.specs.Choice.{Pick, target}
use Rattle.move_choice.specs.declared.choice.Choice.{Choice}
use Rattle.game_laws.proofs.StockLemmas.{own_stock, step_stock, stock_trans}
use Rattle.winner_session.specs.Game.{Game, Continues, HasRoom, IsGame, IsLostAfter, IsPicked, LostIn, Plays, Stands, WinPick, WinnerContinues, made, made_in, moved_to, start_of}
use Rattle.winner_session.proofs.Held.{HasHeld, Losing, has_held, held_won, losing_lost}

-- the kept sets of a ply, as they are lent
abbrev pub table_of : Solution → ℕ → Table
table_of s ply = record { masks = masks_of s.position; sets = get_or s.kept ply [] }

pub kept_set : (s : Solution) (ply mask : ℕ) → set_at (table_of s ply) mask ≡ kept_at s ply mask
kept_set s ply mask = sets_at-ply (masks_of s.position) s.kept ply mask

pub table_is : (s : Solution) (ply next : ℕ) (masks : List ℕ) (sets : List Automaton) (t : Table) → next ≡ suc ply → masks ≡ masks_of s.position
    → sets ≡ get_or s.kept next [] → t ≡ record { masks = masks; sets = sets } → t ≡ table_of s (suc ply)
table_is s ply next masks sets t is_next masks_are sets_are is =
    let Of : List ℕ → List Automaton → Table = λ ms xs. record { masks = ms; sets = xs } in
    is ∙ (ap (λ ms. Of ms sets) masks_are ∙ (ap (Of (masks_of s.position)) sets_are ∙ ap (λ k. Of (masks_of s.position) (get_or s.kept k [])) is_next))

reach_stock : (p : Position) (ply : ℕ) (q : Position) → Reach p ply q → HasStock p.men q
reach_stock p zero q is = subst (HasStock p.men) (sym is) (own_stock p)
reach_stock p (suc ply) q (before, reached, (i, z, legal)) = step_stock (reach_stock p ply before reached) legal.step.after

-- the sets of the ply after that of a reached position with the winner to move, as they are lent
module _ (s : Solution) (valid : IsValid s) (ply : ℕ) (p : Position) (reached : Reach s.position ply p) (turn : p.turn ≡ s.winner) where
  held : HasHeld s.origin s
  held = has_held s valid

  abbrev Has : Position → Option Automaton → Type 0
  Has q o = IsSomeAnd o (λ a. IsAccepted a (tuple_of q))

  losers_turn : {i : ℕ} {z : Square} {q : Position} → Step p i z q → q.turn ≡ other s.winner
  losers_turn step = step.after.turn ∙ ap other turn

  -- a step into them
  step_losing : {i : ℕ} {z : Square} {q : Position} → Step p i z q → IsIn (table_of s (suc ply)) q → Losing s.origin s (suc ply) q
  step_losing {q} step is =
      let stock = step_stock (reach_stock s.position ply p reached) step.after in
      let at : turn_at s.position.turn (suc ply) ≡ other s.winner = ap other (sym (turn-reach s.position p ply reached) ∙ turn) in
      held.of_set (suc ply) q stock (losers_turn step) at (subst (Has q) (kept_set s (suc ply) (mask_of q)) is)

  pub next_held : {i : ℕ} {z : Square} {q : Position} → Step p i z q → IsIn (table_of s (suc ply)) q → IsHeld s (suc ply) q
  next_held {q} step is = held.held (suc ply) q (step_losing step is)

  pub held_next : suc ply ≤ end_of s → {i : ℕ} {z : Square} {q : Position} → Step p i z q → IsHeld s (suc ply) q → IsIn (table_of s (suc ply)) q
  held_next within {q} step is =
      let losing = held.losing (suc ply) q within (losers_turn step) is in
      subst (Has q) (sym (kept_set s (suc ply) (mask_of q))) (held.in_set (suc ply) q losing)

  pub are_next : AreNext p (table_of s (suc ply))
  are_next = record {
    askable = λ q stock a is.
        let formed = valid_formed s valid (suc ply) (mask_of q) a (sym (kept_set s (suc ply) (mask_of q)) ∙ is) in
        let whole = stock_trans (reach_stock s.position ply p reached) stock in
        record { integers = formed.integers; count = tuple_count whole ∙ sym (ap length formed.tracks) };
    legal = λ i z q step is check.
        let sound = held.game.sound (suc ply) q (step_losing step is) in
        let mover : other q.turn ≡ p.turn = ap other step.after.turn ∙ other_other p.turn in
        sound.other_safe (subst (InCheck q) (sym mover) check);
  }

  -- the first move into the sets is the first into what is held
  pub pick_held : suc ply ≤ end_of s → (f : Frame) (o : Option Choice) → Pick (IsIn (table_of s (suc ply))) f p o → Pick (IsHeld s (suc ply)) f p o
  pick_held within f None none = λ i z q legal inside is. none i z q legal inside (held_next within legal.step is)
  pick_held within f (Some c) h = record {
    has = tt;
    position = h.position;
    leads = record {
      man = h.leads.man;
      from = h.leads.from;
      is_man = h.leads.is_man;
      stands = h.leads.stands;
      on = h.leads.on;
      inside = h.leads.inside;
      legal = h.leads.legal;
      is_in = next_held h.leads.legal.step h.leads.is_in;
    };
    first = λ d q has into before. h.first d q tt (record {
      man = into.man;
      from = into.from;
      is_man = into.is_man;
      stands = into.stands;
      on = into.on;
      inside = into.inside;
      legal = into.legal;
      is_in = held_next within into.legal.step into.is_in;
    }) before;
  }

-- every second ply is the winner's, from his first turn on
made_of : (winner first : Side) (ply : ℕ) → made winner first ply ≡ (ply + plies_before_turn (other winner) first) / 2
made_of winner first zero = let one = waits_sum winner first in omega (arith, one)
made_of winner first (suc ply) = by (made_of winner first ply) (plies_before_turn winner (turn_at first ply)) refl
  where
    by : made winner first ply ≡ (ply + plies_before_turn (other winner) first) / 2 → (n : ℕ) → plies_before_turn winner (turn_at first ply) ≡ n
        → made winner first (suc ply) ≡ (suc ply + plies_before_turn (other winner) first) / 2
    by so_far zero none =
        let at = (its_plies winner first ply (moves_first winner (turn_at first ply) none)).1 in
        let sum = waits_sum winner first in
        let here = waits_sum winner (turn_at first ply) in
        omega (arith, so_far, sum, here, none, at)
    by so_far (suc n) some =
        let at = (its_plies (other winner) first ply (moves_later winner (turn_at first ply) n some)).1 in
        let sum = waits_sum winner first in
        let here = waits_sum winner (turn_at first ply) in
        omega (arith, so_far, sum, here, some, at)

-- how many moves are made and left
pub left_made : (winner first : Side) (moves ply : ℕ) → ply ≤ last_ply winner first moves → moves_left (last_ply winner first moves) ply + made winner first ply ≡ moves
left_made winner first moves ply low =
    let m = made_of winner first ply in
    let one = waits_sum winner first in
    omega (arith, low, m, one)

-- before the last ply, where the winner is to move, another ply comes before the last
winners_ply : (winner first : Side) (moves ply : ℕ) → ply < last_ply winner first moves → turn_at first ply ≡ winner → suc ply < last_ply winner first moves
winners_ply winner first moves ply low is = let at = (its_plies winner first ply is).1 in omega (arith, low, at)

module _ (g : Game) (game : IsGame g) where
  abbrev winner : Side
  winner = g.solution.winner

  abbrev last : ℕ
  last = end_of g.solution

  has : HasHeld g.solution.origin g.solution
  has = has_held g.solution game.valid

  won : IsWonBy g.solution.winner g.solution.position (Losing g.solution.origin g.solution)
  won = held_won g.solution game.valid game.value

  pub game_within : g.ply ≤ end_of g.solution
  game_within = let low = game.before in omega (arith, low)

  pub game_sound : Sound g.position
  game_sound = reached_sound g.solution.position (valid_sound g.solution game.valid) g.ply g.position game.reached

  pub game_turn : g.position.turn ≡ turn_at g.solution.position.turn g.ply
  game_turn = turn-reach g.solution.position g.position g.ply game.reached

  left_is : moves_left (end_of g.solution) g.ply + made_in g ≡ g.solution.moves
  left_is = left_made g.solution.winner g.solution.position.turn g.solution.moves g.ply game_within

  -- with the loser to move, the position is one of those that are won
  losing : g.position.turn ≡ other g.solution.winner → Losing g.solution.origin g.solution g.ply g.position
  losing turn = elim (game.stands) [
    | inl (his, held) ↦ has.losing g.ply g.position game_within turn held
    | inr (his, leads) ↦ absurd (other_differs g.solution.winner (sym his ∙ turn))
  ]

  -- he is mated within the moves that are left
  pub lost_in : g.position.turn ≡ other g.solution.winner → LostIn g
  lost_in turn = record {
    left = moves_left (end_of g.solution) g.ply;
    count = left_is;
    lost = losing_lost g.solution game.valid game.value g.ply g.position (losing turn);
  }

  -- each reply leaves the winner mating in time
  pub held_reply : g.position.turn ≡ other g.solution.winner → {i : ℕ} {z : Square} {q : Position} → Legal g.position i z q → IsGame (moved_to g q)
  held_reply turn {i} {z} {q} legal =
      let (r, moves, next) = won.left g.ply g.position q (losing turn) (i, z, legal) in
      let at = (has.game.plies (g.ply + 2) r next).before in
      let two : g.ply + 2 ≡ suc (suc g.ply) = omega arith in
      let his : q.turn ≡ g.solution.winner = legal.step.after.turn ∙ (ap other turn ∙ other_other g.solution.winner) in
      record {
        valid = game.valid;
        value = game.value;
        reached = (g.position, game.reached, (i, z, legal));
        before = omega (arith, at);
        stands = inr (his, (r, moves, subst (λ (n : ℕ). IsHeld g.solution n r) two (has.held (g.ply + 2) r next)));
      }

  -- a move of the winner is left where he is to move
  pub winner_ply : g.position.turn ≡ g.solution.winner → suc g.ply < end_of g.solution
  winner_ply turn = winners_ply g.solution.winner g.solution.position.turn g.solution.moves g.ply game.before (sym game_turn ∙ turn)

  -- and a position that he moves to and that is held keeps the game
  pub held_move : g.position.turn ≡ g.solution.winner → (q : Position) → Moves g.position q → IsHeld g.solution (suc g.ply) q → IsGame (moved_to g q)
  held_move turn q moves held =
      let (i, z, legal) = moves in
      record {
        valid = game.valid;
        value = game.value;
        reached = (g.position, game.reached, moves);
        before = winner_ply turn;
        stands = inl (legal.step.after.turn ∙ ap other turn, held);
      }

  -- so does his pick
  pub held_pick : g.position.turn ≡ g.solution.winner → (c : Choice) {q : Position} → WinPick g (Some c) → Legal g.position c.mv.man (target c.mv) q → IsGame (moved_to g q)
  held_pick turn c {q} pick legal =
      let same : pick.position ≡ q = same_after pick.leads.legal.step.after legal.step.after in
      held_move turn q (c.mv.man, target c.mv, legal) (subst (IsHeld g.solution (suc g.ply)) same pick.leads.is_in)

  -- the sets of the next ply, as they are lent
  module _ (t : Table) (is : t ≡ table_of g.solution (suc g.ply)) where
    pub lent_few : (states : ℕ) → HasRoom states g.solution → HaveAtMost states t
    lent_few states room = subst (HaveAtMost states) (sym is) (λ mask a at. room (suc g.ply) mask a (sym (kept_set g.solution (suc g.ply) mask) ∙ at))

    module _ (turn : g.position.turn ≡ g.solution.winner) where
      pub lent_next : AreNext g.position t
      lent_next = subst (AreNext g.position) (sym is) (are_next g.solution game.valid g.ply g.position game.reached turn)

      pub lent_pick : (o : Option Choice) → Pick (IsIn t) g.frame g.position o → WinPick g o
      lent_pick o pick =
          let later = winner_ply turn in
          pick_held g.solution game.valid g.ply g.position game.reached turn (omega (arith, later)) g.frame o (subst (λ u. Pick (IsIn u) g.frame g.position o) is pick)

pub picked_game : {g : Game} (after : Game) (c : Choice) → IsGame g → g.position.turn ≡ g.solution.winner → IsPicked g c after
    → IsGame after × (after.solution ≡ g.solution) × (after.position.turn ≡ other g.solution.winner) × (made_in after ≡ made_in g + 1)
picked_game {g} after c game turn picked =
    let kept = held_pick g game turn c picked.pick picked.legal in
    let w = g.solution.winner in
    let one : plies_before_turn (other w) (turn_at g.solution.position.turn g.ply) ≡ 1 =
    waits_one (other w) (turn_at g.solution.position.turn g.ply) ((sym (game_turn g game) ∙ turn) ∙ sym (other_other w)) in (
      subst IsGame (sym picked.is_after) kept,
      ap (λ h. h.solution) picked.is_after,
      picked.legal.step.after.turn ∙ ap other turn,
      ap made_in picked.is_after ∙ ap (λ k. made_in g + k) one,
    )

pub none_get : (games : List Game) (k : ℕ) (after : Game) → games ≡ [] → slice_get games k ≡ Some after → ⊥
none_get [] k after e is = cc
none_get (x ∷ xs) k after e is = cc

abbrev EachLost : Game → List Game → Type 0
EachLost g games = (k : ℕ) (after : Game) → slice_get games k ≡ Some after → IsLostAfter g (suc k) after

-- where each game after the loser's replies is lost, so is each one after the winner's move
winner_lost : {g : Game} (typed : List Move) (games : List Game) → IsGame g → g.position.turn ≡ g.solution.winner → WinnerContinues (λ after later. Continues after typed later) g games
    → ((next : Game) (later : List Game) → IsGame next → next.position.turn ≡ other next.solution.winner → Continues next typed later → EachLost next later) → EachLost g games
winner_lost typed games game turn (inl (none, ended)) go k after is = absurd (none_get games k after ended is)
winner_lost {g} typed games game turn (inr (choice, next, later, picked, is_games, goes)) go k after is =
    let to = picked_game next choice game turn picked in
    let next_turn : next.position.turn ≡ other next.solution.winner = to.2 ∙ ap (λ s. other s.winner) (sym to.1) in
    let first : IsLostAfter g 1 next = record { same = to.1; made = to.3; lost = lost_in next to.0 next_turn } in
    by k (ap (λ l. slice_get l k) (sym is_games) ∙ is) first (go next later to.0 next_turn goes)
  where
    by : (k : ℕ) → slice_get (next ∷ later) k ≡ Some after → IsLostAfter g 1 next → EachLost next later → IsLostAfter g (suc k) after
    by zero is first rest = subst (IsLostAfter g 1) (same_Some next after is) first
    by (suc k) is first rest =
        let later_one = rest k after is in
        record { same = later_one.same ∙ first.same; made = (let a = later_one.made in let b = first.made in omega (arith, a, b)); lost = later_one.lost }

goes_lost : {g : Game} (typed : List Move) (games : List Game) → IsGame g → g.position.turn ≡ other g.solution.winner → Continues g typed games → EachLost g games
goes_lost [] games game turn goes k after is = absurd (none_get games k after goes is)
goes_lost (mv ∷ typed) games game turn (inl (refused, goes)) k after is = goes_lost typed games game turn goes k after is
goes_lost {g} (mv ∷ typed) games game turn (inr (q, legal, goes)) k after is =
    let reply : IsGame (moved_to g q) = held_reply g game turn legal in
    let his : q.turn ≡ g.solution.winner = legal.step.after.turn ∙ (ap other turn ∙ other_other g.solution.winner) in
    let w = g.solution.winner in
    let none : plies_before_turn (other w) (turn_at g.solution.position.turn g.ply) ≡ 0 =
    waits_none (other w) (turn_at g.solution.position.turn g.ply) (sym (game_turn g game) ∙ turn) in
    let all = winner_lost typed games reply his goes (λ next later kept turns on i at there. goes_lost typed later kept turns on i at there) k after is in
    record { same = all.same; made = (let count = all.made in omega (arith, count, none)); lost = all.lost }

pub all_lost : (g : Game) (typed : List Move) (games : List Game) → IsGame g → Plays g typed games → EachLost g games
all_lost g typed games game (inl (turn, goes)) k after is = goes_lost typed games game turn goes k after is
all_lost g typed games game (inr (turn, goes)) k after is =
    winner_lost typed games game turn goes (λ next later kept turns on i at there. goes_lost typed later kept turns on i at there) k after is

-- the first game
pub first_game : (s : Solution) (f : Frame) → IsValid s → Value s.winner s.moves s.position → IsGame (start_of s f)
first_game s f valid value =
    let has = has_held s valid in
    let first = (held_won s valid value).first in
    record {
      valid = valid;
      value = value;
      reached = refl;
      before = begun has first;
      stands = stands has first;
    }
  where
    begun : HasHeld s.origin s → IsBegun s.winner s.position (Losing s.origin s) → 0 < end_of s
    begun has (inl (turn, (q, moves, is_in))) = let at = (has.game.plies 1 q is_in).before in omega (arith, at)
    begun has (inr (turn, is_in)) = let at = (has.game.plies 0 s.position is_in).before in omega (arith, at)

    stands : HasHeld s.origin s → IsBegun s.winner s.position (Losing s.origin s) → Stands (start_of s f)
    stands has (inl (turn, (q, moves, is_in))) = inr (turn, (q, moves, has.held 1 q is_in))
    stands has (inr (turn, is_in)) = inl (turn, has.held 0 s.position is_in)

pub lost_picked : {g : Game} (after : Game) (c : Choice) → IsGame g → g.position.turn ≡ g.solution.winner → WinPick g (Some c)
    → Legal g.position c.mv.man (target c.mv) after.position → after ≡ moved_to g after.position → LostIn after
lost_picked after c game turn pick legal is =
    let to = picked_game after c game turn (record { pick = pick; legal = legal; is_after = is }) in
    lost_in after to.0 (to.2 ∙ ap (λ s. other s.winner) (sym to.1))

pub whole_game : (s : Solution) (f : Frame) (typed : List Move) (games : List Game) → IsValid s → Value s.winner s.moves s.position → Plays (start_of s f) typed games
    → (k : ℕ) (after : Game) → slice_get games k ≡ Some after → (suc k ≤ s.moves) × Lost s.winner (s.moves - suc k) after.position
whole_game s f typed games valid value plays k after is =
    let all = all_lost (start_of s f) typed games (first_game s f valid value) plays k after is in
    let moves : after.solution.moves ≡ s.moves = ap (λ t. t.moves) all.same in
    let made_is : made_in after ≡ 0 + suc k = all.made in
    let count = all.lost.count in
    let left_is : all.lost.left ≡ s.moves - suc k = omega (arith, moves, made_is, count) in (
      omega (arith, moves, made_is, count),
      subst (λ n. Lost s.winner n after.position) left_is (subst (λ w. Lost w all.lost.left after.position) (ap (λ t. t.winner) all.same) all.lost.lost),
    )
