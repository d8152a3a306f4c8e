-- How many moves along a ray lead into the sets: the quiet ones as the search counts its hits, and the capture.
use Rattle.std.proofs.Common.{◌≡◌, ◌⊎◌, inl, inr, ℕ, ◌+◌, ◌<◌, ◌≤◌, false, Some, None, refl, sym, subst, ◌∙◌, arith}
use Rattle.std.specs.Prelude.{IsTrue}
use Rattle.std.proofs.lemmas.Bool.{cases_lt}
use Rattle.auto_core.specs.Automaton.{Automaton}
use Rattle.auto_search.specs.Fews.{HasFew, plus_of}
use Rattle.auto_search.specs.declared.few.Few.{Few}
use Rattle.auto_search.specs.declared.few.Few.TheVariants.{Zero, One, More}
use Rattle.auto_search.proofs.Counts.{plus-has}
use Rattle.auto_search.proofs.Tallies.{has-same}
use Rattle.game_rules.specs.declared.men.Ray.{Ray}
use Rattle.game_rules.specs.declared.men.Square.{Square}
use Rattle.game_rules.specs.Game.{Position, IsEmptySquare, IsOccupiedBy, other}
use Rattle.game_rules.specs.Rays.{IsAt, serves_moves}
use Rattle.game_laws.proofs.CheckLemmas.{any_is}
use Rattle.chess_game.specs.Way.{IsInside}
use Rattle.chess_game.specs.declared.way.Frame.{Frame}
use Rattle.mask_sets.specs.Stock.{mask_of}
use Rattle.mask_sets.specs.Sets.{IsIn, Table, set_at}
use Rattle.move_choice.specs.Aims.{AreNext, HoldsMen, IsHitAlong, IsLeast, IsMover}
use Rattle.move_choice.specs.Along.{IsClear, IsClearForever, IsClearFrom, IsClearTo, LeadsAlong, LeadsAnywhere}
use Rattle.move_choice.specs.Choice.{FirstOf, IsCapture, Leads, target}
use Rattle.move_choice.specs.declared.choice.Choice.{Choice}
use Rattle.move_choice.proofs.Bridges.{along_of, choice_at, leads_of, led_to}
use Rattle.move_choice.proofs.Hits.{along_goes, going, going_at, hit_moves, quiet_hit, quiet_unserved, quiet_unset}
use Rattle.move_choice.proofs.Meets.{empty_not_held, of_square, on_square, stands_at}
use Rattle.move_choice.proofs.Ways.{empty_or_held, nobody_before}

-- the least number up to the last with a property, and the least of those after it, decide how many there are
module _ (P : ℕ → Type 0) (last : ℕ) where
  abbrev UpTo : ℕ → Type 0
  UpTo t = (1 ≤ t) × (t ≤ last) × P t

  pub none_to : ((t : ℕ) → 1 ≤ t → t ≤ last → P t → ⊥) → HasFew Zero UpTo
  none_to none = λ t h. none t h.0 h.1 h.2

  pub one_to : {first : ℕ} → IsLeast P 1 last first → ((t : ℕ) → first + 1 ≤ t → t ≤ last → P t → ⊥) → HasFew One UpTo
  one_to {first} is none = (
    first,
    (is.from, is.to, is.has),
    λ u h. elim (cases_lt first u) [
      | inl past ↦ absurd (none u (omega (arith, past)) h.1 h.2)
      | inr low ↦ let least = is.least u h.0 h.2 in omega (arith, least, low)
    ],
  )

  pub more_to : {first next : ℕ} → IsLeast P 1 last first → IsLeast P (first + 1) last next → HasFew More UpTo
  more_to {first} {next} is also =
      let after = also.from in
      (first, next, omega (arith, after), (is.from, is.to, is.has), (omega (arith, after), also.to, also.has))

module _ {p : Position} (table : Table) {i n : ℕ} {r : Ray} (mover : IsMover p i n r) where
  abbrev QuietAt : ℕ → Type 0
  QuietAt t = LeadsAlong (IsEmptySquare p) (IsIn table) p i n t

  abbrev CaptureAt : ℕ → Type 0
  CaptureAt t = LeadsAlong (IsOccupiedBy p (other p.turn)) (IsIn table) p i n t

  -- without a set there is no quiet move into the sets, nor on a ray that does not serve moves
  pub none_unset : set_at table (mask_of p) ≡ None → HasFew Zero QuietAt
  none_unset none = λ t w. quiet_unset mover table none w

  pub none_unserved : serves_moves mover.man.kind n ≡ false → HasFew Zero QuietAt
  none_unserved never = λ t w. quiet_unserved mover never w

  -- the quiet moves are the hits over empty squares
  module _ (next : AreNext p table) (a : Automaton) (set_is : set_at table (mask_of p) ≡ Some a) (serves : IsTrue (serves_moves mover.man.kind n)) where
    quiet_clear : (t : ℕ) → QuietAt t → IsClear p i r t × IsHitAlong a p i r t
    quiet_clear t w =
        let quiet = quiet_hit mover next set_is w w.is_target in
        (on_square mover (λ b. IsClearFrom p b r t) (record { to = w.to; leads = quiet.0; empty = quiet.1 }), quiet.2)

    clear_quiet : (t : ℕ) → IsClear p i r t → IsHitAlong a p i r t → QuietAt t
    clear_quiet t clear hit =
        let c : IsClearFrom p mover.square r t = of_square mover (λ b. IsClearFrom p b r t) clear in
        let moves = hit_moves mover next set_is serves c.leads c.empty hit in
        record {
          him = mover.man;
          from = mover.square;
          to = c.to;
          after = moves.0;
          is_man = mover.is_man;
          stands = mover.stands;
          on = record { ray = r; is_ray = mover.is_ray; leads = c.leads };
          is_target = c.empty t c.to (omega arith) c.leads;
          legal = moves.1;
          is_in = moves.2;
        }

    pub quiet_counted : (few : Few) (last : ℕ) → IsClearTo p i r last
        → HasFew few (λ t. (1 ≤ t) × (t ≤ last) × IsHitAlong a p i r t) → HasFew few QuietAt
    quiet_counted few last clear has =
        has-same few (λ t. (1 ≤ t) × (t ≤ last) × IsHitAlong a p i r t) QuietAt has
        (λ t h. clear_quiet t ((clear t).0 (h.0, h.1)) h.2)
        (λ t w. let both = quiet_clear t w in let within = (clear t).1 both.0 in (within.0, within.1, both.1))

    pub quiet_counted_all : (few : Few) → IsClearForever p i r → HasFew few (λ t. (1 ≤ t) × IsHitAlong a p i r t) → HasFew few QuietAt
    quiet_counted_all few clear has =
        has-same few (λ t. (1 ≤ t) × IsHitAlong a p i r t) QuietAt has
        (λ t h. clear_quiet t ((clear t).0 h.0) h.1)
        (λ t w. let both = quiet_clear t w in ((clear t).1 both.0, both.1))

  -- the captures, of which there is one at most
  module _ (f : Frame) (holds : HoldsMen f p) where
    held_inside : (t : ℕ) (w : CaptureAt t) → IsInside f w.to
    held_inside t w = let m = any_is p _ w.is_target in holds m.0 w.to (stands_at p m.0 w.to m.1 m.2 m.3.1)

    abbrev choice_of : (t : ℕ) → CaptureAt t → Choice
    choice_of t w = choice_at w

    choice_leads : (t : ℕ) (w : CaptureAt t) → Leads (IsIn table) f p (choice_of t w) w.after
    choice_leads t w = leads_of w (held_inside t w)

    pub none_captured : FirstOf (IsCapture p i n) (IsIn table) f p None → HasFew Zero CaptureAt
    none_captured none = λ t w. none (choice_of t w) w.after (refl, refl, w.is_target) (choice_leads t w)

    pub one_captured : AreNext p table → (c : Choice) → FirstOf (IsCapture p i n) (IsIn table) f p (Some c) → HasFew One CaptureAt
    one_captured next c h = (
      c.distance,
      along_of (IsOccupiedBy p (other p.turn)) h.has.0 h.has.1 h.has.2 h.leads,
      λ u w. elim (cases_lt u c.distance) [
        | inl less ↦ absurd (h.first (choice_of u w) w.after (refl, refl, w.is_target) (choice_leads u w) (inr (sym h.has.0, inr (sym h.has.1, less))))
        | inr high ↦ elim (cases_lt c.distance u) [
          | inl more ↦ absurd (empty_not_held p (other p.turn) (target c.mv) (passed u w more) h.has.2)
          | inr low ↦ omega (arith, high, low)
        ]
      ],
    ) where
      passed : (u : ℕ) (w : CaptureAt u) → c.distance < u → IsEmptySquare p (target c.mv)
      passed u w more =
          let g = along_goes mover w in
          let k = going next mover h.has.0 h.has.1 h.leads in
          let at : IsAt g.0.ray c.distance mover.square (target c.mv) = subst (λ b. IsAt b c.distance mover.square (target c.mv)) (sym g.1) (going_at mover k) in
          nobody_before p i w.to w.after g.2 mover.man mover.is_man mover.square mover.stands n u g.0 c.distance (target c.mv) more at

  -- each move is quiet or a capture, and not both
  quiet_or_capture : (t : ℕ) → LeadsAnywhere (IsIn table) p i n t → QuietAt t ⊎ CaptureAt t
  quiet_or_capture t w =
      let All : Square → Type 0 = λ z. Unit {0} in
      let g = along_goes mover w in
      elim (empty_or_held p i w.to w.after g.2 mover.man mover.is_man mover.square mover.stands n t g.0) [
        | inl none ↦ inl (led_to (IsEmptySquare p) (IsIn table) w none w.is_in)
        | inr held ↦ inr (led_to (IsOccupiedBy p (other p.turn)) (IsIn table) w held w.is_in)
      ]

  not_both : (t : ℕ) → QuietAt t → CaptureAt t → ⊥
  not_both t quiet taking =
      let g = along_goes mover quiet in
      let k = along_goes mover taking in
      let at = going_at mover g in
      let there = going_at mover k in
      let same : quiet.to ≡ taking.to = at.leads ∙ sym there.leads in
      empty_not_held p (other p.turn) taking.to (subst (IsEmptySquare p) same quiet.is_target) taking.is_target

  pub all_counted : (quiet taking : Few) → HasFew quiet QuietAt → HasFew taking CaptureAt → HasFew (plus_of quiet taking) (LeadsAnywhere (IsIn table) p i n)
  all_counted quiet taking some others =
      plus-has quiet taking QuietAt CaptureAt (LeadsAnywhere (IsIn table) p i n) some others
      (λ t w. led_to (λ z. Unit {0}) (IsIn table) w tt w.is_in)
      (λ t w. led_to (λ z. Unit {0}) (IsIn table) w tt w.is_in)
      quiet_or_capture not_both
