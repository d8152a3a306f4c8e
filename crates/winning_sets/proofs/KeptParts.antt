-- What the parts of a plan make of sets of positions, and that they give the sets that are reached and kept.
use Rattle.std.proofs.Common.{◌/◌, ◌-◌, ◌≡◌, ◌↔◌, ℕ, zero, suc, ◌+◌, ◌*◌, ◌⊎◌, inl, inr, refl, sym, ap, ◌∙◌, subst, arith, add-one, zero-add, true, false, not}
use Rattle.game_rules.specs.Game.{InCheck, Legal, Lost, Moves, Position, Sound, Value, Win, other}
use Rattle.game_rules.specs.declared.men.Side.{Side}
use Rattle.game_rules.specs.declared.men.Side.TheVariants.{White, Black}
use Rattle.game_rules.specs.declared.men.Square.{Square}
use Rattle.game_laws.proofs.DecideLemmas.{in_check}
use Rattle.game_laws.proofs.SoundLemmas.{legal_sound, other_other}
use Rattle.game_laws.proofs.ValueLemmas.{flat_lost, lost_flat}
use Rattle.rule_formula.specs.Laws.{StepsTo}
use Rattle.winning_sets.specs.Reach.{Reach}
use Rattle.winning_sets.specs.Kept.{Kept, moves_left}
use Rattle.mate_plan.specs.PlanOf.{last_ply}
use Rattle.mate_plan.specs.Plan.{is_even, turn_at}
use Rattle.mate_plan.specs.Turns.{plies_before_turn}
use Rattle.mate_plan.proofs.TurnLemmas.{waits_none, waits_one, waits_sum, waits_turn}

abbrev pub Positions : Type 1
Positions = Position → Type 0

-- a step leads here from the set
pub record Image (S : Positions) (q : Position) : Type 0 where
  pub from : Position
  pub is_in : S from
  pub step : StepsTo from q

-- the side that has moved is not in check
pub record Safe (S : Positions) (q : Position) : Type 0 where
  pub is_in : S q
  pub safe : InCheck q (other q.turn) → ⊥

-- a step leads from here, in the source, into the target
pub record Pre (S Q : Positions) (p : Position) : Type 0 where
  pub is_in : S p
  pub next : Position
  pub step : StepsTo p next
  pub leads : Q next

-- the side to move is in check
pub record Checked (S : Positions) (q : Position) : Type 0 where
  pub is_in : S q
  pub check : InCheck q q.turn

pub record Without (S Q : Positions) (q : Position) : Type 0 where
  pub is_in : S q
  pub not_in : Q q → ⊥

-- the parts of a loser's ply: AtPly is what is reached there, AfterPly and KeptAfter what is reached and kept at the next ply
abbrev pub Rest : Positions → Positions → Positions
Rest AfterPly KeptAfter = Without AfterPly KeptAfter

abbrev pub Escape : Positions → Positions → Positions → Positions
Escape AtPly AfterPly KeptAfter = Pre AtPly (Rest AfterPly KeptAfter)

abbrev pub Calm : Positions → Positions → Positions → Positions
Calm AtPly AfterPly KeptAfter = Without AtPly (Escape AtPly AfterPly KeptAfter)

abbrev pub Check : Positions → Positions → Positions → Positions
Check AtPly AfterPly KeptAfter = Checked (Calm AtPly AfterPly KeptAfter)

abbrev pub Quiet : Positions → Positions → Positions → Positions
Quiet AtPly AfterPly KeptAfter = Without (Calm AtPly AfterPly KeptAfter) (Check AtPly AfterPly KeptAfter)

abbrev pub Reply : Positions → Positions → Positions → Positions
Reply AtPly AfterPly KeptAfter = Pre (Quiet AtPly AfterPly KeptAfter) AfterPly

abbrev pub LostPart : Positions → Positions → Positions → Positions
LostPart AtPly AfterPly KeptAfter q = Check AtPly AfterPly KeptAfter q ⊎ Reply AtPly AfterPly KeptAfter q

-- who has moved
mover-is : (p q : Position) → StepsTo p q → other q.turn ≡ p.turn
mover-is p q (i, z, step) = ap other step.after.turn ∙ other_other p.turn

-- a step to a position in which the side that has moved is not in check is a move
pub Moves-safe : (p q : Position) → StepsTo p q → (InCheck q (other q.turn) → ⊥) → Moves p q
Moves-safe p q h safe =
    let Safely : Side → Type 0 = λ s. InCheck q s → ⊥ in
    (h.0, h.1, record { step = h.2; safe = subst Safely (mover-is p q h) safe })

pub StepsTo-moves : (p q : Position) → Moves p q → StepsTo p q
StepsTo-moves p q h = (h.0, h.1, h.2.step)

pub safe-moves : (p q : Position) → Moves p q → InCheck q (other q.turn) → ⊥
safe-moves p q h =
    let Safely : Side → Type 0 = λ s. InCheck q s → ⊥ in
    subst Safely (sym (mover-is p q (StepsTo-moves p q h))) h.2.safe

-- each ply forward: image, and then safe
pub Reach-image : (p q : Position) (j : ℕ) → Reach p (suc j) q ↔ Safe (Image (Reach p j)) q
Reach-image p q j = (
  λ (before, reached, moves). record {
    is_in = record { from = before; is_in = reached; step = StepsTo-moves before q moves };
    safe = safe-moves before q moves;
  },
  λ h. (h.is_in.from, h.is_in.is_in, Moves-safe h.is_in.from q h.is_in.step h.safe),
)

-- what is reached is sound
pub reached_sound : (p : Position) → Sound p → (j : ℕ) (q : Position) → Reach p j q → Sound q
reached_sound p sound zero q is = subst Sound (sym is) sound
reached_sound p sound (suc j) q (before, reached, (i, z, legal)) = legal_sound before i z q (reached_sound p sound j before reached) legal

-- whose turn it is
pub turn-reach : (p q : Position) (j : ℕ) → Reach p j q → q.turn ≡ turn_at p.turn j
turn-reach p q zero e = ap (λ r. r.turn) e
turn-reach p q (suc j) (before, reached, (i, z, legal)) = legal.step.after.turn ∙ ap other (turn-reach p before j reached)

-- the side that has moved is not in check
abbrev pub IsSafe : Position → Type 0
IsSafe q = InCheck q (other q.turn) → ⊥

-- a ply of the winner, over any sets: Here has positions with the winner to move, Kept what his moves are to lead into
module _ (winner : Side) (r : ℕ) (Here Kept : Positions) (turn : (q : Position) → Here q → q.turn ≡ winner)
    (safe : (q : Position) → Kept q → IsSafe q)
    (lost : (q : Position) → Kept q → Lost winner r q)
    (all : (q next : Position) → Here q → Moves q next → Lost winner r next → Kept next) where
  pub win-part : (q : Position) → Pre Here Kept q ↔ (Here q × Win winner (suc r) q)
  win-part q = (
    λ h.
        let (i, z, legal) = Moves-safe q h.next h.step (safe h.next h.leads) in
        (h.is_in, (turn q h.is_in, (i, z, h.next, legal, lost h.next h.leads))),
    λ (here, (is, (i, z, next, legal, loses))).
        let moves : Moves q next = (i, z, legal) in
        record { is_in = here; next = next; step = StepsTo-moves q next moves; leads = all q next here moves loses },
  )

-- a ply of the loser, over any sets that his moves do not leave: Here has positions with the loser to move, After contains what
-- his moves lead to, Kept has what is won there
module _ (winner : Side) (r : ℕ) (Here After Kept : Positions) (turn : (q : Position) → Here q → q.turn ≡ other winner)
    (sound : (q : Position) → Here q → Sound q)
    (safe : (q : Position) → After q → IsSafe q)
    (closed : (q next : Position) → Here q → Moves q next → After next)
    (kept : (q : Position) → Kept q ↔ (After q × Win winner r q))
    (kept_or_not : (q : Position) → After q → Kept q ⊎ (Kept q → ⊥)) where
  -- from a calm position each move leads to a win of the other side
  calm_wins : (q : Position) → Calm Here After Kept q → (i : ℕ) (z : Square) (next : Position) → Legal q i z next → Win winner r next
  calm_wins q h i z next legal =
      let moves : Moves q next = (i, z, legal) in
      let after : After next = closed q next h.is_in moves in
      elim (kept_or_not next after) [
        | inl is ↦ ((kept next).0 is).1
        | inr off ↦ absurd (h.not_in (record { is_in = h.is_in; next = next; step = StepsTo-moves q next moves; leads = record { is_in = after; not_in = off } }))
      ]

  -- if each move leads to a win of the other side, the position is calm
  wins_calm : (q : Position) → Here q → ((i : ℕ) (z : Square) (next : Position) → Legal q i z next → Win winner r next) → Calm Here After Kept q
  wins_calm q here wins = record {
    is_in = here;
    not_in = λ e.
        let (i, z, legal) = Moves-safe q e.next e.step (safe e.next e.leads.is_in) in
        e.leads.not_in ((kept e.next).1 (e.leads.is_in, wins i z e.next legal));
  }

  lost_here : (q : Position) → LostPart Here After Kept q → Here q
  lost_here q (inl c) = c.is_in.is_in
  lost_here q (inr h) = h.is_in.is_in.is_in

  lost_from : (q : Position) → LostPart Here After Kept q → Lost winner r q
  lost_from q (inl c) =
      flat_lost winner (Win winner r) (sound q c.is_in.is_in) (turn q c.is_in.is_in, inl c.check, calm_wins q c.is_in)
  lost_from q (inr h) =
      let (i, z, legal) = Moves-safe q h.next h.step (safe h.next h.leads) in
      flat_lost winner (Win winner r) (sound q h.is_in.is_in.is_in) (turn q h.is_in.is_in.is_in, inr (i, z, h.next, legal), calm_wins q h.is_in.is_in)

  lost_to : (q : Position) → Here q → Lost winner r q → LostPart Here After Kept q
  lost_to q here lost =
      let (is, first, wins) = lost_flat winner (Win winner r) q lost in
      let calm = wins_calm q here wins in
      elim (in_check q q.turn) [
        | inl check ↦ inl (record { is_in = calm; check = check })
        | inr none ↦ elim first [
          | inl check ↦ absurd (none check)
          | inr (i, z, next, legal) ↦
              let moves : Moves q next = (i, z, legal) in
              inr (record {
                is_in = record { is_in = calm; not_in = λ c. none c.check };
                next = next;
                step = StepsTo-moves q next moves;
                leads = closed q next here moves;
              })
        ]
      ]

  pub lost-part : (q : Position) → LostPart Here After Kept q ↔ (Here q × Lost winner r q)
  lost-part q = (λ h. (lost_here q h, lost_from q h), λ (here, lost). lost_to q here lost)

-- in what is reached, the side that has moved is not in check
reach_safe : (p : Position) (j : ℕ) (q : Position) → Reach p (suc j) q → IsSafe q
reach_safe p j q (before, reached, moves) = safe-moves before q moves

turn_two : (s : Side) (k : ℕ) → turn_at s (2 * k) ≡ s
turn_two s zero = refl
turn_two s (suc k) =
    let twice : 2 * suc k ≡ suc (suc (2 * k)) = omega arith in
    ap (turn_at s) twice ∙ (other_other (turn_at s (2 * k)) ∙ turn_two s k)

turn_more : (s : Side) (j d : ℕ) → turn_at s (d + j) ≡ turn_at (turn_at s j) d
turn_more s j zero = ap (turn_at s) (zero-add j)
turn_more s j (suc d) =
    let more : suc d + j ≡ suc (d + j) = omega arith in
    ap (turn_at s) more ∙ ap other (turn_more s j d)

-- at the last ply the winner is to move
turn-last : (winner s : Side) (n : ℕ) → turn_at s (last_ply winner s n) ≡ winner
turn-last winner s n = turn_more s (plies_before_turn winner s) (2 * n) ∙ turn_two (turn_at s (plies_before_turn winner s)) n ∙ waits_turn winner s

-- so many plies before the last one the winner is to move where they are even
turn_even : (winner s : Side) (n j k : ℕ) → j + 2 * k ≡ last_ply winner s n → turn_at s j ≡ winner
turn_even winner s n j k e =
    let swap : 2 * k + j ≡ last_ply winner s n = omega (arith, e) in
    sym (turn_two (turn_at s j) k) ∙ (sym (turn_more s j (2 * k)) ∙ (ap (turn_at s) swap ∙ turn-last winner s n))

turn_odd : (winner s : Side) (n j k : ℕ) → j + (2 * k + 1) ≡ last_ply winner s n → turn_at s j ≡ other winner
turn_odd winner s n j k e =
    let swap : suc (2 * k + j) ≡ last_ply winner s n = omega (arith, e) in
    let one : other (turn_at s (2 * k + j)) ≡ winner = ap (turn_at s) swap ∙ turn-last winner s n in
    sym (turn_two (turn_at s j) k) ∙ (sym (turn_more s j (2 * k)) ∙ (sym (other_other (turn_at s (2 * k + j))) ∙ ap other one))

-- no side is the other one
other_not : (s : Side) → s ≡ other s → ⊥
other_not White e = cc
other_not Black e = cc

pub won_turn : (winner : Side) (n : ℕ) (q : Position) → Win winner n q → q.turn ≡ winner
won_turn winner zero q h = absurd h
won_turn winner (suc n) q h = h.0

-- with the winner to move the value is that he wins
pub value_win : (winner : Side) (n : ℕ) (q : Position) → q.turn ≡ winner → Value winner n q → Win winner n q
value_win winner n q is (inl win) = win
value_win winner n q is (inr lost) = absurd (other_not winner (sym is ∙ lost.0))

-- with the loser to move the value is that he loses
pub value_lost : (winner : Side) (n : ℕ) (q : Position) → q.turn ≡ other winner → Value winner n q → Lost winner n q
value_lost winner n q is (inl win) = absurd (other_not winner (sym (won_turn winner n q win) ∙ is))
value_lost winner n q is (inr lost) = lost

pub two_steps : (left : ℕ) → ((k : ℕ) × (left ≡ 2 * k) × (is_even left ≡ true)) ⊎ ((k : ℕ) × (left ≡ 2 * k + 1) × (is_even left ≡ false))
two_steps zero = inl (0, refl, refl)
two_steps (suc left) =
    elim (two_steps left) [
      | inl (k, e, b) ↦ inr (k, omega (arith, e), ap not b)
      | inr (k, e, b) ↦ inl (suc k, omega (arith, e), ap not b)
    ]

pub left_half : (last ply k : ℕ) → ply + 2 * k ≡ last → moves_left last ply ≡ k
left_half last ply k e = grind (arith, e)

pub left_half_more : (last ply k : ℕ) → ply + (2 * k + 1) ≡ last → moves_left last ply ≡ k
left_half_more last ply k e = grind (arith, e)

module _ (winner : Side) (p : Position) (n : ℕ) where
  abbrev end : ℕ
  end = last_ply winner p.turn n

  -- at a ply of the winner
  pub kept_won : (j k : ℕ) → j + 2 * k ≡ end → (q : Position) → Kept winner p n j q ↔ (Reach p j q × Win winner k q)
  kept_won j k e q =
      let r : moves_left end j ≡ k = left_half end j k e in
      let At : ℕ → Type 0 = λ m. Value winner m q in
      let turn = λ (h : Reach p j q). turn-reach p q j h ∙ turn_even winner p.turn n j k e in (
        λ h. (h.reached, value_win winner k q (turn h.reached) (subst At r h.value)),
        λ (reached, win). record { reached = reached; value = subst At (sym r) (inl win) },
      )

  -- at a ply of the loser
  pub kept_lost : (j k : ℕ) → j + (2 * k + 1) ≡ end → (q : Position) → Kept winner p n j q ↔ (Reach p j q × Lost winner k q)
  kept_lost j k e q =
      let r : moves_left end j ≡ k = left_half_more end j k e in
      let At : ℕ → Type 0 = λ m. Value winner m q in
      let turn = λ (h : Reach p j q). turn-reach p q j h ∙ turn_odd winner p.turn n j k e in (
        λ h. (h.reached, value_lost winner k q (turn h.reached) (subst At r h.value)),
        λ (reached, lost). record { reached = reached; value = subst At (sym r) (inr lost) },
      )

  -- nothing is kept at the last ply
  pub kept_end : {q : Position} → Kept winner p n end q → ⊥
  kept_end {q} h = ((kept_won end 0 (omega arith) q).0 h).1

module _ (winner : Side) (p : Position) (sound : Sound p) (n : ℕ) where
  -- what is kept at a ply of the winner is made of what is kept at the next
  pub win-step : (j k : ℕ) → j + 2 * suc k ≡ last_ply winner p.turn n → (q : Position) → Pre (Reach p j) (Kept winner p n (suc j)) q ↔ Kept winner p n j q
  win-step j k e q =
      let next : suc j + (2 * k + 1) ≡ last_ply winner p.turn n = omega (arith, e) in
      let turn = λ (r : Position) (h : Reach p j r). turn-reach p r j h ∙ turn_even winner p.turn n j (suc k) e in
      let kept = kept_lost winner p n (suc j) k next in
      let part =
      win-part winner k (Reach p j) (Kept winner p n (suc j)) turn (λ r h. reach_safe p j r ((kept r).0 h).0) (λ r h. ((kept r).0 h).1)
      (λ r after here moves lost. (kept after).1 ((r, here, moves), lost)) q in
      let here = kept_won winner p n j (suc k) e q in
      (λ h. here.1 (part.0 h), λ h. part.1 (here.0 h))

  -- what is kept at a ply of the loser
  pub lost-step : (j k : ℕ) → j + (2 * k + 1) ≡ last_ply winner p.turn n
      → ((q : Position) → Reach p (suc j) q → Kept winner p n (suc j) q ⊎ (Kept winner p n (suc j) q → ⊥)) → (q : Position)
      → LostPart (Reach p j) (Reach p (suc j)) (Kept winner p n (suc j)) q ↔ Kept winner p n j q
  lost-step j k e decided q =
      let next : suc j + 2 * k ≡ last_ply winner p.turn n = omega (arith, e) in
      let turn = λ (r : Position) (h : Reach p j r). turn-reach p r j h ∙ turn_odd winner p.turn n j k e in
      let part =
      lost-part winner k (Reach p j) (Reach p (suc j)) (Kept winner p n (suc j)) turn (reached_sound p sound j) (reach_safe p j)
      (λ r after here moves. (r, here, moves)) (kept_won winner p n (suc j) k next) decided q in
      let here = kept_lost winner p n j k e q in
      (λ h. here.1 (part.0 h), λ h. part.1 (here.0 h))

-- all moves are left at the start
pub left_first : (winner s : Side) (n : ℕ) → moves_left (last_ply winner s n) 0 ≡ n
left_first winner s n = let one = waits_sum winner s in grind (arith, one)

-- the starting position is kept where the winner mates in time
pub kept_first : (winner : Side) (p : Position) (n : ℕ) → Value winner n p ↔ Kept winner p n 0 p
kept_first winner p n =
    let left = left_first winner p.turn n in
    let At : ℕ → Type 0 = λ m. Value winner m p in
    (λ h. record { reached = refl; value = subst At (sym left) h }, λ h. subst At left h.value)

-- how many moves the winner has made
pub moves_counted : (winner : Side) (n j : ℕ) → (moves_left (last_ply winner winner n) j ≡ n - (j + 1) / 2) × (moves_left (last_ply winner (other winner) n) j ≡ n - j / 2)
moves_counted winner n j =
    let none = waits_none winner winner refl in
    let one = waits_one winner (other winner) refl in (
      grind (arith, none),
      grind (arith, one),
    )
