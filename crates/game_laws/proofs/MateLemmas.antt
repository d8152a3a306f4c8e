-- Whoever is in check is mated or has a legal move.
use Rattle.std.proofs.Common.{◌≡◌, ◌≢◌, ◌⊎◌, inl, inr, ℕ, zero, suc, ◌<◌, ◌-ℤ◌, length, Some, sym, subst, ◌∙◌, arith}
use Rattle.std.proofs.lemmas.Option.{slice_get_within, same_Some}
use Rattle.std.proofs.lemmas.Bool.Decides.{eqb_tells}
use Rattle.std.specs.List.{Any}
use Rattle.std.specs.Prelude.{IsSomeAnd}
use Rattle.game_rules.specs.Game.{Position, GoesAs, HasMove, InCheck, IsBetween, IsOpen, Legal, Mate, Sound, StandsOn, man_at}
use Rattle.game_rules.specs.declared.men.Kind.TheVariants.{King}
use Rattle.game_rules.specs.declared.men.Man.{Man}
use Rattle.game_rules.specs.declared.men.Square.{Square}
use Rattle.game_laws.specs.Answer.{CanGo, distance}
use Rattle.game_laws.specs.Reach.{HasReach, ReachesOpenly}
use Rattle.game_laws.proofs.OpenLemmas.{bears_openly}
use Rattle.game_laws.proofs.LineLemmas.{around, around_has, on_way, toward}
use Rattle.game_laws.proofs.CheckLemmas.{IsChecked, checked, not_elsewhere}
use Rattle.game_laws.proofs.DecideLemmas.{Decided, square_same, any_decided, below, between, can_go, either}

-- the checker's square, or one between
abbrev pub IsAnswerSquare : (p : Position) → IsChecked p → Square → Type 0
IsAnswerSquare p c z = (z ≡ c.square) ⊎ IsBetween c.square c.king_square z

-- a legal move of another man than the king takes the checker, or comes between
pub answers : {p : Position} (c : IsChecked p) {i : ℕ} {z : Square} {q : Position} → Sound p → Legal p i z q → i ≢ c.king_number → IsAnswerSquare p c z
answers {p} c {i} {z} {q} sound l other_man =
    elim (square_same z c.square) [
      | inl e ↦ inl e
      | inr off ↦ elim (between c.square c.king_square z) [
        | inl line ↦ inr line
        | inr n ↦ absurd (not_elsewhere p c i z q sound l other_man off n)
      ]
    ]

-- one of the squares in question is a move of man i
abbrev pub CanAnswer : (p : Position) → IsChecked p → ℕ → Type 0
CanAnswer p c i =
    CanGo p i c.square ⊎ ((j : ℕ) × (j < distance c.square c.king_square) × CanGo p i (toward c.square c.king_square j))

has_answer : {p : Position} (c : IsChecked p) (i : ℕ) → Decided (CanAnswer p c i)
has_answer {p} c i =
    either _ _ (can_go p i c.square)
    (below (λ j. CanGo p i (toward c.square c.king_square j)) (λ j. can_go p i (toward c.square c.king_square j)) (distance c.square c.king_square))

answer_found : {p : Position} (c : IsChecked p) (i : ℕ) (z : Square) → CanGo p i z → IsAnswerSquare p c z → CanAnswer p c i
answer_found {p} c i z go (inl e) = inl (subst (CanGo p i) e go)
answer_found {p} c i z go (inr h) =
    let w = on_way h in inr (w.part, w.fewer, subst (CanGo p i) w.is go)

move_of : {p : Position} (c : IsChecked p) (i : ℕ) → CanAnswer p c i → HasMove p
move_of c i (inl go) = (i, c.square, go.0, go.1)
move_of c i (inr h) = (i, toward c.square c.king_square h.0, h.2.0, h.2.1)

number_within : (p : Position) (i : ℕ) (m : Man) → man_at p i ≡ Some m → i < suc (length p.men)
number_within p zero m is = omega arith
number_within p (suc j) m is = omega (arith, slice_get_within p.men j m is)

-- a king goes at most one step from where he stands
live_reach : (p : Position) (m : Man) (z a : Square) → StandsOn m a → GoesAs King p m z → HasReach m.side m.kind (z.x -ℤ a.x) (z.y -ℤ a.y)
live_reach p m z a s goes =
    let reaches : ReachesOpenly p m z = bears_openly p m z goes in
    let both : IsSomeAnd (Some a) (λ b. HasReach m.side m.kind (z.x -ℤ b.x) (z.y -ℤ b.y) × IsOpen p b z) =
    subst (λ o. IsSomeAnd o (λ b. HasReach m.side m.kind (z.x -ℤ b.x) (z.y -ℤ b.y) × IsOpen p b z)) s reaches in
    both.0

-- a move of the king is a step
king_steps : {p : Position} (c : IsChecked p) {z : Square} {q : Position} → Legal p c.king_number z q → Any (CanGo p c.king_number) (around c.king_square)
king_steps {p} c {z} {q} l =
    let same : l.step.man ≡ c.king = same_Some l.step.man c.king (sym l.step.is_man ∙ c.king_is) in
    let goes : GoesAs c.king.kind p c.king z = subst (λ m. GoesAs m.kind p m z) same l.step.goes in
    let goes' : GoesAs King p c.king z = subst (λ k. GoesAs k p c.king z) c.king_kind goes in
    let reach : HasReach c.king.side King (z.x -ℤ c.king_square.x) (z.y -ℤ c.king_square.y) =
    subst (λ k. HasReach c.king.side k (z.x -ℤ c.king_square.x) (z.y -ℤ c.king_square.y)) c.king_kind (live_reach p c.king z c.king_square c.king_there goes') in
    around_has c.king_square z (CanGo p c.king_number) (omega (arith, reach)) (omega (arith, reach)) (q, l)

with_searches : {p : Position} (c : IsChecked p) → Sound p → InCheck p p.turn → Decided (Any (CanGo p c.king_number) (around c.king_square))
    → Decided ((i : ℕ) × (i < suc (length p.men)) × CanAnswer p c i) → Mate p ⊎ HasMove p
with_searches c sound check (inl h) d = inr (c.king_number, h.1, h.4.0, h.4.1)
with_searches c sound check (inr no_step) (inl h) = inr (move_of c h.0 h.2)
with_searches {p} c sound check (inr no_step) (inr no_answer) =
    inl (record {
      check = check;
      stuck = λ i z q l.
          elim (eqb_tells i c.king_number) [
            | inl e ↦ no_step (king_steps c (subst (λ n. Legal p n z q) e.1 l))
            | inr ne ↦ no_answer (i, number_within p i l.step.man l.step.is_man, answer_found c i z (q, l) (answers c sound l ne.1))
          ];
    })

pub mate_or_move : (p : Position) → Sound p → InCheck p p.turn → Mate p ⊎ HasMove p
mate_or_move p sound check =
    let c = checked p check in
    with_searches c sound check
    (any_decided (CanGo p c.king_number) (can_go p c.king_number) (around c.king_square))
    (below (CanAnswer p c) (has_answer c) (suc (length p.men)))
