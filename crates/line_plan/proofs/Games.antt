-- One move more: what the winner, and the loser, can do after a path.
use Rattle.std.proofs.Common.{◌≡◌, ◌↔◌, ◌⊎◌, ℕ, zero, suc, ◌<◌, Bool, false, not, List, ◌∷◌, length, ℤ, inl, inr, refl, sym, ap, ◌∙◌, subst, arith}
use Rattle.std.specs.Prelude.{Contains}
use Rattle.game_rules.specs.Game.{HasMove, InCheck, Legal, Lost, Position, Sound, Value, Win, other}
use Rattle.game_rules.specs.declared.men.Side.{Side}
use Rattle.game_rules.specs.declared.men.Side.TheVariants.{White, Black}
use Rattle.game_rules.specs.declared.men.Square.{Square}
use Rattle.game_laws.proofs.SoundLemmas.{other_differs, other_other}
use Rattle.game_laws.proofs.ValueLemmas.{flat_lost, lost_flat}
use Rattle.track_word.specs.Tracks.{Values}
use Rattle.lin_formula.specs.Holds.{with_value}
use Rattle.rule_formula.specs.declared.opt.Opt.{Opt}
use Rattle.rule_formula.specs.Options.{is_side}
use Rattle.rule_formula.specs.Seats.{var}
use Rattle.rule_formula.proofs.SweptLemmas.{value_other, value_same}
use Rattle.line_formula.specs.Paths.{GoesBy, Plays, after, options_at, turn_at}
use Rattle.line_formula.proofs.PathTheorem.{after_kept, legal_is_by_option, played, plays_kept}

-- the values with a distance for the next move
abbrev pub next_value : List Opt → Values → ℤ → Values
next_value s v t = with_value v (var (length s)) t

-- some move more is legal, and then the fact holds
pub record SomeMove (p : Position) (s : List Opt) (v : Values) (P : Opt → Values → Type 0) : Type 0 where
  pub option : Opt
  pub distance : ℤ
  pub listed : Contains (options_at p s) option
  pub plays : Plays p (option ∷ s) (next_value s v distance)
  pub holds : P option (next_value s v distance)

-- a further distance does not matter to the moves before
pub before_plays : (p : Position) (s : List Opt) (v : Values) (t : ℤ) → Plays p s (next_value s v t) → Plays p s v
before_plays p s v t h = plays_kept p s (next_value s v t) v (λ j less. value_other v (var (length s)) t j (omega arith)) h

win_turn : (winner : Side) (n : ℕ) (q : Position) → Win winner n q → q.turn ≡ winner
win_turn winner zero q h = absurd h
win_turn winner (suc n) q h = h.0

module _ (p : Position) (winner : Side) (sound : Sound p) (s : List Opt) (v : Values) (plays : Plays p s v) where
  kept_values : (t : ℤ) (j : ℕ) → j < length s → v j ≡ next_value s v t j
  kept_values t j less = sym (value_other v (var (length s)) t j (omega arith))

  same_after : (t : ℤ) → after p s v ≡ after p s (next_value s v t)
  same_after t = after_kept p s v (next_value s v t) (kept_values t)

  -- a legal move is one by an option
  record Made (i : ℕ) (z : Square) (r : Position) : Type 0 where
    option : Opt
    distance : ℤ
    listed : Contains (options_at p s) option
    is : r ≡ after p (option ∷ s) (next_value s v distance)
    plays_on : Plays p (option ∷ s) (next_value s v distance)

  made : (i : ℕ) (z : Square) (r : Position) → Legal (after p s v) i z r → Made i z r
  made i z r legal =
      let (o, t, listed, is, goes) = legal_is_by_option p s v i z r sound plays legal in
      let u : Values = next_value s v t in
      let own : t ≡ u (length s) = sym (value_same v (var (length s)) t (length s) refl) in
      record {
        option = o;
        distance = t;
        listed = listed;
        is = is;
        plays_on = (
          plays_kept p s v u (kept_values t) plays,
          listed,
          subst (λ x. GoesBy o x (after p s u) (after p (o ∷ s) u)) own
              (subst (λ x. GoesBy o t x (after p (o ∷ s) u)) (same_after t) (subst (GoesBy o t (after p s v)) is goes)),
        );
      }

  -- the move that is played last
  last_legal : (o : Opt) (t : ℤ) (h : Plays p (o ∷ s) (next_value s v t)) → Legal (after p s v) o.man h.2.to (after p (o ∷ s) (next_value s v t))
  last_legal o t h = subst (λ x. Legal x o.man h.2.to (after p (o ∷ s) (next_value s v t))) (sym (same_after t)) h.2.legal

  pub winner_moves : (n : ℕ) → turn_at p s ≡ winner
      → Value winner (suc n) (after p s v) ↔ SomeMove p s v (λ o u. Value winner n (after p (o ∷ s) u))
  winner_moves n turn = (
    λ h. elim h [
      | inl (his, (i, z, r, legal, lost)) ↦
          let m = made i z r legal in
          record { option = m.option; distance = m.distance; listed = m.listed; plays = m.plays_on; holds = inr (subst (Lost winner n) m.is lost) }
      | inr lost ↦ absurd (other_differs winner (sym turn ∙ lost.0))
    ],
    λ h.
        let r = after p (h.option ∷ s) (next_value s v h.distance) in
        let legal = last_legal h.option h.distance h.plays in
        let lost : Lost winner n r = elim h.holds [
          | inl wins ↦ absurd (other_differs (turn_at p s) (turn ∙ sym (win_turn winner n r wins)))
          | inr lost ↦ lost
        ] in
        inl (turn, (h.option.man, h.plays.2.to, r, legal, lost)),
  )

  -- the loser is in check or can move, and each of his moves leads to what is won
  pub loser_moves : (n : ℕ) → turn_at p s ≡ other winner
      → ((o : Opt) (u : Values) → Contains (options_at p s) o → Plays p (o ∷ s) u → Value winner n (after p (o ∷ s) u) ⊎ ¬ Value winner n (after p (o ∷ s) u))
      → Value winner n (after p s v)
      ↔ ((InCheck (after p s v) (turn_at p s) ⊎ SomeMove p s v (λ o u. Unit {0}))
      × (SomeMove p s v (λ o u. ¬ Value winner n (after p (o ∷ s) u)) → ⊥))
  loser_moves n turn known =
      let q = after p s v in
      let h_sound = (played p sound s v plays).sound in (
        λ h. elim h [
          | inl wins ↦ absurd (other_differs winner (sym (win_turn winner n q wins) ∙ turn))
          | inr lost ↦
              let flat = lost_flat winner (Win winner n) q lost in (
                elim flat.1 [
                  | inl check ↦ inl check
                  | inr (i, z, r, legal) ↦
                      let m = made i z r legal in
                      inr (record { option = m.option; distance = m.distance; listed = m.listed; plays = m.plays_on; holds = tt })
                ],
                λ move. move.holds (inl (flat.2 move.option.man move.plays.2.to (after p (move.option ∷ s) (next_value s v move.distance)) (last_legal move.option move.distance move.plays))),
              )
        ],
        λ (can, none).
            let has : InCheck q q.turn ⊎ HasMove q = elim can [
              | inl check ↦ inl check
              | inr move ↦ inr (move.option.man, move.plays.2.to, after p (move.option ∷ s) (next_value s v move.distance), last_legal move.option move.distance move.plays)
            ] in
            let all : (i : ℕ) (z : Square) (r : Position) → Legal q i z r → Win winner n r = λ i z r legal.
            let m = made i z r legal in
            let u : Values = next_value s v m.distance in
            elim (known m.option u m.listed m.plays_on) [
              | inl value ↦ elim value [
                | inl wins ↦ subst (Win winner n) (sym m.is) wins
                | inr lost ↦ absurd (other_differs winner (sym (ap other turn ∙ other_other winner) ∙ lost.0))
              ]
              | inr never ↦ absurd (none (record { option = m.option; distance = m.distance; listed = m.listed; plays = m.plays_on; holds = never }))
            ]
            in
            inr (flat_lost winner (Win winner n) h_sound (turn, has, all)),
      )

  -- with no move left the winner has not mated
  pub none_left : turn_at p s ≡ winner → Value winner 0 (after p s v) → ⊥
  none_left turn (inl never) = never
  none_left turn (inr lost) = other_differs winner (sym turn ∙ lost.0)

-- whose turn it is
pub is_others : (a b : Side) → is_side a b ≡ false → a ≡ other b
is_others White White e = absurd (cc)
is_others White Black e = refl
is_others Black White e = refl
is_others Black Black e = absurd (cc)

pub turned : (a b : Side) (c : Bool) → is_side a b ≡ c → is_side (other a) b ≡ not c
turned White White c e = ap not e
turned White Black c e = ap not e
turned Black White c e = ap not e
turned Black Black c e = ap not e
