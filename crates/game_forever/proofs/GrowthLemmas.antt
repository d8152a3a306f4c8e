-- Where one more move wins nothing more, no number of moves does.
use Rattle.std.proofs.Common.{◌≡◌, ◌↔◌, inl, inr, ℕ, zero, suc}
use Rattle.game_rules.specs.Game.{HasMove, InCheck, Lost, LostInto, Position, Sound, Win, other}
use Rattle.std.specs.Prelude.{◌⊎◌}
use Rattle.game_rules.specs.declared.men.Side.{Side}
use Rattle.game_laws.proofs.SoundLemmas.{other_other}
use Rattle.game_laws.proofs.ValueLemmas.{flat_lost}
use Rattle.std.proofs.Common.{ap, ◌∙◌}
use Rattle.game_forever.specs.AtLast.{ForcesMate, IsMatedAtLast, later, now}
use Rattle.game_forever.specs.Growth.{StopsAt}
use Rattle.game_forever.specs.Refuge.{Escapes, IsRefuge}
use Rattle.game_laws.specs.Sets.{LeadsInto}
use Rattle.game_forever.specs.Sets.{IsClosed}

-- who wins within some number of moves forces mate
pub win_mates : (winner : Side) (n : ℕ) (p : Position) → Win winner n p → ForcesMate winner p
win_mates winner zero p h = absurd h
win_mates winner (suc n) p (turn, (i, z, q, l, (his, inl mate))) = now i z q turn l mate
win_mates winner (suc n) p (turn, (i, z, q, l, (his, inr h))) = later i z q turn l h.0 (λ j w r next. win_mates winner n r (h.1 j w r next))

-- to force mate is to have a move after which it is forced
mate_leads : (winner : Side) (p : Position) → ForcesMate winner p → (p.turn ≡ winner) × LeadsInto (IsMatedAtLast winner) p
mate_leads winner p (now i z q turn l mate) = (turn, (q, (i, z, l), (l.step.after.turn ∙ ap other turn, inl mate)))
mate_leads winner p (later i z q turn l move each) = (turn, (q, (i, z, l), (l.step.after.turn ∙ ap other turn, inr (move, each))))

leads_mate : (winner : Side) (p : Position) → p.turn ≡ winner → LeadsInto (IsMatedAtLast winner) p → ForcesMate winner p
leads_mate winner p turn (q, (i, z, l), (his, inl mate)) = now i z q turn l mate
leads_mate winner p turn (q, (i, z, l), (his, inr h)) = later i z q turn l h.0 h.1

pub mate_forced : (winner : Side) (p : Position) → ForcesMate winner p ↔ ((p.turn ≡ winner) × LeadsInto (IsMatedAtLast winner) p)
mate_forced winner p = (mate_leads winner p, λ h. leads_mate winner p h.0 h.1)

module _ (A : Position → Type 0) (closed : IsClosed A) where
  -- in a closed set only its positions matter to what is lost into
  lost_within : (winner : Side) (V W : Position → Type 0) → ((r : Position) → A r → V r → W r) → (q : Position) → A q → LostInto winner V q → LostInto winner W q
  lost_within winner V W f q is (turn, inl mate) = (turn, inl mate)
  lost_within winner V W f q is (turn, inr h) = (turn, inr (h.0, λ i z r l. f r (closed q r is (i, z, l)) (h.1 i z r l)))

  module _ (winner : Side) (n : ℕ) (stops : StopsAt winner A n) where
    pub wins_stop : (k : ℕ) (p : Position) → A p → Win winner k p → Win winner n p
    wins_stop zero p is h = absurd h
    wins_stop (suc k) p is (turn, (i, z, q, l, lost)) =
        stops p is (turn, (i, z, q, l, lost_within winner (Win winner k) (Win winner n) (wins_stop k) q (closed p q is (i, z, l)) lost))

    pub losses_stop : (k : ℕ) (q : Position) → A q → Lost winner k q → Lost winner n q
    losses_stop k q is lost = lost_within winner (Win winner k) (Win winner n) (wins_stop k) q is lost

    -- from a position of the set from which the winner forces mate he wins within n moves
    pub mate_stops : (p : Position) → A p → ForcesMate winner p → Win winner n p
    mate_stops p is (now i z q turn l mate) =
        stops p is (turn, (i, z, q, l, (l.step.after.turn ∙ ap other turn, inl mate)))
    mate_stops p is (later i z q turn l move each) =
        stops p is (
          turn,
          (i, z, q, l, (l.step.after.turn ∙ ap other turn, inr (move, λ j w r next. mate_stops r (closed q r (closed p q is (i, z, l)) (j, w, next)) (each j w r next)))),
        )

    pub stopped : (p : Position) → A p → ForcesMate winner p ↔ Win winner n p
    stopped p is = (mate_stops p is, win_mates winner n p)

    pub stopped_lost : (q : Position) → A q → IsMatedAtLast winner q ↔ Lost winner n q
    stopped_lost q is = (
      lost_within winner (ForcesMate winner) (Win winner n) mate_stops q is,
      lost_within winner (Win winner n) (ForcesMate winner) (λ r is_r. win_mates winner n r) q is,
    )

    pub unwon_refuge : ((q : Position) → A q → Lost winner n q ⊎ Escapes (λ p. A p × (Win winner n p → ⊥)) q) → IsRefuge winner (λ p. A p × (Win winner n p → ⊥))
    unwon_refuge known p (is, unwon) turn q (i, z, l) =
        elim (known q (closed p q is (i, z, l))) [
          | inl lost ↦ absurd (unwon (stops p is (turn, (i, z, q, l, lost))))
          | inr escapes ↦ escapes
        ]

  pub cover_lost : (winner : Side) (n : ℕ) → ((p : Position) → A p → p.turn ≡ winner → Win winner n p)
      → (q : Position) → A q → Sound q → q.turn ≡ other winner → InCheck q q.turn ⊎ HasMove q → Lost winner n q
  cover_lost winner n all q is sound turn stale =
      flat_lost winner (Win winner n) sound (
        turn,
        stale,
        λ i z r l. all r (closed q r is (i, z, l)) (l.step.after.turn ∙ (ap other turn ∙ other_other winner)),
      )
