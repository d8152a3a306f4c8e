-- From a refuge the winner never mates.
use Rattle.std.proofs.Common.{◌≡◌, ◌↔◌, inl, inr, ℕ}
use Rattle.game_rules.specs.Game.{Lost, LostInto, Position, Win}
use Rattle.std.specs.Prelude.{◌⊎◌}
use Rattle.game_rules.specs.declared.men.Side.{Side}
use Rattle.game_forever.specs.AtLast.{ForcesMate, later, now}
use Rattle.game_forever.specs.Refuge.{Escapes, IsRefuge}
use Rattle.game_forever.proofs.GrowthLemmas.{win_mates}

-- who escapes into a set of which nothing is in W is not lost into W
not_lost_into : (winner : Side) (W X : Position → Type 0) → ((p : Position) → X p → W p → ⊥) → (q : Position) → Escapes X q → LostInto winner W q → ⊥
not_lost_into winner W X none q (inl stale) (turn, inl mate) = stale.safe mate.check
not_lost_into winner W X none q (inl stale) (turn, inr h) = stale.stuck h.0
not_lost_into winner W X none q (inr (s, (i, z, l), is)) (turn, inl mate) = mate.stuck i z s l
not_lost_into winner W X none q (inr (s, (i, z, l), is)) (turn, inr h) = none s is (h.1 i z s l)

module _ (winner : Side) (X : Position → Type 0) (refuge : IsRefuge winner X) where
  pub never_mate : (p : Position) → X p → ForcesMate winner p → ⊥
  never_mate p is (now i z q turn l mate) =
      elim (refuge p is turn q (i, z, l)) [
        | inl stale ↦ stale.safe mate.check
        | inr leads ↦ mate.stuck leads.1.0 leads.1.1 leads.0 leads.1.2
      ]
  never_mate p is (later i z q turn l move each) =
      elim (refuge p is turn q (i, z, l)) [
        | inl stale ↦ stale.stuck move
        | inr leads ↦ never_mate leads.0 leads.2 (each leads.1.0 leads.1.1 leads.0 leads.1.2)
      ]

  pub never_won : (n : ℕ) (p : Position) → X p → Win winner n p → ⊥
  never_won n p is won = never_mate p is (win_mates winner n p won)

  pub never_lost : (n : ℕ) (q : Position) → Escapes X q → Lost winner n q → ⊥
  never_lost n q escapes lost = not_lost_into winner (Win winner n) X (never_won n) q escapes lost

  pub cover_decided : (A W : Position → Type 0) → ((p : Position) → A p → p.turn ≡ winner → W p ⊎ X p)
      → ((p : Position) → W p → ForcesMate winner p)
      → (p : Position) → A p → p.turn ≡ winner → ForcesMate winner p ↔ W p
  cover_decided A W covers won p is turn = (
    λ h. elim (covers p is turn) [ inl w ↦ w | inr x ↦ absurd (never_mate p x h) ],
    won p,
  )
