-- The positions of a table are lost.
use Rattle.std.proofs.Common.{◌≡◌, inl, inr, ℕ, zero, suc, ◌<◌, ◌≤◌, ap, ◌∙◌, arith}
use Rattle.game_rules.specs.Game.{Lost, Moves, Position, Sound, Win, other}
use Rattle.game_rules.specs.declared.men.Side.{Side}
use Rattle.game_laws.proofs.SoundLemmas.{legal_sound, other_other}
use Rattle.game_laws.proofs.ValueLemmas.{flat_lost, lost_flat}
use Rattle.game_laws.specs.Sets.{LeadsInto}
use Rattle.game_forever.specs.Tables.{IsTable}

module _ (winner : Side) (L : ℕ → Position → Type 0) (table : IsTable winner L) where
  lost_to : (n k : ℕ) (q : Position) → k ≤ n → L k q → Lost winner n q
  lost_to zero k q low is =
      flat_lost winner (Win winner 0) ((table k q is).sound) (
        (table k q is).turn,
        (table k q is).stale,
        λ i z r l. let left = (table k q is).left r (i, z, l) in absurd (omega (arith, low, left.1)),
      )
  lost_to (suc n) k q low is =
      flat_lost winner (Win winner (suc n)) ((table k q is).sound) (
        (table k q is).turn,
        (table k q is).stale,
        λ i z r l.
            let (j, less, (s, (y, w, next), in_set)) = (table k q is).left r (i, z, l) in (
              l.step.after.turn ∙ (ap other ((table k q is).turn) ∙ other_other winner),
              (y, w, s, next, lost_to n j s (omega (arith, low, less)) in_set),
            ),
      )

  pub table_lost : (n : ℕ) (q : Position) → L n q → Lost winner n q
  table_lost n q is = lost_to n n q (omega arith) is

  pub table_won : (n : ℕ) (p : Position) → p.turn ≡ winner → LeadsInto (L n) p → Win winner (suc n) p
  table_won n p turn (q, (i, z, l), is) = (turn, (i, z, q, l, table_lost n q is))

-- what is lost makes a table
lost_left : (winner : Side) (n : ℕ) (q r : Position) → Sound q → Lost winner n q → Moves q r → (k : ℕ) × (k < n) × LeadsInto (λ s. Sound s × Lost winner k s) r
lost_left winner n q r sound (turn, inl mate) (i, z, l) = absurd (mate.stuck i z r l)
lost_left winner zero q r sound (turn, inr h) (i, z, l) = absurd (h.1 i z r l)
lost_left winner (suc n) q r sound (turn, inr h) (i, z, l) =
    let (his, (j, w, s, next, lost)) = h.1 i z r l in
    (n, omega arith, (s, (j, w, next), (legal_sound r j w s (legal_sound q i z r sound l) next, lost)))

pub lost_table : (winner : Side) → IsTable winner (λ n q. Sound q × Lost winner n q)
lost_table winner n q is =
    record {
      sound = is.0;
      turn = is.1.0;
      stale = (lost_flat winner (Win winner n) q is.1).1;
      left = λ r. lost_left winner n q r is.0 is.1;
    }
