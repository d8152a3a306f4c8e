-- Kings: where each side has one, and that one of them is live.
use Rattle.std.proofs.Common.{◌≡◌, ◌≢◌, ◌⊎◌, inl, inr, Some, sym, ap, ◌∙◌, refl}
use Rattle.std.specs.List.{Any}
use Rattle.game_rules.specs.Game.{Position, HasBothKings, HasKings, HasOneKing, HasOneKingAtMost, man_at}
use Rattle.game_rules.specs.declared.men.Kind.{Kind}
use Rattle.game_rules.specs.declared.men.Kind.TheVariants.{King, Queen, Rook, Bishop, Knight, Pawn, Chancellor, Archbishop, Amazon, Nightrider}
use Rattle.game_rules.specs.declared.men.Man.{Man}
use Rattle.game_rules.specs.declared.men.Place.TheVariants.{Gone}
use Rattle.game_rules.specs.declared.men.Side.{Side}
use Rattle.game_rules.specs.declared.men.Side.TheVariants.{White}
use Rattle.game_laws.proofs.CheckLemmas.{any_is}
use Rattle.game_laws.proofs.DecideLemmas.{any_decided}
use Rattle.game_laws.proofs.SoundLemmas.{any_at}

-- one king is no more than one
pub at_most_one : {p : Position} {s : Side} → HasOneKing p s → HasOneKingAtMost p s
at_most_one {p} h =
    record {
      live = λ k m is side kind gone.
          let e : k ≡ h.number = h.only k m is side kind in
          let same : Some m ≡ Some h.king = sym is ∙ ap (man_at p) e ∙ h.is_man in
          let who : m ≡ h.king = cc in
          h.live (sym (ap (λ (a : Man). a.place) who) ∙ gone);
      only = λ j k m n is_m is_n side_m side_n kind_m kind_n. h.only j m is_m side_m kind_m ∙ sym (h.only k n is_n side_n kind_n);
    }

-- where each side has one, there are kings
pub both_kings : {p : Position} → HasBothKings p → HasKings p
both_kings h =
    record {
      few = λ s. at_most_one (h s);
      some = λ none. let one = h White in none one.number one.king one.is_man one.is_king.1;
    }

king_or_not : (k : Kind) → (k ≡ King) ⊎ (k ≡ King → ⊥)
king_or_not King = inl refl
king_or_not Queen = inr (λ e. cc)
king_or_not Rook = inr (λ e. cc)
king_or_not Bishop = inr (λ e. cc)
king_or_not Knight = inr (λ e. cc)
king_or_not Pawn = inr (λ e. cc)
king_or_not Chancellor = inr (λ e. cc)
king_or_not Archbishop = inr (λ e. cc)
king_or_not Amazon = inr (λ e. cc)
king_or_not Nightrider = inr (λ e. cc)

-- some man is live: one of the kings
pub a_king_lives : {p : Position} → HasKings p → Any (λ m. m.place ≢ Gone) p.men
a_king_lives {p} kings =
    elim (any_decided (λ m. m.kind ≡ King) (λ m. king_or_not m.kind) p.men) [
      | inl found ↦
          let there = any_is p (λ m. m.kind ≡ King) found in
          any_at p (λ m. m.place ≢ Gone) there.0 there.1 there.2 ((kings.few there.1.side).live there.0 there.1 there.2 refl there.3)
      | inr none ↦ absurd (kings.some (λ k m is kind. none (any_at p (λ m. m.kind ≡ King) k m is kind)))
    ]
