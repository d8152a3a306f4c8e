-- Soundness is a proposition: a position is sound in at most one way. So a field of a struct can say that its position
-- is.
use Rattle.std.specs.Prelude.{◌≡◌, ◌≢◌, ℕ, Some, unwrap_or}
use Rattle.std.specs.Coded.{Coded-set, coded_option, coded_ℕ, ×_prop, →_prop, Π_prop}
use mathlib.Core.HLevel.{¬_prop}
use mathlib.Core.Path.{ap, subst, sym, ◌∙◌}
use Rattle.game_rules.specs.Game.{HasKings, HasOneKing, HasOneKingAtMost, IsApart, Position, Sound, SoundWithKings, man_at}
use Rattle.game_rules.specs.declared.men.Kind.TheVariants.{King}
use Rattle.game_rules.specs.declared.men.Man.{Man}
use Rattle.game_rules.specs.declared.men.Place.TheVariants.{Gone}
use Rattle.game_rules.specs.declared.men.Side.{Side}
use Rattle.game_rules.specs.contracts.men.Kind as kind
use Rattle.game_rules.specs.contracts.men.Man as man
use Rattle.game_rules.specs.contracts.men.Side as side

module _ (p : Position) (s : Side) where
  -- the number and the man of the only king, with what HasOneKing says of him
  abbrev IsOneKing : ℕ → Man → Type 0
  IsOneKing n king =
      (man_at p n ≡ Some king) × (((king.side ≡ s) × (king.kind ≡ King)) × ((king.place ≢ Gone)
      × ((k : ℕ) (m : Man) → man_at p k ≡ Some m → m.side ≡ s → m.kind ≡ King → k ≡ n)))

  abbrev one_king : (n : ℕ) (king : Man) → IsOneKing n king → HasOneKing p s
  one_king n king h = record { number = n; king = king; is_man = h.0; is_king = h.1.0; live = h.1.1.0; only = h.1.1.1 }

  IsOneKing-prop : (n : ℕ) (king : Man) → IsProp (IsOneKing n king)
  IsOneKing-prop n king =
      ×_prop (Coded-set (coded_option man.the_row.coded) (man_at p n) (Some king))
      (×_prop (×_prop (Coded-set side.the_row.coded king.side s) (Coded-set kind.the_row.coded king.kind King))
      (×_prop ¬_prop (Π_prop (λ k. Π_prop (λ m. →_prop (→_prop (→_prop (Coded-set coded_ℕ k n))))))))

  one_king-same : (n k : ℕ) (king other : Man) (h : IsOneKing n king) → n ≡ k → king ≡ other → (g : IsOneKing k other)
      → one_king n king h ≡ one_king k other g
  one_king-same n k king other h number man =
      subst (λ k. (g : IsOneKing k other) → one_king n king h ≡ one_king k other g) number
      (subst (λ other. (g : IsOneKing n other) → one_king n king h ≡ one_king n other g) man
      (λ g. ap (one_king n king) (IsOneKing-prop n king h g)))

  -- the number is that of the only king, and a number has one man
  HasOneKing-prop : IsProp (HasOneKing p s)
  HasOneKing-prop h g =
      let number = g.only h.number h.king h.is_man h.is_king.0 h.is_king.1 in
      let man = ap (λ o. unwrap_or o h.king) (sym h.is_man ∙ (ap (man_at p) number ∙ g.is_man)) in
      one_king-same h.number g.number h.king g.king (h.is_man, (h.is_king, (h.live, h.only))) number man
      (g.is_man, (g.is_king, (g.live, g.only)))

HasOneKingAtMost-prop : (p : Position) (s : Side) → IsProp (HasOneKingAtMost p s)
HasOneKingAtMost-prop p s h g = λ i. record {
  live = Π_prop (λ k. Π_prop (λ m. →_prop (→_prop (→_prop ¬_prop)))) h.live g.live i;
  only = Π_prop (λ j. Π_prop (λ k. Π_prop (λ m. Π_prop (λ n. →_prop (→_prop (→_prop (→_prop (→_prop (→_prop (Coded-set coded_ℕ j k))))))))))
      h.only g.only i;
}

HasKings-prop : (p : Position) → IsProp (HasKings p)
HasKings-prop p h g = λ i. record {
  few = Π_prop (HasOneKingAtMost-prop p) h.few g.few i;
  some = ¬_prop h.some g.some i;
}

IsApart-prop : (p : Position) → IsProp (IsApart p)
IsApart-prop p =
    Π_prop (λ i. Π_prop (λ j. Π_prop (λ m. Π_prop (λ n. Π_prop (λ z. →_prop (→_prop (→_prop (→_prop (Coded-set coded_ℕ i j)))))))))

pub Sound-prop : (p : Position) → IsProp (Sound p)
Sound-prop p h g = λ i. record {
  kings = HasKings-prop p h.kings g.kings i;
  apart = IsApart-prop p h.apart g.apart i;
  other_safe = ¬_prop h.other_safe g.other_safe i;
}

pub SoundWithKings-prop : (p : Position) → IsProp (SoundWithKings p)
SoundWithKings-prop p h g = λ i. record {
  sound = Sound-prop p h.sound g.sound i;
  kings = Π_prop (HasOneKing-prop p) h.kings g.kings i;
}
