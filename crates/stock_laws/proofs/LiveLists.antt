-- The live men of a list, and their numbers among all men.
use Rattle.std.proofs.Common.{◌≡◌, ◌≢◌, ℕ, zero, suc, ◌<◌, List, [], ◌∷◌, Some, None, slice_get, refl, sym, ap, ◌∙◌, subst, arith}
use Rattle.std.specs.List.{Any}
use Rattle.std.proofs.lemmas.Option.{same_Some}
use Rattle.game_rules.specs.Game.{Position, man_at}
use Rattle.game_rules.specs.declared.men.Man.{Man}
use Rattle.game_rules.specs.declared.men.Place.{Place}
use Rattle.game_rules.specs.declared.men.Place.TheVariants.{Gone, At}
use Rattle.stock_position.specs.Live.{live_men, with_live}

abbrev pub rank_step : Place → ℕ → ℕ
rank_step Gone k = k
rank_step (At x y) k = suc k

-- the number of live men before man i, counted from 0
abbrev pub rank : List Man → ℕ → ℕ
rank [] i = zero
rank (m ∷ ms) zero = zero
rank (m ∷ ms) (suc i) = rank_step m.place (rank ms i)

front_live : (a : Place) (x : Man) (l : List Man) → a ≢ Gone → slice_get (with_live a x l) zero ≡ Some x
front_live Gone x l live = absurd (live refl)
front_live (At u v) x l live = refl

past : (a : Place) (x m : Man) (l : List Man) (k : ℕ) → slice_get l k ≡ Some m → slice_get (with_live a x l) (rank_step a k) ≡ Some m
past Gone x m l k h = h
past (At u v) x m l k h = h

-- a live man, among the live men
pub to_live : (ms : List Man) (i : ℕ) (m : Man) → slice_get ms i ≡ Some m → m.place ≢ Gone → slice_get (live_men ms) (rank ms i) ≡ Some m
to_live [] i m is live = absurd (let e : None ≡ Some m = is in cc)
to_live (x ∷ ms) zero m is live =
    let same : x ≡ m = same_Some x m is in
    front_live x.place x (live_men ms) (λ e. live (sym (ap (λ (a : Man). a.place) same) ∙ e)) ∙ is
to_live (x ∷ ms) (suc i) m is live = past x.place x m (live_men ms) (rank ms i) (to_live ms i m is live)

-- one of the live men, among all men
pub record Found (ms : List Man) (k : ℕ) (m : Man) : Type 0 where
  pub number : ℕ
  pub is : slice_get ms number ≡ Some m
  pub live : m.place ≢ Gone
  pub ranked : rank ms number ≡ k

from_front : (a : Place) (x : Man) (ms : List Man) (k : ℕ) (m : Man) → x.place ≡ a → ((k : ℕ) → slice_get (live_men ms) k ≡ Some m → Found ms k m)
    → slice_get (with_live a x (live_men ms)) k ≡ Some m → Found (x ∷ ms) k m
from_front Gone x ms k m is before h =
    let f = before k h in
    record { number = suc f.number; is = f.is; live = f.live; ranked = ap (λ a. rank_step a (rank ms f.number)) is ∙ f.ranked }
from_front (At u v) x ms zero m is before h =
    let same : x ≡ m = same_Some x m h in
    record {
      number = zero;
      is = h;
      live = λ e. let gone : At u v ≡ Gone = sym is ∙ ap (λ (a : Man). a.place) same ∙ e in cc;
      ranked = refl;
    }
from_front (At u v) x ms (suc k) m is before h =
    let f = before k h in
    record { number = suc f.number; is = f.is; live = f.live; ranked = ap (λ a. rank_step a (rank ms f.number)) is ∙ ap suc f.ranked }

pub from_live : (ms : List Man) (k : ℕ) (m : Man) → slice_get (live_men ms) k ≡ Some m → Found ms k m
from_live [] k m h = absurd (let e : None ≡ Some m = h in cc)
from_live (x ∷ ms) k m h = from_front x.place x ms k m refl (λ j there. from_live ms j m there) h

-- positions with the same live men
pub record AreAlike (p q : Position) : Type 0 where
  pub men : live_men p.men ≡ live_men q.men
  pub turn : p.turn ≡ q.turn

pub alike_back : {p q : Position} → AreAlike p q → AreAlike q p
alike_back h = record { men = sym h.men; turn = sym h.turn }

-- a live man of one is a live man of the other, with the same number among the live men
pub record Partner (p q : Position) (i : ℕ) (m : Man) : Type 0 where
  pub number : ℕ
  pub is : man_at q (suc number) ≡ Some m
  pub ranked : rank q.men number ≡ rank p.men i

pub partner : {p q : Position} → AreAlike p q → (i : ℕ) (m : Man) → man_at p (suc i) ≡ Some m → m.place ≢ Gone → Partner p q i m
partner {p} {q} alike i m is live =
    let there : slice_get (live_men q.men) (rank p.men i) ≡ Some m =
    subst (λ l. slice_get l (rank p.men i) ≡ Some m) alike.men (to_live p.men i m is live) in
    let f = from_live q.men (rank p.men i) m there in
    record { number = f.number; is = f.is; ranked = f.ranked }
