-- The live men among the first ones.
use Rattle.std.proofs.Common.{◌≡◌, ◌≢◌, ℕ, zero, suc, List, [], ◌∷◌, ◌++◌, take, Some, None, slice_get, refl, ap, ◌∙◌}
use Rattle.std.proofs.lemmas.List.{append-nil}
use Rattle.game_rules.specs.declared.men.Man.{Man}
use Rattle.game_rules.specs.declared.men.Place.{Place}
use Rattle.game_rules.specs.declared.men.Place.TheVariants.{Gone, At}
use Rattle.stock_position.specs.Live.{live_men, with_live}

with_more : (a : Place) (x : Man) (one two last : List Man) → one ≡ two ++ last → with_live a x one ≡ with_live a x two ++ last
with_more Gone x one two last e = e
with_more (At u v) x one two last e = ap (λ men. x ∷ men) e

-- the live men, with one man more at the end
pub live_men-suc : (men : List Man) (i : ℕ) (m : Man) → slice_get men i ≡ Some m
    → live_men (take (suc i) men) ≡ live_men (take i men) ++ with_live m.place m []
live_men-suc [] i m h = absurd (let e : None ≡ Some m = h in cc)
live_men-suc (x ∷ men) zero m h = let same : x ≡ m = cc in ap (λ (y : Man). with_live y.place y []) same
live_men-suc (x ∷ men) (suc i) m h =
    with_more x.place x (live_men (take (suc i) men)) (live_men (take i men)) (with_live m.place m []) (live_men-suc men i m h)

alone_at : (a : Place) (m : Man) → a ≢ Gone → with_live a m [] ≡ m ∷ []
alone_at Gone m live = absurd (live refl)
alone_at (At x y) m live = refl

-- the list with a live man more
pub live_more : (men : List Man) (i : ℕ) (m : Man) → slice_get men i ≡ Some m → m.place ≢ Gone
    → live_men (take (suc i) men) ≡ live_men (take i men) ++ m ∷ []
live_more men i m h live = live_men-suc men i m h ∙ ap (λ last. live_men (take i men) ++ last) (alone_at m.place m live)

-- the list with a captured man more
pub gone_more : (men : List Man) (i : ℕ) (m : Man) → slice_get men i ≡ Some m → m.place ≡ Gone → live_men (take (suc i) men) ≡ live_men (take i men)
gone_more men i m h gone =
    live_men-suc men i m h ∙ ap (λ a. live_men (take i men) ++ with_live a m []) gone ∙ append-nil (live_men (take i men))
