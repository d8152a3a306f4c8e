-- The list of pairs has each two live men, and nothing else; and what the formula of a pair means. mate_plan cites pairs_few.
use Rattle.std.proofs.Common.{◌≡◌, ◌↔◌, ℕ, zero, suc, ◌*◌, ◌<◌, ◌≤◌, Bool, true, false, List, [], ◌∷◌, ◌++◌, length, inl, inr, refl, subst, sym, ap, ◌∙◌, arith, length-append}
use Rattle.std.specs.Prelude.{if◌then◌else◌}
use Rattle.std.specs.List.{Contains}
use Rattle.std.proofs.lemmas.Bool.Decides.{nat_tests}
use Rattle.track_word.specs.Tracks.{Values, values_at}
use Rattle.game_rules.specs.declared.men.Man.{Man}
use Rattle.game_rules.specs.Game.{Position}
use Rattle.lin_formula.specs.Tree.{Tree, free_vars}
use Rattle.lin_formula.specs.SetOf.{Member, members}
use Rattle.rule_formula.specs.declared.opt.ManPair.{ManPair}
use Rattle.rule_formula.specs.Fits.{IsGameMask}
use Rattle.mask_sets.specs.Stock.{mask_of}
use Rattle.game_laws.specs.Stock.{HasStock}
use Rattle.rule_formula.specs.Mean.{PairsMean}
use Rattle.rule_formula.specs.Meaning.{AreTwins}
use Rattle.rule_formula.specs.Pairs.{IsPairOf, is_later, later_to, man_pairs, pair, pairs_of, pairs_to}
use Rattle.rule_formula.specs.Placed.{IsLiveIn, is_live, placed}
use Rattle.mask_sets.specs.Tuple.{tuple_of}
use Rattle.rule_formula.specs.Seats.{own, squares, vars_to}
use Rattle.rule_formula.specs.Trees.{tracks_of, twins_tree}
use Rattle.rule_formula.proofs.ChainLemmas.{last_or_before}
use Rattle.rule_formula.proofs.FitLemmas.{placed_values, tuple_placed, values_of}
use Rattle.rule_formula.proofs.GameTheorem.{placed_mask, placed_stock}
use Rattle.rule_formula.proofs.LawTheorem.{squares_of}
use Rattle.rule_formula.proofs.ListTheorem.{appended, nothing, only_if, pushed_if}
use Rattle.rule_formula.proofs.StockLemmas.{stock_placed, stock_unique}
use Rattle.rule_formula.proofs.TracksTheorem.{twins_tracks}
use Rattle.rule_formula.proofs.TwinsTheorem.{eight_vars, twins_means}

later_told : (mask a b : ℕ) → is_later mask a b ≡ true → (a < b) × (is_live mask b ≡ true)
later_told mask a b e = (grind (arith, nat_tests), grind (arith, nat_tests))

later_tells : (mask a b : ℕ) → a < b → is_live mask b ≡ true → is_later mask a b ≡ true
later_tells mask a b less live = grind (arith, nat_tests)

-- a pair of man a with a later live man among the first n
record IsLaterTo (mask a n : ℕ) (w : ManPair) : Type 0 where
  is : pair a w.second ≡ w
  less : a < w.second
  high : w.second ≤ n
  live : is_live mask w.second ≡ true

later_are : (mask a n : ℕ) (w : ManPair) → Contains (later_to mask a n) w ↔ IsLaterTo mask a n w
later_are mask a zero w = (λ h. absurd (nothing w h), λ h. absurd (omega (arith, h.less, h.high)))
later_are mask a (suc n) w =
    let step = pushed_if (is_later mask a (suc n)) (later_to mask a n) (pair a (suc n)) w in
    let before = later_are mask a n w in (
      λ h.
          elim (step.0 h) [
            | inl earlier ↦ let was = before.0 earlier in record { is = was.is; less = was.less; high = omega (arith, was.high); live = was.live }
            | inr e ↦
                let at : suc n ≡ w.second = ap (λ (x : ManPair). x.second) e.1 in
                let told = later_told mask a (suc n) e.0 in
                record { is = subst (λ b. pair a b ≡ w) at e.1; less = subst (λ b. a < b) at told.0; high = omega (arith, at); live = subst (λ b. is_live mask b ≡ true) at told.1 }
          ],
      λ h.
          elim (last_or_before w.second n h.high) [
            | inl earlier ↦ step.1 (inl (before.1 (record { is = h.is; less = h.less; high = earlier; live = h.live })))
            | inr at ↦ step.1 (inr (subst (λ b. is_later mask a b ≡ true) at (later_tells mask a w.second h.less h.live), subst (λ b. pair a b ≡ w) at h.is))
          ],
    )

-- two live men among so many, the first of whom is among the first n
record IsPairTo (mask count n : ℕ) (w : ManPair) : Type 0 where
  order : w.first < w.second
  low : 1 ≤ w.first
  begun : w.first ≤ n
  high : w.second ≤ count
  first_live : is_live mask w.first ≡ true
  second_live : is_live mask w.second ≡ true

pairs_to_are : (mask count n : ℕ) (w : ManPair) → Contains (pairs_to mask count n) w ↔ IsPairTo mask count n w
pairs_to_are mask count zero w = (λ h. absurd (nothing w h), λ h. absurd (omega (arith, h.low, h.begun)))
pairs_to_are mask count (suc n) w =
    let step = appended (pairs_to mask count n) (man_pairs mask count (suc n)) w in
    let here = only_if (is_live mask (suc n)) (later_to mask (suc n) count) w in
    let later = later_are mask (suc n) count w in
    let before = pairs_to_are mask count n w in (
      λ h.
          elim (step.0 h) [
            | inl earlier ↦ let was = before.0 earlier in record {
              order = was.order;
              low = was.low;
              begun = omega (arith, was.begun);
              high = was.high;
              first_live = was.first_live;
              second_live = was.second_live;
            }
            | inr last ↦
                let (live, listed) = here.0 last in
                let is = later.0 listed in
                let at : suc n ≡ w.first = ap (λ (x : ManPair). x.first) is.is in
                let less = is.less in
                record {
                  order = omega (arith, at, less);
                  low = omega (arith, at);
                  begun = omega (arith, at);
                  high = is.high;
                  first_live = subst (λ k. is_live mask k ≡ true) at live;
                  second_live = is.live;
                }
          ],
      λ h.
          elim (last_or_before w.first n h.begun) [
            | inl earlier ↦ step.1 (inl (before.1 (record { order = h.order; low = h.low; begun = earlier; high = h.high; first_live = h.first_live; second_live = h.second_live })))
            | inr at ↦
                let less : suc n < w.second = subst (λ k. k < w.second) at h.order in
                let is : pair (suc n) w.second ≡ w = subst (λ k. pair k w.second ≡ w) at refl in
                step.1 (inr (here.1 (subst (λ k. is_live mask k ≡ true) at h.first_live, later.1 (record { is = is; less = less; high = h.high; live = h.second_live }))))
          ],
    )

pub pairs_are : (stock : List Man) (mask : ℕ) (w : ManPair) → Contains (pairs_of stock mask) w ↔ IsPairOf stock mask w
pairs_are stock mask w =
    let all = pairs_to_are mask (length stock) (length stock) w in (
      λ h. let is = all.0 h in record { order = is.order; low = is.low; high = is.high; first_live = is.first_live; second_live = is.second_live },
      λ h. let order = h.order in let high = h.high in all.1 (record {
        order = h.order;
        low = h.low;
        begun = omega (arith, order, high);
        high = h.high;
        first_live = h.first_live;
        second_live = h.second_live;
      }),
    )

pushed_few : (b : Bool) (xs : List ManPair) (x : ManPair) (n : ℕ) → length xs ≤ n → length (if b then xs ++ x ∷ [] else xs) ≤ suc n
pushed_few true xs x n h = let e = length-append xs (x ∷ []) in omega (arith, e, h)
pushed_few false xs x n h = omega (arith, h)

later_few : (mask a n : ℕ) → length (later_to mask a n) ≤ n
later_few mask a zero = omega arith
later_few mask a (suc n) = pushed_few (is_later mask a (suc n)) (later_to mask a n) (pair a (suc n)) n (later_few mask a n)

some_few : (b : Bool) (xs : List ManPair) (n : ℕ) → length xs ≤ n → length (if b then xs else []) ≤ n
some_few true xs n h = h
some_few false xs n h = omega arith

to_few : (mask count n : ℕ) → count ≤ 8 → length (pairs_to mask count n) ≤ 8 * n
to_few mask count zero few = omega arith
to_few mask count (suc n) few =
    let rest = to_few mask count n few in
    let later = later_few mask (suc n) count in
    let here = some_few (is_live mask (suc n)) (later_to mask (suc n) count) 8 (omega (arith, later, few)) in
    let both = length-append (pairs_to mask count n) (man_pairs mask count (suc n)) in
    omega (arith, rest, here, both)

pub pairs_few : (stock : List Man) (mask : ℕ) → length stock ≤ 8 → length (pairs_of stock mask) ≤ 64
pairs_few stock mask few = let all = to_few mask (length stock) (length stock) few in omega (arith, all, few)

module _ (p : Position) (few : length p.men ≤ 8) (m : ℕ) (w : ManPair) (game : IsGameMask p m) (is : IsPairOf p.men m w) where
  abbrev tree_at : ℕ → Tree
  tree_at s = twins_tree 8 m w.first w.second s

  pub first_in : IsLiveIn m w.first
  first_in = let order = is.order in let high = is.high in record { low = is.low; high = omega (arith, order, high, few); live = is.first_live }

  pub second_in : IsLiveIn m w.second
  second_in = let order = is.order in let high = is.high in record { low = omega (arith, order); high = omega (arith, high, few); live = is.second_live }

  eight : (s : ℕ) → free_vars (tree_at s) ≡ vars_to own (is_live m) 8
  eight s = let low = is.low in let order = is.order in twins_tracks 8 m w.first w.second s (omega (arith, low)) first_in.high is.first_live (omega (arith, order)) second_in.high is.second_live (λ e. omega (arith, e, order))

  tracks : (s : ℕ) → free_vars (tree_at s) ≡ tracks_of p.men (is_live m)
  tracks s = eight s ∙ eight_vars m (length p.men) few game.no_more

  placed_is : {q : Position} (v : Values) → HasStock p.men q → mask_of q ≡ m → values_at (tracks_of p.men (is_live m)) v ≡ tuple_of q → placed p.men (is_live m) q.turn (squares v) ≡ q
  placed_is {q} v stock mask tuple =
      let here : Position = placed p.men (is_live m) q.turn (squares v) in
      let its_mask : mask_of here ≡ m = sym (placed_mask p.men (is_live m) q.turn (squares v) m game.no_more (λ k low high. refl)) in
      stock_unique (placed_stock p.men (is_live m) q.turn (squares v)) stock refl (its_mask ∙ sym mask) (sym (tuple_placed p.men (is_live m) q.turn v) ∙ tuple)

  pub pairs_mean : PairsMean p m w
  pairs_mean = record {
    tracks = tracks;
    twins = λ s e q stock mask. (
      λ h.
          let tuple : values_at (tracks_of p.men (is_live m)) h.values ≡ tuple_of q = ap (λ vars. values_at vars h.values) (sym (tracks s)) ∙ h.is_tuple in
          let at = placed_is h.values stock mask tuple in
          let (member, twins) = (twins_means s (tree_at s) first_in second_in refl (members e) p.men q.turn h.values few game.no_more).0 h.holds in
          (subst (λ x. Member (e s) (tuple_of x)) at member, subst (AreTwins w.first w.second) at twins),
      λ (member, twins).
          let v : Values = values_of (squares_of q) in
          let at : placed p.men (is_live m) q.turn (squares v) ≡ q =
          placed_values p.men (is_live m) q.turn (squares_of q) ∙ (ap (λ k. placed p.men (is_live k) q.turn (squares_of q)) (sym mask) ∙ stock_placed stock) in
          let told = twins_means s (tree_at s) first_in second_in refl (members e) p.men q.turn v few game.no_more in
          record {
            values = v;
            is_tuple = ap (λ vars. values_at vars v) (tracks s) ∙ (tuple_placed p.men (is_live m) q.turn v ∙ ap tuple_of at);
            holds = told.1 (subst (λ x. Member (e s) (tuple_of x)) (sym at) member, subst (AreTwins w.first w.second) (sym at) twins);
          },
    );
    within = λ s e tuple h. subst (Member (e s)) (ap (λ vars. values_at vars h.values) (sym (eight s)) ∙ h.is_tuple) h.holds.0.0;
  }
