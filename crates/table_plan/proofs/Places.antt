-- The formula of all positions says that the king stands on 0 0 and live men on distinct squares.
use Rattle.std.proofs.Common.{◌≡◌, ◌↔◌, ◌⊎◌, ℕ, ◌<◌, ◌≤◌, ℤ, pos, Bool, true, List, [], ◌∷◌, length, map, Some, inl, inr, refl, sym, ap, ◌∙◌, subst, arith}
use Rattle.std.specs.Prelude.{Contains}
use Rattle.std.proofs.lemmas.Int.{ints}
use Rattle.track_word.specs.declared.tracks.Var.{Var}
use Rattle.track_word.specs.Tracks.{Values, values_at}
use Rattle.game_rules.specs.Game.{HasOneKing, IsApart, Position, StandsOn, other}
use Rattle.game_rules.specs.declared.men.Kind.TheVariants.{King}
use Rattle.game_rules.specs.declared.men.Man.{Man}
use Rattle.game_rules.specs.declared.men.Side.{Side}
use Rattle.game_rules.specs.declared.men.Square.{Square}
use Rattle.game_laws.proofs.LineLemmas.{square_is}
use Rattle.lin_formula.specs.Tree.{Tree, free_vars}
use Rattle.lin_formula.specs.Tree as tree
use Rattle.lin_formula.specs.Free.{IsFree}
use Rattle.lin_formula.specs.Holds.{Holds, Sets}
use Rattle.lin_formula.specs.SetOf.{HoldsAt, Member, SetOf, Where, members}
use Rattle.mask_sets.specs.Stock.{mask_of}
use Rattle.game_laws.specs.Stock.{stock_man}
use Rattle.mask_sets.specs.Tuple.{tuple_of}
use Rattle.game_laws.proofs.StockLemmas.{stock_has, stock_man-men}
use Rattle.rule_formula.specs.declared.opt.ManPair.{ManPair}
use Rattle.rule_formula.specs.Bearings.{king_number}
use Rattle.rule_formula.specs.Fits.{Fits, IsGameMask}
use Rattle.rule_formula.specs.Mean.{RulesMean, mask_tracks}
use Rattle.rule_formula.specs.Pairs.{IsPairOf, pairs_of}
use Rattle.rule_formula.specs.Placed.{is_live, placed}
use Rattle.rule_formula.specs.Seats.{own, squares}
use Rattle.rule_formula.specs.Trees.{and_all}
use Rattle.rule_formula.proofs.BearLemmas.{man_placed, stands_at, stock_number}
use Rattle.rule_formula.proofs.BearingTheorem.{king_is}
use Rattle.rule_formula.specs.Fine.{AllHold}
use Rattle.rule_formula.proofs.ChainLemmas.{and_all_holds}
use Rattle.rule_formula.proofs.FitLemmas.{placed_values, squares_values, tuple_placed, values_of}
use Rattle.rule_formula.proofs.GameTheorem.{placed_fits, placed_mask}
use Rattle.rule_formula.proofs.LawTheorem.{squares_of}
use Rattle.rule_formula.proofs.PlacedLemmas.{from_placed, placed_man, stands_placed}
use Rattle.rule_formula.proofs.StockLemmas.{fits_placed}
use Rattle.rule_formula.proofs.TracksTheorem.{IsSeated, tracks_are}
use Rattle.set_plan.proofs.Takings.{contains_cases, contains_head, contains_map, contains_none, contains_rest}
use Rattle.table_plan.specs.Table.{apart_tree, place_tree}
use Rattle.table_plan.specs.TableMeans.{IsStock, KingStandsOn, origin}

all_hold : (gs : List Tree) (e : Sets) (v : Values) → AllHold gs e v ↔ ((g : Tree) → Contains gs g → Holds g e v)
all_hold [] e v = (λ h g i. absurd (contains_none g i), λ h. tt)
all_hold (f ∷ gs) e v =
    let rest = all_hold gs e v in (
      λ h g i. elim (contains_cases f gs g i) [ inl same ↦ subst (λ t. Holds t e v) same h.0 | inr j ↦ rest.0 h.1 g j ],
      λ h. (h f (contains_head f gs), rest.1 (λ g i. h g (contains_rest f gs g i))),
    )

free_from : (z : Var) (f : Tree) (gs : List Tree) → IsFree z (and_all f gs) → IsFree z f ⊎ ((g : Tree) × Contains gs g × IsFree z g)
free_from z f [] h = inl h
free_from z f (g ∷ gs) h =
    elim (free_from z (tree.And f g) gs h) [
      | inl (inl a) ↦ inl a
      | inl (inr b) ↦ inr (g, contains_head g gs, b)
      | inr (k, i, c) ↦ inr (k, contains_rest g gs k i, c)
    ]

free_first : (z : Var) (f : Tree) (gs : List Tree) → IsFree z f → IsFree z (and_all f gs)
free_first z f [] h = h
free_first z f (g ∷ gs) h = free_first z (tree.And f g) gs (inl h)

free_later : (z : Var) (f : Tree) (gs : List Tree) (g : Tree) → Contains gs g → IsFree z g → IsFree z (and_all f gs)
free_later z f [] g i h = absurd (contains_none g i)
free_later z f (k ∷ gs) g i h =
    elim (contains_cases k gs g i) [
      | inl same ↦ free_first z (tree.And f k) gs (inr (subst (IsFree z) (sym same) h))
      | inr j ↦ free_later z (tree.And f k) gs g j h
    ]

order_of : (a b : ℕ) → (a ≡ b) ⊎ ((a < b) ⊎ (b < a))
order_of a b = grind arith

module _ (p : Position) (winner : Side) (stock : IsStock winner p) (mean : RulesMean p) (side : Side) (mask : ℕ) (is_mask : IsGameMask p mask) where
  abbrev n : ℕ
  n = length p.men

  abbrev live : ℕ → Bool
  live = is_live mask

  abbrev loser : Side
  loser = other winner

  abbrev king : ℕ
  king = king_number p.men loser

  had : HasOneKing p loser
  had = stock.king

  king_had : king ≡ had.number
  king_had = king_is had

  king_man : stock_man p.men king ≡ Some had.king
  king_man = ap (stock_man p.men) king_had ∙ (stock_man-men p had.number ∙ had.is_man)

  king_live : live king ≡ true
  king_live = subst (λ k. live k ≡ true) (sym king_had) (is_mask.kings had.number had.king had.is_man had.is_king.1)

  king_low : 0 < king
  king_low = (stock_number p.men king had.king king_man).low

  king_high : king ≤ n
  king_high = (stock_number p.men king had.king king_man).high

  -- each pair is one of the formula
  pair_in : (a b : ℕ) → a < b → 0 < a → b ≤ n → live a ≡ true → live b ≡ true → Contains (map apart_tree (pairs_of p.men mask)) (apart_tree (record { first = a; second = b }))
  pair_in a b less low high on also =
      let w : ManPair = record { first = a; second = b } in
      let is : IsPairOf p.men mask w = record { order = less; low = omega (arith, low); high = high; first_live = on; second_live = also } in
      (contains_map apart_tree (pairs_of p.men mask) (apart_tree w)).1 (w, (mean.game.pairs mask w).1 is, refl)

  pair_from : (g : Tree) → Contains (map apart_tree (pairs_of p.men mask)) g → (w : ManPair) × IsPairOf p.men mask w × (apart_tree w ≡ g)
  pair_from g i =
      let (w, j, e) = (contains_map apart_tree (pairs_of p.men mask) g).0 i in
      (w, (mean.game.pairs mask w).0 j, e)

  pair_seated : (w : ManPair) (z : Var) → IsPairOf p.men mask w → IsFree z (apart_tree w) → IsSeated own live n z
  pair_seated w z is h =
      let first : 0 < w.first = omega (arith, is.low) in
      let first_high : w.first ≤ n = omega (arith, is.order, is.high) in
      let second : 0 < w.second = omega (arith, is.low, is.order) in
      elim h [
        | inl (inl e) ↦ record { number = w.first; low = first; high = first_high; on = is.first_live; is = inl e }
        | inl (inr (inl e)) ↦ record { number = w.second; low = second; high = is.high; on = is.second_live; is = inl e }
        | inl (inr (inr none)) ↦ absurd none
        | inr (inl e) ↦ record { number = w.first; low = first; high = first_high; on = is.first_live; is = inr e }
        | inr (inr (inl e)) ↦ record { number = w.second; low = second; high = is.high; on = is.second_live; is = inr e }
        | inr (inr (inr none)) ↦ absurd none
      ]

  abbrev first_tree : Tree
  first_tree = tree.And (tree.Value (own king).x (pos 0)) (tree.Value (own king).y (pos 0))

  abbrev pair_trees : List Tree
  pair_trees = map apart_tree (pairs_of p.men mask)

  only_seated : (z : Var) → IsFree z (place_tree p king mask) → IsSeated own live n z
  only_seated z h =
      elim (free_from z first_tree pair_trees h) [
        | inl a ↦ record { number = king; low = king_low; high = king_high; on = king_live; is = a }
        | inr (g, i, f) ↦ let (w, is, e) = pair_from g i in pair_seated w z is (subst (IsFree z) (sym e) f)
      ]

  all_free : (z : Var) → IsSeated own live n z → IsFree z (place_tree p king mask)
  all_free z w =
      elim (order_of w.number king) [
        | inl e ↦ free_first z first_tree pair_trees (elim w.is [ inl x ↦ inl (x ∙ ap (λ k. (own k).x) e) | inr y ↦ inr (y ∙ ap (λ k. (own k).y) e) ])
        | inr (inl before) ↦
            free_later z first_tree pair_trees (apart_tree (record { first = w.number; second = king }))
            (pair_in w.number king before w.low king_high w.on king_live)
            (elim w.is [ inl x ↦ inl (inl x) | inr y ↦ inr (inl y) ])
        | inr (inr after) ↦
            free_later z first_tree pair_trees (apart_tree (record { first = king; second = w.number }))
            (pair_in king w.number after king_low w.high king_live w.on)
            (elim w.is [ inl x ↦ inl (inr (inl x)) | inr y ↦ inr (inr (inl y)) ])
      ]

  pub place_tracks : free_vars (place_tree p king mask) ≡ mask_tracks p mask
  place_tracks = tracks_are live n (place_tree p king mask) only_seated all_free

  -- values at which the formula holds: the king's square is 0 0, and those of other men differ
  pub record IsPlaced (v : Values) : Type 0 where
    pub king_at : squares v king ≡ origin
    pub apart : (a b : ℕ) → a < b → 0 < a → b ≤ n → live a ≡ true → live b ≡ true → squares v a ≡ squares v b → ⊥

  place_holds : (e : Sets) (v : Values) → Holds (place_tree p king mask) e v ↔ IsPlaced v
  place_holds e v =
      let chain = and_all_holds first_tree pair_trees e v in
      let each = all_hold pair_trees e v in (
        λ h.
            let (first, rest) = chain.0 h in
            record {
              king_at = square_is (squares v king) (pos 0) (pos 0) first.0 first.1;
              apart = λ a b less low high on also same.
                  let off = each.0 rest (apart_tree (record { first = a; second = b })) (pair_in a b less low high on also) in
                  let ex : v (own a).x.0 ≡ v (own b).x.0 = ap (λ (z : Square). z.x) same in
                  let ey : v (own a).y.0 ≡ v (own b).y.0 = ap (λ (z : Square). z.y) same in
                  off (omega (arith, ints, ex), omega (arith, ints, ey));
            },
        λ h. chain.1 (
          (ap (λ (z : Square). z.x) h.king_at, ap (λ (z : Square). z.y) h.king_at),
          each.1 (λ g i.
              let (w, is, e_is) = pair_from g i in
              let off : Holds (apart_tree w) e v = λ both.
              h.apart w.first w.second is.order (omega (arith, is.low)) is.high is.first_live is.second_live
              (square_is (squares v w.first) (v (own w.second).x.0) (v (own w.second).y.0) (let ex = both.0 in omega (arith, ints, ex)) (let ey = both.1 in omega (arith, ints, ey))) in
              subst (λ t. Holds t e v) e_is off),
        ),
      )

  -- a position by its squares
  abbrev pub by_values : Values → Position
  by_values v = placed p.men live side (squares v)

  keeps_kings : (k : ℕ) (m : Man) → stock_man p.men k ≡ Some m → m.kind ≡ King → live k ≡ true
  keeps_kings k m is sort = is_mask.kings k m (sym (stock_man-men p k) ∙ is) sort

  -- such values put the men on distinct squares
  apart_by : (v : Values) → IsPlaced v → IsApart (by_values v)
  apart_by v h i j a b z is_a is_b on_a on_b =
      let x = from_placed p.men live side (squares v) i a is_a in
      let y = from_placed p.men live side (squares v) j b is_b in
      let at_i = stands_placed (live i) (squares v i) z (subst (λ m. StandsOn m z) x.is on_a) in
      let at_j = stands_placed (live j) (squares v j) z (subst (λ m. StandsOn m z) y.is on_b) in
      let num_i = stock_number p.men i x.man x.is_man in
      let num_j = stock_number p.men j y.man y.is_man in
      elim (order_of i j) [
        | inl e ↦ e
        | inr (inl before) ↦ absurd (h.apart i j before num_i.low num_j.high at_i.0 at_j.0 (at_i.1 ∙ sym at_j.1))
        | inr (inr after) ↦ absurd (h.apart j i after num_j.low num_i.high at_j.0 at_i.0 (at_j.1 ∙ sym at_i.1))
      ]

  king_by : (v : Values) → IsPlaced v → KingStandsOn loser origin (by_values v)
  king_by v h k m is his sort =
      let x = from_placed p.men live side (squares v) k m is in
      let number : k ≡ had.number =
      had.only k x.man (sym (stock_man-men p k) ∙ x.is_man) (sym (ap (λ (a : Man). a.side) x.is) ∙ his) (sym (ap (λ (a : Man). a.kind) x.is) ∙ sort) in
      let here : squares v k ≡ origin = ap (squares v) (number ∙ sym king_had) ∙ h.king_at in
      let on : live k ≡ true = subst (λ j. live j ≡ true) (king_had ∙ sym number) king_live in
      let stands : StandsOn (man_placed live (squares v) k x.man) (squares v k) = stands_at (live k) (squares v k) on in
      subst (λ z. StandsOn m z) here (subst (λ a. StandsOn a (squares v k)) (sym x.is) stands)

  -- a position that fits, with the king on 0 0
  pub record IsPlace (q : Position) : Type 0 where
    pub fits : Fits p side q
    pub king : KingStandsOn loser origin q

  pub record HasPlace (v : Values) (q : Position) : Type 0 where
    pub place : IsPlace q
    pub mask_is : mask_of q ≡ mask
    pub tuple_is : tuple_of q ≡ values_at (mask_tracks p mask) v

  pub from_values : (v : Values) → IsPlaced v → HasPlace v (by_values v)
  from_values v h = record {
    place = record {
      fits = placed_fits p live side (squares v) (apart_by v h) stock.game.kings keeps_kings (λ k m is on. is_mask.live k m (sym (stock_man-men p k) ∙ is) on);
      king = king_by v h;
    };
    mask_is = sym (placed_mask p.men live side (squares v) mask is_mask.no_more (λ k low high. refl));
    tuple_is = sym (tuple_placed p.men live side v);
  }

  pub to_values : (q : Position) → IsPlace q → mask_of q ≡ mask
      → IsPlaced (values_of (squares_of q)) × (values_at (mask_tracks p mask) (values_of (squares_of q)) ≡ tuple_of q)
  to_values q place m =
      let f : ℕ → Square = squares_of q in
      let at : placed p.men live side f ≡ q = subst (λ k. placed p.men (is_live k) side f ≡ q) m (fits_placed place.fits) in
      let apart : IsApart (placed p.men live side f) = subst IsApart (sym at) place.fits.apart in
      let kings : KingStandsOn loser origin (placed p.men live side f) = subst (KingStandsOn loser origin) (sym at) place.king in (
        record {
          king_at =
              let there = kings king (man_placed live f king had.king) (placed_man p.men live side f king had.king king_man) had.is_king.0 had.is_king.1 in
              squares_values f king king_low ∙ (stands_placed (live king) (f king) origin there).1;
          apart = λ a b less low high on also same.
              let (x, is_x) = stock_has p.men a low (omega (arith, less, high)) in
              let (y, is_y) = stock_has p.men b (omega (arith, less)) high in
              let both : f a ≡ f b = sym (squares_values f a low) ∙ (same ∙ squares_values f b (omega (arith, less))) in
              let on_a : StandsOn (man_placed live f a x) (f a) = stands_at (live a) (f a) on in
              let on_b : StandsOn (man_placed live f b y) (f b) = stands_at (live b) (f b) also in
              let e : a ≡ b =
              apart a b (man_placed live f a x) (man_placed live f b y) (f b) (placed_man p.men live side f a x is_x) (placed_man p.men live side f b y is_y)
              (subst (λ z. StandsOn (man_placed live f a x) z) both on_a) on_b in
              omega (arith, less, e);
        },
        tuple_placed p.men live side (values_of f) ∙ ap tuple_of (placed_values p.men live side f ∙ at),
      )

  -- the formula has the tuples of such positions
  pub record IsPlaceTuple (tuple : List ℤ) : Type 0 where
    pub position : Position
    pub place : IsPlace position
    pub mask_is : mask_of position ≡ mask
    pub tuple_is : tuple_of position ≡ tuple

  pub place-tuples : (e : ℕ → SetOf) (tuple : List ℤ) → Member (Where (place_tree p king mask) e) tuple ↔ IsPlaceTuple tuple
  place-tuples e tuple =
      let Over : List Var → Type 0 = λ vars. HoldsAt vars (Holds (place_tree p king mask) (members e)) tuple in (
        λ h.
            let k : Over (mask_tracks p mask) = subst Over place_tracks h in
            let w = from_values k.values ((place_holds (members e) k.values).0 k.holds) in
            record { position = by_values k.values; place = w.place; mask_is = w.mask_is; tuple_is = w.tuple_is ∙ k.is_tuple },
        λ h.
            let (is, there) = to_values h.position h.place h.mask_is in
            let k : Over (mask_tracks p mask) = record { values = values_of (squares_of h.position); is_tuple = there ∙ h.tuple_is; holds = (place_holds (members e) (values_of (squares_of h.position))).1 is } in
            subst Over (sym place_tracks) k,
      )
