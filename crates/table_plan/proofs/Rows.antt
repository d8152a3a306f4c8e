-- The rows of a table, by induction, and the law of the table.
use Rattle.std.proofs.Common.{◌≡◌, ℕ, zero, suc, ◌-◌, ◌↔◌, List, [], ◌∷◌, length, Some, refl, sym, ap, subst, arith}
use Rattle.std.specs.Prelude.{slice_get}
use Rattle.std.proofs.lemmas.List.Elements.{All-head, All-tail}
use Rattle.game_rules.specs.Game.{Lost, Position, Win, other}
use Rattle.game_rules.specs.declared.men.Side.{Side}
use Rattle.game_rules.specs.declared.men.Square.{Square}
use Rattle.game_forever.specs.AtLast.{ForcesMate}
use Rattle.game_forever.specs.Sets.{IsOfStock as IsOfAnyTurn}
use Rattle.game_forever.proofs.GrowthLemmas.{stopped}
use Rattle.game_forever.proofs.SetLemmas.{stock_closed}
use Rattle.lin_formula.specs.SetOf.{Member}
use Rattle.mask_sets.specs.Stock.{mask_of}
use Rattle.mask_sets.specs.Tuple.{tuple_of}
use Rattle.rule_formula.specs.Mean.{RulesMean}
use Rattle.rule_formula.proofs.MeanTheorem.{rules_mean}
use Rattle.set_plan.specs.Program.{Takes}
use Rattle.set_plan.proofs.Composition.{Takes-split, none_some}
use Rattle.set_plan.proofs.Takings.{Takes-give, same_some}
use Rattle.mate_plan.specs.Plan.{Level, no_sets, win_level}
use Rattle.mate_plan.specs.PlanOf.{rules_of}
use Rattle.winning_sets.specs.PlanMeans.{IsDecided}
use Rattle.winning_sets.proofs.KeptSets.{Entries}
use Rattle.table_plan.specs.Table.{Row, Universe, all_level, lost_level, moved_levels, next_row, ray, row, rows_to, table, universe, with_next}
use Rattle.table_plan.specs.TableMeans.{AreKnown, IsInLevel, IsNoMore, IsOfStock, IsRowOf, IsStock, KingStandsOn, LostAt0, SoundStandsForStock, TableDecides, TableIsForEver, TableIsWon, TableWinsAll, WonAt0, moved_from}
use Rattle.table_plan.proofs.Levels.{IsLost, IsUniverse, IsWon, king_square, lost-next, of_movable, won-next, won-zero}
use Rattle.table_plan.proofs.MovedBack.{king_to_origin}
use Rattle.table_plan.proofs.MovedSets.{moved_mask}
use Rattle.game_laws.proofs.BoardMaps.{negated, shift_keeps}
use Rattle.winning_sets.proofs.KeptBounds.{level-of}
use Rattle.table_plan.proofs.Universes.{all-level, fits_of}

module _ (p : Position) (winner : Side) (stock : IsStock winner p) (mean : RulesMean p) where
  pub record IsRow (k : ℕ) (r : Row) : Type 0 where
    pub won : IsWon p winner stock mean k r.won
    pub lost : IsLost p winner stock mean k r.lost

  universe-is : (u : Universe) (xs : Entries) → Takes (universe winner p) xs (Some u) → IsUniverse p winner stock mean u
  universe-is u xs t =
      let (a1, b1, ours, order, t1, r1) = Takes-split (all_level winner p winner 0) _ xs u t in
      let (a2, b2, theirs, order, t2, r2) = Takes-split (all_level winner p (other winner) 1) _ b1 u r1 in
      let (a3, b3, moved, order, t3, r3) = Takes-split (moved_levels (rules_of p) 0 (ray winner p) ours) _ b2 u r2 in
      let there : Universe = record { winner = ours; loser = theirs; moved = moved } in
      let is : u ≡ there = Takes-give there u b3 r3 in
      subst (IsUniverse p winner stock mean) (sym is) (record {
        ours = all-level p winner stock mean winner 0 ours a1 t1;
        theirs = all-level p winner stock mean (other winner) 1 theirs a2 t2;
        entries = a3;
        moved = t3;
      })

  row-is : (k : ℕ) (u : Universe) (won : Level) (r : Row) (xs : Entries) → IsUniverse p winner stock mean u → IsWon p winner stock mean k won
      → ((m : ℕ) → IsDecided (r.won m)) → Takes (row winner p k u won) xs (Some r) → IsRow k r
  row-is k u won r xs is is_won known t =
      let (us, vs, lost, order, first, rest) = Takes-split (lost_level winner p k u won) _ xs r t in
      let there : Row = record { won = won; lost = lost } in
      let same : r ≡ there = Takes-give there r vs rest in
      let known_there : (m : ℕ) → IsDecided (won m) = subst (λ (x : Row). (m : ℕ) → IsDecided (x.won m)) same known in
      subst (IsRow k) (sym same) (record { won = is_won; lost = lost-next p winner stock mean k u won lost us is is_won known_there first })

  next-is : (k : ℕ) (u : Universe) (before r : Row) (xs : Entries) → IsUniverse p winner stock mean u → IsRow k before → ((m : ℕ) → IsDecided (r.won m))
      → Takes (next_row winner p (suc k) u before) xs (Some r) → IsRow (suc k) r
  next-is k u before r xs is row known t =
      let (us, vs, won, order, first, rest) = Takes-split (win_level (rules_of p) winner (suc k) u.winner before.lost) _ xs r t in
      row-is (suc k) u won r vs is (won-next p winner stock mean k (suc k) u before.lost won us is row.lost first) known rest

  -- the rows are those of so many moves, the last one first
  abbrev AreRows : List Row → Type 0
  AreRows [] = Unit {0}
  AreRows (r ∷ rows) = IsRow (length rows) r × AreRows rows

  record AllRows (k : ℕ) (rows : List Row) : Type 0 where
    are : AreRows rows
    count : length rows ≡ suc k

  more-rows : (k : ℕ) (u : Universe) (before rows : List Row) (xs : Entries) → IsUniverse p winner stock mean u → (AreKnown before → AllRows k before)
      → AreKnown rows → Takes (with_next winner p (suc k) u before) xs (Some rows) → AllRows (suc k) rows
  more-rows k u [] rows xs is had known t =
      let none = (had (λ i d within. absurd (omega (arith, within)))).count in absurd (omega (arith, none))
  more-rows k u (b ∷ before) rows xs is had known t =
      let (us, vs, next, order, first, rest) = Takes-split (next_row winner p (suc k) u b) _ xs rows t in
      let there : rows ≡ next ∷ b ∷ before = Takes-give (next ∷ b ∷ before) rows vs rest in
      let known_all : AreKnown (next ∷ b ∷ before) = subst AreKnown there known in
      let Known : Row → Type 0 = λ r. (m : ℕ) → IsDecided (r.won m) in
      let all = had (All-tail Known next (b ∷ before) known_all) in
      let number : length before ≡ k = let c = all.count in omega (arith, c) in
      let was : IsRow k b = subst (λ n. IsRow n b) number all.are.0 in
      let now : IsRow (suc k) next = next-is k u b next us is was (All-head Known next (b ∷ before) known_all) first in
      let here : IsRow (suc (length before)) next = subst (λ n. IsRow (suc n) next) (sym number) now in
      subst (AllRows (suc k)) (sym there) (record { are = (here, all.are); count = ap suc all.count })

  rows-are : (k : ℕ) (u : Universe) (rows : List Row) (xs : Entries) → IsUniverse p winner stock mean u → AreKnown rows
      → Takes (rows_to winner p u k) xs (Some rows) → AllRows k rows
  rows-are zero u rows xs is known t =
      let (us, vs, first, order, one, rest) = Takes-split (row winner p 0 u no_sets) _ xs rows t in
      let there : rows ≡ first ∷ [] = Takes-give (first ∷ []) rows vs rest in
      let known_all : AreKnown (first ∷ []) = subst AreKnown there known in
      let Known : Row → Type 0 = λ r. (m : ℕ) → IsDecided (r.won m) in
      let here = row-is 0 u no_sets first us is (won-zero p winner stock mean) (All-head Known first [] known_all) one in
      subst (AllRows 0) (sym there) (record { are = (here, tt); count = refl })
  rows-are (suc k) u rows xs is known t =
      let (us, vs, before, order, first, rest) = Takes-split (rows_to winner p u k) _ xs rows t in
      more-rows k u before rows vs is (λ known_before. rows-are k u before us is known_before first) known rest

  row-at : (j : ℕ) (rows : List Row) (r : Row) → AreRows rows → slice_get rows j ≡ Some r → IsRow (length rows - suc j) r
  row-at j [] r are is = none_some (sym is)
  row-at zero (first ∷ rows) r are is =
      let n : length rows ≡ length (first ∷ rows) - 1 = omega arith in
      subst (λ k. IsRow k r) n (subst (IsRow (length rows)) (same_some is) are.0)
  row-at (suc j) (first ∷ rows) r are is =
      let n : length rows - suc j ≡ length (first ∷ rows) - suc (suc j) = omega arith in
      subst (λ k. IsRow k r) n (row-at j rows r are.1 is)

  row-means : (k : ℕ) (r : Row) → IsRow k r → IsRowOf winner p k r
  row-means k r is = record {
    won = level-of p winner (WonAt0 winner p k) r.won (λ q h. fits_of p winner stock mean winner q h.all.of) is.won.stands is.won.fitting;
    lost = level-of p (other winner) (LostAt0 winner p k) r.lost (λ q h. fits_of p winner stock mean (other winner) q h.all.of) is.lost.stands is.lost.fitting;
  }

  all-rows : (last : ℕ) (rows : List Row) (xs : Entries) → AreKnown rows → Takes (table winner p last) xs (Some rows) → AllRows last rows
  all-rows last rows xs known t =
      let (us, vs, u, order, first, rest) = Takes-split (universe winner p) _ xs rows t in
      rows-are last u rows vs (universe-is u us first) known rest

  row-of : (last : ℕ) (rows : List Row) (xs : Entries) → AreKnown rows → Takes (table winner p last) xs (Some rows) → (j : ℕ) (r : Row)
      → slice_get rows j ≡ Some r → IsRow (last - j) r
  row-of last rows xs known t j r is =
      let all = all-rows last rows xs known t in
      let n : length rows - suc j ≡ last - j = let c = all.count in omega (arith, c) in
      subst (λ k. IsRow k r) n (row-at j rows r all.are is)

  -- a row tells of a position that is moved
  tells : (k : ℕ) (r : Row) → IsRow k r → (q : Position) (z : Square) → IsOfStock p winner q → KingStandsOn (other winner) z q
      → Win winner k q ↔ IsInLevel r.won z q
  tells k r is q z of on =
      let from : Position = moved_from z q in
      let of_from = of_movable p winner stock mean k winner (negated z.x) (negated z.y) q of in
      let stands = is.won.stands from (fits_of p winner stock mean winner from of_from) in
      let mask : mask_of from ≡ mask_of q = moved_mask (negated z.x) (negated z.y) q in
      let At : ℕ → Type 0 = λ m. Member (r.won m) (tuple_of from) in
      let wins = (shift_keeps (negated z.x) (negated z.y)).win winner k q in (
        λ h. subst At mask (stands.1 (record { all = record { of = of_from; king = king_to_origin (other winner) z q on }; win = wins.0 h })),
        λ h. wins.1 (stands.0 (subst At (sym mask) h)).win,
      )

  tells_lost : (k : ℕ) (r : Row) → IsRow k r → (q : Position) (z : Square) → IsOfStock p (other winner) q → KingStandsOn (other winner) z q
      → Lost winner k q ↔ IsInLevel r.lost z q
  tells_lost k r is q z of on =
      let from : Position = moved_from z q in
      let of_from = of_movable p winner stock mean k (other winner) (negated z.x) (negated z.y) q of in
      let stands = is.lost.stands from (fits_of p winner stock mean (other winner) from of_from) in
      let mask : mask_of from ≡ mask_of q = moved_mask (negated z.x) (negated z.y) q in
      let At : ℕ → Type 0 = λ m. Member (r.lost m) (tuple_of from) in
      let loses = (shift_keeps (negated z.x) (negated z.y)).lost winner k q in (
        λ h. subst At mask (stands.1 (record { all = record { of = of_from; king = king_to_origin (other winner) z q on }; lost = loses.0 h })),
        λ h. loses.1 (stands.0 (subst At (sym mask) h)).lost,
      )

  -- where a row has all positions
  pub wins_all : (ply last : ℕ) (others xs : Entries) (all : Level) (rows : List Row) → Takes (all_level winner p winner ply) others (Some all) → AreKnown rows
      → Takes (table winner p last) xs (Some rows) → (j : ℕ) (r : Row) → slice_get rows j ≡ Some r → IsNoMore all r.won
      → (q : Position) → IsOfStock p winner q → Win winner (last - j) q
  wins_all ply last others xs all rows whole known t j r is more q of =
      let k : ℕ = last - j in
      let (z, on) = king_square p winner stock mean k q of in
      let from : Position = moved_from z q in
      let of_from = of_movable p winner stock mean k winner (negated z.x) (negated z.y) q of in
      let fits = fits_of p winner stock mean winner from of_from in
      let there = ((all-level p winner stock mean winner ply all others whole).stands from fits).1 (record { of = of_from; king = king_to_origin (other winner) z q on }) in
      let row = row-of last rows xs known t j r is in
      ((shift_keeps (negated z.x) (negated z.y)).win winner k q).1 ((row.won.stands from fits).0 (more (mask_of from) (tuple_of from) there)).win

  -- what no move more wins is won by none
  module _ (last : ℕ) (next before : Row) (rows : List Row) (xs : Entries) (known : AreKnown (next ∷ before ∷ rows))
      (t : Takes (table winner p (suc last)) xs (Some (next ∷ before ∷ rows))) (no_more : IsNoMore next.won before.won) where
    step_back : (q : Position) → IsOfStock p winner q → Win winner (suc last) q → Win winner last q
    step_back q of win =
        let (z, on) = king_square p winner stock mean last q of in
        let one : suc last - 0 ≡ suc last = omega arith in
        let two : suc last - 1 ≡ last = omega arith in
        let first : IsRow (suc last) next = subst (λ k. IsRow k next) one (row-of (suc last) (next ∷ before ∷ rows) xs known t 0 next refl) in
        let second : IsRow last before = subst (λ k. IsRow k before) two (row-of (suc last) (next ∷ before ∷ rows) xs known t 1 before refl) in
        (tells last before second q z of on).1 (no_more (mask_of q) (tuple_of (moved_from z q)) ((tells (suc last) next first q z of on).0 win))

    -- so to force mate is to win within the moves of the row before
    pub for_ever : (q : Position) → IsOfStock p winner q → ForcesMate winner q ↔ Win winner last q
    for_ever q of =
        stopped (IsOfAnyTurn p.men) (stock_closed p.men) winner last
        (λ r is win. step_back r (record { stock = is.1; turn = win.0; sound = is.0 }) win)
        q (of.sound, of.stock)

  pub table-rows : (last : ℕ) (rows : List Row) (xs : Entries) → AreKnown rows → Takes (table winner p last) xs (Some rows)
      → (length rows ≡ suc last) × ((j : ℕ) (r : Row) → slice_get rows j ≡ Some r → IsRowOf winner p (last - j) r)
  table-rows last rows xs known t =
      let all = all-rows last rows xs known t in
      (all.count, λ j r is. row-means (last - j) r (row-of last rows xs known t j r is))

  pub table-tells : (last : ℕ) (rows : List Row) (xs : Entries) → AreKnown rows → Takes (table winner p last) xs (Some rows) → (j : ℕ) (r : Row)
      → slice_get rows j ≡ Some r → (q : Position) (z : Square) → KingStandsOn (other winner) z q
      → (IsOfStock p winner q → Win winner (last - j) q ↔ IsInLevel r.won z q)
      × (IsOfStock p (other winner) q → Lost winner (last - j) q ↔ IsInLevel r.lost z q)
  table-tells last rows xs known t j r is q z on =
      let row = row-of last rows xs known t j r is in
      (λ of. tells (last - j) r row q z of on, λ of. tells_lost (last - j) r row q z of on)

pub table_means : TableIsWon
table_means = λ winner p last entries rows stock known t.
    table-rows p winner stock (rules_mean p stock.game) last rows entries known t

pub table_decides : TableDecides
table_decides = λ winner p last entries rows stock known t.
    table-tells p winner stock (rules_mean p stock.game) last rows entries known t

pub table_for_ever : TableIsForEver
table_for_ever = λ winner p last entries next before rows stock known t no_more.
    for_ever p winner stock (rules_mean p stock.game) last next before rows entries known t no_more

pub table_wins_all : TableWinsAll
table_wins_all = λ winner p ply last others entries all rows stock whole known t.
    wins_all p winner stock (rules_mean p stock.game) ply last others entries all rows whole known t

pub sound_stands : SoundStandsForStock
sound_stands = λ winner p sound king few live. record { game = record { few = few; kings = sound.kings }; king = king; live = live }
