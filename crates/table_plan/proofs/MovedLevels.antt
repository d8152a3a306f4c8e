-- The targets of the options lead into sets of positions that translations keep: a step of the king into the moved level.
use Rattle.std.proofs.Common.{◌≡◌, ◌≢◌, ◌↔◌, ◌⊎◌, ℕ, ◌==◌, if◌then◌else◌, Bool, true, false, List, [], ◌∷◌, Some, inl, inr, ℤ, refl, sym, ap, ◌∙◌, subst}
use Rattle.std.specs.Prelude.{Contains}
use Rattle.std.proofs.lemmas.Bool.{eqb-true, eq-eqb}
use Rattle.game_rules.specs.Game.{Position, other}
use Rattle.game_rules.specs.declared.men.Ray.{Ray}
use Rattle.game_rules.specs.declared.men.Side.{Side}
use Rattle.lin_formula.specs.SetOf.{Member, Nothing, SetOf}
use Rattle.mask_sets.specs.Stock.{mask_of}
use Rattle.game_laws.specs.Stock.{HasStock}
use Rattle.mask_sets.specs.Tuple.{tuple_of}
use Rattle.rule_formula.specs.declared.opt.Opt.{Opt}
use Rattle.rule_formula.specs.Bearings.{king_number}
use Rattle.rule_formula.specs.Fits.{Fits, masks_of}
use Rattle.rule_formula.specs.Mean.{RulesMean}
use Rattle.rule_formula.specs.Meaning.{TakesOption}
use Rattle.rule_formula.specs.Trees.{ray_at}
use Rattle.rule_formula.proofs.StockLemmas.{stock_unique}
use Rattle.set_plan.specs.Program.{Give, Takes, each}
use Rattle.set_plan.specs.Unite.{Made}
use Rattle.set_plan.proofs.Composition.{Takes-split}
use Rattle.set_plan.proofs.Takings.{Takes-give, contains_cases, contains_head, contains_none, contains_rest}
use Rattle.mate_plan.specs.Plan.{Level, Program}
use Rattle.mate_plan.specs.PlanOf.{rules_of}
use Rattle.winning_sets.specs.PlanMeans.{IsLevelOf}
use Rattle.winning_sets.specs.Solve.{IsTupleOf}
use Rattle.winning_sets.proofs.KeptParts.{Positions}
use Rattle.winning_sets.proofs.KeptSets.{Entries, Stands, in_masks}
use Rattle.table_plan.specs.Table.{MovedLevel, MovedSets, for_numbers, into_by, king_rays, moved_levels, moved_set, moved_sets, with_number, with_ray}
use Rattle.game_laws.proofs.BoardMaps.{negated}
use Rattle.game_forever.specs.Centre.{IsMovable}
use Rattle.table_plan.specs.TableMeans.{IsOfStock, IsStock, KingStandsOn, MovedFrom, moved_by, moved_from, origin}
use Rattle.table_plan.proofs.KingSteps.{end_of, king_goes, king_in, king_numbered, king_stays}
use Rattle.table_plan.proofs.MovedBack.{king_to_origin, to_and_fro}
use Rattle.table_plan.proofs.MovedSets.{moved-set, moved_stock}

-- what is made number by number is at each number what was made for it
pub for_numbers-each : {A : Type 0} (f : ℕ → Program A) (P : ℕ → A → Type 0) (numbers : List ℕ)
    → ((n : ℕ) → Contains numbers n → (a : A) (xs : Entries) → Takes (f n) xs (Some a) → P n a) → (so_far all : ℕ → A) (xs : Entries)
    → Takes (for_numbers numbers f so_far) xs (Some all) → (n : ℕ) → P n (so_far n) ⊎ Contains numbers n → P n (all n)
for_numbers-each {A} f P [] each so_far all xs t n h =
    let is : all ≡ so_far = Takes-give so_far all xs t in
    let At : (ℕ → A) → Type 0 = λ l. P n (l n) in
    elim h [ inl before ↦ subst At (sym is) before | inr none ↦ absurd (contains_none n none) ]
for_numbers-each {A} f P (k ∷ numbers) each so_far all xs t n h =
    let (us, vs, next, order, one, rest) = Takes-split (with_number f k so_far) (for_numbers numbers f) xs all t in
    let (ws, zs, a, order, first, given) = Takes-split (f k) (λ a. Give (λ j. if j == k then a else so_far j)) us next one in
    let is : next ≡ (λ j. if j == k then a else so_far j) = Takes-give (λ j. if j == k then a else so_far j) next zs given in
    let At : (ℕ → A) → Type 0 = λ l. P n (l n) ⊎ Contains numbers n in
    for_numbers-each f P numbers (λ j i. each j (contains_rest k numbers j i)) next all vs rest n
    (subst At (sym is) (at (n == k) refl a (each k (contains_head k numbers) a ws first) h))
  where
    at : (b : Bool) → n == k ≡ b → (a : A) → P k a → P n (so_far n) ⊎ Contains (k ∷ numbers) n → P n (if b then a else so_far n) ⊎ Contains numbers n
    at true e a here h =
        let same : n ≡ k = eqb-true n k e in
        inl (subst (λ (j : ℕ). P j a) (sym same) here)
    at false e a here (inl before) = inl before
    at false e a here (inr i) =
        elim (contains_cases k numbers n i) [
          | inl same ↦ let t : n == k ≡ true = eq-eqb n k (sym same) in cc
          | inr rest ↦ inr rest
        ]

module _ (p : Position) (winner : Side) (stock : IsStock winner p) (mean : RulesMean p) where
  abbrev loser : Side
  loser = other winner

  abbrev king : ℕ
  king = king_number p.men loser

  abbrev ray : ℕ → Ray
  ray n = ray_at p.men king n

  -- what is made ray by ray is at each ray what was made for it
  rays-each : (ply mask : ℕ) (s : SetOf) (P : ℕ → SetOf → Type 0)
      → ((n at : ℕ) (made : Made) (xs : Entries) → Takes (moved_set (rules_of p) ply mask (ray n) at s) xs (Some made) → P n made.0)
      → (numbers : List ℕ) (so_far all : MovedSets) (xs : Entries) → Takes (each numbers (with_ray (rules_of p) ply mask ray s) so_far) xs (Some all)
      → (n : ℕ) → P n (so_far.0 n) ⊎ Contains numbers n → P n (all.0 n)
  rays-each ply mask s P one [] so_far all xs t n h =
      let is : all ≡ so_far = Takes-give so_far all xs t in
      let At : MovedSets → Type 0 = λ l. P n (l.0 n) in
      elim h [ inl before ↦ subst At (sym is) before | inr none ↦ absurd (contains_none n none) ]
  rays-each ply mask s P one (k ∷ numbers) so_far all xs t n h =
      let (us, vs, next, order, first, rest) = Takes-split (with_ray (rules_of p) ply mask ray s k so_far) (each numbers (with_ray (rules_of p) ply mask ray s)) xs all t in
      let (ws, zs, made, order, moves, given) = Takes-split (moved_set (rules_of p) ply mask (ray k) so_far.1 s) (λ made. Give (λ j. if j == k then made.0 else so_far.0 j, made.1)) us next first in
      let there : MovedSets = (λ j. if j == k then made.0 else so_far.0 j, made.1) in
      let is : next ≡ there = Takes-give there next zs given in
      let At : MovedSets → Type 0 = λ l. P n (l.0 n) ⊎ Contains numbers n in
      rays-each ply mask s P one numbers next all vs rest n
      (subst At (sym is) (at (n == k) refl made.0 (one k so_far.1 made ws moves) h))
    where
      at : (b : Bool) → n == k ≡ b → (a : SetOf) → P k a → P n (so_far.0 n) ⊎ Contains (k ∷ numbers) n → P n (if b then a else so_far.0 n) ⊎ Contains numbers n
      at true e a here h =
          let same : n ≡ k = eqb-true n k e in
          inl (subst (λ (j : ℕ). P j a) (sym same) here)
      at false e a here (inl before) = inl before
      at false e a here (inr i) =
          elim (contains_cases k numbers n i) [
            | inl same ↦ let t : n == k ≡ true = eq-eqb n k (sym same) in cc
            | inr rest ↦ inr rest
          ]

  -- the level that has gone with the king has the positions of the level, moved
  pub moved-tuples : (Set : Position → Type 0) (level : Level) (ply : ℕ) (moved : MovedLevel) (xs : Entries) → ((q : Position) → Set q → HasStock p.men q)
      → IsLevelOf Set level → Takes (moved_levels (rules_of p) ply ray level) xs (Some moved) → (n m : ℕ) → Contains king_rays n → Contains (masks_of p) m
      → (tuple : List ℤ) → Member (moved m n) tuple ↔ IsTupleOf (MovedFrom Set (ray n)) m tuple
  moved-tuples Set level ply moved xs has is t n m in_rays in_m =
      let f = moved_sets (rules_of p) ply ray level in
      let Is : ℕ → (ℕ → SetOf) → Type 0 = λ k l. (ys : Entries) × Takes (f k) ys (Some l) in
      let (ys, made) = for_numbers-each f Is (masks_of p) (λ k i l zs h. (zs, h)) (λ k j. Nothing) moved xs t m (inr in_m) in
      let none : MovedSets = (λ j. Nothing, 1) in
      let (us, vs, all, order, first, rest) = Takes-split (each king_rays (with_ray (rules_of p) ply m ray (level m)) none) (λ all. Give all.0) ys (moved m) made in
      let same : moved m ≡ all.0 = Takes-give all.0 (moved m) vs rest in
      let HasAll : ℕ → SetOf → Type 0 = λ j u. (tuple : List ℤ) → Member u tuple ↔ IsTupleOf (MovedFrom Set (ray j)) m tuple in
      let there = rays-each ply m (level m) HasAll (λ j at made zs h. moved-set p Set (ray j) ply m at (level m) made zs stock.game.few has (is.same m) h) king_rays none all us first n (inr in_rays) in
      subst (λ (l : ℕ → SetOf). HasAll n (l n)) (sym same) there

  -- the positions of a set with the king on 0 0
  pub record At0 (G : Positions) (q : Position) : Type 0 where
    pub is_in : G q
    pub king : KingStandsOn (other winner) origin q

  module _ (G : Positions) (of : (q : Position) → G q → IsOfStock p winner q) (all : IsMovable G) (level : Level) (ply : ℕ) (moved : MovedLevel) (xs : Entries)
      (stands : Stands p winner level (At0 G)) (is : IsLevelOf (At0 G) level) (t : Takes (moved_levels (rules_of p) ply ray level) xs (Some moved)) where
    -- where the king goes by the option
    into_moved : (o : Opt) (q r : Position) → o.man ≡ king → Fits p loser q → KingStandsOn loser origin q → TakesOption o q r → Fits p winner r
        → Member (moved (mask_of r) o.ray) (tuple_of r) ↔ G r
    into_moved o q r is_king fits king_q takes fits_r =
        let goes = king_goes p loser stock.king o q r fits.stock fits_r.stock is_king takes king_q in
        let d : Ray = ray o.ray in
        let has = λ (x : Position) (h : At0 G x). (of x h.is_in).stock in
        let tuples = moved-tuples (At0 G) level ply moved xs has is t o.ray (mask_of r) goes.listed (in_masks p mean winner r fits_r) (tuple_of r) in (
          λ h.
              let w = tuples.0 h in
              let from : Position = w.is_in.from in
              let from_of = of from w.is_in.is_in.is_in in
              let there : Position = moved_by d.dx d.dy from in
              let mask : mask_of there ≡ mask_of r = ap mask_of (sym w.is_in.is) ∙ w.mask_is in
              let tuple : tuple_of there ≡ tuple_of r = ap tuple_of (sym w.is_in.is) ∙ w.tuple_is in
              let same : there ≡ r = stock_unique (moved_stock d.dx d.dy p.men from from_of.stock) fits_r.stock (from_of.turn ∙ sym fits_r.turn) mask tuple in
              subst G same (all d.dx d.dy from w.is_in.is_in.is_in),
          λ g.
              let from : Position = moved_from (end_of d) r in
              tuples.1 (record {
                position = r;
                is_in = record {
                  from = from;
                  is_in = record { is_in = all (negated d.dx) (negated d.dy) r g; king = king_to_origin loser (end_of d) r goes.stands };
                  is = sym (to_and_fro d.dx d.dy r);
                };
                mask_is = refl;
                tuple_is = refl;
              }),
        )

    -- where another man goes by it
    into_level : (o : Opt) (q r : Position) → o.man ≢ king → Fits p loser q → KingStandsOn loser origin q → TakesOption o q r → Fits p winner r
        → Member (level (mask_of r)) (tuple_of r) ↔ G r
    into_level o q r no_king fits king_q takes fits_r =
        let here = stands r fits_r in
        let stays : KingStandsOn loser origin r =
        king_stays origin takes.steps.step.after (king_in stock.king fits_r.stock fits_r.kings)
        (λ k m is his sort same. no_king (sym same ∙ king_numbered p loser stock.king q fits.stock k m is his sort)) king_q in
        (λ h. (here.0 h).is_in, λ g. here.1 (record { is_in = g; king = stays }))

    -- the level of an option leads into the set
    pub leads_into : (o : Opt) (q r : Position) → Fits p loser q → KingStandsOn loser origin q → TakesOption o q r → Fits p winner r
        → Member (into_by (rules_of p) king level moved o (mask_of r)) (tuple_of r) ↔ G r
    leads_into o q r fits king_q takes fits_r = by (o.man == king) refl
      where
        by : (b : Bool) → o.man == king ≡ b → Member ((if b then (λ mask. moved mask o.ray) else level) (mask_of r)) (tuple_of r) ↔ G r
        by true e = into_moved o q r (eqb-true o.man king e) fits king_q takes fits_r
        by false e = into_level o q r (λ same. let t : o.man == king ≡ true = eq-eqb o.man king same in cc) fits king_q takes fits_r
