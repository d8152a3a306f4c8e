-- The level of all positions stands for all positions.
use Rattle.std.proofs.Common.{◌≡◌, ◌↔◌, ℕ, List, Some, ℤ, inl, inr, refl, sym, ap, ◌∙◌, subst}
use Rattle.track_word.specs.Tracks.{values_at}
use Rattle.game_rules.specs.Game.{InCheck, Position, other}
use Rattle.game_rules.specs.declared.men.Side.{Side}
use Rattle.lin_formula.specs.SetOf.{Member, Nothing, SetOf}
use Rattle.mask_sets.specs.Stock.{mask_of}
use Rattle.mask_sets.specs.Tuple.{tuple_of}
use Rattle.rule_formula.specs.Bearings.{bearings_of, king_number}
use Rattle.rule_formula.specs.Fits.{Fits, IsGameMask, masks_of}
use Rattle.rule_formula.specs.Mean.{HoldsFitting, RulesMean, mask_tracks}
use Rattle.set_plan.specs.Program.{Takes}
use Rattle.set_plan.specs.Unite.{Made, make}
use Rattle.set_plan.proofs.Composition.{Takes-split}
use Rattle.set_plan.proofs.Takings.{IsOver, make-members}
use Rattle.mate_plan.specs.Plan.{Level, name, narrow, no_sets}
use Rattle.mate_plan.specs.PlanOf.{rules_of}
use Rattle.mate_plan.specs.declared.names.Part.TheVariants as kind
use Rattle.rule_formula.proofs.MeanTheorem.{rules_mean}
use Rattle.winning_sets.proofs.KeptBounds.{level-of}
use Rattle.winning_sets.proofs.KeptSets.{Entries, Stands, for_masks-level, game_mask, in_masks, narrow-stands, narrow_within}
use Rattle.table_plan.specs.Table.{all_level, all_set, place_item}
use Rattle.table_plan.specs.TableMeans.{AllAt0, IsOfStock, IsStock, KingStandsOn, UniverseIsAll, origin}
use Rattle.table_plan.proofs.Places.{IsPlaceTuple, place-tuples, place_tracks}

module _ (p : Position) (winner : Side) (stock : IsStock winner p) (mean : RulesMean p) where
  -- a sound position of the stock fits
  pub fits_of : (side : Side) (q : Position) → IsOfStock p side q → Fits p side q
  fits_of side q h = record {
    stock = h.stock;
    none_back = λ k m n was is gone. absurd (stock.live k m was gone);
    turn = h.turn;
    apart = h.sound.apart;
    kings = h.sound.kings;
  }

  pub of_fits : (side : Side) (q : Position) → Fits p side q → (InCheck q (other side) → ⊥) → IsOfStock p side q
  of_fits side q fits none = record {
    stock = fits.stock;
    turn = fits.turn;
    sound = record {
      kings = fits.kings;
      apart = fits.apart;
      other_safe = let P : Side → Type 0 = λ s. InCheck q (other s) in λ check. none (subst P fits.turn check);
    };
  }

  safe_of_stock : (side : Side) (q : Position) → IsOfStock p side q → InCheck q (other side) → ⊥
  safe_of_stock side q h check = let P : Side → Type 0 = λ s. InCheck q (other s) in h.sound.other_safe (subst P (sym h.turn) check)

  -- what is made of the formula of the place
  place_set : (side : Side) (ply m : ℕ) (is_mask : IsGameMask p m) (made : Made) (xs : Entries)
      → Takes (make (name ply m kind.Place) 1 (place_item p (king_number p.men (other winner)) m)) xs (Some made) → (tuple : List ℤ)
      → Member made.0 tuple ↔ IsPlaceTuple p winner stock mean side m is_mask tuple
  place_set side ply m is_mask made xs t tuple =
      let is = make-members (name ply m kind.Place) 1 (place_item p (king_number p.men (other winner)) m) xs made t in
      let place = place-tuples p winner stock mean side m is_mask (λ _. Nothing) tuple in
      (λ h. place.0 ((is.same tuple).0 h), λ h. (is.same tuple).1 (place.1 h))

  -- the level has exactly all positions
  pub record IsAll (side : Side) (level : Level) : Type 0 where
    pub stands : Stands p side level (AllAt0 winner p side)
    pub fitting : (m : ℕ) → HoldsFitting p side m (level m)
    pub over : (m : ℕ) → IsOver (mask_tracks p m) (level m)

  all_set-stands : (side : Side) (ply : ℕ) (s : SetOf) (xs : Entries) (q : Position) → Fits p side q
      → Takes (all_set winner p side ply (mask_of q)) xs (Some s) → Member s (tuple_of q) ↔ AllAt0 winner p side q
  all_set-stands side ply s xs q fits t =
      let m = mask_of q in
      let game = mean.game.mask_is side q fits in
      let bearings = bearings_of p.men m side in
      let (us, vs, made, order, first, rest) = Takes-split (make (name ply m kind.Place) 1 (place_item p (king_number p.men (other winner)) m)) (λ made. narrow (rules_of p) ply m bearings made.0) xs s t in
      let place = place_set side ply m game made us first (tuple_of q) in
      let narrows = narrow-stands p mean ply made.0 s fits bearings (λ b i. mean.bearings m side b game i) vs rest in
      let checks = mean.game.checks side side q fits in (
        λ h.
            let (a, none) = narrows.0 h in
            let w = place.0 a in
            let same : w.position ≡ q = mean.game.unique side w.position q w.place.fits fits w.mask_is w.tuple_is in
            record {
              of = of_fits side q fits (λ check. let (b, i, bears) = checks.0 check in none b i bears);
              king = subst (KingStandsOn (other winner) origin) same w.place.king;
            },
        λ h. narrows.1 (
          place.1 (record { position = q; place = record { fits = fits; king = h.king }; mask_is = refl; tuple_is = refl }),
          λ b i bears. safe_of_stock side q h.of (checks.1 (b, i, bears)),
        ),
      )

  all_set_fitting : (side : Side) (ply m : ℕ) (s : SetOf) (xs : Entries) → IsGameMask p m → Takes (all_set winner p side ply m) xs (Some s) → HoldsFitting p side m s
  all_set_fitting side ply m s xs game t tuple h =
      let bearings = bearings_of p.men m side in
      let (us, vs, made, order, first, rest) = Takes-split (make (name ply m kind.Place) 1 (place_item p (king_number p.men (other winner)) m)) (λ made. narrow (rules_of p) ply m bearings made.0) xs s t in
      let before = narrow_within p mean ply m made.0 s tuple bearings (λ b i. mean.bearings m side b game i) vs rest h in
      let w = (place_set side ply m game made us first tuple).0 before in
      (w.position, w.place.fits, w.mask_is, w.tuple_is)

  all_set_over : (side : Side) (ply m : ℕ) (s : SetOf) (xs : Entries) → IsGameMask p m → Takes (all_set winner p side ply m) xs (Some s) → IsOver (mask_tracks p m) s
  all_set_over side ply m s xs game t tuple h =
      let bearings = bearings_of p.men m side in
      let (us, vs, made, order, first, rest) = Takes-split (make (name ply m kind.Place) 1 (place_item p (king_number p.men (other winner)) m)) (λ made. narrow (rules_of p) ply m bearings made.0) xs s t in
      let before = narrow_within p mean ply m made.0 s tuple bearings (λ b i. mean.bearings m side b game i) vs rest h in
      let is = make-members (name ply m kind.Place) 1 (place_item p (king_number p.men (other winner)) m) us made first in
      let k = (is.same tuple).0 before in
      (k.values, ap (λ vars. values_at vars k.values) (sym (place_tracks p winner stock mean side m game)) ∙ k.is_tuple)

  pub all-level : (side : Side) (ply : ℕ) (level : Level) (xs : Entries) → Takes (all_level winner p side ply) xs (Some level) → IsAll side level
  all-level side ply level xs t =
      let f = all_set winner p side ply in
      record {
        stands = λ q fits.
            let Is : ℕ → SetOf → Type 0 = λ m s. (ys : Entries) × Takes (f m) ys (Some s) in
            let (ys, made) = for_masks-level f Is (masks_of p) (λ m i s zs h. (zs, h)) no_sets level xs t (mask_of q) (inr (in_masks p mean side q fits)) in
            all_set-stands side ply (level (mask_of q)) ys q fits made;
        fitting = λ m. for_masks-level f (HoldsFitting p side) (masks_of p) (λ m i s ys made. all_set_fitting side ply m s ys (game_mask p mean m i) made) no_sets level xs t m (inl (λ tuple h. absurd h));
        over = λ m. for_masks-level f (λ m s. IsOver (mask_tracks p m) s) (masks_of p) (λ m i s ys made. all_set_over side ply m s ys (game_mask p mean m i) made) no_sets level xs t m (inl (λ tuple h. absurd h));
      }

pub universe_means : UniverseIsAll
universe_means = λ winner p side ply entries level stock t.
    let mean = rules_mean p stock.game in
    let all = all-level p winner stock mean side ply level entries t in
    level-of p side (AllAt0 winner p side) level (λ q h. fits_of p winner stock mean side q h.of) all.stands all.fitting
