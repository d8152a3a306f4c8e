-- What the formulas mean at the positions of one game.
use Rattle.std.proofs.Common.{◌≡◌, ◌↔◌, ℕ, zero, suc, ◌<◌, ◌≤◌, ℤ, Bool, List, length, Some, refl, subst, sym, ap, ◌∙◌, arith}
use Rattle.std.specs.Prelude.{Contains}
use Rattle.game_rules.specs.declared.men.Side.{Side}
use Rattle.game_rules.specs.declared.men.Man.{Man}
use Rattle.game_rules.specs.declared.men.Square.{Square}
use Rattle.game_rules.specs.Game.{HasKings, IsApart, Position, Sound, StandsOn, other}
use Rattle.rule_formula.proofs.StockLemmas.{fits_placed, fits_unique, fits_values}
use Rattle.track_word.specs.Tracks.{Values, values_at}
use Rattle.lin_formula.specs.Tree.{Tree, free_vars}
use Rattle.lin_formula.specs.Holds.{Holds}
use Rattle.lin_formula.specs.SetOf.{Member, SetOf, Where, members}
use Rattle.rule_formula.specs.declared.opt.Bearing.{Bearing}
use Rattle.rule_formula.specs.declared.opt.Opt.{Opt}
use Rattle.rule_formula.specs.Fits.{Fits, target_of}
use Rattle.mask_sets.specs.Stock.{mask_of}
use Rattle.game_laws.specs.Stock.{stock_man}
use Rattle.rule_formula.specs.Laws.{StepsTo}
use Rattle.rule_formula.specs.Mean.{BearingsMean, BearsOnKing, GameMeans, HoldsFitting, IsBefore, IsGame, IsImageOf, OptionsMean, PointMeans, RulesMean, mask_tracks}
use Rattle.rule_formula.specs.Meaning.{IsBearer, IsOptionOf, IsOptionOfSide, IsPrey, IsReached, TakesOption, Serves}
use Rattle.rule_formula.specs.Options.{options_of}
use Rattle.rule_formula.specs.Placed.{HoldsApart, IsLiveIn, is_live, placed, without}
use Rattle.mask_sets.specs.Tuple.{tuple_of}
use Rattle.rule_formula.specs.Seats.{squares}
use Rattle.rule_formula.specs.Trees.{bear_of, image_of, point_of, pre_of, safe_of, tracks_of}
use Rattle.rule_formula.proofs.BearLemmas.{stock_number}
use Rattle.game_laws.proofs.StockLemmas.{stock_has, stock_man-men}
use Rattle.rule_formula.proofs.BearingTheorem.{alike_man, alike_ray, bearings_are, checks_are}
use Rattle.rule_formula.proofs.FitLemmas.{AreAlike, alike_back, alike_of, placed_values, tuple_placed, values_of, squares_values}
use Rattle.mask_sets.proofs.Masks.{mask_tells}
use Rattle.rule_formula.proofs.GameTheorem.{Arrives, arrives, fits_mask, live_by_mask, prey_live, sound_fits, target_mask}
use Rattle.rule_formula.proofs.LawTheorem.{self_placed, square_stands, squares_of, steps_by_options}
use Rattle.rule_formula.proofs.ListTheorem.{options_are}
use Rattle.rule_formula.proofs.MasksTheorem.{masks_are}
use Rattle.rule_formula.proofs.MeaningLemmas.{bear_told, image_told, pre_told_at, safe_told}
use Rattle.rule_formula.proofs.PairTheorem.{pairs_are, pairs_mean}
use Rattle.rule_formula.proofs.PointTheorem.{point_means}
use Rattle.rule_formula.proofs.PointTracks.{place_there, point_tracks}
use Rattle.rule_formula.proofs.MaskLemmas.{without_is}
use Rattle.rule_formula.proofs.SweptLemmas.{placed_same}
use Rattle.rule_formula.proofs.TracksTheorem.{bear_tracks, image_tracks, pre_tracks, safe_tracks, tracks_alike, tracks_twice}

prey_alike : {ms ns : List Man} → AreAlike ms ns → (mask : ℕ) (s : Side) (t : ℕ) → IsPrey ms mask s t → IsPrey ns mask s t
prey_alike h mask s zero prey = tt
prey_alike h mask s (suc t) (m, is, live, enemy, piece) =
    let (n, there, side, sort) = alike_man h (suc t) m is in
    (n, there, live, side ∙ enemy, λ king. piece (sym sort ∙ king))

-- an option of the one stock is one of the other
option_alike : {ms ns : List Man} → AreAlike ms ns → (mask : ℕ) (s : Side) (o : Opt) → IsOptionOfSide ms mask s o → IsOptionOfSide ns mask s o
option_alike {ns} h mask s o (w, his) =
    let (n, there, side, sort) = alike_man h o.man w.man w.is.is_man in
    let prey : IsPrey ns mask w.man.side o.taken = prey_alike h mask w.man.side o.taken w.is.prey in (
      record {
        man = n;
        ray = w.ray;
        is = record {
          is_man = there;
          live = w.is.live;
          ray = alike_ray w.man n o.ray w.ray side sort w.is.ray;
          serves = subst (λ k. Serves k o.ray o.taken) (sym sort) w.is.serves;
          prey = subst (λ t. IsPrey ns mask t o.taken) (sym side) prey;
        };
      },
      side ∙ his,
    )

in_alike : {ms ns : List Man} → AreAlike ms ns → (mask : ℕ) (s : Side) (o : Opt) → Contains (options_of ms mask s) o → Contains (options_of ns mask s) o
in_alike {ms} {ns} h mask s o listed = (options_are ns mask s o).1 (option_alike h mask s o ((options_are ms mask s o).0 listed))

steps_are : (p : Position) (side : Side) (q r : Position) → Fits p side q → Sound q → StepsTo q r ↔ ((o : Opt) × Contains (options_of p.men (mask_of q) side) o × TakesOption o q r)
steps_are p side q r fits sound =
    let main = steps_by_options q r (mask_of q) sound (mask_tells q) in
    let there = alike_of fits.stock in
    let back = alike_back there in (
      λ h.
          let (o, listed, takes) = main.0 h in
          (o, in_alike back (mask_of q) side o (subst (λ s. Contains (options_of q.men (mask_of q) s) o) fits.turn listed), takes),
      λ (o, listed, takes).
          main.1 (o, subst (λ s. Contains (options_of q.men (mask_of q) s) o) (sym fits.turn) (in_alike there (mask_of q) side o listed), takes),
    )

-- who is taken is live
taken_live : (stock : List Man) (mask : ℕ) (side : Side) (t : ℕ) → length stock ≤ 8 → IsPrey stock mask side t → 0 < t → IsLiveIn mask t
taken_live stock mask side zero few prey low = absurd (omega (arith, low))
taken_live stock mask side (suc t) few (m, is, live, enemy, piece) low =
    let at = stock_number stock (suc t) m is in record { low = omega arith; high = omega (arith, at.high, few); live = live }

pub game_means : {p : Position} → IsGame p → GameMeans p
game_means {p} game =
    record {
      begins = sound_fits {p = p};
      masks = masks_are p;
      mask_is = fits_mask {p = p};
      unique = fits_unique p;
      tracks = λ m s t. tracks_twice (is_live m) (length p.men) s t;
      steps = steps_are p;
      target = λ side o q r fits listed takes.
          let w = arrives game.kings fits ((options_are p.men (mask_of q) side o).0 listed) takes in (w.mask, w.fits);
      taken = λ m o w low. taken_live p.men m w.man.side o.taken game.few w.is.prey low;
      targets = λ side m o is listed. target_mask is ((options_are p.men m side o).0 listed).0;
      bearings = λ m s b is. bearings_are s b game.kings is;
      pairs = λ m w. pairs_are p.men m w;
      checks = λ side s q fits.
          let main = checks_are s fits in
          let lists = λ (b : Bearing). bearings_are s b game.kings (fits_mask side q fits) in (
            λ h. let (b, is, by) = main.0 h in (b, (lists b).1 is, by),
            λ (b, listed, by). main.1 (b, (lists b).0 listed, by),
          );
    }

-- a position of the stock by the values of its squares
record IsValued (stock : List Man) (live : ℕ → Bool) (turn : Side) (q : Position) : Type 0 where
  values : Values
  is : placed stock live turn (squares values) ≡ q
  tuple : values_at (tracks_of stock live) values ≡ tuple_of q

valued : (stock : List Man) (live : ℕ → Bool) (turn : Side) (f : ℕ → Square) (q : Position) → placed stock live turn f ≡ q → IsValued stock live turn q
valued stock live turn f q e =
    let is : placed stock live turn (squares (values_of f)) ≡ q = placed_values stock live turn f ∙ e in
    record { values = values_of f; is = is; tuple = tuple_placed stock live turn (values_of f) ∙ ap tuple_of is }

placed_is : {p : Position} {side : Side} (m : ℕ) {q : Position} (f : ℕ → Square) → Fits p side q → mask_of q ≡ m
    → tuple_of q ≡ tuple_of (placed p.men (is_live m) side f) → q ≡ placed p.men (is_live m) side f
placed_is {p} {side} m {q} f fits mask tuple =
    let v = valued p.men (is_live m) side f (placed p.men (is_live m) side f) refl in
    let at : placed p.men (is_live m) side (squares v.values) ≡ q =
    subst (λ n. values_at (tracks_of p.men (is_live n)) v.values ≡ tuple_of q → placed p.men (is_live n) side (squares v.values) ≡ q) mask
    (fits_values v.values fits) (v.tuple ∙ sym tuple) in
    sym at ∙ v.is

-- a set of positions of the game has live men on distinct squares
apart_of : (p : Position) (side : Side) (m : ℕ) (e : ℕ → SetOf) (a : ℕ) → HoldsFitting p side m (e a) → HoldsApart (members e) a p.men (is_live m) side
apart_of p side m e a holds f member =
    let (q, fits, mask, tuple) = holds (tuple_of (placed p.men (is_live m) side f)) member in
    subst IsApart (placed_is m f fits mask tuple) fits.apart

-- the variables of an image are those of the men who are live after the step
image_tracks_are : (p : Position) {m : ℕ} {o : Opt} (a : ℕ) → length p.men ≤ 8 → IsOptionOf p.men m o → free_vars (image_of p.men m o a) ≡ mask_tracks p (target_of m o)
image_tracks_are p {m} {o} a few w =
    image_tracks p.men m o a few w
    ∙ tracks_alike (without (is_live m) o.taken) (is_live (target_of m o)) (length p.men)
    (λ k low. sym (without_is m o.taken k low (prey_live p.men m w.man.side o.taken w.is.prey)))

arrives_at : {p : Position} {side : Side} (m : ℕ) {o : Opt} {q r : Position} → HasKings p → Fits p side q → mask_of q ≡ m
    → IsOptionOfSide p.men m side o → TakesOption o q r → Arrives p side m o r
arrives_at {p} {side} m {o} {r} kings fits mask w takes =
    subst (λ n. IsOptionOfSide p.men n side o → Arrives p side n o r) mask (λ x. arrives kings fits x takes) w

placed_at : {p : Position} {side : Side} (m : ℕ) {q : Position} → Fits p side q → mask_of q ≡ m → placed p.men (is_live m) side (squares_of q) ≡ q
placed_at {p} {side} m {q} fits mask = subst (λ n. placed p.men (is_live n) side (squares_of q) ≡ q) mask (fits_placed fits)

-- the image has the tuples of the positions that are reached
image_from : {p : Position} → IsGame p → {m : ℕ} {o : Opt} (w : IsOptionOf p.men m o) (a : ℕ) (e : ℕ → SetOf) (tuple : List ℤ)
    → HoldsFitting p w.man.side m (e a) → Member (Where (image_of p.men m o a) e) tuple → IsImageOf p w.man.side m o (e a) tuple
image_from {p} game {m} {o} w a e tuple holds h =
    let side : Side = w.man.side in
    let told = image_told a (image_of p.men m o a) game.few w refl (members e) w.man h.values w.is.is_man (apart_of p side m e a holds) in
    let (f, member, takes) = told.0 h.holds in
    let q_at : Position = placed p.men (is_live m) side f in
    let r : Position = placed p.men (without (is_live m) o.taken) (other side) (squares h.values) in
    let (q, fits, mask, same_tuple) = holds (tuple_of q_at) member in
    let same : q ≡ q_at = placed_is m f fits mask same_tuple in
    let tuple_is : tuple_of r ≡ tuple =
    sym (tuple_placed p.men (without (is_live m) o.taken) (other side) h.values) ∙ ap (λ vars. values_at vars h.values) (sym (image_tracks p.men m o a game.few w)) ∙ h.is_tuple in
    (q, r, fits, mask, subst (λ x. TakesOption o x r) (sym same) takes, subst (λ x. Member (e a) (tuple_of x)) (sym same) member, tuple_is)

image_into : {p : Position} → IsGame p → {m : ℕ} {o : Opt} (w : IsOptionOf p.men m o) (a : ℕ) (e : ℕ → SetOf) (tuple : List ℤ)
    → HoldsFitting p w.man.side m (e a) → IsImageOf p w.man.side m o (e a) tuple → Member (Where (image_of p.men m o a) e) tuple
image_into {p} game {m} {o} w a e tuple holds (q, r, fits, mask, takes, member, same_tuple) =
    let side : Side = w.man.side in
    let live : ℕ → Bool = is_live m in
    let arrived = arrives_at m game.kings fits mask (w, refl) takes in
    let v = valued p.men (without live o.taken) (other side) arrived.squares r (sym arrived.is) in
    let told = image_told a (image_of p.men m o a) game.few w refl (members e) w.man v.values w.is.is_man (apart_of p side m e a holds) in
    let q_is : placed p.men live side (squares_of q) ≡ q = placed_at m fits mask in
    let to : Position = placed p.men (without live o.taken) (other side) (squares v.values) in
    let there : TakesOption o (placed p.men live side (squares_of q)) to = subst (λ x. TakesOption o x to) (sym q_is) (subst (TakesOption o q) (sym v.is) takes) in
    let reached : IsReached (members e) a p.men m side o to = (squares_of q, subst (λ x. Member (e a) (tuple_of x)) (sym q_is) member, there) in
    record {
      values = v.values;
      is_tuple = ap (λ vars. values_at vars v.values) (image_tracks p.men m o a game.few w) ∙ v.tuple ∙ same_tuple;
      holds = told.1 reached;
    }

-- a formula over the live men at a position of the game
member_is : {p : Position} {side : Side} {q : Position} → Fits p side q → (t : Tree) (e : ℕ → SetOf) (P : Type 0)
    → free_vars t ≡ tracks_of p.men (is_live (mask_of q))
    → ((v : Values) → placed p.men (is_live (mask_of q)) side (squares v) ≡ q → Holds t (members e) v ↔ P) → Member (Where t e) (tuple_of q) ↔ P
member_is {p} {side} {q} fits t e P tracks told = (
  λ h.
      let tuple : values_at (tracks_of p.men (is_live (mask_of q))) h.values ≡ tuple_of q = ap (λ vars. values_at vars h.values) (sym tracks) ∙ h.is_tuple in
      (told h.values (fits_values h.values fits tuple)).0 h.holds,
  λ h.
      let v = valued p.men (is_live (mask_of q)) side (squares_of q) q (fits_placed fits) in
      record { values = v.values; is_tuple = ap (λ vars. values_at vars v.values) tracks ∙ v.tuple; holds = (told v.values v.is).1 h },
)

pre_holds_at : {p : Position} → IsGame p → {o : Opt} {q : Position} (w : IsOptionOf p.men (mask_of q) o) → Fits p w.man.side q
    → (a b : ℕ) (e : ℕ → SetOf) (v : Values) → placed p.men (is_live (mask_of q)) w.man.side (squares v) ≡ q
    → Holds (pre_of p.men (mask_of q) o a b) (members e) v ↔ IsBefore o (e a) (e b) q
pre_holds_at {p} game {o} {q} w fits a b e v at =
    let side : Side = w.man.side in
    let here : Position = placed p.men (is_live (mask_of q)) side (squares v) in
    let main = pre_told_at a b game.few w (members e) v (λ member. subst IsApart (sym at) fits.apart) in (
      λ h.
          let (member, (g, there, takes)) = main.0 h in
          let r : Position = placed p.men (without (is_live (mask_of q)) o.taken) (other side) g in
          (subst (λ x. Member (e a) (tuple_of x)) at member, (r, subst (λ x. TakesOption o x r) at takes, there)),
      λ (member, (r, takes, there)).
          let arrived = arrives game.kings fits (w, refl) takes in
          let to : Position = placed p.men (without (is_live (mask_of q)) o.taken) (other side) arrived.squares in
          let steps : TakesOption o here to = subst (λ x. TakesOption o x to) (sym at) (subst (TakesOption o q) arrived.is takes) in
          main.1 (subst (λ x. Member (e a) (tuple_of x)) (sym at) member, (arrived.squares, subst (λ x. Member (e b) (tuple_of x)) arrived.is there, steps)),
    )

pre_here : {p : Position} → IsGame p → {side : Side} (o : Opt) {q : Position} → Fits p side q → (a b : ℕ) (e : ℕ → SetOf)
    → IsOptionOfSide p.men (mask_of q) side o → Member (Where (pre_of p.men (mask_of q) o a b) e) (tuple_of q) ↔ IsBefore o (e a) (e b) q
pre_here {p} game o {q} fits a b e (w, his) =
    let mine : Fits p w.man.side q = subst (λ s. Fits p s q) (sym his) fits in
    member_is mine (pre_of p.men (mask_of q) o a b) e (IsBefore o (e a) (e b) q) (pre_tracks p.men (mask_of q) o a b game.few w)
    (λ v at. pre_holds_at game w mine a b e v at)

pub options_mean : {p : Position} → IsGame p → (side : Side) (m : ℕ) (o : Opt) → IsOptionOfSide p.men m side o → OptionsMean p side m o
options_mean {p} game side m o (w, his) =
    record {
      image_tracks = λ a. image_tracks_are p a game.few w;
      image = λ a e tuple holds.
          let mine : HoldsFitting p w.man.side m (e a) = subst (λ s. HoldsFitting p s m (e a)) (sym his) holds in (
            λ h. subst (λ s. IsImageOf p s m o (e a) tuple) his (image_from game w a e tuple mine h),
            λ h. image_into game w a e tuple mine (subst (λ s. IsImageOf p s m o (e a) tuple) (sym his) h),
          );
      pre_tracks = λ a b. pre_tracks p.men m o a b game.few w;
      pre = λ a b e q fits mask.
          subst (λ n. IsOptionOfSide p.men n side o → Member (Where (pre_of p.men n o a b) e) (tuple_of q) ↔ IsBefore o (e a) (e b) q) mask (pre_here game o fits a b e) (w, his);
    }

bear_here : {p : Position} {side : Side} {q : Position} (b : Bearing) → Fits p side q → (a : ℕ) (e : ℕ → SetOf)
    → IsBearer p.men (mask_of q) b.man b.ray b.king
    → Member (Where (bear_of p.men (mask_of q) b.man b.ray b.king a) e) (tuple_of q) ↔ (Member (e a) (tuple_of q) × BearsOnKing b q)
bear_here {p} {side} {q} b fits a e w =
    let t : Tree = bear_of p.men (mask_of q) b.man b.ray b.king a in
    member_is fits t e (Member (e a) (tuple_of q) × BearsOnKing b q) (bear_tracks p.men (mask_of q) b.man b.ray b.king a w)
    (λ v at.
    let main = bear_told a t w refl (members e) side v in (
      λ h. let x = main.0 h in (subst (λ x. Member (e a) (tuple_of x)) at x.0, subst (BearsOnKing b) at x.1),
      λ h. main.1 (subst (λ x. Member (e a) (tuple_of x)) (sym at) h.0, subst (BearsOnKing b) (sym at) h.1),
    ))

safe_here : {p : Position} {side : Side} {q : Position} (b : Bearing) → Fits p side q → (a : ℕ) (e : ℕ → SetOf)
    → IsBearer p.men (mask_of q) b.man b.ray b.king
    → Member (Where (safe_of p.men (mask_of q) b.man b.ray b.king a) e) (tuple_of q) ↔ (Member (e a) (tuple_of q) × (¬ BearsOnKing b q))
safe_here {p} {side} {q} b fits a e w =
    let t : Tree = safe_of p.men (mask_of q) b.man b.ray b.king a in
    member_is fits t e (Member (e a) (tuple_of q) × (¬ BearsOnKing b q)) (safe_tracks p.men (mask_of q) b.man b.ray b.king a w)
    (λ v at.
    let main = safe_told a t w refl (members e) side v in (
      λ h. let x = main.0 h in (subst (λ x. Member (e a) (tuple_of x)) at x.0, λ bears. x.1 (subst (BearsOnKing b) (sym at) bears)),
      λ h. main.1 (subst (λ x. Member (e a) (tuple_of x)) (sym at) h.0, λ bears. h.1 (subst (BearsOnKing b) at bears)),
    ))

pub bearings_mean : (p : Position) {m : ℕ} (b : Bearing) → IsBearer p.men m b.man b.ray b.king → BearingsMean p m b
bearings_mean p {m} b w =
    record {
      bear_tracks = λ a. bear_tracks p.men m b.man b.ray b.king a w;
      bear = λ a e side q fits mask.
          subst (λ n. IsBearer p.men n b.man b.ray b.king → Member (Where (bear_of p.men n b.man b.ray b.king a) e) (tuple_of q) ↔ (Member (e a) (tuple_of q) × BearsOnKing b q)) mask
          (bear_here b fits a e) w;
      safe_tracks = λ a. safe_tracks p.men m b.man b.ray b.king a w;
      safe = λ a e side q fits mask.
          subst (λ n. IsBearer p.men n b.man b.ray b.king → Member (Where (safe_of p.men n b.man b.ray b.king a) e) (tuple_of q) ↔ (Member (e a) (tuple_of q) × (¬ BearsOnKing b q))) mask
          (safe_here b fits a e) w;
      safe_within = λ a e tuple h.
          subst (Member (e a)) (ap (λ vars. values_at vars h.values) (sym (safe_tracks p.men m b.man b.ray b.king a w)) ∙ h.is_tuple) h.holds.0;
    }

-- values that put each man on his square give the position
placed_point : (p : Position) (v : Values)
    → ((k : ℕ) (m : Man) (z : Square) → stock_man p.men k ≡ Some m → StandsOn m z → squares v k ≡ z)
    → placed p.men (is_live (mask_of p)) p.turn (squares v) ≡ p
placed_point p v h =
    placed_same p.men (is_live (mask_of p)) p.turn (squares v) (squares_of p)
    (λ k low high on.
    let (m, is) = stock_has p.men k low high in
    let (z, stands) = place_there m (live_by_mask p k m (sym (stock_man-men p k) ∙ is) on) in
    h k m z is stands ∙ sym (square_stands p k m z is stands))
    ∙ self_placed (mask_tells p)

point_is : (p : Position) (t : Tree) (e : ℕ → SetOf) (tuple : List ℤ) → point_of p.men ≡ Some t → Member (Where t e) tuple ↔ (tuple ≡ tuple_of p)
point_is p t e tuple is =
    let live : ℕ → Bool = is_live (mask_of p) in
    let tracks = point_tracks p t is in (
      λ h.
          let at = placed_point p h.values ((point_means p.men t is (members e) h.values).0 h.holds) in
          sym h.is_tuple ∙ ap (λ vars. values_at vars h.values) tracks ∙ tuple_placed p.men live p.turn h.values ∙ ap tuple_of at,
      λ same.
          let v = valued p.men live p.turn (squares_of p) p (self_placed (mask_tells p)) in
          record {
            values = values_of (squares_of p);
            is_tuple =
                ap (λ vars. values_at vars (values_of (squares_of p))) tracks ∙ tuple_placed p.men live p.turn (values_of (squares_of p))
                ∙ ap tuple_of (placed_values p.men live p.turn (squares_of p) ∙ self_placed (mask_tells p)) ∙ sym same;
            holds = (point_means p.men t is (members e) (values_of (squares_of p))).1
                (λ k m z is_man stands. squares_values (squares_of p) k (stock_number p.men k m is_man).low ∙ square_stands p k m z is_man stands);
          },
    )

pub point_mean : (p : Position) → PointMeans p
point_mean p = record { tracks = point_tracks p; point = point_is p }

-- what the formulas mean in the game
pub rules_mean : (p : Position) → IsGame p → RulesMean p
rules_mean p game =
    record {
      game = game_means game;
      point = point_mean p;
      options = λ side m o is listed. options_mean game side m o ((options_are p.men m side o).0 listed);
      bearings = λ m s b is listed. bearings_mean p b ((bearings_are s b game.kings is).0 listed).bearer;
      pairs = λ m w is listed. pairs_mean p game.few m w is ((pairs_are p.men m w).0 listed);
    }
