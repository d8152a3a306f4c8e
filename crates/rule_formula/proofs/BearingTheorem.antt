-- The list of bearings has each bearing on the king, and nothing else; and a check is one by a bearing.
use Rattle.std.proofs.Common.{◌≡◌, ◌≢◌, ◌↔◌, ℕ, zero, suc, ◌<◌, ◌≤◌, Bool, true, false, ◌&&◌, List, length, Some, None, inl, inr, refl, subst, sym, ap, ◌∙◌, arith}
use Rattle.std.specs.Prelude.{nat_lt, if◌then◌else◌, IsSomeAnd}
use Rattle.std.specs.List.{Contains}
use Rattle.std.proofs.lemmas.Option.{slice_get_within}
use Rattle.game_rules.specs.declared.men.Kind.{Kind}
use Rattle.game_rules.specs.declared.men.Kind.TheVariants.{King, Queen, Rook, Bishop, Knight, Pawn, Chancellor, Archbishop, Amazon, Nightrider}
use Rattle.game_rules.specs.declared.men.Side.{Side}
use Rattle.game_rules.specs.declared.men.Man.{Man}
use Rattle.game_rules.specs.declared.men.Ray.{Ray}
use Rattle.game_rules.specs.declared.men.Place.TheVariants.{Gone}
use Rattle.game_rules.specs.declared.men.Square.{Square}
use Rattle.game_rules.specs.Game.{Attacked, Bears, HasKings, HasOneKing, HasOneKingAtMost, InCheck, IsLiveAnd, Position, StandsOn, man_at, other, place_square, square_of}
use Rattle.game_rules.specs.Rays.{ray_of, rays_of, serves_captures}
use Rattle.game_laws.proofs.SoundLemmas.{any_at, live_at, other_differs, other_other}
use Rattle.game_laws.proofs.CheckLemmas.{any_is}
use Rattle.rule_formula.specs.declared.opt.Bearing.{Bearing}
use Rattle.rule_formula.specs.Bearings.{IsBearingOf, along_rays, bearing, bearings_of, bearings_to, is_king_man, king_number, king_to, man_bearings}
use Rattle.rule_formula.specs.Fits.{Fits, IsGameMask}
use Rattle.mask_sets.specs.Stock.{mask_of}
use Rattle.game_laws.specs.Stock.{stock_man}
use Rattle.rule_formula.specs.Meaning.{BearsBy}
use Rattle.rule_formula.specs.Options.{is_king, is_side}
use Rattle.rule_formula.specs.Placed.{is_live}
use Rattle.rule_formula.proofs.BearLemmas.{IsNumber, stock_number}
use Rattle.game_laws.proofs.StockLemmas.{stock_has, stock_man-men}
use Rattle.rule_formula.proofs.ChainLemmas.{last_or_before}
use Rattle.rule_formula.proofs.FitLemmas.{AreAlike, alike_back, alike_of}
use Rattle.rule_formula.proofs.GameTheorem.{live_in_mask}
use Rattle.rule_formula.proofs.ListTheorem.{appended, both_true, get_some, is_his_side, nothing, only_if, pushed_if, side_is, some_or_none, true_both}
use Rattle.rule_formula.proofs.OptionTheorem.{bears_lives, some_square, way_of_bears}
use Rattle.rule_formula.proofs.RayLemmas.{is_along}

record IsAlongRays (sort : Kind) (k g n : ℕ) (b : Bearing) : Type 0 where
  is : bearing k b.ray g ≡ b
  low : b.ray < n
  serves : serves_captures sort b.ray ≡ true

along_are : (sort : Kind) (k g n : ℕ) (b : Bearing) → Contains (along_rays sort k g n) b ↔ IsAlongRays sort k g n b
along_are sort k g zero b = (λ h. absurd (nothing b h), λ h. absurd (omega (arith, h.low)))
along_are sort k g (suc n) b =
    let step = pushed_if (serves_captures sort n) (along_rays sort k g n) (bearing k n g) b in
    let before = along_are sort k g n b in (
      λ h.
          elim (step.0 h) [
            | inl earlier ↦ let w = before.0 earlier in let less : b.ray < n = w.low in record { is = w.is; low = omega arith; serves = w.serves }
            | inr e ↦
                let at : n ≡ b.ray = ap (λ (x : Bearing). x.ray) e.1 in
                record { is = subst (λ t. bearing k t g ≡ b) at e.1; low = omega (arith, at); serves = subst (λ t. serves_captures sort t ≡ true) at e.0 }
          ],
      λ h.
          elim (last_or_before (suc b.ray) n h.low) [
            | inl earlier ↦ step.1 (inl (before.1 (record { is = h.is; low = earlier; serves = h.serves })))
            | inr at ↦
                let same : b.ray ≡ n = omega (arith, at) in
                step.1 (inr (subst (λ t. serves_captures sort t ≡ true) same h.serves, subst (λ t. bearing k t g ≡ b) same h.is))
          ],
    )

-- a bearing of a live man of the side
record IsListed (stock : List Man) (mask : ℕ) (s : Side) (g : ℕ) (b : Bearing) : Type 0 where
  man : Man
  is_man : stock_man stock b.man ≡ Some man
  live : is_live mask b.man ≡ true
  side : man.side ≡ s
  low : b.ray < length (rays_of man.kind man.side)
  serves : serves_captures man.kind b.ray ≡ true
  king : b.king ≡ g

bearings_from : (stock : List Man) (mask : ℕ) (s : Side) (g k : ℕ) (m : Man) (b : Bearing)
    → stock_man stock k ≡ Some m → Contains (man_bearings mask s g k (Some m)) b → IsListed stock mask s g b
bearings_from stock mask s g k m b is h =
    let w = (only_if (is_live mask k && is_side m.side s) (along_rays m.kind k g (length (rays_of m.kind m.side))) b).0 h in
    let alive = both_true (is_live mask k) (is_side m.side s) w.0 in
    let along = (along_are m.kind k g (length (rays_of m.kind m.side)) b).0 w.1 in
    let at : k ≡ b.man = ap (λ (x : Bearing). x.man) along.is in
    record {
      man = m;
      is_man = subst (λ j. stock_man stock j ≡ Some m) at is;
      live = subst (λ j. is_live mask j ≡ true) at alive.0;
      side = side_is m.side s alive.1;
      low = along.low;
      serves = along.serves;
      king = sym (ap (λ (x : Bearing). x.king) along.is);
    }

listed : (stock : List Man) (mask : ℕ) (s : Side) (g n : ℕ) (b : Bearing) → Contains (bearings_to stock mask s g n) b → IsListed stock mask s g b
listed stock mask s g zero b h = absurd (nothing b h)
listed stock mask s g (suc n) b h =
    elim ((appended (bearings_to stock mask s g n) (man_bearings mask s g (suc n) (stock_man stock (suc n))) b).0 h) [
      | inl earlier ↦ listed stock mask s g n b earlier
      | inr last ↦ elim (some_or_none (stock_man stock (suc n))) [
        | inl found ↦ bearings_from stock mask s g (suc n) found.0 b found.1 (subst (λ x. Contains (man_bearings mask s g (suc n) x) b) found.1 last)
        | inr none ↦ absurd (nothing b (subst (λ x. Contains (man_bearings mask s g (suc n) x) b) none last))
      ]
    ]

bearing_is : (b : Bearing) (g : ℕ) → b.king ≡ g → bearing b.man b.ray g ≡ b
bearing_is b g e = ap (bearing b.man b.ray) (sym e)

man_lists : {stock : List Man} {mask : ℕ} {s : Side} {g : ℕ} {b : Bearing} → IsListed stock mask s g b → Contains (man_bearings mask s g b.man (stock_man stock b.man)) b
man_lists {mask} {s} {g} {b} h =
    let along : IsAlongRays h.man.kind b.man g (length (rays_of h.man.kind h.man.side)) b = record { is = bearing_is b g h.king; low = h.low; serves = h.serves } in
    let inside : Contains (man_bearings mask s g b.man (Some h.man)) b =
    (only_if (is_live mask b.man && is_side h.man.side s) (along_rays h.man.kind b.man g (length (rays_of h.man.kind h.man.side))) b).1
    (true_both (is_live mask b.man) (is_side h.man.side s) h.live (is_his_side h.man.side s h.side), (along_are h.man.kind b.man g (length (rays_of h.man.kind h.man.side)) b).1 along)
    in
    subst (λ x. Contains (man_bearings mask s g b.man x) b) (sym h.is_man) inside

lists : (stock : List Man) (mask : ℕ) (s : Side) (g n : ℕ) (b : Bearing) → IsListed stock mask s g b → b.man ≤ n → Contains (bearings_to stock mask s g n) b
lists stock mask s g zero b h high = let at = stock_number stock b.man h.man h.is_man in absurd (omega (arith, at.low, high))
lists stock mask s g (suc n) b h high =
    let step = appended (bearings_to stock mask s g n) (man_bearings mask s g (suc n) (stock_man stock (suc n))) b in
    elim (last_or_before b.man n high) [
      | inl earlier ↦ step.1 (inl (lists stock mask s g n b h earlier))
      | inr last ↦ step.1 (inr (subst (λ j. Contains (man_bearings mask s g j (stock_man stock j)) b) last (man_lists h)))
    ]

is_kingly : (stock : List Man) (s : Side) (k : ℕ) (m : Man) → stock_man stock k ≡ Some m → m.side ≡ s → m.kind ≡ King → is_king_man s (stock_man stock k) ≡ true
is_kingly stock s k m is side king =
    let sided = is_his_side m.side s side in
    let kinged : is_king m.kind ≡ true = ap is_king king in
    ap (is_king_man s) is ∙ true_both (is_side m.side s) (is_king m.kind) sided kinged

king_of_test : (k : Kind) → is_king k ≡ true → k ≡ King
king_of_test King e = refl
king_of_test Queen e = absurd (cc)
king_of_test Rook e = absurd (cc)
king_of_test Bishop e = absurd (cc)
king_of_test Knight e = absurd (cc)
king_of_test Chancellor e = absurd (cc)
king_of_test Archbishop e = absurd (cc)
king_of_test Amazon e = absurd (cc)
king_of_test Nightrider e = absurd (cc)
king_of_test Pawn e = absurd (cc)

record IsKingAt (stock : List Man) (s : Side) (k : ℕ) : Type 0 where
  man : Man
  is_man : stock_man stock k ≡ Some man
  side : man.side ≡ s
  king : man.kind ≡ King

kingly_is : (stock : List Man) (s : Side) (k : ℕ) → is_king_man s (stock_man stock k) ≡ true → IsKingAt stock s k
kingly_is stock s k h =
    elim (some_or_none (stock_man stock k)) [
      | inl found ↦
          let told : is_king_man s (Some found.0) ≡ true = subst (λ x. is_king_man s x ≡ true) found.1 h in
          let parts = both_true (is_side found.0.side s) (is_king found.0.kind) told in
          record { man = found.0; is_man = found.1; side = side_is found.0.side s parts.0; king = king_of_test found.0.kind parts.1 }
      | inr none ↦ let told : is_king_man s None ≡ true = subst (λ x. is_king_man s x ≡ true) none h in absurd (cc)
    ]

if_king : (b : Bool) (k rest number : ℕ) → (b ≡ true → k ≡ number) → (b ≡ false → rest ≡ number) → (if b then k else rest) ≡ number
if_king true k rest number yes' no' = yes' refl
if_king false k rest number yes' no' = no' refl

king_to_is : {p : Position} {s : Side} (had : HasOneKing p s) (n : ℕ) → had.number ≤ n → king_to p.men s n ≡ had.number
king_to_is {p} had zero high =
    let at = stock_number p.men had.number had.king (stock_man-men p had.number ∙ had.is_man) in absurd (omega (arith, at.low, high))
king_to_is {p} {s} had (suc n) high =
    if_king (is_king_man s (stock_man p.men (suc n))) (suc n) (king_to p.men s n) had.number
    (λ e.
    let w = kingly_is p.men s (suc n) e in had.only (suc n) w.man (sym (stock_man-men p (suc n)) ∙ w.is_man) w.side w.king)
    (λ e.
    elim (last_or_before had.number n high) [
      | inl earlier ↦ king_to_is had n earlier
      | inr last ↦
          let there : is_king_man s (stock_man p.men (suc n)) ≡ true =
          subst (λ j. is_king_man s (stock_man p.men j) ≡ true) last (is_kingly p.men s had.number had.king (stock_man-men p had.number ∙ had.is_man) had.is_king.0 had.is_king.1) in
          absurd (cc)
    ])

-- where each side has one king, that is his number
pub king_is : {p : Position} {s : Side} (had : HasOneKing p s) → king_number p.men s ≡ had.number
king_is {p} had =
    let at = stock_number p.men had.number had.king (stock_man-men p had.number ∙ had.is_man) in
    king_to_is had (length p.men) at.high

-- who is found is the side's king
pub king_at : {p : Position} {s : Side} → HasOneKingAtMost p s → (k : ℕ) (m : Man) → man_at p k ≡ Some m → m.side ≡ s → m.kind ≡ King → king_number p.men s ≡ k
king_at {p} {s} h k m is side kind =
    let had : HasOneKing p s = record {
      number = k;
      king = m;
      is_man = is;
      is_king = (side, kind);
      live = h.live k m is side kind;
      only = λ j n is_n side_n kind_n. h.only j k n m is_n is side_n side kind_n kind;
    } in
    king_is had

if_some : (b : Bool) (k rest : ℕ) (P : ℕ → Type 0) → (b ≡ true → P k) → (b ≡ false → 0 < rest → P rest) → 0 < (if b then k else rest)
    → P (if b then k else rest)
if_some true k rest P yes' no' h = yes' refl
if_some false k rest P yes' no' h = no' refl h

-- a number that is not 0 is a king's
king_to_some : (stock : List Man) (s : Side) (n : ℕ) → 0 < king_to stock s n → IsKingAt stock s (king_to stock s n)
king_to_some stock s zero h = absurd (omega (arith, h))
king_to_some stock s (suc n) h =
    if_some (is_king_man s (stock_man stock (suc n))) (suc n) (king_to stock s n) (IsKingAt stock s) (λ e. kingly_is stock s (suc n) e)
    (λ e. king_to_some stock s n) h

-- and it is the number of a man
pub king_numbered : (stock : List Man) (s : Side) → 0 < king_number stock s → IsNumber stock (king_number stock s)
king_numbered stock s low = let king = king_to_some stock s (length stock) low in stock_number stock (king_number stock s) king.man king.is_man

-- the list has exactly the bearings of the men of the side on the other side's king
pub bearings_are : {p : Position} {m : ℕ} (s : Side) (b : Bearing) → HasKings p → IsGameMask p m → Contains (bearings_of p.men m s) b ↔ IsBearingOf p.men m s b
bearings_are {p} {m} s b kings game =
    let g : ℕ = king_number p.men (other s) in
    let some = only_if (nat_lt 0 g) (bearings_to p.men m s g (length p.men)) b in (
      λ h.
          let found = some.0 h in
          let low : 0 < g = grind (arith, found.0) in
          let king : IsKingAt p.men (other s) g = king_to_some p.men (other s) (length p.men) low in
          let w = listed p.men m s g (length p.men) b found.1 in
          let (r, ray) = get_some (rays_of w.man.kind w.man.side) b.ray w.low in
          let target : stock_man p.men b.king ≡ Some king.man = subst (λ j. stock_man p.men j ≡ Some king.man) (sym w.king) king.is_man in
          record {
            bearer = record {
              man = w.man;
              target = king.man;
              ray = r;
              is = record {
                is_man = w.is_man;
                live = w.live;
                ray = ray;
                serves = w.serves;
                is_target = target;
                target_live = game.kings b.king king.man (sym (stock_man-men p b.king) ∙ target) king.king;
                apart = λ same.
                    let both : Some w.man ≡ Some king.man = sym w.is_man ∙ ap (stock_man p.men) same ∙ target in
                    let who : w.man ≡ king.man = cc in
                    other_differs s (sym w.side ∙ ap (λ (a : Man). a.side) who ∙ king.side);
              };
            };
            side = w.side;
            other_side = king.side;
            king = king.king;
          },
      λ h.
          let is = h.bearer.is in
          let target : man_at p b.king ≡ Some h.bearer.target = sym (stock_man-men p b.king) ∙ is.is_target in
          let number : g ≡ b.king = king_at (kings.few (other s)) b.king h.bearer.target target h.other_side h.king in
          let low = (stock_number p.men b.king h.bearer.target is.is_target).low in
          let number_of = stock_number p.men b.man h.bearer.man is.is_man in
          some.1 (
            grind (arith, number, low),
            lists p.men m s g (length p.men) b
                (record {
                  man = h.bearer.man;
                  is_man = is.is_man;
                  live = is.live;
                  side = h.side;
                  low = slice_get_within (rays_of h.bearer.man.kind h.bearer.man.side) b.ray h.bearer.ray is.ray;
                  serves = is.serves;
                  king = sym number;
                }) number_of.high,
          ),
    )

-- the man of the one list who is man k of the other
pub alike_man : {ms ns : List Man} → AreAlike ms ns → (k : ℕ) (m : Man) → stock_man ms k ≡ Some m → (n : Man) × (stock_man ns k ≡ Some n) × (n.side ≡ m.side) × (n.kind ≡ m.kind)
alike_man h zero m is = absurd (cc)
alike_man {ms} {ns} h (suc i) m is =
    let within : i < length ns = omega (arith, h.count, slice_get_within ms i m is) in
    let (n, there) = stock_has ns (suc i) (omega arith) (omega (arith, within)) in
    let same = h.men i m n is there in (n, there, same.0, same.1)

-- men of one side and kind have the same rays
pub alike_ray : (m n : Man) (j : ℕ) (r : Ray) → n.side ≡ m.side → n.kind ≡ m.kind → ray_of m.kind m.side j ≡ Some r → ray_of n.kind n.side j ≡ Some r
alike_ray m n j r side sort is = ap (λ k. ray_of k n.side j) sort ∙ ap (λ s. ray_of m.kind s j) side ∙ is

stands_live : (m : Man) (z : Square) → StandsOn m z → m.place ≢ Gone
stands_live m z stands gone =
    let none : None ≡ Some z = sym (ap place_square gone) ∙ stands in cc

-- a check of the other side's king, by a man of the side
record IsCheck (q : Position) (s : Side) : Type 0 where
  number : ℕ
  king : Man
  at : Square
  is_king : man_at q number ≡ Some king
  side : king.side ≡ other s
  sort : king.kind ≡ King
  stands : StandsOn king at
  by_number : ℕ
  man : Man
  from : Square
  is_man : man_at q by_number ≡ Some man
  his : man.side ≡ s
  from_stands : StandsOn man from
  bears : Bears q man at

check_of : (q : Position) (s : Side) → InCheck q (other s) → IsCheck q s
check_of q s h =
    let (g, king, is, (side, sort, live)) = any_is q (λ m. (m.side ≡ other s) × (m.kind ≡ King) × IsLiveAnd m (Attacked q (other (other s)))) h in
    let (z, stands) = some_square (square_of king) (Attacked q (other (other s))) live in
    let attacked' : Attacked q (other (other s)) z = subst (λ o. IsSomeAnd o (Attacked q (other (other s)))) stands live in
    let attacked : Attacked q s z = subst (λ t. Attacked q t z) (other_other s) attacked' in
    let (k, man, is_man, (his, bears)) = any_is q (λ m. (m.side ≡ s) × Bears q m z) attacked in
    let (from, from_stands) = bears_lives q man z bears in
    record {
      number = g;
      king = king;
      at = z;
      is_king = is;
      side = side;
      sort = sort;
      stands = stands;
      by_number = k;
      man = man;
      from = from;
      is_man = is_man;
      his = his;
      from_stands = from_stands;
      bears = bears;
    }

bearing_by : {p : Position} {side s : Side} {q : Position} → Fits p side q → IsCheck q s → (b : Bearing) × IsBearingOf p.men (mask_of q) s b × BearsBy b.man b.ray b.king q
bearing_by {side} {s} {q} fits c =
    let way = way_of_bears q c.man c.from c.at c.from_stands c.bears in
    let back = alike_back (alike_of fits.stock) in
    let (man, is_man, man_side, man_kind) = alike_man back c.by_number c.man (stock_man-men q c.by_number ∙ c.is_man) in
    let (king, is_king, king_side, king_kind) = alike_man back c.number c.king (stock_man-men q c.number ∙ c.is_king) in
    let b : Bearing = bearing c.by_number way.number c.number in (
      b,
      record {
        bearer = record {
          man = man;
          target = king;
          ray = way.ray;
          is = record {
            is_man = is_man;
            live = live_in_mask q c.by_number c.man c.is_man (stands_live c.man c.from c.from_stands);
            ray = alike_ray c.man man way.number way.ray man_side man_kind way.is_ray;
            serves = subst (λ k. serves_captures k way.number ≡ true) (sym man_kind) way.serves;
            is_target = is_king;
            target_live = live_in_mask q c.number c.king c.is_king (stands_live c.king c.at c.stands);
            apart = λ same.
                let both : Some c.man ≡ Some c.king = sym c.is_man ∙ ap (man_at q) same ∙ c.is_king in
                let who : c.man ≡ c.king = cc in
                other_differs s (sym c.his ∙ ap (λ (a : Man). a.side) who ∙ c.side);
          };
        };
        side = man_side ∙ c.his;
        other_side = king_side ∙ c.side;
        king = king_kind ∙ c.sort;
      },
      record {
        man = c.man;
        ray = way.ray;
        is_man = c.is_man;
        is_ray = way.is_ray;
        bears = record {
          man = c.man;
          target = c.king;
          from = c.from;
          to = c.at;
          is_man = c.is_man;
          is_target = c.is_king;
          stands = c.from_stands;
          target_stands = c.stands;
          along = is_along way.along;
          bears = c.bears;
        };
      },
    )

check_by : {p : Position} {side s : Side} {q : Position} → Fits p side q → {b : Bearing} → IsBearingOf p.men (mask_of q) s b → BearsBy b.man b.ray b.king q → InCheck q (other s)
check_by {s} {q} fits {b} is by =
    let w = by.bears in
    let man = fits.stock.men b.man is.bearer.man w.man is.bearer.is.is_man w.is_man in
    let king = fits.stock.men b.king is.bearer.target w.target is.bearer.is.is_target w.is_target in
    let attacked : Attacked q s w.to = any_at q (λ m. (m.side ≡ s) × Bears q m w.to) b.man w.man w.is_man (man.0 ∙ is.side, w.bears) in
    let attacked' : Attacked q (other (other s)) w.to = subst (λ t. Attacked q t w.to) (sym (other_other s)) attacked in
    any_at q (λ m. (m.side ≡ other s) × (m.kind ≡ King) × IsLiveAnd m (Attacked q (other (other s)))) b.king w.target w.is_target
    (king.0 ∙ is.other_side, king.1 ∙ is.king, live_at w.target w.to (Attacked q (other (other s))) w.target_stands attacked')

-- the king is in check exactly where some bearing on him bears
pub checks_are : {p : Position} {side : Side} (s : Side) {q : Position} → Fits p side q → InCheck q (other s) ↔ ((b : Bearing) × IsBearingOf p.men (mask_of q) s b × BearsBy b.man b.ray b.king q)
checks_are s {q} fits = (
  λ h. bearing_by fits (check_of q s h),
  λ (b, is, by). check_by fits is by,
)
