-- A step by an option leads from a position of a game to another of the same game.
use Rattle.std.proofs.Common.{◌≡◌, ◌≢◌, ℕ, zero, suc, ◌^◌, ◌<◌, ◌≤◌, Bool, true, false, List, length, Some, inl, inr, refl, subst, sym, ap, ◌∙◌, arith}
use Rattle.game_rules.specs.declared.men.Kind.TheVariants.{King}
use Rattle.game_rules.specs.declared.men.Side.{Side}
use Rattle.game_rules.specs.declared.men.Man.{Man}
use Rattle.game_rules.specs.declared.men.Place.TheVariants.{Gone}
use Rattle.game_rules.specs.declared.men.Ray.{Ray}
use Rattle.game_rules.specs.declared.men.Square.{Square}
use Rattle.game_rules.specs.Game.{HasKings, HasOneKingAtMost, IsApart, IsMaskOf, Position, Sound, StandsOn, man_at, other}
use Rattle.game_laws.proofs.RayLemmas.{true_or_not}
use Rattle.rule_formula.proofs.StockLemmas.{fits_placed}
use Rattle.rule_formula.specs.declared.opt.Opt.{Opt}
use Rattle.rule_formula.specs.Fits.{Fits, IsGameMask, target_of}
use Rattle.mask_sets.specs.Stock.{mask_of}
use Rattle.game_laws.specs.Stock.{HasStock, stock_man}
use Rattle.rule_formula.specs.Meaning.{IsOptionOf, IsOptionOfSide, IsPrey, StepsBy, TakesOption}
use Rattle.rule_formula.specs.Placed.{is_live, place_at, placed, without}
use Rattle.rule_formula.proofs.AfterTheorem.{after_is, moved, moved_other, moved_same}
use Rattle.rule_formula.proofs.BearLemmas.{man_placed, stands_at, stock_number}
use Rattle.game_laws.proofs.StockLemmas.{stock_has, stock_man-men}
use Rattle.mask_sets.proofs.Masks.{mask_one, mask_small, mask_tells}
use Rattle.rule_formula.proofs.LawTheorem.{live_at, squares_of}
use Rattle.rule_formula.proofs.MaskLemmas.{live_bit_is, without_is, without_less}
use Rattle.rule_formula.proofs.MeaningLemmas.{takes_is}
use Rattle.rule_formula.proofs.MoveLemmas.{kept_live, nobody_there, place_gone, same_man, same_number, was_live}
use Rattle.rule_formula.proofs.PlacedLemmas.{from_placed, length_placed, placed_man, stands_placed}

-- each king is live
abbrev pub KeepsKings : List Man → (ℕ → Bool) → Type 0
KeepsKings stock live = (k : ℕ) (m : Man) → stock_man stock k ≡ Some m → m.kind ≡ King → live k ≡ true

-- nobody is live who was gone
abbrev pub KeepsGone : List Man → (ℕ → Bool) → Type 0
KeepsGone stock live = (k : ℕ) (m : Man) → stock_man stock k ≡ Some m → live k ≡ true → m.place ≢ Gone

pub placed_stock : (stock : List Man) (live : ℕ → Bool) (turn : Side) (g : ℕ → Square) → HasStock stock (placed stock live turn g)
placed_stock stock live turn g =
    record {
      count = length_placed 1 stock live g;
      men = λ k m n is at.
          let same : n ≡ man_placed live g k m = same_man stock live turn g k m n is at in
          (ap (λ (a : Man). a.side) same, ap (λ (a : Man). a.kind) same);
    }

at_gone : (b : Bool) (z : Square) → place_at b z ≡ Gone → b ≡ false
at_gone true z e = absurd (cc)
at_gone false z e = refl

placed_kings : {p : Position} (live : ℕ → Bool) (turn : Side) (g : ℕ → Square) → KeepsKings p.men live → {s : Side} → HasOneKingAtMost p s
    → HasOneKingAtMost (placed p.men live turn g) s
placed_kings {p} live turn g keeps had =
    record {
      live = λ k n is side king gone.
          let w = from_placed p.men live turn g k n is in
          let on : live k ≡ true = keeps k w.man w.is_man (sym (ap (λ (a : Man). a.kind) w.is) ∙ king) in
          let off : live k ≡ false = at_gone (live k) (g k) (sym (ap (λ (a : Man). a.place) w.is) ∙ gone) in
          cc;
      only = λ j k m n is_m is_n side_m side_n king_m king_n.
          let a = from_placed p.men live turn g j m is_m in
          let b = from_placed p.men live turn g k n is_n in
          had.only j k a.man b.man (sym (stock_man-men p j) ∙ a.is_man) (sym (stock_man-men p k) ∙ b.is_man)
          (sym (ap (λ (x : Man). x.side) a.is) ∙ side_m) (sym (ap (λ (x : Man). x.side) b.is) ∙ side_n)
          (sym (ap (λ (x : Man). x.kind) a.is) ∙ king_m) (sym (ap (λ (x : Man). x.kind) b.is) ∙ king_n);
    }

pub placed_fits : (p : Position) (live : ℕ → Bool) (turn : Side) (g : ℕ → Square) → IsApart (placed p.men live turn g) → HasKings p
    → KeepsKings p.men live → KeepsGone p.men live → Fits p turn (placed p.men live turn g)
placed_fits p live turn g apart kings keeps gone =
    record {
      stock = placed_stock p.men live turn g;
      none_back = λ k m n was is off.
          let in_stock : stock_man p.men k ≡ Some m = stock_man-men p k ∙ was in
          let same : n ≡ man_placed live g k m = same_man p.men live turn g k m n in_stock is in
          elim (true_or_not (live k)) [
            | inl on ↦ absurd (gone k m in_stock on off)
            | inr dead ↦ ap (λ (a : Man). a.place) same ∙ place_gone (live k) (g k) dead
          ];
      turn = refl;
      apart = apart;
      kings = record {
        few = λ s. placed_kings live turn g keeps (kings.few s);
        some = λ none. kings.some (λ k m is kind.
            none k (man_placed live g k m) (placed_man p.men live turn g k m (stock_man-men p k ∙ is)) kind);
      };
    }

-- the mask of a placed position is the one with the same men
pub placed_mask : (stock : List Man) (live : ℕ → Bool) (turn : Side) (g : ℕ → Square) (m : ℕ) → m < 2 ^ length stock
    → ((k : ℕ) → 0 < k → k ≤ length stock → is_live m k ≡ live k) → m ≡ mask_of (placed stock live turn g)
placed_mask stock live turn g m small tells = mask_one tells_it
  where
    tells_it : IsMaskOf (placed stock live turn g) m
    tells_it =
        record {
          live = λ i b is.
              let w = from_placed stock live turn g (suc i) b is in
              let at = stock_number stock (suc i) w.man w.is_man in
              let same = tells (suc i) at.low at.high in
              let place : b.place ≡ place_at (live (suc i)) (g (suc i)) = ap (λ (a : Man). a.place) w.is in (
                λ bit gone.
                    let on : live (suc i) ≡ true = sym same ∙ live_at m i (suc i) (omega arith) bit in
                    let off : live (suc i) ≡ false = at_gone (live (suc i)) (g (suc i)) (sym place ∙ gone) in cc,
                λ there. elim (true_or_not (live (suc i))) [
                  | inl on ↦ live_bit_is m i (same ∙ on)
                  | inr off ↦ absurd (there (place ∙ place_gone (live (suc i)) (g (suc i)) off))
                ],
              );
          no_more = subst (λ n. m < 2 ^ n) (sym (length_placed 1 stock live g)) small;
        }

-- who is live in a position is live in its mask
pub live_in_mask : (q : Position) (k : ℕ) (n : Man) → man_at q k ≡ Some n → n.place ≢ Gone → is_live (mask_of q) k ≡ true
live_in_mask q zero n is there = absurd (cc)
live_in_mask q (suc i) n is there = live_at (mask_of q) i (suc i) (omega arith) (((mask_tells q).live i n is).1 there)

pub live_by_mask : (q : Position) (k : ℕ) (n : Man) → man_at q k ≡ Some n → is_live (mask_of q) k ≡ true → n.place ≢ Gone
live_by_mask q zero n is on = absurd (cc)
live_by_mask q (suc i) n is on = ((mask_tells q).live i n is).0 (live_bit_is (mask_of q) i on)

-- the man of the position who is man k of the stock
pub man_of_stock : {stock : List Man} {q : Position} → HasStock stock q → (k : ℕ) (m : Man) → stock_man stock k ≡ Some m → (n : Man) × (man_at q k ≡ Some n)
man_of_stock {stock} {q} has k m is =
    let at = stock_number stock k m is in
    let high : k ≤ length q.men = omega (arith, at.high, has.count) in
    let (n, there) = stock_has q.men k at.low high in
    (n, sym (stock_man-men q k) ∙ there)

pub fits_kings : {p : Position} {side : Side} {q : Position} → Fits p side q → KeepsKings p.men (is_live (mask_of q))
fits_kings {q} fits k m is king =
    let (n, at) = man_of_stock fits.stock k m is in
    let same = fits.stock.men k m n is at in
    live_in_mask q k n at ((fits.kings.few n.side).live k n at refl (same.1 ∙ king))

pub fits_gone : {p : Position} {side : Side} {q : Position} → Fits p side q → KeepsGone p.men (is_live (mask_of q))
fits_gone {p} {q} fits k m is on gone =
    let (n, at) = man_of_stock fits.stock k m is in
    live_by_mask q k n at on (fits.none_back k m n (sym (stock_man-men p k) ∙ is) at gone)

pub fits_mask : {p : Position} (side : Side) (q : Position) → Fits p side q → IsGameMask p (mask_of q)
fits_mask {p} side q fits =
    record {
      no_more = subst (λ n. mask_of q < 2 ^ n) fits.stock.count (mask_small q.men);
      live = λ k m is on. fits_gone fits k m (stock_man-men p k ∙ is) on;
      kings = λ k m is king. fits_kings fits k m (stock_man-men p k ∙ is) king;
    }

-- the start is of the game, too
pub sound_fits : {p : Position} → Sound p → Fits p p.turn p
sound_fits {p} sound =
    record {
      stock = record {
        count = refl;
        men = λ k m n is at. let both : Some m ≡ Some n = sym is ∙ stock_man-men p k ∙ at in let same : n ≡ m = cc in (ap (λ (a : Man). a.side) same, ap (λ (a : Man). a.kind) same);
      };
      none_back = λ k m n is at gone. let both : Some m ≡ Some n = sym is ∙ at in let same : n ≡ m = cc in ap (λ (a : Man). a.place) same ∙ gone;
      turn = refl;
      apart = sound.apart;
      kings = sound.kings;
    }

-- no two live men stand on one square after the step
moved_apart : (stock : List Man) (mask : ℕ) {i t : ℕ} {r : Ray} (side turn : Side) (f : ℕ → Square) → IsApart (placed stock (is_live mask) side f)
    → {q : Position} → (h : StepsBy i r t (placed stock (is_live mask) side f) q)
    → IsApart (placed stock (without (is_live mask) t) turn (moved f i h.to))
moved_apart stock mask {i} {t} side turn f apart h a b ma mb z is_a is_b on_a on_b =
    let live : ℕ → Bool = is_live mask in
    let p : Position = placed stock live side f in
    let g : ℕ → Square = moved f i h.to in
    let wa = from_placed stock (without live t) turn g a ma is_a in
    let wb = from_placed stock (without live t) turn g b mb is_b in
    let sa = stands_placed (without live t a) (g a) z (subst (λ m. StandsOn m z) wa.is on_a) in
    let sb = stands_placed (without live t b) (g b) z (subst (λ m. StandsOn m z) wb.is on_b) in
    let la = was_live (live a) a t sa.0 in
    let lb = was_live (live b) b t sb.0 in
    elim (same_number a i) [
      | inl ea ↦ elim (same_number b i) [
        | inl eb ↦ ea ∙ sym eb
        | inr nb ↦
            let here : f b ≡ h.to = sym (moved_other f i b h.to nb) ∙ sb.1 ∙ sym sa.1 ∙ moved_same f i a h.to ea in
            absurd (nobody_there t p h.to h.takes apart b (man_placed live f b wb.man) (placed_man stock live side f b wb.man wb.is_man)
            (stands_at (live b) (f b) lb.0 ∙ ap (λ (y : Square). Some y) here) lb.1)
      ]
      | inr na ↦ elim (same_number b i) [
        | inl eb ↦
            let here : f a ≡ h.to = sym (moved_other f i a h.to na) ∙ sa.1 ∙ sym sb.1 ∙ moved_same f i b h.to eb in
            absurd (nobody_there t p h.to h.takes apart a (man_placed live f a wa.man) (placed_man stock live side f a wa.man wa.is_man)
            (stands_at (live a) (f a) la.0 ∙ ap (λ (y : Square). Some y) here) la.1)
        | inr nb ↦
            let at_a : f a ≡ z = sym (moved_other f i a h.to na) ∙ sa.1 in
            let at_b : f b ≡ z = sym (moved_other f i b h.to nb) ∙ sb.1 in
            apart a b (man_placed live f a wa.man) (man_placed live f b wb.man) z
            (placed_man stock live side f a wa.man wa.is_man) (placed_man stock live side f b wb.man wb.is_man)
            (stands_at (live a) (f a) la.0 ∙ ap (λ (y : Square). Some y) at_a) (stands_at (live b) (f b) lb.0 ∙ ap (λ (y : Square). Some y) at_b)
      ]
    ]

-- who is taken is live, and is no king
pub prey_live : (stock : List Man) (mask : ℕ) (side : Side) (t : ℕ) → IsPrey stock mask side t → 0 < t → is_live mask t ≡ true
prey_live stock mask side zero prey low = absurd (omega (arith, low))
prey_live stock mask side (suc t) prey low = prey.2

prey_no_king : (stock : List Man) (mask : ℕ) (side : Side) (t k : ℕ) (m : Man) → IsPrey stock mask side t → stock_man stock k ≡ Some m → m.kind ≡ King → k ≢ t
prey_no_king stock mask side zero k m prey is king same = let at = stock_number stock k m is in omega (arith, at.low, same)
prey_no_king stock mask side (suc t) k m prey is king same =
    let there : stock_man stock (suc t) ≡ Some m = subst (λ j. stock_man stock j ≡ Some m) same is in
    let both : Some prey.0 ≡ Some m = sym prey.1 ∙ there in
    let who : prey.0 ≡ m = cc in
    prey.4 (ap (λ (a : Man). a.kind) who ∙ king)

-- the mask after the option is one of the game
pub target_mask : {p : Position} {m : ℕ} {o : Opt} → IsGameMask p m → IsOptionOf p.men m o → IsGameMask p (target_of m o)
target_mask {p} {m} {o} h w =
    let alive : 0 < o.taken → is_live m o.taken ≡ true = prey_live p.men m w.man.side o.taken w.is.prey in
    let bits : (k : ℕ) → 0 < k → is_live (target_of m o) k ≡ without (is_live m) o.taken k = λ k low. without_is m o.taken k low alive in
    let less = without_less m o.taken in
    record {
      no_more = omega (arith, less, h.no_more);
      live = λ k a is on.
          let at = stock_number p.men k a (stock_man-men p k ∙ is) in
          h.live k a is (was_live (is_live m k) k o.taken (sym (bits k at.low) ∙ on)).0;
      kings = λ k a is king.
          let in_stock : stock_man p.men k ≡ Some a = stock_man-men p k ∙ is in
          let at = stock_number p.men k a in_stock in
          bits k at.low ∙ kept_live (is_live m k) k o.taken (h.kings k a is king) (prey_no_king p.men m w.man.side o.taken k a w.is.prey in_stock king);
    }

-- what a step by an option leads to
pub record Arrives (p : Position) (side : Side) (m : ℕ) (o : Opt) (r : Position) : Type 0 where
  pub squares : ℕ → Square
  pub is : r ≡ placed p.men (without (is_live m) o.taken) (other side) squares
  pub fits : Fits p (other side) r
  pub mask : mask_of r ≡ target_of m o

pub arrives : {p : Position} {side : Side} {o : Opt} {q r : Position} → HasKings p → Fits p side q
    → IsOptionOfSide p.men (mask_of q) side o → TakesOption o q r → Arrives p side (mask_of q) o r
arrives {p} {side} {o} {q} {r} kings fits (w, his) takes =
    let m : ℕ = mask_of q in
    let live : ℕ → Bool = is_live m in
    let f : ℕ → Square = squares_of q in
    let q_is : placed p.men live w.man.side f ≡ q = ap (λ s. placed p.men live s f) his ∙ fits_placed fits in
    let apart : IsApart (placed p.men live w.man.side f) = subst IsApart (sym q_is) fits.apart in
    let there : TakesOption o (placed p.men live w.man.side f) r = subst (λ x. TakesOption o x r) (sym q_is) takes in
    let steps : StepsBy o.man w.ray o.taken (placed p.men live w.man.side f) r = (takes_is p.men live w.man.side f o w.man w.ray r w.is.is_man w.is.ray).1 there in
    let g : ℕ → Square = moved f o.man steps.to in
    let after : r ≡ placed p.men (without live o.taken) (other w.man.side) g = after_is w.is f apart steps in
    let r_is : r ≡ placed p.men (without live o.taken) (other side) g = after ∙ ap (λ s. placed p.men (without live o.taken) (other s) g) his in
    let game : IsGameMask p (target_of m o) = target_mask (fits_mask side q fits) w in
    let bits : (k : ℕ) → 0 < k → is_live (target_of m o) k ≡ without live o.taken k = λ k low. without_is m o.taken k low (prey_live p.men m w.man.side o.taken w.is.prey) in
    let keeps : KeepsKings p.men (without live o.taken) = λ k a is king. sym (bits k (stock_number p.men k a is).low) ∙ game.kings k a (sym (stock_man-men p k) ∙ is) king in
    let gone : KeepsGone p.men (without live o.taken) = λ k a is on. game.live k a (sym (stock_man-men p k) ∙ is) (bits k (stock_number p.men k a is).low ∙ on) in
    let here : Fits p (other side) (placed p.men (without live o.taken) (other side) g) =
    placed_fits p (without live o.taken) (other side) g
    (moved_apart p.men m w.man.side (other side) f apart steps) kings keeps gone in
    record {
      squares = g;
      is = r_is;
      fits = subst (Fits p (other side)) (sym r_is) here;
      mask = ap mask_of r_is ∙ sym (placed_mask p.men (without live o.taken) (other side) g (target_of m o) game.no_more (λ k low high. bits k low));
    }
