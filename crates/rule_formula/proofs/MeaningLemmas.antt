-- The formulas by the numbers of men and rays.
use Rattle.std.proofs.Common.{◌≡◌, ◌↔◌, ℕ, ◌≤◌, Bool, List, length, Some, ap, subst, sym, ◌∙◌}
use Rattle.game_rules.specs.declared.men.Side.{Side}
use Rattle.game_rules.specs.declared.men.Man.{Man}
use Rattle.game_rules.specs.declared.men.Square.{Square}
use Rattle.game_rules.specs.Game.{IsApart, Position, man_at, other}
use Rattle.lin_formula.specs.Tree.{Tree}
use Rattle.lin_formula.specs.Holds.{Holds, Sets}
use Rattle.track_word.specs.Tracks.{Values}
use Rattle.game_rules.specs.declared.men.Ray.{Ray}
use Rattle.rule_formula.specs.declared.opt.Opt.{Opt}
use Rattle.game_rules.specs.Rays.{ray_of}
use Rattle.rule_formula.specs.Placed.{HoldsApart, IsMember, is_live, placed, without}
use Rattle.game_laws.specs.Stock.{stock_man}
use Rattle.rule_formula.specs.Seats.{squares}
use Rattle.rule_formula.specs.Trees.{bear_of, bear_tree, image_of, image_tree, man_ray, pre_of, pre_tree, ray_at, ray_or_none, safe_of, safe_tree}
use Rattle.rule_formula.specs.Meaning.{BearsAlong, BearHolds, IsBearer, IsBearing, ImageHolds, IsOption, IsOptionOf, PreHolds, IsReached, SafeHolds, Reaches, StepsBy, TakesOption}
use Rattle.rule_formula.proofs.BearLemmas.{man_placed}
use Rattle.rule_formula.proofs.BearTheorem.{bear_holds, safe_holds}
use Rattle.rule_formula.proofs.MoveLemmas.{same_man}
use Rattle.rule_formula.proofs.MoveTheorem.{image_holds, pre_holds}
use Rattle.rule_formula.proofs.PlacedLemmas.{placed_man}

-- a man of the position has the rays of the man of the stock
pub ray_placed : (stock : List Man) (live : ℕ → Bool) (turn : Side) (f : ℕ → Square) (k n : ℕ) (m q : Man) (r y : Ray) → stock_man stock k ≡ Some m
    → man_at (placed stock live turn f) k ≡ Some q → ray_of m.kind m.side n ≡ Some r → ray_of q.kind q.side n ≡ Some y → y ≡ r
ray_placed stock live turn f k n m q r y is at ray his =
    let same : q ≡ man_placed live f k m = same_man stock live turn f k m q is at in
    let there : ray_of q.kind q.side n ≡ Some r = subst (λ (a : Man). ray_of a.kind a.side n ≡ Some r) (sym same) ray in
    let both : Some y ≡ Some r = sym his ∙ there in cc

pub takes_is : (stock : List Man) (live : ℕ → Bool) (turn : Side) (f : ℕ → Square) (o : Opt) (man : Man) (r : Ray) (q : Position)
    → stock_man stock o.man ≡ Some man → ray_of man.kind man.side o.ray ≡ Some r
    → StepsBy o.man r o.taken (placed stock live turn f) q ↔ TakesOption o (placed stock live turn f) q
takes_is stock live turn f o man r q is ray = (
  λ h. record { man = man_placed live f o.man man; ray = r; is_man = placed_man stock live turn f o.man man is; is_ray = ray; steps = h },
  λ h. subst (λ y. StepsBy o.man y o.taken (placed stock live turn f) q) (ray_placed stock live turn f o.man o.ray man h.man r h.ray is h.is_man ray h.is_ray) h.steps,
)

pub image_means : {stock : List Man} {mask : ℕ} (o : Opt) (s : ℕ) {man : Man} {r : Ray} (t : Tree) → length stock ≤ 8
    → IsOption stock mask o.man o.ray o.taken man r → t ≡ image_tree (length stock) mask o.man r o.taken s → (e : Sets)
    → ImageHolds e stock mask o s t
image_means {stock} {mask} o s {man} {r} t short is tree e man' v is' apart =
    let both : Some man ≡ Some man' = sym is.is_man ∙ is' in
    let same : man ≡ man' = cc in
    let here : HoldsApart e s stock (is_live mask) man.side = subst (λ (m : Man). HoldsApart e s stock (is_live mask) m.side) (sym same) apart in
    let main = image_holds short is s e v here in
    let takes = λ (f : ℕ → Square). takes_is stock (is_live mask) man.side f o man r (placed stock (without (is_live mask) o.taken) (other man.side) (squares v)) is.is_man is.ray in
    let told : Holds t e v ↔ IsReached e s stock mask man.side o (placed stock (without (is_live mask) o.taken) (other man.side) (squares v)) = (
      λ h. let (f, member, steps) = main.0 (subst (λ t. Holds t e v) tree h) in (f, member, (takes f).0 steps),
      λ (f, member, steps). subst (λ t. Holds t e v) (sym tree) (main.1 (f, member, (takes f).1 steps)),
    )
    in
    subst (λ (m : Man). Holds t e v ↔ IsReached e s stock mask m.side o (placed stock (without (is_live mask) o.taken) (other m.side) (squares v))) same told

pub bear_means : {stock : List Man} {mask k n g : ℕ} (s : ℕ) {man target : Man} {r : Ray} (t : Tree) → IsBearing stock mask k n g man target r
    → t ≡ bear_tree (length stock) mask k r g s → (e : Sets) → BearHolds e stock mask k n g s t
bear_means {stock} {mask} {k} {n} {g} s {man} {r} t is tree e turn v =
    let main = bear_holds turn is s e v in (
      λ h.
          let w = main.0 (subst (λ t. Holds t e v) tree h) in
          (w.0, record { man = man_placed (is_live mask) (squares v) k man; ray = r; is_man = placed_man stock (is_live mask) turn (squares v) k man is.is_man; is_ray = is.ray; bears = w.1 }),
      λ h.
          let same : h.1.ray ≡ r = ray_placed stock (is_live mask) turn (squares v) k n man h.1.man r h.1.ray is.is_man h.1.is_man is.ray h.1.is_ray in
          subst (λ t. Holds t e v) (sym tree) (main.1 (h.0, subst (λ y. BearsAlong y k g (placed stock (is_live mask) turn (squares v))) same h.1.bears)),
    )

-- pre, at values whose position has its live men on distinct squares if it is in the set
pub pre_at : {stock : List Man} {mask : ℕ} (o : Opt) (s q : ℕ) {man : Man} {r : Ray} (t : Tree) → length stock ≤ 8
    → IsOption stock mask o.man o.ray o.taken man r → t ≡ pre_tree (length stock) mask o.man r o.taken s q → (e : Sets) (v : Values)
    → (IsMember e s (placed stock (is_live mask) man.side (squares v)) → IsApart (placed stock (is_live mask) man.side (squares v)))
    → Holds t e v
    ↔ (IsMember e s (placed stock (is_live mask) man.side (squares v))
    × Reaches e q stock mask man.side o (placed stock (is_live mask) man.side (squares v)))
pre_at {stock} {mask} o s q {man} {r} t short is tree e v apart =
    let main = pre_holds short is s q e v apart in
    let takes = λ (g : ℕ → Square). takes_is stock (is_live mask) man.side (squares v) o man r (placed stock (without (is_live mask) o.taken) (other man.side) g) is.is_man is.ray in (
      λ h. let (member, (g, there, steps)) = main.0 (subst (λ t. Holds t e v) tree h) in (member, (g, there, (takes g).0 steps)),
      λ (member, (g, there, steps)). subst (λ t. Holds t e v) (sym tree) (main.1 (member, (g, there, (takes g).1 steps))),
    )

pub pre_means : {stock : List Man} {mask : ℕ} (o : Opt) (s q : ℕ) {man : Man} {r : Ray} (t : Tree) → length stock ≤ 8
    → IsOption stock mask o.man o.ray o.taken man r → t ≡ pre_tree (length stock) mask o.man r o.taken s q → (e : Sets)
    → PreHolds e stock mask o s q t
pre_means {stock} {mask} o s q {man} t short is tree e man' v is' apart =
    let both : Some man ≡ Some man' = sym is.is_man ∙ is' in
    let same : man ≡ man' = cc in
    let here : HoldsApart e s stock (is_live mask) man.side = subst (λ (m : Man). HoldsApart e s stock (is_live mask) m.side) (sym same) apart in
    let told = pre_at o s q t short is tree e v (here (squares v)) in
    subst (λ (m : Man). Holds t e v ↔ (IsMember e s (placed stock (is_live mask) m.side (squares v)) × Reaches e q stock mask m.side o (placed stock (is_live mask) m.side (squares v)))) same told

pub safe_means : {stock : List Man} {mask k n g : ℕ} (s : ℕ) {man target : Man} {r : Ray} (t : Tree) → IsBearing stock mask k n g man target r
    → t ≡ safe_tree (length stock) mask k r g s → (e : Sets) → SafeHolds e stock mask k n g s t
safe_means {stock} {mask} {k} {n} {g} s {man} {r} t is tree e turn v =
    let main = safe_holds turn is s e v in (
      λ h.
          let w = main.0 (subst (λ t. Holds t e v) tree h) in (
            w.0,
            λ b.
                let same : b.ray ≡ r = ray_placed stock (is_live mask) turn (squares v) k n man b.man r b.ray is.is_man b.is_man is.ray b.is_ray in
                w.1 (subst (λ y. BearsAlong y k g (placed stock (is_live mask) turn (squares v))) same b.bears),
          ),
      λ h.
          subst (λ t. Holds t e v) (sym tree)
          (main.1 (
            h.0,
            λ b. h.1 (record {
              man = man_placed (is_live mask) (squares v) k man;
              ray = r;
              is_man = placed_man stock (is_live mask) turn (squares v) k man is.is_man;
              is_ray = is.ray;
              bears = b;
            }),
          )),
    )

-- where the man has that ray, it is his
pub ray_at_is : (stock : List Man) (k n : ℕ) (m : Man) (r : Ray) → stock_man stock k ≡ Some m → ray_of m.kind m.side n ≡ Some r → r ≡ ray_at stock k n
ray_at_is stock k n m r is ray = sym (ap (man_ray n) is ∙ ap ray_or_none ray)

pub image_told : {stock : List Man} {mask : ℕ} {o : Opt} (s : ℕ) (t : Tree) → length stock ≤ 8
    → IsOptionOf stock mask o → t ≡ image_of stock mask o s → (e : Sets) → ImageHolds e stock mask o s t
image_told {stock} {mask} {o} s t few w is =
    image_means o s t few w.is
    (is ∙ ap (λ r. image_tree (length stock) mask o.man r o.taken s) (sym (ray_at_is stock o.man o.ray w.man w.ray w.is.is_man w.is.ray)))

pub pre_told : {stock : List Man} {mask : ℕ} {o : Opt} (s q : ℕ) (t : Tree) → length stock ≤ 8
    → IsOptionOf stock mask o → t ≡ pre_of stock mask o s q → (e : Sets) → PreHolds e stock mask o s q t
pre_told {stock} {mask} {o} s q t few w is =
    pre_means o s q t few w.is
    (is ∙ ap (λ r. pre_tree (length stock) mask o.man r o.taken s q) (sym (ray_at_is stock o.man o.ray w.man w.ray w.is.is_man w.is.ray)))

pub pre_told_at : {stock : List Man} {mask : ℕ} {o : Opt} (s q : ℕ) → length stock ≤ 8 → (w : IsOptionOf stock mask o) → (e : Sets) (v : Values)
    → (IsMember e s (placed stock (is_live mask) w.man.side (squares v)) → IsApart (placed stock (is_live mask) w.man.side (squares v)))
    → Holds (pre_of stock mask o s q) e v
    ↔ (IsMember e s (placed stock (is_live mask) w.man.side (squares v))
    × Reaches e q stock mask w.man.side o (placed stock (is_live mask) w.man.side (squares v)))
pre_told_at {stock} {mask} {o} s q few w e v apart =
    pre_at o s q (pre_of stock mask o s q) few w.is
    (ap (λ r. pre_tree (length stock) mask o.man r o.taken s q) (sym (ray_at_is stock o.man o.ray w.man w.ray w.is.is_man w.is.ray))) e v apart

pub bear_told : {stock : List Man} {mask k n g : ℕ} (s : ℕ) (t : Tree) → IsBearer stock mask k n g → t ≡ bear_of stock mask k n g s → (e : Sets) → BearHolds e stock mask k n g s t
bear_told {stock} {mask} {k} {n} {g} s t w is =
    bear_means s t w.is
    (is ∙ ap (λ r. bear_tree (length stock) mask k r g s) (sym (ray_at_is stock k n w.man w.ray w.is.is_man w.is.ray)))

pub safe_told : {stock : List Man} {mask k n g : ℕ} (s : ℕ) (t : Tree) → IsBearer stock mask k n g → t ≡ safe_of stock mask k n g s → (e : Sets) → SafeHolds e stock mask k n g s t
safe_told {stock} {mask} {k} {n} {g} s t w is =
    safe_means s t w.is
    (is ∙ ap (λ r. safe_tree (length stock) mask k r g s) (sym (ray_at_is stock k n w.man w.ray w.is.is_man w.is.ray)))
