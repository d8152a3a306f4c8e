-- The square of the loser's king after a step.
use Rattle.std.proofs.Common.{◌≡◌, ◌≢◌, ℕ, zero, suc, ◌<◌, ◌≤◌, ◌+◌, ◌==◌, ℤ, pos, ◌+ℤ◌, ◌*ℤ◌, Bool, true, false, List, [], ◌∷◌, Some, refl, sym, ap, ◌∙◌, subst, arith}
use Rattle.std.specs.Prelude.{Contains, slice_get}
use Rattle.std.proofs.lemmas.Bool.{eqb-true, eq-eqb}
use Rattle.std.proofs.lemmas.Int.{ints}
use Rattle.std.proofs.lemmas.Option.{slice_get_within}
use Rattle.game_rules.specs.Game.{HasKings, HasOneKing, IsAfter, Position, StandsOn, man_at}
use Rattle.game_rules.specs.Rays.{ray_of, rays_of}
use Rattle.game_rules.specs.declared.men.Kind.{Kind}
use Rattle.game_rules.specs.declared.men.Kind.TheVariants.{King}
use Rattle.game_rules.specs.declared.men.Man.{Man}
use Rattle.game_rules.specs.declared.men.Place.TheVariants.{Gone, At}
use Rattle.game_rules.specs.declared.men.Ray.{Ray}
use Rattle.game_rules.specs.declared.men.Side.{Side}
use Rattle.game_rules.specs.declared.men.Square.{Square}
use Rattle.game_laws.proofs.LineLemmas.{square_is}
use Rattle.game_laws.proofs.SoundLemmas.{Fate, at_same, fate, fate_kind, fate_side}
use Rattle.game_laws.specs.Stock.{HasStock, stock_man}
use Rattle.game_laws.proofs.StockLemmas.{stock_man-men}
use Rattle.rule_formula.specs.declared.opt.Opt.{Opt}
use Rattle.rule_formula.specs.Bearings.{king_number}
use Rattle.rule_formula.specs.Meaning.{TakesOption}
use Rattle.rule_formula.specs.Trees.{ray_at, ray_or_none}
use Rattle.rule_formula.proofs.BearingTheorem.{king_is}
use Rattle.set_plan.proofs.Takings.{contains_head, contains_rest}
use Rattle.table_plan.specs.Table.{king_rays, numbers_from}
use Rattle.table_plan.specs.TableMeans.{KingStandsOn, origin}

-- the king keeps his square if another man steps and the king is not captured
pub king_stays : {s : Side} {i : ℕ} {z : Square} {q r : Position} (o : Square) → IsAfter q i z r → HasOneKing r s
    → ((k : ℕ) (m : Man) → man_at q k ≡ Some m → m.side ≡ s → m.kind ≡ King → k ≢ i) → KingStandsOn s o q → KingStandsOn s o r
king_stays {s} {i} {z} {q} {r} o after had off stands k n is his sort =
    let (m, was) = at_same r q k n (sym after.same_count) is in
    let f : Fate i z k m n = fate after k m n was is in
    let side : m.side ≡ s = fate_side f ∙ his in
    let kind : m.kind ≡ King = fate_kind f ∙ sort in
    let before : StandsOn m o = stands k m was side kind in
    let number : k ≡ had.number = had.only k n is his sort in
    let there : man_at r k ≡ Some had.king = subst (λ j. man_at r j ≡ Some had.king) (sym number) had.is_man in
    let both : Some n ≡ Some had.king = sym is ∙ there in
    let same : n ≡ had.king = cc in
    by f (off k m was side kind) before (λ gone. had.live (ap (λ (a : Man). a.place) (sym same) ∙ gone))
  where
    by : {m n : Man} → Fate i z k m n → k ≢ i → StandsOn m o → (n.place ≡ Gone → ⊥) → StandsOn n o
    by (Fate.moved e is) ne st alive = absurd (ne e)
    by (Fate.taken e s is) ne st alive = absurd (alive (ap (λ (a : Man). a.place) is))
    by (Fate.kept s is) ne st alive = subst (λ a. StandsOn a o) (sym is) st

-- a position of the stock with kings has the king of the stock
pub king_in : {p q : Position} {s : Side} → HasOneKing p s → HasStock p.men q → HasKings q → HasOneKing q s
king_in {p} {q} {s} had has kings =
    let (n, is_n) = at_same p q had.number had.king has.count had.is_man in
    let alike = has.men had.number had.king n (stock_man-men p had.number ∙ had.is_man) is_n in
    let his : n.side ≡ s = alike.0 ∙ had.is_king.0 in
    let sort : n.kind ≡ King = alike.1 ∙ had.is_king.1 in
    record {
      number = had.number;
      king = n;
      is_man = is_n;
      is_king = (his, sort);
      live = (kings.few s).live had.number n is_n his sort;
      only = λ k m is side kind. (kings.few s).only k had.number m n is is_n side his kind sort;
    }

-- each king of the stock has the king's number
pub king_numbered : (p : Position) (s : Side) → HasOneKing p s → (q : Position) → HasStock p.men q → (k : ℕ) (n : Man) → man_at q k ≡ Some n → n.side ≡ s
    → n.kind ≡ King → k ≡ king_number p.men s
king_numbered p s had q has k n is his sort =
    let (m, was) = at_same q p k n (sym has.count) is in
    let alike = has.men k m n (stock_man-men p k ∙ was) is in
    had.only k m was (sym alike.0 ∙ his) (sym alike.1 ∙ sort) ∙ sym (king_is had)

abbrev AllNear : List Ray → Type 0
AllNear [] = Unit {0}
AllNear (r ∷ rays) = (r.far ≡ false) × AllNear rays

near_get : (rays : List Ray) (n : ℕ) (r : Ray) → AllNear rays → slice_get rays n ≡ Some r → r.far ≡ false
near_get [] n r all is = absurd (cc)
near_get (a ∷ rays) zero r all is =
    let there : Some a ≡ Some r = is in
    let same : a ≡ r = cc in ap (λ (b : Ray). b.far) (sym same) ∙ all.0
near_get (a ∷ rays) (suc n) r all is = near_get rays n r all.1 is

kings_near : (s : Side) → AllNear (rays_of King s)
kings_near s = (refl, (refl, (refl, (refl, (refl, (refl, (refl, (refl, tt))))))))

king_ray_within : (s : Side) (n : ℕ) (r : Ray) → ray_of King s n ≡ Some r → n < 8
king_ray_within s n r is = slice_get_within (rays_of King s) n r is

numbers_in : (count k n : ℕ) → k ≤ n → n < k + count → Contains (numbers_from k count) n
numbers_in zero k n low high = absurd (omega (arith, low, high))
numbers_in (suc count) k n low high =
    by (k == n) refl (λ off. numbers_in count (suc k) n (omega (arith, low, off)) (omega (arith, high)))
  where
    by : (b : Bool) → k == n ≡ b → (k ≢ n → Contains (numbers_from (suc k) count) n) → Contains (k ∷ numbers_from (suc k) count) n
    by true e later = subst (λ j. Contains (k ∷ numbers_from (suc k) count) j) (eqb-true k n e) (contains_head k (numbers_from (suc k) count))
    by false e later =
        let off : k ≢ n = λ same. (let t : k == n ≡ true = eq-eqb k n same in cc) in
        contains_rest k (numbers_from (suc k) count) n (later off)

ray_in : (n : ℕ) → n < 8 → Contains king_rays n
ray_in n less = numbers_in 8 0 n (omega arith) (omega (arith, less))

-- the square to which a ray leads from 0 0 in one step
abbrev pub end_of : Ray → Square
end_of r = record { x = r.dx; y = r.dy }

-- what a step of the king by an option does
pub record KingGoes (p : Position) (s : Side) (o : Opt) (r : Position) : Type 0 where
  pub listed : Contains king_rays o.ray
  pub stands : KingStandsOn s (end_of (ray_at p.men (king_number p.men s) o.ray)) r

one_step : (a : Square) (k : ℕ) (dx dy : ℤ) (z : Square) → k ≡ 1 → a ≡ origin → z ≡ record { x = a.x +ℤ (pos k *ℤ dx); y = a.y +ℤ (pos k *ℤ dy) } → z ≡ record { x = dx; y = dy }
one_step a k dx dy z one at leads =
    let ax : a.x ≡ pos 0 = ap (λ (b : Square). b.x) at in
    let ay : a.y ≡ pos 0 = ap (λ (b : Square). b.y) at in
    let zx : z.x ≡ a.x +ℤ (pos k *ℤ dx) = ap (λ (b : Square). b.x) leads in
    let zy : z.y ≡ a.y +ℤ (pos k *ℤ dy) = ap (λ (b : Square). b.y) leads in
    let kx : pos k *ℤ dx ≡ pos 1 *ℤ dx = ap (λ j. pos j *ℤ dx) one in
    let ky : pos k *ℤ dy ≡ pos 1 *ℤ dy = ap (λ j. pos j *ℤ dy) one in
    square_is z dx dy (omega (arith, ints, ax, zx, kx)) (omega (arith, ints, ay, zy, ky))

pub king_goes : (p : Position) (s : Side) → HasOneKing p s → (o : Opt) (q r : Position) → HasStock p.men q → HasStock p.men r → o.man ≡ king_number p.men s
    → TakesOption o q r → KingStandsOn s origin q → KingGoes p s o r
king_goes p s had o q r has_q has_r is_king takes stands =
    let king : ℕ = king_number p.men s in
    let at_o : o.man ≡ had.number = is_king ∙ king_is had in
    let stock_o : stock_man p.men o.man ≡ Some had.king = ap (stock_man p.men) at_o ∙ (stock_man-men p had.number ∙ had.is_man) in
    let alike = has_q.men o.man had.king takes.man stock_o takes.is_man in
    let side : takes.man.side ≡ s = alike.0 ∙ had.is_king.0 in
    let sort : takes.man.kind ≡ King = alike.1 ∙ had.is_king.1 in
    let ray_is : ray_of King s o.ray ≡ Some takes.ray = sym (ap (λ (k : Kind). ray_of k s o.ray) sort) ∙ (sym (ap (λ (t : Side). ray_of takes.man.kind t o.ray) side) ∙ takes.is_ray) in
    let near : takes.ray.far ≡ false = near_get (rays_of King s) o.ray takes.ray (kings_near s) ray_is in
    let ray_had : ray_of had.king.kind had.king.side o.ray ≡ Some takes.ray = ap (λ (k : Kind). ray_of k had.king.side o.ray) had.is_king.1 ∙ (ap (λ (t : Side). ray_of King t o.ray) had.is_king.0 ∙ ray_is) in
    let at_king : ray_at p.men king o.ray ≡ takes.ray =
    ap (λ k. ray_at p.men k o.ray) (sym is_king) ∙ (ray_at_man p.men o.man o.ray had.king stock_o ∙ ap ray_or_none ray_had) in
    let steps = takes.steps in
    let both : Some takes.man ≡ Some steps.man = sym takes.is_man ∙ steps.is_man in
    let same : takes.man ≡ steps.man = cc in
    let on_it : StandsOn takes.man steps.from = subst (λ m. StandsOn m steps.from) (sym same) steps.stands in
    let at_origin : StandsOn takes.man origin = stands o.man takes.man takes.is_man side sort in
    let two : Some steps.from ≡ Some origin = sym on_it ∙ at_origin in
    let from_is : steps.from ≡ origin = cc in
    let along = steps.along.1 in
    let to_is : steps.to ≡ end_of takes.ray = one_step steps.from steps.along.0 takes.ray.dx takes.ray.dy steps.to (along.one near) from_is along.leads in
    record {
      listed = ray_in o.ray (king_ray_within s o.ray takes.ray ray_is);
      stands = λ k n is his kind.
          let number : k ≡ o.man = king_numbered p s had r has_r k n is his kind ∙ sym is_king in
          let arrived : man_at r k ≡ Some (record takes.man { place = At steps.to.x steps.to.y }) =
          subst (λ j. man_at r j ≡ Some (record takes.man { place = At steps.to.x steps.to.y })) (sym number) (steps.step.after.mover takes.man takes.is_man) in
          let now : Some n ≡ Some (record takes.man { place = At steps.to.x steps.to.y }) = sym is ∙ arrived in
          let n_is : n ≡ record takes.man { place = At steps.to.x steps.to.y } = cc in
          let there : StandsOn n steps.to = subst (λ a. StandsOn a steps.to) (sym n_is) refl in
          subst (λ z. StandsOn n z) (to_is ∙ ap end_of (sym at_king)) there;
    }
  where
    ray_at_man : (men : List Man) (k n : ℕ) (m : Man) → stock_man men k ≡ Some m → ray_at men k n ≡ ray_or_none (ray_of m.kind m.side n)
    ray_at_man men k n m is = rw is refl
