-- The ways of options and bearings along rays.
use Rattle.std.proofs.Common.{◌≡◌, ℕ, zero, suc, ◌≤◌, List, length, subst, ap, ◌∙◌, arith}
use Rattle.game_rules.specs.declared.men.Man.{Man}
use Rattle.game_rules.specs.declared.men.Ray.{Ray}
use Rattle.game_rules.specs.declared.men.Side.{Side}
use Rattle.lin_formula.specs.Tree.{Tree}
use Rattle.rule_formula.specs.declared.opt.Opt.{Opt}
use Rattle.rule_formula.specs.Meaning.{IsBearer, IsOptionOf, IsPrey}
use Rattle.rule_formula.specs.Paths.{HasJourney, IsJourney, IsRayStep}
use Rattle.rule_formula.specs.Trees.{ray_at}
use Rattle.rule_formula.proofs.BearLemmas.{IsNumber, stock_number}
use Rattle.rule_formula.proofs.KindLemmas.{ray_step}
use Rattle.rule_formula.proofs.MeaningLemmas.{ray_at_is}
use Rattle.rule_formula.proofs.MoveLemmas.{option_untaken}

prey_number : (stock : List Man) (mask t : ℕ) (side : Side) → IsPrey stock mask side t → t ≤ length stock
prey_number stock mask zero side h = omega arith
prey_number stock mask (suc t) side h = (stock_number stock (suc t) h.0 h.1).high

pub option_journey : {stock : List Man} {mask : ℕ} {o : Opt} → IsOptionOf stock mask o → HasJourney stock o.man o.ray o.taken
option_journey {stock} {mask} {o} w =
    record {
      man = w.man;
      ray = w.ray;
      is_man = w.is.is_man;
      is_ray = w.is.ray;
      taken = prey_number stock mask o.taken w.man.side w.is.prey;
      apart = option_untaken w.is;
    }

pub bearer_journey : {stock : List Man} {mask k n g : ℕ} → IsBearer stock mask k n g → HasJourney stock k n g
bearer_journey {stock} {g = g} w =
    record {
      man = w.man;
      ray = w.ray;
      is_man = w.is.is_man;
      is_ray = w.is.ray;
      taken = (stock_number stock g w.target w.is.is_target).high;
      apart = w.is.apart;
    }

pub journey_step : {stock : List Man} {i n t : ℕ} → HasJourney stock i n t → IsRayStep (ray_at stock i n).dx (ray_at stock i n).dy
journey_step {stock} {i} {n} w =
    subst (λ (r : Ray). IsRayStep r.dx r.dy) (ray_at_is stock i n w.man w.ray w.is_man w.is_ray) (ray_step w.man.side w.man.kind n w.ray w.is_ray)

-- in a stock of at most eight
pub journey_is : {stock : List Man} {i n t : ℕ} → length stock ≤ 8 → HasJourney stock i n t → IsJourney i (ray_at stock i n) t
journey_is {stock} {i} {n} {t} few w =
    let number : IsNumber stock i = stock_number stock i w.man w.is_man in
    record {
      low = omega (arith, number.low);
      high = omega (arith, number.high, few);
      taken = omega (arith, w.taken, few);
      apart = w.apart;
      step = journey_step w;
    }

-- a tree by what the code puts together
pub tree_at : (make : ℕ → ℕ → ℕ → Ray → ℕ → Tree) (f : Tree) (n m i t : ℕ) (r : Ray) (count mask man taken : ℕ) (ray : Ray) → f ≡ make n m i r t
    → n ≡ count → m ≡ mask → i ≡ man → r ≡ ray → t ≡ taken → f ≡ make count mask man ray taken
tree_at make f n m i t r count mask man taken ray is count_is mask_is man_is ray_is taken_is =
    is ∙ ap (λ n. make n m i r t) count_is ∙ ap (λ m. make count m i r t) mask_is ∙ ap (λ i. make count mask i r t) man_is
    ∙ ap (λ r. make count mask man r t) ray_is ∙ ap (λ t. make count mask man ray t) taken_is
