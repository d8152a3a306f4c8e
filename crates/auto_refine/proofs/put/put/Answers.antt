use Rattle.std.proofs.Common.{arith, ◌≡◌, ◌<◌, length, get_or, subst, inr, refl}
use Rattle.std.proofs.lemmas.Grind.{common_steps}
use Rattle.std.proofs.lemmas.List.{get_or_read}
use Rattle.auto_refine.proofs.Stales.{IsPutTo, IsPut-from, IsPutTo-set}
use Rattle.auto_refine.proofs.put.put.Goals as goal

pub loop-i-init : goal.loop-i-init
loop-i-init g c = record {
  size = refl;
  each = λ place within. inr ((λ turn less. absurd (omega (arith, less))), λ d. refl);
}

pub loop-i-preserved : goal.loop-i-preserved
loop-i-preserved g c =
    let places = c.args.places.now in
    let values = c.args.values.now in
    let list = c.loop-i.list in
    let i = c.loop-i.i in
    let within = c.requires.within i 0 c.loop-i-test.true in
    let size = c.loop-i.invariant.size in
    let known : get_or places i 0 < length list = omega (arith, within, size) in
    let inside : i < length values = omega (arith, c.loop-i-test.true, c.requires.same) in
    let value = get_or_read values i c.index-values-i.result inside c.index-values-i.is in
    record {
      size = grind (arith, common_steps);
      each = λ place low. IsPutTo-set c.args.list.now places values list i (get_or places i 0) c.index-values-i.result place known refl value (c.loop-i.invariant.each place low);
    }

pub returns : goal.returns
returns g c =
    let end : c.loop-i.i ≡ length c.args.places.now = (let to = c.loop-i.auto.i-end in omega (arith, to, c.loop-i-test.false)) in
    IsPut-from c.args.list.now c.args.places.now c.args.values.now c.loop-i.list c.loop-i.invariant.size
    (λ place within. subst (λ turns. IsPutTo c.args.list.now c.args.places.now c.args.values.now c.loop-i.list turns place) end (c.loop-i.invariant.each place within))
