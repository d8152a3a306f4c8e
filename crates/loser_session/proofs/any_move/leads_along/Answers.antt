use Rattle.std.proofs.Common.{subst, sym}
use Rattle.auto_search.specs.Fews.{HasFew}
use Rattle.auto_search.specs.declared.few.Few.{Few}
use Rattle.move_choice.specs.Along.{LeadsAnywhere}
use Rattle.mask_sets.specs.Sets.{IsIn}
use Rattle.loser_session.proofs.any_move.leads_along.Goals as goal

pub returns-in-Zero-clause-none : goal.returns-in-Zero-clause-none
returns-in-Zero-clause-none c = λ e distance w.
    let a = c.args.aim.now in
    let h = c.his_ray-his.result in
    let his = c.his_ray-his.ensures in
    let none = subst (λ (f : Few). HasFew f (LeadsAnywhere (IsIn a.sets.now) a.position.now h.man h.number)) c.in-Zero.is c.count_along.ensures.few in
    none distance
    (subst (λ n. LeadsAnywhere (IsIn a.sets.now) a.position.now h.man n distance) (sym his.number)
    (subst (λ i. LeadsAnywhere (IsIn a.sets.now) a.position.now i c.args.number distance) (sym his.man) w))
