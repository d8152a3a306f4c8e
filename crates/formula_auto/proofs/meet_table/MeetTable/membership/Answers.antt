use Rattle.std.proofs.Common.{◌≡◌, refl, sym, ap, ◌∙◌, subst}
use Rattle.std.proofs.lemmas.Slice.Eq.{slice_eq-Decides}
use Rattle.lin_formula.specs.Tree.{Among}
use Rattle.lin_formula.specs.SetOf.{as_set, tables, members}
use Rattle.lin_formula.proofs.Equality.{same_var}
use Rattle.formula_auto.specs.Decides.{Decides}
use Rattle.formula_auto.proofs.Atoms.{Decides-itself}
use Rattle.formula_auto.proofs.Rooms.{set_fits, set_reached}
use Rattle.formula_auto.proofs.meet_table.MeetTable.membership.Goals as goal

pub membership-requires-clause-size : goal.membership-requires-clause-size
membership-requires-clause-size c =
    (set_fits c.args.self.now.sets c.args.set.0 c.args.vars.now c.requires c.named-named.result.now c.named-named.ensures).0

pub membership-requires-clause-integers : goal.membership-requires-clause-integers
membership-requires-clause-integers c =
    (set_fits c.args.self.now.sets c.args.set.0 c.args.vars.now c.requires c.named-named.result.now c.named-named.ensures).1

pub membership-requires-clause-reached : goal.membership-requires-clause-reached
membership-requires-clause-reached c = set_reached c.args.self.now.sets c.args.set.0 c.args.vars.now c.requires c.named-named.result.now c.named-named.ensures

pub returns-then-eq : goal.returns-then-eq
returns-then-eq c =
    let set = c.named-named.result.now in
    let fits = set_fits c.args.self.now.sets c.args.set.0 c.args.vars.now c.requires set c.named-named.ensures in
    let same : set.tracks ≡ c.args.vars.now =
    sym c.tracks.ensures.tracks ∙ (slice_eq-Decides same_var c.tracks.result.now c.args.vars.now c.eq.result c.eq.ensures).0 c.if-eq.true in
    let decides =
    Decides-itself (tables c.args.self.now.sets) c.args.set.0 (ap as_set c.named-named.ensures) fits.1 c.tracks.ensures.valid.ascending in
    record {
      auto = set;
      has = λ _. c.named-named.ensures;
      reached = set_reached c.args.self.now.sets c.args.set.0 c.args.vars.now c.requires set c.named-named.ensures;
      decides = subst (λ vars. Decides set (Among c.args.set.0 vars) (members (tables c.args.self.now.sets))) same decides;
    }

pub returns : goal.returns
returns c = record {
  auto = c.in_ok-renamed.renamed;
  has = λ _. refl;
  reached = c.in_ok-renamed.ensures.reached;
  decides = c.in_ok-renamed.ensures.decides (tables c.args.self.now.sets) c.args.set.0 (ap as_set c.named-named.ensures);
}
