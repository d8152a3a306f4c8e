use Rattle.std.proofs.Common.{◌<◌, ◌-◌, ◌^◌, length, arith}
use Rattle.lin_formula.specs.TreeOf.{tree_of}
use Rattle.formula_auto.proofs.MemoLemmas.{memo-entered, after-entered, last-entered, after-full}
use Rattle.formula_auto.proofs.memo.Memo.enter.Goals as goal

pub invariant_of-self-2 : goal.invariant_of-self-2
invariant_of-self-2 c =
    let room : length c.args.self.now.entries < 2 ^ 32 - 1 = omega (arith, c.if-kept.false, c.kept-kept.ensures.count, c.kept-kept.ensures.valid.few) in
    memo-entered c.self.inside.shorts c.self.inside.found c.self.inside.entries.items c.push.new.self.items c.args.self.now
    (record { formula = c.in_ok-copy.field-0; auto = c.args.auto }) (tree_of c.args.f.now)
    c.self.view_is c.in_ok-push.ensures.items room c.in_ok-copy.ensures c.self.invariant c.requires.entry

pub returns-clause-ok : goal.returns-clause-ok
returns-clause-ok c =
    let room : length c.args.self.now.entries < 2 ^ 32 - 1 = omega (arith, c.if-kept.false, c.kept-kept.ensures.count, c.kept-kept.ensures.valid.few) in
    after-entered c.self.inside.shorts c.self.inside.found c.self.inside.entries.items c.push.new.self.items c.args.self.now
    (record { formula = c.in_ok-copy.field-0; auto = c.args.auto }) (tree_of c.args.f.now)
    c.self.view_is c.in_ok-push.ensures.items room c.in_ok-copy.ensures c.requires.unknown

pub returns-clause-part : goal.returns-clause-part
returns-clause-part c = λ meets.
    let room : length c.args.self.now.entries < 2 ^ 32 - 1 = omega (arith, c.if-kept.false, c.kept-kept.ensures.count, c.kept-kept.ensures.valid.few) in
    last-entered c.self.inside.shorts c.self.inside.found c.self.inside.entries.items c.push.new.self.items c.args.self.now
    (record { formula = c.in_ok-copy.field-0; auto = c.args.auto }) (tree_of c.args.f.now)
    c.self.view_is c.in_ok-push.ensures.items room c.in_ok-copy.ensures c.kept-kept.result c.kept-kept.ensures.count

pub returns-then-kept-clause-ok : goal.returns-then-kept-clause-ok
returns-then-kept-clause-ok c = after-full c.args.self.now (tree_of c.args.f.now) (omega (arith, c.if-kept.true, c.kept-kept.ensures.count)) c.requires.unknown
