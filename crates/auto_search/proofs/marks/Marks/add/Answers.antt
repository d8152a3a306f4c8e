use Rattle.std.proofs.Common.{◌<◌, length, arith, ap}
use Rattle.std.proofs.lemmas.List.{get_or_read}
use Rattle.auto_search.proofs.MarkLemmas.{IsMarked-set}
use Rattle.auto_search.proofs.marks.Marks.add.Goals as goal

pub returns-then-cell-len-clause-marked : goal.returns-then-cell-len-clause-marked
returns-then-cell-len-clause-marked c =
    let failed = c.list.new.self.failed.items in
    let same = ap length c.list.ensures.failed in
    let inside : c.args.cell < length failed = let h = c.if-cell-len.true in omega (arith, h, same) in
    let read = get_or_read failed c.args.cell c.index_mut.result.now inside c.index_mut.ensures.value 0 in
    let marked = IsMarked-set failed c.args.cell c.args.slot (let s = c.requires.slot in omega (arith, s)) inside in
    rw (← c.list.ensures.failed) (rw (← read) at marked)
