use Rattle.std.proofs.Common.{◌<◌, length, arith}
use Rattle.std.proofs.lemmas.List.{get_or_default}
use Rattle.auto_numbers.proofs.MaskLemmas.{mask-set, mask-clear}
use Rattle.auto_numbers.proofs.outlook.Outlook.leads.Goals as goal

pub returns-clause-some : goal.returns-clause-some
returns-clause-some c =
    let masks = c.args.self.now.masks.items in
    let are = c.args.self.now.are in
    let size = are.size in
    let known = c.requires.known in
    let inside : c.args.state < length masks = omega (arith, size, known) in
    let is = are.each c.args.state known in
    mask-set (rw (get_or_default masks c.args.state 0 c.index.result.now inside, ← c.index.ensures) at is) c.args.bits c.requires.bits

pub returns-clause-none : goal.returns-clause-none
returns-clause-none c =
    let masks = c.args.self.now.masks.items in
    let are = c.args.self.now.are in
    let size = are.size in
    let known = c.requires.known in
    let inside : c.args.state < length masks = omega (arith, size, known) in
    let is = are.each c.args.state known in
    mask-clear (rw (get_or_default masks c.args.state 0 c.index.result.now inside, ← c.index.ensures) at is) c.args.bits c.requires.bits
