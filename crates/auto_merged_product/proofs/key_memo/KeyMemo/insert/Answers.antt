use Rattle.auto_merged_product.proofs.KeyMemos.{AddsKey-slot}
use Rattle.auto_merged_product.proofs.key_memo.KeyMemo.insert.Goals as goal

pub returns-in_err-add : goal.returns-in_err-add
returns-in_err-add c = AddsKey-slot c.in-Some.ensures c.add.ensures

pub returns-in_ok-add : goal.returns-in_ok-add
returns-in_ok-add c = AddsKey-slot c.in-Some.ensures c.add.ensures
