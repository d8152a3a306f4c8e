use Rattle.letter_diagram.proofs.Memos.{Learns-updates}
use Rattle.letter_diagram.proofs.memo.HashMapNodeNodeNodeCache.remember.Goals as goal

pub returns : goal.returns
returns c = Learns-updates c.args.self.now c.insert.new.self _ _ c.in_ok-insert.ensures.updates
