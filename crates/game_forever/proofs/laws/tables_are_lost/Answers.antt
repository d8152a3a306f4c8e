use Rattle.game_forever.proofs.TableLemmas.{table_lost, table_won}
use Rattle.game_forever.proofs.laws.tables_are_lost.Goals as goal

pub returns : goal.returns
returns g c =
    record {
      lost = λ winner. table_lost winner g.L.PositionSets.has;
      won = λ winner. table_won winner g.L.PositionSets.has;
    }
