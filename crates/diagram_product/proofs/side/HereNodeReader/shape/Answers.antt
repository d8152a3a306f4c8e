use Rattle.std.proofs.Common.{None}
use Rattle.diagram_product.proofs.Readings.{IsReading-here, LooksFrom-read, IsRead-here}
use Rattle.diagram_product.proofs.side.HereNodeReader.shape.Goals as goal

pub returns-clause-read : goal.returns-clause-read
returns-clause-read c =
    IsRead-here c.shape.ensures.diagram c.requires c.shape.ensures.at c.shape.ensures.fits

pub returns-clause-from : goal.returns-clause-from
returns-clause-from c = LooksFrom-read None IsReading-here c.args.to.now c.shape.ensures.diagram c.args.node c.requires.known
