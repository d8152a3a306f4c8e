use Rattle.std.proofs.Common.{Some, ◌≡◌, ◌∙◌, sym, subst, get_or}
use Rattle.std.proofs.lemmas.List.{get_or_default}
use Rattle.diagram_product.specs.Sided.{LentNodes, CanBeRead, IsReadLeaf, IsReadTest, LooksFrom, read_at, read_top}
use Rattle.diagram_product.proofs.Readings.{IsReading-lent, LooksFrom-read, IsReadLeaf-at, IsReadTest-at, tested-within}
use Rattle.diagram_product.proofs.side.LentReaderNodeReader.shape.Goals as goal

pub index-requires : goal.index-requires
index-requires c =
    let lent : LentNodes = record { shapes = c.self.inside.from.now; tracks = c.self.inside.tracks.items } in
    let read = subst (λ (s : LentNodes). CanBeRead (Some s) c.args._to.now c.args.node) (sym c.self.view_is) c.requires in
    rw c.self.inside.tracks.ok.0 (tested-within (Some lent) (IsReading-lent lent.shapes lent.tracks c.self.inside.ascending c.self.inside.low)
    c.args._to.now c.shape.ensures.diagram c.args.node c.in-Test.track c.in-Test.low c.in-Test.high read c.in-Test.ensures.at c.in-Test.ensures.fits)

pub returns-in-Leaf-clause-read : goal.returns-in-Leaf-clause-read
returns-in-Leaf-clause-read c =
    let lent : LentNodes = record { shapes = c.self.inside.from.now; tracks = c.self.inside.tracks.items } in
    let law = IsReading-lent lent.shapes lent.tracks c.self.inside.ascending c.self.inside.low in
    subst (λ (s : LentNodes). IsReadLeaf (Some s) c.args._to.now c.args.node c.in-Leaf.value) c.self.view_is
    (IsReadLeaf-at (Some lent) law c.args._to.now c.shape.ensures.diagram c.args.node c.in-Leaf.value c.in-Leaf.ensures.at)

pub returns-in-Test-clause-read : goal.returns-in-Test-clause-read
returns-in-Test-clause-read c =
    let lent : LentNodes = record { shapes = c.self.inside.from.now; tracks = c.self.inside.tracks.items } in
    let law = IsReading-lent lent.shapes lent.tracks c.self.inside.ascending c.self.inside.low in
    let read = subst (λ (s : LentNodes). CanBeRead (Some s) c.args._to.now c.args.node) (sym c.self.view_is) c.requires in
    let tested = c.in-Test.ensures in
    let within = tested-within (Some lent) law c.args._to.now c.shape.ensures.diagram c.args.node c.in-Test.track c.in-Test.low c.in-Test.high read tested.at tested.fits in
    let same : c.index.result.now ≡ get_or lent.tracks c.in-Test.track 20 = c.index.ensures ∙ get_or_default lent.tracks c.in-Test.track c.index.result.now 20 within in
    subst (λ (s : LentNodes). IsReadTest (Some s) c.args._to.now c.args.node c.index.result.now c.in-Test.low c.in-Test.high) c.self.view_is (
    subst (λ track. IsReadTest (Some lent) c.args._to.now c.args.node track c.in-Test.low c.in-Test.high) (sym same)
    (IsReadTest-at (Some lent) law c.args._to.now c.shape.ensures.diagram c.args.node c.in-Test.track c.in-Test.low c.in-Test.high read tested.at tested.fits))

pub returns-in-Leaf-clause-from : goal.returns-in-Leaf-clause-from
returns-in-Leaf-clause-from c =
    let lent : LentNodes = record { shapes = c.self.inside.from.now; tracks = c.self.inside.tracks.items } in
    let law = IsReading-lent lent.shapes lent.tracks c.self.inside.ascending c.self.inside.low in
    let read = subst (λ (s : LentNodes). CanBeRead (Some s) c.args._to.now c.args.node) (sym c.self.view_is) c.requires in
    subst (λ (s : LentNodes). LooksFrom (read_at (Some s) c.args._to.now c.args.node) (read_top (Some s) c.args._to.now c.args.node)) c.self.view_is
    (LooksFrom-read (Some lent) law c.args._to.now c.shape.ensures.diagram c.args.node read.known)

pub returns-in-Test-clause-from : goal.returns-in-Test-clause-from
returns-in-Test-clause-from c =
    let lent : LentNodes = record { shapes = c.self.inside.from.now; tracks = c.self.inside.tracks.items } in
    let law = IsReading-lent lent.shapes lent.tracks c.self.inside.ascending c.self.inside.low in
    let read = subst (λ (s : LentNodes). CanBeRead (Some s) c.args._to.now c.args.node) (sym c.self.view_is) c.requires in
    subst (λ (s : LentNodes). LooksFrom (read_at (Some s) c.args._to.now c.args.node) (read_top (Some s) c.args._to.now c.args.node)) c.self.view_is
    (LooksFrom-read (Some lent) law c.args._to.now c.shape.ensures.diagram c.args.node read.known)
