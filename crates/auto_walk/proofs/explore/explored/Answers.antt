use Rattle.std.proofs.lemmas.List.{length-map}
use Rattle.std.proofs.Common.{rules, ◌≡◌, length, ◌∙◌, ap, arith}
use Rattle.auto_walk.specs.Walker.{Walker}
use Rattle.auto_walk.proofs.WalkWords.{AreClosed, closed-rows, is_dense, AreRows-closed, IsWalked-closed, not_MoreThan}
use Rattle.auto_walk.proofs.explore.explored.Given as given
use Rattle.auto_walk.proofs.explore.explored.Goals as goal

-- each place has its row
closed : (g : given.Over) (c : goal.After-into_diagrams g)
    → AreClosed (g.W.Walk.walker c.args.walk) (g.W.Walk.shapes c.all_rows.new.walk) (g.W.Walk.places c.all_rows.new.walk) c.in_ok-first.first
    c.in_ok-rows.rows.items c.in_ok-accept.accept.items
closed g c =
    let first = c.in_ok-first.ensures in
    let next = c.in_ok-rows.ensures in
    closed-rows first.walker next.walker first.row next.numbered next.kept next.grows next.rows (omega (arith, next.size)) c.in_ok-accept.ensures
    c.tracks.ensures.valid (omega (arith, next.room, c.states.ensures.within.1))

pub from_diagrams-requires : goal.from_diagrams-requires
from_diagrams-requires g c =
    let walker = ap (λ (w : Walker). w.tracks) (c.in_ok-rows.ensures.walker ∙ c.in_ok-first.ensures.walker) in
    let copied : c.in_ok-tracks.tracks.items ≡ c.tracks.result.now = search rules in
    rw (copied ∙ c.tracks.ensures.tracks ∙ walker, c.into_diagrams.ensures) (AreRows-closed (closed g c))

pub returns-clause-ok : goal.returns-clause-ok
returns-clause-ok g c =
    let walker = ap (λ (w : Walker). w.tracks) (c.in_ok-rows.ensures.walker ∙ c.in_ok-first.ensures.walker) in
    let copied : c.in_ok-tracks.tracks.items ≡ c.tracks.result.now = search rules in
    let made = c.from_diagrams.ensures in
    let dense = is_dense _ _ _ _ _ _ made.tracks made.first made.next made.accept made.shapes made.first_node made.row_nodes in
    rw (dense, copied ∙ c.tracks.ensures.tracks ∙ walker, c.into_diagrams.ensures) (IsWalked-closed (closed g c.before))

pub returns-clause-within : goal.returns-clause-within
returns-clause-within g c = not_MoreThan (closed g c.before) c.in_ok-rows.ensures.room

pub returns-clause-few : goal.returns-clause-few
returns-clause-few g c =
    let flags = ap length (c.from_diagrams.ensures.accept ∙ c.in_ok-accept.ensures) ∙ length-map _ _ in
    omega (arith, flags, c.in_ok-rows.ensures.room)
