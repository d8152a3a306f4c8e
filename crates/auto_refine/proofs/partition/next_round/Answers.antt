use Rattle.std.proofs.Common.{rules, ◌≡◌, ◌++◌, ◌∙◌, ℕ, List, length, take, drop, sym, subst, ap}
use Rattle.std.proofs.Math.Seq.{take-append_seam}
use Rattle.auto_refine.specs.Moves.{AreSettled}
use Rattle.auto_refine.specs.Led.{AreLedRows}
use Rattle.auto_refine.proofs.Stales.{AreSettled-follow}
use Rattle.auto_refine.proofs.Refinings.{AreLedRows-again}
use Rattle.auto_refine.proofs.partition.next_round.Goals as goal

take_whole : (n : ℕ) (xs ys : List ℕ) → length xs ≡ n → take n (xs ++ ys) ≡ xs
take_whole n xs ys size = ap (λ k. take k (xs ++ ys)) (sym size) ∙ take-append_seam xs ys

pub round-requires-clause-led : goal.round-requires-clause-led
round-requires-clause-led c =
    let a = c.args.a.now in
    let old = c.args.refining.now in
    let f = c.requires.refined in
    let classes = old.partition.classes.items in
    let led = old.led.items in
    let next = c.remap_rows.new.led in
    let again = rw (c.as_slice.ensures.value, c.as_mut_slice.ensures.value) at c.in_ok-remap_rows.ensures.led in
    let rows = AreLedRows-again f.sound.partition.states f.size f.led c.remap_rows.ensures.grows again in
    let len : length led ≡ old.led.len = search rules in
    let whole = take_whole old.led.len next (drop (length next) led) (again.size ∙ len) in
    record {
      sound = f.sound;
      listing = f.listing;
      led = subst (AreLedRows a c.remap_rows.new.diagrams classes) (sym whole) rows;
    }

pub round-requires-clause-settled : goal.round-requires-clause-settled
round-requires-clause-settled c =
    let a = c.args.a.now in
    let old = c.args.refining.now in
    let f = c.requires.refined in
    let classes = old.partition.classes.items in
    let representatives = old.listing.representatives.items in
    let led = old.led.items in
    let next = c.remap_rows.new.led in
    let stale = c.args.stale.now in
    let again = rw (c.as_slice.ensures.value, c.as_mut_slice.ensures.value) at c.in_ok-remap_rows.ensures.led in
    let kept = AreSettled-follow a c.remap_rows.new.diagrams classes old.partition.count representatives stale led next f.sound.partition.states
    f.sound.partition.within f.listing.members f.settled again in
    let len : length led ≡ old.led.len = search rules in
    let whole = take_whole old.led.len next (drop (length next) led) (again.size ∙ len) in
    subst (λ nodes. AreSettled classes representatives nodes stale) (sym whole) kept
