use Rattle.std.proofs.Common.{arith, ◌≡◌, ◌<◌, ◌+◌, ℕ, List, Vec, Global, length, map, ap, sym, ◌∙◌, subst}
use Rattle.std.specs.List.{All}
use Rattle.std.proofs.lemmas.List.{length-map}
use Rattle.auto_refine.specs.Listing.{IsListing}
use Rattle.auto_refine.specs.Moves.{IsSplit, MovesIfOther}
use Rattle.auto_refine.proofs.Rounds.{count_le-size}
use Rattle.auto_refine.proofs.Splits.{signatures_few, signatures_some, moved_within, numbers_within, all_moved, IsSplit-moved, IsListing-moved, AreSettled-moved}
use Rattle.auto_refine.proofs.partition.split.Goals as goal

pub move_states-requires-clause-states : goal.move_states-requires-clause-states
move_states-requires-clause-states c = moved_within c.in_ok-moves.ensures.moves

pub move_states-requires-clause-size : goal.move_states-requires-clause-size
move_states-requires-clause-size c = let m = c.in_ok-moves.ensures.moves in m.size

pub move_states-requires-clause-lists : goal.move_states-requires-clause-lists
move_states-requires-clause-lists c =
    let f : Vec ℕ Global → List ℕ = (λ list. list.items) in
    let listing = c.in_ok-found.ensures.listing in
    sym (length-map c.candidates.new.lists.items f) ∙ listing.size

pub move_states-requires-clause-numbers : goal.move_states-requires-clause-numbers
move_states-requires-clause-numbers c = numbers_within c.in_ok-moves.ensures.moves

pub move_states-requires-clause-few : goal.move_states-requires-clause-few
move_states-requires-clause-few c =
    let most = count_le-size _ _ _ c.requires.partition in
    let m = c.in_ok-moves.ensures.moves in
    let firsts = m.firsts_size in
    let few = signatures_few m in
    let states = c.requires.partition.states in
    omega (arith, most, firsts, few, states, c.requires.few)

-- a state that has another node than the one that stands for its class is moved
moved : (c : goal.After-drop-found-2) (state : ℕ) → state < length c.args.partition.now.classes.items
    → MovesIfOther c.args.partition.now c.args.listing.now c.args.nodes.now c.in_ok-moves.moves state
moved c =
    all_moved c.args.partition.now c.args.listing.now.representatives.items c.args.nodes.now c.args.stale.now c.in_ok-found.found.items
    c.in_ok-moves.moves.states.items c.requires.settled (rw c.as_slice.ensures.value at c.in_ok-found.ensures.candidates) (rw c.as_slice-2.ensures.value at c.in_ok-moves.ensures.moved)

total : (c : goal.After-drop-found-2) → c.move_states.new.partition.count ≡ c.args.partition.now.count + length c.in_ok-moves.moves.signatures
total c = c.in_ok-move_states.ensures.count ∙ ap (λ n. c.args.partition.now.count + n) c.in_ok-moves.ensures.moves.firsts_size

pub returns-clause-split : goal.returns-clause-split
returns-clause-split c =
    let m = c.in_ok-moves.ensures.moves in
    let current = c.args.partition.now.classes.items in
    let moves = c.in_ok-moves.moves in
    subst (IsSplit current c.args.nodes.now c.move_states.new.partition.classes.items) (sym (total c))
    (IsSplit-moved _ current c.args.nodes.now c.args.listing.now.representatives.items c.args.partition.now.count moves.signatures moves.states.items
    moves.numbers.items moves.firsts.items _ c.requires.partition c.requires.listing.members m c.in_ok-move_states.ensures.classes (moved c))

pub returns-clause-count : goal.returns-clause-count
returns-clause-count c =
    let m = c.in_ok-moves.ensures.moves in
    let size = m.firsts_size in
    let more = c.in_ok-move_states.ensures.count in
    record {
      kept = omega (arith, more);
      grown = λ some. let signed = signatures_some m some in omega (arith, signed, size, more);
    }

pub returns-clause-listing : goal.returns-clause-listing
returns-clause-listing c =
    let f : Vec ℕ Global → List ℕ = (λ list. list.items) in
    let m = c.in_ok-moves.ensures.moves in
    let moves = c.in_ok-moves.moves in
    let listing = IsListing-moved _ c.args.partition.now.classes.items c.args.nodes.now c.args.listing.now.representatives.items c.args.partition.now.count
    moves.signatures moves.states.items moves.numbers.items moves.firsts.items _ c.requires.partition c.requires.listing.members m
    c.in_ok-move_states.ensures.classes (moved c)
    (map f c.candidates.new.lists.items) (map f c.move_states.new.listing.lists.items) (rw c.as_slice.ensures.value at c.in_ok-found.ensures.listing) c.in_ok-move_states.ensures.lists in
    subst (λ n. IsListing c.move_states.new.partition.classes.items n c.move_states.new.listing.representatives.items (map f c.move_states.new.listing.lists.items)) (sym (total c))
    (subst (λ r. IsListing c.move_states.new.partition.classes.items (c.args.partition.now.count + length moves.signatures) r
    (map f c.move_states.new.listing.lists.items)) (sym c.in_ok-move_states.ensures.representatives) listing)

pub returns-clause-settled : goal.returns-clause-settled
returns-clause-settled c =
    let m = c.in_ok-moves.ensures.moves in
    let moves = c.in_ok-moves.moves in
    rw c.in_ok-move_states.ensures.representatives (AreSettled-moved _ c.args.partition.now.classes.items c.args.nodes.now c.args.listing.now.representatives.items
    c.args.partition.now.count moves.signatures moves.states.items moves.numbers.items moves.firsts.items _ c.requires.partition c.requires.listing.members
    m c.in_ok-move_states.ensures.classes (moved c))

pub returns-clause-within : goal.returns-clause-within
returns-clause-within c =
    subst (λ n. All (λ state. state < n) c.in_ok-moves.moves.states.items) c.requires.partition.states (moved_within c.in_ok-moves.ensures.moves)

pub returns-clause-moved : goal.returns-clause-moved
returns-clause-moved c = record { kept = λ state within absent. c.in_ok-move_states.ensures.classes.kept state within absent 0 }
