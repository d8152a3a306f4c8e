use Rattle.std.proofs.Common.{rules, arith, ◌<◌, ◌∙◌, ℕ, [], List, Vec, Global, length, map, get_or, sym, ap, subst}
use Rattle.std.specs.List.{Contains}
use Rattle.std.proofs.lemmas.List.{length-map, map-set, get_or-set_same}
use Rattle.std.proofs.lemmas.List.Elements.{All-from_get_or, Contains-get_or}
use Rattle.auto_refine.specs.Listing.{ArePruned}
use Rattle.auto_refine.proofs.Listings.{list_read, ArePruned-set}
use Rattle.auto_refine.proofs.listing.prune.Goals as goal

pub still_in-requires : goal.still_in-requires
still_in-requires c =
    let f : Vec ℕ Global → List ℕ = (λ list. list.items) in
    let lists = c.args.lists.now.items in
    let class = c.args.class in
    let was = c.as_slice.result.now in
    let inside : class < length lists = search rules in
    let list_is = list_read f lists class c.index.result.now [] inside c.index.ensures ∙ sym c.as_slice.ensures.value in
    All-from_get_or (λ state. state < length c.args.partition.now.classes.items) was 0
    (λ k less. c.requires.within class (get_or was k 0) (subst (λ list. Contains list (get_or was k 0)) (sym list_is) (Contains-get_or was k 0 less)))

pub returns-clause-pruned : goal.returns-clause-pruned
returns-clause-pruned c =
    let f : Vec ℕ Global → List ℕ = (λ list. list.items) in
    let lists = c.args.lists.now.items in
    let classes = c.args.partition.now.classes.items in
    let class = c.args.class in
    let inside : class < length lists = search rules in
    let list_is = list_read f lists class c.index.result.now [] inside c.index.ensures ∙ sym c.as_slice.ensures.value in
    let mapped = length-map lists f in
    let kept = c.in_ok-kept.ensures in
    subst (ArePruned classes (map f lists)) (sym (map-set f lists class c.in_ok-kept.kept)) (ArePruned-set classes (map f lists) class
    c.as_slice.result.now c.in_ok-kept.kept.items (omega (arith, inside, mapped)) list_is kept.fewer kept.stays)

pub returns-clause-only : goal.returns-clause-only
returns-clause-only c =
    let f : Vec ℕ Global → List ℕ = (λ list. list.items) in
    let lists = c.args.lists.now.items in
    let class = c.args.class in
    let inside : class < length lists = search rules in
    let mapped = length-map lists f in
    let kept_is =
    ap (λ ls. get_or ls class []) (map-set f lists class c.in_ok-kept.kept) ∙ get_or-set_same (map f lists) class c.in_ok-kept.kept.items [] (omega (arith, inside, mapped)) in
    λ state there. c.in_ok-kept.ensures.only state (subst (λ list. Contains list state) kept_is there)
