use Rattle.std.proofs.Common.{rules, ◌∷◌, ◌++◌, [], ℕ, List, Vec, Global, map, set, sym, ap, ◌∙◌}
use Rattle.std.proofs.lemmas.List.{map-set}
use Rattle.auto_refine.proofs.Listings.{list_read}
use Rattle.auto_refine.proofs.listing.list.Goals as goal

pub returns-clause-lists : goal.returns-clause-lists
returns-clause-lists c =
    let f : Vec ℕ Global → List ℕ = (λ list. list.items) in
    let lists = c.args.lists.now.items in
    let was = list_read f lists c.args.class c.index_mut.result.now [] (search rules) c.index_mut.ensures.value in
    map-set f lists c.args.class c.push.new.self ∙ ap (set (map f lists) c.args.class) (c.in_ok-push.ensures.items ∙ ap (λ xs. xs ++ c.args.state ∷ []) (sym was))
