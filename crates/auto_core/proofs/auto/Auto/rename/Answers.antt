use Rattle.std.proofs.Common.{◌≡◌, ◌≤◌, ℕ, List, arith, [], ◌<◌, ◌∙◌, ◌↔◌, ◌≢◌, All, AllPairs, map, length, sym, ap, subst}
use Rattle.track_word.specs.declared.tracks.Var.{Var}
use Rattle.track_word.specs.Word.{IsWord}
use Rattle.track_word.specs.Tracks.{with_vars, place, IsAscending}
use Rattle.auto_core.specs.Automaton.{Accepts}
use Rattle.letter_diagram.specs.Relabelled.{relabelled}
use Rattle.auto_core.proofs.Ascents.{IsAscending-with_vars}
use Rattle.auto_core.proofs.Inserted.{length-with_vars, places-below}
use Rattle.auto_core.proofs.Renamed.{part_of-relabelled}
use Rattle.auto_core.proofs.Inverses.{places-different}
use Rattle.auto_core.proofs.auto.Auto.rename.Goals as goal

-- the tracks are the variables put in order among none
sorted : (tracks none vars : List Var) → tracks ≡ with_vars vars none → none ≡ [] → tracks ≡ with_vars vars []
sorted tracks none vars is empty = is ∙ ap (with_vars vars) empty

few : (vars own tracks : List Var) → tracks ≡ with_vars vars [] → length vars ≡ length own → length own ≤ 20 → length tracks ≤ 20
few vars own tracks is same old = let size = ap length is in let less = length-with_vars vars in omega (arith, size, less, same, old)

pub places_of-requires : goal.places_of-requires
places_of-requires c =
    let is = c.as_slice.ensures.value ∙ sorted _ _ c.args.vars.now c.in_ok-insert_tracks.ensures c.new-tracks.ensures.items in
    let some = few c.args.vars.now c.args.self.now.tracks c.as_slice.result.now is c.requires c.tracks.ensures.valid.few_tracks in
    omega (arith, some)

pub over_tracks-requires-clause-ascending : goal.over_tracks-requires-clause-ascending
over_tracks-requires-clause-ascending c =
    subst IsAscending (sym (sorted _ _ c.args.vars.now c.in_ok-insert_tracks.ensures c.new-tracks.ensures.items)) (IsAscending-with_vars c.args.vars.now)

pub over_tracks-requires-clause-few : goal.over_tracks-requires-clause-few
over_tracks-requires-clause-few c =
    few c.args.vars.now c.args.self.now.tracks _ (sorted _ _ c.args.vars.now c.in_ok-insert_tracks.ensures c.new-tracks.ensures.items) c.requires c.tracks.ensures.valid.few_tracks

pub over_tracks-requires-clause-places : goal.over_tracks-requires-clause-places
over_tracks-requires-clause-places c =
    let is = sorted _ _ c.args.vars.now c.in_ok-insert_tracks.ensures c.new-tracks.ensures.items in
    let are = c.as_slice-2.ensures.value ∙ c.in_ok-places.ensures ∙ ap (λ t. map (place t) c.args.vars.now) (c.as_slice.ensures.value ∙ is) in
    subst (λ places. All (λ p. p < length c.insert_tracks.new.tracks.items) places) (sym are)
    (subst (λ t. All (λ p. p < length t) (map (place (with_vars c.args.vars.now [])) c.args.vars.now)) (sym is) (places-below c.args.vars.now))

pub returns-clause-words : goal.returns-clause-words
returns-clause-words c = λ word is.
    let renamed = c.in_ok-renamed.ensures in
    let told = renamed.words word (subst (λ t. IsWord (length t) word) renamed.tracks is) in
    let are = c.as_slice-2.ensures.value ∙ c.in_ok-places.ensures ∙ ap (λ t. map (place t) c.args.vars.now) (c.as_slice.ensures.value ∙ sym renamed.tracks) in
    let part = ap (λ places. map (relabelled places) word) are ∙ part_of-relabelled c.in_ok-renamed.renamed.tracks c.args.vars.now word in
    subst (λ w. Accepts c.in_ok-renamed.renamed word ↔ Accepts c.args.self.now w) part told

-- different variables are read at different places
apart : (vars tracks : List Var) (places : List ℕ) → tracks ≡ with_vars vars [] → places ≡ map (place tracks) vars → AllPairs (λ x y. x ≢ y) vars → AllPairs (λ p q. p ≢ q) places
apart vars tracks places is are different =
    subst (λ l. AllPairs (λ p q. p ≢ q) l) (sym (are ∙ ap (λ t. map (place t) vars) is)) (places-different (with_vars vars []) vars (places-below vars) different)

pub returns-clause-reached : goal.returns-clause-reached
returns-clause-reached c = λ reached different.
    let is = c.as_slice.ensures.value ∙ sorted _ _ c.args.vars.now c.in_ok-insert_tracks.ensures c.new-tracks.ensures.items in
    c.in_ok-renamed.ensures.reached reached (apart c.args.vars.now c.as_slice.result.now _ is (c.as_slice-2.ensures.value ∙ c.in_ok-places.ensures) different)

pub returns-clause-reduced : goal.returns-clause-reduced
returns-clause-reduced c = λ reduced different.
    let is = c.as_slice.ensures.value ∙ sorted _ _ c.args.vars.now c.in_ok-insert_tracks.ensures c.new-tracks.ensures.items in
    c.in_ok-renamed.ensures.reduced reduced (apart c.args.vars.now c.as_slice.result.now _ is (c.as_slice-2.ensures.value ∙ c.in_ok-places.ensures) different)
