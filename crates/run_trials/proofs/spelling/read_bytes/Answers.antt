use Rattle.std.proofs.Common.{rules, ◌≡◌, List, [], ℕ, length, subst}
use Rattle.std.proofs.lemmas.List.{append-nil, nil_from_length}
use Rattle.run_trials.specs.Spelling.{Spells}
use Rattle.run_trials.proofs.spelling.read_bytes.Goals as goal

-- Nothing is left to be spelled.
pub returns : goal.returns
returns c =
    let spelled_all : List ℕ → Type 0 = λ bytes. Spells c.args.text.now bytes in
    let none_left : length c.loop-rest.rest.now ≡ 0 = search rules in
    let spelled = c.loop-rest.invariant.spelled [] (nil_from_length c.loop-rest.rest.now none_left) in
    subst spelled_all (append-nil c.loop-rest.bytes.items) spelled
