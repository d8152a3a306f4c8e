use Rattle.std.proofs.Common.{◌++◌, ap, ◌∙◌, arith}
use Rattle.std.specs.Prelude.{codes}
use Rattle.desk_describe.proofs.describe.ray_lines.Goals as goal

pub push_men-requires : goal.push_men-requires
push_men-requires c = record {
  plan = c.requires.plan;
  turn = c.requires.turn;
  moves = c.requires.moves;
  room = λ ply mask a is.
      let most = c.most_states.ensures.most.within ply mask a is in
      let same = c.in_ok-search.ensures in
      omega (arith, most, same);
}

pub returns-clause-lines : goal.returns-clause-lines
returns-clause-lines c =
    let men = c.in_ok-push_men.ensures.adds in
    let from_none = ap (λ text. (text ++ men.0) ++ codes "end\n") c.new-text.ensures.items in
    (men.0, men.1, c.in_ok-extend_from_slice.ensures.items ∙ ap (λ text. text ++ codes "end\n") men.2 ∙ from_none)
