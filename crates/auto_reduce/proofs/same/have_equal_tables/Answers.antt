use Rattle.std.proofs.Common.{◌∙◌, sym, ◌≡◌, ◌∷◌}
use Rattle.std.proofs.lemmas.Bool.{false≢true}
use Rattle.letter_diagram.specs.Diagram.{Grows}
use Rattle.letter_diagram.specs.Listed.{EachAnswers}
use Rattle.letter_diagram.specs.Carried.{IsCarried}
use Rattle.auto_reduce.proofs.Flags.{flags_differ, flags_agree}
use Rattle.auto_reduce.proofs.SameWords.{HaveEqualTables-maps, HaveEqualMaps-tables, own_known, brought_known, brought_size}
use Rattle.auto_reduce.proofs.same.have_equal_tables.Goals as goal

pub returns-then-ne : goal.returns-then-ne
returns-then-ne c = (
  λ e. absurd (false≢true e),
  λ h. absurd (flags_differ _ _ _ c.ne.ensures c.if-ne.true (c.flags.ensures ∙ h.accept ∙ sym c.flags-2.ensures)),
)

-- the flags, and the nodes that are compared
flags_are : (c : goal.After-as_slice-3) → c.args.a.now.accept ≡ c.args.b.now.accept
flags_are c = sym c.flags.ensures ∙ flags_agree _ _ _ c.ne.ensures c.if-ne.false ∙ c.flags-2.ensures

grows : (c : goal.After-as_slice-3) → Grows c.args.a.now.shapes c.bring.new.self
grows c = rw (c.in_ok-diagrams.ensures, c.diagrams.ensures.shapes) at c.bring.ensures.grows

each : (c : goal.After-as_slice-3)
    → EachAnswers (IsCarried c.args.b.now.shapes c.bring.new.self
    (λ letter. letter) (λ value. value)) (c.args.b.now.first_node ∷ c.args.b.now.row_nodes) c.in_ok-brought.brought.items
each c = rw (c.diagrams-2.ensures.shapes, c.as_slice.ensures.value, c.in_ok-others.ensures.nodes) at c.in_ok-brought.ensures.brought

pub have_equal_maps-requires-clause-size : goal.have_equal_maps-requires-clause-size
have_equal_maps-requires-clause-size c =
    rw (c.as_slice-2.ensures.value, c.as_slice-3.ensures.value, c.in_ok-nodes.ensures.nodes)
    (brought_size c.args.a.now c.args.b.now c.requires.a_valid c.requires.b_valid c.in_ok-nodes.ensures.over c.in_ok-others.ensures.over
    c.requires.tracks (flags_are c) c.bring.new.self c.in_ok-brought.brought.items (grows c) (each c))

pub have_equal_maps-requires-clause-nodes_known : goal.have_equal_maps-requires-clause-nodes_known
have_equal_maps-requires-clause-nodes_known c =
    rw (c.as_slice-2.ensures.value, c.in_ok-nodes.ensures.nodes)
    (own_known c.args.a.now c.args.b.now c.requires.a_valid c.requires.b_valid c.in_ok-nodes.ensures.over c.in_ok-others.ensures.over
    c.requires.tracks (flags_are c) c.bring.new.self c.in_ok-brought.brought.items (grows c) (each c))

pub have_equal_maps-requires-clause-others_known : goal.have_equal_maps-requires-clause-others_known
have_equal_maps-requires-clause-others_known c =
    rw c.as_slice-3.ensures.value
    (brought_known c.args.a.now c.args.b.now c.requires.a_valid c.requires.b_valid c.in_ok-nodes.ensures.over c.in_ok-others.ensures.over
    c.requires.tracks (flags_are c) c.bring.new.self c.in_ok-brought.brought.items (grows c) (each c))

pub returns : goal.returns
returns c =
    let flags = sym c.flags.ensures ∙ flags_agree _ _ _ c.ne.ensures c.if-ne.false ∙ c.flags-2.ensures in
    let more = rw (c.in_ok-diagrams.ensures, c.diagrams.ensures.shapes) at c.bring.ensures.grows in
    let all = rw (c.diagrams-2.ensures.shapes, c.as_slice.ensures.value, c.in_ok-others.ensures.nodes) at c.in_ok-brought.ensures.brought in
    let equal = rw (c.as_slice-2.ensures.value, c.as_slice-3.ensures.value, c.in_ok-nodes.ensures.nodes) at c.have_equal_maps.ensures in (
      λ said. HaveEqualTables-maps c.args.a.now c.args.b.now c.requires.a_valid c.requires.b_valid c.in_ok-nodes.ensures.over
          c.in_ok-others.ensures.over c.requires.tracks flags c.bring.new.self c.in_ok-brought.brought.items more all (equal.0 said),
      λ h. equal.1 (HaveEqualMaps-tables c.args.a.now c.args.b.now c.requires.a_valid c.requires.b_valid c.in_ok-nodes.ensures.over
          c.in_ok-others.ensures.over c.requires.tracks flags c.bring.new.self c.in_ok-brought.brought.items more all h),
    )
