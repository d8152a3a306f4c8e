-- Nodes whose tracks keep their bits.
use Rattle.std.proofs.Common.{ℕ, ◌<◌, List, length, get_or, All, arith, sym, ap, ◌∙◌}
use Rattle.std.proofs.lemmas.List.Elements.{All-get_or}
use Rattle.std.specs.Int.{bit_at}
use Rattle.letter_diagram.specs.declared.diagrams.Shape.{Shape}
use Rattle.letter_diagram.specs.Diagram.{LooksBelow}
use Rattle.letter_diagram.specs.Carried.{IsCarried}
use Rattle.letter_diagram.specs.Listed.{EachAnswers}
use Rattle.letter_diagram.specs.Relabelled.{relabelled, KeepsTracks}
use Rattle.letter_diagram.proofs.Narrow.{bit_at-relabelled, relabelled-moves}

-- they are what they are carried to
pub EachAnswers-kept : (shapes : List Shape) (nodes tracks : List ℕ) → All (λ node. node < length shapes) nodes → All (λ node. LooksBelow shapes node (length tracks)) nodes
    → KeepsTracks tracks → EachAnswers (IsCarried shapes shapes (relabelled tracks) (λ value. value)) nodes nodes
EachAnswers-kept shapes nodes tracks known narrow keeps = record {
  size = omega arith;
  each = λ i within.
      let node = get_or nodes i 0 in
      let here = All-get_or (λ n. n < length shapes) nodes i 0 within known in
      let low = All-get_or (λ n. LooksBelow shapes n (length tracks)) nodes i 0 within narrow in
      record {
        known = here;
        source_known = here;
        map = λ letter. low.same letter (relabelled tracks letter) (λ k below. sym (bit_at-relabelled tracks letter k 0 below ∙ ap (bit_at letter) (keeps k below)));
        top = λ same. absurd (relabelled-moves tracks same);
      };
}
