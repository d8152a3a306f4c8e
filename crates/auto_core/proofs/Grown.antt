-- Nodes that were known, as nodes are added in steps.
use Rattle.std.proofs.Common.{◌≡◌, ℕ, ◌<◌, List, length, nat_eq, if◌then◌else◌, ◌∙◌, ap, sym}
use Rattle.std.specs.Int.{bit_at}
use Rattle.letter_diagram.specs.declared.diagrams.Shape.{Shape}
use Rattle.letter_diagram.specs.Diagram.{map_at, chosen, Grows}

pub chosen-grows : {old new : List Shape} (track low high letter : ℕ) → low < length old → high < length old
    → Grows old new → chosen old track low high letter ≡ chosen new track low high letter
chosen-grows {old} {new} track low high letter kl kh grows =
    ap (λ l. if nat_eq (bit_at letter track) 0 then l else map_at old high letter) (sym (grows.map low letter kl))
    ∙ ap (λ h. if nat_eq (bit_at letter track) 0 then map_at new low letter else h) (sym (grows.map high letter kh))
