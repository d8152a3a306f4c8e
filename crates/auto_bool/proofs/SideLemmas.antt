-- Rows that are read over more tracks.
use Rattle.std.proofs.Common.{◌≡◌, ℕ, ◌<◌, List, length, sym, ap, ◌∙◌, subst}
use Rattle.std.proofs.lemmas.List.{length-map}
use Rattle.track_word.specs.declared.tracks.Var.{Var}
use Rattle.track_word.specs.Tracks.{place, restrict}
use Rattle.letter_diagram.specs.declared.diagrams.Shape.{Shape}
use Rattle.letter_diagram.specs.Diagram.{map_at, LooksBelow}
use Rattle.diagram_product.specs.Sided.{Reading, CanBeRead, read_at}
use Rattle.auto_core.specs.Automaton.{Automaton, width}
use Rattle.auto_core.proofs.Restricted.{relabelled-places, restrict-below}
use Rattle.auto_bool.specs.Sides.{Reads, IsSide}
use Rattle.auto_bool.proofs.TrackLemmas.{restrict-same}

module _ (all : List Var) (a : Automaton) (reading : Reading) (side : IsSide all a reading) (shapes : List Shape) (node : ℕ) where
  pub CanBeRead-side : node < length a.shapes → LooksBelow a.shapes node (length a.tracks) → CanBeRead reading shapes node
  CanBeRead-side known narrow =
      subst (λ r. CanBeRead r shapes node) (sym side.reads)
      (record { known = known; narrow = λ few. subst (LooksBelow a.shapes node) (sym (length-map a.tracks (place all))) narrow })

  pub Reads-side : (value : ℕ → ℕ) → ((letter : ℕ) → letter < width a → map_at a.shapes node letter ≡ value letter)
      → Reads (length all) (read_at reading shapes node) (λ letter. value (restrict all a.tracks letter))
  Reads-side value says =
      let maps = λ (letter : ℕ). ap (map_at a.shapes node) (relabelled-places all a.tracks letter) in
      subst (λ r. Reads (length all) (read_at r shapes node) (λ letter. value (restrict all a.tracks letter))) (sym side.reads)
      (record {
        narrow = λ x y agree. maps x ∙ ap (map_at a.shapes node) (restrict-same x y side.among agree) ∙ sym (maps y);
        reads = λ letter below. maps letter ∙ says (restrict all a.tracks letter) (restrict-below all a.tracks letter);
      })
