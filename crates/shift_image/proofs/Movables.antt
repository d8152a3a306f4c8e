-- When tracks can be moved in place of an image's steps.
use Rattle.std.proofs.Common.{◌<◌, length, All, AllPairs}
use Rattle.std.proofs.lemmas.List.Elements.{All-weaker}
use Rattle.track_word.specs.declared.tracks.Var.{Var}
use Rattle.lin_formula.specs.Tree.{free_vars}
use Rattle.lin_formula.specs.Free.{IsOneOf}
use Rattle.shift_image.specs.Image.{Image, AreOtherVars, moved_vars}
use Rattle.shift_image.specs.Read.{IsNear, Leaves, IsMovable}

pub movable : (i : Image) → 0 < length i.shifts → All (Leaves i.vars) i.shifts → AllPairs AreOtherVars i.shifts
    → All (λ g. (x : Var) → IsOneOf x (free_vars g) → IsOneOf x (moved_vars i)) i.clear → IsMovable i
movable i some leave apart about = record {
  some = some;
  near = All-weaker (Leaves i.vars) (λ s. IsNear s.by) (λ s h. h.near) i.shifts leave;
  shiftable = record {
    old = All-weaker (Leaves i.vars) (λ s. IsOneOf s.gone i.vars) (λ s h. h.old) i.shifts leave;
    new = All-weaker (Leaves i.vars) (λ s. ¬ IsOneOf s.new i.vars) (λ s h. h.new) i.shifts leave;
    apart = apart;
    clear = about;
  };
}
