use Rattle.std.proofs.Common.{map}
use Rattle.lin_formula.specs.Tree.{Not}
use Rattle.lin_formula.specs.SetOf.{members}
use Rattle.shift_image.specs.Image.{gone, step}
use Rattle.shift_image.proofs.Bindings.{vars-outside, holds-outside}
use Rattle.shift_image.proofs.Shifts.{clear-not_gone}
use Rattle.shift_image.proofs.laws.image_says_what_its_part_says.Goals as goal

pub returns : goal.returns
returns c = λ i is. record {
  vars = vars-outside (gone i.shifts) (step i) (map Not i.clear) (clear-not_gone i is);
  holds = λ e v. holds-outside (gone i.shifts) (step i) (map Not i.clear) (clear-not_gone i is) (members e) v;
}
