-- What is reached after a path are the distances at which its moves are legal.
use Rattle.std.proofs.Common.{◌≡◌, ℕ, suc, List, [], ◌∷◌, length, Some, sym, subst}
use Rattle.track_word.specs.Tracks.{Values}
use Rattle.lin_formula.specs.SetOf.{Nothing, members}
use Rattle.lin_formula.specs.Holds.{Holds}
use Rattle.lin_formula.specs.Tree.{Tree}
use Rattle.rule_formula.specs.Fine.{AllHold}
use Rattle.line_formula.specs.Paths.{Plays, first_part, further_parts}
use Rattle.line_formula.proofs.PathTheorem.{parts_mean_legal}
use Rattle.set_plan.specs.Program.{Entry, Takes, each}
use Rattle.set_plan.specs.Unite.{Made}
use Rattle.set_plan.proofs.Composition.{Takes-split}
use Rattle.set_plan.proofs.Takings.{Takes-give}
use Rattle.line_plan.specs.Plan.{narrow}
use Rattle.line_plan.specs.Laws.{IsSetWhere, ReachIsLegal}
use Rattle.line_plan.proofs.PartFacts.{AreParts, first_free, first_is_plain, further_are_parts}
use Rattle.line_plan.proofs.SetFacts.{free_first, free_narrowed, narrow_where, where_map}

each_where : (n : ℕ) (parts : List Tree) (P : Values → Type 0) (so_far : Made) (xs : List (Entry (Unit {0}))) (made : Made) → IsSetWhere n P so_far.0
    → AreParts n parts → Takes (each parts (narrow n) so_far) xs (Some made) → IsSetWhere n (λ v. P v × AllHold parts (members (λ _. Nothing)) v) made.0
each_where n [] P so_far xs made h are t =
    let same : made ≡ so_far = Takes-give so_far made xs t in
    subst (λ (m : Made). IsSetWhere n (λ v. P v × Unit {0}) m.0) (sym same) (where_map h (λ v. (λ k. (k, tt), λ k. k.0)))
each_where n (part ∷ parts) P so_far xs made h are t =
    let (us, ws, next, order, first, rest) = Takes-split (narrow n part so_far) (each parts (narrow n)) xs made t in
    let one = narrow_where n n part so_far us next h (free_narrowed n part are.0) are.0.plain first in
    where_map (each_where n parts (λ v. P v × Holds part (members (λ _. Nothing)) v) next ws made one are.1 rest) (λ v. (λ k. (k.0.0, (k.0.1, k.1)), λ k. ((k.0, k.1.0), k.1.1)))

pub reach_is_legal : ReachIsLegal
reach_is_legal p winner s o l at entries next sound few listed line t =
    let n : ℕ = length s in
    let (us, ws, first, order, one, rest) = Takes-split (narrow n (first_part p s o) (l, at)) (each (further_parts p s o) (narrow (suc n))) entries next t in
    let begun = narrow_where n (suc n) (first_part p s o) (l, at) us first line (free_first n (first_part p s o) (first_free p s o)) (first_is_plain p s o) one in
    let whole = each_where (suc n) (further_parts p s o) (λ v. Plays p s v × Holds (first_part p s o) (members (λ _. Nothing)) v) first ws next begun (further_are_parts p s o) rest in
    where_map whole (λ v. (
      λ k. (k.0.0, listed, (parts_mean_legal p s o (λ _. Nothing) v sound few k.0.0 listed).0 (k.0.1, k.1)),
      λ k.
          let parts = (parts_mean_legal p s o (λ _. Nothing) v sound few k.0 listed).1 k.2 in
          ((k.0, parts.0), parts.1),
    ))
