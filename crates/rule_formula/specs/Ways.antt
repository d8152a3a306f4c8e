-- The stretches of rays as trees.
use Rattle.std.specs.Prelude.{ℕ}
use Rattle.rule_formula.specs.declared.atoms.Extent.{Extent}
use Rattle.rule_formula.specs.declared.atoms.Extent.TheVariants.{Onto, Before}
use Rattle.rule_formula.specs.declared.seats.Seat.{Seat}
use Rattle.rule_formula.specs.declared.paths.Path.{Path}
use Rattle.rule_formula.specs.declared.paths.Stretch.{Stretch}
use Rattle.rule_formula.specs.Placed.{is_live}
use Rattle.rule_formula.specs.Seats.{own}
use Rattle.rule_formula.specs.Trees.{and_all, clear, on, ray_atoms}
use Rattle.lin_formula.specs.Tree.{Tree}

-- z is on the stretch
abbrev pub on_stretch : Stretch → Seat → Tree
on_stretch s z = on s.ray s.from s.to s.extent z

-- the formula, and that none of the other live men among the first n stands on the path
abbrev pub clear_path : Tree → ℕ → Path → ℕ → Tree
clear_path f mask p n = clear f (λ k. on_stretch p.stretch (own k)) (is_live mask) p.first p.second n

-- the formula, that the end of the path is on the ray from its start, and that none of the other live men stands on it
abbrev pub passing_path : Tree → ℕ → Path → ℕ → Tree
passing_path f mask p n =
    clear_path (and_all f (ray_atoms p.stretch.ray p.stretch.from p.stretch.to)) mask p n

-- the extents, as names that other crates can use
abbrev pub onto : Extent
onto = Onto

abbrev pub before : Extent
before = Before
