-- A mover, and the formula of his ray.
use Rattle.std.proofs.Common.{◌≡◌, ℕ, ◌<◌, ◌≤◌, unsigned_abs, length, Some, ap, ◌∙◌}
use Rattle.game_rules.specs.Game.{Position, man_at}
use Rattle.game_rules.specs.declared.men.Ray.{Ray}
use Rattle.game_laws.proofs.LineLemmas.{direction_small_x, direction_small_y}
use Rattle.game_laws.proofs.TableLemmas.{ray_is}
use Rattle.mask_sets.specs.Stock.{mask_of}
use Rattle.game_laws.specs.Stock.{stock_man}
use Rattle.game_laws.proofs.StockLemmas.{stock_man-men}
use Rattle.rule_formula.specs.Trees.{man_ray, man_square, ray_at, ray_or_none}
use Rattle.rule_formula.proofs.BearLemmas.{stock_number}
use Rattle.move_choice.specs.Aims.{IsMover}
use Rattle.first_distances.specs.RayFormula.{capture_masks, line, or_lines, ray_formula}

module _ {p : Position} {i ray : ℕ} {r : Ray} (mover : IsMover p i ray r) where
  his_stock : stock_man p.men i ≡ Some mover.man
  his_stock = stock_man-men p i ∙ mover.is_man

  pub his_ray_is : ray_at p.men i ray ≡ r
  his_ray_is = ap (man_ray ray) his_stock ∙ ap ray_or_none mover.is_ray

  pub his_low : 0 < i
  his_low = (stock_number p.men i mover.man his_stock).low

  pub his_high : i ≤ length p.men
  his_high = (stock_number p.men i mover.man his_stock).high

  pub his_square_is : man_square (man_at p i) ≡ Some mover.square
  his_square_is = ap man_square mover.is_man ∙ mover.stands

  pub his_dx : unsigned_abs r.dx ≤ 2
  his_dx = direction_small_x r.dx r.dy (ray_is mover.man.side mover.man.kind ray r mover.is_ray).direction

  pub his_dy : unsigned_abs r.dy ≤ 2
  his_dy = direction_small_y r.dx r.dy (ray_is mover.man.side mover.man.kind ray r mover.is_ray).direction

  pub formula_is : ray_formula p i ray ≡ or_lines p i r (line p i r (mask_of p) 0) 1 (capture_masks p)
  unfolding ray_formula
  formula_is = ap (λ k. or_lines p i k (line p i k (mask_of p) 0) 1 (capture_masks p)) his_ray_is
