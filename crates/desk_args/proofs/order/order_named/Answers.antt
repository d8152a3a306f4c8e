use Rattle.std.proofs.Common.{◌≡◌, get_or, List, ℕ, inl, inr, sym, ◌∙◌, arith, rules}
use Rattle.std.specs.Prelude.{codes}
use Rattle.desk_args.proofs.Words.{eight_bytes}
use Rattle.desk_args.proofs.order.order_named.Goals as goal

pub returns-in-describe-clause-ordered : goal.returns-in-describe-clause-ordered
returns-in-describe-clause-ordered c =
    let bytes = c.as_bytes.result.now in
    let spelled : bytes ≡ codes "describe" =
    eight_bytes bytes 100 101 115 99 114 105 98 101 (omega (arith, c.in-describe.len_at_least, c.in-describe.len_below)) (search rules) (search rules) (search rules) (search rules)
    (search rules) (search rules) (search rules) (search rules) in
    let is : c.args.name.now ≡ codes "describe" = sym c.as_bytes.ensures.value ∙ spelled in
    inr (
      λ e. let other : codes "describe" ≡ codes "decide" = sym is ∙ e in absurd (cc),
      inr (
        λ e. let other : codes "describe" ≡ codes "least" = sym is ∙ e in absurd (cc),
        inr (
          λ e. let other : codes "describe" ≡ codes "first" = sym is ∙ e in absurd (cc),
          inl (is, c.describe_order.ensures.ordered),
        ),
      ),
    )

pub returns-in_default-clause-ordered : goal.returns-in_default-clause-ordered
returns-in_default-clause-ordered c =
    inr (
      search rules,
      inr (
        search rules,
        inr (
          search rules,
          inr (search rules, inr (search rules, inr (search rules, inr (search rules, inr (search rules, c.textless_order_named.ensures.ordered))))),
        ),
      ),
    )
