-- The rows give what the strands give, and these what the segments give.
use Rattle.std.proofs.Common.{◌≡◌, ◌∙◌, ap, ℕ}
use Rattle.std.proofs.lemmas.Result.{IfOk-weaker}
use Rattle.dn_interval.specs.declared.row.End.{End}
use Rattle.dn_interval.specs.Strands.{strands_give, segs_give, rows_give}
use Rattle.dn_interval.proofs.rows.rows_of.Goals as goal

pub returns-clause-same : goal.returns-clause-same
returns-clause-same c =
    IfOk-weaker c.sweep.result (λ rows. (a : ℕ) (y : End) → rows_give rows.items a y ≡ strands_give c.as_slice.result.now a y) (λ rows. (a : ℕ) (y : End) → rows_give rows.items a y ≡ segs_give c.args.segs.now a y)
    (λ rows same a y. same a y ∙ ap (λ t. strands_give t a y) c.as_slice.ensures.value ∙ c.in_ok-strands.ensures.same a y) c.sweep.ensures.same
