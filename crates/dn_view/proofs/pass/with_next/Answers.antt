-- The segment goes on with the run.
use Rattle.std.proofs.Common.{◌∙◌, ◌||◌, Option, refl, ap, sym, arith}
use Rattle.dn_interval.specs.declared.row.Seg.{Seg}
use Rattle.dn_flat.specs.Onward.{seg_leads}
use Rattle.dn_view.specs.Passes.{run_leads}
use Rattle.dn_view.proofs.Runs.{run_on}
use Rattle.dn_view.proofs.pass.with_next.Goals as goal

pub returns-clause-given : goal.returns-clause-given
returns-clause-given c = λ next a z.
    run_on c.in_ok-one.one c.args.seg _ _ _ _ next refl refl refl refl (omega (arith, c.if-one-seg.false)) (omega (arith, c.if-one-seg-2.false)) (omega (arith, c.last_out-end.ensures, c.if-end-seg.false)) a z
    ∙ ap (λ (r : Option Seg). run_leads next r a z || seg_leads next c.args.seg a z) (sym c.in_ok-one.was)
