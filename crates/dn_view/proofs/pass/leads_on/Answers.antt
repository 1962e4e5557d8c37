use Rattle.std.proofs.Common.{◌∙◌, ap, sym, ℕ, Bool}
use Rattle.std.specs.List.{list_any}
use Rattle.std.proofs.Math.ListN.{drop_of_length-le}
use Rattle.dn_view.specs.Passes.{part_leads}
use Rattle.dn_view.proofs.pass.leads_on.Goals as goal

pub returns : goal.returns
returns c =
    let p : ℕ → Bool = λ p. part_leads c.args.part c.args.flats.now p in
    sym (ap (list_any p) (sym c.as_slice-ports.ensures) ∙ c.loop-port.invariant ∙ ap (list_any p) (drop_of_length-le c.as_slice-ports.result.now c.loop-port-test.false))
