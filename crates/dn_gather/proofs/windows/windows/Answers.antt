use Rattle.std.proofs.Common.{ℕ, ◌<◌, List, subst, sym, IsTrue}
use Rattle.std.proofs.lemmas.Result.{IfOk-weaker}
use Rattle.dn_interval.specs.declared.row.Row.{Row}
use Rattle.dn_interval.specs.Rows.{AreNormal}
use Rattle.dn_view.specs.Near.{levels_near}
use Rattle.dn_gather.specs.Stands.{AreWindows, inputs}
use Rattle.dn_gather.proofs.Entering.{first_input, windows_are}
use Rattle.dn_gather.proofs.windows.windows.Goals as goal

pub of-requires : goal.of-requires
of-requires g c = subst (λ (n : ℕ). c.args.agent < n) (sym c.requires.system.flat.every) c.requires.there

pub returns : goal.returns
returns g c =
    let net = c.args.system.on.net.now in
    let agent = c.args.agent in
    let unit = c.args.unit in
    let levels = c.of.result.now in
    let are = c.requires.system.flat.each agent levels c.of.ensures in
    IfOk-weaker c.near_rows.result (λ rows. AreNormal (λ a z. IsTrue (levels_near (first_input unit) c.inputs.result c.as_slice-stops.result.now a z)) rows) (λ rows. AreWindows net agent unit (inputs c.args.translator.now) rows)
    (λ rows n. subst (λ (end : ℕ). AreWindows net agent unit end rows) c.inputs.ensures
    (windows_are net agent unit c.inputs.result levels rows are (subst (λ (ls : List (List Row)). AreNormal (λ a z. IsTrue (levels_near (first_input unit) c.inputs.result ls a z)) rows) c.as_slice-stops.ensures n)))
    c.near_rows.ensures
