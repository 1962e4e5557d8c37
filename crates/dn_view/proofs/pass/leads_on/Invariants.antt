use Rattle.std.proofs.Common.{◌≡◌, drop}
use Rattle.std.specs.List.{list_any}
use Rattle.dn_view.specs.Passes.{part_leads}
use Rattle.dn_view.proofs.pass.leads_on.Given as goal

abbrev pub invariant-loop-port : goal.invariant-loop-port
invariant-loop-port l = list_any (λ p. part_leads l.part l.flats p) l.ports ≡ list_any (λ p. part_leads l.part l.flats p) (drop l.port-index l.ports)
