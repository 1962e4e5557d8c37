-- The model's invariant, of the list that contracts see.
use Rattle.std.proofs.Common.{arith}
use Rattle.std.specs.Rc.{rc_str_bytes}
use Rattle.dn_net.specs.Parts.{declaration_by}
use Rattle.dn_net.proofs.Places.{length-map}
use Rattle.dn_net.proofs.net.Net.facts.Goals as goal

pub returns : goal.returns
returns c =
    let same = length-map (declaration_by (λ s. rc_str_bytes s)) c.self.inside.nodes.entries in
    let small = c.self.invariant.small in
    rw (← c.self.view_is) record { few = omega (arith, same, small); formed = c.self.invariant.formed; names_differ = c.self.invariant.names_differ }
