use Rattle.std.proofs.Common.{List, ap, arith, length, subst, sym}
use Rattle.dn_place.specs.declared.exits.Exit.{Exit}
use Rattle.dn_place.specs.Exits.{AreExitsTo}
use Rattle.dn_place.specs.Hops.{hops_view}
use Rattle.dn_place.proofs.Outputs.{listed_to, none_listed}
use Rattle.dn_place.proofs.exits.exits_to.Goals as goal

pub loop-port-init : goal.loop-port-init
loop-port-init g c =
    let search = c.args.search in
    subst (λ (es : List Exit). AreExitsTo search.system.on.net.now search.translator.now search.request (hops_view search.nearer) 0 es) (sym c.new-exits.ensures.items) (none_listed search.system.on.net.now search.translator.now search.request (hops_view search.nearer))

pub loop-port-preserved : goal.loop-port-preserved
loop-port-preserved g c = c.in_ok-push_exits.ensures

pub returns : goal.returns
returns g c =
    let search = c.args.search in
    listed_to search.system.on.net.now search.translator.now search.request (hops_view search.nearer) c.loop-port.port c.loop-port.exits.items (omega (arith, c.loop-port-test.false, ap length c.as_slice.ensures)) c.loop-port.invariant
