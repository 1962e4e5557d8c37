use Rattle.std.proofs.Common.{◌<◌, ℕ, List, get_or, length, subst, sym}
use Rattle.dn_interval.specs.declared.row.Row.{Row}
use Rattle.dn_place.specs.Hops.{hops_view}
use Rattle.dn_place.specs.Rows.{AreToward}
use Rattle.dn_place.proofs.Nexts.{node_there, port_read}
use Rattle.dn_place.proofs.exits.push_exits.Goals as goal

pub of-requires : goal.of-requires
of-requires g c =
    let search = c.args.search in
    let there : get_or c.as_slice.result.now c.from.result 0 < length search.system.on.net.now = rw (c.as_slice.ensures, c.from.ensures) (node_there search.system.on.net.now c.args.port search.translator.now c.requires.search.bounds c.requires.port) in
    subst (λ (n : ℕ). get_or c.as_slice.result.now c.from.result 0 < n) (sym c.requires.search.system.flat.every) there

pub push_rows-requires-clause-node : goal.push_rows-requires-clause-node
push_rows-requires-clause-node g c = port_read c.as_slice.result.now c.args.search.translator.now.ports c.from.result c.args.port c.as_slice.ensures c.from.ensures c.requires.port

pub push_rows-requires-clause-toward : goal.push_rows-requires-clause-toward
push_rows-requires-clause-toward g c =
    let search = c.args.search in
    let node = get_or c.as_slice.result.now c.from.result 0 in
    c.in-Some.ensures search.system.on.net.now search.request node (c.requires.search.system.flat.each node c.of.result.now c.of.ensures)

pub made_rows-requires-clause-there : goal.made_rows-requires-clause-there
made_rows-requires-clause-there g c =
    let search = c.args.search in
    rw (c.as_slice.ensures, c.from.ensures) (node_there search.system.on.net.now c.args.port search.translator.now c.requires.search.bounds c.requires.port)

pub push_rows-requires-in-None-clause-node : goal.push_rows-requires-in-None-clause-node
push_rows-requires-in-None-clause-node g c = port_read c.as_slice.result.now c.args.search.translator.now.ports c.from.result c.args.port c.as_slice.ensures c.from.ensures c.requires.port

pub push_rows-requires-in-None-clause-toward : goal.push_rows-requires-in-None-clause-toward
push_rows-requires-in-None-clause-toward g c =
    let search = c.args.search in
    let node = get_or c.as_slice.result.now c.from.result 0 in
    subst (λ (rs : List Row). AreToward search.system.on.net.now search.request (hops_view search.nearer) node rs) (sym c.rows-in-None.ensures.value) c.in_ok-rows-in-None.ensures
