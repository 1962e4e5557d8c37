-- One node more.
use Rattle.std.proofs.Common.{◌≡◌, ◌∙◌, ◌<◌, true, subst, sym, arith}
use Rattle.std.specs.Option.{option_copied}
use Rattle.dn_net.specs.Decode.{ports_within}
use Rattle.dn_net.proofs.Plain.{plain_unit_at}
use Rattle.dn_walk.proofs.Nexts.{units_below, next_by_lows}
use Rattle.dn_walk.proofs.Parts.{ports_there}
use Rattle.dn_walk.proofs.leads.next_units.Goals as goal

pub next_of-requires-clause-plain : goal.next_of-requires-clause-plain
next_of-requires-clause-plain c = plain_unit_at c.args.checked.net.now c.loop-node.node _ c.args.checked.plain c.unit.ensures

pub next_of-requires-clause-ports : goal.next_of-requires-clause-ports
next_of-requires-clause-ports c =
    let e = c.from-nodes.ensures ∙ c.nodes.ensures in
    subst (λ n. ports_within n (option_copied c.unit.result) ≡ true) (sym e) (ports_there c.args.checked.net.now c.loop-node.node _ c.args.checked.rules.closed c.unit.ensures)

pub next_of-requires-clause-units : goal.next_of-requires-clause-units
next_of-requires-clause-units c = units_below c.args.checked.net.now c.args.units.now c.from-nodes.result c.requires.units (c.from-nodes.ensures ∙ c.nodes.ensures)

pub returns-clause-next : goal.returns-clause-next
returns-clause-next c = λ u l.
    let there : u < c.loop-node.node = omega (arith, c.loop-node-test.false, c.nodes-node-end.ensures, l) in
    c.loop-node.invariant.each u there
    ∙ next_by_lows c.args.checked.net.now _ c.in_ok-lows.lows.items c.args.units.now c.from-nodes.result (c.from-nodes.ensures ∙ c.nodes.ensures) c.requires.units c.args.checked.plain c.args.checked.rules.closed c.in_ok-lows.ensures u
