-- One node more.
use Rattle.std.proofs.Common.{◌∙◌, refl, sym, ap}
use Rattle.std.proofs.lemmas.Bool.{false≢true}
use Rattle.dn_flat.specs.Levels.{units_in}
use Rattle.dn_flat.proofs.Seen.{node_listed, nodes_listed}
use Rattle.dn_flat.proofs.seers.list_node.Goals as goal

pub returns-then-not-is_agent : goal.returns-then-not-is_agent
returns-then-not-is_agent c =
    node_listed c.args.leads.now c.args.net.now c.args.nodes.now c.args.node c.args.by_unit.now.items c.args.by_unit.now.items c.args.onward.now.items c.args.onward.now.items c.requires.listed refl (λ n us is. is) (λ is. absurd (false≢true (c.if-not-is_agent.ensures ∙ is)))

pub returns : goal.returns
returns c =
    let units = c.as_slice-units.ensures ∙ sym (ap units_in c.of.ensures) in
    nodes_listed c.args.leads.now c.args.net.now c.args.nodes.now c.args.node c.args.by_unit.now.items c.list_agent.new.by_unit.items c.args.onward.now.items c.list_agent.new.onward.items c.list_agent.result c.as_slice-units.result.now units c.requires.listed c.list_agent.ensures.size c.list_agent.ensures.kept c.list_agent.ensures.listed
