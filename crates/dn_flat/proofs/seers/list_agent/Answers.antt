-- The agent is in the list of those that see names of a unit that leads on, or in those of all its units.
use Rattle.std.proofs.Common.{ℕ, List, sym, subst}
use Rattle.dn_flat.specs.Levels.{IsAgentListed}
use Rattle.dn_flat.proofs.Seen.{in_lists, in_onward, kept_lists, kept_onward}
use Rattle.dn_flat.proofs.seers.list_agent.Goals as goal

pub returns-then-some_lead-clause-kept : goal.returns-then-some_lead-clause-kept
returns-then-some_lead-clause-kept c = λ n us is.
    subst (λ (o : List ℕ). IsAgentListed c.args.leads.now c.args.by_unit.now.items o n us) (sym c.in_ok-push.ensures.items)
    (kept_onward c.args.leads.now c.args.by_unit.now.items c.args.onward.now.items c.args.agent n us is)

pub returns-then-some_lead-clause-listed : goal.returns-then-some_lead-clause-listed
returns-then-some_lead-clause-listed c =
    subst (λ (o : List ℕ). IsAgentListed c.args.leads.now c.args.by_unit.now.items o c.args.agent c.args.units.now) (sym c.in_ok-push.ensures.items)
    (in_onward c.args.leads.now c.args.by_unit.now.items c.args.onward.now.items c.args.agent c.args.units.now)

pub returns-clause-kept : goal.returns-clause-kept
returns-clause-kept c =
    kept_lists c.args.leads.now c.args.by_unit.now.items c.list_for_units.new.by_unit.items c.args.onward.now.items c.args.agent c.args.units.now c.list_for_units.result c.list_for_units.ensures.size c.list_for_units.ensures.listed

pub returns-clause-listed : goal.returns-clause-listed
returns-clause-listed c =
    in_lists c.args.leads.now c.args.by_unit.now.items c.list_for_units.new.by_unit.items c.args.onward.now.items c.args.agent c.args.units.now c.list_for_units.result c.list_for_units.ensures.size c.list_for_units.ensures.listed (sym c.if-some_lead.ensures)
