use Rattle.std.proofs.Common.{List, Bool, subst}
use Rattle.dn_net.proofs.Stops.{agent_there}
use Rattle.dn_place.specs.Marks.{MarksAfter}
use Rattle.dn_place.proofs.reach.reach_of.Goals as goal

pub from_agent-requires-clause-there : goal.from_agent-requires-clause-there
from_agent-requires-clause-there g c = agent_there c.args.system.on.net.now c.args.agent c.requires.agent

pub returns-clause-reach : goal.returns-clause-reach
returns-clause-reach g c = record {
  marked = record {
    firsts = c.in_ok-first.ensures;
    seconds = subst (λ (m : List Bool). MarksAfter c.args.system.on.net.now m c.in_ok-second.second.items) c.deref-2.ensures.value c.in_ok-second.ensures;
    thirds = subst (λ (m : List Bool). MarksAfter c.args.system.on.net.now m c.in_ok-third.third.items) c.deref-4.ensures.value c.in_ok-third.ensures;
  };
  entry = c.entry_of-entry.ensures;
  units = c.in_ok-units.ensures;
}
