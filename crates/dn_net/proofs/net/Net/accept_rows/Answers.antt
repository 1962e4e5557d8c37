-- The rows of the node's accept blocks.
use Rattle.std.proofs.Common.{◌∙◌, ap, sym, subst, IsTrue}
use Rattle.std.specs.List.{list_all}
use Rattle.dn_net.specs.Decode.{in_some_block}
use Rattle.dn_net.specs.Rules.{block_in_range}
use Rattle.dn_net.proofs.Faults.{part_is}
use Rattle.dn_net.proofs.net.Net.accept_rows.Goals as goal

pub returns-clause-same : goal.returns-clause-same
returns-clause-same c d at a = c.rows.ensures.same a ∙ ap (in_some_block a) (sym (part_is (λ d. d.accepts) _ d _ at c.parts.ensures.accepts))

pub returns-clause-in_range : goal.returns-clause-in_range
returns-clause-in_range c d at all = c.rows.ensures.in_range (subst (λ l. IsTrue (list_all block_in_range l)) (part_is (λ d. d.accepts) _ d _ at c.parts.ensures.accepts) all)
