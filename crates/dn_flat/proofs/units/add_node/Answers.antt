-- The node is listed, or is put last.
use Rattle.std.proofs.Common.{◌≡◌, ◌∙◌, List, ℕ, true, sym, ap, subst}
use Rattle.dn_flat.specs.Levels.{is_among}
use Rattle.dn_flat.proofs.Among.{last_among, still_among}
use Rattle.dn_flat.proofs.units.add_node.Goals as goal

pub returns-then-is_among-clause-there : goal.returns-then-is_among-clause-there
returns-then-is_among-clause-there c = ap (λ (ns : List ℕ). is_among c.args.node ns) (sym c.deref.ensures.value) ∙ sym c.is_among.ensures ∙ c.if-is_among.true

pub returns-clause-grown : goal.returns-clause-grown
returns-clause-grown c = λ n e. subst (λ (ns : List ℕ). is_among n ns ≡ true) (sym c.in_ok-push.ensures.items) (still_among c.args.nodes.now.items c.args.node n e)

pub returns-clause-there : goal.returns-clause-there
returns-clause-there c = subst (λ (ns : List ℕ). is_among c.args.node ns ≡ true) (sym c.in_ok-push.ensures.items) (last_among c.args.nodes.now.items c.args.node)
