use Rattle.std.proofs.Common.{◌+◌, ◌∙◌, ℕ, List, subst, sym}
use Rattle.dn_gather.specs.Stands.{AreUsed}
use Rattle.dn_gather.proofs.Vacant.{used_free, used_taken}
use Rattle.dn_gather.proofs.used.push_used.Goals as goal

pub returns-then-is_free : goal.returns-then-is_free
returns-then-is_free c = used_free c.args.tables.now c.args.unit c.args.slot c.args.used.now.items (sym c.is_free.ensures ∙ c.if-is_free.true) c.requires.listed

pub returns : goal.returns
returns c = subst (λ (l : List ℕ). AreUsed c.args.tables.now c.args.unit (c.args.slot + 1) l) (sym c.in_ok-push.ensures.items) (used_taken c.args.tables.now c.args.unit c.args.slot c.args.used.now.items (sym c.is_free.ensures ∙ c.if-is_free.false) c.requires.listed)
