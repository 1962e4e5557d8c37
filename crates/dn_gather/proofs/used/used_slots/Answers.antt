use Rattle.std.proofs.Common.{ℕ, List, subst, sym}
use Rattle.dn_gather.specs.Stands.{AreUsed}
use Rattle.dn_gather.proofs.Vacant.{used_begun}
use Rattle.dn_gather.proofs.used.used_slots.Goals as goal

pub loop-slot-init : goal.loop-slot-init
loop-slot-init c = subst (λ (l : List ℕ). AreUsed c.args.tables.now c.args.unit 0 l) (sym c.new-used.ensures.items) (used_begun c.args.tables.now c.args.unit)

pub loop-slot-preserved : goal.loop-slot-preserved
loop-slot-preserved c = c.in_ok-push_used.ensures
