use Rattle.std.proofs.Common.{◌∙◌, ap, refl, length, slice_set, arith}
use Rattle.std.proofs.lemmas.List.{length-set}
use Rattle.dn_tables.specs.Set.{with_uses}
use Rattle.dn_tables.proofs.Kept.{slot_in_set, set_is_changed, set_kept, IsSlot}
use Rattle.dn_tables.proofs.set.TableSet.set_use.Goals.{After-index_mut-table}
use Rattle.dn_tables.proofs.set.TableSet.set_use.Goals as goal

-- the slot, in the table of its node
slot_of : (c : After-index_mut-table) → IsSlot c.args.self.now c.args.unit c.args.slot c.index_mut-table.result.now
slot_of c = slot_in_set c.self.inside.nodes.items c.args.self.now c.from.result c.args.unit c.args.slot c.index_mut-table.result.now c.self.view_is c.from.ensures c.self.invariant c.requires.there c.index_mut-table.ensures.value

pub set-requires : goal.set-requires
set-requires c =
    let s = slot_of (goal.at.set-requires c).After-index_mut-table in
    let l = s.within in
    let m = s.sized.uses in
    omega arith

pub invariant_of-self : goal.invariant_of-self
invariant_of-self c =
    let s = slot_of (goal.at.invariant_of-self c).After-index_mut-table in
    set_kept c.self.inside.nodes.items c.from.result c.index_mut-table.result.now (with_uses c.index_mut-table.result.now c.set.new.self) c.self.invariant s.has.sized refl refl refl (ap length c.set.ensures ∙ length-set c.index_mut-table.result.now.uses c.args.slot _)

pub returns : goal.returns
returns c =
    let s = slot_of (goal.at.returns c).After-index_mut-table in
    set_is_changed c.self.inside.nodes.items c.args.self.now c.from.result c.args.unit c.index_mut-table.result.now (with_uses c.index_mut-table.result.now c.set.new.self) (λ u. with_uses u (slice_set u.uses c.args.slot c.args.users)) c.self.view_is c.from.ensures s.at (ap (with_uses c.index_mut-table.result.now) c.set.ensures)
