use Rattle.std.proofs.Common.{◌≡◌, ◌∙◌, ◌==◌, Some, IsTrue, true, is_some, get_or, rules, ap, subst, sym}
use Rattle.std.specs.List.{list_all}
use Rattle.std.proofs.lemmas.List.{get_or_default}
use Rattle.dn_base.proofs.Booleans.{and_from}
use Rattle.dn_base.proofs.Orders.{eq-eqb}
use Rattle.dn_kind.specs.Tables.{slot_words}
use Rattle.dn_tables.specs.declared.table.SlotUse.{SlotUse}
use Rattle.dn_tables.specs.Set.{IsInRun, no_use}
use Rattle.dn_tables.specs.Uses.{IsOwned}
use Rattle.dn_tables.proofs.Kept.{placed_in}
use Rattle.dn_tables.proofs.table.NodeTable.is_in_run.Goals.{After-get-users}
use Rattle.dn_tables.proofs.table.NodeTable.is_in_run.Goals as goal

pub get-users-requires : goal.get-users-requires
get-users-requires c = (placed_in c.args.self.now c.args.slot c.requires).used

-- the use that was read is that of the slot
read : (c : After-get-users) → c.get-users.result ≡ get_or c.args.self.now.uses c.args.slot no_use
read c = c.get-users.ensures.value ∙ get_or_default c.args.self.now.uses c.args.slot c.get-users.result no_use (placed_in c.args.self.now c.args.slot c.requires).used

pub are_zero-requires-clause-room : goal.are_zero-requires-clause-room
are_zero-requires-clause-room c =
    let r = (placed_in c.args.self.now c.args.slot c.requires).room in
    search rules

pub returns-then-owned : goal.returns-then-owned
returns-then-owned c h =
    let some : is_some c.get-users.result.owner ≡ true = search rules in
    subst (λ b. IsInRun b (Some c.args.self.now) c.args.slot) (sym c.if-owned.true) (subst IsOwned (read (goal.at.returns-then-owned c).After-get-users) (record { owner = some; alone = c.get-users.ensures.alone some }))

pub returns : goal.returns
returns c h =
    let t = c.args.self.now in
    let none : c.get-users.result.uses ≡ 0 = search rules in
    let unused : (get_or t.uses c.args.slot no_use).uses ≡ 0 = ap (λ (u : SlotUse). u.uses) (sym (read (goal.at.returns c).After-get-users)) ∙ none in
    let zeros : IsTrue (list_all (λ w. w == 0) (slot_words t.width t.words c.args.slot)) = rw c.from.ensures at (c.are_zero.ensures h) in
    subst (λ b. IsInRun b (Some t) c.args.slot) (sym c.if-owned.false)
    (and_from ((get_or t.uses c.args.slot no_use).uses == 0) (list_all (λ w. w == 0) (slot_words t.width t.words c.args.slot)) (eq-eqb (get_or t.uses c.args.slot no_use).uses 0 unused) zeros)
