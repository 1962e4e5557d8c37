use Rattle.std.proofs.Common.{refl, sym}
use Rattle.dn_kind.specs.Kind.{Meaning}
use Rattle.dn_kinds.specs.Layouts.{pages, radix, remap, vectors}
use Rattle.dn_session.proofs.Shipped.{named_by, shipped_are}
use Rattle.netconf_c.specs.contracts.run.run_with as callee
use Rattle.netconf_c.proofs.run.run.OwnLists.{lawful-own-1, own-1}
use Rattle.netconf_c.proofs.run.run.Goals as goal

-- what a box of the list means
abbrev means : (k : (callee.dyn-1-ghosts (own-1, lawful-own-1)).0.I) × ((callee.dyn-1-ghosts (own-1, lawful-own-1)).0.entry k).0.Denot → Meaning
means z = (callee.dyn-1.members (callee.dyn-1-ghosts (own-1, lawful-own-1)) z).meaning z.1

pub run_with-requires-clause-shipped : goal.run_with-requires-clause-shipped
run_with-requires-clause-shipped c =
    let told = named_by {V = λ k. ((callee.dyn-1-ghosts (own-1, lawful-own-1)).0.entry k).0.Denot} means in
    shipped_are (λ k. means (k.vtable, k.value)) c.shipped_kinds-none.result.list.items c.shipped_kinds-add.new.self.list.items c.shipped_kinds-add-2.new.self.list.items c.shipped_kinds-add-3.new.self.list.items c.shipped_kinds-add-4.new.self.list.items _ _ _ _ c.shipped_kinds-add.result c.shipped_kinds-add-2.result c.shipped_kinds-add-3.result c.shipped_kinds-add-4.result c.shipped_kinds-none.ensures.empty
    (record { none = sym c.if-shipped_kinds.ensures.value; added = c.shipped_kinds-add.ensures.ok }) (record { none = sym c.if-shipped_kinds-2.ensures.value; added = c.shipped_kinds-add-2.ensures.ok })
    (record { none = sym c.if-shipped_kinds-3.ensures.value; added = c.shipped_kinds-add-3.ensures.ok }) (record { none = sym c.if-shipped_kinds-4.ensures.value; added = c.shipped_kinds-add-4.ensures.ok })
    (told pages _ (λ v. refl) c.shipped_kinds-into_dyn_box.result.vtable c.shipped_kinds-into_dyn_box.ensures.0 c.shipped_kinds-into_dyn_box.result.value) (told remap _ (λ v. refl) c.shipped_kinds-into_dyn_box-2.result.vtable c.shipped_kinds-into_dyn_box-2.ensures.0 c.shipped_kinds-into_dyn_box-2.result.value)
    (told vectors _ (λ v. refl) c.shipped_kinds-into_dyn_box-3.result.vtable c.shipped_kinds-into_dyn_box-3.ensures.0 c.shipped_kinds-into_dyn_box-3.result.value) (told radix _ (λ v. refl) c.shipped_kinds-into_dyn_box-4.result.vtable c.shipped_kinds-into_dyn_box-4.ensures.0 c.shipped_kinds-into_dyn_box-4.result.value)
