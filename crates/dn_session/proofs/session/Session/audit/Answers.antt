use Rattle.std.proofs.Common.{refl, sym}
use Rattle.dn_kind.specs.Kind.{Meaning}
use Rattle.dn_kinds.specs.Layouts.{pages, radix, remap, vectors}
use Rattle.dn_session.proofs.Shipped.{named_by, shipped_are}
use Rattle.dn_session.specs.contracts.session.Session.audit_with as callee
use Rattle.dn_session.proofs.session.Session.audit.OwnLists.{lawful-own-1, own-1}
use Rattle.dn_session.proofs.session.Session.audit.Goals as goal

-- what a box of the list means
abbrev means : (k : (callee.dyn-1-ghosts (own-1, lawful-own-1)).0.I) × ((callee.dyn-1-ghosts (own-1, lawful-own-1)).0.entry k).0.Denot → Meaning
means z = (callee.dyn-1.members (callee.dyn-1-ghosts (own-1, lawful-own-1)) z).meaning z.1

pub audit_with-requires-clause-shipped : goal.audit_with-requires-clause-shipped
audit_with-requires-clause-shipped c =
    let told = named_by {V = λ k. ((callee.dyn-1-ghosts (own-1, lawful-own-1)).0.entry k).0.Denot} means in
    shipped_are (λ k. means (k.vtable, k.value)) c.none-kinds.result.list.items c.add.new.self.list.items c.add-2.new.self.list.items c.add-3.new.self.list.items c.add-4.new.self.list.items _ _ _ _ c.add.result c.add-2.result c.add-3.result c.add-4.result c.none-kinds.ensures.empty
    (record { none = sym c.if-is_err.ensures.value; added = c.add.ensures.ok }) (record { none = sym c.if-is_err-2.ensures.value; added = c.add-2.ensures.ok })
    (record { none = sym c.if-is_err-3.ensures.value; added = c.add-3.ensures.ok }) (record { none = sym c.if-is_err-4.ensures.value; added = c.add-4.ensures.ok })
    (told pages _ (λ v. refl) c.into_dyn_box.result.vtable c.into_dyn_box.ensures.0 c.into_dyn_box.result.value) (told remap _ (λ v. refl) c.into_dyn_box-2.result.vtable c.into_dyn_box-2.ensures.0 c.into_dyn_box-2.result.value)
    (told vectors _ (λ v. refl) c.into_dyn_box-3.result.vtable c.into_dyn_box-3.ensures.0 c.into_dyn_box-3.result.value) (told radix _ (λ v. refl) c.into_dyn_box-4.result.vtable c.into_dyn_box-4.ensures.0 c.into_dyn_box-4.result.value)
