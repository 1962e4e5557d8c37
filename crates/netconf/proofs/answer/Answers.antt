use Rattle.std.proofs.Common.{ap, refl}
use Rattle.dn_kind.specs.Kind.{Meaning}
use Rattle.dn_kinds.specs.Layouts.{pages, radix, remap, vectors}
use Rattle.dn_tables.specs.Sizes.{sizes_by}
use Rattle.netconf.specs.Shipped.{program_kinds}
use Rattle.netconf.proofs.Shipped.{added_kinds, means_by, units_alone}
use Rattle.netconf.proofs.answer.OwnLists.{own-1}
use Rattle.netconf.proofs.answer.Goals as goal

-- what a box of the list means
abbrev means : (k : own-1.I) × (own-1.entry k).0.Denot → Meaning
means z = (own-1.entry z.0).1.meaning z.1

pub returns-clause-answered : goal.returns-clause-answered
returns-clause-answered g c =
    let told = means_by {V = λ k. (own-1.entry k).0.Denot} means in
    units_alone _ _ program_kinds _ _ _ _ _ _ _ _ _ _ c.run.ensures.answered
    (added_kinds (λ k. means (k.vtable, k.value)) _ _ _ _ _ _ _ _ _ c.none-kinds.ensures.empty c.in_ok-add.ensures.ok c.in_ok-add-2.ensures.ok c.in_ok-add-3.ensures.ok c.in_ok-add-4.ensures.ok
    (told pages _ (λ v. refl) c.into_dyn_box.result.vtable c.into_dyn_box.ensures.0 c.into_dyn_box.result.value)
    (told remap _ (λ v. refl) c.into_dyn_box-in_ok-new-2.result.vtable c.into_dyn_box-in_ok-new-2.ensures.0 c.into_dyn_box-in_ok-new-2.result.value)
    (told vectors _ (λ v. refl) c.into_dyn_box-in_ok-new-3.result.vtable c.into_dyn_box-in_ok-new-3.ensures.0 c.into_dyn_box-in_ok-new-3.result.value)
    (told radix _ (λ v. refl) c.into_dyn_box-in_ok-new-4.result.vtable c.into_dyn_box-in_ok-new-4.ensures.0 c.into_dyn_box-in_ok-new-4.result.value))
    (ap sizes_by c.none-device.ensures)
