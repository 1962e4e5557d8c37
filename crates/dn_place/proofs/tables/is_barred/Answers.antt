use Rattle.std.proofs.Common.{◌≡◌, ◌/◌, ◌^◌, ◌∙◌, Some, sym, ap, arith}
use Rattle.dn_net.specs.declared.node.Unit.{Unit as UnitPart}
use Rattle.dn_kind.specs.Kinded.{kinds_of}
use Rattle.dn_place.proofs.Pages.{slot_there}
use Rattle.dn_place.proofs.Readies.{slot_in_set}
use Rattle.dn_place.proofs.Usable.{barred_is}
use Rattle.dn_place.proofs.tables.is_barred.Goals as goal

pub power-requires : goal.power-requires
power-requires g c = omega (arith, c.in-Some.ensures.bounds.page)

pub slot_at-requires-clause-there : goal.slot_at-requires-clause-there
slot_at-requires-clause-there g c =
    let kinds = kinds_of (λ k. (goal.UnitKind-dyn g k).meaning k.1) c.args.system.on.kinds.now in
    slot_in_set kinds c.args.system.on.net.now c.args.tables.now c.args.name.node _ c.requires.fits (slot_there c.args.system.on.net.now c.args.name.node _ c.in-Some.unit.now c.in-Some.ensures.some (omega (arith, c.from.ensures, c.if-slot-from.false)))

pub returns : goal.returns
returns g c = λ yes u e l.
    let same : c.in-Some.unit.now ≡ u = some _ u (sym c.in-Some.ensures.some ∙ e) in
    let page : c.args.name.base / c.power.result ≡ c.args.name.base / 2 ^ u.page = ap (λ n. c.args.name.base / n) c.power.ensures ∙ ap (λ (v : UnitPart). c.args.name.base / 2 ^ v.page) same in
    rw page at (sym c.slot_at.ensures ∙ barred_is c.slot_at.result (sym c.is_barred_slot.ensures ∙ yes))
  where
    some : (a b : UnitPart) → Some a ≡ Some b → a ≡ b
    some a b p = cc
