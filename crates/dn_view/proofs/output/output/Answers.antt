use Rattle.std.proofs.Common.{◌≡◌, ◌∙◌, ◌≤◌, ◌<◌, ◌/◌, ◌^◌, ap, sym, List, slice_get, Some, None, arith}
use Rattle.std.specs.Option.{option_map, option_copied}
use Rattle.std.specs.List.{All}
use Rattle.dn_base.proofs.Orders.{le-ltb}
use Rattle.dn_net.specs.declared.node.Unit.{Unit as UnitPart}
use Rattle.dn_kind.specs.Kind.{Meaning, IsLawful}
use Rattle.dn_kind.specs.Kinded.{kinds_of}
use Rattle.dn_kind.specs.Tables.{record_allowing, allowing}
use Rattle.dn_kind.proofs.Outputs.{IsStopIn, stop_in, step_in}
use Rattle.dn_tables.specs.Set.{record_kept}
use Rattle.dn_tables.proofs.Slots.{all_of_map}
use Rattle.dn_view.proofs.Held.{none_past, kept_are_held, IsFoundUnit, found_unit, held_within, slot_there}
use Rattle.dn_view.proofs.output.output.Given.{Over}
use Rattle.dn_view.proofs.output.output.Goals.{In_ok-unit}
use Rattle.dn_view.proofs.output.output.Goals as goal

-- the unit in which the name stops
there : (g : Over) (c : In_ok-unit g) → option_map (λ d. d.unit) (slice_get c.args.on.net.now c.args.name.node) ≡ Some (Some c.in_ok-unit.unit.now)
there g c = c.unit.ensures ∙ ap (λ o. Some (option_copied o)) c.in_ok-unit.was

found : (g : Over) (c : In_ok-unit g) → IsFoundUnit c.args.on.net.now c.args.name.node c.in_ok-unit.unit.now
found g c = found_unit c.args.on.net.now (kinds_of (λ k. (goal.UnitKind-dyn g k).meaning k.1) c.args.on.kinds.now) c.requires.tables.legal c.args.name.node c.in_ok-unit.unit.now (there g c)

pub overflow_shr-slot : goal.overflow_shr-slot
overflow_shr-slot g c =
    let page : c.in_ok-unit.unit.now.page ≤ 40 = (found g (goal.at.overflow_shr-slot g c).In_ok-unit).page in
    omega arith

pub overflow_cast-slot-2 : goal.overflow_cast-slot-2
overflow_cast-slot-2 g c =
    let u : UnitPart = c.in_ok-unit.unit.now in
    let few : u.slots ≤ 262144 = (found g (goal.at.overflow_cast-slot-2 g c).In_ok-unit).slots in
    let low : c.args.name.addr / 2 ^ u.page < u.slots = omega (arith, c.if-slot-from.false, c.from.ensures) in
    omega arith

pub record_at-requires-clause-there : goal.record_at-requires-clause-there
record_at-requires-clause-there g c =
    let kinds : List Meaning = kinds_of (λ k. (goal.UnitKind-dyn g k).meaning k.1) c.args.on.kinds.now in
    let u : UnitPart = c.in_ok-unit.unit.now in
    slot_there c.args.on.net.now kinds c.args.tables.now c.requires.tables.fits c.args.name.node (c.args.name.addr / 2 ^ u.page) u (found g (goal.at.record_at-requires-clause-there g c).In_ok-unit).at (omega (arith, c.if-slot-from.false, c.from.ensures))

pub output_name-requires-clause-plain : goal.output_name-requires-clause-plain
output_name-requires-clause-plain g c = (found g (goal.at.output_name-requires-clause-plain g c).In_ok-unit).plain

pub output_name-requires-clause-within : goal.output_name-requires-clause-within
output_name-requires-clause-within g c =
    let kinds : List Meaning = kinds_of (λ k. (goal.UnitKind-dyn g k).meaning k.1) c.args.on.kinds.now in
    let u : UnitPart = c.in_ok-unit.unit.now in
    let lawful : All IsLawful kinds = all_of_map _ c.args.on.kinds.now.list.items c.requires.tables.lawful in
    held_within c.args.on.net.now (record_kept kinds c.args.tables.now) (kept_are_held c.args.on.net.now kinds c.args.tables.now lawful c.requires.tables.fits) c.args.name.node (c.args.name.addr / 2 ^ u.page) u c.in_ok-record.record (found g (goal.at.output_name-requires-clause-within g c).In_ok-unit).at (sym c.record_at.ensures ∙ c.in_ok-record.was)

pub returns-then-slot-from : goal.returns-then-slot-from
returns-then-slot-from g c =
    let kinds : List Meaning = kinds_of (λ k. (goal.UnitKind-dyn g k).meaning k.1) c.args.on.kinds.now in
    let u : UnitPart = c.in_ok-unit.unit.now in
    let at = (goal.at.returns-then-slot-from g c).In_ok-unit in
    let stop : IsStopIn c.args.on.net.now c.args.name u = stop_in c.args.on.net.now c.args.name u c.requires.stop (there g at) in
    let none : record_kept kinds c.args.tables.now c.args.name.node (c.args.name.addr / 2 ^ u.page) ≡ None = none_past c.args.on.net.now kinds c.args.tables.now c.requires.tables.fits c.args.name.node (c.args.name.addr / 2 ^ u.page) u (found g at).at (le-ltb (c.args.name.addr / 2 ^ u.page) u.slots (omega (arith, c.if-slot-from.true, c.from.ensures))) in
    sym (step_in c.args.on.net.now (allowing c.args.access (record_kept kinds c.args.tables.now)) c.args.name u None stop (ap (record_allowing c.args.access) none))
