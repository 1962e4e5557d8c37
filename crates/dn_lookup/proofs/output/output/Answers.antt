use Rattle.std.proofs.Common.{◌≡◌, ◌==◌, ◌∙◌, ◌≤◌, ◌/◌, ◌^◌, refl, ap, sym, slice_get, Some, None, IsTrue, if◌then◌else◌, rules, arith}
use Rattle.std.specs.Option.{option_map, option_copied}
use Rattle.std.specs.List.{All}
use Rattle.dn_kind.specs.Kind.{IsLawful, is_plain_unit_shape}
use Rattle.dn_kind.specs.Kinded.{kinds_of}
use Rattle.dn_kind.specs.Tables.{record_held}
use Rattle.dn_kind.specs.Units.{unit_shape}
use Rattle.dn_tables.proofs.Fresh.{shape_there, plain_there}
use Rattle.dn_tables.proofs.Slots.{all_of_map}
use Rattle.dn_image.specs.Reading.{image_words}
use Rattle.dn_kind.specs.Levels.{name_list}
use Rattle.dn_lookup.specs.Lookup.{bytes_records}
use Rattle.dn_lookup.proofs.Served.{record_through, slot_served}
use Rattle.dn_kind.proofs.Outputs.{has_pages, IsStopIn, stop_in, no_stop, step_in, within_unit}
use Rattle.dn_lookup.proofs.output.output.Given.{Over}
use Rattle.dn_lookup.proofs.output.output.Goals.{In_ok-unit, In_ok-record}
use Rattle.dn_lookup.proofs.output.output.Goals as goal

-- the unit in which the name stops
there : (g : Over) (c : In_ok-unit g) → option_map (λ d. d.unit) (slice_get c.args.image.on.net.now c.args.name.node) ≡ Some (Some c.in_ok-unit.unit.now)
there g c = c.unit.ensures ∙ ap (λ o. Some (option_copied o)) c.in_ok-unit.was

plain : (g : Over) (c : In_ok-unit g) → IsTrue (is_plain_unit_shape (unit_shape c.in_ok-unit.unit.now))
plain g c = plain_there (kinds_of (λ k. (goal.UnitKind-dyn g k).meaning k.1) c.args.image.on.kinds.now) c.in_ok-unit.unit.now (shape_there (kinds_of (λ k. (goal.UnitKind-dyn g k).meaning k.1) c.args.image.on.kinds.now) c.args.image.on.net.now c.args.name.node (Some c.in_ok-unit.unit.now) c.requires.image.on.shaped (there g c))

stop : (g : Over) (c : In_ok-unit g) → IsStopIn c.args.image.on.net.now c.args.name c.in_ok-unit.unit.now
stop g c = stop_in c.args.image.on.net.now c.args.name c.in_ok-unit.unit.now c.requires.stop (there g c)

-- the record that its slot holds
held : (g : Over) (c : In_ok-record g) → record_held c.args.image.on.net.now (kinds_of (λ k. (goal.UnitKind-dyn g k).meaning k.1) c.args.image.on.kinds.now) (image_words c.args.image.on.net.now (kinds_of (λ k. (goal.UnitKind-dyn g k).meaning k.1) c.args.image.on.kinds.now) c.args.image.bytes.now) c.args.name.node (c.args.name.addr / 2 ^ c.in_ok-unit.unit.now.page) ≡ Some c.in_ok-record.record
held g c = sym c.record_in.ensures ∙ c.in_ok-record.was

-- and what the slot lets through
served : (g : Over) (c : In_ok-unit g) → bytes_records c.args.image.on.net.now (kinds_of (λ k. (goal.UnitKind-dyn g k).meaning k.1) c.args.image.on.kinds.now) c.args.image.bytes.now c.args.image.version c.args.access c.args.name.node (c.args.name.addr / 2 ^ c.in_ok-unit.unit.now.page) ≡ record_through c.args.image.version c.args.access (record_held c.args.image.on.net.now (kinds_of (λ k. (goal.UnitKind-dyn g k).meaning k.1) c.args.image.on.kinds.now) (image_words c.args.image.on.net.now (kinds_of (λ k. (goal.UnitKind-dyn g k).meaning k.1) c.args.image.on.kinds.now) c.args.image.bytes.now) c.args.name.node (c.args.name.addr / 2 ^ c.in_ok-unit.unit.now.page))
served g c = slot_served c.args.image.on.net.now (kinds_of (λ k. (goal.UnitKind-dyn g k).meaning k.1) c.args.image.on.kinds.now) c.args.image.bytes.now c.args.access c.args.image.version c.args.name.node (c.args.name.addr / 2 ^ c.in_ok-unit.unit.now.page) (c.args.image.version == 1) (all_of_map _ c.args.image.on.kinds.now.list.items c.requires.image.on.lawful) refl

pub overflow_shr-slot : goal.overflow_shr-slot
overflow_shr-slot g c =
    let page : c.in_ok-unit.unit.now.page ≤ 40 = (has_pages (unit_shape c.in_ok-unit.unit.now) (plain g (goal.at.overflow_shr-slot g c).In_ok-unit)).page in
    omega arith

pub output_name-requires-clause-plain : goal.output_name-requires-clause-plain
output_name-requires-clause-plain g c = plain g (goal.at.output_name-requires-clause-plain g c).In_ok-unit

pub output_name-requires-clause-within : goal.output_name-requires-clause-within
output_name-requires-clause-within g c =
    let lawful : All IsLawful (kinds_of (λ k. (goal.UnitKind-dyn g k).meaning k.1) c.args.image.on.kinds.now) = all_of_map _ c.args.image.on.kinds.now.list.items c.requires.image.on.lawful in
    within_unit c.args.image.on.net.now (kinds_of (λ k. (goal.UnitKind-dyn g k).meaning k.1) c.args.image.on.kinds.now) (image_words c.args.image.on.net.now (kinds_of (λ k. (goal.UnitKind-dyn g k).meaning k.1) c.args.image.on.kinds.now) c.args.image.bytes.now) c.args.name (c.args.name.addr / 2 ^ c.in_ok-unit.unit.now.page) c.in_ok-unit.unit.now c.in_ok-record.record lawful (stop g (goal.at.output_name-requires-clause-within g c).In_ok-unit).unit (held g (goal.at.output_name-requires-clause-within g c).In_ok-record)

pub returns : goal.returns
returns g c =
    let through : (bytes_records c.args.image.on.net.now (kinds_of (λ k. (goal.UnitKind-dyn g k).meaning k.1) c.args.image.on.kinds.now) c.args.image.bytes.now c.args.image.version c.args.access) c.args.name.node (c.args.name.addr / 2 ^ c.in_ok-unit.unit.now.page) ≡ Some c.in_ok-record.record = served g (goal.at.returns g c).In_ok-unit ∙ ap (record_through c.args.image.version c.args.access) (held g (goal.at.returns g c).In_ok-record) ∙ ap (λ b. if b then Some c.in_ok-record.record else None) (sym c.lets_through.ensures ∙ c.if-not-lets_through.false) in
    c.output_name.ensures ∙ sym (step_in c.args.image.on.net.now (bytes_records c.args.image.on.net.now (kinds_of (λ k. (goal.UnitKind-dyn g k).meaning k.1) c.args.image.on.kinds.now) c.args.image.bytes.now c.args.image.version c.args.access) c.args.name c.in_ok-unit.unit.now (Some c.in_ok-record.record) (stop g (goal.at.returns g c).In_ok-unit) through)

pub returns-then-not-lets_through : goal.returns-then-not-lets_through
returns-then-not-lets_through g c =
    let through : (bytes_records c.args.image.on.net.now (kinds_of (λ k. (goal.UnitKind-dyn g k).meaning k.1) c.args.image.on.kinds.now) c.args.image.bytes.now c.args.image.version c.args.access) c.args.name.node (c.args.name.addr / 2 ^ c.in_ok-unit.unit.now.page) ≡ None = served g (goal.at.returns-then-not-lets_through g c).In_ok-unit ∙ ap (record_through c.args.image.version c.args.access) (held g (goal.at.returns-then-not-lets_through g c).In_ok-record) ∙ ap (λ b. if b then Some c.in_ok-record.record else None) (sym c.lets_through.ensures ∙ c.if-not-lets_through.true) in
    sym (step_in c.args.image.on.net.now (bytes_records c.args.image.on.net.now (kinds_of (λ k. (goal.UnitKind-dyn g k).meaning k.1) c.args.image.on.kinds.now) c.args.image.bytes.now c.args.image.version c.args.access) c.args.name c.in_ok-unit.unit.now None (stop g (goal.at.returns-then-not-lets_through g c).In_ok-unit) through)

pub returns-in_err-record : goal.returns-in_err-record
returns-in_err-record g c =
    let none : c.from_residual-in_err-record.result ≡ None = search rules in
    let empty : record_held c.args.image.on.net.now (kinds_of (λ k. (goal.UnitKind-dyn g k).meaning k.1) c.args.image.on.kinds.now) (image_words c.args.image.on.net.now (kinds_of (λ k. (goal.UnitKind-dyn g k).meaning k.1) c.args.image.on.kinds.now) c.args.image.bytes.now) c.args.name.node (c.args.name.addr / 2 ^ c.in_ok-unit.unit.now.page) ≡ None = sym c.record_in.ensures ∙ c.in_err-record.was in
    let through : (bytes_records c.args.image.on.net.now (kinds_of (λ k. (goal.UnitKind-dyn g k).meaning k.1) c.args.image.on.kinds.now) c.args.image.bytes.now c.args.image.version c.args.access) c.args.name.node (c.args.name.addr / 2 ^ c.in_ok-unit.unit.now.page) ≡ None = served g (goal.at.returns-in_err-record g c).In_ok-unit ∙ ap (record_through c.args.image.version c.args.access) empty in
    ap name_list none ∙ sym (step_in c.args.image.on.net.now (bytes_records c.args.image.on.net.now (kinds_of (λ k. (goal.UnitKind-dyn g k).meaning k.1) c.args.image.on.kinds.now) c.args.image.bytes.now c.args.image.version c.args.access) c.args.name c.in_ok-unit.unit.now None (stop g (goal.at.returns-in_err-record g c).In_ok-unit) through)

pub returns-in_err-unit : goal.returns-in_err-unit
returns-in_err-unit g c =
    absurd (no_stop c.args.image.on.net.now c.args.name c.requires.stop (c.unit.ensures ∙ ap (λ o. Some (option_copied o)) c.in_err-unit.was))

pub record_in-requires : goal.record_in-requires
record_in-requires g c = record {
  on = c.requires.image.on;
  whole = c.requires.image.whole;
  there = c.requires.there;
}
