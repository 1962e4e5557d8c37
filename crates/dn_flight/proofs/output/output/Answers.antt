-- One step by the record of a slot.
use Rattle.std.proofs.Common.{◌≡◌, ◌∙◌, ◌≤◌, ◌/◌, ◌^◌, if◌then◌else◌, ap, sym, List, slice_get, Some, None, rules, arith}
use Rattle.std.specs.List.{All}
use Rattle.std.specs.Option.{option_map, option_copied}
use Rattle.dn_kind.specs.Kind.{IsLawful, Meaning}
use Rattle.dn_kind.specs.Kinded.{kinds_of}
use Rattle.dn_kind.specs.Levels.{name_list}
use Rattle.dn_kind.specs.Tables.{Held, allowing, record_allowing, record_held}
use Rattle.dn_kind.proofs.Outputs.{IsStopIn, no_stop, step_in, stop_in, within_unit}
use Rattle.dn_tables.proofs.Slots.{all_of_map}
use Rattle.dn_view.proofs.Held.{IsFoundUnit, found_unit}
use Rattle.dn_flight.proofs.Sized.{stop_there}
use Rattle.dn_flight.proofs.output.output.Given.{Over}
use Rattle.dn_flight.proofs.output.output.Goals.{In_ok-unit}
use Rattle.dn_flight.proofs.output.output.Goals as goal

-- the unit in which the name stops
there : (g : Over) (c : In_ok-unit g) → option_map (λ d. d.unit) (slice_get c.args.on.net.now c.args.name.node) ≡ Some (Some c.in_ok-unit.unit.now)
there g c = c.unit.ensures ∙ ap (λ o. Some (option_copied o)) c.in_ok-unit.was

found : (g : Over) (c : In_ok-unit g) → IsFoundUnit c.args.on.net.now c.args.name.node c.in_ok-unit.unit.now
found g c = found_unit c.args.on.net.now (kinds_of (λ k. (goal.UnitKind-dyn g k).meaning k.1) c.args.on.kinds.now) c.requires.on.legal c.args.name.node c.in_ok-unit.unit.now (there g c)

stop : (g : Over) (c : In_ok-unit g) → IsStopIn c.args.on.net.now c.args.name c.in_ok-unit.unit.now
stop g c = stop_in c.args.on.net.now c.args.name c.in_ok-unit.unit.now c.requires.stop (there g c)

pub overflow_shr-name : goal.overflow_shr-name
overflow_shr-name g c =
    let page : c.in_ok-unit.unit.now.page ≤ 40 = (found g (goal.at.overflow_shr-name g c).In_ok-unit).page in
    omega arith

pub record_at-requires-clause-there : goal.record_at-requires-clause-there
record_at-requires-clause-there g c = stop_there c.args.on.net.now c.args.name c.requires.stop

pub unit-requires : goal.unit-requires
unit-requires g c = stop_there c.args.on.net.now c.args.name c.requires.stop

pub output_name-requires-clause-plain : goal.output_name-requires-clause-plain
output_name-requires-clause-plain g c = (found g (goal.at.output_name-requires-clause-plain g c).In_ok-unit).plain

pub output_name-requires-clause-within : goal.output_name-requires-clause-within
output_name-requires-clause-within g c =
    let kinds : List Meaning = kinds_of (λ k. (goal.UnitKind-dyn g k).meaning k.1) c.args.on.kinds.now in
    let lawful : All IsLawful kinds = all_of_map _ c.args.on.kinds.now.list.items c.requires.on.lawful in
    within_unit c.args.on.net.now kinds c.args.words.now c.args.name (c.args.name.addr / 2 ^ c.in_ok-unit.unit.now.page) c.in_ok-unit.unit.now c.in_ok-record.record lawful (found g (goal.at.output_name-requires-clause-within g c).In_ok-unit).at (sym c.record_at.ensures ∙ c.in_ok-record.was)

pub returns : goal.returns
returns g c =
    let kinds : List Meaning = kinds_of (λ k. (goal.UnitKind-dyn g k).meaning k.1) c.args.on.kinds.now in
    let h : Held = allowing c.args.access (record_held c.args.on.net.now kinds c.args.words.now) in
    let through : h c.args.name.node (c.args.name.addr / 2 ^ c.in_ok-unit.unit.now.page) ≡ Some c.in_ok-record.record = ap (record_allowing c.args.access) (sym c.record_at.ensures ∙ c.in_ok-record.was) ∙ ap (λ b. if b then Some c.in_ok-record.record else None) (sym c.allows.ensures ∙ c.if-not-allows.false) in
    c.output_name.ensures ∙ sym (step_in c.args.on.net.now h c.args.name c.in_ok-unit.unit.now (Some c.in_ok-record.record) (stop g (goal.at.returns g c).In_ok-unit) through)

pub returns-then-not-allows : goal.returns-then-not-allows
returns-then-not-allows g c =
    let kinds : List Meaning = kinds_of (λ k. (goal.UnitKind-dyn g k).meaning k.1) c.args.on.kinds.now in
    let h : Held = allowing c.args.access (record_held c.args.on.net.now kinds c.args.words.now) in
    let none : h c.args.name.node (c.args.name.addr / 2 ^ c.in_ok-unit.unit.now.page) ≡ None = ap (record_allowing c.args.access) (sym c.record_at.ensures ∙ c.in_ok-record.was) ∙ ap (λ b. if b then Some c.in_ok-record.record else None) (sym c.allows.ensures ∙ c.if-not-allows.true) in
    sym (step_in c.args.on.net.now h c.args.name c.in_ok-unit.unit.now None (stop g (goal.at.returns-then-not-allows g c).In_ok-unit) none)

pub returns-in_err-record : goal.returns-in_err-record
returns-in_err-record g c =
    let none : c.from_residual-in_err-record.result ≡ None = search rules in
    let kinds : List Meaning = kinds_of (λ k. (goal.UnitKind-dyn g k).meaning k.1) c.args.on.kinds.now in
    let h : Held = allowing c.args.access (record_held c.args.on.net.now kinds c.args.words.now) in
    let empty : h c.args.name.node (c.args.name.addr / 2 ^ c.in_ok-unit.unit.now.page) ≡ None = ap (record_allowing c.args.access) (sym c.record_at.ensures ∙ c.in_err-record.was) in
    ap name_list none ∙ sym (step_in c.args.on.net.now h c.args.name c.in_ok-unit.unit.now None (stop g (goal.at.returns-in_err-record g c).In_ok-unit) empty)

pub returns-in_err-unit : goal.returns-in_err-unit
returns-in_err-unit g c =
    absurd (no_stop c.args.on.net.now c.args.name c.requires.stop (c.unit.ensures ∙ ap (λ o. Some (option_copied o)) c.in_err-unit.was))
