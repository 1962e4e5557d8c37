-- The record of a slot of a unit, by the words of its node.
use Rattle.std.proofs.Common.{◌≡◌, ◌∙◌, ◌*◌, ap, sym, List, ℕ, length, slice_get, Some, None, rules, arith}
use Rattle.std.specs.Option.{option_map, option_copied}
use Rattle.std.proofs.lemmas.Option.{same_Some}
use Rattle.dn_net.proofs.Steps.{unit_is}
use Rattle.dn_kind.specs.Kind.{Meaning}
use Rattle.dn_kind.specs.Kinded.{kinds_of}
use Rattle.dn_tables.specs.Set.{width_by}
use Rattle.dn_tables.proofs.Fresh.{kind_there, shape_there}
use Rattle.dn_tables.proofs.Slots.{all_of_map}
use Rattle.dn_view.proofs.Held.{IsFoundUnit, found_unit}
use Rattle.dn_flight.proofs.Sized.{held_by, none_past, none_there, spelled_at, unit_words, within_list}
use Rattle.dn_flight.proofs.output.record_at.Given.{Over}
use Rattle.dn_flight.proofs.output.record_at.Goals.{In_ok-unit}
use Rattle.dn_flight.proofs.output.record_at.Goals as goal

-- the unit of the node
there : (g : Over) (c : In_ok-unit g) → option_map (λ d. d.unit) (slice_get c.args.on.net.now c.args.node) ≡ Some (Some c.in_ok-unit.unit.now)
there g c = c.unit.ensures ∙ ap (λ o. Some (option_copied o)) c.in_ok-unit.was

found : (g : Over) (c : In_ok-unit g) → IsFoundUnit c.args.on.net.now c.args.node c.in_ok-unit.unit.now
found g c = found_unit c.args.on.net.now (kinds_of (λ k. (goal.UnitKind-dyn g k).meaning k.1) c.args.on.kinds.now) c.requires.on.legal c.args.node c.in_ok-unit.unit.now (there g c)

-- its words
has : (g : Over) (c : In_ok-unit g) → (ws : List ℕ) × (slice_get c.args.words.now c.args.node ≡ Some ws) × (length ws ≡ c.in_ok-unit.unit.now.slots * width_by (slice_get (kinds_of (λ k. (goal.UnitKind-dyn g k).meaning k.1) c.args.on.kinds.now) c.in_ok-unit.unit.now.kind))
has g c = unit_words c.args.on.net.now (kinds_of (λ k. (goal.UnitKind-dyn g k).meaning k.1) c.args.on.kinds.now) c.args.words.now (record { lawful = all_of_map _ c.args.on.kinds.now.list.items c.requires.on.lawful; shaped = c.requires.on.legal.shaped }) c.requires.on.legal c.requires.sized c.args.node c.in_ok-unit.unit.now (found g c).at

pub record_of-requires-clause-shaped : goal.record_of-requires-clause-shaped
record_of-requires-clause-shaped g c = shape_there (kinds_of (λ k. (goal.UnitKind-dyn g k).meaning k.1) c.args.on.kinds.now) c.args.on.net.now c.args.node (Some c.in_ok-unit.unit.now) c.requires.on.legal.shaped (there g (goal.at.record_of-requires-clause-shaped g c).In_ok-unit)

pub record_of-requires-clause-words : goal.record_of-requires-clause-words
record_of-requires-clause-words g c = λ kind at.
    (let h = has g (goal.at.record_of-requires-clause-words g c).In_ok-unit in
    ap (λ (ws : List ℕ). length ws) (same_Some c.of.result.now h.0 (sym c.of.ensures ∙ h.1)) ∙ h.2 ∙ ap (λ k. c.in_ok-unit.unit.now.slots * width_by k) at)

pub of-requires : goal.of-requires
of-requires g c = let h = has g (goal.at.of-requires g c).In_ok-unit in within_list c.args.words.now c.args.node h.0 h.1

pub returns : goal.returns
returns g c =
    let kinds : List Meaning = kinds_of (λ k. (goal.UnitKind-dyn g k).meaning k.1) c.args.on.kinds.now in
    let u = (goal.at.returns g c).In_ok-unit in
    let k = kind_there kinds c.in_ok-unit.unit.now (shape_there kinds c.args.on.net.now c.args.node (Some c.in_ok-unit.unit.now) c.requires.on.legal.shaped (there g u)) in
    let past = c.if-slot-from.false in
    let from = c.from.ensures in
    c.record_of.ensures k.0 k.1
    ∙ sym (held_by c.args.on.net.now kinds c.args.words.now c.args.node c.args.slot c.in_ok-unit.unit.now c.of.result.now (found g u).at c.of.ensures ∙ spelled_at kinds c.in_ok-unit.unit.now k.0 c.of.result.now c.args.slot k.1 (omega arith))

pub returns-then-slot-from : goal.returns-then-slot-from
returns-then-slot-from g c = sym (none_past c.args.on.net.now (kinds_of (λ k. (goal.UnitKind-dyn g k).meaning k.1) c.args.on.kinds.now) c.args.words.now c.args.node c.args.slot c.in_ok-unit.unit.now (found g (goal.at.returns-then-slot-from g c).In_ok-unit).at (let past = c.if-slot-from.true in let from = c.from.ensures in omega arith))

pub returns-in_err-unit : goal.returns-in_err-unit
returns-in_err-unit g c =
    let none : c.from_residual.result ≡ None = search rules in
    none ∙ sym (none_there c.args.on.net.now (kinds_of (λ k. (goal.UnitKind-dyn g k).meaning k.1) c.args.on.kinds.now) c.args.words.now c.args.node c.args.slot (unit_is c.args.on.net.now c.args.node None (c.unit.ensures ∙ ap (λ o. Some (option_copied o)) c.in_err-unit.was)))
