use Rattle.std.proofs.Common.{◌≡◌, ◌∙◌, ◌+◌, ◌<◌, ◌≤◌, ◌++◌, is_some, List, [], Some, None, slice_index_or, ap, sym, append-nil, arith, rules}
use Rattle.std.specs.Option.{option_copied}
use Rattle.dn_net.specs.Decode.{unit_at}
use Rattle.dn_net.proofs.Steps.{unit_is}
use Rattle.dn_kind.specs.Kinded.{kinds_of}
use Rattle.dn_kind.specs.Tables.{AreHeld}
use Rattle.dn_tables.proofs.Slots.{all_of_map}
use Rattle.dn_image.specs.Image.{width_of}
use Rattle.dn_image.proofs.Places.{few_slots}
use Rattle.dn_audit.specs.declared.report.Shut.{Shut}
use Rattle.dn_audit.specs.Records.{held_of_unit, shut_of_unit}
use Rattle.dn_audit.specs.Taking.{records_in, image_says}
use Rattle.dn_audit.proofs.Counting.{held_done, held_more, one_most, shut_done, shut_more}
use Rattle.dn_audit.proofs.Filled.{filled_plain, filled_unit, image_held}
use Rattle.dn_audit.proofs.taking.take_node.Given.{Over}
use Rattle.dn_audit.proofs.taking.take_node.Goals.{After-unit, In-Some}
use Rattle.dn_audit.proofs.taking.take_node.Goals as goal

-- the records of the image are those of tables
held : (g : Over) (c : After-unit g) → AreHeld c.args.image.on.net.now (records_in (λ k. (goal.UnitKind-dyn g k).meaning k.1) c.args.image)
held g c = image_held c.args.image.on.net.now (kinds_of (λ k. (goal.UnitKind-dyn g k).meaning k.1) c.args.image.on.kinds.now) (image_says (λ k. (goal.UnitKind-dyn g k).meaning k.1) c.args.image) (all_of_map _ c.args.image.on.kinds.now.list.items c.requires.image.on.lawful)

-- the unit that was found is that of the node
here : (g : Over) (c : In-Some g) → unit_at c.args.image.on.net.now c.args.node ≡ Some c.in-Some.unit.now
here g c = unit_is c.args.image.on.net.now c.args.node (Some c.in-Some.unit.now) (c.unit.ensures ∙ ap (λ o. Some (option_copied o)) c.in-Some.is)

pub returns-in_default-clause-filled : goal.returns-in_default-clause-filled
returns-in_default-clause-filled g c =
    let none : c.unit.result ≡ None = search rules in
    let no_unit : unit_at c.args.image.on.net.now c.args.node ≡ None = unit_is c.args.image.on.net.now c.args.node None (c.unit.ensures ∙ ap (λ o. Some (option_copied o)) none) in
    filled_plain c.args.image.on.net.now (kinds_of (λ k. (goal.UnitKind-dyn g k).meaning k.1) c.args.image.on.kinds.now) (records_in (λ k. (goal.UnitKind-dyn g k).meaning k.1) c.args.image) c.args.node c.args.tables.now _ _ (held g (goal.at.returns-in_default-clause-filled g c).After-unit) no_unit c.requires.filled

pub take_slot-requires-clause-few : goal.take_slot-requires-clause-few
take_slot-requires-clause-few g c =
    let few = c.loop-slot.invariant.few in
    let first = c.requires.few in
    let nodes = c.requires.nodes in
    let many = few_slots (kinds_of (λ k. (goal.UnitKind-dyn g k).meaning k.1) c.args.image.on.kinds.now) c.in-Some.unit.now (c.requires.image.on.shaped.shaped c.args.node c.in-Some.unit.now (here g (goal.at.take_slot-requires-clause-few g c).In-Some)) in
    let slot = c.loop-slot-test.true in
    omega (arith, few, first, nodes, many, slot)

pub loop-slot-preserved : goal.loop-slot-preserved
loop-slot-preserved g c =
    let slot : c.loop-slot.slot < c.in-Some.unit.now.slots = c.loop-slot-test.true in
    let few = c.loop-slot.invariant.few in
    let more = c.in_ok-take_slot.ensures.records in
    let one = one_most (is_some ((records_in (λ k. (goal.UnitKind-dyn g k).meaning k.1) c.args.image) c.args.node c.loop-slot.slot)) in
    record {
      filled = c.in_ok-take_slot.ensures.filled;
      records = held_more _ _ c.loop-slot.slot c.in-Some.unit.now.slots _ ((records_in (λ k. (goal.UnitKind-dyn g k).meaning k.1) c.args.image) c.args.node) slot c.loop-slot.invariant.records more;
      few = omega (arith, few, more, one);
      shut = shut_more c.args.node (width_of (kinds_of (λ k. (goal.UnitKind-dyn g k).meaning k.1) c.args.image.on.kinds.now) c.in-Some.unit.now) (slice_index_or (image_says (λ k. (goal.UnitKind-dyn g k).meaning k.1) c.args.image).words c.args.node []) ((records_in (λ k. (goal.UnitKind-dyn g k).meaning k.1) c.args.image) c.args.node) c.loop-slot.slot c.in-Some.unit.now.slots _ _ _ slot c.loop-slot.invariant.shut c.in_ok-take_slot.ensures.shut;
    }

pub returns-clause-filled : goal.returns-clause-filled
returns-clause-filled g c =
    let at = goal.at.returns-clause-filled g c in
    let all : c.in-Some.unit.now.slots ≤ c.loop-slot.slot = (let t = c.loop-slot-test.false in omega (arith, t)) in
    filled_unit c.args.image.on.net.now (kinds_of (λ k. (goal.UnitKind-dyn g k).meaning k.1) c.args.image.on.kinds.now) (records_in (λ k. (goal.UnitKind-dyn g k).meaning k.1) c.args.image) c.args.node c.loop-slot.slot c.in-Some.unit.now _ _ _ (held g at.After-unit) (here g at.In-Some) all c.loop-slot.invariant.filled

pub returns-clause-records : goal.returns-clause-records
returns-clause-records g c =
    let all : c.in-Some.unit.now.slots ≤ c.loop-slot.slot = (let t = c.loop-slot-test.false in omega (arith, t)) in
    let none = held_done ((records_in (λ k. (goal.UnitKind-dyn g k).meaning k.1) c.args.image) c.args.node) c.loop-slot.slot c.in-Some.unit.now.slots all in
    let so_far = c.loop-slot.invariant.records in
    let sum : c.loop-slot.found.records ≡ c.args.found.now.records + held_of_unit ((records_in (λ k. (goal.UnitKind-dyn g k).meaning k.1) c.args.image) c.args.node) (Some c.in-Some.unit.now) = omega (arith, none, so_far) in
    sum ∙ ap (λ o. c.args.found.now.records + held_of_unit ((records_in (λ k. (goal.UnitKind-dyn g k).meaning k.1) c.args.image) c.args.node) o) (sym (here g (goal.at.returns-clause-records g c).In-Some))

pub returns-clause-few : goal.returns-clause-few
returns-clause-few g c =
    let few = c.loop-slot.invariant.few in
    let first = c.requires.few in
    let many = few_slots (kinds_of (λ k. (goal.UnitKind-dyn g k).meaning k.1) c.args.image.on.kinds.now) c.in-Some.unit.now (c.requires.image.on.shaped.shaped c.args.node c.in-Some.unit.now (here g (goal.at.returns-clause-few g c).In-Some)) in
    let last = c.loop-slot.auto.slot-end in
    omega (arith, few, first, many, last)

pub returns-clause-shut : goal.returns-clause-shut
returns-clause-shut g c =
    let all : c.in-Some.unit.now.slots ≤ c.loop-slot.slot = (let t = c.loop-slot-test.false in omega (arith, t)) in
    let none = shut_done c.args.node (width_of (kinds_of (λ k. (goal.UnitKind-dyn g k).meaning k.1) c.args.image.on.kinds.now) c.in-Some.unit.now) (slice_index_or (image_says (λ k. (goal.UnitKind-dyn g k).meaning k.1) c.args.image).words c.args.node []) ((records_in (λ k. (goal.UnitKind-dyn g k).meaning k.1) c.args.image) c.args.node) c.loop-slot.slot c.in-Some.unit.now.slots all in
    sym (append-nil _) ∙ ap (λ (l : List Shut). c.loop-slot.found.shut ++ l) (sym none) ∙ c.loop-slot.invariant.shut
    ∙ ap (λ o. c.args.found.now.shut ++ shut_of_unit (kinds_of (λ k. (goal.UnitKind-dyn g k).meaning k.1) c.args.image.on.kinds.now) c.args.node o (slice_index_or (image_says (λ k. (goal.UnitKind-dyn g k).meaning k.1) c.args.image).words c.args.node []) ((records_in (λ k. (goal.UnitKind-dyn g k).meaning k.1) c.args.image) c.args.node)) (sym (here g (goal.at.returns-clause-shut g c).In-Some))
