use Rattle.std.proofs.Common.{◌≡◌, ◌∙◌, ap, sym, arith, List, ℕ, ◌+◌, Bool, if◌then◌else◌, Option, Some, is_some}
use Rattle.dn_net.specs.declared.node.Unit.{Unit as UnitPart}
use Rattle.dn_net.specs.Decode.{unit_at}
use Rattle.dn_net.specs.Rules.{count_below}
use Rattle.dn_kind.specs.Kinded.{kinds_of}
use Rattle.dn_kind.specs.declared.unit_kind.Record.{Record}
use Rattle.dn_kind.specs.Kind.{Meaning}
use Rattle.dn_kind.specs.Tables.{Held, record_held}
use Rattle.dn_tables.specs.Set.{words_of}
use Rattle.dn_view.proofs.Held.{kept_is_held, slot_there}
use Rattle.dn_net.proofs.Steps.{unit_is}
use Rattle.dn_net.proofs.Tally.{count_below-zero}
use Rattle.dn_tool.specs.Demo.{held_slots}
use Rattle.dn_tool.proofs.Demos.{count_more, one_at_most}
use Rattle.dn_tool.proofs.demo.node_records.Goals as goal

pub loop-slot-init : goal.loop-slot-init
loop-slot-init g c = record { few = omega arith; count = sym (count_below-zero _) }

pub record_at-requires-clause-there : goal.record_at-requires-clause-there
record_at-requires-clause-there g c =
    let kinds : List Meaning = kinds_of (λ k. (goal.UnitKind-dyn g k).meaning k.1) c.args.machine.on.kinds.now in
    let unit : unit_at c.args.machine.on.net.now c.args.node ≡ Some c.in-Some.unit.now = unit_is c.args.machine.on.net.now c.args.node (Some c.in-Some.unit.now) c.in-Some.ensures in
    slot_there c.args.machine.on.net.now kinds c.args.tables.now c.requires.fits c.args.node c.loop-slot.slot c.in-Some.unit.now unit c.loop-slot-test.true

pub loop-slot-preserved : goal.loop-slot-preserved
loop-slot-preserved g c =
    let kinds : List Meaning = kinds_of (λ k. (goal.UnitKind-dyn g k).meaning k.1) c.args.machine.on.kinds.now in
    let held : Held = record_held c.args.machine.on.net.now kinds (words_of c.args.tables.now) in
    let slot = c.loop-slot.slot in
    let passed : c.is_some.result ≡ is_some (held c.args.node slot) =
    c.is_some.ensures ∙ ap (λ (o : Option Record). is_some o) (c.record_at.ensures ∙ kept_is_held c.args.machine.on.net.now kinds c.args.tables.now c.requires.fits c.args.node slot) in
    let more : c.count_if-total.result ≡ c.loop-slot.total + (if is_some (held c.args.node slot) then 1 else 0) =
    c.count_if-total.ensures ∙ ap (λ (b : Bool). c.loop-slot.total + (if b then 1 else 0)) passed in
    let one = one_at_most (is_some (held c.args.node slot)) in
    let few = c.loop-slot.invariant.few in
    record {
      few = omega (arith, more, one, few);
      count = more ∙ ap (λ (n : ℕ). n + (if is_some (held c.args.node slot) then 1 else 0)) c.loop-slot.invariant.count ∙ sym (count_more (λ q. is_some (held c.args.node q)) slot);
    }

pub returns-clause-count : goal.returns-clause-count
returns-clause-count g c =
    let kinds : List Meaning = kinds_of (λ k. (goal.UnitKind-dyn g k).meaning k.1) c.args.machine.on.kinds.now in
    let held : Held = record_held c.args.machine.on.net.now kinds (words_of c.args.tables.now) in
    let unit : unit_at c.args.machine.on.net.now c.args.node ≡ Some c.in-Some.unit.now = unit_is c.args.machine.on.net.now c.args.node (Some c.in-Some.unit.now) c.in-Some.ensures in
    let all : c.loop-slot.slot ≡ c.in-Some.unit.now.slots = omega (arith, c.loop-slot-test.false, c.loop-slot.auto.slot-end) in
    c.loop-slot.invariant.count
    ∙ ap (λ (n : ℕ). count_below (λ q. is_some (held c.args.node q)) n) all
    ∙ ap (λ (o : Option UnitPart). held_slots held c.args.node o) (sym unit)
