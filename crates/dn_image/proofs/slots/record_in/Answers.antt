use Rattle.std.proofs.Common.{◌≡◌, ◌∙◌, ◌+◌, ◌-◌, ap, sym, take, drop, length, List, ℕ, slice_get, Some, None, refl, rules, arith}
use Rattle.std.specs.Option.{option_map, option_copied}
use Rattle.std.proofs.lemmas.List.{take_rest, length-drop, drop-drop}
use Rattle.dn_net.specs.declared.node.Unit.{Unit as UnitPart}
use Rattle.dn_kind.specs.Kind.{Meaning}
use Rattle.dn_kind.specs.Kinded.{kinds_of}
use Rattle.dn_kind.specs.Tables.{record_of_unit}
use Rattle.dn_tables.proofs.Fresh.{shape_there}
use Rattle.dn_image.specs.Bytes.{words_spelled}
use Rattle.dn_image.specs.Image.{word_count}
use Rattle.dn_image.specs.Reading.{nodes_size, node_words, image_words}
use Rattle.dn_image.proofs.Places.{IsUnitIn, words_within, whole_size, node_within, words_at_node, held_at, none_past, few_slots}
use Rattle.dn_image.proofs.slots.record_in.Given.{Over}
use Rattle.dn_image.proofs.slots.record_in.Goals.{In_ok-unit}
use Rattle.dn_image.proofs.slots.record_in.Goals as goal

-- the unit that was found
unit_in : (g : Over) (c : In_ok-unit g) → IsUnitIn c.args.on.net.now (kinds_of (λ k. (goal.UnitKind-dyn g k).meaning k.1) c.args.on.kinds.now) c.args.bytes.now c.args.node c.in_ok-unit.unit.now
unit_in g c =
    let kinds : List Meaning = kinds_of (λ k. (goal.UnitKind-dyn g k).meaning k.1) c.args.on.kinds.now in
    let there : option_map (λ d. d.unit) (slice_get c.args.on.net.now c.args.node) ≡ Some (Some c.in_ok-unit.unit.now) = c.unit.ensures ∙ ap (λ o. Some (option_copied o)) c.in_ok-unit.was in
    record {
      there = there;
      shaped = shape_there kinds c.args.on.net.now c.args.node (Some c.in_ok-unit.unit.now) c.requires.on.shaped there;
      size = whole_size c.args.on.net.now kinds c.args.bytes.now c.requires.whole;
      within = node_within kinds c.args.on.net.now c.args.node (Some c.in_ok-unit.unit.now) there;
    }

pub record_of-requires-clause-shaped : goal.record_of-requires-clause-shaped
record_of-requires-clause-shaped g c = (unit_in g (goal.at.record_of-requires-clause-shaped g c).In_ok-unit).shaped

pub record_of-requires-clause-room : goal.record_of-requires-clause-room
record_of-requires-clause-room g c =
    let room = words_within _ _ _ _ _ c.words_at.result (unit_in g (goal.at.record_of-requires-clause-room g c).In_ok-unit) c.words_at.ensures in
    let d = length-drop c.words_at.result c.args.bytes.now in
    let e = ap length (take_rest c.args.bytes.now c.words_at.result) in
    omega (arith, room, d, e)

pub slice_bounds-record_of-start : goal.slice_bounds-record_of-start
slice_bounds-record_of-start g c =
    let room = words_within _ _ _ _ _ c.words_at.result (unit_in g (goal.at.slice_bounds-record_of-start g c).In_ok-unit) c.words_at.ensures in
    omega (arith, room)

pub slice_bounds-record_of-count : goal.slice_bounds-record_of-count
slice_bounds-record_of-count g c =
    let room = words_within _ _ _ _ _ c.words_at.result (unit_in g (goal.at.slice_bounds-record_of-count g c).In_ok-unit) c.words_at.ensures in
    omega (arith, room)

pub overflow_cast-slot : goal.overflow_cast-slot
overflow_cast-slot g c =
    let few = few_slots (kinds_of (λ k. (goal.UnitKind-dyn g k).meaning k.1) c.args.on.kinds.now) c.in_ok-unit.unit.now (unit_in g (goal.at.overflow_cast-slot g c).In_ok-unit).shaped in
    let less = c.if-slot-from.false in
    let from = c.from.ensures in
    omega (arith, few, less, from)

pub returns : goal.returns
returns g c =
    let kinds : List Meaning = kinds_of (λ k. (goal.UnitKind-dyn g k).meaning k.1) c.args.on.kinds.now in
    let u : UnitPart = c.in_ok-unit.unit.now in
    let there = (unit_in g (goal.at.returns g c).In_ok-unit).there in
    let at = c.words_at.ensures in
    let n : ℕ = nodes_size kinds (take c.args.node c.args.on.net.now) in
    let place : 8 + n + 8 ≡ c.words_at.result = omega (arith, at) in
    let behind : drop 8 (drop n (drop 8 c.args.bytes.now)) ≡ take (length c.args.bytes.now - c.words_at.result) (drop c.words_at.result c.args.bytes.now) =
    ap (drop 8) (drop-drop n 8 c.args.bytes.now) ∙ drop-drop 8 (8 + n) c.args.bytes.now ∙ ap (λ k. drop k c.args.bytes.now) place ∙ sym (take_rest c.args.bytes.now c.words_at.result) in
    c.record_of.ensures
    ∙ ap (λ (b : List ℕ). record_of_unit kinds (Some u) (Some (words_spelled (word_count kinds (Some u)) b)) c.args.slot) (sym behind)
    ∙ sym (held_at c.args.on.net.now kinds (image_words c.args.on.net.now kinds c.args.bytes.now) c.args.node c.args.slot (Some u) (Some (node_words kinds (Some u) (drop n (drop 8 c.args.bytes.now)))) there (words_at_node kinds c.args.on.net.now c.args.node (Some u) (drop 8 c.args.bytes.now) there))

pub returns-then-slot-from : goal.returns-then-slot-from
returns-then-slot-from g c =
    let kinds : List Meaning = kinds_of (λ k. (goal.UnitKind-dyn g k).meaning k.1) c.args.on.kinds.now in
    let u : UnitPart = c.in_ok-unit.unit.now in
    let there = (unit_in g (goal.at.returns-then-slot-from g c).In_ok-unit).there in
    let past = c.if-slot-from.true in
    let from = c.from.ensures in
    sym (held_at c.args.on.net.now kinds (image_words c.args.on.net.now kinds c.args.bytes.now) c.args.node c.args.slot (Some u) (slice_get (image_words c.args.on.net.now kinds c.args.bytes.now) c.args.node) there refl
    ∙ none_past kinds u (slice_get (image_words c.args.on.net.now kinds c.args.bytes.now) c.args.node) c.args.slot (omega (arith, past, from)))

pub returns-in_err-unit : goal.returns-in_err-unit
returns-in_err-unit g c =
    let kinds : List Meaning = kinds_of (λ k. (goal.UnitKind-dyn g k).meaning k.1) c.args.on.kinds.now in
    let there : option_map (λ d. d.unit) (slice_get c.args.on.net.now c.args.node) ≡ Some None = c.unit.ensures ∙ ap (λ o. Some (option_copied o)) c.in_err-unit.was in
    let none : c.from_residual.result ≡ None = search rules in
    none ∙ sym (held_at c.args.on.net.now kinds (image_words c.args.on.net.now kinds c.args.bytes.now) c.args.node c.args.slot None (slice_get (image_words c.args.on.net.now kinds c.args.bytes.now) c.args.node) there refl)
