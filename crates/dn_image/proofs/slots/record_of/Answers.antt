use Rattle.std.proofs.Common.{◌≡◌, ◌∙◌, ◌*◌, ap, take, drop, length, List, ℕ, arith}
use Rattle.std.proofs.lemmas.List.{take_rest, length-drop}
use Rattle.dn_kind.specs.Kind.{Meaning}
use Rattle.dn_kind.specs.Kinded.{kinds_of}
use Rattle.dn_tables.proofs.Fresh.{kind_there}
use Rattle.dn_image.specs.Bytes.{words_spelled}
use Rattle.dn_image.specs.Image.{width_of}
use Rattle.dn_image.proofs.Numbers.{length_spelled}
use Rattle.dn_image.proofs.Places.{IsPlace, slot_place, first_small, kind_known, record_said}
use Rattle.dn_image.proofs.slots.record_of.Given.{Over}
use Rattle.dn_image.proofs.slots.record_of.Goals.{After-from-width}
use Rattle.dn_image.proofs.slots.record_of.Goals as goal

-- where the words of the slot begin
place_of : (g : Over) (c : After-from-width g) → IsPlace (width_of (kinds_of (λ k. (goal.UnitKind-dyn g k).meaning k.1) c.args.kinds.now) c.args.unit.now) c.args.unit.now.slots (length c.args.bytes.now) c.args.slot c.from-width.result
place_of g c = slot_place (width_of (kinds_of (λ k. (goal.UnitKind-dyn g k).meaning k.1) c.args.kinds.now) c.args.unit.now) c.args.unit.now.slots (length c.args.bytes.now) c.args.slot c.from-width.result (c.from-width.ensures ∙ c.record_width.ensures.width) c.requires.slot c.requires.room

pub record_width-requires-clause-known : goal.record_width-requires-clause-known
record_width-requires-clause-known g c = kind_known (λ k. (goal.UnitKind-dyn g (k.vtable, k.value)).meaning k.value) c.args.kinds.now.list.items c.args.unit.now c.requires.shaped

pub overflow_mul-first : goal.overflow_mul-first
overflow_mul-first g c =
    let small = first_small c.args.slot c.from-width.result c.record_width.result c.ranges.slot.fits c.from-width.ensures c.record_width.ensures.most in
    omega arith

pub overflow_mul-first-2 : goal.overflow_mul-first-2
overflow_mul-first-2 g c =
    let small = first_small c.args.slot c.from-width.result c.record_width.result c.ranges.slot.fits c.from-width.ensures c.record_width.ensures.most in
    omega arith

pub slice_bounds-read_slot-start : goal.slice_bounds-read_slot-start
slice_bounds-read_slot-start g c =
    let at = place_of g (goal.at.slice_bounds-read_slot-start g c).After-from-width in
    let room = at.room in
    let bytes = at.bytes in
    let place = at.place in
    omega (arith, room, bytes, place)

pub read_slot-words-requires-clause-room : goal.read_slot-words-requires-clause-room
read_slot-words-requires-clause-room g c =
    let first : ℕ = 8 * (c.args.slot * c.from-width.result) in
    let d = length-drop first c.args.bytes.now in
    let e = ap length (take_rest c.args.bytes.now first) in
    let at = place_of g (goal.at.read_slot-words-requires-clause-room g c).After-from-width in
    let room = at.room in
    let bytes = at.bytes in
    let place = at.place in
    let width = at.same in
    omega (arith, room, bytes, place, width, d, e)

pub record_by-requires-clause-words : goal.record_by-requires-clause-words
record_by-requires-clause-words g c = ap length c.read_slot-words.ensures ∙ length_spelled c.from-width.result _ ∙ c.from-width.ensures ∙ c.record_width.ensures.width

pub returns : goal.returns
returns g c =
    let kinds : List Meaning = kinds_of (λ k. (goal.UnitKind-dyn g k).meaning k.1) c.args.kinds.now in
    let w : ℕ = width_of kinds c.args.unit.now in
    let width : c.from-width.result ≡ w = (place_of g (goal.at.returns g c).After-from-width).same in
    let first : ℕ = 8 * (c.args.slot * c.from-width.result) in
    let read : take c.from-width.result c.read_slot-words.result ≡ words_spelled w (drop (8 * (c.args.slot * w)) c.args.bytes.now) =
    c.read_slot-words.ensures
    ∙ ap (words_spelled c.from-width.result) (take_rest c.args.bytes.now first)
    ∙ ap (λ n. words_spelled n (drop (8 * (c.args.slot * n)) c.args.bytes.now)) width in
    let k = kind_there kinds c.args.unit.now c.requires.shaped in
    c.record_by.ensures k.0 k.1 ∙ record_said kinds c.args.unit.now k.0 c.args.slot c.args.bytes.now (take c.from-width.result c.read_slot-words.result) k.1 c.requires.slot read
