use Rattle.std.proofs.Common.{◌≡◌, ◌∙◌, ◌+◌, ◌-◌, ◌*◌, ◌%◌, ◌==◌, ap, sym, length, List, ℕ, Some, slice_index_or, arith}
use Rattle.std.specs.List.{All}
use Rattle.std.proofs.lemmas.List.{take_rest, length-drop}
use Rattle.byteorder.specs.Endian.{little_number}
use Rattle.dn_kind.specs.Kind.{Meaning, IsLawful}
use Rattle.dn_kind.specs.Kinded.{kinds_of}
use Rattle.dn_tables.proofs.Slots.{all_of_map}
use Rattle.dn_image.specs.Bytes.{words_spelled}
use Rattle.dn_image.specs.Image.{width_of, word_count}
use Rattle.dn_audit.specs.Records.{has_gate}
use Rattle.dn_audit.proofs.Gates.{gate_among, gate_within, width_least, word_at_place}
use Rattle.dn_audit.proofs.stored.has_gate.Given.{Over}
use Rattle.dn_audit.proofs.stored.has_gate.Goals.{After-from-width}
use Rattle.dn_audit.proofs.stored.has_gate.Goals as goal

lawful_kinds : (g : Over) (c : After-from-width g) → All IsLawful (kinds_of (λ k. (goal.UnitKind-dyn g k).meaning k.1) c.args.kinds.now)
lawful_kinds g c = all_of_map _ c.args.kinds.now.list.items c.requires.kinds.lawful

width_is : (g : Over) (c : After-from-width g) → c.from-width.result ≡ width_of (kinds_of (λ k. (goal.UnitKind-dyn g k).meaning k.1) c.args.kinds.now) c.args.unit.now
width_is g c = c.from-width.ensures ∙ c.record_width.ensures.width

pub overflow_sub-word : goal.overflow_sub-word
overflow_sub-word g c =
    let at = (goal.at.overflow_sub-word g c).After-from-width in
    let least = width_least _ c.args.unit.now (lawful_kinds g at) c.requires.shaped in
    let same = width_is g at in
    omega (arith, least, same)

pub read_u64-requires : goal.read_u64-requires
read_u64-requires g c =
    let at = (goal.at.read_u64-requires g c).After-from-width in
    let w : ℕ = c.args.slot * c.from-width.result + (c.from-width.result - 1) in
    let within = gate_within _ c.args.unit.now c.args.slot c.from-width.result (length c.args.bytes.now) (lawful_kinds g at) c.requires.shaped (width_is g at) c.requires.slot c.requires.room in
    let d = length-drop (8 * w) c.args.bytes.now in
    let e = ap length (take_rest c.args.bytes.now (8 * w)) in
    omega (arith, within, d, e)

pub returns : goal.returns
returns g c =
    let at = (goal.at.returns g c).After-from-width in
    let kinds : List Meaning = kinds_of (λ k. (goal.UnitKind-dyn g k).meaning k.1) c.args.kinds.now in
    let w : ℕ = c.args.slot * c.from-width.result + (c.from-width.result - 1) in
    let among = gate_among kinds c.args.unit.now c.args.slot c.from-width.result (lawful_kinds g at) c.requires.shaped (width_is g at) c.requires.slot in
    let read : c.read_u64.result ≡ slice_index_or (words_spelled (word_count kinds (Some c.args.unit.now)) c.args.bytes.now) w 0 =
    c.read_u64.ensures ∙ ap (little_number 8) (take_rest c.args.bytes.now (8 * w)) ∙ sym (word_at_place (word_count kinds (Some c.args.unit.now)) w c.args.bytes.now among) in
    ap (λ n. n % 2 == 1) read
    ∙ ap (λ n. has_gate n (words_spelled (word_count kinds (Some c.args.unit.now)) c.args.bytes.now) c.args.slot) (width_is g at)
