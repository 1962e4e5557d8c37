-- The gate of a slot in the bytes of a unit.
use Rattle.std.proofs.Common.{◌≡◌, ◌∙◌, ℕ, zero, suc, ◌+◌, ◌-◌, ◌*◌, ◌<◌, ◌≤◌, List, drop, slice_index_or, Some, ap, arith, IsTrue}
use Rattle.std.specs.List.{All}
use Rattle.std.proofs.lemmas.List.{drop-drop}
use Rattle.byteorder.specs.Endian.{little_number}
use Rattle.dn_net.specs.declared.node.Unit.{Unit as UnitPart}
use Rattle.dn_kind.specs.Kind.{Meaning, IsLawful}
use Rattle.dn_kind.specs.Units.{is_shaped}
use Rattle.dn_kind.proofs.Held.{kind_lawful}
use Rattle.dn_tables.specs.Set.{width_by}
use Rattle.dn_tables.proofs.Fresh.{kind_there}
use Rattle.dn_image.specs.Bytes.{words_spelled}
use Rattle.dn_image.specs.Image.{width_of, word_count}
use Rattle.dn_image.proofs.Places.{slot_place}

-- a record has a word
pub width_least : (kinds : List Meaning) (u : UnitPart) → All IsLawful kinds → IsTrue (is_shaped kinds u) → 1 ≤ width_of kinds u
width_least kinds u lawful shaped =
    let k = kind_there kinds u shaped in
    let least = (kind_lawful kinds u.kind k.0 lawful k.1).least in
    let same : width_of kinds u ≡ k.0.words = ap width_by k.1 in
    omega (arith, least, same)

-- the last word of a slot is within the bytes
pub gate_within : (kinds : List Meaning) (u : UnitPart) (slot width size : ℕ) → All IsLawful kinds → IsTrue (is_shaped kinds u) → width ≡ width_of kinds u → slot < u.slots → 8 * word_count kinds (Some u) ≤ size → 8 * (slot * width + (width - 1)) + 8 ≤ size
gate_within kinds u slot width size lawful shaped same l room =
    let at = slot_place (width_of kinds u) u.slots size slot width same l room in
    let least = width_least kinds u lawful shaped in
    let a = at.room in
    let b = at.bytes in
    let p = at.place in
    omega (arith, least, a, b, p, same)

-- and it is one of the words
pub gate_among : (kinds : List Meaning) (u : UnitPart) (slot width : ℕ) → All IsLawful kinds → IsTrue (is_shaped kinds u) → width ≡ width_of kinds u → slot < u.slots → slot * width + (width - 1) < word_count kinds (Some u)
gate_among kinds u slot width lawful shaped same l =
    let all = gate_within kinds u slot width (8 * word_count kinds (Some u)) lawful shaped same l (omega arith) in
    omega (arith, all)

-- a word that bytes spell
pub word_at_place : (n k : ℕ) (bs : List ℕ) → k < n → slice_index_or (words_spelled n bs) k 0 ≡ little_number 8 (drop (8 * k) bs)
word_at_place zero k bs l = absurd (omega (arith, l))
word_at_place (suc n) zero bs l =
    let z : 0 ≡ 8 * zero = omega arith in
    ap (λ m. little_number 8 (drop m bs)) z
word_at_place (suc n) (suc k) bs l =
    let e : 8 + 8 * k ≡ 8 * suc k = omega arith in
    word_at_place n k (drop 8 bs) (omega (arith, l))
    ∙ ap (little_number 8) (drop-drop (8 * k) 8 bs ∙ ap (λ m. drop m bs) e)
