-- Gate words: a slot whose last word is 0 holds no record, so one that is half written holds none.
use Rattle.std.proofs.Common.{◌≡◌, ℕ, zero, suc, ◌+◌, ◌-◌, ◌*◌, ◌%◌, ◌<◌, ◌≤◌, Bool, true, false, if◌then◌else◌, nat_lt, List, [], ◌∷◌, length, take, drop, min, replicate, get_or, slice_get, slice_set, Option, Some, None, refl, sym, ap, ◌∙◌, arith, length-drop}
use Rattle.std.specs.List.{All}
use Rattle.std.proofs.lemmas.List.{length-set, length-take, length-take-le, length-replicate, get_or-drop, get_or-take, get_or-replicate, get_or-set_same}
use Rattle.dn_net.specs.declared.node.Unit.{Unit as UnitPart}
use Rattle.dn_kind.specs.declared.unit_kind.Record.{Record}
use Rattle.dn_kind.specs.Kind.{Meaning, IsLawful, gate_word}
use Rattle.dn_kind.specs.Tables.{slot_words, record_within, record_spelled, record_of_unit}
use Rattle.dn_kind.proofs.Held.{kind_lawful}
use Rattle.dn_tables.specs.Set.{put_over}
use Rattle.dn_tables.specs.Writes.{WordWrite, writes_from, words_after, clears_from}
use Rattle.dn_tables.proofs.Values.{after_puts, take_writes, length_after, put_past}

-- the gate word is the last
gate_is_last : (ws : List ℕ) (n : ℕ) → length ws ≡ suc n → gate_word ws ≡ get_or ws n 0
gate_is_last [] n e = absurd (omega arith)
gate_is_last (w ∷ []) zero e = refl
gate_is_last (w ∷ []) (suc n) e = absurd (omega arith)
gate_is_last (w ∷ v ∷ ws) zero e = absurd (omega arith)
gate_is_last (w ∷ v ∷ ws) (suc n) e = gate_is_last (v ∷ ws) n (omega arith)

-- what stands at a place of a list is the same whatever stands behind the list
default_of : (ws : List ℕ) (at w : ℕ) → at < length ws → get_or ws at w ≡ get_or ws at 0
default_of [] at w l = absurd (omega arith)
default_of (v ∷ ws) zero w l = refl
default_of (v ∷ ws) (suc at) w l = default_of ws at w (omega arith)

-- the gate word of a slot is the last of its words
pub gate_of_slot : (n slot : ℕ) (ws : List ℕ) → slot * suc n + suc n ≤ length ws → gate_word (slot_words (suc n) ws slot) ≡ get_or ws (slot * suc n + n) 0
gate_of_slot n slot ws l =
    let d : length (drop (slot * suc n) ws) ≡ length ws - slot * suc n = length-drop (slot * suc n) ws in
    let t : length (take (suc n) (drop (slot * suc n) ws)) ≡ suc n = length-take-le (suc n) (drop (slot * suc n) ws) (omega arith) in
    gate_is_last (slot_words (suc n) ws slot) n t
    ∙ get_or-take (suc n) (drop (slot * suc n) ws) n 0 (omega arith)
    ∙ get_or-drop (slot * suc n) ws n 0

-- the same of any number of words but none, where the word is known
pub gate_of_width : (width slot : ℕ) (ws : List ℕ) (w : ℕ) → 1 ≤ width → slot * width + width ≤ length ws → w ≡ get_or ws (slot * width + (width - 1)) w → w ≡ gate_word (slot_words width ws slot)
gate_of_width zero slot ws w h l e = absurd (omega arith)
gate_of_width (suc n) slot ws w h l e =
    let same : suc n - 1 ≡ n = omega arith in
    let at : w ≡ get_or ws (slot * suc n + n) w = e ∙ ap (λ m. get_or ws (slot * suc n + m) w) same in
    at ∙ default_of ws (slot * suc n + n) w (omega arith) ∙ sym (gate_of_slot n slot ws l)

-- the last word of a slot whose words are 0 is 0
gate_of_empty : (n slot : ℕ) (ws : List ℕ) → slot_words (suc n) ws slot ≡ replicate (suc n) 0 → get_or ws (slot * suc n + n) 0 ≡ 0
gate_of_empty n slot ws e =
    sym (get_or-drop (slot * suc n) ws n 0)
    ∙ sym (get_or-take (suc n) (drop (slot * suc n) ws) n 0 (omega arith))
    ∙ ap (λ (l : List ℕ). get_or l n 0) e
    ∙ get_or-replicate (suc n) n 0 0 (omega arith)

-- after some of the writes of a record the gate word of an empty slot is 0 still
pub gate_while_put : (n slot k : ℕ) (vs ws : List ℕ) → slot * suc n + suc n ≤ length ws → length vs ≡ suc n → k < suc n → slot_words (suc n) ws slot ≡ replicate (suc n) 0 → gate_word (slot_words (suc n) (words_after (take k (writes_from (slot * suc n) vs)) ws) slot) ≡ 0
gate_while_put n slot k vs ws l e h empty =
    let first : ℕ = slot * suc n in
    let t : length (take k vs) ≡ k = length-take-le k vs (omega arith) in
    let s : words_after (take k (writes_from first vs)) ws ≡ put_over ws first (take k vs) = ap (λ (w : List WordWrite). words_after w ws) (take_writes k first vs) ∙ after_puts (take k vs) ws first (omega arith) in
    let m : length (words_after (take k (writes_from first vs)) ws) ≡ length ws = length_after (take k (writes_from first vs)) ws in
    gate_of_slot n slot (words_after (take k (writes_from first vs)) ws) (omega arith)
    ∙ ap (λ (w : List ℕ). get_or w (first + n) 0) s
    ∙ put_past ws (take k vs) first n (omega arith) (omega arith)
    ∙ gate_of_empty n slot ws empty

gate_behind : (n slot k : ℕ) (zs ws : List ℕ) → slot * suc n + suc n ≤ length ws → length zs ≡ n → gate_word (slot_words (suc n) (words_after (take k (writes_from (slot * suc n) zs)) (slice_set ws (slot * suc n + n) 0)) slot) ≡ 0
gate_behind n slot k zs ws l e =
    let first : ℕ = slot * suc n in
    let ws' : List ℕ = slice_set ws (first + n) 0 in
    let s : length ws' ≡ length ws = length-set ws (first + n) 0 in
    let u : length (take k zs) ≡ min k (length zs) = length-take k zs in
    let t : length (take k zs) ≤ n = omega arith in
    let all : words_after (take k (writes_from first zs)) ws' ≡ put_over ws' first (take k zs) =
    ap (λ (w : List WordWrite). words_after w ws') (take_writes k first zs) ∙ after_puts (take k zs) ws' first (omega arith) in
    let m : length (words_after (take k (writes_from first zs)) ws') ≡ length ws' = length_after (take k (writes_from first zs)) ws' in
    gate_of_slot n slot (words_after (take k (writes_from first zs)) ws') (omega arith)
    ∙ ap (λ (w : List ℕ). get_or w (first + n) 0) all
    ∙ put_past ws' (take k zs) first n (omega arith) t
    ∙ get_or-set_same ws (first + n) 0 0 (omega arith)

-- after the first of the writes that clear a slot, and any of the others, its gate word is 0
pub gate_while_cleared : (n slot k : ℕ) (ws : List ℕ) → slot * suc n + suc n ≤ length ws → gate_word (slot_words (suc n) (words_after (take (suc k) (clears_from (slot * suc n) (suc n))) ws) slot) ≡ 0
gate_while_cleared n slot k ws l =
    let e : suc n - 1 ≡ n = omega arith in
    ap (λ m. gate_word (slot_words (suc n) (words_after (take k (writes_from (slot * suc n) (replicate m 0))) (slice_set ws (slot * suc n + m) 0)) slot)) e
    ∙ gate_behind n slot k (replicate n 0) ws l (length-replicate n 0)

-- a slot whose gate word is 0 holds no record
pub none_by_gate : (kinds : List Meaning) (u : UnitPart) (width slot : ℕ) (ws : List ℕ) → All IsLawful kinds → ((kind : Meaning) → slice_get kinds u.kind ≡ Some kind → kind.words ≡ width) → slot * width + width ≤ length ws → gate_word (slot_words width ws slot) ≡ 0 → record_of_unit kinds (Some u) (Some ws) slot ≡ None
none_by_gate kinds u width slot ws lawful wide l gate = by (slice_get kinds u.kind) refl
  where
    inner : (kind : Meaning) → slice_get kinds u.kind ≡ Some kind → kind.unpack (slot_words kind.words ws slot) ≡ None
    inner kind at =
        let w : kind.words ≡ width = wide kind at in
        let d : length (drop (slot * width) ws) ≡ length ws - slot * width = length-drop (slot * width) ws in
        let t : length (slot_words width ws slot) ≡ width = length-take-le width (drop (slot * width) ws) (omega arith) in
        let same : slot_words kind.words ws slot ≡ slot_words width ws slot = ap (λ n. slot_words n ws slot) w in
        ap kind.unpack same ∙ (kind_lawful kinds u.kind kind lawful at).shut (slot_words width ws slot) (t ∙ sym w) (ap (λ n. n % 2) gate)

    chosen : (b : Bool) (o : Option Record) → o ≡ None → (if b then record_within u o else None) ≡ None
    chosen true o e = ap (record_within u) e
    chosen false o e = refl

    by : (k : Option Meaning) → slice_get kinds u.kind ≡ k → record_spelled k u (Some ws) slot ≡ None
    by None at = refl
    by (Some kind) at = chosen (nat_lt slot u.slots) (kind.unpack (slot_words kind.words ws slot)) (inner kind at)
