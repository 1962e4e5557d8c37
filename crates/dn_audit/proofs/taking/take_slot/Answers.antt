use Rattle.std.proofs.Common.{◌≡◌, ◌∙◌, ◌+◌, ◌++◌, ◌∷◌, Bool, if◌then◌else◌, is_some, List, [], Option, Some, None, slice_index_or, ap, sym, append-nil, arith, rules}
use Rattle.std.specs.List.{All}
use Rattle.dn_kind.specs.declared.unit_kind.Record.{Record}
use Rattle.dn_kind.specs.Kind.{IsLawful}
use Rattle.dn_kind.specs.Kinded.{kinds_of}
use Rattle.dn_kind.specs.Tables.{AreHeld}
use Rattle.dn_tables.proofs.Slots.{all_of_map}
use Rattle.dn_tables.specs.Set.{packed_in, with_slot}
use Rattle.dn_image.specs.Bytes.{words_spelled}
use Rattle.dn_image.specs.Image.{width_of, word_count}
use Rattle.dn_book.proofs.Packed.{AreKindsOf}
use Rattle.dn_view.proofs.Held.{slot_there}
use Rattle.dn_audit.specs.declared.report.Shut.{Shut}
use Rattle.dn_audit.specs.Records.{shut_slot}
use Rattle.dn_audit.specs.Taking.{records_in, image_says}
use Rattle.dn_audit.proofs.Counting.{index_of, shut_none, shut_some}
use Rattle.dn_audit.proofs.Filled.{filled_pass, filled_put, image_held, put_empty, put_packable, record_is}
use Rattle.dn_audit.proofs.taking.take_slot.Given.{Over}
use Rattle.dn_audit.proofs.taking.take_slot.Goals.{After-counted_record-record}
use Rattle.dn_audit.proofs.taking.take_slot.Goals as goal

lawful_kinds : (g : Over) (c : After-counted_record-record g) → All IsLawful (kinds_of (λ k. (goal.UnitKind-dyn g k).meaning k.1) c.args.image.on.kinds.now)
lawful_kinds g c = all_of_map _ c.args.image.on.kinds.now.list.items c.requires.image.on.lawful

kinds_are : (g : Over) (c : After-counted_record-record g) → AreKindsOf c.args.image.on.net.now (kinds_of (λ k. (goal.UnitKind-dyn g k).meaning k.1) c.args.image.on.kinds.now)
kinds_are g c = record { lawful = lawful_kinds g c; shaped = c.requires.image.on.shaped }

held : (g : Over) (c : After-counted_record-record g) → AreHeld c.args.image.on.net.now (records_in (λ k. (goal.UnitKind-dyn g k).meaning k.1) c.args.image)
held g c = image_held c.args.image.on.net.now (kinds_of (λ k. (goal.UnitKind-dyn g k).meaning k.1) c.args.image.on.kinds.now) (image_says (λ k. (goal.UnitKind-dyn g k).meaning k.1) c.args.image) (lawful_kinds g c)

-- the record that was read is that of the image
read : (g : Over) (c : After-counted_record-record g) → c.counted_record-record.result ≡ records_in (λ k. (goal.UnitKind-dyn g k).meaning k.1) c.args.image c.args.node c.args.slot
read g c = c.counted_record-record.ensures ∙ record_is c.args.image.on.net.now (kinds_of (λ k. (goal.UnitKind-dyn g k).meaning k.1) c.args.image.on.kinds.now) c.args.image.bytes.now c.args.image.version c.args.node c.args.slot c.args.unit.now _ (lawful_kinds g c) c.requires.unit c.requires.words

-- the words of the unit
words : (g : Over) (c : After-counted_record-record g) → slice_index_or (image_says (λ k. (goal.UnitKind-dyn g k).meaning k.1) c.args.image).words c.args.node [] ≡ words_spelled (word_count (kinds_of (λ k. (goal.UnitKind-dyn g k).meaning k.1) c.args.image.on.kinds.now) (Some c.args.unit.now)) c.args.bytes.now
words g c = index_of _ c.args.node [] _ c.requires.words

pub put-requires-clause-there : goal.put-requires-clause-there
put-requires-clause-there g c =
    let at = (goal.at.put-requires-clause-there g c).After-counted_record-record in
    slot_there c.args.image.on.net.now (kinds_of (λ k. (goal.UnitKind-dyn g k).meaning k.1) c.args.image.on.kinds.now) c.args.tables.now c.requires.filled.fits c.args.node c.args.slot c.args.unit.now c.requires.unit c.requires.slot

pub put-requires-clause-empty : goal.put-requires-clause-empty
put-requires-clause-empty g c =
    let at = (goal.at.put-requires-clause-empty g c).After-counted_record-record in
    put_empty c.args.image.on.net.now (kinds_of (λ k. (goal.UnitKind-dyn g k).meaning k.1) c.args.image.on.kinds.now) (kinds_are g at) (records_in (λ k. (goal.UnitKind-dyn g k).meaning k.1) c.args.image) c.args.node c.args.slot c.args.unit.now c.args.tables.now _ _ c.requires.filled c.requires.unit c.requires.slot

pub put-requires-clause-packable : goal.put-requires-clause-packable
put-requires-clause-packable g c =
    let at = (goal.at.put-requires-clause-packable g c).After-counted_record-record in
    put_packable c.args.image.on.net.now (kinds_of (λ k. (goal.UnitKind-dyn g k).meaning k.1) c.args.image.on.kinds.now) (kinds_are g at) (records_in (λ k. (goal.UnitKind-dyn g k).meaning k.1) c.args.image) c.args.node c.args.slot c.in-Some.record c.args.tables.now c.requires.filled.fits (held g at) (sym (read g at) ∙ c.in-Some.is)

pub returns-clause-filled : goal.returns-clause-filled
returns-clause-filled g c =
    let at = (goal.at.returns-clause-filled g c).After-counted_record-record in
    let put : c.put.new.self ≡ with_slot c.args.tables.now c.args.node c.args.slot (packed_in (kinds_of (λ k. (goal.UnitKind-dyn g k).meaning k.1) c.args.image.on.kinds.now) c.args.tables.now c.args.node c.in-Some.record) = search rules in
    filled_put c.args.image.on.net.now (kinds_of (λ k. (goal.UnitKind-dyn g k).meaning k.1) c.args.image.on.kinds.now) (kinds_are g at) (records_in (λ k. (goal.UnitKind-dyn g k).meaning k.1) c.args.image) c.args.node c.args.slot c.in-Some.record c.args.tables.now c.put.new.self _ _ _ _ (held g at) c.requires.filled (sym (read g at) ∙ c.in-Some.is) put c.put.ensures.on_device

pub returns-clause-records : goal.returns-clause-records
returns-clause-records g c =
    let at = (goal.at.returns-clause-records g c).After-counted_record-record in
    sym (ap (λ (o : Option Record). c.args.found.now.records + (if is_some o then 1 else 0)) (sym (read g at) ∙ c.in-Some.is))

pub returns-clause-shut : goal.returns-clause-shut
returns-clause-shut g c =
    let at = (goal.at.returns-clause-shut g c).After-counted_record-record in
    sym (ap (λ (l : List Shut). c.args.found.now.shut ++ l) (shut_some c.args.node _ _ ((records_in (λ k. (goal.UnitKind-dyn g k).meaning k.1) c.args.image) c.args.node) c.args.slot c.in-Some.record (sym (read g at) ∙ c.in-Some.is)) ∙ append-nil c.args.found.now.shut)

pub returns-in_default-clause-filled : goal.returns-in_default-clause-filled
returns-in_default-clause-filled g c =
    let at = (goal.at.returns-in_default-clause-filled g c).After-counted_record-record in
    let none : c.counted_record-record.result ≡ None = search rules in
    filled_pass c.args.image.on.net.now (kinds_of (λ k. (goal.UnitKind-dyn g k).meaning k.1) c.args.image.on.kinds.now) (records_in (λ k. (goal.UnitKind-dyn g k).meaning k.1) c.args.image) c.args.node c.args.slot c.args.tables.now _ _ c.requires.filled (sym (read g at) ∙ none)

pub returns-in_default-clause-records : goal.returns-in_default-clause-records
returns-in_default-clause-records g c =
    let at = (goal.at.returns-in_default-clause-records g c).After-counted_record-record in
    let none : c.counted_record-record.result ≡ None = search rules in
    let zero : c.args.found.now.records ≡ c.args.found.now.records + 0 = omega arith in
    zero ∙ sym (ap (λ (o : Option Record). c.args.found.now.records + (if is_some o then 1 else 0)) (sym (read g at) ∙ none))

pub returns-in_default-clause-shut : goal.returns-in_default-clause-shut
returns-in_default-clause-shut g c =
    let at = (goal.at.returns-in_default-clause-shut g c).After-counted_record-record in
    let none : c.counted_record-record.result ≡ None = search rules in
    c.in_ok-push_shut.ensures ∙ ap (λ (l : List Shut). c.args.found.now.shut ++ l)
    (ap (λ (b : Bool). if b then record { unit = c.args.node; slot = c.args.slot } ∷ [] else []) c.has_gate-is_shut.ensures
    ∙ sym (shut_none c.args.node _ _ ((records_in (λ k. (goal.UnitKind-dyn g k).meaning k.1) c.args.image) c.args.node) c.args.slot (sym (read g at) ∙ none))
    ∙ sym (ap (λ ws. shut_slot c.args.node (width_of (kinds_of (λ k. (goal.UnitKind-dyn g k).meaning k.1) c.args.image.on.kinds.now) c.args.unit.now) ws ((records_in (λ k. (goal.UnitKind-dyn g k).meaning k.1) c.args.image) c.args.node) c.args.slot) (words g at)))
