-- The records that an image lets through are those of its tables that allow the access.
use Rattle.std.proofs.Common.{◌≡◌, ℕ, ◌==◌, ◌&&◌, Bool, true, false, if◌then◌else◌, List, slice_get, Option, Some, None, Result, Ok, Err, IfOk, refl, sym, ap, ◌∙◌}
use Rattle.std.specs.List.{All}
use Rattle.dn_net.specs.declared.node.Name.{Name}
use Rattle.dn_net.specs.declared.node.NodeDecl.{NodeDecl}
use Rattle.dn_net.specs.Decode.{is_agent_at}
use Rattle.dn_kind.specs.declared.rights.Access.{Access}
use Rattle.dn_kind.specs.declared.rights.Access.TheVariants.{Read, Write}
use Rattle.dn_kind.specs.declared.unit_kind.Record.{Record}
use Rattle.dn_kind.specs.Rights.{allows}
use Rattle.dn_kind.specs.Kind.{Meaning, IsLawful}
use Rattle.dn_kind.specs.Tables.{record_held, AreTables, record_allowing, resolved_names_under}
use Rattle.dn_kind.specs.Cleared.{is_open_in, words_allowing}
use Rattle.dn_kind.proofs.Allowed.{records_allowing}
use Rattle.dn_image.specs.Reading.{broken_image, image_words, version_of, reading_by, image_reading}
use Rattle.dn_image.proofs.Sized.{image_sized, kept_sized}
use Rattle.dn_lookup.specs.Lookup.{no_agent, image_records_for, lets_through, lookup_in, lookup_of, bytes_records}

-- the record, where the code lets the access through
abbrev pub record_through : ℕ → Access → Option Record → Option Record
record_through version access None = None
record_through version access (Some r) = if lets_through version access r.rights then Some r else None

-- a record that allows both reading and writing, or counts for nothing
both_allowed : (access : Access) (r : Record) (a b : Bool) → allows r.rights Read ≡ a → allows r.rights Write ≡ b → record_allowing access (record_allowing Write (record_allowing Read (Some r))) ≡ (if allows r.rights Read && allows r.rights Write then Some r else None)
both_allowed access r false b ea eb =
    ap (λ c. record_allowing access (record_allowing Write (if c then Some r else None))) ea
    ∙ sym (ap (λ c. if c && allows r.rights Write then Some r else None) ea)
both_allowed access r true false ea eb =
    ap (λ c. record_allowing access (record_allowing Write (if c then Some r else None))) ea
    ∙ ap (λ c. record_allowing access (if c then Some r else None)) eb
    ∙ sym (ap (λ c. if c && allows r.rights Write then Some r else None) ea ∙ ap (λ c. if c then Some r else None) eb)
both_allowed access r true true ea eb =
    ap (λ c. record_allowing access (record_allowing Write (if c then Some r else None))) ea
    ∙ ap (λ c. record_allowing access (if c then Some r else None)) eb
    ∙ last access
    ∙ sym (ap (λ c. if c && allows r.rights Write then Some r else None) ea ∙ ap (λ c. if c then Some r else None) eb)
  where
    last : (access : Access) → record_allowing access (Some r) ≡ Some r
    last Read = ap (λ c. if c then Some r else None) ea
    last Write = ap (λ c. if c then Some r else None) eb

through_first : (version : ℕ) (access : Access) (o : Option Record) → (version == 1) ≡ true → record_allowing access (record_allowing Write (record_allowing Read o)) ≡ record_through version access o
through_first version access None e = refl
through_first version access (Some r) e =
    both_allowed access r (allows r.rights Read) (allows r.rights Write) refl refl
    ∙ sym (ap (λ c. if (if c then allows r.rights Read && allows r.rights Write else allows r.rights access) then Some r else None) e)

through_later : (version : ℕ) (access : Access) (o : Option Record) → (version == 1) ≡ false → record_allowing access o ≡ record_through version access o
through_later version access None e = refl
through_later version access (Some r) e =
    sym (ap (λ c. if (if c then allows r.rights Read && allows r.rights Write else allows r.rights access) then Some r else None) e)

-- what a slot of an image of either version lets through is the record that its tables hold and that allows the access
pub slot_served : (net : List NodeDecl) (kinds : List Meaning) (bytes : List ℕ) (access : Access) (version node slot : ℕ) (b : Bool) → All IsLawful kinds → (version == 1) ≡ b → bytes_records net kinds bytes version access node slot ≡ record_through version access (record_held net kinds (image_words net kinds bytes) node slot)
slot_served net kinds bytes access version node slot false lawful e =
    let words : List (List ℕ) = image_words net kinds bytes in
    ap (λ c. record_allowing access (record_held net kinds (if c then words_allowing net kinds Write (words_allowing net kinds Read words) else words) node slot)) e
    ∙ through_later version access (record_held net kinds words node slot) e
slot_served net kinds bytes access version node slot true lawful e =
    let words : List (List ℕ) = image_words net kinds bytes in
    let read : List (List ℕ) = words_allowing net kinds Read words in
    let sized : AreTables net kinds words = image_sized net kinds bytes in
    let again : AreTables net kinds read = kept_sized net kinds (is_open_in net kinds words Read) words sized in
    ap (λ c. record_allowing access (record_held net kinds (if c then words_allowing net kinds Write (words_allowing net kinds Read words) else words) node slot)) e
    ∙ ap (record_allowing access) (records_allowing net kinds read Write lawful again node slot)
    ∙ ap (λ o. record_allowing access (record_allowing Write o)) (records_allowing net kinds words Read lawful sized node slot)
    ∙ through_first version access (record_held net kinds words node slot) e

-- a lookup in bytes that are an image of the net
pub looked_up : (net : List NodeDecl) (kinds : List Meaning) (bytes : List ℕ) (access : Access) (x : Name) (version : ℕ) (names : List Name) → is_agent_at (slice_get net x.node) ≡ true → broken_image net kinds bytes ≡ None → version ≡ version_of bytes → names ≡ resolved_names_under net (bytes_records net kinds bytes version access) x → lookup_of net kinds bytes access x ≡ Ok names
looked_up net kinds bytes access x version names agent whole same found =
    ap (λ c. if c then lookup_in net kinds access x (image_reading net kinds bytes) else Err no_agent) agent
    ∙ ap (λ o. lookup_in net kinds access x (reading_by o (record { version = version_of bytes; words = image_words net kinds bytes }))) whole
    ∙ ap (λ n. Ok (resolved_names_under net (image_records_for net kinds (record { version = n; words = image_words net kinds bytes }) access) x)) (sym same)
    ∙ sym (ap Ok found)

pub answer_looked_up : {E : Type 0} (net : List NodeDecl) (kinds : List Meaning) (bytes : List ℕ) (access : Access) (x : Name) (version : ℕ) (r : Result (List Name) E) → is_agent_at (slice_get net x.node) ≡ true → broken_image net kinds bytes ≡ None → version ≡ version_of bytes → IfOk r (λ names. names ≡ resolved_names_under net (bytes_records net kinds bytes version access) x) → IfOk r (λ names. lookup_of net kinds bytes access x ≡ Ok names)
answer_looked_up net kinds bytes access x version (Ok names) agent whole same found = looked_up net kinds bytes access x version names agent whole same found
answer_looked_up net kinds bytes access x version (Err e) agent whole same found = tt
