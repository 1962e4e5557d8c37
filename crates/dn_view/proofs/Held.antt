-- The records that a set of tables keeps, as those that its words hold.
use Rattle.std.proofs.Common.{◌≡◌, ℕ, ◌+◌, ◌-◌, ◌*◌, ◌<◌, ◌≤◌, ◌⊎◌, inl, inr, Bool, true, false, if◌then◌else◌, nat_lt, List, length, get_or, slice_get, Option, Some, None, IsTrue, refl, sym, ap, ◌∙◌, subst, arith}
use Rattle.std.specs.Option.{option_map}
use Rattle.std.specs.List.{All}
use Rattle.std.proofs.lemmas.Bool.{cases_lt, lt-ltb}
use Rattle.std.proofs.lemmas.Option.{same_Some, slice_get-map}
use Rattle.std.proofs.Math.Nat.{mul-le-mul_left}
use Rattle.dn_base.proofs.Lists.{list_all-at}
use Rattle.dn_net.specs.declared.node.NodeDecl.{NodeDecl}
use Rattle.dn_net.specs.declared.node.Unit.{Unit as UnitPart}
use Rattle.dn_net.specs.Decode.{unit_at}
use Rattle.dn_net.specs.Units.{has_plain_units}
use Rattle.dn_net.proofs.Plain.{plain_at}
use Rattle.dn_net.proofs.Steps.{unit_is}
use Rattle.dn_kind.specs.declared.shape.Shape.{Shape}
use Rattle.dn_kind.specs.declared.rights.Access.{Access}
use Rattle.dn_kind.specs.declared.unit_kind.Record.{Record}
use Rattle.dn_kind.specs.Rights.{allows}
use Rattle.dn_kind.specs.Kind.{Meaning, IsLawful, gate_word, is_plain_unit_shape, is_within}
use Rattle.dn_kind.specs.Tables.{Held, record_spelled, record_of_unit, record_held, record_allowing, slot_words, AreHeld}
use Rattle.dn_kind.specs.Units.{IsLegalWith, unit_shape}
use Rattle.dn_kind.proofs.Held.{held_past, held_records_fit}
use Rattle.dn_kind.proofs.Outputs.{has_pages}
use Rattle.dn_tables.specs.declared.table.NodeTable.{NodeTable}
use Rattle.dn_tables.specs.Set.{FitsNet, IsSet, fits_by, has_slot, has_slot_by, is_sized, is_sized_by, unit_in, unit_of_table, words_in, words_of, words_of_table, record_kept}
use Rattle.dn_tables.proofs.Gates.{gate_of_width, none_by_gate}
use Rattle.dn_tables.proofs.Kept.{sized_unit, slot_room}
use Rattle.dn_tables.proofs.Slots.{width_of_kind}
use Rattle.dn_tables.proofs.Fresh.{shape_there, plain_there}
use Rattle.dn_tables.proofs.Units.{unit_fits}

pub kept_is_held : (net : List NodeDecl) (kinds : List Meaning) (set : List NodeTable) → FitsNet net kinds set → (node slot : ℕ) → record_kept kinds set node slot ≡ record_held net kinds (words_of set) node slot
kept_is_held net kinds set fits node slot = ap (λ o. record_of_unit kinds o (slice_get (words_of set) node) slot) (unit_fits net kinds set fits node)

-- what a set keeps its units can hold
pub kept_are_held : (net : List NodeDecl) (kinds : List Meaning) (set : List NodeTable) → All IsLawful kinds → FitsNet net kinds set → AreHeld net (record_kept kinds set)
kept_are_held net kinds set lawful fits node slot r e = held_records_fit net kinds (words_of set) lawful node slot r (sym (kept_is_held net kinds set fits node slot) ∙ e)

-- of a slot that the unit lacks it keeps none
pub none_past : (net : List NodeDecl) (kinds : List Meaning) (set : List NodeTable) → FitsNet net kinds set → (node slot : ℕ) (u : UnitPart) → unit_at net node ≡ Some u → nat_lt slot u.slots ≡ false → record_kept kinds set node slot ≡ None
none_past net kinds set fits node slot u at past =
    kept_is_held net kinds set fits node slot
    ∙ ap (λ o. record_of_unit kinds o (slice_get (words_of set) node) slot) at
    ∙ by (slice_get kinds u.kind) (slice_get (words_of set) node)
  where
    by : (k : Option Meaning) (ws : Option (List ℕ)) → record_spelled k u ws slot ≡ None
    by None ws = refl
    by (Some k) None = refl
    by (Some k) (Some ws) = rw past refl

-- of a slot past the last one of the unit, and of one from which on all words are 0, it keeps none
pub none_behind : (net : List NodeDecl) (kinds : List Meaning) (set : List NodeTable) → All IsLawful kinds → FitsNet net kinds set → IsSet set → (node : ℕ) (u : UnitPart) → unit_at net node ≡ Some u → (end : ℕ) → ((k : ℕ) → end ≤ k → get_or (words_in set node) k 0 ≡ 0) → (slot : ℕ) → (u.slots ≤ slot) ⊎ (end ≤ slot) → record_kept kinds set node slot ≡ None
none_behind net kinds set lawful fits is node u at end zeros slot (inl l) = held_past net (record_kept kinds set) (kept_are_held net kinds set lawful fits) node slot u at l
none_behind net kinds set lawful fits is node u at end zeros slot (inr l) = by (cases_lt slot u.slots)
  where
    unit : unit_in set node ≡ Some u
    unit = unit_fits net kinds set fits node ∙ at

    never : None ≡ Some u → ⊥
    never e = cc

    within : slot < u.slots → (o : Option NodeTable) → slice_get set node ≡ o → record_kept kinds set node slot ≡ None
    within m None e = absurd (never (sym (ap unit_of_table e) ∙ unit))
    within m (Some t) e =
        let is_u : t.unit ≡ Some u = sym (ap unit_of_table e) ∙ unit in
        let s = sized_unit t u (subst (λ o. IsTrue (is_sized_by t o)) is_u (list_all-at is_sized set node t is.sized e)) in
        let spelled : slice_get (words_of set) node ≡ Some t.words = slice_get-map (λ (x : NodeTable). x.words) set node ∙ ap (option_map (λ (x : NodeTable). x.words)) e in
        let ws : words_in set node ≡ t.words = ap words_of_table e in
        let room : slot * t.width + t.width ≤ length t.words = slot_room slot u.slots t.width (length t.words) m s.words in
        let far : end ≤ slot * t.width + (t.width - 1) = omega (arith, mul-le-mul_left slot s.least, s.least, l) in
        let gate : ◌≡◌ {A = ℕ} 0 (gate_word (slot_words t.width t.words slot)) = gate_of_width t.width slot t.words 0 s.least room (sym (subst (λ (x : List ℕ). get_or x (slot * t.width + (t.width - 1)) 0 ≡ 0) ws (zeros (slot * t.width + (t.width - 1)) far))) in
        ap (λ o. record_of_unit kinds o (slice_get (words_of set) node) slot) unit
        ∙ ap (λ o. record_of_unit kinds (Some u) o slot) spelled
        ∙ none_by_gate kinds u t.width slot t.words lawful (width_of_kind kinds t.width t.unit u is_u (list_all-at (λ (x : NodeTable). fits_by kinds x.width x.unit) set node t fits.wide e)) room (sym gate)

    by : (slot < u.slots) ⊎ (u.slots ≤ slot) → record_kept kinds set node slot ≡ None
    by (inl m) = within m (slice_get set node) refl
    by (inr m) = held_past net (record_kept kinds set) (kept_are_held net kinds set lawful fits) node slot u at m

-- a record that allows an access was there before
pub allowed_was : (access : Access) (o : Option Record) (r : Record) → record_allowing access o ≡ Some r → o ≡ Some r
allowed_was access None r e = cc
allowed_was access (Some s) r e = by (allows s.rights access) e
  where
    by : (b : Bool) → (if b then Some s else None) ≡ Some r → Some s ≡ Some r
    by true e = e
    by false e = cc

-- a unit of a legal net, as it is found
pub record IsFoundUnit (net : List NodeDecl) (node : ℕ) (u : UnitPart) : Type 0 where
  pub at : unit_at net node ≡ Some u
  pub plain : IsTrue (is_plain_unit_shape (unit_shape u))
  pub page : u.page ≤ 40
  pub slots : u.slots ≤ 262144

few_slots : (s : Shape) → IsTrue (is_plain_unit_shape s) → s.slots ≤ 262144
few_slots s p = grind arith

pub found_unit : (net : List NodeDecl) (kinds : List Meaning) → IsLegalWith kinds net → (node : ℕ) (u : UnitPart) → option_map (λ d. d.unit) (slice_get net node) ≡ Some (Some u) → IsFoundUnit net node u
found_unit net kinds legal node u e =
    let plain : IsTrue (is_plain_unit_shape (unit_shape u)) = plain_there kinds u (shape_there kinds net node (Some u) legal.shaped e) in
    record { at = unit_is net node (Some u) e; plain = plain; page = (has_pages (unit_shape u) plain).page; slots = few_slots (unit_shape u) plain }

-- a record that is held is within its unit
pub held_within : (net : List NodeDecl) (h : Held) → AreHeld net h → (node slot : ℕ) (u : UnitPart) (r : Record) → unit_at net node ≡ Some u → h node slot ≡ Some r → IsTrue (is_within (unit_shape u) r)
held_within net h held node slot u r at e =
    let v = (held node slot r e).unit in
    subst (λ w. IsTrue (is_within (unit_shape w) r)) (same_Some v.0 u (sym v.1 ∙ at)) v.3

-- a slot of a unit is there in the set
pub slot_there : (net : List NodeDecl) (kinds : List Meaning) (set : List NodeTable) → FitsNet net kinds set → (node slot : ℕ) (u : UnitPart) → unit_at net node ≡ Some u → slot < u.slots → IsTrue (has_slot set node slot)
slot_there net kinds set fits node slot u at l = subst (λ o. IsTrue (has_slot_by o slot)) (sym (unit_fits net kinds set fits node ∙ at)) (lt-ltb slot u.slots l)

-- a unit of a legal net has a plain shape
pub legal_plain : (net : List NodeDecl) (node : ℕ) (u : UnitPart) → IsTrue (has_plain_units net) → unit_at net node ≡ Some u → IsTrue (is_plain_unit_shape (unit_shape u))
legal_plain net node u plain at = plain_at net node u plain at
