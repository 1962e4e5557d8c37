-- What is known of the records that tables hold, and of the kinds that spell them.
use Rattle.std.proofs.Common.{◌≡◌, ◌∙◌, ℕ, ◌<◌, ◌≤◌, Bool, true, false, if◌then◌else◌, nat_lt, List, slice_get, Option, Some, None, IsTrue, refl, sym, subst, arith}
use Rattle.std.specs.List.{All}
use Rattle.std.proofs.lemmas.Bool.{ltb-true}
use Rattle.std.proofs.lemmas.List.Elements.{All-get_or}
use Rattle.std.proofs.lemmas.Option.{get_or_from_slice_get, slice_get_within}
use Rattle.dn_net.specs.declared.node.NodeDecl.{NodeDecl}
use Rattle.dn_net.specs.declared.node.Unit.{Unit as UnitPart}
use Rattle.dn_net.specs.Decode.{unit_at}
use Rattle.dn_net.proofs.Members.{some_same}
use Rattle.dn_kind.specs.declared.unit_kind.Record.{Record}
use Rattle.dn_kind.specs.Kind.{Meaning, IsLawful, is_within}
use Rattle.dn_kind.specs.Units.{unit_shape}
use Rattle.dn_kind.specs.Tables.{slot_words, record_within, record_spelled, record_of_unit, Held, IsHeld, AreHeld, HeldRecordsFit}

-- the kind of a number is lawful where all are
pub kind_lawful : (kinds : List Meaning) (i : ℕ) (kind : Meaning) → All IsLawful kinds → slice_get kinds i ≡ Some kind → IsLawful kind
kind_lawful kinds i kind all at = subst IsLawful (get_or_from_slice_get kinds i kind kind at) (All-get_or IsLawful kinds i kind (slice_get_within kinds i kind at) all)

-- a record that is within a unit was there before, and is one that the unit can hold
within : (u : UnitPart) (o : Option Record) (r : Record) → record_within u o ≡ Some r → (o ≡ Some r) × IsTrue (is_within (unit_shape u) r)
within u None r e = cc
within u (Some s) r e = by (is_within (unit_shape u) s) refl e
  where
    by : (b : Bool) → is_within (unit_shape u) s ≡ b → (if b then Some s else None) ≡ Some r → (Some s ≡ Some r) × IsTrue (is_within (unit_shape u) r)
    by true f e = (e, subst (λ t. IsTrue (is_within (unit_shape u) t)) (some_same s r e) f)
    by false f e = cc

module _ (net : List NodeDecl) (kinds : List Meaning) (lawful : All IsLawful kinds) (node slot : ℕ) (r : Record) where
  by_words : (u : UnitPart) → unit_at net node ≡ Some u → (kind : Meaning) → slice_get kinds u.kind ≡ Some kind → (ws : List ℕ) (b : Bool) → nat_lt slot u.slots ≡ b → (if b then record_within u (kind.unpack (slot_words kind.words ws slot)) else None) ≡ Some r → IsHeld net node slot r
  by_words u eu kind ek ws true l e =
      let w = within u (kind.unpack (slot_words kind.words ws slot)) r e in
      record { unit = (u, eu, ltb-true slot u.slots l, w.1); rights = (kind_lawful kinds u.kind kind lawful ek).rights (slot_words kind.words ws slot) r w.0 }
  by_words u eu kind ek ws false l e = cc

  by_kind : (u : UnitPart) → unit_at net node ≡ Some u → (k : Option Meaning) → slice_get kinds u.kind ≡ k → (o : Option (List ℕ)) → record_spelled k u o slot ≡ Some r → IsHeld net node slot r
  by_kind u eu None ek o e = cc
  by_kind u eu (Some kind) ek None e = cc
  by_kind u eu (Some kind) ek (Some ws) e = by_words u eu kind ek ws (nat_lt slot u.slots) refl e

  pub by_unit : (v : Option UnitPart) → unit_at net node ≡ v → (o : Option (List ℕ)) → record_of_unit kinds v o slot ≡ Some r → IsHeld net node slot r
  by_unit None ev o e = cc
  by_unit (Some u) ev o e = by_kind u ev (slice_get kinds u.kind) refl o e

pub held_records_fit : HeldRecordsFit
held_records_fit net kinds words lawful node slot r e = by_unit net kinds lawful node slot r (unit_at net node) refl (slice_get words node) e

-- no record is held past the last slot of a unit
pub held_past : (net : List NodeDecl) (h : Held) → AreHeld net h → (node slot : ℕ) (u : UnitPart) → unit_at net node ≡ Some u → u.slots ≤ slot → h node slot ≡ None
held_past net h held node slot u at l = by (h node slot) refl
  where
    by : (o : Option Record) → h node slot ≡ o → o ≡ None
    by None e = refl
    by (Some r) e =
        let v = (held node slot r e).unit in
        let same : v.0 ≡ u = some_same v.0 u (sym v.1 ∙ at) in
        let low : slot < u.slots = subst (λ (w : UnitPart). slot < w.slots) same v.2 in
        absurd (omega arith)
