-- The records that a pass goes by are those that units can hold.
use Rattle.std.proofs.Common.{◌≡◌, ℕ, suc, ◌≤◌, List, [], ◌∷◌, Option, Some, None, IsTrue, refl}
use Rattle.std.specs.List.{All}
use Rattle.std.proofs.lemmas.List.Elements.{All-head, All-tail}
use Rattle.dn_net.specs.declared.node.NodeDecl.{NodeDecl}
use Rattle.dn_net.specs.Units.{has_plain_units}
use Rattle.dn_kind.specs.declared.rights.Access.{Access}
use Rattle.dn_kind.specs.declared.rights.Rights.{Rights}
use Rattle.dn_kind.specs.declared.unit_kind.Record.{Record}
use Rattle.dn_kind.specs.Rights.{are_rights}
use Rattle.dn_kind.specs.Tables.{Held, IsHeld, AreHeld, allowing}
use Rattle.dn_kind.proofs.Ways.{allowing_held}
use Rattle.dn_tables.specs.declared.placement.Hop.{Hop}
use Rattle.dn_tables.specs.Placement.{Place}
use Rattle.dn_placement.specs.declared.request.Request.{Request}
use Rattle.dn_placement.specs.Records.{hop_record, hop_rights, hops_records, or_record, placed_records}
use Rattle.dn_placement.proofs.Hops.{rights_of}
use Rattle.dn_view.specs.declared.records.Records.{Records}
use Rattle.dn_view.specs.declared.records.Records.TheVariants.{Kept, Fresh, Joined}
use Rattle.dn_view.specs.Records.{IsFitted, AreFitted, IsFitting, fresh_record, records_taken}
use Rattle.dn_view.proofs.Fitted.{hop_record_held}

-- the first of two records, or else the second
pub or_is : {P : Record → Type 0} (o s : Option Record) → ((r : Record) → o ≡ Some r → P r) → ((r : Record) → s ≡ Some r → P r) → (r : Record) → or_record o s ≡ Some r → P r
or_is None s f g r e = g r e
or_is (Some t) s f g r e = f r e

pub fresh_is : (o s : Option Record) (r : Record) → fresh_record o s ≡ Some r → (o ≡ None) × (s ≡ Some r)
fresh_is None s r e = (refl, e)
fresh_is (Some t) s r e = cc

-- the records of hops that fit their units
hops_held : (net : List NodeDecl) (size : ℕ) (rights : Rights) (own place : ℕ) (hops : List Hop) → IsTrue (has_plain_units net) → 1 ≤ size → IsTrue (are_rights rights) → All (IsFitted net size) hops → AreHeld net (hops_records net size rights own place hops)
hops_held net size rights own place [] plain some are fitted node slot r e = cc
hops_held net size rights own place (hop ∷ hops) plain some are fitted node slot r e =
    or_is {P = IsHeld net node slot} (hop_record net size (hop_rights rights own place) hop node slot) (hops_records net size rights own (suc place) hops node slot)
    (λ t f. hop_record_held net size (hop_rights rights own place) hop node slot t plain some (rights_of rights own place are) (All-head (IsFitted net size) hop hops fitted) f)
    (λ t f. hops_held net size rights own (suc place) hops plain some are (All-tail (IsFitted net size) hop hops fitted) node slot t f) r e

pub placed_are_held : (net : List NodeDecl) (rq : Request) (p : Place) → IsTrue (has_plain_units net) → AreFitted net rq p → AreHeld net (placed_records net rq p)
placed_are_held net rq p plain fitted = hops_held net rq.size rq.rights p.own 0 p.hops plain fitted.some fitted.rights fitted.hops

pub taken_are_held : (net : List NodeDecl) (h : Held) (records : Records) → IsTrue (has_plain_units net) → AreHeld net h → IsFitting net records → AreHeld net (records_taken net h records)
taken_are_held net h Kept plain held fitting node slot r e = held node slot r e
taken_are_held net h (Fresh rq p) plain held fitting node slot r e = placed_are_held net rq.now p.now plain fitting node slot r (fresh_is (h node slot) (placed_records net rq.now p.now node slot) r e).1
taken_are_held net h (Joined rq p) plain held fitting node slot r e = or_is {P = IsHeld net node slot} (h node slot) (placed_records net rq.now p.now node slot) (λ t f. held node slot t f) (λ t f. placed_are_held net rq.now p.now plain fitting node slot t f) r e

pub allowed_taken_are_held : (net : List NodeDecl) (h : Held) (records : Records) (access : Access) → IsTrue (has_plain_units net) → AreHeld net h → IsFitting net records → AreHeld net (allowing access (records_taken net h records))
allowed_taken_are_held net h records access plain held fitting = allowing_held net (records_taken net h records) access (taken_are_held net h records plain held fitting)
