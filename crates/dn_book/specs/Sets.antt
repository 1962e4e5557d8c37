-- What the parts of a grant and of a revoke leave of a set of tables, slot by slot.
use Rattle.std.specs.Prelude.{◌≡◌, ◌≢◌, ℕ, suc, ◌+◌, ◌-◌, ◌<◌, ◌≤◌, Bool, false, if◌then◌else◌, ◌&&◌, nat_eq, ◌==◌, List, [], ◌∷◌, filter, replicate, slice_get, Option, Some, None, IsSome, IsTrue}
use Rattle.std.specs.List.{AllPairs, flat_map, list_any}
use Rattle.dn_base.specs.declared.device.TableEvent.{TableEvent}
use Rattle.dn_net.specs.declared.node.NodeDecl.{NodeDecl}
use Rattle.dn_net.specs.declared.node.Unit.{Unit as UnitPart}
use Rattle.dn_net.specs.Chain.{Member}
use Rattle.dn_net.specs.Decode.{unit_at}
use Rattle.dn_net.specs.Units.{has_plain_shape}
use Rattle.dn_kind.specs.declared.unit_kind.Record.{Record}
use Rattle.dn_kind.specs.Kind.{Meaning}
use Rattle.dn_kind.specs.Rights.{both_rights}
use Rattle.dn_tables.specs.declared.placement.Hop.{Hop}
use Rattle.dn_tables.specs.declared.table.NodeTable.{NodeTable}
use Rattle.dn_tables.specs.declared.table.SlotUse.{SlotUse}
use Rattle.dn_tables.specs.Set.{IsEmpty, KeepsFit, has_slot, packed_in, use_in, width_in, with_slot, words_of, tables_of_set}
use Rattle.dn_tables.specs.Writes.{clear_writes, put_writes, write_events}
use Rattle.dn_placement.specs.Placement.{FitsUnit}
use Rattle.dn_book.specs.declared.grant.Grant.{Grant}
use Rattle.dn_book.specs.Book.{is_taken}
use Rattle.dn_book.specs.Events.{AreWritten}
use Rattle.dn_book.specs.Writes.{Put, hop_slots}

-- the hop takes slots of this unit: it has addresses and fits the unit, which has a plain shape
pub record TakesSlots (u : UnitPart) (size : ℕ) (hop : Hop) : Type 0 where
  pub some : 1 ≤ size
  pub plain : IsTrue (has_plain_shape u)
  pub fits : FitsUnit u size hop

-- each hop takes slots of the unit that its node is
pub record AreFit (net : List NodeDecl) (size : ℕ) (hops : List Hop) : Type 0 where
  pub units : (hop : Hop) → Member hop hops →
      (u : UnitPart) × (unit_at net hop.unit ≡ Some u) × TakesSlots u size hop
  pub apart : AllPairs (λ (a b : Hop). a.unit ≢ b.unit) hops

-- what holds of each slot of the hops of a grant, by the place of its hop
abbrev pub EachSlot : List NodeDecl → Grant → (ℕ → Put → Type 0) → Type 0
EachSlot net grant P = (place : ℕ) (hop : Hop) → slice_get grant.placement.hops place ≡ Some hop →
    (s : Put) → Member s (hop_slots net grant.request.size both_rights hop) → P place s

-- so many live grants use the slot
abbrev pub is_used_by : ℕ → List NodeTable → Put → Bool
is_used_by uses set s = (use_in set s.unit s.slot).uses == uses

-- a record that is put into a slot of a unit
abbrev pub put_at : ℕ → ℕ → Record → Put
put_at unit slot r = record { unit = unit; slot = slot; holds = r }

-- the set after records were put, one after the other
abbrev pub after_puts : List Meaning → List NodeTable → List Put → List NodeTable
after_puts kinds set [] = set
after_puts kinds set (s ∷ ss) =
    after_puts kinds (with_slot set s.unit s.slot (packed_in kinds set s.unit s.holds)) ss

-- the set after slots were cleared, one after the other
abbrev pub after_clears : List NodeTable → List Put → List NodeTable
after_clears set [] = set
after_clears set (s ∷ ss) =
    after_clears (with_slot set s.unit s.slot (replicate (width_in set s.unit) 0)) ss

-- the writes of records by a set
abbrev pub put_log : List Meaning → List NodeTable → List Put → List TableEvent
put_log kinds set ss =
    flat_map (λ s. write_events s.unit (put_writes kinds set s.unit s.slot s.holds)) ss

-- the writes that clear slots by a set
abbrev pub clear_log : List NodeTable → List Put → List TableEvent
clear_log set ss = flat_map (λ s. write_events s.unit (clear_writes set s.unit s.slot)) ss

-- The records were put in order into those of the slots that no live grant used: all of them, or
-- those before the write that failed.
pub record ArePut (kinds : List Meaning) (ss : List Put) (failed : Bool)
    (log log' : Option (List TableEvent)) (set set' : List NodeTable) : Type 0 where
  pub done : failed ≡ false → set' ≡ after_puts kinds set (filter (is_used_by 0 set) ss)
  pub written : AreWritten (put_log kinds set (filter (is_used_by 0 set) ss)) failed log log'
      (words_of set) (words_of set')
  pub fits : KeepsFit set set'

-- Those of the slots were cleared in order that one live grant used: all of them, or those before the
-- write that failed.
pub record AreCleared (ss : List Put) (failed : Bool) (log log' : Option (List TableEvent))
    (set set' : List NodeTable) : Type 0 where
  pub done : failed ≡ false → set' ≡ after_clears set (filter (is_used_by 1 set) ss)
  pub written : AreWritten (clear_log set (filter (is_used_by 1 set) ss)) failed log log'
      (words_of set) (words_of set')
  pub fits : KeepsFit set set'

-- each of the slots is there, and where no grant uses it it is empty
abbrev pub AreOpen : List NodeTable → List Put → Type 0
AreOpen set ss = (s : Put) → Member s ss → IsTrue (is_used_by 0 set s) → IsEmpty set s.unit s.slot

-- each of the slots may come to a further grant, as owner where there is one
pub record MayUse (owner : Option ℕ) (set : List NodeTable) (s : Put) : Type 0 where
  pub few : (use_in set s.unit s.slot).uses < 4096
  pub unowned : (use_in set s.unit s.slot).owner ≡ None
  pub alone : IsSome owner → (use_in set s.unit s.slot).uses ≡ 0

-- the use of a slot by one grant more, which owns it where there is an owner
abbrev pub one_use_more : Option ℕ → SlotUse → SlotUse
one_use_more owner use' = record { uses = use'.uses + 1; owner = owner }

-- the use of a slot by one grant less, and by no owner
abbrev pub one_use_less : SlotUse → SlotUse
one_use_less use' = record { uses = use'.uses - 1; owner = None }

-- the record is put into this slot
abbrev pub is_at : ℕ → ℕ → Put → Bool
is_at node slot s = nat_eq node s.unit && nat_eq slot s.slot

-- The uses of exactly these slots were changed so, and nothing else.
pub record AreChanged (change : SlotUse → SlotUse) (ss : List Put) (set set' : List NodeTable)
    : Type 0 where
  pub uses : (node slot : ℕ) → IsTrue (has_slot set node slot) → use_in set' node slot
      ≡ (if list_any (is_at node slot) ss then change (use_in set node slot) else use_in set node slot)
  pub same_words : words_of set' ≡ words_of set
  pub told : tables_of_set set' ≡ tables_of_set set
  pub fits : KeepsFit set set'

-- the owner of the slots of the hop at a place: the grant, where the hop is its own
abbrev pub hop_owner : ℕ → ℕ → ℕ → Option ℕ
hop_owner id own place = if nat_eq place own then Some id else None

-- the use of a slot after the slots of hops, of which the first stands at a place, were changed, those
-- of each hop in a way of its own
abbrev pub changed_by : List NodeDecl → ℕ → (ℕ → SlotUse → SlotUse) → ℕ → List Hop → ℕ → ℕ →
    SlotUse → SlotUse
changed_by net size changes place [] node slot use' = use'
changed_by net size changes place (hop ∷ hops) node slot use' =
    if is_taken net size node slot hop then changes place use'
    else changed_by net size changes (suc place) hops node slot use'

-- The uses of exactly the slots of these hops were changed, those of each hop in a way of its own, and
-- nothing else.
pub record AreHopsChanged (net : List NodeDecl) (size : ℕ) (changes : ℕ → SlotUse → SlotUse)
    (hops : List Hop) (set set' : List NodeTable) : Type 0 where
  pub uses : (node slot : ℕ) → IsTrue (has_slot set node slot) → use_in set' node slot
      ≡ changed_by net size changes 0 hops node slot (use_in set node slot)
  pub same_words : words_of set' ≡ words_of set
  pub told : tables_of_set set' ≡ tables_of_set set
  pub fits : KeepsFit set set'
