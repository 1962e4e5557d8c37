-- What the helpers of these tests carry from call to call.
use Rattle.std.specs.Prelude.{◌≡◌, ◌≤◌, ◌+◌, ℕ, true, List, Some}
use Rattle.dn_base.specs.Device.{sizes_of}
use Rattle.dn_net.specs.Decode.{top}
use Rattle.dn_kind.specs.Kinded.{kinds_of}
use Rattle.dn_kind.specs.declared.rights.Rights.{Rights}
use Rattle.dn_kind.specs.Kind.{Meaning}
use Rattle.dn_kind.specs.Units.{IsLegalWith}
use Rattle.dn_flat.specs.Levels.{AreFlats}
use Rattle.dn_tables.specs.Placement.{Place}
use Rattle.dn_tables.specs.Set.{FitsNet, IsOnDevice}
use Rattle.dn_placement.specs.declared.request.Request.{Request}
use Rattle.dn_placement.specs.Placement.{IsPlacement}
use Rattle.dn_placement.specs.Slots.{slots_of_set}
use Rattle.dn_book.specs.Tables.{IsKept}
use Rattle.dn_view.specs.Systems.{IsSystem}
use Rattle.test_tables.specs.declared.desk.Board.{Board}
use Rattle.test_tables.specs.declared.desk.Desk.{Desk}

-- a net that is legal with kinds, and what each node of it sees
pub record IsBoard (kinds : List Meaning) (b : Board) : Type 0 where
  pub legal : IsLegalWith kinds b.net
  pub flat : AreFlats b.net b.flats

-- a system with a book whose tables keep its grants while it is sound, and the device that has these tables
pub record IsDesk {K : Type 0} {V : K → Type 0} (means : (k : K) × V k → Meaning) (d : Desk K V) : Type 0 where
  pub system : IsSystem means d.system
  pub kept : d.book.unfailed ≡ true → IsKept d.system.on.net.now (kinds_of means d.system.on.kinds.now) d.book.grants d.book.set
  pub fits : FitsNet d.system.on.net.now (kinds_of means d.system.on.kinds.now) d.book.set
  pub on_device : IsOnDevice d.book.set (sizes_of d.device.tables) (Some d.device.tables)

-- a placement of the request in the slots as the tables of a desk leave them
abbrev pub IsPlacementAtDesk : {K : Type 0} {V : K → Type 0} → ((k : K) × V k → Meaning) → Desk K V → Request → Place → Type 0
IsPlacementAtDesk means d rq p = IsPlacement d.system.on.net.now (slots_of_set (kinds_of means d.system.on.kinds.now) d.book.set) rq p

-- the buffer ends at the last address or before
abbrev pub EndsWithin : Request → Type 0
EndsWithin rq = rq.base + rq.size ≤ top + 1

-- the request for the first so many addresses of a buffer, with these rights
abbrev pub part : Request → ℕ → Rights → Request
part rq size rights = record {
  agent = rq.agent;
  node = rq.node;
  base = rq.base;
  size = size;
  rights = rights;
}
