-- Who uses a slot: so many live grants that share it, or the one that owns it.
use Rattle.std.specs.Prelude.{◌≡◌, Some, None, IsSome}
use Rattle.dn_tables.specs.declared.table.SlotUse.{SlotUse}
use Rattle.dn_tables.specs.declared.uses.Users.{Users}
use Rattle.dn_tables.specs.declared.uses.Users.TheVariants.{Sharing, Owner}

-- the use of a slot that these use: an owner uses it alone
abbrev pub use_by : Users → SlotUse
use_by (Sharing uses) = record { uses = uses; owner = None }
use_by (Owner id) = record { uses = 1; owner = Some id }

-- a live grant owns the slot, and no other uses it
pub record IsOwned (use' : SlotUse) : Type 0 where
  pub owner : IsSome use'.owner
  pub alone : use'.uses ≡ 1
