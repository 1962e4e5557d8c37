-- What is known of the tables beside which pieces are looked for.
use Rattle.std.proofs.Common.{◌≡◌, ℕ, None, IsTrue}
use Rattle.std.specs.List.{All}
use Rattle.dn_net.specs.Legal.{IsLegalNet}
use Rattle.dn_kind.specs.Kind.{IsLawful, Meaning}
use Rattle.dn_kind.specs.Kinded.{kinds_of}
use Rattle.dn_kind.specs.Tables.{AreHeld}
use Rattle.dn_tables.proofs.Slots.{all_of_map}
use Rattle.dn_view.proofs.Free.{free_empty}
use Rattle.dn_view.proofs.Held.{kept_are_held}
use Rattle.dn_gather.specs.declared.wanted.Wanted.{Wanted}
use Rattle.dn_gather.specs.Grounds.{IsWanted, wanted_slots}

-- the net is legal, units can hold the records of the tables, and a free slot holds none
pub record Known {K : Type 0} {V : K → Type 0} (means : (k : K) × V k → Meaning) (w : Wanted K V) : Type 0 where
  pub legal : IsLegalNet w.system.on.net.now
  pub held : AreHeld w.system.on.net.now (wanted_slots means w).held
  pub empty : (node slot : ℕ) → IsTrue ((wanted_slots means w).is_free node slot) → (wanted_slots means w).held node slot ≡ None

pub known : {K : Type 0} {V : K → Type 0} (means : (k : K) × V k → Meaning) (w : Wanted K V) → IsWanted means w → Known means w
known means w is = record {
  legal = is.system.kinded.legal.legal;
  held = kept_are_held w.system.on.net.now (kinds_of means w.system.on.kinds.now) w.tables.now lawful is.fits;
  empty = free_empty w.system.on.net.now (kinds_of means w.system.on.kinds.now) w.tables.now lawful is.fits is.set;
}
  where
    lawful : All IsLawful (kinds_of means w.system.on.kinds.now)
    lawful = all_of_map _ w.system.on.kinds.now.list.items is.system.kinded.lawful
