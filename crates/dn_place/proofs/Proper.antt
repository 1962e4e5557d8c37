-- The slots of a set that keeps a book.
use Rattle.std.proofs.Common.{◌≡◌, List}
use Rattle.dn_kind.specs.Kind.{Meaning}
use Rattle.dn_kind.specs.Kinded.{kinds_of}
use Rattle.dn_tables.specs.declared.table.NodeTable.{NodeTable}
use Rattle.dn_tables.specs.Set.{IsSet}
use Rattle.dn_tables.proofs.Slots.{all_of_map}
use Rattle.dn_book.specs.declared.grant.Grant.{Grant}
use Rattle.dn_book.specs.Book.{slots_of}
use Rattle.dn_book.specs.Tables.{IsKept}
use Rattle.dn_book.proofs.KeptEmpty.{kept_slots_are_the_books}
use Rattle.dn_placement.specs.Slots.{Slots, slots_of_set}
use Rattle.dn_view.specs.Systems.{IsSystem}
use Rattle.dn_view.specs.declared.system.System.{System}

-- the slots of a set that keeps a book are those that the book leaves
pub system_slots : {K : Type 0} {V : K → Type 0} (means : (k : K) × V k → Meaning) (system : System K V) (book : List Grant) (set : List NodeTable) →
    IsSystem means system → IsSet set → IsKept system.on.net.now (kinds_of means system.on.kinds.now) book set →
    ◌≡◌ {A = Slots} (slots_of_set (kinds_of means system.on.kinds.now) set) (slots_of system.on.net.now book)
system_slots means system book set are is kept =
    kept_slots_are_the_books system.on.net.now (kinds_of means system.on.kinds.now) book set (all_of_map _ system.on.kinds.now.list.items are.kinded.lawful) are.kinded.legal.shaped is kept
