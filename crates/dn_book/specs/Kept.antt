-- The slots as a book leaves them, and those of a set of tables that keeps it.
use Rattle.std.specs.Prelude.{◌≡◌, List}
use Rattle.std.specs.List.{All}
use Rattle.dn_net.specs.declared.node.NodeDecl.{NodeDecl}
use Rattle.dn_net.specs.Legal.{IsLegalNet}
use Rattle.dn_kind.specs.Kind.{IsLawful, Meaning}
use Rattle.dn_kind.specs.Units.{KeepsUnitShape}
use Rattle.dn_tables.specs.declared.table.NodeTable.{NodeTable}
use Rattle.dn_tables.specs.Set.{IsSet}
use Rattle.dn_placement.specs.Slots.{AreProper, Slots, slots_of_set}
use Rattle.dn_book.specs.declared.grant.Grant.{Grant}
use Rattle.dn_book.specs.Book.{IsSound, slots_of}
use Rattle.dn_book.specs.Tables.{IsKept}

-- A set of tables that keeps a book has the slots as the book leaves them: they hold the same records,
-- and are free and owned alike.
abbrev pub KeptSlotsAreTheBooks : Type 0
KeptSlotsAreTheBooks = (net : List NodeDecl) (kinds : List Meaning) (book : List Grant)
    (set : List NodeTable) → All IsLawful kinds → KeepsUnitShape kinds net → IsSet set →
    IsKept net kinds book set → ◌≡◌ {A = Slots} (slots_of_set kinds set) (slots_of net book)

-- The slots as a sound book leaves them are proper: their units can hold their records, one that is free
-- holds none, and one that has no owner holds none but with both rights.
abbrev pub BookIsProper : Type 0
BookIsProper = (net : List NodeDecl) (book : List Grant) → IsLegalNet net → IsSound net book →
    AreProper net (slots_of net book)
