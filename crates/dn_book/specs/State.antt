-- What contracts see of the live grants, and of a book with its tables.
use Rattle.std.specs.Prelude.{ℕ, Bool, List}
use Rattle.dn_tables.specs.declared.table.NodeTable.{NodeTable}
use Rattle.dn_book.specs.declared.grant.Grant.{Grant}

-- the live grants in the order of granting, and for how many more room is kept
pub record GrantsState : Type 0 where
  pub live : List Grant
  pub spare : ℕ

-- the live grants in order, the set of tables, whether a record was cleared since the last fence,
-- whether no call of the device failed so far, and for how many more grants room is kept
pub record BookState : Type 0 where
  pub grants : List Grant
  pub set : List NodeTable
  pub cleared : Bool
  pub unfailed : Bool
  pub spare : ℕ
