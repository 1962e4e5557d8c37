-- The image of the tables of a session.
use Rattle.std.specs.Prelude.{◌≡◌, ℕ, List, Ok, IsTrue, slice_get}
use Rattle.dn_net.specs.declared.node.Name.{Name}
use Rattle.dn_net.specs.Decode.{is_agent_at}
use Rattle.dn_kind.specs.declared.rights.Access.{Access}
use Rattle.dn_image.specs.Image.{image, written_version}
use Rattle.dn_image.specs.Reading.{image_reading}
use Rattle.dn_lookup.specs.Lookup.{lookup_of}
use Rattle.dn_book.specs.Book.{owed_names}
use Rattle.dn_book.specs.Tables.{tables_of}
use Rattle.dn_session.specs.Open.{SessionState}
use Rattle.dn_session.specs.Shipped.{shipped_kinds}

-- The bytes are the image of the tables that hold the records of the live grants, and are read as
-- these tables. In them a lookup of each address of an agent finds, for each access, exactly the
-- names that the net and the live grants give it.
pub record IsSessionImage (s : SessionState) (bytes : List ℕ) : Type 0 where
  pub of_tables : bytes ≡ image s.net shipped_kinds (tables_of s.net shipped_kinds s.book.grants)
  pub read : image_reading s.net shipped_kinds bytes
      ≡ Ok (record {
        version = written_version;
        words = tables_of s.net shipped_kinds s.book.grants;
      })
  pub owed : (access : Access) (x : Name) → IsTrue (is_agent_at (slice_get s.net x.node)) →
      lookup_of s.net shipped_kinds bytes access x ≡ Ok (owed_names s.net s.book.grants access x)
