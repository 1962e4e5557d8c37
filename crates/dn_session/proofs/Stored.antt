-- The image of the tables of a session.
use Rattle.std.proofs.Common.{◌≡◌, ◌∙◌, ap, refl, ℕ, List, Ok, slice_get, IsTrue}
use Rattle.std.specs.List.{All}
use Rattle.dn_net.specs.declared.node.Name.{Name}
use Rattle.dn_net.specs.Decode.{is_agent_at}
use Rattle.dn_kind.specs.declared.rights.Access.{Access}
use Rattle.dn_kind.specs.Kind.{IsLawful, Meaning}
use Rattle.dn_image.specs.Image.{ImageWords, image, written_version}
use Rattle.dn_image.specs.Reading.{image_reading}
use Rattle.dn_image.proofs.Told.{image_is_read}
use Rattle.dn_tables.specs.declared.table.NodeTable.{NodeTable}
use Rattle.dn_tables.specs.Set.{words_of}
use Rattle.dn_lookup.specs.Lookup.{lookup_of}
use Rattle.dn_book.specs.Book.{owed_names}
use Rattle.dn_book.specs.Tables.{tables_of}
use Rattle.dn_script.proofs.Filled.{tables_filled}
use Rattle.dn_script.proofs.Lookups.{faithful_image_gives_owed}
use Rattle.dn_session.specs.Open.{IsSession, SessionState}
use Rattle.dn_session.specs.Shipped.{shipped_kinds}
use Rattle.dn_session.specs.Stored.{IsSessionImage}

-- the image of the tables that a session has
pub stored_image : (s : SessionState) (ks : List Meaning) (set : List NodeTable) (bytes : List ℕ) → All IsLawful shipped_kinds → IsSession s → ks ≡ shipped_kinds → set ≡ s.book.set → bytes ≡ image s.net ks (words_of set) → IsSessionImage s bytes
stored_image s ks set bytes lawful is shipped same written = record { of_tables = at; read = read; owed = owed }
  where
    at : bytes ≡ image s.net shipped_kinds (tables_of s.net shipped_kinds s.book.grants)
    at = written ∙ ap (λ (l : List Meaning). image s.net l (words_of set)) shipped ∙ ap (λ (ts : List NodeTable). image s.net shipped_kinds (words_of ts)) same ∙ ap (image s.net shipped_kinds) is.kept.words

    i : ImageWords
    i = record { version = written_version; words = tables_of s.net shipped_kinds s.book.grants }

    read : image_reading s.net shipped_kinds bytes ≡ Ok i
    read = image_is_read s.net shipped_kinds bytes i (record { version = refl; filled = tables_filled shipped_kinds s.net s.book.grants lawful is.legal is.kept.sound; bytes = at })

    owed : (access : Access) (x : Name) → IsTrue (is_agent_at (slice_get s.net x.node)) → lookup_of s.net shipped_kinds bytes access x ≡ Ok (owed_names s.net s.book.grants access x)
    owed access x agent = ap (λ (bs : List ℕ). lookup_of s.net shipped_kinds bs access x) at ∙ faithful_image_gives_owed shipped_kinds s.net s.book.grants lawful is.legal (record { sound = is.kept.sound; faithful = is.faithful }) access x agent
