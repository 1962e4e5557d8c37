-- The books that a script goes through, and what the image of their tables gives.
use Rattle.std.specs.Prelude.{◌≡◌, ℕ, List, take, slice_get, Ok, IsTrue}
use Rattle.std.specs.List.{All}
use Rattle.dn_net.specs.declared.node.Name.{Name}
use Rattle.dn_net.specs.declared.node.NodeDecl.{NodeDecl}
use Rattle.dn_net.specs.Decode.{is_agent_at}
use Rattle.dn_net.specs.Legal.{IsLegalNet}
use Rattle.dn_kind.specs.declared.rights.Access.{Access}
use Rattle.dn_kind.specs.Kind.{IsLawful, Meaning}
use Rattle.dn_kind.specs.Units.{IsLegalWith}
use Rattle.dn_image.specs.Bytes.{AreBytes}
use Rattle.dn_image.specs.Image.{image, written_version}
use Rattle.dn_image.specs.Reading.{image_reading}
use Rattle.dn_lookup.specs.Lookup.{lookup_of}
use Rattle.dn_book.specs.declared.grant.Grant.{Grant}
use Rattle.dn_book.specs.Book.{IsFaithful, IsSound, owed_names}
use Rattle.dn_book.specs.Tables.{tables_of}
use Rattle.dn_print.specs.Dump.{dump_text}
use Rattle.dn_module.specs.declared.command.Command.{Command}
use Rattle.dn_script.specs.Turn.{AreTurns, Turn, start, state_after}

-- a book is sound, and under its records each agent resolves each address to exactly what it is owed
pub record IsKeptFaithful (net : List NodeDecl) (book : List Grant) : Type 0 where
  pub sound : IsSound net book
  pub faithful : IsFaithful net book

-- in the bytes of the image of a book's tables a lookup of each address of each agent finds, for each
-- access, exactly the names that the book owes
abbrev pub ImageGivesOwed : List Meaning → List NodeDecl → List Grant → Type 0
ImageGivesOwed kinds net book = (access : Access) (x : Name) →
    IsTrue (is_agent_at (slice_get net x.node)) →
    lookup_of net kinds (image net kinds (tables_of net kinds book)) access x
    ≡ Ok (owed_names net book access x)

-- a book gives each agent, at each address and for each access, exactly what it owes: under its records,
-- and in the bytes of the image of its tables
pub record GivesOwed (kinds : List Meaning) (net : List NodeDecl) (book : List Grant) : Type 0 where
  pub kept : IsKeptFaithful net book
  pub dumped : ImageGivesOwed kinds net book

-- The book after each number of the turns of a script is sound and faithful, where the net is legal.
abbrev pub BooksStayFaithful : Type 0
BooksStayFaithful = (kinds : List Meaning) (net : List NodeDecl) (commands : List Command)
    (turns : List Turn) → IsLegalNet net → AreTurns kinds net start commands turns → (count : ℕ) →
    IsKeptFaithful net (state_after start (take count turns)).book

-- The image of the tables of a sound and faithful book gives what the book owes.
abbrev pub FaithfulImageGivesOwed : Type 0
FaithfulImageGivesOwed = (kinds : List Meaning) (net : List NodeDecl) (book : List Grant) →
    All IsLawful kinds → IsLegalWith kinds net → IsKeptFaithful net book →
    ImageGivesOwed kinds net book

-- bytes are read as the tables of a book, in the version that is written
abbrev pub IsReadAsBook : List Meaning → List NodeDecl → List Grant → List ℕ → Type 0
IsReadAsBook kinds net book bytes = image_reading net kinds bytes
    ≡ Ok (record { version = written_version; words = tables_of net kinds book })

-- the image of a book's tables is bytes, and is read as these tables
pub record IsImageRead (kinds : List Meaning) (net : List NodeDecl) (book : List Grant) : Type 0 where
  pub bytes : AreBytes (image net kinds (tables_of net kinds book))
  pub read : IsReadAsBook kinds net book (image net kinds (tables_of net kinds book))

-- The image of the tables of a sound book is bytes, and is read as these tables.
abbrev pub BookImageIsRead : Type 0
BookImageIsRead = (kinds : List Meaning) (net : List NodeDecl) (book : List Grant) →
    All IsLawful kinds → IsLegalWith kinds net → IsSound net book → IsImageRead kinds net book

-- Whatever bytes have the text that a dump of a sound book prints, they are read as the tables of this book.
abbrev pub DumpTellsTables : Type 0
DumpTellsTables = (kinds : List Meaning) (net : List NodeDecl) (book : List Grant) →
    All IsLawful kinds → IsLegalWith kinds net → IsSound net book → (bytes : List ℕ) →
    AreBytes bytes → dump_text bytes ≡ dump_text (image net kinds (tables_of net kinds book)) →
    IsReadAsBook kinds net book bytes
