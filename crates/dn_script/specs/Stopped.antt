-- A run that stopped inside a turn: which units the device has then, and what its words say.
use Rattle.std.specs.Prelude.{◌≡◌, ◌≢◌, ℕ, List, Option}
use Rattle.std.specs.Option.{IfSome}
use Rattle.dn_base.specs.declared.device.UnitWords.{UnitWords}
use Rattle.dn_base.specs.Device.{UnitSize, sizes_of}
use Rattle.dn_net.specs.declared.node.NodeDecl.{NodeDecl}
use Rattle.dn_kind.specs.Kind.{Meaning}
use Rattle.dn_tables.specs.Set.{device_tables}
use Rattle.dn_book.specs.declared.grant.Grant.{Grant as GrantPart}
use Rattle.dn_book.specs.Between.{IsCaught}
use Rattle.dn_script.specs.Made.{TellsBook, made_tables}

-- by the words of the units of a net each name resolves, for each access, as under the one book or as
-- under the other
abbrev pub AreCaught : List Meaning → List NodeDecl → List GrantPart → List GrantPart →
    List UnitWords → Type 0
AreCaught kinds net before after tables = (words : List (List ℕ)) ×
    (tables ≡ device_tables 0 net words) × IsCaught net kinds words before after

-- What a device has where a run with this status stopped inside a turn, by the books before that turn and after it: each
-- unit of the net. At status 6 each name resolves by the words that it tells, for each access, as under the
-- one book or as under the other. At any other status these words are the tables of the book after the turn.
pub record AreLeft (kinds : List Meaning) (net : List NodeDecl) (before after : List GrantPart) (status : ℕ)
    (units' : List UnitSize) (told' : Option (List UnitWords)) : Type 0 where
  pub units : units' ≡ sizes_of (made_tables kinds net)
  pub stopped : status ≡ 6 → IfSome told' (AreCaught kinds net before after)
  pub tables : status ≢ 6 → TellsBook kinds net after told'
