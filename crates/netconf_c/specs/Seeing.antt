-- What an agent sees, for C: where its addresses lead, by the live grants or under an image.
use Rattle.std.specs.Prelude.{◌≡◌, ℕ, ◌-◌, ◌<◌, ◌==◌, ◌||◌, Bool, if◌then◌else◌, List, [], ◌∷◌, ◌++◌, drop, length, map, min, slice_get, take, Option, Some, None, IsTrue}
use Rattle.dn_interval.specs.declared.row.End.{End}
use Rattle.dn_interval.specs.declared.row.Row.{Row}
use Rattle.dn_interval.specs.Rows.{AreNormal}
use Rattle.dn_net.specs.declared.node.Name.{Name}
use Rattle.dn_net.specs.Decode.{is_agent_at}
use Rattle.dn_kind.specs.declared.rights.Access.{Access}
use Rattle.dn_kind.specs.declared.rights.Access.TheVariants.{Read, Write}
use Rattle.dn_kind.specs.Tables.{allowing, resolved_names_under}
use Rattle.dn_view.specs.Views.{AreViewed}
use Rattle.dn_book.specs.Book.{owed_names, records_of}
use Rattle.dn_session.specs.Open.{SessionState}
use Rattle.dn_session.specs.Seeing.{OwesFrom}
use Rattle.dn_session.specs.Stored.{IsSessionImage}
use Rattle.netconf_c.specs.declared.places.Place.{Place}
use Rattle.netconf_c.specs.declared.places.SeenRow.{SeenRow}

-- the number is that of an access: 1 for reading, 2 for writing
abbrev pub is_access_number : ℕ → Bool
is_access_number number = number == 1 || number == 2

-- the access of a number
abbrev pub access_by : ℕ → Access
access_by number = if number == 1 then Read else Write

-- a name as C has it
abbrev pub place_of : Name → Place
place_of name = record { node = name.node; unused = 0; address = name.addr }

-- one name of a row as C has it
abbrev pub row_at : Row → End → SeenRow
row_at r e = record {
  first = r.span.lo;
  last = r.span.hi;
  place = record { node = e.node; unused = 0; address = e.base };
}

-- rows as C has them: one for each name, in order
abbrev pub seen_rows : List Row → List SeenRow
seen_rows [] = []
seen_rows (r ∷ rest) = map (row_at r) r.ends ++ seen_rows rest

-- Items from a number on are written to the front of a place, as many as there are or there is room
-- for; what is behind them is as it was.
abbrev pub written_from : {X : Type 0} → ℕ → List X → List X → List X
written_from from items old =
    take (min (length items - from) (length old)) (drop from items)
    ++ drop (min (length items - from) (length old)) old

-- in the session a name resolves for an access to exactly these names; of an agent they are those
-- that the net gives it and those that live grants give it
pub record AreNamesOf (s : SessionState) (name : Name) (access : Access) (names : List Name)
    : Type 0 where
  pub under : names
      ≡ resolved_names_under s.net (allowing access (records_of s.net s.book.grants)) name
  pub owed : IsTrue (is_agent_at (slice_get s.net name.node)) →
      names ≡ owed_names s.net s.book.grants access name

-- the handle has a session, in which these are the names
abbrev pub AreNamesIn : Option SessionState → Name → Access → List Name → Type 0
AreNamesIn (Some s) name access names = AreNamesOf s name access names
AreNamesIn None name access names = ⊥

-- so many names it resolves to, and the first of them are written
pub record AreNamesTold (held : Option SessionState) (name : Name) (access : Access) (count : ℕ)
    (places places' : List Place) : Type 0 where
  pub names : List Name
  pub resolved : AreNamesIn held name access names
  pub all : count ≡ length names
  pub told : places' ≡ written_from 0 (map place_of names) places

-- in the session the node sees for an access exactly these rows; an agent sees what the net gives
-- it and what live grants give it
pub record AreRowsOf (s : SessionState) (node : ℕ) (access : Access) (rows : List Row)
    : Type 0 where
  pub under : AreViewed s.net (allowing access (records_of s.net s.book.grants)) node rows
  pub owed : IsTrue (is_agent_at (slice_get s.net node)) →
      AreNormal (OwesFrom s.net s.book.grants access node) rows

-- the handle has a session, in which these are the rows
abbrev pub AreRowsIn : Option SessionState → ℕ → Access → List Row → Type 0
AreRowsIn (Some s) node access rows = AreRowsOf s node access rows
AreRowsIn None node access rows = ⊥

-- so many rows C has of what the node sees, and those from a number on are written
pub record AreRowsTold (held : Option SessionState) (node : ℕ) (access : Access) (from count : ℕ)
    (seen seen' : List SeenRow) : Type 0 where
  pub rows : List Row
  pub viewed : AreRowsIn held node access rows
  pub all : count ≡ length (seen_rows rows)
  pub told : seen' ≡ written_from from (seen_rows rows) seen

-- the handle has a session, of whose tables the bytes are the image
abbrev pub IsImageIn : Option SessionState → List ℕ → Type 0
IsImageIn (Some s) bytes = IsSessionImage s bytes
IsImageIn None bytes = ⊥

-- the image of the tables has so many bytes, for which there is no room
pub record IsImageTooLong (held : Option SessionState) (size room : ℕ) : Type 0 where
  pub bytes : List ℕ
  pub is : IsImageIn held bytes
  pub counted : size ≡ length bytes
  pub long : room < size
