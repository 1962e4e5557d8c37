-- The units of a net on a device: as they are made, and with the tables of a book.
use Rattle.std.specs.Prelude.{◌≡◌, ℕ, ◌≤◌, List, [], take, Option}
use Rattle.std.specs.Option.{IfSome}
use Rattle.dn_base.specs.declared.device.UnitWords.{UnitWords}
use Rattle.dn_base.specs.Device.{UnitSize, sizes_of}
use Rattle.dn_net.specs.declared.node.NodeDecl.{NodeDecl}
use Rattle.dn_kind.specs.Kind.{Meaning}
use Rattle.dn_tables.specs.Set.{device_tables}
use Rattle.dn_book.specs.declared.grant.Grant.{Grant as GrantPart}
use Rattle.dn_book.specs.Tables.{tables_of}

-- the units of a net in order with their words, as they are made: the tables of the empty book, in which each word is 0
abbrev pub made_tables : List Meaning → List NodeDecl → List UnitWords
made_tables kinds net = device_tables 0 net (tables_of net kinds [])

-- the words that a device tells are the tables of this book
abbrev pub TellsBook : List Meaning → List NodeDecl → List GrantPart → Option (List UnitWords) → Type 0
TellsBook kinds net book told =
    IfSome told (λ tables. tables ≡ device_tables 0 net (tables_of net kinds book))

-- What units a device has after a run in which so many turns are complete, the turn of the makes among them, and so
-- many events of the next were issued. Once the makes are complete it has each unit of the net. Before that it has
-- as many as makes were issued, the first ones, and no word was written.
pub record AreMadeSoFar (kinds : List Meaning) (net : List NodeDecl) (whole events : ℕ)
    (units' : List UnitSize) (told' : Option (List UnitWords)) : Type 0 where
  pub all : 1 ≤ whole → units' ≡ sizes_of (made_tables kinds net)
  pub first : whole ≡ 0 → units' ≡ sizes_of (take events (made_tables kinds net))
  pub unwritten : whole ≡ 0 → IfSome told' (λ tables. tables ≡ take events (made_tables kinds net))
