-- The units of a net on a device have the words that their slots and kinds ask for, whatever they hold.
use Rattle.std.proofs.Common.{◌≡◌, ◌∙◌, ap, sym, refl, ℕ, suc, ◌*◌, ◌==◌, List, [], ◌∷◌, ◌++◌, map, length, slice_get, Option, Some, None, IsTrue, eqb-true}
use Rattle.std.specs.List.{list_all}
use Rattle.dn_base.specs.declared.device.UnitWords.{UnitWords}
use Rattle.dn_base.specs.Device.{UnitSize, sizes_of}
use Rattle.dn_base.proofs.Booleans.{and_parts}
use Rattle.dn_base.proofs.Told.{if_some_then}
use Rattle.dn_net.specs.declared.node.NodeDecl.{NodeDecl}
use Rattle.dn_net.specs.declared.node.Unit.{Unit as UnitPart}
use Rattle.dn_kind.specs.Kind.{Meaning}
use Rattle.dn_kind.specs.Kinded.{kinds_of}
use Rattle.dn_tables.specs.declared.table.NodeTable.{NodeTable}
use Rattle.dn_tables.specs.Set.{FitsNet, IsOnDevice, IsSet, device_tables, fits_by, fits_kinds, is_sized, is_sized_by, is_wide, table_on_device, tables_from, tables_of_set, units_of, width_by}
use Rattle.dn_tables.proofs.Devices.{device_told}
use Rattle.dn_tables.proofs.Kept.{sized_unit}
use Rattle.dn_image.specs.Image.{are_filled, is_filled, word_count}
use Rattle.dn_book.specs.declared.grant.Grant.{Grant}
use Rattle.dn_book.specs.Tables.{IsKept, tables_of}
use Rattle.dn_book.proofs.Faithful.{empty_book_is_faithful}
use Rattle.dn_script.specs.declared.machine.Machine.{Machine}
use Rattle.dn_script.specs.declared.state.Session.{Session}
use Rattle.dn_script.specs.Made.{TellsBook, made_tables}
use Rattle.dn_script.specs.State.{IsReadyOn}
use Rattle.dn_script.proofs.Filled.{tables_filled}
use Rattle.dn_script.proofs.Kept.{IsLawfulNet, machine_lawful}

-- a unit with the words that it asks for, or none
abbrev size_at : List Meaning → ℕ → Option UnitPart → List UnitSize
size_at kinds node None = []
size_at kinds node (Some u) = record { unit = node; words = word_count kinds (Some u) } ∷ []

-- the units of nodes from a number on
abbrev sizes_from : List Meaning → ℕ → List NodeDecl → List UnitSize
sizes_from kinds node [] = []
sizes_from kinds node (n ∷ ns) = size_at kinds node n.unit ++ sizes_from kinds (suc node) ns

-- a node with the words that it asks for, and then others
one_size : (kinds : List Meaning) (node : ℕ) (o : Option UnitPart) (ws : List ℕ) (rest : List UnitWords) → length ws ≡ word_count kinds o → sizes_of (table_on_device node ws o ++ rest) ≡ size_at kinds node o ++ sizes_of rest
one_size kinds node None ws rest e = refl
one_size kinds node (Some u) ws rest e = ap (λ (n : ℕ). record { unit = node; words = n } ∷ sizes_of rest) e

-- tables that are filled
filled_sizes : (kinds : List Meaning) (node : ℕ) (ns : List NodeDecl) (words : List (List ℕ)) → IsTrue (are_filled kinds ns words) → sizes_of (device_tables node ns words) ≡ sizes_from kinds node ns
filled_sizes kinds node [] words f = refl
filled_sizes kinds node (n ∷ ns) [] f = cc
filled_sizes kinds node (n ∷ ns) (ws ∷ rest) f =
    let b = and_parts (is_filled kinds n.unit ws) (are_filled kinds ns rest) f in
    let c = and_parts (length ws == word_count kinds n.unit) _ b.0 in
    one_size kinds node n.unit ws (device_tables (suc node) ns rest) (eqb-true (length ws) (word_count kinds n.unit) c.0)
    ∙ ap (λ (l : List UnitSize). size_at kinds node n.unit ++ l) (filled_sizes kinds (suc node) ns rest b.1)

-- the words of a table that fits its kind and is sized
own_words : (kinds : List Meaning) (t : NodeTable) (o : Option UnitPart) → IsTrue (fits_by kinds t.width o) → IsTrue (is_sized_by t o) → length t.words ≡ word_count kinds o
own_words kinds t None f s = eqb-true (length t.words) 0 (and_parts (length t.words == 0) _ s).0
own_words kinds t (Some u) f s = (sized_unit t u s).words ∙ ap (λ (w : ℕ). u.slots * w) (wide (slice_get kinds u.kind) f)
  where
    wide : (k : Option Meaning) → IsTrue (is_wide k t.width) → t.width ≡ width_by k
    wide None g = cc
    wide (Some kind) g = sym (eqb-true kind.words t.width g)

-- a set that fits the net, and whose tables are sized
fitted_from : (kinds : List Meaning) (node : ℕ) (set : List NodeTable) (ns : List NodeDecl) → units_of set ≡ map (λ n. n.unit) ns → IsTrue (fits_kinds kinds set) → IsTrue (list_all is_sized set) → sizes_of (tables_from node set) ≡ sizes_from kinds node ns
fitted_from kinds node [] [] e f s = refl
fitted_from kinds node [] (n ∷ ns) e f s = cc
fitted_from kinds node (t ∷ set) [] e f s = cc
fitted_from kinds node (t ∷ set) (n ∷ ns) e f s =
    let unit : t.unit ≡ n.unit = cc in
    let rest : units_of set ≡ map (λ (m : NodeDecl). m.unit) ns = cc in
    let b = and_parts (fits_by kinds t.width t.unit) (fits_kinds kinds set) f in
    let d = and_parts (is_sized t) (list_all is_sized set) s in
    one_size kinds node t.unit t.words (tables_from (suc node) set) (own_words kinds t t.unit b.0 d.0)
    ∙ ap (λ (l : List UnitSize). size_at kinds node t.unit ++ l) (fitted_from kinds (suc node) set ns rest b.1 d.1)
    ∙ ap (λ (o : Option UnitPart). size_at kinds node o ++ sizes_from kinds (suc node) ns) unit

-- the units as they are made
made_sizes : (kinds : List Meaning) (net : List NodeDecl) → IsLawfulNet kinds net → sizes_of (made_tables kinds net) ≡ sizes_from kinds 0 net
made_sizes kinds net known = filled_sizes kinds 0 net (tables_of net kinds []) (tables_filled kinds net [] known.lawful known.legal (empty_book_is_faithful net known.legal.legal).0)

-- the units of a device that has a set which fits the net are those that were made
pub fitted_sizes : (kinds : List Meaning) (net : List NodeDecl) (set : List NodeTable) (sizes : List UnitSize) (told : Option (List UnitWords)) → IsLawfulNet kinds net → FitsNet net kinds set → IsSet set → IsOnDevice set sizes told → sizes ≡ sizes_of (made_tables kinds net)
fitted_sizes kinds net set sizes told known fits is on = on.units ∙ fitted_from kinds 0 set net fits.units fits.wide is.sized ∙ sym (made_sizes kinds net known)

-- a device has each unit of a net, and its words are the tables of this book
pub record HasTables (kinds : List Meaning) (net : List NodeDecl) (book : List Grant) (sizes : List UnitSize) (told : Option (List UnitWords)) : Type 0 where
  pub units : sizes ≡ sizes_of (made_tables kinds net)
  pub tables : TellsBook kinds net book told

-- so has one on which a set is kept
kept_tables : (kinds : List Meaning) (net : List NodeDecl) (book : List Grant) (set : List NodeTable) (sizes : List UnitSize) (told : Option (List UnitWords)) → IsLawfulNet kinds net → IsKept net kinds book set → IsOnDevice set sizes told → HasTables kinds net book sizes told
kept_tables kinds net book set sizes told known kept on =
    let same : tables_of_set set ≡ device_tables 0 net (tables_of net kinds book) = device_told set net (tables_of net kinds book) kept.fits.units kept.words in
    record {
      units = on.units
          ∙ ap sizes_of same
          ∙ filled_sizes kinds 0 net (tables_of net kinds book) (tables_filled kinds net book known.lawful known.legal kept.sound)
          ∙ sym (made_sizes kinds net known);
      tables = if_some_then told (λ tables. tables ≡ tables_of_set set) (λ tables. tables ≡ device_tables 0 net (tables_of net kinds book)) (λ tables e. e ∙ same) on.words;
    }

-- and one on which a script is gone through
pub ready_tables : {K : Type 0} {V : K → Type 0} (means : (k : K) × V k → Meaning) (m : Machine K V) (k : Session) (sizes : List UnitSize) (told : Option (List UnitWords)) → IsReadyOn means m k sizes told → HasTables (kinds_of means m.on.kinds.now) m.on.net.now k.book.grants sizes told
ready_tables means m k sizes told ready = kept_tables (kinds_of means m.on.kinds.now) m.on.net.now k.book.grants k.book.set sizes told (machine_lawful means m ready.machine) ready.state.kept ready.on_device
