-- Tables in which some slots have words 0, and the law of access.
use Rattle.std.specs.Prelude.{◌≡◌, ℕ, zero, suc, ◌↔◌, Bool, true, if◌then◌else◌, List, [], ◌∷◌, ◌++◌, take, drop, replicate, slice_get, Option, Some, None}
use Rattle.std.specs.List.{All}
use Rattle.dn_net.specs.declared.node.Name.{Name}
use Rattle.dn_net.specs.declared.node.NodeDecl.{NodeDecl}
use Rattle.dn_net.specs.declared.node.Unit.{Unit as UnitPart}
use Rattle.dn_net.specs.Decode.{unit_at}
use Rattle.dn_kind.specs.declared.rights.Access.{Access}
use Rattle.dn_kind.specs.declared.unit_kind.Record.{Record}
use Rattle.dn_kind.specs.Rights.{allows}
use Rattle.dn_kind.specs.Kind.{Meaning, IsLawful}
use Rattle.dn_kind.specs.Tables.{record_held, AreTables, allowing, ResolvesUnder, ResolvesFor}

-- the words of so many slots from a number on: those of a slot that is not kept are 0
abbrev pub kept_slots : (ℕ → Bool) → ℕ → ℕ → ℕ → List ℕ → List ℕ
kept_slots is_kept width slot zero ws = ws
kept_slots is_kept width slot (suc count) ws =
    (if is_kept slot then take width ws else replicate width 0)
    ++ kept_slots is_kept width (suc slot) count (drop width ws)

-- the words of a unit of this kind, where those of slots that are not kept are 0
abbrev pub kept_of_kind : (ℕ → Bool) → UnitPart → Option Meaning → List ℕ → List ℕ
kept_of_kind is_kept u None ws = ws
kept_of_kind is_kept u (Some kind) ws = kept_slots is_kept kind.words 0 u.slots ws

-- the words of a node, where those of slots of a unit that are not kept are 0
abbrev pub kept_words : List Meaning → (ℕ → Bool) → Option UnitPart → List ℕ → List ℕ
kept_words kinds is_kept None ws = ws
kept_words kinds is_kept (Some u) ws = kept_of_kind is_kept u (slice_get kinds u.kind) ws

-- the words of nodes from a number on, where those of slots that are not kept are 0
abbrev pub kept_tables : List NodeDecl → List Meaning → (ℕ → ℕ → Bool) → ℕ → List (List ℕ) →
    List (List ℕ)
kept_tables net kinds is_kept node [] = []
kept_tables net kinds is_kept node (ws ∷ rest) =
    kept_words kinds (is_kept node) (unit_at net node) ws
    ∷ kept_tables net kinds is_kept (suc node) rest

-- a slot holds no record, or one that allows the access
abbrev pub is_open : Access → Option Record → Bool
is_open access None = true
is_open access (Some r) = allows r.rights access

-- the slots of tables that hold no record, or one that allows the access
abbrev pub is_open_in : List NodeDecl → List Meaning → List (List ℕ) → Access → ℕ → ℕ → Bool
is_open_in net kinds words access node slot = is_open access (record_held net kinds words node slot)

-- the tables in which every slot whose record does not allow the access has words 0
abbrev pub words_allowing : List NodeDecl → List Meaning → Access → List (List ℕ) → List (List ℕ)
words_allowing net kinds access words =
    kept_tables net kinds (is_open_in net kinds words access) 0 words

-- Tables in which the slots whose records do not allow an access have words 0 hold the records that
-- allow it, and no others.
abbrev pub ClearedTablesAllow : Type 0
ClearedTablesAllow = (net : List NodeDecl) (kinds : List Meaning) (words : List (List ℕ))
    (access : Access) → All IsLawful kinds → AreTables net kinds words → (node slot : ℕ) →
    record_held net kinds (words_allowing net kinds access words) node slot
    ≡ allowing access (record_held net kinds words) node slot

-- The law of access: what a name resolves to for an access is what it resolves to under the tables
-- in which the slots whose records do not allow it have words 0.
abbrev pub LawOfAccess : Type 0
LawOfAccess = (net : List NodeDecl) (kinds : List Meaning) (words : List (List ℕ))
    (access : Access) → All IsLawful kinds → AreTables net kinds words → (x y : Name) →
    ResolvesFor net kinds words access x y
    ↔ ResolvesUnder net (record_held net kinds (words_allowing net kinds access words)) x y
