-- A stop in the middle of a command: what each name resolves to then.
use Rattle.std.specs.Prelude.{◌⊎◌, ◌↔◌, ℕ, List}
use Rattle.dn_net.specs.declared.node.Name.{Name}
use Rattle.dn_net.specs.declared.node.NodeDecl.{NodeDecl}
use Rattle.dn_net.specs.Legal.{IsLegalNet}
use Rattle.dn_kind.specs.declared.rights.Access.{Access}
use Rattle.dn_kind.specs.Kind.{Meaning}
use Rattle.dn_kind.specs.Tables.{Extends, Held, ResolvesUnder, allowing, record_held}
use Rattle.dn_book.specs.declared.grant.Grant.{Grant}
use Rattle.dn_book.specs.Book.{records_of}

-- a name resolves for an access under both records to the same names
abbrev pub ResolvesAlike : List NodeDecl → Held → Held → Access → Name → Type 0
ResolvesAlike net h h' access x = (y : Name) →
    ResolvesUnder net (allowing access h) x y ↔ ResolvesUnder net (allowing access h') x y

-- Each name resolves, for each access, under the first records as under the second, or as under the
-- third.
abbrev pub IsOneOrOther : List NodeDecl → Held → Held → Held → Type 0
IsOneOrOther net h a b = (access : Access) (x : Name) →
    ResolvesAlike net h a access x ⊎ ResolvesAlike net h b access x

-- Where records lie between others, each name resolves as under the one or as under the other.
abbrev pub BetweenIsOneOrOther : Type 0
BetweenIsOneOrOther = (net : List NodeDecl) (less h more : Held) → IsLegalNet net → Extends less h →
    Extends h more → IsOneOrOther net h less more

-- Under tables each name resolves, for each access, as under the one book or as under the other.
abbrev pub IsCaught : List NodeDecl → List Meaning → List (List ℕ) → List Grant → List Grant → Type 0
IsCaught net kinds words before after =
    IsOneOrOther net (record_held net kinds words) (records_of net before) (records_of net after)
