-- The replies to `resolve` and `lookup`: the names that an address comes to.
use Rattle.std.specs.Prelude.{ℕ, if◌then◌else◌, List, [], ◌++◌, codes, slice_get, Option, Some, None}
use Rattle.dn_net.specs.declared.node.Name.{Name}
use Rattle.dn_net.specs.declared.node.NodeDecl.{NodeDecl}
use Rattle.dn_net.specs.Decode.{is_agent_at}
use Rattle.dn_kind.specs.declared.rights.Access.{Access}
use Rattle.dn_kind.specs.declared.rights.Access.TheVariants.{Read as reading, Write as writing}
use Rattle.dn_kind.specs.Tables.{allowing, resolved_names_under}
use Rattle.dn_parse.specs.declared.syntax.Mode.{Mode}
use Rattle.dn_parse.specs.declared.syntax.Mode.TheVariants.{Unsaid, Read, Write}
use Rattle.dn_module.specs.declared.command.Target.{Target}
use Rattle.dn_book.specs.declared.grant.Grant.{Grant}
use Rattle.dn_book.specs.Book.{owed_names, records_of}
use Rattle.dn_print.specs.Names.{address_text, names_text}

-- the access that a command asks for: reading, where it says none
abbrev pub access_of : Mode → Access
access_of Unsaid = reading
access_of Read = reading
access_of Write = writing

-- the access as it is printed, where a command says one
abbrev pub access_text : Mode → List ℕ
access_text Unsaid = []
access_text Read = codes " for read"
access_text Write = codes " for write"

-- the address and the access as they were asked for, and what is found there
abbrev pub asked_text : Target → ℕ → Mode → List ℕ → List ℕ
asked_text target a m found =
    target.text ++ (codes "@" ++ (address_text a
    ++ (access_text m ++ (codes ": " ++ (found ++ codes "\n")))))

-- the reply of a command that refuses the node of this name
abbrev pub node_refused_text : List ℕ → List ℕ → List ℕ → List ℕ
node_refused_text command name why =
    command ++ (codes " " ++ (name ++ (codes " refused: " ++ (why ++ codes "\n"))))

-- the names to which a name resolves for an access under the records of a book
abbrev pub names_under : List NodeDecl → List Grant → Access → Name → List Name
names_under net book access x = resolved_names_under net (allowing access (records_of net book)) x

-- the names to which an address of a node resolves for an access under the records of a book, or this
-- text where there is no such node
abbrev pub found_text : List ℕ → List NodeDecl → List Grant → Access → Option ℕ → ℕ → List ℕ
found_text none net book access None a = none
found_text none net book access (Some n) a =
    names_text net (names_under net book access (record { node = n; addr = a }))

-- a node that a command names, where it is an agent
abbrev pub agent_of : List NodeDecl → Option ℕ → Option ℕ
agent_of net None = None
agent_of net (Some n) = if is_agent_at (slice_get net n) then Some n else None

-- the reply to `resolve`
abbrev pub resolve_text : List NodeDecl → List Grant → Target → ℕ → Mode → List ℕ
resolve_text net book target a m =
    asked_text target a m (found_text (codes "no such node") net book (access_of m) target.node a)

-- the names that a book owes to an address of an agent for an access, where there is such an agent
abbrev pub owed_text : List NodeDecl → List Grant → Access → Option ℕ → ℕ → List ℕ
owed_text net book access None a = codes "no such agent"
owed_text net book access (Some n) a =
    names_text net (owed_names net book access (record { node = n; addr = a }))

-- the reply to `lookup`
abbrev pub lookup_text : List NodeDecl → List Grant → Target → ℕ → Mode → List ℕ
lookup_text net book target a m =
    asked_text target a m (owed_text net book (access_of m) (agent_of net target.node) a)
