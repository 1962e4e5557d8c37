-- The text of an address, of a name and of a list of names.
use Rattle.std.specs.Prelude.{◌≡◌, ℕ, Bool, false, if◌then◌else◌, nat_lt, List, [], ◌∷◌, ◌++◌, codes, slice_get, Option, Some, None}
use Rattle.std.specs.List.{list_all}
use Rattle.std.specs.Fmt.{digits}
use Rattle.dn_net.specs.declared.node.Dest.{Dest}
use Rattle.dn_net.specs.declared.node.Entry.{Entry}
use Rattle.dn_net.specs.declared.node.Name.{Name}
use Rattle.dn_net.specs.declared.node.NodeDecl.{NodeDecl}

-- an address in lower-case hexadecimal
abbrev pub address_text : ℕ → List ℕ
address_text a = codes "0x" ++ digits 16 false a

-- the full name of a node, where there is one
abbrev pub node_text : Option NodeDecl → List ℕ
node_text None = []
node_text (Some n) = n.text

-- a name: the node's full name, `@` and the address
abbrev pub name_text : List NodeDecl → Name → List ℕ
name_text net x = node_text (slice_get net x.node) ++ (codes "@" ++ address_text x.addr)

-- each name after a comma
abbrev pub more_names_text : List NodeDecl → List Name → List ℕ
more_names_text net [] = []
more_names_text net (x ∷ xs) = codes ", " ++ (name_text net x ++ more_names_text net xs)

-- the names joined by `, `, or `nothing`
abbrev pub names_text : List NodeDecl → List Name → List ℕ
names_text net [] = codes "nothing"
names_text net (x ∷ xs) = name_text net x ++ more_names_text net xs

-- a call that appends a text to bytes: where it is done the text stands behind them, and else they
-- stand as before
abbrev pub Appended : List ℕ → List ℕ → Bool → List ℕ → Type 0
Appended before after done text = after ≡ (if done then before ++ text else before)

-- each destination is in one of so many nodes
abbrev pub dests_within : ℕ → List Dest → Bool
dests_within count ds = list_all (λ d. nat_lt d.node count) ds

-- each destination of each entry is in one of so many nodes
abbrev pub entries_within : ℕ → List Entry → Bool
entries_within count es = list_all (λ e. list_all (λ d. nat_lt d.node count) e.dests) es
