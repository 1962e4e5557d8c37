-- The nodes that declarations make, with the values of their expressions, and with the names of the nodes to which they refer.
-- Of a unit the kind is known by its place in a list of kinds.
use Rattle.std.specs.Prelude.{ℕ, ◌+◌, Bool, true, if◌then◌else◌, ◌&&◌, nat_lt, List, [], ◌∷◌, ◌++◌, map, length, sum, count_by, position, Option, Some, None, option_map, Result, Ok, Err}
use Rattle.std.specs.List.{list_all, position_or_len}
use Rattle.std.specs.Option.{is_some}
use Rattle.std.specs.Str.{bytes_eq}
use Rattle.dn_parse.specs.Tree.{Part, Block as BlockOf, Dest as DestOf, Entry as EntryOf, Role as RoleOf, plain_role, agent_role, vectors_role, Expression, Spec, Declaration, node, unit}
use Rattle.dn_net.specs.declared.node.Block.{Block}
use Rattle.dn_net.specs.declared.node.Dest.{Dest}
use Rattle.dn_net.specs.declared.node.Entry.{Entry}
use Rattle.dn_net.specs.declared.node.NodeDecl.{NodeDecl}
use Rattle.dn_net.specs.declared.node.Role.{Role}
use Rattle.dn_net.specs.declared.node.Role.TheVariants.{Plain, Agent, Vectors, Unit as UnitRole}
use Rattle.dn_net.specs.declared.node.Unit.{Unit as UnitPart}
use Rattle.dn_net.specs.Decode.{is_agent, is_unit}
use Rattle.dn_kind.specs.Kind.{Meaning, kind_place}
use Rattle.dn_module.specs.declared.draft.Draft.{Draft}
use Rattle.dn_module.specs.declared.draft.DraftEntry.{DraftEntry}
use Rattle.dn_module.specs.declared.draft.DraftDest.{DraftDest}
use Rattle.dn_module.specs.declared.draft.DraftUnit.{DraftUnit}
use Rattle.dn_scope.specs.Values.{◌>>=◌, Flaw, unknown_word, each, value, value_or_default, value_within, full_name, full_name_or_none}
use Rattle.dn_scope.specs.Faults.{ExpansionFault, is_duplicate, is_unknown, passes_limit, at_line}
use Rattle.dn_scope.specs.Numbered.{is_known}

-- a block of one expression has that value as its first and its last address
abbrev pub block_of : BlockOf → Result Block Flaw
block_of b = do
  lo ← value b.lo
  hi ← value_or_default lo b.hi
  Ok (record { lo = lo; hi = hi })

-- a destination without `at` has the block's own first address
abbrev pub dest_of : ℕ → DestOf → Result DraftDest Flaw
dest_of lo d = do
  to ← full_name d.name
  addr ← value_or_default lo d.addr
  Ok (record { to = to; addr = addr })

-- an entry: its block, and then its destinations
abbrev pub entry_of : EntryOf → Result DraftEntry Flaw
entry_of e = do
  block ← block_of e.block
  dests ← each (dest_of block.lo) e.dests
  Ok (record { block = block; dests = dests })

-- what a node is declared as
abbrev pub role_of : RoleOf → Role
role_of plain_role = Plain
role_of agent_role = Agent
role_of vectors_role = Vectors

-- a node that neither accepts nor maps anything: the line of its declaration, its role and its name, and its parts where it is a unit
abbrev pub bare_draft : ℕ → Role → List ℕ → Option DraftUnit → Draft
bare_draft line role name parts = record { line = line; role = role; name = name; accepts = []; entries = []; over = None; unit = parts }

-- a node, its expressions and the indices of its references taken from left to right
abbrev pub node_draft : ℕ → RoleOf → List Part → Spec → Result Draft Flaw
node_draft line role name spec = do
  text ← full_name name
  accepts ← each block_of spec.accepts
  entries ← each entry_of spec.entries
  over ← full_name_or_none spec.over
  Ok (record { line = line; role = role_of role; name = text; accepts = accepts; entries = entries; over = over; unit = None })

-- the number of a kind, where it is there
abbrev pub known_kind : Option ℕ → Result ℕ Flaw
known_kind None = Err unknown_word
known_kind (Some number) = Ok number

-- A unit: its name, its kind, its numbers and its ports taken from left to right. Its page and its
-- reach are at most 255, and its slots at most 2^32 - 1.
abbrev pub unit_draft : List Meaning → ℕ → List Part → List ℕ → Expression → Expression → Expression →
    List (List Part) → Result Draft Flaw
unit_draft kinds line name kind page slots reach ports = do
  text ← full_name name
  number ← known_kind (kind_place kinds kind)
  p ← value_within 255 page
  s ← value_within 4294967295 slots
  r ← value_within 255 reach
  texts ← each full_name ports
  Ok (bare_draft line UnitRole text
      (Some (record { kind = number; page = p; slots = s; reach = r; ports = texts })))

-- the draft of a declaration
abbrev pub draft_of : List Meaning → ℕ → Declaration → Result Draft Flaw
draft_of kinds line (node role name spec) = node_draft line role name spec
draft_of kinds line (unit name kind page slots reach ports) =
    unit_draft kinds line name kind page slots reach ports

-- the draft of a declaration, or the fault of its statement
abbrev pub draft_of_declaration : List Meaning → ℕ → Declaration → Result Draft ExpansionFault
draft_of_declaration kinds line d = at_line line (draft_of kinds line d)

-- the names of the nodes, in order
abbrev pub names : List Draft → List (List ℕ)
names drafts = map (λ d. d.name) drafts

-- how many are agents
abbrev pub agents_among : List Draft → ℕ
agents_among drafts = count_by (λ d. is_agent d.role) drafts

-- how many are units
abbrev pub units_among : List Draft → ℕ
units_among drafts = count_by (λ d. is_unit d.role) drafts

-- an accept block, a map entry and an `over` are one part each
abbrev pub parts_of_draft : Draft → ℕ
parts_of_draft d = length d.accepts + (length d.entries + (if is_some d.over then 1 else 0))

-- the parts of all of them
abbrev pub all_parts : List Draft → ℕ
all_parts drafts = sum (map parts_of_draft drafts)

-- the limit that one more node passes: nodes, then agents, then units, then parts
abbrev pub limit_passed : List Draft → Draft → Option ℕ
limit_passed drafts d =
    if nat_lt 1024 (length drafts + 1) then Some 1024
    else (if is_agent d.role && nat_lt 64 (agents_among drafts + 1) then Some 64
    else (if is_unit d.role && nat_lt 64 (units_among drafts + 1) then Some 64
    else (if nat_lt 16384 (all_parts drafts + parts_of_draft d) then Some 16384 else None)))

-- one draft more, or the limit that it passes
abbrev pub draft_by_limit : Option ℕ → List Draft → Draft → Result (List Draft) ExpansionFault
draft_by_limit (Some limit) drafts d = Err (passes_limit d.line limit)
draft_by_limit None drafts d = Ok (drafts ++ d ∷ [])

-- the nodes with one more: its name was not there before, and no limit is passed
abbrev pub with_draft : List Draft → Draft → Result (List Draft) ExpansionFault
with_draft drafts d = if is_known (names drafts) d.name then Err (is_duplicate d.line) else draft_by_limit (limit_passed drafts d) drafts d

-- the node with a name, where it is there
abbrev pub number_in : List (List ℕ) → List ℕ → Option ℕ
number_in known text = position (bytes_eq text) known

-- each node to which one refers is there
abbrev pub dests_known : List (List ℕ) → List DraftDest → Bool
dests_known known dests = list_all (λ d. is_known known d.to) dests

-- the node that it lies over is there
abbrev pub over_known : List (List ℕ) → Option (List ℕ) → Bool
over_known known None = true
over_known known (Some text) = is_known known text

-- each port of a unit is there
abbrev pub ports_known : List (List ℕ) → Option DraftUnit → Bool
ports_known known None = true
ports_known known (Some u) = list_all (is_known known) u.ports

-- each node to which a draft refers is there
abbrev pub refers_to_known : List (List ℕ) → Draft → Bool
refers_to_known known d =
    list_all (λ e. dests_known known e.dests) d.entries
    && (over_known known d.over && ports_known known d.unit)

-- the number of the node with a full name
abbrev pub node_number_of : List (List ℕ) → List ℕ → ℕ
node_number_of known text = position_or_len (bytes_eq text) known

-- a destination, by the number of its node
abbrev pub dest_in : List (List ℕ) → DraftDest → Dest
dest_in known d = record { node = node_number_of known d.to; addr = d.addr }

-- an entry, by the numbers of its destinations
abbrev pub entry_in : List (List ℕ) → DraftEntry → Entry
entry_in known e = record { block = e.block; dests = map (dest_in known) e.dests }

-- a unit, by the numbers of its ports
abbrev pub unit_by_numbers : List (List ℕ) → DraftUnit → UnitPart
unit_by_numbers known u = record {
  kind = u.kind;
  page = u.page;
  slots = u.slots;
  reach = u.reach;
  ports = map (node_number_of known) u.ports;
}

-- a node, by the numbers of the nodes to which it refers
abbrev pub node_in : List (List ℕ) → Draft → NodeDecl
node_in known d = record {
  text = d.name;
  role = d.role;
  accepts = d.accepts;
  entries = map (entry_in known) d.entries;
  over = option_map (node_number_of known) d.over;
  unit = option_map (unit_by_numbers known) d.unit;
}

-- Unknown: a node to which another refers does not exist
abbrev pub node_of : List (List ℕ) → Draft → Result NodeDecl ExpansionFault
node_of known d = if refers_to_known known d then Ok (node_in known d) else Err (is_unknown d.line)
