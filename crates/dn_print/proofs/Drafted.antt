-- The nodes of a printable net as a text declares them, with full names in place of numbers: they make the net, so its text is read back.
use Rattle.std.proofs.Common.{◌≡◌, ◌≢◌, ◌∙◌, inl, inr, ap, ap₂, sym, refl, subst, ℕ, zero, suc, ◌+◌, ◌<◌, ◌≤◌, ◌^◌, Bool, true, false, cond, not, ◌&&◌, nat_le, nat_lt, List, [], ◌∷◌, map, length, slice_get, get_or, is_some, Option, Some, None, option_map, Ok, IsTrue, arith, ltb-true, bytes_eq}
use Rattle.std.specs.List.{AllPairs, list_all}
use Rattle.std.proofs.lemmas.Bool.{false≢true, lt-ltb}
use Rattle.std.proofs.lemmas.List.{length-map}
use Rattle.std.proofs.lemmas.Slice.Eq.{bytes_eq-Decides}
use Rattle.dn_base.proofs.Booleans.{and_parts}
use Rattle.dn_base.proofs.Lists.{prefix_len-any, nil_from_leb, Each}
use Rattle.dn_parse.specs.Tree.{Role as RoleOf, plain_role, agent_role, vectors_role}
use Rattle.dn_net.specs.declared.node.Dest.{Dest}
use Rattle.dn_net.specs.declared.node.Entry.{Entry}
use Rattle.dn_net.specs.declared.node.NodeDecl.{NodeDecl}
use Rattle.dn_net.specs.declared.node.Role.{Role}
use Rattle.dn_net.specs.declared.node.Role.TheVariants.{Plain, Agent, Vectors, Unit as UnitRole}
use Rattle.dn_net.specs.declared.node.Unit.{Unit as UnitPart}
use Rattle.dn_net.specs.Decode.{is_agent, is_bare, is_formed, formed_by, is_unit, over_within, ports_within, refers_within}
use Rattle.dn_net.specs.Parts.{parts_of_node}
use Rattle.dn_kind.specs.Kind.{Meaning}
use Rattle.dn_module.specs.declared.draft.Draft.{Draft}
use Rattle.dn_module.specs.declared.draft.DraftDest.{DraftDest}
use Rattle.dn_module.specs.declared.draft.DraftEntry.{DraftEntry}
use Rattle.dn_module.specs.declared.draft.DraftUnit.{DraftUnit}
use Rattle.dn_scope.specs.Values.{each}
use Rattle.dn_module.specs.Drafts.{names, parts_of_draft, node_number_of, dests_known, over_known, ports_known, refers_to_known, dest_in, entry_in, unit_by_numbers, node_in, node_of, role_of}
use Rattle.dn_scope.specs.Numbered.{is_known}
use Rattle.dn_print.specs.Names.{node_text}
use Rattle.dn_print.specs.Spelled.{IsFullName}
use Rattle.dn_print.specs.Statement.{node_name}
use Rattle.dn_print.specs.Printable.{IsPrintableEntry, IsPrintableUnit, HasPrintableUnit, IsPrintableNode, IsPrintable, PrintableIsReadBack}
use Rattle.dn_print.proofs.Again.{given_back}
use Rattle.dn_print.proofs.Counted.{one_agent, one_unit, grown_by}
use Rattle.dn_print.proofs.Formed.{Maybe, GoodBlock, GoodDest, GoodEntry, GoodParts, GoodDraft}
use Rattle.dn_print.proofs.Made.{From}
use Rattle.dn_print.proofs.Places.{each_of_all, Distinct, distinct_map, unlike, total, total_map}

-- the full names of nodes
abbrev texts : List NodeDecl → List (List ℕ)
texts net = map (λ (n : NodeDecl). n.text) net

-- a node with full names in place of numbers
abbrev dest_named : List NodeDecl → Dest → DraftDest
dest_named net d = record { to = node_name net d.node; addr = d.addr }

abbrev entry_named : List NodeDecl → Entry → DraftEntry
entry_named net e = record { block = e.block; dests = map (dest_named net) e.dests }

abbrev unit_named : List NodeDecl → UnitPart → DraftUnit
unit_named net u = record { kind = u.kind; page = u.page; slots = u.slots; reach = u.reach; ports = map (node_name net) u.ports }

abbrev node_named : List NodeDecl → NodeDecl → Draft
node_named net n = record { line = 0; role = n.role; name = n.text; accepts = n.accepts; entries = map (entry_named net) n.entries; over = option_map (node_name net) n.over; unit = option_map (unit_named net) n.unit }

-- the names are those of the nodes
names_named : (net ns : List NodeDecl) → names (map (node_named net) ns) ≡ texts ns
names_named net [] = refl
names_named net (n ∷ ns) = ap (λ (l : List (List ℕ)). n.text ∷ l) (names_named net ns)

-- the name of the node of a number, and the number of that name
text_at : (net : List NodeDecl) (i : ℕ) (d : NodeDecl) → i < length net → node_text (slice_get net i) ≡ (get_or net i d).text
text_at [] i d l = absurd (omega arith)
text_at (n ∷ net) zero d l = refl
text_at (n ∷ net) (suc i) d l = text_at net i d (omega arith)

abbrev Differ : List NodeDecl → Type 0
Differ net = AllPairs (λ (n m : NodeDecl). n.text ≢ m.text) net

number_back : (net : List NodeDecl) (i : ℕ) → Differ net → i < length net → node_number_of (texts net) (node_text (slice_get net i)) ≡ i
number_back [] i differ l = absurd (omega arith)
number_back (n ∷ net) zero differ l = ap (λ (b : Bool). cond (not b) (1 + node_number_of (texts net) n.text) 0) ((bytes_eq-Decides n.text n.text).1 refl)
number_back (n ∷ net) (suc i) differ l =
    let k : i < length net = omega arith in
    let away : bytes_eq (node_text (slice_get net i)) n.text ≡ false = unlike (node_text (slice_get net i)) n.text (λ e. differ 0 (suc i) n (omega arith) l (sym e ∙ text_at net i n k)) in
    let more = number_back net i (λ j m d a b. differ (suc j) (suc m) d (omega arith) (omega arith)) k in
    ap (λ (b : Bool). cond (not b) (1 + node_number_of (texts net) (node_text (slice_get net i))) 0) away ∙ omega (arith, more)

known_back : (net : List NodeDecl) (i : ℕ) → Differ net → i < length net → IsTrue (is_known (texts net) (node_text (slice_get net i)))
known_back net i differ l =
    let t = node_text (slice_get net i) in
    let n : length (texts net) ≡ length net = length-map net (λ (n : NodeDecl). n.text) in
    sym (prefix_len-any (bytes_eq (node_text (slice_get net i))) (texts net))
    ∙ ap (λ (k : ℕ). nat_lt k (length (texts net))) (number_back net i differ l)
    ∙ lt-ltb i (length (texts net)) (omega (arith, l, n))

module _ (net : List NodeDecl) (differ : Differ net) where
  -- what is referred to is there
  dests_known_back : (ds : List Dest) → IsTrue (list_all (λ (d : Dest). nat_lt d.node (length net)) ds) → IsTrue (dests_known (texts net) (map (dest_named net) ds))
  dests_known_back [] h = refl
  dests_known_back (d ∷ ds) h =
      let p = and_parts (nat_lt d.node (length net)) (list_all (λ (d : Dest). nat_lt d.node (length net)) ds) h in
      rw (known_back net d.node differ (ltb-true d.node (length net) p.0)) (dests_known_back ds p.1)

  entries_known_back : (es : List Entry) → IsTrue (list_all (λ (e : Entry). list_all (λ (d : Dest). nat_lt d.node (length net)) e.dests) es) → IsTrue (list_all (λ e. dests_known (texts net) e.dests) (map (entry_named net) es))
  entries_known_back [] h = refl
  entries_known_back (e ∷ es) h =
      let p = and_parts (list_all (λ (d : Dest). nat_lt d.node (length net)) e.dests) (list_all (λ (e : Entry). list_all (λ (d : Dest). nat_lt d.node (length net)) e.dests) es) h in
      rw (dests_known_back e.dests p.0) (entries_known_back es p.1)

  over_known_back : (o : Option ℕ) → IsTrue (over_within (length net) o) → IsTrue (over_known (texts net) (option_map (node_name net) o))
  over_known_back None h = refl
  over_known_back (Some m) h = known_back net m differ (ltb-true m (length net) h)

  numbers_known_back : (ps : List ℕ) → IsTrue (list_all (λ p. nat_lt p (length net)) ps) → IsTrue (list_all (is_known (texts net)) (map (node_name net) ps))
  numbers_known_back [] h = refl
  numbers_known_back (p ∷ ps) h =
      let q = and_parts (nat_lt p (length net)) (list_all (λ p. nat_lt p (length net)) ps) h in
      rw (known_back net p differ (ltb-true p (length net) q.0)) (numbers_known_back ps q.1)

  ports_known_back : (u : Option UnitPart) → IsTrue (ports_within (length net) u) → IsTrue (ports_known (texts net) (option_map (unit_named net) u))
  ports_known_back None h = refl
  ports_known_back (Some u) h = numbers_known_back u.ports h

  -- and the numbers are the same again
  dests_back : (ds : List Dest) → IsTrue (list_all (λ (d : Dest). nat_lt d.node (length net)) ds) → map (dest_in (texts net)) (map (dest_named net) ds) ≡ ds
  dests_back [] h = refl
  dests_back (d ∷ ds) h =
      let p = and_parts (nat_lt d.node (length net)) (list_all (λ (d : Dest). nat_lt d.node (length net)) ds) h in
      let one = number_back net d.node differ (ltb-true d.node (length net) p.0) in
      let more = dests_back ds p.1 in
      λ i. record { node = one i; addr = d.addr } ∷ more i

  entries_back : (es : List Entry) → IsTrue (list_all (λ (e : Entry). list_all (λ (d : Dest). nat_lt d.node (length net)) e.dests) es) → map (entry_in (texts net)) (map (entry_named net) es) ≡ es
  entries_back [] h = refl
  entries_back (e ∷ es) h =
      let p = and_parts (list_all (λ (d : Dest). nat_lt d.node (length net)) e.dests) (list_all (λ (e : Entry). list_all (λ (d : Dest). nat_lt d.node (length net)) e.dests) es) h in
      let one = dests_back e.dests p.0 in
      let more = entries_back es p.1 in
      λ i. record { block = e.block; dests = one i } ∷ more i

  over_back : (o : Option ℕ) → IsTrue (over_within (length net) o) → option_map (node_number_of (texts net)) (option_map (node_name net) o) ≡ o
  over_back None h = refl
  over_back (Some m) h = ap (λ (k : ℕ). Some k) (number_back net m differ (ltb-true m (length net) h))

  numbers_back : (ps : List ℕ) → IsTrue (list_all (λ p. nat_lt p (length net)) ps) → map (node_number_of (texts net)) (map (node_name net) ps) ≡ ps
  numbers_back [] h = refl
  numbers_back (p ∷ ps) h =
      let q = and_parts (nat_lt p (length net)) (list_all (λ p. nat_lt p (length net)) ps) h in
      ap₂ (λ (k : ℕ) (l : List ℕ). k ∷ l) (number_back net p differ (ltb-true p (length net) q.0)) (numbers_back ps q.1)

  unit_back : (o : Option UnitPart) → IsTrue (ports_within (length net) o) → option_map (unit_by_numbers (texts net)) (option_map (unit_named net) o) ≡ o
  unit_back None h = refl
  unit_back (Some u) h =
      let e = numbers_back u.ports h in
      λ i. Some (record { kind = u.kind; page = u.page; slots = u.slots; reach = u.reach; ports = e i })

  -- a node is made again
  node_back : (n : NodeDecl) → IsTrue (refers_within (length net) n) → node_of (texts net) (node_named net n) ≡ Ok n
  node_back n h =
      let p = and_parts (list_all (λ (e : Entry). list_all (λ (d : Dest). nat_lt d.node (length net)) e.dests) n.entries) (over_within (length net) n.over && ports_within (length net) n.unit) h in
      let q = and_parts (over_within (length net) n.over) (ports_within (length net) n.unit) p.1 in
      let refers : refers_to_known (texts net) (node_named net n) ≡ true = rw (entries_known_back n.entries p.0, over_known_back n.over q.0) (ports_known_back n.unit q.1) in
      let e = entries_back n.entries p.0 in
      let o = over_back n.over q.0 in
      let u = unit_back n.unit q.1 in
      let same : node_in (texts net) (node_named net n) ≡ n = λ i. record { text = n.text; role = n.role; accepts = n.accepts; entries = e i; over = o i; unit = u i } in
      rw refers (ap (λ (m : NodeDecl). Ok m) same)

  nodes_back : (ns : List NodeDecl) → IsTrue (list_all (refers_within (length net)) ns) → each (node_of (texts net)) (map (node_named net) ns) ≡ Ok ns
  nodes_back [] h = refl
  nodes_back (n ∷ ns) h =
      let p = and_parts (refers_within (length net) n) (list_all (refers_within (length net)) ns) h in
      let one = node_back n p.0 in
      let more = nodes_back ns p.1 in
      rw (one, more) refl

-- the names of nodes that are there are full names
name_full : (kinds : List Meaning) (net : List NodeDecl) (i : ℕ) → Each (IsPrintableNode kinds) net → i < length net → IsFullName (node_text (slice_get net i))
name_full kinds [] i h l = absurd (omega arith)
name_full kinds (n ∷ net) zero h l = h.0.name
name_full kinds (n ∷ net) (suc i) h l = name_full kinds net i h.1 (omega arith)

role_back : (r : Role) → IsTrue (not (is_unit r)) → (q : RoleOf) × (r ≡ role_of q)
role_back Plain h = (plain_role, refl)
role_back Agent h = (agent_role, refl)
role_back Vectors h = (vectors_role, refl)
role_back UnitRole h = absurd (false≢true h)

unit_role : (r : Role) → IsTrue (is_unit r) → r ≡ UnitRole
unit_role Plain h = absurd (false≢true h)
unit_role Agent h = absurd (false≢true h)
unit_role Vectors h = absurd (false≢true h)
unit_role UnitRole h = refl

nowhere : (o : Option ℕ) → IsTrue (not (is_some o)) → o ≡ None
nowhere None h = refl
nowhere (Some m) h = absurd (false≢true h)

module _ (kinds : List Meaning) (net : List NodeDecl) (full : (i : ℕ) → i < length net → IsFullName (node_name net i)) where
  dests_good : (ds : List Dest) → Each (λ (d : Dest). d.addr < 2 ^ 64) ds → IsTrue (list_all (λ (d : Dest). nat_lt d.node (length net)) ds) → Each GoodDest (map (dest_named net) ds)
  dests_good [] h k = tt
  dests_good (d ∷ ds) h k =
      let p = and_parts (nat_lt d.node (length net)) (list_all (λ (d : Dest). nat_lt d.node (length net)) ds) k in
      ((full d.node (ltb-true d.node (length net) p.0), h.0), dests_good ds h.1 p.1)

  entries_good : (es : List Entry) → Each IsPrintableEntry es → IsTrue (list_all (λ (e : Entry). list_all (λ (d : Dest). nat_lt d.node (length net)) e.dests) es) → Each GoodEntry (map (entry_named net) es)
  entries_good [] h k = tt
  entries_good (e ∷ es) h k =
      let p = and_parts (list_all (λ (d : Dest). nat_lt d.node (length net)) e.dests) (list_all (λ (e : Entry). list_all (λ (d : Dest). nat_lt d.node (length net)) e.dests) es) k in
      let n = length-map e.dests (dest_named net) in
      let one = h.0 in
      let some = one.some in
      let few = one.few in
      ((one.block, dests_good e.dests (each_of_all (λ (d : Dest). d.addr < 2 ^ 64) e.dests one.addresses) p.0, omega (arith, n, some), omega (arith, n, few)), entries_good es h.1 p.1)

  over_good : (o : Option ℕ) → IsTrue (over_within (length net) o) → Maybe IsFullName (option_map (node_name net) o)
  over_good None h = tt
  over_good (Some m) h = full m (ltb-true m (length net) h)

  ports_good : (ps : List ℕ) → IsTrue (list_all (λ p. nat_lt p (length net)) ps) → Each IsFullName (map (node_name net) ps)
  ports_good [] h = tt
  ports_good (p ∷ ps) h =
      let q = and_parts (nat_lt p (length net)) (list_all (λ p. nat_lt p (length net)) ps) h in
      (full p (ltb-true p (length net) q.0), ports_good ps q.1)

  unit_good : (u : UnitPart) → IsPrintableUnit kinds u → IsTrue (list_all (λ p. nat_lt p (length net)) u.ports) → GoodParts kinds (unit_named net u)
  unit_good u h k =
      let n = length-map u.ports (node_name net) in
      let some = h.some in
      let few = h.few in
      record {
        printable = λ known. let m = length-map (map (node_name net) u.ports) (node_number_of known) in record { word = h.word; first = h.first; page = h.page; slots = h.slots; reach = h.reach; some = omega (arith, n, m, some); few = omega (arith, n, m, few) };
        ports = ports_good u.ports k;
      }

  node_good : (n : NodeDecl) → IsPrintableNode kinds n → IsTrue (is_formed n) → IsTrue (refers_within (length net) n) → GoodDraft kinds (node_named net n)
  node_good n h f r = by n.unit refl h.unit f q.1
    where
      p : IsTrue (list_all (λ (e : Entry). list_all (λ (d : Dest). nat_lt d.node (length net)) e.dests) n.entries) × IsTrue (over_within (length net) n.over && ports_within (length net) n.unit)
      p = and_parts (list_all (λ (e : Entry). list_all (λ (d : Dest). nat_lt d.node (length net)) e.dests) n.entries) (over_within (length net) n.over && ports_within (length net) n.unit) r

      q : IsTrue (over_within (length net) n.over) × IsTrue (ports_within (length net) n.unit)
      q = and_parts (over_within (length net) n.over) (ports_within (length net) n.unit) p.1

      by : (o : Option UnitPart) → n.unit ≡ o → HasPrintableUnit kinds o → IsTrue (formed_by n o) → IsTrue (ports_within (length net) o) → GoodDraft kinds (node_named net n)
      by None e u f k =
          let role = role_back n.role f in
          inl (record {
            role = role.0;
            roles = role.1;
            name = h.name;
            accepts = each_of_all GoodBlock n.accepts h.accepts;
            entries = entries_good n.entries (each_of_all IsPrintableEntry n.entries h.entries) p.0;
            over = over_good n.over q.0;
            no_unit = ap (option_map (unit_named net)) e;
          })
      by (Some part) e u f k =
          let a = and_parts (is_unit n.role) (is_bare n) f in
          let b = and_parts (nat_le (length n.accepts) 0) (nat_le (length n.entries) 0 && not (is_some n.over)) a.1 in
          let c = and_parts (nat_le (length n.entries) 0) (not (is_some n.over)) b.1 in
          let role = unit_role n.role a.0 in
          let accepts = nil_from_leb n.accepts b.0 in
          let entries = nil_from_leb n.entries c.0 in
          let over = nowhere n.over c.1 in
          inr (record {
            line = 0;
            name = n.text;
            unit = unit_named net part;
            is = λ i. record { line = 0; role = role i; name = n.text; accepts = accepts i; entries = map (entry_named net) (entries i); over = option_map (node_name net) (over i); unit = option_map (unit_named net) (e i) };
            full = h.name;
            parts = unit_good part u k;
          })

  nodes_good : (ns : List NodeDecl) → Each (IsPrintableNode kinds) ns → IsTrue (list_all is_formed ns) → IsTrue (list_all (refers_within (length net)) ns) → Each (GoodDraft kinds) (map (node_named net) ns)
  nodes_good [] h f r = tt
  nodes_good (n ∷ ns) h f r =
      let a = and_parts (is_formed n) (list_all is_formed ns) f in
      let b = and_parts (refers_within (length net) n) (list_all (refers_within (length net)) ns) r in
      (node_good n h.0 a.0 b.0, nodes_good ns h.1 a.1 b.1)

parts_back : (net : List NodeDecl) (n : NodeDecl) → parts_of_draft (node_named net n) ≡ parts_of_node n
parts_back net n = ap₂ (λ (e o : ℕ). length n.accepts + (e + o)) (length-map n.entries (entry_named net)) (by n.over)
  where
    by : (o : Option ℕ) → ◌≡◌ {A = ℕ} (cond (is_some (option_map (node_name net) o)) 1 0) (cond (is_some o) 1 0)
    by None = refl
    by (Some m) = refl

-- a printable net is made of nodes as a text declares them
pub drafted : (kinds : List Meaning) (net : List NodeDecl) → IsPrintable kinds net → From kinds net
drafted kinds net h = record {
  drafts = map (node_named net) net;
  good = nodes_good kinds net full net nodes h.is_net.formed h.closed;
  grown = grown_by [] (map (node_named net) net) (subst Distinct (sym (names_named net net)) (distinct_map (λ (n : NodeDecl). n.text) net differ)) count agents units parts;
  nodes_are = subst (λ (l : List (List ℕ)). each (node_of l) (map (node_named net) net) ≡ Ok net) (sym (names_named net net)) (nodes_back net differ net h.closed);
}
  where
    differ : Differ net
    differ = h.is_net.names_differ

    nodes : Each (IsPrintableNode kinds) net
    nodes = each_of_all (IsPrintableNode kinds) net h.nodes

    full : (i : ℕ) → i < length net → IsFullName (node_name net i)
    full i l = name_full kinds net i nodes l

    count : 0 + length (map (node_named net) net) ≤ 1024
    count = let n = length-map net (node_named net) in let l = h.is_net.few in omega (arith, n, l)

    agents : total one_agent 0 (map (node_named net) net) ≤ 64
    agents = subst (λ (k : ℕ). k ≤ 64) (sym (total_map one_agent (node_named net) (λ (n : NodeDecl). cond (is_agent n.role) 1 0) (λ n. refl) 0 net)) h.agents

    units : total one_unit 0 (map (node_named net) net) ≤ 64
    units = subst (λ (k : ℕ). k ≤ 64) (sym (total_map one_unit (node_named net) (λ (n : NodeDecl). cond (is_unit n.role) 1 0) (λ n. refl) 0 net)) h.units

    parts : total parts_of_draft 0 (map (node_named net) net) ≤ 16384
    parts = subst (λ (k : ℕ). k ≤ 16384) (sym (total_map parts_of_draft (node_named net) parts_of_node (parts_back net) 0 net ∙ sym (total_map (λ n. n) parts_of_node parts_of_node (λ n. refl) 0 net))) h.parts

-- the text of a printable net is read back
pub printable_back : PrintableIsReadBack
printable_back kinds net printable short =
    let from = drafted kinds net printable in
    given_back kinds from.drafts net from.good from.grown from.nodes_are short
