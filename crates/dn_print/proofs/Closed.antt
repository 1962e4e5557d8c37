-- In a net in which each node that is referred to exists, what a node at a number refers to exists.
use Rattle.std.proofs.Common.{◌≡◌, subst, ℕ, List, Bool, ◌&&◌, nat_lt, length, slice_get, Option, Some, None, option_map, IsTrue, refl}
use Rattle.std.specs.List.{list_all}
use Rattle.dn_base.proofs.Booleans.{and_parts}
use Rattle.dn_base.proofs.Lists.{list_all-at}
use Rattle.dn_net.specs.declared.node.Dest.{Dest}
use Rattle.dn_net.specs.declared.node.Entry.{Entry}
use Rattle.dn_net.specs.declared.node.NodeDecl.{NodeDecl}
use Rattle.dn_net.specs.declared.node.Unit.{Unit as UnitPart}
use Rattle.dn_net.specs.Decode.{is_closed, refers_within, over_within, ports_within}

-- the destinations of an entry exist
abbrev dests_exist : ℕ → Entry → Bool
dests_exist count e = list_all (λ (d : Dest). nat_lt d.node count) e.dests

-- what a node refers to exists
record Refers (count : ℕ) (n : NodeDecl) : Type 0 where
  entries : IsTrue (list_all (dests_exist count) n.entries)
  over : IsTrue (over_within count n.over)
  ports : IsTrue (ports_within count n.unit)

refers : (count : ℕ) (n : NodeDecl) → IsTrue (refers_within count n) → Refers count n
refers count n h =
    let first = and_parts (list_all (dests_exist count) n.entries) (over_within count n.over && ports_within count n.unit) h in
    let second = and_parts (over_within count n.over) (ports_within count n.unit) first.1 in
    record { entries = first.0; over = second.0; ports = second.1 }

refers_at : (net : List NodeDecl) (i : ℕ) (n : NodeDecl) → IsTrue (is_closed net) → slice_get net i ≡ Some n → Refers (length net) n
refers_at net i n closed at = refers (length net) n (list_all-at (refers_within (length net)) net i n closed at)

entries_of : (count : ℕ) (o : Option NodeDecl) (es : List Entry) → ((n : NodeDecl) → o ≡ Some n → Refers count n) → option_map (λ (d : NodeDecl). d.entries) o ≡ Some es → IsTrue (list_all (dests_exist count) es)
entries_of count None es all at = cc
entries_of count (Some n) es all at =
    let e : n.entries ≡ es = cc in
    subst (λ (l : List Entry). IsTrue (list_all (dests_exist count) l)) e (all n refl).entries

over_of : (count : ℕ) (o : Option NodeDecl) (over : Option ℕ) → ((n : NodeDecl) → o ≡ Some n → Refers count n) → option_map (λ (d : NodeDecl). d.over) o ≡ Some over → IsTrue (over_within count over)
over_of count None over all at = cc
over_of count (Some n) over all at =
    let e : n.over ≡ over = cc in
    subst (λ (m : Option ℕ). IsTrue (over_within count m)) e (all n refl).over

ports_of : (count : ℕ) (o : Option NodeDecl) (u : UnitPart) → ((n : NodeDecl) → o ≡ Some n → Refers count n) → option_map (λ (d : NodeDecl). d.unit) o ≡ Some (Some u) → IsTrue (list_all (λ p. nat_lt p count) u.ports)
ports_of count None u all at = cc
ports_of count (Some n) u all at =
    let e : n.unit ≡ Some u = cc in
    subst (λ (m : Option UnitPart). IsTrue (ports_within count m)) e (all n refl).ports

-- the destinations of a node's entries exist
pub entries_exist : (net : List NodeDecl) (i : ℕ) (es : List Entry) → IsTrue (is_closed net) → option_map (λ (d : NodeDecl). d.entries) (slice_get net i) ≡ Some es → IsTrue (list_all (λ (e : Entry). list_all (λ (d : Dest). nat_lt d.node (length net)) e.dests) es)
entries_exist net i es closed at = entries_of (length net) (slice_get net i) es (λ n h. refers_at net i n closed h) at

-- the node of a node's `over` exists
pub over_exists : (net : List NodeDecl) (i : ℕ) (over : Option ℕ) → IsTrue (is_closed net) → option_map (λ (d : NodeDecl). d.over) (slice_get net i) ≡ Some over → IsTrue (over_within (length net) over)
over_exists net i over closed at = over_of (length net) (slice_get net i) over (λ n h. refers_at net i n closed h) at

-- the ports of a unit exist
pub ports_exist : (net : List NodeDecl) (i : ℕ) (u : UnitPart) → IsTrue (is_closed net) → option_map (λ (d : NodeDecl). d.unit) (slice_get net i) ≡ Some (Some u) → IsTrue (list_all (λ p. nat_lt p (length net)) u.ports)
ports_exist net i u closed at = ports_of (length net) (slice_get net i) u (λ n h. refers_at net i n closed h) at
