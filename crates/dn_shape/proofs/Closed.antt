-- The references of the nodes of a split net exist.
use Rattle.std.proofs.Common.{◌≡◌, ℕ, ◌+◌, ◌<◌, ◌≤◌, Bool, true, false, if◌then◌else◌, ◌&&◌, nat_lt, List, [], ◌∷◌, ◌++◌, map, length, Option, Some, None, refl, subst, arith, IsTrue, ltb-true}
use Rattle.std.specs.List.{list_all}
use Rattle.std.proofs.lemmas.Bool.{lt-ltb}
use Rattle.dn_base.specs.Members.{Member}
use Rattle.dn_base.proofs.Booleans.{and_parts, and_from}
use Rattle.dn_base.proofs.Members.{member_all}
use Rattle.dn_base.proofs.Lists.{list_all-implied}
use Rattle.dn_net.specs.declared.node.Block.{Block}
use Rattle.dn_net.specs.declared.node.Dest.{Dest}
use Rattle.dn_net.specs.declared.node.Entry.{Entry}
use Rattle.dn_net.specs.declared.node.NodeDecl.{NodeDecl}
use Rattle.dn_net.specs.declared.node.Unit.{Unit as UnitPart}
use Rattle.dn_net.specs.Decode.{over_within, ports_within, refers_within, is_closed}
use Rattle.dn_shape.specs.Split.{maximal_spans, is_divided, divided_count, entry_onto, sender_to, sending_node, sending_nodes, split_net}
use Rattle.dn_shape.proofs.Divided.{split_length}
use Rattle.dn_shape.proofs.Sending.{each_new, sent_from, all_of_each}

-- a reference to one of so many nodes is one to one of more
abbrev entries_within : ℕ → List Entry → Bool
entries_within count es = list_all (λ e. list_all (λ d. nat_lt d.node count) e.dests) es

less : (i m n : ℕ) → m ≤ n → IsTrue (nat_lt i m) → IsTrue (nat_lt i n)
less i m n l h = let k = ltb-true i m h in lt-ltb i n (omega arith)

entries_more : (m n : ℕ) → m ≤ n → (es : List Entry) → IsTrue (entries_within m es) → IsTrue (entries_within n es)
entries_more m n l es all = list_all-implied (λ e. list_all (λ d. nat_lt d.node m) e.dests) (λ e. list_all (λ d. nat_lt d.node n) e.dests) (λ e h. list_all-implied (λ d. nat_lt d.node m) (λ d. nat_lt d.node n) (λ d k. less d.node m n l k) e.dests h) es all

over_more : (m n : ℕ) → m ≤ n → (o : Option ℕ) → IsTrue (over_within m o) → IsTrue (over_within n o)
over_more m n l None h = refl
over_more m n l (Some i) h = less i m n l h

ports_more : (m n : ℕ) → m ≤ n → (u : Option UnitPart) → IsTrue (ports_within m u) → IsTrue (ports_within n u)
ports_more m n l None h = refl
ports_more m n l (Some u) h = list_all-implied (λ p. nat_lt p m) (λ p. nat_lt p n) (λ p k. less p m n l k) u.ports h

-- the entries of spans refer to the new node alone
spans_within : (count m : ℕ) → m < count → (es : List Entry) (bs : List Block) → IsTrue (entries_within count es) → IsTrue (entries_within count (es ++ map (entry_onto m) bs))
spans_within count m l [] [] all = refl
spans_within count m l [] (b ∷ bs) all = and_from (nat_lt m count && true) (entries_within count (map (entry_onto m) bs)) (and_from (nat_lt m count) true (lt-ltb m count l) refl) (spans_within count m l [] bs refl)
spans_within count m l (e ∷ es) bs all =
    let r = and_parts (list_all (λ (d : Dest). nat_lt d.node count) e.dests) (entries_within count es) all in
    and_from (list_all (λ (d : Dest). nat_lt d.node count) e.dests) (entries_within count (es ++ map (entry_onto m) bs)) r.0 (spans_within count m l es bs r.1)

-- an old node of the split net
pub sent_refers : (old count m : ℕ) → old ≤ count → (n : NodeDecl) → IsTrue (refers_within old n) → (is_divided n ≡ true → m < count) → IsTrue (refers_within count (sending_node m n))
sent_refers old count m l n h new = by (is_divided n) refl
  where
    parts : IsTrue (entries_within old n.entries) × IsTrue (over_within old n.over && ports_within old n.unit)
    parts = and_parts (entries_within old n.entries) (over_within old n.over && ports_within old n.unit) h

    rest : IsTrue (over_within count n.over && ports_within count n.unit)
    rest =
        let r = and_parts (over_within old n.over) (ports_within old n.unit) parts.1 in
        and_from (over_within count n.over) (ports_within count n.unit) (over_more old count l n.over r.0) (ports_more old count l n.unit r.1)

    by : (b : Bool) → is_divided n ≡ b → IsTrue (refers_within count (if b then sender_to m n else n))
    by false d = and_from (entries_within count n.entries) (over_within count n.over && ports_within count n.unit) (entries_more old count l n.entries parts.0) rest
    by true d = and_from (entries_within count (n.entries ++ map (entry_onto m) (maximal_spans n.accepts))) (over_within count n.over && ports_within count n.unit) (spans_within count m (new d) n.entries (maximal_spans n.accepts) (entries_more old count l n.entries parts.0)) rest

pub split_closed : (net : List NodeDecl) → IsTrue (is_closed net) → IsTrue (is_closed (split_net net))
split_closed net closed = all_of_each (refers_within (length (split_net net))) (split_net net) (each_new (λ d. IsTrue (refers_within (length (split_net net)) d)) (sending_nodes (length net) net) net old (λ before n m. refl))
  where
    size : length (split_net net) ≡ length net + divided_count net
    size = split_length net

    old : (d : NodeDecl) → Member d (sending_nodes (length net) net) → IsTrue (refers_within (length (split_net net)) d)
    old d m =
        let r = sent_from (length net) net d m in
        let h = member_all (refers_within (length net)) net r.node closed r.member in
        let s = size in
        subst (λ e. IsTrue (refers_within (length (split_net net)) e)) r.is (sent_refers (length net) (length (split_net net)) r.number (omega (arith, s)) r.node h (λ d. let k = r.new d in omega (arith, s, k)))
