-- How many parts a split net has.
use Rattle.std.proofs.Common.{◌≡◌, ◌∙◌, ℕ, ◌+◌, Bool, true, false, if◌then◌else◌, List, [], ◌∷◌, ◌++◌, map, length, refl, sym, ap, arith}
use Rattle.std.proofs.lemmas.List.{length-append, length-map}
use Rattle.dn_net.specs.declared.node.NodeDecl.{NodeDecl}
use Rattle.dn_net.specs.Parts.{parts_of_node}
use Rattle.dn_shape.specs.Limits.{parts_of_net}
use Rattle.dn_shape.specs.Split.{accepter, entry_onto, is_divided, maximal_spans, new_nodes, parts_of_split, parts_when_split, sender_to, sending_node, sending_nodes, split_net, ways_of, with_accepter, with_accepters}

parts_append : (xs ys : List NodeDecl) → parts_of_net (xs ++ ys) ≡ parts_of_net xs + parts_of_net ys
parts_append [] ys = omega arith
parts_append (n ∷ xs) ys = let e = parts_append xs ys in omega (arith, e)

-- how many spans the new node for a node has
abbrev spans_for : NodeDecl → ℕ
spans_for n = if is_divided n then length (maximal_spans n.accepts) else 0

-- the parts of an old node of the split net
abbrev old_parts : NodeDecl → ℕ
old_parts n = if is_divided n then length (maximal_spans n.accepts) + ways_of n else parts_of_node n

both_parts : (n : NodeDecl) → parts_when_split n ≡ old_parts n + spans_for n
both_parts n = by (is_divided n)
  where
    by : (b : Bool) → (if b then length (maximal_spans n.accepts) + (length (maximal_spans n.accepts) + ways_of n) else parts_of_node n) ≡ (if b then length (maximal_spans n.accepts) + ways_of n else parts_of_node n) + (if b then length (maximal_spans n.accepts) else 0)
    by true = omega arith
    by false = omega arith

sent_parts : (m : ℕ) (n : NodeDecl) → parts_of_node (sending_node m n) ≡ old_parts n
sent_parts m n = by (is_divided n)
  where
    by : (b : Bool) → parts_of_node (if b then sender_to m n else n) ≡ (if b then length (maximal_spans n.accepts) + ways_of n else parts_of_node n)
    by true =
        let long = length-append n.entries (map (entry_onto m) (maximal_spans n.accepts)) in
        let each = length-map (maximal_spans n.accepts) (entry_onto m) in
        omega (arith, long, each)
    by false = refl

added_parts : (base : List NodeDecl) (n : NodeDecl) → parts_of_net (with_accepter base n) ≡ parts_of_net base + spans_for n
added_parts base n = by (is_divided n)
  where
    by : (b : Bool) → parts_of_net (if b then base ++ accepter base n ∷ [] else base) ≡ parts_of_net base + (if b then length (maximal_spans n.accepts) else 0)
    by true = let e = parts_append base (accepter base n ∷ []) in omega (arith, e)
    by false = omega arith

-- those of the nodes so far, of the rest of the old ones, and of all new ones
total : (next : ℕ) (base ns : List NodeDecl) → parts_of_net (sending_nodes next ns) + parts_of_net (with_accepters base ns) ≡ parts_of_net base + parts_of_split ns
total next base [] = omega arith
total next base (n ∷ ns) =
    let rest = total (next + new_nodes n) (with_accepter base n) ns in
    let sent = sent_parts next n in
    let added = added_parts base n in
    let both = both_parts n in
    omega (arith, rest, sent, added, both)

-- the parts of the split net
pub split_parts : (net : List NodeDecl) → parts_of_net (split_net net) ≡ parts_of_split net
split_parts net = let e = total (length net) (sending_nodes (length net) net) net in omega (arith, e)
