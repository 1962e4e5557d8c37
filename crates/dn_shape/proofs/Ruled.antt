-- The nodes of a split net keep the node rules.
use Rattle.std.proofs.Common.{◌≡◌, ℕ, suc, ◌+◌, ◌-◌, ◌<◌, ◌≤◌, inl, inr, Bool, true, false, not, if◌then◌else◌, ◌&&◌, ◌||◌, nat_le, nat_lt, List, [], ◌∷◌, ◌++◌, map, length, slice_get, Some, is_some, refl, sym, ap, ◌∙◌, subst, arith, IsTrue, leb-true, le-leb, ltb-true}
use Rattle.std.specs.List.{list_all, list_any}
use Rattle.std.proofs.lemmas.Bool.{false≢true}
use Rattle.dn_base.specs.Members.{Member}
use Rattle.dn_base.proofs.Booleans.{and_parts, and-false, and_from}
use Rattle.dn_base.proofs.Members.{member_all, member_of_all}
use Rattle.dn_net.specs.declared.node.Block.{Block}
use Rattle.dn_net.specs.declared.node.Entry.{Entry}
use Rattle.dn_net.specs.declared.node.NodeDecl.{NodeDecl}
use Rattle.dn_net.specs.Decode.{top, within, in_some_block, is_formed}
use Rattle.dn_net.specs.Legal.{IsNet, node_limit}
use Rattle.dn_net.specs.Rules.{block_in_range, entry_in_range, dests_repeat, unit_repeats, is_vectors, accepted_count, KeepsRules, KeepsNodeRules}
use Rattle.dn_net.specs.Walks.{in_some_entry}
use Rattle.dn_net.proofs.Apart.{IsApart, node_apart}
use Rattle.dn_net.proofs.Gaps.{Stand}
use Rattle.dn_net.proofs.Kept.{few_maps}
use Rattle.dn_net.proofs.Least.{maps_at, maps_at-cons, within_to}
use Rattle.dn_net.proofs.Places.{names_still_differ}
use Rattle.dn_shape.specs.Split.{maximal_spans, is_divided, divided_count, entry_onto, sender_to, sending_node, sending_nodes, accepter, with_accepter, with_accepters, split_net}
use Rattle.dn_shape.specs.Views.{SplitKeepsRules}
use Rattle.dn_shape.proofs.Closed.{split_closed}
use Rattle.dn_shape.proofs.Divided.{sending_length, one_more, split_length}
use Rattle.dn_shape.proofs.Free.{free_number_is_first}
use Rattle.dn_shape.proofs.Maximal.{maximal_stand, maximal_in_range, spans_have}
use Rattle.dn_shape.proofs.Named.{NamesDiffer, differ_as}
use Rattle.dn_shape.proofs.Renamed.{none_maps}
use Rattle.dn_shape.proofs.Sending.{sending_texts, sending_formed, accepter_formed, each_new, sent_from, all_of_each, none_of_each, all_each}

-- where a member of a list stands
place : (net : List NodeDecl) (n : NodeDecl) → Member n net → (i : ℕ) × (slice_get net i ≡ Some n)
place [] n m = absurd m
place (d ∷ net) n (inl e) = (0, ap Some e)
place (d ∷ net) n (inr m) = let r = place net n m in (suc r.0, r.1)

maps_append : (es fs : List Entry) (a : ℕ) → maps_at (es ++ fs) a ≡ maps_at es a + maps_at fs a
maps_append [] fs a = omega arith
maps_append (e ∷ es) fs a =
    let c = maps_at-cons e (es ++ fs) a in
    let d = maps_at-cons e es a in
    let h = maps_append es fs a in
    sum (if within a e.block then 1 else 0) (maps_at (e ∷ (es ++ fs)) a) (maps_at (es ++ fs) a) (maps_at (e ∷ es) a) (maps_at es a) (maps_at fs a) c d h
  where
    sum : (k x y z u v : ℕ) → x ≡ k + y → z ≡ k + u → y ≡ u + v → x ≡ z + v
    sum k x y z u v e f g = omega arith

-- no entry of these has the address
no_maps : (es : List Entry) (a : ℕ) → in_some_entry a es ≡ false → maps_at es a ≡ 0
no_maps [] a h = refl
no_maps (e ∷ es) a h = by (no_maps es a) (within a e.block) refl h
  where
    by : (in_some_entry a es ≡ false → maps_at es a ≡ 0) → (b : Bool) → within a e.block ≡ b → (b || in_some_entry a es) ≡ false → maps_at (e ∷ es) a ≡ 0
    by ih true w h = cc
    by ih false w h =
        let c : maps_at (e ∷ es) a ≡ 0 + maps_at es a = maps_at-cons e es a ∙ ap (λ b. (if b then 1 else 0) + maps_at es a) w in
        let d = ih h in
        omega arith

no_spans : (m : ℕ) (bs : List Block) (a : ℕ) → in_some_block a bs ≡ false → maps_at (map (entry_onto m) bs) a ≡ 0
no_spans m [] a h = refl
no_spans m (b ∷ bs) a h = by (no_spans m bs a) (within a b) refl h
  where
    by : (in_some_block a bs ≡ false → maps_at (map (entry_onto m) bs) a ≡ 0) → (p : Bool) → within a b ≡ p → (p || in_some_block a bs) ≡ false → maps_at (entry_onto m b ∷ map (entry_onto m) bs) a ≡ 0
    by ih true w h = cc
    by ih false w h =
        let c : maps_at (entry_onto m b ∷ map (entry_onto m) bs) a ≡ 0 + maps_at (map (entry_onto m) bs) a = maps_at-cons (entry_onto m b) (map (entry_onto m) bs) a ∙ ap (λ p. (if p then 1 else 0) + maps_at (map (entry_onto m) bs) a) w in
        let d = ih h in
        omega arith

-- blocks that stand apart have an address once
below_none : (from : ℕ) (bs : List Block) (a : ℕ) → Stand from bs → a < from → in_some_block a bs ≡ false
below_none from [] a h l = refl
below_none from (b ∷ bs) a h l = by (below_none (b.hi + 2) bs a h.3) (within a b) refl
  where
    by : (a < b.hi + 2 → in_some_block a bs ≡ false) → (p : Bool) → within a b ≡ p → (p || in_some_block a bs) ≡ false
    by ih true w =
        let k : b.lo ≤ a = (within_to a b w).0 in
        let f : from ≤ b.lo = h.0 in
        absurd (omega arith)
    by ih false w =
        let f : from ≤ b.lo = h.0 in
        let o : b.lo ≤ b.hi = h.1 in
        ih (omega arith)

few_spans : (m from : ℕ) (bs : List Block) (a : ℕ) → Stand from bs → maps_at (map (entry_onto m) bs) a ≤ 1
few_spans m from [] a h = omega arith
few_spans m from (b ∷ bs) a h = by (few_spans m (b.hi + 2) bs a h.3) (within a b) refl
  where
    by : maps_at (map (entry_onto m) bs) a ≤ 1 → (p : Bool) → within a b ≡ p → maps_at (entry_onto m b ∷ map (entry_onto m) bs) a ≤ 1
    by ih true w =
        let c : maps_at (entry_onto m b ∷ map (entry_onto m) bs) a ≡ 1 + maps_at (map (entry_onto m) bs) a = maps_at-cons (entry_onto m b) (map (entry_onto m) bs) a ∙ ap (λ p. (if p then 1 else 0) + maps_at (map (entry_onto m) bs) a) w in
        let k : a ≤ b.hi = (within_to a b w).1 in
        let d = no_spans m bs a (below_none (b.hi + 2) bs a h.3 (omega arith)) in
        omega arith
    by ih false w =
        let c : maps_at (entry_onto m b ∷ map (entry_onto m) bs) a ≡ 0 + maps_at (map (entry_onto m) bs) a = maps_at-cons (entry_onto m b) (map (entry_onto m) bs) a ∙ ap (λ p. (if p then 1 else 0) + maps_at (map (entry_onto m) bs) a) w in
        let d = ih in
        omega arith

spans_in_range : (m : ℕ) (es : List Entry) (bs : List Block) → IsTrue (list_all entry_in_range es) → IsTrue (list_all block_in_range bs) → IsTrue (list_all entry_in_range (es ++ map (entry_onto m) bs))
spans_in_range m [] [] all range = refl
spans_in_range m [] (b ∷ bs) all range =
    let r = and_parts (block_in_range b) (list_all block_in_range bs) range in
    let q = and_parts (nat_le b.lo b.hi) (nat_le b.hi top) r.0 in
    let lo = leb-true b.lo b.hi q.0 in
    let hi = leb-true b.hi top q.1 in
    let reach : IsTrue (nat_le (b.lo + (b.hi - b.lo)) top) = le-leb (b.lo + (b.hi - b.lo)) top (omega arith) in
    and_from (block_in_range b && (nat_le (b.lo + (b.hi - b.lo)) top && true)) (list_all entry_in_range (map (entry_onto m) bs)) (and_from (block_in_range b) (nat_le (b.lo + (b.hi - b.lo)) top && true) r.0 (and_from (nat_le (b.lo + (b.hi - b.lo)) top) true reach refl)) (spans_in_range m [] bs refl r.1)
spans_in_range m (e ∷ es) bs all range =
    let r = and_parts (entry_in_range e) (list_all entry_in_range es) all in
    and_from (entry_in_range e) (list_all entry_in_range (es ++ map (entry_onto m) bs)) r.0 (spans_in_range m es bs r.1 range)

once_more : (m : ℕ) (es : List Entry) (bs : List Block) → list_any (λ (e : Entry). dests_repeat e.dests) (es ++ map (entry_onto m) bs) ≡ list_any (λ (e : Entry). dests_repeat e.dests) es
once_more m [] [] = refl
once_more m [] (b ∷ bs) = once_more m [] bs
once_more m (e ∷ es) bs = ap (λ p. dests_repeat e.dests || p) (once_more m es bs)

-- at most one map block has an address, and nothing is accepted
not_overlapping : (x : ℕ) → x ≤ 1 → (nat_lt 1 x || (nat_lt 0 x && false)) ≡ false
not_overlapping x l = by (nat_lt 1 x) refl
  where
    by : (b : Bool) → nat_lt 1 x ≡ b → (b || (nat_lt 0 x && false)) ≡ false
    by true e = let k = ltb-true 1 x e in absurd (omega arith)
    by false e = and-false (nat_lt 0 x)

-- a node that has a map or an `over` is no vectors node
pub sends_no_vectors : (n : NodeDecl) → KeepsRules n → (nat_le (length n.entries) 0 ≡ true → not (is_some n.over) ≡ true → ⊥) → is_vectors n.role ≡ false
sends_no_vectors n kept sends = by (is_vectors n.role) refl
  where
    by : (b : Bool) → is_vectors n.role ≡ b → b ≡ false
    by false e = refl
    by true e =
        let s : IsTrue ((nat_le (length n.entries) 0 && not (is_some n.over)) && nat_le (accepted_count n) 4096) = ap (λ b. not b || ((nat_le (length n.entries) 0 && not (is_some n.over)) && nat_le (accepted_count n) 4096)) (sym e) ∙ kept.space in
        let p = and_parts (nat_le (length n.entries) 0) (not (is_some n.over)) (and_parts (nat_le (length n.entries) 0 && not (is_some n.over)) (nat_le (accepted_count n) 4096) s).0 in
        absurd (sends p.0 p.1)

-- a vectors node is not divided
divided_no_vectors : (n : NodeDecl) → KeepsRules n → is_divided n ≡ true → is_vectors n.role ≡ false
divided_no_vectors n kept d =
    let q = (and_parts (nat_lt 0 (length n.accepts)) (nat_lt 0 (length n.entries) || is_some n.over) d).1 in
    sends_no_vectors n kept (λ l m. none (nat_lt 0 (length n.entries)) refl (is_some n.over) (leb-true (length n.entries) 0 l) m q)
  where
    none : (u : Bool) → nat_lt 0 (length n.entries) ≡ u → (v : Bool) → length n.entries ≤ 0 → not v ≡ true → (u || v) ≡ true → ⊥
    none true e v l m h = let k = ltb-true 0 (length n.entries) e in omega arith
    none false e true l m h = false≢true m
    none false e false l m h = false≢true h

pub sent_keeps : (m : ℕ) (n : NodeDecl) → IsApart n → KeepsRules n → KeepsRules (sending_node m n)
sent_keeps m n apart kept = by (is_divided n) refl
  where
    parts : IsTrue (list_all block_in_range n.accepts) × IsTrue (list_all entry_in_range n.entries)
    parts = and_parts (list_all block_in_range n.accepts) (list_all entry_in_range n.entries) kept.in_range

    few : (a : ℕ) (b : Bool) → in_some_block a n.accepts ≡ b → maps_at (n.entries ++ map (entry_onto m) (maximal_spans n.accepts)) a ≤ 1
    few a true e =
        let s = maps_append n.entries (map (entry_onto m) (maximal_spans n.accepts)) a in
        let x = no_maps n.entries a (none_maps n apart a e) in
        let y = few_spans m 0 (maximal_spans n.accepts) a (maximal_stand n.accepts parts.0) in
        omega (arith, s, x, y)
    few a false e =
        let s = maps_append n.entries (map (entry_onto m) (maximal_spans n.accepts)) a in
        let x : in_some_block a (maximal_spans n.accepts) ≡ false = spans_have a n.accepts ∙ ap (λ p. nat_le a top && p) e ∙ and-false (nat_le a top) in
        let y = no_spans m (maximal_spans n.accepts) a x in
        let z : maps_at n.entries a ≤ 1 = few_maps n kept a in
        omega (arith, s, y, z)

    by : (b : Bool) → is_divided n ≡ b → KeepsRules (if b then sender_to m n else n)
    by false d = kept
    by true d = record {
      in_range = spans_in_range m n.entries (maximal_spans n.accepts) parts.1 (maximal_in_range n.accepts parts.0);
      apart = λ a. not_overlapping (maps_at (n.entries ++ map (entry_onto m) (maximal_spans n.accepts)) a) (few a (in_some_block a n.accepts) refl);
      once = ap (λ p. p || unit_repeats n.unit) (once_more m n.entries (maximal_spans n.accepts)) ∙ kept.once;
      space = ap (λ b. not b || ((nat_le (length (n.entries ++ map (entry_onto m) (maximal_spans n.accepts))) 0 && not (is_some n.over)) && nat_le (accepted_count (sender_to m n)) 4096)) (divided_no_vectors n kept d);
    }

pub accepter_keeps : (before : List NodeDecl) (n : NodeDecl) → KeepsRules n → KeepsRules (accepter before n)
accepter_keeps before n kept =
    let parts = and_parts (list_all block_in_range n.accepts) (list_all entry_in_range n.entries) kept.in_range in
    record {
      in_range = and_from (list_all block_in_range (maximal_spans n.accepts)) true (maximal_in_range n.accepts parts.0) refl;
      apart = λ a. refl;
      once = refl;
      space = refl;
    }

-- no node of the split net is divided
sent_whole : (m : ℕ) (n : NodeDecl) → is_divided (sending_node m n) ≡ false
sent_whole m n = by (is_divided n) refl
  where
    by : (b : Bool) → is_divided n ≡ b → is_divided (if b then sender_to m n else n) ≡ false
    by true d = refl
    by false d = d

accepter_whole : (before : List NodeDecl) (n : NodeDecl) → is_divided (accepter before n) ≡ false
accepter_whole before n = and-false (nat_lt 0 (length (maximal_spans n.accepts)))

-- the names of the nodes differ as new ones are put behind them
pub names_differ : (base ns : List NodeDecl) → NamesDiffer base → length base + divided_count ns ≤ node_limit → NamesDiffer (with_accepters base ns)
names_differ base [] differ few = differ
names_differ base (n ∷ ns) differ few = names_differ (with_accepter base n) ns (one (is_divided n) refl) (let s = one_more base n in omega (arith, s, few))
  where
    one : (b : Bool) → is_divided n ≡ b → NamesDiffer (if b then base ++ accepter base n ∷ [] else base)
    one false d = differ
    one true d = names_still_differ base (accepter base n) differ (free_number_is_first base n.text (omega arith)).0

pub split_keeps_rules : SplitKeepsRules
split_keeps_rules net legal few = (record { is_net = is_net; nodes = nodes }, none_of_each is_divided (split_net net) (each_new (λ d. is_divided d ≡ false) (sending_nodes (length net) net) net (λ d m. let r = sent_from (length net) net d m in subst (λ e. is_divided e ≡ false) r.is (sent_whole r.number r.node)) (λ before n m. accepter_whole before n)))
  where
    apart_of : (n : NodeDecl) → Member n net → IsApart n
    apart_of n m = let p = place net n m in node_apart net legal.nodes.each p.0 n p.1

    old_formed : (d : NodeDecl) → Member d (sending_nodes (length net) net) → IsTrue (is_formed d)
    old_formed d m =
        let r = sent_from (length net) net d m in
        subst (λ e. IsTrue (is_formed e)) r.is (sending_formed r.number r.node (member_all is_formed net r.node legal.is_net.formed r.member))

    old_kept : (d : NodeDecl) → Member d (sending_nodes (length net) net) → KeepsRules d
    old_kept d m =
        let r = sent_from (length net) net d m in
        subst KeepsRules r.is (sent_keeps r.number r.node (apart_of r.node r.member) (member_of_all KeepsRules net r.node legal.nodes.each r.member))

    room : length (sending_nodes (length net) net) + divided_count net ≤ node_limit
    room =
        let a = sending_length (length net) net in
        let b = split_length net in
        omega (arith, a, b, few)

    is_net : IsNet (split_net net)
    is_net = record {
      few = few;
      formed = all_of_each is_formed (split_net net) (each_new (λ d. IsTrue (is_formed d)) (sending_nodes (length net) net) net old_formed (λ before n m. accepter_formed before n));
      names_differ = names_differ (sending_nodes (length net) net) net (differ_as (sending_nodes (length net) net) net (sending_texts (length net) net) legal.is_net.names_differ) room;
    }

    nodes : KeepsNodeRules (split_net net)
    nodes = record {
      closed = split_closed net legal.nodes.closed;
      each = all_each KeepsRules (split_net net) (each_new KeepsRules (sending_nodes (length net) net) net old_kept (λ before n m. accepter_keeps before n (member_of_all KeepsRules net n legal.nodes.each m)));
    }
