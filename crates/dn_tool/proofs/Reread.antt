-- The nets that splitting and absorbing make of a printable legal net are printable: what no rule and no limit says of a
-- node, each node of them keeps.
use Rattle.std.proofs.Common.{◌≡◌, ◌∙◌, ap, sym, refl, subst, ℕ, suc, ◌+◌, ◌-◌, ◌<◌, ◌≤◌, ◌^◌, Bool, true, false, cond, if◌then◌else◌, nat_le, nat_lt, List, [], ◌∷◌, ◌++◌, map, length, codes, slice_get, sum, Option, Some, None, Result, Ok, Err, IsTrue, arith, leb-true, ltb-false}
use Rattle.std.specs.Fmt.{decimal}
use Rattle.std.specs.List.{list_all, list_any}
use Rattle.std.proofs.lemmas.Bool.{and_parts, or_parts}
use Rattle.dn_base.proofs.Lists.{item_there, Each, each_implied}
use Rattle.dn_interval.specs.declared.row.End.{End}
use Rattle.dn_interval.specs.Rows.{HasEnds}
use Rattle.dn_interval.specs.Listed.{Seen, SeenApart}
use Rattle.dn_interval.proofs.Fronts.{listed_are_normal}
use Rattle.dn_net.specs.declared.node.Block.{Block}
use Rattle.dn_net.specs.declared.node.Dest.{Dest}
use Rattle.dn_net.specs.declared.node.Entry.{Entry}
use Rattle.dn_net.specs.declared.node.NodeDecl.{NodeDecl}
use Rattle.dn_net.specs.declared.node.Role.{Role}
use Rattle.dn_net.specs.declared.node.Role.TheVariants.{Plain}
use Rattle.dn_net.specs.Decode.{top, is_agent, is_unit}
use Rattle.dn_net.specs.Legal.{IsLegalNet, node_limit}
use Rattle.dn_net.specs.Rules.{block_in_range, dest_in_range, entry_in_range, KeepsRules, BrokenNode, node_fault}
use Rattle.dn_net.specs.WalkRules.{Broken, walk_fault}
use Rattle.dn_walk.proofs.Legal.{legal_breaks_no_rule}
use Rattle.dn_kind.specs.Kind.{Meaning}
use Rattle.dn_kind.specs.Units.{IsLegalWith, shape_fault}
use Rattle.dn_kind.proofs.Shapes.{shape_fault_is_first, shaped_plain}
use Rattle.dn_parse.specs.Tree.{Tree}
use Rattle.dn_parse.specs.Whole.{TextFault, text_reading}
use Rattle.dn_net.specs.Parts.{parts_of_node}
use Rattle.dn_scope.specs.Faults.{ExpansionFault}
use Rattle.dn_module.specs.Expand.{Expansion, expansion_of}
use Rattle.dn_print.specs.Spelled.{IsFullName}
use Rattle.dn_print.specs.Printable.{IsPrintableBlock, IsPrintableEntry, HasPrintableUnit, IsPrintableNode, IsPrintable}
use Rattle.dn_print.proofs.Drafted.{printable_back}
use Rattle.dn_print.proofs.Formed.{each_both}
use Rattle.dn_print.proofs.Judged.{tree_good}
use Rattle.dn_print.proofs.Made.{made_from}
use Rattle.dn_print.proofs.Places.{each_of_all, all_of_each, total, total_more, total_map}
use Rattle.dn_print.proofs.Printables.{from_printable}
use Rattle.dn_print.proofs.Titles.{full_one, full_both}
use Rattle.dn_print.proofs.Words.{acc_title}
use Rattle.dn_shape.specs.declared.fault.Why.{Why}
use Rattle.dn_shape.specs.Absorb.{why_not, why_not_at, dest_of_end, entry_of_row, is_rewritten, node_led_past, node_past, nodes_past, net_past, rows_past, net_unless, net_within}
use Rattle.dn_shape.specs.Limits.{part_limit, dest_limit, parts_of_net, has_long_entry, passed_limit, value_by_limit}
use Rattle.dn_shape.specs.Split.{maximal_spans, is_divided, new_nodes, entry_onto, sender_to, sending_node, sending_nodes, accepter_text, accepter, with_accepter, with_accepters, free_number, split_net}
use Rattle.dn_shape.specs.Views.{IsRuledNet}
use Rattle.dn_shape.proofs.Led.{absorb_keeps_rules}
use Rattle.dn_shape.proofs.Passing.{ends_past, ends_past_ascend}
use Rattle.dn_shape.proofs.Ruled.{split_keeps_rules}
use Rattle.dn_shape.proofs.Sending.{part_stays}
use Rattle.dn_tool.specs.Compiled.{by_node_rules, by_unit_rule, by_walk_rules, compilation, expansion_compilation, reading_compilation}
use Rattle.dn_tool.specs.Reread.{IsReadBack, SplitIsReadBack, AbsorbIsReadBack, AreReadBack, CompiledIsReadBack}

-- what a net that passes no limit is
record Within (net : List NodeDecl) : Type 0 where
  few : length net ≤ node_limit
  parts : parts_of_net net ≤ part_limit
  short : list_any has_long_entry net ≡ false

within : (net : List NodeDecl) → passed_limit net ≡ None → Within net
within net e = by (nat_lt node_limit (length net)) refl (nat_lt part_limit (parts_of_net net)) refl (list_any has_long_entry net) refl e
  where
    by : (a : Bool) → nat_lt node_limit (length net) ≡ a → (b : Bool) → nat_lt part_limit (parts_of_net net) ≡ b → (c : Bool) → list_any has_long_entry net ≡ c → cond {A = Option ℕ} a (Some node_limit) (if b then Some part_limit else (if c then Some dest_limit else None)) ≡ None → Within net
    by true p b q c r g = cc
    by false p true q c r g = cc
    by false p false q true r g = cc
    by false p false q false r g = record { few = ltb-false node_limit (length net) p; parts = ltb-false part_limit (parts_of_net net) q; short = r }

-- what a node says that no rule and no limit says: its name, that its entries have destinations, and its unit
abbrev HasDests : Entry → Type 0
HasDests e = 1 ≤ length e.dests

record Says (kinds : List Meaning) (n : NodeDecl) : Type 0 where
  name : IsFullName n.text
  some : Each HasDests n.entries
  unit : HasPrintableUnit kinds n.unit

printable_says : (kinds : List Meaning) (n : NodeDecl) → IsPrintableNode kinds n → Says kinds n
printable_says kinds n h = record { name = h.name; some = each_implied IsPrintableEntry HasDests (λ e g. g.some) n.entries (each_of_all IsPrintableEntry n.entries h.entries); unit = h.unit }

-- and what the rules and the limits say
low : (a : ℕ) → a ≤ top → a < 2 ^ 64
low a l = omega (arith, l)

block_low : (b : Block) → IsTrue (block_in_range b) → IsPrintableBlock b
block_low b h =
    let p = and_parts (nat_le b.lo b.hi) (nat_le b.hi top) h in
    let l = leb-true b.lo b.hi p.0 in
    let t = leb-true b.hi top p.1 in
    (low b.lo (omega (arith, l, t)), low b.hi t)

blocks_low : (bs : List Block) → IsTrue (list_all block_in_range bs) → Each IsPrintableBlock bs
blocks_low [] h = tt
blocks_low (b ∷ bs) h =
    let p = and_parts (block_in_range b) (list_all block_in_range bs) h in
    (block_low b p.0, blocks_low bs p.1)

dests_low : (b : Block) (ds : List Dest) → IsTrue (list_all (dest_in_range b) ds) → Each (λ (d : Dest). d.addr < 2 ^ 64) ds
dests_low b [] h = tt
dests_low b (d ∷ ds) h =
    let p = and_parts (dest_in_range b d) (list_all (dest_in_range b) ds) h in
    let l = leb-true (d.addr + (b.hi - b.lo)) top p.0 in
    (low d.addr (omega (arith, l)), dests_low b ds p.1)

entries_printable : (es : List Entry) → Each HasDests es → IsTrue (list_all entry_in_range es) → list_any (λ (e : Entry). nat_lt dest_limit (length e.dests)) es ≡ false → Each IsPrintableEntry es
entries_printable [] some h short = tt
entries_printable (e ∷ es) some h short =
    let p = and_parts (entry_in_range e) (list_all entry_in_range es) h in
    let q = and_parts (block_in_range e.block) (list_all (dest_in_range e.block) e.dests) p.0 in
    let s = or_parts (nat_lt dest_limit (length e.dests)) (list_any (λ (e : Entry). nat_lt dest_limit (length e.dests)) es) short in
    (record { block = block_low e.block q.0; addresses = all_of_each (λ (d : Dest). d.addr < 2 ^ 64) e.dests (dests_low e.block e.dests q.1); some = some.0; few = ltb-false dest_limit (length e.dests) s.0 }, entries_printable es some.1 p.1 s.1)

node_printable : (kinds : List Meaning) (n : NodeDecl) → Says kinds n → KeepsRules n → has_long_entry n ≡ false → IsPrintableNode kinds n
node_printable kinds n says keeps short =
    let p = and_parts (list_all block_in_range n.accepts) (list_all entry_in_range n.entries) keeps.in_range in
    record {
      name = says.name;
      accepts = all_of_each IsPrintableBlock n.accepts (blocks_low n.accepts p.0);
      entries = all_of_each IsPrintableEntry n.entries (entries_printable n.entries says.some p.1 short);
      unit = says.unit;
    }

nodes_printable : (kinds : List Meaning) (ns : List NodeDecl) → Each (Says kinds) ns → Each KeepsRules ns → list_any has_long_entry ns ≡ false → Each (IsPrintableNode kinds) ns
nodes_printable kinds [] says keep short = tt
nodes_printable kinds (n ∷ ns) says keep short =
    let s = or_parts (has_long_entry n) (list_any has_long_entry ns) short in
    (node_printable kinds n says.0 keep.0 s.0, nodes_printable kinds ns says.1 keep.1 s.1)

-- the parts, added from the left and from the right
parts_total : (k : ℕ) (ns : List NodeDecl) → total parts_of_node k ns ≡ k + parts_of_net ns
parts_total k [] = omega arith
parts_total k (n ∷ ns) = let m = parts_total (k + parts_of_node n) ns in omega (arith, m)

parts_sum : (ns : List NodeDecl) → sum (map parts_of_node ns) ≡ parts_of_net ns
parts_sum ns = let e = total_map (λ n. n) parts_of_node parts_of_node (λ n. refl) 0 ns in let m = parts_total 0 ns in omega (arith, e, m)

-- nodes of a role, by a number of each role
abbrev counted : (Role → ℕ) → ℕ → List NodeDecl → ℕ
counted f k ns = total (λ (n : NodeDecl). f n.role) k ns

abbrev agent_once : Role → ℕ
agent_once r = cond (is_agent r) 1 0

abbrev unit_once : Role → ℕ
unit_once r = cond (is_unit r) 1 0

net_printable : (kinds : List Meaning) (net : List NodeDecl) → IsRuledNet net → passed_limit net ≡ None → Each (Says kinds) net → counted agent_once 0 net ≤ 64 → counted unit_once 0 net ≤ 64 → IsPrintable kinds net
net_printable kinds net ruled none says agents units =
    let w = within net none in
    record {
      is_net = ruled.is_net;
      closed = ruled.nodes.closed;
      nodes = all_of_each (IsPrintableNode kinds) net (nodes_printable kinds net says (each_of_all KeepsRules net ruled.nodes.each) w.short);
      agents = agents;
      units = units;
      parts = subst (λ (k : ℕ). k ≤ 16384) (sym (parts_sum net)) w.parts;
    }

read_back : (kinds : List Meaning) (net : List NodeDecl) → IsPrintable kinds net → IsReadBack kinds net
read_back kinds net h = record { printable = h; back = λ short. printable_back kinds net h short }

net_says : (kinds : List Meaning) (net : List NodeDecl) → IsPrintable kinds net → Each (Says kinds) net
net_says kinds net h = each_implied (IsPrintableNode kinds) (Says kinds) (printable_says kinds) net (each_of_all (IsPrintableNode kinds) net h.nodes)

-- SPLITTING
-- the name of a new node: that of the divided one, a dot, and `accK`
accepter_full : (text : List ℕ) (k : ℕ) → IsFullName text → IsFullName (accepter_text text k)
accepter_full text k h = full_both text (codes "acc" ++ decimal k) h (full_one (record { title = codes "acc" ++ decimal k; index = None }) (acc_title k, tt))

accepter_says : (kinds : List Meaning) (before : List NodeDecl) (n : NodeDecl) → Says kinds n → Says kinds (accepter before n)
accepter_says kinds before n h = record { name = accepter_full n.text (free_number before n.text) h.name; some = tt; unit = tt }

spans_some : (m : ℕ) (bs : List Block) → Each HasDests (map (entry_onto m) bs)
spans_some m [] = tt
spans_some m (b ∷ bs) = (omega arith, spans_some m bs)

sending_says : (kinds : List Meaning) (m : ℕ) (n : NodeDecl) → Says kinds n → Says kinds (sending_node m n)
sending_says kinds m n h = by (is_divided n)
  where
    by : (b : Bool) → Says kinds (if b then sender_to m n else n)
    by false = h
    by true = record { name = h.name; some = each_both HasDests n.entries (map (entry_onto m) (maximal_spans n.accepts)) h.some (spans_some m (maximal_spans n.accepts)); unit = h.unit }

all_sending_say : (kinds : List Meaning) (next : ℕ) (ns : List NodeDecl) → Each (Says kinds) ns → Each (Says kinds) (sending_nodes next ns)
all_sending_say kinds next [] h = tt
all_sending_say kinds next (n ∷ ns) h = (sending_says kinds next n h.0, all_sending_say kinds (next + new_nodes n) ns h.1)

all_accepters_say : (kinds : List Meaning) (base ns : List NodeDecl) → Each (Says kinds) base → Each (Says kinds) ns → Each (Says kinds) (with_accepters base ns)
all_accepters_say kinds base [] h g = h
all_accepters_say kinds base (n ∷ ns) h g = all_accepters_say kinds (with_accepter base n) ns (by (is_divided n)) g.1
  where
    by : (b : Bool) → Each (Says kinds) (if b then base ++ accepter base n ∷ [] else base)
    by false = h
    by true = each_both (Says kinds) base (accepter base n ∷ []) h (accepter_says kinds base n g.0, tt)

sending_role : (m : ℕ) (n : NodeDecl) → (sending_node m n).role ≡ n.role
sending_role m n = part_stays (λ d. d.role) (is_divided n) (sender_to m n) n refl

sending_counted : (f : Role → ℕ) (k next : ℕ) (ns : List NodeDecl) → counted f k (sending_nodes next ns) ≡ counted f k ns
sending_counted f k next [] = refl
sending_counted f k next (n ∷ ns) =
    ap (λ (r : Role). counted f (k + f r) (sending_nodes (next + new_nodes n) ns)) (sending_role next n)
    ∙ sending_counted f (k + f n.role) (next + new_nodes n) ns

accepters_counted : (f : Role → ℕ) → f Plain ≡ 0 → (base ns : List NodeDecl) → counted f 0 (with_accepters base ns) ≡ counted f 0 base
accepters_counted f none base [] = refl
accepters_counted f none base (n ∷ ns) = accepters_counted f none (with_accepter base n) ns ∙ by (is_divided n)
  where
    by : (b : Bool) → counted f 0 (if b then base ++ accepter base n ∷ [] else base) ≡ counted f 0 base
    by false = refl
    by true = let m = total_more (λ (d : NodeDecl). f d.role) 0 base (accepter base n) in omega (arith, m, none)

split_counted : (f : Role → ℕ) → f Plain ≡ 0 → (net : List NodeDecl) → counted f 0 (split_net net) ≡ counted f 0 net
split_counted f none net = accepters_counted f none (sending_nodes (length net) net) net ∙ sending_counted f 0 (length net) net

split_printable : (kinds : List Meaning) (net : List NodeDecl) → IsLegalNet net → IsPrintable kinds net → passed_limit (split_net net) ≡ None → IsPrintable kinds (split_net net)
split_printable kinds net legal h none =
    let says = net_says kinds net h in
    net_printable kinds (split_net net)
    (split_keeps_rules net legal (within (split_net net) none).few).0
    none
    (all_accepters_say kinds (sending_nodes (length net) net) net (all_sending_say kinds (length net) net says) says)
    (subst (λ (k : ℕ). k ≤ 64) (sym (split_counted agent_once refl net)) h.agents)
    (subst (λ (k : ℕ). k ≤ 64) (sym (split_counted unit_once refl net)) h.units)

pub split_is_read_back : SplitIsReadBack
split_is_read_back kinds net made legal h e = by (passed_limit (split_net net)) refl e
  where
    by : (o : Option ℕ) → passed_limit (split_net net) ≡ o → value_by_limit (split_net net) o ≡ Ok made → IsReadBack kinds made
    by None none g = let same : split_net net ≡ made = cc in subst (IsReadBack kinds) same (read_back kinds (split_net net) (split_printable kinds net legal h none))
    by (Some limit) none g = cc

-- ABSORBING
-- each row has a name, so its entry has a destination
ends_some : (es : List End) → HasEnds es → 1 ≤ length (map dest_of_end es)
ends_some [] h = absurd h
ends_some (e ∷ es) h = omega arith

rows_some : (from : ℕ) (rows : List Seen) → SeenApart from rows → Each HasDests (map entry_of_row rows)
rows_some from [] h = tt
rows_some from (r ∷ rows) h = (ends_some r.ends h.3, rows_some (suc r.hi) rows h.6)

past_says : (kinds : List Meaning) (net : List NodeDecl) (m i : ℕ) (n : NodeDecl) → Says kinds n → Says kinds (node_past net m i n)
past_says kinds net m i n h = by (is_rewritten m i n)
  where
    by : (b : Bool) → Says kinds (if b then node_led_past net m i n else n)
    by false = h
    by true = record { name = h.name; some = rows_some 0 (rows_past net m i) (listed_are_normal (ends_past net m i) (ends_past_ascend net m i)).0; unit = h.unit }

all_past_say : (kinds : List Meaning) (net : List NodeDecl) (m i : ℕ) (ns : List NodeDecl) → Each (Says kinds) ns → Each (Says kinds) (nodes_past net m i ns)
all_past_say kinds net m i [] h = tt
all_past_say kinds net m i (n ∷ ns) h = (past_says kinds net m i n h.0, all_past_say kinds net m (suc i) ns h.1)

past_role : (net : List NodeDecl) (m i : ℕ) (n : NodeDecl) → (node_past net m i n).role ≡ n.role
past_role net m i n = part_stays (λ d. d.role) (is_rewritten m i n) (node_led_past net m i n) n refl

past_counted : (f : Role → ℕ) (k : ℕ) (net : List NodeDecl) (m i : ℕ) (ns : List NodeDecl) → counted f k (nodes_past net m i ns) ≡ counted f k ns
past_counted f k net m i [] = refl
past_counted f k net m i (n ∷ ns) =
    ap (λ (r : Role). counted f (k + f r) (nodes_past net m (suc i) ns)) (past_role net m i n)
    ∙ past_counted f (k + f n.role) net m (suc i) ns

absorb_printable : (kinds : List Meaning) (net : List NodeDecl) (m : ℕ) (n : NodeDecl) → slice_get net m ≡ Some n → IsLegalNet net → IsPrintable kinds net → why_not net m n ≡ None → passed_limit (net_past net m) ≡ None → IsPrintable kinds (net_past net m)
absorb_printable kinds net m n at legal h fit none =
    net_printable kinds (net_past net m)
    (absorb_keeps_rules net legal m n at fit).0
    none
    (all_past_say kinds net m 0 net (net_says kinds net h))
    (subst (λ (k : ℕ). k ≤ 64) (sym (past_counted agent_once 0 net m 0 net)) h.agents)
    (subst (λ (k : ℕ). k ≤ 64) (sym (past_counted unit_once 0 net m 0 net)) h.units)

absorbed : (kinds : List Meaning) (net : List NodeDecl) (m : ℕ) (made : List NodeDecl) (n : NodeDecl) → slice_get net m ≡ Some n → IsLegalNet net → IsPrintable kinds net → net_unless (net_past net m) (why_not net m n) ≡ Ok made → IsReadBack kinds made
absorbed kinds net m made n at legal h e = by (why_not net m n) refl e
  where
    limited : why_not net m n ≡ None → (o : Option ℕ) → passed_limit (net_past net m) ≡ o → net_within (net_past net m) o ≡ Ok made → IsReadBack kinds made
    limited fit None none g = let same : net_past net m ≡ made = cc in subst (IsReadBack kinds) same (read_back kinds (net_past net m) (absorb_printable kinds net m n at legal h fit none))
    limited fit (Some limit) none g = cc

    by : (w : Option Why) → why_not net m n ≡ w → net_unless (net_past net m) w ≡ Ok made → IsReadBack kinds made
    by None fit g = limited fit (passed_limit (net_past net m)) refl g
    by (Some why) fit g = cc

pub absorb_is_read_back : AbsorbIsReadBack
absorb_is_read_back kinds net m made legal l h e =
    let n = item_there net m l in
    absorbed kinds net m made n.0 n.1 legal h (subst (λ (o : Option NodeDecl). net_unless (net_past net m) (why_not_at net m o) ≡ Ok made) n.1 e)

-- COMPILED NETS
all_back : (kinds : List Meaning) (net : List NodeDecl) → IsLegalNet net → IsPrintable kinds net → AreReadBack kinds net
all_back kinds net legal h = record {
  itself = read_back kinds net h;
  split = λ made e. split_is_read_back kinds net made legal h e;
  absorbed = λ m made l e. absorb_is_read_back kinds net m made legal l h e;
}

-- a net that can be printed, and is legal with its kinds
pub record IsPrintableLegal (kinds : List Meaning) (net : List NodeDecl) : Type 0 where
  pub printable : IsPrintable kinds net
  pub legal : IsLegalWith kinds net

-- a printable net that breaks no rule is legal
judged : (kinds : List Meaning) (made o : Expansion) → IsPrintable kinds made.net → by_node_rules kinds made (node_fault made.net) ≡ Ok o → IsPrintableLegal kinds o.net
judged kinds made o h e = nodes (node_fault made.net) refl e
  where
    walks : node_fault made.net ≡ None → shape_fault kinds made.net ≡ None → (w : Option Broken) → walk_fault made.net ≡ w → by_walk_rules made w ≡ Ok o → IsPrintableLegal kinds o.net
    walks p q None r g =
        let same : made ≡ o = cc in
        let legal = (legal_breaks_no_rule made.net h.is_net h.closed).0 (p, shaped_plain kinds made.net q, r) in
        subst (λ (x : Expansion). IsPrintableLegal kinds x.net) same (record { printable = h; legal = record { legal = legal; shaped = (shape_fault_is_first kinds made.net).0.0 q } })
    walks p q (Some f) r g = cc

    units : node_fault made.net ≡ None → (u : Option ℕ) → shape_fault kinds made.net ≡ u → by_unit_rule made u ≡ Ok o → IsPrintableLegal kinds o.net
    units p None q g = walks p q (walk_fault made.net) refl g
    units p (Some f) q g = cc

    nodes : (n : Option BrokenNode) → node_fault made.net ≡ n → by_node_rules kinds made n ≡ Ok o → IsPrintableLegal kinds o.net
    nodes None p g = units p (shape_fault kinds made.net) refl g
    nodes (Some f) p g = cc

-- the net of a text that breaks no rule
pub compiled_is_legal : (kinds : List Meaning) (text : List ℕ) (o : Expansion) → compilation kinds text ≡ Ok o → IsPrintableLegal kinds o.net
unfolding compilation
compiled_is_legal kinds text o e = read (text_reading text) refl e
  where
    expanded : (tree : Tree) → text_reading text ≡ Ok tree → (x : Result Expansion ExpansionFault) → expansion_of kinds tree ≡ x → expansion_compilation kinds x ≡ Ok o → IsPrintableLegal kinds o.net
    expanded tree p (Ok made) q g = judged kinds made o (from_printable kinds made.net (made_from kinds tree made (tree_good text tree p) q)) g
    expanded tree p (Err f) q g = cc

    read : (r : Result Tree TextFault) → text_reading text ≡ r → reading_compilation kinds r ≡ Ok o → IsPrintableLegal kinds o.net
    read (Ok tree) p g = expanded tree p (expansion_of kinds tree) refl g
    read (Err f) p g = cc

pub compiled_is_read_back : CompiledIsReadBack
compiled_is_read_back kinds text o e =
    let made = compiled_is_legal kinds text o e in
    all_back kinds o.net made.legal.legal made.printable
