-- The limits that a net passes, and those that its parts pass.
use Rattle.std.proofs.Common.{◌≡◌, ◌<◌, ◌≤◌, ◌+◌, ℕ, Bool, true, false, if◌then◌else◌, nat_lt, List, length, map, slice_get, Option, Some, None, option_map, ap, sym, refl, ◌∙◌, arith}
use Rattle.std.specs.List.{list_any}
use Rattle.std.proofs.lemmas.Bool.{le-ltb, lt-ltb, ltb-true, ltb-false}
use Rattle.std.proofs.lemmas.List.{length-map}
use Rattle.dn_interval.specs.declared.row.Row.{Row}
use Rattle.dn_interval.specs.Listed.{seen_view}
use Rattle.dn_net.specs.declared.node.NodeDecl.{NodeDecl}
use Rattle.dn_net.specs.Legal.{node_limit}
use Rattle.dn_net.specs.Parts.{parts_of_node}
use Rattle.dn_net.proofs.Faults.{part_is}
use Rattle.dn_shape.specs.Absorb.{entry_of_row, is_rewritten, node_led_past, node_past, rows_past}
use Rattle.dn_shape.specs.Limits.{part_limit, dest_limit, parts_of_net, has_long_entry, net_of_few_parts, node_of_few_parts, passed_limit}
use Rattle.dn_shape.proofs.Read.{Rest, rest_at}

-- the limit that is passed, by the tests of the three
abbrev limit_by : Bool → Bool → Bool → Option ℕ
limit_by nodes parts dests = if nodes then Some node_limit else (if parts then Some part_limit else (if dests then Some dest_limit else None))

-- more nodes than there may be
pub many_nodes : (net : List NodeDecl) → node_limit < length net → passed_limit net ≡ Some node_limit
many_nodes net l = ap (λ b. limit_by b (nat_lt part_limit (parts_of_net net)) (list_any has_long_entry net)) (lt-ltb node_limit (length net) l)

few_nodes : (net : List NodeDecl) → length net ≤ node_limit → passed_limit net ≡ limit_by false (nat_lt part_limit (parts_of_net net)) (list_any has_long_entry net)
few_nodes net l = ap (λ b. limit_by b (nat_lt part_limit (parts_of_net net)) (list_any has_long_entry net)) (le-ltb node_limit (length net) l)

-- few enough nodes, with more parts than there may be
pub many_parts : (net : List NodeDecl) → length net ≤ node_limit → nat_lt part_limit (parts_of_net net) ≡ true → passed_limit net ≡ Some part_limit
many_parts net l many = few_nodes net l ∙ ap (λ b. limit_by false b (list_any has_long_entry net)) many

-- few enough nodes and parts
few_parts : (net : List NodeDecl) → length net ≤ node_limit → nat_lt part_limit (parts_of_net net) ≡ false → passed_limit net ≡ limit_by false false (list_any has_long_entry net)
few_parts net l few = few_nodes net l ∙ ap (λ b. limit_by false b (list_any has_long_entry net)) few

-- a net of few parts is the net, and none is one of too many
pub parts_none : (net : List NodeDecl) → net_of_few_parts net ≡ None → nat_lt part_limit (parts_of_net net) ≡ true
parts_none net = by (nat_lt part_limit (parts_of_net net))
  where
    by : (b : Bool) → ◌≡◌ {A = Option (List NodeDecl)} (if b then None else Some net) None → b ≡ true
    by true e = refl
    by false e = cc

pub parts_some : (net made : List NodeDecl) → net_of_few_parts net ≡ Some made → (made ≡ net) × (nat_lt part_limit (parts_of_net net) ≡ false)
parts_some net made = by (nat_lt part_limit (parts_of_net net))
  where
    by : (b : Bool) → ◌≡◌ {A = Option (List NodeDecl)} (if b then None else Some net) (Some made) → (made ≡ net) × (b ≡ false)
    by true e = cc
    by false e = ((let f : made ≡ net = cc in f), refl)

-- of a net of few parts the entries tell which limit it passes
pub long_passed : (net made : List NodeDecl) → length net ≤ node_limit → net_of_few_parts net ≡ Some made → list_any has_long_entry made ≡ true → passed_limit net ≡ Some dest_limit
long_passed net made l e long =
    let s = parts_some net made e in
    few_parts net l s.1 ∙ ap (λ n. limit_by false false (list_any has_long_entry n)) (sym s.0) ∙ ap (limit_by false false) long

pub none_passed : (net made : List NodeDecl) → length net ≤ node_limit → net_of_few_parts net ≡ Some made → list_any has_long_entry made ≡ false → passed_limit net ≡ None
none_passed net made l e short =
    let s = parts_some net made e in
    few_parts net l s.1 ∙ ap (λ n. limit_by false false (list_any has_long_entry n)) (sym s.0) ∙ ap (limit_by false false) short

-- the same of a node and the room that is left
pub node_none : (room : ℕ) (n : NodeDecl) → node_of_few_parts room n ≡ None → room < parts_of_node n
node_none room n = by (nat_lt room (parts_of_node n)) refl
  where
    by : (b : Bool) → nat_lt room (parts_of_node n) ≡ b → ◌≡◌ {A = Option NodeDecl} (if b then None else Some n) None → room < parts_of_node n
    by true t e = ltb-true room (parts_of_node n) t
    by false t e = cc

pub node_some : (room : ℕ) (n d : NodeDecl) → node_of_few_parts room n ≡ Some d → (n ≡ d) × (parts_of_node n ≤ room)
node_some room n d = by (nat_lt room (parts_of_node n)) refl
  where
    by : (b : Bool) → nat_lt room (parts_of_node n) ≡ b → ◌≡◌ {A = Option NodeDecl} (if b then None else Some n) (Some d) → (n ≡ d) × (parts_of_node n ≤ room)
    by true t e = cc
    by false t e = ((let f : n ≡ d = cc in f), ltb-false room (parts_of_node n) t)

-- the node past another that was made of the one at a place
pub record MadeAt (net : List NodeDecl) (m i room : ℕ) (decl : NodeDecl) : Type 0 where
  pub old : Rest net i
  pub is : node_past net m i old.node ≡ decl
  pub few : parts_of_node (node_past net m i old.node) ≤ room

pub made_at : (net : List NodeDecl) (m i room : ℕ) (decl : NodeDecl) (found : Option NodeDecl) → i < length net → option_map (λ n. node_of_few_parts room (node_past net m i n)) (slice_get net i) ≡ Some found → found ≡ Some decl → MadeAt net m i room decl
made_at net m i room decl found l h some =
    let r = rest_at net i l in
    let d = node_some room (node_past net m i r.node) decl (part_is (λ n. node_of_few_parts room (node_past net m i n)) _ r.node found r.at h ∙ some) in
    record { old = r; is = d.0; few = d.1 }

-- a node of more parts than there is room for is none, and any other is itself
pub node_past_room : (room : ℕ) (n : NodeDecl) → room < parts_of_node n → node_of_few_parts room n ≡ None
node_past_room room n l = ap (λ b. if b then None else Some n) (lt-ltb room (parts_of_node n) l)

pub node_in_room : (room : ℕ) (n : NodeDecl) → parts_of_node n ≤ room → node_of_few_parts room n ≡ Some n
node_in_room room n l = ap (λ b. if b then None else Some n) (le-ltb room (parts_of_node n) l)

-- a net that was made whole, with few parts
pub all_made : (net made : List NodeDecl) → made ≡ net → nat_lt part_limit (parts_of_net net) ≡ false → ◌≡◌ {A = Option (List NodeDecl)} (Some made) (net_of_few_parts net)
all_made net made e few = ap Some e ∙ sym (ap (λ b. if b then None else Some net) few)

-- a net of too many parts is none
pub none_made : (net : List NodeDecl) → nat_lt part_limit (parts_of_net net) ≡ true → ◌≡◌ {A = Option (List NodeDecl)} None (net_of_few_parts net)
none_made net many = sym (ap (λ b. if b then None else Some net) many)

-- a node past another, as it is or led past it
pub past_kept : (net : List NodeDecl) (m i room : ℕ) (o : Option NodeDecl) (found : Option NodeDecl) → option_map (is_rewritten m i) o ≡ Some false → option_map (node_of_few_parts room) o ≡ Some found → option_map (λ n. node_of_few_parts room (node_past net m i n)) o ≡ Some found
past_kept net m i room None found e h = cc
past_kept net m i room (Some n) found e h =
    let f : is_rewritten m i n ≡ false = cc in
    ap (λ b. Some (node_of_few_parts room (if b then node_led_past net m i n else n))) f ∙ h

pub past_led : (net : List NodeDecl) (m i room : ℕ) (o : Option NodeDecl) (found : Option NodeDecl) → option_map (is_rewritten m i) o ≡ Some true → option_map (λ n. node_of_few_parts room (node_led_past net m i n)) o ≡ Some found → option_map (λ n. node_of_few_parts room (node_past net m i n)) o ≡ Some found
past_led net m i room None found e h = cc
past_led net m i room (Some n) found e h =
    let f : is_rewritten m i n ≡ true = cc in
    ap (λ b. Some (node_of_few_parts room (if b then node_led_past net m i n else n))) f ∙ h

-- the parts of a node that is led past another
pub led_parts : (net : List NodeDecl) (m i : ℕ) (n : NodeDecl) (rows : List Row) → map seen_view rows ≡ rows_past net m i → parts_of_node (node_led_past net m i n) ≡ length n.accepts + length rows
led_parts net m i n rows e =
    let entries = length-map (rows_past net m i) entry_of_row in
    let seen = length-map rows seen_view in
    let same : length (map seen_view rows) ≡ length (rows_past net m i) = ap length e in
    omega (arith, entries, seen, same)
