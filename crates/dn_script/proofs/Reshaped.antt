-- The kinds of the units of nets that are made are there where those of the net are.
use Rattle.std.proofs.Common.{◌≡◌, subst, refl, ℕ, suc, ◌+◌, Bool, true, false, if◌then◌else◌, List, [], ◌∷◌, length, slice_get, Option, Some, None, Ok, IsTrue}
use Rattle.std.specs.List.{list_all}
use Rattle.dn_base.proofs.Booleans.{and_from, and_parts}
use Rattle.dn_base.proofs.Members.{member_all}
use Rattle.dn_net.specs.declared.node.NodeDecl.{NodeDecl}
use Rattle.dn_kind.specs.Units.{has_kind}
use Rattle.dn_shape.specs.declared.fault.Why.{Why}
use Rattle.dn_shape.specs.Limits.{passed_limit, value_by_limit}
use Rattle.dn_shape.specs.Split.{is_divided, new_nodes, sender_to, sending_nodes, split_net, split_outcome}
use Rattle.dn_shape.specs.Absorb.{absorb_outcome, is_rewritten, net_past, net_unless, net_within, node_led_past, nodes_past, why_not_at}
use Rattle.dn_shape.proofs.Sending.{all_of_each, each_new}

-- the kind of each unit is one of so many
abbrev known : ℕ → List NodeDecl → Bool
known count net = list_all (λ n. has_kind count n.unit) net

-- nodes that send to new ones
sent_known : (count next : ℕ) (net : List NodeDecl) → IsTrue (known count net) → IsTrue (known count (sending_nodes next net))
sent_known count next [] all = refl
sent_known count next (n ∷ ns) all =
    let r = and_parts (has_kind count n.unit) (known count ns) all in
    and_from _ _ (one (is_divided n) r.0) (sent_known count (next + new_nodes n) ns r.1)
  where
    one : (b : Bool) → IsTrue (has_kind count n.unit) → IsTrue (has_kind count (if b then sender_to next n else n).unit)
    one true h = h
    one false h = h

-- all nodes of a split net
split_net_known : (count : ℕ) (net : List NodeDecl) → IsTrue (known count net) → IsTrue (known count (split_net net))
split_net_known count net all =
    all_of_each (λ n. has_kind count n.unit) (split_net net) (each_new (λ d. IsTrue (has_kind count d.unit)) (sending_nodes (length net) net) net (λ n m. member_all (λ n. has_kind count n.unit) (sending_nodes (length net) net) n (sent_known count (length net) net all) m) (λ before n m. refl))

-- the kinds of the net that splitting comes to
pub split_known : (count : ℕ) (net made : List NodeDecl) → IsTrue (known count net) → split_outcome net ≡ Ok made → IsTrue (known count made)
split_known count net made all e = by (passed_limit (split_net net)) e
  where
    by : (o : Option ℕ) → value_by_limit (split_net net) o ≡ Ok made → IsTrue (known count made)
    by None f = let same : split_net net ≡ made = cc in subst (λ l. IsTrue (known count l)) same (split_net_known count net all)
    by (Some limit) f = cc

-- nodes past another
past_known : (count : ℕ) (net : List NodeDecl) (m i : ℕ) (ns : List NodeDecl) → IsTrue (known count ns) → IsTrue (known count (nodes_past net m i ns))
past_known count net m i [] all = refl
past_known count net m i (n ∷ ns) all =
    let r = and_parts (has_kind count n.unit) (known count ns) all in
    and_from _ _ (one (is_rewritten m i n) r.0) (past_known count net m (suc i) ns r.1)
  where
    one : (b : Bool) → IsTrue (has_kind count n.unit) → IsTrue (has_kind count (if b then node_led_past net m i n else n).unit)
    one true h = h
    one false h = h

-- the kinds of the net that absorbing comes to
pub absorbed_known : (count : ℕ) (net : List NodeDecl) (m : ℕ) (made : List NodeDecl) → IsTrue (known count net) → absorb_outcome net m ≡ Ok made → IsTrue (known count made)
absorbed_known count net m made all e = by (why_not_at net m (slice_get net m)) e
  where
    within : (o : Option ℕ) → net_within (net_past net m) o ≡ Ok made → IsTrue (known count made)
    within None f = let same : net_past net m ≡ made = cc in subst (λ l. IsTrue (known count l)) same (past_known count net m 0 net all)
    within (Some limit) f = cc

    by : (o : Option Why) → net_unless (net_past net m) o ≡ Ok made → IsTrue (known count made)
    by None f = within (passed_limit (net_past net m)) f
    by (Some why) f = cc
