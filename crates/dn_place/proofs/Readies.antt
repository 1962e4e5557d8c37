-- What the search asks holds of a request on a legal net.
use Rattle.std.proofs.Common.{◌≡◌, ℕ, zero, suc, ◌+◌, ◌/◌, ◌^◌, ◌<◌, ◌≤◌, inl, inr, true, ◌&&◌, nat_lt, List, [], ◌∷◌, map, length, slice_get, Option, Some, None, IsTrue, refl, sym, ap, ◌∙◌, subst, arith, ltb-true, lt-ltb}
use Rattle.std.specs.List.{list_all}
use Rattle.std.proofs.lemmas.Bool.{and_parts}
use Rattle.dn_base.proofs.Lists.{list_all-at}
use Rattle.dn_net.specs.declared.node.NodeDecl.{NodeDecl}
use Rattle.dn_net.specs.declared.node.Unit.{Unit as UnitPart}
use Rattle.dn_net.specs.Decode.{top, is_agent_at, over_within, ports_within, refers_within, unit_at, unit_of, Resolves}
use Rattle.dn_net.specs.Legal.{IsLegalNet}
use Rattle.dn_net.proofs.Plain.{plain_at}
use Rattle.dn_net.proofs.Stops.{agent_there}
use Rattle.dn_kind.specs.declared.rights.Access.{Access}
use Rattle.dn_kind.specs.Kind.{Meaning}
use Rattle.dn_kind.specs.Rights.{allows, are_rights}
use Rattle.dn_kind.specs.Tables.{AreHeld}
use Rattle.dn_tables.specs.declared.table.NodeTable.{NodeTable}
use Rattle.dn_tables.specs.Set.{FitsNet, has_slot, has_slot_by, unit_in, units_of}
use Rattle.dn_placement.specs.declared.request.Request.{Request}
use Rattle.dn_placement.specs.Slots.{Slots}
use Rattle.dn_book.proofs.Hops.{has_bounds}
use Rattle.dn_view.proofs.AddedRights.{some_allowed}
use Rattle.dn_view.proofs.Alone.{reached_alone}
use Rattle.dn_view.proofs.Ways.{one_stop}
use Rattle.dn_place.specs.Blocks.{HasBlocks}
use Rattle.dn_place.proofs.WholeBlocks.{KeepsWhole, behind_at, not_beside, not_kept, not_seen, whole_blocks}
use Rattle.dn_place.specs.Sought.{HaveUnitBounds, IsSearchReady, slot_count}

-- the ports of a unit are nodes that are there
ports_there : (net : List NodeDecl) (node : ℕ) (u : UnitPart) → IsTrue (list_all (refers_within (length net)) net) → unit_at net node ≡ Some u → (port p : ℕ) → slice_get u.ports port ≡ Some p → p < length net
ports_there net node u closed is port p at = go (slice_get net node) refl is
  where
    within : (d : NodeDecl) → IsTrue (refers_within (length net) d) → d.unit ≡ Some u → p < length net
    within d r e =
        let a = and_parts (list_all (λ n. list_all (λ (x : _). nat_lt x.node (length net)) n.dests) d.entries) (over_within (length net) d.over && ports_within (length net) d.unit) r in
        let b = and_parts (over_within (length net) d.over) (ports_within (length net) d.unit) a.1 in
        ltb-true p (length net) (list_all-at (λ q. nat_lt q (length net)) u.ports port p (subst (λ (o : Option UnitPart). IsTrue (ports_within (length net) o)) e b.1) at)

    go : (o : Option NodeDecl) → slice_get net node ≡ o → unit_of o ≡ Some u → p < length net
    go None e f = cc
    go (Some d) e f = within d (list_all-at (refers_within (length net)) net node d closed e) f

pub unit_bounds : (net : List NodeDecl) → IsLegalNet net → HaveUnitBounds net
unit_bounds net legal = λ node u is.
    let b = has_bounds u (plain_at net node u legal.shapes is) in
    record { page = b.page; few = b.slots; reach = b.reach; ports = b.ports; there = ports_there net node u legal.nodes.closed is }

-- blocks that each node keeps whole are kept whole by an agent and by the nodes of all ports
kept_whole : (net : List NodeDecl) → IsLegalNet net → (agent block : ℕ) → agent < length net → HasBlocks net block → KeepsWhole net agent block
kept_whole net legal agent block l b = record {
  own = b.sends agent l;
  pages = b.pages;
  ports = λ node port n u e at. b.sends n ((unit_bounds net legal node u e).there port n at);
}

pub ready : (net : List NodeDecl) (slots : Slots) (rq : Request) (at : Option ℕ) → IsLegalNet net → AreHeld net slots.held → ((node slot : ℕ) → IsTrue (slots.is_free node slot) → slots.held node slot ≡ None) → IsTrue (are_rights rq.rights) → IsTrue (is_agent_at (slice_get net rq.agent)) → 1 ≤ rq.size → rq.base + rq.size ≤ top + 1 → IsSearchReady (record { net = net; slots = slots; request = rq; at = at })
ready net slots rq at legal held empty rights agent some fits = record {
  bounds = unit_bounds net legal;
  one_stop = one_stop net legal;
  alone = λ q i t w is l st there st'. reached_alone net slots rq q legal held rights empty agent is.is_placement is.admissible i l t w st there st';
  whole = λ q block before hop u node i a z is ends blocks e port few same beside r.
      let k = behind_at net slots rq q.hops before hop ends is.is_placement.leads rq.agent q.v node u e port in
      whole_blocks net legal (one_stop net legal) slots rq q held rights any.0 any.1 empty agent is.is_placement is.admissible block (kept_whole net legal rq.agent block (agent_there net rq.agent agent) blocks) a i z few (same ∙ ap (λ n. (n + i) / 2 ^ block) (sym k.addr_is)) (λ j l f. beside j l (f ∙ ap (λ n. n + j) k.addr_is)) (subst (λ (n : ℕ). Resolves net (record { node = n; addr = a }) z) (sym k.node_is) r);
  none_beside = λ q hop u node i a x z is split e port few same st beside r. not_beside net legal (one_stop net legal) slots rq q held rights any.0 any.1 empty agent is.is_placement is.admissible hop u node i a x z split e port few same st beside r;
  leaves = λ q first hop ahead behind u i is split e few free seen. elim seen [
    | inl a ↦ not_seen net legal (one_stop net legal) slots rq q held rights any.0 any.1 empty agent is.is_placement is.admissible first hop ahead behind u i split e few free a
    | inr k ↦ not_kept net legal (one_stop net legal) slots rq q held rights k.0 k.1 empty agent is.is_placement is.admissible first hop ahead behind u i split e few free k.2
  ];
  few = legal.is_net.few;
  agent = agent_there net rq.agent agent;
  is_agent = agent;
  some = some;
  fits = fits;
}
  where
    any : (access : Access) × IsTrue (allows rq.rights access)
    any = some_allowed rq.rights rights

-- the units of tables that fit a net are those of the net
units_same : (set : List NodeTable) (net : List NodeDecl) (n : ℕ) → units_of set ≡ map (λ (d : NodeDecl). d.unit) net → unit_in set n ≡ unit_at net n
units_same [] [] n e = refl
units_same [] (d ∷ net) n e = cc
units_same (t ∷ set) [] n e = cc
units_same (t ∷ set) (d ∷ net) zero e = heads (units_of set) (map (λ (d : NodeDecl). d.unit) net) t.unit d.unit e
  where
    heads : (xs ys : List (Option UnitPart)) (a b : Option UnitPart) → a ∷ xs ≡ b ∷ ys → a ≡ b
    heads xs ys a b p = cc
units_same (t ∷ set) (d ∷ net) (suc n) e = units_same set net n (tails (units_of set) (map (λ (d : NodeDecl). d.unit) net) t.unit d.unit e)
  where
    tails : (xs ys : List (Option UnitPart)) (a b : Option UnitPart) → a ∷ xs ≡ b ∷ ys → xs ≡ ys
    tails xs ys a b p = cc

-- a slot of a unit of the net is one of the tables that fit it
pub slot_in_set : (kinds : List Meaning) (net : List NodeDecl) (set : List NodeTable) (unit slot : ℕ) → FitsNet net kinds set → slot < slot_count (unit_at net unit) → IsTrue (has_slot set unit slot)
slot_in_set kinds net set unit slot fits l = subst (λ (o : Option UnitPart). IsTrue (has_slot_by o slot)) (sym (units_same set net unit fits.units)) (there (unit_at net unit) l)
  where
    there : (o : Option UnitPart) → slot < slot_count o → IsTrue (has_slot_by o slot)
    there None l = absurd (omega arith)
    there (Some u) l = lt-ltb slot u.slots l
