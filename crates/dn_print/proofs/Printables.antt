-- A net that came of a text is printable.
use Rattle.std.proofs.Common.{◌≡◌, ◌∙◌, inl, inr, ap, ap₂, sym, refl, subst, ℕ, ◌+◌, ◌<◌, ◌≤◌, ◌^◌, Bool, true, cond, List, [], ◌∷◌, map, length, is_some, Option, Some, None, option_map, IsTrue, arith, All}
use Rattle.std.specs.List.{list_all}
use Rattle.std.proofs.lemmas.List.{length-map}
use Rattle.dn_base.proofs.Lists.{Each}
use Rattle.dn_net.specs.declared.node.Dest.{Dest}
use Rattle.dn_net.specs.declared.node.NodeDecl.{NodeDecl}
use Rattle.dn_net.specs.declared.node.Role.{Role}
use Rattle.dn_net.specs.declared.node.Unit.{Unit as UnitPart}
use Rattle.dn_net.specs.Decode.{is_agent, is_formed, is_unit, formed_by}
use Rattle.dn_kind.specs.Kind.{Meaning}
use Rattle.dn_module.specs.declared.draft.Draft.{Draft}
use Rattle.dn_module.specs.declared.draft.DraftEntry.{DraftEntry}
use Rattle.dn_module.specs.declared.draft.DraftUnit.{DraftUnit}
use Rattle.dn_module.specs.Drafts.{names, parts_of_draft, refers_to_known, node_number_of, dest_in, entry_in, unit_by_numbers, node_in, role_of}
use Rattle.dn_module.proofs.Closed.{closed}
use Rattle.dn_parse.specs.Tree.{Role as RoleOf, plain_role, agent_role, vectors_role}
use Rattle.dn_net.specs.Parts.{parts_of_node}
use Rattle.dn_print.specs.Printable.{IsPrintableBlock, IsPrintableEntry, HasPrintableUnit, IsPrintableNode, IsPrintable}
use Rattle.dn_print.proofs.Again.{Refers, nodes_all}
use Rattle.dn_print.proofs.Counted.{one_agent, one_unit, Counts, counted}
use Rattle.dn_print.proofs.Formed.{GoodBlock, GoodDest, GoodEntry, GoodDraft}
use Rattle.dn_print.proofs.Grown.{grown_few}
use Rattle.dn_print.proofs.Made.{From}
use Rattle.dn_print.proofs.Places.{all_of_each, each_map, Distinct, pairs_of_map, total_map}

-- what a node says with numbers in place of full names
entry_printable : (known : List (List ℕ)) (e : DraftEntry) → GoodEntry e → IsPrintableEntry (entry_in known e)
entry_printable known e h =
    let n = length-map e.dests (dest_in known) in
    let some = h.2 in
    let few = h.3 in
    record {
      block = h.0;
      addresses = all_of_each (λ (d : Dest). d.addr < 2 ^ 64) (map (dest_in known) e.dests) (each_map GoodDest (λ (d : Dest). d.addr < 2 ^ 64) (dest_in known) (λ d g. g.1) e.dests h.1);
      some = omega (arith, n, some);
      few = omega (arith, n, few);
    }

none_all : {X : Type 0} (P : X → Type 0) → All P []
none_all P = λ k d l. absurd (omega arith)

node_printable : (kinds : List Meaning) (known : List (List ℕ)) (d : Draft) → GoodDraft kinds d → IsPrintableNode kinds (node_in known d)
node_printable kinds known d (inl h) = record {
  name = h.name;
  accepts = all_of_each GoodBlock d.accepts h.accepts;
  entries = all_of_each IsPrintableEntry (map (entry_in known) d.entries) (each_map GoodEntry IsPrintableEntry (entry_in known) (entry_printable known) d.entries h.entries);
  unit = subst (λ (o : Option DraftUnit). HasPrintableUnit kinds (option_map (unit_by_numbers known) o)) (sym h.no_unit) tt;
}
node_printable kinds known d (inr h) = subst (λ (e : Draft). IsPrintableNode kinds (node_in known e)) (sym h.is) (record {
  name = h.full;
  accepts = none_all IsPrintableBlock;
  entries = none_all IsPrintableEntry;
  unit = h.parts.printable known;
})

-- a node is formed
plain_formed : (known : List (List ℕ)) (d : Draft) (role : RoleOf) → d.role ≡ role_of role → d.unit ≡ None → IsTrue (is_formed (node_in known d))
plain_formed known d role r u = ap₂ (λ (q : Role) (o : Option DraftUnit). formed (option_map (unit_by_numbers known) o) q) r u ∙ by role
  where
    formed : Option UnitPart → Role → Bool
    formed o q = formed_by (record { text = d.name; role = q; accepts = d.accepts; entries = map (entry_in known) d.entries; over = option_map (node_number_of known) d.over; unit = o }) o

    by : (role : RoleOf) → formed None (role_of role) ≡ true
    by plain_role = refl
    by agent_role = refl
    by vectors_role = refl

node_formed : (kinds : List Meaning) (known : List (List ℕ)) (d : Draft) → GoodDraft kinds d → IsTrue (is_formed (node_in known d))
node_formed kinds known d (inl h) = plain_formed known d h.role h.roles h.no_unit
node_formed kinds known d (inr h) = subst (λ (e : Draft). IsTrue (is_formed (node_in known e))) (sym h.is) refl

nodes_formed : (kinds : List Meaning) (known : List (List ℕ)) (ds : List Draft) → Each (GoodDraft kinds) ds → IsTrue (list_all is_formed (map (node_in known) ds))
nodes_formed kinds known [] h = refl
nodes_formed kinds known (d ∷ ds) h = rw (node_formed kinds known d h.0) (nodes_formed kinds known ds h.1)

all_refer : (known : List (List ℕ)) (ds : List Draft) → Each (Refers known) ds → list_all (refers_to_known known) ds ≡ true
all_refer known [] h = refl
all_refer known (d ∷ ds) h = rw (h.0) (all_refer known ds h.1)

-- the names of the nodes
texts_are : (known : List (List ℕ)) (ds : List Draft) → map (λ (n : NodeDecl). n.text) (map (node_in known) ds) ≡ names ds
texts_are known [] = refl
texts_are known (d ∷ ds) = ap (λ (l : List (List ℕ)). d.name ∷ l) (texts_are known ds)

parts_in : (known : List (List ℕ)) (d : Draft) → parts_of_node (node_in known d) ≡ parts_of_draft d
parts_in known d = ap₂ (λ (e o : ℕ). length d.accepts + (e + o)) (length-map d.entries (entry_in known)) (by d.over)
  where
    by : (o : Option (List ℕ)) → ◌≡◌ {A = ℕ} (cond (is_some (option_map (node_number_of known) o)) 1 0) (cond (is_some o) 1 0)
    by None = refl
    by (Some t) = refl

nodes_printable : (kinds : List Meaning) (known : List (List ℕ)) (ds : List Draft) → known ≡ names ds → Each (GoodDraft kinds) ds → Each (Refers known) ds → Counts [] ds → length ds ≤ 1024 → IsPrintable kinds (map (node_in known) ds)
nodes_printable kinds known ds k good refers counts few = record {
  is_net = record {
    few = (let n = length-map ds (node_in known) in omega (arith, n, few));
    formed = nodes_formed kinds known ds good;
    names_differ = pairs_of_map (λ (n : NodeDecl). n.text) (map (node_in known) ds) (subst Distinct (sym (texts_are known ds)) counts.differ);
  };
  closed = closed known ds (map (node_in known) ds) k refl (all_refer known ds refers);
  nodes = all_of_each (IsPrintableNode kinds) (map (node_in known) ds) (each_map (GoodDraft kinds) (IsPrintableNode kinds) (node_in known) (node_printable kinds known) ds good);
  agents = subst (λ (c : ℕ). c ≤ 64) (sym (total_map (λ (n : NodeDecl). cond (is_agent n.role) 1 0) (node_in known) one_agent (λ d. refl) 0 ds)) counts.agents;
  units = subst (λ (c : ℕ). c ≤ 64) (sym (total_map (λ (n : NodeDecl). cond (is_unit n.role) 1 0) (node_in known) one_unit (λ d. refl) 0 ds)) counts.units;
  parts = subst (λ (c : ℕ). c ≤ 16384) (sym (total_map (λ n. n) parts_of_node parts_of_node (λ n. refl) 0 (map (node_in known) ds) ∙ total_map parts_of_node (node_in known) parts_of_draft (parts_in known) 0 ds)) counts.parts;
}

-- the net of nodes that a text declares is printable
pub from_printable : (kinds : List Meaning) (net : List NodeDecl) → From kinds net → IsPrintable kinds net
from_printable kinds net from =
    let all = nodes_all (names from.drafts) from.drafts net from.nodes_are in
    let few = grown_few [] from.drafts from.grown (omega arith) in
    let counts = counted [] from.drafts from.grown (λ i j d a b. absurd (omega arith)) (omega arith) (omega arith) (omega arith) in
    subst (IsPrintable kinds) (sym all.1) (nodes_printable kinds (names from.drafts) from.drafts refl from.good all.0 counts (omega (arith, few)))
