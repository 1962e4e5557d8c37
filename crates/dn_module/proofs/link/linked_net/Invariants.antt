use Rattle.std.proofs.Common.{◌≡◌, map, take, drop, true}
use Rattle.std.specs.List.{list_all}
use Rattle.dn_scope.specs.Values.{each}
use Rattle.dn_module.specs.Drafts.{node_in, refers_to_known, node_of}
use Rattle.dn_scope.proofs.Each.{followed}
use Rattle.dn_module.proofs.link.linked_net.Given as goal

abbrev pub invariant-loop-draft : goal.invariant-loop-draft
invariant-loop-draft l = record {
  made : each (node_of l.names) l.drafts ≡ followed l.net (each (node_of l.names) (drop l.draft-index l.drafts));
  so_far : l.net ≡ map (node_in l.names) (take l.draft-index l.drafts);
  known : list_all (refers_to_known l.names) (take l.draft-index l.drafts) ≡ true;
}
