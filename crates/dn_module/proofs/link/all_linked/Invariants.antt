use Rattle.std.proofs.Common.{◌≡◌, map, take, true}
use Rattle.std.specs.List.{list_all}
use Rattle.dn_module.proofs.link.all_linked.Given as goal

abbrev pub invariant-loop-part : goal.invariant-loop-part
invariant-loop-part g l = record {
  made : l.made ≡ map (g.P.Named.linked_by l.names) (take l.part-index l.parts);
  known : list_all (g.P.Named.known_by l.names) (take l.part-index l.parts) ≡ true;
}
