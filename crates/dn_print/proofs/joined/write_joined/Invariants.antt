use Rattle.std.proofs.Common.{◌≡◌, ◌++◌, drop, length, IsTrue}
use Rattle.std.specs.List.{list_all}
use Rattle.std.specs.String.{string_bytes}
use Rattle.dn_print.specs.Statement.{marked_texts}
use Rattle.dn_print.proofs.joined.write_joined.Given as goal

abbrev pub invariant-loop-item : goal.invariant-loop-item
invariant-loop-item g l = record {
  so_far : string_bytes l.out ++ marked_texts l.mark (g.T.Item.text l.net) (drop l.item-index l.rest) ≡ string_bytes l.initial.out ++ marked_texts l.mark (g.T.Item.text l.net) l.rest;
  there : IsTrue (list_all (g.T.Item.within (length l.net)) (drop l.item-index l.rest));
}
