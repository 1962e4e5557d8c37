use Rattle.std.proofs.Common.{◌≡◌, ◌+◌, ◌++◌, map, take, drop, nat_le, IsTrue}
use Rattle.std.specs.List.{list_all}
use Rattle.dn_net.specs.Decode.{dest_name, top}
use Rattle.dn_kind.proofs.levels.push_moved.Given as goal

abbrev pub invariant-loop-dest : goal.invariant-loop-dest
invariant-loop-dest l = record {
  so_far : l.next.items ≡ l.initial.next.items ++ map (dest_name l.offset) (take l.dest-index l.dests);
  in_range : IsTrue (list_all (λ d. nat_le (d.addr + l.offset) top) (drop l.dest-index l.dests));
}
