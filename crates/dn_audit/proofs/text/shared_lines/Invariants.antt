use Rattle.std.proofs.Common.{◌≡◌, ◌++◌, drop, length, map, IsTrue}
use Rattle.std.specs.List.{flat_map, list_all}
use Rattle.std.specs.String.{string_bytes}
use Rattle.dn_audit.specs.Nodes.{is_shared_within}
use Rattle.dn_audit.specs.Text.{shared_text}
use Rattle.dn_audit.specs.Told.{shared_told}
use Rattle.dn_audit.proofs.text.shared_lines.Given as goal

abbrev pub invariant-loop-row : goal.invariant-loop-row
invariant-loop-row l = record {
  so_far : string_bytes l.out ++ flat_map (shared_text l.net) (map shared_told (drop l.row-index l.shared)) ≡ flat_map (shared_text l.net) (map shared_told l.shared);
  there : IsTrue (list_all (is_shared_within (length l.net)) (drop l.row-index l.shared));
}
