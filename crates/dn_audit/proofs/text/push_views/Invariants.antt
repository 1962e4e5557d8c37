use Rattle.std.proofs.Common.{◌≡◌, ◌++◌, drop, length, map, IsTrue}
use Rattle.std.specs.List.{flat_map, list_all}
use Rattle.std.specs.String.{string_bytes}
use Rattle.dn_audit.specs.Nodes.{is_seen_within}
use Rattle.dn_audit.specs.Text.{seen_text}
use Rattle.dn_audit.specs.Told.{seen_told}
use Rattle.dn_audit.proofs.text.push_views.Given as goal

abbrev pub invariant-loop-seen : goal.invariant-loop-seen
invariant-loop-seen l = record {
  so_far : string_bytes l.out ++ flat_map (seen_text l.net) (map seen_told (drop l.seen-index l.views)) ≡ string_bytes l.initial.out ++ flat_map (seen_text l.net) (map seen_told l.views);
  there : IsTrue (list_all (is_seen_within (length l.net)) (drop l.seen-index l.views));
}
