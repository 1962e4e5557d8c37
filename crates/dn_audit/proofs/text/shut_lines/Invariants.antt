use Rattle.std.proofs.Common.{◌≡◌, ◌++◌, drop, length, nat_lt, IsTrue}
use Rattle.std.specs.List.{flat_map, list_all}
use Rattle.std.specs.String.{string_bytes}
use Rattle.dn_audit.specs.Text.{shut_text}
use Rattle.dn_audit.proofs.text.shut_lines.Given as goal

abbrev pub invariant-loop-row : goal.invariant-loop-row
invariant-loop-row l = record {
  so_far : string_bytes l.out ++ flat_map (shut_text l.net) (drop l.row-index l.shut) ≡ flat_map (shut_text l.net) l.shut;
  there : IsTrue (list_all (λ s. nat_lt s.unit (length l.net)) (drop l.row-index l.shut));
}
