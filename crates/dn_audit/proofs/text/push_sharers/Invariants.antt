use Rattle.std.proofs.Common.{◌≡◌, ◌++◌, drop, length, nat_lt, IsTrue}
use Rattle.std.specs.List.{flat_map, list_all}
use Rattle.std.specs.String.{string_bytes}
use Rattle.dn_audit.specs.Text.{sharer_text}
use Rattle.dn_audit.proofs.text.push_sharers.Given as goal

abbrev pub invariant-loop-agent : goal.invariant-loop-agent
invariant-loop-agent l = record {
  so_far : string_bytes l.out ++ flat_map (sharer_text l.net) (drop l.agent-index l.agents) ≡ string_bytes l.initial.out ++ flat_map (sharer_text l.net) l.agents;
  there : IsTrue (list_all (λ g. nat_lt g (length l.net)) (drop l.agent-index l.agents));
}
