-- The views so far were written, and those after them were not.
use Rattle.std.proofs.Common.{false, drop, length, map, IsTrue}
use Rattle.std.specs.List.{flat_map, list_all}
use Rattle.dn_base.specs.Outside.{IsCounted}
use Rattle.dn_audit.specs.declared.report.Seen.{Seen}
use Rattle.dn_audit.specs.Nodes.{is_seen_within}
use Rattle.dn_audit.specs.Text.{seen_text}
use Rattle.dn_audit.specs.Told.{seen_told}
use Rattle.dn_script.proofs.Written.{IsSoFar}
use Rattle.dn_tool.proofs.report.write_views.Given as goal

abbrev pub invariant-loop-seen : goal.invariant-loop-seen
invariant-loop-seen g l =
    let text = λ (s : Seen). seen_text l.net (seen_told s) in
    record {
      so_far : IsSoFar (g.K.Sink.written l.fn.sink) (g.K.Sink.written l.sink) (flat_map text (drop l.seen-index l.views)) (flat_map (seen_text l.net) (map seen_told l.views));
      counted : IsCounted (g.K.Sink.faults l.fn.sink) (g.K.Sink.faults l.sink) false;
      there : IsTrue (list_all (is_seen_within (length l.net)) (drop l.seen-index l.views));
    }
