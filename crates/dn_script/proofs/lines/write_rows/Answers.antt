-- The heading, and then the rows.
use Rattle.std.proofs.Common.{rules, ◌++◌, sym, subst, refl, is_ok, map, List, ℕ}
use Rattle.dn_base.specs.Outside.{IsWritten}
use Rattle.dn_interval.specs.Listed.{seen_view}
use Rattle.dn_print.specs.Rows.{rows_text}
use Rattle.dn_script.specs.Halt.{Writes, is_write_halt}
use Rattle.dn_script.proofs.Viewed.{lines_of_rows}
use Rattle.dn_script.proofs.Written.{stopped_first, then_written}
use Rattle.dn_script.proofs.lines.write_rows.Goals as goal

pub returns-in_err-write_output-clause-written : goal.returns-in_err-write_output-clause-written
returns-in_err-write_output-clause-written g c =
    let lines = rows_text c.args.net.now (map seen_view c.args.rows.now) in
    let stopped : Writes c.from_residual.result (g.K.Sink.written c.args.sink.now) (g.K.Sink.written c.write_output.new.sink) (c.as_bytes.result.now ++ lines) = stopped_first c.from_residual.result c.write_output.result _ _ c.as_bytes.result.now lines (search rules) (search rules) (search rules) c.write_output.ensures.written in
    subst (λ (heading : List ℕ). Writes c.from_residual.result (g.K.Sink.written c.args.sink.now) (g.K.Sink.written c.write_output.new.sink) (heading ++ lines)) c.as_bytes.ensures.value stopped

pub returns-clause-written : goal.returns-clause-written
returns-clause-written g c =
    let lines = rows_text c.args.net.now (map seen_view c.args.rows.now) in
    let below : IsWritten (g.K.Sink.written c.write_output.new.sink) (g.K.Sink.written c.write_lines.new.sink) (is_ok c.write_lines.result) (is_write_halt c.write_lines.result) lines = subst (λ (l : List ℕ). IsWritten (g.K.Sink.written c.write_output.new.sink) (g.K.Sink.written c.write_lines.new.sink) (is_ok c.write_lines.result) (is_write_halt c.write_lines.result) l) (sym (lines_of_rows c.args.net.now c.args.rows.now)) c.write_lines.ensures.written in
    let all = then_written _ _ _ _ _ c.as_bytes.result.now lines (c.in_ok-write_output.ensures.written.whole refl) below in
    subst (λ (heading : List ℕ). IsWritten (g.K.Sink.written c.args.sink.now) (g.K.Sink.written c.write_lines.new.sink) (is_ok c.write_lines.result) (is_write_halt c.write_lines.result) (heading ++ lines)) c.as_bytes.ensures.value all
