-- The heading, and the bytes below it.
use Rattle.std.proofs.Common.{rules, ◌≡◌, ◌++◌, subst, length, List, ℕ}
use Rattle.dn_print.specs.Dump.{heading_text, lines_text}
use Rattle.dn_script.specs.Halt.{Writes}
use Rattle.dn_script.proofs.output.write_dump.Goals as goal

pub returns-clause-written : goal.returns-clause-written
returns-clause-written g c =
    let heading : c.as_str.result.now ≡ heading_text (length c.args.image.now) = search rules in
    subst (λ (h : List ℕ). Writes c.write_bytes.result (g.K.Sink.written c.args.sink.now) (g.K.Sink.written c.write_bytes.new.sink) (h ++ lines_text c.args.image.now)) heading c.write_bytes.ensures.written
