use Rattle.std.proofs.Common.{rules, ◌≡◌, subst, List, ℕ, Some}
use Rattle.dn_print.specs.Dump.{dump_text}
use Rattle.dn_script.specs.Halt.{Writes}
use Rattle.dn_script.proofs.Kept.{machine_image}
use Rattle.dn_script.proofs.script.dump.Goals as goal

pub returns-clause-written : goal.returns-clause-written
returns-clause-written g c =
    let some : c.keep_image.new.kept ≡ Some c.as_slice.result.now = search rules in
    let shown = machine_image _ c.args.machine c.args.state.now _ _ _ c.requires.ready.machine c.requires.ready.state c.in_ok-keep_image.ensures.kept some c.tables.ensures in
    subst (λ (l : List ℕ). Writes c.write_dump.result (g.K.Sink.written c.args.sink.now) (g.K.Sink.written c.write_dump.new.sink) (dump_text l)) shown.is_image c.write_dump.ensures.written
