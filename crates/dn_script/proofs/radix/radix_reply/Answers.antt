use Rattle.std.proofs.Common.{rules, ◌≡◌, ◌++◌, ◌/◌, ◌∙◌, ap, subst, length, is_ok, List, ℕ}
use Rattle.dn_base.specs.Outside.{IsWritten}
use Rattle.dn_print.specs.Dump.{lines_text}
use Rattle.dn_script.specs.Halt.{is_write_halt}
use Rattle.dn_script.specs.Radix.{pages_heading}
use Rattle.dn_script.proofs.Pages.{tree_said}
use Rattle.dn_script.proofs.radix.radix_reply.Goals as goal

pub returns-in_ok-heading-in-Ok-clause-written : goal.returns-in_ok-heading-in-Ok-clause-written
returns-in_ok-heading-in-Ok-clause-written g c =
    let heading : c.as_str.result.now ≡ pages_heading c.args.text.now (length c.in-Ok.bytes.items / 4096) = search rules in
    subst (λ (t : List ℕ). IsWritten (g.K.Sink.written c.args.sink.now) (g.K.Sink.written c.write_bytes.new.sink) (is_ok c.write_bytes.result) (is_write_halt c.write_bytes.result) t)
    (ap (λ (h : List ℕ). h ++ lines_text c.in-Ok.bytes.items) heading
    ∙ tree_said c.args.text.now c.args.words.now c.in-Ok.bytes.items c.args.pool c.requires c.in-Ok.ensures)
    (rw (← c.deref.ensures.value) c.write_bytes.ensures.written)
