-- One strand more.
use Rattle.std.proofs.Common.{◌∙◌, ◌||◌, ap, sym}
use Rattle.dn_interval.specs.declared.strand.Strand.{Strand}
use Rattle.dn_flat.specs.Stretches.{is_led}
use Rattle.dn_flat.proofs.Lists.{any_more}
use Rattle.dn_flat.proofs.stretches.led_stretches.Goals as goal

pub loop-strand-preserved : goal.loop-strand-preserved
loop-strand-preserved c =
    let first = c.args.buffer.first in
    let size = c.args.buffer.size in
    let inv = c.loop-strand.invariant in
    record {
      each = c.in_ok-push_led.ensures.each inv.each;
      led = λ v. c.in_ok-push_led.ensures.led v ∙ ap (λ t. t || is_led first size c.strand-item.result v) (inv.led v) ∙ sym (any_more (λ (s : Strand). is_led first size s v) c.args.strands.now c.loop-strand.strand-index c.strand-item.result c.loop-strand-test.true c.strand-item.is);
    }
