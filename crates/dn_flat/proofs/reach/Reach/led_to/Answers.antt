-- There is one row, and nothing is accepted or a stop.
use Rattle.std.proofs.Common.{◌∙◌, sym, arith}
use Rattle.dn_flat.proofs.Led.{one_item, led_is}
use Rattle.dn_flat.proofs.Lists.{none_of}
use Rattle.dn_flat.proofs.reach.Reach.led_to.Goals as goal

pub returns : goal.returns
returns c =
    let reach = c.args.self.now in
    let row = c.row-item.result in
    let accepts = sym c.rows-2.ensures.value ∙ none_of c.rows-2.result.now (sym c.is_empty.ensures ∙ c.if-not-is_empty.false) in
    let stops = sym c.rows-else-not-is_empty.ensures.value ∙ none_of c.rows-else-not-is_empty.result.now (sym c.is_empty-else-not-is_empty.ensures ∙ c.if-not-is_empty-2.false) in
    let go = sym c.rows.ensures.value ∙ one_item c.rows.result.now row (omega (arith, c.in-len1.len_at_least)) (omega (arith, c.in-len1.len_below)) c.row-item.is in
    led_is c.led_by.result reach row accepts stops go c.led_by.ensures
