-- The heading, and below it the rows.
use Rattle.std.proofs.Common.{◌≡◌, ◌∙◌, ◌++◌, ap, sym, subst, is_ok, map, length, List, ℕ}
use Rattle.std.proofs.lemmas.List.{length-map}
use Rattle.dn_base.specs.Outside.{IsWritten}
use Rattle.dn_interval.specs.Listed.{seen_view}
use Rattle.dn_print.specs.Rows.{rows_text}
use Rattle.dn_script.specs.Halt.{is_write_halt}
use Rattle.dn_script.specs.Viewed.{viewed_text}
use Rattle.dn_script.proofs.Viewed.{viewed_told}
use Rattle.dn_script.proofs.reply.write_view.Goals as goal

pub returns-clause-written : goal.returns-clause-written
returns-clause-written g c =
    let net = c.args.net.now in
    let rows : c.rows-rows.result.now ≡ c.args.seen.now = c.rows-rows.ensures.value in
    let heading : c.as_str.result.now ≡ _ = c.as_str.ensures.value ∙ c.in_ok-heading.ensures in
    let told : c.as_str.result.now ++ rows_text net (map seen_view c.rows-rows.result.now) ≡ viewed_text net c.args.text.now c.args.mode (map seen_view c.args.seen.now) =
    viewed_told net c.args.text.now c.args.mode c.as_str.result.now _ _ (map seen_view c.args.seen.now) heading (ap length rows ∙ sym (length-map c.args.seen.now seen_view)) (ap (λ rs. c.as_str.result.now ++ rows_text net (map seen_view rs)) rows) in
    subst (λ (l : List ℕ). IsWritten (g.K.Sink.written c.args.sink.now) (g.K.Sink.written c.write_rows.new.sink) (is_ok c.write_rows.result) (is_write_halt c.write_rows.result) l) told c.write_rows.ensures.written
