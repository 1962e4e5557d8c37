use Rattle.std.proofs.Common.{◌≡◌, ◌==◌, ◌∙◌, ap, sym, List, [], length}
use Rattle.dn_interval.specs.declared.row.Row.{Row}
use Rattle.dn_flat.proofs.Lists.{none_of}
use Rattle.dn_view.proofs.Viewed.{fixed_rows, unit_reached}
use Rattle.dn_view.proofs.view.fixed_view.Goals as goal

pub returns-then-is_empty-clause-rows : goal.returns-then-is_empty-clause-rows
returns-then-is_empty-clause-rows c =
    let none : c.args.flat.now.stops ≡ [] = sym c.rows.ensures.value ∙ none_of c.rows.result.now (sym c.is_empty.ensures ∙ c.if-is_empty.true) in
    fixed_rows c.args.net.now c.requires.legal c.args.node c.args.flat.now c.requires.flat none

pub returns-else-is_empty-clause-none : goal.returns-else-is_empty-clause-none
returns-else-is_empty-clause-none c =
    let some = sym (ap (λ (rows : List Row). length rows == 0) c.rows.ensures.value) ∙ sym c.is_empty.ensures ∙ c.if-is_empty.false in
    unit_reached c.args.net.now c.args.node c.args.flat.now.stops c.requires.flat.stops some
