-- Segments that are no parts of the buffer do not show it; else their rows tell.
use Rattle.std.proofs.Common.{◌≡◌, ◌↔◌, ◌≤◌, ℕ, List, true, sym, subst}
use Rattle.dn_interval.specs.declared.row.End.{End}
use Rattle.dn_interval.specs.declared.row.Row.{Row}
use Rattle.dn_interval.specs.declared.span.TheConstants.{TOP}
use Rattle.dn_interval.specs.Strands.{segs_give}
use Rattle.dn_view.specs.Exact.{IsAskedAt}
use Rattle.dn_view.proofs.Buffers.{not_parts, rows_buffer}
use Rattle.dn_view.proofs.exact.show_buffer.Goals as goal

pub returns-then-not-are_parts : goal.returns-then-not-are_parts
returns-then-not-are_parts c = not_parts c.args.request.now c.args.v c.args.shown.now c.requires.some (sym c.if-not-are_parts.ensures)

pub returns : goal.returns
returns c =
    let rq = c.args.request.now in
    let v = c.args.v in
    let shown = c.args.shown.now in
    let rows : List Row = c.in_ok-rows.rows in
    subst (λ b. (b ≡ true) ↔ ((a : ℕ) (z : End) → a ≤ TOP → (segs_give shown a z ≡ true) ↔ IsAskedAt rq v a z)) (sym c.is_buffer.ensures)
    (rows_buffer rq v shown rows c.requires.some c.requires.within c.in_ok-rows.ensures.normal)
