-- A stable sort by the three numbers.
use Rattle.std.proofs.Common.{◌∙◌, ap, rules, map}
use Rattle.std.proofs.lemmas.List.Sorted.{answers_always}
use Rattle.dn_walk.specs.declared.walks.WalkRow.{WalkRow}
use Rattle.dn_walk.specs.Rows.{row_view}
use Rattle.dn_walk.proofs.Keys.{rows_in_order}
use Rattle.dn_walk.proofs.level.in_order.Goals as goal

pub returns : goal.returns
returns c =
    let computes = answers_always _ _ _ (λ f a r g h. search rules) in
    ap (map row_view) c.from_vec.ensures ∙ rows_in_order _ _ (c.in_ok-sort_by_key.ensures.sorted (λ (r : WalkRow). (r.start, r.span.lo, r.span.hi)) computes) (c.sort_by_key.ensures.stable (λ (r : WalkRow). (r.start, r.span.lo, r.span.hi)) computes)
