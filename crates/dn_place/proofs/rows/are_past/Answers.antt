-- The rows before the place end before the stretch, and those behind it begin behind the row there.
use Rattle.std.proofs.Common.{◌≡◌, ◌∙◌, ◌<◌, ◌≤◌, nat_lt, ltb-true, ltb-false, sym, ap, length, slice_get, rules}
use Rattle.std.specs.List.{AllWithin, list_all}
use Rattle.std.proofs.lemmas.List.Sorted.{IsPartitionPoint-from_clause}
use Rattle.std.proofs.lemmas.Option.{slice_get_past}
use Rattle.dn_base.proofs.Lists.{slice_get-at}
use Rattle.dn_interval.specs.declared.row.Row.{Row}
use Rattle.dn_interval.proofs.RowPlaces.{ends_part}
use Rattle.dn_place.specs.Rows.{is_past}
use Rattle.dn_place.proofs.Toward.{begins_past, past_from}
use Rattle.dn_place.proofs.rows.are_past.Goals as goal
use Rattle.dn_place.proofs.rows.are_past.Goals.{After-partition_point-place}

-- the row at the place tells it of all
told : (c : After-partition_point-place) → list_all (is_past c.args.a c.args.size) c.args.rows.now ≡ begins_past c.args.a c.args.size (slice_get c.args.rows.now c.partition_point-place.result)
told c =
    let rows = c.args.rows.now in
    let place = c.partition_point-place.result in
    let point = IsPartitionPoint-from_clause (λ (r : Row). nat_lt r.span.hi c.args.a) _ _ c.partition_point-place.ensures.partitioned (λ i j d l h e. ends_part rows c.args.a i j d c.requires.apart l h e) (λ a r q k. search rules) in
    let first : AllWithin (λ (r : Row). r.span.hi < c.args.a) rows 0 place = λ k d u v. ltb-true _ _ (point.0 k d u v) in
    let rest : AllWithin (λ (r : Row). c.args.a ≤ r.span.hi) rows place (length rows) = λ k d u v. ltb-false _ _ (point.1 k d u v) in
    past_from 0 rows place c.args.a c.args.size c.requires.apart first rest

pub returns-in-Some : goal.returns-in-Some
returns-in-Some c =
    let h = c.in-Some.ensures.lookup in
    ap (begins_past c.args.a c.args.size) (slice_get-at c.args.rows.now c.partition_point-place.result c.in-Some.row.now h.3.0 h.1) ∙ sym (told (goal.at.returns-in-Some c).After-partition_point-place)

pub returns-in-None : goal.returns-in-None
returns-in-None c =
    ap (begins_past c.args.a c.args.size) (sym (slice_get_past c.args.rows.now c.partition_point-place.result c.in-None.ensures.lookup.3)) ∙ sym (told (goal.at.returns-in-None c).After-partition_point-place)
