-- The address is in the first row that does not end before it, or in none.
use Rattle.std.proofs.Common.{◌≡◌, ◌∙◌, sym, ap, subst}
use Rattle.std.specs.List.{slice_get}
use Rattle.std.proofs.lemmas.Bool.{lt-leb}
use Rattle.dn_base.proofs.Lists.{slice_get-at}
use Rattle.dn_interval.proofs.Pieces.{gone}
use Rattle.dn_interval.proofs.RowPlaces.{found, begins_by, covered}
use Rattle.dn_interval.specs.Rows.{Apart}
use Rattle.dn_interval.proofs.rows.Rows.at.Goals.{After-ended_before}
use Rattle.dn_interval.proofs.rows.Rows.at.Goals as goal

-- whether the row at the place begins at the address or before it
covers_it : (c : After-ended_before) → begins_by c.args.a (slice_get c.rows-rows.result.now c.ended_before.result) ≡ covered c.args.self.now c.args.a
covers_it c =
    let apart = subst (Apart 0) (sym c.rows-rows.ensures.value) c.rows-rows.ensures.apart in
    found 0 _ _ _ apart c.ended_before.ensures.within c.ended_before.ensures.place.0 c.ended_before.ensures.place.1 ∙ ap (λ t. covered t c.args.a) c.rows-rows.ensures.value

pub returns-in_err-row-clause-none : goal.returns-in_err-row-clause-none
returns-in_err-row-clause-none c =
    rw c.from_residual.ensures (ap (begins_by c.args.a) (gone c.rows-rows.result.now c.ended_before.result c.in_err-row.ensures.lookup.3) ∙ covers_it (goal.at.returns-in_err-row-clause-none c).After-ended_before)

pub returns-else-row-a-clause-none : goal.returns-else-row-a-clause-none
returns-else-row-a-clause-none c =
    let r = c.in_ok-row.row.now in
    let h = c.in_ok-row.ensures.lookup in
    sym (lt-leb r.span.lo c.args.a c.if-row-a.false) ∙ ap (begins_by c.args.a) (slice_get-at c.rows-rows.result.now c.ended_before.result r h.3.0 h.1) ∙ covers_it (goal.at.returns-else-row-a-clause-none c).After-ended_before
