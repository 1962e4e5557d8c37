use Rattle.std.proofs.Common.{◌+◌, List, ◌∷◌, drop, ap, subst, sym}
use Rattle.std.proofs.Math.ListN.{drop_of_length-le}
use Rattle.dn_base.proofs.Lists.{drop_at}
use Rattle.dn_interval.specs.declared.row.End.{End}
use Rattle.dn_interval.specs.declared.row.Row.{Row}
use Rattle.dn_view.proofs.Ways.{one_stop}
use Rattle.dn_place.specs.declared.exits.Exit.{Exit}
use Rattle.dn_place.specs.Exits.{Passing}
use Rattle.dn_place.specs.Hops.{hops_view}
use Rattle.dn_place.specs.Rows.{InRow}
use Rattle.dn_place.proofs.Agents.{row_fits}
use Rattle.dn_place.proofs.Outputs.{none_given, pass_begun, pass_done, pass_none}
use Rattle.dn_place.proofs.exits.push_rows.Goals.{in-Some+in_ok-push_output, in_default}
use Rattle.dn_place.proofs.exits.push_rows.Goals as goal

pub loop-row-init : goal.loop-row-init
loop-row-init g c =
    let search = c.args.search in
    pass_begun search.system.on.net.now search.translator.now search.request (hops_view search.nearer) c.args.port c.args.node c.args.rows.now c.args.exits.now.items c.requires.search.bounds (one_stop search.system.on.net.now c.requires.search.system.kinded.legal.legal) c.requires.node c.requires.toward c.requires.listed

pub push_output-requires-clause-fits : goal.push_output-requires-clause-fits
push_output-requires-clause-fits g c = row_fits c.row-item.result c.wanted_name-target.result c.args.search.request.size c.in-Some.y c.in-Some.ensures.some

pub loop-row-preserved : goal.loop-row-preserved
loop-row-preserved g c =
    let search = c.args.search in
    let net = search.system.on.net.now in
    let u = search.translator.now in
    let rq = search.request in
    let hops = hops_view search.nearer in
    let rows = c.args.rows.now in
    let r = c.row-item.result in
    let rest : List Row = drop (c.loop-row.row-index + 1) rows in
    let old : List Exit = c.loop-row.exits.items in
    let now : Passing net u rq hops c.args.port rows (r ∷ rest) old = subst (λ (rs : List Row). Passing net u rq hops c.args.port rows rs old) (drop_at rows c.loop-row.row-index r c.loop-row-test.true c.row-item.is) c.loop-row.invariant in
    elim c.match-output.branch [
      | in-Some+in_ok-push_output w ↦
          subst (λ (es : List Exit). Passing net u rq hops c.args.port rows rest es) (sym (ap (λ v. v.items) w.exits-is))
          (w.in_ok-push_output.ensures rows r rest c.requires.toward (subst (λ (t : End). InRow r t rq.size w.in-Some.y) c.wanted_name-target.ensures w.in-Some.ensures.some) now)
      | in_default w ↦
          subst (λ (es : List Exit). Passing net u rq hops c.args.port rows rest es) (sym (ap (λ v. v.items) w.exits-is))
          (pass_none net u rq hops c.args.port rows r rest old c.requires.search.some (none_given net u rq hops c.args.port r (λ y i. w.in_default.ensures.none y (subst (λ (t : End). InRow r t rq.size y) (sym c.wanted_name-target.ensures) i))) now)
    ]

pub returns : goal.returns
returns g c =
    let search = c.args.search in
    let rows = c.args.rows.now in
    pass_done search.system.on.net.now search.translator.now search.request (hops_view search.nearer) c.args.port rows c.loop-row.exits.items c.requires.search.some
    (subst (λ (rs : List Row). Passing search.system.on.net.now search.translator.now search.request (hops_view search.nearer) c.args.port rows rs c.loop-row.exits.items) (drop_of_length-le rows c.loop-row-test.false) c.loop-row.invariant)
