use Rattle.std.proofs.Common.{◌↔◌, ℕ, sym, ◌∙◌, length, refl}
use Rattle.std.proofs.lemmas.Bool.{false≢true}
use Rattle.dn_place.specs.Hops.{hops_view}
use Rattle.dn_place.specs.Rows.{InRow, wanted_name}
use Rattle.dn_place.specs.Candidates.{key_of_hops}
use Rattle.dn_place.specs.Searches.{sought}
use Rattle.dn_place.proofs.Beside.{row_stops}
use Rattle.dn_place.proofs.Turned.{row_way}
use Rattle.dn_place.proofs.Walks.{set_out}
use Rattle.dn_place.proofs.Agents.{agent_stretches, agent_goes, clear_of, not_asked, row_asked, step, step_found, step_done, step_meets, only_there, row_fits}
use Rattle.dn_place.proofs.iova.by_rows.Goals as goal
use Rattle.dn_place.proofs.iova.by_rows.Goals.{in-Some+then-is_at+in_ok-placement+in_default-2, in-Some+else-is_at, in_default}

pub rows-init : goal.rows-init
rows-init g c = set_out _ _ _ c.requires.toward.apart

pub by_way-requires-clause-addressed : goal.by_way-requires-clause-addressed
by_way-requires-clause-addressed g c =
    let hops = hops_view c.args.hops in
    let front = key_of_hops (length hops) hops in
    let here = (row_asked (sought (λ k. (goal.UnitKind-dyn g k).meaning k.1) c.args.search) hops c.row-item.result c.wanted_name-target.result c.args.search.request c.args.search.request c.in-Some.v c.wanted_name-target.ensures refl refl).0 c.in-Some.ensures.some in
    record {
      chosen = c.requires.chosen;
      some = c.requires.some;
      fits = row_fits _ _ _ _ here;
      at = (c.is_at.ensures.0 c.if-is_at.true);
      meets = step_meets (sought (λ k. (goal.UnitKind-dyn g k).meaning k.1) c.args.search) front (sought (λ k. (goal.UnitKind-dyn g k).meaning k.1) c.args.search).request.agent hops c.args.rows.now c.rows.row-index c.row-item.result c.in-Some.v c.requires.toward (row_fits _ _ _ _ here) c.rows-test.true c.row-item.is c.rows.invariant here (clear_of (sought (λ k. (goal.UnitKind-dyn g k).meaning k.1) c.args.search) (sought (λ k. (goal.UnitKind-dyn g k).meaning k.1) c.args.search).request.agent hops c.in-Some.v (sought (λ k. (goal.UnitKind-dyn g k).meaning k.1) c.args.search).request.size c.requires.some);
    }

pub by_way-requires-clause-way : goal.by_way-requires-clause-way
by_way-requires-clause-way g c =
    let s = sought (λ k. (goal.UnitKind-dyn g k).meaning k.1) c.args.search in
    let hops = hops_view c.args.hops in
    let here = (row_asked s hops c.row-item.result c.wanted_name-target.result c.args.search.request c.args.search.request c.in-Some.v c.wanted_name-target.ensures refl refl).0 c.in-Some.ensures.some in
    row_way s.net s.request.agent c.row-item.result (wanted_name s.request hops) s.request.size c.in-Some.v here (row_stops s hops c.args.rows.now c.rows.row-index c.row-item.result c.requires.some c.rows-test.true c.row-item.is c.requires.toward)

pub returns-in-Some-2 : goal.returns-in-Some-2
returns-in-Some-2 g c =
    let hops = hops_view c.args.hops in
    let front = key_of_hops (length hops) hops in
    step_found (sought (λ k. (goal.UnitKind-dyn g k).meaning k.1) c.args.search) front c.args.rows.now c.rows.row-index c.row-item.result (wanted_name (sought (λ k. (goal.UnitKind-dyn g k).meaning k.1) c.args.search).request hops) c.in-Some.v c.in-Some-2.placement
    c.rows-test.true c.row-item.is c.requires.search.ready.some
    (agent_stretches (sought (λ k. (goal.UnitKind-dyn g k).meaning k.1) c.args.search) hops c.args.rows.now c.requires.search.ready c.requires.toward) c.rows.invariant
    ((row_asked (sought (λ k. (goal.UnitKind-dyn g k).meaning k.1) c.args.search) hops c.row-item.result c.wanted_name-target.result c.args.search.request c.args.search.request c.in-Some.v c.wanted_name-target.ensures refl refl).0 c.in-Some.ensures.some)
    (rw c.in-Some-2.is at c.in_ok-placement.ensures)

pub rows-preserved : goal.rows-preserved
rows-preserved g c =
    let s = sought (λ k. (goal.UnitKind-dyn g k).meaning k.1) c.args.search in
    let hops = hops_view c.args.hops in
    let front = key_of_hops (length hops) hops in
    let asked : (a : ℕ) → InRow c.row-item.result c.wanted_name-target.result c.args.search.request.size a ↔ InRow c.row-item.result (wanted_name s.request hops) s.request.size a = λ a. row_asked s hops c.row-item.result c.wanted_name-target.result c.args.search.request c.args.search.request a c.wanted_name-target.ensures refl refl in
    step s front c.args.rows.now c.rows.row-index c.row-item.result (wanted_name s.request hops)
    c.rows-test.true c.row-item.is c.requires.search.ready.some
    (agent_stretches s hops c.args.rows.now c.requires.search.ready c.requires.toward) c.rows.invariant
    (elim c.match-output.branch [
      | in-Some+then-is_at+in_ok-placement+in_default-2 w ↦ only_there s front c.row-item.result (wanted_name s.request hops) w.in-Some.v ((asked w.in-Some.v).0 w.in-Some.ensures.some) (rw w.in_default-2.is at w.in_ok-placement.ensures)
      | in-Some+else-is_at w ↦ only_there s front c.row-item.result (wanted_name s.request hops) w.in-Some.v ((asked w.in-Some.v).0 w.in-Some.ensures.some) (not_asked s hops w.in-Some.v (λ at. false≢true (sym w.if-is_at.false ∙ w.is_at.ensures.1 at)))
      | in_default w ↦ λ j i. absurd (w.in_default.ensures.none j ((asked j).1 i))
    ])

pub returns : goal.returns
returns g c =
    let hops = hops_view c.args.hops in
    let front = key_of_hops (length hops) hops in
    step_done (sought (λ k. (goal.UnitKind-dyn g k).meaning k.1) c.args.search) front c.args.rows.now c.rows.row-index (wanted_name (sought (λ k. (goal.UnitKind-dyn g k).meaning k.1) c.args.search).request hops)
    c.rows-test.false c.requires.search.ready.some
    (agent_stretches (sought (λ k. (goal.UnitKind-dyn g k).meaning k.1) c.args.search) hops c.args.rows.now c.requires.search.ready c.requires.toward)
    (agent_goes (sought (λ k. (goal.UnitKind-dyn g k).meaning k.1) c.args.search) hops) c.rows.invariant
