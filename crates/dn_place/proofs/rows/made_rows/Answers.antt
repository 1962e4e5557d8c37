use Rattle.std.proofs.Common.{◌≡◌, refl, ◌≤◌, ◌<◌, ℕ, List, length, arith, subst, sym, IsTrue}
use Rattle.std.proofs.lemmas.Result.{IfOk-weaker}
use Rattle.dn_interval.specs.Rows.{AreNormal}
use Rattle.dn_net.specs.declared.node.NodeDecl.{NodeDecl}
use Rattle.dn_flat.specs.Levels.{AreFlats, ResolvesWhole}
use Rattle.dn_view.specs.Near.{levels_near}
use Rattle.dn_view.proofs.Ways.{one_stop}
use Rattle.dn_place.specs.Hops.{hops_view}
use Rattle.dn_place.specs.Rows.{AreToward}
use Rattle.dn_place.proofs.Toward.{buffer_toward, near_toward, wanted_fits}
use Rattle.dn_place.proofs.rows.made_rows.Goals as goal

pub toward-requires-clause-there : goal.toward-requires-clause-there
toward-requires-clause-there g c = subst (λ (n : ℕ). c.args.node < n) (sym c.requires.system.flat.every) c.requires.there

pub of-requires : goal.of-requires
of-requires g c = subst (λ (n : ℕ). c.args.node < n) (sym c.requires.system.flat.every) c.requires.there

pub toward-requires-clause-within : goal.toward-requires-clause-within
toward-requires-clause-within g c =
    let hops = hops_view c.args.hops in
    let none : length hops ≡ 0 = omega (arith, c.count.ensures, c.if-count-eq0.true) in
    wanted_fits c.args.request hops c.wanted_name-target.result c.args.request.size none c.wanted_name-target.ensures refl c.requires.buffer

pub returns-then-count-eq0 : goal.returns-then-count-eq0
returns-then-count-eq0 g c =
    let net = c.args.system.on.net.now in
    let rq = c.args.request in
    let hops = hops_view c.args.hops in
    let none : length hops ≡ 0 = omega (arith, c.count.ensures, c.if-count-eq0.true) in
    IfOk-weaker c.toward.result (λ rows. (net : List NodeDecl) → AreFlats net c.args.system.flats.now → AreNormal (ResolvesWhole net c.args.node c.wanted_name-target.result rq.size) rows) (λ rows. AreToward net rq hops c.args.node rows)
    (λ rows n. buffer_toward net rq hops c.args.node rows c.wanted_name-target.result rq.size none c.wanted_name-target.ensures refl (n net c.requires.system.flat))
    c.toward.ensures

pub returns : goal.returns
returns g c =
    let net = c.args.system.on.net.now in
    let rq = c.args.request in
    let hops = hops_view c.args.hops in
    let some : 1 ≤ length hops = omega (arith, c.count.ensures, c.if-count-eq0.false) in
    IfOk-weaker c.near_rows.result (λ rows. AreNormal (λ a z. IsTrue (levels_near c.wanted_name-target.result rq.size c.as_slice-levels.result.now a z)) rows) (λ rows. AreToward net rq hops c.args.node rows)
    (λ rows n. near_toward net rq hops c.args.node c.of.result.now rows c.wanted_name-target.result rq.size c.as_slice-levels.result.now some (one_stop net c.requires.system.kinded.legal.legal) (c.requires.system.flat.each c.args.node c.of.result.now c.of.ensures) c.wanted_name-target.ensures refl c.as_slice-levels.ensures n)
    c.near_rows.ensures
