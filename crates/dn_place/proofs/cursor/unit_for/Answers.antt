use Rattle.std.proofs.Common.{◌≡◌, ◌-◌, None, arith}
use Rattle.dn_net.specs.Decode.{unit_at}
use Rattle.dn_place.specs.Candidates.{NoneUnder, to_unit}
use Rattle.dn_place.specs.Hops.{hops_view}
use Rattle.dn_place.specs.Searches.{sought}
use Rattle.dn_place.proofs.Nexts.{no_unit, unentered}
use Rattle.dn_place.proofs.Turned.{none_then}
use Rattle.dn_place.proofs.cursor.unit_for.Goals as goal

pub returns-then-not-can_enter-clause-none : goal.returns-then-not-can_enter-clause-none
returns-then-not-can_enter-clause-none g c =
    let search = c.args.search in
    unentered (sought (λ k. (goal.UnitKind-dyn g k).meaning k.1) search) search.count (hops_view c.args.nearer) c.args.unit search.reach.now.entry c.requires.search.ready c.requires.search.reach.entry c.requires.more (let k = c.can_enter.ensures.first c.if-not-can_enter.true in omega (arith, k, c.count.ensures)) (c.can_enter.ensures.asked c.if-not-can_enter.true) (c.can_enter.ensures.other c.if-not-can_enter.true)

pub returns-clause-none : goal.returns-clause-none
returns-clause-none g c =
    let search = c.args.search in
    let s = sought (λ k. (goal.UnitKind-dyn g k).meaning k.1) search in
    none_then c.unit_in.result (unit_at s.net c.args.unit ≡ None) (NoneUnder s (to_unit search.count (hops_view c.args.nearer) c.args.unit)) (λ e. no_unit s search.count (hops_view c.args.nearer) c.args.unit c.requires.more e) c.unit_in.ensures.none
