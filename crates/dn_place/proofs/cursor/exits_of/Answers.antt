use Rattle.std.proofs.Common.{◌<◌, List, length, arith, subst, sym}
use Rattle.dn_place.specs.declared.exits.Exit.{Exit}
use Rattle.dn_place.specs.Cursors.{AreExitsOf}
use Rattle.dn_place.specs.Hops.{hops_view}
use Rattle.dn_place.specs.Searches.{sought}
use Rattle.dn_place.proofs.Cursors.{exits_are, no_exits}
use Rattle.dn_place.proofs.cursor.exits_of.Goals as goal

pub returns-in_default-clause-exits : goal.returns-in_default-clause-exits
returns-in_default-clause-exits g c =
    let s = sought (λ k. (goal.UnitKind-dyn g k).meaning k.1) c.args.search in
    let nearer = hops_view c.args.nearer in
    subst (λ (es : List Exit). AreExitsOf s c.args.search.count nearer c.args.unit es) (sym c.new.ensures.items) (no_exits s c.args.search.count nearer c.args.unit c.in_default.ensures.none)

pub returns-in_default-clause-few : goal.returns-in_default-clause-few
returns-in_default-clause-few g c = subst (λ (es : List Exit). length es < 18446744073709551616) (sym c.new.ensures.items) (omega arith)

pub exits_to-requires : goal.exits_to-requires
exits_to-requires g c =
    let is = c.requires.search in
    let u = c.in-Some.translator.now in
    record {
      search = record {
        system = is.system;
        bounds = c.in-Some.ensures.bounds;
        some = is.ready.some;
        buffer = is.ready.fits;
        whole = is.whole;
        few = omega (arith, is.whole.pages c.args.unit u c.in-Some.ensures.some, c.in-Some.ensures.bounds.page);
      };
    }

pub returns-clause-exits : goal.returns-clause-exits
returns-clause-exits g c =
    let s = sought (λ k. (goal.UnitKind-dyn g k).meaning k.1) c.args.search in
    let nearer = hops_view c.args.nearer in
    exits_are s c.args.search.count nearer c.args.unit c.in-Some.translator.now c.in_ok-exits.exits.items c.requires.search.ready c.requires.more c.in-Some.ensures.some c.in_ok-exits.ensures
