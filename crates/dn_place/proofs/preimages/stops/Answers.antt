use Rattle.std.proofs.Common.{◌<◌, ℕ, length, subst, sym}
use Rattle.dn_place.proofs.Turned.{stops_told}
use Rattle.dn_place.proofs.preimages.stops.Goals as goal

pub push_stops-requires : goal.push_stops-requires
push_stops-requires g c = subst (λ (n : ℕ). c.args.node < n) (sym c.requires.system.flat.every) c.requires.there

pub returns : goal.returns
returns g c =
    let there : c.args.node < length c.args.system.flats.now.nodes = subst (λ (n : ℕ). c.args.node < n) (sym c.requires.system.flat.every) c.requires.there in
    stops_told c.args.system.on.net.now c.args.system.flats.now c.requires.system.flat c.args.node there c.new-segs.result.items c.push_stops.new.segs.items c.new-segs.ensures.items c.in_ok-push_stops.ensures
