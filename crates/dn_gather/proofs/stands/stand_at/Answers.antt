use Rattle.std.proofs.Common.{◌%◌, ◌^◌, arith, sym}
use Rattle.dn_gather.proofs.Ranked.{exits_ranked}
use Rattle.dn_gather.proofs.Searching.{agrees_none}
use Rattle.dn_gather.proofs.Tries.{can_here}
use Rattle.dn_gather.specs.Grounds.{request_for}
use Rattle.dn_gather.proofs.stands.stand_at.Goals as goal

pub returns-in_err-x-clause-none : goal.returns-in_err-x-clause-none
returns-in_err-x-clause-none g c = rw c.from_residual.ensures (λ x can. c.in_err-x.ensures.none x can.stands.fits can.stands.within can.stands.enters)

pub returns-then-past-end-clause-none : goal.returns-then-past-end-clause-none
returns-then-past-end-clause-none g c = λ z can.
    let k = can_here (λ k. (goal.UnitKind-dyn g k).meaning k.1) c.args.ground c.requires.ground c.args.piece c.args.a c.in_ok-x.x z c.requires.sized c.in_ok-x.ensures.some can in
    omega (arith, c.if-past-end.true, c.inputs-end.ensures, k.stands.within)

pub returns-then-not-is_open-clause-none : goal.returns-then-not-is_open-clause-none
returns-then-not-is_open-clause-none g c = λ z can.
    let k = can_here (λ k. (goal.UnitKind-dyn g k).meaning k.1) c.args.ground c.requires.ground c.args.piece c.args.a c.in_ok-x.x z c.requires.sized c.in_ok-x.ensures.some can in
    c.is_open.ensures.no c.if-not-is_open.true k.stands.free k.alone

pub has_agreeing-requires-clause-ranked : goal.has_agreeing-requires-clause-ranked
has_agreeing-requires-clause-ranked g c = exits_ranked c.args.ground.wanted.system.on.net.now c.args.ground.translator.now (request_for c.args.ground.wanted c.args.piece) c.args.exits.now c.requires.sized.some c.requires.ground.bounds c.requires.exits

pub returns-then-not-has_agreeing-clause-none : goal.returns-then-not-has_agreeing-clause-none
returns-then-not-has_agreeing-clause-none g c = λ z can.
    let k = can_here (λ k. (goal.UnitKind-dyn g k).meaning k.1) c.args.ground c.requires.ground c.args.piece c.args.a c.in_ok-x.x z c.requires.sized c.in_ok-x.ensures.some can in
    agrees_none c.args.ground.translator.now.page (c.in_ok-x.x % 2 ^ c.args.ground.translator.now.page) k.port k.y c.args.exits.now (c.has_agreeing.ensures c.if-not-has_agreeing.true) (c.requires.exits.all k.port k.y k.gives k.lone) (sym k.agree)

pub returns-clause-some : goal.returns-clause-some
returns-clause-some g c = record {
  some = c.requires.sized.some;
  fits = c.in_ok-x.ensures.fits;
  within = (let e = c.inputs-end.ensures in omega (arith, c.if-past-end.false, e));
  enters = c.in_ok-x.ensures.some;
  free = c.is_open.ensures.yes c.if-not-is_open.false;
}
