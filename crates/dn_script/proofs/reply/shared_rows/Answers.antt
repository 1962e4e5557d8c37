use Rattle.std.proofs.Common.{arith, subst, Option, IfSome}
use Rattle.dn_script.specs.declared.state.FirstView.{FirstView}
use Rattle.dn_script.specs.State.{IsFirstView}
use Rattle.dn_script.proofs.reply.shared_rows.Goals as goal

pub is_shared-requires-clause-node : goal.is_shared-requires-clause-node
is_shared-requires-clause-node c =
    let first : IsFirstView c.args.net.now c.in-Some.first = subst (λ (o : Option FirstView). IfSome o (IsFirstView c.args.net.now)) c.in-Some.is c.requires.first in
    omega (arith, first.there, c.requires.flats.every)

pub is_shared-requires-clause-other : goal.is_shared-requires-clause-other
is_shared-requires-clause-other c = omega (arith, c.requires.there, c.requires.flats.every)

pub fixed_view-requires-clause-flat : goal.fixed_view-requires-clause-flat
fixed_view-requires-clause-flat c =
    let first : IsFirstView c.args.net.now c.in-Some.first = subst (λ (o : Option FirstView). IfSome o (IsFirstView c.args.net.now)) c.in-Some.is c.requires.first in
    c.is_shared.ensures c.if-is_shared.true c.args.net.now c.in-Some.first.flat c.requires.flats first.flat
