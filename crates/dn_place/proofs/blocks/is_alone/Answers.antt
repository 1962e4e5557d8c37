use Rattle.std.proofs.Common.{◌+◌, ◌-◌, ◌%◌, ◌<◌, refl, subst, pow_pos}
use Rattle.dn_place.specs.Blocks.{ShowsWithin}
use Rattle.dn_place.proofs.BlockRows.{beside_before, beside_behind}
use Rattle.dn_place.proofs.blocks.is_alone.Goals as goal

pub returns-then-branch : goal.returns-then-branch
returns-then-branch g c none =
    let net = c.args.system.on.net.now in
    beside_before net c.args.node c.args.y c.args.size c.args.block c.requires.some (pow_pos c.args.block)
    (subst (λ w. ShowsWithin net c.args.node (c.args.y - c.args.y % w) (c.args.y - 1)) c.power-width.ensures (c.in_ok-shows_some.ensures c.if-branch.true))
    (subst (λ w. c.args.y - c.args.y % w < c.args.y) c.power-width.ensures c.if-from-y.true)

pub returns-then-branch-2 : goal.returns-then-branch-2
returns-then-branch-2 g c none =
    let net = c.args.system.on.net.now in
    beside_behind net c.args.node c.args.y c.args.size c.args.block (c.args.y + (c.args.size - 1)) c.requires.some (pow_pos c.args.block) refl
    (subst (λ w. ShowsWithin net c.args.node (c.args.y + (c.args.size - 1) + 1) (c.args.y + (c.args.size - 1) - (c.args.y + (c.args.size - 1)) % w + (w - 1))) c.power-width.ensures (c.in_ok-shows_some-2.ensures c.if-branch-2.true))
