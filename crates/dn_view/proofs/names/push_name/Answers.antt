-- The name that the segment gives to the address, or none.
use Rattle.std.proofs.Common.{◌∙◌, ap, arith}
use Rattle.dn_interval.specs.Strands.{seg_gives}
use Rattle.dn_walk.specs.Ends.{end_of}
use Rattle.dn_view.specs.Named.{has_name}
use Rattle.dn_view.proofs.Single.{name_put, none_put, off_high, off_low}
use Rattle.dn_view.proofs.names.push_name.Goals as goal

pub returns-then-addr-seg : goal.returns-then-addr-seg
returns-then-addr-seg c z = none_put (has_name c.args.found.now.items z) (seg_gives c.args.seg c.args.addr (end_of z)) (off_low c.args.seg c.args.addr (end_of z) c.if-addr-seg.true)

pub returns-then-seg-addr : goal.returns-then-seg-addr
returns-then-seg-addr c z = none_put (has_name c.args.found.now.items z) (seg_gives c.args.seg c.args.addr (end_of z)) (off_high c.args.seg c.args.addr (end_of z) (let l = c.if-addr-seg.false in omega (arith, l)) c.if-seg-addr.true)

pub returns : goal.returns
returns c z =
    let s = c.args.seg in
    ap (λ l. has_name l z) c.in_ok-push.ensures.items ∙ name_put c.args.found.now.items s c.args.addr z (let l = c.if-addr-seg.false in omega (arith, l)) (let h = c.if-seg-addr.false in omega (arith, h))
