use Rattle.std.proofs.Common.{arith}
use Rattle.dn_radix.proofs.Read.{tree_size}
use Rattle.dn_radix.proofs.linear.linear.Goals as goal
use Rattle.dn_radix.proofs.linear.linear.Goals.{then-image-lt4096-via-then-image-lt4096, then-image-lt4096-via-else-image-lt4096+then-image-gt2147483648}

pub returns-then-image-lt4096-clause-none : goal.returns-then-image-lt4096-clause-none
returns-then-image-lt4096-clause-none c = λ _ ws t.
    let s = tree_size c.args.image.now c.args.words ws c.requires.few t in
    elim c.then-image-lt4096.branch [
      | then-image-lt4096-via-then-image-lt4096 w ↦ absurd (omega (arith, s.0, w.if-image-lt4096.true))
      | then-image-lt4096-via-else-image-lt4096+then-image-gt2147483648 w ↦ absurd (omega (arith, s.1, w.if-image-gt2147483648.true))
    ]
