use Rattle.std.proofs.Common.{List, arith}
use Rattle.dn_kind.specs.Kind.{Meaning}
use Rattle.dn_kind.specs.Kinded.{kinds_of}
use Rattle.dn_image.proofs.Answered.{all_bytes, found_by, only_by}
use Rattle.dn_image.proofs.read.read.Goals as goal

pub returns-clause-found : goal.returns-clause-found
returns-clause-found g c =
    let kinds : List Meaning = kinds_of (λ k. (goal.UnitKind-dyn g k).meaning k.1) c.args.on.kinds.now in
    found_by c.args.on.net.now kinds c.args.bytes.now c.reading.result (all_bytes c.args.bytes.now (λ i. omega (arith, c.type_inv.bytes i))) c.reading.ensures

pub returns-clause-only : goal.returns-clause-only
returns-clause-only g c =
    let kinds : List Meaning = kinds_of (λ k. (goal.UnitKind-dyn g k).meaning k.1) c.args.on.kinds.now in
    only_by c.args.on.net.now kinds c.args.bytes.now c.reading.result c.reading.ensures
