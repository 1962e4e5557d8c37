use Rattle.std.proofs.Common.{◌≡◌, sym, rules, List, None}
use Rattle.dn_kind.specs.Kind.{Meaning}
use Rattle.dn_kind.specs.Kinded.{kinds_of}
use Rattle.dn_image.specs.Reading.{broken_image}
use Rattle.dn_image.proofs.Places.{whole_size}
use Rattle.dn_image.proofs.read.reading.Goals as goal

pub read_words-requires-clause-size : goal.read_words-requires-clause-size
read_words-requires-clause-size g c =
    let kinds : List Meaning = kinds_of (λ k. (goal.UnitKind-dyn g k).meaning k.1) c.args.on.kinds.now in
    let whole : broken_image c.args.on.net.now kinds c.args.bytes.now ≡ None = search rules in
    sym (whole_size c.args.on.net.now kinds c.args.bytes.now whole)
