use Rattle.std.proofs.Common.{List}
use Rattle.dn_kind.specs.Kind.{Meaning}
use Rattle.dn_kind.specs.Kinded.{kinds_of}
use Rattle.dn_lookup.proofs.Served.{answer_looked_up}
use Rattle.dn_lookup.proofs.lookup.lookup_whole.Goals as goal

pub returns-clause-exact : goal.returns-clause-exact
returns-clause-exact g c =
    let kinds : List Meaning = kinds_of (λ k. (goal.UnitKind-dyn g k).meaning k.1) c.args.on.kinds.now in
    answer_looked_up c.args.on.net.now kinds c.args.image.now c.args.access c.args.name c.args.version c.resolve.result c.requires.agent c.requires.whole c.requires.version c.resolve.ensures.resolved

pub resolve-requires-clause-image : goal.resolve-requires-clause-image
resolve-requires-clause-image g c = record {
  on = c.requires.on;
  rules = c.requires.rules;
  whole = c.requires.whole;
}
