use Rattle.std.proofs.Common.{rules}
use Rattle.dn_base.proofs.Told.{front_told, TakenAtMost-then}
use Rattle.dn_base.specs.Outside.{input_limit}
use Rattle.dn_base.proofs.whole.read_whole.Goals as goal

pub returns-then-count-eq0-clause-front : goal.returns-then-count-eq0-clause-front
returns-then-count-eq0-clause-front g c =
    front_told input_limit (g.S.Source.left c.args.source.now) (g.S.Source.left c.read.new.self) c.loop-piece.text.items (search rules) (search rules) (search rules)

pub returns-in_default-extend_from_slice-clause-at_most : goal.returns-in_default-extend_from_slice-clause-at_most
returns-in_default-extend_from_slice-clause-at_most g c =
    TakenAtMost-then input_limit _ _ _ _ _ c.loop-piece.invariant.taken c.in-Ok.ensures.taken (search rules)

pub returns-clause-front : goal.returns-clause-front
returns-clause-front g c =
    front_told input_limit (g.S.Source.left c.args.source.now) (g.S.Source.left c.loop-piece.source) c.loop-piece.text.items (search rules) (search rules) (search rules)
