use Rattle.std.proofs.Common.{rules}
use Rattle.dn_base.proofs.Told.{front_told, TakenAtMost-then}
use Rattle.dn_audit.proofs.input.read_up_to.Goals as goal

pub returns-then-count-eq0-clause-front : goal.returns-then-count-eq0-clause-front
returns-then-count-eq0-clause-front g c =
    front_told c.args.limit (g.S.Source.left c.args.source.now) (g.S.Source.left c.read.new.self) c.loop-piece.input.items (search rules) (search rules) (search rules)

pub returns-in_default-extend_from_slice-clause-at_most : goal.returns-in_default-extend_from_slice-clause-at_most
returns-in_default-extend_from_slice-clause-at_most g c =
    TakenAtMost-then c.args.limit _ _ _ _ _ c.loop-piece.invariant.taken c.in-Ok.ensures.taken (search rules)

pub returns-clause-front : goal.returns-clause-front
returns-clause-front g c =
    front_told c.args.limit (g.S.Source.left c.args.source.now) (g.S.Source.left c.loop-piece.source) c.loop-piece.input.items (search rules) (search rules) (search rules)
