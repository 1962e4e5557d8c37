use Rattle.dn_place.proofs.Proper.{system_slots}
use Rattle.dn_gather.specs.declared.wanted.Wanted.{Wanted}
use Rattle.dn_gather.proofs.Sought.{answer_first, answer_none}
use Rattle.dn_gather.proofs.booked.first_in_book.Goals as goal

pub returns : goal.returns
returns g c =
    let same = system_slots (λ k. (goal.UnitKind-dyn g k).meaning k.1) c.args.system c.args.book.now.grants c.tables-tables.result.now c.requires.system (record { few = c.facts.ensures.few; sized = c.facts.ensures.sized }) (rw c.tables-tables.ensures c.requires.kept) in
    let legal = c.requires.system.kinded.legal.legal in
    let wanted : Wanted _ _ = record { system = c.args.system; tables = c.tables-tables.result; agent = c.args.agent; rights = c.args.rights; pieces = c.args.pieces } in
    record {
      first = answer_first (λ k. (goal.UnitKind-dyn g k).meaning k.1) wanted c.args.book.now.grants legal c.requires.kept.sound c.requires.rights same c.first_scatter.result c.first_scatter.ensures.some;
      none = answer_none (λ k. (goal.UnitKind-dyn g k).meaning k.1) wanted c.args.book.now.grants legal c.requires.kept.sound c.requires.rights same c.first_scatter.result c.first_scatter.ensures.none;
    }
