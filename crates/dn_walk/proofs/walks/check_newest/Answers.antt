-- The least start is a node of the net.
use Rattle.std.proofs.Common.{◌∙◌, ◌<◌, sym, ap, map, length}
use Rattle.dn_walk.specs.Rows.{row_view}
use Rattle.dn_walk.specs.Ways.{least_of, start_names}
use Rattle.dn_walk.proofs.Onward.{start_there}
use Rattle.dn_walk.proofs.walks.check_newest.Goals as goal
use Rattle.dn_walk.proofs.walks.check_newest.Goals.{In-Some}

there : (c : In-Some) → c.in-Some.first.node < length c.args.checked.net.now
there c =
    start_there c.args.back c.args.levels.now.newest.items (length c.args.checked.net.now) c.in-Some.first c.requires.there (ap (λ l. least_of (start_names c.args.back (map row_view l))) (sym c.deref.ensures.value) ∙ sym c.least_start.ensures ∙ c.in-Some.is)

pub way-requires-clause-there : goal.way-requires-clause-there
way-requires-clause-there c = there (goal.at.way-requires-clause-there c).In-Some

pub way-requires-2-clause-there : goal.way-requires-2-clause-there
way-requires-2-clause-there c = there (goal.at.way-requires-2-clause-there c).In-Some
