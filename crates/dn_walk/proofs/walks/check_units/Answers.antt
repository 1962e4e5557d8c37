-- The first fork, or else the first chain, is the rule on units that is broken.
use Rattle.std.proofs.Common.{◌≡◌, ◌∙◌, None, option_map, ap, sym, map}
use Rattle.dn_net.specs.UnitRules.{least_fork}
use Rattle.dn_net.specs.WalkRules.{has_chain}
use Rattle.dn_walk.proofs.Legal.{fork_part, chain_part}
use Rattle.dn_walk.specs.Rows.{row_view}
use Rattle.dn_walk.proofs.Overs.{rows_there, none_of}
use Rattle.dn_walk.proofs.Shown.{fork_view, shown_is_least}
use Rattle.dn_walk.proofs.walks.check_units.Goals as goal

pub least_fork-requires-clause-starts : goal.least_fork-requires-clause-starts
least_fork-requires-clause-starts c = λ k d l. (rows_there c.args.checked.net.now c.args.checked.rules c.args.rows.now c.requires.walks k d l).0

pub least_fork-requires-clause-ends : goal.least_fork-requires-clause-ends
least_fork-requires-clause-ends c = λ k d l. (rows_there c.args.checked.net.now c.args.checked.rules c.args.rows.now c.requires.walks k d l).1

pub returns-in-Some : goal.returns-in-Some
returns-in-Some c =
    let net = c.args.checked.net.now in
    let least = shown_is_least net c.args.checked.rules c.requires.shallow c.facts.ensures.formed (map row_view c.args.rows.now) c.requires.walks c.least_fork.result c.least_fork.ensures in
    fork_part net (fork_view c.in-Some.field-0) (least ∙ ap (option_map fork_view) c.in-Some.is)

pub returns-in-Some-2 : goal.returns-in-Some-2
returns-in-Some-2 c =
    let net = c.args.checked.net.now in
    let least = shown_is_least net c.args.checked.rules c.requires.shallow c.facts.ensures.formed (map row_view c.args.rows.now) c.requires.walks c.least_fork.result c.least_fork.ensures in
    let none : least_fork net ≡ None = least ∙ ap (option_map fork_view) (none_of c.least_fork.result c.in_default.not-Some) in
    chain_part net none ∙ ap (option_map has_chain) (sym c.in_ok-units.ensures ∙ c.in-Some-2.is)

pub returns : goal.returns
returns c =
    let net = c.args.checked.net.now in
    let least = shown_is_least net c.args.checked.rules c.requires.shallow c.facts.ensures.formed (map row_view c.args.rows.now) c.requires.walks c.least_fork.result c.least_fork.ensures in
    let none : least_fork net ≡ None = least ∙ ap (option_map fork_view) (none_of c.least_fork.result c.in_default.not-Some) in
    chain_part net none ∙ ap (option_map has_chain) (sym c.in_ok-units.ensures ∙ none_of c.in_ok-units.field-0 c.in_default-2.not-Some)
