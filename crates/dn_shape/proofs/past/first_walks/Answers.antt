-- What is told of the walks of one choice.
use Rattle.std.proofs.Common.{◌∙◌, ◌++◌, ap, map}
use Rattle.dn_net.specs.Walks.{still_walk, extensions_of}
use Rattle.dn_walk.specs.Legs.{leg_view}
use Rattle.dn_walk.specs.Rows.{bare_walk, row_view}
use Rattle.dn_walk.specs.Levels.{bare_extensions_by}
use Rattle.dn_shape.proofs.Walked.{first_bare, first_row, rows_far, rows_short}
use Rattle.dn_shape.proofs.past.first_walks.Goals as goal

first : goal.returns-clause-walks
first c =
    c.in_ok-push_walks.ensures
    ∙ ap (λ l. map row_view l ++ bare_extensions_by (map leg_view c.as_slice.result.now) (bare_walk (still_walk c.args.checked.node))) c.new-walks.ensures.items
    ∙ ap (λ l. bare_extensions_by (map leg_view l) (bare_walk (still_walk c.args.checked.node))) c.as_slice.ensures
    ∙ first_bare c.args.checked.net.now c.args.checked.node (map leg_view c.in_ok-legs.legs) c.in_ok-legs.ensures.legs

pub returns-clause-walks : goal.returns-clause-walks
returns-clause-walks c = first c

pub returns-clause-far : goal.returns-clause-far
returns-clause-far c = rows_far c.args.checked.net.now (extensions_of c.args.checked.net.now (still_walk c.args.checked.node)) c.push_walks.new.walks.items (λ w m. (1, first_row c.args.checked.net.now c.args.checked.rules c.args.checked.node c.args.checked.there w m)) (first c)

pub returns-clause-short : goal.returns-clause-short
returns-clause-short c = rows_short c.args.checked.net.now (extensions_of c.args.checked.net.now (still_walk c.args.checked.node)) c.push_walks.new.walks.items (λ w m. first_row c.args.checked.net.now c.args.checked.rules c.args.checked.node c.args.checked.there w m) (first c)
