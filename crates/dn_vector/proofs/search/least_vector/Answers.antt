-- The blocks have what the node accepts.
use Rattle.std.proofs.Common.{rules, refl, subst, List}
use Rattle.dn_base.proofs.Lists.{item_there}
use Rattle.dn_walk.proofs.Nodes.{node_in_range}
use Rattle.dn_book.specs.declared.grant.Grant.{Grant}
use Rattle.dn_book.specs.Book.{slots_of}
use Rattle.dn_book.proofs.Begun.{book_is_proper}
use Rattle.dn_vector.specs.Search.{AreTaken}
use Rattle.dn_vector.specs.Vectors.{vector_request}
use Rattle.dn_vector.proofs.Allowed.{vectors_there}
use Rattle.dn_vector.proofs.Founds.{found_on}
use Rattle.dn_vector.proofs.Leasts.{least_free, none_free}
use Rattle.dn_vector.proofs.search.least_vector.Goals as goal

pub returns-then-is_shut : goal.returns-then-is_shut
returns-then-is_shut g c =
    λ vector free. c.is_shut.ensures c.if-is_shut.true (vector_request c.args.asked.agent c.args.asked.node vector) refl

pub returns-then-is_crowded : goal.returns-then-is_crowded
returns-then-is_crowded g c =
    let net = c.args.asked.system.on.net.now in
    let book = c.args.asked.book.now.grants in
    λ vector free. c.is_crowded.ensures c.if-is_crowded.true (slots_of net book) (vector_request c.args.asked.agent c.args.asked.node vector) (book_is_proper net book c.requires.asked.system.kinded.legal.legal c.requires.asked.kept.sound) refl refl

pub accept_rows-blocks-requires : goal.accept_rows-blocks-requires
accept_rows-blocks-requires g c = vectors_there c.args.asked.system.on.net.now c.args.asked.node c.requires.asked.target

pub least_of_blocks-requires-clause-sought : goal.least_of_blocks-requires-clause-sought
least_of_blocks-requires-clause-sought g c = record {
  asked = c.requires.asked;
  reach = search rules;
  line = search rules;
  taken = subst (λ (gs : List Grant). AreTaken gs c.args.asked.node c.in_ok-taken.taken) c.grants.ensures c.in_ok-taken.ensures;
}

pub least_of_blocks-requires-clause-in_range : goal.least_of_blocks-requires-clause-in_range
least_of_blocks-requires-clause-in_range g c =
    let net = c.args.asked.system.on.net.now in
    let d = item_there net c.args.asked.node (vectors_there net c.args.asked.node c.requires.asked.target) in
    c.accept_rows-blocks.ensures.in_range d.0 d.1 (node_in_range net c.requires.asked.system.kinded.legal.legal.nodes.each c.args.asked.node d.0 d.1).0

pub returns : goal.returns
returns g c =
    let net = c.args.asked.system.on.net.now in
    let book = c.args.asked.book.now.grants in
    let blocks = c.accept_rows-blocks.result.now in
    let d = item_there net c.args.asked.node (vectors_there net c.args.asked.node c.requires.asked.target) in
    found_on c.least_of_blocks.result c.least_of_blocks.ensures
    (λ f is. least_free net book c.args.asked.agent c.args.asked.line c.args.asked.node d.0 blocks d.1 (c.accept_rows-blocks.ensures.same d.0 d.1) f.vector f.placement is)
    (λ none. none_free net book c.args.asked.agent c.args.asked.line c.args.asked.node d.0 blocks d.1 (c.accept_rows-blocks.ensures.same d.0 d.1) none)
