-- One block more.
use Rattle.std.proofs.Common.{◌≡◌, ◌∙◌, ◌+◌, ◌<◌, ◌≤◌, ap, sym, subst, ℕ, true, nat_le, List, ◌∷◌, get_or, drop, length, add-one, leb-true}
use Rattle.std.proofs.Math.Seq.{drop-cons}
use Rattle.std.proofs.lemmas.Bool.{and_parts}
use Rattle.dn_base.proofs.Lists.{drop_all}
use Rattle.dn_net.specs.declared.node.Block.{Block}
use Rattle.dn_net.specs.declared.node.NodeDecl.{NodeDecl}
use Rattle.dn_net.specs.Decode.{top}
use Rattle.dn_net.specs.Rules.{block_in_range}
use Rattle.dn_book.specs.declared.grant.Grant.{Grant}
use Rattle.dn_vector.proofs.Leasts.{IsTried, least_in, none_left, none_tried, tried_more}
use Rattle.dn_vector.proofs.search.least_of_blocks.Goals as goal

abbrev none : Block
none = record { lo = 0; hi = 0 }

-- the block to which the pass came, and those after it
at : (net : List NodeDecl) (book : List Grant) (agent line node : ℕ) (bs : List Block) (i next : ℕ) → i < length bs → IsTried net book agent line node bs (drop i bs) next → IsTried net book agent line node bs (get_or bs i none ∷ drop (i + 1) bs) next
at net book agent line node bs i next l t = subst (λ rest. IsTried net book agent line node bs rest next) (drop-cons bs i none l ∙ ap (λ n. get_or bs i none ∷ drop n bs) (sym (add-one i))) t

last_low : (b : Block) → block_in_range b ≡ true → b.hi ≤ top
last_low b e = leb-true b.hi top (and_parts (nat_le b.lo b.hi) (nat_le b.hi top) e).1

pub loop-block-init : goal.loop-block-init
loop-block-init g c = none_tried c.args.asked.system.on.net.now c.args.asked.book.now.grants c.args.asked.agent c.args.asked.line c.args.asked.node c.args.blocks.now c.requires.order

pub least_between-requires-clause-few : goal.least_between-requires-clause-few
least_between-requires-clause-few g c = last_low (get_or c.args.blocks.now c.loop-block.block-index none) (c.requires.in_range c.loop-block.block-index none c.loop-block-test.true)

pub returns-in-Some : goal.returns-in-Some
returns-in-Some g c =
    let net = c.args.asked.system.on.net.now in
    let book = c.args.asked.book.now.grants in
    let b : Block = get_or c.args.blocks.now c.loop-block.block-index none in
    least_in net book c.args.asked.agent c.args.asked.line c.args.asked.node c.args.blocks.now b (drop (c.loop-block.block-index + 1) c.args.blocks.now) c.loop-block.next c.later-first.result _ _
    (at net book c.args.asked.agent c.args.asked.line c.args.asked.node c.args.blocks.now c.loop-block.block-index c.loop-block.next c.loop-block-test.true c.loop-block.invariant)
    c.later-first.ensures.least c.later-first.ensures.other (last_low b (c.requires.in_range c.loop-block.block-index none c.loop-block-test.true))
    (rw c.in-Some.is at c.in_ok-found.ensures)

pub loop-block-preserved : goal.loop-block-preserved
loop-block-preserved g c =
    let net = c.args.asked.system.on.net.now in
    let book = c.args.asked.book.now.grants in
    let b : Block = get_or c.args.blocks.now c.loop-block.block-index none in
    tried_more net book c.args.asked.agent c.args.asked.line c.args.asked.node c.args.blocks.now b (drop (c.loop-block.block-index + 1) c.args.blocks.now) c.loop-block.next c.later-first.result c.later-next.result
    (at net book c.args.asked.agent c.args.asked.line c.args.asked.node c.args.blocks.now c.loop-block.block-index c.loop-block.next c.loop-block-test.true c.loop-block.invariant)
    c.later-first.ensures.least c.later-next.ensures.one c.later-next.ensures.other c.later-next.ensures.least
    (rw c.in_default.is at c.in_ok-found.ensures)

pub returns : goal.returns
returns g c =
    let net = c.args.asked.system.on.net.now in
    let book = c.args.asked.book.now.grants in
    let bs = c.args.blocks.now in
    λ a e free. none_left net book c.args.asked.agent c.args.asked.line c.args.asked.node bs c.loop-block.next
    (subst (λ rest. IsTried net book c.args.asked.agent c.args.asked.line c.args.asked.node bs rest c.loop-block.next) (drop_all c.loop-block.block-index bs c.loop-block-test.false) c.loop-block.invariant) a e free
