use Rattle.std.proofs.Common.{◌≡◌, ◌++◌, ◌∙◌, sym, subst, append-nil, arith, IsTrue, All}
use Rattle.std.proofs.lemmas.List.{at_drop_all}
use Rattle.std.specs.List.Sorted.{IsNonDecreasingBy}
use Rattle.dn_net.specs.Decode.{in_some_block}
use Rattle.dn_net.specs.Rules.{block_in_range}
use Rattle.dn_net.proofs.Stretch.{raised, raised_firsts, raised_in_range, raised_lasts, raised_same}
use Rattle.dn_net.proofs.accepts.stretched_blocks.Goals as goal

pub returns-clause-firsts : goal.returns-clause-firsts
returns-clause-firsts c =
    let all : raised 0 c.args.blocks.now ≡ c.loop-block.rows.items = sym c.loop-block.invariant ∙ at_drop_all (λ l. c.loop-block.rows.items ++ raised c.loop-block.reach l) c.args.blocks.now c.loop-block.block-index c.loop-block-test.false ∙ append-nil _ in
    subst (λ l. IsNonDecreasingBy (λ b. b.lo) l) all (raised_firsts 0 c.args.blocks.now c.requires.sorted)

pub returns-clause-lasts : goal.returns-clause-lasts
returns-clause-lasts c =
    let all : raised 0 c.args.blocks.now ≡ c.loop-block.rows.items = sym c.loop-block.invariant ∙ at_drop_all (λ l. c.loop-block.rows.items ++ raised c.loop-block.reach l) c.args.blocks.now c.loop-block.block-index c.loop-block-test.false ∙ append-nil _ in
    subst (λ l. IsNonDecreasingBy (λ b. b.hi) l) all (raised_lasts 0 c.args.blocks.now)

pub returns-clause-same : goal.returns-clause-same
returns-clause-same c a =
    let all : raised 0 c.args.blocks.now ≡ c.loop-block.rows.items = sym c.loop-block.invariant ∙ at_drop_all (λ l. c.loop-block.rows.items ++ raised c.loop-block.reach l) c.args.blocks.now c.loop-block.block-index c.loop-block-test.false ∙ append-nil _ in
    subst (λ l. in_some_block a l ≡ in_some_block a c.args.blocks.now) all (raised_same c.args.blocks.now c.requires.sorted a)

pub returns-clause-in_range : goal.returns-clause-in_range
returns-clause-in_range c valid =
    let all : raised 0 c.args.blocks.now ≡ c.loop-block.rows.items = sym c.loop-block.invariant ∙ at_drop_all (λ l. c.loop-block.rows.items ++ raised c.loop-block.reach l) c.args.blocks.now c.loop-block.block-index c.loop-block-test.false ∙ append-nil _ in
    subst (λ l. All (λ b. IsTrue (block_in_range b)) l) all (raised_in_range 0 c.args.blocks.now (omega arith) valid)
