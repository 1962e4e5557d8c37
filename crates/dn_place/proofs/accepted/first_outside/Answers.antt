use Rattle.std.proofs.Common.{◌+◌, ◌<◌, ◌∙◌, ap, sym, subst, arith, ℕ, List, ◌∷◌, get_or, drop, length, add-one}
use Rattle.std.proofs.Math.Seq.{drop-cons}
use Rattle.dn_base.proofs.Lists.{drop_all}
use Rattle.dn_net.specs.declared.node.Block.{Block}
use Rattle.dn_net.proofs.Woven.{ascends_from}
use Rattle.dn_place.proofs.Unaccepted.{IsPassed, none_passed, outside_before, outside_last, passed_by, passed_in}
use Rattle.dn_place.proofs.accepted.first_outside.Goals.{then-first-block-2, else-first-block-2}
use Rattle.dn_place.proofs.accepted.first_outside.Goals as goal

-- the block to which the pass came, and those behind it
at : (base first : ℕ) (bs : List Block) (i : ℕ) (z : Block) → i < length bs → IsPassed base first bs (drop i bs) → IsPassed base first bs (get_or bs i z ∷ drop (i + 1) bs)
at base first bs i z l p = subst (λ rest. IsPassed base first bs rest) (drop-cons bs i z l ∙ ap (λ n. get_or bs i z ∷ drop n bs) (sym (add-one i))) p

pub loop-block-init : goal.loop-block-init
loop-block-init c = none_passed c.args.base c.args.blocks.now (ascends_from (λ (b : Block). b.lo) 0 c.args.blocks.now c.requires.order (λ d l. omega arith))

pub returns-then-first-block-clause-outside : goal.returns-then-first-block-clause-outside
returns-then-first-block-clause-outside c =
    let z : Block = record { lo = 0; hi = 0 } in
    let bs = c.args.blocks.now in
    let i = c.loop-block.block-index in
    outside_before c.args.base c.loop-block.first bs (get_or bs i z) (drop (i + 1) bs) (at c.args.base c.loop-block.first bs i z c.loop-block-test.true c.loop-block.invariant) c.if-first-block.true

pub loop-block-preserved : goal.loop-block-preserved
loop-block-preserved c =
    let z : Block = record { lo = 0; hi = 0 } in
    let bs = c.args.blocks.now in
    let i = c.loop-block.block-index in
    let now = at c.args.base c.loop-block.first bs i z c.loop-block-test.true c.loop-block.invariant in
    elim c.if-first-block-2.branch [
      | then-first-block-2 w ↦ subst (λ f. IsPassed c.args.base f bs (drop (i + 1) bs)) (sym w.first-is) (passed_in c.args.base c.loop-block.first bs (get_or bs i z) (drop (i + 1) bs) now c.if-first-block.false w.if-first-block-2.true)
      | else-first-block-2 w ↦ subst (λ f. IsPassed c.args.base f bs (drop (i + 1) bs)) (sym w.first-is) (passed_by c.args.base c.loop-block.first bs (get_or bs i z) (drop (i + 1) bs) now w.if-first-block-2.false)
    ]

pub returns-clause-outside : goal.returns-clause-outside
returns-clause-outside c = outside_last c.args.base c.loop-block.first c.args.blocks.now (subst (λ rest. IsPassed c.args.base c.loop-block.first c.args.blocks.now rest) (drop_all c.loop-block.block-index c.args.blocks.now c.loop-block-test.false) c.loop-block.invariant)
