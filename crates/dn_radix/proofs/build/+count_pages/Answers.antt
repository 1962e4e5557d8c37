use Rattle.std.proofs.Common.{◌≡◌, ◌-◌, ◌*◌, false, true, ap, arith, rules, drop}
use Rattle.dn_radix.specs.Tree.{are_all_zero, page_count, pages_of, room}
use Rattle.dn_radix.proofs.Pieces.{tree_few}
use Rattle.dn_radix.proofs.Steps.{count_first, count_begun, none_left, pages_pass, pages_take}
use Rattle.dn_radix.proofs.build.+count_pages.Goals as goal
use Rattle.dn_radix.proofs.build.+count_pages.Goals.{then-not-are_zero, else-not-are_zero}

pub returns-then-level-eq0 : goal.returns-then-level-eq0
returns-then-level-eq0 t c = count_first c.args.level c.args.leaves.words.now c.if-level-eq0.true

pub loop-k-init : goal.loop-k-init
loop-k-init t c = count_begun c.args.level c.args.leaves.words.now c.if-level-eq0.false

pub overflow_add-count : goal.overflow_add-count
overflow_add-count t c =
    let z : are_all_zero c.piece-part.result.words.now ≡ false = search rules in
    let on = pages_take (page_count (c.args.level - 1)) 512 (room (c.args.level - 1)) c.loop-k.k c.loop-k.count (page_count c.args.level c.args.leaves.words.now) c.args.leaves.words.now c.piece-part.result.words.now c.loop-k-test.true c.piece-part.ensures z c.loop-k.invariant in
    let few = tree_few c.args.level c.args.leaves.words.now c.requires in
    let e = c.count_pages-count.ensures in
    omega (arith, on, few, e)

pub loop-k-preserved : goal.loop-k-preserved
loop-k-preserved t c =
    elim c.if-not-are_zero.branch [
      | then-not-are_zero w ↦
          let z : are_all_zero c.piece-part.result.words.now ≡ false = search rules in
          let on = pages_take (page_count (c.args.level - 1)) 512 (room (c.args.level - 1)) c.loop-k.k c.loop-k.count (page_count c.args.level c.args.leaves.words.now) c.args.leaves.words.now c.piece-part.result.words.now c.loop-k-test.true c.piece-part.ensures z c.loop-k.invariant in
          let e = w.count_pages-count.ensures in
          let f = w.count-is in
          omega (arith, on, e, f)
      | else-not-are_zero w ↦
          let z : are_all_zero c.piece-part.result.words.now ≡ true = search rules in
          let on = pages_pass (page_count (c.args.level - 1)) 512 (room (c.args.level - 1)) c.loop-k.k c.loop-k.count (page_count c.args.level c.args.leaves.words.now) c.args.leaves.words.now c.piece-part.result.words.now c.loop-k-test.true c.piece-part.ensures z c.loop-k.invariant in
          let f = w.count-is in
          omega (arith, on, f)
    ]

pub returns : goal.returns
returns t c =
    let none = ap (pages_of (page_count (c.args.level - 1))) (none_left 512 c.loop-k.k (room (c.args.level - 1)) (drop (c.loop-k.k * room (c.args.level - 1)) c.args.leaves.words.now) c.loop-k-test.false) in
    let on = c.loop-k.invariant in
    omega (arith, none, on)
