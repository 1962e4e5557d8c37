use Rattle.std.proofs.Common.{◌≡◌, ◌∙◌, ◌++◌, [], ◌∷◌, false, true, ap, arith, rules}
use Rattle.dn_radix.specs.Tree.{are_all_zero}
use Rattle.dn_radix.proofs.Zeros.{marks_more, marks_all, one_more}
use Rattle.dn_radix.proofs.leaves.marks_of.Goals as goal
use Rattle.dn_radix.proofs.leaves.marks_of.Goals.{then-is_zero+in_ok-push, else-is_zero+in_ok-push-2}

pub loop-page-preserved : goal.loop-page-preserved
loop-page-preserved c =
    let count = c.loop-page.invariant.count in
    let before = c.loop-page.invariant.marked in
    let part = c.cut-part.ensures in
    elim c.if-is_zero.branch [
      | then-is_zero+in_ok-push w ↦
          let z : are_all_zero c.cut-part.result.now ≡ true = search rules in
          let o : c.if-is_zero.marks.items ≡ c.loop-page.marks.items ++ 0 ∷ [] = ap (λ v. v.items) w.marks-is ∙ w.in_ok-push.ensures.items in
          record {
            count = one_more c.loop-page.marks.items c.if-is_zero.marks.items 0 c.loop-page.page count o;
            marked = marks_more 512 c.args.words.now c.loop-page.marks.items c.if-is_zero.marks.items c.cut-part.result.now c.loop-page.page 0 count before part z o;
          }
      | else-is_zero+in_ok-push-2 w ↦
          let z : are_all_zero c.cut-part.result.now ≡ false = search rules in
          let o : c.if-is_zero.marks.items ≡ c.loop-page.marks.items ++ 1 ∷ [] = ap (λ v. v.items) w.marks-is ∙ w.in_ok-push-2.ensures.items in
          record {
            count = one_more c.loop-page.marks.items c.if-is_zero.marks.items 1 c.loop-page.page count o;
            marked = marks_more 512 c.args.words.now c.loop-page.marks.items c.if-is_zero.marks.items c.cut-part.result.now c.loop-page.page 1 count before part z o;
          }
    ]

pub returns : goal.returns
returns c =
    let done = c.loop-page-test.false in
    marks_all c.args.words.now c.loop-page.marks.items c.loop-page.page c.loop-page.invariant.count c.loop-page.invariant.marked (omega (arith, done))
