use Rattle.std.proofs.Common.{◌≡◌, ◌∙◌, ◌+◌, ◌-◌, ◌*◌, ◌++◌, [], ◌∷◌, false, true, List, ℕ, sym, ap, arith, rules, drop, append-nil}
use Rattle.dn_radix.specs.Tree.{entries, are_all_zero, page_count, pages_of, pieces, room}
use Rattle.dn_radix.proofs.Steps.{none_left, pages_pass, pages_take, entries_pass, entries_take}
use Rattle.dn_radix.proofs.build.entries_of.Goals as goal
use Rattle.dn_radix.proofs.build.entries_of.Goals.{then-are_zero+in_ok-push, else-are_zero+in_ok-push-2}

pub overflow_add-next : goal.overflow_add-next
overflow_add-next c =
    let z : are_all_zero c.piece-part.result.words.now ≡ false = search rules in
    let whole : ℕ = c.args.first + pages_of (page_count c.args.below) (pieces 512 (room c.args.below) c.args.leaves.words.now) in
    let on = pages_take (page_count c.args.below) 512 (room c.args.below) c.loop-k.k c.loop-k.next whole c.args.leaves.words.now c.piece-part.result.words.now c.loop-k-test.true c.piece-part.ensures z c.loop-k.invariant.pages in
    let few = c.requires.few in
    let e = c.count_pages-next.ensures in
    omega (arith, on, few, e)

pub loop-k-preserved : goal.loop-k-preserved
loop-k-preserved c =
    let f : List ℕ → ℕ = page_count c.args.below in
    let size : ℕ = room c.args.below in
    let all : ℕ = c.args.first + pages_of f (pieces 512 size c.args.leaves.words.now) in
    let whole : List ℕ = entries f c.args.first (pieces 512 size c.args.leaves.words.now) in
    let ws : List ℕ = c.args.leaves.words.now in
    let p : List ℕ = c.piece-part.result.words.now in
    let rest : List (List ℕ) = pieces (512 - (c.loop-k.k + 1)) size (drop ((c.loop-k.k + 1) * size) ws) in
    elim c.if-are_zero.branch [
      | then-are_zero+in_ok-push w ↦
          let z : are_all_zero p ≡ true = search rules in
          let on = pages_pass f 512 size c.loop-k.k c.loop-k.next all ws p c.loop-k-test.true c.piece-part.ensures z c.loop-k.invariant.pages in
          let e = w.next-is in
          let o : c.if-are_zero.list.items ≡ c.loop-k.list.items ++ 0 ∷ [] = ap (λ v. v.items) w.list-is ∙ w.in_ok-push.ensures.items in
          let made = entries_pass f 512 size c.loop-k.k c.loop-k.next ws p c.loop-k.list.items c.if-are_zero.list.items whole c.loop-k-test.true c.piece-part.ensures z o c.loop-k.invariant.made in
          record {
            pages = omega (arith, on, e);
            made = ap (λ n. c.if-are_zero.list.items ++ entries f n rest) e ∙ made;
          }
      | else-are_zero+in_ok-push-2 w ↦
          let z : are_all_zero p ≡ false = search rules in
          let on = pages_take f 512 size c.loop-k.k c.loop-k.next all ws p c.loop-k-test.true c.piece-part.ensures z c.loop-k.invariant.pages in
          let n = w.count_pages-next.ensures in
          let e : c.if-are_zero.next ≡ c.loop-k.next + f p = w.next-is ∙ ap (λ m. c.loop-k.next + m) n in
          let o : c.if-are_zero.list.items ≡ c.loop-k.list.items ++ (4096 * c.loop-k.next + 1) ∷ [] = ap (λ v. v.items) w.list-is ∙ (w.in_ok-push-2.ensures.items ∙ ap (λ m. c.loop-k.list.items ++ (4096 * m + 1) ∷ []) w.from.ensures) in
          let made = entries_take f 512 size c.loop-k.k c.loop-k.next ws p c.loop-k.list.items c.if-are_zero.list.items whole c.loop-k-test.true c.piece-part.ensures z o c.loop-k.invariant.made in
          record {
            pages = omega (arith, on, e);
            made = ap (λ m. c.if-are_zero.list.items ++ entries f m rest) e ∙ made;
          }
    ]

pub returns : goal.returns
returns c =
    let none = none_left 512 c.loop-k.k (room c.args.below) (drop (c.loop-k.k * room c.args.below) c.args.leaves.words.now) c.loop-k-test.false in
    sym (append-nil c.loop-k.list.items)
    ∙ ap (λ (ps : List (List ℕ)). c.loop-k.list.items ++ entries (page_count c.args.below) c.loop-k.next ps) (sym none)
    ∙ c.loop-k.invariant.made
