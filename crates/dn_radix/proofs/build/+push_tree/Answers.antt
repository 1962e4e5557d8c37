use Rattle.std.proofs.Common.{◌≡◌, ◌∙◌, ◌+◌, ◌-◌, ◌*◌, ◌≤◌, ◌++◌, false, true, List, ℕ, length, sym, ap, arith, rules, subst, drop, append-nil}
use Rattle.dn_radix.specs.Tree.{entries, are_all_zero, page_count, pages_of, pieces, room, tree, trees, joined_bytes}
use Rattle.dn_radix.proofs.Pieces.{length_entries, length_pieces, piece_fits, pieces_first}
use Rattle.dn_radix.proofs.Steps.{begun, count_begun, tree_is, none_left, pages_pass, pages_take, trees_pass, trees_take}
use Rattle.dn_radix.proofs.build.+push_tree.Goals as goal
use Rattle.dn_radix.proofs.build.+push_tree.Goals.{then-not-are_zero+in_ok-push_tree, else-not-are_zero}

pub entries_of-requires-clause-few : goal.entries_of-requires-clause-few
entries_of-requires-clause-few t c =
    let a = count_begun c.args.level c.args.leaves.words.now c.if-level-eq0.false in
    let b = ap (pages_of (page_count (c.args.level - 1))) (pieces_first 512 (room (c.args.level - 1)) c.args.leaves.words.now) in
    let few = c.requires.few in
    omega (arith, a, b, few)

pub push_page-requires-2 : goal.push_page-requires-2
push_page-requires-2 t c =
    let f : List ℕ → ℕ = page_count (c.args.level - 1) in
    let long = length_entries f (c.args.at + 1) (pieces 512 (room (c.args.level - 1)) c.args.leaves.words.now) ∙ length_pieces 512 (room (c.args.level - 1)) c.args.leaves.words.now in
    let e = ap length (c.as_slice.ensures.value ∙ c.in_ok-entries.ensures) in
    omega (arith, long, e)

pub loop-k-init : goal.loop-k-init
loop-k-init t c =
    let a = count_begun c.args.level c.args.leaves.words.now c.if-level-eq0.false in
    let f : List ℕ → ℕ = page_count (c.args.level - 1) in
    let first = pieces_first 512 (room (c.args.level - 1)) c.args.leaves.words.now in
    let es : List ℕ = entries f (c.args.at + 1) (pieces 512 (room (c.args.level - 1)) c.args.leaves.words.now) in
    let long : length es ≡ 512 = length_entries f (c.args.at + 1) (pieces 512 (room (c.args.level - 1)) c.args.leaves.words.now) ∙ length_pieces 512 (room (c.args.level - 1)) c.args.leaves.words.now in
    let ts : List ℕ = trees f (tree (c.args.level - 1)) (c.args.at + 1) (pieces 512 (room (c.args.level - 1)) c.args.leaves.words.now) in
    let ts0 : List ℕ = trees f (tree (c.args.level - 1)) (c.args.at + 1) (pieces 512 (room (c.args.level - 1)) (drop (0 * room (c.args.level - 1)) c.args.leaves.words.now)) in
    record {
      pages = omega (arith, a);
      made = begun c.args.out.now.items _ es c.as_slice.result.now ts0 ts (tree c.args.level c.args.at c.args.leaves.words.now)
          (c.as_slice.ensures.value ∙ c.in_ok-entries.ensures) long c.in_ok-push_page.ensures
          (ap (λ (ps : List (List ℕ)). trees f (tree (c.args.level - 1)) (c.args.at + 1) ps) first)
          (tree_is c.args.level c.args.at c.args.leaves.words.now c.if-level-eq0.false);
    }

pub push_tree-requires : goal.push_tree-requires
push_tree-requires t c =
    let z : are_all_zero c.piece-part.result.words.now ≡ false = search rules in
    let on = pages_take (page_count (c.args.level - 1)) 512 (room (c.args.level - 1)) c.loop-k.k c.loop-k.next (c.args.at + page_count c.args.level c.args.leaves.words.now) c.args.leaves.words.now c.piece-part.result.words.now c.loop-k-test.true c.piece-part.ensures z c.loop-k.invariant.pages in
    let few = c.requires.few in
    let fits = subst (λ (q : List ℕ). length q ≤ room (c.args.level - 1)) (sym c.piece-part.ensures) (piece_fits (room (c.args.level - 1)) (drop (c.loop-k.k * room (c.args.level - 1)) c.args.leaves.words.now)) in
    (omega arith, (omega arith, (fits, omega (arith, on, few))))

pub overflow_add-next-then-not-are_zero : goal.overflow_add-next-then-not-are_zero
overflow_add-next-then-not-are_zero t c =
    let z : are_all_zero c.piece-part.result.words.now ≡ false = search rules in
    let on = pages_take (page_count (c.args.level - 1)) 512 (room (c.args.level - 1)) c.loop-k.k c.loop-k.next (c.args.at + page_count c.args.level c.args.leaves.words.now) c.args.leaves.words.now c.piece-part.result.words.now c.loop-k-test.true c.piece-part.ensures z c.loop-k.invariant.pages in
    let few = c.requires.few in
    let e = c.count_pages-next.ensures in
    omega (arith, on, few, e)

pub loop-k-preserved : goal.loop-k-preserved
loop-k-preserved t c =
    let f : List ℕ → ℕ = page_count (c.args.level - 1) in
    let made : ℕ → List ℕ → List ℕ = tree (c.args.level - 1) in
    let size : ℕ = room (c.args.level - 1) in
    let ws : List ℕ = c.args.leaves.words.now in
    let all : ℕ = c.args.at + page_count c.args.level ws in
    let whole : List ℕ = c.args.out.now.items ++ joined_bytes (tree c.args.level c.args.at ws) in
    let p : List ℕ = c.piece-part.result.words.now in
    let rest : List (List ℕ) = pieces (512 - (c.loop-k.k + 1)) size (drop ((c.loop-k.k + 1) * size) ws) in
    elim c.if-not-are_zero.branch [
      | then-not-are_zero+in_ok-push_tree w ↦
          let z : are_all_zero p ≡ false = search rules in
          let on = pages_take f 512 size c.loop-k.k c.loop-k.next all ws p c.loop-k-test.true c.piece-part.ensures z c.loop-k.invariant.pages in
          let e : c.if-not-are_zero.next ≡ c.loop-k.next + f p = w.next-is ∙ ap (λ m. c.loop-k.next + m) w.count_pages-next.ensures in
          let o : c.if-not-are_zero.out.items ≡ c.loop-k.out.items ++ joined_bytes (made c.loop-k.next p) = ap (λ v. v.items) w.out-is ∙ w.in_ok-push_tree.ensures in
          let trees' = trees_take f made 512 size c.loop-k.k c.loop-k.next ws p c.loop-k.out.items c.if-not-are_zero.out.items whole c.loop-k-test.true c.piece-part.ensures z o c.loop-k.invariant.made in
          record {
            pages = omega (arith, on, e);
            made = ap (λ m. c.if-not-are_zero.out.items ++ joined_bytes (trees f made m rest)) e ∙ trees';
          }
      | else-not-are_zero w ↦
          let z : are_all_zero p ≡ true = search rules in
          let on = pages_pass f 512 size c.loop-k.k c.loop-k.next all ws p c.loop-k-test.true c.piece-part.ensures z c.loop-k.invariant.pages in
          let e = w.next-is in
          let o : c.if-not-are_zero.out.items ≡ c.loop-k.out.items = ap (λ v. v.items) w.out-is in
          let trees' = trees_pass f made 512 size c.loop-k.k c.loop-k.next ws p c.loop-k.out.items whole c.loop-k-test.true c.piece-part.ensures z c.loop-k.invariant.made in
          record {
            pages = omega (arith, on, e);
            made = ap (λ (r : List ℕ). r ++ joined_bytes (trees f made c.if-not-are_zero.next rest)) o ∙ ap (λ m. c.loop-k.out.items ++ joined_bytes (trees f made m rest)) e ∙ trees';
          }
    ]

pub returns : goal.returns
returns t c =
    let none = none_left 512 c.loop-k.k (room (c.args.level - 1)) (drop (c.loop-k.k * room (c.args.level - 1)) c.args.leaves.words.now) c.loop-k-test.false in
    sym (append-nil c.loop-k.out.items)
    ∙ ap (λ (ps : List (List ℕ)). c.loop-k.out.items ++ joined_bytes (trees (page_count (c.args.level - 1)) (tree (c.args.level - 1)) c.loop-k.next ps)) (sym none)
    ∙ c.loop-k.invariant.made
