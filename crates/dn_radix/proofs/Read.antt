-- What bytes that are the tree of words say.
use Rattle.std.proofs.Common.{◌≡◌, ℕ, zero, suc, ◌<◌, ◌≤◌, List, [], ◌∷◌, length, get_or, Ok, Result, refl, sym, ap, ◌∙◌, arith}
use Rattle.dn_radix.specs.Tree.{level_of, tree, tree_bytes}
use Rattle.dn_radix.specs.Found.{found}
use Rattle.dn_radix.specs.Built.{IsTreeOf}
use Rattle.dn_radix.specs.Laws.{OneListOfTree}
use Rattle.dn_radix.proofs.Pieces.{length_tree, page_some, tree_few}
use Rattle.dn_radix.proofs.Words.{length_words}
use Rattle.dn_radix.proofs.Reached.{level_low, level_room, words_are_found}

-- how long it is
pub tree_size : (image : List ℕ) (count : ℕ) (ws : List ℕ) → count ≤ 1048576 → IsTreeOf image count ws → (4096 ≤ length image) × (length image ≤ 2147483648)
tree_size image count ws few t =
    let level : ℕ = level_of (length ws) in
    let short : length ws ≤ 1048576 = let e = t.count_is in omega (arith, e, few) in
    let a = length_tree level 0 ws (level_room (length ws) (omega (arith, short))) in
    let b = length_words (tree level 0 ws) in
    let c = page_some level ws in
    let d = tree_few level ws (level_low (length ws)) in
    let e : length image ≡ length (tree_bytes ws) = ap length t.tree in
    (omega (arith, a, b, c, d, e), omega (arith, a, b, c, d, e))

-- a word that is found in it
pub word_is : (image : List ℕ) (count at level : ℕ) (ws : List ℕ) (r : Result ℕ ℕ) → count ≤ 1048576 → at < count → level ≡ level_of count → IsTreeOf image count ws → r ≡ found image level at 0 → r ≡ Ok (get_or ws at 0)
word_is image count at level ws r few there e t h =
    let n = t.count_is in
    h ∙ ap (λ b. found b level at 0) t.tree
    ∙ ap (λ l. found (tree_bytes ws) l at 0) (e ∙ ap level_of (sym n))
    ∙ words_are_found ws at (omega (arith, n, few)) t.small (omega (arith, n, there))

-- lists of one length that have the same words at each place
pub same_lists : (ws vs : List ℕ) → length ws ≡ length vs → ((i : ℕ) → i < length ws → get_or ws i 0 ≡ get_or vs i 0) → ws ≡ vs
same_lists [] [] e same = refl
same_lists [] (v ∷ vs) e same = absurd (omega arith)
same_lists (w ∷ ws) [] e same = absurd (omega arith)
same_lists (w ∷ ws) (v ∷ vs) e same =
    let first : w ≡ v = same zero (omega arith) in
    let rest : ws ≡ vs = same_lists ws vs (omega (arith, e)) (λ i l. same (suc i) (omega (arith, l))) in
    ap (λ x. x ∷ ws) first ∙ ap (λ (l : List ℕ). v ∷ l) rest

pub one_list_of_tree : OneListOfTree
one_list_of_tree image count ws vs few t s = same_lists ws vs (t.count_is ∙ sym s.count_is) at
  where
    at : (i : ℕ) → i < length ws → get_or ws i 0 ≡ get_or vs i 0
    at i l =
        let n = t.count_is in
        let there : i < count = omega (arith, n, l) in
        let one = word_is image count i (level_of count) ws (found image (level_of count) i 0) few there refl t refl in
        let other = word_is image count i (level_of count) vs (found image (level_of count) i 0) few there refl s refl in
        let same : ◌≡◌ {A = Result ℕ ℕ} (Ok (get_or ws i 0)) (Ok (get_or vs i 0)) = sym one ∙ other in
        cc
