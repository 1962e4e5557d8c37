-- The words of a unit in the tables, and the pages of their tree.
use Rattle.std.proofs.Common.{◌≡◌, ◌∙◌, ap, sym, cond, refl, arith, ℕ, zero, suc, ◌*◌, ◌/◌, ◌≤◌, Bool, true, false, nat_le, List, [], ◌∷◌, ◌++◌, length, slice_index_or, Result, Ok, Err, IsTrue}
use Rattle.std.specs.List.{list_all}
use Rattle.dn_base.proofs.Booleans.{and_parts}
use Rattle.dn_tables.specs.declared.table.NodeTable.{NodeTable}
use Rattle.dn_tables.specs.Set.{is_sized, words_in, words_of}
use Rattle.dn_tables.proofs.Fresh.{few_words}
use Rattle.dn_radix.specs.Built.{built}
use Rattle.dn_radix.specs.Tree.{level_of, page_count, tree, tree_bytes, tree_pages}
use Rattle.dn_radix.proofs.Pieces.{length_tree}
use Rattle.dn_radix.proofs.Reached.{level_room}
use Rattle.dn_radix.proofs.Words.{length_words}
use Rattle.dn_print.specs.Dump.{lines_text}
use Rattle.dn_script.specs.Radix.{pages_heading, tree_text}

-- the words of a node in a set are those in the list of all
pub words_at : (set : List NodeTable) (node : ℕ) → words_in set node ≡ slice_index_or (words_of set) node []
words_at [] node = refl
words_at (t ∷ set) zero = refl
words_at (t ∷ set) (suc node) = words_at set node

-- and they are few
pub few_in : (set : List NodeTable) (node : ℕ) → IsTrue (list_all is_sized set) → length (words_in set node) ≤ 1048576
few_in [] node s = omega arith
few_in (t ∷ set) zero s = few_words t (and_parts (is_sized t) (list_all is_sized set) s).0
few_in (t ∷ set) (suc node) s = few_in set node (and_parts (is_sized t) (list_all is_sized set) s).1

-- a tree has 4,096 bytes for each of its pages
pages_are : (ws : List ℕ) → length ws ≤ 1048576 → length (tree_bytes ws) / 4096 ≡ tree_pages ws
pages_are ws few =
    let level = level_of (length ws) in
    let words : length (tree level 0 ws) ≡ 512 * page_count level ws = length_tree level 0 ws (level_room (length ws) (omega (arith, few))) in
    let bytes : length (tree_bytes ws) ≡ 8 * length (tree level 0 ws) = length_words (tree level 0 ws) in
    omega (arith, words, bytes)

-- the bytes that are built are those of the tree
is_tree : (b : Bool) (ws bytes : List ℕ) → cond {A = Result (List ℕ) ℕ} b (Ok (tree_bytes ws)) (Err (tree_pages ws)) ≡ Ok bytes → bytes ≡ tree_bytes ws
is_tree true ws bytes e = cc
is_tree false ws bytes e = cc

-- the reply has their pages
pub tree_said : (name ws bytes : List ℕ) (pool : ℕ) → length ws ≤ 1048576 → built ws pool ≡ Ok bytes → pages_heading name (length bytes / 4096) ++ lines_text bytes ≡ tree_text name ws (built ws pool)
tree_said name ws bytes pool few e =
    let is : bytes ≡ tree_bytes ws = is_tree (nat_le (tree_pages ws) pool) ws bytes e in
    let pages : length bytes / 4096 ≡ tree_pages ws = ap (λ (b : List ℕ). length b / 4096) is ∙ pages_are ws few in
    ap (λ (n : ℕ). pages_heading name n ++ lines_text bytes) pages ∙ ap (tree_text name ws) (sym e)
