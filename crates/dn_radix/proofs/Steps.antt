-- Pieces that are taken one after another, and entries that are followed.
use Rattle.std.proofs.Common.{◌≡◌, ℕ, suc, ◌+◌, ◌-◌, ◌*◌, ◌/◌, ◌%◌, ◌<◌, ◌≤◌, Bool, true, false, not, ◌||◌, List, [], ◌∷◌, ◌++◌, length, take, drop, Ok, Err, Result, sym, ap, ◌∙◌, arith, append_assoc, if◌then◌else◌}
use Rattle.std.specs.Prelude.{◌==◌, nat_lt}
use Rattle.std.proofs.lemmas.Bool.{ne_eqb, ltb-false}
use Rattle.dn_radix.specs.Tree.{are_all_zero, pieces, pages_of, entries, trees, room, page_count, tree, joined_bytes}
use Rattle.dn_radix.specs.Found.{word_in_bytes, is_bad, followed, found}
use Rattle.dn_radix.proofs.Pieces.{no_pieces, pieces_first, pieces_next, pages_zero, pages_more, entries_zero, entries_more, trees_zero, trees_more, page_count_next, tree_next, tree_whole}
use Rattle.dn_radix.proofs.Words.{bytes_both}

-- a level that is not the lowest is one above another
above : (level : ℕ) → (level ≡ 0 → ⊥) → level ≡ suc (level - 1)
above level n = omega arith

pub count_first : (level : ℕ) (ws : List ℕ) → level ≡ 0 → 1 ≡ page_count level ws
unfolding page_count
count_first level ws e = ap (λ n. page_count n ws) (sym e)

pub count_begun : (level : ℕ) (ws : List ℕ) → (level ≡ 0 → ⊥) → 1 + pages_of (page_count (level - 1)) (pieces 512 (room (level - 1)) (drop (0 * room (level - 1)) ws)) ≡ page_count level ws
count_begun level ws n =
    let a = ap (pages_of (page_count (level - 1))) (pieces_first 512 (room (level - 1)) ws) in
    let b = page_count_next (level - 1) ws in
    let c = ap (λ m. page_count m ws) (above level n) in
    omega (arith, a, b, c)

pub tree_is : (level at : ℕ) (ws : List ℕ) → (level ≡ 0 → ⊥) → tree level at ws ≡ entries (page_count (level - 1)) (at + 1) (pieces 512 (room (level - 1)) ws) ++ trees (page_count (level - 1)) (tree (level - 1)) (at + 1) (pieces 512 (room (level - 1)) ws)
tree_is level at ws n = ap (λ m. tree m at ws) (above level n) ∙ tree_next (level - 1) at ws

-- the pieces from one on are this one and those after it
here : (n size k : ℕ) (ws part : List ℕ) → k < n → part ≡ take size (drop (k * size) ws) → pieces (n - k) size (drop (k * size) ws) ≡ part ∷ pieces (n - (k + 1)) size (drop ((k + 1) * size) ws)
here n size k ws part l e = pieces_next n k size ws l ∙ ap (λ (q : List ℕ). q ∷ pieces (n - (k + 1)) size (drop ((k + 1) * size) ws)) (sym e)

pub pages_pass : (f : List ℕ → ℕ) (n size k count whole : ℕ) (ws part : List ℕ) → k < n → part ≡ take size (drop (k * size) ws) → are_all_zero part ≡ true → count + pages_of f (pieces (n - k) size (drop (k * size) ws)) ≡ whole → count + pages_of f (pieces (n - (k + 1)) size (drop ((k + 1) * size) ws)) ≡ whole
pages_pass f n size k count whole ws part l e z h =
    let a = ap (pages_of f) (here n size k ws part l e) in
    let b = pages_zero f part (pieces (n - (k + 1)) size (drop ((k + 1) * size) ws)) z in
    omega (arith, a, b, h)

pub pages_take : (f : List ℕ → ℕ) (n size k count whole : ℕ) (ws part : List ℕ) → k < n → part ≡ take size (drop (k * size) ws) → are_all_zero part ≡ false → count + pages_of f (pieces (n - k) size (drop (k * size) ws)) ≡ whole → count + f part + pages_of f (pieces (n - (k + 1)) size (drop ((k + 1) * size) ws)) ≡ whole
pages_take f n size k count whole ws part l e z h =
    let a = ap (pages_of f) (here n size k ws part l e) in
    let b = pages_more f part (pieces (n - (k + 1)) size (drop ((k + 1) * size) ws)) z in
    omega (arith, a, b, h)

pub entries_pass : (f : List ℕ → ℕ) (n size k next : ℕ) (ws part out out' whole : List ℕ) → k < n → part ≡ take size (drop (k * size) ws) → are_all_zero part ≡ true → out' ≡ out ++ 0 ∷ [] → out ++ entries f next (pieces (n - k) size (drop (k * size) ws)) ≡ whole → out' ++ entries f next (pieces (n - (k + 1)) size (drop ((k + 1) * size) ws)) ≡ whole
entries_pass f n size k next ws part out out' whole l e z o h =
    let rest : List (List ℕ) = pieces (n - (k + 1)) size (drop ((k + 1) * size) ws) in
    ap (λ (r : List ℕ). r ++ entries f next rest) o
    ∙ append_assoc out (0 ∷ []) (entries f next rest)
    ∙ ap (λ (r : List ℕ). out ++ r) (sym (ap (entries f next) (here n size k ws part l e) ∙ entries_zero f next part rest z))
    ∙ h

pub entries_take : (f : List ℕ → ℕ) (n size k next : ℕ) (ws part out out' whole : List ℕ) → k < n → part ≡ take size (drop (k * size) ws) → are_all_zero part ≡ false → out' ≡ out ++ (4096 * next + 1) ∷ [] → out ++ entries f next (pieces (n - k) size (drop (k * size) ws)) ≡ whole → out' ++ entries f (next + f part) (pieces (n - (k + 1)) size (drop ((k + 1) * size) ws)) ≡ whole
entries_take f n size k next ws part out out' whole l e z o h =
    let rest : List (List ℕ) = pieces (n - (k + 1)) size (drop ((k + 1) * size) ws) in
    ap (λ (r : List ℕ). r ++ entries f (next + f part) rest) o
    ∙ append_assoc out ((4096 * next + 1) ∷ []) (entries f (next + f part) rest)
    ∙ ap (λ (r : List ℕ). out ++ r) (sym (ap (entries f next) (here n size k ws part l e) ∙ entries_more f next part rest z))
    ∙ h

pub trees_pass : (f : List ℕ → ℕ) (made : ℕ → List ℕ → List ℕ) (n size k next : ℕ) (ws part out whole : List ℕ) → k < n → part ≡ take size (drop (k * size) ws) → are_all_zero part ≡ true → out ++ joined_bytes (trees f made next (pieces (n - k) size (drop (k * size) ws))) ≡ whole → out ++ joined_bytes (trees f made next (pieces (n - (k + 1)) size (drop ((k + 1) * size) ws))) ≡ whole
trees_pass f made n size k next ws part out whole l e z h =
    let rest : List (List ℕ) = pieces (n - (k + 1)) size (drop ((k + 1) * size) ws) in
    ap (λ (r : List ℕ). out ++ joined_bytes r) (sym (ap (trees f made next) (here n size k ws part l e) ∙ trees_zero f made next part rest z))
    ∙ h

pub trees_take : (f : List ℕ → ℕ) (made : ℕ → List ℕ → List ℕ) (n size k next : ℕ) (ws part out out' whole : List ℕ) → k < n → part ≡ take size (drop (k * size) ws) → are_all_zero part ≡ false → out' ≡ out ++ joined_bytes (made next part) → out ++ joined_bytes (trees f made next (pieces (n - k) size (drop (k * size) ws))) ≡ whole → out' ++ joined_bytes (trees f made (next + f part) (pieces (n - (k + 1)) size (drop ((k + 1) * size) ws))) ≡ whole
trees_take f made n size k next ws part out out' whole l e z o h =
    let rest : List (List ℕ) = pieces (n - (k + 1)) size (drop ((k + 1) * size) ws) in
    ap (λ (r : List ℕ). r ++ joined_bytes (trees f made (next + f part) rest)) o
    ∙ append_assoc out (joined_bytes (made next part)) (joined_bytes (trees f made (next + f part) rest))
    ∙ ap (λ (r : List ℕ). out ++ r) (sym (bytes_both (made next part) (trees f made (next + f part) rest)))
    ∙ ap (λ (r : List ℕ). out ++ joined_bytes r) (sym (ap (trees f made next) (here n size k ws part l e) ∙ trees_more f made next part rest z))
    ∙ h

-- the page of the entries, and then the trees
pub begun : (out out' es given ts' ts whole : List ℕ) → given ≡ es → length es ≡ 512 → ((at : ℕ) → out' ≡ out ++ joined_bytes (tree 0 at given)) → ts' ≡ ts → whole ≡ es ++ ts → out' ++ joined_bytes ts' ≡ out ++ joined_bytes whole
begun out out' es given ts' ts whole g l o t w =
    ap (λ (r : List ℕ). r ++ joined_bytes ts') (o 0 ∙ ap (λ (r : List ℕ). out ++ joined_bytes (tree 0 0 r)) g ∙ ap (λ (r : List ℕ). out ++ joined_bytes r) (tree_whole 0 es l))
    ∙ append_assoc out (joined_bytes es) (joined_bytes ts')
    ∙ ap (λ (r : List ℕ). out ++ (joined_bytes es ++ joined_bytes r)) t
    ∙ ap (λ (r : List ℕ). out ++ r) (sym (bytes_both es ts))
    ∙ ap (λ (r : List ℕ). out ++ joined_bytes r) (sym w)

-- no piece is left
pub none_left : (n k size : ℕ) (ws : List ℕ) → n ≤ k → pieces (n - k) size ws ≡ []
none_left n k size ws l = no_pieces (n - k) size ws (omega arith)

-- entries

pub found_zero : (image : List ℕ) (below i page : ℕ) → below ≡ 0 → found image below i page ≡ Ok (word_in_bytes image (page + 8 * i))
unfolding found
found_zero image below i page e = ap (λ n. found image n i page) e

pub found_step : (image : List ℕ) (below i page size : ℕ) → 0 < below → size ≡ room (below - 1) → found image below i page ≡ followed (found image (below - 1) (i % size)) (length image) (page + 8 * (i / size)) (word_in_bytes image (page + 8 * (i / size)))
unfolding found
found_step image below i page size l e =
    let up : below ≡ suc (below - 1) = omega arith in
    ap (λ n. found image n i page) up
    ∙ ap (λ s. followed (found image (below - 1) (i % s)) (length image) (page + 8 * (i / s)) (word_in_bytes image (page + 8 * (i / s)))) (sym e)

pub followed_bad : (further : ℕ → Result ℕ ℕ) (size place entry : ℕ) → (entry ≡ 0 → ⊥) → is_bad size entry ≡ true → followed further size place entry ≡ Err place
followed_bad further size place entry n b =
    ap (λ t. if t then Ok 0 else (if is_bad size entry then Err place else further (entry - 1))) (ne_eqb entry 0 n)
    ∙ ap (λ t. if t then Err place else further (entry - 1)) b

pub followed_on : (further : ℕ → Result ℕ ℕ) (size place entry : ℕ) → (entry ≡ 0 → ⊥) → is_bad size entry ≡ false → followed further size place entry ≡ further (entry - 1)
followed_on further size place entry n b =
    ap (λ t. if t then Ok 0 else (if is_bad size entry then Err place else further (entry - 1))) (ne_eqb entry 0 n)
    ∙ ap (λ t. if t then Err place else further (entry - 1)) b

-- where an entry is not bad, it leads to a whole page
pub page_whole : (size entry : ℕ) → is_bad size entry ≡ false → (entry - 1) + 4096 ≤ size
page_whole size entry e = ltb-false size ((entry - 1) + 4096) (second (not ((entry - 1) % 4096 == 0)) (nat_lt size ((entry - 1) + 4096)) e)
  where
    second : (a b : Bool) → (a || b) ≡ false → b ≡ false
    second true b h = cc
    second false b h = h
