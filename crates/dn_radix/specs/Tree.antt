-- Trees of pages: a list of words kept in pages of 512 words, of which the upper ones lead to those below.
use Rattle.std.specs.Prelude.{◌≡◌, ℕ, zero, suc, ◌+◌, ◌-◌, ◌*◌, ◌^◌, Bool, if◌then◌else◌, ◌==◌, nat_le, List, [], ◌∷◌, ◌++◌, take, drop, get_or, length, replicate}
use Rattle.std.specs.List.{list_all, flat_map}
use Rattle.byteorder.specs.Endian.{little_bytes}

-- each of the words is 0
abbrev pub are_all_zero : List ℕ → Bool
are_all_zero ws = list_all (λ w. w == 0) ws

-- so many pieces of so many words, from the front on; words that are not there are left out, so that a
-- piece may be short, or empty
unfoldable pub pieces : ℕ → ℕ → List ℕ → List (List ℕ)
pieces zero size ws = []
pieces (suc n) size ws = take size ws ∷ pieces n size (drop size ws)

-- how many pages the trees of the pieces have that are not all 0
abbrev pub pages_of : (List ℕ → ℕ) → List (List ℕ) → ℕ
pages_of pages [] = 0
pages_of pages (p ∷ ps) =
    if are_all_zero p then pages_of pages ps else pages p + pages_of pages ps

-- the entries of pieces whose trees stand one after the other from a page on: 0 for a piece that is
-- all 0, and else the byte of its first page, and 1
abbrev pub entries : (List ℕ → ℕ) → ℕ → List (List ℕ) → List ℕ
entries pages at [] = []
entries pages at (p ∷ ps) =
    if are_all_zero p then 0 ∷ entries pages at ps
    else (4096 * at + 1) ∷ entries pages (at + pages p) ps

-- the trees of the pieces that are not all 0, one after the other from a page on
abbrev pub trees : (List ℕ → ℕ) → (ℕ → List ℕ → List ℕ) → ℕ → List (List ℕ) → List ℕ
trees pages made at [] = []
trees pages made at (p ∷ ps) =
    if are_all_zero p then trees pages made at ps
    else made at p ++ trees pages made (at + pages p) ps

-- how many words there is room for below so many levels of entries
abbrev pub room : ℕ → ℕ
room level = 512 ^ suc level

-- how many pages a tree has, with so many levels of entries
unfoldable pub page_count : ℕ → List ℕ → ℕ
page_count zero ws = 1
page_count (suc level) ws = suc (pages_of (page_count level) (pieces 512 (room level) ws))

-- the words of the pages of a tree whose first page is of this number: one page with the words, and 0
-- after them; or a page of entries, and after it the trees of its pieces
unfoldable pub tree : ℕ → ℕ → List ℕ → List ℕ
tree zero at ws = ws ++ replicate (512 - length ws) 0
tree (suc level) at ws =
    entries (page_count level) (at + 1) (pieces 512 (room level) ws)
    ++ trees (page_count level) (tree level) (at + 1) (pieces 512 (room level) ws)

-- the least number of levels of entries above so many words, of at most 512^3
abbrev pub level_of : ℕ → ℕ
level_of count = if nat_le count 512 then 0 else (if nat_le count 262144 then 1 else 2)

-- the bytes of words, the lowest byte first
abbrev pub joined_bytes : List ℕ → List ℕ
joined_bytes ws = flat_map (little_bytes 8) ws

-- the bytes of the tree of a list of words
abbrev pub tree_bytes : List ℕ → List ℕ
tree_bytes ws = joined_bytes (tree (level_of (length ws)) 0 ws)

-- how many pages it has
abbrev pub tree_pages : List ℕ → ℕ
tree_pages ws = page_count (level_of (length ws)) ws

-- a mark for each 512 words, which is 0 exactly where all of these are 0; after the last mark all words
-- are 0
abbrev pub AreMarks : List ℕ → List ℕ → Type 0
AreMarks ws marks = (page : ℕ) → are_all_zero (take 512 (drop (page * 512) ws)) ≡ (get_or marks page 0 == 0)
