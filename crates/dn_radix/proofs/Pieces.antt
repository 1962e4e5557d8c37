-- Pieces of lists, and what the pages of their trees have.
use Rattle.std.proofs.Common.{◌≡◌, ℕ, zero, suc, ◌+◌, ◌-◌, ◌*◌, ◌^◌, ◌<◌, ◌≤◌, Bool, true, false, List, [], ◌∷◌, ◌++◌, length, take, drop, replicate, get_or, refl, sym, ap, subst, ◌∙◌, arith, length-append, append_assoc, append-nil, if◌then◌else◌}
use Rattle.std.proofs.Math.Nat.{min-le_left, pow-suc, one-le-pow, pow-le-pow_right}
use Rattle.std.proofs.lemmas.List.{drop-drop, length-take, length-replicate}
use Rattle.dn_radix.specs.Tree.{are_all_zero, pieces, pages_of, entries, trees, room, page_count, tree}

-- pieces

pub length_pieces : (n size : ℕ) (ws : List ℕ) → length (pieces n size ws) ≡ n
unfolding pieces
length_pieces zero size ws = refl
length_pieces (suc n) size ws = ap suc (length_pieces n size (drop size ws))

pub no_pieces : (n size : ℕ) (ws : List ℕ) → n ≡ 0 → pieces n size ws ≡ []
unfolding pieces
no_pieces zero size ws e = refl
no_pieces (suc n) size ws e = absurd (omega arith)

-- the first of the pieces from one on, and those after it
pub pieces_next : (n k size : ℕ) (ws : List ℕ) → k < n → pieces (n - k) size (drop (k * size) ws) ≡ take size (drop (k * size) ws) ∷ pieces (n - (k + 1)) size (drop ((k + 1) * size) ws)
unfolding pieces
pieces_next n k size ws l =
    let left : n - k ≡ suc (n - (k + 1)) = omega arith in
    let e : k * size + size ≡ (k + 1) * size = omega arith in
    ap (λ m. pieces m size (drop (k * size) ws)) left
    ∙ ap (λ (r : List ℕ). take size (drop (k * size) ws) ∷ pieces (n - (k + 1)) size r) (drop-drop size (k * size) ws ∙ ap (λ m. drop m ws) e)

pub pieces_first : (n size : ℕ) (ws : List ℕ) → pieces n size (drop (0 * size) ws) ≡ pieces n size ws
pieces_first n size ws = let e : 0 * size ≡ 0 = omega arith in ap (λ m. pieces n size (drop m ws)) e

pub piece_fits : (size : ℕ) (ws : List ℕ) → length (take size ws) ≤ size
piece_fits size ws = let e = length-take size ws in let l = min-le_left size (length ws) in subst (λ m. m ≤ size) (sym e) l

-- one piece more, by whether it is all 0

pub pages_zero : (f : List ℕ → ℕ) (p : List ℕ) (ps : List (List ℕ)) → are_all_zero p ≡ true → pages_of f (p ∷ ps) ≡ pages_of f ps
pages_zero f p ps e = ap (λ b. if b then pages_of f ps else f p + pages_of f ps) e

pub pages_more : (f : List ℕ → ℕ) (p : List ℕ) (ps : List (List ℕ)) → are_all_zero p ≡ false → pages_of f (p ∷ ps) ≡ f p + pages_of f ps
pages_more f p ps e = ap (λ b. if b then pages_of f ps else f p + pages_of f ps) e

pub entries_zero : (f : List ℕ → ℕ) (at : ℕ) (p : List ℕ) (ps : List (List ℕ)) → are_all_zero p ≡ true → entries f at (p ∷ ps) ≡ 0 ∷ entries f at ps
entries_zero f at p ps e = ap (λ b. if b then 0 ∷ entries f at ps else (4096 * at + 1) ∷ entries f (at + f p) ps) e

pub entries_more : (f : List ℕ → ℕ) (at : ℕ) (p : List ℕ) (ps : List (List ℕ)) → are_all_zero p ≡ false → entries f at (p ∷ ps) ≡ (4096 * at + 1) ∷ entries f (at + f p) ps
entries_more f at p ps e = ap (λ b. if b then 0 ∷ entries f at ps else (4096 * at + 1) ∷ entries f (at + f p) ps) e

pub trees_zero : (f : List ℕ → ℕ) (made : ℕ → List ℕ → List ℕ) (at : ℕ) (p : List ℕ) (ps : List (List ℕ)) → are_all_zero p ≡ true → trees f made at (p ∷ ps) ≡ trees f made at ps
trees_zero f made at p ps e = ap (λ b. if b then trees f made at ps else made at p ++ trees f made (at + f p) ps) e

pub trees_more : (f : List ℕ → ℕ) (made : ℕ → List ℕ → List ℕ) (at : ℕ) (p : List ℕ) (ps : List (List ℕ)) → are_all_zero p ≡ false → trees f made at (p ∷ ps) ≡ made at p ++ trees f made (at + f p) ps
trees_more f made at p ps e = ap (λ b. if b then trees f made at ps else made at p ++ trees f made (at + f p) ps) e

-- lengths

pub length_entries : (f : List ℕ → ℕ) (at : ℕ) (ps : List (List ℕ)) → length (entries f at ps) ≡ length ps
length_entries f at [] = refl
length_entries f at (p ∷ ps) = by (are_all_zero p) refl (length_entries f at ps) (length_entries f (at + f p) ps)
  where
    by : (b : Bool) → are_all_zero p ≡ b → length (entries f at ps) ≡ length ps → length (entries f (at + f p) ps) ≡ length ps → length (entries f at (p ∷ ps)) ≡ suc (length ps)
    by true e x y = ap length (entries_zero f at p ps e) ∙ ap suc x
    by false e x y = ap length (entries_more f at p ps e) ∙ ap suc y

-- each tree of a list of at most so many words has 512 words for each of its pages
abbrev pub AreWhole : (List ℕ → ℕ) → (ℕ → List ℕ → List ℕ) → ℕ → Type 0
AreWhole f made size = (at : ℕ) (p : List ℕ) → length p ≤ size → length (made at p) ≡ 512 * f p

pub length_trees : (f : List ℕ → ℕ) (made : ℕ → List ℕ → List ℕ) (size : ℕ) → AreWhole f made size → (n at : ℕ) (ws : List ℕ) → length (trees f made at (pieces n size ws)) ≡ 512 * pages_of f (pieces n size ws)
unfolding pieces
length_trees f made size whole zero at ws = refl
length_trees f made size whole (suc n) at ws =
    by (are_all_zero (take size ws)) refl (length_trees f made size whole n at (drop size ws)) (length_trees f made size whole n (at + f (take size ws)) (drop size ws))
  where
    by : (b : Bool) → are_all_zero (take size ws) ≡ b
        → length (trees f made at (pieces n size (drop size ws))) ≡ 512 * pages_of f (pieces n size (drop size ws))
        → length (trees f made (at + f (take size ws)) (pieces n size (drop size ws))) ≡ 512 * pages_of f (pieces n size (drop size ws))
        → length (trees f made at (take size ws ∷ pieces n size (drop size ws))) ≡ 512 * pages_of f (take size ws ∷ pieces n size (drop size ws))
    by true e x y =
        ap length (trees_zero f made at (take size ws) (pieces n size (drop size ws)) e) ∙ x
        ∙ ap (λ m. 512 * m) (sym (pages_zero f (take size ws) (pieces n size (drop size ws)) e))
    by false e x y =
        let a = ap length (trees_more f made at (take size ws) (pieces n size (drop size ws)) e) in
        let b = length-append (made at (take size ws)) (trees f made (at + f (take size ws)) (pieces n size (drop size ws))) in
        let c = whole at (take size ws) (piece_fits size ws) in
        let d = pages_more f (take size ws) (pieces n size (drop size ws)) e in
        omega (arith, a, b, c, d)

pub room_next : (level : ℕ) → room (suc level) ≡ room level * 512
room_next level = pow-suc 512 (suc level)

-- a tree has 512 words for each of its pages
pub length_tree : (level : ℕ) → AreWhole (page_count level) (tree level) (room level)
unfolding tree page_count
length_tree zero at p l =
    let a = length-append p (replicate (512 - length p) 0) in
    let b = length-replicate {A = ℕ} (512 - length p) 0 in
    let c : 512 ^ suc zero ≡ 512 = refl in
    omega (arith, a, b, c)
length_tree (suc level) at p l =
    let ps : List (List ℕ) = pieces 512 (room level) p in
    let f : List ℕ → ℕ = page_count level in
    let a = length-append (entries f (at + 1) ps) (trees f (tree level) (at + 1) ps) in
    let b = length_entries f (at + 1) ps ∙ length_pieces 512 (room level) p in
    let c = length_trees f (tree level) (room level) (length_tree level) 512 (at + 1) p in
    omega (arith, a, b, c)

-- where the entry and the tree of a piece stand
pub record IsPieceAt (f : List ℕ → ℕ) (made : ℕ → List ℕ → List ℕ) (at : ℕ) (ps : List (List ℕ)) (k : ℕ) (p : List ℕ) : Type 0 where
  pub first : ℕ
  pub front : List ℕ
  pub back : List ℕ
  pub none : are_all_zero p ≡ true → get_or (entries f at ps) k 0 ≡ 0
  pub entry : are_all_zero p ≡ false → get_or (entries f at ps) k 0 ≡ 4096 * first + 1
  pub tree_is : are_all_zero p ≡ false → trees f made at ps ≡ front ++ (made first p ++ back)
  pub place : 512 * at + length front ≡ 512 * first
  pub within : are_all_zero p ≡ false → first + f p ≤ at + pages_of f ps

pub piece_at : (f : List ℕ → ℕ) (made : ℕ → List ℕ → List ℕ) (size : ℕ) → AreWhole f made size → (n k at : ℕ) (ws p : List ℕ) → k < n → p ≡ take size (drop (k * size) ws) → IsPieceAt f made at (pieces n size ws) k p
unfolding pieces
piece_at f made size whole zero k at ws p l e = absurd (omega arith)
piece_at f made size whole (suc n) zero at ws p l e =
    let z : 0 * size ≡ 0 = omega arith in
    let here : p ≡ take size ws = e ∙ ap (λ m. take size (drop m ws)) z in
    let rest : List (List ℕ) = pieces n size (drop size ws) in
    subst (λ q. IsPieceAt f made at (q ∷ rest) zero p) here (record {
      first = at;
      front = [];
      back = trees f made (at + f p) rest;
      none = λ y. ap (λ es. get_or es 0 0) (entries_zero f at p rest y);
      entry = λ y. ap (λ es. get_or es 0 0) (entries_more f at p rest y);
      tree_is = λ y. trees_more f made at p rest y;
      place = omega arith;
      within = λ y. let d = pages_more f p rest y in omega (arith, d);
    })
piece_at f made size whole (suc n) (suc k) at ws p l e =
    let q : List ℕ = take size ws in
    let rest : List (List ℕ) = pieces n size (drop size ws) in
    let m : size + k * size ≡ suc k * size = omega arith in
    let there : p ≡ take size (drop (k * size) (drop size ws)) = e ∙ ap (take size) (ap (λ i. drop i ws) (sym m) ∙ sym (drop-drop (k * size) size ws)) in
    by q rest (are_all_zero q) refl (piece_fits size ws)
    (piece_at f made size whole n k at (drop size ws) p (omega arith) there)
    (piece_at f made size whole n k (at + f q) (drop size ws) p (omega arith) there)
  where
    by : (q : List ℕ) (rest : List (List ℕ)) (b : Bool) → are_all_zero q ≡ b → length q ≤ size → IsPieceAt f made at rest k p → IsPieceAt f made (at + f q) rest k p → IsPieceAt f made at (q ∷ rest) (suc k) p
    by q rest true z fits x y = record {
      first = x.first;
      front = x.front;
      back = x.back;
      none = λ c. ap (λ es. get_or es (suc k) 0) (entries_zero f at q rest z) ∙ x.none c;
      entry = λ c. ap (λ es. get_or es (suc k) 0) (entries_zero f at q rest z) ∙ x.entry c;
      tree_is = λ c. trees_zero f made at q rest z ∙ x.tree_is c;
      place = x.place;
      within = λ c. let w = x.within c in let d = pages_zero f q rest z in omega (arith, w, d);
    }
    by q rest false z fits x y = record {
      first = y.first;
      front = made at q ++ y.front;
      back = y.back;
      none = λ c. ap (λ es. get_or es (suc k) 0) (entries_more f at q rest z) ∙ y.none c;
      entry = λ c. ap (λ es. get_or es (suc k) 0) (entries_more f at q rest z) ∙ y.entry c;
      tree_is = λ c. trees_more f made at q rest z ∙ ap (λ (r : List ℕ). made at q ++ r) (y.tree_is c) ∙ sym (append_assoc (made at q) y.front (made y.first p ++ y.back));
      place = let a = length-append (made at q) y.front in let b = whole at q fits in let c = y.place in omega (arith, a, b, c);
      within = λ c. let w = y.within c in let d = pages_more f q rest z in omega (arith, w, d);
    }

-- how many pages there are at most

pub pages_few : (f : List ℕ → ℕ) (most : ℕ) → ((p : List ℕ) → f p ≤ most) → (n size : ℕ) (ws : List ℕ) → pages_of f (pieces n size ws) ≤ n * most
unfolding pieces
pages_few f most few zero size ws = omega arith
pages_few f most few (suc n) size ws = by (are_all_zero (take size ws)) refl (pages_few f most few n size (drop size ws)) (few (take size ws))
  where
    by : (b : Bool) → are_all_zero (take size ws) ≡ b → pages_of f (pieces n size (drop size ws)) ≤ n * most → f (take size ws) ≤ most → pages_of f (take size ws ∷ pieces n size (drop size ws)) ≤ suc n * most
    by true e l m = let d = pages_zero f (take size ws) (pieces n size (drop size ws)) e in omega (arith, d)
    by false e l m = let d = pages_more f (take size ws) (pieces n size (drop size ws)) e in omega (arith, d)

pub page_count_few : (level : ℕ) (ws : List ℕ) → page_count level ws ≤ 513 ^ level
unfolding page_count
page_count_few zero ws = omega arith
page_count_few (suc level) ws =
    let a = pages_few (page_count level) (513 ^ level) (page_count_few level) 512 (room level) ws in
    let b : 513 ^ suc level ≡ 513 ^ level * 513 = pow-suc 513 level in
    let c = one-le-pow level 513 (omega arith) in
    omega (arith, a, b, c)

-- at most 513^2, of trees with at most two levels of entries
pub tree_few : (level : ℕ) (ws : List ℕ) → level ≤ 2 → page_count level ws ≤ 263169
tree_few level ws l =
    let a = page_count_few level ws in
    let b = pow-le-pow_right {n = 513} (omega arith) {i = level} {j = 2} l in
    let c : 513 ^ 2 ≡ 263169 = refl in
    omega (arith, a, b, c)

-- the pages so far, and those of the pieces from one on

pub page_count_next : (level : ℕ) (ws : List ℕ) → page_count (suc level) ws ≡ suc (pages_of (page_count level) (pieces 512 (room level) ws))
unfolding page_count
page_count_next level ws = refl

pub tree_next : (level at : ℕ) (ws : List ℕ) → tree (suc level) at ws ≡ entries (page_count level) (at + 1) (pieces 512 (room level) ws) ++ trees (page_count level) (tree level) (at + 1) (pieces 512 (room level) ws)
unfolding tree
tree_next level at ws = refl

pub tree_last : (at : ℕ) (ws : List ℕ) → tree 0 at ws ≡ ws ++ replicate (512 - length ws) 0
unfolding tree
tree_last at ws = refl

-- the page of 512 words
pub tree_whole : (at : ℕ) (ws : List ℕ) → length ws ≡ 512 → tree 0 at ws ≡ ws
tree_whole at ws l =
    let none : 512 - length ws ≡ 0 = omega (arith, l) in
    tree_last at ws ∙ ap (λ n. ws ++ replicate {A = ℕ} n 0) none ∙ append-nil ws

pub page_some : (level : ℕ) (ws : List ℕ) → 1 ≤ page_count level ws
unfolding page_count
page_some zero ws = omega arith
page_some (suc level) ws = omega arith

pub room_small : (level : ℕ) → level ≤ 1 → room level ≤ 134217728
room_small level l = let b = pow-le-pow_right {n = 512} (omega arith) {i = suc level} {j = 2} (omega arith) in let c : 512 ^ 2 ≡ 262144 = refl in omega (arith, b, c)
