-- In the tree of words each word is found.
use Rattle.std.proofs.Common.{◌≡◌, ℕ, zero, suc, ◌+◌, ◌-◌, ◌*◌, ◌/◌, ◌%◌, ◌^◌, ◌<◌, ◌≤◌, Bool, true, false, not, ◌||◌, List, [], ◌∷◌, ◌++◌, length, take, drop, replicate, get_or, Ok, Err, Result, refl, sym, ap, subst, ◌∙◌, arith, length-append, append_assoc, append-nil, if◌then◌else◌, ◌⊎◌, inl, inr}
use Rattle.std.specs.Prelude.{◌==◌, nat_lt, nat_le}
use Rattle.std.proofs.Math.Nat.{div-add-mod', min-le_left, one-le-pow}
use Rattle.std.proofs.lemmas.Bool.{cases_lt, eq-eqb, ne_eqb, le-ltb, leb-true, leb-false, and_parts}
use Rattle.std.proofs.Math.ListN.{get_or-eq_default}
use Rattle.std.proofs.lemmas.List.{get_or-append-add, get_or_append_left, get_or-take, get_or-drop, length-take}
use Rattle.std.proofs.lemmas.Nat.{div_below, mod_below}
use Rattle.dn_radix.specs.Tree.{are_all_zero, pieces, pages_of, entries, trees, room, page_count, tree, joined_bytes, level_of}
use Rattle.dn_radix.specs.Found.{word_in_bytes, is_bad, followed, found}
use Rattle.dn_radix.specs.Laws.{LevelIsLeast, WordsAreFound}
use Rattle.dn_radix.proofs.Pieces.{IsPieceAt, piece_at, length_entries, length_pieces, length_tree, page_count_next, page_some, tree_few, piece_fits, room_next}
use Rattle.dn_radix.proofs.Words.{length_words, word_there}

-- the words are of 64 bits
abbrev pub AreSmall : List ℕ → Type 0
AreSmall ws = (k : ℕ) → get_or ws k 0 < 2 ^ 64

-- a word of a list that is all 0
pub word_of_zeros : (ws : List ℕ) (k : ℕ) → are_all_zero ws ≡ true → get_or ws k 0 ≡ 0
word_of_zeros [] k e = refl
word_of_zeros (w ∷ ws) zero e = grind arith
word_of_zeros (w ∷ ws) (suc k) e = word_of_zeros ws k (and_parts (w == 0) (are_all_zero ws) e).1

pub zeros : (n k : ℕ) → get_or {A = ℕ} (replicate {A = ℕ} n 0) k 0 ≡ zero
zeros zero k = refl
zeros (suc n) zero = refl
zeros (suc n) (suc k) = zeros n k

-- words, and 0 after them
padded : (ws : List ℕ) (n k : ℕ) → get_or (ws ++ replicate {A = ℕ} n 0) k 0 ≡ get_or ws k 0
padded [] n k = zeros n k
padded (w ∷ ws) n zero = refl
padded (w ∷ ws) n (suc k) = padded ws n k

-- a word of pages that stand among others, and its bytes
pub word_among : (all pre made post : List ℕ) (at j place : ℕ) → all ≡ pre ++ (made ++ post) → length pre ≡ 512 * at → j < length made → get_or made j 0 < 2 ^ 64 → place ≡ 4096 * at + 8 * j → word_in_bytes (joined_bytes all) place ≡ get_or made j 0
word_among all pre made post at j place is before l small e =
    let a = length-append pre (made ++ post) in
    let b = length-append made post in
    let c : length all ≡ length (pre ++ (made ++ post)) = ap length is in
    let x : get_or all (512 * at + j) 0 ≡ get_or made j 0 =
    ap (λ (xs : List ℕ). get_or xs (512 * at + j) 0) is
    ∙ ap (λ n. get_or (pre ++ (made ++ post)) (n + j) 0) (sym before)
    ∙ get_or-append-add pre (made ++ post) j 0
    ∙ get_or_append_left made post 0 j l in
    word_there all (512 * at + j) place (omega (arith, a, b, c)) (subst (λ n. n < 2 ^ 64) (sym x) small) (omega arith) ∙ x

-- an entry that is 0, and one that leads to a page

pub followed_none : (further : ℕ → Result ℕ ℕ) (size place entry : ℕ) → entry ≡ 0 → followed further size place entry ≡ Ok 0
followed_none further size place entry e =
    ap (λ b. if b then Ok 0 else (if is_bad size entry then Err place else further (entry - 1))) (eq-eqb entry 0 e)

pub followed_good : (further : ℕ → Result ℕ ℕ) (size place entry first : ℕ) → entry ≡ 4096 * first + 1 → 4096 * first + 4096 ≤ size → followed further size place entry ≡ further (4096 * first)
followed_good further size place entry first e l =
    let some : (entry == 0) ≡ false = ne_eqb entry 0 (λ z. omega arith) in
    let less : entry - 1 ≡ 4096 * first = omega arith in
    let whole : (4096 * first) % 4096 ≡ 0 = omega arith in
    let a : ((entry - 1) % 4096 == 0) ≡ true = eq-eqb ((entry - 1) % 4096) 0 (ap (λ m. m % 4096) less ∙ whole) in
    let b : nat_lt size ((entry - 1) + 4096) ≡ false = le-ltb size ((entry - 1) + 4096) (omega arith) in
    let c : is_bad size entry ≡ false = ap (λ t. not t || nat_lt size ((entry - 1) + 4096)) a ∙ b in
    ap (λ t. if t then Ok 0 else (if is_bad size entry then Err place else further (entry - 1))) some
    ∙ ap (λ t. if t then Err place else further (entry - 1)) c
    ∙ ap further less

pub room_some : (level : ℕ) → 0 < room level
room_some level = let l = one-le-pow (suc level) 512 (omega arith) in omega arith

-- a word of the piece in which it stands
pub piece_word : (size i : ℕ) (ws : List ℕ) → 0 < size → get_or (take size (drop (i / size * size) ws)) (i % size) 0 ≡ get_or ws i 0
piece_word size i ws some =
    get_or-take size (drop (i / size * size) ws) (i % size) 0 (mod_below i size some)
    ∙ get_or-drop (i / size * size) ws (i % size) 0
    ∙ ap (λ n. get_or ws n 0) (div-add-mod' i size)

pub piece_small : (size from : ℕ) (ws : List ℕ) → AreSmall ws → AreSmall (take size (drop from ws))
piece_small size from ws small k = by (cases_lt k size)
  where
    by : (k < size) ⊎ (size ≤ k) → get_or (take size (drop from ws)) k 0 < 2 ^ 64
    by (inl l) = subst (λ n. n < 2 ^ 64) (sym (get_or-take size (drop from ws) k 0 l ∙ get_or-drop from ws k 0)) (small (from + k))
    by (inr l) = let e = length-take size (drop from ws) in let m = min-le_left size (length (drop from ws)) in let none : get_or (take size (drop from ws)) k 0 ≡ 0 = get_or-eq_default (take size (drop from ws)) 0 (omega (arith, e, m, l)) in omega (arith, none)

-- in a tree that stands among other pages each word is found from its first page on
pub found_in : (level at i : ℕ) (ws all pre post : List ℕ) → length ws ≤ room level → AreSmall ws → i < room level → at + page_count level ws ≤ 2 ^ 30 → length pre ≡ 512 * at → all ≡ pre ++ (tree level at ws ++ post) → found (joined_bytes all) level i (4096 * at) ≡ Ok (get_or ws i 0)
unfolding found tree
found_in zero at i ws all pre post fits small there few before is =
    let len = length_tree zero at ws fits in
    let one : 512 * page_count zero ws ≡ 512 = page_one ws in
    let c : room zero ≡ 512 = refl in
    let value : get_or (ws ++ replicate (512 - length ws) 0) i 0 ≡ get_or ws i 0 = padded ws (512 - length ws) i in
    ap Ok (word_among all pre (ws ++ replicate (512 - length ws) 0) post at i (4096 * at + 8 * i) is before (omega (arith, len, one, c)) (subst (λ n. n < 2 ^ 64) (sym value) (small i)) refl ∙ value)
  where
    page_one : (xs : List ℕ) → 512 * page_count zero xs ≡ 512
    page_one xs = unfold page_count in refl
found_in (suc level) at i ws all pre post fits small there few before is =
    let size : ℕ = room level in
    let f : List ℕ → ℕ = page_count level in
    let some : 0 < size = room_some level in
    let next = room_next level in
    let below : i / size < 512 = div_below i size 512 some (omega (arith, next)) in
    let rest : i % size < size = mod_below i size some in
    let p : List ℕ = take size (drop (i / size * size) ws) in
    let r : IsPieceAt f (tree level) (at + 1) (pieces 512 size ws) (i / size) p = piece_at f (tree level) size (length_tree level) 512 (i / size) (at + 1) ws p below refl in
    by p (pieces 512 size ws) (are_all_zero p) refl r (piece_fits size (drop (i / size * size) ws)) (piece_small size (i / size * size) ws small)
    (length_entries f (at + 1) (pieces 512 size ws) ∙ length_pieces 512 size ws) below
    (piece_word size i ws some) (page_count_next level ws)
    (found_in level r.first (i % size) p all
    (pre ++ (entries f (at + 1) (pieces 512 size ws) ++ r.front)) (r.back ++ post))
    rest is
  where
    by : (p : List ℕ) (ps : List (List ℕ)) (b : Bool) → are_all_zero p ≡ b
        → (r : IsPieceAt (page_count level) (tree level) (at + 1) ps (i / room level) p)
        → length p ≤ room level → AreSmall p
        → length (entries (page_count level) (at + 1) ps) ≡ 512 → i / room level < 512
        → get_or p (i % room level) 0 ≡ get_or ws i 0
        → page_count (suc level) ws ≡ suc (pages_of (page_count level) ps)
        → (length p ≤ room level → AreSmall p → i % room level < room level → r.first + page_count level p ≤ 2 ^ 30
        → length (pre ++ (entries (page_count level) (at + 1) ps ++ r.front)) ≡ 512 * r.first
        → all ≡ (pre ++ (entries (page_count level) (at + 1) ps ++ r.front)) ++ (tree level r.first p ++ (r.back ++ post))
        → found (joined_bytes all) level (i % room level) (4096 * r.first) ≡ Ok (get_or p (i % room level) 0))
        → i % room level < room level
        → all ≡ pre ++ ((entries (page_count level) (at + 1) ps ++ trees (page_count level) (tree level) (at + 1) ps) ++ post)
        → followed (found (joined_bytes all) level (i % room level)) (length (joined_bytes all)) (4096 * at + 8 * (i / room level)) (word_in_bytes (joined_bytes all) (4096 * at + 8 * (i / room level))) ≡ Ok (get_or ws i 0)
    by p ps true z r pfits psmall elen below word pages again rest whole =
        let es : List ℕ = entries (page_count level) (at + 1) ps in
        let ts : List ℕ = trees (page_count level) (tree level) (at + 1) ps in
        let e : get_or es (i / room level) 0 ≡ 0 = r.none z in
        let is' : all ≡ pre ++ (es ++ (ts ++ post)) = whole ∙ ap (λ (l : List ℕ). pre ++ l) (append_assoc es ts post) in
        let w = word_among all pre es (ts ++ post) at (i / room level) (4096 * at + 8 * (i / room level)) is' before (omega (arith, elen, below)) (omega (arith, e)) refl in
        followed_none (found (joined_bytes all) level (i % room level)) (length (joined_bytes all)) (4096 * at + 8 * (i / room level)) (word_in_bytes (joined_bytes all) (4096 * at + 8 * (i / room level))) (w ∙ e)
        ∙ ap Ok (sym (word_of_zeros p (i % room level) z) ∙ word)
    by p ps false z r pfits psmall elen below word pages again rest whole =
        let es : List ℕ = entries (page_count level) (at + 1) ps in
        let ts : List ℕ = trees (page_count level) (tree level) (at + 1) ps in
        let made : List ℕ = tree level r.first p in
        let e : get_or es (i / room level) 0 ≡ 4096 * r.first + 1 = r.entry z in
        let within : r.first + page_count level p ≤ at + 1 + pages_of (page_count level) ps = r.within z in
        let few' : r.first + page_count level p ≤ 2 ^ 30 = omega (arith, within, pages, few) in
        let is' : all ≡ pre ++ (es ++ (ts ++ post)) = whole ∙ ap (λ (l : List ℕ). pre ++ l) (append_assoc es ts post) in
        let w = word_among all pre es (ts ++ post) at (i / room level) (4096 * at + 8 * (i / room level)) is' before (omega (arith, elen, below)) (omega (arith, e, few')) refl in
        let inner : ts ++ post ≡ r.front ++ (made ++ (r.back ++ post)) = ap (λ (l : List ℕ). l ++ post) (r.tree_is z) ∙ append_assoc r.front (made ++ r.back) post ∙ ap (λ (l : List ℕ). r.front ++ l) (append_assoc made r.back post) in
        let is'' : all ≡ (pre ++ (es ++ r.front)) ++ (made ++ (r.back ++ post)) =
        is' ∙ ap (λ (l : List ℕ). pre ++ (es ++ l)) inner
        ∙ ap (λ (l : List ℕ). pre ++ l) (sym (append_assoc es r.front (made ++ (r.back ++ post))))
        ∙ sym (append_assoc pre (es ++ r.front) (made ++ (r.back ++ post))) in
        let l1 = length-append pre (es ++ r.front) in
        let l2 = length-append es r.front in
        let l3 = length-append (pre ++ (es ++ r.front)) (made ++ (r.back ++ post)) in
        let l4 = length-append made (r.back ++ post) in
        let l5 = length_tree level r.first p pfits in
        let l6 = page_some level p in
        let l7 : length all ≡ length ((pre ++ (es ++ r.front)) ++ (made ++ (r.back ++ post))) = ap length is'' in
        let l8 = length_words all in
        let place = r.place in
        let before' : length (pre ++ (es ++ r.front)) ≡ 512 * r.first = omega (arith, l1, l2, elen, before, place) in
        let page : 4096 * r.first + 4096 ≤ length (joined_bytes all) = omega (arith, before', l3, l4, l5, l6, l7, l8) in
        followed_good (found (joined_bytes all) level (i % room level)) (length (joined_bytes all)) (4096 * at + 8 * (i / room level)) (word_in_bytes (joined_bytes all) (4096 * at + 8 * (i / room level))) r.first (w ∙ e) page
        ∙ again pfits psmall rest few' before' is''
        ∙ ap Ok word

-- what the levels have room for
pub level_low : (count : ℕ) → level_of count ≤ 2
level_low count = by (nat_le count 512) (nat_le count 262144)
  where
    by : (a b : Bool) → (if a then 0 else (if b then 1 else 2)) ≤ 2
    by true b = omega arith
    by false true = omega arith
    by false false = omega arith

pub level_room : (count : ℕ) → count ≤ 134217728 → count ≤ room (level_of count)
level_room count few = by (nat_le count 512) (nat_le count 262144) refl refl
  where
    by : (a b : Bool) → nat_le count 512 ≡ a → nat_le count 262144 ≡ b → count ≤ room (if a then 0 else (if b then 1 else 2))
    by true b x y = let l = leb-true count 512 x in let c : room 0 ≡ 512 = refl in omega (arith, l, c)
    by false true x y = let l = leb-true count 262144 y in let c : room 1 ≡ 262144 = refl in omega (arith, l, c)
    by false false x y = let c : room 2 ≡ 134217728 = refl in omega (arith, few, c)

level_least : (count level : ℕ) → count ≤ room level → level_of count ≤ level
level_least count level l = by level (nat_le count 512) (nat_le count 262144) refl refl l
  where
    by : (level : ℕ) (a b : Bool) → nat_le count 512 ≡ a → nat_le count 262144 ≡ b → count ≤ room level → (if a then 0 else (if b then 1 else 2)) ≤ level
    by level true b x y l = omega arith
    by zero false b x y l = let m = leb-false count 512 x in let c : room 0 ≡ 512 = refl in absurd (omega (arith, l, m, c))
    by (suc level) false true x y l = omega arith
    by (suc zero) false false x y l = let m = leb-false count 262144 y in let c : room 1 ≡ 262144 = refl in absurd (omega (arith, l, m, c))
    by (suc (suc level)) false false x y l = omega arith

pub level_is_least : LevelIsLeast
level_is_least = record { fits = level_room; least = level_least }

pub words_are_found : WordsAreFound
words_are_found ws i few small there =
    let level : ℕ = level_of (length ws) in
    let fits : length ws ≤ room level = level_room (length ws) (omega (arith, few)) in
    let pages = tree_few level ws (level_low (length ws)) in
    found_in level 0 i ws (tree level 0 ws) [] [] fits small (omega (arith, fits, there)) (omega (arith, pages)) refl (sym (append-nil (tree level 0 ws)))
