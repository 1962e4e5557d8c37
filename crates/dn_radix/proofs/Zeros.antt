-- Marks of words: which pages of them are all 0.
use Rattle.std.proofs.Common.{◌≡◌, ℕ, zero, suc, ◌+◌, ◌-◌, ◌*◌, ◌/◌, ◌<◌, ◌≤◌, true, ◌&&◌, List, [], ◌∷◌, ◌++◌, length, take, drop, get_or, length-append, refl, sym, ap, ◌∙◌, arith, ◌⊎◌, inl, inr}
use Rattle.std.specs.Prelude.{◌==◌}
use Rattle.std.proofs.Math.ListN.{get_or-append}
use Rattle.std.proofs.Math.Nat.{min-le_left, mul_assoc, pow-suc}
use Rattle.std.proofs.Math.Seq.{get_or-append_seam}
use Rattle.std.proofs.lemmas.Bool.{cases_lt}
use Rattle.std.proofs.lemmas.Grind.{get_or_after_one}
use Rattle.std.proofs.lemmas.List.{take-append-drop, drop-drop, drop-take, take-take, drop_all, get_or-take, get_or-drop, get_or_past, length-drop, length-take}
use Rattle.std.proofs.lemmas.List.Folds.{list_all-append}
use Rattle.dn_radix.specs.Tree.{AreMarks, are_all_zero, room}

-- a mark for each page of so many words
abbrev pub MarksOf : ℕ → List ℕ → List ℕ → Type 0
MarksOf size ws marks = (page : ℕ) → are_all_zero (take size (drop (page * size) ws)) ≡ (get_or marks page 0 == 0)

-- the first words, and those after them
zero_both : (n : ℕ) (ws : List ℕ) → are_all_zero ws ≡ (are_all_zero (take n ws) && are_all_zero (drop n ws))
zero_both n ws =
    ap are_all_zero (sym (take-append-drop n ws)) ∙ list_all-append (λ w. w == 0) (take n ws) (drop n ws)

-- the words after the first page, and their marks
marks_after : (size : ℕ) (ws marks : List ℕ) → MarksOf size ws marks → MarksOf size (drop size ws) (drop 1 marks)
marks_after size ws marks m page =
    let e : size + page * size ≡ (1 + page) * size = omega arith in
    ap (λ (l : List ℕ). are_all_zero (take size l)) (drop-drop (page * size) size ws ∙ ap (λ n. drop n ws) e)
    ∙ m (1 + page)
    ∙ ap (λ n. n == 0) (sym (get_or_after_one marks page 0))

-- the first page by its mark
first_page : (size : ℕ) (ws marks : List ℕ) → MarksOf size ws marks → are_all_zero (take size ws) ≡ (get_or marks 0 0 == 0)
first_page size ws marks m =
    let e : 0 ≡ 0 * size = omega arith in
    ap (λ n. are_all_zero (take size (drop n ws))) e ∙ m 0

-- words of which no page has a mark
none_marked : (size n : ℕ) (ws : List ℕ) → length ws ≤ n * size → MarksOf size ws [] → are_all_zero ws ≡ true
none_marked size zero [] l m = refl
none_marked size zero (w ∷ ws) l m = absurd (omega arith)
none_marked size (suc n) ws l m =
    let d = length-drop size ws in
    zero_both size ws
    ∙ ap (λ b. b && are_all_zero (drop size ws)) (first_page size ws [] m)
    ∙ none_marked size n (drop size ws) (omega (arith, d, l)) (marks_after size ws [] m)

-- words are all 0 exactly where their marks are
marks_zero : (size : ℕ) (marks ws : List ℕ) → 0 < size → MarksOf size ws marks → are_all_zero ws ≡ are_all_zero marks
marks_zero size [] ws some m = none_marked size (length ws) ws (many (length ws)) m
  where
    many : (n : ℕ) → n ≤ n * size
    many zero = omega arith
    many (suc n) = let ih = many n in omega (arith, ih, some)
marks_zero size (k ∷ ks) ws some m =
    zero_both size ws
    ∙ ap (λ b. b && are_all_zero (drop size ws)) (first_page size ws (k ∷ ks) m)
    ∙ ap (λ b. (k == 0) && b) (marks_zero size ks (drop size ws) some (marks_after size ws (k ∷ ks) m))

pub marked_zero : (ws marks : List ℕ) → AreMarks ws marks → are_all_zero ws ≡ are_all_zero marks
marked_zero ws marks m = marks_zero 512 marks ws (omega arith) m

-- a page of a piece is a page of the whole
page_within : (size : ℕ) (ws : List ℕ) (from m page : ℕ) → page < m → take size (drop (page * size) (take (m * size) (drop (from * size) ws))) ≡ take size (drop ((from + page) * size) ws)
page_within size ws from m page l =
    let up : m ≡ page + suc (m - suc page) = omega arith in
    let a : (page + suc (m - suc page)) * size ≡ page * size + suc (m - suc page) * size = omega arith in
    let b : size ≤ suc (m - suc page) * size = omega arith in
    let e : from * size + page * size ≡ (from + page) * size = omega arith in
    ap (λ n. take size (drop (page * size) (take n (drop (from * size) ws)))) (ap (λ n. n * size) up ∙ a)
    ∙ ap (take size) (drop-take (page * size) (suc (m - suc page) * size) (drop (from * size) ws))
    ∙ take-take size (suc (m - suc page) * size) (drop (page * size) (drop (from * size) ws)) b
    ∙ ap (take size) (drop-drop (page * size) (from * size) ws ∙ ap (λ n. drop n ws) e)

-- after all words there is none, and after all marks none
page_past : (size : ℕ) (ws : List ℕ) (page : ℕ) → length ws ≤ page * size → are_all_zero (take size (drop (page * size) ws)) ≡ true
page_past size ws page l = ap (λ (r : List ℕ). are_all_zero (take size r)) (drop_all (page * size) ws l) ∙ none size
  where
    none : (n : ℕ) → are_all_zero (take n []) ≡ true
    none zero = refl
    none (suc n) = refl

mark_past : (marks : List ℕ) (page : ℕ) → length marks ≤ page → (get_or marks page 0 == 0) ≡ true
mark_past marks page l = ap (λ n. n == 0) (get_or_past marks page 0 l)

-- so many pages from one on have the marks from there on
pages_marked : (size : ℕ) (ws marks : List ℕ) (from m : ℕ) → MarksOf size ws marks → MarksOf size (take (m * size) (drop (from * size) ws)) (take m (drop from marks))
pages_marked size ws marks from m are page = by (cases_lt page m)
  where
    by : (page < m) ⊎ (m ≤ page) → are_all_zero (take size (drop (page * size) (take (m * size) (drop (from * size) ws)))) ≡ (get_or (take m (drop from marks)) page 0 == 0)
    by (inl l) =
        ap are_all_zero (page_within size ws from m page l)
        ∙ are (from + page)
        ∙ ap (λ n. n == 0) (sym (get_or-take m (drop from marks) page 0 l ∙ get_or-drop from marks page 0))
    by (inr g) =
        let a = length-take (m * size) (drop (from * size) ws) in
        let b = min-le_left (m * size) (length (drop (from * size) ws)) in
        let up : page ≡ m + (page - m) = omega arith in
        let wide : m * size ≤ page * size = most (page - m) up in
        let c = length-take m (drop from marks) in
        let d = min-le_left m (length (drop from marks)) in
        page_past size (take (m * size) (drop (from * size) ws)) page (omega (arith, a, b, wide))
        ∙ sym (mark_past (take m (drop from marks)) page (omega (arith, c, d, g)))
      where
        most : (n : ℕ) → page ≡ m + n → m * size ≤ page * size
        most n up =
            let e : (m + n) * size ≡ m * size + n * size = omega arith in
            let f = ap (λ p. p * size) up in
            omega (arith, e, f)

-- the marks of a piece
pub piece_marked : (ws marks part own : List ℕ) (size k : ℕ) → size / 512 * 512 ≡ size → AreMarks ws marks → part ≡ take size (drop (k * size) ws) → own ≡ take (size / 512) (drop (k * (size / 512)) marks) → AreMarks part own
piece_marked ws marks part own size k whole are p o page =
    let m : ℕ = size / 512 in
    let e : k * m * 512 ≡ k * size = mul_assoc k m 512 ∙ ap (λ n. k * n) whole in
    ap (λ (l : List ℕ). are_all_zero (take 512 (drop (page * 512) l))) (p ∙ ap (λ n. take n (drop (k * size) ws)) (sym whole) ∙ ap (λ n. take (m * 512) (drop n ws)) (sym e))
    ∙ pages_marked 512 ws marks (k * m) m are page
    ∙ ap (λ (l : List ℕ). get_or l page 0 == 0) (sym o)

-- a page more
pub marks_more : (size : ℕ) (ws marks more part : List ℕ) (page mark : ℕ) → length marks ≡ page → ((i : ℕ) → i < page → are_all_zero (take size (drop (i * size) ws)) ≡ (get_or marks i 0 == 0)) → part ≡ take size (drop (page * size) ws) → are_all_zero part ≡ (mark == 0) → more ≡ marks ++ mark ∷ [] → (i : ℕ) → i < page + 1 → are_all_zero (take size (drop (i * size) ws)) ≡ (get_or more i 0 == 0)
marks_more size ws marks more part page mark long before is z m i l = by (cases_lt i page)
  where
    by : (i < page) ⊎ (page ≤ i) → are_all_zero (take size (drop (i * size) ws)) ≡ (get_or more i 0 == 0)
    by (inl b) = before i b ∙ ap (λ n. n == 0) (sym (ap (λ (r : List ℕ). get_or r i 0) m ∙ get_or-append marks (mark ∷ []) 0 i (omega (arith, b, long))))
    by (inr b) =
        let here : i ≡ length marks = omega (arith, l, b, long) in
        let there : i ≡ page = omega (arith, l, b) in
        ap (λ n. are_all_zero (take size (drop (n * size) ws))) there
        ∙ ap are_all_zero (sym is) ∙ z
        ∙ ap (λ n. n == 0) (sym (ap (λ (r : List ℕ). get_or r i 0) m ∙ ap (λ n. get_or (marks ++ mark ∷ []) n 0) here ∙ get_or-append_seam marks mark [] 0))

-- all pages
pub marks_all : (ws marks : List ℕ) (page : ℕ) → length marks ≡ page → ((i : ℕ) → i < page → are_all_zero (take 512 (drop (i * 512) ws)) ≡ (get_or marks i 0 == 0)) → length ws ≤ page * 512 → AreMarks ws marks
marks_all ws marks page long before all i = by (cases_lt i page)
  where
    by : (i < page) ⊎ (page ≤ i) → are_all_zero (take 512 (drop (i * 512) ws)) ≡ (get_or marks i 0 == 0)
    by (inl b) = before i b
    by (inr b) = page_past 512 ws i (omega (arith, all, b)) ∙ sym (mark_past marks i (omega (arith, b, long)))

-- a piece is of whole pages
pub room_pages : (level : ℕ) → room level / 512 * 512 ≡ room level
room_pages level = let e = pow-suc 512 level in omega (arith, e)

pub one_more : (marks more : List ℕ) (mark page : ℕ) → length marks ≡ page → more ≡ marks ++ mark ∷ [] → length more ≡ page + 1
one_more marks more mark page long m =
    let a = length-append marks (mark ∷ []) in
    let b = ap length m in
    omega (arith, a, b, long)
