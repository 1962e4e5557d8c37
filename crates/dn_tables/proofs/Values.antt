-- Words after writes: a row of values put over words, and words of a slot that are cleared.
use Rattle.std.proofs.Common.{◌≡◌, ℕ, zero, suc, ◌+◌, ◌-◌, ◌*◌, ◌<◌, ◌≤◌, List, [], ◌∷◌, ◌++◌, length, take, drop, replicate, get_or, slice_set, ◌==◌, IsTrue, refl, sym, ap, ◌∙◌, arith, append_assoc}
use Rattle.std.specs.List.{list_all}
use Rattle.std.proofs.lemmas.List.{length-set, take-append-drop, drop-set, length_push, replicate_more, length-replicate, length-take-le, drop_at, take_at, get_or-drop, get_or-append_right, length-drop, take_more, take_more_set}
use Rattle.std.proofs.lemmas.List.Folds.{list_all_more}
use Rattle.dn_base.proofs.Booleans.{and_from}
use Rattle.dn_base.proofs.Orders.{eq-eqb}
use Rattle.dn_kind.specs.Tables.{slot_words}
use Rattle.dn_tables.specs.Set.{put_over}
use Rattle.dn_tables.specs.Writes.{WordWrite, writes_from, words_after, clears_from}

-- no write changes how many words there are
pub length_after : (writes : List WordWrite) (ws : List ℕ) → length (words_after writes ws) ≡ length ws
length_after [] ws = refl
length_after (w ∷ writes) ws = length_after writes (slice_set ws w.word w.value) ∙ length-set ws w.word w.value

-- writes, and then others
pub after_append : (xs ys : List WordWrite) (ws : List ℕ) → words_after (xs ++ ys) ws ≡ words_after ys (words_after xs ws)
after_append [] ys ws = refl
after_append (x ∷ xs) ys ws = after_append xs ys (slice_set ws x.word x.value)

-- the first of the writes of values write the first values
pub take_writes : (k first : ℕ) (vs : List ℕ) → take k (writes_from first vs) ≡ writes_from first (take k vs)
take_writes zero first vs = refl
take_writes (suc k) first [] = refl
take_writes (suc k) first (v ∷ vs) = ap (λ (l : List WordWrite). record { word = first; value = v } ∷ l) (take_writes k (suc first) vs)

-- there is a write for each value
pub length_writes : (first : ℕ) (vs : List ℕ) → length (writes_from first vs) ≡ length vs
length_writes first [] = refl
length_writes first (v ∷ vs) = ap suc (length_writes (suc first) vs)

-- values, and one more behind them
pub writes_last : (first : ℕ) (vs : List ℕ) (v : ℕ) → writes_from first (vs ++ v ∷ []) ≡ writes_from first vs ++ record { word = first + length vs; value = v } ∷ []
writes_last first [] v = let e : first ≡ first + 0 = omega arith in ap (λ n. record { word = n; value = v } ∷ []) e
writes_last first (w ∷ vs) v =
    let e : suc first + length vs ≡ first + suc (length vs) = omega arith in
    ap (λ (l : List WordWrite). record { word = first; value = w } ∷ l) (writes_last (suc first) vs v)
    ∙ ap (λ n. record { word = first; value = w } ∷ (writes_from (suc first) vs ++ record { word = n; value = v } ∷ [])) e

-- the writes of the first values, and those of the others
pub writes_split : (i first : ℕ) (vs : List ℕ) → writes_from first vs ≡ writes_from first (take i vs) ++ writes_from (first + i) (drop i vs)
writes_split zero first vs = let e : first ≡ first + 0 = omega arith in ap (λ n. writes_from n vs) e
writes_split (suc i) first [] = refl
writes_split (suc i) first (v ∷ vs) =
    let e : suc first + i ≡ first + suc i = omega arith in
    ap (λ (l : List WordWrite). record { word = first; value = v } ∷ l) (writes_split i (suc first) vs)
    ∙ ap (λ n. record { word = first; value = v } ∷ (writes_from (suc first) (take i vs) ++ writes_from n (drop i vs))) e

-- words that are read into a list one after the other
pub read_next : (xs ws : List ℕ) (first i v : ℕ) → i < length xs → first + i < length ws → v ≡ get_or ws (first + i) v → take i xs ≡ take i (drop first ws) → take (i + 1) (slice_set xs i v) ≡ take (i + 1) (drop first ws)
read_next xs ws first i v room within at same =
    let long : length (drop first ws) ≡ length ws - first = length-drop first ws in
    take_more_set xs i v room
    ∙ ap (λ (l : List ℕ). l ++ v ∷ []) same
    ∙ ap (λ n. take i (drop first ws) ++ n ∷ []) (at ∙ sym (get_or-drop first ws i v))
    ∙ sym (take_more (drop first ws) i v (omega arith))

-- words that are 0 one after the other
pub zero_next : (ws : List ℕ) (first i v : ℕ) → first + i < length ws → v ≡ get_or ws (first + i) v → v ≡ 0 → IsTrue (list_all (λ w. w == 0) (take i (drop first ws))) → IsTrue (list_all (λ w. w == 0) (take (i + 1) (drop first ws)))
zero_next ws first i v within at none so_far =
    let long : length (drop first ws) ≡ length ws - first = length-drop first ws in
    list_all_more (λ w. w == 0) (drop first ws) i v (omega arith)
    ∙ and_from (list_all (λ w. w == 0) (take i (drop first ws))) (get_or (drop first ws) i v == 0) so_far (eq-eqb (get_or (drop first ws) i v) 0 (get_or-drop first ws i v ∙ sym at ∙ none))

put_none : (ws : List ℕ) (first : ℕ) → put_over ws first [] ≡ ws
put_none ws first = take-append-drop first ws

put_one : (ws : List ℕ) (first v : ℕ) (vs : List ℕ) → first < length ws → put_over (slice_set ws first v) (suc first) vs ≡ put_over ws first (v ∷ vs)
put_one [] first v vs l = absurd (omega arith)
put_one (w ∷ ws) zero v vs l = refl
put_one (w ∷ ws) (suc first) v vs l = ap (λ (r : List ℕ). w ∷ r) (put_one ws first v vs (omega arith))

-- values that are written from a word on stand there, and all other words are as they were
pub after_puts : (vs ws : List ℕ) (first : ℕ) → first + length vs ≤ length ws → words_after (writes_from first vs) ws ≡ put_over ws first vs
after_puts [] ws first l = sym (put_none ws first)
after_puts (v ∷ vs) ws first l =
    let s : length (slice_set ws first v) ≡ length ws = length-set ws first v in
    after_puts vs (slice_set ws first v) (suc first) (omega arith) ∙ put_one ws first v vs (omega arith)

-- the last of the values may be written first
put_last : (ws : List ℕ) (first v : ℕ) (vs : List ℕ) → first + length vs < length ws → put_over (slice_set ws (first + length vs) v) first vs ≡ put_over ws first (vs ++ v ∷ [])
put_last ws zero v vs l =
    let none : 0 + length vs ≡ length vs = omega arith in
    ap (λ n. vs ++ drop (length vs) (slice_set ws n v)) none
    ∙ ap (λ (r : List ℕ). vs ++ r) (drop-set ws (length vs) v (omega arith))
    ∙ sym (append_assoc vs (v ∷ []) (drop (length vs + 1) ws))
    ∙ ap (λ n. (vs ++ v ∷ []) ++ drop n ws) (sym (length_push vs v))
put_last [] (suc first) v vs l = absurd (omega arith)
put_last (w ∷ ws) (suc first) v vs l =
    let next : suc first + length vs ≡ suc (first + length vs) = omega arith in
    ap (λ n. put_over (slice_set (w ∷ ws) n v) (suc first) vs) next
    ∙ ap (λ (r : List ℕ). w ∷ r) (put_last ws first v vs (omega arith))

cleared_by : (n first : ℕ) (zs ws : List ℕ) → length zs ≡ n → first + n < length ws → words_after (writes_from first zs) (slice_set ws (first + n) 0) ≡ put_over ws first (zs ++ 0 ∷ [])
cleared_by n first zs ws e l =
    let s : length (slice_set ws (first + n) 0) ≡ length ws = length-set ws (first + n) 0 in
    after_puts zs (slice_set ws (first + n) 0) first (omega arith)
    ∙ ap (λ k. put_over (slice_set ws (first + k) 0) first zs) (sym e)
    ∙ put_last ws first 0 zs (omega arith)

-- words that are cleared are 0, and all others are as they were
pub after_clears : (width first : ℕ) (ws : List ℕ) → 1 ≤ width → first + width ≤ length ws → words_after (clears_from first width) ws ≡ put_over ws first (replicate width 0)
after_clears zero first ws l m = absurd (omega arith)
after_clears (suc n) first ws l m =
    let e : suc n - 1 ≡ n = omega arith in
    let one : n + 1 ≡ suc n = omega arith in
    ap (λ k. words_after (writes_from first (replicate k 0)) (slice_set ws (first + k) 0)) e
    ∙ cleared_by n first (replicate n 0) ws (length-replicate n 0) (omega arith)
    ∙ ap (put_over ws first) (replicate_more n 0 ∙ ap (λ k. replicate k 0) one)

drop_put : (ws vs : List ℕ) (first : ℕ) → first ≤ length ws → drop first (put_over ws first vs) ≡ vs ++ drop (length vs) (drop first ws)
drop_put ws vs first l = drop_at (take first ws) (vs ++ drop (length vs) (drop first ws)) first (length-take-le first ws l)

-- the words of a slot over which its words were put are these
pub slot_put : (width slot : ℕ) (ws vs : List ℕ) → slot * width ≤ length ws → length vs ≡ width → slot_words width (put_over ws (slot * width) vs) slot ≡ vs
slot_put width slot ws vs l e =
    ap (take width) (drop_put ws vs (slot * width) l)
    ∙ take_at vs (drop (length vs) (drop (slot * width) ws)) width e

-- a word behind the values is as it was
pub put_past : (ws vs : List ℕ) (first n : ℕ) → first ≤ length ws → length vs ≤ n → get_or (put_over ws first vs) (first + n) 0 ≡ get_or ws (first + n) 0
put_past ws vs first n l m =
    let e : length vs + (n - length vs) ≡ n = omega arith in
    sym (get_or-drop first (put_over ws first vs) n 0)
    ∙ ap (λ (r : List ℕ). get_or r n 0) (drop_put ws vs first l)
    ∙ get_or-append_right vs (drop (length vs) (drop first ws)) (length vs) n 0 refl m
    ∙ get_or-drop (length vs) (drop first ws) (n - length vs) 0
    ∙ ap (λ k. get_or (drop first ws) k 0) e
    ∙ get_or-drop first ws n 0
