-- Pages of 512 words, which are found once for all their words.
use Rattle.std.proofs.Common.{◌≡◌, ℕ, ◌+◌, ◌-◌, ◌*◌, ◌/◌, ◌%◌, ◌^◌, ◌<◌, ◌≤◌, min, List, ◌++◌, length, take, drop, replicate, get_or, Option, Some, None, Ok, Err, Result, refl, sym, ap, ◌∙◌, arith, length-drop}
use Rattle.std.proofs.Math.Nat.{add-mul, add_assoc, div-add-mod', div-div-eq-div-mul, mod-eq_of_lt, mul-add-mod_self_right, mul-div_cancel, mul_assoc, mul_comm, one-le-pow, pow-suc}
use Rattle.std.proofs.lemmas.Nat.{mod_below}
use Rattle.std.proofs.Math.Seq.{take-add}
use Rattle.std.proofs.lemmas.List.{drop-drop, drop-take, get_or-drop, get_or-take, length-take, length-replicate, take_min}
use Rattle.byteorder.specs.Numbers.{little_from-take}
use Rattle.dn_radix.specs.declared.fault.Bad.{Bad}
use Rattle.dn_radix.specs.Tree.{level_of, room}
use Rattle.dn_radix.specs.Found.{AreOfPage, followed, found, word_in_bytes, word_of_page}
use Rattle.dn_radix.specs.Built.{IsTreeOf}
use Rattle.dn_radix.proofs.Read.{same_lists, word_is}
use Rattle.dn_radix.proofs.Reached.{zeros}
use Rattle.dn_radix.proofs.Steps.{found_step}

-- how many pages of words there is room for below an entry
pub pages_below : (level size : ℕ) → size ≡ room level / 512 → (size * 512 ≡ room level) × (0 < size)
pages_below level size e =
    let p = pow-suc 512 level in
    let q : room level / 512 ≡ 512 ^ level = ap (λ n. n / 512) p ∙ mul-div_cancel (512 ^ level) (omega arith) in
    let l = one-le-pow level 512 (omega arith) in
    (ap (λ n. n * 512) (e ∙ q) ∙ sym p, omega (arith, e, q, l))

-- what is left of a word of a page behind so many pages
rest_in_page : (at size i : ℕ) → 0 < size → i < 512 → (512 * at + i) % (size * 512) ≡ at % size * 512 + i
rest_in_page at size i some l =
    let top = mod_below at size some in
    let split : 512 * at + i ≡ at / size * (size * 512) + (at % size * 512 + i) =
    ap (λ n. n + i) (mul_comm 512 at)
    ∙ ap (λ n. n * 512 + i) (sym (div-add-mod' at size))
    ∙ ap (λ n. n + i) (add-mul (at / size * size) (at % size) 512 ∙ ap (λ n. n + at % size * 512) (mul_assoc (at / size) size 512))
    ∙ add_assoc (at / size * (size * 512)) (at % size * 512) i in
    ap (λ n. n % (size * 512)) split ∙ mul-add-mod_self_right (at / size) (size * 512) (at % size * 512 + i) ∙ mod-eq_of_lt (omega (arith, top, l))

-- one entry further, for each word of a page
pub page_step : (image : List ℕ) (below at page size i : ℕ) → 0 < below → size ≡ room (below - 1) / 512 → i < 512 → found image below (512 * at + i) page ≡ followed (found image (below - 1) (512 * (at % size) + i)) (length image) (page + 8 * (at / size)) (word_in_bytes image (page + 8 * (at / size)))
page_step image below at page size i some e l =
    let n : ℕ = 512 * at + i in
    let r = pages_below (below - 1) size e in
    let up : n / 512 ≡ at = omega arith in
    let quotient : n / room (below - 1) ≡ at / size = ap (λ m. n / m) (sym r.0 ∙ mul_comm size 512) ∙ sym (div-div-eq-div-mul n 512 size) ∙ ap (λ m. m / size) up in
    let rest : n % room (below - 1) ≡ at % size * 512 + i = ap (λ m. n % m) (sym r.0) ∙ rest_in_page at size i r.1 l in
    let turned : at % size * 512 + i ≡ 512 * (at % size) + i = omega arith in
    found_step image below n page (room (below - 1)) some refl
    ∙ ap (λ m. followed (found image (below - 1) (n % room (below - 1))) (length image) (page + 8 * m) (word_in_bytes image (page + 8 * m))) quotient
    ∙ ap (λ m. followed (found image (below - 1) m) (length image) (page + 8 * (at / size)) (word_in_bytes image (page + 8 * (at / size)))) (rest ∙ turned)

-- a word of bytes that were cut out of an image
pub word_cut : (image : List ℕ) (at count i : ℕ) → i < count → word_in_bytes (take (8 * count) (drop at image)) (8 * i) ≡ word_in_bytes image (at + 8 * i)
word_cut image at count i l =
    let split : 8 * count ≡ 8 * i + 8 * (count - i) = omega arith in
    ap (λ n. word_in_bytes (take n (drop at image)) (8 * i)) split
    ∙ ap (λ (bytes : List ℕ). word_of bytes) (drop-take (8 * i) (8 * (count - i)) (drop at image))
    ∙ little_from-take 0 8 (8 * (count - i)) (drop (8 * i) (drop at image)) (omega arith)
    ∙ ap (λ (bytes : List ℕ). word_of bytes) (drop-drop (8 * i) at image)
  where
    word_of : List ℕ → ℕ
    word_of bytes = word_in_bytes bytes 0

-- the words that were cut out
pub words_cut : (image : List ℕ) (at count : ℕ) (ws : List ℕ) → AreOfPage image (Some at) count ws → AreOfPage (take (8 * count) (drop at image)) (Some 0) count ws
words_cut image at count ws are = record {
  count_is = are.count_is;
  words = λ i l. let z : 0 + 8 * i ≡ 8 * i = omega arith in ap (λ n. Ok (word_in_bytes (take (8 * count) (drop at image)) n)) z ∙ ap Ok (word_cut image at count i l) ∙ are.words i l;
}

-- the words that bytes spell
pub words_read : (bytes read ws : List ℕ) (count : ℕ) → length read ≡ count → ((i : ℕ) → i < length read → get_or read i 0 ≡ word_in_bytes bytes (8 * i)) → AreOfPage bytes (Some 0) count ws → read ≡ ws
words_read bytes read ws count long spelt are = same_lists read ws (long ∙ sym are.count_is) at
  where
    at : (i : ℕ) → i < length read → get_or read i 0 ≡ get_or ws i 0
    at i l =
        let here : i < count = omega (arith, long, l) in
        let a = spelt i l in
        let z : 8 * i ≡ 0 + 8 * i = omega arith in
        let b : ◌≡◌ {A = Result ℕ ℕ} (Ok (word_in_bytes bytes (8 * i))) (Ok (get_or ws i 0)) = ap (λ n. Ok (word_in_bytes bytes n)) z ∙ are.words i here in
        cc

-- words of no page
pub words_none : (image ws : List ℕ) (count : ℕ) → AreOfPage image None count ws → replicate {A = ℕ} count 0 ≡ ws
words_none image ws count are = same_lists (replicate {A = ℕ} count 0) ws (length-replicate {A = ℕ} count 0 ∙ sym are.count_is) at
  where
    at : (i : ℕ) → i < length (replicate {A = ℕ} count 0) → get_or (replicate {A = ℕ} count 0) i 0 ≡ get_or ws i 0
    at i l =
        let n = length-replicate {A = ℕ} count 0 in
        let a = zeros count i in
        let b : ◌≡◌ {A = Result ℕ ℕ} (Ok 0) (Ok (get_or ws i 0)) = are.words i (omega (arith, n, l)) in
        cc

-- a page of the tree of words has the words from its own first on
pub page_is : (image : List ℕ) (count number level : ℕ) (page : Option ℕ) (ws : List ℕ) → count ≤ 1048576 → level ≡ level_of count → IsTreeOf image count ws → ((i : ℕ) → i < 512 → found image level (512 * number + i) 0 ≡ word_of_page image (Ok page) i) → AreOfPage image page (min 512 (count - 512 * number)) (take (min 512 (count - 512 * number)) (drop (512 * number) ws))
page_is image count number level page ws few e t found_there =
    let left : ℕ = min 512 (count - 512 * number) in
    let n = t.count_is in
    let d = length-drop (512 * number) ws in
    let a = length-take left (drop (512 * number) ws) in
    record {
      count_is = omega (arith, a, d, n);
      words = λ i l. let there : 512 * number + i < count = omega (arith, l) in sym (found_there i (omega (arith, l))) ∙ word_is image count (512 * number + i) level ws (found image level (512 * number + i) 0) few there e t refl ∙ ap Ok (sym (get_or-take left (drop (512 * number) ws) i 0 l ∙ get_or-drop (512 * number) ws i 0));
    }

-- one page more
pub pages_more : (count number : ℕ) (ws list list' : List ℕ) → length ws ≡ count → list ≡ take (512 * number) ws → list' ≡ list ++ take (min 512 (count - 512 * number)) (drop (512 * number) ws) → list' ≡ take (512 * (number + 1)) ws
pages_more count number ws list list' n so_far more =
    let d = length-drop (512 * number) ws in
    let left : min 512 (count - 512 * number) ≡ min 512 (length (drop (512 * number) ws)) = omega (arith, d, n) in
    let next : 512 * number + 512 ≡ 512 * (number + 1) = omega arith in
    more ∙ ap (λ (l : List ℕ). l ++ take (min 512 (count - 512 * number)) (drop (512 * number) ws)) so_far
    ∙ ap (λ m. take (512 * number) ws ++ take m (drop (512 * number) ws)) left
    ∙ ap (λ (l : List ℕ). take (512 * number) ws ++ l) (take_min 512 (drop (512 * number) ws))
    ∙ sym (take-add (512 * number) 512 ws)
    ∙ ap (λ m. take m ws) next

-- no page of the tree of words is bad
pub none_bad : (image : List ℕ) (count number level : ℕ) (bad : Bad) (ws : List ℕ) → count ≤ 1048576 → 512 * number < count → level ≡ level_of count → IsTreeOf image count ws → ((i : ℕ) → i < 512 → found image level (512 * number + i) 0 ≡ word_of_page image (Err bad) i) → ⊥
none_bad image count number level bad ws few there e t found_there =
    let z : 512 * number + 0 ≡ 512 * number = omega arith in
    let a = found_there 0 (omega arith) in
    let b : found image level (512 * number + 0) 0 ≡ Ok (get_or ws (512 * number + 0) 0) = word_is image count (512 * number + 0) level ws (found image level (512 * number + 0) 0) few (omega arith) e t refl in
    let same : ◌≡◌ {A = Result ℕ ℕ} (Err bad.at) (Ok (get_or ws (512 * number + 0) 0)) = sym a ∙ b in
    cc
