-- A walk of the tree of a unit's words, and of any image, word by word.
use Rattle.std.proofs.Common.{◌≡◌, ℕ, zero, suc, ◌+◌, ◌-◌, ◌*◌, ◌^◌, ◌<◌, ◌≤◌, Bool, false, List, [], ◌∷◌, ◌++◌, length, take, drop, get_or, Ok, Err, Result, refl, sym, ap, ◌∙◌, arith, append_assoc, append-nil, if◌then◌else◌}
use Rattle.std.specs.Prelude.{nat_lt}
use Rattle.std.proofs.Math.Nat.{mul-le-mul_right}
use Rattle.std.proofs.lemmas.Bool.{le-ltb}
use Rattle.std.proofs.lemmas.List.{drop_more}
use Rattle.dn_radix.specs.Found.{found}
use Rattle.dn_radix.specs.Tree.{level_of, tree_bytes}
use Rattle.dn_radix.proofs.Read.{tree_size}
use Rattle.dn_radix.proofs.Reached.{words_are_found}
use Rattle.dn_radix.specs.Laws.{TreeIsWalked}
use Rattle.dn_radix.specs.Walked.{record_of_words, walked_words, word_before}

words_walked : (ws : List ℕ) (i n : ℕ) → length ws ≤ 1048576 → ((k : ℕ) → get_or ws k 0 < 2 ^ 64) → i + n ≤ length ws → walked_words (tree_bytes ws) (level_of (length ws)) i n ≡ Ok (take n (drop i ws))
words_walked ws i zero few small l = refl
words_walked ws i (suc n) few small l =
    let here : i < length ws = omega arith in
    let next : i + 1 ≡ suc i = omega arith in
    ap (λ (r : Result ℕ ℕ). word_before r (walked_words (tree_bytes ws) (level_of (length ws)) (suc i) n)) (words_are_found ws i few small here)
    ∙ ap (word_before (Ok (get_or ws i 0))) (words_walked ws (suc i) n few small (omega arith))
    ∙ ap (λ (k : ℕ). Ok (get_or ws i 0 ∷ take n (drop k ws))) (sym next)
    ∙ ap (λ (l : List ℕ). Ok (take (suc n) l)) (sym (drop_more ws i 0 here))

pub tree_is_walked : TreeIsWalked
tree_is_walked u kind ws slot few is small there =
    let size = tree_size (tree_bytes ws) (length ws) ws few (record { count_is = refl; small = small; tree = refl }) in
    let long : nat_lt (length (tree_bytes ws)) 4096 ≡ false = le-ltb (length (tree_bytes ws)) 4096 size.0 in
    let inside : suc slot * kind.words ≤ u.slots * kind.words = mul-le-mul_right kind.words there in
    let end : slot * kind.words + kind.words ≤ length ws = omega (arith, inside, is) in
    ap (λ (b : Bool). if b then Err 0 else record_of_words u kind (walked_words (tree_bytes ws) (level_of (u.slots * kind.words)) (slot * kind.words) kind.words)) long
    ∙ ap (λ (n : ℕ). record_of_words u kind (walked_words (tree_bytes ws) (level_of n) (slot * kind.words) kind.words)) (sym is)
    ∙ ap (record_of_words u kind) (words_walked ws (slot * kind.words) kind.words few small end)

-- words before others, or the first of what is bad
abbrev pub with_words : List ℕ → Result (List ℕ) ℕ → Result (List ℕ) ℕ
with_words ws (Ok vs) = Ok (ws ++ vs)
with_words ws (Err place) = Err place

-- one word more was found
pub walk_more : (image : List ℕ) (level first width word w : ℕ) (read read' : List ℕ) → word < width → walked_words image level first width ≡ with_words read (walked_words image level (first + word) (width - word)) → ◌≡◌ {A = Result ℕ ℕ} (Ok w) (found image level (first + word) 0) → read' ≡ read ++ w ∷ [] → walked_words image level first width ≡ with_words read' (walked_words image level (first + (word + 1)) (width - (word + 1)))
walk_more image level first width word w read read' l so_far here more =
    let left : width - word ≡ suc (width - (word + 1)) = omega arith in
    let next : suc (first + word) ≡ first + (word + 1) = omega arith in
    so_far
    ∙ ap (λ (n : ℕ). with_words read (walked_words image level (first + word) n)) left
    ∙ ap (λ (r : Result ℕ ℕ). with_words read (word_before r (walked_words image level (suc (first + word)) (width - (word + 1))))) (sym here)
    ∙ ap (λ (n : ℕ). with_words read (word_before (Ok w) (walked_words image level n (width - (word + 1))))) next
    ∙ joined (walked_words image level (first + (word + 1)) (width - (word + 1)))
    ∙ ap (λ (ws : List ℕ). with_words ws (walked_words image level (first + (word + 1)) (width - (word + 1)))) (sym more)
  where
    joined : (r : Result (List ℕ) ℕ) → with_words read (word_before (Ok w) r) ≡ with_words (read ++ w ∷ []) r
    joined (Ok vs) = ap Ok (sym (append_assoc read (w ∷ []) vs))
    joined (Err place) = refl

-- an entry was bad
pub walk_bad : (image : List ℕ) (level first width word place : ℕ) (read : List ℕ) → word < width → walked_words image level first width ≡ with_words read (walked_words image level (first + word) (width - word)) → ◌≡◌ {A = Result ℕ ℕ} (Err place) (found image level (first + word) 0) → walked_words image level first width ≡ Err place
walk_bad image level first width word place read l so_far here =
    let left : width - word ≡ suc (width - (word + 1)) = omega arith in
    so_far
    ∙ ap (λ (n : ℕ). with_words read (walked_words image level (first + word) n)) left
    ∙ ap (λ (r : Result ℕ ℕ). with_words read (word_before r (walked_words image level (suc (first + word)) (width - (word + 1))))) (sym here)

-- all words were found
pub walk_all : (image : List ℕ) (level first width word : ℕ) (read : List ℕ) → width ≤ word → walked_words image level first width ≡ with_words read (walked_words image level (first + word) (width - word)) → walked_words image level first width ≡ Ok read
walk_all image level first width word read l so_far =
    let none : width - word ≡ 0 = omega arith in
    so_far
    ∙ ap (λ (n : ℕ). with_words read (walked_words image level (first + word) n)) none
    ∙ ap Ok (append-nil read)

pub walk_start : (image : List ℕ) (level first width : ℕ) (words : List ℕ) → walked_words image level first width ≡ with_words (take 0 words) (walked_words image level (first + 0) (width - 0))
walk_start image level first width words =
    let a : first ≡ first + 0 = omega arith in
    let b : width ≡ width - 0 = omega arith in
    ap (λ (n : ℕ). walked_words image level n width) a
    ∙ ap (λ (n : ℕ). walked_words image level (first + 0) n) b
    ∙ same (walked_words image level (first + 0) (width - 0))
  where
    same : (r : Result (List ℕ) ℕ) → r ≡ with_words [] r
    same (Ok vs) = refl
    same (Err place) = refl
