-- Words that are 0, and their bytes.
use Rattle.std.proofs.Common.{◌≡◌, ◌∙◌, ℕ, zero, suc, ◌+◌, ◌-◌, ◌*◌, ◌<◌, ◌≤◌, ◌++◌, List, min, ap, sym, drop, get_or, length, replicate, refl, arith}
use Rattle.std.proofs.lemmas.Grind.{same_number_lists}
use Rattle.std.proofs.lemmas.List.{get_or-drop, get_or-replicate, length-drop, length-replicate, replicate-append-replicate}
use Rattle.byteorder.specs.Endian.{little_bytes}
use Rattle.dn_image.specs.Bytes.{word_bytes}

zero_bytes : little_bytes 8 0 ≡ replicate 8 0
zero_bytes = refl

-- the bytes of words that are 0
pub zero_words : (n : ℕ) → word_bytes (replicate n 0) ≡ replicate (8 * n) 0
zero_words zero = refl
zero_words (suc n) =
    ap (λ (l : List ℕ). l ++ word_bytes (replicate n 0)) zero_bytes
    ∙ ap (λ (l : List ℕ). replicate 8 0 ++ l) (zero_words n)
    ∙ replicate-append-replicate 8 (8 * n) 0
    ∙ ap (λ k. replicate k 0) (let e : 8 + 8 * n ≡ 8 * suc n = omega arith in e)

-- words that are 0 from a place on
pub rest_zero : (ws : List ℕ) (from end : ℕ) → end ≡ min from (length ws) → ((k : ℕ) → from ≤ k → get_or ws k 0 ≡ 0) → drop end ws ≡ replicate (length ws - end) 0
rest_zero ws from end is zeros =
    let long : length (drop end ws) ≡ length ws - end = length-drop end ws in
    same_number_lists (drop end ws) (replicate (length ws - end) 0) (long ∙ sym (length-replicate (length ws - end) 0))
    (λ k l. get_or-drop end ws k 0 ∙ zeros (end + k) (omega (arith, is, l, long)) ∙ sym (get_or-replicate (length ws - end) k 0 0 (omega (arith, l, long))))

-- so many numbers that are 0
abbrev zeros : ℕ → List ℕ
zeros count = replicate count 0

-- some of them, and then the others
pub zeros_split : (all some : ℕ) → some ≤ all → zeros (8 * some) ++ zeros (8 * (all - some)) ≡ zeros (8 * all)
zeros_split all some few = replicate-append-replicate (8 * some) (8 * (all - some)) 0 ∙ ap zeros (let e : 8 * some + 8 * (all - some) ≡ 8 * all = omega (arith, few) in e)
