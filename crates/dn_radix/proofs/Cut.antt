-- A piece of a list, as it is cut.
use Rattle.std.proofs.Common.{◌≡◌, ℕ, ◌+◌, ◌-◌, min, List, length, take, drop, ap, ◌∙◌, arith, length-drop}
use Rattle.std.proofs.lemmas.List.{drop_min, take_min}

-- a piece that ends with the list, or has its size
pub cut_is : (ws : List ℕ) (from size : ℕ) → take (min (from + size) (length ws) - min from (length ws)) (drop (min from (length ws)) ws) ≡ take size (drop from ws)
cut_is ws from size =
    let a = length-drop from ws in
    let e : min (from + size) (length ws) - min from (length ws) ≡ min size (length (drop from ws)) = omega arith in
    ap (λ (l : List ℕ). take (min (from + size) (length ws) - min from (length ws)) l) (drop_min from ws)
    ∙ ap (λ n. take n (drop from ws)) e
    ∙ take_min size (drop from ws)
