use Rattle.std.proofs.Common.{◌≡◌, ◌∙◌, ◌-◌, ◌*◌, ◌++◌, [], List, ℕ, ap, sym, replicate, append_assoc, append-nil, arith}
use Rattle.std.proofs.lemmas.List.{take-replicate}
use Rattle.dn_image.proofs.Zeros.{zeros_split}
use Rattle.dn_image.proofs.write.push_zeros.Goals as goal

pub parts-preserved : goal.parts-preserved
parts-preserved c =
    let left : ℕ = c.parts.left in
    let part : ℕ = c.min-part.result in
    let rest : List ℕ = replicate (8 * (left - part)) 0 in
    ap (λ (l : List ℕ). l ++ rest) (c.in_ok-extend_from_slice.ensures.items ∙ ap (λ (l : List ℕ). c.parts.out.items ++ l) (take-replicate (8 * part) 2048 0 (omega (arith, c.min-part.ensures))))
    ∙ append_assoc c.parts.out.items (replicate (8 * part) 0) rest
    ∙ ap (λ (l : List ℕ). c.parts.out.items ++ l) (zeros_split left part (omega (arith, c.min-part.ensures)))
    ∙ c.parts.invariant

pub returns : goal.returns
returns c =
    let none : c.parts.left ≡ 0 = omega (arith, c.parts-test.false) in
    sym (append-nil c.parts.out.items) ∙ ap (λ n. c.parts.out.items ++ replicate (8 * n) 0) (sym none) ∙ c.parts.invariant
