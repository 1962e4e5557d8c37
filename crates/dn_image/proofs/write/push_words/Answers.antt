use Rattle.std.proofs.Common.{◌≡◌, ◌∙◌, ◌+◌, ◌-◌, ◌*◌, ◌++◌, ◌∷◌, ◌<◌, ◌≤◌, ap, sym, drop, length, min, replicate, List, ℕ, append_assoc, append-nil, arith}
use Rattle.std.proofs.lemmas.List.{drop_more}
use Rattle.dn_base.proofs.Told.{on_ok_then}
use Rattle.byteorder.specs.Endian.{little_bytes}
use Rattle.dn_image.specs.Bytes.{word_bytes}
use Rattle.dn_image.proofs.Zeros.{rest_zero, zero_words}
use Rattle.dn_image.proofs.write.push_words.Goals as goal

pub loop-at-preserved : goal.loop-at-preserved
loop-at-preserved c =
    let ws : List ℕ = c.args.words.now in
    let at : ℕ = c.loop-at.at in
    let w : ℕ = c.get-word.result in
    let rest : List ℕ = word_bytes (drop (at + 1) ws) in
    let inside : at < length ws = omega (arith, c.min-end.ensures, c.len-count.ensures, c.loop-at-test.true) in
    let here : drop at ws ≡ w ∷ drop (at + 1) ws = drop_more ws at w inside ∙ ap (λ (v : ℕ). v ∷ drop (at + 1) ws) (sym c.get-word.ensures) in
    record {
      few = omega (arith, c.loop-at-test.true);
      so_far = ap (λ (l : List ℕ). l ++ rest) (c.in_ok-extend_from_slice.ensures.items ∙ ap (λ (l : List ℕ). c.loop-at.out.items ++ l) (c.write_u64.ensures ∙ append-nil (little_bytes 8 w)))
          ∙ append_assoc c.loop-at.out.items (little_bytes 8 w) rest
          ∙ ap (λ (l : List ℕ). c.loop-at.out.items ++ word_bytes l) (sym here)
          ∙ c.loop-at.invariant.so_far;
    }

pub returns : goal.returns
returns c =
    let ws : List ℕ = c.args.words.now in
    let at : ℕ = c.loop-at.at in
    let n : ℕ = c.min-end.result in
    let is : at ≡ n = omega (arith, c.loop-at-test.false, c.loop-at.invariant.few) in
    let rest : replicate (8 * (c.len-count.result - n)) 0 ≡ word_bytes (drop at ws) =
    ap (λ k. replicate (8 * (k - n)) 0) c.len-count.ensures
    ∙ sym (zero_words (length ws - n))
    ∙ ap word_bytes (sym (rest_zero ws c.zeros_from.result n (c.min-end.ensures ∙ ap (min c.zeros_from.result) c.len-count.ensures) c.zeros_from.ensures))
    ∙ ap (λ k. word_bytes (drop k ws)) (sym is) in
    on_ok_then c.push_zeros.result _ _
    (λ e. e ∙ ap (λ (l : List ℕ). c.loop-at.out.items ++ l) rest ∙ c.loop-at.invariant.so_far)
    c.push_zeros.ensures
