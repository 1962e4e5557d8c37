use Rattle.std.proofs.Common.{◌≡◌, ◌∙◌, ◌+◌, ◌-◌, ◌++◌, List, ℕ, length, suc, sym, ap, arith, replicate, append_assoc, append-nil}
use Rattle.dn_radix.specs.Tree.{joined_bytes}
use Rattle.dn_radix.proofs.Pieces.{tree_last}
use Rattle.dn_radix.proofs.Words.{bytes_both}
use Rattle.dn_radix.proofs.build.push_page.Goals as goal

pub loop-place-init : goal.loop-place-init
loop-place-init c =
    let zeros : List ℕ = replicate {A = ℕ} (512 - length c.args.words.now) 0 in
    ap (λ (l : List ℕ). l ++ joined_bytes zeros) c.in_ok-push_words.ensures
    ∙ append_assoc c.args.out.now.items (joined_bytes c.args.words.now) (joined_bytes zeros)
    ∙ ap (λ (l : List ℕ). c.args.out.now.items ++ l) (sym (bytes_both c.args.words.now zeros))

pub loop-place-preserved : goal.loop-place-preserved
loop-place-preserved c =
    let left : 512 - c.loop-place.place ≡ suc (512 - (c.loop-place.place + 1)) = omega arith in
    let rest : List ℕ = replicate {A = ℕ} (512 - (c.loop-place.place + 1)) 0 in
    ap (λ (l : List ℕ). l ++ joined_bytes rest) c.in_ok-extend_from_slice.ensures.items
    ∙ append_assoc c.loop-place.out.items (replicate {A = ℕ} 8 0) (joined_bytes rest)
    ∙ ap (λ n. c.loop-place.out.items ++ joined_bytes (replicate {A = ℕ} n 0)) (sym left)
    ∙ c.loop-place.invariant

pub returns : goal.returns
returns c at =
    let none : 512 - c.loop-place.place ≡ 0 = omega arith in
    sym (append-nil c.loop-place.out.items)
    ∙ ap (λ n. c.loop-place.out.items ++ joined_bytes (replicate {A = ℕ} n 0)) (sym none)
    ∙ c.loop-place.invariant
    ∙ ap (λ (l : List ℕ). c.args.out.now.items ++ joined_bytes l) (sym (tree_last at c.args.words.now))
