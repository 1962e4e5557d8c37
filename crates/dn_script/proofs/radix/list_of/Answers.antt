-- One word more, and all of them.
use Rattle.std.proofs.Common.{◌∙◌, ◌++◌, [], ◌∷◌, ◌<◌, ◌≤◌, ap, sym, take, length, List, ℕ, arith}
use Rattle.std.proofs.lemmas.List.{take_all, take_more}
use Rattle.dn_script.proofs.radix.list_of.Goals as goal

pub loop-at-preserved : goal.loop-at-preserved
loop-at-preserved c =
    let ws : List ℕ = c.args.words.now in
    let at : ℕ = c.loop-at.at in
    let w : ℕ = c.get.result in
    let end = c.loop-at.invariant.end in
    let inside : at < length ws = omega arith in
    record {
      end = end;
      so_far = c.in_ok-push.ensures.items
          ∙ ap (λ (l : List ℕ). l ++ w ∷ []) c.loop-at.invariant.so_far
          ∙ ap (λ (v : ℕ). take at ws ++ v ∷ []) c.get.ensures
          ∙ sym (take_more ws at w inside);
    }

pub returns : goal.returns
returns c =
    let end = c.loop-at.invariant.end in
    let past : length c.args.words.now ≤ c.loop-at.at = omega arith in
    c.loop-at.invariant.so_far ∙ take_all c.loop-at.at c.args.words.now past
