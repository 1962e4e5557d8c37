use Rattle.std.proofs.Common.{◌∙◌, ◌++◌, List, ℕ, ap}
use Rattle.std.proofs.lemmas.List.{take-replicate}
use Rattle.dn_radix.proofs.linear.push_zeros.Goals as goal

pub returns : goal.returns
returns c = c.in_ok-extend_from_slice.ensures.items ∙ ap (λ (l : List ℕ). c.args.list.now.items ++ l) (take-replicate {X = ℕ} c.args.count 512 0 c.requires.few)
