-- Each number so far is taken.
use Rattle.std.proofs.Common.{◌≡◌, ◌-◌, length}
use Rattle.dn_shape.specs.Split.{accepter_text, is_named, first_failing, free_number}
use Rattle.dn_shape.proofs.split.free_text.Given as goal

abbrev pub invariant-loop-number : goal.invariant-loop-number
invariant-loop-number l = first_failing (λ k. is_named l.net (accepter_text l.text k)) (length l.net - l.number) l.number ≡ free_number l.net l.text
