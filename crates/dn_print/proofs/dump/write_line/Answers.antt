use Rattle.std.proofs.Common.{◌∙◌, ◌++◌, List, ℕ, ap, refl}
use Rattle.dn_print.proofs.Dumped.{zero_line}
use Rattle.dn_print.proofs.dump.write_line.Goals as goal

pub returns-then-is_zero-clause-line : goal.returns-then-is_zero-clause-line
returns-then-is_zero-clause-line c = c.in_ok-extend_from_slice.ensures.items ∙ ap (λ (l : List ℕ). c.args.out.now.items ++ l) (zero_line c.args.line.now c.if-line-eq-LINE.true (c.if-is_zero.ensures refl))
