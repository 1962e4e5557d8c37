use Rattle.std.proofs.Common.{◌≡◌, ◌++◌, take, length}
use Rattle.dn_print.specs.Dump.{lines_text}
use Rattle.dn_print.proofs.dump.write_lines.Given as goal

abbrev pub invariant-loop-line : goal.invariant-loop-line
invariant-loop-line l = record {
  size : l.line-iterator.size ≡ 32;
  so_far : l.out.items ++ lines_text l.line-iterator.rest.now ≡ l.initial.out.items ++ lines_text l.bytes;
  kept : take (length l.initial.out.items) l.out.items ≡ l.initial.out.items;
}
