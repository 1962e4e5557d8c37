use Rattle.std.proofs.Common.{◌∙◌, ap, sym, ℕ, Err, arith}
use Rattle.dn_parse.specs.Script.{script_view}
use Rattle.dn_parse.specs.Whole.{block_fault, last_line}
use Rattle.dn_parse.proofs.Judge.{unfinished_seen}
use Rattle.dn_parse.proofs.reader.finished_tree.Goals as goal

pub returns-then-not-is_empty : goal.returns-then-not-is_empty
returns-then-not-is_empty c = λ ts. unfinished_seen c.args.blocks (script_view c.args.commands) (last_line c.args.text.now) ts (grind arith) ∙ ap (λ (n : ℕ). Err (block_fault n)) (sym c.last_line-line.ensures)
