use Rattle.std.proofs.Common.{◌≡◌, ◌-◌}
use Rattle.std.specs.Prelude.{find}
use Rattle.std.specs.List.{range_with_len}
use Rattle.std.specs.Fmt.{decimal}
use Rattle.std.specs.Str.{bytes_eq}
use Rattle.dn_words.specs.Words.{agents_of}
use Rattle.dn_words.proofs.number.agents.Given as goal

abbrev pub invariant-loop-agents : goal.invariant-loop-agents
invariant-loop-agents l = agents_of l.word ≡ find (λ n. bytes_eq l.word (decimal n)) (range_with_len l.agents (65 - l.agents))
