use Rattle.std.proofs.Common.{◌≡◌, ◌++◌}
use Rattle.std.specs.String.{string_bytes}
use Rattle.dn_demo.specs.Text.{texts_below, grant_text}
use Rattle.dn_demo.proofs.text.write_grants_of.Given as goal

abbrev pub invariant-loop-buffer : goal.invariant-loop-buffer
invariant-loop-buffer l = string_bytes l.out ≡ string_bytes l.initial.out ++ texts_below (grant_text l.agent) l.buffer
