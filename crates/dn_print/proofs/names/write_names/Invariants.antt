use Rattle.std.proofs.Common.{◌≡◌, ◌++◌, drop, length, IsTrue}
use Rattle.std.specs.String.{string_bytes}
use Rattle.dn_kind.specs.Levels.{are_there}
use Rattle.dn_print.specs.Names.{more_names_text}
use Rattle.dn_print.proofs.names.write_names.Given as goal

abbrev pub invariant-loop-name : goal.invariant-loop-name
invariant-loop-name l = record {
  so_far : string_bytes l.out ++ more_names_text l.net (drop l.name-index l.rest) ≡ string_bytes l.initial.out ++ more_names_text l.net l.rest;
  there : IsTrue (are_there (length l.net) (drop l.name-index l.rest));
}
