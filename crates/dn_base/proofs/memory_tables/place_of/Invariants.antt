use Rattle.std.proofs.Common.{◌≡◌, ℕ, ◌++◌, take, drop, true}
use Rattle.dn_base.specs.Device.{has_word, sizes_of, with_word}
use Rattle.dn_base.proofs.memory_tables.place_of.Given as goal

abbrev pub invariant-loop-at : goal.invariant-loop-at
invariant-loop-at l = record {
  there : has_word (sizes_of (drop l.at l.tables)) l.unit l.word ≡ true;
  passed : (value : ℕ) → with_word l.tables l.unit l.word value ≡ take l.at l.tables ++ with_word (drop l.at l.tables) l.unit l.word value;
}
