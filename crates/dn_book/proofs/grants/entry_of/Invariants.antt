use Rattle.std.proofs.Common.{◌≡◌, ◌++◌, take, drop}
use Rattle.dn_book.specs.Placed.{without_place}
use Rattle.dn_book.proofs.grants.entry_of.Given as goal

abbrev pub invariant-loop-at : goal.invariant-loop-at
invariant-loop-at l = without_place l.id l.order ≡ take l.at l.order ++ without_place l.id (drop l.at l.order)
