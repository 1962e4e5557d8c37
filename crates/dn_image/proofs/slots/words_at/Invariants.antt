use Rattle.std.proofs.Common.{◌≡◌, ◌+◌, ◌*◌, ◌≤◌, take}
use Rattle.dn_kind.specs.Kinded.{kinds_of}
use Rattle.dn_image.specs.Reading.{nodes_size}
use Rattle.dn_image.proofs.slots.words_at.Given as goal

abbrev pub invariant-loop-before : goal.invariant-loop-before
invariant-loop-before g l =
    let kinds = kinds_of (λ k. (goal.UnitKind-dyn g k).meaning k.1) l.on.kinds.now in
    record {
      at : l.at ≡ 8 + nodes_size kinds (take l.before l.on.net.now);
      small : l.at ≤ 8 + 8388616 * l.before;
    }
