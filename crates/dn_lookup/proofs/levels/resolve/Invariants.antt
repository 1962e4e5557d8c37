use Rattle.std.proofs.Common.{◌≡◌, ◌-◌, suc, length, IsTrue}
use Rattle.dn_net.specs.Decode.{is_accepted}
use Rattle.dn_kind.specs.Kinded.{kinds_of}
use Rattle.dn_kind.specs.Tables.{step_limit_under, steps_under, resolved_names_under}
use Rattle.dn_kind.specs.Levels.{are_there}
use Rattle.dn_lookup.specs.Lookup.{bytes_records}
use Rattle.dn_kind.proofs.Stages.{ends_by}
use Rattle.dn_lookup.proofs.levels.resolve.Given as goal

abbrev pub invariant-loop : goal.invariant-loop
invariant-loop g l =
    let kinds = kinds_of (λ k. (goal.UnitKind-dyn g k).meaning k.1) l.image.on.kinds.now in
    let h = bytes_records l.image.on.net.now kinds l.image.bytes.now l.image.version l.access in
    record {
      so_far : ends_by (steps_under l.image.on.net.now h) (is_accepted l.image.on.net.now) (suc step_limit_under - l.counter) l.accepted.items l.level ≡ resolved_names_under l.image.on.net.now h l.fn.name;
      there : IsTrue (are_there (length l.image.on.net.now) l.level);
    }
