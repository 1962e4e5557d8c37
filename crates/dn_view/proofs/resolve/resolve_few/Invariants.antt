use Rattle.std.proofs.Common.{◌≡◌, ◌-◌, suc, length, IsTrue}
use Rattle.dn_net.specs.Decode.{is_accepted}
use Rattle.dn_kind.specs.Kinded.{kinds_of}
use Rattle.dn_kind.specs.Tables.{step_limit_under, steps_under, resolved_names_under}
use Rattle.dn_kind.specs.Levels.{are_there}
use Rattle.dn_kind.specs.Tables.{allowing}
use Rattle.dn_tables.specs.Set.{record_kept}
use Rattle.dn_kind.proofs.Stages.{ends_by}
use Rattle.dn_view.proofs.resolve.resolve_few.Given as goal

abbrev pub invariant-loop : goal.invariant-loop
invariant-loop g l =
    let kinds = kinds_of (λ k. (goal.UnitKind-dyn g k).meaning k.1) l.on.kinds.now in
    let h = allowing l.access (record_kept kinds l.tables) in
    record {
      so_far : ends_by (steps_under l.on.net.now h) (is_accepted l.on.net.now) (suc step_limit_under - l.counter) l.accepted.items l.level ≡ resolved_names_under l.on.net.now h l.fn.name;
      there : IsTrue (are_there (length l.on.net.now) l.level);
    }
