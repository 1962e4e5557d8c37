use Rattle.std.proofs.Common.{◌≡◌, ◌++◌, drop, length, IsTrue}
use Rattle.dn_net.specs.Decode.{is_accepted}
use Rattle.dn_net.specs.Names.{each_step, passing_names}
use Rattle.dn_kind.specs.Kinded.{kinds_of}
use Rattle.dn_kind.specs.Tables.{steps_under}
use Rattle.dn_kind.specs.Levels.{are_there}
use Rattle.dn_kind.specs.Tables.{allowing}
use Rattle.dn_tables.specs.Set.{record_kept}
use Rattle.dn_view.proofs.resolve.next_level.Given as goal

abbrev pub invariant-loop-name : goal.invariant-loop-name
invariant-loop-name g l =
    let kinds = kinds_of (λ k. (goal.UnitKind-dyn g k).meaning k.1) l.on.kinds.now in
    let f = steps_under l.on.net.now (allowing l.access (record_kept kinds l.tables)) in
    record {
      accepted : l.accepted.items ++ passing_names (is_accepted l.on.net.now) (drop l.name-index l.level) ≡ l.initial.accepted.items ++ passing_names (is_accepted l.on.net.now) l.level;
      next : l.next.items ++ each_step f (drop l.name-index l.level) ≡ each_step f l.level;
      there : IsTrue (are_there (length l.on.net.now) (drop l.name-index l.level));
    }
