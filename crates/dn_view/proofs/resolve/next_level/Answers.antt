use Rattle.std.proofs.Common.{arith, ◌≡◌, ◌∙◌, ◌≤◌, ◌+◌, ◌++◌, ◌∷◌, sym, ap, drop, get_or, append-nil, length, List}
use Rattle.std.proofs.Math.ListN.{drop_of_length-le}
use Rattle.dn_net.specs.declared.node.Name.{Name}
use Rattle.dn_net.specs.Decode.{is_accepted}
use Rattle.dn_net.specs.Names.{each_step, passing_names}
use Rattle.dn_kind.specs.Kind.{Meaning}
use Rattle.dn_kind.specs.Kinded.{kinds_of}
use Rattle.dn_kind.specs.Tables.{Held, steps_under}
use Rattle.dn_kind.specs.Tables.{allowing}
use Rattle.dn_tables.specs.Set.{record_kept}
use Rattle.dn_kind.proofs.Nodes.{each_under_there}
use Rattle.dn_kind.proofs.Stages.{set_there}
use Rattle.dn_kind.proofs.Stepping.{passing_next, each_next, left_at, there_next}
use Rattle.dn_view.proofs.resolve.next_level.Goals as goal

pub loop-name-preserved : goal.loop-name-preserved
loop-name-preserved g c =
    let kinds : List Meaning = kinds_of (λ k. (goal.UnitKind-dyn g k).meaning k.1) c.args.on.kinds.now in
    let f : Name → List Name = steps_under c.args.on.net.now (allowing c.args.access (record_kept kinds c.args.tables.now)) in
    let x : Name = get_or c.args.level.now c.loop-name.name-index (record { node = 0; addr = 0 }) in
    let left : drop c.loop-name.name-index c.args.level.now ≡ x ∷ drop (c.loop-name.name-index + 1) c.args.level.now = left_at c.args.level.now c.loop-name.name-index (record { node = 0; addr = 0 }) c.loop-name-test.true in
    record {
      accepted = passing_next (is_accepted c.args.on.net.now) c.loop-name.accepted.items c.push_steps.new.accepted.items x (drop c.loop-name.name-index c.args.level.now) (drop (c.loop-name.name-index + 1) c.args.level.now) (c.args.accepted.now.items ++ passing_names (is_accepted c.args.on.net.now) c.args.level.now) c.in_ok-push_steps.ensures.accepted left c.loop-name.invariant.accepted;
      next = each_next f c.loop-name.next.items c.push_steps.new.next.items x (drop c.loop-name.name-index c.args.level.now) (drop (c.loop-name.name-index + 1) c.args.level.now) (each_step f c.args.level.now) c.in_ok-push_steps.ensures.next left c.loop-name.invariant.next;
      there = (there_next (length c.args.on.net.now) x (drop c.loop-name.name-index c.args.level.now) (drop (c.loop-name.name-index + 1) c.args.level.now) left c.loop-name.invariant.there).1;
    }

pub returns-clause-there : goal.returns-clause-there
returns-clause-there g c =
    let kinds : List Meaning = kinds_of (λ k. (goal.UnitKind-dyn g k).meaning k.1) c.args.on.kinds.now in
    let h : Held = allowing c.args.access (record_kept kinds c.args.tables.now) in
    let over : length c.args.level.now ≤ c.loop-name.name-index = let b = c.loop-name-test.false in omega arith in
    let given : c.loop-name.next.items ≡ each_step (steps_under c.args.on.net.now h) c.args.level.now = sym (append-nil c.loop-name.next.items) ∙ ap (λ (l : List Name). c.loop-name.next.items ++ each_step (steps_under c.args.on.net.now h) l) (sym (drop_of_length-le c.args.level.now over)) ∙ c.loop-name.invariant.next in
    set_there (length c.args.on.net.now) c.loop-name.next.items (each_step (steps_under c.args.on.net.now h) c.args.level.now) c.set_of.result given (each_under_there c.args.on.net.now h c.args.level.now c.requires.tables.legal.legal.nodes.closed) c.set_of.ensures
