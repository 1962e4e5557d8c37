use Rattle.std.proofs.Common.{rules, arith, ◌≡◌, ◌∙◌, ◌++◌, [], ◌∷◌, ap, sym, subst, suc, ◌-◌, length, List, Bool, IsTrue}
use Rattle.dn_net.specs.declared.node.Name.{Name}
use Rattle.dn_net.specs.Decode.{is_accepted}
use Rattle.dn_net.specs.Names.{each_step, passing_names, sorted_names}
use Rattle.dn_kind.specs.Kind.{Meaning}
use Rattle.dn_kind.specs.Kinded.{kinds_of}
use Rattle.dn_kind.specs.Tables.{Held, steps_under, step_limit_under, resolved_names_under}
use Rattle.dn_kind.specs.Levels.{are_there}
use Rattle.dn_kind.specs.Tables.{allowing}
use Rattle.dn_tables.specs.Set.{record_kept}
use Rattle.dn_kind.proofs.Stages.{is_empty, ends_by, ends_at_start, ends_next, ends_at_empty, ends_at_last}
use Rattle.dn_view.proofs.resolve.resolve_few.Goals as goal
use Rattle.dn_view.proofs.resolve.resolve_few.Goals.{else-loop-test, then-loop-test+then-is_empty}

pub loop-init : goal.loop-init
loop-init g c =
    let h : Held = allowing c.args.access (record_kept (kinds_of (λ k. (goal.UnitKind-dyn g k).meaning k.1) c.args.on.kinds.now) c.args.tables.now) in
    let f : Name → List Name = steps_under c.args.on.net.now h in
    let p : Name → Bool = is_accepted c.args.on.net.now in
    let level : c.in_ok-level.level ≡ c.args.name ∷ [] = c.in_ok-level.ensures in
    let none : c.new-accepted.result.items ≡ [] = c.new-accepted.ensures.items in
    record {
      so_far = ap (λ (l : List Name). ends_by f p (suc step_limit_under - 0) l c.in_ok-level.level) none ∙ ap (λ (l : List Name). ends_by f p (suc step_limit_under - 0) [] l) level ∙ ends_at_start f p c.args.name;
      there = subst (λ (l : List Name). IsTrue (are_there (length c.args.on.net.now) l)) (sym level) (search rules);
    }

pub loop-preserved : goal.loop-preserved
loop-preserved g c =
    let kinds : List Meaning = kinds_of (λ k. (goal.UnitKind-dyn g k).meaning k.1) c.args.on.kinds.now in
    let h : Held = allowing c.args.access (record_kept kinds c.args.tables.now) in
    let f : Name → List Name = steps_under c.args.on.net.now h in
    let p : Name → Bool = is_accepted c.args.on.net.now in
    let same : c.list-names.result.now ≡ c.loop.level = search rules in
    let more : c.next_level.new.accepted.items ≡ c.loop.accepted.items ++ passing_names p c.loop.level = c.in_ok-level-2.ensures.accepted ∙ ap (λ (l : List Name). c.loop.accepted.items ++ passing_names p l) same in
    let next : c.in_ok-level-2.level ≡ sorted_names (each_step f c.loop.level) = c.in_ok-level-2.ensures.next ∙ ap (λ (l : List Name). sorted_names (each_step f l)) same in
    record {
      so_far = ends_next f p c.loop.counter c.loop.accepted.items c.next_level.new.accepted.items c.loop.level c.in_ok-level-2.level (resolved_names_under c.args.on.net.now h c.args.name) c.loop-test.true c.loop.invariant.so_far more next;
      there = c.in_ok-level-2.ensures.there;
    }

pub returns : goal.returns
returns g c =
    let kinds : List Meaning = kinds_of (λ k. (goal.UnitKind-dyn g k).meaning k.1) c.args.on.kinds.now in
    let h : Held = allowing c.args.access (record_kept kinds c.args.tables.now) in
    let f : Name → List Name = steps_under c.args.on.net.now h in
    let p : Name → Bool = is_accepted c.args.on.net.now in
    let whole : sorted_names c.loop.accepted.items ≡ resolved_names_under c.args.on.net.now h c.args.name = elim c.loop-test.branch [
      | else-loop-test w ↦ ends_at_last f p c.loop.counter c.loop.accepted.items c.loop.level (resolved_names_under c.args.on.net.now h c.args.name) (let b = w.loop-test.false in omega arith) c.loop.invariant.so_far
      | then-loop-test+then-is_empty w ↦ ends_at_empty f p (suc step_limit_under - c.loop.counter) c.loop.accepted.items c.loop.level (resolved_names_under c.args.on.net.now h c.args.name) (is_empty c.loop.level (search rules)) c.loop.invariant.so_far
    ] in
    record { names = c.in_ok-set_of.ensures ∙ whole }
