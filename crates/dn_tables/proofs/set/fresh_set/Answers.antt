use Rattle.std.proofs.Common.{◌≡◌, ◌∙◌, ◌++◌, ◌∷◌, [], ap, sym, subst, take, List, arith}
use Rattle.std.specs.List.{All}
use Rattle.std.proofs.lemmas.List.{take_all}
use Rattle.dn_kind.specs.Kind.{Meaning, IsLawful}
use Rattle.dn_kind.specs.Kinded.{kinds_of}
use Rattle.dn_tables.specs.declared.table.NodeTable.{NodeTable}
use Rattle.dn_tables.specs.Set.{fresh_set, IsSet}
use Rattle.dn_tables.proofs.Fresh.{shape_there, fresh_more, fresh_is_set}
use Rattle.dn_tables.proofs.Slots.{all_of_map}
use Rattle.dn_tables.proofs.set.fresh_set.Goals as goal

pub fresh_table-requires-clause-shaped : goal.fresh_table-requires-clause-shaped
fresh_table-requires-clause-shaped g c = shape_there _ c.args.on.net.now c.loop-node.node _ c.requires.on.shaped c.unit.ensures

pub loop-node-preserved : goal.loop-node-preserved
loop-node-preserved g c =
    let kinds : List Meaning = kinds_of (λ k. (goal.UnitKind-dyn g k).meaning k.1) c.args.on.kinds.now in
    record {
      last = c.loop-node.invariant.last;
      made = c.in_ok-push.ensures.items ∙ ap (λ (l : List NodeTable). l ++ c.in_ok-fresh_table.field-0 ∷ []) c.loop-node.invariant.made ∙ ap (λ (t : NodeTable). fresh_set kinds (take c.loop-node.node c.args.on.net.now) ++ t ∷ []) c.in_ok-fresh_table.ensures ∙ sym (fresh_more kinds c.args.on.net.now c.loop-node.node _ c.unit.ensures);
    }

pub invariant_of-result : goal.invariant_of-result
invariant_of-result g c =
    let kinds : List Meaning = kinds_of (λ k. (goal.UnitKind-dyn g k).meaning k.1) c.args.on.kinds.now in
    let lawful : All IsLawful kinds = all_of_map _ c.args.on.kinds.now.list.items c.requires.on.lawful in
    let whole : take c.loop-node.node c.args.on.net.now ≡ c.args.on.net.now = take_all c.loop-node.node c.args.on.net.now (let e = c.loop-node.invariant.last in let f = c.loop-node-test.false in omega arith) in
    subst IsSet (sym (c.loop-node.invariant.made ∙ ap (fresh_set kinds) whole)) (fresh_is_set kinds lawful c.args.on.net.now c.requires.on.shaped c.facts.ensures.few)
