use Rattle.std.proofs.Common.{◌∙◌, ◌++◌, ◌∷◌, [], ap, sym, take, map, ℕ, List, arith}
use Rattle.std.specs.List.{All}
use Rattle.std.proofs.lemmas.List.{map-append, take_all}
use Rattle.dn_kind.specs.Kind.{IsLawful, Meaning}
use Rattle.dn_kind.specs.Kinded.{kinds_of}
use Rattle.dn_tables.specs.declared.table.NodeTable.{NodeTable}
use Rattle.dn_tables.specs.Set.{fresh_set, words_of}
use Rattle.dn_tables.proofs.Fresh.{fresh_more, shape_there}
use Rattle.dn_tables.proofs.Slots.{all_of_map}
use Rattle.dn_flight.proofs.Sized.{start_words}
use Rattle.dn_flight.proofs.words.NetWords.start.Goals as goal

pub zero_words-requires-clause-shaped : goal.zero_words-requires-clause-shaped
zero_words-requires-clause-shaped g c = shape_there _ c.args.on.net.now c.loop-node.node _ c.requires.on.legal.shaped c.unit.ensures

pub loop-node-preserved : goal.loop-node-preserved
loop-node-preserved g c =
    let kinds : List Meaning = kinds_of (λ k. (goal.UnitKind-dyn g k).meaning k.1) c.args.on.kinds.now in
    record {
      last = c.loop-node.invariant.last;
      made = c.in_ok-push.ensures.items ∙ ap (λ (l : List (List ℕ)). l ++ c.in_ok-zero_words.field-0 ∷ []) c.loop-node.invariant.made ∙ ap (λ (ws : List ℕ). words_of (fresh_set kinds (take c.loop-node.node c.args.on.net.now)) ++ ws ∷ []) c.in_ok-zero_words.ensures ∙ sym (map-append (λ (t : NodeTable). t.words) (fresh_set kinds (take c.loop-node.node c.args.on.net.now)) _) ∙ sym (ap words_of (fresh_more kinds c.args.on.net.now c.loop-node.node _ c.unit.ensures));
    }

pub returns : goal.returns
returns g c =
    let kinds : List Meaning = kinds_of (λ k. (goal.UnitKind-dyn g k).meaning k.1) c.args.on.kinds.now in
    let lawful : All IsLawful kinds = all_of_map _ c.args.on.kinds.now.list.items c.requires.on.lawful in
    c.loop-node.invariant.made
    ∙ ap (λ n. words_of (fresh_set kinds n)) (take_all c.loop-node.node c.args.on.net.now (let e = c.loop-node.invariant.last in let f = c.loop-node-test.false in omega arith))
    ∙ start_words c.args.on.net.now kinds (record { lawful = lawful; shaped = c.requires.on.legal.shaped }) c.requires.on.legal
