use Rattle.std.proofs.Common.{◌∙◌, ◌+◌, ◌++◌, ap, sym, drop, List, ℕ, append_assoc, append-nil, arith}
use Rattle.std.specs.Option.{option_copied}
use Rattle.std.proofs.lemmas.List.{drop_all}
use Rattle.dn_kind.specs.Kind.{Meaning}
use Rattle.dn_tables.specs.Set.{words_of, words_in}
use Rattle.byteorder.specs.Endian.{little_bytes}
use Rattle.dn_kind.specs.Kinded.{kinds_of}
use Rattle.dn_image.specs.Image.{image_mark, written_version, unit_bytes, units_bytes}
use Rattle.dn_image.proofs.Places.{unit_of_net, bytes_step}
use Rattle.dn_image.proofs.write.write.Goals as goal

pub loop-node-init : goal.loop-node-init
loop-node-init g c =
    let kinds : List Meaning = kinds_of (λ k. (goal.UnitKind-dyn g k).meaning k.1) c.args.on.kinds.now in
    let units : List ℕ = units_bytes kinds 0 c.args.on.net.now (words_of c.args.tables.now) in
    record {
      last = c.nodes-node-end.ensures;
      whole =
          ap (λ (l : List ℕ). l ++ units) c.in_ok-push_header.ensures
          ∙ ap (λ (l : List ℕ). (l ++ (image_mark ++ (little_bytes 2 written_version ++ little_bytes 2 c.count_units.result))) ++ units) c.in_ok-out.ensures.items
          ∙ ap (λ n. (image_mark ++ (little_bytes 2 written_version ++ little_bytes 2 n)) ++ units) c.count_units.ensures;
    }

pub push_node-requires-clause-unit : goal.push_node-requires-clause-unit
push_node-requires-clause-unit g c = unit_of_net c.args.tables.now c.args.on.net.now c.loop-node.node (option_copied c.unit.result) c.requires.fits.units c.unit.ensures

pub loop-node-preserved : goal.loop-node-preserved
loop-node-preserved g c =
    let kinds : List Meaning = kinds_of (λ k. (goal.UnitKind-dyn g k).meaning k.1) c.args.on.kinds.now in
    let here : List ℕ = unit_bytes kinds c.loop-node.node (option_copied c.unit.result) (words_in c.args.tables.now c.loop-node.node) in
    let rest : List ℕ = units_bytes kinds (c.loop-node.node + 1) (drop (c.loop-node.node + 1) c.args.on.net.now) (drop (c.loop-node.node + 1) (words_of c.args.tables.now)) in
    record {
      last = c.loop-node.invariant.last;
      whole =
          ap (λ (l : List ℕ). l ++ rest) c.in_ok-push_node.ensures
          ∙ append_assoc c.loop-node.out.items here rest
          ∙ ap (λ (l : List ℕ). c.loop-node.out.items ++ l) (sym (bytes_step kinds c.args.on.net.now c.args.tables.now c.loop-node.node (option_copied c.unit.result) c.unit.ensures))
          ∙ c.loop-node.invariant.whole;
    }

pub returns : goal.returns
returns g c =
    let kinds : List Meaning = kinds_of (λ k. (goal.UnitKind-dyn g k).meaning k.1) c.args.on.kinds.now in
    let none = drop_all c.loop-node.node c.args.on.net.now (let e = c.loop-node.invariant.last in let f = c.loop-node-test.false in omega arith) in
    sym (append-nil c.loop-node.out.items) ∙ ap (λ l. c.loop-node.out.items ++ units_bytes kinds c.loop-node.node l (drop c.loop-node.node (words_of c.args.tables.now))) (sym none) ∙ c.loop-node.invariant.whole
