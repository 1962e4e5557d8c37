use Rattle.std.proofs.Common.{◌∙◌, ◌+◌, ◌++◌, ◌∷◌, [], ap, sym, drop, length, List, ℕ, append_assoc, append-nil, arith}
use Rattle.std.specs.Option.{option_copied}
use Rattle.std.proofs.lemmas.List.{drop_all, take_rest, length-drop}
use Rattle.dn_kind.specs.Kind.{Meaning}
use Rattle.dn_kind.specs.Kinded.{kinds_of}
use Rattle.dn_tables.proofs.Fresh.{shape_there}
use Rattle.dn_image.specs.Reading.{node_words, words_from}
use Rattle.dn_image.proofs.Places.{size_step, words_step}
use Rattle.dn_image.proofs.read.read_words.Goals as goal

pub read_node-requires-clause-shaped : goal.read_node-requires-clause-shaped
read_node-requires-clause-shaped g c = shape_there _ c.args.on.net.now c.loop-node.node _ c.requires.on.shaped c.unit-unit.ensures

pub read_node-requires-clause-room : goal.read_node-requires-clause-room
read_node-requires-clause-room g c =
    let kinds : List Meaning = kinds_of (λ k. (goal.UnitKind-dyn g k).meaning k.1) c.args.on.kinds.now in
    let step = size_step kinds c.args.on.net.now c.loop-node.node (option_copied c.unit-unit.result) c.unit-unit.ensures in
    let size = c.loop-node.invariant.size in
    let d = length-drop c.loop-node.at c.args.bytes.now in
    let e = ap length (take_rest c.args.bytes.now c.loop-node.at) in
    omega (arith, step, size, d, e)

pub loop-node-init : goal.loop-node-init
loop-node-init g c =
    let kinds : List Meaning = kinds_of (λ k. (goal.UnitKind-dyn g k).meaning k.1) c.args.on.kinds.now in
    record {
      last = c.nodes-node-end.ensures;
      size = c.requires.size;
      so_far = ap (λ (l : List (List ℕ)). l ++ words_from kinds c.args.on.net.now (drop 8 c.args.bytes.now)) c.new-words.ensures.items;
    }

pub loop-node-preserved : goal.loop-node-preserved
loop-node-preserved g c =
    let kinds : List Meaning = kinds_of (λ k. (goal.UnitKind-dyn g k).meaning k.1) c.args.on.kinds.now in
    let step = size_step kinds c.args.on.net.now c.loop-node.node (option_copied c.unit-unit.result) c.unit-unit.ensures in
    let size = c.loop-node.invariant.size in
    let more = c.node_size.ensures.size in
    let rest : List (List ℕ) = words_from kinds (drop (c.loop-node.node + 1) c.args.on.net.now) (drop (c.loop-node.at + c.node_size.result) c.args.bytes.now) in
    record {
      last = c.loop-node.invariant.last;
      size = omega (arith, step, size, more);
      so_far =
          ap (λ (l : List (List ℕ)). l ++ rest) c.in_ok-push.ensures.items
          ∙ append_assoc c.loop-node.words.items (c.in_ok-read_node.field-0 ∷ []) rest
          ∙ ap (λ (w : List ℕ). c.loop-node.words.items ++ (w ∷ rest)) (c.in_ok-read_node.ensures ∙ ap (node_words kinds (option_copied c.unit-unit.result)) (take_rest c.args.bytes.now c.loop-node.at))
          ∙ ap (λ n. c.loop-node.words.items ++ (node_words kinds (option_copied c.unit-unit.result) (drop c.loop-node.at c.args.bytes.now) ∷ words_from kinds (drop (c.loop-node.node + 1) c.args.on.net.now) (drop (c.loop-node.at + n) c.args.bytes.now))) more
          ∙ ap (λ (l : List (List ℕ)). c.loop-node.words.items ++ l) (sym (words_step kinds c.args.on.net.now c.loop-node.node c.loop-node.at (option_copied c.unit-unit.result) c.args.bytes.now c.unit-unit.ensures))
          ∙ c.loop-node.invariant.so_far;
    }

pub returns : goal.returns
returns g c =
    let kinds : List Meaning = kinds_of (λ k. (goal.UnitKind-dyn g k).meaning k.1) c.args.on.kinds.now in
    let none = drop_all c.loop-node.node c.args.on.net.now (let e = c.loop-node.invariant.last in let f = c.loop-node-test.false in omega arith) in
    sym (append-nil c.loop-node.words.items) ∙ ap (λ l. c.loop-node.words.items ++ words_from kinds l (drop c.loop-node.at c.args.bytes.now)) (sym none) ∙ c.loop-node.invariant.so_far

pub node_size-requires-clause-shaped : goal.node_size-requires-clause-shaped
node_size-requires-clause-shaped g c = shape_there _ c.args.on.net.now c.loop-node.node _ c.requires.on.shaped c.unit-unit.ensures
