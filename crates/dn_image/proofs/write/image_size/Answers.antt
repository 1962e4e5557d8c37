use Rattle.std.proofs.Common.{◌≡◌, ◌∙◌, ◌+◌, ◌*◌, ◌-◌, ◌^◌, ◌≤◌, ℕ, List, ap, sym, rules, arith, is_some, min, drop, length, subst}
use Rattle.std.proofs.Math.Nat.{min-le_right}
use Rattle.std.proofs.lemmas.List.{drop_all}
use Rattle.std.specs.Option.{option_copied}
use Rattle.dn_net.specs.declared.node.NodeDecl.{NodeDecl}
use Rattle.dn_kind.specs.Kind.{Meaning}
use Rattle.dn_tables.specs.Set.{words_in, words_of}
use Rattle.dn_image.specs.Image.{image, units_bytes}
use Rattle.dn_image.proofs.Places.{unit_of_net, copied_there, copied_none, counted_step, counted_past, counted_all}
use Rattle.dn_image.proofs.write.image_size.Goals.{then-is_some, else-is_some}
use Rattle.dn_image.proofs.write.image_size.Goals as goal

pub words-requires : goal.words-requires
words-requires c =
    ap is_some (unit_of_net c.args.tables.now c.args.net.now c.loop-node.node (option_copied c.unit.result) c.requires c.unit.ensures) ∙ copied_there c.unit.result (sym c.is_some.ensures ∙ c.if-is_some.true)

pub loop-node-preserved : goal.loop-node-preserved
loop-node-preserved c =
    let last : ℕ = 2 ^ 64 - 1 in
    let rest : List Meaning → ℕ = λ kinds. length (units_bytes kinds (c.loop-node.node + 1) (drop (c.loop-node.node + 1) c.args.net.now) (drop (c.loop-node.node + 1) (words_of c.args.tables.now))) in
    elim c.if-is_some.branch [
      | then-is_some w ↦
          let there = copied_there c.unit.result (sym c.is_some.ensures ∙ w.if-is_some.true) in
          let size : c.if-is_some.size ≡ min (min (c.loop-node.size + 8) last + 8 * length (words_in c.args.tables.now c.loop-node.node)) last = search rules in
          record {
            last = c.loop-node.invariant.last;
            few = subst (λ n. n ≤ last) (sym size) (min-le_right (min (c.loop-node.size + 8) last + 8 * length (words_in c.args.tables.now c.loop-node.node)) last);
            whole = λ kinds. ap (λ n. min (n + rest kinds) last) size ∙ counted_step last kinds c.args.net.now c.args.tables.now c.loop-node.node c.loop-node.size (option_copied c.unit.result) c.unit.ensures there ∙ c.loop-node.invariant.whole kinds;
          }
      | else-is_some w ↦
          let none = copied_none c.unit.result (sym c.is_some.ensures ∙ w.if-is_some.false) in
          record {
            last = c.loop-node.invariant.last;
            few = subst (λ n. n ≤ last) (sym w.size-is) c.loop-node.invariant.few;
            whole = λ kinds. ap (λ n. min (n + rest kinds) last) w.size-is ∙ counted_past last kinds c.args.net.now c.args.tables.now c.loop-node.node c.loop-node.size (option_copied c.unit.result) c.unit.ensures none ∙ c.loop-node.invariant.whole kinds;
          }
    ]

pub returns : goal.returns
returns c kinds =
    let last : ℕ = 2 ^ 64 - 1 in
    let words : List (List ℕ) = drop c.loop-node.node (words_of c.args.tables.now) in
    let none = drop_all c.loop-node.node c.args.net.now (let e = c.loop-node.invariant.last in let f = c.loop-node-test.false in omega arith) in
    let past = ap (λ (l : List NodeDecl). min (c.loop-node.size + length (units_bytes kinds c.loop-node.node l words)) last) none in
    counted_all last c.loop-node.size (length (image c.args.net.now kinds (words_of c.args.tables.now))) c.loop-node.invariant.few (sym past ∙ c.loop-node.invariant.whole kinds)
