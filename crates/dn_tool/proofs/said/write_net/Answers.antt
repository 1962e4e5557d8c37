-- One statement more, or a stop before it or in it.
use Rattle.std.proofs.Common.{rules, ◌≡◌, ◌∙◌, ◌<◌, ap, sym, refl, drop, length, slice_get, ◌+◌, ◌++◌, List, ℕ, arith}
use Rattle.std.specs.List.{flat_map}
use Rattle.dn_base.proofs.Counts.{counted_none, counted_then}
use Rattle.dn_net.specs.declared.node.NodeDecl.{NodeDecl}
use Rattle.dn_kind.specs.Kind.{Meaning}
use Rattle.dn_kind.specs.Kinded.{kinds_of}
use Rattle.dn_print.specs.Statement.{net_text, statement_text, statement_text_at}
use Rattle.dn_script.proofs.Written.{begun, ended, gone_on, next_text, no_text, stopped_here, stopped_there}
use Rattle.dn_tool.proofs.said.write_net.Goals as goal

-- the statement of the first node that is left, and those behind it
first_text : (kinds : List Meaning) (net : List NodeDecl) (i : ℕ) (text : List ℕ) → i < length net → text ≡ statement_text_at kinds net (slice_get net i) → flat_map (statement_text kinds net) (drop i net) ≡ text ++ flat_map (statement_text kinds net) (drop (i + 1) net)
first_text kinds net i text l is =
    let next = next_text (statement_text kinds net) net i l in
    next.text ∙ ap (λ (t : List ℕ). t ++ flat_map (statement_text kinds net) (drop (i + 1) net)) (sym (is ∙ ap (statement_text_at kinds net) next.at))

pub loop-node-init : goal.loop-node-init
loop-node-init g c =
    let kinds : List Meaning = kinds_of (λ k. (goal.UnitKind-dyn g k).meaning k.1) c.args.on.kinds.now in
    record { so_far = begun _ (net_text kinds c.args.on.net.now); counted = counted_none _ }

pub returns-in_err-text : goal.returns-in_err-text
returns-in_err-text g c = let s = stopped_here c.from_residual.result _ _ _ _ _ _ (search rules) (search rules) (search rules) c.loop-node.invariant.so_far c.loop-node.invariant.counted in record { written = s.0; halted = s.1 }

pub loop-node-preserved : goal.loop-node-preserved
loop-node-preserved g c =
    let kinds : List Meaning = kinds_of (λ k. (goal.UnitKind-dyn g k).meaning k.1) c.args.on.kinds.now in
    let first = first_text kinds c.args.on.net.now c.loop-node.node c.as_bytes.result.now (omega (arith, c.nodes-node-end.ensures, c.loop-node-test.true)) (c.as_bytes.ensures.value ∙ c.in_ok-text.ensures) in
    record {
      so_far = gone_on _ _ _ c.as_bytes.result.now _ _ _ c.loop-node.invariant.so_far first (c.in_ok-write_output.ensures.written.whole refl);
      counted = counted_then _ _ _ _ c.loop-node.invariant.counted c.in_ok-write_output.ensures.halted.counted;
    }

pub returns-in_err-write_output : goal.returns-in_err-write_output
returns-in_err-write_output g c =
    let kinds : List Meaning = kinds_of (λ k. (goal.UnitKind-dyn g k).meaning k.1) c.args.on.kinds.now in
    let first = first_text kinds c.args.on.net.now c.loop-node.node c.as_bytes.result.now (omega (arith, c.nodes-node-end.ensures, c.loop-node-test.true)) (c.as_bytes.ensures.value ∙ c.in_ok-text.ensures) in
    let s = stopped_there c.from_residual-in_err-write_output.result c.write_output.result _ _ _ _ _ _ _ _ _ _ (search rules) (search rules) (search rules) (search rules) c.loop-node.invariant.so_far first c.write_output.ensures.written c.loop-node.invariant.counted c.write_output.ensures.halted.counted in
    record { written = s.0; halted = s.1 }

pub returns-clause-written : goal.returns-clause-written
returns-clause-written g c =
    let kinds : List Meaning = kinds_of (λ k. (goal.UnitKind-dyn g k).meaning k.1) c.args.on.kinds.now in
    ended _ _ _ _ c.loop-node.invariant.so_far (no_text (statement_text kinds c.args.on.net.now) c.args.on.net.now c.loop-node.node (omega (arith, c.nodes-node-end.ensures, c.loop-node-test.false)))

pub returns-clause-halted : goal.returns-clause-halted
returns-clause-halted g c = record { no_device = refl; counted = c.loop-node.invariant.counted }
