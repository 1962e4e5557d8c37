-- Some lines more, or a stop before them or in them.
use Rattle.std.proofs.Common.{rules, ◌≡◌, ◌∙◌, [], ap, sym, subst, refl, length, IsTrue}
use Rattle.std.specs.List.{flat_map, list_all}
use Rattle.dn_base.proofs.Counts.{counted_none, counted_then}
use Rattle.dn_base.proofs.Lists.{nil_from_length}
use Rattle.dn_script.proofs.Viewed.{all_parted, lines_parted}
use Rattle.dn_script.proofs.Written.{IsSoFar, begun, ended, gone_on, stopped_here, stopped_there}
use Rattle.dn_script.proofs.lines.write_lines.Goals as goal

pub loop-piece-init : goal.loop-piece-init
loop-piece-init g c =
    let text = g.L.Line.text c.args.net.now in
    let is = c.into_iter-piece-iterator.ensures.into_iter_gives in
    let rest : c.into_iter-piece-iterator.result.rest.now ≡ c.args.items.now = ap (λ i. i.rest.now) is ∙ c.chunks-piece-items.ensures.rest in
    record {
      so_far = subst (λ xs. IsSoFar (g.K.Sink.written c.args.sink.now) (g.K.Sink.written c.args.sink.now) (flat_map text xs) (flat_map text c.args.items.now)) (sym rest) (begun _ (flat_map text c.args.items.now));
      counted = counted_none _;
      there = subst (λ xs. IsTrue (list_all (g.L.Line.within (length c.args.net.now)) xs)) (sym rest) c.requires;
    }

pub lines-requires : goal.lines-requires
lines-requires g c = (all_parted (g.L.Line.within (length c.args.net.now)) c.loop-piece.piece-iterator.rest.now c.in-Some.piece.now c.next.new.self.rest.now c.in-Some.ensures.steps.1.0 c.loop-piece.invariant.there).0

pub returns-in_err-text : goal.returns-in_err-text
returns-in_err-text g c = let s = stopped_here c.from_residual.result _ _ _ _ _ _ (search rules) (search rules) (search rules) c.loop-piece.invariant.so_far c.loop-piece.invariant.counted in record { written = s.0; halted = s.1 }

pub loop-piece-preserved : goal.loop-piece-preserved
loop-piece-preserved g c =
    let first = lines_parted (g.L.Line.text c.args.net.now) c.loop-piece.piece-iterator.rest.now c.in-Some.piece.now c.next.new.self.rest.now c.as_bytes.result.now c.in-Some.ensures.steps.1.0 (c.as_bytes.ensures.value ∙ c.in_ok-text.ensures) in
    record {
      so_far = gone_on _ _ _ c.as_bytes.result.now _ (flat_map (g.L.Line.text c.args.net.now) c.next.new.self.rest.now) _ c.loop-piece.invariant.so_far first (c.in_ok-write_output.ensures.written.whole refl);
      counted = counted_then _ _ _ _ c.loop-piece.invariant.counted c.in_ok-write_output.ensures.halted.counted;
      there = (all_parted (g.L.Line.within (length c.args.net.now)) c.loop-piece.piece-iterator.rest.now c.in-Some.piece.now c.next.new.self.rest.now c.in-Some.ensures.steps.1.0 c.loop-piece.invariant.there).1;
    }

pub returns-in_err-write_output : goal.returns-in_err-write_output
returns-in_err-write_output g c =
    let first = lines_parted (g.L.Line.text c.args.net.now) c.loop-piece.piece-iterator.rest.now c.in-Some.piece.now c.next.new.self.rest.now c.as_bytes.result.now c.in-Some.ensures.steps.1.0 (c.as_bytes.ensures.value ∙ c.in_ok-text.ensures) in
    let s = stopped_there c.from_residual-in_err-write_output.result c.write_output.result _ _ _ _ _ _ _ _ _ _ (search rules) (search rules) (search rules) (search rules) c.loop-piece.invariant.so_far first c.write_output.ensures.written c.loop-piece.invariant.counted c.write_output.ensures.halted.counted in
    record { written = s.0; halted = s.1 }

pub returns-clause-written : goal.returns-clause-written
returns-clause-written g c =
    let none : c.loop-piece.piece-iterator.rest.now ≡ [] = nil_from_length c.loop-piece.piece-iterator.rest.now c.in-None.ensures.steps.1.0 in
    ended _ _ _ _ c.loop-piece.invariant.so_far (ap (flat_map (g.L.Line.text c.args.net.now)) none)

pub returns-clause-halted : goal.returns-clause-halted
returns-clause-halted g c = record { no_device = refl; counted = c.loop-piece.invariant.counted }
