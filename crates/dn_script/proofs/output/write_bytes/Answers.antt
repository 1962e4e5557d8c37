use Rattle.std.proofs.Common.{rules, ◌≡◌, ◌∙◌, ◌++◌, [], ap, sym, false, is_ok, min, length, List, ℕ, refl}
use Rattle.dn_base.proofs.Counts.{counted_then}
use Rattle.dn_base.proofs.Lists.{nil_from_length}
use Rattle.dn_print.specs.Dump.{lines_text}
use Rattle.dn_print.proofs.Dumped.{one_piece}
use Rattle.dn_script.specs.Halt.{is_write_halt}
use Rattle.dn_script.proofs.Written.{begun, ended, gone_on, stopped_here, stopped_in, stopped_there}
use Rattle.dn_script.proofs.output.write_bytes.Goals as goal

pub returns-in_err-write_output-clause-written : goal.returns-in_err-write_output-clause-written
returns-in_err-write_output-clause-written g c =
    let heading : c.as_bytes.result.now ≡ c.args.heading.now = c.as_bytes.ensures.value in
    let done : is_ok c.from_residual.result ≡ false = search rules in
    let failed : is_write_halt c.from_residual.result ≡ is_write_halt c.write_output.result = search rules in
    let stop : is_ok c.write_output.result ≡ false = search rules in
    rw (done, failed) (stopped_in _ _ _ _ c.as_bytes.result.now (c.args.heading.now ++ lines_text c.args.bytes.now) (lines_text c.args.bytes.now) (c.args.heading.now ++ lines_text c.args.bytes.now) (begun _ (c.args.heading.now ++ lines_text c.args.bytes.now)) (ap (λ (l : List ℕ). l ++ lines_text c.args.bytes.now) (sym heading)) (rw stop at c.write_output.ensures.written))

pub loop-piece-init : goal.loop-piece-init
loop-piece-init g c =
    let is = c.into_iter-piece-iterator.ensures.into_iter_gives in
    let rest : c.into_iter-piece-iterator.result.rest.now ≡ c.args.bytes.now = ap (λ i. i.rest.now) is ∙ c.chunks-piece-items.ensures.rest in
    let heading : c.as_bytes.result.now ≡ c.args.heading.now = c.as_bytes.ensures.value in
    record {
      size = ap (λ i. i.size) is ∙ c.chunks-piece-items.ensures.size;
      so_far = gone_on _ _ _ c.as_bytes.result.now (c.args.heading.now ++ lines_text c.args.bytes.now) (lines_text c.into_iter-piece-iterator.result.rest.now) (c.args.heading.now ++ lines_text c.args.bytes.now) (begun _ (c.args.heading.now ++ lines_text c.args.bytes.now)) (ap (λ (l : List ℕ). l ++ lines_text c.args.bytes.now) (sym heading) ∙ ap (λ (l : List ℕ). c.as_bytes.result.now ++ lines_text l) (sym rest)) (c.in_ok-write_output.ensures.written.whole refl);
      counted = c.in_ok-write_output.ensures.halted.counted;
    }

pub returns-in_err-push_lines : goal.returns-in_err-push_lines
returns-in_err-push_lines g c = let s = stopped_here c.from_residual-in_err-push_lines.result _ _ _ _ _ _ (search rules) (search rules) (search rules) c.loop-piece.invariant.so_far c.loop-piece.invariant.counted in record { written = s.0; halted = s.1 }

pub loop-piece-preserved : goal.loop-piece-preserved
loop-piece-preserved g c =
    let s = c.in-Some.ensures.steps in
    let size : length c.in-Some.piece.now ≡ min 32768 (length c.loop-piece.piece-iterator.rest.now) = s.1.1 ∙ ap (λ n. min n (length c.loop-piece.piece-iterator.rest.now)) c.loop-piece.invariant.size in
    let next = one_piece c.loop-piece.piece-iterator.rest.now c.in-Some.piece.now c.next.new.self.rest.now s.1.0 size in
    let lines : c.as_slice.result.now ≡ lines_text c.in-Some.piece.now = search rules in
    record {
      size = s.0 ∙ c.loop-piece.invariant.size;
      so_far = gone_on _ _ _ c.as_slice.result.now _ (lines_text c.next.new.self.rest.now) _ c.loop-piece.invariant.so_far (next ∙ ap (λ (l : List ℕ). l ++ lines_text c.next.new.self.rest.now) (sym lines)) (c.in_ok-write_output-2.ensures.written.whole refl);
      counted = counted_then _ _ _ _ c.loop-piece.invariant.counted c.in_ok-write_output-2.ensures.halted.counted;
    }

pub returns-in_err-write_output-2 : goal.returns-in_err-write_output-2
returns-in_err-write_output-2 g c =
    let s = c.in-Some.ensures.steps in
    let size : length c.in-Some.piece.now ≡ min 32768 (length c.loop-piece.piece-iterator.rest.now) = s.1.1 ∙ ap (λ n. min n (length c.loop-piece.piece-iterator.rest.now)) c.loop-piece.invariant.size in
    let next = one_piece c.loop-piece.piece-iterator.rest.now c.in-Some.piece.now c.next.new.self.rest.now s.1.0 size in
    let lines : c.as_slice.result.now ≡ lines_text c.in-Some.piece.now = search rules in
    let s = stopped_there c.from_residual-in_err-write_output-2.result c.write_output-in-loop-piece.result _ _ _ _ _ _ _ _ _ _ (search rules) (search rules) (search rules) (search rules) c.loop-piece.invariant.so_far (next ∙ ap (λ (l : List ℕ). l ++ lines_text c.next.new.self.rest.now) (sym lines)) c.write_output-in-loop-piece.ensures.written c.loop-piece.invariant.counted c.write_output-in-loop-piece.ensures.halted.counted in
    record { written = s.0; halted = s.1 }

pub returns-clause-written : goal.returns-clause-written
returns-clause-written g c =
    let none : c.loop-piece.piece-iterator.rest.now ≡ [] = nil_from_length c.loop-piece.piece-iterator.rest.now c.in-None.ensures.steps.1.0 in
    ended _ _ _ _ c.loop-piece.invariant.so_far (ap lines_text none)

pub returns-clause-halted : goal.returns-clause-halted
returns-clause-halted g c = record { no_device = refl; counted = c.loop-piece.invariant.counted }
