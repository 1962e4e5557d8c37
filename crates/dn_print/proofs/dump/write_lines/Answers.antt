use Rattle.std.proofs.Common.{arith, ◌≡◌, ◌∙◌, ◌++◌, [], ap, sym, min, take, length, List, ℕ, append_assoc, append-nil}
use Rattle.std.proofs.lemmas.Grind.{common_steps}
use Rattle.std.proofs.Math.Seq.{take-length}
use Rattle.dn_base.proofs.Lists.{nil_from_length}
use Rattle.dn_print.specs.Dump.{line_text, lines_text}
use Rattle.dn_print.proofs.Dumped.{one_line}
use Rattle.dn_print.proofs.dump.write_lines.Goals as goal

pub loop-line-init : goal.loop-line-init
loop-line-init c =
    let is = c.into_iter-line-iterator.ensures.into_iter_gives in
    record {
      size = ap (λ i. i.size) is ∙ c.chunks-line-items.ensures.size;
      so_far = ap (λ i. c.args.out.now.items ++ lines_text i.rest.now) is ∙ ap (λ (b : List ℕ). c.args.out.now.items ++ lines_text b) c.chunks-line-items.ensures.rest;
      kept = take-length c.args.out.now.items;
    }

pub loop-line-preserved : goal.loop-line-preserved
loop-line-preserved c =
    let kept : take (length c.args.out.now.items) c.write_line.new.out.items ≡ c.args.out.now.items = grind (arith, common_steps) in
    let s = c.in-Some.ensures.steps in
    let size : length c.in-Some.line.now ≡ min 32 (length c.loop-line.line-iterator.rest.now) = s.1.1 ∙ ap (λ n. min n (length c.loop-line.line-iterator.rest.now)) c.loop-line.invariant.size in
    let next = one_line c.loop-line.line-iterator.rest.now c.in-Some.line.now c.next.new.self.rest.now s.1.0 size s.1.2 in
    record {
      size = s.0 ∙ c.loop-line.invariant.size;
      so_far =
          ap (λ (l : List ℕ). l ++ lines_text c.next.new.self.rest.now) c.in_ok-write_line.ensures.line
          ∙ append_assoc c.loop-line.out.items (line_text c.in-Some.line.now) (lines_text c.next.new.self.rest.now)
          ∙ ap (λ (l : List ℕ). c.loop-line.out.items ++ l) (sym next)
          ∙ c.loop-line.invariant.so_far;
      kept = kept;
    }

pub returns-clause-lines : goal.returns-clause-lines
returns-clause-lines c =
    let none : c.loop-line.line-iterator.rest.now ≡ [] = nil_from_length c.loop-line.line-iterator.rest.now c.in-None.ensures.steps.1.0 in
    sym (append-nil c.loop-line.out.items) ∙ ap (λ (l : List ℕ). c.loop-line.out.items ++ lines_text l) (sym none) ∙ c.loop-line.invariant.so_far
