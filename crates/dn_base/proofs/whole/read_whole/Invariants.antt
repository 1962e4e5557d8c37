use Rattle.std.proofs.Common.{◌≡◌, ◌++◌, ◌≤◌, ◌-◌, false, vec_len}
use Rattle.dn_base.specs.Outside.{IsCounted, Taken, input_limit}
use Rattle.dn_base.proofs.whole.read_whole.Given as goal

abbrev pub invariant-loop-piece : goal.invariant-loop-piece
invariant-loop-piece g l =
    let source = g.S.Source in
    record {
      within : vec_len l.text ≤ input_limit;
      given : source.given l.source ≡ source.given l.fn.source ++ l.text.items;
      taken : Taken (source.left l.fn.source) (source.left l.source) l.text.items;
      counted : IsCounted (source.faults l.fn.source) (source.faults l.source) false;
    }

abbrev pub decreases-loop-piece : goal.decreases-loop-piece
decreases-loop-piece g l = input_limit - vec_len l.text
