use Rattle.std.proofs.Common.{◌≡◌, ◌++◌, ◌≤◌, ◌-◌, false, vec_len}
use Rattle.dn_base.specs.Outside.{IsCounted, Taken}
use Rattle.dn_audit.proofs.input.read_up_to.Given as goal

abbrev pub invariant-loop-piece : goal.invariant-loop-piece
invariant-loop-piece g l =
    let source = g.S.Source in
    record {
      within : vec_len l.input ≤ l.limit;
      given : source.given l.source ≡ source.given l.fn.source ++ l.input.items;
      taken : Taken (source.left l.fn.source) (source.left l.source) l.input.items;
      counted : IsCounted (source.faults l.fn.source) (source.faults l.source) false;
    }

abbrev pub decreases-loop-piece : goal.decreases-loop-piece
decreases-loop-piece g l = l.limit - vec_len l.input
