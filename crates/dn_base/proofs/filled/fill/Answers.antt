use Rattle.std.proofs.Common.{◌≡◌, ◌∙◌, ◌++◌, ◌+◌, ◌-◌, ap, sym, replicate, arith, rules, vec_len, vec_capacity}
use Rattle.dn_base.proofs.Rests.{one_written, none_left}
use Rattle.dn_base.proofs.filled.fill.Goals as goal

pub loop-value-preserved : goal.loop-value-preserved
loop-value-preserved g c =
    let left : c.args.end - vec_len c.loop-value.items ≡ (c.args.end - vec_len c.push_reserved.new.self) + 1 = search rules in
    let same : vec_capacity c.push_reserved.new.self ≡ vec_capacity c.args.items.now = search rules in
    record {
      items =
          ap (λ xs. xs ++ replicate (c.args.end - vec_len c.push_reserved.new.self) c.args.value) c.push_reserved.ensures.items
          ∙ one_written c.loop-value.items.items (c.args.end - vec_len c.loop-value.items) (c.args.end - vec_len c.push_reserved.new.self) c.args.value left
          ∙ c.loop-value.invariant.items;
      room = same;
    }

pub returns-clause-items : goal.returns-clause-items
returns-clause-items g c =
    sym (none_left c.loop-value.items.items (c.args.end - vec_len c.loop-value.items) c.args.value (omega arith)) ∙ c.loop-value.invariant.items
