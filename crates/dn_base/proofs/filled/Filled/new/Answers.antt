use Rattle.std.proofs.Common.{◌≡◌, ◌*◌, [], replicate, vec_capacity, arith, rules}
use Rattle.dn_base.proofs.Paging.{fresh_none, fresh_pages, none_written}
use Rattle.dn_base.proofs.filled.Filled.new.Goals as goal

pub invariant_of-result : goal.invariant_of-result
invariant_of-result g c =
    let room : c.in-Some.room ≡ c.pages_of-pages.result * 256 = search rules in
    let none : c.in_ok-items.items.items ≡ [] = c.in_ok-items.ensures.items in
    let zeros : c.in_ok-ends.ends.items ≡ replicate c.pages_of-pages.result 0 = search rules in
    rw (none, zeros) (fresh_pages c.pages_of-pages.result (vec_capacity c.in_ok-items.items) c.args.count c.pages_of-pages.ensures (omega (arith, room, c.in_ok-items.ensures.capacity)), fresh_none c.pages_of-pages.result)

pub returns : goal.returns
returns g c =
    let none : c.in_ok-items.items.items ≡ [] = c.in_ok-items.ensures.items in
    let zeros : c.in_ok-ends.ends.items ≡ replicate c.pages_of-pages.result 0 = search rules in
    rw (none, zeros) (none_written c.args.value c.pages_of-pages.result c.args.count)
