use Rattle.std.proofs.Common.{rules, List, arith}
use Rattle.std.proofs.lemmas.List.Sorted.{IsNonDecreasingBy-from_sort_by_key}
use Rattle.dn_place.specs.declared.exits.Exit.{Exit}
use Rattle.dn_place.proofs.Outputs.{sorted_all, sorted_each}
use Rattle.dn_place.proofs.exits.exits.Goals as goal

pub exits_to-requires : goal.exits_to-requires
exits_to-requires g c =
    let rq = c.requires.request in
    record {
      search = record {
        system = c.requires.system;
        bounds = c.requires.bounds;
        some = rq.some;
        buffer = rq.buffer;
        whole = c.block_of-block.ensures;
        few = omega (arith, c.block_of-block.ensures.pages c.args.unit c.args.translator.now c.requires.unit, c.requires.bounds.page);
      };
    }

pub returns : goal.returns
returns g c =
    let net = c.args.system.on.net.now in
    let u = c.args.translator.now in
    let rq = c.args.request.now in
    let old : List Exit = c.in_ok-exits.exits.items in
    let new : List Exit = c.sort_unstable_by_key.new.self.items in
    record {
      each = sorted_each net u rq old new c.sort_unstable_by_key.ensures.permutation c.in_ok-exits.ensures;
      all = sorted_all net u rq old new c.sort_unstable_by_key.ensures.permutation c.in_ok-exits.ensures;
      order = IsNonDecreasingBy-from_sort_by_key (λ (e : Exit). e.rank) _ c.sort_unstable_by_key.ensures.sorted (λ a r q k. search rules);
    }
