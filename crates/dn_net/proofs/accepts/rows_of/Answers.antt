use Rattle.std.proofs.Common.{rules, ◌≡◌, ℕ, ◌∙◌, ap, IsTrue, All}
use Rattle.std.proofs.lemmas.List.Sorted.{IsNonDecreasingBy-from_sort_by_key}
use Rattle.std.proofs.lemmas.Result.{IfOk-weaker}
use Rattle.std.specs.List.{list_all}
use Rattle.dn_net.specs.Decode.{in_some_block}
use Rattle.dn_net.specs.Rules.{block_in_range}
use Rattle.dn_net.proofs.Stretch.{each_in_range, moved_same}
use Rattle.dn_net.proofs.accepts.rows_of.Goals as goal

pub stretched_blocks-requires : goal.stretched_blocks-requires
stretched_blocks-requires c = record { sorted = rw c.deref.ensures.value (IsNonDecreasingBy-from_sort_by_key (λ b. b.lo) _ c.sort_unstable_by_key.ensures.sorted (λ a r q k. search rules)) }

pub returns-clause-same : goal.returns-clause-same
returns-clause-same c =
    let same = moved_same c.args.blocks.now c.sort_unstable_by_key.new.self.items (rw c.in_ok-sorted.ensures.items at c.sort_unstable_by_key.ensures.permutation) in
    IfOk-weaker c.stretched_blocks.result (λ v. (a : ℕ) → in_some_block a v.items ≡ in_some_block a c.deref.result.now) (λ v. (a : ℕ) → in_some_block a v.items ≡ in_some_block a c.args.blocks.now) (λ v h a. h a ∙ ap (in_some_block a) c.deref.ensures.value ∙ same a) c.stretched_blocks.ensures.same

pub returns-clause-in_range : goal.returns-clause-in_range
returns-clause-in_range c =
    let same = rw c.in_ok-sorted.ensures.items at c.sort_unstable_by_key.ensures.permutation in
    IfOk-weaker c.stretched_blocks.result (λ v. All (λ b. IsTrue (block_in_range b)) c.deref.result.now → All (λ b. IsTrue (block_in_range b)) v.items) (λ v. IsTrue (list_all block_in_range c.args.blocks.now) → All (λ b. IsTrue (block_in_range b)) v.items) (λ v h all. h (rw c.deref.ensures.value (each_in_range c.args.blocks.now c.sort_unstable_by_key.new.self.items same all))) c.stretched_blocks.ensures.in_range
