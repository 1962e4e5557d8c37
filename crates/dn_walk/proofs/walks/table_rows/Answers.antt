-- The levels but the first, one behind the other.
use Rattle.std.proofs.Common.{◌≡◌, ◌∙◌, ◌++◌, [], List, ap, sym, drop, reverse, arith}
use Rattle.std.specs.List.{flat_map}
use Rattle.std.proofs.lemmas.List.{drop_all, reverse-reverse}
use Rattle.dn_walk.specs.declared.walks.WalkRow.{WalkRow}
use Rattle.dn_walk.proofs.walks.table_rows.Goals as goal

pub returns : goal.returns
returns c =
    let none : ◌≡◌ {A = List (List WalkRow)} (drop 1 c.loop-sorted.sorted.items) [] = drop_all 1 c.loop-sorted.sorted.items (omega arith) in
    let first : c.reserve.new.self.items ≡ reverse c.last_rows-rows.result.items = c.in_ok-reserve.ensures.items ∙ c.reverse.ensures.items in
    let back : reverse c.reserve.new.self.items ≡ c.last_rows-rows.result.items = ap reverse first ∙ reverse-reverse _ in
    let whole = ap (λ l. flat_map (λ x. x) l ++ reverse c.loop-sorted.rows.items) (sym none) ∙ c.loop-sorted.invariant.rows ∙ ap (λ l. flat_map (λ x. x) (drop 1 c.last_rows-rows.new.sorted.items) ++ l) back ∙ c.last_rows-rows.ensures.rows in
    c.reverse-2.ensures.items ∙ whole
