-- The names, sorted and each once, are those of the strands.
use Rattle.std.proofs.Common.{◌≡◌, ◌∙◌, ◌+◌, ◌-◌, ◌<◌, ◌&&◌, nat_eq, List, [], ◌∷◌, length, sym, ap, subst, arith}
use Rattle.std.proofs.lemmas.List.Filters.{dedup_is}
use Rattle.std.proofs.lemmas.List.Sorted.{list_any-IsPermutation}
use Rattle.dn_interval.specs.declared.row.End.{End}
use Rattle.dn_interval.specs.Rows.{Ascending, HasEnds}
use Rattle.dn_interval.specs.Strands.{ends_give}
use Rattle.dn_interval.proofs.Ends.{end_eq, dedup_ascends, dedup_some, dedup_gives}
use Rattle.dn_interval.proofs.rows.row_ends.Goals as goal

some_length : {xs ys : List End} → xs ≡ ys → HasEnds ys → 0 < length xs
some_length {xs} {ys} e h = subst (λ l. 0 < length l) (sym e) (go ys h)
  where
    go : (es : List End) → HasEnds es → 0 < length es
    go [] h = absurd h
    go (x ∷ es) h = omega arith

pub from_vec-requires : goal.from_vec-requires
from_vec-requires c =
    let some : 0 < length c.sort_unstable.new.self.items = omega (arith, c.sort_unstable.ensures.len, c.in_ok-ends.ensures.len, c.requires.some) in
    some_length (dedup_is end_eq _ _ c.dedup.ensures.filtered) (dedup_some c.sort_unstable.new.self.items some)

pub returns-clause-gives : goal.returns-clause-gives
returns-clause-gives c = λ a y l.
    let from = c.args.from in
    ap (λ t. ends_give t from a y) (c.from_vec.ensures ∙ dedup_is end_eq _ _ c.dedup.ensures.filtered)
    ∙ dedup_gives c.sort_unstable.new.self.items from a y
    ∙ sym (list_any-IsPermutation (λ (e : End). nat_eq e.node y.node && nat_eq (e.base + (a - from)) y.base) c.in_ok-ends.ends.items c.sort_unstable.new.self.items c.sort_unstable.ensures.permutation)
    ∙ c.in_ok-ends.ensures.gives a y l

pub returns-clause-ascending : goal.returns-clause-ascending
returns-clause-ascending c =
    subst Ascending (sym (c.from_vec.ensures ∙ dedup_is end_eq _ _ c.dedup.ensures.filtered)) (dedup_ascends c.sort_unstable.new.self.items c.sort_unstable.ensures.sorted)

pub returns-clause-some : goal.returns-clause-some
returns-clause-some c =
    let some : 0 < length c.sort_unstable.new.self.items = omega (arith, c.sort_unstable.ensures.len, c.in_ok-ends.ensures.len, c.requires.some) in
    subst HasEnds (sym (c.from_vec.ensures ∙ dedup_is end_eq _ _ c.dedup.ensures.filtered)) (dedup_some c.sort_unstable.new.self.items some)
