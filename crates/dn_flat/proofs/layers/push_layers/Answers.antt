-- A sort changes no name.
use Rattle.std.proofs.Common.{◌≡◌, ◌∙◌, ◌≤◌, ◌||◌, ℕ, ap, sym}
use Rattle.std.specs.List.{list_any}
use Rattle.std.proofs.lemmas.List.Sorted.{list_any-IsPermutation}
use Rattle.dn_base.proofs.Lists.{list_any-map}
use Rattle.dn_base.proofs.Told.{on_ok_then}
use Rattle.dn_interval.specs.declared.row.End.{End}
use Rattle.dn_interval.specs.declared.row.Seg.{Seg}
use Rattle.dn_interval.specs.declared.span.TheConstants.{TOP}
use Rattle.dn_interval.specs.Strands.{seg_gives, segs_give}
use Rattle.dn_flat.specs.declared.layers.Numbered.{Numbered}
use Rattle.dn_flat.specs.Levels.{levels_give}
use Rattle.dn_flat.proofs.layers.push_layers.Goals as goal

pub returns : goal.returns
returns c =
    let segs = c.args.segs.now in
    let old = c.args.layers.now in
    let new = c.push_numbered.new.layers in
    let first = c.in_ok-all.all.items in
    let all = c.as_slice.result.now in
    on_ok_then c.push_numbered.result
    ((a : ℕ) (z : End) → a ≤ TOP → levels_give new a z ≡ (levels_give old a z || list_any (λ (n : Numbered). seg_gives n.seg a z) all))
    ((a : ℕ) (z : End) → a ≤ TOP → levels_give new a z ≡ (levels_give old a z || segs_give segs a z))
    (λ f a z low. f a z low
    ∙ ap (λ t. levels_give old a z || t)
    (ap (λ ns. list_any (λ (n : Numbered). seg_gives n.seg a z) ns) c.as_slice.ensures.value
    ∙ sym (list_any-IsPermutation (λ (n : Numbered). seg_gives n.seg a z) first c.sort_by_key.new.self.items c.sort_by_key.ensures.permutation)
    ∙ sym (list_any-map (λ (n : Numbered). n.seg) (λ (s : Seg). seg_gives s a z) first)
    ∙ ap (λ s. segs_give s a z) c.in_ok-all.ensures))
    c.push_numbered.ensures
