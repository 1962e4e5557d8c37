-- One layer more, where there are segments.
use Rattle.std.proofs.Common.{rules, ◌≡◌, ◌∙◌, ◌≤◌, ◌||◌, ◌++◌, [], ◌∷◌, ◌==◌, ℕ, length, sym}
use Rattle.dn_base.proofs.Told.{on_ok_then}
use Rattle.dn_interval.specs.declared.row.End.{End}
use Rattle.dn_interval.specs.declared.span.TheConstants.{TOP}
use Rattle.dn_interval.specs.Strands.{segs_give}
use Rattle.dn_flat.specs.Levels.{levels_give}
use Rattle.dn_flat.proofs.Layered.{no_more, one_more}
use Rattle.dn_flat.proofs.Lists.{none_of}
use Rattle.dn_flat.proofs.layers.push_layer.Goals as goal

pub returns-then-is_empty : goal.returns-then-is_empty
returns-then-is_empty c = λ a z low.
    let segs = c.args.segs.now in
    let same : c.is_empty.result ≡ (length segs == 0) = search rules in
    no_more c.args.layers.now segs a z (none_of segs (sym same ∙ c.if-is_empty.true))

pub returns : goal.returns
returns c =
    let segs = c.args.segs.now in
    let layer = c.in_ok-layer.layer in
    let old = c.args.layers.now in
    let new = c.push.new.self in
    on_ok_then c.push.result (new ≡ old ++ layer ∷ []) ((a : ℕ) (z : End) → a ≤ TOP → levels_give new a z ≡ (levels_give old a z || segs_give segs a z))
    (λ e a z low. one_more old new layer segs a z low e c.in_ok-layer.ensures.normal)
    c.push.ensures.ok
