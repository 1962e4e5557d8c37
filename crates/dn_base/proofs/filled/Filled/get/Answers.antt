use Rattle.std.proofs.Common.{◌∙◌, ◌<◌, ◌/◌, ap, sym, subst, length, slice_index_or, List, ℕ}
use Rattle.dn_base.specs.Paged.{item_at}
use Rattle.dn_base.proofs.Paging.{item_shown, page_there, shown_within}
use Rattle.dn_base.proofs.filled.Filled.get.Goals as goal

pub shown-requires-clause-there : goal.shown-requires-clause-there
shown-requires-clause-there g c =
    let inside = c.self.inside in
    subst (λ (es : List ℕ). c.args.at / 256 < length es) (sym c.as_slice-2.ensures.value) (page_there c.self.invariant.0 c.args.at (shown_within inside.rest inside.items.items inside.ends.items inside.count c.args.at c.args.self.now c.self.view_is c.requires))

pub returns : goal.returns
returns g c =
    let inside = c.self.inside in
    let within = shown_within inside.rest inside.items.items inside.ends.items inside.count c.args.at c.args.self.now c.self.view_is c.requires in
    c.shown.ensures
    ∙ (λ j. item_at (c.as_slice.ensures.value j) (c.as_slice-2.ensures.value j) inside.rest c.args.at)
    ∙ sym (item_shown inside.rest inside.items.items inside.ends.items inside.count c.args.at c.shown.result within)
    ∙ ap (λ xs. slice_index_or xs c.args.at c.shown.result) c.self.view_is
