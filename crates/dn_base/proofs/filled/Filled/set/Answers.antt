use Rattle.std.proofs.Common.{◌≡◌, ◌∙◌, ◌+◌, ◌-◌, ◌<◌, ◌/◌, ◌%◌, ap, sym, subst, get_or, length, slice_set, vec_capacity, vec_len, arith, rules, List, ℕ}
use Rattle.std.proofs.lemmas.List.{length-set}
use Rattle.dn_base.specs.Paged.{ArePaged}
use Rattle.dn_base.proofs.Paging.{none_behind, page_there, place_within, same_shown, set_shown, shown_within}
use Rattle.dn_base.proofs.filled.Filled.set.Goals as goal

pub page_end-end-requires-clause-there : goal.page_end-end-requires-clause-there
page_end-end-requires-clause-there g c =
    let inside = c.self.inside in
    page_there c.self.invariant.0 c.args.at (shown_within inside.rest inside.items.items inside.ends.items inside.count c.args.at c.args.self.now c.self.view_is c.requires)

pub index_mut-requires : goal.index_mut-requires
index_mut-requires g c =
    let items = c.page_end-end.new.items in
    let ends : List ℕ = c.page_end-end.new.ends.items in
    let made : 0 < get_or ends (c.args.at / 256) 0 = omega (arith, c.page_end-end.ensures.end, c.page_end-end.ensures.made) in
    let within = place_within c.self.inside.rest items.items ends (vec_capacity items) c.self.inside.count c.args.at c.page_end-end.ensures.paged made in
    let size : vec_len c.page_end-end.new.items ≡ length c.page_end-end.new.items.items = search rules in
    omega (arith, within, size, c.page_end-end.ensures.end)

pub invariant_of-self : goal.invariant_of-self
invariant_of-self g c =
    let items = c.page_end-end.new.items in
    let place : ℕ = c.page_end-end.result - 256 + c.args.at % 256 in
    let inside = c.self.inside in
    let there = page_there c.self.invariant.0 c.args.at (shown_within inside.rest inside.items.items inside.ends.items inside.count c.args.at c.args.self.now c.self.view_is c.requires) in (
      subst (λ n. ArePaged n (vec_capacity items) c.page_end-end.new.ends.items c.self.inside.count) (sym (length-set items.items place c.args.item)) c.page_end-end.ensures.paged,
      none_behind c.self.inside.top (c.args.at / 256) c.max-self-inside.result c.self.inside.ends.items c.page_end-end.new.ends.items c.self.invariant.1 c.page_end-end.ensures.pages there c.page_end-end.ensures.later (omega (arith, c.max-self-inside.ensures)) (omega (arith, c.max-self-inside.ensures)) (omega (arith, c.max-self-inside.ensures, there, c.self.invariant.1.within)),
    )

pub returns : goal.returns
returns g c =
    let inside = c.self.inside in
    let items = c.page_end-end.new.items in
    let ends : List ℕ = c.page_end-end.new.ends.items in
    let place : ℕ = c.page_end-end.result - 256 + c.args.at % 256 in
    let made : 0 < get_or ends (c.args.at / 256) 0 = omega (arith, c.page_end-end.ensures.end, c.page_end-end.ensures.made) in
    let is : place ≡ get_or ends (c.args.at / 256) 0 - 256 + c.args.at % 256 = ap (λ n. n - 256 + c.args.at % 256) c.page_end-end.ensures.end in
    let within = shown_within inside.rest inside.items.items inside.ends.items inside.count c.args.at c.args.self.now c.self.view_is c.requires in
    set_shown inside.rest items.items ends (vec_capacity items) inside.count c.args.at c.page_end-end.ensures.paged made c.args.item place within is
    ∙ ap (λ xs. slice_set xs c.args.at c.args.item) (same_shown inside.rest items.items inside.items.items ends inside.ends.items inside.count c.page_end-end.ensures.same ∙ c.self.view_is)
