use Rattle.std.proofs.Common.{◌≡◌, ◌∙◌, ◌+◌, ◌-◌, ◌≤◌, ap, sym, subst, get_or, length, replicate, slice_set, vec_capacity, vec_len, length-append, arith, rules, List, ℕ}
use Rattle.std.proofs.lemmas.List.{get_or-set_other, length-replicate, length-set}
use Rattle.dn_base.specs.Paged.{ArePaged, item_at}
use Rattle.dn_base.proofs.Paging.{made_same, page_left, page_made}
use Rattle.dn_base.proofs.filled.page_end.Given.{Over}
use Rattle.dn_base.proofs.filled.page_end.Goals.{After-len-end}
use Rattle.dn_base.proofs.filled.page_end.Goals as goal

-- the page was not made
not_made : (g : Over) (c : After-len-end g) → get_or c.args.ends.now.items c.args.page 0 ≡ 0
not_made g c =
    let least : get_or c.args.ends.now.items c.args.page 0 ≤ 0 = subst (λ (es : List ℕ). get_or es c.args.page 0 ≤ 0) c.as_slice-made.ensures.value c.if-end-gt0.false in
    omega (arith, least)

-- how many items there were
size_is : (g : Over) (c : After-len-end g) → c.len-end.result ≡ length c.args.items.now.items
size_is g c = search rules

pub fill-requires : goal.fill-requires
fill-requires g c =
    let at = (goal.at.fill-requires g c).After-len-end in
    let room = page_left c.requires.paged c.requires.there (not_made g at) in
    omega (arith, room, size_is g at)

pub returns-clause-paged : goal.returns-clause-paged
returns-clause-paged g c =
    let at = (goal.at.returns-clause-paged g c).After-len-end in
    let end : ℕ = c.len-end.result + 256 in
    let more : ℕ = end - vec_len c.args.items.now in
    let size = size_is g at in
    let long : length c.fill.new.items.items ≡ length c.args.items.now.items + more = ap length c.fill.ensures.items ∙ length-append c.args.items.now.items (replicate more c.args.value) ∙ ap (λ k. length c.args.items.now.items + k) (length-replicate more c.args.value) in
    let count : length c.fill.new.items.items ≡ end = omega (arith, long, size, c.len-end.ensures) in
    let made = page_made c.requires.paged c.requires.there (not_made g at) end (omega (arith, size)) in
    subst (λ n. ArePaged n (vec_capacity c.fill.new.items) (slice_set c.args.ends.now.items c.args.page end) c.args.count) (sym count) (subst (λ k. ArePaged end k (slice_set c.args.ends.now.items c.args.page end) c.args.count) (sym c.fill.ensures.room) made)

pub returns-clause-same : goal.returns-clause-same
returns-clause-same g c =
    let at = (goal.at.returns-clause-same g c).After-len-end in
    let end : ℕ = c.len-end.result + 256 in
    let more : ℕ = end - vec_len c.args.items.now in
    λ k. ap (λ xs. item_at xs (slice_set c.args.ends.now.items c.args.page end) c.args.value k) c.fill.ensures.items
    ∙ made_same c.args.value c.args.items.now.items c.args.ends.now.items (vec_capacity c.args.items.now) c.args.count c.args.page end more c.requires.paged c.requires.there (not_made g at) (omega (arith, size_is g at)) (omega (arith, c.len-end.ensures)) k

pub returns-clause-pages : goal.returns-clause-pages
returns-clause-pages g c =
    let at = (goal.at.returns-clause-pages g c).After-len-end in
    length-set c.args.ends.now.items c.args.page (at.len-end.result + 256)

pub returns-clause-later : goal.returns-clause-later
returns-clause-later g c other l =
    let at = (goal.at.returns-clause-later g c).After-len-end in
    get_or-set_other c.args.ends.now.items c.args.page other (at.len-end.result + 256) 0 (λ e. omega (arith, e, l))
