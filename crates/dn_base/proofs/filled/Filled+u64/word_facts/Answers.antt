use Rattle.std.proofs.Common.{◌^◌, ◌<◌, subst, get_or, nat_lt, IsTrue, List, ℕ}
use Rattle.std.specs.List.{list_all}
use Rattle.dn_base.proofs.Paging.{all_fit}
use Rattle.dn_base.proofs.filled.Filled+u64.word_facts.Goals as goal

pub returns : goal.returns
returns c =
    let inside = c.self.inside in
    let fit : (k : ℕ) → get_or inside.items.items k 0 < 2 ^ 64 = subst (λ (ws : List ℕ). (k : ℕ) → get_or ws k 0 < 2 ^ 64) c.as_slice.ensures.value c.words_fit.ensures in
    subst (λ (ws : List ℕ). IsTrue (list_all (λ w. nat_lt w (2 ^ 64)) ws)) c.self.view_is (all_fit inside.items.items inside.ends.items inside.rest inside.count fit (c.words_fit-2.ensures 0))
