-- The slots before the place are before the first of the run, and those from it on are not.
use Rattle.std.proofs.Common.{rules, ◌≡◌, ◌∙◌, ◌<◌, ℕ, None, Some, ltb-false, ltb-true, nat_lt, slice_get, subst, sym}
use Rattle.std.proofs.lemmas.List.Sorted.{IsPartitionPoint-from_clause, IsPartitionedBy-ltb}
use Rattle.std.proofs.lemmas.Option.{same_Some, slice_get_past}
use Rattle.dn_base.proofs.Lists.{slice_get-at}
use Rattle.dn_gather.proofs.Vacant.{Parts, run_free, run_taken}
use Rattle.dn_gather.proofs.used.are_free.Given.{Over}
use Rattle.dn_gather.proofs.used.are_free.Goals.{After-partition_point-place}
use Rattle.dn_gather.proofs.used.are_free.Goals as goal

-- the place parts the slots
parts : (g : Over) (c : After-partition_point-place g) → Parts c.args.first c.args.ground.used.now c.partition_point-place.result
parts g c = IsPartitionPoint-from_clause (λ (s : ℕ). nat_lt s c.args.first) _ _ c.partition_point-place.ensures.partitioned (IsPartitionedBy-ltb (λ (s : ℕ). s) c.args.ground.used.now c.args.first c.requires.ground.used.order) (λ a r q k. search rules)

never : (s : ℕ) → None ≡ Some s → ⊥
never s e = cc

pub returns-in-Some-clause-yes : goal.returns-in-Some-clause-yes
returns-in-Some-clause-yes g c = λ yes.
    let gr = c.args.ground in
    let h = c.in-Some.ensures.lookup in
    let slot : ℕ = c.in-Some.slot.now in
    let at : slice_get gr.used.now c.partition_point-place.result ≡ Some slot = sym (slice_get-at gr.used.now c.partition_point-place.result slot h.3.0 h.1) in
    let past : c.args.last < slot = ltb-true c.args.last slot (rw c.from.ensures at yes) in
    run_free gr.wanted.tables.now gr.unit gr.translator.now.slots c.args.first c.args.last c.partition_point-place.result gr.used.now c.requires.ground.used c.requires.within (parts g (goal.at.returns-in-Some-clause-yes g c).After-partition_point-place)
    (λ s e. subst (λ (n : ℕ). c.args.last < n) (same_Some slot s (sym at ∙ e)) past)

pub returns-in-Some-clause-no : goal.returns-in-Some-clause-no
returns-in-Some-clause-no g c = λ past free.
    let gr = c.args.ground in
    let h = c.in-Some.ensures.lookup in
    let slot : ℕ = c.in-Some.slot.now in
    let at : slice_get gr.used.now c.partition_point-place.result ≡ Some slot = sym (slice_get-at gr.used.now c.partition_point-place.result slot h.3.0 h.1) in
    run_taken gr.wanted.tables.now gr.unit gr.translator.now.slots c.args.first c.args.last c.partition_point-place.result slot gr.used.now c.requires.ground.used (parts g (goal.at.returns-in-Some-clause-no g c).After-partition_point-place) at
    (ltb-false c.args.last slot (rw c.from.ensures at past)) free

pub returns-in-None-clause-yes : goal.returns-in-None-clause-yes
returns-in-None-clause-yes g c = λ yes.
    let gr = c.args.ground in
    run_free gr.wanted.tables.now gr.unit gr.translator.now.slots c.args.first c.args.last c.partition_point-place.result gr.used.now c.requires.ground.used c.requires.within (parts g (goal.at.returns-in-None-clause-yes g c).After-partition_point-place)
    (λ s e. absurd (never s (sym (slice_get_past gr.used.now c.partition_point-place.result c.in-None.ensures.lookup.3) ∙ e)))
