use Rattle.std.proofs.Common.{◌≡◌, ◌∙◌, ℕ, sym, subst, Some, None}
use Rattle.dn_interval.specs.declared.row.End.{End}
use Rattle.dn_net.proofs.Stops.{agent_there}
use Rattle.dn_kind.specs.Kinded.{kinds_of}
use Rattle.dn_placement.specs.Slots.{Slots, slots_of_set}
use Rattle.dn_book.specs.Book.{slots_of}
use Rattle.dn_place.specs.Slots.{IsBarred}
use Rattle.dn_place.proofs.Proper.{system_slots}
use Rattle.dn_place.proofs.Shut.{shut_off}
use Rattle.dn_place.proofs.booked.is_shut.Goals as goal

pub entry_of-requires-clause-there : goal.entry_of-requires-clause-there
entry_of-requires-clause-there g c = agent_there c.args.system.on.net.now c.args.agent c.requires.agent

-- an address is asked for
asked : (at : ℕ) → Some at ≡ None → ⊥
asked at p = cc

pub returns-in_default : goal.returns-in_default
returns-in_default g c = λ yes. shut_off c.args.system.on.net.now (slots_of c.args.system.on.net.now c.args.book.now.grants) c.args.agent (Some c.args.at) c.entry_of.result c.entry_of.ensures (asked c.args.at) (λ z e. absurd (never z (sym c.in_default.is ∙ e)))
  where
    never : (z : End) → None ≡ Some z → ⊥
    never z p = cc

pub returns : goal.returns
returns g c = λ yes.
    let ks = kinds_of (λ k. (goal.UnitKind-dyn g k).meaning k.1) c.args.system.on.kinds.now in
    let net = c.args.system.on.net.now in
    let set = c.tables-tables.result.now in
    let slots = system_slots _ c.args.system c.args.book.now.grants set c.requires.system (record { few = c.facts.ensures.few; sized = c.facts.ensures.sized }) (rw c.tables-tables.ensures c.requires.kept) in
    shut_off net (slots_of net c.args.book.now.grants) c.args.agent (Some c.args.at) c.entry_of.result c.entry_of.ensures (asked c.args.at) (λ z e. subst (λ (s : Slots). IsBarred net s z) slots (subst (λ (w : End). IsBarred net (slots_of_set ks set) w) (some c.in-Some.entry z (sym c.in-Some.is ∙ e)) (c.is_barred.ensures yes)))
  where
    some : (a b : End) → Some a ≡ Some b → a ≡ b
    some a b p = cc
