-- Which events are refused: those that may not come, those whose word is not there, and one lookup too many.
use Rattle.std.proofs.Common.{◌≡◌, ◌∙◌, ◌⊎◌, inl, inr, sym, refl, ℕ, Bool, true, false, if◌then◌else◌, ◌||◌, ◌&&◌, ◌↔◌, suc, nat_lt, List, [], ◌∷◌, length, position, Option, Some, None, slice_get, IsTrue}
use Rattle.std.specs.List.{list_all, list_any}
use Rattle.std.specs.Option.{option_map}
use Rattle.dn_base.proofs.Booleans.{and_parts}
use Rattle.dn_base.proofs.Lists.{position-none}
use Rattle.dn_net.specs.Decode.{is_agent_at}
use Rattle.dn_flight.specs.declared.event.Event.TheVariants.{Begin, Read, Write, Fence}
use Rattle.dn_flight.specs.declared.lookup.LookState.{LookState}
use Rattle.dn_flight.specs.declared.lookup.LookState.TheVariants.{At, Ended}
use Rattle.dn_flight.specs.declared.lookup.Lookup.{Lookup}
use Rattle.dn_flight.specs.Counted.{flying_count}
use Rattle.dn_flight.specs.Flight.{begin_fault, many, no_lookup, no_word, not_quiet}
use Rattle.dn_flight.specs.Laws.{WhatMayComeIsPlayed}
use Rattle.dn_flight.specs.Lookups.{has_landed, is_flying, is_in_flight, lookup_limit}
use Rattle.dn_flight.specs.Words.{has_word_in}
use Rattle.dn_flight.proofs.Counts.{none_first}

-- none is in flight exactly where all have ended
landed_count : (ls : List Lookup) → IsTrue (list_all (λ l. has_landed l.state) ls) → flying_count ls ≡ 0
landed_count [] a = refl
landed_count (l ∷ ls) a =
    let p = and_parts (has_landed l.state) (list_all (λ l. has_landed l.state) ls) a in
    by l.state p.0 (landed_count ls p.1)
  where
    by : (s : LookState) → IsTrue (has_landed s) → flying_count ls ≡ 0 → (if is_flying s then suc (flying_count ls) else flying_count ls) ≡ 0
    by (At x) p rest = let c : false ≡ true = p in cc
    by (Ended names) p rest = rest

all_landed : (ls : List Lookup) → position (λ l. is_flying l.state) ls ≡ None → IsTrue (list_all (λ l. has_landed l.state) ls)
all_landed ls e = go ls (position-none (λ (l : Lookup). is_flying l.state) ls e)
  where
    go : (ls : List Lookup) → list_any (λ l. is_flying l.state) ls ≡ false → IsTrue (list_all (λ l. has_landed l.state) ls)
    go [] e = refl
    go (l ∷ ls) e = by l.state e (λ e. go ls e)
      where
        by : (s : LookState) → (is_flying s || list_any (λ l. is_flying l.state) ls) ≡ false → (list_any (λ l. is_flying l.state) ls ≡ false → IsTrue (list_all (λ l. has_landed l.state) ls)) → IsTrue (has_landed s && list_all (λ l. has_landed l.state) ls)
        by (At x) e rest = cc
        by (Ended names) e rest = rest e

pub what_may_come_is_played : WhatMayComeIsPlayed
what_may_come_is_played net w (Begin agent start access) = by (is_agent_at (slice_get net agent)) (nat_lt (length w.lookups) lookup_limit)
  where
    by : (a b : Bool) → ((begin_fault a b ≡ None) ⊎ (begin_fault a b ≡ Some many)) ↔ (IsTrue a × Unit {0})
    by false b = ((λ o. elim o [ inl e ↦ cc | inr e ↦ cc ]), (λ p. let c : false ≡ true = p.0 in cc))
    by true false = ((λ o. (refl, tt)), (λ p. inr refl))
    by true true = ((λ o. (refl, tt)), (λ p. inl refl))
what_may_come_is_played net w (Read n) = by (is_in_flight (slice_get w.lookups n))
  where
    by : (a : Bool) → (((if a then None else Some (no_lookup n)) ≡ None) ⊎ ((if a then None else Some (no_lookup n)) ≡ Some many)) ↔ (IsTrue a × Unit {0})
    by false = ((λ o. elim o [ inl e ↦ cc | inr e ↦ cc ]), (λ p. let c : false ≡ true = p.0 in cc))
    by true = ((λ o. (refl, tt)), (λ p. inl refl))
what_may_come_is_played net w (Write unit word value) = by (has_word_in w.words unit word)
  where
    by : (a : Bool) → (((if a then None else Some no_word) ≡ None) ⊎ ((if a then None else Some no_word) ≡ Some many)) ↔ (Unit {0} × IsTrue a)
    by false = ((λ o. elim o [ inl e ↦ cc | inr e ↦ cc ]), (λ p. let c : false ≡ true = p.1 in cc))
    by true = ((λ o. (tt, refl)), (λ p. inl refl))
what_may_come_is_played net w Fence = by (position (λ l. is_flying l.state) w.lookups) refl
  where
    by : (o : Option ℕ) → position (λ l. is_flying l.state) w.lookups ≡ o → ((option_map not_quiet o ≡ None) ⊎ (option_map not_quiet o ≡ Some many)) ↔ (IsTrue (list_all (λ l. has_landed l.state) w.lookups) × Unit {0})
    by None at = ((λ o. (all_landed w.lookups at, tt)), (λ p. inl refl))
    by (Some n) at = (
      (λ o. elim o [ inl e ↦ cc | inr e ↦ cc ]),
      (λ p. let c : ◌≡◌ {A = Option ℕ} None (Some n) = sym (none_first w.lookups (landed_count w.lookups p.0)) ∙ at in cc),
    )
