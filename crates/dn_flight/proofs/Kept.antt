-- What each event makes of a world: the cases of one that is played, and that a world stays one.
use Rattle.std.proofs.Common.{◌≡◌, ◌∙◌, ap, sym, subst, refl, ℕ, zero, suc, ◌<◌, ◌≤◌, inl, true, false, if◌then◌else◌, nat_lt, List, [], ◌∷◌, ◌++◌, length, get_or, position, Option, Some, None, slice_get, slice_set, Result, Ok, Err, OnErr, IsTrue, ltb-true, arith}
use Rattle.std.specs.List.{list_all}
use Rattle.std.specs.Option.{option_map}
use Rattle.std.proofs.lemmas.Bool.{lt-ltb}
use Rattle.std.proofs.lemmas.List.{length-set}
use Rattle.std.proofs.lemmas.Option.{same_Some}
use Rattle.dn_base.specs.Answers.{Answers}
use Rattle.dn_base.proofs.Booleans.{and_from, and_parts}
use Rattle.dn_base.proofs.Lists.{list_all-at, list_all-last, slice_get-at}
use Rattle.dn_base.proofs.Orders.{le-ltb}
use Rattle.dn_net.specs.declared.node.Name.{Name}
use Rattle.dn_net.specs.declared.node.NodeDecl.{NodeDecl}
use Rattle.dn_net.specs.Chain.{Member}
use Rattle.dn_net.specs.Decode.{is_agent_at, is_stop}
use Rattle.dn_net.specs.Names.{resolved_names, stop_names}
use Rattle.dn_net.proofs.Stops.{listed_stop}
use Rattle.dn_kind.specs.declared.rights.Access.{Access}
use Rattle.dn_kind.specs.Kind.{Meaning}
use Rattle.dn_kind.specs.Tables.{Held, allowing, record_held, steps_under}
use Rattle.dn_book.specs.Events.{with_word_in}
use Rattle.dn_flight.specs.declared.event.Event.{Event}
use Rattle.dn_flight.specs.declared.event.Event.TheVariants.{Begin, Read, Write, Fence}
use Rattle.dn_flight.specs.declared.event.FlightFault.{FlightFault}
use Rattle.dn_flight.specs.declared.flights.Flight.{Flight}
use Rattle.dn_flight.specs.declared.lookup.LookState.{LookState}
use Rattle.dn_flight.specs.declared.lookup.LookState.TheVariants.{At, Ended}
use Rattle.dn_flight.specs.declared.lookup.Lookup.{Lookup}
use Rattle.dn_flight.specs.Faults.{flight_fault_view}
use Rattle.dn_flight.specs.Flight.{RefusedEvent, begin_fault, begun, first_name, flight_fault, many, no_agent, no_lookup, no_word, not_quiet, played, played_by, read_at, read_by, read_on, sent_on, settled, settled_by, stepped}
use Rattle.dn_flight.specs.Lookups.{IsFlightAt, is_flying, is_in_flight, lookup_limit, with_state}
use Rattle.dn_flight.specs.State.{WorldState}
use Rattle.dn_flight.specs.Words.{IsWorld, has_word_by, has_word_in, stands_in_unit, word_counts}
use Rattle.dn_flight.proofs.Counts.{flight_flies, read_is}

module _ (net : List NodeDecl) (kinds : List Meaning) (w : WorldState) where
  -- A BEGIN

  pub begin_nowhere : (agent start : ℕ) (access : Access) → is_agent_at (slice_get net agent) ≡ false → played net kinds (Begin agent start access) w ≡ Err no_agent
  begin_nowhere agent start access e = ap (λ a. played_by (begin_fault a (nat_lt (length w.lookups) lookup_limit)) (stepped net kinds (Begin agent start access) w)) e

  pub begin_past : (agent start : ℕ) (access : Access) → is_agent_at (slice_get net agent) ≡ true → lookup_limit ≤ length w.lookups → played net kinds (Begin agent start access) w ≡ Err many
  begin_past agent start access e l =
      ap (λ a. played_by (begin_fault a (nat_lt (length w.lookups) lookup_limit)) (stepped net kinds (Begin agent start access) w)) e
      ∙ ap (λ b. played_by (begin_fault true b) (stepped net kinds (Begin agent start access) w)) (le-ltb (length w.lookups) lookup_limit l)

  pub begin_here : (agent start : ℕ) (access : Access) (state : LookState) → is_agent_at (slice_get net agent) ≡ true → length w.lookups < lookup_limit → state ≡ settled net (first_name agent start) → played net kinds (Begin agent start access) w ≡ Ok (record { words = w.words; lookups = w.lookups ++ record { agent = agent; start = start; access = access; state = state } ∷ [] })
  begin_here agent start access state e l is =
      ap (λ a. played_by (begin_fault a (nat_lt (length w.lookups) lookup_limit)) (stepped net kinds (Begin agent start access) w)) e
      ∙ ap (λ b. played_by (begin_fault true b) (stepped net kinds (Begin agent start access) w)) (lt-ltb (length w.lookups) lookup_limit l)
      ∙ ap (λ s. Ok (record { words = w.words; lookups = w.lookups ++ record { agent = agent; start = start; access = access; state = s } ∷ [] })) (sym is)

  -- A READ

  pub read_nowhere : (n : ℕ) → is_in_flight (slice_get w.lookups n) ≡ false → played net kinds (Read n) w ≡ Err (no_lookup n)
  read_nowhere n e = ap (λ b. played_by (if b then None else Some (no_lookup n)) (stepped net kinds (Read n) w)) e

  pub read_here : (n : ℕ) (f : Flight) (state : LookState) → IsFlightAt (slice_get w.lookups n) f → state ≡ read_by net (record_held net kinds w.words) f.access (At f.name) → played net kinds (Read n) w ≡ Ok (record { words = w.words; lookups = with_state w.lookups n state })
  read_here n f state at is =
      ap (λ b. played_by (if b then None else Some (no_lookup n)) (stepped net kinds (Read n) w)) (flight_flies (slice_get w.lookups n) f at)
      ∙ ap (λ ls. Ok (record { words = w.words; lookups = ls })) (read_is net (record_held net kinds w.words) w.lookups n at.lookup at.there)
      ∙ ap (λ s. Ok (record { words = w.words; lookups = with_state w.lookups n (read_by net (record_held net kinds w.words) at.lookup.access s) })) at.state
      ∙ ap (λ k. Ok (record { words = w.words; lookups = with_state w.lookups n (read_by net (record_held net kinds w.words) k (At f.name)) })) at.access
      ∙ ap (λ s. Ok (record { words = w.words; lookups = with_state w.lookups n s })) (sym is)

  -- A WRITE

  pub write_nowhere : (unit word value : ℕ) → has_word_in w.words unit word ≡ false → played net kinds (Write unit word value) w ≡ Err no_word
  write_nowhere unit word value e = ap (λ b. played_by (if b then None else Some no_word) (stepped net kinds (Write unit word value) w)) e

  pub write_here : (unit word value : ℕ) → has_word_in w.words unit word ≡ true → played net kinds (Write unit word value) w ≡ Ok (record { words = with_word_in w.words unit word value; lookups = w.lookups })
  write_here unit word value e = ap (λ b. played_by (if b then None else Some no_word) (stepped net kinds (Write unit word value) w)) e

  -- A FENCE

  pub fence_by : (o : Option ℕ) → o ≡ position (λ l. is_flying l.state) w.lookups → played net kinds Fence w ≡ played_by (option_map not_quiet o) w
  fence_by o e = ap (λ p. played_by (option_map not_quiet p) w) (sym e)

-- A WORLD STAYS ONE

counts_same : (words : List (List ℕ)) (unit word value : ℕ) → word_counts (with_word_in words unit word value) ≡ word_counts words
counts_same [] unit word value = refl
counts_same (ws ∷ rest) zero word value = ap (λ n. n ∷ word_counts rest) (length-set ws word value)
counts_same (ws ∷ rest) (suc unit) word value = ap (λ (l : List ℕ). length ws ∷ l) (counts_same rest unit word value)

settled_stands : (net : List NodeDecl) (x : Name) → IsTrue (stands_in_unit net (settled net x))
settled_stands net x = by (stop_names net x) refl
  where
    by : (l : List Name) → stop_names net x ≡ l → IsTrue (stands_in_unit net (settled_by l (resolved_names net x)))
    by [] e = refl
    by (s ∷ ss) e = (listed_stop net x s (subst (Member s) (sym e) (inl refl))).0

read_stands : (net : List NodeDecl) (h : Held) (l : Lookup) → IsTrue (stands_in_unit net l.state) → IsTrue (stands_in_unit net (read_on net h l).state)
read_stands net h l is = by l.state is
  where
    sent : (xs : List Name) → IsTrue (stands_in_unit net (sent_on net xs))
    sent [] = refl
    sent (x ∷ xs) = settled_stands net x

    by : (s : LookState) → IsTrue (stands_in_unit net s) → IsTrue (stands_in_unit net (read_by net h l.access s))
    by (At s) e = sent (steps_under net (allowing l.access h) s)
    by (Ended names) e = refl

reading_stands : (net : List NodeDecl) (h : Held) (ls : List Lookup) (n : ℕ) → IsTrue (list_all (λ l. stands_in_unit net l.state) ls) → IsTrue (list_all (λ l. stands_in_unit net l.state) (read_at net h ls n))
reading_stands net h [] n a = refl
reading_stands net h (l ∷ ls) zero a =
    let p = and_parts (stands_in_unit net l.state) (list_all (λ l. stands_in_unit net l.state) ls) a in
    and_from (stands_in_unit net (read_on net h l).state) (list_all (λ l. stands_in_unit net l.state) ls) (read_stands net h l p.0) p.1
reading_stands net h (l ∷ ls) (suc n) a =
    let p = and_parts (stands_in_unit net l.state) (list_all (λ l. stands_in_unit net l.state) ls) a in
    and_from (stands_in_unit net l.state) (list_all (λ l. stands_in_unit net l.state) (read_at net h ls n)) p.0 (reading_stands net h ls n p.1)

pub stepped_keeps : (net : List NodeDecl) (kinds : List Meaning) (e : Event) (w : WorldState) → IsWorld net kinds w → IsWorld net kinds (stepped net kinds e w)
stepped_keeps net kinds (Begin agent start access) w is = record {
  sized = is.sized;
  stand = list_all-last (λ (l : Lookup). stands_in_unit net l.state) w.lookups (begun net agent start access) is.stand (settled_stands net (first_name agent start));
}
stepped_keeps net kinds (Read n) w is = record { sized = is.sized; stand = reading_stands net (record_held net kinds w.words) w.lookups n is.stand }
stepped_keeps net kinds (Write unit word value) w is = record { sized = counts_same w.words unit word value ∙ is.sized; stand = is.stand }
stepped_keeps net kinds Fence w is = is

-- so it does where an event is played or refused
pub played_keeps : {A : Type 0} (net : List NodeDecl) (kinds : List Meaning) (e : Event) (w w' : WorldState) (r : Result A FlightFault) → Answers (λ _. w') flight_fault_view r (played net kinds e w) → OnErr r (w' ≡ w) → IsWorld net kinds w → IsWorld net kinds w'
played_keeps net kinds e w w' (Ok x) exact same is = by (flight_fault net w e) exact
  where
    by : (o : Option RefusedEvent) → played_by o (stepped net kinds e w) ≡ Ok w' → IsWorld net kinds w'
    by None at = subst (IsWorld net kinds) (one (stepped net kinds e w) w' at) (stepped_keeps net kinds e w is)
      where
        one : (v v' : WorldState) → ◌≡◌ {A = Result WorldState RefusedEvent} (Ok v) (Ok v') → v ≡ v'
        one v v' f = cc
    by (Some why) at = let c : ◌≡◌ {A = Result WorldState RefusedEvent} (Err why) (Ok w') = at in cc
played_keeps net kinds e w w' (Err fault) exact same is = subst (IsWorld net kinds) (sym same) is

-- a lookup in flight stands in a unit
pub flight_stops : (net : List NodeDecl) (ls : List Lookup) (n : ℕ) (f : Flight) → IsTrue (list_all (λ l. stands_in_unit net l.state) ls) → IsFlightAt (slice_get ls n) f → IsTrue (is_stop net f.name)
flight_stops net ls n f all at = subst (λ s. IsTrue (stands_in_unit net s)) at.state (list_all-at (λ (l : Lookup). stands_in_unit net l.state) ls n at.lookup all at.there)

-- WORDS

pub set_word_is : (words : List (List ℕ)) (unit word value : ℕ) (ws : List ℕ) → slice_get words unit ≡ Some ws → slice_set words unit (slice_set ws word value) ≡ with_word_in words unit word value
set_word_is [] unit word value ws e = cc
set_word_is (v ∷ words) zero word value ws e = ap (λ (l : List ℕ). slice_set l word value ∷ words) (sym (same_Some v ws e))
set_word_is (v ∷ words) (suc unit) word value ws e = ap (λ (l : List (List ℕ)). v ∷ l) (set_word_is words unit word value ws e)

-- the node of a word that is there
pub node_there : (words : List (List ℕ)) (unit word : ℕ) → IsTrue (has_word_in words unit word) → unit < length words
node_there [] unit word has = let c : false ≡ true = has in cc
node_there (ws ∷ words) zero word has = omega arith
node_there (ws ∷ words) (suc unit) word has = let h = node_there words unit word has in omega arith

-- a word of a node that has it is set
pub word_set : (items words : List (List ℕ)) (at unit word value : ℕ) (ws ws' : List ℕ) → items ≡ words → at ≡ unit → IsTrue (has_word_in words unit word) → ws ≡ get_or items at ws → ws' ≡ slice_set ws word value → slice_set items at ws' ≡ with_word_in words unit word value
word_set items words at unit word value ws ws' same here has is set =
    ap (slice_set items at) set
    ∙ ap (λ n. slice_set items n (slice_set ws word value)) here
    ∙ ap (λ (l : List (List ℕ)). slice_set l unit (slice_set ws word value)) same
    ∙ set_word_is words unit word value ws (sym (slice_get-at words unit ws (node_there words unit word has) (is ∙ ap (λ n. get_or items n ws) here ∙ ap (λ (l : List (List ℕ)). get_or l unit ws) same)))

pub word_there : (items words : List (List ℕ)) (at unit word : ℕ) (ws : List ℕ) → items ≡ words → at ≡ unit → IsTrue (has_word_in words unit word) → ws ≡ get_or items at ws → word < length ws
word_there items words at unit word ws same here has is =
    ltb-true word (length ws) (subst (λ o. IsTrue (has_word_by o word)) (sym (slice_get-at words unit ws (node_there words unit word has) (is ∙ ap (λ n. get_or items n ws) here ∙ ap (λ (l : List (List ℕ)). get_or l unit ws) same))) has)
