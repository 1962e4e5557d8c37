-- What a lookup beside a script has ended with, by the books of which the moments of its life speak.
use Rattle.std.proofs.Common.{◌≡◌, ◌∙◌, ap, sym, subst, refl, ℕ, ◌+◌, ◌≤◌, true, false, List, [], ◌++◌, length, take, Some, slice_get, IsTrue, arith}
use Rattle.std.specs.List.{All}
use Rattle.std.proofs.lemmas.List.{take-append-le, length-append}
use Rattle.std.proofs.Math.Seq.{take-append_seam}
use Rattle.dn_base.specs.declared.device.TableEvent.{TableEvent}
use Rattle.dn_net.specs.declared.node.Name.{Name}
use Rattle.dn_net.specs.declared.node.NodeDecl.{NodeDecl}
use Rattle.dn_net.specs.Chain.{Member}
use Rattle.dn_net.specs.Decode.{is_agent_at}
use Rattle.dn_net.specs.Names.{is_ascending, resolved_names}
use Rattle.dn_net.proofs.Ascending.{sorted_ascending}
use Rattle.dn_kind.specs.Kind.{IsLawful, Meaning}
use Rattle.dn_kind.specs.Tables.{Held, ResolvesUnder, allowing, record_held}
use Rattle.dn_kind.specs.Units.{IsLegalWith}
use Rattle.dn_kind.proofs.Sets.{ascending_same}
use Rattle.dn_kind.proofs.Ways.{allowing_more, more_records_keep_names}
use Rattle.dn_book.specs.declared.grant.Grant.{Grant as GrantPart}
use Rattle.dn_book.specs.Book.{Owes, granted_names, owed_names, records_of}
use Rattle.dn_book.specs.Events.{after_events, held_at}
use Rattle.dn_book.specs.Tables.{tables_of}
use Rattle.dn_book.proofs.Going.{going_front}
use Rattle.dn_book.proofs.Owed.{owed_names_are_owed}
use Rattle.dn_flight.specs.declared.event.Event.{Event}
use Rattle.dn_flight.specs.declared.event.Event.TheVariants.{Begin}
use Rattle.dn_flight.specs.declared.lookup.LookState.TheVariants.{Ended}
use Rattle.dn_flight.specs.declared.lookup.Lookup.{Lookup}
use Rattle.dn_flight.specs.Fences.{IsFenced}
use Rattle.dn_flight.specs.Flight.{first_name}
use Rattle.dn_flight.specs.Flown.{HasFlown}
use Rattle.dn_flight.specs.Schedules.{IsSchedule, moment, world_after}
use Rattle.dn_flight.proofs.Flown.{lookups_have_flown}
use Rattle.dn_flight.proofs.Going.{going_is_fenced}
use Rattle.dn_flight.proofs.Schedules.{may_come, moment_within}
use Rattle.dn_script.specs.Flown.{IsGivenOwed, books_at, first_world}
use Rattle.dn_script.specs.Turn.{Turn, events_of, start}
use Rattle.dn_script.proofs.Books.{empty_kept}
use Rattle.dn_script.proofs.Moments.{IsBracketed, TurnsGoOn, bracketed, going}

le_then : (a b c : ℕ) → a ≤ b → b ≤ c → a ≤ c
le_then a b c p q = omega arith

module _ (kinds : List Meaning) (net : List NodeDecl) (lawful : All IsLawful kinds) (legal : IsLegalWith kinds net) (turns : List Turn) (go : TurnsGoOn kinds net start turns) (log rest : List TableEvent) (front : log ++ rest ≡ events_of turns) (events : List Event) (s : IsSchedule net kinds (first_world kinds net) log events) where
  abbrev first : List (List ℕ)
  first = tables_of net kinds []

  fenced : IsFenced net kinds first log
  fenced =
      let all = going kinds net start turns go in
      let part = going_front net kinds first false all.0 (length log) (events_of turns) all.1 in
      let same : take (length log) (events_of turns) ≡ log = ap (take (length log)) (sym front) ∙ take-append_seam log rest in
      subst (IsFenced net kinds first) same (going_is_fenced net kinds first (take (length log) (events_of turns)) false part.0 part.1)

  -- the records at a moment of the log lie between those of books of which it speaks
  at_moment : (d : ℕ) → d ≤ length log → IsBracketed net (held_at net kinds first log d) (books_at [] turns d)
  at_moment d l =
      let size : length (events_of turns) ≡ length log + length rest = ap length (sym front) ∙ length-append log rest in
      subst (λ (h : Held). IsBracketed net h (books_at [] turns d)) same (bracketed kinds net lawful legal start turns (empty_kept net legal.legal) go d (omega (arith, l, size)))
    where
      same : ◌≡◌ {A = Held} (held_at net kinds first (events_of turns) d) (held_at net kinds first log d)
      same = ap (λ es. record_held net kinds (after_events es first)) (ap (take d) (sym front) ∙ take-append-le d log rest l)

  within : (k : ℕ) → moment events k ≤ length log
  within k = moment_within log events k s.logged

  pub given_owed : (n : ℕ) (l : Lookup) (names : List Name) → slice_get (world_after net kinds (first_world kinds net) events).lookups n ≡ Some l → l.state ≡ Ended names → IsGivenOwed kinds net turns log events n l names
  given_owed n l names there is = record {
    flown = f;
    book = peak.high;
    speaks = peak.has_high;
    given = given;
    exact = exact;
  }
    where
      x : Name
      x = first_name l.agent l.start

      f : HasFlown net kinds (first_world kinds net) log events n l names
      f = lookups_have_flown net kinds (first_world kinds net) log events legal.legal lawful refl fenced s n l names there is

      peak : IsBracketed net (held_at net kinds first log f.peak) (books_at [] turns f.peak)
      peak = at_moment f.peak (le_then f.peak (moment events f.after) (length log) f.to (within f.after))

      begin : IsBracketed net (held_at net kinds first log (moment events f.before)) (books_at [] turns (moment events f.before))
      begin = at_moment (moment events f.before) (within f.before)

      finish : IsBracketed net (held_at net kinds first log (moment events f.after)) (books_at [] turns (moment events f.after))
      finish = at_moment (moment events f.after) (within f.after)

      -- it began at an agent
      agent : IsTrue (is_agent_at (slice_get net x.node))
      agent = may_come net kinds (first_world kinds net) events f.before (Begin l.agent l.start l.access) s.allowed f.is_begin

      -- a book above the records of the peak owes each of the names
      given : (y : Name) → Member y names → Owes net peak.high l.access x y
      given y m =
          (peak.kept_high.faithful l.access x y agent).0
          (more_records_keep_names net (allowing l.access (held_at net kinds first log f.peak)) (allowing l.access (records_of net peak.high))
          (allowing_more (held_at net kinds first log f.peak) (records_of net peak.high) l.access peak.lie.1) x y (f.stood y m))

      -- what a book below records owes these give
      found : (h : Held) (books : List (List GrantPart)) (r : IsBracketed net h books) (y : Name) → Owes net r.low l.access x y → ResolvesUnder net (allowing l.access h) x y
      found h books r y o =
          more_records_keep_names net (allowing l.access (records_of net r.low)) (allowing l.access h)
          (allowing_more (records_of net r.low) h l.access r.lie.0) x y ((r.kept_low.faithful l.access x y agent).1 o)

      exact : (owed : List Name) → ((d : ℕ) (b : List GrantPart) → moment events f.before ≤ d → d ≤ moment events f.after → Member b (books_at [] turns d) → owed_names net b l.access x ≡ owed) → names ≡ owed
      exact owed all = ascending_same names owed f.ascending up (λ y. ((λ m. into y m), (λ m. out y m)))
        where
          in_order : moment events f.before ≤ moment events f.after
          in_order = le_then (moment events f.before) f.peak (moment events f.after) f.from f.to

          up : is_ascending owed ≡ true
          up = subst (λ (ns : List Name). is_ascending ns ≡ true) (all f.peak peak.high f.from f.to peak.has_high)
              (sorted_ascending (resolved_names net x ++ granted_names peak.high l.access x))

          into : (y : Name) → Member y names → Member y owed
          into y m = subst (Member y) (all f.peak peak.high f.from f.to peak.has_high) ((owed_names_are_owed net peak.high l.access x y).1 (given y m))

          owes : (d : ℕ) (b : List GrantPart) → moment events f.before ≤ d → d ≤ moment events f.after → Member b (books_at [] turns d) → (y : Name) → Member y owed → Owes net b l.access x y
          owes d b p q m y o = (owed_names_are_owed net b l.access x y).0 (subst (Member y) (sym (all d b p q m)) o)

          out : (y : Name) → Member y owed → Member y names
          out y o =
              f.found y (found _ _ begin y (owes (moment events f.before) begin.low (omega arith) in_order begin.has_low y o))
              (found _ _ finish y (owes (moment events f.after) finish.low in_order (omega arith) finish.has_low y o))
