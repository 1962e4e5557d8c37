-- What a lookup has ended with: all its records stood together at one moment, and a name to which its start resolved at both ends of its
-- life it has found.
use Rattle.std.proofs.Common.{◌≡◌, ◌∙◌, ap, sym, subst, refl, ℕ, suc, ◌≤◌, List, length, take, Option, Some, None, slice_get, IsTrue, arith}
use Rattle.std.proofs.Math.Seq.{take-length}
use Rattle.dn_net.specs.declared.node.Name.{Name}
use Rattle.dn_net.specs.declared.node.NodeDecl.{NodeDecl}
use Rattle.dn_net.specs.Chain.{Member, Reaches}
use Rattle.dn_net.specs.Decode.{is_accepted}
use Rattle.dn_net.specs.Legal.{IsLegalNet}
use Rattle.dn_net.proofs.Chains.{chain_more}
use Rattle.dn_kind.specs.declared.unit_kind.Record.{Record}
use Rattle.dn_kind.specs.Tables.{AreHeld, Extends, Held, ResolvesUnder, StepUnder, allowing}
use Rattle.dn_kind.specs.Ways.{PassesIn, Slot}
use Rattle.dn_kind.proofs.Bounds.{reach_under_is_within}
use Rattle.dn_kind.proofs.Held.{held_records_fit}
use Rattle.dn_kind.proofs.Ways.{allowing_held, allowing_more, chain_passes_slots, legal_one_row_of_slots, step_more}
use Rattle.dn_book.specs.Events.{after_events, held_at}
use Rattle.dn_book.proofs.Passed.{HoldAlong, passes_where}
use Rattle.dn_book.proofs.Through.{passed_held, passes_more}
use Rattle.dn_flight.specs.Fences.{RisesThenFalls}
use Rattle.dn_flight.specs.Flight.{first_name}
use Rattle.dn_flight.specs.Flown.{LookupsHaveFlown}
use Rattle.dn_flight.specs.Schedules.{moment, world_after}
use Rattle.dn_flight.proofs.Lives.{Leg, Life, Sometime, life}
use Rattle.dn_flight.proofs.Schedules.{moment_within}
use Rattle.dn_flight.proofs.Settled.{Ascends, Came, IsOn}
use Rattle.dn_flight.proofs.Windows.{peak_over, stands_throughout}

-- the second record, where the first is one
abbrev pub where_some : Option Record → Option Record → Option Record
where_some None o = None
where_some (Some r) o = o

module _ (net : List NodeDecl) (legal : IsLegalNet net) (held : ℕ → Held) (from to : ℕ) (win : RisesThenFalls held from to) (ordered : from ≤ to) where
  -- the records that stand at both ends
  abbrev pub both : Held
  both n q = where_some (held to n q) (held from n q)

  both_parts : (n q : ℕ) (r : Record) → both n q ≡ Some r → (held from n q ≡ Some r) × (held to n q ≡ Some r)
  both_parts n q r e = go (held to n q) refl e
    where
      go : (o : Option Record) → held to n q ≡ o → where_some o (held from n q) ≡ Some r → (held from n q ≡ Some r) × (held to n q ≡ Some r)
      go None at f = let c : None ≡ Some r = f in cc
      go (Some t) at f =
          let a : held win.peak n q ≡ Some r = peak_over held from to win from (omega arith) ordered n q r f in
          let b : held win.peak n q ≡ Some t = peak_over held from to win to ordered (omega arith) n q t at in
          (f, at ∙ sym b ∙ a)

  -- they stand throughout
  pub both_throughout : (d : ℕ) → from ≤ d → d ≤ to → Extends both (held d)
  both_throughout d l g n q r e = let p = both_parts n q r e in stands_throughout held from to win d l g n q r p.0 p.1

  -- what a name resolves to at both ends it reaches by them
  pub both_reach : (x y : Name) → ResolvesUnder net (held from) x y → ResolvesUnder net (held to) x y → Reaches (StepUnder net both) x y
  both_reach x y r s = (r.1.0, (chain_passes_slots net both r.1.0 x y).1 one.0 (passes_where net (held from) both r.1.0 x y one.0 along one.1))
    where
      one : (row : List Slot) × PassesIn net (held from) r.1.0 x y row
      one = (chain_passes_slots net (held from) r.1.0 x y).0 r.1.2

      other : (row : List Slot) × PassesIn net (held to) s.1.0 x y row
      other = (chain_passes_slots net (held to) s.1.0 x y).0 s.1.2

      same : one.0 ≡ other.0
      same = legal_one_row_of_slots net (held win.peak) legal x y y one.0 other.0 r.0 r.0
          (r.1.0, passes_more net (held from) (held win.peak) (peak_over held from to win from (omega arith) ordered) r.1.0 x y one.0 one.1)
          (s.1.0, passes_more net (held to) (held win.peak) (peak_over held from to win to ordered (omega arith)) s.1.0 x y other.0 other.1)

      along : HoldAlong (held from) both one.0
      along t m q e =
          let h = passed_held net (held to) s.1.0 x y other.0 t other.1 (subst (Member t) same m) in
          ap (λ o. where_some o (held from t.unit t.slot)) h.1 ∙ e

  -- what is reached by steps each of which stood at some moment is resolved at the peak
  pub peak_resolves : AreHeld net (held win.peak) → (x y : Name) → IsTrue (is_accepted net y) → Reaches (λ a b. (d : ℕ) × (from ≤ d) × (d ≤ to) × StepUnder net (held d) a b) x y → ResolvesUnder net (held win.peak) x y
  peak_resolves fit x y a r =
      (a, reach_under_is_within net (held win.peak) legal fit x y (r.0, chain_more (λ a b. (d : ℕ) × (from ≤ d) × (d ≤ to) × StepUnder net (held d) a b) (StepUnder net (held win.peak)) (λ u v t. step_more net (held t.0) (held win.peak) (peak_over held from to win t.0 t.1 t.2) u v t.3) r.0 x y r.1))

pub lookups_have_flown : LookupsHaveFlown
lookups_have_flown net kinds w log events legal lawful empty fenced s n l names there is = record {
  before = leg.before;
  after = lf.after;
  in_order = leg.in_order;
  within = lf.so_far;
  is_begin = leg.is_begin;
  is_new = leg.is_new;
  flown = leg.flown;
  landed = leg.here;
  ascending = subst Ascends is leg.stands.ascends;
  peak = win.peak;
  from = win.after;
  to = win.before;
  stood = λ y m. let c = came y m in peak_resolves net legal masked from to win leg.from_to fit (first_name l.agent l.start) y c.0 c.1;
  found = λ y r t. subst (λ k. IsOn net (both net legal masked from to win leg.from_to) k y) is
      (leg.stands.keeps (both net legal masked from to win leg.from_to) (both_throughout net legal masked from to win leg.from_to) y r.0
      (both_reach net legal masked from to win leg.from_to (first_name l.agent l.start) y r t));
}
  where
    lf : Life net kinds legal w empty log events s (length events) n l
    lf = life net kinds legal w empty log events s (length events) (omega arith) n l (ap (λ es. slice_get (world_after net kinds w es).lookups n) (take-length events) ∙ there)

    leg : Leg net kinds legal w empty log events s lf.after n l
    leg = lf.leg

    from : ℕ
    from = moment events leg.before

    to : ℕ
    to = moment events lf.after

    held : ℕ → Held
    held = held_at net kinds w.words log

    masked : ℕ → Held
    masked d = allowing l.access (held d)

    plain : RisesThenFalls held from to
    plain = fenced from to leg.from_to (moment_within log events lf.after s.logged) leg.calm

    win : RisesThenFalls masked from to
    win = record {
      peak = plain.peak;
      after = plain.after;
      before = plain.before;
      rises = λ d p q. allowing_more (held d) (held (suc d)) l.access (plain.rises d p q);
      falls = λ d p q. allowing_more (held (suc d)) (held d) l.access (plain.falls d p q);
    }

    fit : AreHeld net (masked win.peak)
    fit = allowing_held net (held plain.peak) l.access (held_records_fit net kinds (after_events (take plain.peak log) w.words) lawful)

    came : (y : Name) → Member y names → IsTrue (is_accepted net y) × Reaches (Sometime net held l.access from to) (first_name l.agent l.start) y
    came = subst (Came net (Sometime net held l.access from to) (first_name l.agent l.start)) is leg.stands.came
