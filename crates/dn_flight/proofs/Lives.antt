-- The life of a lookup in a schedule, event by event: it has come by records that stood at moments of its life, and it is on its
-- way to each name to which records lead that stand throughout.
use Rattle.std.proofs.Common.{◌≡◌, ◌≢◌, ◌∙◌, ap, sym, subst, refl, ℕ, zero, suc, ◌<◌, ◌≤◌, ◌⊎◌, inl, inr, Bool, true, false, List, [], ◌∷◌, length, take, Some, slice_get, IsTrue, arith}
use Rattle.std.specs.List.{list_all}
use Rattle.dn_base.specs.declared.device.TableEvent.{TableEvent}
use Rattle.dn_base.specs.declared.device.TableEvent.TheVariants as device
use Rattle.dn_base.proofs.Lists.{item_there}
use Rattle.dn_base.proofs.Members.{member_all, member_at}
use Rattle.dn_net.specs.declared.node.Name.{Name}
use Rattle.dn_net.specs.declared.node.NodeDecl.{NodeDecl}
use Rattle.dn_net.specs.Chain.{IsChain, Reaches}
use Rattle.dn_net.specs.Decode.{is_accepted}
use Rattle.dn_net.specs.Legal.{IsLegalNet}
use Rattle.dn_kind.specs.declared.rights.Access.{Access}
use Rattle.dn_kind.specs.Kind.{Meaning}
use Rattle.dn_kind.specs.Tables.{Extends, Held, StepUnder, allowing, record_held, steps_under}
use Rattle.dn_kind.proofs.Ways.{step_under}
use Rattle.dn_book.specs.Events.{held_at}
use Rattle.dn_flight.specs.declared.event.Event.{Event}
use Rattle.dn_flight.specs.declared.event.Event.TheVariants.{Begin, Fence, Read, Write}
use Rattle.dn_flight.specs.declared.lookup.LookState.{LookState}
use Rattle.dn_flight.specs.declared.lookup.LookState.TheVariants.{At, Ended}
use Rattle.dn_flight.specs.declared.lookup.Lookup.{Lookup}
use Rattle.dn_flight.specs.Fences.{NoFence}
use Rattle.dn_flight.specs.Flight.{begun, first_name, read_by, read_on, stepped}
use Rattle.dn_flight.specs.Lookups.{has_landed, is_flying, is_in_flight}
use Rattle.dn_flight.specs.Schedules.{IsSchedule, MayCome, moment, world_after}
use Rattle.dn_flight.specs.State.{WorldState}
use Rattle.dn_flight.proofs.Schedules.{held_now, last_cases, log_item, may_come, moment_grows, quiet_moment, read_cases, world_next}
use Rattle.dn_flight.proofs.Settled.{Ascends, Came, IsOn, sent_ascends, sent_came, sent_keeps, settle_came, settle_keeps, settled_ascends}

-- a step under the records of some moment from one to another
abbrev pub Sometime : List NodeDecl → (ℕ → Held) → Access → ℕ → ℕ → Name → Name → Type 0
Sometime net held access from to x y = (d : ℕ) × (from ≤ d) × (d ≤ to) × StepUnder net (allowing access (held d)) x y

-- records that stand at each moment from one to another
abbrev pub Throughout : (ℕ → Held) → Access → ℕ → ℕ → Held → Type 0
Throughout held access from to low = (d : ℕ) → from ≤ d → d ≤ to → Extends low (allowing access (held d))

-- where a lookup stands at a moment, that began at another
pub record Stands (net : List NodeDecl) (held : ℕ → Held) (from to : ℕ) (l : Lookup) : Type 0 where
  pub came : Came net (Sometime net held l.access from to) (first_name l.agent l.start) l.state
  pub keeps : (low : Held) → Throughout held l.access from to low → (y : Name) → IsTrue (is_accepted net y) →
      Reaches (StepUnder net low) (first_name l.agent l.start) y → IsOn net low l.state y
  pub ascends : Ascends l.state

came_more : (net : List NodeDecl) (S Q : Name → Name → Type 0) → ((a b : Name) → S a b → Q a b) → (x : Name) (t : LookState) → Came net S x t → Came net Q x t
came_more net S Q f x (At s) c = (c.0, more c.1.0 x s c.1.1)
  where
    more : (k : ℕ) (x y : Name) → IsChain S k x y → Reaches Q x y
    more zero x y c = (zero, c)
    more (suc k) x y c = let r = more k c.0 y c.2 in (suc r.0, (c.0, f x c.0 c.1, r.1))
came_more net S Q f x (Ended names) c = λ y m. (let d = c y m in (d.0, more d.1.0 x y d.1.1))
  where
    more : (k : ℕ) (x y : Name) → IsChain S k x y → Reaches Q x y
    more zero x y c = (zero, c)
    more (suc k) x y c = let r = more k c.0 y c.2 in (suc r.0, (c.0, f x c.0 c.1, r.1))

-- later it stands where it stood
pub stands_later : (net : List NodeDecl) (held : ℕ → Held) (from to to' : ℕ) (l : Lookup) → to ≤ to' → Stands net held from to l → Stands net held from to' l
stands_later net held from to to' l le s = record {
  came = came_more net (Sometime net held l.access from to) (Sometime net held l.access from to') (λ a b t. (t.0, t.1, (let u : t.0 ≤ to = t.2 in omega arith), t.3)) (first_name l.agent l.start) l.state s.came;
  keeps = λ low all y a r. s.keeps low (λ d p q. all d p (omega arith)) y a r;
  ascends = s.ascends;
}

-- a lookup that begins
pub stands_first : (net : List NodeDecl) → IsLegalNet net → (held : ℕ → Held) (now : ℕ) (agent start : ℕ) (access : Access) → Stands net held now now (begun net agent start access)
stands_first net legal held now agent start access = record {
  came = settle_came net (Sometime net held access now now) (λ a b s. (now, (omega arith), (omega arith), step_under net legal.is_net.formed (allowing access (held now)) a b s)) (first_name agent start) (first_name agent start) (zero, refl);
  keeps = λ low all y a r. settle_keeps net legal low (first_name agent start) y a r;
  ascends = settled_ascends net (first_name agent start);
}

-- a lookup that reads
pub stands_read : (net : List NodeDecl) → IsLegalNet net → (held : ℕ → Held) (from now : ℕ) (l : Lookup) → from ≤ now → Stands net held from now l → Stands net held from now (read_on net (held now) l)
stands_read net legal held from now l le s = go l.state s.came (λ low all y a r. s.keeps low all y a r) s.ascends
  where
    x : Name
    x = first_name l.agent l.start

    S : Name → Name → Type 0
    S = Sometime net held l.access from now

    h : Held
    h = allowing l.access (held now)

    go : (t : LookState) → Came net S x t → ((low : Held) → Throughout held l.access from now low → (y : Name) → IsTrue (is_accepted net y) → Reaches (StepUnder net low) x y → IsOn net low t y) → Ascends t → Stands net held from now (record { agent = l.agent; start = l.start; access = l.access; state = read_by net (held now) l.access t })
    go (At z) c k up = record {
      came = sent_came net S (λ a b q. (now, le, (omega arith), step_under net legal.is_net.formed h a b q)) h x z (λ b q. (now, le, (omega arith), q)) c.1;
      keeps = λ low all y a r. sent_keeps net legal low h (all now le (omega arith)) z y c.0 a (k low all y a r);
      ascends = sent_ascends net (steps_under net h z);
    }
    go (Ended names) c k up = record { came = c; keeps = k; ascends = up }

module _ (net : List NodeDecl) (kinds : List Meaning) (legal : IsLegalNet net) (w : WorldState) (empty : w.lookups ≡ []) (log : List TableEvent) (events : List Event) (s : IsSchedule net kinds w log events) where
  abbrev world : ℕ → WorldState
  world m = world_after net kinds w (take m events)

  abbrev held : ℕ → Held
  held d = held_at net kinds w.words log d

  -- a lookup stands so once so many events have come: it was in flight from its begin to this moment
  pub record Leg (m n : ℕ) (l : Lookup) : Type 0 where
    pub before : ℕ
    pub in_order : before < m
    pub is_begin : slice_get events before ≡ Some (Begin l.agent l.start l.access)
    pub is_new : length (world before).lookups ≡ n
    pub flown : (k : ℕ) → before < k → k < m → IsTrue (is_in_flight (slice_get (world k).lookups n))
    pub here : slice_get (world m).lookups n ≡ Some l
    pub from_to : moment events before ≤ moment events m
    pub calm : NoFence log (moment events before) (moment events m)
    pub stands : Stands net held (moment events before) (moment events m) l

  -- it came to where it stands some events ago, and is there still; in flight it has just come there
  pub record Life (m n : ℕ) (l : Lookup) : Type 0 where
    pub after : ℕ
    pub so_far : after ≤ m
    pub leg : Leg after n l
    pub flies : is_flying l.state ≡ true → after ≡ m

  -- one event more in flight
  leg_next : (m n : ℕ) (o l : Lookup) (e : Event) → slice_get events m ≡ Some e → is_flying o.state ≡ true → (g : Leg m n o) → l.agent ≡ o.agent → l.start ≡ o.start → l.access ≡ o.access → slice_get (world (suc m)).lookups n ≡ Some l → NoFence log (moment events m) (moment events (suc m)) → Stands net held (moment events g.before) (moment events (suc m)) l → Leg (suc m) n l
  leg_next m n o l e at flying g agent start access here calm stands = record {
    before = g.before;
    in_order = (let h : g.before < m = g.in_order in omega arith);
    is_begin = g.is_begin ∙ ap (λ a. Some (Begin a o.start o.access)) (sym agent) ∙ ap (λ a. Some (Begin l.agent a o.access)) (sym start) ∙ ap (λ a. Some (Begin l.agent l.start a)) (sym access);
    is_new = g.is_new;
    flown = λ k p q. flown k p (cases k m (omega arith));
    here = here;
    from_to = (let a = g.from_to in let b = moment_grows events m e at in le_then (moment events g.before) (moment events m) (moment events (suc m)) a b);
    calm = λ d p q. calm_by d p q (split d (moment events m));
    stands = stands;
  }
    where
      le_then : (a b c : ℕ) → a ≤ b → b ≤ c → a ≤ c
      le_then a b c p q = omega arith

      cases : (k m : ℕ) → k ≤ m → (k < m) ⊎ (k ≡ m)
      cases k m l = grind arith

      split : (d m : ℕ) → (d < m) ⊎ (m ≤ d)
      split d m = grind arith

      flown : (k : ℕ) → g.before < k → (k < m) ⊎ (k ≡ m) → IsTrue (is_in_flight (slice_get (world k).lookups n))
      flown k p (inl q) = g.flown k p q
      flown k p (inr q) = subst (λ i. IsTrue (is_in_flight (slice_get (world i).lookups n))) (sym q) (subst (λ t. IsTrue (is_in_flight t)) (sym g.here) flying)

      calm_by : (d : ℕ) → moment events g.before ≤ d → d < moment events (suc m) → (d < moment events m) ⊎ (moment events m ≤ d) → slice_get log d ≢ Some device.Fence
      calm_by d p q (inl a) = g.calm d p a
      calm_by d p q (inr b) = calm d b q

  -- a lookup that an event leaves as it is
  stays : (m n : ℕ) (l : Lookup) (e : Event) → slice_get events m ≡ Some e → slice_get (world (suc m)).lookups n ≡ Some l → (is_flying l.state ≡ true → NoFence log (moment events m) (moment events (suc m))) → Life m n l → Life (suc m) n l
  stays m n l e at here calm life = go (is_flying l.state) refl
    where
      go : (b : Bool) → is_flying l.state ≡ b → Life (suc m) n l
      go false f = record { after = life.after; so_far = (let h : life.after ≤ m = life.so_far in omega arith); leg = life.leg; flies = λ t. (let c : true ≡ false = sym t ∙ f in cc) }
      go true f =
          let g : Leg m n l = subst (λ k. Leg k n l) (life.flies f) life.leg in
          record {
            after = suc m;
            so_far = (omega arith);
            leg = leg_next m n l l e at f g refl refl refl here (calm f) (stands_later net held (moment events g.before) (moment events m) (moment events (suc m)) l (moment_grows events m e at) g.stands);
            flies = λ t. refl;
          }

  none_yet : (xs : List Lookup) (n : ℕ) (l : Lookup) → xs ≡ [] → slice_get xs n ≡ Some l → ⊥
  none_yet [] n l e f = cc
  none_yet (x ∷ xs) n l e f = cc

  no_fence_by : (m : ℕ) (e : Event) → slice_get events m ≡ Some e → moment events (suc m) ≡ moment events m → NoFence log (moment events m) (moment events (suc m))
  no_fence_by m e at same d p q = absurd (nothing (moment events m) (moment events (suc m)) d same p q)
    where
      nothing : (a b d : ℕ) → b ≡ a → a ≤ d → d < b → ⊥
      nothing a b d x y z = omega arith

  -- a lookup that has just begun
  fresh : (m n : ℕ) (agent start : ℕ) (access : Access) → slice_get events m ≡ Some (Begin agent start access) → length (world m).lookups ≡ n → slice_get (world (suc m)).lookups n ≡ Some (begun net agent start access) → Life (suc m) n (begun net agent start access)
  fresh m n agent start access at number here = record {
    after = suc m;
    so_far = (omega arith);
    leg = record {
      before = m;
      in_order = (omega arith);
      is_begin = at;
      is_new = number;
      flown = λ k p q. absurd (omega arith);
      here = here;
      from_to = moment_grows events m (Begin agent start access) at;
      calm = no_fence_by m (Begin agent start access) at (quiet_moment events m (Begin agent start access) at refl);
      stands = stands_later net held (moment events m) (moment events m) (moment events (suc m)) (begun net agent start access) (moment_grows events m (Begin agent start access) at) (stands_first net legal held (moment events m) agent start access);
    };
    flies = λ t. refl;
  }

  -- a lookup that has just read
  reading : (m n j : ℕ) (o l : Lookup) → slice_get events m ≡ Some (Read j) → IsTrue (is_in_flight (slice_get (world m).lookups n)) → slice_get (world m).lookups n ≡ Some o → read_on net (record_held net kinds (world m).words) o ≡ l → slice_get (world (suc m)).lookups n ≡ Some l → Life m n o → Life (suc m) n l
  reading m n j o l at flying there is here life = record {
    after = suc m;
    so_far = (omega arith);
    leg = leg_next m n o l (Read j) at flies g (sym (ap (λ (k : Lookup). k.agent) is)) (sym (ap (λ (k : Lookup). k.start) is)) (sym (ap (λ (k : Lookup). k.access) is)) here
        (no_fence_by m (Read j) at (quiet_moment events m (Read j) at refl))
        (stands_later net held (moment events g.before) (moment events m) (moment events (suc m)) l (moment_grows events m (Read j) at) now);
    flies = λ t. refl;
  }
    where
      flies : is_flying o.state ≡ true
      flies = subst (λ t. IsTrue (is_in_flight t)) there flying

      g : Leg m n o
      g = subst (λ k. Leg k n o) (life.flies flies) life.leg

      now : Stands net held (moment events g.before) (moment events m) l
      now = subst (λ k. Stands net held (moment events g.before) (moment events m) k)
          (ap (λ h. read_on net h o) (sym (held_now net kinds w log events m s.logged)) ∙ is)
          (stands_read net legal held (moment events g.before) (moment events m) o g.from_to g.stands)

  -- a write is no fence
  written : (m unit word value : ℕ) → slice_get events m ≡ Some (Write unit word value) → NoFence log (moment events m) (moment events (suc m))
  written m unit word value at d p q f = other (ap (slice_get log) (one (moment events m) (moment events (suc m)) d i.1 p q) ∙ i.0)
    where
      i : (slice_get log (moment events m) ≡ Some (device.Write unit word value)) × (moment events (suc m) ≡ suc (moment events m))
      i = log_item log events m (Write unit word value) (device.Write unit word value) s.logged at refl

      one : (a b d : ℕ) → b ≡ suc a → a ≤ d → d < b → d ≡ a
      one a b d x y z = omega arith

      other : slice_get log d ≡ Some (device.Write unit word value) → ⊥
      other e = let c : Some device.Fence ≡ Some (device.Write unit word value) = sym f ∙ e in cc

  not_both : (t : LookState) → has_landed t ≡ true → is_flying t ≡ true → ⊥
  not_both (At x) h f = cc
  not_both (Ended names) h f = cc

  -- at a fence no lookup is in flight
  landed : (m n : ℕ) (l : Lookup) → IsTrue (list_all (λ k. has_landed k.state) (world m).lookups) → slice_get (world m).lookups n ≡ Some l → is_flying l.state ≡ true → NoFence log (moment events m) (moment events (suc m))
  landed m n l all there flying = absurd (not_both l.state (member_all (λ (k : Lookup). has_landed k.state) (world m).lookups l all (member_at (world m).lookups n l there)) flying)

  -- one event more
  next : (m n : ℕ) (l : Lookup) → ((n : ℕ) (o : Lookup) → slice_get (world m).lookups n ≡ Some o → Life m n o) → slice_get (world (suc m)).lookups n ≡ Some l → (x : Event) → slice_get events m ≡ Some x → MayCome net (world m) x → (world (suc m)).lookups ≡ (stepped net kinds x (world m)).lookups → Life (suc m) n l
  next m n l old here (Begin agent start access) at may is = elim (last_cases (world m).lookups (begun net agent start access) l n (subst (λ ls. slice_get ls n ≡ Some l) is here)) [
    | inl f ↦ stays m n l (Begin agent start access) at here (λ t. no_fence_by m (Begin agent start access) at (quiet_moment events m (Begin agent start access) at refl)) (old n l f)
    | inr f ↦ subst (λ o. Life (suc m) n o) f.1 (fresh m n agent start access at (sym f.0) (here ∙ ap (λ (o : Lookup). Some o) (sym f.1)))
  ]
  next m n l old here (Read j) at may is = elim (read_cases net (record_held net kinds (world m).words) (world m).lookups j n l (subst (λ ls. slice_get ls n ≡ Some l) is here)) [
    | inl f ↦ stays m n l (Read j) at here (λ t. no_fence_by m (Read j) at (quiet_moment events m (Read j) at refl)) (old n l f)
    | inr f ↦ reading m n j f.1.0 l at (subst (λ i. IsTrue (is_in_flight (slice_get (world m).lookups i))) (sym f.0) may) f.1.1 f.1.2 here (old n f.1.0 f.1.1)
  ]
  next m n l old here (Write unit word value) at may is = stays m n l (Write unit word value) at here (λ t. written m unit word value at) (old n l (subst (λ ls. slice_get ls n ≡ Some l) is here))
  next m n l old here Fence at may is = stays m n l Fence at here (λ t. landed m n l may (subst (λ ls. slice_get ls n ≡ Some l) is here) t) (old n l (subst (λ ls. slice_get ls n ≡ Some l) is here))

  pub life : (m : ℕ) → m ≤ length events → (n : ℕ) (l : Lookup) → slice_get (world m).lookups n ≡ Some l → Life m n l
  life zero le n l here = absurd (none_yet w.lookups n l empty here)
  life (suc m) le n l here =
      let e : (x : Event) × (slice_get events m ≡ Some x) = item_there events m (omega arith) in
      next m n l (λ k o there. life m (omega arith) k o there) here e.0 e.1 (may_come net kinds w events m e.0 s.allowed e.1) (ap (λ (v : WorldState). v.lookups) (world_next net kinds w events m e.0 e.1))
