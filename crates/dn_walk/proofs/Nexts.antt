-- The units to which units lead, as rows tell them, are those of the net.
use Rattle.std.proofs.Common.{◌≡◌, ℕ, zero, ◌+◌, ◌*◌, ◌-◌, ◌^◌, ◌<◌, ◌≤◌, ◌⊎◌, inl, inr, Bool, true, false, if◌then◌else◌, ◌&&◌, ◌||◌, nat_le, nat_lt, ◌==◌, List, [], ◌∷◌, map, filter, length, get_or, Option, Some, None, is_some, IsTrue, refl, sym, ap, ◌∙◌, subst, arith, eqb-true, ltb-true, leb-true}
use Rattle.std.specs.List.{list_any, list_all}
use Rattle.std.proofs.lemmas.Bool.{eq-eqb, lt-ltb, or_cases, or_left, or_right, and_parts, and_from}
use Rattle.std.proofs.lemmas.Nat.{pow_below, pow_pos}
use Rattle.dn_base.proofs.Members.{any_member, member_any, map_member, member_map, member_get_or}
use Rattle.dn_net.specs.declared.node.Name.{Name}
use Rattle.dn_net.specs.declared.node.NodeDecl.{NodeDecl}
use Rattle.dn_net.specs.declared.node.Unit.{Unit as UnitPart}
use Rattle.dn_net.specs.Chain.{Member, Reaches}
use Rattle.dn_net.specs.Decode.{is_closed, unit_at, step_limit, Step}
use Rattle.dn_net.specs.Rules.{KeepsNodeRules}
use Rattle.dn_net.specs.Units.{has_plain_shape, has_plain_units}
use Rattle.dn_net.specs.UnitRules.{unit_leads, unit_part_leads, unit_numbers, next_units, IsShallow, LeadsTo}
use Rattle.dn_net.specs.Walks.{Walk, moved_name, live_walks}
use Rattle.dn_walk.proofs.Arrivals.{Arrives, arrival, departure, first_inside}
use Rattle.dn_net.proofs.Least.{within_from, within_to}
use Rattle.dn_net.proofs.Stops.{unit_stop}
use Rattle.dn_net.proofs.Plain.{plain_at}
use Rattle.dn_walk.proofs.UnitRows.{leads_sound, leads_found, unit_of_number, unit_there}
use Rattle.dn_net.proofs.Steps.{ports_at}
use Rattle.dn_walk.specs.Rows.{BareWalk, bare_walk}
use Rattle.dn_walk.specs.Units.{row_leads, AreLows, leads_by_lows, leads_by_rows, next_units_by, next_by_rows}

-- BY THE LOWEST ADDRESSES
-- two powers of 2
power_rises : (a b : ℕ) → a ≤ b → 2 ^ a ≤ 2 ^ b
power_rises a b l = by (order a b l)
  where
    order : (a b : ℕ) → a ≤ b → (a ≡ b) ⊎ (a < b)
    order a b l = grind arith

    by : (a ≡ b) ⊎ (a < b) → 2 ^ a ≤ 2 ^ b
    by (inl e) = subst (λ n. 2 ^ a ≤ 2 ^ n) e (omega arith)
    by (inr k) = let p = pow_below a b k in omega arith

-- a plain shape has a slot, and a reach of at most 56
plain_parts : (a b c d e f g : Bool) → (a && b && c && d && e && f && g) ≡ true → (b ≡ true) × (e ≡ true)
plain_parts false b c d e f g h = cc
plain_parts true false c d e f g h = cc
plain_parts true true false d e f g h = cc
plain_parts true true true false e f g h = cc
plain_parts true true true true false f g h = cc
plain_parts true true true true true f g h = (refl, refl)

pub plain_facts : (u : UnitPart) → IsTrue (has_plain_shape u) → (1 ≤ u.slots) × (u.reach ≤ 56)
plain_facts u h =
    let p = plain_parts (nat_le u.page 40) (nat_le 1 u.slots) (nat_le u.slots 262144) (nat_le u.page u.reach) (nat_le u.reach 56) (nat_le 1 (length u.ports)) (nat_le (length u.ports) 8) h in
    (leb-true 1 u.slots p.0, leb-true u.reach 56 p.1)

-- a test that is the same at each port
any_same : (p q : ℕ → Bool) (xs : List ℕ) → ((x : ℕ) → Member x xs → p x ≡ q x) → list_any p xs ≡ list_any q xs
any_same p q [] f = refl
any_same p q (x ∷ xs) f = ap (λ b. b || list_any p xs) (f x (inl refl)) ∙ ap (λ b. q x || b) (any_same p q xs (λ z m. f z (inr m)))

all_member : (p : ℕ → Bool) (xs : List ℕ) → IsTrue (list_all p xs) → (x : ℕ) → Member x xs → p x ≡ true
all_member p [] h x m = absurd m
all_member p (y ∷ xs) h x (inl e) = ap p (sym e) ∙ (and_parts (p y) (list_all p xs) h).0
all_member p (y ∷ xs) h x (inr m) = all_member p xs (and_parts (p y) (list_all p xs) h).1 x m

pub lows_lead : (count : ℕ) (rows : List BareWalk) (lows : List ℕ) → AreLows count rows lows → (u : UnitPart) → IsTrue (has_plain_shape u) → IsTrue (list_all (λ p. nat_lt p count) u.ports) → (w : ℕ) → w < count → leads_by_lows count lows u w ≡ leads_by_rows rows u w
lows_lead count rows lows h u plain ports w l = any_same _ _ u.ports each
  where
    each : (p : ℕ) → Member p u.ports → ((p == w) || nat_lt (get_or lows (p * count + w) 0) (2 ^ u.reach)) ≡ ((p == w) || list_any (row_leads p w (2 ^ u.reach)) rows)
    each p m = ap (λ b. (p == w) || b) (h.lower p w (2 ^ u.reach) (ltb-true p count (all_member (λ p. nat_lt p count) u.ports ports p m)) l (power_rises u.reach 56 (plain_facts u plain).1))

filter_same : (p q : ℕ → Bool) (xs : List ℕ) → ((x : ℕ) → Member x xs → p x ≡ q x) → filter p xs ≡ filter q xs
filter_same p q [] f = refl
filter_same p q (x ∷ xs) f = ap (λ b. if b then x ∷ filter p xs else filter p xs) (f x (inl refl)) ∙ ap (λ l. if q x then x ∷ l else l) (filter_same p q xs (λ z m. f z (inr m)))

filter_none : (p : ℕ → Bool) (xs : List ℕ) → ((x : ℕ) → Member x xs → p x ≡ false) → filter p xs ≡ []
filter_none p [] f = refl
filter_none p (x ∷ xs) f = ap (λ b. if b then x ∷ filter p xs else filter p xs) (f x (inl refl)) ∙ filter_none p xs (λ z m. f z (inr m))

pub member_at : (xs : List ℕ) (k d : ℕ) → k < length xs → Member (get_or xs k d) xs
member_at xs k d l = member_get_or xs k d l

-- the units are nodes of the net
pub units_below : (net : List NodeDecl) (units : List ℕ) (count : ℕ) → units ≡ unit_numbers net → count ≡ length net → (k d : ℕ) → k < length units → get_or units k d < count
units_below net units count e n k d l =
    let m : Member (get_or units k d) (unit_numbers net) = subst (λ us. Member (get_or units k d) us) e (member_at units k d l) in
    subst (λ c. get_or units k d < c) (sym n) (unit_there net (get_or units k d) (unit_of_number net (get_or units k d) m))

-- so the lowest addresses tell the same units as the rows
pub next_by_lows : (net : List NodeDecl) (rows : List BareWalk) (lows units : List ℕ) (count : ℕ) → count ≡ length net → units ≡ unit_numbers net → IsTrue (has_plain_units net) → IsTrue (is_closed net) → AreLows count rows lows → (u : ℕ) → next_units_by (leads_by_lows count lows) units (unit_at net u) ≡ next_by_rows net rows u
next_by_lows net rows lows units count n e plain closed h u = ap (λ us. next_units_by (leads_by_lows count lows) us (unit_at net u)) e ∙ by (unit_at net u) refl
  where
    by : (o : Option UnitPart) → unit_at net u ≡ o → next_units_by (leads_by_lows count lows) (unit_numbers net) o ≡ next_units_by (leads_by_rows rows) (unit_numbers net) o
    by None at = refl
    by (Some part) at = filter_same (leads_by_lows count lows part) (leads_by_rows rows part) (unit_numbers net) (λ w m.
        lows_lead count rows lows h part (plain_at net u part plain at) (subst (λ c. IsTrue (list_all (λ p. nat_lt p c) part.ports)) (sym n) (ports_at net u part closed at)) w
        (subst (λ c. w < c) (sym n) (unit_there net w (unit_of_number net w m))))

-- BY THE ROWS
module _ (net : List NodeDecl) (checked : KeepsNodeRules net) (shallow : IsShallow net) where
  live : List BareWalk
  live = map bare_walk (live_walks net step_limit)

  -- a row that leads from a port below the unit's reach
  row_led : (u w : ℕ) (part : UnitPart) → unit_at net u ≡ Some part → is_some (unit_at net w) ≡ true → (port : ℕ) → Member port part.ports → (t : BareWalk) → Member t (map bare_walk (live_walks net step_limit)) → row_leads port w (2 ^ part.reach) t ≡ true → LeadsTo net u w
  row_led u w part at unit port m t row h = by (map_member bare_walk (live_walks net step_limit) t row)
    where
      p : ((t.start == port) ≡ true) × (((t.end == w) && nat_lt t.lo (2 ^ part.reach)) ≡ true)
      p = and_parts (t.start == port) ((t.end == w) && nat_lt t.lo (2 ^ part.reach)) h

      q : ((t.end == w) ≡ true) × (nat_lt t.lo (2 ^ part.reach) ≡ true)
      q = and_parts (t.end == w) (nat_lt t.lo (2 ^ part.reach)) p.1

      by : (v : Walk) × Member v (live_walks net step_limit) × (bare_walk v ≡ t) → LeadsTo net u w
      by r =
          let v : Walk = r.0 in
          let o = first_inside net checked v r.1 in
          let d = departure net checked v r.1 v.span.lo (within_from v.span.lo v.span (omega arith) o) in
          let s : Name = moved_name (v.span.lo - v.span.lo) v.to in
          let start : v.start ≡ port = ap (λ (x : BareWalk). x.start) r.2 ∙ eqb-true t.start port p.0 in
          let end : v.to.node ≡ w = ap (λ (x : BareWalk). x.end) r.2 ∙ eqb-true t.end w q.0 in
          let lo : v.span.lo ≡ t.lo = ap (λ (x : BareWalk). x.lo) r.2 in
          let low : t.lo < 2 ^ part.reach = ltb-true t.lo (2 ^ part.reach) q.1 in
          let there : is_some (unit_at net v.to.node) ≡ true = ap (λ n. is_some (unit_at net n)) end ∙ unit in
          let reached : Reaches (Step net) (record { node = port; addr = v.span.lo }) s = subst (λ n. Reaches (Step net) (record { node = n; addr = v.span.lo }) s) start d.0 in
          record { part = part; port = port; addr = v.span.lo; stop = s; is_part = at; has_port = m; below = subst (λ n. n < 2 ^ part.reach) (sym lo) low; reaches = reached; is_stop = unit_stop net s there d.1; is_end = end }

  -- a port that is the other unit
  port_led : (u w : ℕ) (part : UnitPart) → unit_at net u ≡ Some part → is_some (unit_at net w) ≡ true → (port : ℕ) → Member port part.ports → port ≡ w → LeadsTo net u w
  port_led u w part at unit port m e =
      let s : Name = record { node = port; addr = 0 } in
      let there : is_some (unit_at net port) ≡ true = ap (λ n. is_some (unit_at net n)) e ∙ unit in
      record { part = part; port = port; addr = 0; stop = s; is_part = at; has_port = m; below = zero_below part.reach; reaches = (zero, refl); is_stop = unit_stop net s there (omega arith); is_end = e }
    where
      zero_below : (k : ℕ) → 0 < 2 ^ k
      zero_below k = pow_pos k

  -- what the rows tell is so
  told_leads_to : (u w : ℕ) (part : UnitPart) → unit_at net u ≡ Some part → is_some (unit_at net w) ≡ true → leads_by_rows (map bare_walk (live_walks net step_limit)) part w ≡ true → LeadsTo net u w
  told_leads_to u w part at unit h = by (any_member (λ p. (p == w) || list_any (row_leads p w (2 ^ part.reach)) (map bare_walk (live_walks net step_limit))) part.ports h)
    where
      by : (p : ℕ) × Member p part.ports × (((p == w) || list_any (row_leads p w (2 ^ part.reach)) (map bare_walk (live_walks net step_limit))) ≡ true) → LeadsTo net u w
      by r = elim (or_cases (r.0 == w) (list_any (row_leads r.0 w (2 ^ part.reach)) (map bare_walk (live_walks net step_limit))) r.2) [
        | inl e ↦ port_led u w part at unit r.0 r.1 (eqb-true r.0 w e)
        | inr e ↦ (let t = any_member (row_leads r.0 w (2 ^ part.reach)) (map bare_walk (live_walks net step_limit)) e in row_led u w part at unit r.0 r.1 t.0 t.1 t.2)
      ]

  -- and what is so is told
  leads_to_told : (u w : ℕ) (part : UnitPart) → unit_at net u ≡ Some part → LeadsTo net u w → leads_by_rows (map bare_walk (live_walks net step_limit)) part w ≡ true
  leads_to_told u w part at l = member_any (λ p. (p == w) || list_any (row_leads p w (2 ^ part.reach)) rows) part.ports l.port port (by (arrival net checked shallow x l.stop l.reaches))
    where
      rows : List BareWalk
      rows = map bare_walk (live_walks net step_limit)

      x : Name
      x = record { node = l.port; addr = l.addr }

      same : l.part ≡ part
      same = let e : Some l.part ≡ Some part = sym l.is_part ∙ at in cc

      port : Member l.port part.ports
      port = subst (λ (p : UnitPart). Member l.port p.ports) same l.has_port

      below : l.addr < 2 ^ part.reach
      below = subst (λ (p : UnitPart). l.addr < 2 ^ p.reach) same l.below

      by : (x ≡ l.stop) ⊎ ((v : Walk) × Arrives net x l.stop v) → ((l.port == w) || list_any (row_leads l.port w (2 ^ part.reach)) rows) ≡ true
      by (inl e) = or_left (l.port == w) (list_any (row_leads l.port w (2 ^ part.reach)) rows) (eq-eqb l.port w (ap (λ (n : Name). n.node) e ∙ l.is_end))
      by (inr r) =
          let v : Walk = r.0 in
          let a = r.1 in
          let lo : v.span.lo ≤ l.addr = (within_to l.addr v.span a.inside).0 in
          let end : v.to.node ≡ w = ap (λ (n : Name). n.node) a.to ∙ l.is_end in
          let low : v.span.lo < 2 ^ part.reach = omega (arith, below) in
          or_right (l.port == w) (list_any (row_leads l.port w (2 ^ part.reach)) rows)
          (member_any (row_leads l.port w (2 ^ part.reach)) rows (bare_walk v) (member_map bare_walk (live_walks net step_limit) v a.listed)
          (and_from (v.start == l.port) ((v.to.node == w) && nat_lt v.span.lo (2 ^ part.reach)) (eq-eqb v.start l.port a.start)
          (and_from (v.to.node == w) (nat_lt v.span.lo (2 ^ part.reach)) (eq-eqb v.to.node w end) (lt-ltb v.span.lo (2 ^ part.reach) low))))

  both_tests : (a b : Bool) → (a ≡ true → b ≡ true) → (b ≡ true → a ≡ true) → a ≡ b
  both_tests true b f g = sym (f refl)
  both_tests false true f g = g refl
  both_tests false false f g = refl

  told_leads : (u w : ℕ) (part : UnitPart) → unit_at net u ≡ Some part → is_some (unit_at net w) ≡ true → leads_by_rows (map bare_walk (live_walks net step_limit)) part w ≡ unit_leads net u w
  told_leads u w part at unit = both_tests _ _ (λ h. leads_found net shallow u w (told_leads_to u w part at unit h)) (λ h. leads_to_told u w part at (leads_sound net u w h))

  -- so the units that are told are those to which the unit leads
  pub next_is : (rows : List BareWalk) → rows ≡ map bare_walk (live_walks net step_limit) → (u : ℕ) → next_by_rows net rows u ≡ next_units net u
  next_is rows e u = ap (λ rs. next_by_rows net rs u) e ∙ by (unit_at net u) refl
    where
      by : (o : Option UnitPart) → unit_at net u ≡ o → next_units_by (leads_by_rows (map bare_walk (live_walks net step_limit))) (unit_numbers net) o ≡ next_units net u
      by None at = sym (filter_none (unit_leads net u) (unit_numbers net) (λ w m. ap (unit_part_leads net w) at))
      by (Some part) at = filter_same (leads_by_rows (map bare_walk (live_walks net step_limit)) part) (unit_leads net u) (unit_numbers net) (λ w m. told_leads u w part at (unit_of_number net w m))
