-- Chains under records, and where the records of a grant's hops lead.
use Rattle.std.proofs.Common.{◌≡◌, ℕ, zero, suc, ◌+◌, ◌-◌, ◌*◌, ◌/◌, ◌%◌, ◌^◌, ◌<◌, ◌≤◌, inl, inr, Bool, true, false, if◌then◌else◌, nat_le, List, [], ◌∷◌, ◌++◌, slice_get, Option, Some, None, IsTrue, refl, sym, ap, ◌∙◌, subst, arith, append_assoc, zero-add, suc-add, pow_pos, add-mul, div-add-mod'}
use Rattle.std.proofs.Math.Nat.{le-div_iff_mul-le}
use Rattle.std.proofs.lemmas.Option.{same_Some}
use Rattle.dn_net.specs.declared.node.Name.{Name}
use Rattle.dn_net.specs.declared.node.NodeDecl.{NodeDecl}
use Rattle.dn_net.specs.declared.node.Unit.{Unit as UnitPart}
use Rattle.dn_net.specs.Chain.{IsChain, Member, Reaches}
use Rattle.dn_net.specs.Decode.{Step, is_accepted, is_stop, is_stop_at, top, unit_at}
use Rattle.dn_net.specs.Legal.{IsLegalNet}
use Rattle.dn_net.proofs.Chains.{chain_join, chain_more}
use Rattle.dn_kind.specs.declared.rights.Access.{Access}
use Rattle.dn_kind.specs.declared.unit_kind.Record.{Record}
use Rattle.dn_kind.specs.Rights.{allows}
use Rattle.dn_kind.specs.Tables.{AreHeld, Extends, Held, ResolvesUnder, StepUnder, allowing, name_at_port, output, record_allowing, steps_by_unit}
use Rattle.dn_kind.specs.Ways.{PassesIn, Slot, slot_in}
use Rattle.dn_kind.proofs.Bounds.{reach_under_is_within}
use Rattle.dn_kind.proofs.Ways.{step_under, step_more}
use Rattle.dn_tables.specs.declared.placement.Hop.{Hop}
use Rattle.dn_placement.specs.declared.request.Request.{Request}
use Rattle.dn_placement.specs.Placement.{Leads, Meets, name_on}
use Rattle.dn_placement.specs.Slots.{Slots}

-- CHAINS

pub chain_under : (net : List NodeDecl) → IsLegalNet net → (h : Held) (k : ℕ) (x y : Name) → IsChain (Step net) k x y → IsChain (StepUnder net h) k x y
chain_under net legal h k x y c = chain_more (Step net) (StepUnder net h) (step_under net legal.is_net.formed h) k x y c

-- what is reached and accepted is resolved
pub resolves : (net : List NodeDecl) → IsLegalNet net → (h : Held) → AreHeld net h → (x y : Name) → IsTrue (is_accepted net y) → Reaches (StepUnder net h) x y → ResolvesUnder net h x y
resolves net legal h held x y is r = (is, reach_under_is_within net h legal held x y r)

-- what is allowed stands there
pub allowed_there : (h : Held) (access : Access) (n q : ℕ) (t : Record) → allowing access h n q ≡ Some t → h n q ≡ Some t
allowed_there h access n q t e = by (h n q) refl e
  where
    by : (o : Option Record) → h n q ≡ o → record_allowing access o ≡ Some t → h n q ≡ Some t
    by None at e = cc
    by (Some v) at e = by_rights (allows v.rights access) e
      where
        by_rights : (b : Bool) → (if b then Some v else None) ≡ Some t → h n q ≡ Some t
        by_rights true e = at ∙ e
        by_rights false e = cc

-- SLOTS THAT CHAINS PASS

pub passes_more : (net : List NodeDecl) (h h' : Held) → Extends h h' → (k : ℕ) (x y : Name) (row : List Slot) → PassesIn net h k x y row → PassesIn net h' k x y row
passes_more net h h' ex zero x y row p = p
passes_more net h h' ex (suc k) x y row p = (p.0, p.1, step_more net h h' ex x p.0 p.2, p.3, passes_more net h h' ex k p.0 y p.1 p.4)

pub passes_append : (net : List NodeDecl) (h : Held) (j k : ℕ) (x y z : Name) (a b : List Slot) → PassesIn net h j x y a → PassesIn net h k y z b → PassesIn net h (j + k) x z (a ++ b)
passes_append net h zero k x y z a b p q =
    rw zero-add (subst (λ l. PassesIn net h k x z (l ++ b)) (sym p.1) (subst (λ w. PassesIn net h k w z b) (sym p.0) q))
passes_append net h (suc j) k x y z a b p q =
    rw suc-add (p.0, p.1 ++ b, p.2, ap (λ (l : List Slot). l ++ b) p.3 ∙ append_assoc (slot_in x (unit_at net x.node)) p.1 b, passes_append net h j k p.0 y z p.1 b p.4 q)

-- a slot that is passed holds a record
pub passed_held : (net : List NodeDecl) (h : Held) (k : ℕ) (x y : Name) (row : List Slot) (s : Slot) → PassesIn net h k x y row → Member s row → (t : Record) × (h s.unit s.slot ≡ Some t)
passed_held net h zero x y row s p m = absurd (subst (Member s) p.1 m)
passed_held net h (suc k) x y row s p m = by (unit_at net x.node) p.2 (subst (Member s) p.3 m) (λ n. passed_held net h k p.0 y p.1 s p.4 n)
  where
    by : (o : Option UnitPart) → Member p.0 (steps_by_unit net h x o) → Member s (slot_in x o ++ p.1) → (Member s p.1 → (t : Record) × (h s.unit s.slot ≡ Some t)) → (t : Record) × (h s.unit s.slot ≡ Some t)
    by None st n later = later n
    by (Some u) st (inr n) later = later n
    by (Some u) st (inl e) later = go (nat_le x.addr top) (h x.node (x.addr / 2 ^ u.page)) refl st
      where
        go : (b : Bool) (r : Option Record) → h x.node (x.addr / 2 ^ u.page) ≡ r → Member p.0 (if b then output u r x.addr else []) → (t : Record) × (h s.unit s.slot ≡ Some t)
        go false r is n = absurd n
        go true None is n = absurd n
        go true (Some r) is n = (r, subst (λ (w : Slot). h w.unit w.slot ≡ Some r) e is)

-- THE WAY OF A BUFFER THROUGH HOPS

-- the output of the slot of an address
out_at : (p x y i : ℕ) → zero < p → x % p ≡ y % p → (y / p + ((x + i) / p - x / p)) * p + (x + i) % p ≡ y + i
out_at p x y i pos e = go (y / p) ((x + i) / p) (x / p) grows (div-add-mod' y p) (div-add-mod' (x + i) p) (div-add-mod' x p)
  where
    grows : x / p ≤ (x + i) / p
    grows =
        let a : x / p * p ≤ x + i = (let f : x / p * p + x % p ≡ x = div-add-mod' x p in omega arith) in
        (le-div_iff_mul-le pos).1 a

    go : (c d a : ℕ) → a ≤ d → c * p + y % p ≡ y → d * p + (x + i) % p ≡ x + i → a * p + x % p ≡ x → (c + (d - a)) * p + (x + i) % p ≡ y + i
    go c d a l ey ed ex =
        let f : d ≡ a + (d - a) = omega arith in
        let g : d * p ≡ a * p + (d - a) * p = ap (λ n. n * p) f ∙ add-mul a (d - a) p in
        let k : (c + (d - a)) * p ≡ c * p + (d - a) * p = add-mul c (d - a) p in
        omega arith

-- records hold what a hop wants of the slot of an address
abbrev pub HoldsHop : Held → UnitPart → Hop → ℕ → Type 0
HoldsHop h u hop i = (r : Record) × (h hop.unit ((hop.x + i) / 2 ^ u.page) ≡ Some r) × (r.port ≡ hop.port) × (r.page ≡ hop.y / 2 ^ u.page + ((hop.x + i) / 2 ^ u.page - hop.x / 2 ^ u.page))

-- the step through it
hop_step : (net : List NodeDecl) (h : Held) (hop : Hop) (u : UnitPart) (p i : ℕ) → unit_at net hop.unit ≡ Some u → slice_get u.ports hop.port ≡ Some p → hop.x % 2 ^ u.page ≡ hop.y % 2 ^ u.page → HoldsHop h u hop i → IsTrue (is_stop net (name_on hop.unit hop.x i)) → StepUnder net h (name_on hop.unit hop.x i) (name_on p hop.y i)
hop_step net h hop u p i eu ep em held is =
    let s : Name = name_on hop.unit hop.x i in
    let z : Name = name_on p hop.y i in
    let q : ℕ = (hop.x + i) / 2 ^ u.page in
    let low : nat_le (hop.x + i) top ≡ true = subst (λ v. IsTrue (is_stop_at (hop.x + i) v)) eu is in
    let addr : held.0.page * 2 ^ u.page + (hop.x + i) % 2 ^ u.page ≡ hop.y + i = ap (λ n. n * 2 ^ u.page + (hop.x + i) % 2 ^ u.page) held.3 ∙ out_at (2 ^ u.page) hop.x hop.y i (pow_pos u.page) em in
    let port : slice_get u.ports held.0.port ≡ Some p = ap (slice_get u.ports) held.2 ∙ ep in
    let at : Member z (name_at_port (Some p) (held.0.page * 2 ^ u.page + (hop.x + i) % 2 ^ u.page)) = inl (ap (λ a. record { node = p; addr = a }) addr) in
    let out : Member z (output u (Some held.0) (hop.x + i)) = subst (λ o. Member z (name_at_port o (held.0.page * 2 ^ u.page + (hop.x + i) % 2 ^ u.page))) (sym port) at in
    let by_record : Member z (output u (h hop.unit q) (hop.x + i)) = subst (λ r. Member z (output u r (hop.x + i))) (sym held.1) out in
    let by_test : Member z (if nat_le (hop.x + i) top then output u (h hop.unit q) (hop.x + i) else []) = subst (λ b. Member z (if b then output u (h hop.unit q) (hop.x + i) else [])) (sym low) by_record in
    subst (λ o. Member z (steps_by_unit net h s o)) (sym eu) by_test

-- the hops of a placement hold their records for one address of the buffer
abbrev pub AllHold : List NodeDecl → Held → ℕ → List Hop → Type 0
AllHold net h i hops = (j : ℕ) (hop : Hop) (u : UnitPart) → slice_get hops j ≡ Some hop → unit_at net hop.unit ≡ Some u → HoldsHop h u hop i

-- so the address comes to its own of the buffer
pub leads_on : (net : List NodeDecl) → IsLegalNet net → (h : Held) (slots : Slots) (rq : Request) (hops : List Hop) (node addr i : ℕ) → i < rq.size → Meets net rq node addr hops → Leads net slots rq hops → AllHold net h i hops → Reaches (StepUnder net h) (name_on node addr i) (name_on rq.node rq.base i)
leads_on net legal h slots rq [] node addr i l m leads held =
    let r = ((m i l).0 (name_on rq.node rq.base i)).1 refl in
    (r.1.0, chain_under net legal h r.1.0 (name_on node addr i) (name_on rq.node rq.base i) r.1.2)
leads_on net legal h slots rq (hop ∷ hops) node addr i l m leads held =
    let s = m i l in
    let j = leads.0 in
    let before = chain_under net legal h s.1.0 (name_on node addr i) (name_on hop.unit hop.x i) s.1.2 in
    let step = hop_step net h hop j.unit j.fits.node i j.is_unit j.fits.is_port j.fits.agree (held 0 hop j.unit refl j.is_unit) s.0 in
    let rest = leads_on net legal h slots rq hops j.fits.node hop.y i l j.meets leads.1 (λ k g u e f. held (suc k) g u e f) in
    (s.1.0 + suc rest.0, chain_join (StepUnder net h) s.1.0 (suc rest.0) (name_on node addr i) (name_on hop.unit hop.x i) (name_on rq.node rq.base i) before (name_on j.fits.node hop.y i, step, rest.1))

-- the end of a placement is accepted
pub leads_accepted : (net : List NodeDecl) (slots : Slots) (rq : Request) (hops : List Hop) (node addr i : ℕ) → i < rq.size → Meets net rq node addr hops → Leads net slots rq hops → IsTrue (is_accepted net (name_on rq.node rq.base i))
leads_accepted net slots rq [] node addr i l m leads = (((m i l).0 (name_on rq.node rq.base i)).1 refl).0
leads_accepted net slots rq (hop ∷ hops) node addr i l m leads = let j = leads.0 in leads_accepted net slots rq hops j.fits.node hop.y i l j.meets leads.1

-- the way to a hop, and on from it
pub record WayOver (net : List NodeDecl) (h : Held) (x y s : Name) : Type 0 where
  pub before : Reaches (StepUnder net h) x s
  pub after : ℕ
  pub chain : IsChain (StepUnder net h) (suc after) s y

pub way_over : (net : List NodeDecl) → IsLegalNet net → (h : Held) (slots : Slots) (rq : Request) (hops : List Hop) (node addr i : ℕ) → i < rq.size → Meets net rq node addr hops → Leads net slots rq hops → AllHold net h i hops → (j : ℕ) (own : Hop) → slice_get hops j ≡ Some own → WayOver net h (name_on node addr i) (name_on rq.node rq.base i) (name_on own.unit own.x i)
way_over net legal h slots rq [] node addr i l m leads held j own e = cc
way_over net legal h slots rq (hop ∷ hops) node addr i l m leads held zero own e =
    let s = m i l in
    let t = leads.0 in
    let step = hop_step net h hop t.unit t.fits.node i t.is_unit t.fits.is_port t.fits.agree (held 0 hop t.unit refl t.is_unit) s.0 in
    let rest = leads_on net legal h slots rq hops t.fits.node hop.y i l t.meets leads.1 (λ k g u e f. held (suc k) g u e f) in
    subst (λ (w : Hop). WayOver net h (name_on node addr i) (name_on rq.node rq.base i) (name_on w.unit w.x i)) (same_Some hop own e) (record {
      before = (s.1.0, chain_under net legal h s.1.0 (name_on node addr i) (name_on hop.unit hop.x i) s.1.2);
      after = rest.0;
      chain = (name_on t.fits.node hop.y i, step, rest.1);
    })
way_over net legal h slots rq (hop ∷ hops) node addr i l m leads held (suc j) own e =
    let s = m i l in
    let t = leads.0 in
    let first = chain_under net legal h s.1.0 (name_on node addr i) (name_on hop.unit hop.x i) s.1.2 in
    let step = hop_step net h hop t.unit t.fits.node i t.is_unit t.fits.is_port t.fits.agree (held 0 hop t.unit refl t.is_unit) s.0 in
    let r = way_over net legal h slots rq hops t.fits.node hop.y i l t.meets leads.1 (λ k g u e f. held (suc k) g u e f) j own e in
    record {
      before = (s.1.0 + suc r.before.0, chain_join (StepUnder net h) s.1.0 (suc r.before.0) (name_on node addr i) (name_on hop.unit hop.x i) (name_on own.unit own.x i) first (name_on t.fits.node hop.y i, step, r.before.1));
      after = r.after;
      chain = r.chain;
    }
