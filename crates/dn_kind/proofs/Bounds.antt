-- Under records that its units can hold, a legal net has no chain of more than 259 steps.
use Rattle.std.proofs.Common.{◌≡◌, ℕ, zero, suc, ◌+◌, ◌-◌, ◌*◌, ◌/◌, ◌%◌, ◌^◌, ◌<◌, ◌≤◌, ◌⊎◌, inl, inr, Bool, true, false, if◌then◌else◌, ◌&&◌, nat_le, nat_lt, List, [], ◌∷◌, length, slice_get, Option, Some, None, IsSome, IsTrue, refl, sym, ap, ◌∙◌, subst, arith, leb-true, ltb-true, pow_pos, pow-add, mod-lt, mul-le-mul_right, suc-mul}
use Rattle.std.proofs.lemmas.Bool.{and_parts}
use Rattle.dn_base.proofs.Members.{member_at}
use Rattle.dn_base.proofs.Orders.{cases_lt}
use Rattle.dn_net.specs.declared.node.Name.{Name}
use Rattle.dn_net.specs.declared.node.NodeDecl.{NodeDecl}
use Rattle.dn_net.specs.declared.node.Unit.{Unit as UnitPart}
use Rattle.dn_net.specs.Chain.{Member, IsChain}
use Rattle.dn_net.specs.Decode.{top, is_stop, is_stop_at, unit_at, step_limit, Step}
use Rattle.dn_net.specs.Legal.{IsLegalNet}
use Rattle.dn_net.specs.Units.{has_plain_shape}
use Rattle.dn_net.specs.UnitRules.{LeadsOn, LeadsTo, IsUnitRow}
use Rattle.dn_net.proofs.Chains.{chain_front}
use Rattle.dn_net.proofs.Plain.{plain_at}
use Rattle.dn_kind.specs.declared.unit_kind.Record.{Record}
use Rattle.dn_kind.specs.Kind.{is_within}
use Rattle.dn_kind.specs.Tables.{Held, name_at_port, output, steps_by_unit, StepUnder, step_limit_under, IsHeld, AreHeld, ReachUnderIsWithin}
use Rattle.dn_kind.specs.Units.{unit_shape}

steps_are : step_limit ≡ 65
unfolding step_limit
steps_are = refl

-- an output is below the reach
pub low_output : (p a page reach : ℕ) → p < 2 ^ (reach - page) → page ≤ reach → p * 2 ^ page + a % 2 ^ page < 2 ^ reach
low_output p a page reach l le =
    let m : a % 2 ^ page < 2 ^ page = mod-lt a (pow_pos page) in
    let b : suc p * 2 ^ page ≤ 2 ^ (reach - page) * 2 ^ page = mul-le-mul_right (2 ^ page) l in
    let c : 2 ^ (reach - page) * 2 ^ page ≡ 2 ^ (reach - page + page) = sym (pow-add 2 (reach - page) page) in
    let e : reach - page + page ≡ reach = omega arith in
    let f : 2 ^ (reach - page + page) ≡ 2 ^ reach = ap (λ n. 2 ^ n) e in
    let g : suc p * 2 ^ page ≡ p * 2 ^ page + 2 ^ page = suc-mul p (2 ^ page) in
    omega arith

-- a plain shape has a page of at most its reach
page_below : (a b c d e f g : Bool) → (a && b && c && d && e && f && g) ≡ true → d ≡ true
page_below false b c d e f g h = cc
page_below true false c d e f g h = cc
page_below true true false d e f g h = cc
page_below true true true false e f g h = cc
page_below true true true true e f g h = refl

pub low_page : (u : UnitPart) → IsTrue (has_plain_shape u) → u.page ≤ u.reach
low_page u h = leb-true u.page u.reach (page_below (nat_le u.page 40) (nat_le 1 u.slots) (nat_le u.slots 262144) (nat_le u.page u.reach) (nat_le u.reach 56) (nat_le 1 (length u.ports)) (nat_le (length u.ports) 8) h)

-- a step in a unit: to a port of it, below its reach
pub record Led (net : List NodeDecl) (x z : Name) (u : UnitPart) : Type 0 where
  pub port : ℕ
  pub has_port : Member port u.ports
  pub addr : ℕ
  pub below : addr < 2 ^ u.reach
  pub to : ◌≡◌ {A = Name} (record { node = port; addr = addr }) z
  pub stop : IsTrue (is_stop net x)

-- the unit leads on to another where the net leads the name behind the step into it
pub leads_by : (net : List NodeDecl) (x z t : Name) (u : UnitPart) (n : ℕ) → unit_at net x.node ≡ Some u → Led net x z u → IsChain (Step net) n z t → IsTrue (is_stop net t) → LeadsTo net x.node t.node
leads_by net x z t u n at l chain stop = record {
  part = u;
  port = l.port;
  addr = l.addr;
  stop = t;
  is_part = at;
  has_port = l.has_port;
  below = l.below;
  reaches = (n, subst (λ y. IsChain (Step net) n y t) (sym l.to) chain);
  is_stop = stop;
  is_end = refl;
}

module _ (net : List NodeDecl) (legal : IsLegalNet net) (h : Held) (held : AreHeld net h) where
  -- of a record that the unit can hold
  low_record : (x : Name) (u : UnitPart) (r : Record) → unit_at net x.node ≡ Some u → h x.node (x.addr / 2 ^ u.page) ≡ Some r → r.page < 2 ^ (u.reach - u.page)
  low_record x u r at e =
      let k : IsHeld net x.node (x.addr / 2 ^ u.page) r = held x.node (x.addr / 2 ^ u.page) r e in
      let same : k.unit.0 ≡ u = (let f : Some k.unit.0 ≡ Some u = sym k.unit.1 ∙ at in cc) in
      let w : IsTrue (is_within (unit_shape u) r) = subst (λ (p : UnitPart). IsTrue (is_within (unit_shape p) r)) same k.unit.3 in
      ltb-true r.page (2 ^ (u.reach - u.page)) (and_parts (nat_lt r.port (length u.ports)) (nat_lt r.page (2 ^ (u.reach - u.page))) w).1

  pub led : (x z : Name) (u : UnitPart) → unit_at net x.node ≡ Some u → Member z (steps_by_unit net h x (Some u)) → Led net x z u
  led x z u at m = by (nat_le x.addr top) refl (h x.node (x.addr / 2 ^ u.page)) refl m
    where
      out : (r : Record) → h x.node (x.addr / 2 ^ u.page) ≡ Some r → IsTrue (nat_le x.addr top) → (p : Option ℕ) → slice_get u.ports r.port ≡ p → Member z (name_at_port p (r.page * 2 ^ u.page + x.addr % 2 ^ u.page)) → Led net x z u
      out r e t None f n = absurd n
      out r e t (Some p) f (inr n) = absurd n
      out r e t (Some p) f (inl s) = record {
        port = p;
        has_port = member_at u.ports r.port p f;
        addr = r.page * 2 ^ u.page + x.addr % 2 ^ u.page;
        below = low_output r.page x.addr u.page u.reach (low_record x u r at e) (low_page u (plain_at net x.node u legal.shapes at));
        to = s;
        stop = subst (λ o. IsTrue (is_stop_at x.addr o)) (sym at) t;
      }

      by : (b : Bool) → nat_le x.addr top ≡ b → (o : Option Record) → h x.node (x.addr / 2 ^ u.page) ≡ o → Member z (if b then output u o x.addr else []) → Led net x z u
      by false t o e n = absurd n
      by true t None e n = absurd n
      by true t (Some r) e n = out r e t (slice_get u.ports r.port) refl n

  -- where a row of units begins, so many steps of the net from a name
  abbrev Begins : Name → List ℕ → ℕ → Type 0
  Begins x [] n = (z : Name) × IsChain (Step net) n x z
  Begins x (u ∷ us) n = (s : Name) × IsChain (Step net) n x s × IsTrue (is_stop net s) × (s.node ≡ u)

  -- the units that a chain passes, and how long it is
  record Passed (k : ℕ) (x : Name) : Type 0 where
    units : List ℕ
    row : IsUnitRow net units
    first : ℕ
    begins : Begins x units first
    long : k ≤ first + 65 * length units

  -- fewer steps of the net than 65
  short : (n : ℕ) (x y : Name) → IsChain (Step net) n x y → n ≤ 64
  short n x y c = by (cases_lt n step_limit)
    where
      by : (n < step_limit) ⊎ (step_limit ≤ n) → n ≤ 64
      by (inl l) = let e = steps_are in omega arith
      by (inr l) = let f = chain_front (Step net) step_limit n x y l c in absurd (legal.walks.shallow x f.0 f.1)

  first_short : (x : Name) (us : List ℕ) (n : ℕ) → Begins x us n → n ≤ 64
  first_short x [] n b = short n x b.0 b.1
  first_short x (u ∷ us) n b = short n x b.0 b.1

  later : (x z : Name) (us : List ℕ) (n : ℕ) → Step net x z → Begins z us n → Begins x us (suc n)
  later x z [] n s b = (b.0, (z, s, b.1))
  later x z (u ∷ us) n s b = (b.0, (z, s, b.1), b.2, b.3)

  leads_on : (x z : Name) (u : UnitPart) (us : List ℕ) (n : ℕ) → unit_at net x.node ≡ Some u → Led net x z u → Begins z us n → LeadsOn net x.node us
  leads_on x z u [] n at l b = tt
  leads_on x z u (w ∷ ws) n at l b = subst (λ (v : ℕ). LeadsTo net x.node v) b.3 (leads_by net x z b.0 u n at l b.1 b.2)

  passed : (k : ℕ) (x y : Name) → IsChain (StepUnder net h) k x y → Passed k x
  passed zero x y c = record { units = []; row = tt; first = 0; begins = (x, refl); long = (omega arith) }
  passed (suc k) x y c = by (unit_at net x.node) refl c.1 (passed k c.0 y c.2)
    where
      by : (o : Option UnitPart) → unit_at net x.node ≡ o → Member c.0 (steps_by_unit net h x o) → Passed k c.0 → Passed (suc k) x
      by None at m p = let l = p.long in record { units = p.units; row = p.row; first = suc p.first; begins = later x c.0 p.units p.first m p.begins; long = (omega arith) }
      by (Some u) at m p =
          let l = led x c.0 u at m in
          let f = first_short c.0 p.units p.first p.begins in
          let g = p.long in
          record {
            units = x.node ∷ p.units;
            row = (subst (λ o. IsSome o) (sym at) refl, leads_on x c.0 u p.units p.first at l p.begins, p.row);
            first = 0;
            begins = (x, refl, l.stop, refl);
            long = omega arith;
          }

  bounded : (k : ℕ) (x y : Name) → IsChain (StepUnder net h) k x y → k ≤ 259
  bounded k x y c =
      let p = passed k x y c in
      let f = first_short x p.units p.first p.begins in
      let s = legal.units.rows.short p.units p.row in
      let l = p.long in
      omega arith

pub reach_under_is_within : ReachUnderIsWithin
unfolding step_limit_under
reach_under_is_within net h legal held x y r = (r.0, bounded net legal h held r.0 x y r.1, r.1)
