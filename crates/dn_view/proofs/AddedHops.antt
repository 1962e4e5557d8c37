-- The records of a placement of one address, hop by hop.
use Rattle.std.proofs.Common.{◌≡◌, ◌∙◌, sym, ap, refl, subst, ℕ, suc, ◌+◌, ◌-◌, ◌/◌, ◌^◌, ◌≤◌, Bool, true, false, if◌then◌else◌, ◌&&◌, nat_eq, nat_le, List, [], ◌∷◌, Option, Some, None, arith, leb-true, eqb-true}
use Rattle.std.proofs.lemmas.Bool.{and_parts, and_from, le-leb, eq-eqb}
use Rattle.dn_net.specs.declared.node.NodeDecl.{NodeDecl}
use Rattle.dn_net.specs.declared.node.Unit.{Unit as UnitPart}
use Rattle.dn_net.specs.Decode.{unit_at}
use Rattle.dn_kind.specs.declared.rights.Rights.{Rights}
use Rattle.dn_kind.specs.declared.unit_kind.Record.{Record}
use Rattle.dn_kind.specs.Tables.{Extends, Held}
use Rattle.dn_tables.specs.declared.placement.Hop.{Hop}
use Rattle.dn_placement.specs.Records.{first_slot, hop_record, hop_record_by, hop_rights, hops_records, is_taken_by, last_slot, or_record, slot_record}

-- the record of the first slot of a hop
abbrev pub record_of : Rights → UnitPart → Hop → Record
record_of rights u hop = record { port = hop.port; page = hop.y / 2 ^ u.page; rights = rights }

-- of one address a hop takes its first slot alone
pub slot_is : (u : UnitPart) (hop : Hop) (q : ℕ) → first_slot u hop ≤ q → q ≤ last_slot u 1 hop →
    q ≡ hop.x / 2 ^ u.page
slot_is u hop q lo hi =
    let e : hop.x + 1 - 1 ≡ hop.x = omega arith in
    let hi' : q ≤ hop.x / 2 ^ u.page = subst (λ m. q ≤ m / 2 ^ u.page) e hi in
    omega arith

pub record_is : (rights : Rights) (u : UnitPart) (hop : Hop) (q : ℕ) → q ≡ hop.x / 2 ^ u.page →
    slot_record u rights hop q ≡ record_of rights u hop
record_is rights u hop q e =
    let z : hop.y / 2 ^ u.page + (q - first_slot u hop) ≡ hop.y / 2 ^ u.page = omega arith in
    ap (λ n. record { port = hop.port; page = n; rights = rights }) z

-- the records of a hop that other records hold stand among those
hop_sub : (net : List NodeDecl) (g : Held) (rights : Rights) (hop : Hop) →
    ((u : UnitPart) → unit_at net hop.unit ≡ Some u →
    g hop.unit (hop.x / 2 ^ u.page) ≡ Some (record_of rights u hop)) →
    (n q : ℕ) (r : Record) → hop_record net 1 rights hop n q ≡ Some r → g n q ≡ Some r
hop_sub net g rights hop holds n q r e = go (unit_at net hop.unit) refl e
  where
    go : (v : Option UnitPart) → unit_at net hop.unit ≡ v → hop_record_by v 1 rights hop n q ≡ Some r → g n q ≡ Some r
    go None is e = cc
    go (Some u) is e = test (nat_eq n hop.unit && is_taken_by u 1 hop q) refl e
      where
        test : (b : Bool) → (nat_eq n hop.unit && is_taken_by u 1 hop q) ≡ b →
            (if b then Some (slot_record u rights hop q) else None) ≡ Some r → g n q ≡ Some r
        test false eb s = cc
        test true eb s =
            let p = and_parts (nat_eq n hop.unit) (is_taken_by u 1 hop q) eb in
            let k = and_parts (nat_le (first_slot u hop) q) (nat_le q (last_slot u 1 hop)) p.1 in
            let en : n ≡ hop.unit = eqb-true n hop.unit p.0 in
            let eq = slot_is u hop q (leb-true _ _ k.0) (leb-true _ _ k.1) in
            ap (λ m. g m q) en ∙ ap (λ m. g hop.unit m) eq ∙ holds u is ∙ ap Some (sym (record_is rights u hop q eq)) ∙ s

-- a hop's own record
hop_own : (net : List NodeDecl) (rights : Rights) (hop : Hop) (u : UnitPart) → unit_at net hop.unit ≡ Some u →
    hop_record net 1 rights hop hop.unit (hop.x / 2 ^ u.page) ≡ Some (record_of rights u hop)
hop_own net rights hop u e =
    let q : ℕ = hop.x / 2 ^ u.page in
    let e1 : hop.x ≡ hop.x + 1 - 1 = omega arith in
    let ea : nat_eq hop.unit hop.unit ≡ true = eq-eqb hop.unit hop.unit refl in
    let eb : nat_le (first_slot u hop) q ≡ true = le-leb q q (omega arith) in
    let ec : nat_le q (last_slot u 1 hop) ≡ true = subst (λ m. nat_le q (m / 2 ^ u.page) ≡ true) e1 (le-leb q q (omega arith)) in
    let all : (nat_eq hop.unit hop.unit && is_taken_by u 1 hop q) ≡ true = and_from (nat_eq hop.unit hop.unit) (is_taken_by u 1 hop q) ea (and_from (nat_le (first_slot u hop) q) (nat_le q (last_slot u 1 hop)) eb ec) in
    ap (λ o. hop_record_by o 1 rights hop hop.unit q) e
    ∙ ap (λ b. if b then Some (slot_record u rights hop q) else None) all
    ∙ ap Some (record_is rights u hop q refl)

-- the hops from a place on hold their records, with the rights of each place
abbrev pub HoldAll : List NodeDecl → Held → Rights → ℕ → ℕ → List Hop → Type 0
HoldAll net g rights own place [] = Unit {0}
HoldAll net g rights own place (hop ∷ hops) =
    ((u : UnitPart) → unit_at net hop.unit ≡ Some u →
    g hop.unit (hop.x / 2 ^ u.page) ≡ Some (record_of (hop_rights rights own place) u hop))
    × HoldAll net g rights own (suc place) hops

-- then the records of these hops stand among them
pub hops_sub : (net : List NodeDecl) (g : Held) (rights : Rights) (own place : ℕ) (hops : List Hop) →
    HoldAll net g rights own place hops → Extends (hops_records net 1 rights own place hops) g
hops_sub net g rights own place [] all n q r e = cc
hops_sub net g rights own place (hop ∷ hops) all n q r e =
    go (hops_sub net g rights own (suc place) hops all.1 n q r) (hop_record net 1 (hop_rights rights own place) hop n q) refl e
  where
    go : (hops_records net 1 rights own (suc place) hops n q ≡ Some r → g n q ≡ Some r) →
        (o : Option Record) → hop_record net 1 (hop_rights rights own place) hop n q ≡ o →
        or_record o (hops_records net 1 rights own (suc place) hops n q) ≡ Some r → g n q ≡ Some r
    go rest None is s = rest s
    go rest (Some t) is s = hop_sub net g (hop_rights rights own place) hop all.0 n q r (is ∙ s)

-- and are all there
pub hops_hold : (net : List NodeDecl) (g : Held) (rights : Rights) (own place : ℕ) (hops : List Hop) →
    HoldAll net g rights own place hops →
    HoldAll net (hops_records net 1 rights own place hops) rights own place hops
hops_hold net g rights own place [] all = tt
hops_hold net g rights own place (hop ∷ hops) all = (
  (λ u e. ap (λ o. or_record o (hops_records net 1 rights own (suc place) hops hop.unit (hop.x / 2 ^ u.page)))
      (hop_own net (hop_rights rights own place) hop u e)),
  wider (suc place) hops (hops_hold net g rights own (suc place) hops all.1),
)
  where
    later : Extends (hops_records net 1 rights own (suc place) hops) (hops_records net 1 rights own place (hop ∷ hops))
    later n q r e = go (hop_record net 1 (hop_rights rights own place) hop n q) refl
      where
        go : (o : Option Record) → hop_record net 1 (hop_rights rights own place) hop n q ≡ o →
            or_record o (hops_records net 1 rights own (suc place) hops n q) ≡ Some r
        go None is = e
        go (Some t) is =
            let a : g n q ≡ Some t = hop_sub net g (hop_rights rights own place) hop all.0 n q t is in
            let b : g n q ≡ Some r = hops_sub net g rights own (suc place) hops all.1 n q r e in
            sym a ∙ b

    wider : (p : ℕ) (ks : List Hop) → HoldAll net (hops_records net 1 rights own (suc place) hops) rights own p ks →
        HoldAll net (hops_records net 1 rights own place (hop ∷ hops)) rights own p ks
    wider p [] a = tt
    wider p (k ∷ ks) a = (
      (λ u e. later k.unit (k.x / 2 ^ u.page) (record_of (hop_rights rights own p) u k) (a.0 u e)),
      wider (suc p) ks a.1,
    )
