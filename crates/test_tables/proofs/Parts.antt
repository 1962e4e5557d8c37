-- A placement of a buffer is one of the buffer's first so many addresses, for any rights.
use Rattle.std.proofs.Common.{ℕ, ◌≤◌, List, [], ◌∷◌, Option, Some, None, IfSome, arith}
use Rattle.std.proofs.Math.Pow.{shr_mono}
use Rattle.dn_net.specs.declared.node.NodeDecl.{NodeDecl}
use Rattle.dn_net.specs.declared.node.Unit.{Unit as UnitPart}
use Rattle.dn_kind.specs.declared.rights.Rights.{Rights}
use Rattle.dn_tables.specs.declared.placement.Hop.{Hop}
use Rattle.dn_tables.specs.Placement.{Place}
use Rattle.dn_placement.specs.declared.request.Request.{Request}
use Rattle.dn_placement.specs.Order.{IsFirst}
use Rattle.dn_placement.specs.Placement.{IsFreeHop, IsPlacement, Joins, Leads, Meets}
use Rattle.dn_placement.specs.Records.{last_slot}
use Rattle.dn_placement.specs.Slots.{Slots}
use Rattle.test_tables.specs.Desk.{part}

-- fewer addresses end in the same slot or before it
last_before : (u : UnitPart) (small size : ℕ) (hop : Hop) → small ≤ size → last_slot u small hop ≤ last_slot u size hop
last_before u small size hop l = shr_mono u.page (omega (arith, l))

meets_part : (net : List NodeDecl) (rq : Request) (size : ℕ) (r : Rights) (node addr : ℕ) (hops : List Hop) → size ≤ rq.size → Meets net rq node addr hops → Meets net (part rq size r) node addr hops
meets_part net rq size r node addr [] l m = λ i k. m i (omega (arith, l, k))
meets_part net rq size r node addr (hop ∷ hops) l m = λ i k. m i (omega (arith, l, k))

joins_part : (net : List NodeDecl) (slots : Slots) (rq : Request) (size : ℕ) (r : Rights) (hop : Hop) (hops : List Hop) → size ≤ rq.size → Joins net slots rq hop hops → Joins net slots (part rq size r) hop hops
joins_part net slots rq size r hop hops l j = record {
  unit = j.unit;
  is_unit = j.is_unit;
  fits = record {
    node = j.fits.node;
    is_port = j.fits.is_port;
    agree = j.fits.agree;
    within = let w = j.fits.within in omega (arith, l, w);
    reached = let w = j.fits.reached in omega (arith, l, w);
  };
  usable = λ slot from to. j.usable slot from (let k = last_before j.unit size rq.size hop l in omega (arith, to, k));
  meets = meets_part net rq size r j.fits.node hop.y hops l j.meets;
}

leads_part : (net : List NodeDecl) (slots : Slots) (rq : Request) (size : ℕ) (r : Rights) (hops : List Hop) → size ≤ rq.size → Leads net slots rq hops → Leads net slots (part rq size r) hops
leads_part net slots rq size r [] l h = h
leads_part net slots rq size r (hop ∷ hops) l h = (joins_part net slots rq size r hop hops l h.0, leads_part net slots rq size r hops l h.1)

free_part : (net : List NodeDecl) (slots : Slots) (rq : Request) (size : ℕ) (r : Rights) (hop : Hop) → size ≤ rq.size → IsFreeHop net slots rq hop → IsFreeHop net slots (part rq size r) hop
free_part net slots rq size r hop l free = λ u is slot from to.
    free u is slot from (let k = last_before u size rq.size hop l in omega (arith, to, k))

pub part_placed : (net : List NodeDecl) (slots : Slots) (rq : Request) (size : ℕ) (r : Rights) (p : Place) → 1 ≤ size → size ≤ rq.size → IsPlacement net slots rq p → IsPlacement net slots (part rq size r) p
part_placed net slots rq size r p some l is = record {
  some = some;
  fits = let f = is.fits in omega (arith, l, f);
  least = is.least;
  most = is.most;
  meets = meets_part net rq size r rq.agent p.v p.hops l is.meets;
  leads = leads_part net slots rq size r p.hops l is.leads;
  own = is.own;
  is_own = is.is_own;
  free = free_part net slots rq size r is.own l is.free;
}

-- a first placement is a placement
pub first_placed : (net : List NodeDecl) (slots : Slots) (rq : Request) (at : Option ℕ) (found : Option Place) → IfSome found (IsFirst net slots rq at) → IfSome found (IsPlacement net slots rq)
first_placed net slots rq at None is = is
first_placed net slots rq at (Some p) is = is.suited.is_placement
