-- The part of a segment that stands in a slot.
use Rattle.std.proofs.Common.{◌≡◌, ℕ, zero, suc, ◌⊎◌, inl, inr, nat_lt, lt-ltb, ◌+◌, ◌-◌, ◌*◌, ◌/◌, ◌%◌, ◌^◌, ◌<◌, ◌≤◌, max, min, Bool, true, false, ◌&&◌, ◌||◌, nat_le, nat_eq, List, [], ◌∷◌, length, drop, get_or, add-one, slice_get, Option, Some, None, IsTrue, refl, sym, ap, ◌∙◌, arith, pow_pos, leb-true, le-leb, eqb-true, eq-eqb}
use Rattle.std.proofs.Math.Bool.{or-false}
use Rattle.std.proofs.Math.ListN.{drop_of_length-le}
use Rattle.std.proofs.Math.Seq.{drop-cons}
use Rattle.std.proofs.lemmas.Bool.{and_parts, or_parts, false≢true}
use Rattle.std.specs.List.{list_any}
use Rattle.dn_interval.specs.Strands.{rows_give, seg_gives}
use Rattle.dn_flat.specs.Levels.{FlatsView, levels_give, reached_of}
use Rattle.dn_flat.proofs.Shown.{shows_none}
use Rattle.dn_view.specs.declared.part.FlatPart.{FlatPart}
use Rattle.dn_view.specs.declared.part.FlatPart.TheVariants.{Accepts, Stops}
use Rattle.dn_interval.specs.declared.row.End.{End}
use Rattle.dn_interval.specs.declared.row.Row.{Row}
use Rattle.dn_interval.specs.declared.row.Seg.{Seg}
use Rattle.dn_interval.specs.declared.span.TheConstants.{TOP}
use Rattle.dn_interval.specs.Spans.{in_span}
use Rattle.dn_net.specs.declared.node.Name.{Name}
use Rattle.dn_net.specs.declared.node.NodeDecl.{NodeDecl}
use Rattle.dn_net.specs.declared.node.Unit.{Unit as UnitPart}
use Rattle.dn_net.specs.Decode.{unit_at}
use Rattle.dn_kind.specs.declared.unit_kind.Record.{Record}
use Rattle.dn_kind.specs.Kind.{is_plain_unit_shape, is_within}
use Rattle.dn_kind.specs.Tables.{Held, name_at_port, output}
use Rattle.dn_kind.specs.Units.{unit_shape}
use Rattle.dn_kind.proofs.Outputs.{has_pages, output_small, page_is}
use Rattle.dn_flat.specs.Onward.{has_rows}
use Rattle.dn_view.specs.Passes.{part_gives, part_leads, stops_of, in_slot, names_go, outputs, outputs_by, seg_name}
use Rattle.dn_view.proofs.Pages.{pages_ascend, page_start, offset_is, last_offset, page_ends, low, high, IsPartIn, part_in, in_part, of_part, part_names, same_test, true_all, all_true}
use Rattle.dn_walk.proofs.Cutting.{IsFrom, part_is}

pub sent_name : (o : Option ℕ) (a : ℕ) (x : Name) → ◌≡◌ {A = List Name} (x ∷ []) (name_at_port o a) → (o ≡ Some x.node) × (x.addr ≡ a)
sent_name None a x e = cc
sent_name (Some p) a x e = let f : ◌≡◌ {A = Name} x (record { node = p; addr = a }) = cc in (ap (λ (n : Name). Some n.node) (sym f), ap (λ (n : Name). n.addr) f)

-- the part of a segment from one name to another that stands in a slot of a unit, and the name to which the
-- record of the slot sends the first
pub record IsCut (u : UnitPart) (r : Record) (s : Seg) (slot from to : ℕ) (x : Name) : Type 0 where
  pub plain : IsTrue (is_plain_unit_shape (unit_shape u))
  pub within : IsTrue (is_within (unit_shape u) r)
  pub begins : s.base / 2 ^ u.page ≤ slot
  pub ends : slot ≤ (s.base + (s.span.hi - s.span.lo)) / 2 ^ u.page
  pub from_is : from ≡ max s.base (slot * 2 ^ u.page)
  pub to_is : to ≡ min (s.base + (s.span.hi - s.span.lo)) (slot * 2 ^ u.page + (2 ^ u.page - 1))
  pub name_is : x.addr ≡ r.page * 2 ^ u.page + from % 2 ^ u.page

module _ (u : UnitPart) (r : Record) (s : Seg) (slot from to : ℕ) (x : Name) (k : IsCut u r s slot from to x) where
  pub in_part_is : (a : ℕ) → (nat_le (s.span.lo + (from - s.base)) a && nat_le a (s.span.lo + (to - s.base))) ≡ in_slot u.page slot s a
  in_part_is a = same_test (nat_le (s.span.lo + (from - s.base)) a && nat_le a (s.span.lo + (to - s.base))) (in_slot u.page slot s a) into back
    where
      into : IsTrue (nat_le (s.span.lo + (from - s.base)) a && nat_le a (s.span.lo + (to - s.base))) → IsTrue (in_slot u.page slot s a)
      into t =
          let b = and_parts (nat_le (s.span.lo + (from - s.base)) a) (nat_le a (s.span.lo + (to - s.base))) t in
          let p = in_part (2 ^ u.page) s.base s.span.lo s.span.hi slot (pow_pos u.page) s.span.ordered k.begins k.ends from to k.from_is k.to_is a (leb-true (s.span.lo + (from - s.base)) a b.0) (leb-true a (s.span.lo + (to - s.base)) b.1) in
          true_all (nat_le s.span.lo a) (nat_le a s.span.hi) (nat_eq ((s.base + (a - s.span.lo)) / 2 ^ u.page) slot) (le-leb s.span.lo a p.0) (le-leb a s.span.hi p.1) (eq-eqb ((s.base + (a - s.span.lo)) / 2 ^ u.page) slot p.2)

      back : IsTrue (in_slot u.page slot s a) → IsTrue (nat_le (s.span.lo + (from - s.base)) a && nat_le a (s.span.lo + (to - s.base)))
      back t =
          let b = all_true (nat_le s.span.lo a) (nat_le a s.span.hi) (nat_eq ((s.base + (a - s.span.lo)) / 2 ^ u.page) slot) t in
          let p = of_part (2 ^ u.page) s.base s.span.lo s.span.hi slot (pow_pos u.page) s.span.ordered k.begins k.ends from to k.from_is k.to_is a (leb-true s.span.lo a b.0) (leb-true a s.span.hi b.1) (eqb-true ((s.base + (a - s.span.lo)) / 2 ^ u.page) slot b.2) in
          ap (λ c. c && nat_le a (s.span.lo + (to - s.base))) (le-leb (s.span.lo + (from - s.base)) a p.0) ∙ le-leb a (s.span.lo + (to - s.base)) p.1

  pub part_name : (a : ℕ) → IsTrue (nat_le (s.span.lo + (from - s.base)) a && nat_le a (s.span.lo + (to - s.base))) → x.addr + (a - (s.span.lo + (from - s.base))) ≡ r.page * 2 ^ u.page + (s.base + (a - s.span.lo)) % 2 ^ u.page
  part_name a t =
      let b = and_parts (nat_le (s.span.lo + (from - s.base)) a) (nat_le a (s.span.lo + (to - s.base))) t in
      ap (λ n. n + (a - (s.span.lo + (from - s.base)))) k.name_is
      ∙ part_names (2 ^ u.page) s.base s.span.lo s.span.hi slot (pow_pos u.page) s.span.ordered k.begins k.ends from to k.from_is k.to_is a (r.page * 2 ^ u.page) (leb-true (s.span.lo + (from - s.base)) a b.0) (leb-true a (s.span.lo + (to - s.base)) b.1)

-- the size of a slot, as it is shifted
pub slot_size : (u : UnitPart) → IsTrue (is_plain_unit_shape (unit_shape u)) → 1 * 2 ^ u.page % 18446744073709551616 ≡ 2 ^ u.page
slot_size u plain = page_is u.page (has_pages (unit_shape u) plain).page

-- a slot in which some name of a segment stands, with its record
module _ (u : UnitPart) (r : Record) (s : Seg) (slot : ℕ) (plain : IsTrue (is_plain_unit_shape (unit_shape u))) (within : IsTrue (is_within (unit_shape u) r)) (begins : s.base / 2 ^ u.page ≤ slot) (ends : slot ≤ (s.base + (s.span.hi - s.span.lo)) / 2 ^ u.page) where
  -- it begins no later than the names of the segment end, and ends no earlier than these begin
  pub slot_begins : slot * 2 ^ u.page ≤ s.base + (s.span.hi - s.span.lo)
  slot_begins = high (2 ^ u.page) s.base s.span.lo s.span.hi slot (pow_pos u.page) s.span.ordered begins ends

  pub slot_ends : s.base ≤ slot * 2 ^ u.page + (2 ^ u.page - 1)
  slot_ends =
      let l : s.base < slot * 2 ^ u.page + 2 ^ u.page = low (2 ^ u.page) s.base s.span.lo s.span.hi slot (pow_pos u.page) s.span.ordered begins ends in
      let o : 0 < 2 ^ u.page = pow_pos u.page in
      omega (arith, l, o)

  -- its last address is one, and so is the last to which it is sent
  pub slot_within : slot * 2 ^ u.page + (2 ^ u.page - 1) ≤ TOP
  slot_within =
      let b = slot_begins in
      let f = s.fits in
      let p = (has_pages (unit_shape u) plain).page in
      let e = page_ends u.page slot (omega (arith, p)) (omega (arith, b, f)) in
      omega (arith, e)

  pub slot_fits : (r.page * 2 ^ u.page + slot * 2 ^ u.page % 2 ^ u.page) + ((slot * 2 ^ u.page + (2 ^ u.page - 1)) - slot * 2 ^ u.page) ≤ TOP
  slot_fits =
      let small = output_small (unit_shape u) r (2 ^ u.page - 1) plain within in
      let last = last_offset (2 ^ u.page) (pow_pos u.page) in
      let first = page_start (2 ^ u.page) slot (pow_pos u.page) in
      omega (arith, small, last, first)

  -- the part of the segment that is cut where the slot begins and ends
  module _ (t : Seg) (lo hi node base : ℕ) (lo_is : lo ≡ slot * 2 ^ u.page) (hi_is : hi ≡ slot * 2 ^ u.page + (2 ^ u.page - 1)) (base_is : base ≡ r.page * 2 ^ u.page + lo % 2 ^ u.page) (gives : (a : ℕ) (z : End) → seg_gives t a z ≡ (in_span s.span a && ((nat_le lo (s.base + (a - s.span.lo)) && nat_le (s.base + (a - s.span.lo)) hi) && (nat_eq node z.node && nat_eq (base + ((s.base + (a - s.span.lo)) - lo)) z.base)))) where
    from_slot : IsFrom t (s.span.lo + (max s.base lo - s.base)) (s.span.lo + (min (s.base + (s.span.hi - s.span.lo)) hi - s.base)) node (base + (max s.base lo - lo))
    from_slot =
        let b = slot_begins in
        let e = slot_ends in
        let f = slot_within in
        part_is s t (record { lo = lo; hi = hi; ordered = omega (arith, lo_is, hi_is); within = omega (arith, hi_is, f) }) (record { node = node; base = base }) (omega (arith, lo_is, b)) (omega (arith, hi_is, e)) gives

    cut_name : t.base ≡ r.page * 2 ^ u.page + max s.base lo % 2 ^ u.page
    cut_name =
        let p : IsPartIn (2 ^ u.page) s.base s.span.lo s.span.hi slot (pow_pos u.page) s.span.ordered begins ends (max s.base lo) (min (s.base + (s.span.hi - s.span.lo)) hi) = part_in (2 ^ u.page) s.base s.span.lo s.span.hi slot (pow_pos u.page) s.span.ordered begins ends (max s.base lo) (min (s.base + (s.span.hi - s.span.lo)) hi) (ap (max s.base) lo_is) (ap (min (s.base + (s.span.hi - s.span.lo))) hi_is) in
        let p1 = p.order in
        let p2 = p.first in
        let p3 = p.last in
        let o = offset_is (2 ^ u.page) (max s.base lo) slot (pow_pos u.page) p2 (omega (arith, p1, p3)) in
        let z = page_start (2 ^ u.page) slot (pow_pos u.page) in
        let y : lo % 2 ^ u.page ≡ slot * 2 ^ u.page % 2 ^ u.page = ap (λ n. n % 2 ^ u.page) lo_is in
        let is = from_slot.base_is in
        omega (arith, is, base_is, y, z, o, p2, lo_is)

    cut_slot : IsCut u r s slot (max s.base lo) (min (s.base + (s.span.hi - s.span.lo)) hi) (record { node = t.node; addr = t.base })
    cut_slot = record { plain = plain; within = within; begins = begins; ends = ends; from_is = ap (max s.base) lo_is; to_is = ap (min (s.base + (s.span.hi - s.span.lo))) hi_is; name_is = cut_name }

    pub cut_node : t.node ≡ node
    cut_node = from_slot.node_is

    pub cut_has : (a : ℕ) → in_span t.span a ≡ in_slot u.page slot s a
    cut_has a = (λ i. nat_le (from_slot.lo_is i) a && nat_le a (from_slot.hi_is i)) ∙ in_part_is u r s slot (max s.base lo) (min (s.base + (s.span.hi - s.span.lo)) hi) (record { node = t.node; addr = t.base }) cut_slot a

    pub cut_goes : (a : ℕ) → IsTrue (in_span t.span a) → t.base + (a - t.span.lo) ≡ r.page * 2 ^ u.page + (s.base + (a - s.span.lo)) % 2 ^ u.page
    cut_goes a h =
        ap (λ n. t.base + (a - n)) from_slot.lo_is
        ∙ part_name u r s slot (max s.base lo) (min (s.base + (s.span.hi - s.span.lo)) hi) (record { node = t.node; addr = t.base }) cut_slot a ((λ i. nat_le (sym from_slot.lo_is i) a && nat_le a (sym from_slot.hi_is i)) ∙ h)

-- what the name of an address in a slot with this record, or with none, goes on to
pub slot_goes : (net : List NodeDecl) (h : Held) (next : ℕ → ℕ → End → Bool) (s : Seg) (slot : ℕ) (u : UnitPart) (r : Record) (port a at : ℕ) (z : End) → unit_at net s.node ≡ Some u → h s.node slot ≡ Some r → slice_get u.ports r.port ≡ Some port → IsTrue (in_slot u.page slot s a) → at ≡ r.page * 2 ^ u.page + (s.base + (a - s.span.lo)) % 2 ^ u.page → names_go next (outputs net h (seg_name s a)) z ≡ next port at z
slot_goes net h next s slot u r port a at z eu eh ep t en =
    let q : (s.base + (a - s.span.lo)) / 2 ^ u.page ≡ slot = eqb-true ((s.base + (a - s.span.lo)) / 2 ^ u.page) slot (and_parts (in_span s.span a) (nat_eq ((s.base + (a - s.span.lo)) / 2 ^ u.page) slot) t).1 in
    ap (λ o. names_go next (outputs_by h (seg_name s a) o) z) eu
    ∙ ap (λ n. names_go next (output u (h s.node n) (s.base + (a - s.span.lo))) z) q
    ∙ ap (λ o. names_go next (output u o (s.base + (a - s.span.lo))) z) eh
    ∙ ap (λ o. names_go next (name_at_port o (r.page * 2 ^ u.page + (s.base + (a - s.span.lo)) % 2 ^ u.page)) z) ep
    ∙ ap (λ n. next port n z || false) (sym en)
    ∙ or-false (next port at z)

pub no_slot_goes : (net : List NodeDecl) (h : Held) (next : ℕ → ℕ → End → Bool) (s : Seg) (u : UnitPart) (a : ℕ) (z : End) → unit_at net s.node ≡ Some u → h s.node ((s.base + (a - s.span.lo)) / 2 ^ u.page) ≡ None → names_go next (outputs net h (seg_name s a)) z ≡ false
no_slot_goes net h next s u a z eu eh =
    ap (λ o. names_go next (outputs_by h (seg_name s a) o) z) eu
    ∙ ap (λ o. names_go next (output u o (s.base + (a - s.span.lo))) z) eh

-- two tests with one premise
pub and_same : (b c d e : Bool) → b ≡ c → (IsTrue c → d ≡ e) → (b && d) ≡ (c && e)
and_same b true d e f g = ap (λ x. x && d) f ∙ g refl
and_same b false d e f g = ap (λ x. x && d) f

pub slot_pushed : (net : List NodeDecl) (h : Held) (next : ℕ → ℕ → End → Bool) (s part : Seg) (slot : ℕ) (u : UnitPart) (r : Record) (a : ℕ) (z : End) (old new : Bool) → unit_at net s.node ≡ Some u → h s.node slot ≡ Some r → slice_get u.ports r.port ≡ Some part.node → in_span part.span a ≡ in_slot u.page slot s a → (IsTrue (in_span part.span a) → part.base + (a - part.span.lo) ≡ r.page * 2 ^ u.page + (s.base + (a - s.span.lo)) % 2 ^ u.page) → new ≡ (old || (in_span part.span a && next part.node (part.base + (a - part.span.lo)) z)) → new ≡ (old || (in_slot u.page slot s a && names_go next (outputs net h (seg_name s a)) z))
slot_pushed net h next s part slot u r a z old new eu eh ep span name is =
    is ∙ ap (λ b. old || b) (and_same (in_span part.span a) (in_slot u.page slot s a) (next part.node (part.base + (a - part.span.lo)) z) (names_go next (outputs net h (seg_name s a)) z) span
    (λ t. sym (slot_goes net h next s slot u r part.node a (part.base + (a - part.span.lo)) z eu eh ep t (name (span ∙ t)))))

pub slot_kept : (net : List NodeDecl) (h : Held) (next : ℕ → ℕ → End → Bool) (s : Seg) (slot : ℕ) (u : UnitPart) (a : ℕ) (z : End) (old : Bool) → unit_at net s.node ≡ Some u → h s.node slot ≡ None → old ≡ (old || (in_slot u.page slot s a && names_go next (outputs net h (seg_name s a)) z))
slot_kept net h next s slot u a z old eu eh = by (in_slot u.page slot s a) refl
  where
    by : (b : Bool) → in_slot u.page slot s a ≡ b → old ≡ (old || (b && names_go next (outputs net h (seg_name s a)) z))
    by false t = sym (or-false old)
    by true t =
        let q : (s.base + (a - s.span.lo)) / 2 ^ u.page ≡ slot = eqb-true ((s.base + (a - s.span.lo)) / 2 ^ u.page) slot (and_parts (in_span s.span a) (nat_eq ((s.base + (a - s.span.lo)) / 2 ^ u.page) slot) t).1 in
        sym (ap (λ b. old || b) (no_slot_goes net h next s u a z eu (ap (h s.node) q ∙ eh)) ∙ or-false old)

-- the name of an address of the segment stands in a slot from one to before another
abbrev pub in_slots : ℕ → ℕ → ℕ → Seg → ℕ → Bool
in_slots page from to s a = in_span s.span a && (nat_le from ((s.base + (a - s.span.lo)) / 2 ^ page) && nat_lt ((s.base + (a - s.span.lo)) / 2 ^ page) to)

next_slot : (from to q : ℕ) → from ≤ to → (nat_le from q && nat_lt q (to + 1)) ≡ ((nat_le from q && nat_lt q to) || nat_eq q to)
next_slot from to q l = grind arith

by_parts : (o g b d x : Bool) → (o || ((g && (b || d)) && x)) ≡ ((o || ((g && b) && x)) || ((g && d) && x))
by_parts true g b d x = refl
by_parts false false b d x = refl
by_parts false true false d x = refl
by_parts false true true d true = refl
by_parts false true true true false = refl
by_parts false true true false false = refl

-- one slot more
pub slots_more : (page from to : ℕ) (s : Seg) (a : ℕ) (old now new goes : Bool) → from ≤ to → now ≡ (old || (in_slots page from to s a && goes)) → new ≡ (now || (in_slot page to s a && goes)) → new ≡ (old || (in_slots page from (to + 1) s a && goes))
slots_more page from to s a old now new goes l was is =
    let q : ℕ = (s.base + (a - s.span.lo)) / 2 ^ page in
    is
    ∙ ap (λ b. b || (in_slot page to s a && goes)) was
    ∙ sym (by_parts old (in_span s.span a) (nat_le from q && nat_lt q to) (nat_eq q to) goes)
    ∙ ap (λ b. old || ((in_span s.span a && b) && goes)) (sym (next_slot from to q l))

none_between : (from q : ℕ) → (nat_le from q && nat_lt q from) ≡ false
none_between from q = grind arith

-- none yet
pub slots_none : (page from : ℕ) (s : Seg) (a : ℕ) (old goes : Bool) → old ≡ (old || (in_slots page from from s a && goes))
slots_none page from s a old goes = sym (ap (λ b. old || ((in_span s.span a && b) && goes)) (none_between from ((s.base + (a - s.span.lo)) / 2 ^ page)) ∙ by old (in_span s.span a))
  where
    by : (o g : Bool) → (o || ((g && false) && goes)) ≡ o
    by true g = refl
    by false true = refl
    by false false = refl

outside : (from to q : ℕ) → (nat_le from q && nat_lt q to) ≡ false → (q < from) ⊎ (to ≤ q)
outside from to q e = grind arith

-- all slots
pub slots_all : (net : List NodeDecl) (h : Held) (next : ℕ → ℕ → End → Bool) (s : Seg) (u : UnitPart) (from to now : ℕ) (a : ℕ) (z : End) (old new : Bool) → unit_at net s.node ≡ Some u → to ≤ now → ((slot : ℕ) → s.base / 2 ^ u.page ≤ slot → slot ≤ (s.base + (s.span.hi - s.span.lo)) / 2 ^ u.page → (slot < from) ⊎ (to ≤ slot) → h s.node slot ≡ None) → new ≡ (old || (in_slots u.page from now s a && names_go next (outputs net h (seg_name s a)) z)) → new ≡ (old || (in_span s.span a && names_go next (outputs net h (seg_name s a)) z))
slots_all net h next s u from to now a z old new eu below rest is = is ∙ by (in_span s.span a) refl (nat_le from q && nat_lt q now) refl
  where
    q : ℕ
    q = (s.base + (a - s.span.lo)) / 2 ^ u.page

    goes : Bool
    goes = names_go next (outputs net h (seg_name s a)) z

    none : in_span s.span a ≡ true → (nat_le from q && nat_lt q now) ≡ false → goes ≡ false
    none t e =
        let b = and_parts (nat_le s.span.lo a) (nat_le a s.span.hi) t in
        let lo : s.span.lo ≤ a = leb-true s.span.lo a b.0 in
        let hi : a ≤ s.span.hi = leb-true a s.span.hi b.1 in
        let first : s.base / 2 ^ u.page ≤ q = pages_ascend (2 ^ u.page) s.base (s.base + (a - s.span.lo)) (pow_pos u.page) (omega arith) in
        let last : q ≤ (s.base + (s.span.hi - s.span.lo)) / 2 ^ u.page = pages_ascend (2 ^ u.page) (s.base + (a - s.span.lo)) (s.base + (s.span.hi - s.span.lo)) (pow_pos u.page) (omega arith) in
        no_slot_goes net h next s u a z eu (rest q first last (elim (outside from now q e) [ inl l ↦ inl l | inr l ↦ inr (omega arith) ]))

    by : (g : Bool) → in_span s.span a ≡ g → (b : Bool) → (nat_le from q && nat_lt q now) ≡ b → (old || ((g && b) && goes)) ≡ (old || (g && goes))
    by false t b e = refl
    by true t true e = refl
    by true t false e = ap (λ x. old || x) (sym (none t e))

-- a test that none of some numbers passes
pub none_at : (p : ℕ → Bool) (xs : List ℕ) (i x : ℕ) → list_any p xs ≡ false → slice_get xs i ≡ Some x → p x ≡ false
none_at p [] i x e f = cc
none_at p (y ∷ ys) zero x e f = let g : y ≡ x = cc in let o = or_parts (p y) (list_any p ys) e in ap p (sym g) ∙ o.0
none_at p (y ∷ ys) (suc i) x e f = none_at p ys i x (or_parts (p y) (list_any p ys) e).1 f

-- layers with no row give nothing

no_rows : (rows : List Row) (n : ℕ) (z : End) → has_rows rows ≡ false → rows_give rows n z ≡ false
no_rows [] n z e = refl
no_rows (r ∷ rs) n z e = let f : 0 < length (r ∷ rs) = omega arith in absurd (false≢true (sym e ∙ lt-ltb 0 (length (r ∷ rs)) f))

no_layer : (layers : List (List Row)) (n : ℕ) (z : End) → list_any has_rows layers ≡ false → levels_give layers n z ≡ false
no_layer [] n z e = refl
no_layer (rows ∷ rest) n z e =
    let o = or_parts (has_rows rows) (list_any has_rows rest) e in
    ap (λ t. t || levels_give rest n z) (no_rows rows n z o.0) ∙ no_layer rest n z o.1

-- where no port's node leads to anything, nothing goes on
pub none_leads : (net : List NodeDecl) (h : Held) (flats : FlatsView) (part : FlatPart) (s : Seg) (u : UnitPart) (a : ℕ) (z : End) → unit_at net s.node ≡ Some u → list_any (λ p. part_leads part flats p) u.ports ≡ false → names_go (part_gives part flats) (outputs net h (seg_name s a)) z ≡ false
none_leads net h flats part s u a z eu none =
    ap (λ o. names_go (part_gives part flats) (outputs_by h (seg_name s a) o) z) eu
    ∙ by (h s.node ((s.base + (a - s.span.lo)) / 2 ^ u.page))
  where
    empty : {X : Type 0} (xs : List X) → nat_lt 0 (length xs) ≡ false → xs ≡ []
    empty [] e = refl
    empty (x ∷ xs) e = let f : 0 < length (x ∷ xs) = omega arith in let t : nat_lt 0 (length (x ∷ xs)) ≡ true = lt-ltb 0 (length (x ∷ xs)) f in absurd (false≢true (sym e ∙ t))

    leads : (q : FlatPart) (p n : ℕ) → part_leads q flats p ≡ false → part_gives q flats p n z ≡ false
    leads Accepts p n e = shows_none flats p n z (empty (reached_of (slice_get flats.nodes p)) e)
    leads Stops p n e = no_layer (stops_of flats p) n z e

    to : (o : Option ℕ) (i n : ℕ) → slice_get u.ports i ≡ o → names_go (part_gives part flats) (name_at_port o n) z ≡ false
    to None i n e = refl
    to (Some p) i n e = or-false (part_gives part flats p n z) ∙ leads part p n (none_at (λ p. part_leads part flats p) u.ports i p none e)

    by : (o : Option Record) → names_go (part_gives part flats) (output u o (s.base + (a - s.span.lo))) z ≡ false
    by None = refl
    by (Some r) = to (slice_get u.ports r.port) r.port (r.page * 2 ^ u.page + (s.base + (a - s.span.lo)) % 2 ^ u.page) refl

-- nothing is added
pub none_pushed : (old g goes : Bool) → goes ≡ false → old ≡ (old || (g && goes))
none_pushed old g goes e = sym (ap (λ b. old || (g && b)) e ∙ by old g)
  where
    by : (o g : Bool) → (o || (g && false)) ≡ o
    by true g = refl
    by false true = refl
    by false false = refl

pub no_unit_goes : (net : List NodeDecl) (h : Held) (next : ℕ → ℕ → End → Bool) (s : Seg) (a : ℕ) (z : End) → unit_at net s.node ≡ None → names_go next (outputs net h (seg_name s a)) z ≡ false
no_unit_goes net h next s a z e = ap (λ o. names_go next (outputs_by h (seg_name s a) o) z) e

-- one item more of a list
pub any_next : {X : Type 0} (p : X → Bool) (xs : List X) (i : ℕ) (d : X) (now new whole : Bool) → i < length xs → (now || list_any p (drop i xs)) ≡ whole → new ≡ (now || p (get_or xs i d)) → (new || list_any p (drop (i + 1) xs)) ≡ whole
any_next p xs i d now new whole l was is =
    ap (λ b. b || list_any p (drop (i + 1) xs)) is
    ∙ or_assoc now (p (get_or xs i d)) (list_any p (drop (i + 1) xs))
    ∙ ap (λ n. now || (p (get_or xs i d) || list_any p (drop n xs))) (add-one i)
    ∙ ap (λ ys. now || list_any p ys) (sym (drop-cons xs i d l))
    ∙ was
  where
    or_assoc : (a b c : Bool) → ((a || b) || c) ≡ (a || (b || c))
    or_assoc true b c = refl
    or_assoc false b c = refl

-- no item is left
pub any_end : {X : Type 0} (p : X → Bool) (xs : List X) (i : ℕ) (now whole : Bool) → length xs ≤ i → (now || list_any p (drop i xs)) ≡ whole → now ≡ whole
any_end p xs i now whole l was = sym (or-false now) ∙ ap (λ ys. now || list_any p ys) (sym (drop_of_length-le xs l)) ∙ was
