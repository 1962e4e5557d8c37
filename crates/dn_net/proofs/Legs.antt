-- The legs of a node are its choices, each with the addresses that it leads on.
use Rattle.std.proofs.Common.{◌≡◌, ℕ, zero, suc, ◌+◌, ◌-◌, ◌<◌, ◌≤◌, ◌⊎◌, inl, inr, Bool, ◌&&◌, nat_lt, List, [], ◌∷◌, ◌++◌, slice_get, Option, Some, None, refl, sym, ap, ◌∙◌, subst, arith, IsTrue, ltb-true}
use Rattle.std.specs.List.{list_all}
use Rattle.dn_net.specs.declared.node.Block.{Block}
use Rattle.dn_net.specs.declared.node.Dest.{Dest}
use Rattle.dn_net.specs.declared.node.Entry.{Entry}
use Rattle.dn_net.specs.declared.node.Name.{Name}
use Rattle.dn_net.specs.declared.node.NodeDecl.{NodeDecl}
use Rattle.dn_net.specs.Chain.{Member}
use Rattle.dn_net.specs.Decode.{top, refers_within, over_within, ports_within}
use Rattle.dn_net.specs.Walks.{Choice, mapped_by, over_gap, IsGap, ChoiceLeads, gaps, Leg, dest_legs, entry_legs, gap_legs, legs_of}
use Rattle.dn_base.proofs.Members.{member_left, member_right, member_cases, map_member, member_map}
use Rattle.dn_base.proofs.Booleans.{and_parts}
use Rattle.dn_base.proofs.Lists.{list_all-at}
use Rattle.dn_net.proofs.Apart.{IsApart}
use Rattle.dn_net.proofs.Gaps.{gap_of_member, member_of_gap}
use Rattle.dn_net.proofs.Members.{member_order, some_same}

-- the leg of an entry's destination, and of a gap
abbrev pub dest_leg : ℕ → ℕ → Block → Dest → Leg
dest_leg i j b d = record { choice = mapped_by i j; block = b; to = record { node = d.node; addr = d.addr } }

abbrev pub gap_leg : ℕ → Block → Leg
gap_leg m b = record { choice = over_gap b.lo b.hi; block = b; to = record { node = m; addr = b.lo } }

pub member_dest_legs : (i j : ℕ) (b : Block) (ds : List Dest) (l : Leg) → Member l (dest_legs i j b ds) → (q : ℕ) × (d : Dest) × (slice_get ds q ≡ Some d) × (dest_leg i (j + q) b d ≡ l)
member_dest_legs i j b [] l m = absurd m
member_dest_legs i j b (d ∷ ds) l (inl e) = let s : j + 0 ≡ j = omega arith in (0, d, refl, ap (λ n. dest_leg i n b d) s ∙ e)
member_dest_legs i j b (d ∷ ds) l (inr m) =
    let r = member_dest_legs i (suc j) b ds l m in
    let s : j + suc r.0 ≡ suc j + r.0 = omega arith in
    (suc r.0, r.1, r.2, ap (λ n. dest_leg i n b r.1) s ∙ r.3)

dest_legs_member : (i j q : ℕ) (b : Block) (ds : List Dest) (d : Dest) → slice_get ds q ≡ Some d → Member (dest_leg i (j + q) b d) (dest_legs i j b ds)
dest_legs_member i j q b [] d at = cc
dest_legs_member i j zero b (x ∷ ds) d at = let s : j ≡ j + 0 = omega arith in inl (ap (λ y. dest_leg i j b y) (some_same x d at) ∙ ap (λ n. dest_leg i n b d) s)
dest_legs_member i j (suc q) b (x ∷ ds) d at = let s : suc j + q ≡ j + suc q = omega arith in inr (subst (λ n. Member (dest_leg i n b d) (dest_legs i (suc j) b ds)) s (dest_legs_member i (suc j) q b ds d at))

-- an entry and a destination of it, by their places
pub record OfEntry (i : ℕ) (es : List Entry) (l : Leg) : Type 0 where
  pub entry : ℕ
  pub dest : ℕ
  pub e : Entry
  pub d : Dest
  pub is_entry : slice_get es entry ≡ Some e
  pub is_dest : slice_get e.dests dest ≡ Some d
  pub leg : dest_leg (i + entry) dest e.block d ≡ l

pub member_entry_legs : (i : ℕ) (es : List Entry) (l : Leg) → Member l (entry_legs i es) → OfEntry i es l
member_entry_legs i [] l m = absurd m
member_entry_legs i (e ∷ es) l m = elim (member_cases (dest_legs i 0 e.block e.dests) (entry_legs (suc i) es) l m) [
  | inl n ↦ (let r = member_dest_legs i 0 e.block e.dests l n in let s : i + 0 ≡ i = omega arith in let t : r.0 ≡ 0 + r.0 = omega arith in record { entry = 0; dest = r.0; e = e; d = r.1; is_entry = refl; is_dest = r.2; leg = (ap (λ n. dest_leg n r.0 e.block r.1) s ∙ (ap (λ n. dest_leg i n e.block r.1) t ∙ r.3)) })
  | inr n ↦ (let r = member_entry_legs (suc i) es l n in let s : i + suc r.entry ≡ suc i + r.entry = omega arith in record { entry = suc r.entry; dest = r.dest; e = r.e; d = r.d; is_entry = r.is_entry; is_dest = r.is_dest; leg = (ap (λ n. dest_leg n r.dest r.e.block r.d) s ∙ r.leg) })
]

entry_legs_member : (i p q : ℕ) (es : List Entry) (e : Entry) (d : Dest) → slice_get es p ≡ Some e → slice_get e.dests q ≡ Some d → Member (dest_leg (i + p) q e.block d) (entry_legs i es)
entry_legs_member i p q [] e d at dt = cc
entry_legs_member i zero q (f ∷ es) e d at dt =
    let x : f ≡ e = some_same f e at in
    let s : i ≡ i + 0 = omega arith in
    let t : 0 + q ≡ q = omega arith in
    let m : Member (dest_leg i (0 + q) e.block d) (dest_legs i 0 e.block e.dests) = dest_legs_member i 0 q e.block e.dests d dt in
    let m1 : Member (dest_leg (i + 0) q e.block d) (dest_legs i 0 e.block e.dests) = subst (λ n. Member (dest_leg n q e.block d) (dest_legs i 0 e.block e.dests)) s (subst (λ n. Member (dest_leg i n e.block d) (dest_legs i 0 e.block e.dests)) t m) in
    member_left (dest_legs i 0 f.block f.dests) (entry_legs (suc i) es) (dest_leg (i + 0) q e.block d) (subst (λ g. Member (dest_leg (i + 0) q e.block d) (dest_legs i 0 g.block g.dests)) (sym x) m1)
entry_legs_member i (suc p) q (f ∷ es) e d at dt =
    let s : suc i + p ≡ i + suc p = omega arith in
    member_right (dest_legs i 0 f.block f.dests) (entry_legs (suc i) es) (dest_leg (i + suc p) q e.block d) (subst (λ n. Member (dest_leg n q e.block d) (entry_legs (suc i) es)) s (entry_legs_member (suc i) p q es e d at dt))

-- a gap that `over` serves
pub record OfGap (over : Option ℕ) (spans : List Block) (l : Leg) : Type 0 where
  pub node : ℕ
  pub is_over : over ≡ Some node
  pub gap : Block
  pub is_gap : Member gap spans
  pub leg : gap_leg node gap ≡ l

pub member_gap_legs : (over : Option ℕ) (spans : List Block) (l : Leg) → Member l (gap_legs over spans) → OfGap over spans l
member_gap_legs None spans l m = absurd m
member_gap_legs (Some m) spans l n = let r = map_member (gap_leg m) spans l n in record { node = m; is_over = refl; gap = r.0; is_gap = r.1; leg = r.2 }

-- each leg is a choice of the node
leads_of : (n : NodeDecl) → IsApart n → (l : Leg) → Member l (entry_legs 0 n.entries) ⊎ Member l (gap_legs n.over (gaps n)) → ChoiceLeads (Some n) l.choice l.block l.to
leads_of n apart l (inl m) =
    let r = member_entry_legs 0 n.entries l m in
    let z : r.entry ≡ 0 + r.entry = omega arith in
    subst (λ k. ChoiceLeads (Some n) k.choice k.block k.to) (ap (λ x. dest_leg x r.dest r.e.block r.d) z ∙ r.leg) (r.e, r.d, r.is_entry, r.is_dest, refl, refl)
leads_of n apart l (inr m) =
    let r = member_gap_legs n.over (gaps n) l m in
    subst (λ k. ChoiceLeads (Some n) k.choice k.block k.to) r.leg (r.node, r.is_over, gap_of_member n apart r.gap r.is_gap, refl, refl)

pub leads_of_leg : (o : Option NodeDecl) → ((n : NodeDecl) → o ≡ Some n → IsApart n) → (l : Leg) → Member l (legs_of o) → ChoiceLeads o l.choice l.block l.to
leads_of_leg None apart l m = absurd m
leads_of_leg (Some n) apart l m =
    leads_of n (apart n refl) l (member_cases (entry_legs 0 n.entries) (gap_legs n.over (gaps n)) l ((member_order (λ l m. nat_lt l.block.lo m.block.lo) (entry_legs 0 n.entries ++ gap_legs n.over (gaps n)) l).0 m))

-- each choice of a node has its leg
leg_among : (n : NodeDecl) → IsApart n → (c : Choice) (b : Block) (d : Name) → ChoiceLeads (Some n) c b d → Member (record { choice = c; block = b; to = d }) (entry_legs 0 n.entries ++ gap_legs n.over (gaps n))
leg_among n apart (mapped_by i j) b d f =
    let z : 0 + i ≡ i = omega arith in
    let m : Member (dest_leg i j f.0.block f.1) (entry_legs 0 n.entries) = subst (λ x. Member (dest_leg x j f.0.block f.1) (entry_legs 0 n.entries)) z (entry_legs_member 0 i j n.entries f.0 f.1 f.2 f.3) in
    member_left (entry_legs 0 n.entries) (gap_legs n.over (gaps n)) (record { choice = mapped_by i j; block = b; to = d }) (subst (λ (k : Leg). Member k (entry_legs 0 n.entries)) (λ t. record { choice = mapped_by i j; block = sym f.4 t; to = sym f.5 t }) m)
leg_among n apart (over_gap lo hi) b d f =
    let g : Block = record { lo = lo; hi = hi } in
    let m : Member (gap_leg f.0 g) (gap_legs (Some f.0) (gaps n)) = member_map (gap_leg f.0) (gaps n) g (member_of_gap n apart lo hi f.2) in
    let m1 : Member (gap_leg f.0 g) (gap_legs n.over (gaps n)) = subst (λ o. Member (gap_leg f.0 g) (gap_legs o (gaps n))) (sym f.1) m in
    member_right (entry_legs 0 n.entries) (gap_legs n.over (gaps n)) (record { choice = over_gap lo hi; block = b; to = d }) (subst (λ (k : Leg). Member k (gap_legs n.over (gaps n))) (λ t. record { choice = over_gap lo hi; block = sym f.3 t; to = sym f.4 t }) m1)

pub leg_of_leads : (o : Option NodeDecl) → ((n : NodeDecl) → o ≡ Some n → IsApart n) → (c : Choice) (b : Block) (d : Name) → ChoiceLeads o c b d → Member (record { choice = c; block = b; to = d }) (legs_of o)
leg_of_leads None apart c b d f = absurd f
leg_of_leads (Some n) apart c b d f = (member_order (λ l m. nat_lt l.block.lo m.block.lo) (entry_legs 0 n.entries ++ gap_legs n.over (gaps n)) (record { choice = c; block = b; to = d })).1 (leg_among n (apart n refl) c b d f)

-- a choice leads on the same addresses to the same name
pub leads_once : (o : Option NodeDecl) (c : Choice) (b b' : Block) (d d' : Name) → ChoiceLeads o c b d → ChoiceLeads o c b' d' → (b ≡ b') × (d ≡ d')
leads_once None c b b' d d' f g = absurd f
leads_once (Some n) (mapped_by i j) b b' d d' f g =
    let s : f.0 ≡ g.0 = some_same f.0 g.0 (sym f.2 ∙ g.2) in
    let t : f.1 ≡ g.1 = some_same f.1 g.1 (sym f.3 ∙ (ap (λ e. slice_get e.dests j) s ∙ g.3)) in
    (f.4 ∙ (ap (λ e. e.block) s ∙ sym g.4), f.5 ∙ (ap (λ (x : Dest). record { node = x.node; addr = x.addr }) t ∙ sym g.5))
leads_once (Some n) (over_gap lo hi) b b' d d' f g =
    let s : f.0 ≡ g.0 = some_same f.0 g.0 (sym f.1 ∙ g.1) in
    (f.3 ∙ sym g.3, f.4 ∙ (ap (λ m. record { node = m; addr = lo }) s ∙ sym g.4))

-- a choice keeps in range
pub leads_in_range : (o : Option NodeDecl) → ((n : NodeDecl) → o ≡ Some n → IsApart n) → (c : Choice) (b : Block) (d : Name) → ChoiceLeads o c b d → (b.lo ≤ b.hi) × (b.hi ≤ top) × (d.addr + (b.hi - b.lo) ≤ top)
leads_in_range None apart c b d f = absurd f
leads_in_range (Some n) apart (mapped_by i j) b d f =
    let r = (apart n refl).block i f.0 f.2 in
    let q = (apart n refl).dest i j f.0 f.1 f.2 f.3 in
    let s : (f.0.block.lo ≤ f.0.block.hi) × (f.0.block.hi ≤ top) × (d.addr + (f.0.block.hi - f.0.block.lo) ≤ top) = (r.0, r.1, subst (λ x. x.addr + (f.0.block.hi - f.0.block.lo) ≤ top) (sym f.5) q) in
    subst (λ x. (x.lo ≤ x.hi) × (x.hi ≤ top) × (d.addr + (x.hi - x.lo) ≤ top)) (sym f.4) s
leads_in_range (Some n) apart (over_gap lo hi) b d f =
    let g : IsGap n lo hi = f.2 in
    let o : lo ≤ hi = g.order in
    let t : hi ≤ top = g.low in
    let q : lo + (hi - lo) ≤ top = omega arith in
    let s : (lo ≤ hi) × (hi ≤ top) × (d.addr + (hi - lo) ≤ top) = (o, t, subst (λ x. x.addr + (hi - lo) ≤ top) (sym f.4) q) in
    subst (λ x. (x.lo ≤ x.hi) × (x.hi ≤ top) × (d.addr + (x.hi - x.lo) ≤ top)) (sym f.3) s

-- and among so many nodes
over_one : (count : ℕ) (o : Option ℕ) (m : ℕ) → IsTrue (over_within count o) → o ≡ Some m → m < count
over_one count None m h e = cc
over_one count (Some x) m h e = let s : x ≡ m = some_same x m e in subst (λ y. y < count) s (ltb-true x count h)

pub leads_within : (count : ℕ) (o : Option NodeDecl) → ((n : NodeDecl) → o ≡ Some n → IsTrue (refers_within count n)) → (c : Choice) (b : Block) (d : Name) → ChoiceLeads o c b d → d.node < count
leads_within count None closed c b d f = absurd f
leads_within count (Some n) closed (mapped_by i j) b d f =
    let P : Entry → Bool = λ e. list_all (λ d. nat_lt d.node count) e.dests in
    let all = and_parts (list_all P n.entries) (over_within count n.over && ports_within count n.unit) (closed n refl) in
    let one : IsTrue (P f.0) = list_all-at P n.entries i f.0 all.0 f.2 in
    let q : f.1.node < count = ltb-true f.1.node count (list_all-at (λ d. nat_lt d.node count) f.0.dests j f.1 one f.3) in
    subst (λ x. x.node < count) (sym f.5) q
leads_within count (Some n) closed (over_gap lo hi) b d f =
    let P : Entry → Bool = λ e. list_all (λ d. nat_lt d.node count) e.dests in
    let all = and_parts (list_all P n.entries) (over_within count n.over && ports_within count n.unit) (closed n refl) in
    let rest = and_parts (over_within count n.over) (ports_within count n.unit) all.1 in
    let q : f.0 < count = over_one count n.over f.0 rest.0 f.1 in
    subst (λ x. x.node < count) (sym f.4) q
