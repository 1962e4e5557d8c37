-- What an admissible placement gives: where windows keep blocks whole, nothing beside its buffer in the blocks of the
-- buffer; no name of a later hop, in a free slot, that an address of an agent reaches, or to which another agent comes by
-- the records in use; and through a lone hop nothing beside the buffer.
use Rattle.std.proofs.Common.{◌≡◌, ℕ, zero, suc, ◌+◌, ◌-◌, ◌*◌, ◌/◌, ◌%◌, ◌^◌, ◌<◌, ◌≤◌, ◌⊎◌, inl, inr, Bool, true, false, if◌then◌else◌, ◌&&◌, nat_eq, nat_le, List, [], ◌∷◌, ◌++◌, length, slice_get, Option, Some, None, IsSome, IsTrue, refl, sym, ap, ◌∙◌, subst, arith, pow_pos, pow-add, mod-lt, le-leb, eq-eqb, eqb-true}
use Rattle.std.proofs.Math.Nat.{add-mul, div-add-mod', div-lt_iff_lt-mul, mul-le-mul_right, mul_assoc, mul_comm}
use Rattle.std.proofs.lemmas.Bool.{and_from}
use Rattle.std.proofs.lemmas.Nat.{div-mul-add, mod-mul-add}
use Rattle.std.proofs.lemmas.Option.{same_Some}
use Rattle.dn_base.proofs.Members.{member_at, member_right}
use Rattle.dn_net.specs.declared.node.Name.{Name}
use Rattle.dn_net.specs.declared.node.NodeDecl.{NodeDecl}
use Rattle.dn_net.specs.declared.node.Unit.{Unit as UnitPart}
use Rattle.dn_net.specs.Chain.{IsChain, Member, Reaches}
use Rattle.dn_net.specs.Decode.{is_agent_at, is_stop, unit_at, Resolves, StopsAt}
use Rattle.dn_net.specs.Legal.{IsLegalNet}
use Rattle.dn_net.specs.UnitRules.{LeadsTo}
use Rattle.dn_net.proofs.Chains.{chain_join, chain_more}
use Rattle.dn_flat.specs.Crowds.{IsAgentStop}
use Rattle.dn_kind.specs.declared.rights.Access.{Access}
use Rattle.dn_kind.specs.declared.rights.Rights.{Rights}
use Rattle.dn_kind.specs.declared.unit_kind.Record.{Record}
use Rattle.dn_kind.specs.Rights.{allows, are_rights, both_rights}
use Rattle.dn_kind.specs.Tables.{AreHeld, Held, ResolvesUnder, StepUnder, allowing, name_at_port, output, record_allowing}
use Rattle.dn_kind.proofs.Allowed.{both_allow}
use Rattle.dn_kind.proofs.Bounds.{reach_under_is_within}
use Rattle.dn_kind.proofs.Ways.{allowing_held, allowing_more, step_more}
use Rattle.dn_tables.specs.declared.placement.Hop.{Hop}
use Rattle.dn_tables.specs.Placement.{Place}
use Rattle.dn_placement.specs.declared.request.Request.{Request}
use Rattle.dn_placement.specs.Exposure.{Adds, IsAdmissible}
use Rattle.dn_placement.specs.Placement.{IsFreeHop, IsPlacement, IsUsable, Joins, Leads, Meets, is_free, is_shared, name_on}
use Rattle.dn_placement.specs.Records.{first_slot, hop_record, hop_record_by, hop_rights, hops_records, is_taken_by, joined_records, last_slot, or_record, placed_records, slot_record}
use Rattle.dn_placement.specs.Slots.{Slots}
use Rattle.dn_view.specs.KeptStops.{IsKeptStop}
use Rattle.dn_view.specs.Passes.{outputs, outputs_by}
use Rattle.dn_view.proofs.AddedRights.{joined_left}
use Rattle.dn_view.proofs.Exposed.{placement_fits}
use Rattle.dn_view.proofs.Newly.{blocked}
use Rattle.dn_view.proofs.Pages.{offset_is, output_of_hop, page_is, pages_ascend}
use Rattle.dn_view.proofs.Taken.{or_is, placed_are_held}
use Rattle.dn_view.proofs.Ways.{net_chain, step_stop, stop_step, up_resolves}
use Rattle.dn_place.specs.Blocks.{SendsBlocks, moved_in_block}
use Rattle.dn_place.specs.Sought.{ReachOneStop}
use Rattle.dn_place.proofs.Openings.{leads_on}

-- blocks of 2 to this power addresses are kept whole by an agent and by the nodes of all ports, and no
-- page of a unit is smaller
pub record KeepsWhole (net : List NodeDecl) (agent block : ℕ) : Type 0 where
  pub own : SendsBlocks net (2 ^ block) agent
  pub pages : (node : ℕ) (u : UnitPart) → unit_at net node ≡ Some u → block ≤ u.page
  pub ports : (node port n : ℕ) (u : UnitPart) → unit_at net node ≡ Some u →
      slice_get u.ports port ≡ Some n → SendsBlocks net (2 ^ block) n

-- Blocks in pages, in numbers.

-- an address of the block is its own place in it
pub moved_self : (m a b : ℕ) → a / m ≡ b / m → moved_in_block m a b ≡ b
moved_self m a b e = ap (λ n. n * m + b % m) e ∙ div-add-mod' b m

-- the place in a block stays
pub moved_rest : (m a b : ℕ) → 0 < m → moved_in_block m a b % m ≡ b % m
moved_rest m a b pos = mod-mul-add (a / m) m (b % m) (mod-lt b pos)

pub moved_block : (m a b : ℕ) → 0 < m → moved_in_block m a b / m ≡ a / m
moved_block m a b pos = div-mul-add (a / m) m (b % m) (mod-lt b pos)

moved_twice : (m a c b : ℕ) → 0 < m → moved_in_block m a (moved_in_block m c b) ≡ moved_in_block m a b
moved_twice m a c b pos = ap (λ n. a / m * m + n) (moved_rest m c b pos)

-- an address in a page of whole blocks: its block, and the address moved in it
record InBlocks (m w x b : ℕ) : Type 0 where
  block : x / m * m ≡ x / w * w + x % w / m * m
  page : moved_in_block m x b / w ≡ x / w
  rest : moved_in_block m x b % w ≡ x % w / m * m + b % m

in_blocks : (m k w x b : ℕ) → 0 < m → 0 < w → w ≡ m * k → InBlocks m w x b
in_blocks m k w x b posm posw is =
    let t : ℕ = x % w in
    let q : ℕ = x / w in
    let whole : q * w + t ≡ x = div-add-mod' x w in
    let small : t < w = mod-lt x posw in
    let inner : t / m * m + t % m ≡ t = div-add-mod' t m in
    let least : t % m < m = mod-lt t posm in
    let own : b % m < m = mod-lt b posm in
    let turn : m * k ≡ k * m = mul_comm m k in
    let few : t < k * m = omega (arith, small, is, turn) in
    let fewer : t / m < k = (div-lt_iff_lt-mul posm).1 few in
    let last : (t / m + 1) * m ≤ k * m = mul-le-mul_right m (let f : t / m + 1 ≤ k = omega (arith, fewer) in f) in
    let next : (t / m + 1) * m ≡ t / m * m + 1 * m = add-mul (t / m) 1 m in
    let fits : t / m * m + b % m < w = omega (arith, own, last, next, is, turn) in
    let pages : q * w ≡ q * k * m = ap (λ n. q * n) (is ∙ turn) ∙ sym (mul_assoc q k m) in
    let sum : (q * k + t / m) * m ≡ q * k * m + t / m * m = add-mul (q * k) (t / m) m in
    let at : x / m ≡ q * k + t / m = page_is m x (q * k + t / m) posm (omega (arith, whole, inner, pages, sum)) (omega (arith, whole, inner, least, pages, sum)) in
    let block : x / m * m ≡ q * w + t / m * m = ap (λ n. n * m) at ∙ sum ∙ ap (λ n. n + t / m * m) (sym pages) in
    let from : q * w ≤ moved_in_block m x b = omega (arith, block) in
    let to : moved_in_block m x b < q * w + w = omega (arith, block, fits) in
    let rest : moved_in_block m x b % w ≡ moved_in_block m x b - q * w = offset_is w (moved_in_block m x b) q posw from to in
    record { block = block; page = page_is w (moved_in_block m x b) q posw from to; rest = omega (arith, rest, block) }

-- an address that is moved in its block goes to the page of another as the other is moved
out_moved : (m k w page x b : ℕ) → 0 < m → 0 < w → w ≡ m * k → page * w + moved_in_block m x b % w ≡ moved_in_block m (page * w + x % w) b
out_moved m k w page x b posm posw is =
    let i = (in_blocks m k w x b posm posw is).rest in
    let small : x % w < w = mod-lt x posw in
    let o : InBlocks m w (page * w + x % w) b = in_blocks m k w (page * w + x % w) b posm posw is in
    let p : (page * w + x % w) / w * w ≡ page * w = ap (λ n. n * w) (div-mul-add page w (x % w) small) in
    let r : (page * w + x % w) % w / m * m ≡ x % w / m * m = ap (λ n. n / m * m) (mod-mul-add page w (x % w) small) in
    let e = o.block in
    omega (arith, i, p, r, e)

-- the page of a unit is so many whole blocks
page_of_blocks : (block page : ℕ) → block ≤ page → 2 ^ page ≡ 2 ^ block * 2 ^ (page - block)
page_of_blocks block page l = ap (λ n. 2 ^ n) (let e : page ≡ block + (page - block) = omega arith in e) ∙ pow-add 2 block (page - block)

-- The units of the hops of a placement differ.

abbrev Differ : List Hop → Type 0
Differ [] = Unit {0}
Differ (hop ∷ hops) = ((k : Hop) → Member k hops → k.unit ≡ hop.unit → ⊥) × Differ hops

module _ (net : List NodeDecl) (legal : IsLegalNet net) (slots : Slots) (rq : Request) (some : 1 ≤ rq.size) where
  -- a hop leads to the unit of the next
  leads_to : (hop next : Hop) (hops : List Hop) → Joins net slots rq hop (next ∷ hops) → LeadsTo net hop.unit next.unit
  leads_to hop next hops j =
      let st : StopsAt net (name_on j.fits.node hop.y 0) (name_on next.unit next.x 0) = j.meets 0 (omega (arith, some)) in
      let r = j.fits.reached in
      record {
        part = j.unit;
        port = j.fits.node;
        addr = hop.y + 0;
        stop = name_on next.unit next.x 0;
        is_part = j.is_unit;
        has_port = member_at j.unit.ports hop.port j.fits.node j.fits.is_port;
        below = omega arith;
        reaches = (st.1.0, st.1.2);
        is_stop = st.0;
        is_end = refl;
      }

  is_some : (hop : Hop) (hops : List Hop) → Joins net slots rq hop hops → IsSome (unit_at net hop.unit)
  is_some hop hops j = subst (λ o. IsSome o) (sym j.is_unit) refl

  differ : (hops : List Hop) → length hops ≤ 3 → Leads net slots rq hops → Differ hops
  differ [] few l = tt
  differ (a ∷ []) few l = ((λ k m e. absurd m), tt)
  differ (a ∷ (b ∷ [])) few l = (first, ((λ k m e. absurd m), tt))
    where
      first : (k : Hop) → Member k (b ∷ []) → k.unit ≡ a.unit → ⊥
      first k (inr m) e = absurd m
      first k (inl s) e =
          let same : b.unit ≡ a.unit = ap (λ (h : Hop). h.unit) s ∙ e in
          let t : LeadsTo net a.unit a.unit = subst (λ n. LeadsTo net a.unit n) same (leads_to a b [] l.0) in
          let o = is_some a (b ∷ []) l.0 in
          let four = legal.units.rows.short (a.unit ∷ (a.unit ∷ (a.unit ∷ (a.unit ∷ [])))) (o, t, (o, t, (o, t, (o, tt, tt)))) in
          absurd (omega arith)
  differ (a ∷ (b ∷ (c ∷ []))) few l = (first, (second, ((λ k m e. absurd m), tt)))
    where
      t : LeadsTo net a.unit b.unit
      t = leads_to a b (c ∷ []) l.0

      v : LeadsTo net b.unit c.unit
      v = leads_to b c [] l.1.0

      o : IsSome (unit_at net a.unit)
      o = is_some a (b ∷ (c ∷ [])) l.0

      p : IsSome (unit_at net b.unit)
      p = is_some b (c ∷ []) l.1.0

      second : (k : Hop) → Member k (c ∷ []) → k.unit ≡ b.unit → ⊥
      second k (inr m) e = absurd m
      second k (inl s) e =
          let w : LeadsTo net b.unit b.unit = subst (λ n. LeadsTo net b.unit n) (ap (λ (h : Hop). h.unit) s ∙ e) v in
          let four = legal.units.rows.short (b.unit ∷ (b.unit ∷ (b.unit ∷ (b.unit ∷ [])))) (p, w, (p, w, (p, w, (p, tt, tt)))) in
          absurd (omega arith)

      first : (k : Hop) → Member k (b ∷ (c ∷ [])) → k.unit ≡ a.unit → ⊥
      first k (inl s) e =
          let w : LeadsTo net a.unit a.unit = subst (λ n. LeadsTo net a.unit n) (ap (λ (h : Hop). h.unit) s ∙ e) t in
          let four = legal.units.rows.short (a.unit ∷ (a.unit ∷ (a.unit ∷ (a.unit ∷ [])))) (o, w, (o, w, (o, w, (o, tt, tt)))) in
          absurd (omega arith)
      first k (inr (inr m)) e = absurd m
      first k (inr (inl s)) e =
          let w : LeadsTo net b.unit a.unit = subst (λ n. LeadsTo net b.unit n) (ap (λ (h : Hop). h.unit) s ∙ e) v in
          let four = legal.units.rows.short (a.unit ∷ (b.unit ∷ (a.unit ∷ (b.unit ∷ [])))) (o, t, (p, w, (o, t, (p, tt, tt)))) in
          absurd (omega arith)
  differ (a ∷ (b ∷ (c ∷ (d ∷ hops)))) few l = absurd (omega arith)

-- The records of hops in different units.

-- a slot of a hop has a record of the hop, with rights that allow the access
abbrev HasOwn : Held → Access → UnitPart → Hop → ℕ → Type 0
HasOwn h access u hop slot = (r : Rights) × (h hop.unit slot ≡ Some (slot_record u r hop slot)) × IsTrue (allows r access)

module _ (net : List NodeDecl) (size : ℕ) (rights : Rights) (own : ℕ) (access : Access) (allowed : IsTrue (allows rights access)) where
  rights_allow : (place : ℕ) → IsTrue (allows (hop_rights rights own place) access)
  rights_allow place = go (nat_eq place own)
    where
      go : (b : Bool) → IsTrue (allows (if b then rights else both_rights) access)
      go true = allowed
      go false = both_allow access

  own_record : (place : ℕ) (hop : Hop) (u : UnitPart) (slot : ℕ) → unit_at net hop.unit ≡ Some u → first_slot u hop ≤ slot → slot ≤ last_slot u size hop → hop_record net size (hop_rights rights own place) hop hop.unit slot ≡ Some (slot_record u (hop_rights rights own place) hop slot)
  own_record place hop u slot e from to =
      let all : (nat_eq hop.unit hop.unit && is_taken_by u size hop slot) ≡ true = and_from (nat_eq hop.unit hop.unit) (is_taken_by u size hop slot) (eq-eqb hop.unit hop.unit refl) (and_from (nat_le (first_slot u hop) slot) (nat_le slot (last_slot u size hop)) (le-leb (first_slot u hop) slot from) (le-leb slot (last_slot u size hop) to)) in
      ap (λ o. hop_record_by o size (hop_rights rights own place) hop hop.unit slot) e
      ∙ ap (λ b. if b then Some (slot_record u (hop_rights rights own place) hop slot) else None) all

  no_record : (place : ℕ) (hop : Hop) (node slot : ℕ) → (node ≡ hop.unit → ⊥) → hop_record net size (hop_rights rights own place) hop node slot ≡ None
  no_record place hop node slot other = go (unit_at net hop.unit) (nat_eq node hop.unit) refl
    where
      go : (o : Option UnitPart) (b : Bool) → nat_eq node hop.unit ≡ b → hop_record_by o size (hop_rights rights own place) hop node slot ≡ None
      go None b e = refl
      go (Some u) true e = absurd (other (eqb-true node hop.unit e))
      go (Some u) false e = ap (λ b. if b && is_taken_by u size hop slot then Some (slot_record u (hop_rights rights own place) hop slot) else None) e

  hop_has : (place : ℕ) (hops : List Hop) → Differ hops → (hop : Hop) → Member hop hops → (u : UnitPart) → unit_at net hop.unit ≡ Some u → (slot : ℕ) → first_slot u hop ≤ slot → slot ≤ last_slot u size hop → HasOwn (hops_records net size rights own place hops) access u hop slot
  hop_has place [] d hop m u e slot from to = absurd m
  hop_has place (g ∷ hops) d hop (inl s) u e slot from to = subst (λ (k : Hop). (u : UnitPart) → unit_at net k.unit ≡ Some u → first_slot u k ≤ slot → slot ≤ last_slot u size k → HasOwn (hops_records net size rights own place (g ∷ hops)) access u k slot) s here u e from to
    where
      here : (v : UnitPart) → unit_at net g.unit ≡ Some v → first_slot v g ≤ slot → slot ≤ last_slot v size g → HasOwn (hops_records net size rights own place (g ∷ hops)) access v g slot
      here v f a b = (hop_rights rights own place, ap (λ o. or_record o (hops_records net size rights own (suc place) hops g.unit slot)) (own_record place g v slot f a b), rights_allow place)
  hop_has place (g ∷ hops) d hop (inr m) u e slot from to =
      let k = hop_has (suc place) hops d.1 hop m u e slot from to in
      (k.0, ap (λ o. or_record o (hops_records net size rights own (suc place) hops hop.unit slot)) (no_record place g hop.unit slot (d.0 hop m)) ∙ k.1, k.2)

-- Where hops lead.

-- the node behind hops that lead on from this one, and the address there
abbrev pub last_node : (net : List NodeDecl) (slots : Slots) (rq : Request) (hops : List Hop) → Leads net slots rq hops → ℕ → ℕ
last_node net slots rq [] l node = node
last_node net slots rq (hop ∷ hops) l node = last_node net slots rq hops l.1 l.0.fits.node

abbrev pub last_addr : List Hop → ℕ → ℕ
last_addr [] addr = addr
last_addr (hop ∷ hops) addr = last_addr hops hop.y

-- behind a last hop they are its port's node and its output
pub record IsBehind (net : List NodeDecl) (slots : Slots) (rq : Request) (hops : List Hop) (l : Leads net slots rq hops) (from addr node y : ℕ) : Type 0 where
  pub node_is : last_node net slots rq hops l from ≡ node
  pub addr_is : last_addr hops addr ≡ y

pub behind_last : (net : List NodeDecl) (slots : Slots) (rq : Request) (before : List Hop) (hop : Hop) (l : Leads net slots rq (before ++ hop ∷ [])) (from addr node : ℕ) (u : UnitPart) → unit_at net hop.unit ≡ Some u → slice_get u.ports hop.port ≡ Some node → IsBehind net slots rq (before ++ hop ∷ []) l from addr node hop.y
behind_last net slots rq [] hop l from addr node u e port =
    let same : l.0.unit ≡ u = same_Some l.0.unit u (sym l.0.is_unit ∙ e) in
    record {
      node_is = same_Some l.0.fits.node node (sym l.0.fits.is_port ∙ ap (λ (v : UnitPart). slice_get v.ports hop.port) same ∙ port);
      addr_is = refl;
    }
behind_last net slots rq (g ∷ before) hop l from addr node u e port =
    let k = behind_last net slots rq before hop l.1 l.0.fits.node g.y node u e port in
    record { node_is = k.node_is; addr_is = k.addr_is }

pub behind_at : (net : List NodeDecl) (slots : Slots) (rq : Request) (hops before : List Hop) (hop : Hop) → hops ≡ before ++ hop ∷ [] → (l : Leads net slots rq hops) (from addr node : ℕ) (u : UnitPart) → unit_at net hop.unit ≡ Some u → slice_get u.ports hop.port ≡ Some node → IsBehind net slots rq hops l from addr node hop.y
behind_at net slots rq hops before hop ends l from addr node u e port = subst (λ (hs : List Hop). (l : Leads net slots rq hs) → IsBehind net slots rq hs l from addr node hop.y) (sym ends) (λ l. behind_last net slots rq before hop l from addr node u e port) l

-- A walk by hops from an address in the block of another.

module _ (net : List NodeDecl) (legal : IsLegalNet net) (one : ReachOneStop net) (slots : Slots) (rq : Request) (agent block : ℕ) (blocks : KeepsWhole net agent block) where
  posm : 0 < 2 ^ block
  posm = pow_pos block

  -- the stop of an address that is moved in its block is the hop's input, moved likewise
  moved_stop : (node addr b i : ℕ) (hop : Hop) → SendsBlocks net (2 ^ block) node → (addr + i) / 2 ^ block ≡ b / 2 ^ block → StopsAt net (name_on node addr i) (name_on hop.unit hop.x i) → StopsAt net (record { node = node; addr = b }) (record { node = hop.unit; addr = moved_in_block (2 ^ block) (hop.x + i) b })
  moved_stop node addr b i hop sends e st = sends (addr + i) b (record { node = hop.unit; base = hop.x + i }) e st

  -- the slot of the input is that of the input as it is moved
  moved_slot : (unit : ℕ) (u : UnitPart) (x b : ℕ) → unit_at net unit ≡ Some u → moved_in_block (2 ^ block) x b / 2 ^ u.page ≡ x / 2 ^ u.page
  moved_slot unit u x b e = (in_blocks (2 ^ block) (2 ^ (u.page - block)) (2 ^ u.page) x b posm (pow_pos u.page) (page_of_blocks block u.page (blocks.pages unit u e))).page

  -- its record sends it to the hop's output, moved likewise
  moved_output : (hop : Hop) (u : UnitPart) (i b : ℕ) → unit_at net hop.unit ≡ Some u → hop.x % 2 ^ u.page ≡ hop.y % 2 ^ u.page → (hop.y / 2 ^ u.page + ((hop.x + i) / 2 ^ u.page - hop.x / 2 ^ u.page)) * 2 ^ u.page + moved_in_block (2 ^ block) (hop.x + i) b % 2 ^ u.page ≡ moved_in_block (2 ^ block) (hop.y + i) b
  moved_output hop u i b e agree =
      out_moved (2 ^ block) (2 ^ (u.page - block)) (2 ^ u.page) (hop.y / 2 ^ u.page + ((hop.x + i) / 2 ^ u.page - hop.x / 2 ^ u.page)) (hop.x + i) b posm (pow_pos u.page) (page_of_blocks block u.page (blocks.pages hop.unit u e))
      ∙ ap (λ n. moved_in_block (2 ^ block) n b) (output_of_hop (2 ^ u.page) hop.x hop.y i (pow_pos u.page) agree)

  moved_passes : (h : Held) (hop : Hop) (u : UnitPart) (node i b : ℕ) (r : Rights) → unit_at net hop.unit ≡ Some u → slice_get u.ports hop.port ≡ Some node → hop.x % 2 ^ u.page ≡ hop.y % 2 ^ u.page → h hop.unit ((hop.x + i) / 2 ^ u.page) ≡ Some (slot_record u r hop ((hop.x + i) / 2 ^ u.page)) → Member (record { node = node; addr = moved_in_block (2 ^ block) (hop.y + i) b }) (outputs net h (record { node = hop.unit; addr = moved_in_block (2 ^ block) (hop.x + i) b }))
  moved_passes h hop u node i b r e port agree holds =
      let q : ℕ = (hop.x + i) / 2 ^ u.page in
      let x : ℕ = moved_in_block (2 ^ block) (hop.x + i) b in
      let y : ℕ = moved_in_block (2 ^ block) (hop.y + i) b in
      let out : ℕ = (hop.y / 2 ^ u.page + (q - hop.x / 2 ^ u.page)) * 2 ^ u.page + x % 2 ^ u.page in
      let at : out ≡ y = moved_output hop u i b e agree in
      let held : h hop.unit (x / 2 ^ u.page) ≡ Some (slot_record u r hop q) = ap (h hop.unit) (moved_slot hop.unit u (hop.x + i) b e) ∙ holds in
      let here : Member (record { node = node; addr = y }) (name_at_port (Some node) out) = inl (ap (λ n. record { node = node; addr = n }) at) in
      let sent : Member (record { node = node; addr = y }) (output u (Some (slot_record u r hop q)) x) = subst (λ o. Member (record { node = node; addr = y }) (name_at_port o out)) (sym port) here in
      let by_slot : Member (record { node = node; addr = y }) (outputs_by h (record { node = hop.unit; addr = x }) (Some u)) = subst (λ o. Member (record { node = node; addr = y }) (output u o x)) (sym held) sent in
      subst (λ o. Member (record { node = node; addr = y }) (outputs_by h (record { node = hop.unit; addr = x }) o)) (sym e) by_slot

  in_hop : (hop : Hop) (u : UnitPart) (i : ℕ) → i < rq.size → (first_slot u hop ≤ (hop.x + i) / 2 ^ u.page) × ((hop.x + i) / 2 ^ u.page ≤ last_slot u rq.size hop)
  in_hop hop u i l = (pages_ascend (2 ^ u.page) hop.x (hop.x + i) (pow_pos u.page) (omega arith), pages_ascend (2 ^ u.page) (hop.x + i) (hop.x + rq.size - 1) (pow_pos u.page) (omega arith))

  -- by records of all hops

  -- the slots in which such an address of the request stands have the hops' records
  abbrev Hold : Held → List Hop → ℕ → Type 0
  Hold h [] i = Unit {0}
  Hold h (hop ∷ hops) i = ((u : UnitPart) → unit_at net hop.unit ≡ Some u → (r : Rights) × (h hop.unit ((hop.x + i) / 2 ^ u.page) ≡ Some (slot_record u r hop ((hop.x + i) / 2 ^ u.page)))) × Hold h hops i

  -- where a hop has its record, what its output leads to is led to from each address that enters it
  led : (h : Held) (hop : Hop) (hops : List Hop) (j : Joins net slots rq hop hops) (node b i : ℕ) (r : Rights) (k : ℕ) (end : Name) → (st : StopsAt net (record { node = node; addr = b }) (record { node = hop.unit; addr = moved_in_block (2 ^ block) (hop.x + i) b })) → h hop.unit ((hop.x + i) / 2 ^ j.unit.page) ≡ Some (slot_record j.unit r hop ((hop.x + i) / 2 ^ j.unit.page)) → IsChain (StepUnder net h) k (record { node = j.fits.node; addr = moved_in_block (2 ^ block) (hop.y + i) b }) end → IsChain (StepUnder net h) (st.1.0 + suc k) (record { node = node; addr = b }) end
  led h hop hops j node b i r k end st held later = chain_join (StepUnder net h) st.1.0 (suc k) (record { node = node; addr = b }) s end (net_chain net legal h st.1.0 (record { node = node; addr = b }) s st.1.2) (t, stop_step net legal h s t st.0 passed, later)
    where
      s : Name
      s = record { node = hop.unit; addr = moved_in_block (2 ^ block) (hop.x + i) b }

      t : Name
      t = record { node = j.fits.node; addr = moved_in_block (2 ^ block) (hop.y + i) b }

      passed : Member t (outputs net h s)
      passed = moved_passes h hop j.unit j.fits.node i b r j.is_unit j.fits.is_port j.fits.agree held

  -- an address of a node in the block of another comes to a name, moved likewise behind the hops
  record IsWalk (h : Held) (node addr b i n y : ℕ) : Type 0 where
    to : ℕ
    steps : ℕ
    chain : IsChain (StepUnder net h) steps (record { node = node; addr = b }) (record { node = n; addr = to })
    place : to ≡ moved_in_block (2 ^ block) (y + i) b
    exact : (j : ℕ) → j < rq.size → b ≡ addr + j → to ≡ y + j

  walk : (h : Held) (hops : List Hop) (l : Leads net slots rq hops) (node addr b i : ℕ) → i < rq.size → (addr + i) / 2 ^ block ≡ b / 2 ^ block → Meets net rq node addr hops → SendsBlocks net (2 ^ block) node → Hold h hops i → IsWalk h node addr b i (last_node net slots rq hops l node) (last_addr hops addr)
  walk h [] l node addr b i few e meets sends holds = record {
    to = b;
    steps = zero;
    chain = refl;
    place = sym (moved_self (2 ^ block) (addr + i) b e);
    exact = λ j lt is. is;
  }
  walk h (hop ∷ hops) l node addr b i few e meets sends holds = on (walk h hops l.1 l.0.fits.node hop.y (moved_in_block (2 ^ block) (hop.y + i) b) i few (sym (moved_block (2 ^ block) (hop.y + i) b posm)) l.0.meets (blocks.ports hop.unit hop.port l.0.fits.node l.0.unit l.0.is_unit l.0.fits.is_port) holds.1)
    where
      j : Joins net slots rq hop hops
      j = l.0

      st : StopsAt net (record { node = node; addr = b }) (record { node = hop.unit; addr = moved_in_block (2 ^ block) (hop.x + i) b })
      st = moved_stop node addr b i hop sends e (meets i few)

      held : (r : Rights) × (h hop.unit ((hop.x + i) / 2 ^ j.unit.page) ≡ Some (slot_record j.unit r hop ((hop.x + i) / 2 ^ j.unit.page)))
      held = holds.0 j.unit j.is_unit

      output_is : (k : ℕ) → k < rq.size → b ≡ addr + k → moved_in_block (2 ^ block) (hop.y + i) b ≡ hop.y + k
      output_is k lt is =
          let w : ℕ = 2 ^ j.unit.page in
          let other : StopsAt net (record { node = node; addr = b }) (name_on hop.unit hop.x k) = subst (λ n. StopsAt net (record { node = node; addr = n }) (name_on hop.unit hop.x k)) (sym is) (meets k lt) in
          let same : moved_in_block (2 ^ block) (hop.x + i) b ≡ hop.x + k = ap (λ (n : Name). n.addr) (one (record { node = node; addr = b }) (record { node = hop.unit; addr = moved_in_block (2 ^ block) (hop.x + i) b }) (name_on hop.unit hop.x k) st other) in
          let slot : (hop.x + k) / 2 ^ j.unit.page ≡ (hop.x + i) / 2 ^ j.unit.page = ap (λ n. n / 2 ^ j.unit.page) (sym same) ∙ moved_slot hop.unit j.unit (hop.x + i) b j.is_unit in
          sym (moved_output hop j.unit i b j.is_unit j.fits.agree)
          ∙ ap (λ n. (hop.y / 2 ^ j.unit.page + ((hop.x + i) / 2 ^ j.unit.page - hop.x / 2 ^ j.unit.page)) * 2 ^ j.unit.page + n % 2 ^ j.unit.page) same
          ∙ ap (λ n. (hop.y / 2 ^ j.unit.page + (n - hop.x / 2 ^ j.unit.page)) * 2 ^ j.unit.page + (hop.x + k) % 2 ^ j.unit.page) (sym slot)
          ∙ output_of_hop (2 ^ j.unit.page) hop.x hop.y k (pow_pos j.unit.page) j.fits.agree

      on : IsWalk h j.fits.node hop.y (moved_in_block (2 ^ block) (hop.y + i) b) i (last_node net slots rq hops l.1 j.fits.node) (last_addr hops hop.y) → IsWalk h node addr b i (last_node net slots rq hops l.1 j.fits.node) (last_addr hops hop.y)
      on later = record {
        to = later.to;
        steps = st.1.0 + suc later.steps;
        chain = led h hop hops j node b i held.0 later.steps (record { node = last_node net slots rq hops l.1 j.fits.node; addr = later.to }) st held.1 later.chain;
        place = later.place ∙ moved_twice (2 ^ block) (last_addr hops hop.y + i) (hop.y + i) b posm;
        exact = λ k lt is. later.exact k lt (output_is k lt is);
      }

  -- by the records before the own hop

  -- a name from which a slot is reached that has no record
  record IsShut (h : Held) (x : Name) : Type 0 where
    end : Name
    stop : IsTrue (is_stop net end)
    steps : ℕ
    chain : IsChain (StepUnder net h) steps x end
    none : (w : Name) → StepUnder net h end w → ⊥

  shut_here : (h : Held) (x : Name) (hop : Hop) (u : UnitPart) (i b : ℕ) → StopsAt net x (record { node = hop.unit; addr = moved_in_block (2 ^ block) (hop.x + i) b }) → unit_at net hop.unit ≡ Some u → h hop.unit ((hop.x + i) / 2 ^ u.page) ≡ None → IsShut h x
  shut_here h x hop u i b st e none = record {
    end = s;
    stop = st.0;
    steps = st.1.0;
    chain = net_chain net legal h st.1.0 x s st.1.2;
    none = λ w k.
        let out : Member w (outputs_by h s (Some u)) = subst (λ o. Member w (outputs_by h s o)) e (step_stop net legal h s w u e k).1 in
        absurd (subst (λ o. Member w (output u o s.addr)) (ap (h hop.unit) (moved_slot hop.unit u (hop.x + i) b e) ∙ none) out);
  }
    where
      s : Name
      s = record { node = hop.unit; addr = moved_in_block (2 ^ block) (hop.x + i) b }

  module _ (access : Access) (empty : (node slot : ℕ) → IsTrue (slots.is_free node slot) → slots.held node slot ≡ None) where
    abbrev old : Held
    old = allowing access slots.held

    shut : (hops : List Hop) (own : ℕ) (hop : Hop) → slice_get hops own ≡ Some hop → IsFreeHop net slots rq hop → (l : Leads net slots rq hops) (node addr b i : ℕ) → i < rq.size → (addr + i) / 2 ^ block ≡ b / 2 ^ block → Meets net rq node addr hops → SendsBlocks net (2 ^ block) node → IsShut old (record { node = node; addr = b })
    shut [] own hop at free l node addr b i few e meets sends = cc
    shut (g ∷ hops) zero hop at free l node addr b i few e meets sends =
        let j : Joins net slots rq g hops = l.0 in
        let same : g ≡ hop = cc in
        let q = in_hop g j.unit i few in
        let fr : IsFreeHop net slots rq g = subst (IsFreeHop net slots rq) (sym same) free in
        shut_here old (record { node = node; addr = b }) g j.unit i b (moved_stop node addr b i g sends e (meets i few)) j.is_unit (ap (record_allowing access) (empty g.unit ((g.x + i) / 2 ^ j.unit.page) (fr j.unit j.is_unit ((g.x + i) / 2 ^ j.unit.page) q.0 q.1)))
    shut (g ∷ hops) (suc own) hop at free l node addr b i few e meets sends =
        let q = in_hop g l.0.unit i few in
        by (l.0.usable ((g.x + i) / 2 ^ l.0.unit.page) q.0 q.1) (shut hops own hop at free l.1 l.0.fits.node g.y (moved_in_block (2 ^ block) (g.y + i) b) i few (sym (moved_block (2 ^ block) (g.y + i) b posm)) l.0.meets (blocks.ports g.unit g.port l.0.fits.node l.0.unit l.0.is_unit l.0.fits.is_port))
      where
        j : Joins net slots rq g hops
        j = l.0

        st : StopsAt net (record { node = node; addr = b }) (record { node = g.unit; addr = moved_in_block (2 ^ block) (g.x + i) b })
        st = moved_stop node addr b i g sends e (meets i few)

        by : IsUsable slots j.unit g ((g.x + i) / 2 ^ j.unit.page) → IsShut old (record { node = j.fits.node; addr = moved_in_block (2 ^ block) (g.y + i) b }) → IsShut old (record { node = node; addr = b })
        by (is_free f) later = shut_here old (record { node = node; addr = b }) g j.unit i b st j.is_unit (ap (record_allowing access) (empty g.unit ((g.x + i) / 2 ^ j.unit.page) f))
        by (is_shared holds unowned) later =
            let q : ℕ = (g.x + i) / 2 ^ j.unit.page in
            let held : old g.unit q ≡ Some (slot_record j.unit both_rights g q) = ap (record_allowing access) holds ∙ ap (λ c. if c then Some (slot_record j.unit both_rights g q) else None) (both_allow access) in
            record {
              end = later.end;
              stop = later.stop;
              steps = st.1.0 + suc later.steps;
              chain = led old g hops j node b i both_rights later.steps later.end st held later.chain;
              none = later.none;
            }

-- What an admissible placement gives.

-- where a slot of a hop has its record, its names are passed on to the hop's port
pub passes_at : (net : List NodeDecl) (h : Held) (hop : Hop) (u : UnitPart) (node x q : ℕ) (r : Rights) → unit_at net hop.unit ≡ Some u → slice_get u.ports hop.port ≡ Some node → x / 2 ^ u.page ≡ q → h hop.unit q ≡ Some (slot_record u r hop q) → Member (record { node = node; addr = (hop.y / 2 ^ u.page + (x / 2 ^ u.page - hop.x / 2 ^ u.page)) * 2 ^ u.page + x % 2 ^ u.page }) (outputs net h (record { node = hop.unit; addr = x }))
passes_at net h hop u node x q r e port same holds =
    let out : ℕ = (hop.y / 2 ^ u.page + (x / 2 ^ u.page - hop.x / 2 ^ u.page)) * 2 ^ u.page + x % 2 ^ u.page in
    let to : Name = record { node = node; addr = out } in
    let held : h hop.unit (x / 2 ^ u.page) ≡ Some (slot_record u r hop (x / 2 ^ u.page)) = subst (λ n. h hop.unit n ≡ Some (slot_record u r hop n)) (sym same) holds in
    let here : Member to (name_at_port (Some node) out) = inl refl in
    let sent : Member to (output u (Some (slot_record u r hop (x / 2 ^ u.page))) x) = subst (λ o. Member to (name_at_port o out)) (sym port) here in
    let by_slot : Member to (outputs_by h (record { node = hop.unit; addr = x }) (Some u)) = subst (λ o. Member to (output u o x)) (sym held) sent in
    subst (λ o. Member to (outputs_by h (record { node = hop.unit; addr = x }) o)) (sym e) by_slot

-- where a hop's slot has its record, the names of the buffer are passed on to those of its port, each to its own place
passes : (net : List NodeDecl) (h : Held) (hop : Hop) (u : UnitPart) (node i : ℕ) (r : Rights) → unit_at net hop.unit ≡ Some u → slice_get u.ports hop.port ≡ Some node → hop.x % 2 ^ u.page ≡ hop.y % 2 ^ u.page → h hop.unit ((hop.x + i) / 2 ^ u.page) ≡ Some (slot_record u r hop ((hop.x + i) / 2 ^ u.page)) → Member (name_on node hop.y i) (outputs net h (name_on hop.unit hop.x i))
passes net h hop u node i r e port agree holds = subst (λ n. Member (record { node = node; addr = n }) (outputs net h (name_on hop.unit hop.x i))) (output_of_hop (2 ^ u.page) hop.x hop.y i (pow_pos u.page) agree) (passes_at net h hop u node (hop.x + i) ((hop.x + i) / 2 ^ u.page) r e port refl holds)

module _ (net : List NodeDecl) (legal : IsLegalNet net) (one : ReachOneStop net) (slots : Slots) (rq : Request) (p : Place) (held : AreHeld net slots.held) (are : IsTrue (are_rights rq.rights)) (access : Access) (allowed : IsTrue (allows rq.rights access)) (empty : (node slot : ℕ) → IsTrue (slots.is_free node slot) → slots.held node slot ≡ None) (agent : IsTrue (is_agent_at (slice_get net rq.agent))) (is : IsPlacement net slots rq p) (gives : IsAdmissible net slots.held rq p) where
  abbrev before : Held
  before = allowing access slots.held

  abbrev after : Held
  after = allowing access (joined_records slots.held (placed_records net rq p))

  after_held : AreHeld net after
  after_held = allowing_held net (joined_records slots.held (placed_records net rq p)) access (λ node slot r e. or_is (slots.held node slot) (placed_records net rq p node slot) (λ u f. held node slot u f) (λ u f. placed_are_held net rq p legal.shapes (placement_fits net slots rq p are is) node slot u f) r e)

  -- the slots of a hop have its records
  own_held : (hop : Hop) → Member hop p.hops → (nearer : List Hop) (j : Joins net slots rq hop nearer) (i : ℕ) → i < rq.size → (u : UnitPart) → unit_at net hop.unit ≡ Some u → (r : Rights) × (after hop.unit ((hop.x + i) / 2 ^ u.page) ≡ Some (slot_record u r hop ((hop.x + i) / 2 ^ u.page)))
  own_held hop m nearer j i few u e = by (slots.held hop.unit q) refl (subst (λ (v : UnitPart). IsUsable slots v hop ((hop.x + i) / 2 ^ v.page)) same (j.usable ((hop.x + i) / 2 ^ j.unit.page) inside.0 inside.1))
    where
      same : j.unit ≡ u
      same = same_Some j.unit u (sym j.is_unit ∙ e)

      within : (v : UnitPart) → (first_slot v hop ≤ (hop.x + i) / 2 ^ v.page) × ((hop.x + i) / 2 ^ v.page ≤ last_slot v rq.size hop)
      within v = (pages_ascend (2 ^ v.page) hop.x (hop.x + i) (pow_pos v.page) (omega arith), pages_ascend (2 ^ v.page) (hop.x + i) (hop.x + rq.size - 1) (pow_pos v.page) (omega arith))

      inside : (first_slot j.unit hop ≤ (hop.x + i) / 2 ^ j.unit.page) × ((hop.x + i) / 2 ^ j.unit.page ≤ last_slot j.unit rq.size hop)
      inside = within j.unit

      q : ℕ
      q = (hop.x + i) / 2 ^ u.page

      own : HasOwn (placed_records net rq p) access u hop q
      own = hop_has net rq.size rq.rights p.own access allowed 0 p.hops (differ net legal slots rq is.some p.hops is.most is.leads) hop m u e q (within u).0 (within u).1

      by : (o : Option Record) → slots.held hop.unit q ≡ o → IsUsable slots u hop q → (r : Rights) × (after hop.unit q ≡ Some (slot_record u r hop q))
      by o f (is_free free) = (own.0, ap (λ a. record_allowing access (or_record a (placed_records net rq p hop.unit q))) (empty hop.unit q free) ∙ ap (record_allowing access) own.1 ∙ ap (λ c. if c then Some (slot_record u own.0 hop q) else None) own.2)
      by o f (is_shared holds unowned) = (both_rights, ap (λ a. record_allowing access (or_record a (placed_records net rq p hop.unit q))) holds ∙ ap (λ c. if c then Some (slot_record u both_rights hop q) else None) (both_allow access))

  -- an address that comes by the records to a name of a hop comes to what the hop's output comes to
  through : (x z : Name) (hop : Hop) (nearer : List Hop) (j : Joins net slots rq hop nearer) (i : ℕ) → i < rq.size → Member hop p.hops → IsTrue (is_stop net (name_on hop.unit hop.x i)) → Reaches (StepUnder net after) x (name_on hop.unit hop.x i) → ResolvesUnder net after (name_on j.fits.node hop.y i) z → ResolvesUnder net after x z
  through x z hop nearer j i few m stop first later =
      let s : Name = name_on hop.unit hop.x i in
      let t : Name = name_on j.fits.node hop.y i in
      let own = own_held hop m nearer j i few j.unit j.is_unit in
      let passed : Member t (outputs net after s) = passes net after hop j.unit j.fits.node i own.0 j.is_unit j.fits.is_port j.fits.agree own.1 in
      (later.0, reach_under_is_within net after legal after_held x z (first.0 + suc later.1.0, chain_join (StepUnder net after) first.0 (suc later.1.0) x s z first.1 (t, stop_step net legal after s t stop passed, later.1.2)))

  -- from where hops are met the buffer is come to
  onward : (hops : List Hop) → Leads net slots rq hops → ((k : Hop) → Member k hops → Member k p.hops) → (node addr i : ℕ) → i < rq.size → Meets net rq node addr hops → ResolvesUnder net after (name_on node addr i) (name_on rq.node rq.base i)
  onward [] l all node addr i few m =
      let r : Resolves net (name_on node addr i) (name_on rq.node rq.base i) = ((m i few).0 (name_on rq.node rq.base i)).1 refl in
      up_resolves net legal after after_held 0 (name_on node addr i) (name_on rq.node rq.base i) (inl r)
  onward (hop ∷ hops) l all node addr i few m =
      let st : StopsAt net (name_on node addr i) (name_on hop.unit hop.x i) = m i few in
      through (name_on node addr i) (name_on rq.node rq.base i) hop hops l.0 i few (all hop (inl refl)) st.0 (st.1.0, net_chain net legal after st.1.0 (name_on node addr i) (name_on hop.unit hop.x i) st.1.2) (onward hops l.1 (λ k n. all k (inr n)) l.0.fits.node hop.y i few l.0.meets)

  -- an address of an agent that comes, by the records that are in use, to a name of a hop after the first in a free slot
  -- is one at which the placement gives the buffer
  only_added : (first hop : Hop) (ahead behind : List Hop) (u : UnitPart) (i : ℕ) → p.hops ≡ first ∷ (ahead ++ (hop ∷ behind)) → unit_at net hop.unit ≡ Some u → i < rq.size → IsTrue (slots.is_free hop.unit ((hop.x + i) / 2 ^ u.page)) → (w : Name) → IsTrue (is_agent_at (slice_get net w.node)) → IsTrue (is_stop net (name_on hop.unit hop.x i)) → Reaches (StepUnder net before) w (name_on hop.unit hop.x i) → Adds rq p.v w (name_on rq.node rq.base i)
  only_added first hop ahead behind u i split e few free w from stop comes = by ((gives access w z from).0 there)
    where
      t : Name
      t = name_on hop.unit hop.x i

      z : Name
      z = name_on rq.node rq.base i

      last : Leads net slots rq (hop ∷ behind)
      last = leads_on (record { net = net; slots = slots; request = rq; at = None }) (first ∷ ahead) (hop ∷ behind) (subst (λ (hs : List Hop). Leads net slots rq hs) split is.leads)

      listed : (k : Hop) → Member k (hop ∷ behind) → Member k p.hops
      listed k m = subst (λ (hs : List Hop). Member k hs) (sym split) (member_right (first ∷ ahead) (hop ∷ behind) k m)

      more : (x y : Name) → StepUnder net before x y → StepUnder net after x y
      more = step_more net before after (allowing_more slots.held (joined_records slots.held (placed_records net rq p)) access (joined_left slots.held (placed_records net rq p)))

      there : ResolvesUnder net after w z
      there = through w z hop behind last.0 i few (listed hop (inl refl)) stop (comes.0, chain_more (StepUnder net before) (StepUnder net after) more comes.0 w t comes.1) (onward behind last.1 (λ k m. listed k (inr m)) last.0.fits.node hop.y i few last.0.meets)

      none : (v : Name) → StepUnder net before t v → ⊥
      none v k =
          let out : Member v (outputs_by before t (Some u)) = subst (λ o. Member v (outputs_by before t o)) e (step_stop net legal before t v u e k).1 in
          absurd (subst (λ o. Member v (output u o t.addr)) (ap (record_allowing access) (empty hop.unit ((hop.x + i) / 2 ^ u.page) free)) out)

      by : ResolvesUnder net before w z ⊎ (IsTrue (allows rq.rights access) × Adds rq p.v w z) → Adds rq p.v w z
      by (inl old) = absurd (blocked slots.held (placed_records net rq p) access net legal after_held w t z stop comes none old)
      by (inr k) = k.1

  -- so no hop after the first stands, in a free slot, at a name that an address of an agent reaches
  pub not_seen : (first hop : Hop) (ahead behind : List Hop) (u : UnitPart) (i : ℕ) → p.hops ≡ first ∷ (ahead ++ (hop ∷ behind)) → unit_at net hop.unit ≡ Some u → i < rq.size → IsTrue (slots.is_free hop.unit ((hop.x + i) / 2 ^ u.page)) → IsAgentStop net (name_on hop.unit hop.x i) → ⊥
  not_seen first hop ahead behind u i split e few free seen =
      let w : Name = seen.from in
      let t : Name = name_on hop.unit hop.x i in
      let d : Adds rq p.v w (name_on rq.node rq.base i) = only_added first hop ahead behind u i split e few free w seen.agent seen.stops.0 (seen.stops.1.0, net_chain net legal before seen.stops.1.0 w t seen.stops.1.2) in
      let met : StopsAt net (name_on rq.agent p.v d.i) (name_on first.unit first.x d.i) = (subst (λ (hs : List Hop). Meets net rq rq.agent p.v hs) split is.meets) d.i d.below in
      let same : t ≡ name_on first.unit first.x d.i = one w t (name_on first.unit first.x d.i) seen.stops (subst (λ (n : Name). StopsAt net n (name_on first.unit first.x d.i)) (sym d.from) met) in
      let apart : Differ (first ∷ (ahead ++ (hop ∷ behind))) = subst (λ (hs : List Hop). Differ hs) split (differ net legal slots rq is.some p.hops is.most is.leads) in
      apart.0 hop (member_right ahead (hop ∷ behind) hop (inl refl)) (ap (λ (n : Name). n.node) same)

  -- nor at one to which another agent comes by the records that are in use
  pub not_kept : (first hop : Hop) (ahead behind : List Hop) (u : UnitPart) (i : ℕ) → p.hops ≡ first ∷ (ahead ++ (hop ∷ behind)) → unit_at net hop.unit ≡ Some u → i < rq.size → IsTrue (slots.is_free hop.unit ((hop.x + i) / 2 ^ u.page)) → IsKeptStop net before rq.agent (name_on hop.unit hop.x i) → ⊥
  not_kept first hop ahead behind u i split e few free kept = kept.other (ap (λ (n : Name). n.node) (only_added first hop ahead behind u i split e few free kept.from kept.is_agent kept.stop kept.comes).from)

  -- the slot of an address of a lone hop is free
  lone_free : (hop : Hop) (u : UnitPart) (i : ℕ) → p.hops ≡ hop ∷ [] → unit_at net hop.unit ≡ Some u → i < rq.size → IsTrue (slots.is_free hop.unit ((hop.x + i) / 2 ^ u.page))
  lone_free hop u i split e few = subst (λ (k : Hop). IsFreeHop net slots rq k) (own p.own (subst (λ (hs : List Hop). slice_get hs p.own ≡ Some is.own) split is.is_own)) is.free u e ((hop.x + i) / 2 ^ u.page) (pages_ascend (2 ^ u.page) hop.x (hop.x + i) (pow_pos u.page) (omega arith)) (pages_ascend (2 ^ u.page) (hop.x + i) (hop.x + rq.size - 1) (pow_pos u.page) (omega arith))
    where
      own : (n : ℕ) → slice_get (hop ∷ []) n ≡ Some is.own → is.own ≡ hop
      own zero f = sym (same_Some hop is.own f)
      own (suc n) f = cc

  -- through a lone hop no address of the agent beside the buffer, in a slot of the hop, comes to a name
  pub not_beside : (hop : Hop) (u : UnitPart) (node i a x : ℕ) (z : Name) → p.hops ≡ hop ∷ [] → unit_at net hop.unit ≡ Some u → slice_get u.ports hop.port ≡ Some node → i < rq.size → x / 2 ^ u.page ≡ (hop.x + i) / 2 ^ u.page → StopsAt net (record { node = rq.agent; addr = a }) (record { node = hop.unit; addr = x }) → ((j : ℕ) → j < rq.size → a ≡ p.v + j → ⊥) → Resolves net (record { node = node; addr = (hop.y / 2 ^ u.page + (x / 2 ^ u.page - hop.x / 2 ^ u.page)) * 2 ^ u.page + x % 2 ^ u.page }) z → ⊥
  not_beside hop u node i a x z split e port few same st beside r = by ((gives access from z agent).0 there)
    where
      from : Name
      from = record { node = rq.agent; addr = a }

      s : Name
      s = record { node = hop.unit; addr = x }

      t : Name
      t = record { node = node; addr = (hop.y / 2 ^ u.page + (x / 2 ^ u.page - hop.x / 2 ^ u.page)) * 2 ^ u.page + x % 2 ^ u.page }

      leads : Leads net slots rq (hop ∷ [])
      leads = subst (λ (hs : List Hop). Leads net slots rq hs) split is.leads

      listed : Member hop p.hops
      listed = subst (λ (hs : List Hop). Member hop hs) (sym split) (inl refl)

      own : (k : Rights) × (after hop.unit ((hop.x + i) / 2 ^ u.page) ≡ Some (slot_record u k hop ((hop.x + i) / 2 ^ u.page)))
      own = own_held hop listed [] leads.0 i few u e

      passed : Member t (outputs net after s)
      passed = passes_at net after hop u node x ((hop.x + i) / 2 ^ u.page) own.0 e port same own.1

      first : IsChain (StepUnder net after) st.1.0 from s
      first = net_chain net legal after st.1.0 from s st.1.2

      last : IsChain (StepUnder net after) r.1.0 t z
      last = net_chain net legal after r.1.0 t z r.1.2

      there : ResolvesUnder net after from z
      there = (r.0, reach_under_is_within net after legal after_held from z (st.1.0 + suc r.1.0, chain_join (StepUnder net after) st.1.0 (suc r.1.0) from s z first (t, stop_step net legal after s t st.0 passed, last)))

      none : (v : Name) → StepUnder net before s v → ⊥
      none v k =
          let out : Member v (outputs_by before s (Some u)) = subst (λ o. Member v (outputs_by before s o)) e (step_stop net legal before s v u e k).1 in
          let gone : before hop.unit (x / 2 ^ u.page) ≡ None = ap (before hop.unit) same ∙ ap (record_allowing access) (empty hop.unit ((hop.x + i) / 2 ^ u.page) (lone_free hop u i split e few)) in
          absurd (subst (λ o. Member v (output u o x)) gone out)

      by : ResolvesUnder net before from z ⊎ (IsTrue (allows rq.rights access) × Adds rq p.v from z) → ⊥
      by (inl old) = blocked slots.held (placed_records net rq p) access net legal after_held from s z st.0 (st.1.0, net_chain net legal before st.1.0 from s st.1.2) none old
      by (inr k) = let d : Adds rq p.v from z = k.1 in beside d.i d.below (ap (λ (n : Name). n.addr) d.from)

  module _ (block : ℕ) (blocks : KeepsWhole net rq.agent block) where
    -- each slot of a hop has its record
    holds_own : (hops : List Hop) (l : Leads net slots rq hops) → ((hop : Hop) → Member hop hops → Member hop p.hops) → (i : ℕ) → i < rq.size → Hold net legal one slots rq rq.agent block blocks after hops i
    holds_own [] l all i few = tt
    holds_own (hop ∷ hops) l all i few = ((λ u e. own_held hop (all hop (inl refl)) hops l.0 i few u e), holds_own hops l.1 (λ k m. all k (inr m)) i few)

    -- no address beside the buffer, in the block of one of its addresses behind the hops, resolves to anything
    pub whole_blocks : (a i : ℕ) (z : Name) → i < rq.size → a / 2 ^ block ≡ (last_addr p.hops p.v + i) / 2 ^ block → ((j : ℕ) → j < rq.size → a ≡ last_addr p.hops p.v + j → ⊥) → Resolves net (record { node = last_node net slots rq p.hops is.leads rq.agent; addr = a }) z → ⊥
    whole_blocks a i z few e beside r = by ((gives access x z agent).0 resolved)
      where
        b : ℕ
        b = moved_in_block (2 ^ block) (p.v + i) a

        x : Name
        x = record { node = rq.agent; addr = b }

        w : IsWalk net legal one slots rq rq.agent block blocks after rq.agent p.v b i (last_node net slots rq p.hops is.leads rq.agent) (last_addr p.hops p.v)
        w = walk net legal one slots rq rq.agent block blocks after p.hops is.leads rq.agent p.v b i few (sym (moved_block (2 ^ block) (p.v + i) a (pow_pos block))) is.meets blocks.own (holds_own p.hops is.leads (λ hop m. m) i few)

        to_is : w.to ≡ a
        to_is = w.place ∙ moved_twice (2 ^ block) (last_addr p.hops p.v + i) (p.v + i) a (pow_pos block) ∙ moved_self (2 ^ block) (last_addr p.hops p.v + i) a (sym e)

        n : Name
        n = record { node = last_node net slots rq p.hops is.leads rq.agent; addr = a }

        first : IsChain (StepUnder net after) w.steps x n
        first = subst (λ k. IsChain (StepUnder net after) w.steps x (record { node = last_node net slots rq p.hops is.leads rq.agent; addr = k })) to_is w.chain

        resolved : ResolvesUnder net after x z
        resolved = (r.0, reach_under_is_within net after legal after_held x z (w.steps + r.1.0, chain_join (StepUnder net after) w.steps r.1.0 x n z first (net_chain net legal after r.1.0 n z r.1.2)))

        closed : IsShut net legal one slots rq rq.agent block blocks before x
        closed = shut net legal one slots rq rq.agent block blocks access empty p.hops p.own is.own is.is_own is.free is.leads rq.agent p.v b i few (sym (moved_block (2 ^ block) (p.v + i) a (pow_pos block))) is.meets blocks.own

        by : ResolvesUnder net before x z ⊎ (IsTrue (allows rq.rights access) × Adds rq p.v x z) → ⊥
        by (inl old) = blocked slots.held (placed_records net rq p) access net legal after_held x closed.end z closed.stop (closed.steps, closed.chain) closed.none old
        by (inr k) =
            let d : Adds rq p.v x z = k.1 in
            let at : b ≡ p.v + d.i = ap (λ (m : Name). m.addr) d.from in
            beside d.i d.below (sym to_is ∙ w.exact d.i d.below at)
