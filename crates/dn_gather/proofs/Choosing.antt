-- Hops of one unit for pieces: what a placement of one hop is, which slots it takes, and the first hops of all.
use Rattle.std.proofs.Common.{◌≡◌, ℕ, zero, suc, ◌+◌, ◌-◌, ◌*◌, ◌/◌, ◌%◌, ◌^◌, ◌<◌, ◌≤◌, ◌⊎◌, inl, inr, Bool, true, false, if◌then◌else◌, ◌&&◌, nat_eq, nat_lt, nat_le, List, [], ◌∷◌, length, take, get_or, slice_get, Option, Some, None, is_some, IsTrue, refl, sym, ap, ◌∙◌, subst, arith, leb-true, ltb-true, lt-ltb, pow_pos}
use Rattle.std.specs.List.{All}
use Rattle.std.proofs.lemmas.Bool.{cases_lt, eqb-true, or_cases, or_left, or_right}
use Rattle.std.proofs.lemmas.Option.{same_Some}
use Rattle.dn_net.specs.declared.node.Name.{Name}
use Rattle.dn_net.specs.declared.node.NodeDecl.{NodeDecl}
use Rattle.dn_net.specs.declared.node.Unit.{Unit as UnitPart}
use Rattle.dn_net.specs.Decode.{is_agent_at, top, unit_at, StopsAt}
use Rattle.dn_net.specs.Legal.{IsLegalNet}
use Rattle.dn_flat.specs.Crowds.{IsCrowded}
use Rattle.dn_kind.specs.declared.rights.Rights.{Rights}
use Rattle.dn_kind.specs.Kind.{Meaning}
use Rattle.dn_kind.specs.Rights.{are_rights, both_rights}
use Rattle.dn_kind.specs.Tables.{AreHeld}
use Rattle.dn_tables.specs.declared.placement.Hop.{Hop}
use Rattle.dn_tables.specs.declared.table.NodeTable.{NodeTable}
use Rattle.dn_placement.specs.declared.request.Request.{Request}
use Rattle.dn_placement.specs.Placement.{IsFreeHop, IsPlacement, Joins, is_free, name_on}
use Rattle.dn_placement.specs.Records.{first_slot, hop_record_by, last_slot, slot_record}
use Rattle.dn_placement.specs.Slots.{Slots, is_free_in, slots_of_set}
use Rattle.dn_book.specs.Book.{is_taken}
use Rattle.dn_book.proofs.Hops.{div_mono}
use Rattle.dn_view.proofs.Alone.{reached_alone}
use Rattle.dn_place.specs.Exits.{IsExit, IsLone}
use Rattle.dn_place.proofs.Readies.{ready}
use Rattle.dn_walk.specs.Ends.{name_of_end}
use Rattle.dn_gather.specs.declared.piece.Piece.{Piece}
use Rattle.dn_gather.specs.Firsts.{AreFirstHops, AreSuitedHops, IsFirstHop, IsSuitedHop}
use Rattle.dn_gather.specs.Scattered.{IsApart, at_hop, piece_request}
use Rattle.dn_gather.specs.Grounds.{IsSized, total}
use Rattle.dn_gather.proofs.Slots.{taken_in}
use Rattle.dn_gather.specs.Stands.{AreAt, CanStand, Enters, IsPartedFrom, Stands, are_parted_at}

-- the slots that a hop takes

tests_held : (u : UnitPart) (hop : Hop) (slot : ℕ) (b c d : Bool) → is_some (if b && (c && d) then Some (slot_record u both_rights hop slot) else None) ≡ true → (b ≡ true) × (c ≡ true) × (d ≡ true)
tests_held u hop slot true true true x = (refl, refl, refl)
tests_held u hop slot true true false x = cc
tests_held u hop slot true false d x = cc
tests_held u hop slot false c d x = cc

pub taken_from : (net : List NodeDecl) (u : UnitPart) (size : ℕ) (hop : Hop) (node slot : ℕ) → unit_at net hop.unit ≡ Some u → is_taken net size node slot hop ≡ true → (node ≡ hop.unit) × (first_slot u hop ≤ slot) × (slot ≤ last_slot u size hop)
taken_from net u size hop node slot is taken =
    let t = tests_held u hop slot (nat_eq node hop.unit) (nat_le (first_slot u hop) slot) (nat_le slot (last_slot u size hop)) (sym (ap (λ (o : Option UnitPart). is_some (hop_record_by o size both_rights hop node slot)) is) ∙ taken) in
    (eqb-true node hop.unit t.0, leb-true (first_slot u hop) slot t.1, leb-true slot (last_slot u size hop) t.2)

false_of : (b : Bool) → (b ≡ true → ⊥) → b ≡ false
false_of true f = absurd (f refl)
false_of false f = refl

never : true ≡ false → ⊥
never e = cc

-- two hops of a unit take no slot in common exactly where they are parted

abbrev ArePartedAt : ℕ → ℕ → ℕ → ℕ → ℕ → Type 0
ArePartedAt page x size z other =
    ((x + size - 1) / 2 ^ page < z / 2 ^ page) ⊎ ((z + other - 1) / 2 ^ page < x / 2 ^ page)

parted_yes : (page x size z other : ℕ) → are_parted_at page x size z other ≡ true → ArePartedAt page x size z other
parted_yes page x size z other e = by (or_cases (nat_lt ((x + size - 1) / 2 ^ page) (z / 2 ^ page)) (nat_lt ((z + other - 1) / 2 ^ page) (x / 2 ^ page)) e)
  where
    by : (nat_lt ((x + size - 1) / 2 ^ page) (z / 2 ^ page) ≡ true) ⊎ (nat_lt ((z + other - 1) / 2 ^ page) (x / 2 ^ page) ≡ true) → ArePartedAt page x size z other
    by (inl t) = inl (ltb-true ((x + size - 1) / 2 ^ page) (z / 2 ^ page) t)
    by (inr t) = inr (ltb-true ((z + other - 1) / 2 ^ page) (x / 2 ^ page) t)

parted_to : (page x size z other : ℕ) → ArePartedAt page x size z other → are_parted_at page x size z other ≡ true
parted_to page x size z other (inl l) = or_left (nat_lt ((x + size - 1) / 2 ^ page) (z / 2 ^ page)) (nat_lt ((z + other - 1) / 2 ^ page) (x / 2 ^ page)) (lt-ltb ((x + size - 1) / 2 ^ page) (z / 2 ^ page) l)
parted_to page x size z other (inr l) = or_right (nat_lt ((x + size - 1) / 2 ^ page) (z / 2 ^ page)) (nat_lt ((z + other - 1) / 2 ^ page) (x / 2 ^ page)) (lt-ltb ((z + other - 1) / 2 ^ page) (x / 2 ^ page) l)

parted_of : (net : List NodeDecl) (u : UnitPart) (size other : ℕ) (hop k : Hop) → unit_at net hop.unit ≡ Some u → k.unit ≡ hop.unit → 1 ≤ size → 1 ≤ other → ((node slot : ℕ) → is_taken net size node slot hop ≡ true → is_taken net other node slot k ≡ false) → ArePartedAt u.page hop.x size k.x other
parted_of net u size other hop k is same some more apart = by (cases_lt (last_slot u size hop) (first_slot u k)) (cases_lt (last_slot u other k) (first_slot u hop))
  where
    ordered : first_slot u hop ≤ last_slot u size hop
    ordered = div_mono (2 ^ u.page) hop.x (hop.x + size - 1) (pow_pos u.page) (omega arith)

    ordered' : first_slot u k ≤ last_slot u other k
    ordered' = div_mono (2 ^ u.page) k.x (k.x + other - 1) (pow_pos u.page) (omega arith)

    is' : unit_at net k.unit ≡ Some u
    is' = ap (unit_at net) same ∙ is

    both : (slot : ℕ) → first_slot u hop ≤ slot → slot ≤ last_slot u size hop → first_slot u k ≤ slot → slot ≤ last_slot u other k → ⊥
    both slot a b c d = never (sym (subst (λ (n : ℕ). is_taken net other n slot k ≡ true) same (taken_in net u other k slot is' c d)) ∙ apart hop.unit slot (taken_in net u size hop slot is a b))

    meet : first_slot u k ≤ last_slot u size hop → first_slot u hop ≤ last_slot u other k → (first_slot u hop ≤ first_slot u k) ⊎ (first_slot u k ≤ first_slot u hop) → ⊥
    meet a b (inl l) = both (first_slot u k) l a (omega arith) ordered'
    meet a b (inr l) = both (first_slot u hop) (omega arith) ordered l b

    order : (m n : ℕ) → (m ≤ n) ⊎ (n ≤ m)
    order m n = go (cases_lt m n)
      where
        go : (m < n) ⊎ (n ≤ m) → (m ≤ n) ⊎ (n ≤ m)
        go (inl l) = inl (omega arith)
        go (inr l) = inr l

    by : (last_slot u size hop < first_slot u k) ⊎ (first_slot u k ≤ last_slot u size hop) → (last_slot u other k < first_slot u hop) ⊎ (first_slot u hop ≤ last_slot u other k) → ArePartedAt u.page hop.x size k.x other
    by (inl l) o = inl l
    by (inr l) (inl m) = inr m
    by (inr l) (inr m) = absurd (meet l m (order (first_slot u hop) (first_slot u k)))

apart_of : (net : List NodeDecl) (u : UnitPart) (size other : ℕ) (hop k : Hop) → unit_at net hop.unit ≡ Some u → k.unit ≡ hop.unit → ArePartedAt u.page hop.x size k.x other → (node slot : ℕ) → is_taken net size node slot hop ≡ true → is_taken net other node slot k ≡ false
apart_of net u size other hop k is same parted node slot taken = false_of (is_taken net other node slot k) (λ also. by parted (taken_from net u size hop node slot is taken) (taken_from net u other k node slot (ap (unit_at net) same ∙ is) also))
  where
    by : ArePartedAt u.page hop.x size k.x other → (node ≡ hop.unit) × (first_slot u hop ≤ slot) × (slot ≤ last_slot u size hop) → (node ≡ k.unit) × (first_slot u k ≤ slot) × (slot ≤ last_slot u other k) → ⊥
    by (inl l) a b = let p = a.2 in let q = b.1 in omega (arith, l, p, q)
    by (inr l) a b = let p = a.1 in let q = b.2 in omega (arith, l, p, q)

-- the inputs of hops, and that all are in a unit

abbrev pub hop_inputs : List Hop → List ℕ
hop_inputs [] = []
hop_inputs (hop ∷ hops) = hop.x ∷ hop_inputs hops

abbrev pub AreIn : ℕ → List Hop → Type 0
AreIn unit [] = Unit {0}
AreIn unit (hop ∷ hops) = (hop.unit ≡ unit) × AreIn unit hops

abbrev pub HaveSizes : List Piece → Type 0
HaveSizes [] = Unit {0}
HaveSizes (p ∷ ps) = (1 ≤ p.size) × (p.base + p.size ≤ top + 1) × HaveSizes ps

pub have_sizes : (ps : List Piece) → All IsSized ps → HaveSizes ps
have_sizes [] all = tt
have_sizes (p ∷ ps) all = let s = all 0 p (omega arith) in (s.some, s.buffer, have_sizes ps (λ k d l. all (suc k) d (omega arith)))

pub parted_from : (net : List NodeDecl) (u : UnitPart) (unit size : ℕ) (hop : Hop) (ps : List Piece) (hops : List Hop) → unit_at net unit ≡ Some u → hop.unit ≡ unit → AreIn unit hops → 1 ≤ size → HaveSizes ps → IsApart net size hop ps hops → IsPartedFrom u.page hop.x size ps (hop_inputs hops)
parted_from net u unit size hop [] [] is same all some sizes apart = tt
parted_from net u unit size hop [] (k ∷ ks) is same all some sizes apart = absurd apart
parted_from net u unit size hop (q ∷ qs) [] is same all some sizes apart = absurd apart
parted_from net u unit size hop (q ∷ qs) (k ∷ ks) is same all some sizes apart =
    (parted_to u.page hop.x size k.x q.size (parted_of net u size q.size hop k (ap (unit_at net) same ∙ is) (all.0 ∙ sym same) some sizes.0 apart.0), parted_from net u unit size hop qs ks is same all.1 some sizes.2 apart.1)

pub apart_from : (net : List NodeDecl) (u : UnitPart) (unit size : ℕ) (hop : Hop) (ps : List Piece) (hops : List Hop) → unit_at net unit ≡ Some u → hop.unit ≡ unit → AreIn unit hops → IsPartedFrom u.page hop.x size ps (hop_inputs hops) → IsApart net size hop ps hops
apart_from net u unit size hop [] [] is same all parted = tt
apart_from net u unit size hop [] (k ∷ ks) is same all parted = absurd parted
apart_from net u unit size hop (q ∷ qs) [] is same all parted = absurd parted
apart_from net u unit size hop (q ∷ qs) (k ∷ ks) is same all parted =
    (apart_of net u size q.size hop k (ap (unit_at net) same ∙ is) (all.0 ∙ sym same) (parted_yes u.page hop.x size k.x q.size parted.0), apart_from net u unit size hop qs ks is same all.1 parted.1)

-- one hop by itself

-- a hop of a unit whose placement is known
pub joins_of : (net : List NodeDecl) (slots : Slots) (rq : Request) (v : ℕ) (hop : Hop) → IsPlacement net slots rq (at_hop v hop) → Joins net slots rq hop []
joins_of net slots rq v hop p = p.leads.0

-- the blocks of the output of a hop that is admissible by itself show no more than the buffer
pub suited_lone : (net : List NodeDecl) (slots : Slots) (u : UnitPart) (agent unit : ℕ) (rights : Rights) (p : Piece) (v : ℕ) (hop : Hop) → IsLegalNet net → AreHeld net slots.held → ((node slot : ℕ) → IsTrue (slots.is_free node slot) → slots.held node slot ≡ None) → IsTrue (are_rights rights) → IsTrue (is_agent_at (slice_get net agent)) → p.base + p.size ≤ top + 1 → unit_at net unit ≡ Some u → IsSuitedHop net slots (piece_request agent rights p) unit v hop → IsLone net u (piece_request agent rights p) hop.port hop.y
suited_lone net slots u agent unit rights p v hop legal held empty are is_agent buffer is s node block at blocks b =
    (ready net slots (piece_request agent rights p) None legal held empty are is_agent s.placed.some buffer).whole (at_hop v hop) block [] hop u node b.place b.address (name_of_end b.name)
    (record { is_placement = s.placed; admissible = s.admissible; is_at = tt }) refl blocks (ap (unit_at net) s.in_unit ∙ is) at b.below b.inside b.apart b.resolves

-- what a hop that is admissible by itself tells of its input
pub suited_stands : (net : List NodeDecl) (kinds : List Meaning) (set : List NodeTable) (u : UnitPart) (agent unit : ℕ) (rights : Rights) (p : Piece) (v : ℕ) (hop : Hop) → IsLegalNet net → AreHeld net (slots_of_set kinds set).held → ((node slot : ℕ) → IsTrue ((slots_of_set kinds set).is_free node slot) → (slots_of_set kinds set).held node slot ≡ None) → IsTrue (are_rights rights) → IsTrue (is_agent_at (slice_get net agent)) → p.base + p.size ≤ top + 1 → unit_at net unit ≡ Some u → IsSuitedHop net (slots_of_set kinds set) (piece_request agent rights p) unit v hop → CanStand net set u agent unit rights p v hop.x
suited_stands net kinds set u agent unit rights p v hop legal held empty are is_agent buffer is s = record {
  stands = record {
    some = s.placed.some;
    fits = s.placed.fits;
    within = subst (λ (w : UnitPart). hop.x + p.size ≤ w.slots * 2 ^ w.page) same j.fits.within;
    enters = subst (λ (n : ℕ). Enters net agent v p.size n hop.x) s.in_unit s.placed.meets;
    free = λ slot a b. subst (λ (n : ℕ). is_free_in set n slot ≡ true) s.in_unit (own slot a b);
  };
  port = hop.port;
  y = hop.y;
  gives = record { node = j.fits.node; is_port = subst (λ (w : UnitPart). slice_get w.ports hop.port ≡ Some j.fits.node) same j.fits.is_port; reached = subst (λ (w : UnitPart). hop.y + p.size ≤ 2 ^ w.reach) same j.fits.reached; meets = j.meets };
  lone = suited_lone net (slots_of_set kinds set) u agent unit rights p v hop legal held empty are is_agent buffer is s;
  agree = subst (λ (w : UnitPart). hop.x % 2 ^ w.page ≡ hop.y % 2 ^ w.page) same j.fits.agree;
  alone = λ i l c. crowd i l (subst (λ (n : ℕ). IsCrowded net (name_on n hop.x i)) (sym s.in_unit) c);
}
  where
    slots : Slots
    slots = slots_of_set kinds set

    rq : Request
    rq = piece_request agent rights p

    j : Joins net slots rq hop []
    j = joins_of net slots rq v hop s.placed

    same : j.unit ≡ u
    same = same_Some j.unit u (sym j.is_unit ∙ ap (unit_at net) s.in_unit ∙ is)

    own : (slot : ℕ) → hop.x / 2 ^ u.page ≤ slot → slot ≤ (hop.x + p.size - 1) / 2 ^ u.page → is_free_in set hop.unit slot ≡ true
    own slot a b = subst (λ (k : Hop). IsFreeHop net slots rq k) (sym (same_Some hop s.placed.own s.placed.is_own)) s.placed.free u (ap (unit_at net) s.in_unit ∙ is) slot a b

    alone : (i : ℕ) → i < p.size → (w : Name) → IsTrue (is_agent_at (slice_get net w.node)) → StopsAt net w (name_on hop.unit hop.x i) → w ≡ name_on agent v i
    alone i l w there stop = reached_alone net slots rq (at_hop v hop) legal held are empty is_agent s.placed s.admissible i l (name_on hop.unit hop.x i) w (s.placed.meets i l) there stop

    crowd : (i : ℕ) → i < p.size → IsCrowded net (name_on hop.unit hop.x i) → ⊥
    crowd i l c = c.differ (alone i l c.one c.one_agent c.one_stops ∙ sym (alone i l c.other c.other_agent c.other_stops))

-- a piece that stands at an input is placed by each output that gives it and agrees
pub stands_placed : (net : List NodeDecl) (kinds : List Meaning) (set : List NodeTable) (u : UnitPart) (agent unit : ℕ) (rights : Rights) (p : Piece) (v x port y : ℕ) → unit_at net unit ≡ Some u → 1 ≤ p.size → Stands net set u agent unit v p.size x → IsExit net u (piece_request agent rights p) port y → x % 2 ^ u.page ≡ y % 2 ^ u.page → IsPlacement net (slots_of_set kinds set) (piece_request agent rights p) (at_hop v (record { unit = unit; port = port; x = x; y = y }))
stands_placed net kinds set u agent unit rights p v x port y is some s e agree = record {
  some = some;
  fits = s.fits;
  least = omega arith;
  most = omega arith;
  meets = s.enters;
  leads = (record { unit = u; is_unit = is; fits = record { node = e.node; is_port = e.is_port; agree = agree; within = s.within; reached = e.reached }; usable = λ slot a b. is_free (s.free slot a b); meets = e.meets }, tt);
  own = record { unit = unit; port = port; x = x; y = y };
  is_own = refl;
  free = λ w at slot a b. free w (same_Some w u (sym at ∙ is)) slot a b;
}
  where
    hop : Hop
    hop = record { unit = unit; port = port; x = x; y = y }

    free : (w : UnitPart) → w ≡ u → (slot : ℕ) → first_slot w hop ≤ slot → slot ≤ last_slot w p.size hop → is_free_in set unit slot ≡ true
    free w e slot a b = s.free slot (subst (λ (q : UnitPart). first_slot q hop ≤ slot) e a) (subst (λ (q : UnitPart). slot ≤ last_slot q p.size hop) e b)

-- hops that are admissible piece by piece are in the unit, and their pieces can stand at their inputs
pub suited_in : (net : List NodeDecl) (slots : Slots) (agent : ℕ) (rights : Rights) (unit v : ℕ) (ps : List Piece) (hops : List Hop) → AreSuitedHops net slots agent rights unit v ps hops → AreIn unit hops
suited_in net slots agent rights unit v [] [] s = tt
suited_in net slots agent rights unit v [] (h ∷ hops) s = absurd s
suited_in net slots agent rights unit v (p ∷ ps) [] s = absurd s
suited_in net slots agent rights unit v (p ∷ ps) (h ∷ hops) s = (s.0.in_unit, suited_in net slots agent rights unit (v + p.size) ps hops s.2)

pub suited_at : (net : List NodeDecl) (kinds : List Meaning) (set : List NodeTable) (u : UnitPart) (agent unit : ℕ) (rights : Rights) (ps : List Piece) (v : ℕ) (hops : List Hop) → IsLegalNet net → AreHeld net (slots_of_set kinds set).held → ((node slot : ℕ) → IsTrue ((slots_of_set kinds set).is_free node slot) → (slots_of_set kinds set).held node slot ≡ None) → IsTrue (are_rights rights) → IsTrue (is_agent_at (slice_get net agent)) → unit_at net unit ≡ Some u → HaveSizes ps → AreSuitedHops net (slots_of_set kinds set) agent rights unit v ps hops → AreAt (CanStand net set u agent unit rights) u.page v ps (hop_inputs hops)
suited_at net kinds set u agent unit rights [] v [] legal held empty are is_agent is sizes s = tt
suited_at net kinds set u agent unit rights [] v (h ∷ hops) legal held empty are is_agent is sizes s = absurd s
suited_at net kinds set u agent unit rights (p ∷ ps) v [] legal held empty are is_agent is sizes s = absurd s
suited_at net kinds set u agent unit rights (p ∷ ps) v (h ∷ hops) legal held empty are is_agent is sizes s = (
  suited_stands net kinds set u agent unit rights p v h legal held empty are is_agent sizes.1 is s.0,
  parted_from net u unit p.size h ps hops is s.0.in_unit (suited_in net (slots_of_set kinds set) agent rights unit (v + p.size) ps hops s.2) sizes.0 sizes.2 s.1,
  suited_at net kinds set u agent unit rights ps (v + p.size) hops legal held empty are is_agent is sizes.2 s.2,
)

-- the hop of one of the pieces serves it
pub record SuitedItem (net : List NodeDecl) (slots : Slots) (rq : Request) (unit v : ℕ) : Type 0 where
  pub hop : Hop
  pub suited : IsSuitedHop net slots rq unit v hop

pub suited_item : (net : List NodeDecl) (slots : Slots) (agent : ℕ) (rights : Rights) (unit v : ℕ) (ps : List Piece) (hops : List Hop) (i : ℕ) (d : Piece) → AreSuitedHops net slots agent rights unit v ps hops → i < length ps → SuitedItem net slots (piece_request agent rights (get_or ps i d)) unit (v + total (take i ps))
suited_item net slots agent rights unit v [] hops i d s l = absurd (omega arith)
suited_item net slots agent rights unit v (p ∷ ps) [] i d s l = absurd s
suited_item net slots agent rights unit v (p ∷ ps) (h ∷ hops) zero d s l = record { hop = h; suited = subst (λ n. IsSuitedHop net slots (piece_request agent rights p) unit n h) (none v) s.0 }
  where
    none : (v : ℕ) → v ≡ v + 0
    none v = omega arith
suited_item net slots agent rights unit v (p ∷ ps) (h ∷ hops) (suc i) d s l =
    let r = suited_item net slots agent rights unit (v + p.size) ps hops i d s.2 (omega arith) in
    record { hop = r.hop; suited = subst (λ n. IsSuitedHop net slots (piece_request agent rights (get_or ps i d)) unit n r.hop) (moved v p.size (total (take i ps))) r.suited }
  where
    moved : (v a b : ℕ) → v + a + b ≡ v + (a + b)
    moved v a b = omega arith

-- the first hops of pieces are in the unit
pub first_in : (net : List NodeDecl) (slots : Slots) (agent : ℕ) (rights : Rights) (unit v : ℕ) (ps : List Piece) (hops : List Hop) → AreFirstHops net slots agent rights unit v ps hops → AreIn unit hops
first_in net slots agent rights unit v [] [] s = tt
first_in net slots agent rights unit v [] (h ∷ hops) s = absurd s
first_in net slots agent rights unit v (p ∷ ps) [] s = absurd s
first_in net slots agent rights unit v (p ∷ ps) (h ∷ hops) s = (s.0.suited.in_unit, first_in net slots agent rights unit (v + p.size) ps hops s.2)

-- the first hop of one more piece, before those of the pieces after it
pub first_more : (net : List NodeDecl) (slots : Slots) (u : UnitPart) (agent : ℕ) (rights : Rights) (unit v : ℕ) (p : Piece) (ps : List Piece) (hop : Hop) (hops : List Hop) → unit_at net unit ≡ Some u → IsFirstHop net slots (piece_request agent rights p) unit v hop → IsPartedFrom u.page hop.x p.size ps (hop_inputs hops) → AreFirstHops net slots agent rights unit (v + p.size) ps hops → AreFirstHops net slots agent rights unit v (p ∷ ps) (hop ∷ hops)
first_more net slots u agent rights unit v p ps hop hops is first parted rest =
    (first, apart_from net u unit p.size hop ps hops is first.suited.in_unit (first_in net slots agent rights unit (v + p.size) ps hops rest) parted, rest)

-- so at the inputs of all
pub first_before : (net : List NodeDecl) (slots : Slots) (u : UnitPart) (agent : ℕ) (rights : Rights) (unit a x : ℕ) (p : Piece) (ps : List Piece) (hop : Hop) (hops : List Hop) (rest : List ℕ) → unit_at net unit ≡ Some u → IsFirstHop net slots (piece_request agent rights p) unit a hop → hop.x ≡ x → hop_inputs hops ≡ rest → IsPartedFrom u.page x p.size ps rest → AreFirstHops net slots agent rights unit (a + p.size) ps hops → AreFirstHops net slots agent rights unit a (p ∷ ps) (hop ∷ hops)
first_before net slots u agent rights unit a x p ps hop hops rest is first here others parted at =
    first_more net slots u agent rights unit a p ps hop hops is first
    (subst (λ (n : ℕ). IsPartedFrom u.page n p.size ps (hop_inputs hops)) (sym here) (subst (λ (ns : List ℕ). IsPartedFrom u.page x p.size ps ns) (sym others) parted)) at
