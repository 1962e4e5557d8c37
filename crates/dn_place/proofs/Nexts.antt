-- The next hop of placements that end with some hops.
use Rattle.std.proofs.Common.{◌≡◌, ℕ, suc, ◌+◌, ◌-◌, ◌*◌, ◌/◌, ◌%◌, ◌^◌, ◌<◌, ◌≤◌, ◌⊎◌, inl, inr, Bool, true, false, List, [], ◌∷◌, ◌++◌, length, slice_get, get_or, Option, Some, None, IsTrue, refl, sym, ap, ◌∙◌, subst, arith, append_assoc, length-append}
use Rattle.std.proofs.lemmas.Bool.{cases_lt, false≢true}
use Rattle.std.proofs.lemmas.Option.{slice_get-get_or}
use Rattle.std.proofs.lemmas.Nat.{pow_pos, le-div}
use Rattle.std.proofs.Math.Nat.{mul-le-mul_left, mul-le-mul_right, add-mod_right, mod-add-div', div-mul-le_self}
use Rattle.dn_tables.specs.declared.placement.Hop.{Hop}
use Rattle.dn_tables.specs.Placement.{Place}
use Rattle.dn_place.specs.Sought.{HasUnitBounds, IsSearchReady, IsSeenStop, Sought}
use Rattle.dn_net.specs.declared.node.Unit.{Unit as UnitPart}
use Rattle.dn_placement.specs.Keys.{Begins}
use Rattle.dn_placement.specs.Order.{IsAt, hop_page, hops_key, key_of}
use Rattle.dn_placement.specs.Placement.{Joins, Leads, Meets, name_on}
use Rattle.dn_placement.proofs.Hops.{numbers}
use Rattle.dn_placement.proofs.Keys.{append_none, cancel, one_more}
use Rattle.dn_flat.specs.Crowds.{IsCrowded}
use Rattle.dn_place.specs.Blocks.{HasBlocks}
use Rattle.dn_place.specs.Slots.{AreBarred, AreRun, AreShut, AreUsable, HasCrowd, HasSeenStop, IsUseless, slot_of}
use Rattle.dn_place.specs.Candidates.{IsUnder, NoneUnder, IsChosen, key_of_hops, to_unit, to_port, to_output}
use Rattle.dn_place.proofs.Openings.{Opened, opened}
use Rattle.dn_place.proofs.Wholes.{whole}
use Rattle.dn_place.proofs.Usable.{barred_unusable, is_usable, usable_is}
use Rattle.dn_place.specs.Marks.{mark_at, AreMarked, IsEntry}
use Rattle.dn_interval.specs.declared.row.End.{End}
use Rattle.dn_net.specs.declared.node.NodeDecl.{NodeDecl}
use Rattle.dn_net.specs.declared.node.Name.{Name}
use Rattle.dn_net.specs.Decode.{top, unit_at, Resolves, StopsAt}
use Rattle.dn_place.proofs.Marked.{marked_hop}

-- a placement's next hop, whose numbers begin so
pub record Next (s : Sought) (count : ℕ) (hops : List Hop) (q : Place) (given : List ℕ) : Type 0 where
  pub opens : Opened s hops q (key_of_hops count hops)
  pub rest : List ℕ
  pub split : numbers opens.hop opens.rest ≡ given ++ rest

pub next_of : (s : Sought) (count : ℕ) (hops : List Hop) (q : Place) (given : List ℕ) → length hops < count → IsUnder s (key_of_hops count hops ++ given) q → Next s count hops q given
next_of s count hops q given l u = record {
  opens = w;
  rest = u.begins.0;
  split = cancel (key_of_hops count hops) (numbers w.hop w.rest) (given ++ u.begins.0) (sym w.key ∙ key);
}
  where
    key : key_of s.net q ≡ key_of_hops count hops ++ (given ++ u.begins.0)
    key = u.begins.1 ∙ append_assoc (key_of_hops count hops) given u.begins.0

    w : Opened s hops q (key_of_hops count hops)
    w = opened s count hops q l (record { is = u.is; begins = (given ++ u.begins.0, key) })

-- what a hop joins, where its unit is known
pub record JoinsIn (s : Sought) (u : UnitPart) (hop : Hop) (nearer : List Hop) : Type 0 where
  pub node : ℕ
  pub is_port : slice_get u.ports hop.port ≡ Some node
  pub agree : hop.x % 2 ^ u.page ≡ hop.y % 2 ^ u.page
  pub within : hop.x + s.request.size ≤ u.slots * 2 ^ u.page
  pub reached : hop.y + s.request.size ≤ 2 ^ u.reach
  pub usable : AreUsable s.slots hop.unit (hop.x / 2 ^ u.page) ((hop.x + s.request.size - 1) / 2 ^ u.page) hop.port (hop.y / 2 ^ u.page)
  pub meets : Meets s.net s.request node hop.y nearer

pub joins_in : (s : Sought) (u : UnitPart) (hop : Hop) (nearer : List Hop) → unit_at s.net hop.unit ≡ Some u → Joins s.net s.slots s.request hop nearer → JoinsIn s u hop nearer
joins_in s u hop nearer e w = subst (λ (v : UnitPart). JoinsIn s v hop nearer) same (record { node = w.fits.node; is_port = w.fits.is_port; agree = w.fits.agree; within = w.fits.within; reached = w.fits.reached; usable = λ q a b. usable_is s.slots w.unit hop q (w.usable q a b); meets = w.meets })
  where
    some : (a b : UnitPart) → Some a ≡ Some b → a ≡ b
    some a b p = cc

    same : w.unit ≡ u
    same = some w.unit u (sym w.is_unit ∙ e)

-- by unit

pub unit_of : (s : Sought) (count : ℕ) (hops : List Hop) (q : Place) (unit : ℕ) → (w : Next s count hops q (unit ∷ [])) → w.opens.hop.unit ≡ unit
unit_of s count hops q unit w = heads w.opens.hop.unit unit (w.opens.hop.port ∷ w.opens.hop.y ∷ w.opens.hop.x ∷ w.opens.rest) w.rest w.split
  where
    heads : (a d : ℕ) (m r : List ℕ) → (a ∷ m) ≡ (d ∷ r) → a ≡ d
    heads a d m r p = cc

-- a placement goes on with a unit
pub unit_next : (s : Sought) (count : ℕ) (hops : List Hop) (q : Place) → length hops < count → IsUnder s (key_of_hops count hops) q → (j : ℕ) × (x : UnitPart) × (unit_at s.net j ≡ Some x) × Begins (key_of_hops count hops ++ j ∷ []) (key_of s.net q)
unit_next s count hops q l u =
    let w = next_of s count hops q [] l (subst (λ f. IsUnder s f q) (sym (append_none (key_of_hops count hops))) u) in
    (w.opens.hop.unit, w.opens.joins.unit, w.opens.joins.is_unit, (w.opens.hop.port ∷ w.opens.hop.y ∷ w.opens.hop.x ∷ w.opens.rest, w.opens.key ∙ sym (one_more (key_of_hops count hops) w.opens.hop.unit (w.opens.hop.port ∷ w.opens.hop.y ∷ w.opens.hop.x ∷ w.opens.rest))))

pub no_unit : (s : Sought) (count : ℕ) (hops : List Hop) (unit : ℕ) → length hops < count → unit_at s.net unit ≡ None → NoneUnder s (to_unit count hops unit)
no_unit s count hops unit l e = record { none = λ q u. let w = next_of s count hops q (unit ∷ []) l u in absurd (never w.opens.joins.unit (sym w.opens.joins.is_unit ∙ ap (unit_at s.net) (unit_of s count hops q unit w) ∙ e)) }
  where
    never : (u : UnitPart) → Some u ≡ None → ⊥
    never u p = cc

-- by port

-- by output

parts : (a b d e : ℕ) (m r : List ℕ) → (a ∷ b ∷ m) ≡ (d ∷ e ∷ r) → (a ≡ d) × (b ≡ e) × (m ≡ r)
parts a b d e m r p = (cc, cc, cc)

-- a hop of a unit and a port
pub record Through (s : Sought) (u : UnitPart) (hops : List Hop) (unit port y x : ℕ) : Type 0 where
  pub joins : JoinsIn s u (record { unit = unit; port = port; x = x; y = y }) hops

renamed : (s : Sought) (u : UnitPart) (hops : List Hop) (hop : Hop) (unit port y : ℕ) → hop.unit ≡ unit → hop.port ≡ port → hop.y ≡ y → JoinsIn s u hop hops → Through s u hops unit port y hop.x
renamed s u hops hop unit port y a b c j = record { joins = subst (λ (k : Hop). JoinsIn s u k hops) (made hop.unit unit hop.port port hop.x hop.y y a b c) j }
  where
    made : (m m' p p' x n n' : ℕ) → m ≡ m' → p ≡ p' → n ≡ n' → ◌≡◌ {A = Hop} (record { unit = m; port = p; x = x; y = n }) (record { unit = m'; port = p'; x = x; y = n' })
    made m m' p p' x n n' a b c = cc

pub record Port (s : Sought) (u : UnitPart) (hops : List Hop) (q : Place) (unit port : ℕ) (front : List ℕ) : Type 0 where
  pub y : ℕ
  pub x : ℕ
  pub through : Through s u hops unit port y x
  pub rest : List ℕ
  pub key : key_of s.net q ≡ front ++ (y ∷ x ∷ rest)

pub through_port : (s : Sought) (count : ℕ) (hops : List Hop) (q : Place) (unit port : ℕ) (u : UnitPart) → length hops < count → unit_at s.net unit ≡ Some u → IsUnder s (to_port count hops unit port) q → Port s u hops q unit port (to_port count hops unit port)
through_port s count hops q unit port u l e v = record {
  y = w.opens.hop.y;
  x = w.opens.hop.x;
  through = renamed s u hops w.opens.hop unit port w.opens.hop.y same.0 same.1 refl (joins_in s u w.opens.hop hops (ap (unit_at s.net) same.0 ∙ e) w.opens.joins);
  rest = w.opens.rest;
  key = w.opens.key ∙ ap (λ n. key_of_hops count hops ++ (n ∷ w.opens.hop.port ∷ w.opens.hop.y ∷ w.opens.hop.x ∷ w.opens.rest)) same.0 ∙ ap (λ n. key_of_hops count hops ++ (unit ∷ n ∷ w.opens.hop.y ∷ w.opens.hop.x ∷ w.opens.rest)) same.1 ∙ sym (one_more (to_unit count hops unit) port (w.opens.hop.y ∷ w.opens.hop.x ∷ w.opens.rest) ∙ one_more (key_of_hops count hops) unit (port ∷ w.opens.hop.y ∷ w.opens.hop.x ∷ w.opens.rest));
}
  where
    w : Next s count hops q (unit ∷ port ∷ [])
    w = next_of s count hops q (unit ∷ port ∷ []) l (subst (λ f. IsUnder s f q) (one_more (key_of_hops count hops) unit (port ∷ [])) v)

    same : (w.opens.hop.unit ≡ unit) × (w.opens.hop.port ≡ port) × (w.opens.hop.y ∷ w.opens.hop.x ∷ w.opens.rest ≡ w.rest)
    same = parts w.opens.hop.unit w.opens.hop.port unit port (w.opens.hop.y ∷ w.opens.hop.x ∷ w.opens.rest) w.rest w.split

pub weaker : (s : Sought) (front : List ℕ) (j : ℕ) (q : Place) → IsUnder s (front ++ j ∷ []) q → IsUnder s front q
weaker s front j q u = record { is = u.is; begins = (j ∷ u.begins.0, u.begins.1 ∙ one_more front j u.begins.0) }

goes_by : (front : List ℕ) (a j : ℕ) (m r key : List ℕ) → key ≡ front ++ (a ∷ m) → key ≡ (front ++ j ∷ []) ++ r → (a ≡ j) × (m ≡ r)
goes_by front a j m r key e f = tails (cancel front (a ∷ m) (j ∷ r) (sym e ∙ f ∙ one_more front j r))
  where
    tails : (a ∷ m) ≡ (j ∷ r) → (a ≡ j) × (m ≡ r)
    tails p = (cc, cc)

-- a hop of a unit, a port and an output
pub record Output (s : Sought) (u : UnitPart) (hops : List Hop) (q : Place) (unit port y : ℕ) (front : List ℕ) : Type 0 where
  pub x : ℕ
  pub through : Through s u hops unit port y x
  pub rest : List ℕ
  pub key : key_of s.net q ≡ front ++ (x ∷ rest)

pub through_output : (s : Sought) (count : ℕ) (hops : List Hop) (q : Place) (unit port y : ℕ) (u : UnitPart) → length hops < count → unit_at s.net unit ≡ Some u → IsUnder s (to_output count hops unit port y) q → Output s u hops q unit port y (to_output count hops unit port y)
through_output s count hops q unit port y u l e v = record {
  x = w.x;
  through = subst (λ (n : ℕ). Through s u hops unit port n w.x) same.0 w.through;
  rest = w.rest;
  key = w.key ∙ ap (λ n. to_port count hops unit port ++ (n ∷ w.x ∷ w.rest)) same.0 ∙ sym (one_more (to_port count hops unit port) y (w.x ∷ w.rest));
}
  where
    w : Port s u hops q unit port (to_port count hops unit port)
    w = through_port s count hops q unit port u l e (weaker s (to_port count hops unit port) y q v)

    same : (w.y ≡ y) × (w.x ∷ w.rest ≡ v.begins.0)
    same = goes_by (to_port count hops unit port) w.y y (w.x ∷ w.rest) v.begins.0 (key_of s.net q) w.key v.begins.1

-- an output in whose blocks an address beside the buffer resolves to something, where no hop follows
pub not_whole : (s : Sought) (count unit port node y block i a : ℕ) (z : Name) (u : UnitPart) → IsSearchReady s → HasBlocks s.net block → 0 < count → unit_at s.net unit ≡ Some u → slice_get u.ports port ≡ Some node → i < s.request.size → a / 2 ^ block ≡ (y + i) / 2 ^ block → ((j : ℕ) → j < s.request.size → a ≡ y + j → ⊥) → Resolves s.net (record { node = node; addr = a }) z → NoneUnder s (to_output count [] unit port y)
not_whole s count unit port node y block i a z u ready blocks l e p few at beside r = record { none = never }
  where
    heads : (b c d b' c' d' : ℕ) (m n : List ℕ) → (b ∷ c ∷ d ∷ m) ≡ (b' ∷ c' ∷ d' ∷ n) → (b ≡ b') × (c ≡ c') × (d ≡ d')
    heads b c d b' c' d' m n f = (cc, cc, cc)

    never : (q : Place) → IsUnder s (to_output count [] unit port y) q → ⊥
    never q v =
        let front : to_output count [] unit port y ≡ key_of_hops count [] ++ (unit ∷ port ∷ y ∷ []) = one_more (to_unit count [] unit) port (y ∷ []) ∙ one_more (key_of_hops count []) unit (port ∷ y ∷ []) in
        let w : Next s count [] q (unit ∷ port ∷ y ∷ []) = next_of s count [] q (unit ∷ port ∷ y ∷ []) l (subst (λ f. IsUnder s f q) front v) in
        let hop : Hop = w.opens.hop in
        let same = heads hop.unit hop.port hop.y unit port y (hop.x ∷ w.opens.rest) w.rest w.split in
        ready.whole q block w.opens.before hop u node i a z v.is w.opens.ends blocks (ap (unit_at s.net) same.0 ∙ e) (ap (slice_get u.ports) same.1 ∙ p) few (at ∙ ap (λ n. (n + i) / 2 ^ block) (sym same.2)) (λ j m f. beside j m (f ∙ ap (λ n. n + j) same.2)) r

-- by input

pub x_of : (s : Sought) (count : ℕ) (hops : List Hop) (unit port y x : ℕ) (u : UnitPart) → length hops < count → unit_at s.net unit ≡ Some u → (q : Place) → IsUnder s (to_output count hops unit port y ++ x ∷ []) q → Through s u hops unit port y x
x_of s count hops unit port y x u l e q v = subst (λ (n : ℕ). Through s u hops unit port y n) (goes_by (to_output count hops unit port y) w.x x w.rest v.begins.0 (key_of s.net q) w.key v.begins.1).0 w.through
  where
    w : Output s u hops q unit port y (to_output count hops unit port y)
    w = through_output s count hops q unit port y u l e (weaker s (to_output count hops unit port y) x q v)

-- between a number and the next that agrees with it none agrees
pub between : (x j p : ℕ) → 0 < p → x + 1 ≤ j → j < x + p → j % p ≡ x % p → ⊥
between x j p z a b c = by_quotient (cases_lt (x / p) (j / p))
  where
    by_quotient : (x / p < j / p) ⊎ (j / p ≤ x / p) → ⊥
    by_quotient (inl m) = let n : x / p + 1 ≤ j / p = omega arith in omega (arith, mul-le-mul_left p n)
    by_quotient (inr m) = omega (arith, mul-le-mul_left p m)

-- the hop is chosen
pub behind : (count : ℕ) (hops : List Hop) (unit port y x : ℕ) → to_output count hops unit port y ++ x ∷ [] ≡ key_of_hops count (record { unit = unit; port = port; x = x; y = y } ∷ hops)
behind count hops unit port y x = one_more (to_port count hops unit port) y (x ∷ []) ∙ one_more (to_unit count hops unit) port (y ∷ x ∷ []) ∙ one_more (key_of_hops count hops) unit (port ∷ y ∷ x ∷ [])

pub chosen_on : (s : Sought) (count : ℕ) (hops : List Hop) (unit port y x : ℕ) (u : UnitPart) → IsChosen s count hops → length hops < count → unit_at s.net unit ≡ Some u → port < length u.ports → x % 2 ^ u.page ≡ y % 2 ^ u.page → x + s.request.size ≤ u.slots * 2 ^ u.page → y + s.request.size ≤ 2 ^ u.reach → AreUsable s.slots unit (x / 2 ^ u.page) ((x + s.request.size - 1) / 2 ^ u.page) port (y / 2 ^ u.page) → ((n : ℕ) → slice_get u.ports port ≡ Some n → Meets s.net s.request n y hops) → IsChosen s count (record { unit = unit; port = port; x = x; y = y } ∷ hops)
chosen_on s count hops unit port y x u chosen l e p agree within reached usable meets = record {
  leads = (record { unit = u; is_unit = e; fits = record { node = get_or u.ports port 0; is_port = there; agree = agree; within = within; reached = reached }; usable = λ q a b. is_usable s.slots u (record { unit = unit; port = port; x = x; y = y }) q (usable q a b); meets = meets (get_or u.ports port 0) there }, chosen.leads);
  most = chosen.most;
  within = omega arith;
}
  where
    there : slice_get u.ports port ≡ Some (get_or u.ports port 0)
    there = slice_get-get_or u.ports port 0 p

pub node_there : (net : List NodeDecl) (port : ℕ) (u : UnitPart) → HasUnitBounds net u → port < length u.ports → get_or u.ports port 0 < length net
node_there net port u f p = f.there port (get_or u.ports port 0) (slice_get-get_or u.ports port 0 p)

pub next_agrees : (x p : ℕ) → 0 < p → (x + p) % p ≡ x % p
next_agrees x p z = add-mod_right x p

pub port_read : (items ports : List ℕ) (i port : ℕ) → items ≡ ports → i ≡ port → port < length ports → slice_get ports port ≡ Some (get_or items i 0)
port_read items ports i port e f l = slice_get-get_or ports port 0 l ∙ ap (λ n. Some n) (sym (ap (λ l. get_or l i 0) e ∙ ap (λ k. get_or ports k 0) f))

-- a unit that has no mark for the next hop's place
pub unmarked : (s : Sought) (count : ℕ) (hops : List Hop) (unit place : ℕ) (first second third : List Bool) → IsSearchReady s → AreMarked s.net s.request.agent first second third → length hops < count → count ≤ 3 → place ≡ count - length hops → mark_at first second third place unit ≡ false → NoneUnder s (to_unit count hops unit)
unmarked s count hops unit place first second third ready m l most e f = record { none = λ q u. absurd (go q u (next_of s count hops q (unit ∷ []) l u)) }
  where
    key_head : (a d : ℕ) (x y : List ℕ) → (a ∷ x) ≡ (d ∷ y) → a ≡ d
    key_head a d x y p = cc

    go : (q : Place) → IsUnder s (to_unit count hops unit) q → Next s count hops q (unit ∷ []) → ⊥
    go q u w =
        let number : length q.hops ≡ count = key_head (length q.hops) count (hops_key q.hops ++ (q.v ∷ hop_page s.net (slice_get q.hops q.own) ∷ (length q.hops - q.own) ∷ [])) (hops_key hops ++ numbers w.opens.hop w.opens.rest) w.opens.key in
        let long : length q.hops ≡ length w.opens.before + suc (length hops) = ap length w.opens.ends ∙ length-append w.opens.before (w.opens.hop ∷ hops) in
        let here : place ≡ suc (length w.opens.before) = omega arith in
        let p = u.is.is_placement in
        false≢true (sym f ∙ ap (λ n. mark_at first second third n unit) here ∙ ap (mark_at first second third (suc (length w.opens.before))) (sym (unit_of s count hops q unit w)) ∙ marked_hop s first second third q.v w.opens.before w.opens.hop hops ready p.fits m (subst (λ (h : List Hop). Meets s.net s.request s.request.agent q.v h) w.opens.ends p.meets) (subst (λ (h : List Hop). Leads s.net s.slots s.request h) w.opens.ends p.leads) (omega arith))

-- a placement ends with the chosen hops
pub ends_with : (s : Sought) (count : ℕ) (hops : List Hop) (q : Place) → length hops ≤ count → IsUnder s (key_of_hops count hops) q → (before : List Hop) × (q.hops ≡ before ++ hops)
ends_with s count hops q l u = go (cases_lt (length hops) count)
  where
    all : length hops ≡ count → q.hops ≡ hops
    all e = (whole s hops q [] (subst (λ f. IsUnder s f q) (ap (λ n. key_of_hops n hops) (sym e) ∙ sym (append_none (key_of_hops (length hops) hops))) u)).same

    go : (length hops < count) ⊎ (count ≤ length hops) → (before : List Hop) × (q.hops ≡ before ++ hops)
    go (inl m) = let w = next_of s count hops q [] m (subst (λ f. IsUnder s f q) (sym (append_none (key_of_hops count hops))) u) in (w.opens.before ++ w.opens.hop ∷ [], w.opens.ends ∙ sym (append_assoc w.opens.before (w.opens.hop ∷ []) hops))
    go (inr m) = ([], all (omega arith))

-- the placement has so many hops
hops_counted : (s : Sought) (count : ℕ) (hops : List Hop) (q : Place) (given : List ℕ) → (w : Next s count hops q given) → length q.hops ≡ count
hops_counted s count hops q given w = key_head (length q.hops) count (hops_key q.hops ++ (q.v ∷ hop_page s.net (slice_get q.hops q.own) ∷ (length q.hops - q.own) ∷ [])) (hops_key hops ++ numbers w.opens.hop w.opens.rest) w.opens.key
  where
    key_head : (a d : ℕ) (m r : List ℕ) → (a ∷ m) ≡ (d ∷ r) → a ≡ d
    key_head a d m r p = cc

-- the hop of a placement before all others that are chosen, where it is the first from the agent's end
pub first_hop : (s : Sought) (count : ℕ) (hops : List Hop) (q : Place) (given : List ℕ) → count ≡ suc (length hops) → (w : Next s count hops q given) → q.hops ≡ w.opens.hop ∷ hops
first_hop s count hops q given one w =
    let number : length q.hops ≡ count = hops_counted s count hops q given w in
    let long : length q.hops ≡ length w.opens.before + suc (length hops) = ap length w.opens.ends ∙ length-append w.opens.before (w.opens.hop ∷ hops) in
    w.opens.ends ∙ ap (λ (b : List Hop). b ++ (w.opens.hop ∷ hops)) (bare w.opens.before (omega arith))
  where
    bare : (before : List Hop) → length before ≡ 0 → before ≡ []
    bare [] p = refl
    bare (h ∷ before) p = absurd (omega arith)

-- where an address is asked for, the first hop from the agent's end has the input that the address reaches
pub entered : (s : Sought) (count : ℕ) (hops : List Hop) (q : Place) (given : List ℕ) (entry : Option End) → IsSearchReady s → IsEntry s.net s.request.agent s.at entry → count ≡ suc (length hops) → (entry ≡ None → ⊥) → IsUnder s (key_of_hops count hops ++ given) q → (w : Next s count hops q given) → entry ≡ Some (record { node = w.opens.hop.unit; base = w.opens.hop.x })
entered s count hops q given entry ready e one asked v w = go s.at refl
  where
    plain : (m b : ℕ) → ◌≡◌ {A = End} (record { node = m; base = b + 0 }) (record { node = m; base = b })
    plain m b = let k : b + 0 ≡ b = omega arith in ap (λ (n : ℕ). record { node = m; base = n }) k

    go : (at : Option ℕ) → s.at ≡ at → entry ≡ Some (record { node = w.opens.hop.unit; base = w.opens.hop.x })
    go None p = absurd (asked (e.unasked p))
    go (Some at) p =
        let here : q.v ≡ at = subst (λ (o : Option ℕ). IsAt o q.v) p v.is.is_at in
        let meets : StopsAt s.net (name_on s.request.agent q.v 0) (name_on w.opens.hop.unit w.opens.hop.x 0) = (subst (λ (h : List Hop). Meets s.net s.request s.request.agent q.v h) (first_hop s count hops q given one w) v.is.is_placement.meets) 0 ready.some in
        let given_at = subst (λ (n : ℕ). StopsAt s.net (record { node = s.request.agent; addr = n }) (name_on w.opens.hop.unit w.opens.hop.x 0)) (let k : q.v + 0 ≡ at = omega arith in k) meets in
        let low : at ≤ top = omega (arith, v.is.is_placement.fits, ready.some) in
        e.reached at (name_on w.opens.hop.unit w.opens.hop.x 0) p low given_at ∙ ap (λ (z : End). Some z) (plain w.opens.hop.unit w.opens.hop.x)

-- a placement's next hop, where its input is given too
record Entered (s : Sought) (count : ℕ) (hops : List Hop) (q : Place) (unit port y x : ℕ) : Type 0 where
  next : Next s count hops q (unit ∷ port ∷ y ∷ x ∷ [])
  is_unit : next.opens.hop.unit ≡ unit
  is_input : next.opens.hop.x ≡ x

input_of : (s : Sought) (count : ℕ) (hops : List Hop) (q : Place) (unit port y x : ℕ) → length hops < count → IsUnder s (to_output count hops unit port y ++ x ∷ []) q → Entered s count hops q unit port y x
input_of s count hops q unit port y x l v = record { next = w; is_unit = same.0; is_input = same.1 }
  where
    given : List ℕ
    given = unit ∷ port ∷ y ∷ x ∷ []

    w : Next s count hops q given
    w = next_of s count hops q given l (subst (λ f. IsUnder s f q) (behind count hops unit port y x) v)

    ends : (a b c d a' b' c' d' : ℕ) (m r : List ℕ) → (a ∷ b ∷ c ∷ d ∷ m) ≡ (a' ∷ b' ∷ c' ∷ d' ∷ r) → (a ≡ a') × (d ≡ d')
    ends a b c d a' b' c' d' m r p = (cc, cc)

    same : (w.opens.hop.unit ≡ unit) × (w.opens.hop.x ≡ x)
    same = ends w.opens.hop.unit w.opens.hop.port w.opens.hop.y w.opens.hop.x unit port y x w.opens.rest w.rest w.split

-- an input that the address asked for does not reach
pub not_entered : (s : Sought) (count : ℕ) (hops : List Hop) (unit port y x : ℕ) (entry : Option End) → IsSearchReady s → IsEntry s.net s.request.agent s.at entry → length hops < count → count ≡ suc (length hops) → (entry ≡ None → ⊥) → ((z : End) → entry ≡ Some z → z.base ≡ x → ⊥) → NoneUnder s (to_output count hops unit port y ++ x ∷ [])
not_entered s count hops unit port y x entry ready e l one asked other = record { none = λ q v. absurd (go q v) }
  where
    given : List ℕ
    given = unit ∷ port ∷ y ∷ x ∷ []

    go : (q : Place) → IsUnder s (to_output count hops unit port y ++ x ∷ []) q → ⊥
    go q v =
        let w = input_of s count hops q unit port y x l v in
        other (record { node = w.next.opens.hop.unit; base = w.next.opens.hop.x }) (entered s count hops q given entry ready e one asked (subst (λ f. IsUnder s f q) (behind count hops unit port y x) v) w.next) w.is_input

-- a unit that the address asked for does not reach
pub unentered : (s : Sought) (count : ℕ) (hops : List Hop) (unit : ℕ) (entry : Option End) → IsSearchReady s → IsEntry s.net s.request.agent s.at entry → length hops < count → count ≡ suc (length hops) → (entry ≡ None → ⊥) → ((x : ℕ) → entry ≡ Some (record { node = unit; base = x }) → ⊥) → NoneUnder s (to_unit count hops unit)
unentered s count hops unit entry ready e l one asked other = record { none = λ q v. absurd (go q v) }
  where
    go : (q : Place) → IsUnder s (to_unit count hops unit) q → ⊥
    go q v =
        let w = next_of s count hops q (unit ∷ []) l v in
        other w.opens.hop.x (entered s count hops q (unit ∷ []) entry ready e one asked v w ∙ ap (λ (n : ℕ). Some (record { node = n; base = w.opens.hop.x })) (unit_of s count hops q unit w))

-- an input that does not agree with the output, or past the unit's end, or whose slots are not usable
pub not_joined : (s : Sought) (count : ℕ) (hops : List Hop) (unit port y x : ℕ) (u : UnitPart) → length hops < count → unit_at s.net unit ≡ Some u → (JoinsIn s u (record { unit = unit; port = port; x = x; y = y }) hops → ⊥) → NoneUnder s (to_output count hops unit port y ++ x ∷ [])
not_joined s count hops unit port y x u l e unjoined = record { none = λ q v. absurd (unjoined (x_of s count hops unit port y x u l e q v).joins) }

-- an input of the first hop from the agent's end, of which two addresses of agents reach a name
pub crowd_bars : (s : Sought) (count : ℕ) (hops : List Hop) (unit port y x : ℕ) → IsSearchReady s → length hops < count → count ≡ suc (length hops) → HasCrowd s unit x → NoneUnder s (to_output count hops unit port y ++ x ∷ [])
crowd_bars s count hops unit port y x ready l one crowd = record { none = λ q v. absurd (go q v) }
  where
    go : (q : Place) → IsUnder s (to_output count hops unit port y ++ x ∷ []) q → ⊥
    go q v =
        let w = input_of s count hops q unit port y x l v in
        let hop : Hop = w.next.opens.hop in
        let i : ℕ = crowd.0 in
        let meets : StopsAt s.net (name_on s.request.agent q.v i) (name_on hop.unit hop.x i) = (subst (λ (h : List Hop). Meets s.net s.request s.request.agent q.v h) (first_hop s count hops q (unit ∷ port ∷ y ∷ x ∷ []) one w.next) v.is.is_placement.meets) i crowd.1 in
        let stop : StopsAt s.net (name_on s.request.agent q.v i) (record { node = unit; addr = x + i }) = subst (λ (n : ℕ). StopsAt s.net (name_on s.request.agent q.v i) (record { node = unit; addr = n + i })) w.is_input (subst (λ (n : ℕ). StopsAt s.net (name_on s.request.agent q.v i) (record { node = n; addr = hop.x + i })) w.is_unit meets) in
        let c : IsCrowded s.net (record { node = unit; addr = x + i }) = crowd.2 in
        let is_one : c.one ≡ name_on s.request.agent q.v i = ready.alone q i (record { node = unit; addr = x + i }) c.one v.is crowd.1 stop c.one_agent c.one_stops in
        let is_other : c.other ≡ name_on s.request.agent q.v i = ready.alone q i (record { node = unit; addr = x + i }) c.other v.is crowd.1 stop c.other_agent c.other_stops in
        c.differ (is_one ∙ sym is_other)

-- an input of a later hop, of which agents come to a name in a free slot
pub stop_bars : (s : Sought) (count : ℕ) (hops : List Hop) (unit port y x : ℕ) (u : UnitPart) → IsSearchReady s → length hops < count → (count ≡ suc (length hops) → ⊥) → unit_at s.net unit ≡ Some u → HasSeenStop s u unit x → NoneUnder s (to_output count hops unit port y ++ x ∷ [])
stop_bars s count hops unit port y x u ready l more e seen = record { none = λ q v. absurd (go q v) }
  where
    go : (q : Place) → IsUnder s (to_output count hops unit port y ++ x ∷ []) q → ⊥
    go q v = by w.next.opens.before w.next.opens.ends
      where
        w : Entered s count hops q unit port y x
        w = input_of s count hops q unit port y x l v

        hop : Hop
        hop = w.next.opens.hop

        stop : IsSeenStop s (name_on hop.unit hop.x seen.0)
        stop = subst (λ (n : ℕ). IsSeenStop s (name_on n hop.x seen.0)) (sym w.is_unit) (subst (λ (n : ℕ). IsSeenStop s (name_on unit n seen.0)) (sym w.is_input) seen.2)

        free : IsTrue (s.slots.is_free hop.unit ((hop.x + seen.0) / 2 ^ u.page))
        free = subst (λ (n : ℕ). IsTrue (s.slots.is_free n ((hop.x + seen.0) / 2 ^ u.page))) (sym w.is_unit) (subst (λ (n : ℕ). IsTrue (s.slots.is_free unit ((n + seen.0) / 2 ^ u.page))) (sym w.is_input) seen.3)

        by : (before : List Hop) → q.hops ≡ before ++ (hop ∷ hops) → ⊥
        by [] f = more (sym (hops_counted s count hops q (unit ∷ port ∷ y ∷ x ∷ []) w.next) ∙ ap length f)
        by (first ∷ ahead) f = ready.leaves q first hop ahead hops u seen.0 v.is f (ap (λ (n : ℕ). unit_at s.net n) w.is_unit ∙ e) seen.1 free stop

-- an input that serves no hop
pub not_served : (s : Sought) (count : ℕ) (hops : List Hop) (unit port y x place from : ℕ) (u : UnitPart) → IsSearchReady s → length hops < count → place ≡ count - length hops → unit_at s.net unit ≡ Some u → IsUseless s u place (record { unit = unit; port = port; x = from; y = y }) x → NoneUnder s (to_output count hops unit port y ++ x ∷ [])
not_served s count hops unit port y x place from u ready l here e (inl bars) = not_joined s count hops unit port y x u l e (λ j. bars j.usable)
not_served s count hops unit port y x place from u ready l here e (inr (inl crowd)) = crowd_bars s count hops unit port y x ready l (let k : place ≡ 1 = crowd.0 in omega arith) crowd.1
not_served s count hops unit port y x place from u ready l here e (inr (inr seen)) = stop_bars s count hops unit port y x u ready l (λ k. seen.0 (here ∙ one_left count (length hops) k)) e seen.1
  where
    one_left : (m n : ℕ) → m ≡ suc n → m - n ≡ 1
    one_left m n k = omega arith

-- an input before the one of a slot, in its place in a slot, is in a slot before
quotient_below : (j r p t : ℕ) → 0 < p → j % p ≡ r → j < t * p + r → j / p < t
quotient_below j r p t z e m = by (cases_lt (j / p) t)
  where
    by : (j / p < t) ⊎ (t ≤ j / p) → j / p < t
    by (inl n) = n
    by (inr n) = absurd (omega (arith, mul-le-mul_right p n, mod-add-div' j p))

-- where the last slot that is not usable shuts the inputs up to a slot, the hops that begin before it are barred
pub shut_bars : (s : Sought) (u : UnitPart) (hop : Hop) (q to : ℕ) → 1 ≤ s.request.size → hop.x / 2 ^ u.page ≤ q → q ≤ (hop.x + s.request.size - 1) / 2 ^ u.page → to ≤ q + 1 → AreShut (slot_of s.slots hop.unit q) q (hop.x / 2 ^ u.page) to hop.port (hop.y / 2 ^ u.page) → AreBarred s u hop (to * 2 ^ u.page + hop.x % 2 ^ u.page)
shut_bars s u hop q to some a b most shut = λ j l m e usable. shut (j / 2 ^ u.page) (first j l) (before j m e) (usable q (low j m e) (high j l))
  where
    before : (j : ℕ) → j < to * 2 ^ u.page + hop.x % 2 ^ u.page → j % 2 ^ u.page ≡ hop.x % 2 ^ u.page → j / 2 ^ u.page < to
    before j m e = quotient_below j (hop.x % 2 ^ u.page) (2 ^ u.page) to (pow_pos u.page) e m

    low : (j : ℕ) → j < to * 2 ^ u.page + hop.x % 2 ^ u.page → j % 2 ^ u.page ≡ hop.x % 2 ^ u.page → j / 2 ^ u.page ≤ q
    low j m e = let n = before j m e in omega arith

    first : (j : ℕ) → hop.x ≤ j → hop.x / 2 ^ u.page ≤ j / 2 ^ u.page
    first j l = le-div (hop.x / 2 ^ u.page) j (2 ^ u.page) (pow_pos u.page) (omega (arith, div-mul-le_self hop.x (2 ^ u.page)))

    high : (j : ℕ) → hop.x ≤ j → q ≤ (j + s.request.size - 1) / 2 ^ u.page
    high j l = le-div q (j + s.request.size - 1) (2 ^ u.page) (pow_pos u.page) (omega (arith, mul-le-mul_right (2 ^ u.page) b, div-mul-le_self (hop.x + s.request.size - 1) (2 ^ u.page)))

-- and past barred slots after it
pub barred_on : (s : Sought) (u : UnitPart) (hop : Hop) (past to : ℕ) → 1 ≤ s.request.size → AreBarred s u hop (past * 2 ^ u.page + hop.x % 2 ^ u.page) → AreRun true s.slots hop.unit past to → AreBarred s u hop (to * 2 ^ u.page + hop.x % 2 ^ u.page)
barred_on s u hop past to some old run = λ j l m e usable. by j l m e usable (cases_lt j (past * 2 ^ u.page + hop.x % 2 ^ u.page))
  where
    by : (j : ℕ) → hop.x ≤ j → j < to * 2 ^ u.page + hop.x % 2 ^ u.page → j % 2 ^ u.page ≡ hop.x % 2 ^ u.page → AreUsable s.slots hop.unit (j / 2 ^ u.page) ((j + s.request.size - 1) / 2 ^ u.page) hop.port (hop.y / 2 ^ u.page) → (j < past * 2 ^ u.page + hop.x % 2 ^ u.page) ⊎ (past * 2 ^ u.page + hop.x % 2 ^ u.page ≤ j) → ⊥
    by j l m e usable (inl n) = old j l n e usable
    by j l m e usable (inr n) =
        let q : ℕ = j / 2 ^ u.page in
        let from : past ≤ q = le-div past j (2 ^ u.page) (pow_pos u.page) (omega (arith, n)) in
        let below : q < to = quotient_below j (hop.x % 2 ^ u.page) (2 ^ u.page) to (pow_pos u.page) e m in
        let last : q ≤ (j + s.request.size - 1) / 2 ^ u.page = le-div q (j + s.request.size - 1) (2 ^ u.page) (pow_pos u.page) (omega (arith, some, div-mul-le_self j (2 ^ u.page))) in
        barred_unusable hop.port (hop.y / 2 ^ u.page + (q - q)) (slot_of s.slots hop.unit q) (run q from below) (usable q (omega arith) last)
