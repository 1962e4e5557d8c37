-- Placements whose hops are all chosen.
use Rattle.std.proofs.Common.{◌≡◌, ℕ, suc, ◌+◌, ◌-◌, ◌<◌, ◌≤◌, Bool, true, false, if◌then◌else◌, nat_eq, List, [], ◌∷◌, ◌++◌, length, slice_get, Some, refl, sym, ap, ◌∙◌, subst, arith, append_assoc}
use Rattle.std.proofs.lemmas.Option.{slice_get_within}
use Rattle.dn_net.specs.declared.node.NodeDecl.{NodeDecl}
use Rattle.dn_net.specs.Decode.{top}
use Rattle.dn_kind.specs.Rights.{both_rights}
use Rattle.dn_kind.specs.Tables.{Held}
use Rattle.dn_tables.specs.declared.placement.Hop.{Hop}
use Rattle.dn_tables.specs.Placement.{Place}
use Rattle.dn_place.specs.Sought.{IsSearchReady, Sought}
use Rattle.dn_placement.specs.Exposure.{Gives, IsAdmissible}
use Rattle.dn_placement.specs.Keys.{Begins}
use Rattle.dn_placement.specs.Order.{IsSuited, hop_page, hops_key, key_of, precedes}
use Rattle.dn_placement.specs.Placement.{IsPlacement, Meets}
use Rattle.dn_placement.specs.Records.{hop_record, hop_rights, hops_records, joined_records, or_record, placed_records}
use Rattle.dn_placement.proofs.Hops.{same_hops}
use Rattle.dn_placement.proofs.Keys.{cancel, one_more, not_itself}
use Rattle.dn_placement.proofs.Order.{same_placement}
use Rattle.dn_place.specs.Candidates.{CanOwn, IsUnder, NoneUnder, IsFirstUnder, IsChosen, PagesBelow, PagesFrom, key_of_hops, to_address, to_page}
use Rattle.dn_place.proofs.Levels.{NoneBelow, begun, leapt, found_first, none_left}

-- a placement of just these hops
pub record Whole (s : Sought) (hops : List Hop) (q : Place) (given : List ℕ) : Type 0 where
  pub same : q.hops ≡ hops
  pub rest : List ℕ
  pub tail : q.v ∷ hop_page s.net (slice_get hops q.own) ∷ (length hops - q.own) ∷ [] ≡ given ++ rest
  pub own : q.own < length hops
  pub key : key_of s.net q ≡ key_of_hops (length hops) hops ++ (q.v ∷ hop_page s.net (slice_get hops q.own) ∷ (length hops - q.own) ∷ [])

pub whole : (s : Sought) (hops : List Hop) (q : Place) (given : List ℕ) → IsUnder s (key_of_hops (length hops) hops ++ given) q → Whole s hops q given
whole s hops q given u = record {
  same = w.0;
  rest = u.begins.0;
  tail = subst (λ m. q.v ∷ hop_page s.net (slice_get m q.own) ∷ (length m - q.own) ∷ [] ≡ given ++ u.begins.0) w.0 w.1;
  own = subst (λ m. q.own < length m) w.0 (slice_get_within q.hops q.own u.is.is_placement.own u.is.is_placement.is_own);
  key = subst (λ m. key_of s.net q ≡ length m ∷ (hops_key m ++ (q.v ∷ hop_page s.net (slice_get m q.own) ∷ (length m - q.own) ∷ []))) w.0 refl;
}
  where
    tail : List ℕ
    tail = q.v ∷ hop_page s.net (slice_get q.hops q.own) ∷ (length q.hops - q.own) ∷ []

    parts : (m n : ℕ) (xs ys : List ℕ) → (m ∷ xs) ≡ (n ∷ ys) → (m ≡ n) × (xs ≡ ys)
    parts m n xs ys e = (cc, cc)

    key : (length q.hops ≡ length hops) × (hops_key q.hops ++ tail ≡ hops_key hops ++ (given ++ u.begins.0))
    key = parts (length q.hops) (length hops) (hops_key q.hops ++ tail) (hops_key hops ++ (given ++ u.begins.0)) (u.begins.1 ∙ append_assoc (key_of_hops (length hops) hops) given u.begins.0)

    w : (q.hops ≡ hops) × (tail ≡ given ++ u.begins.0)
    w = same_hops q.hops hops tail (given ++ u.begins.0) key.0 key.1

-- the last number: how far the own hop is from memory's end

pub placed : (s : Sought) (hops : List Hop) (v own page : ℕ) → IsSearchReady s → IsChosen s (length hops) hops → 1 ≤ length hops → v + s.request.size ≤ top + 1 → Meets s.net s.request s.request.agent v hops → CanOwn s hops own page → IsPlacement s.net s.slots s.request (record { v = v; hops = hops; own = own })
placed s hops v own page ready chosen some fits meets can = record {
  some = ready.some;
  fits = fits;
  least = some;
  most = chosen.most;
  meets = meets;
  leads = chosen.leads;
  own = can.hop;
  is_own = can.is_hop;
  free = can.free;
}

pub key_there : (s : Sought) (hops : List Hop) (v own page back : ℕ) → CanOwn s hops own page → length hops - own ≡ back → Begins (to_page (length hops) hops v page ++ back ∷ []) (key_of s.net (record { v = v; hops = hops; own = own }))
key_there s hops v own page back can e = ([], key ∙ sym nested)
  where
    front : List ℕ
    front = key_of_hops (length hops) hops

    nested : ((((front ++ v ∷ []) ++ page ∷ []) ++ back ∷ []) ++ []) ≡ front ++ (v ∷ page ∷ back ∷ [])
    nested = one_more ((front ++ v ∷ []) ++ page ∷ []) back [] ∙ one_more (front ++ v ∷ []) page (back ∷ []) ∙ one_more front v (page ∷ back ∷ [])

    paged : hop_page s.net (slice_get hops own) ≡ page
    paged = ap (hop_page s.net) can.is_hop ∙ can.has_page

    key : key_of s.net (record { v = v; hops = hops; own = own }) ≡ front ++ (v ∷ page ∷ back ∷ [])
    key = ap (λ n. front ++ (v ∷ n ∷ (length hops - own) ∷ [])) paged ∙ ap (λ n. front ++ (v ∷ page ∷ n ∷ [])) e

-- a placement with these numbers is this placement, and its own hop can be that
pub record Last (s : Sought) (hops : List Hop) (v page back : ℕ) (q : Place) : Type 0 where
  pub v_is : q.v ≡ v
  pub hops_are : q.hops ≡ hops
  pub back_is : length hops - q.own ≡ back
  pub own_in : q.own < length hops
  pub can : CanOwn s hops q.own page

pub last_of : (s : Sought) (hops : List Hop) (v page back : ℕ) (q : Place) → IsUnder s (to_page (length hops) hops v page ++ back ∷ []) q → Last s hops v page back q
last_of s hops v page back q u = record {
  v_is = t.0;
  hops_are = w.same;
  back_is = t.2;
  own_in = w.own;
  can = record {
    hop = u.is.is_placement.own;
    is_hop = owned;
    has_page = sym (ap (hop_page s.net) owned) ∙ t.1;
    free = u.is.is_placement.free;
  };
}
  where
    front : List ℕ
    front = key_of_hops (length hops) hops

    nested : (((front ++ v ∷ []) ++ page ∷ []) ++ back ∷ []) ≡ front ++ (v ∷ page ∷ back ∷ [])
    nested = one_more (front ++ v ∷ []) page (back ∷ []) ∙ one_more front v (page ∷ back ∷ [])

    w : Whole s hops q (v ∷ page ∷ back ∷ [])
    w = whole s hops q (v ∷ page ∷ back ∷ []) (subst (λ f. IsUnder s f q) nested u)

    parts : (a b c d e f : ℕ) (r : List ℕ) → (a ∷ b ∷ c ∷ []) ≡ (d ∷ e ∷ f ∷ r) → (a ≡ d) × (b ≡ e) × (c ≡ f)
    parts a b c d e f r p = (cc, cc, cc)

    t : (q.v ≡ v) × (hop_page s.net (slice_get hops q.own) ≡ page) × (length hops - q.own ≡ back)
    t = parts q.v (hop_page s.net (slice_get hops q.own)) (length hops - q.own) v page back w.rest w.tail

    owned : slice_get hops q.own ≡ Some u.is.is_placement.own
    owned = sym (ap (λ l. slice_get l q.own) w.same) ∙ u.is.is_placement.is_own

-- the loop over own hops

pub backs_begun : (s : Sought) (hops : List Hop) (v page : ℕ) → NoneBelow s (to_page (length hops) hops v page) 1
backs_begun s hops v page = leapt s _ 0 1 (begun s _) (λ q j a b u. let w = last_of s hops v page j q u in absurd (omega (arith, w.back_is, w.own_in)))

pub backs_refused : (s : Sought) (hops : List Hop) (v page back own : ℕ) → own + back ≡ length hops → (CanOwn s hops own page → ⊥) → NoneUnder s (to_page (length hops) hops v page ++ back ∷ [])
backs_refused s hops v page back own e cannot = record { none = λ q u. let w = last_of s hops v page back q u in absurd (cannot (subst (λ n. CanOwn s hops n page) (omega (arith, w.back_is, w.own_in)) w.can)) }

same_as : (s : Sought) (hops : List Hop) (v page back own : ℕ) → own + back ≡ length hops → (q : Place) → IsUnder s (to_page (length hops) hops v page ++ back ∷ []) q → q ≡ record { v = v; hops = hops; own = own }
same_as s hops v page back own e q u = let w = last_of s hops v page back q u in same_placement q (record { v = v; hops = hops; own = own }) w.v_is w.hops_are (omega (arith, w.back_is, w.own_in))

pub backs_unsuited : (s : Sought) (hops : List Hop) (v page back own : ℕ) → own + back ≡ length hops → (IsSuited s.net s.slots s.request s.at (record { v = v; hops = hops; own = own }) → ⊥) → NoneUnder s (to_page (length hops) hops v page ++ back ∷ [])
backs_unsuited s hops v page back own e refused = record { none = λ q u. refused (subst (λ (x : Place). IsSuited s.net s.slots s.request s.at x) (same_as s hops v page back own e q u) u.is) }

pub backs_found : (s : Sought) (hops : List Hop) (v page back own : ℕ) → own + back ≡ length hops → CanOwn s hops own page → IsSuited s.net s.slots s.request s.at (record { v = v; hops = hops; own = own }) → NoneBelow s (to_page (length hops) hops v page) back → IsFirstUnder s (to_page (length hops) hops v page) (record { v = v; hops = hops; own = own })
backs_found s hops v page back own e can is below = found_first s _ back (record { v = v; hops = hops; own = own }) below (record {
  is = record { is = is; begins = key_there s hops v own page back can (omega arith) };
  least = λ q u. subst (λ k. precedes s.net k (record { v = v; hops = hops; own = own }) ≡ false) (sym (same_as s hops v page back own e q u)) (not_itself (key_of s.net (record { v = v; hops = hops; own = own })));
})

-- with both rights the records of hops are the same whichever of them is the own one
same_records : (net : List NodeDecl) (size own own' place : ℕ) (hops : List Hop) (node slot : ℕ) → hops_records net size both_rights own place hops node slot ≡ hops_records net size both_rights own' place hops node slot
same_records net size own own' place [] node slot = refl
same_records net size own own' place (hop ∷ hops) node slot =
    ap (λ r. or_record (hop_record net size r hop node slot) (hops_records net size both_rights own (suc place) hops node slot)) (is_both own ∙ sym (is_both own'))
    ∙ ap (or_record (hop_record net size (hop_rights both_rights own' place) hop node slot)) (same_records net size own own' (suc place) hops node slot)
  where
    is_both : (o : ℕ) → hop_rights both_rights o place ≡ both_rights
    is_both o = by (nat_eq place o)
      where
        by : (b : Bool) → (if b then both_rights else both_rights) ≡ both_rights
        by true = refl
        by false = refl

-- so where one is not admissible, none is
pub none_owned : (s : Sought) (hops : List Hop) (v own page : ℕ) → s.request.rights ≡ both_rights → (IsAdmissible s.net s.slots.held s.request (record { v = v; hops = hops; own = own }) → ⊥) → NoneUnder s (to_page (length hops) hops v page)
none_owned s hops v own page both refused = record { none = λ q u. refused (moved q u) }
  where
    front : List ℕ
    front = key_of_hops (length hops) hops

    moved : (q : Place) → IsUnder s (to_page (length hops) hops v page) q → IsAdmissible s.net s.slots.held s.request (record { v = v; hops = hops; own = own })
    moved q u = subst (λ n. Gives s.net s.slots.held (joined_records s.slots.held (placed_records s.net s.request (record { v = v; hops = hops; own = own }))) s.request n) t
        (subst (λ (k : Held). Gives s.net s.slots.held k s.request q.v) same u.is.admissible)
      where
        w : Whole s hops q (v ∷ page ∷ [])
        w = whole s hops q (v ∷ page ∷ []) (subst (λ f. IsUnder s f q) (one_more front v (page ∷ [])) u)

        first : (a d : ℕ) (m r : List ℕ) → (a ∷ m) ≡ (d ∷ r) → a ≡ d
        first a d m r p = cc

        t : q.v ≡ v
        t = first q.v v (hop_page s.net (slice_get hops q.own) ∷ (length hops - q.own) ∷ []) (page ∷ w.rest) w.tail

        each : (node slot : ℕ) → placed_records s.net s.request q node slot ≡ placed_records s.net s.request (record { v = v; hops = hops; own = own }) node slot
        each node slot =
            ap (λ (l : List Hop). hops_records s.net s.request.size s.request.rights q.own 0 l node slot) w.same
            ∙ ap (λ r. hops_records s.net s.request.size r q.own 0 hops node slot) both
            ∙ same_records s.net s.request.size q.own own 0 hops node slot
            ∙ sym (ap (λ r. hops_records s.net s.request.size r own 0 hops node slot) both)

        same : ◌≡◌ {A = Held} (joined_records s.slots.held (placed_records s.net s.request q)) (joined_records s.slots.held (placed_records s.net s.request (record { v = v; hops = hops; own = own })))
        same = λ j node slot. or_record (s.slots.held node slot) (each node slot j)

-- the distance of the own hop of a placement of these hops, and the page of its unit
abbrev near : List Hop → Place → ℕ
near hops q = length hops - q.own

abbrev own_page : Sought → List Hop → Place → ℕ
own_page s hops q = hop_page s.net (slice_get hops q.own)

-- a placement goes on with the distance of its own hop
pub back_of : (s : Sought) (hops : List Hop) (v page : ℕ) (q : Place) → IsUnder s (to_page (length hops) hops v page) q → (j : ℕ) × (j < suc (length hops)) × Begins (to_page (length hops) hops v page ++ j ∷ []) (key_of s.net q)
back_of s hops v page q u = (near hops q, omega arith, ([], w.key ∙ ap (λ n. front ++ (n ∷ own_page s hops q ∷ near hops q ∷ [])) t.0 ∙ ap (λ n. front ++ (v ∷ n ∷ near hops q ∷ [])) t.1 ∙ sym nested))
  where
    front : List ℕ
    front = key_of_hops (length hops) hops

    nested : ((((front ++ v ∷ []) ++ page ∷ []) ++ near hops q ∷ []) ++ []) ≡ front ++ (v ∷ page ∷ near hops q ∷ [])
    nested = one_more ((front ++ v ∷ []) ++ page ∷ []) (near hops q) [] ∙ one_more (front ++ v ∷ []) page (near hops q ∷ []) ∙ one_more front v (page ∷ near hops q ∷ [])

    w : Whole s hops q (v ∷ page ∷ [])
    w = whole s hops q (v ∷ page ∷ []) (subst (λ f. IsUnder s f q) (one_more front v (page ∷ [])) u)

    parts : (a b d e : ℕ) (m r : List ℕ) → (a ∷ b ∷ m) ≡ (d ∷ e ∷ r) → (a ≡ d) × (b ≡ e)
    parts a b d e m r p = (cc, cc)

    t : (q.v ≡ v) × (own_page s hops q ≡ page)
    t = parts q.v (own_page s hops q) v page (near hops q ∷ []) w.rest w.tail

pub backs_done : (s : Sought) (hops : List Hop) (v page bound : ℕ) → length hops < bound → NoneBelow s (to_page (length hops) hops v page) bound → NoneUnder s (to_page (length hops) hops v page)
backs_done s hops v page bound l below = none_left s _ bound below (λ q u. let w = back_of s hops v page q u in (w.0, omega (arith, w.1), w.2))

-- a placement goes on with the page of its own hop, which is that of some hop

pub record Paged (s : Sought) (hops : List Hop) (q : Place) (front : List ℕ) : Type 0 where
  pub page : ℕ
  pub place : ℕ
  pub hop : Hop
  pub is_hop : slice_get hops place ≡ Some hop
  pub is_page : hop_page s.net (Some hop) ≡ page
  pub begins : Begins (front ++ page ∷ []) (key_of s.net q)

pub page_there : (s : Sought) (hops : List Hop) (v : ℕ) (q : Place) → IsUnder s (to_address (length hops) hops v) q → Paged s hops q (to_address (length hops) hops v)
page_there s hops v q u = record {
  page = own_page s hops q;
  place = q.own;
  hop = u.is.is_placement.own;
  is_hop = owned;
  is_page = sym (ap (hop_page s.net) owned);
  begins = (near hops q ∷ [], w.key ∙ ap (λ n. front ++ (n ∷ own_page s hops q ∷ near hops q ∷ [])) t ∙ sym nested);
}
  where
    front : List ℕ
    front = key_of_hops (length hops) hops

    nested : (((front ++ v ∷ []) ++ own_page s hops q ∷ []) ++ near hops q ∷ []) ≡ front ++ (v ∷ own_page s hops q ∷ near hops q ∷ [])
    nested = one_more (front ++ v ∷ []) (own_page s hops q) (near hops q ∷ []) ∙ one_more front v (own_page s hops q ∷ near hops q ∷ [])

    w : Whole s hops q (v ∷ [])
    w = whole s hops q (v ∷ []) u

    parts : (a d : ℕ) (m r : List ℕ) → (a ∷ m) ≡ (d ∷ r) → a ≡ d
    parts a d m r p = cc

    t : q.v ≡ v
    t = parts q.v v (own_page s hops q ∷ near hops q ∷ []) w.rest w.tail

    owned : slice_get hops q.own ≡ Some u.is.is_placement.own
    owned = sym (ap (λ l. slice_get l q.own) w.same) ∙ u.is.is_placement.is_own

cons_head : (a d : ℕ) (front m r : List ℕ) (key : List ℕ) → key ≡ (front ++ a ∷ []) ++ m → key ≡ (front ++ d ∷ []) ++ r → a ≡ d
cons_head a d front m r key e f = heads (cancel front (a ∷ m) (d ∷ r) (sym (one_more front a m) ∙ sym e ∙ f ∙ one_more front d r))
  where
    heads : (a ∷ m) ≡ (d ∷ r) → a ≡ d
    heads p = cc

pub pages_leapt : (s : Sought) (hops : List Hop) (v from page : ℕ) → PagesFrom s hops from page → NoneBelow s (to_address (length hops) hops v) from → NoneBelow s (to_address (length hops) hops v) page
pages_leapt s hops v from page between below = leapt s _ from page below go
  where
    go : (q : Place) (j : ℕ) → from ≤ j → j < page → IsUnder s (to_address (length hops) hops v ++ j ∷ []) q → ⊥
    go q j a b u =
        let up : IsUnder s (to_address (length hops) hops v) q = record { is = u.is; begins = (j ∷ u.begins.0, u.begins.1 ∙ one_more (to_address (length hops) hops v) j u.begins.0) } in
        let w = page_there s hops v q up in
        let e : w.page ≡ j = cons_head w.page j (to_address (length hops) hops v) w.begins.0 u.begins.0 (key_of s.net q) w.begins.1 u.begins.1 in
        absurd (omega (arith, w.is_page, between w.place w.hop w.is_hop (omega (arith, w.is_page))))

pub pages_done : (s : Sought) (hops : List Hop) (v from : ℕ) → PagesBelow s hops from → NoneBelow s (to_address (length hops) hops v) from → NoneUnder s (to_address (length hops) hops v)
pages_done s hops v from past below = none_left s _ from below (λ q u. let w = page_there s hops v q u in (w.page, omega (arith, w.is_page, past w.place w.hop w.is_hop), w.begins))
