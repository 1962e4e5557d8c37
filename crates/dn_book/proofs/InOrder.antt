-- The hops of a grant in either order, and what is known as the records of one after the other are put.
use Rattle.std.proofs.Common.{◌≡◌, ◌≢◌, ℕ, zero, suc, ◌+◌, ◌-◌, ◌<◌, ◌≤◌, ◌⊎◌, inl, inr, false, List, [], ◌∷◌, ◌++◌, length, take, drop, reverse, slice_get, get_or, Option, Some, None, IsTrue, refl, sym, ap, ◌∙◌, subst, arith, append_assoc, append-nil}
use Rattle.std.specs.List.{All, AllPairs}
use Rattle.std.proofs.lemmas.List.{length-reverse, take_more, take_all, take-append-drop, get_or-reverse}
use Rattle.std.proofs.lemmas.Option.{same_Some, get_or_from_slice_get, slice_get-get_or, slice_get_within}
use Rattle.dn_base.specs.Device.{UnitSize}
use Rattle.dn_base.specs.declared.device.TableEvent.{TableEvent}
use Rattle.dn_base.specs.declared.device.UnitWords.{UnitWords}
use Rattle.dn_net.specs.declared.node.NodeDecl.{NodeDecl}
use Rattle.dn_net.specs.declared.node.Unit.{Unit as UnitPart}
use Rattle.dn_net.specs.Chain.{Member}
use Rattle.dn_net.specs.Decode.{unit_at}
use Rattle.dn_kind.specs.declared.kinded.KindedNet.{KindedNet}
use Rattle.dn_kind.specs.declared.rights.Rights.{Rights}
use Rattle.dn_kind.specs.Kind.{Meaning, IsLawful}
use Rattle.dn_kind.specs.Kinded.{kinds_of}
use Rattle.dn_kind.specs.Rights.{are_rights}
use Rattle.dn_kind.specs.Units.{KeepsUnitShape}
use Rattle.dn_tables.specs.declared.placement.Hop.{Hop}
use Rattle.dn_tables.specs.declared.table.NodeTable.{NodeTable}
use Rattle.dn_tables.specs.Set.{FitsNet, IsSet}
use Rattle.dn_tables.proofs.Slots.{all_of_map}
use Rattle.dn_placement.specs.Records.{hop_rights, first_slot}
use Rattle.dn_placement.proofs.Hops.{rights_of}
use Rattle.dn_book.specs.declared.grant.Grant.{Grant}
use Rattle.dn_book.specs.Puts.{MayPutGrant}
use Rattle.dn_book.specs.Sets.{AreFit, AreOpen, ArePut}
use Rattle.dn_book.specs.Writes.{Put, grant_slots, hop_slots, hop_slots_by, hops_slots, joined_slots}
use Rattle.dn_book.proofs.Ranges.{FitsPut, HopPuts, of_hop, hop_fits_put, open_after, slot_count}
use Rattle.dn_tables.proofs.Units.{unit_fits}

-- LISTS OF LISTS

pub joined_append : (xs ys : List (List Put)) → joined_slots (xs ++ ys) ≡ joined_slots xs ++ joined_slots ys
joined_append [] ys = refl
joined_append (x ∷ xs) ys = ap (λ (l : List Put). x ++ l) (joined_append xs ys) ∙ sym (append_assoc x (joined_slots xs) (joined_slots ys))

-- one list more
pub joined_more : (ls : List (List Put)) (i : ℕ) (l : List Put) → slice_get ls i ≡ Some l → joined_slots (take (i + 1) ls) ≡ joined_slots (take i ls) ++ l
joined_more ls i l e =
    ap joined_slots (take_more ls i l (slice_get_within ls i l e))
    ∙ joined_append (take i ls) (get_or ls i l ∷ [])
    ∙ ap (λ (x : List Put). joined_slots (take i ls) ++ x) (append-nil (get_or ls i l) ∙ get_or_from_slice_get ls i l l e)

-- the first lists, and the others
pub joined_rest : (ls : List (List Put)) (i : ℕ) → joined_slots ls ≡ joined_slots (take i ls) ++ joined_slots (drop i ls)
joined_rest ls i = ap joined_slots (sym (take-append-drop i ls)) ∙ joined_append (take i ls) (drop i ls)

-- all of them
pub joined_all : (ls : List (List Put)) (i : ℕ) → length ls ≤ i → joined_slots (take i ls) ≡ joined_slots ls
joined_all ls i l = ap joined_slots (take_all i ls l)

-- what stands in the first lists stands in one of them
pub record IsIn (ls : List (List Put)) (count : ℕ) (s : Put) : Type 0 where
  pub place : ℕ
  pub list : List Put
  pub below : place < count
  pub at : slice_get ls place ≡ Some list
  pub is_in : Member s list

pub in_taken : (ls : List (List Put)) (i : ℕ) (s : Put) → Member s (joined_slots (take i ls)) → IsIn ls i s
in_taken [] zero s m = absurd m
in_taken [] (suc i) s m = absurd m
in_taken (l ∷ ls) zero s m = absurd m
in_taken (l ∷ ls) (suc i) s m = go (parts l (joined_slots (take i ls)) m) (in_taken ls i s)
  where
    parts : (xs ys : List Put) → Member s (xs ++ ys) → Member s xs ⊎ Member s ys
    parts [] ys m = inr m
    parts (x ∷ xs) ys (inl e) = inl (inl e)
    parts (x ∷ xs) ys (inr m) = elim (parts xs ys m) [ inl n ↦ inl (inr n) | inr n ↦ inr n ]

    go : Member s l ⊎ Member s (joined_slots (take i ls)) → (Member s (joined_slots (take i ls)) → IsIn ls i s) → IsIn (l ∷ ls) (suc i) s
    go (inl n) later = record { place = zero; list = l; below = omega arith; at = refl; is_in = n }
    go (inr n) later =
        let h = later n in
        let b = h.below in
        record { place = suc h.place; list = h.list; below = omega arith; at = h.at; is_in = h.is_in }

pub in_all : (ls : List (List Put)) (s : Put) → Member s (joined_slots ls) → IsIn ls (length ls) s
in_all ls s m = in_taken ls (length ls) s (subst (Member s) (sym (joined_all ls (length ls) (omega arith))) m)

pub joined_member : (ls : List (List Put)) (i : ℕ) (l : List Put) (s : Put) → slice_get ls i ≡ Some l → Member s l → Member s (joined_slots ls)
joined_member [] i l s e m = cc
joined_member (x ∷ ls) zero l s e m = left x (joined_slots ls) (subst (Member s) (sym (same_Some x l e)) m)
  where
    left : (xs ys : List Put) → Member s xs → Member s (xs ++ ys)
    left [] ys m = absurd m
    left (x ∷ xs) ys (inl e) = inl e
    left (x ∷ xs) ys (inr m) = inr (left xs ys m)
joined_member (x ∷ ls) (suc i) l s e m = right x (joined_slots ls) (joined_member ls i l s e m)
  where
    right : (xs ys : List Put) → Member s ys → Member s (xs ++ ys)
    right [] ys m = m
    right (x ∷ xs) ys m = inr (right xs ys m)

-- from behind
pub behind_at : {X : Type 0} (xs : List X) (i : ℕ) (x : X) → i < length xs → slice_get xs (length xs - 1 - i) ≡ Some x → slice_get (reverse xs) i ≡ Some x
behind_at {X} xs i x l e =
    let n : length (reverse xs) ≡ length xs = length-reverse xs in
    slice_get-get_or (reverse xs) i x (omega arith) ∙ ap Some (get_or-reverse xs i x l ∙ get_or_from_slice_get xs (length xs - 1 - i) x x e)

-- THE HOPS OF A GRANT

pub hops_length : (net : List NodeDecl) (size : ℕ) (r : Rights) (own first : ℕ) (hops : List Hop) → length (hops_slots net size r own first hops) ≡ length hops
hops_length net size r own first [] = refl
hops_length net size r own first (hop ∷ hops) = ap suc (hops_length net size r own (suc first) hops)

pub hops_at : (net : List NodeDecl) (size : ℕ) (r : Rights) (own first : ℕ) (hops : List Hop) (j : ℕ) (hop : Hop) → slice_get hops j ≡ Some hop → slice_get (hops_slots net size r own first hops) j ≡ Some (hop_slots net size (hop_rights r own (first + j)) hop)
hops_at net size r own first [] j hop e = cc
hops_at net size r own first (x ∷ hops) zero hop e =
    let n : first ≡ first + zero = omega arith in
    ap (λ m. Some (hop_slots net size (hop_rights r own m) x)) n ∙ ap (λ (h : Hop). Some (hop_slots net size (hop_rights r own (first + zero)) h)) (same_Some x hop e)
hops_at net size r own first (x ∷ hops) (suc j) hop e =
    let n : suc first + j ≡ first + suc j = omega arith in
    hops_at net size r own (suc first) hops j hop e ∙ ap (λ m. Some (hop_slots net size (hop_rights r own m) hop)) n

-- the hop whose slots stand at a place
pub record IsHopAt (net : List NodeDecl) (g : Grant) (j : ℕ) (l : List Put) : Type 0 where
  pub hop : Hop
  pub at : slice_get g.placement.hops j ≡ Some hop
  pub slots : l ≡ hop_slots net g.request.size (hop_rights g.request.rights g.placement.own j) hop

pub hop_at : (net : List NodeDecl) (g : Grant) (j : ℕ) (l : List Put) → slice_get (grant_slots net g) j ≡ Some l → IsHopAt net g j l
hop_at net g j l e =
    let n : length (grant_slots net g) ≡ length g.placement.hops = hops_length net g.request.size g.request.rights g.placement.own 0 g.placement.hops in
    let b : j < length (grant_slots net g) = slice_get_within (grant_slots net g) j l e in
    let z : 0 + j ≡ j = omega arith in
    let d : Hop = record { unit = 0; port = 0; x = 0; y = 0 } in
    let at : slice_get g.placement.hops j ≡ Some (get_or g.placement.hops j d) = slice_get-get_or g.placement.hops j d (omega arith) in
    let is = hops_at net g.request.size g.request.rights g.placement.own 0 g.placement.hops j (get_or g.placement.hops j d) at in
    record { hop = get_or g.placement.hops j d; at = at; slots = same_Some l _ (sym e ∙ is) ∙ ap (λ m. hop_slots net g.request.size (hop_rights g.request.rights g.placement.own m) (get_or g.placement.hops j d)) z }

-- the slots of a hop are of its unit
pub hop_unit : (net : List NodeDecl) (size : ℕ) (r : Rights) (hop : Hop) (s : Put) → Member s (hop_slots net size r hop) → s.unit ≡ hop.unit
hop_unit net size r hop s m = go (unit_at net hop.unit) m
  where
    go : (o : Option UnitPart) → Member s (hop_slots_by o size r hop) → s.unit ≡ hop.unit
    go None m = absurd m
    go (Some u) m = ap (λ (t : Put). t.unit) (of_hop u r hop (first_slot u hop) (slot_count u size hop) s m).is

-- hops at two places have two units
pub units_apart : (hops : List Hop) (i j : ℕ) (a b : Hop) → AllPairs (λ (a b : Hop). a.unit ≢ b.unit) hops → slice_get hops i ≡ Some a → slice_get hops j ≡ Some b → (i ≡ j → ⊥) → a.unit ≡ b.unit → ⊥
units_apart hops i j a b pairs ea eb ne e = go (cases i j)
  where
    cases : (i j : ℕ) → (i < j) ⊎ ((j < i) ⊎ (i ≡ j))
    cases i j = grind arith

    go : (i < j) ⊎ ((j < i) ⊎ (i ≡ j)) → ⊥
    go (inl l) = pairs i j a l (slice_get_within hops j b eb) (ap (λ (h : Hop). h.unit) (get_or_from_slice_get hops i a a ea) ∙ e ∙ ap (λ (h : Hop). h.unit) (sym (get_or_from_slice_get hops j b a eb)))
    go (inr (inl l)) = pairs j i a l (slice_get_within hops i a ea) (ap (λ (h : Hop). h.unit) (get_or_from_slice_get hops j b a eb) ∙ sym e ∙ ap (λ (h : Hop). h.unit) (sym (get_or_from_slice_get hops i a a ea)))
    go (inr (inr s)) = ne s

pub hop_member : (hops : List Hop) (i : ℕ) (a : Hop) → slice_get hops i ≡ Some a → Member a hops
hop_member [] i a e = cc
hop_member (x ∷ hops) zero a e = inl (same_Some x a e)
hop_member (x ∷ hops) (suc i) a e = inr (hop_member hops i a e)

-- what is known where the records of a grant are put into a set
pub record GrantPuts (kinds : List Meaning) (net : List NodeDecl) (set : List NodeTable) (g : Grant) : Type 0 where
  pub lawful : All IsLawful kinds
  pub is_set : IsSet set
  pub fits : FitsNet net kinds set
  pub shaped : KeepsUnitShape kinds net
  pub hops : AreFit net g.request.size g.placement.hops
  pub rights : IsTrue (are_rights g.request.rights)
  pub opened : AreOpen set (joined_slots (grant_slots net g))

-- so it is where they may be put
pub grant_puts : {K : Type 0} {V : K → Type 0} (means : (k : K) × V k → Meaning) (on : KindedNet K V) (set : List NodeTable) (g : Grant) (sizes : List UnitSize) (told : Option (List UnitWords)) → IsSet set → MayPutGrant means on g set sizes told → GrantPuts (kinds_of means on.kinds.now) on.net.now set g
grant_puts means on set g sizes told is_set p = record {
  lawful = all_of_map _ on.kinds.now.list.items p.lawful;
  is_set = is_set;
  fits = p.fits;
  shaped = p.shaped;
  hops = p.hops;
  rights = p.rights;
  opened = p.opened;
}

-- and so of each of its hops
pub hop_of_grant : (kinds : List Meaning) (net : List NodeDecl) (set : List NodeTable) (g : Grant) → GrantPuts kinds net set g → (j : ℕ) (hop : Hop) → slice_get g.placement.hops j ≡ Some hop → (u : UnitPart) × (unit_at net hop.unit ≡ Some u) × HopPuts kinds set u g.request.size (hop_rights g.request.rights g.placement.own j) hop
hop_of_grant kinds net set g p j hop at =
    let u = p.hops.units hop (hop_member g.placement.hops j hop at) in
    let z : 0 + j ≡ j = omega arith in
    let here : slice_get (grant_slots net g) j ≡ Some (hop_slots net g.request.size (hop_rights g.request.rights g.placement.own j) hop) = hops_at net g.request.size g.request.rights g.placement.own 0 g.placement.hops j hop at ∙ ap (λ m. Some (hop_slots net g.request.size (hop_rights g.request.rights g.placement.own m) hop)) z in (
      u.0,
      u.1,
      record {
        lawful = p.lawful;
        is_set = p.is_set;
        fits = p.fits.wide;
        at = unit_fits net kinds set p.fits hop.unit ∙ u.1;
        shaped = p.shaped.shaped hop.unit u.0 u.1;
        fit = u.2;
        rights = rights_of g.request.rights g.placement.own j p.rights;
        opened = λ s m used. p.opened s (joined_member (grant_slots net g) j _ s here (subst (λ o. Member s (hop_slots_by o g.request.size (hop_rights g.request.rights g.placement.own j) hop)) (sym u.1) m)) used;
      },
    )

-- each record of the grant may be put
pub grant_fits_put : (kinds : List Meaning) (net : List NodeDecl) (set : List NodeTable) (g : Grant) → GrantPuts kinds net set g → (j : ℕ) (l : List Put) → slice_get (grant_slots net g) j ≡ Some l → (s : Put) → Member s l → FitsPut kinds set s
grant_fits_put kinds net set g p j l e s m =
    let h = hop_at net g j l e in
    let k = hop_of_grant kinds net set g p j h.hop h.at in
    let n : Member s (hop_slots_by (unit_at net h.hop.unit) g.request.size (hop_rights g.request.rights g.placement.own j) h.hop) = subst (Member s) h.slots m in
    hop_fits_put kinds set k.0 g.request.size (hop_rights g.request.rights g.placement.own j) h.hop k.2 s (subst (λ o. Member s (hop_slots_by o g.request.size (hop_rights g.request.rights g.placement.own j) h.hop)) k.1 n)

-- the lists from behind, by their places from the front
pub from_behind : (net : List NodeDecl) (g : Grant) (i : ℕ) (l : List Put) → slice_get (reverse (grant_slots net g)) i ≡ Some l → slice_get (grant_slots net g) (length g.placement.hops - 1 - i) ≡ Some l
from_behind net g i l e =
    let n : length (grant_slots net g) ≡ length g.placement.hops = hops_length net g.request.size g.request.rights g.placement.own 0 g.placement.hops in
    let r : length (reverse (grant_slots net g)) ≡ length (grant_slots net g) = length-reverse (grant_slots net g) in
    let b : i < length (reverse (grant_slots net g)) = slice_get_within (reverse (grant_slots net g)) i l e in
    let same : get_or (reverse (grant_slots net g)) i l ≡ l = get_or_from_slice_get (reverse (grant_slots net g)) i l l e in
    slice_get-get_or (grant_slots net g) (length g.placement.hops - 1 - i) l (omega arith)
    ∙ ap Some (ap (λ m. get_or (grant_slots net g) (m - 1 - i) l) (sym n) ∙ sym (get_or-reverse (grant_slots net g) i l (omega arith)) ∙ same)

-- before a hop its slots are open still
pub hop_opened : (kinds : List Meaning) (net : List NodeDecl) (set set' : List NodeTable) (g : Grant) (i place : ℕ) (hop : Hop) (log log' : Option (List TableEvent)) → GrantPuts kinds net set g → i < length g.placement.hops → place ≡ length g.placement.hops - 1 - i → slice_get g.placement.hops place ≡ Some hop → ArePut kinds (joined_slots (take i (reverse (grant_slots net g)))) false log log' set set' → AreOpen set' (hop_slots net g.request.size (hop_rights g.request.rights g.placement.own place) hop)
hop_opened kinds net set set' g i place hop log log' p low is at put =
    open_after kinds (joined_slots (take i (reverse (grant_slots net g)))) (hop_slots net g.request.size (hop_rights g.request.rights g.placement.own place) hop) log log' set set' all apart opened put
  where
    n : length (reverse (grant_slots net g)) ≡ length g.placement.hops
    n = length-reverse (grant_slots net g) ∙ hops_length net g.request.size g.request.rights g.placement.own 0 g.placement.hops

    all : (t : Put) → Member t (joined_slots (take i (reverse (grant_slots net g)))) → FitsPut kinds set t
    all t m =
        let w = in_taken (reverse (grant_slots net g)) i t m in
        grant_fits_put kinds net set g p (length g.placement.hops - 1 - w.place) w.list (from_behind net g w.place w.list w.at) t w.is_in

    apart : (s t : Put) → Member s (hop_slots net g.request.size (hop_rights g.request.rights g.placement.own place) hop) → Member t (joined_slots (take i (reverse (grant_slots net g)))) → s.unit ≡ t.unit → s.slot ≡ t.slot → ⊥
    apart s t m k e f =
        let w = in_taken (reverse (grant_slots net g)) i t k in
        let b = w.below in
        let h = hop_at net g (length g.placement.hops - 1 - w.place) w.list (from_behind net g w.place w.list w.at) in
        let a : s.unit ≡ hop.unit = hop_unit net g.request.size (hop_rights g.request.rights g.placement.own place) hop s m in
        let c : t.unit ≡ h.hop.unit = hop_unit net g.request.size (hop_rights g.request.rights g.placement.own (length g.placement.hops - 1 - w.place)) h.hop t (subst (Member t) h.slots w.is_in) in
        units_apart g.placement.hops place (length g.placement.hops - 1 - w.place) hop h.hop p.hops.apart at h.at (λ q. absurd (omega arith)) (sym a ∙ e ∙ c)

    opened : AreOpen set (hop_slots net g.request.size (hop_rights g.request.rights g.placement.own place) hop)
    opened s m used =
        let z : 0 + place ≡ place = omega arith in
        let here : slice_get (grant_slots net g) place ≡ Some (hop_slots net g.request.size (hop_rights g.request.rights g.placement.own place) hop) = hops_at net g.request.size g.request.rights g.placement.own 0 g.placement.hops place hop at ∙ ap (λ m. Some (hop_slots net g.request.size (hop_rights g.request.rights g.placement.own m) hop)) z in
        p.opened s (joined_member (grant_slots net g) place _ s here m) used

-- the list of a hop, by its place from behind
pub behind_is : (net : List NodeDecl) (g : Grant) (i place : ℕ) (hop : Hop) → i < length g.placement.hops → place ≡ length g.placement.hops - 1 - i → slice_get g.placement.hops place ≡ Some hop → slice_get (reverse (grant_slots net g)) i ≡ Some (hop_slots net g.request.size (hop_rights g.request.rights g.placement.own place) hop)
behind_is net g i place hop low is at =
    let n : length (grant_slots net g) ≡ length g.placement.hops = hops_length net g.request.size g.request.rights g.placement.own 0 g.placement.hops in
    let z : 0 + place ≡ place = omega arith in
    let q : length (grant_slots net g) - 1 - i ≡ place = omega arith in
    behind_at (grant_slots net g) i _ (omega arith)
    (ap (slice_get (grant_slots net g)) q ∙ hops_at net g.request.size g.request.rights g.placement.own 0 g.placement.hops place hop at ∙ ap (λ m. Some (hop_slots net g.request.size (hop_rights g.request.rights g.placement.own m) hop)) z)

-- the hop of a turn
pub turn_hop : (hops hops' : List Hop) (i : ℕ) (d : Hop) → hops' ≡ hops → i < length hops' → slice_get hops (length hops - 1 - i) ≡ Some (get_or hops' (length hops' - 1 - i) d)
turn_hop hops hops' i d e l =
    let n : length hops' ≡ length hops = ap length e in
    slice_get-get_or hops (length hops - 1 - i) d (omega arith) ∙ ap (λ h. Some (get_or h (length h - 1 - i) d)) (sym e)

-- the slots of the hop of a turn, from behind
pub turn_behind : (net : List NodeDecl) (g : Grant) (hops : List Hop) (i own : ℕ) (d : Hop) (r : Rights) → hops ≡ g.placement.hops → own ≡ g.placement.own → i < length hops → r ≡ hop_rights g.request.rights own (length hops - 1 - i) → slice_get (reverse (grant_slots net g)) i ≡ Some (hop_slots net g.request.size r (get_or hops (length hops - 1 - i) d))
turn_behind net g hops i own d r e o l er =
    let n : length hops ≡ length g.placement.hops = ap length e in
    let hop : Hop = get_or hops (length hops - 1 - i) d in
    let place : ℕ = length g.placement.hops - 1 - i in
    let rights : r ≡ hop_rights g.request.rights g.placement.own place = er ∙ ap (λ w. hop_rights g.request.rights w (length hops - 1 - i)) o ∙ ap (λ m. hop_rights g.request.rights g.placement.own (m - 1 - i)) n in
    behind_is net g i place hop (omega arith) refl (turn_hop g.placement.hops hops i d e l) ∙ ap (λ w. Some (hop_slots net g.request.size w hop)) (sym rights)

-- and the lists before them are the first of all
pub rest_of_lists : (ls : List (List Put)) (i : ℕ) (l : List Put) → slice_get ls i ≡ Some l → joined_slots ls ≡ (joined_slots (take i ls) ++ l) ++ joined_slots (drop (i + 1) ls)
rest_of_lists ls i l e = joined_rest ls (i + 1) ∙ ap (λ (x : List Put). x ++ joined_slots (drop (i + 1) ls)) (joined_more ls i l e)

-- after as many lists as there are hops they are all
pub behind_all : (net : List NodeDecl) (g : Grant) (hops : List Hop) (i : ℕ) → hops ≡ g.placement.hops → length hops ≤ i → joined_slots (take i (reverse (grant_slots net g))) ≡ joined_slots (reverse (grant_slots net g))
behind_all net g hops i e l =
    let n : length hops ≡ length g.placement.hops = ap length e in
    let m : length (reverse (grant_slots net g)) ≡ length g.placement.hops = length-reverse (grant_slots net g) ∙ hops_length net g.request.size g.request.rights g.placement.own 0 g.placement.hops in
    joined_all (reverse (grant_slots net g)) i (omega arith)

-- the same from the front
pub turn_front : (net : List NodeDecl) (g : Grant) (i : ℕ) (hop : Hop) → slice_get g.placement.hops i ≡ Some hop → slice_get (grant_slots net g) i ≡ Some (hop_slots net g.request.size (hop_rights g.request.rights g.placement.own i) hop)
turn_front net g i hop at =
    let z : 0 + i ≡ i = omega arith in
    hops_at net g.request.size g.request.rights g.placement.own 0 g.placement.hops i hop at ∙ ap (λ m. Some (hop_slots net g.request.size (hop_rights g.request.rights g.placement.own m) hop)) z

pub front_all : (net : List NodeDecl) (g : Grant) (i : ℕ) → length g.placement.hops ≤ i → joined_slots (take i (grant_slots net g)) ≡ joined_slots (grant_slots net g)
front_all net g i l =
    let m : length (grant_slots net g) ≡ length g.placement.hops = hops_length net g.request.size g.request.rights g.placement.own 0 g.placement.hops in
    joined_all (grant_slots net g) i (omega arith)

-- the hop of a turn from the front
pub front_hop : (hops hops' : List Hop) (i : ℕ) (d : Hop) → hops' ≡ hops → i < length hops' → slice_get hops i ≡ Some (get_or hops' i d)
front_hop hops hops' i d e l =
    let n : length hops' ≡ length hops = ap length e in
    slice_get-get_or hops i d (omega arith) ∙ ap (λ h. Some (get_or h i d)) (sym e)
