-- All placements that a net has room for, as one list, and all scattered placements.
use Rattle.std.proofs.Common.{◌≡◌, sym, subst, refl, arith, ℕ, zero, suc, ◌+◌, ◌*◌, ◌^◌, ◌<◌, ◌≤◌, ◌⊎◌, inl, inr, List, [], ◌∷◌, ◌++◌, map, length, slice_get, Option, Some, None}
use Rattle.std.specs.List.{flat_map}
use Rattle.std.proofs.lemmas.Option.{slice_get_within}
use Rattle.dn_base.specs.Members.{Member}
use Rattle.dn_base.proofs.Members.{member_left, member_right, member_map}
use Rattle.dn_net.specs.declared.node.NodeDecl.{NodeDecl}
use Rattle.dn_net.specs.declared.node.Unit.{Unit as UnitPart}
use Rattle.dn_net.specs.Decode.{top, unit_at, unit_of}
use Rattle.dn_net.proofs.Members.{flat_map_member}
use Rattle.dn_tables.specs.declared.placement.Hop.{Hop}
use Rattle.dn_tables.specs.Placement.{Place}
use Rattle.dn_placement.specs.declared.request.Request.{Request}
use Rattle.dn_placement.specs.Placement.{FitsUnit, IsPlacement, Joins, Leads}
use Rattle.dn_placement.specs.Slots.{Slots}
use Rattle.dn_script.proofs.Decided.{last_or_below}

-- the numbers below a bound
pub numbers : ℕ → List ℕ
numbers zero = []
numbers (suc n) = n ∷ numbers n

pub in_numbers : (n i : ℕ) → i < n → Member i (numbers n)
unfolding numbers
in_numbers zero i l = absurd (omega arith)
in_numbers (suc n) i l = elim (last_or_below i n l) [ inl e ↦ inl e | inr m ↦ inr (in_numbers n i m) ]

-- what is made of each two items of two lists
pub crossed : {X Y Z : Type 0} → (X → Y → Z) → List X → List Y → List Z
crossed f xs ys = flat_map (λ x. map (f x) ys) xs

pub in_crossed : {X Y Z : Type 0} (f : X → Y → Z) (xs : List X) (ys : List Y) (x : X) (y : Y) → Member x xs → Member y ys → Member (f x y) (crossed f xs ys)
unfolding crossed
in_crossed f xs ys x y m n = flat_map_member (λ z. map (f z) ys) xs x (f x y) m (member_map (f x) ys y n)

-- the hops through a node, where it is this unit, or none
hops_by : ℕ → Option UnitPart → List Hop
hops_by node None = []
hops_by node (Some u) = crossed (λ (f : ℕ → Hop) y. f y) (crossed (λ port x y. record { unit = node; port = port; x = x; y = y }) (numbers (length u.ports)) (numbers (u.slots * 2 ^ u.page))) (numbers (2 ^ u.reach))

-- the hops through all units of a net
pub all_hops : List NodeDecl → List Hop
all_hops net = flat_map (λ node. hops_by node (unit_at net node)) (numbers (length net))

pub unit_within : (net : List NodeDecl) (node : ℕ) (u : UnitPart) → unit_at net node ≡ Some u → node < length net
unit_within net node u e = by (slice_get net node) refl e
  where
    by : (n : Option NodeDecl) → slice_get net node ≡ n → unit_of n ≡ Some u → node < length net
    by None at e = cc
    by (Some n) at e = slice_get_within net node n at

in_all_hops : (net : List NodeDecl) (size : ℕ) (u : UnitPart) (hop : Hop) → 1 ≤ size → unit_at net hop.unit ≡ Some u → FitsUnit u size hop → Member hop (all_hops net)
unfolding all_hops hops_by
in_all_hops net size u hop some e fits =
    let made = λ (port x y : ℕ). let h : Hop = record { unit = hop.unit; port = port; x = x; y = y } in h in
    let port = in_numbers (length u.ports) hop.port (slice_get_within u.ports hop.port fits.node fits.is_port) in
    let x = in_numbers (u.slots * 2 ^ u.page) hop.x (let w = fits.within in omega arith) in
    let y = in_numbers (2 ^ u.reach) hop.y (let w = fits.reached in omega arith) in
    let here : Member hop (hops_by hop.unit (Some u)) = in_crossed (λ (f : ℕ → Hop) y. f y) (crossed made (numbers (length u.ports)) (numbers (u.slots * 2 ^ u.page))) (numbers (2 ^ u.reach)) (made hop.port hop.x) hop.y (in_crossed made (numbers (length u.ports)) (numbers (u.slots * 2 ^ u.page)) hop.port hop.x port x) y in
    flat_map_member (λ node. hops_by node (unit_at net node)) (numbers (length net)) hop.unit hop (in_numbers (length net) hop.unit (unit_within net hop.unit u e)) (subst (λ (o : Option UnitPart). Member hop (hops_by hop.unit o)) (sym e) here)

-- the rows of at most so many items of a list
pub rows : {X : Type 0} → ℕ → List X → List (List X)
rows zero xs = [] ∷ []
rows (suc n) xs = [] ∷ crossed (λ x row. x ∷ row) xs (rows n xs)

pub in_rows : {X : Type 0} (n : ℕ) (xs row : List X) → length row ≤ n → ((x : X) → Member x row → Member x xs) → Member row (rows n xs)
unfolding rows
in_rows zero xs [] l of = inl refl
in_rows zero xs (x ∷ row) l of = absurd (omega arith)
in_rows (suc n) xs [] l of = inl refl
in_rows (suc n) xs (x ∷ row) l of = inr (in_crossed (λ x row. x ∷ row) xs (rows n xs) x row (of x (inl refl)) (in_rows n xs row (omega arith) (λ y m. of y (inr m))))

-- all placements of up to three hops
pub all_places : List NodeDecl → List Place
all_places net = crossed (λ (f : ℕ → Place) own. f own) (crossed (λ v hops own. record { v = v; hops = hops; own = own }) (numbers (top + 1)) (rows 3 (all_hops net))) (numbers 3)

-- each hop of hops that lead to a buffer is one of them
pub led_hops : (net : List NodeDecl) (slots : Slots) (rq : Request) (hops : List Hop) → 1 ≤ rq.size → Leads net slots rq hops → (hop : Hop) → Member hop hops → Member hop (all_hops net)
led_hops net slots rq [] some leads hop m = absurd m
led_hops net slots rq (h ∷ hops) some leads hop (inl e) = subst (λ (k : Hop). Member k (all_hops net)) e (in_all_hops net rq.size leads.0.unit h some leads.0.is_unit leads.0.fits)
led_hops net slots rq (h ∷ hops) some leads hop (inr m) = led_hops net slots rq hops some leads.1 hop m

pub place_is_listed : (net : List NodeDecl) (slots : Slots) (rq : Request) (p : Place) → IsPlacement net slots rq p → Member p (all_places net)
unfolding all_places
place_is_listed net slots rq p is =
    let made = λ (v : ℕ) (hops : List Hop) (own : ℕ). let q : Place = record { v = v; hops = hops; own = own } in q in
    let v = in_numbers (top + 1) p.v (let a = is.some in let b = is.fits in omega arith) in
    let hops = in_rows 3 (all_hops net) p.hops is.most (led_hops net slots rq p.hops is.some is.leads) in
    let own = in_numbers 3 p.own (let a = slice_get_within p.hops p.own is.own is.is_own in let b = is.most in omega arith) in
    in_crossed (λ (f : ℕ → Place) own. f own) (crossed made (numbers (top + 1)) (rows 3 (all_hops net))) (numbers 3) (made p.v p.hops) p.own (in_crossed made (numbers (top + 1)) (rows 3 (all_hops net)) p.v p.hops v hops) own
