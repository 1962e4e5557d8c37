-- Sets in which the table of one node is changed.
use Rattle.std.proofs.Common.{◌≡◌, ℕ, zero, suc, ◌+◌, ◌*◌, ◌<◌, ◌≤◌, Bool, ◌&&◌, ◌==◌, nat_le, List, [], ◌∷◌, map, length, get_or, slice_get, slice_set, Option, Some, None, IsTrue, refl, sym, ap, ◌∙◌, subst, arith, eqb-true, leb-true, ltb-true}
use Rattle.std.specs.List.{list_all}
use Rattle.std.proofs.lemmas.List.{length-set}
use Rattle.std.proofs.lemmas.Option.{same_Some, get_or_from_slice_get}
use Rattle.std.proofs.Math.Nat.{mul-le-mul_right, suc-mul}
use Rattle.dn_base.proofs.Booleans.{and_parts, and_from}
use Rattle.dn_base.proofs.Lists.{list_all-at}
use Rattle.dn_net.specs.declared.node.Unit.{Unit as UnitPart}
use Rattle.dn_kind.specs.Kind.{is_plain_unit_shape}
use Rattle.dn_kind.specs.Units.{unit_shape}
use Rattle.dn_tables.specs.declared.table.NodeTable.{NodeTable}
use Rattle.dn_tables.specs.Set.{HasSlot, is_sized, is_sized_by, with_table, unit_of_table, unit_in, has_slot_by, has_slot, IsSet}

-- a changed table stands where the table stood
pub with_table_is : (set : List NodeTable) (node : ℕ) (t : NodeTable) (f : NodeTable → NodeTable) → slice_get set node ≡ Some t → slice_set set node (f t) ≡ with_table set node f
with_table_is [] node t f e = refl
with_table_is (s ∷ set) zero t f e = ap (λ (x : NodeTable). f x ∷ set) (sym (same_Some s t e))
with_table_is (s ∷ set) (suc node) t f e = ap (λ (l : List NodeTable). s ∷ l) (with_table_is set node t f e)

-- and it is found there
pub get_changed : (set : List NodeTable) (node : ℕ) (t : NodeTable) (f : NodeTable → NodeTable) → slice_get set node ≡ Some t → slice_get (with_table set node f) node ≡ Some (f t)
get_changed [] node t f e = cc
get_changed (s ∷ set) zero t f e = ap (λ x. Some (f x)) (same_Some s t e)
get_changed (s ∷ set) (suc node) t f e = get_changed set node t f e

-- two changes of one table
pub with_table_twice : (set : List NodeTable) (node : ℕ) (f g : NodeTable → NodeTable) → with_table (with_table set node f) node g ≡ with_table set node (λ t. g (f t))
with_table_twice [] node f g = refl
with_table_twice (s ∷ set) zero f g = refl
with_table_twice (s ∷ set) (suc node) f g = ap (λ (l : List NodeTable). s ∷ l) (with_table_twice set node f g)

-- two changes that make the same of the table
pub same_change : (set : List NodeTable) (node : ℕ) (t : NodeTable) (f g : NodeTable → NodeTable) → slice_get set node ≡ Some t → f t ≡ g t → with_table set node f ≡ with_table set node g
same_change set node t f g at e = sym (with_table_is set node t f at) ∙ ap (slice_set set node) e ∙ with_table_is set node t g at

-- a change that leaves the table as it is
pub no_change : (set : List NodeTable) (node : ℕ) (f : NodeTable → NodeTable) → ((t : NodeTable) → f t ≡ t) → with_table set node f ≡ set
no_change [] node f e = refl
no_change (s ∷ set) zero f e = ap (λ (x : NodeTable). x ∷ set) (e s)
no_change (s ∷ set) (suc node) f e = ap (λ (l : List NodeTable). s ∷ l) (no_change set node f e)

-- what a change leaves of each table
pub map_changed : {Y : Type 0} (g : NodeTable → Y) (set : List NodeTable) (node : ℕ) (f : NodeTable → NodeTable) → ((t : NodeTable) → g (f t) ≡ g t) → map g (with_table set node f) ≡ map g set
map_changed g [] node f e = refl
map_changed {Y} g (s ∷ set) zero f e = ap (λ (y : Y). y ∷ map g set) (e s)
map_changed {Y} g (s ∷ set) (suc node) f e = ap (λ (l : List Y). g s ∷ l) (map_changed g set node f e)

-- a test that the change keeps
pub all_changed : (p : NodeTable → Bool) (set : List NodeTable) (node : ℕ) (f : NodeTable → NodeTable) → ((t : NodeTable) → p (f t) ≡ p t) → list_all p (with_table set node f) ≡ list_all p set
all_changed p [] node f e = refl
all_changed p (s ∷ set) zero f e = ap (λ b. b && list_all p set) (e s)
all_changed p (s ∷ set) (suc node) f e = ap (λ b. p s && b) (all_changed p set node f e)

-- a change keeps the number of tables
pub length_changed : (set : List NodeTable) (node : ℕ) (f : NodeTable → NodeTable) → length (with_table set node f) ≡ length set
length_changed [] node f = refl
length_changed (s ∷ set) zero f = refl
length_changed (s ∷ set) (suc node) f = ap suc (length_changed set node f)

-- tables of one unit with as many words and uses are sized alike
pub sized_alike : (t t' : NodeTable) (o : Option UnitPart) → t'.width ≡ t.width → length t'.words ≡ length t.words → length t'.uses ≡ length t.uses → is_sized_by t' o ≡ is_sized_by t o
sized_alike t t' None w m n = rw (m, n) refl
sized_alike t t' (Some u) w m n = rw (w, m, n) refl

-- the sizes of a unit's table
pub record IsSizedUnit (t : NodeTable) (u : UnitPart) : Type 0 where
  pub plain : IsTrue (is_plain_unit_shape (unit_shape u))
  pub least : 1 ≤ t.width
  pub most : t.width ≤ 4
  pub words : length t.words ≡ u.slots * t.width
  pub uses : length t.uses ≡ u.slots

-- what is known of the table of a unit that is sized
pub sized_unit : (t : NodeTable) (u : UnitPart) → IsTrue (is_sized_by t (Some u)) → IsSizedUnit t u
sized_unit t u s =
    let plain : Bool = is_plain_unit_shape (unit_shape u) in
    let a = and_parts (is_plain_unit_shape (unit_shape u) && nat_le 1 t.width && nat_le t.width 4 && (length t.words == u.slots * t.width)) (length t.uses == u.slots) s in
    let b = and_parts (is_plain_unit_shape (unit_shape u) && nat_le 1 t.width && nat_le t.width 4) (length t.words == u.slots * t.width) a.0 in
    let d = and_parts (is_plain_unit_shape (unit_shape u) && nat_le 1 t.width) (nat_le t.width 4) b.0 in
    let e = and_parts (is_plain_unit_shape (unit_shape u)) (nat_le 1 t.width) d.0 in
    record {
      plain = e.0;
      least = leb-true 1 t.width e.1;
      most = leb-true t.width 4 d.1;
      words = eqb-true (length t.words) (u.slots * t.width) b.1;
      uses = eqb-true (length t.uses) u.slots a.1;
    }

-- a table whose unit is known is that of a unit
pub sized_of : (t : NodeTable) (u : UnitPart) → t.unit ≡ Some u → IsTrue (is_sized t) → IsSizedUnit t u
sized_of t u e s = sized_unit t u (subst (λ o. IsTrue (is_sized_by t o)) e s)

-- the unit that has a slot
pub unit_of_slot : (o : Option UnitPart) (slot : ℕ) → IsTrue (has_slot_by o slot) → (u : UnitPart) × (o ≡ Some u) × (slot < u.slots)
unit_of_slot None slot h = cc
unit_of_slot (Some u) slot h = (u, refl, ltb-true slot u.slots h)

-- the table of a node that is there
pub table_of_unit : (set : List NodeTable) (node : ℕ) (u : UnitPart) → unit_in set node ≡ Some u → (t : NodeTable) × (slice_get set node ≡ Some t) × (t.unit ≡ Some u)
table_of_unit [] node u e = cc
table_of_unit (s ∷ set) zero u e = (s, refl, e)
table_of_unit (s ∷ set) (suc node) u e = table_of_unit set node u e

-- a node that has a table is one of the set
pub node_within : (set : List NodeTable) (node : ℕ) (t : NodeTable) → slice_get set node ≡ Some t → node < length set
node_within [] node t e = cc
node_within (s ∷ set) zero t e = omega arith
node_within (s ∷ set) (suc node) t e = let h = node_within set node t e in omega arith

-- the words of a slot are words of its unit
pub slot_room : (slot slots width count : ℕ) → slot < slots → count ≡ slots * width → slot * width + width ≤ count
slot_room slot slots width count l e =
    let m : suc slot * width ≤ slots * width = mul-le-mul_right width l in
    let n : suc slot * width ≡ slot * width + width = suc-mul slot width in
    omega arith

-- what is known of a slot of a table
pub record IsPlaced (t : NodeTable) (slot : ℕ) : Type 0 where
  pub least : 1 ≤ t.width
  pub room : slot * t.width + t.width ≤ length t.words
  pub used : slot < length t.uses

pub placed_in : (t : NodeTable) (slot : ℕ) → HasSlot t slot → IsPlaced t slot
placed_in t slot h =
    let u = unit_of_slot t.unit slot h.there in
    let s = sized_of t u.0 u.1 h.sized in
    let l = u.2 in
    let m = s.uses in
    record {
      least = s.least;
      room = slot_room slot u.0.slots t.width (length t.words) u.2 s.words;
      used = omega (arith, l, m);
    }

-- what is known of a slot of a set, and of the table in which it is
pub record IsSlot (set : List NodeTable) (node slot : ℕ) (t : NodeTable) : Type 0 where
  pub part : UnitPart
  pub at : slice_get set node ≡ Some t
  pub unit : t.unit ≡ Some part
  pub within : slot < part.slots
  pub sized : IsSizedUnit t part
  pub room : slot * t.width + t.width ≤ length t.words
  pub has : HasSlot t slot

slot_at : (set : List NodeTable) (node slot : ℕ) (t : NodeTable) → IsTrue (list_all is_sized set) → IsTrue (has_slot set node slot) → t ≡ get_or set node t → IsSlot set node slot t
slot_at set node slot t all there at =
    let u = unit_of_slot (unit_in set node) slot there in
    let k = table_of_unit set node u.0 u.1 in
    let same : k.0 ≡ t = sym (get_or_from_slice_get set node k.0 t k.1) ∙ sym at in
    let found : slice_get set node ≡ Some t = k.1 ∙ ap Some same in
    let unit : t.unit ≡ Some u.0 = sym (ap (λ (x : NodeTable). x.unit) same) ∙ k.2 in
    let test : IsTrue (is_sized t) = list_all-at is_sized set node t all found in
    let sized : IsSizedUnit t u.0 = sized_of t u.0 unit test in
    record {
      part = u.0;
      at = found;
      unit = unit;
      within = u.2;
      sized = sized;
      room = slot_room slot u.0.slots t.width (length t.words) u.2 sized.words;
      has = record { sized = test; there = subst (λ (o : Option NodeTable). IsTrue (has_slot_by (unit_of_table o) slot)) found there };
    }

-- the same as a function sees it: by the items inside of a set, and a place that is the node's number
pub slot_in_set : (items set : List NodeTable) (index node slot : ℕ) (t : NodeTable) → items ≡ set → index ≡ node → IsSet items → IsTrue (has_slot set node slot) → t ≡ get_or items index t → IsSlot set node slot t
slot_in_set items set index node slot t view from is_set there at =
    slot_at set node slot t (subst (λ (s : List NodeTable). IsTrue (list_all is_sized s)) view is_set.sized) there (at ∙ ap (λ (s : List NodeTable). get_or s index t) view ∙ ap (λ i. get_or set i t) from)

-- a table that is put in the place of another changes the set
pub set_is_changed : (items set : List NodeTable) (index node : ℕ) (t t' : NodeTable) (f : NodeTable → NodeTable) → items ≡ set → index ≡ node → slice_get set node ≡ Some t → t' ≡ f t → slice_set items index t' ≡ with_table set node f
set_is_changed items set index node t t' f view from at e =
    ap (λ (s : List NodeTable). slice_set s index t') view ∙ ap (λ i. slice_set set i t') from ∙ ap (slice_set set node) e ∙ with_table_is set node t f at

all_set : (p : NodeTable → Bool) (xs : List NodeTable) (i : ℕ) (x : NodeTable) → IsTrue (list_all p xs) → IsTrue (p x) → IsTrue (list_all p (slice_set xs i x))
all_set p [] i x all e = refl
all_set p (y ∷ ys) zero x all e = and_from (p x) (list_all p ys) e (and_parts (p y) (list_all p ys) all).1
all_set p (y ∷ ys) (suc i) x all e =
    let b = and_parts (p y) (list_all p ys) all in
    and_from (p y) (list_all p (slice_set ys i x)) b.0 (all_set p ys i x b.1 e)

-- and the set is one still, where the table has as many words and uses
pub set_kept : (items : List NodeTable) (index : ℕ) (t t' : NodeTable) → IsSet items → IsTrue (is_sized t) → t'.unit ≡ t.unit → t'.width ≡ t.width → length t'.words ≡ length t.words → length t'.uses ≡ length t.uses → IsSet (slice_set items index t')
set_kept items index t t' is_set test u w m n = record {
  few = subst (λ k. IsTrue (nat_le k 1024)) (sym (length-set items index t')) is_set.few;
  sized = all_set is_sized items index t' is_set.sized (ap (is_sized_by t') u ∙ sized_alike t t' t.unit w m n ∙ test);
}
