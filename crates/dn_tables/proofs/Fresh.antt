-- The set that is made of a net, and its units on a device.
use Rattle.std.proofs.Common.{◌≡◌, ℕ, zero, suc, ◌+◌, ◌*◌, ◌<◌, ◌≤◌, inl, Bool, true, false, ◌&&◌, ◌||◌, ◌==◌, nat_le, List, [], ◌∷◌, ◌++◌, map, take, drop, length, replicate, slice_get, Option, Some, None, IsTrue, is_some, eqb-true, refl, sym, ap, ◌∙◌, subst, arith, append_assoc, append-nil, length-append}
use Rattle.std.specs.List.{All, list_all}
use Rattle.std.proofs.lemmas.List.{length-replicate, take_at, take_all, map-append}
use Rattle.std.proofs.lemmas.Option.{same_Some}
use Rattle.dn_base.proofs.Booleans.{and_parts, and_from}
use Rattle.dn_base.proofs.Orders.{le-leb, eq-eqb, ne_eqb}
use Rattle.std.specs.Option.{option_map, IfSome}
use Rattle.dn_base.specs.Device.{Logged, UnitSize, size_of, sizes_of, has_unit}
use Rattle.dn_base.specs.declared.device.TableEvent.{TableEvent}
use Rattle.dn_base.proofs.Logs.{Logged-then}
use Rattle.dn_base.specs.declared.device.UnitWords.{UnitWords}
use Rattle.dn_net.specs.declared.node.NodeDecl.{NodeDecl}
use Rattle.dn_net.specs.declared.node.Unit.{Unit as UnitPart}
use Rattle.dn_net.specs.Decode.{unit_at, unit_of}
use Rattle.dn_kind.specs.Kind.{Meaning, IsLawful, is_plain_unit_shape}
use Rattle.dn_kind.specs.Units.{KeepsUnitShape, has_shape, is_shaped, fits_shape, unit_shape}
use Rattle.dn_kind.proofs.Held.{kind_lawful}
use Rattle.std.proofs.Math.Nat.{mul-le-mul_right}
use Rattle.dn_kind.specs.declared.shape.Shape.{Shape}
use Rattle.dn_tables.proofs.Kept.{IsSizedUnit, sized_unit}
use Rattle.dn_tables.specs.declared.table.NodeTable.{NodeTable}
use Rattle.dn_tables.specs.Set.{is_sized, is_sized_by, fits_by, fits_kinds, is_wide, width_by, fresh_by, fresh_set, no_use, units_of, IsSet, FitsNet, is_zero, table_on_device, tables_from, tables_of_set, IsOnDevice}
use Rattle.dn_tables.specs.Writes.{make_event, AreUnitsMade}

-- a unit that is shaped has a kind
pub kind_there : (kinds : List Meaning) (u : UnitPart) → IsTrue (is_shaped kinds u) → (kind : Meaning) × (slice_get kinds u.kind ≡ Some kind)
kind_there kinds u s = by (slice_get kinds u.kind) refl (and_parts (is_plain_unit_shape (unit_shape u)) (fits_shape (slice_get kinds u.kind) (unit_shape u)) s).1
  where
    by : (k : Option Meaning) → slice_get kinds u.kind ≡ k → IsTrue (fits_shape k (unit_shape u)) → (kind : Meaning) × (slice_get kinds u.kind ≡ Some kind)
    by None e f = cc
    by (Some kind) e f = (kind, e)

pub plain_there : (kinds : List Meaning) (u : UnitPart) → IsTrue (is_shaped kinds u) → IsTrue (is_plain_unit_shape (unit_shape u))
plain_there kinds u s = (and_parts (is_plain_unit_shape (unit_shape u)) (fits_shape (slice_get kinds u.kind) (unit_shape u)) s).0

sized_by_width : (u : UnitPart) (w : ℕ) → IsTrue (is_plain_unit_shape (unit_shape u)) → 1 ≤ w → w ≤ 4 → is_sized_by (record { unit = Some u; width = w; words = replicate (u.slots * w) 0; uses = replicate u.slots no_use }) (Some u) ≡ true
sized_by_width u w plain least most =
    and_from (is_plain_unit_shape (unit_shape u) && nat_le 1 w && nat_le w 4 && (length (replicate (u.slots * w) 0) == u.slots * w)) (length (replicate u.slots no_use) == u.slots)
    (and_from (is_plain_unit_shape (unit_shape u) && nat_le 1 w && nat_le w 4) (length (replicate (u.slots * w) 0) == u.slots * w)
    (and_from (is_plain_unit_shape (unit_shape u) && nat_le 1 w) (nat_le w 4)
    (and_from (is_plain_unit_shape (unit_shape u)) (nat_le 1 w) plain (le-leb 1 w least))
    (le-leb w 4 most))
    (eq-eqb (length (replicate (u.slots * w) 0)) (u.slots * w) (length-replicate (u.slots * w) 0)))
    (eq-eqb (length (replicate u.slots no_use)) u.slots (length-replicate u.slots no_use))

fresh_sized : (kinds : List Meaning) → All IsLawful kinds → (o : Option UnitPart) → ((u : UnitPart) → o ≡ Some u → IsTrue (is_shaped kinds u)) → is_sized (fresh_by kinds o) ≡ true
fresh_sized kinds lawful None shaped = refl
fresh_sized kinds lawful (Some u) shaped =
    let s = shaped u refl in
    let k = kind_there kinds u s in
    let law = kind_lawful kinds u.kind k.0 lawful k.1 in
    let w : width_by (slice_get kinds u.kind) ≡ k.0.words = ap width_by k.1 in
    let least : 1 ≤ k.0.words = law.least in
    let most : k.0.words ≤ 4 = law.most in
    sized_by_width u (width_by (slice_get kinds u.kind)) (plain_there kinds u s) (omega arith) (omega arith)

pub fresh_all_sized : (kinds : List Meaning) → All IsLawful kinds → (net : List NodeDecl) → ((n : ℕ) (u : UnitPart) → unit_at net n ≡ Some u → IsTrue (is_shaped kinds u)) → IsTrue (list_all is_sized (fresh_set kinds net))
fresh_all_sized kinds lawful [] shaped = refl
fresh_all_sized kinds lawful (n ∷ ns) shaped = and_from (is_sized (fresh_by kinds n.unit)) (list_all is_sized (fresh_set kinds ns)) (fresh_sized kinds lawful n.unit (shaped 0)) (fresh_all_sized kinds lawful ns (λ i u e. shaped (suc i) u e))

fresh_fits : (kinds : List Meaning) (o : Option UnitPart) → ((u : UnitPart) → o ≡ Some u → IsTrue (is_shaped kinds u)) → fits_by kinds (fresh_by kinds o).width (fresh_by kinds o).unit ≡ true
fresh_fits kinds None shaped = refl
fresh_fits kinds (Some u) shaped =
    let k = kind_there kinds u (shaped u refl) in
    ap (λ o. is_wide o (width_by o)) k.1 ∙ eq-eqb k.0.words k.0.words refl

pub fresh_fits_kinds : (kinds : List Meaning) (net : List NodeDecl) → ((n : ℕ) (u : UnitPart) → unit_at net n ≡ Some u → IsTrue (is_shaped kinds u)) → IsTrue (fits_kinds kinds (fresh_set kinds net))
fresh_fits_kinds kinds [] shaped = refl
fresh_fits_kinds kinds (n ∷ ns) shaped = and_from (fits_by kinds (fresh_by kinds n.unit).width (fresh_by kinds n.unit).unit) (fits_kinds kinds (fresh_set kinds ns)) (fresh_fits kinds n.unit (shaped 0)) (fresh_fits_kinds kinds ns (λ i u e. shaped (suc i) u e))

fresh_unit : (kinds : List Meaning) (o : Option UnitPart) → (fresh_by kinds o).unit ≡ o
fresh_unit kinds None = refl
fresh_unit kinds (Some u) = refl

pub fresh_units : (kinds : List Meaning) (net : List NodeDecl) → units_of (fresh_set kinds net) ≡ map (λ n. n.unit) net
fresh_units kinds [] = refl
fresh_units kinds (n ∷ ns) = ap (λ (o : Option UnitPart). o ∷ units_of (fresh_set kinds ns)) (fresh_unit kinds n.unit) ∙ ap (λ (l : List (Option UnitPart)). n.unit ∷ l) (fresh_units kinds ns)

pub fresh_length : (kinds : List Meaning) (net : List NodeDecl) → length (fresh_set kinds net) ≡ length net
fresh_length kinds [] = refl
fresh_length kinds (n ∷ ns) = ap suc (fresh_length kinds ns)

-- the tables of one node more
pub fresh_more : (kinds : List Meaning) (net : List NodeDecl) (i : ℕ) (o : Option UnitPart) → option_map (λ d. d.unit) (slice_get net i) ≡ Some o → fresh_set kinds (take (i + 1) net) ≡ fresh_set kinds (take i net) ++ fresh_by kinds o ∷ []
fresh_more kinds [] i o e = cc
fresh_more kinds (n ∷ ns) zero o e = let f : n.unit ≡ o = same_Some n.unit o e in ap (λ (p : Option UnitPart). fresh_by kinds p ∷ []) f
fresh_more kinds (n ∷ ns) (suc i) o e =
    let next : suc i + 1 ≡ suc (i + 1) = omega arith in
    ap (λ j. fresh_set kinds (take j (n ∷ ns))) next ∙ ap (λ (l : List NodeTable). fresh_by kinds n.unit ∷ l) (fresh_more kinds ns i o e)

-- and the set of the whole net is one
pub fresh_is_set : (kinds : List Meaning) → All IsLawful kinds → (net : List NodeDecl) → KeepsUnitShape kinds net → length net ≤ 1024 → IsSet (fresh_set kinds net)
fresh_is_set kinds lawful net shaped few = record {
  few = le-leb (length (fresh_set kinds net)) 1024 (let e = fresh_length kinds net in omega arith);
  sized = fresh_all_sized kinds lawful net shaped.shaped;
}

pub fresh_fits_net : (kinds : List Meaning) (net : List NodeDecl) → KeepsUnitShape kinds net → FitsNet net kinds (fresh_set kinds net)
fresh_fits_net kinds net shaped = record { units = fresh_units kinds net; wide = fresh_fits_kinds kinds net shaped.shaped }

-- what holds of each unit of a net holds of the unit of a node
pub shape_there : (kinds : List Meaning) (net : List NodeDecl) (i : ℕ) (o : Option UnitPart) → KeepsUnitShape kinds net → option_map (λ d. d.unit) (slice_get net i) ≡ Some o → IsTrue (has_shape kinds o)
shape_there kinds net i None k e = refl
shape_there kinds net i (Some u) k e = k.shaped i u (go (slice_get net i) refl e)
  where
    go : (p : Option NodeDecl) → slice_get net i ≡ p → option_map (λ d. d.unit) p ≡ Some (Some u) → unit_at net i ≡ Some u
    go None at f = cc
    go (Some d) at f = ap (λ q. unit_of q) at ∙ same_Some d.unit (Some u) f

-- units on a device

-- the tables of a set are those of its first nodes and of the others
pub tables_split : (set : List NodeTable) (n k : ℕ) → tables_from n set ≡ tables_from n (take k set) ++ tables_from (n + k) (drop k set)
tables_split set n zero = let e : n ≡ n + zero = omega arith in ap (λ m. tables_from m set) e
tables_split [] n (suc k) = refl
tables_split (t ∷ set) n (suc k) =
    let e : suc n + k ≡ n + suc k = omega arith in
    ap (λ (l : List UnitWords). table_on_device n t.words t.unit ++ l) (tables_split set (suc n) k)
    ∙ sym (append_assoc (table_on_device n t.words t.unit) (tables_from (suc n) (take k set)) (tables_from (suc n + k) (drop k set)))
    ∙ ap (λ m. (table_on_device n t.words t.unit ++ tables_from (suc n) (take k set)) ++ tables_from m (drop k set)) e

-- the tables of one node more
pub tables_more : (set : List NodeTable) (n k : ℕ) (t : NodeTable) → slice_get set k ≡ Some t → tables_from n (take (k + 1) set) ≡ tables_from n (take k set) ++ table_on_device (n + k) t.words t.unit
tables_more [] n k t e = cc
tables_more (s ∷ set) n zero t e =
    let f : s ≡ t = same_Some s t e in
    let none : n ≡ n + zero = omega arith in
    append-nil (table_on_device n s.words s.unit) ∙ ap (λ (x : NodeTable). table_on_device n x.words x.unit) f ∙ ap (λ m. table_on_device m t.words t.unit) none
tables_more (s ∷ set) n (suc k) t e =
    let m : suc n + k ≡ n + suc k = omega arith in
    let next : suc k + 1 ≡ suc (k + 1) = omega arith in
    ap (λ j. tables_from n (take j (s ∷ set))) next
    ∙ ap (λ (l : List UnitWords). table_on_device n s.words s.unit ++ l) (tables_more set (suc n) k t e)
    ∙ sym (append_assoc (table_on_device n s.words s.unit) (tables_from (suc n) (take k set)) (table_on_device (suc n + k) t.words t.unit))
    ∙ ap (λ j. (table_on_device n s.words s.unit ++ tables_from (suc n) (take k set)) ++ table_on_device j t.words t.unit) m

-- no unit of a later number is there
pub none_later : (set : List NodeTable) (n m : ℕ) → n + length set ≤ m → has_unit (sizes_of (tables_from n set)) m ≡ false
none_later [] n m l = refl
none_later (t ∷ set) n m l = by (none_later set (suc n) m (omega arith)) t.unit
  where
    by : has_unit (sizes_of (tables_from (suc n) set)) m ≡ false → (o : Option UnitPart) → has_unit (sizes_of (table_on_device n t.words o ++ tables_from (suc n) set)) m ≡ false
    by rest None = rest
    by rest (Some u) = ap (λ b. b || has_unit (sizes_of (tables_from (suc n) set)) m) (ne_eqb n m (λ e. absurd (omega (arith, e)))) ∙ rest

-- the table of a node that is a unit, and of one that is none
pub table_here : (n : ℕ) (t : NodeTable) → is_some t.unit ≡ true → table_on_device n t.words t.unit ≡ record { unit = n; words = t.words } ∷ []
table_here n t e = go t.unit e
  where
    go : (o : Option UnitPart) → is_some o ≡ true → table_on_device n t.words o ≡ record { unit = n; words = t.words } ∷ []
    go None f = cc
    go (Some u) f = refl

pub no_table_here : (n : ℕ) (t : NodeTable) → is_some t.unit ≡ false → table_on_device n t.words t.unit ≡ []
no_table_here n t e = go t.unit e
  where
    go : (o : Option UnitPart) → is_some o ≡ false → table_on_device n t.words o ≡ []
    go None f = refl
    go (Some u) f = cc

-- the words of a sized table are few
pub few_words : (t : NodeTable) → IsTrue (is_sized t) → length t.words ≤ 1048576
few_words t s = go t.unit s
  where
    go : (o : Option UnitPart) → IsTrue (is_sized_by t o) → length t.words ≤ 1048576
    go None f = let e : length t.words ≡ 0 = eqb-true (length t.words) 0 (and_parts (length t.words == 0) (length t.uses == 0) f).0 in omega arith
    go (Some u) f =
        let s : IsSizedUnit t u = sized_unit t u f in
        let slots : u.slots ≤ 262144 = plain_slots (unit_shape u) s.plain in
        let w : t.width ≤ 4 = s.most in
        let words = s.words in
        let m : u.slots * t.width ≤ 262144 * t.width = mul-le-mul_right t.width slots in
        omega arith
      where
        plain_slots : (shape : Shape) → IsTrue (is_plain_unit_shape shape) → shape.slots ≤ 262144
        plain_slots shape p = grind arith

-- words that are 0
pub zero_words : (ws : List ℕ) → IsTrue (list_all (λ w. w == 0) ws) → ws ≡ replicate (length ws) 0
zero_words [] all = refl
zero_words (w ∷ ws) all =
    let b = and_parts (w == 0) (list_all (λ v. v == 0) ws) all in
    ap (λ v. v ∷ ws) (eqb-true w 0 b.0) ∙ ap (λ (l : List ℕ). 0 ∷ l) (zero_words ws b.1)

pub zeros_zero : (n : ℕ) → IsTrue (list_all (λ w. w == 0) (replicate n 0))
zeros_zero zero = refl
zeros_zero (suc n) = zeros_zero n

fresh_zero : (kinds : List Meaning) (o : Option UnitPart) → IsTrue (is_zero (fresh_by kinds o))
fresh_zero kinds None = refl
fresh_zero kinds (Some u) = zeros_zero (u.slots * width_by (slice_get kinds u.kind))

pub fresh_all_zero : (kinds : List Meaning) (net : List NodeDecl) → IsTrue (list_all is_zero (fresh_set kinds net))
fresh_all_zero kinds [] = refl
fresh_all_zero kinds (n ∷ ns) = and_from (is_zero (fresh_by kinds n.unit)) (list_all is_zero (fresh_set kinds ns)) (fresh_zero kinds n.unit) (fresh_all_zero kinds ns)

-- the tables of the first nodes, and of one more
next_tables : (nodes : List NodeTable) (k : ℕ) (t : NodeTable) → slice_get nodes k ≡ Some t → tables_of_set (take (k + 1) nodes) ≡ tables_of_set (take k nodes) ++ table_on_device k t.words t.unit
next_tables nodes k t at =
    let none : 0 + k ≡ k = omega arith in
    tables_more nodes 0 k t at ∙ ap (λ n. tables_of_set (take k nodes) ++ table_on_device n t.words t.unit) none

-- a unit that comes later is among the later tables
later_there : (nodes : List NodeTable) (n k : ℕ) (t : NodeTable) → slice_get nodes k ≡ Some t → is_some t.unit ≡ true → 0 < length (tables_from n (drop k nodes))
later_there [] n k t at some = cc
later_there (s ∷ nodes) n zero t at some = go s.unit (ap (λ (x : NodeTable). is_some x.unit) (same_Some s t at) ∙ some)
  where
    go : (o : Option UnitPart) → is_some o ≡ true → 0 < length (table_on_device n s.words o ++ tables_from (suc n) nodes)
    go None e = cc
    go (Some u) e = omega arith
later_there (s ∷ nodes) n (suc k) t at some = later_there nodes n k t at some

-- the units of some nodes were made

-- and that of one node more
pub units_next : (nodes : List NodeTable) (k : ℕ) (t : NodeTable) (sizes sizes' : List UnitSize) → slice_get nodes k ≡ Some t → sizes ≡ sizes_of (tables_of_set (take k nodes)) → sizes' ≡ sizes ++ sizes_of (table_on_device k t.words t.unit) → sizes' ≡ sizes_of (tables_of_set (take (k + 1) nodes))
units_next nodes k t sizes sizes' at so_far more =
    more
    ∙ ap (λ (l : List UnitSize). l ++ sizes_of (table_on_device k t.words t.unit)) so_far
    ∙ sym (map-append size_of (tables_of_set (take k nodes)) (table_on_device k t.words t.unit))
    ∙ ap sizes_of (sym (next_tables nodes k t at))

pub logged_next : (nodes : List NodeTable) (k : ℕ) (t : NodeTable) (a b d : Option (List TableEvent)) → slice_get nodes k ≡ Some t → Logged a b (map make_event (tables_of_set (take k nodes))) → Logged b d (map make_event (table_on_device k t.words t.unit)) → Logged a d (map make_event (tables_of_set (take (k + 1) nodes)))
logged_next nodes k t a b d at so_far more =
    subst (λ es. Logged a d es) (sym (map-append make_event (tables_of_set (take k nodes)) (table_on_device k t.words t.unit)) ∙ ap (map make_event) (sym (next_tables nodes k t at)))
    (Logged-then a b d (map make_event (tables_of_set (take k nodes))) (map make_event (table_on_device k t.words t.unit)) so_far more)

pub told_next : (nodes : List NodeTable) (k : ℕ) (t : NodeTable) (a b d : Option (List UnitWords)) → slice_get nodes k ≡ Some t → b ≡ option_map (λ before. before ++ tables_of_set (take k nodes)) a → d ≡ option_map (λ before. before ++ table_on_device k t.words t.unit) b → d ≡ option_map (λ before. before ++ tables_of_set (take (k + 1) nodes)) a
told_next nodes k t a b d at so_far more =
    more ∙ ap (option_map (λ before. before ++ table_on_device k t.words t.unit)) so_far ∙ twice a ∙ ap (λ (l : List UnitWords). option_map (λ before. before ++ l) a) (sym (next_tables nodes k t at))
  where
    twice : (o : Option (List UnitWords)) → option_map (λ before. before ++ table_on_device k t.words t.unit) (option_map (λ before. before ++ tables_of_set (take k nodes)) o) ≡ option_map (λ before. before ++ (tables_of_set (take k nodes) ++ table_on_device k t.words t.unit)) o
    twice None = refl
    twice (Some l) = ap Some (append_assoc l (tables_of_set (take k nodes)) (table_on_device k t.words t.unit))

-- and that of the next was not
pub units_stopped : (nodes : List NodeTable) (k : ℕ) (t : NodeTable) (done failed : Bool) (log log' log'' : Option (List TableEvent)) (sizes sizes' : List UnitSize) (told told' told'' : Option (List UnitWords)) → slice_get nodes k ≡ Some t → done ≡ false → is_some t.unit ≡ true → sizes ≡ sizes_of (tables_of_set (take k nodes)) → Logged log log' (map make_event (tables_of_set (take k nodes))) → told' ≡ option_map (λ before. before ++ tables_of_set (take k nodes)) told → sizes' ≡ sizes → told'' ≡ told' → log'' ≡ log' → AreUnitsMade (tables_of_set nodes) done failed log log'' sizes' told told''
units_stopped nodes k t done failed log log' log'' sizes sizes' told told' told'' at d some so_far logged on_device e f g =
    let T : List UnitWords = tables_of_set (take k nodes) in
    let rest : List UnitWords = tables_from (0 + k) (drop k nodes) in
    let split : tables_of_set nodes ≡ T ++ rest = tables_split nodes 0 k in
    let front : take (length T) (tables_of_set nodes) ≡ T = ap (take (length T)) split ∙ take_at T rest (length T) refl in
    let many : length (tables_of_set nodes) ≡ length T + length rest = ap length split ∙ length-append T rest in
    let more : 0 < length rest = later_there nodes (0 + k) k t at some in
    record {
      made = length T;
      all = λ h. let x : ◌≡◌ {A = Bool} false true = sym d ∙ h in cc;
      less = λ h. omega arith;
      unfinished = λ h. inl (omega arith);
      units = e ∙ so_far ∙ ap sizes_of (sym front);
      logged = subst (λ o. Logged log o (map make_event (take (length T) (tables_of_set nodes)))) (sym g) (subst (λ l. Logged log log' (map make_event l)) (sym front) logged);
      on_device = f ∙ on_device ∙ ap (λ (l : List UnitWords). option_map (λ before. before ++ l) told) (sym front);
    }

-- all units were made
pub units_all : (nodes : List NodeTable) (k : ℕ) (done failed : Bool) (log log' : Option (List TableEvent)) (sizes : List UnitSize) (told told' : Option (List UnitWords)) → length nodes ≤ k → done ≡ true → failed ≡ false → sizes ≡ sizes_of (tables_of_set (take k nodes)) → Logged log log' (map make_event (tables_of_set (take k nodes))) → told' ≡ option_map (λ before. before ++ tables_of_set (take k nodes)) told → AreUnitsMade (tables_of_set nodes) done failed log log' sizes told told'
units_all nodes k done failed log log' sizes told told' l d f so_far logged on_device =
    let whole : tables_of_set (take k nodes) ≡ take (length (tables_of_set nodes)) (tables_of_set nodes) = ap tables_of_set (take_all k nodes l) ∙ sym (take_all (length (tables_of_set nodes)) (tables_of_set nodes) (omega arith)) in
    record {
      made = length (tables_of_set nodes);
      all = λ h. refl;
      less = λ h. let x : ◌≡◌ {A = Bool} false true = sym f ∙ h in cc;
      unfinished = λ h. let x : ◌≡◌ {A = Bool} false true = sym h ∙ d in cc;
      units = so_far ∙ ap sizes_of whole;
      logged = subst (λ l. Logged log log' (map make_event l)) whole logged;
      on_device = on_device ∙ ap (λ (l : List UnitWords). option_map (λ before. before ++ l) told) whole;
    }

-- all units of a set were made on a device that had none
pub all_on_device : (set : List NodeTable) (log log' : Option (List TableEvent)) (sizes sizes' : List UnitSize) (told told' : Option (List UnitWords)) → sizes ≡ [] → IfSome told (λ tables. sizes_of tables ≡ sizes) → AreUnitsMade (tables_of_set set) true false log log' sizes' told told' → IsOnDevice set sizes' told'
all_on_device set log log' sizes sizes' told told' none sized m =
    let whole : take m.made (tables_of_set set) ≡ tables_of_set set = take_all m.made (tables_of_set set) (let h = m.all refl in omega arith) in
    record {
      units = m.units ∙ ap sizes_of whole;
      words = subst (λ o. IfSome o (λ tables. tables ≡ tables_of_set set)) (sym m.on_device) (go told sized);
    }
  where
    no_sizes : (ts : List UnitWords) → sizes_of ts ≡ [] → ts ≡ []
    no_sizes [] e = refl
    no_sizes (t ∷ ts) e = cc

    go : (o : Option (List UnitWords)) → IfSome o (λ tables. sizes_of tables ≡ sizes) → IfSome (option_map (λ before. before ++ take m.made (tables_of_set set)) o) (λ tables. tables ≡ tables_of_set set)
    go None h = tt
    go (Some ts) h =
        ap (λ (l : List UnitWords). l ++ take m.made (tables_of_set set)) (no_sizes ts (h ∙ none)) ∙ take_all m.made (tables_of_set set) (let e = m.all refl in omega arith)
