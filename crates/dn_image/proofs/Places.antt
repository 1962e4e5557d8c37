-- Where the bytes of nodes stand in an image.
use Rattle.std.proofs.Common.{◌≡◌, ℕ, zero, suc, ◌+◌, ◌-◌, ◌*◌, ◌<◌, ◌≤◌, min, Bool, true, false, nat_lt, List, [], ◌∷◌, ◌++◌, map, length, take, drop, replicate, slice_get, Option, Some, None, Bor, is_some, IsTrue, refl, sym, ap, ◌∙◌, subst, arith, length-drop, length-append, append_assoc, ltb-true, lt-ltb, if◌then◌else◌}
use Rattle.std.proofs.Math.Nat.{min-eq_left, min-eq_right, mul-le-mul_right}
use Rattle.std.specs.Option.{option_map, option_copied}
use Rattle.std.proofs.lemmas.List.{drop-drop}
use Rattle.std.proofs.lemmas.Option.{same_Some}
use Rattle.dn_base.proofs.Orders.{ltb-false, le-ltb}
use Rattle.dn_net.specs.declared.node.NodeDecl.{NodeDecl}
use Rattle.dn_net.specs.declared.node.Unit.{Unit as UnitPart}
use Rattle.dn_net.proofs.Steps.{unit_is}
use Rattle.dn_kind.specs.Kind.{Meaning, is_plain_unit_shape}
use Rattle.dn_kind.specs.Tables.{slot_words, record_within, record_spelled, record_of_unit, record_held}
use Rattle.dn_kind.specs.declared.shape.Shape.{Shape}
use Rattle.dn_kind.specs.Units.{is_shaped, unit_shape}
use Rattle.dn_tables.proofs.Fresh.{kind_there as shaped_kind, plain_there}
use Rattle.dn_tables.specs.declared.table.NodeTable.{NodeTable}
use Rattle.dn_tables.specs.Set.{first_words, unit_in, units_of, words_in, words_of, fits_by, fits_kinds, is_wide, width_by}
use Rattle.dn_tables.proofs.Kept.{table_of_unit, slot_room}
use Rattle.dn_base.proofs.Lists.{list_all-at, length-map, slice_get_within}
use Rattle.dn_image.specs.Image.{count_unit, unit_count, width_of, word_count, head_bytes, unit_bytes, units_bytes}
use Rattle.dn_image.specs.Reading.{Field, exactly, word_field, header_fields, unit_fields, units_fields, image_fields, broken_in, broken_image, node_size, nodes_size, node_words, words_from}
use Rattle.dn_image.specs.Bytes.{word_bytes, words_spelled}
use Rattle.dn_image.proofs.Numbers.{length_words, slot_spelled}
use Rattle.dn_image.specs.Reading.BrokenImage.{ends, shape}
use Rattle.dn_image.proofs.Fields.{right_field, short_field, wrong_field, exactly_right, exactly_wrong, words_there, words_short, right_first, IsRight, ended}

-- the node at a place, and those behind it
pub record IsNodeAt (net : List NodeDecl) (i : ℕ) (o : Option UnitPart) : Type 0 where
  pub node : NodeDecl
  pub rest : drop i net ≡ node ∷ drop (i + 1) net
  pub unit : node.unit ≡ o

pub node_at : (net : List NodeDecl) (i : ℕ) (o : Option UnitPart) → option_map (λ d. d.unit) (slice_get net i) ≡ Some o → IsNodeAt net i o
node_at [] i o e = cc
node_at (n ∷ ns) zero o e = record { node = n; rest = refl; unit = same_Some n.unit o e }
node_at (n ∷ ns) (suc i) o e =
    let r = node_at ns i o e in
    let next : suc (i + 1) ≡ suc i + 1 = omega arith in
    record { node = r.node; rest = r.rest ∙ ap (λ k. r.node ∷ drop k (n ∷ ns)) next; unit = r.unit }

-- the units counted so far and those to come
pub count_step : (net : List NodeDecl) (i c : ℕ) (o : Option UnitPart) → option_map (λ d. d.unit) (slice_get net i) ≡ Some o → count_unit o c + unit_count (drop (i + 1) net) ≡ c + unit_count (drop i net)
count_step net i c o e =
    let n = node_at net i o e in
    by o (unit_count (drop (i + 1) net)) ∙ ap (λ p. c + count_unit p (unit_count (drop (i + 1) net))) (sym n.unit) ∙ ap (λ l. c + unit_count l) (sym n.rest)
  where
    by : (p : Option UnitPart) (x : ℕ) → count_unit p c + x ≡ c + count_unit p x
    by None x = refl
    by (Some u) x = omega arith

pub count_least : (o : Option UnitPart) (c i : ℕ) → c ≤ i → count_unit o c ≤ i + 1
count_least None c i l = omega arith
count_least (Some u) c i l = omega arith

-- the fields of the nodes to come
pub fields_step : (kinds : List Meaning) (net : List NodeDecl) (i place : ℕ) (o : Option UnitPart) (more : List Field) → option_map (λ d. d.unit) (slice_get net i) ≡ Some o → units_fields kinds place i (drop i net) ++ more ≡ unit_fields kinds place i o ++ (units_fields kinds (count_unit o place) (i + 1) (drop (i + 1) net) ++ more)
fields_step kinds net i place o more e =
    let n = node_at net i o e in
    let next : suc i ≡ i + 1 = omega arith in
    ap (λ l. units_fields kinds place i l ++ more) n.rest
    ∙ ap (λ p. (unit_fields kinds place i p ++ units_fields kinds (count_unit p place) (suc i) (drop (i + 1) net)) ++ more) n.unit
    ∙ append_assoc (unit_fields kinds place i o) (units_fields kinds (count_unit o place) (suc i) (drop (i + 1) net)) more
    ∙ ap (λ k. unit_fields kinds place i o ++ (units_fields kinds (count_unit o place) k (drop (i + 1) net) ++ more)) next

-- sizes

abbrev pub fields_size : List Field → ℕ
fields_size [] = 0
fields_size (f ∷ fs) = f.size + fields_size fs

size_append : (xs ys : List Field) → fields_size (xs ++ ys) ≡ fields_size xs + fields_size ys
size_append [] ys = let e : fields_size ys ≡ 0 + fields_size ys = omega arith in e
size_append (x ∷ xs) ys = let e = size_append xs ys in omega arith

size_words : (n : ℕ) → fields_size (replicate n word_field) ≡ 8 * n
size_words zero = refl
size_words (suc n) = let e = size_words n in omega arith

none_size : (total : ℕ) (fs : List Field) (rest : List ℕ) → broken_in total fs rest ≡ None → length rest ≡ fields_size fs
none_size total [] [] e = refl
none_size total [] (b ∷ bs) e = let f : b ∷ bs ≡ [] = ended total (b ∷ bs) e in cc
none_size total (f ∷ fs) rest e =
    let r : IsRight total f fs rest = right_first total f fs rest e in
    let ih = none_size total fs (drop f.size rest) r.later in
    let d : length (drop f.size rest) ≡ length rest - f.size = length-drop f.size rest in
    let l = r.there in
    omega arith

size_node : (kinds : List Meaning) (place node : ℕ) (o : Option UnitPart) → fields_size (unit_fields kinds place node o) ≡ node_size kinds o
size_node kinds place node None = refl
size_node kinds place node (Some u) = ap (λ k. 8 + k) (size_words (word_count kinds (Some u)))

size_nodes : (kinds : List Meaning) (place node : ℕ) (ns : List NodeDecl) → fields_size (units_fields kinds place node ns) ≡ nodes_size kinds ns
size_nodes kinds place node [] = refl
size_nodes kinds place node (n ∷ ns) =
    size_append (unit_fields kinds place node n.unit) (units_fields kinds (count_unit n.unit place) (suc node) ns)
    ∙ ap (λ k. k + fields_size (units_fields kinds (count_unit n.unit place) (suc node) ns)) (size_node kinds place node n.unit)
    ∙ ap (λ k. node_size kinds n.unit + k) (size_nodes kinds (count_unit n.unit place) (suc node) ns)

-- bytes with which nothing is wrong have the size of the header and of all nodes
pub whole_size : (net : List NodeDecl) (kinds : List Meaning) (bytes : List ℕ) → broken_image net kinds bytes ≡ None → length bytes ≡ 8 + nodes_size kinds net
whole_size net kinds bytes e =
    let a = none_size (length bytes) (image_fields net kinds) bytes e in
    let b = size_append (header_fields net) (units_fields kinds 0 0 net) in
    let d = size_nodes kinds 0 0 net in
    let h : fields_size (header_fields net) ≡ 8 = refl in
    omega arith

-- the sizes of nodes to come
pub size_step : (kinds : List Meaning) (net : List NodeDecl) (i : ℕ) (o : Option UnitPart) → option_map (λ d. d.unit) (slice_get net i) ≡ Some o → nodes_size kinds (drop i net) ≡ node_size kinds o + nodes_size kinds (drop (i + 1) net)
size_step kinds net i o e =
    let n = node_at net i o e in
    ap (nodes_size kinds) n.rest ∙ ap (λ p. node_size kinds p + nodes_size kinds (drop (i + 1) net)) n.unit

-- and of the first nodes
pub size_more : (kinds : List Meaning) (net : List NodeDecl) (i : ℕ) (o : Option UnitPart) → option_map (λ d. d.unit) (slice_get net i) ≡ Some o → nodes_size kinds (take (i + 1) net) ≡ nodes_size kinds (take i net) + node_size kinds o
size_more kinds [] i o e = cc
size_more kinds (n ∷ ns) zero o e = let f = ap (node_size kinds) (same_Some n.unit o e) in omega arith
size_more kinds (n ∷ ns) (suc i) o e =
    let next : suc i + 1 ≡ suc (i + 1) = omega arith in
    let ih = size_more kinds ns i o e in
    ap (λ k. nodes_size kinds (take k (n ∷ ns))) next ∙ (omega arith)

-- the words of the nodes to come
pub words_step : (kinds : List Meaning) (net : List NodeDecl) (i at : ℕ) (o : Option UnitPart) (bytes : List ℕ) → option_map (λ d. d.unit) (slice_get net i) ≡ Some o → words_from kinds (drop i net) (drop at bytes) ≡ node_words kinds o (drop at bytes) ∷ words_from kinds (drop (i + 1) net) (drop (at + node_size kinds o) bytes)
words_step kinds net i at o bytes e =
    let n = node_at net i o e in
    ap (λ l. words_from kinds l (drop at bytes)) n.rest
    ∙ ap (λ p. node_words kinds p (drop at bytes) ∷ words_from kinds (drop (i + 1) net) (drop (node_size kinds p) (drop at bytes))) n.unit
    ∙ ap (λ l. node_words kinds o (drop at bytes) ∷ words_from kinds (drop (i + 1) net) l) (drop-drop (node_size kinds o) at bytes)

-- the unit of a node, in a set that has the units of the net
pub unit_of_net : (set : List NodeTable) (net : List NodeDecl) (i : ℕ) (o : Option UnitPart) → units_of set ≡ map (λ n. n.unit) net → option_map (λ d. d.unit) (slice_get net i) ≡ Some o → unit_in set i ≡ o
unit_of_net [] [] i o e at = cc
unit_of_net [] (n ∷ ns) i o e at = cc
unit_of_net (t ∷ ts) [] i o e at = cc
unit_of_net (t ∷ ts) (n ∷ ns) zero o e at = let f : t.unit ≡ n.unit = cc in f ∙ same_Some n.unit o at
unit_of_net (t ∷ ts) (n ∷ ns) (suc i) o e at = let f : units_of ts ≡ map (λ n. n.unit) ns = cc in unit_of_net ts ns i o f at

words_first : (set : List NodeTable) (i : ℕ) → first_words (drop i (words_of set)) ≡ words_in set i
words_first [] zero = refl
words_first [] (suc i) = refl
words_first (t ∷ ts) zero = refl
words_first (t ∷ ts) (suc i) = words_first ts i

-- the bytes of the nodes to come
pub bytes_step : (kinds : List Meaning) (net : List NodeDecl) (set : List NodeTable) (i : ℕ) (o : Option UnitPart) → option_map (λ d. d.unit) (slice_get net i) ≡ Some o → units_bytes kinds i (drop i net) (drop i (words_of set)) ≡ unit_bytes kinds i o (words_in set i) ++ units_bytes kinds (i + 1) (drop (i + 1) net) (drop (i + 1) (words_of set))
bytes_step kinds net set i o e =
    let n = node_at net i o e in
    let next : suc i ≡ i + 1 = omega arith in
    ap (λ l. units_bytes kinds i l (drop i (words_of set))) n.rest
    ∙ ap (λ p. unit_bytes kinds i p (first_words (drop i (words_of set))) ++ units_bytes kinds (suc i) (drop (i + 1) net) (drop 1 (drop i (words_of set)))) n.unit
    ∙ ap (λ l. unit_bytes kinds i o l ++ units_bytes kinds (suc i) (drop (i + 1) net) (drop 1 (drop i (words_of set)))) (words_first set i)
    ∙ ap (λ l. unit_bytes kinds i o (words_in set i) ++ units_bytes kinds (suc i) (drop (i + 1) net) l) (drop-drop 1 i (words_of set))
    ∙ ap (λ k. unit_bytes kinds i o (words_in set i) ++ units_bytes kinds k (drop (i + 1) net) (drop (i + 1) (words_of set))) next

-- a unit

-- the bytes end before its head
pub head_short : (kinds : List Meaning) (total place node : ℕ) (u : UnitPart) (rest : List ℕ) (more : List Field) → length rest < 8 → broken_in total (unit_fields kinds place node (Some u) ++ more) rest ≡ Some (ends total)
head_short kinds total place node u rest more l = short_field total (exactly (head_bytes kinds node u) (shape place)) (replicate (word_count kinds (Some u)) word_field ++ more) rest l

-- its head is another
pub head_wrong : (kinds : List Meaning) (total place node : ℕ) (u : UnitPart) (rest wanted : List ℕ) (more : List Field) → wanted ≡ head_bytes kinds node u → 8 ≤ length rest → (take 8 rest ≡ wanted → ⊥) → broken_in total (unit_fields kinds place node (Some u) ++ more) rest ≡ Some (shape place)
head_wrong kinds total place node u rest wanted more w l ne =
    wrong_field total (exactly (head_bytes kinds node u) (shape place)) (replicate (word_count kinds (Some u)) word_field ++ more) rest (shape place) l (exactly_wrong (head_bytes kinds node u) (take 8 rest) (shape place) (λ e. ne (sym e ∙ sym w)))

-- its head is right
head_there : (kinds : List Meaning) (total place node : ℕ) (u : UnitPart) (rest wanted : List ℕ) (more : List Field) → wanted ≡ head_bytes kinds node u → 8 ≤ length rest → take 8 rest ≡ wanted → broken_in total (unit_fields kinds place node (Some u) ++ more) rest ≡ broken_in total (replicate (word_count kinds (Some u)) word_field ++ more) (drop 8 rest)
head_there kinds total place node u rest wanted more w l e =
    right_field total (exactly (head_bytes kinds node u) (shape place)) (replicate (word_count kinds (Some u)) word_field ++ more) rest l (exactly_right (head_bytes kinds node u) (take 8 rest) (shape place) (sym (e ∙ w)))

-- and its words are cut
pub unit_cut : (kinds : List Meaning) (total place node n : ℕ) (u : UnitPart) (rest wanted : List ℕ) (more : List Field) → wanted ≡ head_bytes kinds node u → 8 ≤ length rest → take 8 rest ≡ wanted → n ≡ word_count kinds (Some u) → length rest < 8 + 8 * n → broken_in total (unit_fields kinds place node (Some u) ++ more) rest ≡ Some (ends total)
unit_cut kinds total place node n u rest wanted more w l e m cut =
    let d : length (drop 8 rest) ≡ length rest - 8 = length-drop 8 rest in
    head_there kinds total place node u rest wanted more w l e ∙ words_short total (word_count kinds (Some u)) more (drop 8 rest) (omega arith)

-- or there
pub unit_whole : (kinds : List Meaning) (total place node n : ℕ) (u : UnitPart) (rest wanted : List ℕ) (more : List Field) → wanted ≡ head_bytes kinds node u → 8 ≤ length rest → take 8 rest ≡ wanted → n ≡ word_count kinds (Some u) → 8 + 8 * n ≤ length rest → broken_in total (unit_fields kinds place node (Some u) ++ more) rest ≡ broken_in total more (drop (8 + 8 * n) rest)
unit_whole kinds total place node n u rest wanted more w l e m room =
    let d : length (drop 8 rest) ≡ length rest - 8 = length-drop 8 rest in
    head_there kinds total place node u rest wanted more w l e
    ∙ words_there total (word_count kinds (Some u)) more (drop 8 rest) (omega arith)
    ∙ ap (broken_in total more) (drop-drop (8 * word_count kinds (Some u)) 8 rest ∙ ap (λ k. drop (8 + 8 * k) rest) (sym m))

-- a unit that is lent is there
pub copied_there : {X : Type 0} (o : Option (Bor X)) → is_some o ≡ true → is_some (option_copied o) ≡ true
copied_there None e = cc
copied_there (Some b) e = refl

pub copied_none : {X : Type 0} (o : Option (Bor X)) → is_some o ≡ false → is_some (option_copied o) ≡ false
copied_none None e = refl
copied_none (Some b) e = cc

-- the kind of a unit of a set that fits kinds
pub record IsKindThere (kinds : List Meaning) (set : List NodeTable) (node : ℕ) (u : UnitPart) : Type 0 where
  pub kind : Meaning
  pub found : slice_get kinds u.kind ≡ Some kind

pub kind_there : (kinds : List Meaning) (set : List NodeTable) (node : ℕ) (u : UnitPart) → IsTrue (fits_kinds kinds set) → unit_in set node ≡ Some u → IsKindThere kinds set node u
kind_there kinds set node u fits e =
    let t = table_of_unit set node u e in
    by (width t.0) (slice_get kinds u.kind) refl (subst (λ o. IsTrue (fits_by kinds (width t.0) o)) t.2 (list_all-at (λ t. fits_by kinds t.width t.unit) set node t.0 fits t.1))
  where
    width : NodeTable → ℕ
    width t = t.width

    by : (w : ℕ) (k : Option Meaning) → slice_get kinds u.kind ≡ k → IsTrue (is_wide k w) → IsKindThere kinds set node u
    by w None f h = cc
    by w (Some kind) f h = record { kind = kind; found = f }

pub kind_within : {X : Type 0} (f : X → Meaning) (xs : List X) (set : List NodeTable) (node : ℕ) (o : Option (Bor UnitPart)) (b : Bor UnitPart) → IsTrue (fits_kinds (map f xs) set) → unit_in set node ≡ option_copied o → o ≡ Some b → b.now.kind < length xs
kind_within f xs set node o b fits e at =
    let k = kind_there (map f xs) set node b.now fits (e ∙ ap option_copied at) in
    let l = slice_get_within (map f xs) b.now.kind k.kind k.found in
    let m = length-map xs f in
    omega arith

-- the record that the words of a slot spell is that of the slot
pub record_said : (kinds : List Meaning) (u : UnitPart) (kind : Meaning) (slot : ℕ) (bs ws : List ℕ) → slice_get kinds u.kind ≡ Some kind → slot < u.slots → ws ≡ words_spelled (width_of kinds u) (drop (8 * (slot * width_of kinds u)) bs) → record_within u (kind.unpack ws) ≡ record_of_unit kinds (Some u) (Some (words_spelled (word_count kinds (Some u)) bs)) slot
record_said kinds u kind slot bs ws at l e =
    let w : ℕ = width_of kinds u in
    let all : List ℕ = words_spelled (u.slots * w) bs in
    let room : slot * w + w ≤ u.slots * w = slot_room slot u.slots w (u.slots * w) l refl in
    let same : slot_words w all slot ≡ ws = slot_spelled w (u.slots * w) slot bs room ∙ sym e in
    sym (ap (λ k. record_spelled k u (Some all) slot) at
    ∙ ap (λ b. if b then record_within u (kind.unpack (slot_words kind.words all slot)) else None) (lt-ltb slot u.slots l)
    ∙ ap (λ n. record_within u (kind.unpack (slot_words n all slot))) (sym (ap width_by at))
    ∙ ap (λ (v : List ℕ). record_within u (kind.unpack v)) same)

-- the kind of a unit that is shaped is there
pub kind_known : {X : Type 0} (f : X → Meaning) (xs : List X) (u : UnitPart) → IsTrue (is_shaped (map f xs) u) → u.kind < length xs
kind_known f xs u s =
    let k = shaped_kind (map f xs) u s in
    let l = slice_get_within (map f xs) u.kind k.0 k.1 in
    let m = length-map xs f in
    omega arith

-- the words at a node are spelled where the nodes before it end
pub words_at_node : (kinds : List Meaning) (net : List NodeDecl) (i : ℕ) (o : Option UnitPart) (bytes : List ℕ) → option_map (λ d. d.unit) (slice_get net i) ≡ Some o → slice_get (words_from kinds net bytes) i ≡ Some (node_words kinds o (drop (nodes_size kinds (take i net)) bytes))
words_at_node kinds [] i o bytes e = cc
words_at_node kinds (n ∷ ns) zero o bytes e = ap (λ p. Some (node_words kinds p bytes)) (same_Some n.unit o e)
words_at_node kinds (n ∷ ns) (suc i) o bytes e =
    words_at_node kinds ns i o (drop (node_size kinds n.unit) bytes) e
    ∙ ap (λ l. Some (node_words kinds o l)) (drop-drop (nodes_size kinds (take i ns)) (node_size kinds n.unit) bytes)

-- and they are within the image
pub node_within : (kinds : List Meaning) (net : List NodeDecl) (i : ℕ) (o : Option UnitPart) → option_map (λ d. d.unit) (slice_get net i) ≡ Some o → nodes_size kinds (take i net) + node_size kinds o ≤ nodes_size kinds net
node_within kinds [] i o e = cc
node_within kinds (n ∷ ns) zero o e = let f = ap (node_size kinds) (same_Some n.unit o e) in omega arith
node_within kinds (n ∷ ns) (suc i) o e = let h = node_within kinds ns i o e in omega arith

-- the record that a slot of a node holds, by what the node is
pub held_at : (net : List NodeDecl) (kinds : List Meaning) (words : List (List ℕ)) (i slot : ℕ) (o : Option UnitPart) (ws : Option (List ℕ)) → option_map (λ d. d.unit) (slice_get net i) ≡ Some o → slice_get words i ≡ ws → record_held net kinds words i slot ≡ record_of_unit kinds o ws slot
held_at net kinds words i slot o ws e f = ap (λ p. record_of_unit kinds p (slice_get words i) slot) (unit_is net i o e) ∙ ap (λ w. record_of_unit kinds o w slot) f

-- there is none past the last slot
pub none_past : (kinds : List Meaning) (u : UnitPart) (ws : Option (List ℕ)) (slot : ℕ) → u.slots ≤ slot → record_of_unit kinds (Some u) ws slot ≡ None
none_past kinds u ws slot l = go (slice_get kinds u.kind) ws
  where
    go : (k : Option Meaning) (w : Option (List ℕ)) → record_spelled k u w slot ≡ None
    go None w = refl
    go (Some kind) None = refl
    go (Some kind) (Some v) = ap (λ b. if b then record_within u (kind.unpack (slot_words kind.words v slot)) else None) (le-ltb slot u.slots l)

-- what is known of a unit of the net, of whose image these are the bytes
pub record IsUnitIn (net : List NodeDecl) (kinds : List Meaning) (bytes : List ℕ) (node : ℕ) (u : UnitPart) : Type 0 where
  pub there : option_map (λ d. d.unit) (slice_get net node) ≡ Some (Some u)
  pub shaped : IsTrue (is_shaped kinds u)
  pub size : length bytes ≡ 8 + nodes_size kinds net
  pub within : nodes_size kinds (take node net) + node_size kinds (Some u) ≤ nodes_size kinds net

-- its words are within the bytes
pub words_within : (net : List NodeDecl) (kinds : List Meaning) (bytes : List ℕ) (node : ℕ) (u : UnitPart) (at : ℕ) → IsUnitIn net kinds bytes node u → at ≡ 16 + nodes_size kinds (take node net) → at + 8 * word_count kinds (Some u) ≤ length bytes
words_within net kinds bytes node u at i e =
    let size = i.size in
    let within = i.within in
    omega (arith, size, within, e)

-- where the words of a slot begin, by the width as it was read
pub record IsPlace (w slots size slot width : ℕ) : Type 0 where
  pub same : width ≡ w
  pub room : slot * w + w ≤ slots * w
  pub bytes : 8 * (slots * w) ≤ size
  pub place : slot * width ≡ slot * w

pub slot_place : (w slots size slot width : ℕ) → width ≡ w → slot < slots → 8 * (slots * w) ≤ size → IsPlace w slots size slot width
slot_place w slots size slot width e l bytes = record {
  same = e;
  room = slot_room slot slots w (slots * w) l refl;
  bytes = bytes;
  place = ap (λ n. slot * n) e;
}

-- and its number is small
pub first_small : (slot width n : ℕ) → slot < 4294967296 → width ≡ n → n ≤ 4 → slot * width ≤ 17179869184
first_small slot width n l e most =
    let m : slot * width ≤ 4294967296 * width = mul-le-mul_right width (omega arith) in
    omega arith

-- a unit that is shaped has few slots
pub few_slots : (kinds : List Meaning) (u : UnitPart) → IsTrue (is_shaped kinds u) → u.slots ≤ 262144
few_slots kinds u s = by (unit_shape u) (plain_there kinds u s)
  where
    by : (s : Shape) → IsTrue (is_plain_unit_shape s) → s.slots ≤ 262144
    by s p = grind arith

-- the size of an image

-- a sum to a last number, of which the first part was taken to that number
least_sum : (last a b : ℕ) → min (min a last + b) last ≡ min (a + b) last
least_sum last a b = by (nat_lt last a) refl
  where
    by : (t : Bool) → nat_lt last a ≡ t → min (min a last + b) last ≡ min (a + b) last
    by true e =
        let l : last < a = ltb-true last a e in
        let x : min a last ≡ last = min-eq_right (omega arith) in
        let y : min (last + b) last ≡ last = min-eq_right (omega arith) in
        let z : min (a + b) last ≡ last = min-eq_right (omega arith) in
        ap (λ k. min (k + b) last) x ∙ y ∙ sym z
    by false e = ap (λ k. min (k + b) last) (min-eq_left (ltb-false last a e))

-- how many bytes a node has
unit_size : (kinds : List Meaning) (node : ℕ) (o : Option UnitPart) (ws : List ℕ) → is_some o ≡ true → length (unit_bytes kinds node o ws) ≡ 8 + 8 * length ws
unit_size kinds node None ws e = cc
unit_size kinds node (Some u) ws e =
    let a : length (unit_bytes kinds node (Some u) ws) ≡ length (head_bytes kinds node u) + length (word_bytes ws) = length-append (head_bytes kinds node u) (word_bytes ws) in
    let b : length (head_bytes kinds node u) ≡ 8 = refl in
    let c = length_words ws in
    omega arith

-- the bytes of a node that is no unit
no_unit_size : (kinds : List Meaning) (node : ℕ) (o : Option UnitPart) (ws : List ℕ) → is_some o ≡ false → length (unit_bytes kinds node o ws) ≡ 0
no_unit_size kinds node None ws e = refl
no_unit_size kinds node (Some u) ws e = cc

-- the bytes counted so far to a last number, and those to come, past a unit
pub counted_step : (last : ℕ) (kinds : List Meaning) (net : List NodeDecl) (set : List NodeTable) (i size : ℕ) (o : Option UnitPart) → option_map (λ d. d.unit) (slice_get net i) ≡ Some o → is_some o ≡ true
    → min (min (min (size + 8) last + 8 * length (words_in set i)) last + length (units_bytes kinds (i + 1) (drop (i + 1) net) (drop (i + 1) (words_of set)))) last ≡ min (size + length (units_bytes kinds i (drop i net) (drop i (words_of set)))) last
counted_step last kinds net set i size o e there =
    let words = 8 * length (words_in set i) in
    let rest = length (units_bytes kinds (i + 1) (drop (i + 1) net) (drop (i + 1) (words_of set))) in
    let whole : length (units_bytes kinds i (drop i net) (drop i (words_of set))) ≡ length (unit_bytes kinds i o (words_in set i)) + rest =
    ap (λ (l : List ℕ). length l) (bytes_step kinds net set i o e) ∙ length-append (unit_bytes kinds i o (words_in set i)) (units_bytes kinds (i + 1) (drop (i + 1) net) (drop (i + 1) (words_of set))) in
    let unit = unit_size kinds i o (words_in set i) there in
    let one : min (min (size + 8) last + words + rest) last ≡ min (size + 8 + (words + rest)) last =
    let first : min (size + 8) last + words + rest ≡ min (size + 8) last + (words + rest) = omega arith in
    ap (λ k. min k last) first ∙ least_sum last (size + 8) (words + rest) in
    let sum : size + 8 + (words + rest) ≡ size + length (units_bytes kinds i (drop i net) (drop i (words_of set))) = omega arith in
    least_sum last (min (size + 8) last + words) rest ∙ one ∙ ap (λ k. min k last) sum

-- and past a node that is no unit
pub counted_past : (last : ℕ) (kinds : List Meaning) (net : List NodeDecl) (set : List NodeTable) (i size : ℕ) (o : Option UnitPart) → option_map (λ d. d.unit) (slice_get net i) ≡ Some o → is_some o ≡ false
    → min (size + length (units_bytes kinds (i + 1) (drop (i + 1) net) (drop (i + 1) (words_of set)))) last ≡ min (size + length (units_bytes kinds i (drop i net) (drop i (words_of set)))) last
counted_past last kinds net set i size o e none =
    let rest = length (units_bytes kinds (i + 1) (drop (i + 1) net) (drop (i + 1) (words_of set))) in
    let whole : length (units_bytes kinds i (drop i net) (drop i (words_of set))) ≡ length (unit_bytes kinds i o (words_in set i)) + rest =
    ap (λ (l : List ℕ). length l) (bytes_step kinds net set i o e) ∙ length-append (unit_bytes kinds i o (words_in set i)) (units_bytes kinds (i + 1) (drop (i + 1) net) (drop (i + 1) (words_of set))) in
    let unit = no_unit_size kinds i o (words_in set i) none in
    let sum : size + rest ≡ size + length (units_bytes kinds i (drop i net) (drop i (words_of set))) = omega arith in
    ap (λ k. min k last) sum

-- what was counted is at most the last number, and nothing is to come
pub counted_all : (last size : ℕ) (total : ℕ) → size ≤ last → min (size + 0) last ≡ min total last → size ≡ min total last
counted_all last size total few e =
    let none : size + 0 ≡ size = omega arith in
    sym (min-eq_left few) ∙ sym (ap (λ k. min k last) none) ∙ e
