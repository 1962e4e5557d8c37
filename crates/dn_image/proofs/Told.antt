-- What is read is an image, and each image is read.
use Rattle.std.proofs.Common.{◌≡◌, ℕ, suc, ◌+◌, ◌*◌, ◌^◌, ◌<◌, ◌≤◌, Bool, true, false, if◌then◌else◌, ◌||◌, ◌==◌, nat_lt, List, [], ◌∷◌, ◌++◌, length, take, drop, replicate, Option, Some, None, Result, Ok, IsTrue, refl, sym, ap, ◌∙◌, subst, arith, length-append, append_assoc, append-nil, eqb-true}
use Rattle.std.specs.List.{list_all}
use Rattle.std.proofs.lemmas.List.{drop-drop, drop_at, take_at, take-append-drop, length-take-le, nil_from_length}
use Rattle.byteorder.specs.Endian.{little_bytes, little_number}
use Rattle.byteorder.specs.Numbers.{little_number-reads_back}
use Rattle.dn_base.proofs.Booleans.{and_parts, and_from}
use Rattle.dn_base.proofs.Orders.{eq-eqb}
use Rattle.dn_net.specs.declared.node.NodeDecl.{NodeDecl}
use Rattle.dn_net.specs.declared.node.Unit.{Unit as UnitPart}
use Rattle.dn_kind.specs.Kind.{Meaning}
use Rattle.dn_image.specs.Bytes.{AreBytes, word_bytes, words_spelled}
use Rattle.dn_image.specs.Image.{image_mark, count_unit, unit_count, word_count, head_bytes, unit_bytes, units_bytes, image_head, image_of, is_version, is_filled, are_filled, ImageWords, IsImageOf}
use Rattle.dn_image.specs.Reading.{BrokenImage, Field, exactly, word_field, version_field, header_fields, unit_fields, units_fields, broken_in, broken_image, node_size, node_words, words_from, image_words, version_of, reading_by, image_reading}
use Rattle.dn_image.specs.Reading.BrokenImage.{header, shape}
use Rattle.dn_image.specs.Laws.{ImageIsRead, ReadIsImage}
use Rattle.dn_image.proofs.Fields.{right_field, exactly_right, exactly_given, words_there, words_right, right_first, IsRight, ended}
use Rattle.dn_image.proofs.Numbers.{bytes_of_number, bytes_left, bytes_front, bytes_of_words, words_again, length_words, length_spelled, spelled_small, number_of_front}

-- a filled node has so many words
count_filled : (kinds : List Meaning) (o : Option UnitPart) (ws : List ℕ) → IsTrue (is_filled kinds o ws) → (length ws ≡ word_count kinds o) × IsTrue (list_all (λ w. nat_lt w (2 ^ 64)) ws)
count_filled kinds o ws f =
    let b = and_parts (length ws == word_count kinds o) (list_all (λ w. nat_lt w (2 ^ 64)) ws) f in
    (eqb-true (length ws) (word_count kinds o) b.0, b.1)

-- the bytes of a node are right
node_right : (kinds : List Meaning) (total place node : ℕ) (o : Option UnitPart) (ws : List ℕ) (fs : List Field) (rest : List ℕ) → IsTrue (is_filled kinds o ws) → broken_in total (unit_fields kinds place node o ++ fs) (unit_bytes kinds node o ws ++ rest) ≡ broken_in total fs rest
node_right kinds total place node None ws fs rest f = refl
node_right kinds total place node (Some u) ws fs rest f =
    let head : List ℕ = head_bytes kinds node u in
    let n : ℕ = word_count kinds (Some u) in
    let count : length ws ≡ n = (count_filled kinds (Some u) ws f).0 in
    let long : length (word_bytes ws) ≡ 8 * length ws = length_words ws in
    let all : length (word_bytes ws ++ rest) ≡ length (word_bytes ws) + length rest = length-append (word_bytes ws) rest in
    let joined : (head ++ word_bytes ws) ++ rest ≡ head ++ (word_bytes ws ++ rest) = append_assoc head (word_bytes ws) rest in
    let whole : length (head ++ (word_bytes ws ++ rest)) ≡ length head + length (word_bytes ws ++ rest) = length-append head (word_bytes ws ++ rest) in
    ap (broken_in total (exactly head (shape place) ∷ (replicate n word_field ++ fs))) joined
    ∙ right_field total (exactly head (shape place)) (replicate n word_field ++ fs) (head ++ (word_bytes ws ++ rest)) (omega arith) (exactly_right head (take (length head) (head ++ (word_bytes ws ++ rest))) (shape place) (sym (take_at head (word_bytes ws ++ rest) (length head) refl)))
    ∙ ap (broken_in total (replicate n word_field ++ fs)) (drop_at head (word_bytes ws ++ rest) (length head) refl)
    ∙ words_there total n fs (word_bytes ws ++ rest) (omega arith)
    ∙ ap (broken_in total fs) (drop_at (word_bytes ws) rest (8 * n) (omega arith))

-- the bytes of all nodes are right
nodes_right : (kinds : List Meaning) (total place node : ℕ) (ns : List NodeDecl) (words : List (List ℕ)) (fs : List Field) (rest : List ℕ) → IsTrue (are_filled kinds ns words) → broken_in total (units_fields kinds place node ns ++ fs) (units_bytes kinds node ns words ++ rest) ≡ broken_in total fs rest
nodes_right kinds total place node [] [] fs rest f = refl
nodes_right kinds total place node [] (ws ∷ more) fs rest f = cc
nodes_right kinds total place node (n ∷ ns) [] fs rest f = cc
nodes_right kinds total place node (n ∷ ns) (ws ∷ more) fs rest f =
    let b = and_parts (is_filled kinds n.unit ws) (are_filled kinds ns more) f in
    let gs : List Field = units_fields kinds (count_unit n.unit place) (suc node) ns in
    let bs : List ℕ = units_bytes kinds (suc node) ns more in
    ap (λ (l : List Field). broken_in total l ((unit_bytes kinds node n.unit ws ++ bs) ++ rest)) (append_assoc (unit_fields kinds place node n.unit) gs fs)
    ∙ ap (broken_in total (unit_fields kinds place node n.unit ++ (gs ++ fs))) (append_assoc (unit_bytes kinds node n.unit ws) bs rest)
    ∙ node_right kinds total place node n.unit ws (gs ++ fs) (bs ++ rest) b.0
    ∙ nodes_right kinds total (count_unit n.unit place) (suc node) ns more fs rest b.1

-- the words of a node are read
node_again : (kinds : List Meaning) (node : ℕ) (o : Option UnitPart) (ws rest : List ℕ) → IsTrue (is_filled kinds o ws) → (node_words kinds o (unit_bytes kinds node o ws ++ rest) ≡ ws) × (drop (node_size kinds o) (unit_bytes kinds node o ws ++ rest) ≡ rest)
node_again kinds node None ws rest f = (sym (nil_from_length ws (count_filled kinds None ws f).0), refl)
node_again kinds node (Some u) ws rest f =
    let head : List ℕ = head_bytes kinds node u in
    let n : ℕ = word_count kinds (Some u) in
    let r = count_filled kinds (Some u) ws f in
    let count : length ws ≡ n = r.0 in
    let long : length (word_bytes ws) ≡ 8 * length ws = length_words ws in
    let joined : (head ++ word_bytes ws) ++ rest ≡ head ++ (word_bytes ws ++ rest) = append_assoc head (word_bytes ws) rest in
    let behind : drop 8 ((head ++ word_bytes ws) ++ rest) ≡ word_bytes ws ++ rest = ap (drop 8) joined ∙ drop_at head (word_bytes ws ++ rest) 8 refl in (
      ap (words_spelled n) behind ∙ ap (λ k. words_spelled k (word_bytes ws ++ rest)) (sym count) ∙ words_again ws rest r.1,
      sym (drop-drop (8 * n) 8 ((head ++ word_bytes ws) ++ rest)) ∙ ap (drop (8 * n)) behind ∙ drop_at (word_bytes ws) rest (8 * n) (omega arith),
    )

nodes_again : (kinds : List Meaning) (node : ℕ) (ns : List NodeDecl) (words : List (List ℕ)) (rest : List ℕ) → IsTrue (are_filled kinds ns words) → words_from kinds ns (units_bytes kinds node ns words ++ rest) ≡ words
nodes_again kinds node [] [] rest f = refl
nodes_again kinds node [] (ws ∷ more) rest f = cc
nodes_again kinds node (n ∷ ns) [] rest f = cc
nodes_again kinds node (n ∷ ns) (ws ∷ more) rest f =
    let b = and_parts (is_filled kinds n.unit ws) (are_filled kinds ns more) f in
    let bs : List ℕ = units_bytes kinds (suc node) ns more in
    let r = node_again kinds node n.unit ws (bs ++ rest) b.0 in
    ap (words_from kinds (n ∷ ns)) (append_assoc (unit_bytes kinds node n.unit ws) bs rest)
    ∙ ap (λ (l : List ℕ). l ∷ words_from kinds ns (drop (node_size kinds n.unit) (unit_bytes kinds node n.unit ws ++ (bs ++ rest)))) r.0
    ∙ ap (λ (l : List ℕ). ws ∷ words_from kinds ns l) r.1
    ∙ ap (λ (l : List (List ℕ)). ws ∷ l) (nodes_again kinds (suc node) ns more rest b.1)

version_small : (v : ℕ) → IsTrue (is_version v) → v < 256 ^ 2
version_small v e = go (v == 1) refl (v == 2) refl e
  where
    go : (a : Bool) → (v == 1) ≡ a → (b : Bool) → (v == 2) ≡ b → (a || b) ≡ true → v < 256 ^ 2
    go true p b q f = let h : v ≡ 1 = eqb-true v 1 p in omega arith
    go false p true q f = let h : v ≡ 2 = eqb-true v 2 q in omega arith
    go false p false q f = cc

version_right : (v : ℕ) (given : List ℕ) → IsTrue (is_version v) → little_number 2 given ≡ v → version_field.wrong given ≡ None
version_right v given e n = ap (λ b. if b then None else Some (header 4)) (ap is_version n ∙ e)

-- the head of an image is right
head_right : (total v : ℕ) (net : List NodeDecl) (fs : List Field) (rest : List ℕ) → IsTrue (is_version v) → broken_in total (header_fields net ++ fs) (image_head v net ++ rest) ≡ broken_in total fs rest
head_right total v net fs rest e =
    let count : List ℕ = little_bytes 2 (unit_count net) in
    let tail : List ℕ = little_bytes 2 v ++ (count ++ rest) in
    let last : Field = exactly count (header 6) in
    right_field total (exactly image_mark (header 0)) (version_field ∷ last ∷ fs) (image_mark ++ tail) (omega arith) (exactly_right image_mark image_mark (header 0) refl)
    ∙ right_field total version_field (last ∷ fs) tail (omega arith) (version_right v (take 2 tail) e (little_number-reads_back 2 v [] (version_small v e)))
    ∙ right_field total last fs (count ++ rest) (omega arith) (exactly_right count count (header 6) refl)

read_by : (net : List NodeDecl) (kinds : List Meaning) (v : ℕ) (words : List (List ℕ)) → IsTrue (is_version v) → IsTrue (are_filled kinds net words) → image_reading net kinds (image_of v net kinds words) ≡ Ok (record { version = v; words = words })
read_by net kinds v words e f =
    let bytes : List ℕ = image_of v net kinds words in
    let units : List ℕ = units_bytes kinds 0 net words in
    let right : broken_image net kinds bytes ≡ None =
    head_right (length bytes) v net (units_fields kinds 0 0 net) units e
    ∙ ap (λ (l : List Field). broken_in (length bytes) l units) (sym (append-nil (units_fields kinds 0 0 net)))
    ∙ ap (broken_in (length bytes) (units_fields kinds 0 0 net ++ [])) (sym (append-nil units))
    ∙ nodes_right kinds (length bytes) 0 0 net words [] [] f in
    let again : image_words net kinds bytes ≡ words = ap (words_from kinds net) (sym (append-nil units)) ∙ nodes_again kinds 0 net words [] f in
    let version : version_of bytes ≡ v = little_number-reads_back 2 v (little_bytes 2 (unit_count net) ++ units) (version_small v e) in
    ap (λ o. reading_by o (record { version = version_of bytes; words = image_words net kinds bytes })) right
    ∙ ap (λ n. Ok (record { version = n; words = image_words net kinds bytes })) version
    ∙ ap (λ (l : List (List ℕ)). Ok (record { version = v; words = l })) again

pub image_is_read : ImageIsRead
image_is_read net kinds bytes i h = ap (image_reading net kinds) h.bytes ∙ read_by net kinds i.version i.words h.version h.filled

-- the bytes of a node with which nothing is wrong are those of the words that are read
node_back : (kinds : List Meaning) (total place node : ℕ) (o : Option UnitPart) (fs : List Field) (rest : List ℕ) → AreBytes rest → broken_in total (unit_fields kinds place node o ++ fs) rest ≡ None → (rest ≡ unit_bytes kinds node o (node_words kinds o rest) ++ drop (node_size kinds o) rest) × IsTrue (is_filled kinds o (node_words kinds o rest)) × (broken_in total fs (drop (node_size kinds o) rest) ≡ None)
node_back kinds total place node None fs rest all e = (refl, refl, e)
node_back kinds total place node (Some u) fs rest all e =
    let head : List ℕ = head_bytes kinds node u in
    let n : ℕ = word_count kinds (Some u) in
    let r : IsRight total (exactly head (shape place)) (replicate n word_field ++ fs) rest = right_first total (exactly head (shape place)) (replicate n word_field ++ fs) rest e in
    let given : head ≡ take 8 rest = exactly_given head (take 8 rest) (shape place) r.right in
    let w = words_right total n fs (drop 8 rest) r.later in
    let bytes : AreBytes (drop 8 rest) = bytes_left 8 rest all in
    let words : word_bytes (words_spelled n (drop 8 rest)) ≡ take (8 * n) (drop 8 rest) = bytes_of_words n (drop 8 rest) w.0 bytes in
    let behind : drop (8 * n) (drop 8 rest) ≡ drop (8 + 8 * n) rest = drop-drop (8 * n) 8 rest in (
      sym (take-append-drop 8 rest)
          ∙ ap (λ (l : List ℕ). take 8 rest ++ l) (sym (take-append-drop (8 * n) (drop 8 rest)))
          ∙ sym (append_assoc (take 8 rest) (take (8 * n) (drop 8 rest)) (drop (8 * n) (drop 8 rest)))
          ∙ ap (λ (l : List ℕ). (l ++ take (8 * n) (drop 8 rest)) ++ drop (8 * n) (drop 8 rest)) (sym given)
          ∙ ap (λ (l : List ℕ). (head ++ l) ++ drop (8 * n) (drop 8 rest)) (sym words)
          ∙ ap (λ (l : List ℕ). (head ++ word_bytes (words_spelled n (drop 8 rest))) ++ l) behind,
      and_from (length (words_spelled n (drop 8 rest)) == n) (list_all (λ w. nat_lt w (2 ^ 64)) (words_spelled n (drop 8 rest))) (eq-eqb (length (words_spelled n (drop 8 rest))) n (length_spelled n (drop 8 rest))) (spelled_small n (drop 8 rest) bytes),
      ap (broken_in total fs) (sym behind) ∙ w.1,
    )

nodes_back : (kinds : List Meaning) (total place node : ℕ) (ns : List NodeDecl) (rest : List ℕ) → AreBytes rest → broken_in total (units_fields kinds place node ns) rest ≡ None → (rest ≡ units_bytes kinds node ns (words_from kinds ns rest)) × IsTrue (are_filled kinds ns (words_from kinds ns rest))
nodes_back kinds total place node [] rest all e = (ended total rest e, refl)
nodes_back kinds total place node (n ∷ ns) rest all e =
    let gs : List Field = units_fields kinds (count_unit n.unit place) (suc node) ns in
    let b = node_back kinds total place node n.unit gs rest all e in
    let left : List ℕ = drop (node_size kinds n.unit) rest in
    let r = nodes_back kinds total (count_unit n.unit place) (suc node) ns left (bytes_left (node_size kinds n.unit) rest all) b.2 in (
      b.0 ∙ ap (λ (l : List ℕ). unit_bytes kinds node n.unit (node_words kinds n.unit rest) ++ l) r.0,
      and_from (is_filled kinds n.unit (node_words kinds n.unit rest)) (are_filled kinds ns (words_from kinds ns left)) b.1 r.1,
    )

version_given : (given : List ℕ) → version_field.wrong given ≡ None → IsTrue (is_version (little_number 2 given))
version_given given e = go (is_version (little_number 2 given)) refl e
  where
    go : (b : Bool) → is_version (little_number 2 given) ≡ b → (if b then None else Some (header 4)) ≡ None → IsTrue (is_version (little_number 2 given))
    go true f h = f
    go false f h = cc

-- what stands before the units, where nothing is wrong with it
record IsHead (total : ℕ) (net : List NodeDecl) (fs : List Field) (bytes : List ℕ) : Type 0 where
  version : IsTrue (is_version (version_of bytes))
  bytes_are : bytes ≡ image_head (version_of bytes) net ++ drop 8 bytes
  later : broken_in total fs (drop 8 bytes) ≡ None

head_back : (total : ℕ) (net : List NodeDecl) (fs : List Field) (bytes : List ℕ) → AreBytes bytes → broken_in total (header_fields net ++ fs) bytes ≡ None → IsHead total net fs bytes
head_back total net fs bytes all e =
    let count : List ℕ = little_bytes 2 (unit_count net) in
    let last : Field = exactly count (header 6) in
    let r : IsRight total (exactly image_mark (header 0)) (version_field ∷ last ∷ fs) bytes = right_first total (exactly image_mark (header 0)) (version_field ∷ last ∷ fs) bytes e in
    let s : IsRight total version_field (last ∷ fs) (drop 4 bytes) = right_first total version_field (last ∷ fs) (drop 4 bytes) r.later in
    let t : IsRight total last fs (drop 2 (drop 4 bytes)) = right_first total last fs (drop 2 (drop 4 bytes)) s.later in
    let mark_is : image_mark ≡ take 4 bytes = exactly_given image_mark (take 4 bytes) (header 0) r.right in
    let count_is : count ≡ take 2 (drop 2 (drop 4 bytes)) = exactly_given count (take 2 (drop 2 (drop 4 bytes))) (header 6) t.right in
    let room : 2 ≤ length (drop 4 bytes) = s.there in
    let number : little_number 2 (take 2 (drop 4 bytes)) ≡ version_of bytes = number_of_front 2 (drop 4 bytes) room in
    let version_is : little_bytes 2 (version_of bytes) ≡ take 2 (drop 4 bytes) =
    ap (little_bytes 2) (sym number) ∙ bytes_of_number 2 (take 2 (drop 4 bytes)) (length-take-le 2 (drop 4 bytes) room) (bytes_front 2 (drop 4 bytes) (bytes_left 4 bytes all)) in
    let six : drop 2 (drop 4 bytes) ≡ drop 6 bytes = drop-drop 2 4 bytes in
    let eight : drop 2 (drop 2 (drop 4 bytes)) ≡ drop 8 bytes = ap (drop 2) six ∙ drop-drop 2 6 bytes in
    record {
      version = subst (λ n. IsTrue (is_version n)) number (version_given (take 2 (drop 4 bytes)) s.right);
      bytes_are =
          sym (take-append-drop 4 bytes)
          ∙ ap (λ (l : List ℕ). take 4 bytes ++ l) (sym (take-append-drop 2 (drop 4 bytes)) ∙ ap (λ (l : List ℕ). take 2 (drop 4 bytes) ++ l) (sym (take-append-drop 2 (drop 2 (drop 4 bytes)))))
          ∙ ap (λ (l : List ℕ). l ++ (take 2 (drop 4 bytes) ++ (take 2 (drop 2 (drop 4 bytes)) ++ drop 2 (drop 2 (drop 4 bytes))))) (sym mark_is)
          ∙ ap (λ (l : List ℕ). image_mark ++ (l ++ (take 2 (drop 2 (drop 4 bytes)) ++ drop 2 (drop 2 (drop 4 bytes))))) (sym version_is)
          ∙ ap (λ (l : List ℕ). image_mark ++ (little_bytes 2 (version_of bytes) ++ (l ++ drop 2 (drop 2 (drop 4 bytes))))) (sym count_is)
          ∙ ap (λ (l : List ℕ). image_mark ++ (little_bytes 2 (version_of bytes) ++ (count ++ l))) eight;
      later = ap (broken_in total fs) (sym eight) ∙ t.later;
    }

pub read_is_image : ReadIsImage
read_is_image net kinds bytes i all e = go (broken_image net kinds bytes) refl e
  where
    said : ImageWords
    said = record { version = version_of bytes; words = image_words net kinds bytes }

    is_said : broken_image net kinds bytes ≡ None → IsImageOf net kinds bytes said
    is_said none =
        let h = head_back (length bytes) net (units_fields kinds 0 0 net) bytes all none in
        let u = nodes_back kinds (length bytes) 0 0 net (drop 8 bytes) (bytes_left 8 bytes all) h.later in
        record {
          version = h.version;
          filled = u.1;
          bytes = h.bytes_are ∙ ap (λ (l : List ℕ). image_head (version_of bytes) net ++ l) u.0;
        }

    go : (o : Option BrokenImage) → broken_image net kinds bytes ≡ o → reading_by o said ≡ Ok i → IsImageOf net kinds bytes i
    go (Some b) f h = cc
    go None f h = subst (IsImageOf net kinds bytes) (same_ok said i h) (is_said f)
      where
        same_ok : (x y : ImageWords) → ◌≡◌ {A = Result ImageWords BrokenImage} (Ok x) (Ok y) → x ≡ y
        same_ok x y s = cc
