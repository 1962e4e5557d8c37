-- The shipped kinds keep the laws of kinds.
use Rattle.std.proofs.Common.{◌≡◌, ℕ, ◌+◌, ◌*◌, ◌%◌, ◌^◌, ◌<◌, ◌≤◌, Bool, true, ◌&&◌, if◌then◌else◌, ◌==◌, List, [], ◌∷◌, length, Option, Some, None, IsTrue, refl, sym, ap, ◌∙◌, arith, lit≤, nat_lt, eqb-true}
use Rattle.std.specs.List.{list_all}
use Rattle.std.proofs.lemmas.Bool.{and_parts, ltb-true, lt-ltb}
use Rattle.dn_kind.specs.declared.rights.Access.TheVariants.{Read, Write}
use Rattle.dn_kind.specs.declared.shape.Shape.{Shape}
use Rattle.dn_kind.specs.declared.unit_kind.Record.{Record}
use Rattle.dn_kind.specs.Rights.{are_rights}
use Rattle.dn_kind.specs.Kind.{Meaning, IsPackable, IsLawful, gate_word}
use Rattle.dn_kinds.specs.declared.shipped.ShippedKind.{ShippedKind}
use Rattle.dn_kinds.specs.declared.shipped.ShippedKind.TheVariants.{Pages, Remap, Vectors, Radix}
use Rattle.dn_kinds.specs.Layouts.{bits, gate_bits, gated, unpack_word, spelled_pages, pages, spelled_remap, remap, pack_vectors, unpack_vectors, vectors, spelled_radix, radix, shipped}
use Rattle.dn_kinds.proofs.Gates.{port_small, page_below, page_small, denied_small, gate_small, read_are_rights, gate_clear, gated_back}

-- the port of a kind with one port is 0
lone_port : (kind : Meaning) (shape : Shape) (r : Record) → IsPackable kind shape r → shape.ports ≡ 1 → r.port ≡ 0
lone_port kind shape r p one =
    let there : r.port < shape.ports = ltb-true _ _ (and_parts _ _ p.within).0 in
    omega arith

-- the laws of a kind, one after another
lawful : (kind : Meaning) → 1 ≤ kind.words → kind.words ≤ 4 → ((shape : Shape) (r : Record) → IsPackable kind shape r → length (kind.pack shape r) ≡ kind.words) → ((shape : Shape) (r : Record) → IsPackable kind shape r → IsTrue (list_all (λ w. nat_lt w (2 ^ 64)) (kind.pack shape r))) → ((shape : Shape) (r : Record) → IsPackable kind shape r → kind.unpack (kind.pack shape r) ≡ Some r) → ((ws : List ℕ) → length ws ≡ kind.words → gate_word ws % 2 ≡ 0 → kind.unpack ws ≡ None) → ((ws : List ℕ) (r : Record) → kind.unpack ws ≡ Some r → IsTrue (are_rights r.rights)) → IsLawful kind
lawful kind least most width small back shut rights = record { least = least; most = most; width = width; small = small; reads_back = back; shut = shut; rights = rights }

-- a list of one word below 2^64
small_word : (w : ℕ) → w < 2 ^ 64 → IsTrue (list_all (λ v. nat_lt v (2 ^ 64)) (w ∷ []))
small_word w l = rw (lt-ltb w (2 ^ 64) l) refl

-- a kind of one word keeps the laws, by what is said of the word
module _ (name : List ℕ) (fits : Shape → Bool) (word : Shape → Record → ℕ) (spelled : ℕ → Option Record) where
  abbrev kind : Meaning
  kind = record { name = name; words = 1; fits = fits; pack = λ shape r. word shape r ∷ []; unpack = unpack_word spelled }

  pub word_is_lawful : ((shape : Shape) (r : Record) → IsPackable kind shape r → word shape r < 2 ^ 64) → ((shape : Shape) (r : Record) → IsPackable kind shape r → spelled (word shape r) ≡ Some r) → ((w : ℕ) → w % 2 ≡ 0 → spelled w ≡ None) → ((w : ℕ) (r : Record) → spelled w ≡ Some r → IsTrue (are_rights r.rights)) → IsLawful kind
  word_is_lawful small back shut rights = lawful kind (lit≤ tt) (lit≤ tt) (λ shape r p. refl) (λ shape r p. small_word (word shape r) (small shape r p)) back word_shut word_rights
    where
      word_shut : (ws : List ℕ) → length ws ≡ 1 → gate_word ws % 2 ≡ 0 → unpack_word spelled ws ≡ None
      word_shut [] n h = refl
      word_shut (w ∷ []) n h = shut w h
      word_shut (w ∷ v ∷ ws) n h = refl

      word_rights : (ws : List ℕ) (r : Record) → unpack_word spelled ws ≡ Some r → IsTrue (are_rights r.rights)
      word_rights [] r e = cc
      word_rights (w ∷ []) r e = rights w r e
      word_rights (w ∷ v ∷ ws) r e = cc

-- bits that must be zero and are
zero_bits : (n : ℕ) → n ≡ 0 → (n == 0) ≡ true
zero_bits n e = rw e refl

both_zero : (n m : ℕ) → n ≡ 0 → m ≡ 0 → (n == 0) && (m == 0) ≡ true
both_zero n m e f = rw (e, f) refl

-- a gate word with the page from bit 8 on is below 2^64
small_from_8 : (kind : Meaning) (shape : Shape) (r : Record) → IsPackable kind shape r → gate_bits r + 256 * r.page < 2 ^ 64
small_from_8 kind shape r p =
    let gate : gate_bits r < 64 = gate_small r (port_small kind shape r p) in
    let page : r.page < 2 ^ 56 = page_small kind shape r p in
    omega arith

pages_back : (shape : Shape) (r : Record) → IsPackable pages shape r → spelled_pages (gate_bits r + 256 * r.page) ≡ Some r
pages_back shape r p =
    let w : ℕ = gate_bits r + 256 * r.page in
    let gate : gate_bits r < 64 = gate_small r (port_small pages shape r p) in
    let page : r.page < 2 ^ 56 = page_small pages shape r p in
    let port : r.port ≡ 0 = lone_port pages shape r p (eqb-true shape.ports 1 p.fits) in
    let reads = denied_small Read r.rights in
    let writes = denied_small Write r.rights in
    let low : bits w 1 3 ≡ 0 = omega arith in
    let high : bits w 6 2 ≡ 0 = omega arith in
    gated_back pages shape r p _ w (bits w 8 56) (both_zero _ _ low high) (omega arith) (omega arith)

pub pages_are_lawful : IsLawful pages
pages_are_lawful = word_is_lawful pages.name pages.fits (λ shape r. gate_bits r + 256 * r.page) spelled_pages (small_from_8 pages) pages_back (λ w h. gate_clear ((bits w 1 3 == 0) && (bits w 6 2 == 0)) w (bits w 8 56) h) (λ w r e. read_are_rights ((bits w 1 3 == 0) && (bits w 6 2 == 0)) w (bits w 8 56) r e)

remap_back : (shape : Shape) (r : Record) → IsPackable remap shape r → spelled_remap (gate_bits r + 256 * r.page) ≡ Some r
remap_back shape r p =
    let w : ℕ = gate_bits r + 256 * r.page in
    let gate : gate_bits r < 64 = gate_small r (port_small remap shape r p) in
    let page : r.page < 2 ^ 56 = page_small remap shape r p in
    let high : bits w 6 2 ≡ 0 = omega arith in
    gated_back remap shape r p _ w (bits w 8 56) (zero_bits _ high) (omega arith) (omega arith)

pub remap_is_lawful : IsLawful remap
remap_is_lawful = word_is_lawful remap.name remap.fits (λ shape r. gate_bits r + 256 * r.page) spelled_remap (small_from_8 remap) remap_back (λ w h. gate_clear (bits w 6 2 == 0) w (bits w 8 56) h) (λ w r e. read_are_rights (bits w 6 2 == 0) w (bits w 8 56) r e)

-- a page of `radix` has 4,096 bytes
pub radix_page : (shape : Shape) (r : Record) → IsPackable radix shape r → r.page < 2 ^ 44
radix_page shape r p =
    let page : shape.page ≡ 12 = eqb-true shape.page 12 (and_parts _ _ p.fits).1 in
    page_below 44 radix shape r p (omega arith)

radix_back : (shape : Shape) (r : Record) → IsPackable radix shape r → spelled_radix (gate_bits r + 4096 * r.page) ≡ Some r
radix_back shape r p =
    let w : ℕ = gate_bits r + 4096 * r.page in
    let gate : gate_bits r < 64 = gate_small r (port_small radix shape r p) in
    let page : r.page < 2 ^ 44 = radix_page shape r p in
    let low : bits w 6 6 ≡ 0 = omega arith in
    let high : bits w 56 8 ≡ 0 = omega arith in
    gated_back radix shape r p _ w (bits w 12 44) (both_zero _ _ low high) (omega arith) (omega arith)

radix_small : (shape : Shape) (r : Record) → IsPackable radix shape r → gate_bits r + 4096 * r.page < 2 ^ 64
radix_small shape r p =
    let gate : gate_bits r < 64 = gate_small r (port_small radix shape r p) in
    let page : r.page < 2 ^ 44 = radix_page shape r p in
    omega arith

pub radix_is_lawful : IsLawful radix
radix_is_lawful = word_is_lawful radix.name radix.fits (λ shape r. gate_bits r + 4096 * r.page) spelled_radix radix_small radix_back (λ w h. gate_clear ((bits w 6 6 == 0) && (bits w 56 8 == 0)) w (bits w 12 44) h) (λ w r e. read_are_rights ((bits w 6 6 == 0) && (bits w 56 8 == 0)) w (bits w 12 44) r e)

vectors_back : (shape : Shape) (r : Record) → IsPackable vectors shape r → unpack_vectors (pack_vectors shape r) ≡ Some r
vectors_back shape r p =
    let w : ℕ = gate_bits r in
    let gate : gate_bits r < 64 = gate_small r (port_small vectors shape r p) in
    let high : bits w 6 58 ≡ 0 = omega arith in
    gated_back vectors shape r p _ w r.page (zero_bits _ high) (omega arith) refl

vectors_shut : (ws : List ℕ) → length ws ≡ 2 → gate_word ws % 2 ≡ 0 → unpack_vectors ws ≡ None
vectors_shut [] n h = refl
vectors_shut (a ∷ []) n h = refl
vectors_shut (a ∷ w ∷ []) n h = gate_clear (bits w 6 58 == 0) w a h
vectors_shut (a ∷ w ∷ v ∷ ws) n h = refl

vectors_rights : (ws : List ℕ) (r : Record) → unpack_vectors ws ≡ Some r → IsTrue (are_rights r.rights)
vectors_rights [] r e = cc
vectors_rights (a ∷ []) r e = cc
vectors_rights (a ∷ w ∷ []) r e = read_are_rights (bits w 6 58 == 0) w a r e
vectors_rights (a ∷ w ∷ v ∷ ws) r e = cc

vectors_small : (shape : Shape) (r : Record) → IsPackable vectors shape r → IsTrue (list_all (λ w. nat_lt w (2 ^ 64)) (pack_vectors shape r))
vectors_small shape r p =
    let page = page_small vectors shape r p in
    let gate : gate_bits r < 64 = gate_small r (port_small vectors shape r p) in
    rw (lt-ltb r.page (2 ^ 64) (omega arith), lt-ltb (gate_bits r) (2 ^ 64) (omega arith)) refl

pub vectors_are_lawful : IsLawful vectors
vectors_are_lawful = lawful vectors (lit≤ tt) (lit≤ tt) (λ shape r p. refl) vectors_small vectors_back vectors_shut vectors_rights

pub shipped_are_lawful : (kind : ShippedKind) → IsLawful (shipped kind)
shipped_are_lawful Pages = pages_are_lawful
shipped_are_lawful Remap = remap_is_lawful
shipped_are_lawful Vectors = vectors_are_lawful
shipped_are_lawful Radix = radix_is_lawful
