-- The law of access: tables in which the slots that do not allow an access have words 0 hold the records that allow it.
use Rattle.std.proofs.Common.{◌≡◌, ℕ, zero, suc, ◌+◌, ◌*◌, ◌%◌, ◌<◌, ◌≤◌, Bool, true, false, if◌then◌else◌, nat_lt, List, [], ◌∷◌, ◌++◌, length, take, drop, replicate, slice_get, Option, Some, None, option_map, IsTrue, refl, sym, ap, ◌∙◌, subst, arith, length-drop, suc-mul, ltb-true}
use Rattle.std.specs.List.{All}
use Rattle.std.proofs.lemmas.List.{take_at, drop_at, drop-drop, length-replicate, length-take-le}
use Rattle.dn_net.specs.declared.node.NodeDecl.{NodeDecl}
use Rattle.dn_net.specs.declared.node.Unit.{Unit as UnitPart}
use Rattle.dn_net.specs.Decode.{unit_at}
use Rattle.dn_kind.specs.declared.rights.Access.{Access}
use Rattle.dn_kind.specs.declared.rights.Access.TheVariants.{Read, Write}
use Rattle.dn_kind.specs.declared.unit_kind.Record.{Record}
use Rattle.dn_kind.specs.Kind.{Meaning, IsLawful, gate_word}
use Rattle.dn_kind.specs.Rights.{allows, both_rights}
use Rattle.dn_kind.specs.Tables.{Held, slot_words, record_within, record_spelled, record_of_unit, record_held, AreTables, record_allowing, allowing, ResolvesUnder}
use Rattle.dn_kind.specs.Cleared.{kept_slots, kept_of_kind, kept_words, kept_tables, is_open, is_open_in, words_allowing, ClearedTablesAllow, LawOfAccess}
use Rattle.dn_kind.proofs.Held.{kind_lawful}

-- the words of a slot, or as many that are 0
pub front_sized : (w : ℕ) (ws : List ℕ) (b : Bool) → w ≤ length ws → length (if b then take w ws else replicate w 0) ≡ w
front_sized w ws true l = length-take-le w ws l
front_sized w ws false l = length-replicate w 0

-- the words of a slot, where some slots are cleared
slot_kept : (kept : ℕ → Bool) (w first count q : ℕ) (ws : List ℕ) → length ws ≡ count * w → q < count → slot_words w (kept_slots kept w first count ws) q ≡ (if kept (first + q) then slot_words w ws q else replicate w 0)
slot_kept kept w first zero q ws e l = absurd (omega arith)
slot_kept kept w first (suc count) zero ws e l =
    let m : suc count * w ≡ count * w + w = suc-mul count w in
    let enough : w ≤ length ws = omega arith in
    let none : 0 * w ≡ 0 = omega arith in
    let here : first + 0 ≡ first = omega arith in
    let start : List ℕ = if kept first then take w ws else replicate w 0 in
    ap (λ n. take w (drop n (start ++ kept_slots kept w (suc first) count (drop w ws)))) none
    ∙ take_at start (kept_slots kept w (suc first) count (drop w ws)) w (front_sized w ws (kept first) enough)
    ∙ ap (λ n. if kept first then take w (drop n ws) else replicate w 0) (sym none)
    ∙ ap (λ n. if kept n then take w (drop (0 * w) ws) else replicate w 0) (sym here)
slot_kept kept w first (suc count) (suc q) ws e l =
    let m : suc count * w ≡ count * w + w = suc-mul count w in
    let n : suc q * w ≡ q * w + w = suc-mul q w in
    let both : suc q * w ≡ w + q * w = omega arith in
    let enough : w ≤ length ws = omega arith in
    let left : length (drop w ws) ≡ count * w = omega (arith, length-drop w ws) in
    let here : suc first + q ≡ first + suc q = omega arith in
    let start : List ℕ = if kept first then take w ws else replicate w 0 in
    let rest : List ℕ = kept_slots kept w (suc first) count (drop w ws) in
    ap (λ k. take w (drop k (start ++ rest))) both
    ∙ ap (take w) (sym (drop-drop (q * w) w (start ++ rest)))
    ∙ ap (λ z. take w (drop (q * w) z)) (drop_at start rest w (front_sized w ws (kept first) enough))
    ∙ slot_kept kept w (suc first) count q (drop w ws) left (omega arith)
    ∙ ap (λ z. if kept (suc first + q) then take w z else replicate w 0) (drop-drop (q * w) w ws ∙ ap (λ k. drop k ws) (sym both))
    ∙ ap (λ k. if kept k then slot_words w ws (suc q) else replicate w 0) here

-- the words of a node, where some slots are cleared
pub tables_kept : (net : List NodeDecl) (kinds : List Meaning) (kept : ℕ → ℕ → Bool) (first node : ℕ) (words : List (List ℕ)) → slice_get (kept_tables net kinds kept first words) node ≡ option_map (λ ws. kept_words kinds (kept (first + node)) (unit_at net (first + node)) ws) (slice_get words node)
tables_kept net kinds kept first node [] = refl
tables_kept net kinds kept first zero (ws ∷ rest) =
    let here : first ≡ first + 0 = omega arith in
    ap (λ n. Some (kept_words kinds (kept n) (unit_at net n) ws)) here
tables_kept net kinds kept first (suc node) (ws ∷ rest) =
    let here : suc first + node ≡ first + suc node = omega arith in
    tables_kept net kinds kept (suc first) node rest
    ∙ ap (λ n. option_map (λ ws. kept_words kinds (kept n) (unit_at net n) ws) (slice_get rest node)) here

-- the last of words that are 0 is 0
pub gate_of_zeros : (n : ℕ) → gate_word (replicate n 0) ≡ 0
gate_of_zeros zero = refl
gate_of_zeros (suc zero) = refl
gate_of_zeros (suc (suc n)) = gate_of_zeros (suc n)

-- words that are 0 spell no record
zeros_are_none : (kind : Meaning) → IsLawful kind → kind.unpack (replicate kind.words 0) ≡ None
zeros_are_none kind lawful = lawful.shut (replicate kind.words 0) (length-replicate kind.words 0) (ap (λ n. n % 2) (gate_of_zeros kind.words))

-- a slot that is kept where its record allows the access holds that record, where it allows the access
slot_allowing : (access : Access) (u : UnitPart) (kind : Meaning) (words : List ℕ) (b : Bool) → IsLawful kind → is_open access (record_within u (kind.unpack words)) ≡ b → record_within u (kind.unpack (if b then words else replicate kind.words 0)) ≡ record_allowing access (record_within u (kind.unpack words))
slot_allowing access u kind words b lawful e = by b (record_within u (kind.unpack words)) refl e
  where
    by : (b : Bool) (o : Option Record) → record_within u (kind.unpack words) ≡ o → is_open access o ≡ b → record_within u (kind.unpack (if b then words else replicate kind.words 0)) ≡ record_allowing access o
    by true None f e = f
    by true (Some r) f e = f ∙ ap (λ c. if c then Some r else None) (sym e)
    by false None f e = cc
    by false (Some r) f e = ap (record_within u) (zeros_are_none kind lawful) ∙ ap (λ c. if c then Some r else None) (sym e)

module _ (net : List NodeDecl) (kinds : List Meaning) (words : List (List ℕ)) (access : Access) (lawful : All IsLawful kinds) (sized : AreTables net kinds words) where
  by_words : (node slot : ℕ) (u : UnitPart) (kind : Meaning) (ws : List ℕ) → unit_at net node ≡ Some u → slice_get kinds u.kind ≡ Some kind → slice_get words node ≡ Some ws → (b : Bool) → nat_lt slot u.slots ≡ b → (if b then record_within u (kind.unpack (slot_words kind.words (kept_slots (is_open_in net kinds words access node) kind.words 0 u.slots ws) slot)) else None) ≡ record_allowing access (if b then record_within u (kind.unpack (slot_words kind.words ws slot)) else None)
  by_words node slot u kind ws eu ek ew false e = refl
  by_words node slot u kind ws eu ek ew true e =
      let l : slot < u.slots = ltb-true slot u.slots e in
      let size : length ws ≡ u.slots * kind.words = sized.sized node u kind ws eu ek ew in
      let here : record_held net kinds words node slot ≡ record_within u (kind.unpack (slot_words kind.words ws slot)) =
      ap (λ o. record_of_unit kinds o (slice_get words node) slot) eu
      ∙ ap (λ o. record_spelled o u (slice_get words node) slot) ek
      ∙ ap (λ o. record_spelled (Some kind) u o slot) ew
      ∙ ap (λ b. if b then record_within u (kind.unpack (slot_words kind.words ws slot)) else None) e in
      let zero_slot : 0 + slot ≡ slot = omega arith in
      ap (λ z. record_within u (kind.unpack z)) (slot_kept (is_open_in net kinds words access node) kind.words 0 u.slots slot ws size l)
      ∙ ap (λ n. record_within u (kind.unpack (if is_open access (record_held net kinds words node n) then slot_words kind.words ws slot else replicate kind.words 0))) zero_slot
      ∙ slot_allowing access u kind (slot_words kind.words ws slot) (is_open access (record_held net kinds words node slot)) (kind_lawful kinds u.kind kind lawful ek) (ap (is_open access) (sym here))

  by_node : (node slot : ℕ) (u : UnitPart) → unit_at net node ≡ Some u → (k : Option Meaning) → slice_get kinds u.kind ≡ k → (o : Option (List ℕ)) → slice_get words node ≡ o → record_spelled k u (option_map (λ ws. kept_of_kind (is_open_in net kinds words access node) u k ws) o) slot ≡ record_allowing access (record_spelled k u o slot)
  by_node node slot u eu None ek o ew = refl
  by_node node slot u eu (Some kind) ek None ew = refl
  by_node node slot u eu (Some kind) ek (Some ws) ew = by_words node slot u kind ws eu ek ew (nat_lt slot u.slots) refl

  by_unit : (node slot : ℕ) (v : Option UnitPart) → unit_at net node ≡ v → record_of_unit kinds v (option_map (λ ws. kept_words kinds (is_open_in net kinds words access node) v ws) (slice_get words node)) slot ≡ record_allowing access (record_of_unit kinds v (slice_get words node) slot)
  by_unit node slot None e = refl
  by_unit node slot (Some u) e = by_node node slot u e (slice_get kinds u.kind) refl (slice_get words node) refl

  pub records_allowing : (node slot : ℕ) → record_held net kinds (words_allowing net kinds access words) node slot ≡ allowing access (record_held net kinds words) node slot
  records_allowing node slot =
      let none : 0 + node ≡ node = omega arith in
      ap (λ o. record_of_unit kinds (unit_at net node) o slot) (tables_kept net kinds (is_open_in net kinds words access) 0 node words)
      ∙ ap (λ n. record_of_unit kinds (unit_at net node) (option_map (λ ws. kept_words kinds (is_open_in net kinds words access n) (unit_at net n) ws) (slice_get words node)) slot) none
      ∙ by_unit node slot (unit_at net node) refl

pub cleared_tables_allow : ClearedTablesAllow
cleared_tables_allow = records_allowing

pub law_of_access : LawOfAccess
law_of_access net kinds words access lawful sized x y =
    let e : ◌≡◌ {A = Held} (record_held net kinds (words_allowing net kinds access words)) (allowing access (record_held net kinds words)) = (λ i node slot. records_allowing net kinds words access lawful sized node slot i) in
    ((λ r. subst (λ h. ResolvesUnder net h x y) (sym e) r), (λ r. subst (λ h. ResolvesUnder net h x y) e r))

-- both rights allow each access
pub both_allow : (access : Access) → IsTrue (allows both_rights access)
both_allow Read = refl
both_allow Write = refl
