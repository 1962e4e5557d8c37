-- The tables of a set, as a device tells them.
use Rattle.std.proofs.Common.{◌≡◌, ℕ, zero, suc, ◌+◌, ◌<◌, true, false, if◌then◌else◌, nat_lt, ◌==◌, List, [], ◌∷◌, ◌++◌, map, length, slice_set, Option, Some, None, IfSome, refl, sym, ap, ap₂, ◌∙◌, subst, arith}
use Rattle.std.specs.Option.{option_map}
use Rattle.dn_base.proofs.Orders.{lt-ltb, eq-eqb, ne_eqb}
use Rattle.dn_base.specs.Device.{UnitSize, sizes_of, has_word, with_word}
use Rattle.dn_base.specs.declared.device.UnitWords.{UnitWords}
use Rattle.dn_net.specs.declared.node.NodeDecl.{NodeDecl}
use Rattle.dn_net.specs.declared.node.Unit.{Unit as UnitPart}
use Rattle.dn_tables.specs.declared.table.NodeTable.{NodeTable}
use Rattle.dn_tables.specs.Set.{unit_in, units_of, words_in, words_of, device_tables, table_on_device, tables_from, tables_of_set, tables_told, with_table, with_words, IsOnDevice}
use Rattle.dn_tables.specs.Writes.{WordWrite, words_after, device_after, set_after}
use Rattle.dn_tables.proofs.Kept.{with_table_twice, no_change}
use Rattle.dn_tables.proofs.Values.{length_after}

later_node : (n i : ℕ) → (n == n + suc i) ≡ false
later_node n i = ne_eqb n (n + suc i) (λ e. absurd (omega (arith, e)))

-- the table before is not that of a later node
skip_size : (n i word : ℕ) (ws : List ℕ) (o : Option UnitPart) (rest : List UnitWords) → has_word (sizes_of (table_on_device n ws o ++ rest)) (n + suc i) word ≡ has_word (sizes_of rest) (n + suc i) word
skip_size n i word ws None rest = refl
skip_size n i word ws (Some u) rest = ap (λ b. if b then nat_lt word (length ws) else has_word (sizes_of rest) (n + suc i) word) (later_node n i)

-- a unit of the set has its words on the device
pub word_on_device : (set : List NodeTable) (n i word : ℕ) (u : UnitPart) → unit_in set i ≡ Some u → word < length (words_in set i) → has_word (sizes_of (tables_from n set)) (n + i) word ≡ true
word_on_device [] n i word u e l = cc
word_on_device (t ∷ set) n zero word u e l =
    let none : n + zero ≡ n = omega arith in
    ap (λ k. has_word (sizes_of (tables_from n (t ∷ set))) k word) none
    ∙ ap (λ (o : Option UnitPart). has_word (sizes_of (table_on_device n t.words o ++ tables_from (suc n) set)) n word) e
    ∙ ap (λ b. if b then nat_lt word (length t.words) else has_word (sizes_of (tables_from (suc n) set)) n word) (eq-eqb n n refl)
    ∙ lt-ltb word (length t.words) l
word_on_device (t ∷ set) n (suc i) word u e l =
    let m : n + suc i ≡ suc n + i = omega arith in
    skip_size n i word t.words t.unit (tables_from (suc n) set)
    ∙ ap (λ k. has_word (sizes_of (tables_from (suc n) set)) k word) m
    ∙ word_on_device set (suc n) i word u e l

skip_word : (n i word value : ℕ) (ws : List ℕ) (o : Option UnitPart) (rest : List UnitWords) → with_word (table_on_device n ws o ++ rest) (n + suc i) word value ≡ table_on_device n ws o ++ with_word rest (n + suc i) word value
skip_word n i word value ws None rest = refl
skip_word n i word value ws (Some u) rest = ap (λ b. if b then record { unit = n; words = slice_set ws word value } ∷ rest else record { unit = n; words = ws } ∷ with_word rest (n + suc i) word value) (later_node n i)

-- the table with one word set
abbrev pub with_one : ℕ → ℕ → NodeTable → NodeTable
with_one word value t = with_words t (slice_set t.words word value)

-- a word that is set on the device is set in the table of its node
one_on_device : (set : List NodeTable) (n i word value : ℕ) (u : UnitPart) → unit_in set i ≡ Some u → with_word (tables_from n set) (n + i) word value ≡ tables_from n (with_table set i (with_one word value))
one_on_device [] n i word value u e = cc
one_on_device (t ∷ set) n zero word value u e =
    let none : n + zero ≡ n = omega arith in
    ap (λ k. with_word (tables_from n (t ∷ set)) k word value) none
    ∙ ap (λ (o : Option UnitPart). with_word (table_on_device n t.words o ++ tables_from (suc n) set) n word value) e
    ∙ ap (λ b. if b then record { unit = n; words = slice_set t.words word value } ∷ tables_from (suc n) set else record { unit = n; words = t.words } ∷ with_word (tables_from (suc n) set) n word value) (eq-eqb n n refl)
    ∙ ap (λ (o : Option UnitPart). table_on_device n (slice_set t.words word value) o ++ tables_from (suc n) set) (sym e)
one_on_device (t ∷ set) n (suc i) word value u e =
    let m : n + suc i ≡ suc n + i = omega arith in
    skip_word n i word value t.words t.unit (tables_from (suc n) set)
    ∙ ap (λ k. table_on_device n t.words t.unit ++ with_word (tables_from (suc n) set) k word value) m
    ∙ ap (λ (l : List UnitWords). table_on_device n t.words t.unit ++ l) (one_on_device set (suc n) i word value u e)

unit_stays : (set : List NodeTable) (node word value : ℕ) → unit_in (with_table set node (with_one word value)) node ≡ unit_in set node
unit_stays [] node word value = refl
unit_stays (t ∷ set) zero word value = refl
unit_stays (t ∷ set) (suc node) word value = unit_stays set node word value

-- the tables of a device after writes are those of the set after them
pub writes_on_device : (writes : List WordWrite) (set : List NodeTable) (node : ℕ) (u : UnitPart) → unit_in set node ≡ Some u → device_after node writes (tables_of_set set) ≡ tables_of_set (set_after node writes set)
writes_on_device [] set node u e = ap tables_of_set (sym (no_change set node (λ t. with_words t t.words) (λ t. refl)))
writes_on_device (w ∷ writes) set node u e =
    let zero_node : 0 + node ≡ node = omega arith in
    ap (λ n. device_after node writes (with_word (tables_of_set set) n w.word w.value)) (sym zero_node)
    ∙ ap (device_after node writes) (one_on_device set 0 node w.word w.value u e)
    ∙ writes_on_device writes (with_table set node (with_one w.word w.value)) node u (unit_stays set node w.word w.value ∙ e)
    ∙ ap tables_of_set (with_table_twice set node (with_one w.word w.value) (λ t. with_words t (words_after writes t.words)))

-- a change that keeps the number of words keeps the sizes
size_changed : (n : ℕ) (ws ws' : List ℕ) (o : Option UnitPart) (rest : List UnitWords) → length ws' ≡ length ws → sizes_of (table_on_device n ws' o ++ rest) ≡ sizes_of (table_on_device n ws o ++ rest)
size_changed n ws ws' None rest e = refl
size_changed n ws ws' (Some u) rest e = ap (λ k. record { unit = n; words = k } ∷ sizes_of rest) e

front_sizes : (n : ℕ) (ws : List ℕ) (o : Option UnitPart) (rest rest' : List UnitWords) → sizes_of rest' ≡ sizes_of rest → sizes_of (table_on_device n ws o ++ rest') ≡ sizes_of (table_on_device n ws o ++ rest)
front_sizes n ws None rest rest' e = e
front_sizes n ws (Some u) rest rest' e = ap (λ (l : List UnitSize). record { unit = n; words = length ws } ∷ l) e

pub sizes_after : (writes : List WordWrite) (set : List NodeTable) (n node : ℕ) → sizes_of (tables_from n (set_after node writes set)) ≡ sizes_of (tables_from n set)
sizes_after writes [] n node = refl
sizes_after writes (t ∷ set) n zero = size_changed n t.words (words_after writes t.words) t.unit (tables_from (suc n) set) (length_after writes t.words)
sizes_after writes (t ∷ set) n (suc node) = front_sizes n t.words t.unit (tables_from (suc n) set) (tables_from (suc n) (set_after node writes set)) (sizes_after writes set (suc n) node)

told_after : (writes : List WordWrite) (set : List NodeTable) (node : ℕ) (u : UnitPart) (told : Option (List UnitWords)) → unit_in set node ≡ Some u → IfSome told (λ tables. tables ≡ tables_of_set set) → IfSome (option_map (device_after node writes) told) (λ tables. tables ≡ tables_of_set (set_after node writes set))
told_after writes set node u None e h = tt
told_after writes set node u (Some tables) e h = ap (device_after node writes) h ∙ writes_on_device writes set node u e

-- a device on which the writes were made is that of the set after them
pub on_device_after : (writes : List WordWrite) (set set' : List NodeTable) (node : ℕ) (u : UnitPart) (units units' : List UnitSize) (told told' : Option (List UnitWords)) → unit_in set node ≡ Some u → IsOnDevice set units told → units' ≡ units → told' ≡ option_map (device_after node writes) told → set' ≡ set_after node writes set → IsOnDevice set' units' told'
on_device_after writes set set' node u units units' told told' e d same on_device kept = record {
  units = same ∙ d.units ∙ sym (sizes_after writes set 0 node) ∙ ap (λ s. sizes_of (tables_of_set s)) (sym kept);
  words = subst (λ s. IfSome told' (λ tables. tables ≡ tables_of_set s)) (sym kept) (subst (λ o. IfSome o (λ tables. tables ≡ tables_of_set (set_after node writes set))) (sym on_device) (told_after writes set node u told e d.words));
}

-- the tables of a set, told of the net that it belongs to
pub device_told : (set : List NodeTable) (net : List NodeDecl) (words : List (List ℕ)) → units_of set ≡ map (λ n. n.unit) net → words_of set ≡ words → tables_of_set set ≡ device_tables 0 net words
device_told set net words e f = ap₂ (tables_told 0) e f
