-- The tables of the empty book: all words are 0.
use Rattle.std.proofs.Common.{◌≡◌, ◌∙◌, ap, sym, refl, arith, ℕ, zero, suc, ◌+◌, ◌*◌, List, [], ◌∷◌, ◌++◌, replicate, slice_get, Option, Some, None, suc-mul}
use Rattle.dn_net.specs.declared.node.NodeDecl.{NodeDecl}
use Rattle.dn_net.specs.declared.node.Unit.{Unit as UnitPart}
use Rattle.dn_kind.specs.Kind.{Meaning}
use Rattle.dn_tables.specs.Set.{fresh_by, fresh_set, width_by, width_by as width_in_set, words_of}
use Rattle.dn_image.specs.Image.{word_count}
use Rattle.dn_book.specs.Book.{records_of}
use Rattle.dn_book.specs.Tables.{packed_node, packed_nodes, packed_slots, packed_unit, tables_of}

-- words

-- so many words 0
abbrev zeros : ℕ → List ℕ
zeros n = replicate n 0

zeros_append : (m n : ℕ) → zeros (m + n) ≡ zeros m ++ zeros n
zeros_append zero n = let e : zero + n ≡ n = omega arith in ap zeros e
zeros_append (suc m) n = let e : suc m + n ≡ suc (m + n) = omega arith in ap zeros e ∙ ap (λ l. 0 ∷ l) (zeros_append m n)

zero_slots : (kind : Meaning) (u : UnitPart) (slot count : ℕ) → packed_slots kind u (λ _. None) slot count ≡ zeros (count * kind.words)
zero_slots kind u slot zero = let e : 0 ≡ zero * kind.words = omega arith in ap zeros e
zero_slots kind u slot (suc count) =
    ap (λ l. replicate kind.words 0 ++ l) (zero_slots kind u (suc slot) count)
    ∙ sym (zeros_append kind.words (count * kind.words))
    ∙ ap zeros (sum count kind.words)
  where
    sum : (n w : ℕ) → w + n * w ≡ suc n * w
    sum n w = omega (arith, suc-mul n w)

zero_unit : (k : Option Meaning) (u : UnitPart) → packed_unit k u (λ _. None) ≡ zeros (u.slots * width_by k)
zero_unit None u = let e : 0 ≡ u.slots * 0 = omega arith in ap zeros e
zero_unit (Some kind) u = zero_slots kind u 0 u.slots

-- the words of a node are 0
zero_node : (kinds : List Meaning) (o : Option UnitPart) → packed_node kinds o (λ _. None) ≡ zeros (word_count kinds o)
zero_node kinds None = refl
zero_node kinds (Some u) = zero_unit (slice_get kinds u.kind) u

fresh_node : (kinds : List Meaning) (o : Option UnitPart) → (fresh_by kinds o).words ≡ zeros (word_count kinds o)
fresh_node kinds None = refl
fresh_node kinds (Some u) = by (slice_get kinds u.kind)
  where
    by : (k : Option Meaning) → zeros (u.slots * width_in_set k) ≡ zeros (u.slots * width_by k)
    by None = refl
    by (Some kind) = refl

fresh_from : (kinds : List Meaning) (node : ℕ) (ns : List NodeDecl) → words_of (fresh_set kinds ns) ≡ packed_nodes kinds (records_of ns []) node ns
fresh_from kinds node [] = refl
fresh_from kinds node (n ∷ ns) =
    ap (λ ws. ws ∷ words_of (fresh_set kinds ns)) (fresh_node kinds n.unit ∙ sym (zero_node kinds n.unit))
    ∙ ap (λ l. packed_node kinds n.unit (λ _. None) ∷ l) (fresh_from kinds (suc node) ns)

-- the words of a set that was made are the tables of the empty book
pub fresh_tables : (kinds : List Meaning) (net : List NodeDecl) → words_of (fresh_set kinds net) ≡ tables_of net kinds []
fresh_tables kinds net = fresh_from kinds 0 net
