-- Tables in which the words of one node are changed, and tables after writes to it.
use Rattle.std.proofs.Common.{◌≡◌, ◌∙◌, ap, sym, refl, ℕ, zero, suc, List, [], ◌∷◌, Some, slice_get, slice_set}
use Rattle.std.proofs.lemmas.Option.{same_Some}
use Rattle.dn_tables.specs.declared.table.NodeTable.{NodeTable}
use Rattle.dn_tables.specs.Set.{with_table, words_of}
use Rattle.dn_tables.specs.Writes.{WordWrite, words_after, write_events}
use Rattle.dn_book.specs.Events.{after_events, with_word_in}

-- tables in which the words of a node are changed
abbrev pub with_node : List (List ℕ) → ℕ → (List ℕ → List ℕ) → List (List ℕ)
with_node [] node change = []
with_node (ws ∷ rest) zero change = change ws ∷ rest
with_node (ws ∷ rest) (suc node) change = ws ∷ with_node rest node change

node_same : (words : List (List ℕ)) (node : ℕ) → with_node words node (λ ws. ws) ≡ words
node_same [] node = refl
node_same (v ∷ rest) zero = refl
node_same (v ∷ rest) (suc node) = ap (λ (l : List (List ℕ)). v ∷ l) (node_same rest node)

-- a word, and then all words
node_word : (words : List (List ℕ)) (node word value : ℕ) (change : List ℕ → List ℕ) → with_node (with_word_in words node word value) node change ≡ with_node words node (λ ws. change (slice_set ws word value))
node_word [] node word value change = refl
node_word (v ∷ rest) zero word value change = refl
node_word (v ∷ rest) (suc node) word value change = ap (λ (l : List (List ℕ)). v ∷ l) (node_word rest node word value change)

-- the events of writes to a node change its words as the writes do
pub after_writes : (writes : List WordWrite) (words : List (List ℕ)) (node : ℕ) → after_events (write_events node writes) words ≡ with_node words node (words_after writes)
after_writes [] words node = sym (node_same words node)
after_writes (w ∷ writes) words node =
    after_writes writes (with_word_in words node w.word w.value) node
    ∙ node_word words node w.word w.value (words_after writes)

-- the words of a node that were changed
pub node_there : (words : List (List ℕ)) (node : ℕ) (ws : List ℕ) (change : List ℕ → List ℕ) → slice_get words node ≡ Some ws → slice_get (with_node words node change) node ≡ Some (change ws)
node_there [] node ws change e = cc
node_there (v ∷ rest) zero ws change e = ap (λ (x : List ℕ). Some (change x)) (same_Some v ws e)
node_there (v ∷ rest) (suc node) ws change e = node_there rest node ws change e

-- and those of another
pub node_other : (words : List (List ℕ)) (node n : ℕ) (change : List ℕ → List ℕ) → (n ≡ node → ⊥) → slice_get (with_node words node change) n ≡ slice_get words n
node_other [] node n change ne = refl
node_other (v ∷ rest) zero zero change ne = absurd (ne refl)
node_other (v ∷ rest) zero (suc n) change ne = refl
node_other (v ∷ rest) (suc node) zero change ne = refl
node_other (v ∷ rest) (suc node) (suc n) change ne = node_other rest node n change (λ e. ne (ap suc e))

-- the words of a set of which one table was changed
pub table_words : (set : List NodeTable) (node : ℕ) (f : NodeTable → NodeTable) (change : List ℕ → List ℕ) → ((t : NodeTable) → (f t).words ≡ change t.words) → words_of (with_table set node f) ≡ with_node (words_of set) node change
table_words [] node f change e = refl
table_words (t ∷ set) zero f change e = ap (λ (ws : List ℕ). ws ∷ words_of set) (e t)
table_words (t ∷ set) (suc node) f change e = ap (λ (l : List (List ℕ)). t.words ∷ l) (table_words set node f change e)
