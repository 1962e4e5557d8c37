-- The words of the nodes of a net: as many as its slots need, and what those of a slot spell.
use Rattle.std.proofs.Common.{◌≡◌, ◌∙◌, ap, sym, subst, refl, ℕ, zero, suc, ◌*◌, ◌<◌, ◌≤◌, true, false, if◌then◌else◌, nat_lt, List, [], ◌∷◌, map, length, replicate, slice_get, Option, Some, None, IsTrue, ltb-true, arith}
use Rattle.std.proofs.lemmas.Bool.{lt-ltb}
use Rattle.std.proofs.lemmas.List.{length-replicate}
use Rattle.std.proofs.lemmas.Option.{same_Some}
use Rattle.dn_base.proofs.Booleans.{and_parts}
use Rattle.dn_base.proofs.Orders.{le-ltb}
use Rattle.dn_net.specs.declared.node.Name.{Name}
use Rattle.dn_net.specs.declared.node.NodeDecl.{NodeDecl}
use Rattle.dn_net.specs.declared.node.Unit.{Unit as UnitPart}
use Rattle.dn_net.specs.Decode.{is_stop, is_stop_at, unit_at, unit_of}
use Rattle.dn_kind.specs.Kind.{Meaning}
use Rattle.dn_kind.specs.Levels.{are_there}
use Rattle.dn_kind.specs.Tables.{record_held, record_of_unit, record_spelled, record_within, slot_words}
use Rattle.dn_kind.specs.Units.{IsLegalWith}
use Rattle.dn_tables.specs.Set.{fresh_by, fresh_set, width_by, words_of}
use Rattle.dn_tables.proofs.Fresh.{fresh_fits_net}
use Rattle.dn_book.specs.Tables.{tables_of}
use Rattle.dn_book.proofs.Begun.{begun_kept}
use Rattle.dn_book.proofs.Packed.{AreKindsOf}
use Rattle.dn_flight.specs.Words.{AreSized, word_counts}

-- the words that a world starts with
pub start_words : (net : List NodeDecl) (kinds : List Meaning) → AreKindsOf net kinds → IsLegalWith kinds net → words_of (fresh_set kinds net) ≡ tables_of net kinds []
start_words net kinds k legal = (begun_kept net kinds k legal.legal (fresh_set kinds net) (fresh_fits_net kinds net legal.shaped) refl).words

-- how many words a node has
words_at : (net : List NodeDecl) (kinds : List Meaning) (node : ℕ) (u : UnitPart) → unit_at net node ≡ Some u → slice_get (word_counts (words_of (fresh_set kinds net))) node ≡ Some (u.slots * width_by (slice_get kinds u.kind))
words_at [] kinds node u at = cc
words_at (d ∷ net) kinds zero u at = ap (λ o. Some (length {A = ℕ} (fresh_by kinds o).words)) at ∙ ap Some (length-replicate (u.slots * width_by (slice_get kinds u.kind)) 0)
words_at (d ∷ net) kinds (suc node) u at = words_at net kinds node u at

-- a node that is there has words
there_at : {X : Type 0} (xs : List X) (n m : ℕ) (f : X → ℕ) → slice_get (map f xs) n ≡ Some m → (x : X) × (slice_get xs n ≡ Some x) × (f x ≡ m)
there_at [] n m f e = cc
there_at (x ∷ xs) zero m f e = (x, refl, same_Some (f x) m e)
there_at (x ∷ xs) (suc n) m f e = there_at xs n m f e

pub unit_words : (net : List NodeDecl) (kinds : List Meaning) (words : List (List ℕ)) → AreKindsOf net kinds → IsLegalWith kinds net → AreSized net kinds words → (node : ℕ) (u : UnitPart) → unit_at net node ≡ Some u → (ws : List ℕ) × (slice_get words node ≡ Some ws) × (length ws ≡ u.slots * width_by (slice_get kinds u.kind))
unit_words net kinds words k legal sized node u at =
    there_at words node (u.slots * width_by (slice_get kinds u.kind)) (λ (ws : List ℕ). length ws)
    (ap (λ (l : List ℕ). slice_get l node) (sized ∙ ap word_counts (sym (start_words net kinds k legal))) ∙ words_at net kinds node u at)

-- the words of a slot of a unit spell the record that it holds
pub spelled_at : (kinds : List Meaning) (u : UnitPart) (kind : Meaning) (ws : List ℕ) (slot : ℕ) → slice_get kinds u.kind ≡ Some kind → slot < u.slots → record_of_unit kinds (Some u) (Some ws) slot ≡ record_within u (kind.unpack (slot_words kind.words ws slot))
spelled_at kinds u kind ws slot is l =
    ap (λ k. record_spelled k u (Some ws) slot) is
    ∙ ap (λ b. if b then record_within u (kind.unpack (slot_words kind.words ws slot)) else None) (lt-ltb slot u.slots l)

-- the record that a slot of a node holds, by what the node is and what words it has
pub held_by : (net : List NodeDecl) (kinds : List Meaning) (words : List (List ℕ)) (node slot : ℕ) (u : UnitPart) (ws : List ℕ) → unit_at net node ≡ Some u → slice_get words node ≡ Some ws → record_held net kinds words node slot ≡ record_of_unit kinds (Some u) (Some ws) slot
held_by net kinds words node slot u ws at has = ap (λ o. record_of_unit kinds o (slice_get words node) slot) at ∙ ap (λ o. record_of_unit kinds (Some u) o slot) has

-- an item that is there stands at a place within the list
pub within_list : {X : Type 0} (xs : List X) (n : ℕ) (x : X) → slice_get xs n ≡ Some x → n < length xs
within_list [] n x e = cc
within_list (y ∷ ys) zero x e = omega arith
within_list (y ∷ ys) (suc n) x e = let h = within_list ys n x e in omega arith

-- none past its slots
pub none_past : (net : List NodeDecl) (kinds : List Meaning) (words : List (List ℕ)) (node slot : ℕ) (u : UnitPart) → unit_at net node ≡ Some u → u.slots ≤ slot → record_held net kinds words node slot ≡ None
none_past net kinds words node slot u at l = ap (λ o. record_of_unit kinds o (slice_get words node) slot) at ∙ by (slice_get kinds u.kind) (slice_get words node)
  where
    by : (k : Option Meaning) (ws : Option (List ℕ)) → record_spelled k u ws slot ≡ None
    by None ws = refl
    by (Some k) None = refl
    by (Some k) (Some ws) = ap (λ b. if b then record_within u (k.unpack (slot_words k.words ws slot)) else None) (le-ltb slot u.slots l)

-- and none in a node that is no unit
pub none_there : (net : List NodeDecl) (kinds : List Meaning) (words : List (List ℕ)) (node slot : ℕ) → unit_at net node ≡ None → record_held net kinds words node slot ≡ None
none_there net kinds words node slot at = ap (λ o. record_of_unit kinds o (slice_get words node) slot) at

-- a name in a unit stands in a node that is there
pub stop_there : (net : List NodeDecl) (x : Name) → IsTrue (is_stop net x) → x.node < length net
stop_there net x is = by (slice_get net x.node) refl
  where
    by : (o : Option NodeDecl) → slice_get net x.node ≡ o → x.node < length net
    by None e = let c : false ≡ true = subst (λ o. IsTrue (is_stop_at x.addr (unit_of o))) e is in cc
    by (Some d) e = within_list net x.node d e

-- one name that is there
pub one_there : (count : ℕ) (x : Name) → IsTrue (are_there count (x ∷ [])) → x.node < count
one_there count x a = ltb-true x.node count (and_parts (nat_lt x.node count) true a).0
