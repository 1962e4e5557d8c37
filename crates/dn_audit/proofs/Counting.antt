-- What is found in slots, slot by slot and node by node.
use Rattle.std.proofs.Common.{◌≡◌, ℕ, zero, suc, ◌+◌, ◌-◌, ◌<◌, ◌≤◌, Bool, true, false, if◌then◌else◌, ◌&&◌, not, is_some, List, [], ◌∷◌, ◌++◌, drop, length, slice_get, slice_index_or, Option, Some, None, refl, sym, ap, ◌∙◌, arith, append_assoc}
use Rattle.std.specs.Option.{option_map}
use Rattle.std.proofs.lemmas.List.{drop-drop}
use Rattle.dn_net.specs.declared.node.NodeDecl.{NodeDecl}
use Rattle.dn_net.specs.declared.node.Unit.{Unit as UnitPart}
use Rattle.dn_net.specs.Decode.{unit_at}
use Rattle.dn_kind.specs.declared.unit_kind.Record.{Record}
use Rattle.dn_kind.specs.Kind.{Meaning}
use Rattle.dn_kind.specs.Tables.{Held}
use Rattle.dn_tables.specs.Set.{first_words}
use Rattle.dn_image.proofs.Places.{node_at}
use Rattle.dn_audit.specs.declared.report.Shut.{Shut}
use Rattle.dn_audit.specs.Records.{has_gate, held_from, held_of_nodes, held_of_unit, shut_from, shut_of_nodes, shut_of_unit, shut_slot}

-- ONE SLOT

pub index_of : {X : Type 0} (xs : List X) (n : ℕ) (d y : X) → slice_get xs n ≡ Some y → slice_index_or xs n d ≡ y
index_of [] n d y e = cc
index_of (x ∷ xs) zero d y e = cc
index_of (x ∷ xs) (suc n) d y e = index_of xs n d y e

-- a slot that holds a record has none that is shut out
pub shut_some : (node w : ℕ) (ws : List ℕ) (records : ℕ → Option Record) (slot : ℕ) (r : Record) → records slot ≡ Some r → shut_slot node w ws records slot ≡ []
shut_some node w ws records slot r e =
    ap (λ (o : Option Record). if has_gate w ws slot && not (is_some o) then record { unit = node; slot = slot } ∷ [] else []) e ∙ by (has_gate w ws slot)
  where
    by : (b : Bool) → ◌≡◌ {A = List Shut} (if b && false then record { unit = node; slot = slot } ∷ [] else []) []
    by true = refl
    by false = refl

-- one that holds none has one where its gate is set
pub shut_none : (node w : ℕ) (ws : List ℕ) (records : ℕ → Option Record) (slot : ℕ) → records slot ≡ None → shut_slot node w ws records slot ≡ (if has_gate w ws slot then record { unit = node; slot = slot } ∷ [] else [])
shut_none node w ws records slot e =
    ap (λ (o : Option Record). if has_gate w ws slot && not (is_some o) then record { unit = node; slot = slot } ∷ [] else []) e ∙ by (has_gate w ws slot)
  where
    by : (b : Bool) → ◌≡◌ {A = List Shut} (if b && true then record { unit = node; slot = slot } ∷ [] else []) (if b then record { unit = node; slot = slot } ∷ [] else [])
    by true = refl
    by false = refl

-- SLOT BY SLOT

pub held_step : (records : ℕ → Option Record) (k n : ℕ) → k < n → held_from records k (n - k) ≡ (if is_some (records k) then 1 else 0) + held_from records (k + 1) (n - (k + 1))
held_step records k n l =
    let e : n - k ≡ suc (n - (k + 1)) = omega (arith, l) in
    let f : suc k ≡ k + 1 = omega arith in
    ap (held_from records k) e ∙ ap (λ m. (if is_some (records k) then 1 else 0) + held_from records m (n - (k + 1))) f

pub held_done : (records : ℕ → Option Record) (k n : ℕ) → n ≤ k → held_from records k (n - k) ≡ 0
held_done records k n l = let e : n - k ≡ 0 = omega (arith, l) in ap (held_from records k) e

pub shut_step : (node w : ℕ) (ws : List ℕ) (records : ℕ → Option Record) (k n : ℕ) → k < n → shut_from node w ws records k (n - k) ≡ shut_slot node w ws records k ++ shut_from node w ws records (k + 1) (n - (k + 1))
shut_step node w ws records k n l =
    let e : n - k ≡ suc (n - (k + 1)) = omega (arith, l) in
    let f : suc k ≡ k + 1 = omega arith in
    ap (shut_from node w ws records k) e ∙ ap (λ m. shut_slot node w ws records k ++ shut_from node w ws records m (n - (k + 1))) f

pub shut_done : (node w : ℕ) (ws : List ℕ) (records : ℕ → Option Record) (k n : ℕ) → n ≤ k → shut_from node w ws records k (n - k) ≡ []
shut_done node w ws records k n l = let e : n - k ≡ 0 = omega (arith, l) in ap (shut_from node w ws records k) e

-- a slot is one at most
pub one_most : (b : Bool) → (if b then 1 else 0) ≤ 1
one_most true = omega arith
one_most false = omega arith

-- what was found so far, and what is to come
pub held_more : (now next k n whole : ℕ) (records : ℕ → Option Record) → k < n → now + held_from records k (n - k) ≡ whole → next ≡ now + (if is_some (records k) then 1 else 0) → next + held_from records (k + 1) (n - (k + 1)) ≡ whole
held_more now next k n whole records l so e =
    let s = held_step records k n l in
    omega (arith, s, so, e)

pub shut_more : (node w : ℕ) (ws : List ℕ) (records : ℕ → Option Record) (k n : ℕ) (now next whole : List Shut) → k < n → now ++ shut_from node w ws records k (n - k) ≡ whole → next ≡ now ++ shut_slot node w ws records k → next ++ shut_from node w ws records (k + 1) (n - (k + 1)) ≡ whole
shut_more node w ws records k n now next whole l so e =
    ap (λ (xs : List Shut). xs ++ shut_from node w ws records (k + 1) (n - (k + 1))) e
    ∙ append_assoc now (shut_slot node w ws records k) (shut_from node w ws records (k + 1) (n - (k + 1)))
    ∙ ap (λ (xs : List Shut). now ++ xs) (sym (shut_step node w ws records k n l))
    ∙ so

-- NODE BY NODE

pub held_node : (h : Held) (net : List NodeDecl) (i : ℕ) (o : Option UnitPart) → option_map (λ d. d.unit) (slice_get net i) ≡ Some o → held_of_nodes h i (drop i net) ≡ held_of_unit (h i) o + held_of_nodes h (i + 1) (drop (i + 1) net)
held_node h net i o e =
    let n = node_at net i o e in
    let f : suc i ≡ i + 1 = omega arith in
    ap (held_of_nodes h i) n.rest
    ∙ ap (λ p. held_of_unit (h i) p + held_of_nodes h (suc i) (drop (i + 1) net)) n.unit
    ∙ ap (λ k. held_of_unit (h i) o + held_of_nodes h k (drop (i + 1) net)) f

first_of : (words : List (List ℕ)) (i : ℕ) → first_words (drop i words) ≡ slice_index_or words i []
first_of [] zero = refl
first_of [] (suc i) = refl
first_of (ws ∷ words) zero = refl
first_of (ws ∷ words) (suc i) = first_of words i

pub shut_node : (kinds : List Meaning) (h : Held) (net : List NodeDecl) (words : List (List ℕ)) (i : ℕ) (o : Option UnitPart) → option_map (λ d. d.unit) (slice_get net i) ≡ Some o → shut_of_nodes kinds h i (drop i net) (drop i words) ≡ shut_of_unit kinds i o (slice_index_or words i []) (h i) ++ shut_of_nodes kinds h (i + 1) (drop (i + 1) net) (drop (i + 1) words)
shut_node kinds h net words i o e =
    let n = node_at net i o e in
    let f : suc i ≡ i + 1 = omega arith in
    ap (λ l. shut_of_nodes kinds h i l (drop i words)) n.rest
    ∙ ap (λ p. shut_of_unit kinds i p (first_words (drop i words)) (h i) ++ shut_of_nodes kinds h (suc i) (drop (i + 1) net) (drop 1 (drop i words))) n.unit
    ∙ ap (λ ws. shut_of_unit kinds i o ws (h i) ++ shut_of_nodes kinds h (suc i) (drop (i + 1) net) (drop 1 (drop i words))) (first_of words i)
    ∙ ap (λ l. shut_of_unit kinds i o (slice_index_or words i []) (h i) ++ shut_of_nodes kinds h (suc i) (drop (i + 1) net) l) (drop-drop 1 i words)
    ∙ ap (λ k. shut_of_unit kinds i o (slice_index_or words i []) (h i) ++ shut_of_nodes kinds h k (drop (i + 1) net) (drop (i + 1) words)) f

-- a node that is there, by the unit that it is
unit_there : (net : List NodeDecl) (i : ℕ) → i < length net → option_map (λ d. d.unit) (slice_get net i) ≡ Some (unit_at net i)
unit_there [] i l = absurd (omega (arith, l))
unit_there (n ∷ net) zero l = refl
unit_there (n ∷ net) (suc i) l = unit_there net i (omega (arith, l))

-- what was found so far, and what is to come
pub held_next : (now next i whole : ℕ) (h : Held) (net : List NodeDecl) → i < length net → now + held_of_nodes h i (drop i net) ≡ whole → next ≡ now + held_of_unit (h i) (unit_at net i) → next + held_of_nodes h (i + 1) (drop (i + 1) net) ≡ whole
held_next now next i whole h net l so e =
    let s = held_node h net i (unit_at net i) (unit_there net i l) in
    omega (arith, s, so, e)

pub shut_next : (kinds : List Meaning) (h : Held) (net : List NodeDecl) (words : List (List ℕ)) (i : ℕ) (now next whole : List Shut) → i < length net → now ++ shut_of_nodes kinds h i (drop i net) (drop i words) ≡ whole → next ≡ now ++ shut_of_unit kinds i (unit_at net i) (slice_index_or words i []) (h i) → next ++ shut_of_nodes kinds h (i + 1) (drop (i + 1) net) (drop (i + 1) words) ≡ whole
shut_next kinds h net words i now next whole l so e =
    ap (λ (xs : List Shut). xs ++ shut_of_nodes kinds h (i + 1) (drop (i + 1) net) (drop (i + 1) words)) e
    ∙ append_assoc now (shut_of_unit kinds i (unit_at net i) (slice_index_or words i []) (h i)) (shut_of_nodes kinds h (i + 1) (drop (i + 1) net) (drop (i + 1) words))
    ∙ ap (λ (xs : List Shut). now ++ xs) (sym (shut_node kinds h net words i (unit_at net i) (unit_there net i l)))
    ∙ so
