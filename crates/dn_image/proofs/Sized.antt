-- The words of an image are as many as the units ask for, also where those of some slots are made 0.
use Rattle.std.proofs.Common.{◌≡◌, ℕ, zero, suc, ◌+◌, ◌*◌, ◌≤◌, Bool, if◌then◌else◌, List, ◌++◌, length, take, drop, replicate, slice_get, Option, Some, None, refl, sym, ap, ◌∙◌, arith, length-drop, length-append, suc-mul}
use Rattle.std.specs.Option.{option_map}
use Rattle.std.proofs.lemmas.Option.{same_Some}
use Rattle.dn_net.specs.declared.node.NodeDecl.{NodeDecl}
use Rattle.dn_net.specs.declared.node.Unit.{Unit as UnitPart}
use Rattle.dn_net.specs.Decode.{unit_at, unit_of}
use Rattle.dn_kind.specs.Kind.{Meaning}
use Rattle.dn_kind.specs.Tables.{AreTables}
use Rattle.dn_kind.specs.Cleared.{kept_slots, kept_of_kind, kept_words, kept_tables}
use Rattle.dn_kind.proofs.Allowed.{tables_kept, front_sized}
use Rattle.dn_tables.specs.Set.{width_by}
use Rattle.dn_image.specs.Image.{word_count}
use Rattle.dn_image.specs.Reading.{node_words, nodes_size, image_words}
use Rattle.dn_image.proofs.Numbers.{length_spelled}
use Rattle.dn_image.proofs.Places.{words_at_node}

slots_sized : (kept : ℕ → Bool) (w first count : ℕ) (ws : List ℕ) → length ws ≡ count * w → length (kept_slots kept w first count ws) ≡ count * w
slots_sized kept w first zero ws e = e
slots_sized kept w first (suc count) ws e =
    let m : suc count * w ≡ count * w + w = suc-mul count w in
    let enough : w ≤ length ws = omega arith in
    let left : length (drop w ws) ≡ count * w = omega (arith, length-drop w ws) in
    let start : List ℕ = if kept first then take w ws else replicate w 0 in
    let rest : List ℕ = kept_slots kept w (suc first) count (drop w ws) in
    let both : length (start ++ rest) ≡ length start + length rest = length-append start rest in
    let one : length start ≡ w = front_sized w ws (kept first) enough in
    let others : length rest ≡ count * w = slots_sized kept w (suc first) count (drop w ws) left in
    both ∙ ap (λ n. n + length rest) one ∙ ap (λ n. w + n) others ∙ omega arith

words_sized : (net : List NodeDecl) (kinds : List Meaning) (kept : ℕ → Bool) (node m : ℕ) (u : UnitPart) (kind : Meaning) (v : List ℕ) → m ≡ node → unit_at net node ≡ Some u → slice_get kinds u.kind ≡ Some kind → length v ≡ u.slots * kind.words → length (kept_words kinds kept (unit_at net m) v) ≡ u.slots * kind.words
words_sized net kinds kept node m u kind v em eu ek size =
    ap (λ n. length (kept_words kinds kept (unit_at net n) v)) em
    ∙ ap (λ o. length (kept_words kinds kept o v)) eu
    ∙ ap (λ k. length (kept_of_kind kept u k v)) ek
    ∙ slots_sized kept kind.words 0 u.slots v size

pub kept_sized : (net : List NodeDecl) (kinds : List Meaning) (kept : ℕ → ℕ → Bool) (words : List (List ℕ)) → AreTables net kinds words → AreTables net kinds (kept_tables net kinds kept 0 words)
kept_sized net kinds kept words sized = record {
  sized = λ node u kind ws eu ek ew. go node u kind ws eu ek (slice_get words node) refl (sym (tables_kept net kinds kept 0 node words) ∙ ew);
}
  where
    go : (node : ℕ) (u : UnitPart) (kind : Meaning) (ws : List ℕ) → unit_at net node ≡ Some u → slice_get kinds u.kind ≡ Some kind → (o : Option (List ℕ)) → slice_get words node ≡ o → option_map (λ ws. kept_words kinds (kept (0 + node)) (unit_at net (0 + node)) ws) o ≡ Some ws → length ws ≡ u.slots * kind.words
    go node u kind ws eu ek None ev e = cc
    go node u kind ws eu ek (Some v) ev e =
        let zero_node : 0 + node ≡ node = omega arith in
        ap length (sym (same_Some (kept_words kinds (kept (0 + node)) (unit_at net (0 + node)) v) ws e))
        ∙ words_sized net kinds (kept (0 + node)) node (0 + node) u kind v zero_node eu ek (sized.sized node u kind v eu ek ev)

-- the words of bytes are as many as the units ask for
node_sized : (kinds : List Meaning) (u : UnitPart) (kind : Meaning) (bytes : List ℕ) → slice_get kinds u.kind ≡ Some kind → length (node_words kinds (Some u) bytes) ≡ u.slots * kind.words
node_sized kinds u kind bytes ek = length_spelled (word_count kinds (Some u)) (drop 8 bytes) ∙ ap (λ k. u.slots * width_by k) ek

pub image_sized : (net : List NodeDecl) (kinds : List Meaning) (bytes : List ℕ) → AreTables net kinds (image_words net kinds bytes)
image_sized net kinds bytes = record { sized = λ node u kind ws eu ek ew. go node u kind ws ek ew (slice_get net node) refl eu }
  where
    go : (node : ℕ) (u : UnitPart) (kind : Meaning) (ws : List ℕ) → slice_get kinds u.kind ≡ Some kind → slice_get (image_words net kinds bytes) node ≡ Some ws → (p : Option NodeDecl) → slice_get net node ≡ p → unit_of p ≡ Some u → length ws ≡ u.slots * kind.words
    go node u kind ws ek ew None at eu = cc
    go node u kind ws ek ew (Some d) at eu =
        let there : option_map (λ d. d.unit) (slice_get net node) ≡ Some (Some u) = ap (option_map (λ d. d.unit)) at ∙ ap Some eu in
        let words : List ℕ = node_words kinds (Some u) (drop (nodes_size kinds (take node net)) (drop 8 bytes)) in
        let same : ws ≡ words = same_Some ws words (sym ew ∙ words_at_node kinds net node (Some u) (drop 8 bytes) there) in
        ap length same ∙ node_sized kinds u kind (drop (nodes_size kinds (take node net)) (drop 8 bytes)) ek
