use Rattle.std.proofs.Common.{◌≡◌, ◌∙◌, ◌+◌, ◌-◌, ◌*◌, ◌≤◌, ap, sym, take, drop, length, List, ℕ, slice_get, Option, Some, None, IsSome, refl, arith}
use Rattle.std.specs.Option.{option_map}
use Rattle.std.proofs.lemmas.List.{take_rest, length-drop, drop-drop}
use Rattle.dn_net.specs.declared.node.NodeDecl.{NodeDecl}
use Rattle.dn_net.specs.declared.node.Unit.{Unit as UnitPart}
use Rattle.dn_net.specs.Decode.{unit_at, unit_of}
use Rattle.dn_kind.specs.Kind.{Meaning}
use Rattle.dn_kind.specs.Kinded.{kinds_of}
use Rattle.dn_tables.proofs.Fresh.{shape_there}
use Rattle.dn_image.specs.Bytes.{words_spelled}
use Rattle.dn_image.specs.Image.{word_count}
use Rattle.dn_image.specs.Reading.{nodes_size, image_words}
use Rattle.dn_image.proofs.Places.{IsUnitIn, words_within, whole_size, node_within, words_at_node}
use Rattle.dn_image.proofs.slots.unit_bytes.Given.{Over}
use Rattle.dn_image.proofs.slots.unit_bytes.Goals.{After-words_at}
use Rattle.dn_image.proofs.slots.unit_bytes.Goals as goal

-- the unit that the node is
record IsFound (net : List NodeDecl) (node : ℕ) : Type 0 where
  pub unit : UnitPart
  pub there : option_map (λ d. d.unit) (slice_get net node) ≡ Some (Some unit)
  pub is : unit_at net node ≡ Some unit

found : (net : List NodeDecl) (node : ℕ) → IsSome (unit_at net node) → IsFound net node
found net node some = by (slice_get net node) refl some
  where
    of : (d : NodeDecl) → slice_get net node ≡ Some d → (o : Option UnitPart) → d.unit ≡ o → IsSome o → IsFound net node
    of d e None f some = cc
    of d e (Some u) f some = record { unit = u; there = ap (option_map (λ d. d.unit)) e ∙ ap (λ o. Some o) f; is = ap unit_of e ∙ f }

    by : (d : Option NodeDecl) → slice_get net node ≡ d → IsSome (unit_of d) → IsFound net node
    by None e some = cc
    by (Some d) e some = of d e d.unit refl some

-- the unit, as it stands in the image
unit_in : (g : Over) (c : After-words_at g) (u : UnitPart) → option_map (λ d. d.unit) (slice_get c.args.on.net.now c.args.node) ≡ Some (Some u) → IsUnitIn c.args.on.net.now (kinds_of (λ k. (goal.UnitKind-dyn g k).meaning k.1) c.args.on.kinds.now) c.args.bytes.now c.args.node u
unit_in g c u there =
    let kinds : List Meaning = kinds_of (λ k. (goal.UnitKind-dyn g k).meaning k.1) c.args.on.kinds.now in
    record {
      there = there;
      shaped = shape_there kinds c.args.on.net.now c.args.node (Some u) c.requires.on.shaped there;
      size = whole_size c.args.on.net.now kinds c.args.bytes.now c.requires.whole;
      within = node_within kinds c.args.on.net.now c.args.node (Some u) there;
    }

-- its words are within the bytes
room_in : (g : Over) (c : After-words_at g) → c.words_at.result + 8 * word_count (kinds_of (λ k. (goal.UnitKind-dyn g k).meaning k.1) c.args.on.kinds.now) (unit_at c.args.on.net.now c.args.node) ≤ length c.args.bytes.now
room_in g c =
    let kinds : List Meaning = kinds_of (λ k. (goal.UnitKind-dyn g k).meaning k.1) c.args.on.kinds.now in
    let f = found c.args.on.net.now c.args.node c.requires.unit in
    let room = words_within c.args.on.net.now kinds c.args.bytes.now c.args.node f.unit c.words_at.result (unit_in g c f.unit f.there) c.words_at.ensures in
    rw f.is room

pub slice_bounds-result-start : goal.slice_bounds-result-start
slice_bounds-result-start g c = let room = room_in g (goal.at.slice_bounds-result-start g c).After-words_at in omega (arith, room)

pub slice_bounds-result-count : goal.slice_bounds-result-count
slice_bounds-result-count g c = let room = room_in g (goal.at.slice_bounds-result-count g c).After-words_at in omega (arith, room)

pub returns-clause-room : goal.returns-clause-room
returns-clause-room g c =
    let room = room_in g (goal.at.returns-clause-room g c).After-words_at in
    let d = length-drop c.words_at.result c.args.bytes.now in
    let e = ap length (take_rest c.args.bytes.now c.words_at.result) in
    omega (arith, room, d, e)

pub returns-clause-words : goal.returns-clause-words
returns-clause-words g c =
    let kinds : List Meaning = kinds_of (λ k. (goal.UnitKind-dyn g k).meaning k.1) c.args.on.kinds.now in
    let f = found c.args.on.net.now c.args.node c.requires.unit in
    let at = c.words_at.ensures in
    let n : ℕ = nodes_size kinds (take c.args.node c.args.on.net.now) in
    let place : 8 + n + 8 ≡ c.words_at.result = omega (arith, at) in
    let behind : drop 8 (drop n (drop 8 c.args.bytes.now)) ≡ take (length c.args.bytes.now - c.words_at.result) (drop c.words_at.result c.args.bytes.now) =
    ap (drop 8) (drop-drop n 8 c.args.bytes.now) ∙ drop-drop 8 (8 + n) c.args.bytes.now ∙ ap (λ k. drop k c.args.bytes.now) place ∙ sym (take_rest c.args.bytes.now c.words_at.result) in
    let spelled = words_at_node kinds c.args.on.net.now c.args.node (Some f.unit) (drop 8 c.args.bytes.now) f.there in
    rw (f.is, sym behind) spelled
