use Rattle.std.proofs.Common.{◌≡◌, ◌∙◌, sym, arith, rules, map, length}
use Rattle.std.specs.Str.{bytes_eq}
use Rattle.std.proofs.lemmas.List.{length-map}
use Rattle.dn_kind.specs.Kind.{Meaning}
use Rattle.dn_kind.proofs.Named.{place_begun, place_here, place_next, place_past}
use Rattle.dn_kind.proofs.kinds.Kinds.find.Goals as goal

pub loop-number-init : goal.loop-number-init
loop-number-init g c =
    let kinds = map (λ k. (goal.UnitKind-dyn g (k.vtable, k.value)).meaning k.value) c.args.self.now.list.items in
    record { last = (search rules); same = place_begun (λ (k : Meaning). bytes_eq c.args.name.now k.name) kinds }

pub returns-then-has_name-clause-place : goal.returns-then-has_name-clause-place
returns-then-has_name-clause-place g c =
    let kinds = map (λ k. (goal.UnitKind-dyn g (k.vtable, k.value)).meaning k.value) c.args.self.now.list.items in
    sym (c.loop-number.invariant.same ∙ place_here (λ (k : Meaning). bytes_eq c.args.name.now k.name) kinds c.loop-number.number c.has_name.result c.has_name.ensures c.if-has_name.true)

pub loop-number-preserved : goal.loop-number-preserved
loop-number-preserved g c =
    let kinds = map (λ k. (goal.UnitKind-dyn g (k.vtable, k.value)).meaning k.value) c.args.self.now.list.items in
    record {
      last = c.loop-number.invariant.last;
      same = c.loop-number.invariant.same ∙ place_next (λ (k : Meaning). bytes_eq c.args.name.now k.name) kinds c.loop-number.number c.has_name.result c.has_name.ensures c.if-has_name.false;
    }

pub returns-clause-place : goal.returns-clause-place
returns-clause-place g c =
    let items = c.args.self.now.list.items in
    let kinds = map (λ k. (goal.UnitKind-dyn g (k.vtable, k.value)).meaning k.value) items in
    let last = c.loop-number.invariant.last in
    let count : length kinds ≡ length items = length-map items (λ k. (goal.UnitKind-dyn g (k.vtable, k.value)).meaning k.value) in
    sym (c.loop-number.invariant.same ∙ place_past (λ (k : Meaning). bytes_eq c.args.name.now k.name) kinds c.loop-number.number (omega (arith, last, count)))
