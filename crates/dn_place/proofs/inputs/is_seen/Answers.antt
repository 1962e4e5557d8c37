use Rattle.std.proofs.Common.{◌≡◌, ◌∙◌, ◌+◌, ◌/◌, ◌^◌, ℕ, IsTrue, inr, sym, subst, arith}
use Rattle.dn_place.specs.Sought.{IsKeptName}
use Rattle.dn_place.specs.Searches.{sought}
use Rattle.dn_place.proofs.inputs.is_seen.Goals as goal

pub is_free_at-requires-clause-within : goal.is_free_at-requires-clause-within
is_free_at-requires-clause-within g c = omega (arith, c.requires.within.ends, c.requires.search.ready.some)

pub returns-then-has_name : goal.returns-then-has_name
returns-then-has_name g c told =
    let s = sought (λ k. (goal.UnitKind-dyn g k).meaning k.1) c.args.search in
    let hop = c.args.hop in
    let page = c.args.translator.now.page in
    let w = c.has_name.ensures c.if-has_name.true in
    let k = c.requires.search.kept hop.x (record { node = hop.unit; base = w.0 }) w.1 in
    let plain : hop.x ≡ hop.x + 0 = omega arith in (
      0,
      c.requires.search.ready.some,
      inr (subst (λ (n : ℕ). IsKeptName s.net s.slots.held s.request (record { node = hop.unit; addr = n })) (k.0 ∙ plain) k.1),
      subst (λ (n : ℕ). IsTrue (s.slots.is_free hop.unit (n / 2 ^ page))) plain (sym c.is_free_at.ensures ∙ told),
    )
