use Rattle.std.proofs.Common.{◌≡◌, ◌∙◌, ◌+◌, ◌-◌, ◌/◌, ◌^◌, ℕ, IsTrue, inl, sym, subst, arith}
use Rattle.dn_interval.proofs.Membership.{in_from}
use Rattle.dn_flat.specs.Crowds.{IsAgentStop}
use Rattle.dn_place.specs.Searches.{sought}
use Rattle.dn_place.proofs.inputs.is_agent_stop.Goals as goal

pub is_free_at-requires-clause-within : goal.is_free_at-requires-clause-within
is_free_at-requires-clause-within g c =
    omega (arith, c.max-name.ensures, c.in-Some.ensures.to, c.requires.within.ends, c.requires.search.ready.some)

pub returns-in-Some : goal.returns-in-Some
returns-in-Some g c told =
    let s = sought (λ k. (goal.UnitKind-dyn g k).meaning k.1) c.args.search in
    let span = c.in-Some.span in
    let name : ℕ = c.max-name.result in
    let at : c.args.hop.x + (name - c.args.hop.x) ≡ name = omega (arith, c.max-name.ensures) in (
      name - c.args.hop.x,
      omega (arith, c.max-name.ensures, c.in-Some.ensures.to, c.requires.search.ready.some),
      inl (subst (λ n. IsAgentStop s.net (record { node = c.args.hop.unit; addr = n })) (sym at) (c.in-Some.ensures.stopped name (in_from span name (omega (arith, c.max-name.ensures)) (omega (arith, c.max-name.ensures, c.in-Some.ensures.from, span.ordered))))),
      subst (λ n. IsTrue (s.slots.is_free c.args.hop.unit (n / 2 ^ c.args.translator.now.page))) (sym at) (sym c.is_free_at.ensures ∙ told),
    )
