-- A loop over the units of a net, from the last to the first.
use Rattle.std.proofs.Common.{◌≡◌, ◌∙◌, ap, sym, refl, arith, ℕ, zero, suc, ◌-◌, ◌<◌, ◌≤◌, max, List, [], ◌∷◌, length, drop}
use Rattle.dn_net.specs.declared.node.NodeDecl.{NodeDecl}
use Rattle.dn_net.specs.Decode.{unit_at}
use Rattle.dn_session.specs.Room.{most_slots, unit_most}

at_place : (net : List NodeDecl) (size n : ℕ) → n < length net → most_slots (drop n net) size ≡ max (unit_most size (unit_at net n)) (most_slots (drop (suc n) net) size)
at_place [] size n l = absurd (omega (arith, l))
at_place (m ∷ ms) size zero l = refl
at_place (m ∷ ms) size (suc n) l = at_place ms size n (omega (arith, l))

-- one node more
pub one_more : (net : List NodeDecl) (size node most x next : ℕ) → zero < node → node ≤ length net → most ≡ most_slots (drop node net) size → x ≡ unit_most size (unit_at net (node - 1)) → next ≡ max x most → next ≡ most_slots (drop (node - 1) net) size
one_more net size node most x next some there rest is next_is =
    let e : suc (node - 1) ≡ node = omega (arith, some) in
    next_is ∙ (λ i. max (is i) (rest i)) ∙ ap (λ k. max (unit_most size (unit_at net (node - 1))) (most_slots (drop k net) size)) (sym e) ∙ sym (at_place net size (node - 1) (omega (arith, there, e)))
