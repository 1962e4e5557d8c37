-- Records that lie between others bring each name to what the one or the other bring it to.
use Rattle.std.proofs.Common.{◌≡◌, ◌⊎◌, ◌↔◌, inl, inr, List, [], ◌∷◌, refl, sym, subst}
use Rattle.dn_net.specs.declared.node.Name.{Name}
use Rattle.dn_net.specs.declared.node.NodeDecl.{NodeDecl}
use Rattle.dn_net.specs.Chain.{Member}
use Rattle.dn_net.specs.Decode.{is_accepted}
use Rattle.dn_net.specs.Legal.{IsLegalNet}
use Rattle.dn_net.proofs.Resolution.{end_names_are_ends}
use Rattle.dn_kind.specs.Tables.{Extends, Held, ResolvesUnder, allowing, resolved_names_under, step_limit_under, steps_under}
use Rattle.dn_kind.proofs.Ways.{allowing_more, more_records_keep_names}
use Rattle.dn_book.specs.Between.{BetweenIsOneOrOther}
use Rattle.dn_book.proofs.Passed.{chain_under_fewer}

-- what a name resolves to under more records it resolves to under fewer that bring it to something
pub resolves_under_fewer : (net : List NodeDecl) (few more : Held) → IsLegalNet net → Extends few more → (x y z : Name) → ResolvesUnder net few x z → ResolvesUnder net more x y → ResolvesUnder net few x y
resolves_under_fewer net few more legal ex x y z r s = (s.0, (s.1.0, s.1.1, chain_under_fewer net few more legal ex x y z s.0 r.0 r.1.0 s.1.0 r.1.2 s.1.2))

between : (net : List NodeDecl) (less h more : Held) → IsLegalNet net → Extends less h → Extends h more → (x : Name) → ((y : Name) → ResolvesUnder net h x y ↔ ResolvesUnder net less x y) ⊎ ((y : Name) → ResolvesUnder net h x y ↔ ResolvesUnder net more x y)
between net less h more legal low high x = by (resolved_names_under net h x) refl
  where
    listed : (y : Name) → Member y (resolved_names_under net h x) ↔ ResolvesUnder net h x y
    listed y = end_names_are_ends (steps_under net h) (is_accepted net) step_limit_under x y

    by : (names : List Name) → resolved_names_under net h x ≡ names → ((y : Name) → ResolvesUnder net h x y ↔ ResolvesUnder net less x y) ⊎ ((y : Name) → ResolvesUnder net h x y ↔ ResolvesUnder net more x y)
    by [] e = inl (λ y. ((λ r. absurd (subst (Member y) e ((listed y).1 r))), (λ r. more_records_keep_names net less h low x y r)))
    by (z ∷ zs) e = inr (λ y. ((λ r. more_records_keep_names net h more high x y r), (λ r. resolves_under_fewer net h more legal high x y z ((listed z).0 (subst (Member z) (sym e) (inl refl))) r)))

pub between_is_one_or_other : BetweenIsOneOrOther
between_is_one_or_other net less h more legal low high access x =
    between net (allowing access less) (allowing access h) (allowing access more) legal (allowing_more less h access low) (allowing_more h more access high) x
