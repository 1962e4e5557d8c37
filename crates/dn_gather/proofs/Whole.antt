-- Both pieces together show what is to be added exactly where each does by itself, for any relations.
use Rattle.std.proofs.Common.{◌≡◌, ℕ, ◌⊎◌, ◌↔◌, inl, inr, List, slice_get, None, IsTrue, ap}
use Rattle.dn_net.specs.declared.node.Name.{Name}
use Rattle.dn_net.specs.declared.node.NodeDecl.{NodeDecl}
use Rattle.dn_net.specs.Decode.{is_agent_at}
use Rattle.dn_net.specs.Legal.{IsLegalNet}
use Rattle.dn_kind.specs.declared.rights.Access.{Access}
use Rattle.dn_kind.specs.Tables.{AreHeld, Extends, Held, ResolvesUnder, allowing, record_allowing}
use Rattle.dn_kind.proofs.Ways.{allowing_held, allowing_more, more_records_keep_names}
use Rattle.dn_gather.specs.Parts.{AreParts, LeadsInto}
use Rattle.dn_gather.proofs.Apart.{empty_slot_gives_nothing, other_way, parts_allowing, pieces_give_their_own}

abbrev pub Showing : List NodeDecl → Held → Held → (Access → Name → Name → Type 0) → Type 0
Showing net h h' adds = (access : Access) (x y : Name) → IsTrue (is_agent_at (slice_get net x.node)) →
    ResolvesUnder net (allowing access h') x y ↔ (ResolvesUnder net (allowing access h) x y ⊎ adds access x y)

pub record IsPart (net : List NodeDecl) (unit : ℕ) (h with_it other : Held) (adds : Access → Name → Name → Type 0) : Type 0 where
  pub more : Extends h with_it
  pub place : (access : Access) (x y : Name) → adds access x y → (slot : ℕ) × LeadsInto net x unit slot × (other unit slot ≡ None)

nothing_allowed : (h : Held) (access : Access) (n q : ℕ) → h n q ≡ None → allowing access h n q ≡ None
nothing_allowed h access n q e = ap (record_allowing access) e

one_shows : (net : List NodeDecl) (unit : ℕ) (h ha hb all : Held) (one two : Access → Name → Name → Type 0) → IsLegalNet net → AreHeld net all → AreParts unit ha hb all → IsPart net unit h ha hb one → IsPart net unit h hb ha two → Showing net h all (λ access x y. one access x y ⊎ two access x y) → Showing net h ha one
one_shows net unit h ha hb all one two legal held parts pa pb whole access x y agent = (there, back)
  where
    there : ResolvesUnder net (allowing access ha) x y → ResolvesUnder net (allowing access h) x y ⊎ one access x y
    there r = by ((whole access x y agent).0 (more_records_keep_names net (allowing access ha) (allowing access all) (allowing_more ha all access parts.first_stands) x y r))
      where
        by : ResolvesUnder net (allowing access h) x y ⊎ (one access x y ⊎ two access x y) → ResolvesUnder net (allowing access h) x y ⊎ one access x y
        by (inl k) = inl k
        by (inr (inl a)) = inr a
        by (inr (inr b)) =
            let p = pb.place access x y b in
            absurd (empty_slot_gives_nothing net (allowing access ha) legal x y unit p.0 p.1 (nothing_allowed ha access unit p.0 p.2) r)

    back : ResolvesUnder net (allowing access h) x y ⊎ one access x y → ResolvesUnder net (allowing access ha) x y
    back (inl r) = more_records_keep_names net (allowing access h) (allowing access ha) (allowing_more h ha access pa.more) x y r
    back (inr a) = pick (own.0 ((whole access x y agent).1 (inr (inl a))))
      where
        own : ResolvesUnder net (allowing access all) x y ↔ (ResolvesUnder net (allowing access ha) x y ⊎ ResolvesUnder net (allowing access hb) x y)
        own = pieces_give_their_own net unit (allowing access ha) (allowing access hb) (allowing access all) legal (allowing_held net all access held) (parts_allowing unit ha hb all access parts) x y

        pick : ResolvesUnder net (allowing access ha) x y ⊎ ResolvesUnder net (allowing access hb) x y → ResolvesUnder net (allowing access ha) x y
        pick (inl r) = r
        pick (inr r) = let p = pa.place access x y a in absurd (empty_slot_gives_nothing net (allowing access hb) legal x y unit p.0 p.1 (nothing_allowed hb access unit p.0 p.2) r)

pub whole_shows : (net : List NodeDecl) (unit : ℕ) (h ha hb all : Held) (one two : Access → Name → Name → Type 0) → IsLegalNet net → AreHeld net all → AreParts unit ha hb all → IsPart net unit h ha hb one → IsPart net unit h hb ha two → Showing net h all (λ access x y. one access x y ⊎ two access x y) ↔ (Showing net h ha one × Showing net h hb two)
whole_shows net unit h ha hb all one two legal held parts pa pb = (there, back)
  where
    there : Showing net h all (λ access x y. one access x y ⊎ two access x y) → Showing net h ha one × Showing net h hb two
    there whole = (one_shows net unit h ha hb all one two legal held parts pa pb whole, one_shows net unit h hb ha all two one legal held (other_way parts) pb pa turned)
      where
        turned : Showing net h all (λ access x y. two access x y ⊎ one access x y)
        turned access x y agent = ((λ r. left ((whole access x y agent).0 r)), (λ r. (whole access x y agent).1 (right r)))
          where
            left : ResolvesUnder net (allowing access h) x y ⊎ (one access x y ⊎ two access x y) → ResolvesUnder net (allowing access h) x y ⊎ (two access x y ⊎ one access x y)
            left (inl r) = inl r
            left (inr (inl a)) = inr (inr a)
            left (inr (inr b)) = inr (inl b)

            right : ResolvesUnder net (allowing access h) x y ⊎ (two access x y ⊎ one access x y) → ResolvesUnder net (allowing access h) x y ⊎ (one access x y ⊎ two access x y)
            right (inl r) = inl r
            right (inr (inl b)) = inr (inr b)
            right (inr (inr a)) = inr (inl a)

    back : Showing net h ha one × Showing net h hb two → Showing net h all (λ access x y. one access x y ⊎ two access x y)
    back each access x y agent = (out, in_)
      where
        own : ResolvesUnder net (allowing access all) x y ↔ (ResolvesUnder net (allowing access ha) x y ⊎ ResolvesUnder net (allowing access hb) x y)
        own = pieces_give_their_own net unit (allowing access ha) (allowing access hb) (allowing access all) legal (allowing_held net all access held) (parts_allowing unit ha hb all access parts) x y

        first : ResolvesUnder net (allowing access h) x y ⊎ one access x y → ResolvesUnder net (allowing access h) x y ⊎ (one access x y ⊎ two access x y)
        first (inl r) = inl r
        first (inr a) = inr (inl a)

        second : ResolvesUnder net (allowing access h) x y ⊎ two access x y → ResolvesUnder net (allowing access h) x y ⊎ (one access x y ⊎ two access x y)
        second (inl r) = inl r
        second (inr b) = inr (inr b)

        by : ResolvesUnder net (allowing access ha) x y ⊎ ResolvesUnder net (allowing access hb) x y → ResolvesUnder net (allowing access h) x y ⊎ (one access x y ⊎ two access x y)
        by (inl r) = first ((each.0 access x y agent).0 r)
        by (inr r) = second ((each.1 access x y agent).0 r)

        out : ResolvesUnder net (allowing access all) x y → ResolvesUnder net (allowing access h) x y ⊎ (one access x y ⊎ two access x y)
        out r = by (own.0 r)

        in_ : ResolvesUnder net (allowing access h) x y ⊎ (one access x y ⊎ two access x y) → ResolvesUnder net (allowing access all) x y
        in_ (inl r) = own.1 (inl ((each.0 access x y agent).1 (inl r)))
        in_ (inr (inl a)) = own.1 (inl ((each.0 access x y agent).1 (inr a)))
        in_ (inr (inr b)) = own.1 (inr ((each.1 access x y agent).1 (inr b)))
