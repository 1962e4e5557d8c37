-- The rows of shared addresses of nodes, one node after another.
use Rattle.std.proofs.Common.{◌≡◌, ℕ, zero, suc, ◌+◌, ◌<◌, ◌≤◌, ◌⊎◌, inl, inr, Bool, true, false, ◌==◌, if◌then◌else◌, List, [], ◌∷◌, ◌++◌, length, append-nil, refl, sym, ap, ◌∙◌, subst, arith, eqb-true}
use Rattle.std.proofs.lemmas.Bool.{eq-eqb}
use Rattle.std.proofs.lemmas.List.Elements.{filter-append}
use Rattle.dn_audit.specs.declared.claims.Claim.{Claim}
use Rattle.dn_audit.specs.declared.report.Shared.{Shared}
use Rattle.dn_audit.specs.Claims.{claimed}
use Rattle.dn_audit.specs.Shared.{AreOfNode, AreShared, AreSharedBy, AreSharedIn, NodesAscend, rows_in}

-- each row is of a node before this one
abbrev pub AreBefore : ℕ → List Shared → Type 0
AreBefore node [] = Unit {0}
AreBefore node (r ∷ rest) = (r.node < node) × AreBefore node rest

-- the rows of the nodes before this one
pub record AreJoined (has : ℕ → ℕ → ℕ → Bool) (node : ℕ) (rows : List Shared) : Type 0 where
  pub ascend : NodesAscend 0 rows
  pub before : AreBefore node rows
  pub each : (m : ℕ) → m < node → AreShared (has m) (rows_in m rows)

pub same_node : (n m : ℕ) → n ≡ m → (n == m) ≡ true
same_node n m e = eq-eqb n m e

pub other_node : (n m : ℕ) → (n ≡ m → ⊥) → (n == m) ≡ false
other_node n m ne = by (n == m) refl
  where
    by : (b : Bool) → (n == m) ≡ b → (n == m) ≡ false
    by true e = absurd (ne (eqb-true n m e))
    by false e = e

-- rows of one node, asked for it and for another
own_rows : (node : ℕ) (rows : List Shared) → AreOfNode node rows → rows_in node rows ≡ rows
own_rows node [] a = refl
own_rows node (r ∷ rows) a =
    let ih : rows_in node rows ≡ rows = own_rows node rows a.1 in
    ap (λ (b : Bool). if b then r ∷ rows_in node rows else rows_in node rows) (same_node r.node node a.0) ∙ ap (λ (l : List Shared). r ∷ l) ih

other_rows : (node m : ℕ) (rows : List Shared) → (node ≡ m → ⊥) → AreOfNode node rows → rows_in m rows ≡ []
other_rows node m [] ne a = refl
other_rows node m (r ∷ rows) ne a =
    ap (λ (b : Bool). if b then r ∷ rows_in m rows else rows_in m rows) (other_node r.node m (λ e. ne (sym a.0 ∙ e))) ∙ other_rows node m rows ne a.1

-- rows of nodes before one have none of it
none_before : (node m : ℕ) (rows : List Shared) → node ≤ m → AreBefore node rows → rows_in m rows ≡ []
none_before node m [] l a = refl
none_before node m (r ∷ rows) l a =
    let k = a.0 in
    ap (λ (b : Bool). if b then r ∷ rows_in m rows else rows_in m rows) (other_node r.node m (λ e. absurd (omega (arith, e, k, l)))) ∙ none_before node m rows l a.1

-- the nodes of rows of one node, and of rows of it behind others
own_ascend : (from node : ℕ) (rows : List Shared) → from ≤ node → AreOfNode node rows → NodesAscend from rows
own_ascend from node [] l a = tt
own_ascend from node (r ∷ rows) l a =
    let e = a.0 in
    (omega (arith, e, l), own_ascend r.node node rows (omega (arith, e)) a.1)

joined_ascend : (from node : ℕ) (xs ys : List Shared) → from ≤ node → NodesAscend from xs → AreBefore node xs → AreOfNode node ys → NodesAscend from (xs ++ ys)
joined_ascend from node [] ys l n b a = own_ascend from node ys l a
joined_ascend from node (x ∷ xs) ys l n b a = (n.0, joined_ascend x.node node xs ys (let k = b.0 in omega (arith, k)) n.1 b.1 a)

joined_before : (node : ℕ) (xs ys : List Shared) → AreBefore node xs → AreOfNode node ys → AreBefore (node + 1) (xs ++ ys)
joined_before node [] [] b a = tt
joined_before node [] (y ∷ ys) b a = (let e = a.0 in omega (arith, e), joined_before node [] ys tt a.1)
joined_before node (x ∷ xs) ys b a = (let k = b.0 in omega (arith, k), joined_before node xs ys b.1 a)

-- the rows of a node more
pub joined_more : (has : ℕ → ℕ → ℕ → Bool) (node : ℕ) (xs ys : List Shared) → AreJoined has node xs → AreSharedIn node (has node) ys → AreJoined has (node + 1) (xs ++ ys)
joined_more has node xs ys j y = record {
  ascend = joined_ascend 0 node xs ys (omega arith) j.ascend j.before y.there;
  before = joined_before node xs ys j.before y.there;
  each = λ m l. subst (AreShared (has m)) (sym (filter-append (λ (r : Shared). r.node == m) xs ys)) (by m (cases m node l));
}
  where
    cases : (a b : ℕ) → a < b + 1 → (a < b) ⊎ (b ≡ a)
    cases a b l = grind arith

    by : (m : ℕ) → (m < node) ⊎ (node ≡ m) → AreShared (has m) (rows_in m xs ++ rows_in m ys)
    by m (inl l) =
        let none : rows_in m ys ≡ [] = other_rows node m ys (λ e. absurd (omega (arith, e, l))) y.there in
        subst (λ (zs : List Shared). AreShared (has m) zs) (sym (ap (λ (zs : List Shared). rows_in m xs ++ zs) none ∙ append-nil (rows_in m xs))) (j.each m l)
    by m (inr e) =
        subst (λ n. AreShared (has n) (rows_in n xs ++ rows_in n ys)) e
        (subst (λ (zs : List Shared). AreShared (has node) zs) (sym (ap (λ (zs : List Shared). zs ++ rows_in node ys) (none_before node node xs (omega arith) j.before) ∙ own_rows node ys y.there)) y.shared)

-- of nodes that are none, where no agent has any of their addresses, there are no rows
nothing_shared : (has : ℕ → ℕ → Bool) → ((agent a : ℕ) → has agent a ≡ false) → AreShared has []
nothing_shared has none = record {
  apart = tt;
  exact = λ a agent l. ((λ s. absurd s), (λ s. let c : true ≡ false = sym s.0 ∙ none agent a in absurd (cc_false c)));
}
  where
    cc_false : true ≡ false → ⊥
    cc_false c = cc

pub joined_all : (has : ℕ → ℕ → ℕ → Bool) (node : ℕ) (rows : List Shared) → AreJoined has node rows → ((m agent a : ℕ) → node ≤ m → has m agent a ≡ false) → AreSharedBy has rows
joined_all has node rows j none = record { ascend = j.ascend; each = λ m. by m (cases m node) }
  where
    cases : (a b : ℕ) → (a < b) ⊎ (b ≤ a)
    cases a b = grind arith

    by : (m : ℕ) → (m < node) ⊎ (node ≤ m) → AreShared (has m) (rows_in m rows)
    by m (inl l) = j.each m l
    by m (inr l) = subst (λ (zs : List Shared). AreShared (has m) zs) (sym (none_before node m rows l j.before)) (nothing_shared (has m) (λ agent a. none m agent a l))

-- nobody has an address of a node past those that claims are kept for
pub unclaimed : (claims : List (List Claim)) (node agent a : ℕ) → length claims ≤ node → claimed claims node agent a ≡ false
unclaimed [] node agent a l = refl
unclaimed (c ∷ cs) zero agent a l = absurd (omega (arith, l))
unclaimed (c ∷ cs) (suc node) agent a l = unclaimed cs node agent a (omega (arith, l))
