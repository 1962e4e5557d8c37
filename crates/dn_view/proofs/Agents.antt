-- What holds of every agent: node by node of a list, and by the lists of agents that can be touched.
use Rattle.std.proofs.Common.{◌≡◌, ℕ, ◌+◌, ◌<◌, ◌≤◌, ◌⊎◌, ◌↔◌, inl, inr, Bool, true, false, nat_eq, List, length, get_or, slice_get, IsTrue, refl, sym, ◌∙◌, subst, arith, eqb-true, eq-eqb}
use Rattle.std.proofs.lemmas.Bool.{false≢true}
use Rattle.std.proofs.lemmas.List.{get_or_default}
use Rattle.dn_base.proofs.Members.{any_member, member_any, member_get_or, member_of_all}
use Rattle.dn_net.specs.declared.node.NodeDecl.{NodeDecl}
use Rattle.dn_net.specs.Decode.{is_agent_at}
use Rattle.dn_flat.specs.Levels.{is_among}

-- what holds of each place of a list holds of each node that is listed
pub each_among : (P : ℕ → Type 0) (nodes : List ℕ) (i : ℕ) → length nodes ≤ i → ((k : ℕ) → k < i → P (get_or nodes k 0)) → (m : ℕ) → is_among m nodes ≡ true → P m
each_among P nodes i over so_far m there =
    let f = any_member (λ other. nat_eq other m) nodes there in
    subst P (eqb-true f.0 m f.2) (member_of_all P nodes f.0 (λ k d l. subst P (get_or_default nodes k 0 d l) (so_far k (omega (arith, l, over)))) f.1)

-- one place more
pub place_more : {X : Type 0} (P : X → Type 0) (xs : List X) (d : X) (i : ℕ) → ((k : ℕ) → k < i → P (get_or xs k d)) → P (get_or xs i d) → (k : ℕ) → k < i + 1 → P (get_or xs k d)
place_more P xs d i so_far this k l = by (cases k i l)
  where
    cases : (m n : ℕ) → m < n + 1 → (m < n) ⊎ (n ≡ m)
    cases m n l = grind arith

    by : (k < i) ⊎ (i ≡ k) → P (get_or xs k d)
    by (inl less) = so_far k less
    by (inr same) = subst (λ n. P (get_or xs n d)) same this

module _ (net : List NodeDecl) (P : ℕ → Type 0) where
  -- the node is no agent, or it holds of it
  abbrev pub Agent : ℕ → Type 0
  Agent node = IsTrue (is_agent_at (slice_get net node)) → P node

  -- no agent
  pub no_agent : (node : ℕ) → is_agent_at (slice_get net node) ≡ false → (true ≡ true) ↔ Agent node
  no_agent node e = ((λ t a. absurd (false≢true (sym e ∙ a))), (λ f. refl))

  -- an agent
  pub an_agent : {Q : Type 0} (node : ℕ) → is_agent_at (slice_get net node) ≡ true → Q ↔ P node → Q ↔ Agent node
  an_agent node e f = ((λ x a. f.0 x), (λ k. f.1 (k e)))

  -- one node of which it does not hold is enough
  pub not_all : (node : ℕ) (b : Bool) → b ≡ false → ((b ≡ true) ↔ Agent node) → (false ≡ true) ↔ ((m : ℕ) → Agent m)
  not_all node b e is = ((λ f. absurd (false≢true f)), (λ all. absurd (false≢true (sym e ∙ is.1 (all node)))))

  -- all nodes of a list are no agents, or it holds of them
  abbrev pub Among : List ℕ → Type 0
  Among nodes = (m : ℕ) → is_among m nodes ≡ true → Agent m

  -- one of a list is enough
  pub not_among : (nodes : List ℕ) (b : Bool) → b ≡ false → ((b ≡ true) ↔ Among nodes) → (false ≡ true) ↔ ((m : ℕ) → Agent m)
  not_among nodes b e is = ((λ f. absurd (false≢true f)), (λ all. absurd (false≢true (sym e ∙ is.1 (λ m _. all m)))))

  -- and so is one node for a list with it
  pub not_listed : (nodes : List ℕ) (i : ℕ) (b : Bool) → i < length nodes → b ≡ false → ((b ≡ true) ↔ Agent (get_or nodes i 0)) → (false ≡ true) ↔ Among nodes
  not_listed nodes i b l e is = ((λ f. absurd (false≢true f)), (λ all. absurd (false≢true (sym e ∙ is.1 (all (get_or nodes i 0) (member_any (λ other. nat_eq other (get_or nodes i 0)) nodes (get_or nodes i 0) (member_get_or nodes i 0 l) (eq-eqb (get_or nodes i 0) (get_or nodes i 0) refl)))))))

  -- one node of a list more
  pub one_more : (nodes : List ℕ) (i : ℕ) (b : Bool) → b ≡ true → ((k : ℕ) → k < i → Agent (get_or nodes k 0)) → ((b ≡ true) ↔ Agent (get_or nodes i 0)) → (k : ℕ) → k < i + 1 → Agent (get_or nodes k 0)
  one_more nodes i b e so_far is = place_more Agent nodes 0 i so_far (is.0 e)

  -- all nodes of a list
  pub all_among : (nodes : List ℕ) (i : ℕ) → length nodes ≤ i → ((k : ℕ) → k < i → Agent (get_or nodes k 0)) → (true ≡ true) ↔ Among nodes
  all_among nodes i over so_far = ((λ e. each_among Agent nodes i over so_far), (λ all. refl))
