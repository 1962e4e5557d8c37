-- Chains and cycles of steps as walks of a level, and the tests of them.
use Rattle.std.proofs.Common.{◌≡◌, ℕ, ◌+◌, ◌-◌, ◌<◌, ◌≤◌, ◌↔◌, inl, true, false, List, [], ◌∷◌, length, slice_get, Option, Some, None, refl, sym, ap, ◌∙◌, subst, arith, IsTrue}
use Rattle.std.proofs.lemmas.Option.{slice_get_within}
use Rattle.dn_net.specs.declared.node.Block.{Block}
use Rattle.dn_net.specs.declared.node.Name.{Name}
use Rattle.dn_net.specs.declared.node.NodeDecl.{NodeDecl}
use Rattle.dn_net.specs.Chain.{Member, IsChain}
use Rattle.dn_net.specs.Decode.{top, within, steps, Step}
use Rattle.dn_net.specs.Names.{after_steps}
use Rattle.dn_net.specs.Walks.{Choice, ChoiceLeads, Follows, moved_name, Walk, level}
use Rattle.dn_net.specs.WalkRules.{CycleIsRow, comes_to, goes_on}
use Rattle.dn_net.specs.Rules.{KeepsNodeRules}
use Rattle.dn_net.proofs.Least.{within_to}
use Rattle.dn_net.proofs.Resolution.{after_steps_is_chain, found_by_test, test_finds}
use Rattle.dn_net.proofs.Apart.{node_apart}
use Rattle.dn_net.proofs.Choices.{choices_of_chain, chain_of_choices}
use Rattle.dn_net.proofs.Legs.{leads_in_range}
use Rattle.dn_net.proofs.Levels.{level_is_row, row_of_choices}

-- a walk of a level that leads a name to another
pub record IsLed (net : List NodeDecl) (k : ℕ) (x y : Name) (w : Walk) : Type 0 where
  pub row : Member w (level net k)
  pub start : w.start ≡ x.node
  pub inside : IsTrue (within x.addr w.span)
  pub to : moved_name (x.addr - w.span.lo) w.to ≡ y

there_is : (o : Option NodeDecl) (c : Choice) (b : Block) (d : Name) → ChoiceLeads o c b d → (n : NodeDecl) × (o ≡ Some n)
there_is None c b d f = absurd f
there_is (Some n) c b d f = (n, refl)

-- a name that makes a step has a node and an address
pub stepping_in_range : (net : List NodeDecl) → KeepsNodeRules net → (k : ℕ) (x y : Name) → 1 ≤ k → IsChain (Step net) k x y → (x.node < length net) × (x.addr ≤ top)
stepping_in_range net checked k x y l c = by (choices_of_chain net k x y c).0 (choices_of_chain net k x y c).1 (choices_of_chain net k x y c).2
  where
    by : (cs : List Choice) → length cs ≡ k → Follows net x cs y → (x.node < length net) × (x.addr ≤ top)
    by [] e f = let z : 0 ≡ k = e in absurd (omega arith)
    by (h ∷ cs) e f =
        let t = there_is (slice_get net x.node) h f.0 f.1 f.2 in
        let r = leads_in_range (slice_get net x.node) (λ n e. node_apart net checked.each x.node n e) h f.0 f.1 f.2 in
        let w = within_to x.addr f.0 f.3 in
        let p : x.addr ≤ f.0.hi = w.1 in
        let q : f.0.hi ≤ top = r.1 in
        (slice_get_within net x.node t.0 t.1, (omega arith))

-- a chain is a walk of its level
pub row_of_chain : (net : List NodeDecl) → KeepsNodeRules net → (k : ℕ) (x y : Name) → x.node < length net → x.addr ≤ top → IsChain (Step net) k x y → (w : Walk) × IsLed net k x y w
row_of_chain net checked k x y l t c =
    let s = choices_of_chain net k x y c in
    let r = row_of_choices net checked x y s.0 l t s.2 in
    (r.0, record { row = subst (λ n. Member r.0 (level net n)) s.1 r.1; start = r.2; inside = r.4; to = r.5 })

-- and back
pub chain_of_row : (net : List NodeDecl) → KeepsNodeRules net → (k : ℕ) (x y : Name) (w : Walk) → IsLed net k x y w → (x.node < length net) × (x.addr ≤ top) × IsChain (Step net) k x y
chain_of_row net checked k x y w h =
    let r = level_is_row net checked k w h.row in
    let i = within_to x.addr w.span h.inside in
    let p : x.addr ≤ w.span.hi = i.1 in
    let q : w.span.hi ≤ top = r.low in
    let t : x.addr ≤ top = omega arith in
    let f = (r.follows x.addr y t).1 (h.inside, h.to) in
    let f1 : Follows net x w.choices y = subst (λ n. Follows net (record { node = n; addr = x.addr }) w.choices y) h.start f in
    (subst (λ n. n < length net) h.start r.start, t, subst (λ n. IsChain (Step net) n x y) r.long (chain_of_choices net checked.each w.choices x y f1))

-- the name to which a walk sends a name of its own start is that name exactly where its base is its own first address
base_is : (w : Walk) (x : Name) → w.start ≡ x.node → IsTrue (within x.addr w.span) → moved_name (x.addr - w.span.lo) w.to ≡ x → w.to ≡ record { node = w.start; addr = w.span.lo }
base_is w x s i e =
    let p : w.span.lo ≤ x.addr = (within_to x.addr w.span i).0 in
    let m : w.to.node ≡ x.node = ap (λ n. n.node) e in
    let a : w.to.addr + (x.addr - w.span.lo) ≡ x.addr = ap (λ n. n.addr) e in
    let b : w.to.addr ≡ w.span.lo = omega arith in
    λ j. record { node = (m ∙ sym s) j; addr = b j }

base_back : (w : Walk) (x : Name) → w.start ≡ x.node → IsTrue (within x.addr w.span) → w.to ≡ record { node = w.start; addr = w.span.lo } → moved_name (x.addr - w.span.lo) w.to ≡ x
base_back w x s i e =
    let p : w.span.lo ≤ x.addr = (within_to x.addr w.span i).0 in
    let m : w.to.node ≡ w.start = ap (λ n. n.node) e in
    let a : w.to.addr ≡ w.span.lo = ap (λ n. n.addr) e in
    let b : w.to.addr + (x.addr - w.span.lo) ≡ x.addr = omega arith in
    λ j. record { node = (m ∙ s) j; addr = b j }

pub cycle_is_row : CycleIsRow
cycle_is_row net checked k x l = (there, back)
  where
    there : IsChain (Step net) k x x → (w : Walk) × Member w (level net k) × (w.start ≡ x.node) × IsTrue (within x.addr w.span) × (w.to ≡ record { node = w.start; addr = w.span.lo })
    there c =
        let i = stepping_in_range net checked k x x l c in
        let r = row_of_chain net checked k x x i.0 i.1 c in
        (r.0, r.1.row, r.1.start, r.1.inside, base_is r.0 x r.1.start r.1.inside r.1.to)

    back : ((w : Walk) × Member w (level net k) × (w.start ≡ x.node) × IsTrue (within x.addr w.span) × (w.to ≡ record { node = w.start; addr = w.span.lo })) → IsChain (Step net) k x x
    back h = (chain_of_row net checked k x x h.0 (record { row = h.1; start = h.2; inside = h.3; to = base_back h.0 x h.2 h.3 h.4 })).2

-- `comes_to` is true exactly where there is a chain
pub comes_to_is_chain : (net : List NodeDecl) (k : ℕ) (x y : Name) → (comes_to net y k x ≡ true) ↔ IsChain (Step net) k x y
comes_to_is_chain net k x y =
    let a = after_steps_is_chain (steps net) k x y in
    ((λ h. a.0 (found_by_test y (after_steps (steps net) k (x ∷ [])) h)), (λ c. test_finds y (after_steps (steps net) k (x ∷ [])) (a.1 c)))

-- `goes_on` is true exactly where there is a chain to some name
goes_nowhere : (net : List NodeDecl) (k : ℕ) (x : Name) → after_steps (steps net) k (x ∷ []) ≡ [] → goes_on net k x ≡ false
goes_nowhere net k x e = rw e refl

goes_somewhere : (net : List NodeDecl) (k : ℕ) (x y : Name) (ys : List Name) → after_steps (steps net) k (x ∷ []) ≡ y ∷ ys → goes_on net k x ≡ true
goes_somewhere net k x y ys e = rw e refl

pub goes_on_is_chain : (net : List NodeDecl) (k : ℕ) (x : Name) → (goes_on net k x ≡ true) ↔ ((y : Name) × IsChain (Step net) k x y)
goes_on_is_chain net k x = by (after_steps (steps net) k (x ∷ [])) refl
  where
    by : (l : List Name) → after_steps (steps net) k (x ∷ []) ≡ l → (goes_on net k x ≡ true) ↔ ((y : Name) × IsChain (Step net) k x y)
    by [] e = ((λ h. let f : true ≡ false = sym h ∙ goes_nowhere net k x e in cc), (λ c. absurd (subst (λ l. Member c.0 l) e ((after_steps_is_chain (steps net) k x c.0).1 c.1))))
    by (y ∷ ys) e = ((λ h. (y, (after_steps_is_chain (steps net) k x y).0 (subst (λ l. Member y l) (sym e) (inl refl)))), (λ c. goes_somewhere net k x y ys e))

-- `comes_to` is true exactly where a walk of the level leads from the one name to the other
pub comes_to_is_row : (net : List NodeDecl) → KeepsNodeRules net → (k : ℕ) (x y : Name) → x.node < length net → x.addr ≤ top → (comes_to net y k x ≡ true) ↔ ((w : Walk) × IsLed net k x y w)
comes_to_is_row net checked k x y l t =
    let a = comes_to_is_chain net k x y in
    ((λ h. row_of_chain net checked k x y l t (a.0 h)), (λ r. a.1 (chain_of_row net checked k x y r.0 r.1).2))

-- a walk of a level has the name
pub record HasName (net : List NodeDecl) (k : ℕ) (x : Name) (w : Walk) : Type 0 where
  pub row : Member w (level net k)
  pub start : w.start ≡ x.node
  pub inside : IsTrue (within x.addr w.span)

-- `goes_on` is true exactly where a walk of the level has the name
pub goes_on_is_row : (net : List NodeDecl) → KeepsNodeRules net → (k : ℕ) (x : Name) → x.node < length net → x.addr ≤ top → (goes_on net k x ≡ true) ↔ ((w : Walk) × HasName net k x w)
goes_on_is_row net checked k x l t = (there, back)
  where
    there : goes_on net k x ≡ true → (w : Walk) × HasName net k x w
    there h =
        let c = (goes_on_is_chain net k x).0 h in
        let r = row_of_chain net checked k x c.0 l t c.1 in
        (r.0, record { row = r.1.row; start = r.1.start; inside = r.1.inside })

    back : ((w : Walk) × HasName net k x w) → goes_on net k x ≡ true
    back r =
        let y : Name = moved_name (x.addr - r.0.span.lo) r.0.to in
        (goes_on_is_chain net k x).1 (y, (chain_of_row net checked k x y r.0 (record { row = r.1.row; start = r.1.start; inside = r.1.inside; to = refl })).2)
