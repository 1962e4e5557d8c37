-- The nodes of the names that rows give.
use Rattle.std.proofs.Common.{◌≡◌, ℕ, ◌+◌, ◌-◌, ◌<◌, ◌≤◌, inl, inr, true, nat_lt, List, [], ◌∷◌, length, slice_get, Option, Some, None, refl, subst, arith, IsTrue, lt-ltb}
use Rattle.std.specs.List.{list_all}
use Rattle.std.proofs.lemmas.Bool.{false≢true}
use Rattle.std.proofs.lemmas.Option.{slice_get_within}
use Rattle.dn_base.proofs.Booleans.{or_left, or_right}
use Rattle.dn_interval.specs.declared.row.End.{End}
use Rattle.dn_interval.specs.declared.row.Row.{Row}
use Rattle.dn_interval.specs.declared.span.TheConstants.{TOP}
use Rattle.dn_interval.specs.Rows.{Member as Named, GivenBy, AreNormal, ends_within}
use Rattle.dn_interval.specs.Strands.{rows_give}
use Rattle.dn_interval.proofs.Membership.{in_from}
use Rattle.dn_interval.proofs.Names.{rows_from}
use Rattle.dn_interval.proofs.Normal.{member_moved}
use Rattle.dn_net.specs.declared.node.Name.{Name}
use Rattle.dn_net.specs.declared.node.NodeDecl.{NodeDecl}
use Rattle.dn_net.specs.Chain.{IsChain}
use Rattle.dn_net.specs.Decode.{Step, is_accepted, is_accepted_at, refers_within}
use Rattle.dn_net.specs.Rules.{KeepsNodeRules}
use Rattle.dn_net.specs.Walks.{Choice, Follows, moved_name}
use Rattle.dn_net.proofs.Choices.{chain_is_walk}
use Rattle.dn_net.proofs.Legs.{leads_within}
use Rattle.dn_net.proofs.Steps.{node_at}
use Rattle.dn_walk.specs.Ends.{name_of_end}
use Rattle.dn_flat.specs.Levels.{levels_give}
use Rattle.dn_flat.specs.Stages.{GoesIn}

ends_there : (count : ℕ) (es : List End) → ((e : End) → Named e es → e.node < count) → list_all (λ e. nat_lt e.node count) es ≡ true
ends_there count [] f = refl
ends_there count (e ∷ es) f = rw (lt-ltb e.node count (f e (inl refl)), ends_there count es (λ d m. f d (inr m))) refl

rows_there : (count : ℕ) (rows : List Row) → ((a : ℕ) (y : End) → a ≤ TOP → GivenBy rows a y → y.node < count) → ends_within count rows ≡ true
rows_there count [] f = refl
rows_there count (r ∷ rs) f = rw (ends_there count r.ends here, rows_there count rs (λ a y t g. f a y t (inr g))) refl
  where
    here : (e : End) → Named e r.ends → e.node < count
    here e m =
        let order : r.span.lo ≤ r.span.hi = r.span.ordered in
        let top : r.span.hi ≤ TOP = r.span.within in
        f r.span.lo (record { node = e.node; base = e.base + (r.span.lo - r.span.lo) }) (omega arith) (inl (in_from r.span r.span.lo (omega arith) order, member_moved (r.span.lo - r.span.lo) r.ends e m))

pub names_are_there : (count : ℕ) (f : ℕ → End → Type 0) (rows : List Row) → AreNormal f rows → ((a : ℕ) (y : End) → f a y → y.node < count) → ends_within count rows ≡ true
names_are_there count f rows n g = rows_there count rows (λ a y t h. g a y ((n.exact a y t).1 h))

-- so it is of layers
pub layers_there : (count : ℕ) (layers : List (List Row)) → ((a : ℕ) (y : End) → a ≤ TOP → levels_give layers a y ≡ true → y.node < count) → list_all (λ rows. ends_within count rows) layers ≡ true
layers_there count [] f = refl
layers_there count (rows ∷ rest) f = rw (rows_there count rows (λ a y t g. f a y t (or_left (rows_give rows a y) (levels_give rest a y) (rows_from rows a y g))), layers_there count rest (λ a y t g. f a y t (or_right (rows_give rows a y) (levels_give rest a y) g))) refl

-- a name that is accepted, or a stop, is in a node that is there

pub accepted_is_there : (net : List NodeDecl) (x : Name) → IsTrue (is_accepted net x) → x.node < length net
accepted_is_there net x e = go (slice_get net x.node) refl e
  where
    go : (o : Option NodeDecl) → slice_get net x.node ≡ o → is_accepted_at x.addr o ≡ true → x.node < length net
    go None f g = absurd (false≢true g)
    go (Some d) f g = slice_get_within net x.node d f

-- and so is one at the end of a chain from one that is there

follows_there : (net : List NodeDecl) → KeepsNodeRules net → (cs : List Choice) (x y : Name) → x.node < length net → Follows net x cs y → y.node < length net
follows_there net rules [] x y l f = subst (λ n. n.node < length net) f l
follows_there net rules (c ∷ cs) x y l f =
    follows_there net rules cs (moved_name (x.addr - f.0.lo) f.1) y (leads_within (length net) (slice_get net x.node) (λ n e. node_at (refers_within (length net)) net x.node rules.closed n e) c f.0 f.1 f.2) f.4

pub chain_is_there : (net : List NodeDecl) → KeepsNodeRules net → (k : ℕ) (x y : Name) → x.node < length net → IsChain (Step net) k x y → y.node < length net
chain_is_there net rules k x y l c = let w = (chain_is_walk net rules k x y).0 c in follows_there net rules w.0 x y l w.2

pub goes_are_there : (net : List NodeDecl) → KeepsNodeRules net → (k node : ℕ) (rows : List Row) → node < length net → AreNormal (GoesIn net k node) rows → ends_within (length net) rows ≡ true
goes_are_there net rules k node rows l n = names_are_there (length net) (GoesIn net k node) rows n (λ a y c. chain_is_there net rules k (record { node = node; addr = a }) (name_of_end y) l c)
