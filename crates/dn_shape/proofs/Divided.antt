-- The nodes of a split net, by their numbers.
use Rattle.std.proofs.Common.{◌≡◌, ℕ, zero, suc, ◌+◌, Bool, true, false, if◌then◌else◌, List, [], ◌∷◌, ◌++◌, length, take, slice_get, Some, refl, sym, ap, ◌∙◌, subst, arith}
use Rattle.dn_base.proofs.Lists.{length-last}
use Rattle.dn_net.specs.declared.node.NodeDecl.{NodeDecl}
use Rattle.dn_shape.specs.Split.{is_divided, new_nodes, divided_count, sending_node, sending_nodes, accepter, with_accepter, with_accepters, split_net}

-- an old node stands where it stood
pub old_at : (next : ℕ) (net : List NodeDecl) (i : ℕ) (n : NodeDecl) → slice_get net i ≡ Some n → slice_get (sending_nodes next net) i ≡ Some (sending_node (next + divided_count (take i net)) n)
old_at next [] i n at = cc
old_at next (x ∷ net) zero n at =
    let s : x ≡ n = cc in
    let z : next ≡ next + 0 = omega arith in
    ap (λ y. Some (sending_node next y)) s ∙ ap (λ k. Some (sending_node k n)) z
old_at next (x ∷ net) (suc i) n at =
    let e : (next + new_nodes x) + divided_count (take i net) ≡ next + (new_nodes x + divided_count (take i net)) = omega arith in
    old_at (next + new_nodes x) net i n at ∙ ap (λ k. Some (sending_node k n)) e

pub sending_length : (next : ℕ) (net : List NodeDecl) → length (sending_nodes next net) ≡ length net
sending_length next [] = refl
sending_length next (n ∷ net) = ap suc (sending_length (next + new_nodes n) net)

-- what stands in a list stands there with more behind it
pub at_front : {X : Type 0} (xs ys : List X) (k : ℕ) (x : X) → slice_get xs k ≡ Some x → slice_get (xs ++ ys) k ≡ Some x
at_front [] ys k x at = cc
at_front (z ∷ xs) ys zero x at = at
at_front (z ∷ xs) ys (suc k) x at = at_front xs ys k x at

at_end : {X : Type 0} (xs : List X) (x : X) → slice_get (xs ++ x ∷ []) (length xs) ≡ Some x
at_end [] x = refl
at_end (z ∷ xs) x = at_end xs x

one_kept : (base : List NodeDecl) (n : NodeDecl) (k : ℕ) (d : NodeDecl) → slice_get base k ≡ Some d → slice_get (with_accepter base n) k ≡ Some d
one_kept base n k d at = by (is_divided n)
  where
    by : (b : Bool) → slice_get (if b then base ++ accepter base n ∷ [] else base) k ≡ Some d
    by true = at_front base (accepter base n ∷ []) k d at
    by false = at

-- nodes stand where they stood as new ones are put behind them
pub kept_there : (base ns : List NodeDecl) (k : ℕ) (d : NodeDecl) → slice_get base k ≡ Some d → slice_get (with_accepters base ns) k ≡ Some d
kept_there base [] k d at = at
kept_there base (n ∷ ns) k d at = kept_there (with_accepter base n) ns k d (one_kept base n k d at)

pub one_more : (base : List NodeDecl) (n : NodeDecl) → length (with_accepter base n) ≡ length base + new_nodes n
one_more base n = by (is_divided n)
  where
    by : (b : Bool) → length (if b then base ++ accepter base n ∷ [] else base) ≡ length base + (if b then 1 else 0)
    by true = length-last base (accepter base n)
    by false = omega arith

pub accepters_length : (base ns : List NodeDecl) → length (with_accepters base ns) ≡ length base + divided_count ns
accepters_length base [] = omega arith
accepters_length base (n ∷ ns) =
    let e : (length base + new_nodes n) + divided_count ns ≡ length base + (new_nodes n + divided_count ns) = omega arith in
    accepters_length (with_accepter base n) ns ∙ ap (λ k. k + divided_count ns) (one_more base n) ∙ e

-- a new node, with the nodes before it
pub record NewAt (net : List NodeDecl) (k : ℕ) (n : NodeDecl) : Type 0 where
  pub before : List NodeDecl
  pub at : slice_get net k ≡ Some (accepter before n)

-- the new node of a divided one
pub new_at : (base ns : List NodeDecl) (i : ℕ) (n : NodeDecl) → slice_get ns i ≡ Some n → is_divided n ≡ true → NewAt (with_accepters base ns) (length base + divided_count (take i ns)) n
new_at base [] i n at d = cc
new_at base (x ∷ ns) zero n at d =
    let s : x ≡ n = cc in
    let z : length base ≡ length base + 0 = omega arith in
    let w : with_accepter base x ≡ base ++ accepter base n ∷ [] = ap (with_accepter base) s ∙ ap (λ b. if b then base ++ accepter base n ∷ [] else base) d in
    let here : slice_get (with_accepter base x) (length base + 0) ≡ Some (accepter base n) = ap (λ l. slice_get l (length base + 0)) w ∙ ap (slice_get (base ++ accepter base n ∷ [])) (sym z) ∙ at_end base (accepter base n) in
    record { before = base; at = kept_there (with_accepter base x) ns (length base + 0) (accepter base n) here }
new_at base (x ∷ ns) (suc i) n at d =
    let r = new_at (with_accepter base x) ns i n at d in
    let l = one_more base x in
    let e : length (with_accepter base x) + divided_count (take i ns) ≡ length base + (new_nodes x + divided_count (take i ns)) = omega (arith, l) in
    record { before = r.before; at = ap (slice_get (with_accepters (with_accepter base x) ns)) (sym e) ∙ r.at }

-- an old node of the split net
pub split_old_at : (net : List NodeDecl) (i : ℕ) (n : NodeDecl) → slice_get net i ≡ Some n → slice_get (split_net net) i ≡ Some (sending_node (length net + divided_count (take i net)) n)
split_old_at net i n at = kept_there (sending_nodes (length net) net) net i (sending_node (length net + divided_count (take i net)) n) (old_at (length net) net i n at)

-- a new node of the split net
pub split_new_at : (net : List NodeDecl) (i : ℕ) (n : NodeDecl) → slice_get net i ≡ Some n → is_divided n ≡ true → NewAt (split_net net) (length net + divided_count (take i net)) n
split_new_at net i n at d = subst (λ k. NewAt (split_net net) (k + divided_count (take i net)) n) (sending_length (length net) net) (new_at (sending_nodes (length net) net) net i n at d)

pub split_length : (net : List NodeDecl) → length (split_net net) ≡ length net + divided_count net
split_length net = accepters_length (sending_nodes (length net) net) net ∙ ap (λ k. k + divided_count net) (sending_length (length net) net)
