-- What the nodes of a split net keep of those of the net.
use Rattle.std.proofs.Common.{◌≡◌, ℕ, ◌+◌, ◌<◌, ◌≤◌, inl, inr, Bool, true, false, not, if◌then◌else◌, ◌&&◌, ◌||◌, nat_le, nat_lt, List, [], ◌∷◌, ◌++◌, length, Option, Some, None, is_some, refl, sym, ap, ◌∙◌, subst, arith, IsTrue, leb-true, ltb-true, All}
use mir.Val.{bool_byte}
use Rattle.std.specs.List.{list_all, list_any}
use Rattle.dn_base.specs.Members.{Member}
use Rattle.dn_base.proofs.Members.{member_cases, member_get_or}
use Rattle.dn_base.proofs.Booleans.{and_parts}
use Rattle.dn_net.specs.declared.node.NodeDecl.{NodeDecl}
use Rattle.dn_net.specs.declared.node.Unit.{Unit as UnitPart}
use Rattle.std.specs.Str.{bytes_eq}
use Rattle.dn_net.specs.Legal.{node_limit}
use Rattle.dn_net.specs.Decode.{is_bare, is_formed, formed_by, is_unit}
use Rattle.dn_shape.specs.Split.{is_divided, new_nodes, divided_count, sender_to, sending_node, sending_nodes, accepter, with_accepter, with_accepters}
use Rattle.dn_shape.proofs.Free.{free_number_is_first}
use Rattle.dn_shape.proofs.Named.{NamesDiffer, texts, differ_as}

-- a part of a node that another node has too, of the one or the other
pub part_stays : {Y : Type 0} (f : NodeDecl → Y) (b : Bool) (n d : NodeDecl) → f n ≡ f d → f (if b then n else d) ≡ f d
part_stays f true n d e = e
part_stays f false n d e = refl

-- how many nodes are made of a node, as the code counts them
pub counted : (b : Bool) (n : NodeDecl) (k : ℕ) → k ≡ bool_byte b → is_divided n ≡ b → k ≡ new_nodes n
counted b n k e d = e ∙ byte b ∙ ap (λ p. if p then 1 else 0) (sym d)
  where
    byte : (b : Bool) → bool_byte b ≡ (if b then 1 else 0)
    byte true = refl
    byte false = refl

-- the names stay
one_text : (m : ℕ) (n : NodeDecl) → (sending_node m n).text ≡ n.text
one_text m n = part_stays (λ d. d.text) (is_divided n) (sender_to m n) n refl

pub sending_texts : (next : ℕ) (net : List NodeDecl) → texts (sending_nodes next net) ≡ texts net
sending_texts next [] = refl
sending_texts next (n ∷ net) = ap (λ t. t ∷ texts (sending_nodes (next + new_nodes n) net)) (one_text next n) ∙ ap (λ l. n.text ∷ l) (sending_texts (next + new_nodes n) net)

-- a divided node is no unit
divided_no_unit : (n : NodeDecl) (u : UnitPart) → is_divided n ≡ true → IsTrue (formed_by n (Some u)) → ⊥
divided_no_unit n u d f =
    let bare = (and_parts (is_unit n.role) (is_bare n) f).1 in
    let a = (and_parts (nat_le (length n.accepts) 0) (nat_le (length n.entries) 0 && not (is_some n.over)) bare).0 in
    let b = (and_parts (nat_lt 0 (length n.accepts)) (nat_lt 0 (length n.entries) || is_some n.over) d).0 in
    let l = leb-true (length n.accepts) 0 a in
    let m = ltb-true 0 (length n.accepts) b in
    omega arith

pub sending_formed : (m : ℕ) (n : NodeDecl) → IsTrue (is_formed n) → IsTrue (is_formed (sending_node m n))
sending_formed m n f = by (is_divided n) refl
  where
    unit : (u : Option UnitPart) → n.unit ≡ u → is_divided n ≡ true → IsTrue (formed_by n u) → IsTrue (formed_by (sender_to m n) u)
    unit None e d h = h
    unit (Some u) e d h = absurd (divided_no_unit n u d h)

    by : (b : Bool) → is_divided n ≡ b → IsTrue (is_formed (if b then sender_to m n else n))
    by true d = unit n.unit refl d f
    by false d = f

pub each_formed : (next : ℕ) (net : List NodeDecl) → IsTrue (list_all is_formed net) → IsTrue (list_all is_formed (sending_nodes next net))
each_formed next [] all = refl
each_formed next (n ∷ net) all =
    let r = and_parts (is_formed n) (list_all is_formed net) all in
    rw (sending_formed next n r.0, each_formed (next + new_nodes n) net r.1) refl

pub accepter_formed : (before : List NodeDecl) (n : NodeDecl) → IsTrue (is_formed (accepter before n))
accepter_formed before n = refl

-- what holds of each old node, and of each new one, holds of each node with new ones behind it
pub each_new : (P : NodeDecl → Type 0) (base ns : List NodeDecl) → ((d : NodeDecl) → Member d base → P d) → ((before : List NodeDecl) (n : NodeDecl) → Member n ns → P (accepter before n)) → (d : NodeDecl) → Member d (with_accepters base ns) → P d
each_new P base [] old new d m = old d m
each_new P base (n ∷ ns) old new d m = each_new P (with_accepter base n) ns (λ e k. by e (is_divided n) k) (λ before e k. new before e (inr k)) d m
  where
    by : (e : NodeDecl) (b : Bool) → Member e (if b then base ++ accepter base n ∷ [] else base) → P e
    by e false k = old e k
    by e true k = elim (member_cases base (accepter base n ∷ []) e k) [
      | inl h ↦ old e h
      | inr h ↦ elim h [ inl s ↦ subst P s (new base n (inl refl)) | inr z ↦ absurd z ]
    ]

-- an old node of the split net is made of one of the net, and the number to which it sends is that of a new node
pub record SentFrom (next : ℕ) (net : List NodeDecl) (d : NodeDecl) : Type 0 where
  pub node : NodeDecl
  pub member : Member node net
  pub number : ℕ
  pub is : sending_node number node ≡ d
  pub new : is_divided node ≡ true → number < next + divided_count net

pub sent_from : (next : ℕ) (net : List NodeDecl) (d : NodeDecl) → Member d (sending_nodes next net) → SentFrom next net d
sent_from next [] d m = absurd m
sent_from next (n ∷ net) d (inl e) = record { node = n; member = inl refl; number = next; is = e; new = new }
  where
    new : is_divided n ≡ true → next < next + (new_nodes n + divided_count net)
    new h = let one : new_nodes n ≡ 1 = ap (λ b. if b then 1 else 0) h in omega arith
sent_from next (n ∷ net) d (inr m) =
    let r = sent_from (next + new_nodes n) net d m in
    record { node = r.node; member = inr r.member; number = r.number; is = r.is; new = λ h. let l = r.new h in omega (arith, l) }

-- what holds of each node is a test of all
pub all_of_each : {X : Type 0} (p : X → Bool) (xs : List X) → ((x : X) → Member x xs → IsTrue (p x)) → IsTrue (list_all p xs)
all_of_each p [] each = refl
all_of_each p (x ∷ xs) each = rw (each x (inl refl), all_of_each p xs (λ y m. each y (inr m))) refl

pub none_of_each : {X : Type 0} (p : X → Bool) (xs : List X) → ((x : X) → Member x xs → p x ≡ false) → list_any p xs ≡ false
none_of_each p [] each = refl
none_of_each p (x ∷ xs) each = rw (each x (inl refl), none_of_each p xs (λ y m. each y (inr m))) refl

pub all_each : {X : Type 0} (P : X → Type 0) (xs : List X) → ((x : X) → Member x xs → P x) → All P xs
all_each P xs each = λ k d l. each _ (member_get_or xs k d l)

-- a node has one new node at most
pub few_new : (n : NodeDecl) → new_nodes n ≤ 1
few_new n = by (is_divided n)
  where
    by : (b : Bool) → (if b then 1 else 0) ≤ 1
    by true = omega arith
    by false = omega arith

-- the name of a new node names no node before it
pub accepter_new : (before : List NodeDecl) (n d : NodeDecl) → length before ≤ node_limit → accepter before n ≡ d → list_any (λ (e : NodeDecl). bytes_eq d.text e.text) before ≡ false
accepter_new before n d few e = subst (λ (f : NodeDecl). list_any (λ (g : NodeDecl). bytes_eq f.text g.text) before ≡ false) e (free_number_is_first before n.text (omega (arith, few))).0

-- the names of the nodes that send differ
pub sending_differ : (next : ℕ) (net : List NodeDecl) → NamesDiffer net → NamesDiffer (sending_nodes next net)
sending_differ next net differ = differ_as (sending_nodes next net) net (sending_texts next net) differ
