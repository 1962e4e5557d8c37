-- Pieces at their inputs, one after another: of one of them, of those from one on, and how many addresses they have.
use Rattle.std.proofs.Common.{◌≡◌, ℕ, zero, suc, ◌+◌, ◌-◌, ◌*◌, ◌^◌, ◌<◌, ◌≤◌, true, false, List, [], ◌∷◌, length, take, drop, get_or, refl, sym, ap, ◌∙◌, subst, arith}
use Rattle.std.specs.List.{All}
use Rattle.std.proofs.Math.Seq.{drop-cons}
use Rattle.dn_net.specs.declared.node.NodeDecl.{NodeDecl}
use Rattle.dn_net.specs.declared.node.Unit.{Unit as UnitPart}
use Rattle.dn_net.specs.Decode.{top}
use Rattle.dn_kind.specs.declared.rights.Rights.{Rights}
use Rattle.dn_place.specs.declared.exits.Exit.{Exit}
use Rattle.dn_place.specs.Exits.{AreExits}
use Rattle.dn_gather.specs.declared.piece.Piece.{Piece}
use Rattle.dn_gather.specs.Grounds.{AreExitsOfPieces, IsSized, total}
use Rattle.dn_gather.specs.Scattered.{piece_request}
use Rattle.dn_gather.specs.Stands.{AreAt, AreFew, IsPartedFrom, are_parted_at}
use Rattle.std.proofs.Math.ListN.{drop_of_length-le}
use Rattle.std.proofs.lemmas.List.{take_rest}

-- how many addresses

pub total_few : (ps : List Piece) → All IsSized ps → total ps ≤ length ps * (top + 1)
total_few [] all = omega arith
total_few (p ∷ ps) all =
    let rest = total_few ps (λ k d l. all (suc k) d (omega arith)) in
    let here : p.base + p.size ≤ top + 1 = (all 0 p (omega arith)).buffer in
    omega (arith, rest, here)

-- one piece less
pub total_step : (ps : List Piece) (i : ℕ) (d : Piece) → i < length ps → total (drop i ps) ≡ (get_or ps i d).size + total (drop (i + 1) ps)
total_step ps i d l = ap total (drop-cons ps i d l) ∙ ap (λ n. (get_or ps i d).size + total (drop n ps)) (next i)
  where
    next : (i : ℕ) → suc i ≡ i + 1
    next i = omega arith

pub total_none : (ps : List Piece) (i : ℕ) → length ps ≤ i → total (drop i ps) ≡ 0
total_none ps i l = ap total (drop_of_length-le ps l)

-- the piece of a number, with those after it

abbrev pub IsItem : List Piece → ℕ → Piece → Type 0
IsItem ps i p = drop i ps ≡ p ∷ drop (suc i) ps

pub item_here : (ps : List Piece) (i : ℕ) (d : Piece) → i < length ps → IsItem ps i (get_or ps i d)
item_here ps i d l = drop-cons ps i d l

pub item_there : (ps : List Piece) (i : ℕ) (p : Piece) → IsItem ps i p → i < length ps
item_there [] zero p e = cc
item_there [] (suc i) p e = cc
item_there (q ∷ ps) zero p e = omega arith
item_there (q ∷ ps) (suc i) p e = (let l = item_there ps i p e in omega (arith, l))

pub item_at : (ps : List Piece) (i : ℕ) (p d : Piece) → IsItem ps i p → get_or ps i d ≡ p
item_at [] zero p d e = cc
item_at [] (suc i) p d e = cc
item_at (q ∷ ps) zero p d e = cc
item_at (q ∷ ps) (suc i) p d e = item_at ps i p d e

-- one piece more
total_item : (ps : List Piece) (i : ℕ) (p : Piece) → IsItem ps i p → total (take (suc i) ps) ≡ total (take i ps) + p.size
total_item [] zero p e = cc
total_item [] (suc i) p e = cc
total_item (q ∷ ps) zero p e = (let s : q.size ≡ p.size = ap (λ (r : Piece). r.size) (item_at (q ∷ ps) zero p p e) in omega (arith, s))
total_item (q ∷ ps) (suc i) p e = (let s = total_item ps i p e in omega (arith, s))

-- what holds of the pieces from a number on, at their address: it holds of the piece of that number and those after it
pub from_item : (F : ℕ → List Piece → Type 0) (v i a : ℕ) (ps : List Piece) (p : Piece) → IsItem ps i p → a ≡ v + total (take i ps) → F (v + total (take i ps)) (drop i ps) → F a (p ∷ drop (suc i) ps)
from_item F v i a ps p item at f = subst (λ (n : ℕ). F n (p ∷ drop (suc i) ps)) (sym at) (subst (λ (qs : List Piece). F (v + total (take i ps)) qs) item f)

pub to_item : (F : ℕ → List Piece → Type 0) (v i a : ℕ) (ps : List Piece) (p : Piece) → IsItem ps i p → a ≡ v + total (take i ps) → F a (p ∷ drop (suc i) ps) → F (v + total (take i ps)) (drop i ps)
to_item F v i a ps p item at f = subst (λ (qs : List Piece). F (v + total (take i ps)) qs) (sym item) (subst (λ (n : ℕ). F n (p ∷ drop (suc i) ps)) at f)

-- so of those after the piece before a number
pub after_item : (F : ℕ → List Piece → Type 0) (v i a : ℕ) (ps : List Piece) (p : Piece) → 0 < i → IsItem ps (i - 1) p → a ≡ v + total (take (i - 1) ps) → F (v + total (take i ps)) (drop i ps) → F (a + p.size) (drop (suc (i - 1)) ps)
after_item F v i a ps p some item at f = subst (λ (n : ℕ). F n (drop (suc (i - 1)) ps)) sum (subst (λ (n : ℕ). F (v + total (take n ps)) (drop n ps)) next f)
  where
    next : i ≡ suc (i - 1)
    next = omega (arith, some)

    sum : v + total (take (suc (i - 1)) ps) ≡ a + p.size
    sum = (let t = total_item ps (i - 1) p item in omega (arith, t, at))

-- so of none, and of all
pub of_none : (F : ℕ → List Piece → Type 0) (v i : ℕ) (ps : List Piece) → length ps ≤ i → ((n : ℕ) → F n []) → F (v + total (take i ps)) (drop i ps)
of_none F v i ps l f = subst (λ (qs : List Piece). F (v + total (take i ps)) qs) (sym (drop_of_length-le ps l)) (f (v + total (take i ps)))

pub of_all : (F : ℕ → List Piece → Type 0) (v i : ℕ) (ps : List Piece) → i ≡ 0 → F (v + total (take i ps)) (drop i ps) → F v ps
of_all F v i ps e f = subst (λ (n : ℕ). F n ps) (none v) (subst (λ (n : ℕ). F (v + total (take n ps)) (drop n ps)) e f)
  where
    none : (v : ℕ) → v + 0 ≡ v
    none v = omega arith

-- those after a piece, as a part of the list
pub part_after : (ps : List Piece) (j : ℕ) → take (length ps - (j + 1)) (drop (j + 1) ps) ≡ drop (suc j) ps
part_after ps j = take_rest ps (j + 1) ∙ ap (λ n. drop n ps) (next j)
  where
    next : (j : ℕ) → j + 1 ≡ suc j
    next j = omega arith

-- one of the pieces, and its outputs

pub exits_at : (net : List NodeDecl) (u : UnitPart) (agent : ℕ) (rights : Rights) (ps : List Piece) (exits : List (List Exit)) (i : ℕ) (d : Piece) (e : List Exit) → AreExitsOfPieces net u agent rights ps exits → i < length ps → AreExits net u (piece_request agent rights (get_or ps i d)) (get_or exits i e)
exits_at net u agent rights [] exits i d e are l = absurd (omega arith)
exits_at net u agent rights (p ∷ ps) [] i d e are l = absurd are
exits_at net u agent rights (p ∷ ps) (es ∷ exits) zero d e are l = are.0
exits_at net u agent rights (p ∷ ps) (es ∷ exits) (suc i) d e are l = exits_at net u agent rights ps exits i d e are.1 (omega arith)

pub exits_count : (net : List NodeDecl) (u : UnitPart) (agent : ℕ) (rights : Rights) (ps : List Piece) (exits : List (List Exit)) → AreExitsOfPieces net u agent rights ps exits → length exits ≡ length ps
exits_count net u agent rights [] [] are = refl
exits_count net u agent rights [] (es ∷ exits) are = absurd are
exits_count net u agent rights (p ∷ ps) [] are = absurd are
exits_count net u agent rights (p ∷ ps) (es ∷ exits) are = ap suc (exits_count net u agent rights ps exits are.1)

-- pieces at inputs

-- those from a number on
pub record Rest (P : Piece → ℕ → ℕ → Type 0) (page v i : ℕ) (ps : List Piece) (xs : List ℕ) : Type 0 where
  pub at : AreAt P page (v + total (take i ps)) (drop i ps) (drop i xs)

pub at_rest : (P : Piece → ℕ → ℕ → Type 0) (page v i : ℕ) (ps : List Piece) (xs : List ℕ) → AreAt P page v ps xs → Rest P page v i ps xs
at_rest P page v zero ps xs are = record { at = subst (λ n. AreAt P page n ps xs) (none v) are }
  where
    none : (v : ℕ) → v ≡ v + 0
    none v = omega arith
at_rest P page v (suc i) [] [] are = record { at = tt }
at_rest P page v (suc i) [] (x ∷ xs) are = absurd are
at_rest P page v (suc i) (p ∷ ps) [] are = absurd are
at_rest P page v (suc i) (p ∷ ps) (x ∷ xs) are =
    let r = at_rest P page (v + p.size) i ps xs are.2 in
    record { at = subst (λ n. AreAt P page n (drop i ps) (drop i xs)) (moved v p.size (total (take i ps))) r.at }
  where
    moved : (v a b : ℕ) → v + a + b ≡ v + (a + b)
    moved v a b = omega arith

pub at_count : (P : Piece → ℕ → ℕ → Type 0) (page v : ℕ) (ps : List Piece) (xs : List ℕ) → AreAt P page v ps xs → length xs ≡ length ps
at_count P page v [] [] are = refl
at_count P page v [] (x ∷ xs) are = absurd are
at_count P page v (p ∷ ps) [] are = absurd are
at_count P page v (p ∷ ps) (x ∷ xs) are = ap suc (at_count P page (v + p.size) ps xs are.2)

-- of a piece and those after it, at their inputs
pub record Front (P : Piece → ℕ → ℕ → Type 0) (page a : ℕ) (p : Piece) (ps : List Piece) (xs : List ℕ) : Type 0 where
  pub x : ℕ
  pub rest : List ℕ
  pub is : xs ≡ x ∷ rest
  pub here : P p a x
  pub parted : IsPartedFrom page x p.size ps rest
  pub at : AreAt P page (a + p.size) ps rest

pub front_of : (P : Piece → ℕ → ℕ → Type 0) (page a : ℕ) (p : Piece) (ps : List Piece) (xs : List ℕ) → AreAt P page a (p ∷ ps) xs → Front P page a p ps xs
front_of P page a p ps [] are = absurd are
front_of P page a p ps (x ∷ xs) are = record { x = x; rest = xs; is = refl; here = are.0; parted = are.1; at = are.2 }

-- the piece of this number, and those after it
pub front_at : (P : Piece → ℕ → ℕ → Type 0) (page v i a : ℕ) (ps : List Piece) (xs : List ℕ) (p : Piece) → IsItem ps i p → a ≡ v + total (take i ps) → AreAt P page v ps xs → Front P page a p (drop (suc i) ps) (drop i xs)
front_at P page v i a ps xs p item at are = front_of P page a p (drop (suc i) ps) (drop i xs) (from_item (λ n qs. AreAt P page n qs (drop i xs)) v i a ps p item at (at_rest P page v i ps xs are).at)

-- a list from a number on that is an item and others: the item at that number, and the list from the next one on
pub item_of : (xs rest : List ℕ) (i x : ℕ) → drop i xs ≡ x ∷ rest → get_or xs i 0 ≡ x
item_of [] rest zero x e = cc
item_of [] rest (suc i) x e = cc
item_of (y ∷ ys) rest zero x e = cc
item_of (y ∷ ys) rest (suc i) x e = item_of ys rest i x e

pub others_of : (xs rest : List ℕ) (i x : ℕ) → drop i xs ≡ x ∷ rest → drop (suc i) xs ≡ rest
others_of [] rest zero x e = cc
others_of [] rest (suc i) x e = cc
others_of (y ∷ ys) rest zero x e = cc
others_of (y ∷ ys) rest (suc i) x e = others_of ys rest i x e

-- inputs of which each is told by the other are the same
pub at_one : (P Q : Piece → ℕ → ℕ → Type 0) (page a : ℕ) (ps : List Piece) (xs zs : List ℕ) → ((p : Piece) (a x z : ℕ) → P p a x → Q p a z → x ≡ z) → AreAt P page a ps xs → AreAt Q page a ps zs → xs ≡ zs
at_one P Q page a [] [] [] one f g = refl
at_one P Q page a [] [] (z ∷ zs) one f g = absurd g
at_one P Q page a [] (x ∷ xs) zs one f g = absurd f
at_one P Q page a (p ∷ ps) [] zs one f g = absurd f
at_one P Q page a (p ∷ ps) (x ∷ xs) [] one f g = absurd g
at_one P Q page a (p ∷ ps) (x ∷ xs) (z ∷ zs) one f g = both (one p a x z f.0 g.0) (at_one P Q page (a + p.size) ps xs zs one f.2 g.2)
  where
    both : x ≡ z → xs ≡ zs → x ∷ xs ≡ z ∷ zs
    both e k = ap (λ n. n ∷ xs) e ∙ ap (λ l. z ∷ l) k

-- inputs of pieces from one on are not those at which all can be, where the first of them takes a slot of another
pub crossed : (P Q : Piece → ℕ → ℕ → Type 0) (page v i a x : ℕ) (ps : List Piece) (xs zs : List ℕ) (p : Piece) → IsItem ps i p → a ≡ v + total (take i ps) → ((p : Piece) (a x z : ℕ) → P p a x → Q p a z → x ≡ z) → P p a x → AreAt P page (a + p.size) (drop (suc i) ps) xs → (IsPartedFrom page x p.size (drop (suc i) ps) xs → ⊥) → AreAt Q page v ps zs → ⊥
crossed P Q page v i a x ps xs zs p item is one here at not are =
    not (subst (λ (n : ℕ). IsPartedFrom page n p.size rest xs) (sym (one p a x f.x here f.here)) (subst (λ (ns : List ℕ). IsPartedFrom page f.x p.size rest ns) (sym (at_one P Q page (a + p.size) rest xs f.rest one at f.at)) f.parted))
  where
    rest : List Piece
    rest = drop (suc i) ps

    f : Front Q page a p rest (drop i zs)
    f = front_at Q page v i a ps zs p item is are

-- bounds of the inputs
pub at_few : (P : Piece → ℕ → ℕ → Type 0) (page a : ℕ) (ps : List Piece) (xs : List ℕ) → ((p : Piece) (a x : ℕ) → P p a x → (1 ≤ p.size) × (x + p.size ≤ 2 ^ 60)) → AreAt P page a ps xs → AreFew ps xs
at_few P page a [] [] few are = tt
at_few P page a [] (x ∷ xs) few are = absurd are
at_few P page a (p ∷ ps) [] few are = absurd are
at_few P page a (p ∷ ps) (x ∷ xs) few are = let f = few p a x are.0 in (f.0, f.1, at_few P page (a + p.size) ps xs few are.2)

-- a piece is parted from those after it, piece by piece

pub few_at : (qs : List Piece) (zs : List ℕ) (k : ℕ) (d : Piece) → AreFew qs zs → k < length zs → (k < length qs) × (1 ≤ (get_or qs k d).size) × (get_or zs k 0 + (get_or qs k d).size ≤ 2 ^ 60)
few_at [] [] k d few l = absurd (omega arith)
few_at [] (z ∷ zs) k d few l = absurd few
few_at (q ∷ qs) [] k d few l = absurd few
few_at (q ∷ qs) (z ∷ zs) zero d few l = (omega arith, few.0, few.1)
few_at (q ∷ qs) (z ∷ zs) (suc k) d few l = let r = few_at qs zs k d few.2 (omega arith) in let n = r.0 in (omega (arith, n), r.1, r.2)

-- so far parted, and the rest
pub record Parting (page x size k : ℕ) (qs : List Piece) (zs : List ℕ) : Type 0 where
  pub so_far : IsPartedFrom page x size (drop k qs) (drop k zs) → IsPartedFrom page x size qs zs
  pub left : IsPartedFrom page x size qs zs → IsPartedFrom page x size (drop k qs) (drop k zs)

pub parting_begun : (page x size : ℕ) (qs : List Piece) (zs : List ℕ) → Parting page x size 0 qs zs
parting_begun page x size qs zs = record { so_far = λ p. p; left = λ p. p }

-- of those left the first, beside its input
front_parts : (qs : List Piece) (zs : List ℕ) (k : ℕ) (d : Piece) → AreFew qs zs → k < length zs → (drop k qs ≡ get_or qs k d ∷ drop (k + 1) qs) × (drop k zs ≡ get_or zs k 0 ∷ drop (k + 1) zs)
front_parts qs zs k d few l = (drop-cons qs k d (few_at qs zs k d few l).0 ∙ ap (λ n. get_or qs k d ∷ drop n qs) (next k), drop-cons zs k 0 l ∙ ap (λ n. get_or zs k 0 ∷ drop n zs) (next k))
  where
    next : (k : ℕ) → suc k ≡ k + 1
    next k = omega arith

parting_front : (page x size k : ℕ) (qs : List Piece) (zs : List ℕ) (d : Piece) → AreFew qs zs → k < length zs → IsPartedFrom page x size (drop k qs) (drop k zs) → (are_parted_at page x size (get_or zs k 0) (get_or qs k d).size ≡ true) × IsPartedFrom page x size (drop (k + 1) qs) (drop (k + 1) zs)
parting_front page x size k qs zs d few l w =
    let f = front_parts qs zs k d few l in
    subst (λ (l : List ℕ). IsPartedFrom page x size (get_or qs k d ∷ drop (k + 1) qs) l) f.1 (subst (λ (l : List Piece). IsPartedFrom page x size l (drop k zs)) f.0 w)

pub parting_on : (page x size k : ℕ) (qs : List Piece) (zs : List ℕ) (d : Piece) → AreFew qs zs → k < length zs → are_parted_at page x size (get_or zs k 0) (get_or qs k d).size ≡ true → Parting page x size k qs zs → Parting page x size (k + 1) qs zs
parting_on page x size k qs zs d few l here p = record {
  so_far = λ rest. p.so_far (together (here, rest));
  left = λ whole. (parting_front page x size k qs zs d few l (p.left whole)).1;
}
  where
    together : (are_parted_at page x size (get_or zs k 0) (get_or qs k d).size ≡ true) × IsPartedFrom page x size (drop (k + 1) qs) (drop (k + 1) zs) → IsPartedFrom page x size (drop k qs) (drop k zs)
    together w =
        let f = front_parts qs zs k d few l in
        subst (λ (l : List Piece). IsPartedFrom page x size l (drop k zs)) (sym f.0) (subst (λ (l : List ℕ). IsPartedFrom page x size (get_or qs k d ∷ drop (k + 1) qs) l) (sym f.1) w)

pub parting_not : (page x size k : ℕ) (qs : List Piece) (zs : List ℕ) (d : Piece) → AreFew qs zs → k < length zs → are_parted_at page x size (get_or zs k 0) (get_or qs k d).size ≡ false → Parting page x size k qs zs → IsPartedFrom page x size qs zs → ⊥
parting_not page x size k qs zs d few l not p whole = never (sym (parting_front page x size k qs zs d few l (p.left whole)).0 ∙ not)
  where
    never : true ≡ false → ⊥
    never e = cc

pub parting_done : (page x size k : ℕ) (qs : List Piece) (zs : List ℕ) → AreFew qs zs → length zs ≤ k → Parting page x size k qs zs → IsPartedFrom page x size qs zs
parting_done page x size k qs zs few l p = p.so_far (subst (λ (l : List Piece). IsPartedFrom page x size l (drop k zs)) (sym (drop_of_length-le qs (omega (arith, same qs zs few, l)))) (subst (λ (l : List ℕ). IsPartedFrom page x size [] l) (sym (drop_of_length-le zs l)) tt))
  where
    same : (qs : List Piece) (zs : List ℕ) → AreFew qs zs → length qs ≡ length zs
    same [] [] f = refl
    same [] (z ∷ zs) f = absurd f
    same (q ∷ qs) [] f = absurd f
    same (q ∷ qs) (z ∷ zs) f = ap suc (same qs zs f.2)
