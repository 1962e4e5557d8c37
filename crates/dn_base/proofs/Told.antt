-- What follows from what sources and sinks tell: laws of what was taken, added and written, for this crate and those
-- above it. In each, `a` is what was told first, and `b` and `c` what was told later.
use Rattle.std.proofs.Common.{◌≡◌, ◌≤◌, ◌<◌, ◌∙◌, ap, sym, subst, ℕ, ◌+◌, ◌-◌, Bool, true, false, List, [], ◌∷◌, ◌++◌, length, take, drop, get_or, Option, None, Some, IfSome, is_some, Result, Ok, Err, OnOk, append_assoc, append-nil, length-append, refl, arith}
use Rattle.std.specs.List.{concat}
use Rattle.std.specs.Option.{option_map}
use Rattle.std.proofs.lemmas.Grind.{common_steps}
use Rattle.std.proofs.lemmas.List.{take_rest, take_at, take-append-drop, length-take-le}
use Rattle.std.proofs.lemmas.List.Folds.{concat-append}
use Rattle.std.proofs.Math.Seq.{take-add, take-length}
use Rattle.dn_base.specs.Outside.{Taken, TakenAtMost, Added, AddedPrefix, AddedLess, AtEnd, IsWritten}

-- so many pieces were added whole, and then a prefix of the next
abbrev pub AddedPieces : Option (List ℕ) → Option (List ℕ) → List (List ℕ) → Type 0
AddedPieces before after pieces =
    (n : ℕ) × (k : ℕ) × Added before after (concat (take n pieces) ++ take k (get_or pieces n []))

-- pieces were written one after the other, and a stop came inside one of them or before one
pub record AreWritten (before after : Option (List ℕ)) (done failed : Bool) (pieces : List (List ℕ)) : Type 0 where
  pub joined : IsWritten before after done failed (concat pieces)
  pub stopped : AddedPieces before after pieces

-- options and results

-- what holds of every value holds of the one that is there
pub if_some : {A : Type 0} (o : Option A) (P : A → Type 0) → ((x : A) → P x) → IfSome o P
if_some None P h = tt
if_some (Some x) P h = h x

-- what follows from a fact of every value follows from that of the one that is there
pub if_some_then : {A : Type 0} (o : Option A) (P Q : A → Type 0) → ((x : A) → P x → Q x) → IfSome o P → IfSome o Q
if_some_then None P Q h p = tt
if_some_then (Some x) P Q h p = h x p

-- what follows from a fact follows from it where a call succeeded
pub on_ok_then : {A E : Type 0} (r : Result A E) (P Q : Type 0) → (P → Q) → OnOk r P → OnOk r Q
on_ok_then (Ok x) P Q h p = h p
on_ok_then (Err e) P Q h p = tt

-- what was taken

-- where the bytes were told before, they are told after, and the other way round
pub Taken-told : (a b : Option (List ℕ)) (x : List ℕ) → Taken a b x → is_some a ≡ is_some b
Taken-told a None x p = rw p refl
Taken-told a (Some rest) x p = rw p refl

-- nothing was taken where the same is left
pub Taken-none : (a b : Option (List ℕ)) → b ≡ a → Taken a b []
Taken-none a None p = sym p
Taken-none a (Some rest) p = sym p

-- what was taken in two steps was taken
pub Taken-then : (a b c : Option (List ℕ)) (x y : List ℕ) → Taken a b x → Taken b c y → Taken a c (x ++ y)
Taken-then a b None x y p q = rw q at p
Taken-then a b (Some rest) x y p q = (rw q at p) ∙ ap Some (sym (append_assoc x y rest))

-- two takes take no more than both allow
pub TakenAtMost-then : (limit : ℕ) (a b c : Option (List ℕ)) (x y : List ℕ) → Taken a b x → Taken b c y → length x + length y ≤ limit → TakenAtMost limit a c
TakenAtMost-then limit a b c x y p q small = (x ++ y, simp length-append small, Taken-then a b c x y p q)

-- what was taken up to a limit, or to the end, is the front of what was told
pub front_told : (limit : ℕ) (a b : Option (List ℕ)) (x : List ℕ) → Taken a b x → length x ≤ limit → (length x < limit → AtEnd b) → IfSome a (λ told. x ≡ take limit told)
front_told limit None b x p small end = tt
front_told limit (Some told) None x p small end = cc
front_told limit (Some told) (Some rest) x p small end = grind (arith, common_steps, append-nil)

-- and the rest of it is what is left
pub rest_told : (limit : ℕ) (a b : Option (List ℕ)) (x : List ℕ) → Taken a b x → length x ≤ limit → (length x < limit → AtEnd b) → b ≡ option_map (λ told. drop limit told) a
rest_told limit None None x p small end = refl
rest_told limit None (Some rest) x p small end = cc
rest_told limit (Some told) None x p small end = cc
rest_told limit (Some told) (Some rest) x p small end = grind (arith, common_steps, append-nil)

-- what was added

-- where the bytes were told before, they are told after, and the other way round
pub Added-told : (a b : Option (List ℕ)) (x : List ℕ) → Added a b x → is_some b ≡ is_some a
Added-told None b x p = rw p refl
Added-told (Some told) b x p = rw p refl

-- nothing was added where the same is told
pub Added-none : (a b : Option (List ℕ)) → b ≡ a → Added a b []
Added-none None b p = p
Added-none (Some told) b p = p ∙ ap Some (sym (append-nil told))

-- what was added in two steps was added
pub Added-then : (a b c : Option (List ℕ)) (x y : List ℕ) → Added a b x → Added b c y → Added a c (x ++ y)
Added-then None b c x y p q = rw p at q
Added-then (Some told) b c x y p q = (rw p at q) ∙ ap Some (append_assoc told x y)

-- a front, and then a front of the rest
pub Added-take : (a b c : Option (List ℕ)) (s : List ℕ) (i n : ℕ) → Added a b (take i s) → Added b c (take n (drop i s)) → Added a c (take (i + n) s)
Added-take a b c s i n p q =
    let P : List ℕ → Type 0 = λ front. Added a c front in
    subst P (sym (take-add i n s)) (Added-then a b c _ _ p q)

-- the same, where the rest is the slice from there
pub Added-tail : (a b c : Option (List ℕ)) (s : List ℕ) (i n : ℕ) → Added a b (take i s) → Added b c (take n (take (length s - i) (drop i s))) → Added a c (take (i + n) s)
Added-tail a b c s i n p q =
    let P : List ℕ → Type 0 = λ rest. Added b c (take n rest) in
    Added-take a b c s i n p (subst P (take_rest s i) q)

-- a prefix of what was to be added

-- all of it is a prefix of it
pub Added-prefix : (a b : Option (List ℕ)) (x : List ℕ) → Added a b x → AddedPrefix a b x
Added-prefix a b x p =
    let P : List ℕ → Type 0 = λ front. Added a b front in
    (length x, subst P (sym (take-length x)) p)

-- nothing is a prefix of it
pub prefix_none : (a b : Option (List ℕ)) (x : List ℕ) → b ≡ a → AddedPrefix a b x
prefix_none a b x p = (0, Added-none a b p)

-- what was added is a prefix of what it is the beginning of
pub prefix_by : (a b : Option (List ℕ)) (done rest all : List ℕ) → Added a b done → done ++ rest ≡ all → AddedPrefix a b all
prefix_by a b done rest all p e =
    let P : List ℕ → Type 0 = λ front. Added a b front in
    (length done, subst P (sym (ap (take (length done)) (sym e) ∙ take_at done rest (length done) refl)) p)

-- a prefix of a text that stands after another is, with that other before it, one of the whole
joined_prefix : (done x rest all : List ℕ) (k : ℕ) → done ++ (x ++ rest) ≡ all → (done ++ take k x) ++ (drop k x ++ rest) ≡ all
joined_prefix done x rest all k e =
    append_assoc done (take k x) (drop k x ++ rest)
    ∙ ap (λ (l : List ℕ). done ++ l) (sym (append_assoc (take k x) (drop k x) rest) ∙ ap (λ (l : List ℕ). l ++ rest) (take-append-drop k x))
    ∙ e

-- a prefix that was added after something
pub prefix_then : (a b c : Option (List ℕ)) (done x rest all : List ℕ) → Added a b done → AddedPrefix b c x → done ++ (x ++ rest) ≡ all → AddedPrefix a c all
prefix_then a b c done x rest all p (k, q) e =
    prefix_by a c (done ++ take k x) (drop k x ++ rest) all (Added-then a b c done (take k x) p q) (joined_prefix done x rest all k e)

-- a prefix that is not all of it, added after something
pub less_then : (a b c : Option (List ℕ)) (done x rest all : List ℕ) → Added a b done → AddedLess b c x → done ++ (x ++ rest) ≡ all → AddedLess a c all
less_then a b c done x rest all p (k, s, q) e =
    let P : List ℕ → Type 0 = λ front. Added a c front in
    let front : List ℕ = done ++ take k x in
    let is : take (length front) all ≡ front = ap (take (length front)) (sym (joined_prefix done x rest all k e)) ∙ take_at front (drop k x ++ rest) (length front) refl in
    let size : length front ≡ length done + k = length-append done (take k x) ∙ ap (λ (n : ℕ). length done + n) (length-take-le k x (omega (arith, s))) in
    let whole : length all ≡ length done + (length x + length rest) = ap length (sym e) ∙ length-append done (x ++ rest) ∙ ap (λ (n : ℕ). length done + n) (length-append x rest) in
    (length front, (omega (arith, s)), subst P (sym is) (Added-then a b c done (take k x) p q))

-- what was written

-- all of it
pub written_all : (a b : Option (List ℕ)) (x : List ℕ) → Added a b x → IsWritten a b true false x
written_all a b x p = record { whole = λ e. p; less = λ e. cc; front = Added-prefix a b x p }

-- a part of it, where a write failed
pub written_less : (a b : Option (List ℕ)) (x : List ℕ) → AddedLess a b x → IsWritten a b false true x
written_less a b x p = record { whole = λ e. cc; less = λ e. p; front = (p.0, p.2) }

-- what is said of a failed write is said of any stop
pub written_stopped : (a b : Option (List ℕ)) (failed : Bool) (x : List ℕ) → IsWritten a b false true x → IsWritten a b false failed x
written_stopped a b failed x w = record { whole = λ e. cc; less = λ e. w.less refl; front = w.front }

-- nothing of it
pub written_none : (a b : Option (List ℕ)) (x : List ℕ) → b ≡ a → IsWritten a b false false x
written_none a b x p = record { whole = λ e. cc; less = λ e. cc; front = prefix_none a b x p }

-- what was written in pieces

-- one piece
pub pieces_one : (a b : Option (List ℕ)) (done failed : Bool) (x : List ℕ) → IsWritten a b done failed x → AreWritten a b done failed (x ∷ [])
pieces_one a b done failed x w =
    let same : x ≡ x ++ [] = sym (append-nil x) in
    record {
      joined = subst (IsWritten a b done failed) same w;
      stopped = (0, w.front.0, w.front.1);
    }

-- the pieces and their number, as far as they stand before others
taken_pieces : (done rest all : List (List ℕ)) → done ++ rest ≡ all → take (length done) all ≡ done
taken_pieces done rest all e = ap (take (length done)) (sym e) ∙ take_at done rest (length done) refl

-- so many whole, and nothing of the next
pub pieces_so_far : (a b : Option (List ℕ)) (done rest all : List (List ℕ)) → Added a b (concat done) → done ++ rest ≡ all → AddedPieces a b all
pieces_so_far a b done rest all p e =
    let P : List ℕ → Type 0 = λ front. Added a b front in
    (length done, 0, subst P (sym (append-nil (concat (take (length done) all)) ∙ ap concat (taken_pieces done rest all e))) p)

-- the next piece after so many
next_piece : (done rest all : List (List ℕ)) (x : List ℕ) → done ++ x ∷ rest ≡ all → get_or all (length done) [] ≡ x
next_piece done rest all x e = ap (λ (l : List (List ℕ)). get_or l (length done) []) (sym e) ∙ at_end done
  where
    at_end : (ds : List (List ℕ)) → get_or (ds ++ x ∷ rest) (length ds) [] ≡ x
    at_end [] = refl
    at_end (d ∷ ds) = at_end ds

-- they were written so far, and nothing of the next
pub written_so_far : (a b : Option (List ℕ)) (done rest all : List (List ℕ)) → Added a b (concat done) → done ++ rest ≡ all → AreWritten a b false false all
written_so_far a b done rest all p e = record {
  joined = record {
    whole = λ t. cc;
    less = λ t. cc;
    front = prefix_by a b (concat done) (concat rest) (concat all) p (sym (concat-append done rest) ∙ ap concat e);
  };
  stopped = pieces_so_far a b done rest all p e;
}

-- nothing was written yet
pub pieces_none : (a b : Option (List ℕ)) (all : List (List ℕ)) → b ≡ a → AreWritten a b false false all
pieces_none a b all p = written_so_far a b [] all all (Added-none a b p) refl

-- all of them
pub written_whole : (a b : Option (List ℕ)) (all : List (List ℕ)) → Added a b (concat all) → AreWritten a b true false all
written_whole a b all p = record {
  joined = written_all a b (concat all) p;
  stopped = pieces_so_far a b all [] all p (append-nil all);
}

-- so many whole, and then the next was not
pub written_then : (a b c : Option (List ℕ)) (failed : Bool) (done rest all : List (List ℕ)) (x : List ℕ) → Added a b (concat done) → IsWritten b c false failed x → done ++ x ∷ rest ≡ all → AreWritten a c false failed all
written_then a b c failed done rest all x p w e =
    let joined : concat done ++ (x ++ concat rest) ≡ concat all = sym (concat-append done (x ∷ rest)) ∙ ap concat e in
    let P : List ℕ → Type 0 = λ front. Added a c front in
    let is : concat (take (length done) all) ++ take w.front.0 (get_or all (length done) []) ≡ concat done ++ take w.front.0 x =
    ap (λ (l : List (List ℕ)). concat l ++ take w.front.0 (get_or all (length done) [])) (taken_pieces done (x ∷ rest) all e)
    ∙ ap (λ (l : List ℕ). concat done ++ take w.front.0 l) (next_piece done rest all x e) in
    record {
      joined = record {
        whole = λ t. cc;
        less = λ t. less_then a b c (concat done) x (concat rest) (concat all) p (w.less t) joined;
        front = prefix_then a b c (concat done) x (concat rest) (concat all) p w.front joined;
      };
      stopped = (length done, w.front.0, subst P (sym is) (Added-then a b c (concat done) (take w.front.0 x) p w.front.1));
    }
