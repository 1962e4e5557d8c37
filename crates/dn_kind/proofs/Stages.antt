-- Names level by level: each level has the names one step on from those of the level before it.
use Rattle.std.proofs.Common.{◌≡◌, ◌∙◌, ap, sym, subst, refl, arith, ℕ, zero, suc, ◌+◌, ◌-◌, ◌<◌, ◌≤◌, ◌==◌, eqb-true, inl, inr, Bool, true, false, if◌then◌else◌, List, [], ◌∷◌, ◌++◌, length, append_assoc, append-nil, IsTrue, Result, Ok, Err, IfOk}
use Rattle.dn_base.proofs.Members.{member_left, member_right, member_cases}
use Rattle.dn_net.specs.declared.node.Name.{Name}
use Rattle.dn_net.specs.Names.{sorted_names, passing_names, each_step, reached_names, end_names}
use Rattle.dn_net.proofs.Resolution.{names_in, passing_in, each_in}
use Rattle.dn_kind.specs.Tables.{step_limit_under}
use Rattle.dn_kind.specs.Levels.{are_there}
use Rattle.dn_kind.proofs.Nodes.{sorted_there}
use Rattle.dn_kind.proofs.Sets.{Same, same_refl, sorted_same}

-- the names of so many levels, from a list on
abbrev pub levels : (Name → List Name) → ℕ → List Name → List Name
levels f zero xs = []
levels f (suc n) xs = xs ++ levels f n (each_step f xs)

levels_none : (f : Name → List Name) (n : ℕ) → levels f n [] ≡ []
levels_none f zero = refl
levels_none f (suc n) = levels_none f n

-- what is reached in so many steps is one level more
pub reached_levels : (f : Name → List Name) (n : ℕ) (xs : List Name) → reached_names f n xs ≡ levels f (suc n) xs
reached_levels f zero xs = sym (append-nil xs)
reached_levels f (suc n) xs = ap (λ (l : List Name). xs ++ l) (reached_levels f n (each_step f xs))

same_append : (xs ys vs ws : List Name) → Same xs vs → Same ys ws → Same (xs ++ ys) (vs ++ ws)
same_append xs ys vs ws s t z = (
  (λ m. elim (member_cases xs ys z m) [ inl n ↦ member_left vs ws z ((s z).0 n) | inr n ↦ member_right vs ws z ((t z).0 n) ]),
  (λ m. elim (member_cases vs ws z m) [ inl n ↦ member_left xs ys z ((s z).1 n) | inr n ↦ member_right xs ys z ((t z).1 n) ]),
)

same_each : (f : Name → List Name) (xs ys : List Name) → Same xs ys → Same (each_step f xs) (each_step f ys)
same_each f xs ys s z = (
  (λ m. let r = (each_in f xs z).0 m in (each_in f ys z).1 (r.0, (s r.0).0 r.1, r.2)),
  (λ m. let r = (each_in f ys z).0 m in (each_in f xs z).1 (r.0, (s r.0).1 r.1, r.2)),
)

same_levels : (f : Name → List Name) (n : ℕ) (xs ys : List Name) → Same xs ys → Same (levels f n xs) (levels f n ys)
same_levels f zero xs ys s = same_refl []
same_levels f (suc n) xs ys s = same_append xs (levels f n (each_step f xs)) ys (levels f n (each_step f ys)) s (same_levels f n (each_step f xs) (each_step f ys) (same_each f xs ys s))

same_passing : (p : Name → Bool) (xs ys : List Name) → Same xs ys → Same (passing_names p xs) (passing_names p ys)
same_passing p xs ys s z = (
  (λ m. let r = (passing_in p xs z).0 m in (passing_in p ys z).1 (r.0, (s z).0 r.1)),
  (λ m. let r = (passing_in p ys z).0 m in (passing_in p xs z).1 (r.0, (s z).1 r.1)),
)

passing_append : (p : Name → Bool) (xs ys : List Name) → passing_names p (xs ++ ys) ≡ passing_names p xs ++ passing_names p ys
passing_append p [] ys = refl
passing_append p (x ∷ xs) ys = go (passing_append p xs ys) (p x)
  where
    go : passing_names p (xs ++ ys) ≡ passing_names p xs ++ passing_names p ys → (b : Bool) → (if b then x ∷ passing_names p (xs ++ ys) else passing_names p (xs ++ ys)) ≡ (if b then x ∷ passing_names p xs else passing_names p xs) ++ passing_names p ys
    go e true = ap (λ (l : List Name). x ∷ l) e
    go e false = e

-- the ends of names of which some are known and the rest are those of so many levels more
abbrev pub ends_by : (Name → List Name) → (Name → Bool) → ℕ → List Name → List Name → List Name
ends_by f p n known level = sorted_names (known ++ passing_names p (levels f n level))

pub ends_at_start : (f : Name → List Name) (p : Name → Bool) (x : Name) → ends_by f p (suc step_limit_under - 0) [] (x ∷ []) ≡ end_names f p step_limit_under x
ends_at_start f p x =
    let e : suc step_limit_under - 0 ≡ suc step_limit_under = omega arith in
    ap (λ n. ends_by f p n [] (x ∷ [])) e ∙ ap (λ l. sorted_names (passing_names p l)) (sym (reached_levels f step_limit_under (x ∷ [])))

one_level : (f : Name → List Name) (p : Name → Bool) (n : ℕ) (known level : List Name) → ends_by f p (suc n) known level ≡ ends_by f p n (known ++ passing_names p level) (sorted_names (each_step f level))
one_level f p n known level =
    let next = each_step f level in
    ap (λ l. sorted_names (known ++ l)) (passing_append p level (levels f n next))
    ∙ ap sorted_names (sym (append_assoc known (passing_names p level) (passing_names p (levels f n next))))
    ∙ sorted_same ((known ++ passing_names p level) ++ passing_names p (levels f n next)) ((known ++ passing_names p level) ++ passing_names p (levels f n (sorted_names next))) (same_append (known ++ passing_names p level) (passing_names p (levels f n next)) (known ++ passing_names p level) (passing_names p (levels f n (sorted_names next))) (same_refl (known ++ passing_names p level)) (same_passing p (levels f n next) (levels f n (sorted_names next)) (same_levels f n next (sorted_names next) (λ z. ((names_in next z).1, (names_in next z).0)))))

-- one level is taken: its ends are known, and the next is at hand
pub ends_next : (f : Name → List Name) (p : Name → Bool) (i : ℕ) (known more level next result : List Name) → i < 260 → ends_by f p (suc step_limit_under - i) known level ≡ result → more ≡ known ++ passing_names p level → next ≡ sorted_names (each_step f level) → ends_by f p (suc step_limit_under - (i + 1)) more next ≡ result
unfolding step_limit_under
ends_next f p i known more level next result h so_far m n =
    let e : suc step_limit_under - i ≡ suc (suc step_limit_under - (i + 1)) = omega arith in
    ap (λ l. ends_by f p (suc step_limit_under - (i + 1)) l next) m
    ∙ ap (λ l. ends_by f p (suc step_limit_under - (i + 1)) (known ++ passing_names p level) l) n
    ∙ sym (one_level f p (suc step_limit_under - (i + 1)) known level)
    ∙ ap (λ k. ends_by f p k known level) (sym e)
    ∙ so_far

pub is_empty : (xs : List Name) → (length xs == 0) ≡ true → xs ≡ []
is_empty [] e = refl
is_empty (x ∷ xs) e = let h : length (x ∷ xs) ≡ 0 = eqb-true _ _ e in absurd (omega arith)

-- an empty level ends it
pub ends_at_empty : (f : Name → List Name) (p : Name → Bool) (n : ℕ) (known level result : List Name) → level ≡ [] → ends_by f p n known level ≡ result → sorted_names known ≡ result
ends_at_empty f p n known level result none so_far =
    ap sorted_names (sym (append-nil known))
    ∙ ap (λ l. sorted_names (known ++ passing_names p l)) (sym (ap (levels f n) none ∙ levels_none f n))
    ∙ so_far

-- and so does the last
pub ends_at_last : (f : Name → List Name) (p : Name → Bool) (i : ℕ) (known level result : List Name) → 260 ≤ i → ends_by f p (suc step_limit_under - i) known level ≡ result → sorted_names known ≡ result
unfolding step_limit_under
ends_at_last f p i known level result h so_far =
    let e : suc step_limit_under - i ≡ 0 = omega arith in
    ap sorted_names (sym (append-nil known)) ∙ ap (λ k. ends_by f p k known level) (sym e) ∙ so_far

-- what was answered is the set of these names, and they are in nodes that are there
pub set_there : {E : Type 0} (count : ℕ) (given xs : List Name) (r : Result (List Name) E) → given ≡ xs → IsTrue (are_there count xs) → IfOk r (λ s. s ≡ sorted_names given) → IfOk r (λ s. IsTrue (are_there count s))
set_there count given xs (Ok s) e h is = subst (λ (l : List Name). IsTrue (are_there count l)) (sym (is ∙ ap sorted_names e)) (sorted_there count xs h)
set_there count given xs (Err x) e h is = tt

-- the set of these names is the set of the ends
pub set_is_ends : {E : Type 0} (given result : List Name) (r : Result (List Name) E) → sorted_names given ≡ result → IfOk r (λ s. s ≡ sorted_names given) → IfOk r (λ s. s ≡ result)
set_is_ends given result (Ok s) e is = is ∙ e
set_is_ends given result (Err x) e is = tt

pub set_within : {E : Type 0} (count : ℕ) (given result : List Name) (r : Result (List Name) E) → sorted_names given ≡ result → IsTrue (are_there count result) → IfOk r (λ s. s ≡ sorted_names given) → IfOk r (λ s. IsTrue (are_there count s))
set_within count given result (Ok s) e h is = subst (λ (l : List Name). IsTrue (are_there count l)) (sym (is ∙ e)) h
set_within count given result (Err x) e h is = tt
