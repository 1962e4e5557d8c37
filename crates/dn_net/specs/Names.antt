-- Sets of names as ascending lists, and the names that a name comes to.
use Rattle.std.specs.Prelude.{◌≡◌, ℕ, zero, suc, Bool, if◌then◌else◌, ◌&&◌, ◌||◌, nat_lt, ◌==◌, true, List, [], ◌∷◌, ◌++◌, ◌↔◌}
use Rattle.dn_net.specs.declared.node.Name.{Name}
use Rattle.dn_net.specs.declared.node.NodeDecl.{NodeDecl}
use Rattle.dn_net.specs.Chain.{Member, IsChain, ReachesWithin, Ends}
use Rattle.dn_net.specs.Decode.{is_accepted, is_stop, steps, step_limit}

-- names are ordered by node, and then by address
abbrev pub name_lt : Name → Name → Bool
name_lt x y = nat_lt x.node y.node || ((x.node == y.node) && nat_lt x.addr y.addr)

-- two names are one
abbrev pub name_eq : Name → Name → Bool
name_eq x y = (x.node == y.node) && (x.addr == y.addr)

-- each name of the list comes before the next
abbrev pub is_before_first : Name → List Name → Bool
is_before_first x [] = true
is_before_first x (y ∷ ys) = name_lt x y

-- each name of the list comes before the next
abbrev pub is_ascending : List Name → Bool
is_ascending [] = true
is_ascending (x ∷ xs) = is_before_first x xs && is_ascending xs

-- the name put into an ascending list, which it leaves as it is where it is there
abbrev pub with_name : Name → List Name → List Name
with_name x [] = x ∷ []
with_name x (y ∷ ys) = if name_lt x y then x ∷ (y ∷ ys) else (if name_eq x y then y ∷ ys else y ∷ with_name x ys)

-- the names of a list, ascending and each once
abbrev pub sorted_names : List Name → List Name
sorted_names [] = []
sorted_names (x ∷ xs) = with_name x (sorted_names xs)

-- the names of a list that pass a test
abbrev pub passing_names : (Name → Bool) → List Name → List Name
passing_names p [] = []
passing_names p (x ∷ xs) = if p x then x ∷ passing_names p xs else passing_names p xs

-- the names one step on from those of a list
abbrev pub each_step : (Name → List Name) → List Name → List Name
each_step f [] = []
each_step f (x ∷ xs) = f x ++ each_step f xs

-- the names that are reached in exactly so many steps
abbrev pub after_steps : (Name → List Name) → ℕ → List Name → List Name
after_steps f zero xs = xs
after_steps f (suc n) xs = after_steps f n (each_step f xs)

-- the names that are reached in at most so many steps
abbrev pub reached_names : (Name → List Name) → ℕ → List Name → List Name
reached_names f zero xs = xs
reached_names f (suc n) xs = xs ++ reached_names f n (each_step f xs)

-- the names that pass a test among those reached in at most so many steps, ascending
abbrev pub end_names : (Name → List Name) → (Name → Bool) → ℕ → Name → List Name
end_names f passes n x = sorted_names (passing_names passes (reached_names f n (x ∷ [])))

-- what a name resolves to, ascending
abbrev pub resolved_names : List NodeDecl → Name → List Name
resolved_names net x = end_names (steps net) (is_accepted net) step_limit x

-- the stops of a name, ascending
abbrev pub stop_names : List NodeDecl → Name → List Name
stop_names net x = end_names (steps net) (is_stop net) step_limit x

-- The list has exactly the names that pass the test and end a chain of at most so many steps.
abbrev pub EndNamesAreEnds : Type 0
EndNamesAreEnds = (f : Name → List Name) (passes : Name → Bool) (n : ℕ) (x y : Name) →
    Member y (end_names f passes n x) ↔ Ends f passes n x y

-- The list ascends, so it has each name once.
abbrev pub EndNamesAscend : Type 0
EndNamesAscend = (f : Name → List Name) (passes : Name → Bool) (n : ℕ) (x : Name) →
    is_ascending (end_names f passes n x) ≡ true

-- The names that are reached in at most so many steps are the ends of the chains of at most that length.
abbrev pub ReachedIsWithin : Type 0
ReachedIsWithin = (f : Name → List Name) (n : ℕ) (x y : Name) →
    Member y (reached_names f n (x ∷ [])) ↔ ReachesWithin (λ a b. Member b (f a)) n x y

-- The names that are reached in exactly so many steps are the ends of the chains of that length.
abbrev pub AfterStepsIsChain : Type 0
AfterStepsIsChain = (f : Name → List Name) (n : ℕ) (x y : Name) →
    Member y (after_steps f n (x ∷ [])) ↔ IsChain (λ a b. Member b (f a)) n x y
