-- Which of the commands of a script are still to come, and which one is next.
use Rattle.std.proofs.Common.{◌≡◌, ◌∙◌, ap, sym, subst, arith, ℕ, suc, ◌+◌, ◌-◌, ◌<◌, Bool, List, [], ◌∷◌, MatchOption, Option, None, Some, drop, length, get_or, IsTrue, add-one}
use Rattle.std.specs.List.{list_all}
use Rattle.std.proofs.lemmas.Bool.{and_parts}
use Rattle.std.proofs.lemmas.List.{length-drop}
use Rattle.std.proofs.Math.Seq.{drop-cons}

-- how many are behind, where these are still to come
abbrev pub place : {X : Type 0} → List X → List X → ℕ
place commands rest = length commands - length rest

-- a command is the next one, and these stand behind it
pub record IsNext {X : Type 0} (commands rest after : List X) (c : X) : Type 0 where
  pub front : rest ≡ c ∷ after
  pub within : place commands rest < length commands
  pub at : c ≡ get_or commands (place commands rest) c
  pub next : place commands after ≡ place commands rest + 1
  pub behind : after ≡ drop (place commands after) commands

abbrev head_of : {X : Type 0} → X → List X → X
head_of d [] = d
head_of d (c ∷ cs) = c

abbrev tail_of : {X : Type 0} → List X → List X
tail_of [] = []
tail_of (c ∷ cs) = cs

-- the first of those that are still to come is the next one
next_of : {X : Type 0} (commands rest after : List X) (c : X) → rest ≡ drop (place commands rest) commands → rest ≡ c ∷ after → IsNext commands rest after c
next_of commands rest after c there is =
    let i : ℕ = place commands rest in
    let size : length rest ≡ length commands - i = ap length there ∙ length-drop i commands in
    let more : length rest ≡ length after + 1 = ap length is ∙ sym (add-one (length after)) in
    let within : i < length commands = omega (arith, size, more) in
    let split : c ∷ after ≡ get_or commands i c ∷ drop (suc i) commands = sym is ∙ there ∙ drop-cons commands i c within in
    let next : place commands after ≡ i + 1 = omega (arith, size, more) in
    record {
      front = is;
      within = within;
      at = ap (head_of c) split;
      next = next;
      behind = ap tail_of split ∙ ap (λ n. drop n commands) (sym (next ∙ add-one i));
    }

-- none is behind, where all are still to come
pub first_place : {X : Type 0} (commands rest : List X) → rest ≡ commands → place commands rest ≡ 0
first_place commands rest is = let size : length rest ≡ length commands = ap length is in omega (arith, size)

pub first_rest : {X : Type 0} (commands rest : List X) → rest ≡ commands → rest ≡ drop (place commands rest) commands
first_rest commands rest is = is ∙ ap (λ n. drop n commands) (sym (first_place commands rest is))

-- all are behind, where none is still to come
last_place : {X : Type 0} (commands rest : List X) → rest ≡ [] → place commands rest ≡ length commands
last_place commands rest is = let none : length rest ≡ 0 = ap length is in omega (arith, none)

-- what a cursor tells of the first that is still to come, or of the end
abbrev pub Tells : {X : Type 0} → Option X → List X → List X → Type 0
Tells o rest after = MatchOption o ((rest ≡ []) × (after ≡ [])) (λ d. rest ≡ d ∷ after)

-- the one that a cursor gives is the next one
pub told_next : {X : Type 0} (commands rest after : List X) (o : Option X) (c : X) → rest ≡ drop (place commands rest) commands → Tells o rest after → o ≡ Some c → IsNext commands rest after c
told_next {X} commands rest after o c there told is = next_of commands rest after c there (subst (λ (p : Option X). Tells p rest after) is told)

-- where it gives none all are behind
pub told_end : {X : Type 0} (commands rest after : List X) (o : Option X) → Tells o rest after → o ≡ None → place commands rest ≡ length commands
told_end {X} commands rest after o told is = last_place commands rest (subst (λ (p : Option X). Tells p rest after) is told).0

-- what is true of all that are still to come is true of the next one, and of those behind it
pub known_next : {X : Type 0} (p : X → Bool) (rest after : List X) (c : X) → rest ≡ c ∷ after → IsTrue (list_all p rest) → IsTrue (p c) × IsTrue (list_all p after)
known_next {X} p rest after c is known = and_parts (p c) (list_all p after) (subst (λ (l : List X). IsTrue (list_all p l)) is known)
