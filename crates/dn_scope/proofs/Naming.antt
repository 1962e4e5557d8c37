-- Modules by their names, and the words of their parameters.
use Rattle.std.proofs.Common.{◌≡◌, ◌∙◌, ap, sym, refl, arith, ℕ, zero, suc, ◌+◌, ◌<◌, ◌≤◌, nat_lt, Bool, true, false, not, if◌then◌else◌, ◌||◌, cond, List, [], ◌∷◌, ◌++◌, length, map, take, drop, get_or, slice_get, position, is_some, Option, Some, None, Result, Ok, Err, OnOk, OnErr}
use Rattle.std.proofs.lemmas.Bool.Decides.{nat_tests}
use Rattle.std.proofs.lemmas.Bool.{ltb-false, ltb-true}
use Rattle.std.proofs.lemmas.List.{length-map, map_more, map-append, take-append-drop, take_all}
use Rattle.std.specs.List.{prefix_len, list_any}
use Rattle.std.specs.Str.{bytes_eq}
use Rattle.dn_parse.specs.declared.syntax.Param.{Param as CodeParam}
use Rattle.dn_parse.specs.Views.{param_view}
use Rattle.dn_scope.specs.declared.modules.Known.{Known}
use Rattle.dn_scope.specs.Uses.{Module, Visibility, outside, within_module, module_from, usable_modules, has_twice, is_module, word_of_param, with_module}
use Rattle.dn_scope.specs.Numbered.{is_known}
use Rattle.dn_scope.specs.Stack.{may_use, known_view}
use Rattle.dn_scope.proofs.Known.{twice-push, twice-append, found_is}
use Rattle.dn_scope.proofs.Scopes.{at_any}
use Rattle.dn_base.proofs.Orders.{one-add}
use Rattle.dn_scope.specs.Faults.{is_duplicate}

-- the place of the first module with a name, or past them all
place : List ℕ → List Module → ℕ
place title ms = prefix_len (λ w. not (bytes_eq title w)) (map (λ m. m.title) ms)

module _ (title : List ℕ) where
  at_place : (ms : List Module) (k : ℕ) (m : Module) → slice_get ms (place title ms) ≡ Some m → module_from k title ms ≡ Some (k + place title ms, m)
  unfolding place
  at_place [] k m h = cc
  at_place (x ∷ xs) k m h = go (bytes_eq title x.title) (at_place xs (suc k) m) h where
    p : ℕ
    p = place title xs

    go : (b : Bool) → (slice_get xs (place title xs) ≡ Some m → module_from (suc k) title xs ≡ Some (suc k + place title xs, m)) → slice_get (x ∷ xs) (cond (not b) (1 + place title xs) 0) ≡ Some m → cond b (Some (k, x)) (module_from (suc k) title xs) ≡ Some (k + cond (not b) (1 + place title xs) 0, m)
    go true ih h = let e : x ≡ m = cc in ap (λ y. Some (k, y)) e ∙ ap (λ (j : ℕ). Some (j, m)) (omega arith)
    go false ih h = ih (ap (slice_get (x ∷ xs)) (sym (one-add (place title xs))) ∙ h) ∙ ap (λ (j : ℕ). Some (j, m)) (omega arith)

  -- among the first ones
  taken : (ms : List Module) (k n : ℕ) → place title ms < n → module_from k title (take n ms) ≡ module_from k title ms
  unfolding place
  taken ms k zero h = absurd (omega arith)
  taken [] k (suc n) h = refl
  taken (x ∷ xs) k (suc n) h = go (bytes_eq title x.title) (taken xs (suc k) n) h where
    go : (b : Bool) → (place title xs < n → module_from (suc k) title (take n xs) ≡ module_from (suc k) title xs) → cond (not b) (1 + place title xs) 0 < suc n → cond b (Some (k, x)) (module_from (suc k) title (take n xs)) ≡ cond b (Some (k, x)) (module_from (suc k) title xs)
    go true ih h = refl
    go false ih h = ih (omega arith)

  cut : (ms : List Module) (k n : ℕ) → n ≤ place title ms → module_from k title (take n ms) ≡ None
  unfolding place
  cut ms k zero h = refl
  cut [] k (suc n) h = refl
  cut (x ∷ xs) k (suc n) h = go (bytes_eq title x.title) (cut xs (suc k) n) h where
    go : (b : Bool) → (n ≤ place title xs → module_from (suc k) title (take n xs) ≡ None) → suc n ≤ cond (not b) (1 + place title xs) 0 → cond b (Some (k, x)) (module_from (suc k) title (take n xs)) ≡ None
    go true ih h = absurd (omega arith)
    go false ih h = ih (omega arith)

  past : (ms : List Module) (k : ℕ) → length ms ≤ place title ms → module_from k title ms ≡ None
  unfolding place
  past [] k h = refl
  past (x ∷ xs) k h = go (bytes_eq title x.title) (past xs (suc k)) h where
    go : (b : Bool) → (length xs ≤ place title xs → module_from (suc k) title xs ≡ None) → suc (length xs) ≤ cond (not b) (1 + place title xs) 0 → cond b (Some (k, x)) (module_from (suc k) title xs) ≡ None
    go true ih h = absurd (omega arith)
    go false ih h = ih (omega arith)

  some_at : (b : Bool) (p i : ℕ) → cond b (Some p) None ≡ Some i → p ≡ i
  some_at true p i e = cc
  some_at false p i e = cc

  none_at : (b : Bool) (p : ℕ) → cond b (Some p) None ≡ None → b ≡ false
  none_at true p e = cc
  none_at false p e = refl

  module _ (ms : List Module) where
    -- the titles
    abbrev titles : List (List ℕ)
    titles = map (λ m. m.title) ms

    placed : (number : ℕ) → position (bytes_eq title) titles ≡ Some number → place title ms ≡ number
    unfolding place
    placed number e = some_at _ _ number e

    -- a module that may be used
    pub found_module : (s : Visibility) (number : ℕ) (m : Module) → position (bytes_eq title) titles ≡ Some number → slice_get ms number ≡ Some m → may_use s number ≡ true → module_from 0 title (usable_modules s ms) ≡ Some (number, m)
    found_module outside number m e at see = at_place ms 0 m (ap (slice_get ms) (placed number e) ∙ at) ∙ ap (λ (j : ℕ). Some (j, m)) (let f = placed number e in omega arith)
    found_module (within_module before) number m e at see =
        let f = placed number e in
        let less = ltb-true number before see in
        taken ms 0 before (omega arith) ∙ at_place ms 0 m (ap (slice_get ms) f ∙ at) ∙ ap (λ (j : ℕ). Some (j, m)) (omega arith)

    -- one that may not
    pub hidden_module : (s : Visibility) (number : ℕ) → position (bytes_eq title) titles ≡ Some number → may_use s number ≡ false → module_from 0 title (usable_modules s ms) ≡ None
    hidden_module outside number e see = cc
    hidden_module (within_module before) number e see =
        let f = placed number e in
        let more = ltb-false number before see in
        cut ms 0 before (omega arith)

    -- none with this name
    past_all : position (bytes_eq title) titles ≡ None → length ms ≤ place title ms
    unfolding place
    past_all e =
        let more = ltb-false _ _ (none_at _ _ e) in
        let same = length-map ms (λ (m : Module). m.title) in
        omega arith

    pub no_module : (s : Visibility) → position (bytes_eq title) titles ≡ None → module_from 0 title (usable_modules s ms) ≡ None
    no_module outside e = past ms 0 (past_all e)
    no_module (within_module before) e = go (nat_lt (place title ms) before) refl where
      go : (b : Bool) → nat_lt (place title ms) before ≡ b → module_from 0 title (take before ms) ≡ None
      go true t = taken ms 0 before (ltb-true _ _ t) ∙ past ms 0 (past_all e)
      go false t = cut ms 0 before (ltb-false _ _ t)

-- the names of the modules that are kept
pub titles_are : (ks : List Known) → map (λ m. m.title) (map known_view ks) ≡ map (λ k. k.module.title.now) ks
titles_are [] = refl
titles_are (k ∷ ks) = ap (λ l. k.module.title.now ∷ l) (titles_are ks)

pub is_module-titles : (ms : List Module) (title : List ℕ) → is_module ms title ≡ is_known (map (λ m. m.title) ms) title
is_module-titles [] title = refl
is_module-titles (m ∷ ms) title = ap (λ b. bytes_eq title m.title || b) (is_module-titles ms title)

pub is_once : (b : Bool) → true ≡ not b → b ≡ false
is_once true h = cc
is_once false h = refl

-- the words of parameters
abbrev pub param_words : List CodeParam → List (List ℕ)
param_words ps = map (λ p. word_of_param (param_view p)) ps

pub words_are : (ps : List CodeParam) → map word_of_param (map param_view ps) ≡ param_words ps
words_are [] = refl
words_are (p ∷ ps) = ap (λ l. word_of_param (param_view p) ∷ l) (words_are ps)

-- the word of a parameter, whatever stands for one past the end
abbrev word_at : List CodeParam → ℕ → CodeParam → List ℕ
word_at ps i d = word_of_param (param_view (get_or ps i d))

module _ (ps : List CodeParam) (i : ℕ) (d : CodeParam) (h : i < length ps) where
  words_more : has_twice (param_words (take (i + 1) ps)) ≡ (is_known (param_words (take i ps)) (word_at ps i d) || has_twice (param_words (take i ps)))
  words_more =
      ap has_twice (map_more (λ (q : CodeParam). word_of_param (param_view q)) ps i (get_or ps i d) h)
      ∙ twice-push (param_words (take i ps)) (word_of_param (param_view (get_or ps i (get_or ps i d))))
      ∙ ap (λ (q : CodeParam). is_known (param_words (take i ps)) (word_of_param (param_view q)) || has_twice (param_words (take i ps))) (sym (at_any ps i d h))

  -- a word that was there before comes twice
  pub word_met : is_known (param_words (take i ps)) (word_at ps i d) ≡ true → has_twice (param_words ps) ≡ true
  word_met k =
      let front : has_twice (param_words (take (i + 1) ps)) ≡ true = words_more ∙ ap (λ b. b || has_twice (param_words (take i ps))) k in
      let parts : param_words ps ≡ param_words (take (i + 1) ps) ++ param_words (drop (i + 1) ps) =
      ap param_words (sym (take-append-drop (i + 1) ps)) ∙ map-append (λ (q : CodeParam). word_of_param (param_view q)) (take (i + 1) ps) (drop (i + 1) ps) in
      ap has_twice parts ∙ twice-append (param_words (take (i + 1) ps)) (param_words (drop (i + 1) ps)) front

  -- one that was not there comes once
  pub word_new : is_known (param_words (take i ps)) (word_at ps i d) ≡ false → has_twice (param_words (take i ps)) ≡ false → has_twice (param_words (take (i + 1) ps)) ≡ false
  word_new k l = words_more ∙ ap (λ b. b || has_twice (param_words (take i ps))) k ∙ l

  -- the words of the parameters so far, and one more
  pub words_put : param_words (take i ps) ++ word_at ps i d ∷ [] ≡ param_words (take (i + 1) ps)
  words_put =
      ap (λ (q : CodeParam). param_words (take i ps) ++ word_of_param (param_view q) ∷ []) (at_any ps i d h)
      ∙ sym (map_more (λ (q : CodeParam). word_of_param (param_view q)) ps i (get_or ps i d) h)

-- a word that was put among others, by the answer of the table that keeps them
module _ (words : List (List ℕ)) (word : List ℕ) where
  pub was_known : (ws : List (List ℕ)) (w : List ℕ) (is_new : Bool) → is_new ≡ not (list_any (bytes_eq word) words) → word ≡ w → words ≡ ws → is_known ws w ≡ not is_new
  was_known ws w is_new e t k =
      ap (is_known ws) (sym t)
      ∙ ap (λ l. is_known l word) (sym k)
      ∙ twice_not (list_any (bytes_eq word) words)
      ∙ ap not (sym e)
    where
      twice_not : (b : Bool) → b ≡ not (not b)
      twice_not true = refl
      twice_not false = refl

  pub put_last : (now : List (List ℕ)) (is_new : Bool) → now ≡ (if is_new then words ++ word ∷ [] else words) → is_new ≡ true → now ≡ words ++ word ∷ []
  put_last now is_new e is = e ∙ ap (λ b. if b then words ++ word ∷ [] else words) is

pub words_all : (ps : List CodeParam) (i : ℕ) → length ps ≤ i → param_words (take i ps) ≡ map word_of_param (map param_view ps)
words_all ps i h = ap param_words (take_all i ps h) ∙ sym (words_are ps)

-- one more module: the limit, what is there already, and what becomes of it
few_modules : (n : ℕ) → n < 256 → nat_lt 256 (n + 1) ≡ false
few_modules n h = grind (arith, nat_tests)

-- there is room for one module more
pub module_room : (ks : List Known) → length ks < 256 → nat_lt 256 (length (map known_view ks) + 1) ≡ false
module_room ks h = ap (λ (n : ℕ). nat_lt 256 (n + 1)) (length-map ks known_view) ∙ few_modules (length ks) h

-- a module of a name is there exactly where the name is found
pub module_known : (names : List (List ℕ)) (ks : List Known) (title : List ℕ) (found : Option ℕ) → names ≡ map (λ k. k.module.title.now) ks → found ≡ position (bytes_eq title) names → is_module (map known_view ks) title ≡ is_some found
module_known names ks title found same is = is_module-titles (map known_view ks) title ∙ ap (λ l. is_known l title) (titles_are ks ∙ sym same) ∙ found_is names title found is

pub module_twice : (ms : List Module) (line : ℕ) (m : Module) → nat_lt 256 (length ms + 1) ≡ false → (is_module ms m.title || has_twice (map word_of_param m.params)) ≡ true → with_module ms line m ≡ Err (is_duplicate line)
module_twice ms line m n h = rw (n, h) refl

pub module_added : (ms : List Module) (line : ℕ) (m : Module) → nat_lt 256 (length ms + 1) ≡ false → (is_module ms m.title || has_twice (map word_of_param m.params)) ≡ false → with_module ms line m ≡ Ok (ms ++ m ∷ [])
module_added ms line m n h = rw (n, h) refl

-- by what a call answered
pub by_answer : {T E G A A' B B' : Type 0} (r : Result T E) → OnOk r A → OnOk r A' → OnErr r B → OnErr r B' → (A → A' → G) → (B → B' → G) → G
by_answer (Ok x) a a' b b' f g = f a a'
by_answer (Err e) a a' b b' f g = g b b'
