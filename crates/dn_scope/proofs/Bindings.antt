-- The use of a module, from its arguments.
use Rattle.std.proofs.Common.{◌≡◌, ◌∙◌, ap, refl, ℕ, suc, ◌+◌, ◌<◌, Bool, true, false, cond, List, [], ◌∷◌, length, map, drop, get_or, sym, Option, Some, IfSome, Result, Ok, Err}
use Rattle.std.specs.Option.{option_map}
use Rattle.dn_base.proofs.Lists.{drop_at}
use Rattle.dn_parse.specs.declared.syntax.Param.{Param as CodeParam}
use Rattle.dn_parse.specs.declared.syntax.Arg.{Arg as CodeArg}
use Rattle.dn_parse.specs.Tree.{Param, number_param, node_param, Arg, number_arg, node_arg, Part}
use Rattle.dn_parse.specs.Views.{param_view, arg_view}
use Rattle.dn_scope.specs.declared.values.NameFault.{NameFault}
use Rattle.dn_scope.specs.declared.values.NameFault.TheVariants.{Flawed, OutOfMemory}
use Rattle.dn_scope.specs.Values.{Flaw, unknown_word, out_of_range, ◌>>=◌, each, full_name}
use Rattle.dn_scope.specs.Faults.{at_line, ExpansionFault, has_other_arguments, flaw_fault, name_fault_view}
use Rattle.dn_scope.specs.Uses.{Module, Work, statements, within_module, arguments_fit, fits_param, word_of_param, Given, given_by, numbers_of, nodes_of, used_body, use_rewriting, replaced_by}
use Rattle.dn_scope.specs.Replace.{Replacement, under, in_items, in_arg}

-- arguments that fit are as many as the parameters
pub fit_length : (ps : List Param) (xs : List Arg) → arguments_fit ps xs ≡ true → length ps ≡ length xs
fit_length [] [] h = refl
fit_length [] (x ∷ xs) h = cc
fit_length (p ∷ ps) [] h = cc
fit_length (p ∷ ps) (x ∷ xs) h = go (fits_param p x) (fit_length ps xs) h where
  go : (b : Bool) → (arguments_fit ps xs ≡ true → length ps ≡ length xs) → cond b (arguments_fit ps xs) false ≡ true → suc (length ps) ≡ suc (length xs)
  go true ih h = ap suc (ih h)
  go false ih h = cc

pub unfit : (ps : List Param) (xs : List Arg) → (length ps ≡ length xs → ⊥) → false ≡ arguments_fit ps xs
unfit ps xs differ = go (arguments_fit ps xs) refl where
  go : (b : Bool) → arguments_fit ps xs ≡ b → false ≡ b
  go true e = absurd (differ (fit_length ps xs e))
  go false e = refl

-- what is replaced in an argument leaves its sort
fits_in : (r : Replacement) (p : Param) (x : Arg) → fits_param p (in_arg r x) ≡ fits_param p x
fits_in r (number_param w) (number_arg e) = refl
fits_in r (number_param w) (node_arg ps) = refl
fits_in r (node_param w) (number_arg e) = refl
fits_in r (node_param w) (node_arg ps) = refl

pub fit_in : (r : Replacement) (ps : List Param) (xs : List Arg) → arguments_fit ps (map (in_arg r) xs) ≡ arguments_fit ps xs
fit_in r [] [] = refl
fit_in r [] (x ∷ xs) = refl
fit_in r (p ∷ ps) [] = refl
fit_in r (p ∷ ps) (x ∷ xs) = λ i. cond (fits_in r p x i) (fit_in r ps xs i) false

-- one parameter and its argument
pub fit_next : (ps : List CodeParam) (xs : List CodeArg) (i : ℕ) (p : CodeParam) (x : CodeArg) → i < length ps → i < length xs → p ≡ get_or ps i p → x ≡ get_or xs i x
    → arguments_fit (map param_view (drop i ps)) (map arg_view (drop i xs)) ≡ cond (fits_param (param_view p) (arg_view x)) (arguments_fit (map param_view (drop (i + 1) ps)) (map arg_view (drop (i + 1) xs))) false
fit_next ps xs i p x hp hx ep ex = λ j. arguments_fit (map param_view (drop_at ps i p hp ep j)) (map arg_view (drop_at xs i x hx ex j))

abbrev Pairs : Type 0
Pairs = List (List ℕ × ℕ) × List (List ℕ × List ℕ)

abbrev collected : List (List ℕ) → List Given → Result Pairs Flaw
collected ws gs = Ok (numbers_of ws gs, nodes_of ws gs)

-- the body of a use, by what is replaced in it
abbrev named_by : List ℕ → Pairs → Replacement
named_by text given = record { numbers = given.0; naming = under text given.1 }

abbrev pub body_works : ℕ → Module → Replacement → Result (List Work) ExpansionFault
body_works place m r = Ok (statements (within_module place) (in_items r m.body))

abbrev naming_of : Result (List ℕ) Flaw → Pairs → Result Replacement Flaw
naming_of t given = t >>= (λ text. Ok (named_by text given))

abbrev used_works : ℕ → Module → List Given → List ℕ → Result (List Work) ExpansionFault
used_works place m gs text = Ok (statements (within_module place) (used_body m gs text))

use_in : (line : ℕ) (xs : List Arg) (prefix : List Part) (place : ℕ) (m : Module) → arguments_fit m.params xs ≡ true
    → use_rewriting line xs prefix (Some (place, m)) ≡ (at_line line (replaced_by (map word_of_param m.params) xs prefix) >>= body_works place m)
use_in line xs prefix place m fits = rw fits (go (each given_by xs) (full_name prefix)) where
  go : (gs : Result (List Given) Flaw) (t : Result (List ℕ) Flaw)
      → (at_line line gs >>= (λ givens. at_line line t >>= used_works place m givens))
      ≡ (at_line line ((gs >>= collected (map word_of_param m.params)) >>= naming_of t) >>= body_works place m)
  go (Err unknown_word) t = refl
  go (Err out_of_range) t = refl
  go (Ok gs) (Err unknown_word) = refl
  go (Ok gs) (Err out_of_range) = refl
  go (Ok gs) (Ok text) = refl

-- the use of a module that was found, where its parameters have these words
module _ (line : ℕ) (r : Replacement) (args : List CodeArg) (prefix : List Part) (place : ℕ) (m : Module) (found : Option (ℕ × Module)) (is : found ≡ Some (place, m)) where
  abbrev pub inner_args : List Arg
  inner_args = map (in_arg r) (map arg_view args)

  pub unfit_use : arguments_fit m.params (map arg_view args) ≡ false → use_rewriting line inner_args prefix found ≡ Err (has_other_arguments line)
  unfit_use fits = ap (use_rewriting line inner_args prefix) is ∙ rw (fit_in r m.params (map arg_view args) ∙ fits) refl

  pub use_is : (words : List (List ℕ)) → words ≡ map word_of_param m.params → arguments_fit m.params (map arg_view args) ≡ true → use_rewriting line inner_args prefix found ≡ (at_line line (replaced_by words inner_args prefix) >>= body_works place m)
  use_is words same fits =
      ap (use_rewriting line inner_args prefix) is
      ∙ use_in line inner_args prefix place m (fit_in r m.params (map arg_view args) ∙ fits)
      ∙ ap (λ ws. at_line line (replaced_by ws inner_args prefix) >>= body_works place m) (sym same)

-- the flaw of a part is a fault of its statement
pub flaw_at : {X Y : Type 0} (line : ℕ) (fault : NameFault) (made : Result X Flaw) (f : X → Result Y ExpansionFault) (whole : Result Y ExpansionFault) → whole ≡ (at_line line made >>= f) → IfSome (name_fault_view fault) (λ g. made ≡ Err g) → IfSome (option_map (flaw_fault line) (name_fault_view fault)) (λ g. whole ≡ Err g)
flaw_at line (Flawed g) made f whole e is = e ∙ ap (λ m. at_line line m >>= f) is
flaw_at line OutOfMemory made f whole e is = tt
