-- Replacing numbers in what was replaced before is replacing all of them at once.
use Rattle.std.proofs.Common.{◌≡◌, ◌∙◌, ap, sym, refl, ℕ, List, [], ◌∷◌, ◌++◌, map, true, false, Bool, not, Option, None, Some, option_map, cond}
use Rattle.std.proofs.lemmas.List.Elements.{filter-append}
use Rattle.std.proofs.lemmas.Cmp.{nat_list_eq_equiv}
use Rattle.std.specs.Str.{bytes_eq}
use Rattle.dn_parse.specs.Tree.{Expression, constant, variable, sum, product, minus, Expressions, no_expressions, and_expression, Part, Block, Dest, Entry, Spec, Arg, number_arg, node_arg, Declaration, node, unit, Item, declared, module_of, instance, loop, Items, no_items, and_item}
use Rattle.dn_scope.specs.Replace.{value_for_word, without_word, Naming, as_they_stand, under, Replacement, one_number, replacement_hiding, number_or, in_expression, in_expressions, in_option, in_part, prefixed_name, in_declared, word_of_name, node_by, named_or, in_reference, in_block, in_dest, in_entry, in_spec, in_arg, in_declaration, in_item, in_items}

abbrev Numbers : Type 0
Numbers = List (List ℕ × ℕ)

-- what was found, or what another list has
abbrev pub or_else : {A : Type 0} → Option A → Option A → Option A
or_else None o = o
or_else (Some a) o = Some a

-- what stands for each word by ks stands for it by ns or, where none does, by ms
pub record AreBoth (ns ms ks : Numbers) : Type 0 where
  pub each : (w : List ℕ) → value_for_word w ks ≡ value_for_word w (ns ++ ms)

-- a variable, by what stands for it in the first list
module _ (ms : Numbers) (w : List ℕ) where
  variable_again : (ns : Numbers) → in_expression ms (number_or w (value_for_word w ns)) ≡ number_or w (value_for_word w (ns ++ ms))
  variable_again [] = refl
  variable_again (b ∷ bs) = go (bytes_eq w b.0) (variable_again bs) where
    go : (t : Bool) → in_expression ms (number_or w (value_for_word w bs)) ≡ number_or w (value_for_word w (bs ++ ms)) → in_expression ms (number_or w (cond t (Some b.1) (value_for_word w bs))) ≡ number_or w (cond t (Some b.1) (value_for_word w (bs ++ ms)))
    go true e = refl
    go false e = e

map_again : {X : Type 0} (f g h : X → X) → ((x : X) → f (g x) ≡ h x) → (xs : List X) → map f (map g xs) ≡ map h xs
map_again f g h same [] = refl
map_again f g h same (x ∷ xs) = ap (λ y. y ∷ map f (map g xs)) (same x) ∙ ap (λ ys. h x ∷ ys) (map_again f g h same xs)

option_again : {X : Type 0} (f g h : X → X) → ((x : X) → f (g x) ≡ h x) → (o : Option X) → option_map f (option_map g o) ≡ option_map h o
option_again f g h same None = refl
option_again f g h same (Some x) = ap (λ y. Some y) (same x)

mutual
  in_expression-again : (ns ms ks : Numbers) → AreBoth ns ms ks → (e : Expression) → in_expression ms (in_expression ns e) ≡ in_expression ks e
  in_expression-again ns ms ks both (constant n) = refl
  in_expression-again ns ms ks both (variable w) = variable_again ms w ns ∙ ap (number_or w) (sym (both.each w))
  in_expression-again ns ms ks both (sum es) = ap sum (in_expressions-again ns ms ks both es)
  in_expression-again ns ms ks both (product es) = ap product (in_expressions-again ns ms ks both es)
  in_expression-again ns ms ks both (minus e f) =
      ap (λ x. minus x (in_expression ms (in_expression ns f))) (in_expression-again ns ms ks both e)
      ∙ ap (minus (in_expression ks e)) (in_expression-again ns ms ks both f)

  in_expressions-again : (ns ms ks : Numbers) → AreBoth ns ms ks → (es : Expressions) → in_expressions ms (in_expressions ns es) ≡ in_expressions ks es
  in_expressions-again ns ms ks both no_expressions = refl
  in_expressions-again ns ms ks both (and_expression e es) =
      ap (λ x. and_expression x (in_expressions ms (in_expressions ns es))) (in_expression-again ns ms ks both e)
      ∙ ap (and_expression (in_expression ks e)) (in_expressions-again ns ms ks both es)

module _ (ns ms ks : Numbers) (both : AreBoth ns ms ks) where
  in_option-again : (o : Option Expression) → in_option ms (in_option ns o) ≡ in_option ks o
  in_option-again o = option_again (in_expression ms) (in_expression ns) (in_expression ks) (in_expression-again ns ms ks both) o

  in_part-again : (p : Part) → in_part ms (in_part ns p) ≡ in_part ks p
  in_part-again p = λ i. record { title = p.title; index = in_option-again p.index i }

  in_parts-again : (ps : List Part) → map (in_part ms) (map (in_part ns) ps) ≡ map (in_part ks) ps
  in_parts-again ps = map_again (in_part ms) (in_part ns) (in_part ks) in_part-again ps

  in_block-again : (b : Block) → in_block ms (in_block ns b) ≡ in_block ks b
  in_block-again b = λ i. record { lo = in_expression-again ns ms ks both b.lo i; hi = in_option-again b.hi i }

  prefixed-again : (nm : Naming) (ps : List Part) → map (in_part ms) (prefixed_name nm (map (in_part ns) ps)) ≡ prefixed_name nm (map (in_part ks) ps)
  prefixed-again as_they_stand ps = in_parts-again ps
  prefixed-again (under text nodes) ps = ap (λ qs. record { title = text; index = None } ∷ qs) (in_parts-again ps)

  named_or-again : (o : Option (List ℕ)) (ps qs : List Part) → map (in_part ms) ps ≡ qs → map (in_part ms) (named_or o ps) ≡ named_or o qs
  named_or-again None ps qs e = e
  named_or-again (Some text) ps qs e = refl

  module _ (nm : Naming) where
    -- what is replaced first, then, and at once
    abbrev first : Replacement
    first = record { numbers = ns; naming = nm }

    abbrev then : Replacement
    then = record { numbers = ms; naming = as_they_stand }

    abbrev whole : Replacement
    whole = record { numbers = ks; naming = nm }

    in_declared-again : (ps : List Part) → in_declared then (in_declared first ps) ≡ in_declared whole ps
    in_declared-again ps = prefixed-again nm ps

    in_reference-again : (ps : List Part) → in_reference then (in_reference first ps) ≡ in_reference whole ps
    in_reference-again ps = named_or-again (node_by nm (word_of_name ps)) (in_declared first ps) (in_declared whole ps) (in_declared-again ps)

    in_dest-again : (d : Dest) → in_dest then (in_dest first d) ≡ in_dest whole d
    in_dest-again d = λ i. record { name = in_reference-again d.name i; addr = in_option-again d.addr i }

    in_entry-again : (e : Entry) → in_entry then (in_entry first e) ≡ in_entry whole e
    in_entry-again e = λ i. record { block = in_block-again e.block i; dests = map_again (in_dest then) (in_dest first) (in_dest whole) in_dest-again e.dests i }

    in_spec-again : (s : Spec) → in_spec then (in_spec first s) ≡ in_spec whole s
    in_spec-again s = λ i. record {
      accepts = map_again (in_block ms) (in_block ns) (in_block ks) in_block-again s.accepts i;
      entries = map_again (in_entry then) (in_entry first) (in_entry whole) in_entry-again s.entries i;
      over = option_again (in_reference then) (in_reference first) (in_reference whole) in_reference-again s.over i;
    }

    in_arg-again : (a : Arg) → in_arg then (in_arg first a) ≡ in_arg whole a
    in_arg-again (number_arg e) = ap number_arg (in_expression-again ns ms ks both e)
    in_arg-again (node_arg ps) = ap node_arg (in_reference-again ps)

    in_declaration-again : (d : Declaration) → in_declaration then (in_declaration first d) ≡ in_declaration whole d
    in_declaration-again (node role name spec) = λ i. node role (in_declared-again name i) (in_spec-again spec i)
    in_declaration-again (unit name kind page slots reach ports) = λ i.
        unit (in_declared-again name i) kind (in_expression-again ns ms ks both page i) (in_expression-again ns ms ks both slots i) (in_expression-again ns ms ks both reach i)
        (map_again (in_reference then) (in_reference first) (in_reference whole) in_reference-again ports i)

-- a word is not among those that it hides
value_for_word-without : {A : Type 0} (w v : List ℕ) (xs : List (List ℕ × A)) → value_for_word v (without_word w xs) ≡ cond (bytes_eq w v) None (value_for_word v xs)
value_for_word-without {A = A} w v [] = none_left (bytes_eq w v) where
  none_left : (t : Bool) → ◌≡◌ {A = Option A} None (cond t None None)
  none_left true = refl
  none_left false = refl
value_for_word-without w v (b ∷ bs) = go (bytes_eq w b.0) refl (value_for_word-without w v bs) where
  kept : (s t : Bool) → value_for_word v (without_word w bs) ≡ cond t None (value_for_word v bs) → (s ≡ true → t ≡ false) → cond s (Some b.1) (value_for_word v (without_word w bs)) ≡ cond t None (cond s (Some b.1) (value_for_word v bs))
  kept true true e h = let f : true ≡ false = h refl in cc
  kept true false e h = refl
  kept false t e h = e

  gone : (s t : Bool) → value_for_word v (without_word w bs) ≡ cond t None (value_for_word v bs) → t ≡ s → value_for_word v (without_word w bs) ≡ cond t None (cond s (Some b.1) (value_for_word v bs))
  gone true true e h = e
  gone false false e h = e
  gone true false e h = cc
  gone false true e h = cc

  go : (t : Bool) → bytes_eq w b.0 ≡ t → value_for_word v (without_word w bs) ≡ cond (bytes_eq w v) None (value_for_word v bs) → value_for_word v (cond (not t) (b ∷ without_word w bs) (without_word w bs)) ≡ cond (bytes_eq w v) None (value_for_word v (b ∷ bs))
  go true is e = gone (bytes_eq v b.0) (bytes_eq w v) e (nat_list_eq_equiv.congr w b.0 v is ∙ nat_list_eq_equiv.symm b.0 v)
  go false is e = kept (bytes_eq v b.0) (bytes_eq w v) e (λ s. nat_list_eq_equiv.symm w v ∙ nat_list_eq_equiv.congr v b.0 w s ∙ nat_list_eq_equiv.symm b.0 w ∙ is)

-- hiding a word in both
both_without : (w : List ℕ) (ns ms ks : Numbers) → AreBoth ns ms ks → AreBoth (without_word w ns) (without_word w ms) (without_word w ks)
both_without w ns ms ks both = record {
  each = λ v.
      value_for_word-without w v ks
      ∙ ap (λ o. cond (bytes_eq w v) None o) (both.each v)
      ∙ sym (value_for_word-without w v (ns ++ ms))
      ∙ ap (value_for_word v) (filter-append (λ b. not (bytes_eq w b.0)) ns ms);
}

mutual
  in_item-again : (ns ms ks : Numbers) → AreBoth ns ms ks → (nm : Naming) (i : Item) → in_item (record { numbers = ms; naming = as_they_stand }) (in_item (record { numbers = ns; naming = nm }) i) ≡ in_item (record { numbers = ks; naming = nm }) i
  in_item-again ns ms ks both nm (declared line d) = ap (declared line) (in_declaration-again ns ms ks both nm d)
  in_item-again ns ms ks both nm (module_of line title params body) = refl
  in_item-again ns ms ks both nm (instance line title args text) = λ i.
      instance line title (map_again (in_arg (then ns ms ks both nm)) (in_arg (first ns ms ks both nm)) (in_arg (whole ns ms ks both nm)) (in_arg-again ns ms ks both nm) args i) (in_declared-again ns ms ks both nm text i)
  in_item-again ns ms ks both nm (loop line w from upto body) = λ i.
      loop line w (in_expression-again ns ms ks both from i) (in_expression-again ns ms ks both upto i) (in_items-again (without_word w ns) (without_word w ms) (without_word w ks) (both_without w ns ms ks both) nm body i)

  pub in_items-again : (ns ms ks : Numbers) → AreBoth ns ms ks → (nm : Naming) (is : Items) → in_items (record { numbers = ms; naming = as_they_stand }) (in_items (record { numbers = ns; naming = nm }) is) ≡ in_items (record { numbers = ks; naming = nm }) is
  in_items-again ns ms ks both nm no_items = refl
  in_items-again ns ms ks both nm (and_item i is) = λ j. and_item (in_item-again ns ms ks both nm i j) (in_items-again ns ms ks both nm is j)

pub value_for_word-append : {A : Type 0} (v : List ℕ) (xs ys : List (List ℕ × A)) → value_for_word v (xs ++ ys) ≡ or_else (value_for_word v xs) (value_for_word v ys)
value_for_word-append v [] ys = refl
value_for_word-append v (b ∷ bs) ys = go (bytes_eq v b.0) (value_for_word-append v bs ys) where
  go : (t : Bool) → value_for_word v (bs ++ ys) ≡ or_else (value_for_word v bs) (value_for_word v ys) → cond t (Some b.1) (value_for_word v (bs ++ ys)) ≡ or_else (cond t (Some b.1) (value_for_word v bs)) (value_for_word v ys)
  go true e = refl
  go false e = e

or_none : (o : Option ℕ) → o ≡ or_else o None
or_none None = refl
or_none (Some n) = refl

innermost : (a : ℕ) (o : Option ℕ) (s t : Bool) → t ≡ s → cond s (Some a) o ≡ or_else (cond t None o) (cond s (Some a) None)
innermost a o true true e = refl
innermost a o false false e = or_none o
innermost a o true false e = cc
innermost a o false true e = cc

-- the innermost variable, and the rest without it
entered : (w : List ℕ) (a : ℕ) (ns : Numbers) (v : List ℕ) → value_for_word v ((w, a) ∷ ns) ≡ value_for_word v (without_word w ns ++ (w, a) ∷ [])
entered w a ns v =
    innermost a (value_for_word v ns) (bytes_eq v w) (bytes_eq w v) (nat_list_eq_equiv.symm w v)
    ∙ ap (λ o. or_else o (cond (bytes_eq v w) (Some a) None)) (sym (value_for_word-without w v ns))
    ∙ sym (value_for_word-append v (without_word w ns) ((w, a) ∷ []))

-- one variable replaced in what was replaced without it
pub one_more : (w : List ℕ) (a : ℕ) (r : Replacement) (is : Items) → in_items (one_number w a) (in_items (replacement_hiding w r) is) ≡ in_items (record { numbers = (w, a) ∷ r.numbers; naming = r.naming }) is
one_more w a r is = in_items-again (without_word w r.numbers) ((w, a) ∷ []) ((w, a) ∷ r.numbers) (record { each = entered w a r.numbers }) r.naming is
