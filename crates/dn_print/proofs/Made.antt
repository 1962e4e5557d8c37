-- The nodes that a well-formed tree makes have full names, numbers that fit in 64 bits, and were added one after another.
use Rattle.std.proofs.Common.{◌≡◌, ◌∙◌, inl, inr, ap, sym, refl, subst, ℕ, zero, suc, ◌+◌, ◌-◌, ◌<◌, ◌≤◌, ◌^◌, Bool, true, false, cond, ◌||◌, nat_le, nat_lt, List, [], ◌∷◌, ◌++◌, map, take, get_or, length, Option, Some, None, Result, Ok, Err, arith, append-nil, ltb-true, leb-true, bytes_eq}
use Rattle.std.proofs.lemmas.List.{length-map}
use Rattle.std.proofs.lemmas.List.Quantifiers.{position-Some}
use Rattle.std.proofs.lemmas.Option.{slice_get-get_or}
use Rattle.std.proofs.lemmas.Slice.Eq.{bytes_eq-Decides}
use Rattle.dn_base.proofs.Lists.{Each}
use Rattle.dn_parse.specs.Tree.{Expression, constant, variable, sum, product, minus, Part, Block as BlockOf, Dest as DestOf, Entry as EntryOf, Spec, Role as RoleOf, Arg, number_arg, node_arg, Declaration, node, unit, Item, declared, module_of, instance, loop, Items, no_items, and_item, Tree}
use Rattle.dn_net.specs.declared.node.NodeDecl.{NodeDecl}
use Rattle.dn_kind.specs.Kind.{Meaning, kind_place}
use Rattle.dn_module.specs.declared.draft.Draft.{Draft}
use Rattle.dn_module.specs.declared.command.Command.{Command}
use Rattle.dn_scope.specs.Values.{out_of_range, ◌>>=◌, each, number_or_flaw, difference, value, values, value_or_default, value_within, sum_of, product_of, part_by, part_text, after_dots, dotted_text, full_name, full_name_or_none}
use Rattle.dn_scope.specs.Faults.{at_line, ExpansionFault, is_duplicate, has_other_arguments, passes_limit}
use Rattle.dn_module.specs.Drafts.{block_of, dest_of, entry_of, node_draft, known_kind, unit_draft, draft_of, draft_of_declaration, names, with_draft, node_of, node_number_of}
use Rattle.dn_module.specs.Commands.{commands_of}
use Rattle.dn_scope.specs.Replace.{under, one_number, in_items}
use Rattle.dn_scope.specs.Uses.{Module, Visibility, outside, within_module, Work, statement, turns, statements, word_of_param, has_twice, is_module, with_module, usable_modules, module_from, arguments_fit, Given, number, named, given_by, number_pair, node_pair, numbers_of, nodes_of, used_body, use_rewriting, turn_of}
use Rattle.dn_module.specs.Expand.{ExpansionState, nothing_yet, loop_of, item_rewriting, rewriting, all_rewritings, most_steps, Expansion, expansion_of}
use Rattle.dn_module.proofs.Yields.{Yields, any, bind, given, at_yields}
use Rattle.dn_print.specs.Statement.{kind_name, kind_text}
use Rattle.dn_print.proofs.Titles.{Title, IsFullName, full_one, full_both}
use Rattle.dn_print.proofs.Words.{IsWord, word_any}
use Rattle.dn_print.proofs.Formed.{Maybe, GoodBlock, GoodDest, GoodEntry, GoodNode, GoodUnit, GoodDraft, each_both}
use Rattle.dn_print.proofs.Trees.{Small, GoodPart, Some1, GoodName, SmallBlock, NamedDest, NamedEntry, GoodSpec, GoodDeclaration, GoodArg, GoodItem, GoodItems}
use Rattle.dn_print.proofs.Grown.{Grown, grown_more, added_fits}
use Rattle.dn_print.proofs.Kept.{Standing, IsSmallNumber, items_kept}

-- each item gives one
each_yields : {A B E : Type 0} (P : A → Type 0) (Q : B → Type 0) (f : A → Result B E) → ((a : A) → P a → Yields Q (f a)) → (xs : List A) → Each P xs → Yields (λ ys. Each Q ys × (length ys ≡ length xs)) (each f xs)
each_yields P Q f good [] h = record { it = (tt, refl) }
each_yields P Q f good (x ∷ xs) h = bind (f x) _ (good x h.0) (λ y p. bind (each f xs) _ (each_yields P Q f good xs h.1) (λ ys q. given ((p, q.0), ap (λ (n : ℕ). suc n) q.1)))

only_each : {A B E : Type 0} (P : A → Type 0) (Q : B → Type 0) (f : A → Result B E) → ((a : A) → P a → Yields Q (f a)) → (xs : List A) → Each P xs → Yields (Each Q) (each f xs)
only_each {A} {B} {E} P Q f good xs h = first (each f xs) (each_yields P Q f good xs h)
  where
    first : (r : Result (List B) E) → Yields (λ ys. Each Q ys × (length ys ≡ length xs)) r → Yields (Each Q) r
    first (Ok ys) g = record { it = g.it.0 }
    first (Err e) g = record { it = tt }

some_yields : {A B E : Type 0} (P : A → Type 0) (Q : B → Type 0) (f : A → Result B E) → ((a : A) → P a → Yields Q (f a)) → (xs : List A) → Some1 P xs → Yields (Some1 Q) (each f xs)
some_yields P Q f good [] h = absurd h
some_yields P Q f good (x ∷ xs) h = bind (f x) _ (good x h.0) (λ y p. bind (each f xs) _ (only_each P Q f good xs h.1) (λ ys q. given (p, q)))

-- values
fitting_yields : (n : ℕ) → Yields IsSmallNumber (number_or_flaw n)
fitting_yields n = go (nat_lt n (2 ^ 64)) refl
  where
    go : (b : Bool) → nat_lt n (2 ^ 64) ≡ b → Yields IsSmallNumber (cond b (Ok n) (Err out_of_range))
    go true e = record { it = ltb-true n (2 ^ 64) e }
    go false e = record { it = tt }

difference_yields : (a b : ℕ) → a < 2 ^ 64 → Yields IsSmallNumber (difference a b)
difference_yields a b h = go (nat_le b a)
  where
    go : (t : Bool) → Yields IsSmallNumber (cond t (Ok (a - b)) (Err out_of_range))
    go true = record { it = omega (arith, h) }
    go false = record { it = tt }

value_yields : (e : Expression) → Small e → Yields IsSmallNumber (value e)
value_yields (constant n) h = record { it = h }
value_yields (variable w) h = record { it = tt }
value_yields (sum es) h = bind (values es) _ (any (values es)) (λ ns p. fitting_yields (sum_of ns))
value_yields (product es) h = bind (values es) _ (any (values es)) (λ ns p. fitting_yields (product_of ns))
value_yields (minus e f) h = bind (value e) _ (value_yields e h.0) (λ a p. bind (value f) _ (any (value f)) (λ b q. difference_yields a b p))

value_or_yields : (n : ℕ) (o : Option Expression) → n < 2 ^ 64 → Maybe Small o → Yields IsSmallNumber (value_or_default n o)
value_or_yields n None h g = record { it = h }
value_or_yields n (Some e) h g = value_yields e g

-- names
part_by_yields : (w : List ℕ) (i : Option Expression) → Title w → Maybe Small i → Yields IsFullName (part_by w i)
part_by_yields w None t h = record { it = full_one (record { title = w; index = None }) (t, tt) }
part_by_yields w (Some e) t h = bind (value e) _ (value_yields e h) (λ n p. given (full_one (record { title = w; index = Some n }) (t, p)))

part_yields : (p : Part) → GoodPart p → Yields IsFullName (part_text p)
part_yields p (inl h) = part_by_yields p.title p.index h.0 h.1
part_yields p (inr h) = subst (λ (i : Option Expression). Yields IsFullName (part_by p.title i)) (sym h.1) (record { it = h.0 })

dotted_full : (t : List ℕ) (ts : List (List ℕ)) → IsFullName t → Each IsFullName ts → IsFullName (t ++ after_dots ts)
dotted_full t [] h g = subst IsFullName (sym (append-nil t)) h
dotted_full t (u ∷ us) h g = full_both t (u ++ after_dots us) h (dotted_full u us g.0 g.1)

some_dotted : (ts : List (List ℕ)) → Some1 IsFullName ts → IsFullName (dotted_text ts)
some_dotted [] h = absurd h
some_dotted (t ∷ ts) h = dotted_full t ts h.0 h.1

name_yields : (ps : List Part) → GoodName ps → Yields IsFullName (full_name ps)
name_yields ps h = bind (each part_text ps) _ (some_yields GoodPart IsFullName part_text part_yields ps h) (λ ts p. given (some_dotted ts p))

maybe_name_yields : (o : Option (List Part)) → Maybe GoodName o → Yields (Maybe IsFullName) (full_name_or_none o)
maybe_name_yields None h = record { it = tt }
maybe_name_yields (Some ps) h = bind (full_name ps) _ (name_yields ps h) (λ t p. given p)

-- the parts of a node
block_yields : (b : BlockOf) → SmallBlock b → Yields GoodBlock (block_of b)
block_yields b h = bind (value b.lo) _ (value_yields b.lo h.0) (λ lo p. bind (value_or_default lo b.hi) _ (value_or_yields lo b.hi p h.1) (λ hi q. given (p, q)))

dest_yields : (lo : ℕ) → lo < 2 ^ 64 → (d : DestOf) → NamedDest d → Yields GoodDest (dest_of lo d)
dest_yields lo l d h = bind (full_name d.name) _ (name_yields d.name h.0) (λ t p. bind (value_or_default lo d.addr) _ (value_or_yields lo d.addr l h.1) (λ a q. given (p, q)))

entry_yields : (e : EntryOf) → NamedEntry e → Yields GoodEntry (entry_of e)
entry_yields e h = bind (block_of e.block) _ (block_yields e.block h.0) (λ b p. bind (each (dest_of b.lo) e.dests) _ (each_yields NamedDest GoodDest (dest_of b.lo) (dest_yields b.lo p.0) e.dests h.1) (λ ds q. given (p, q.0, (let n = q.1 in let s = h.2 in omega (arith, n, s)), (let n = q.1 in let f = h.3 in omega (arith, n, f)))))

node_yields : (line : ℕ) (role : RoleOf) (name : List Part) (spec : Spec) → GoodName name → GoodSpec spec → Yields GoodNode (node_draft line role name spec)
node_yields line role name spec n s = bind (full_name name) _ (name_yields name n) (λ t p. bind (each block_of spec.accepts) _ (only_each SmallBlock GoodBlock block_of block_yields spec.accepts s.0) (λ a q. bind (each entry_of spec.entries) _ (only_each NamedEntry GoodEntry entry_of entry_yields spec.entries s.1) (λ m u. bind (full_name_or_none spec.over) _ (maybe_name_yields spec.over s.2) (λ o v. given (record { role = role; roles = refl; name = p; accepts = q; entries = u; over = v; no_unit = refl })))))

-- a unit: its kind is the first that is called by its word
kind_named : (kinds : List Meaning) (w : List ℕ) (k : ℕ) → kind_place kinds w ≡ Some k → kind_text kinds k ≡ w
kind_named [] w k e = cc
kind_named (m ∷ ms) w k e =
    let at = position-Some (λ (n : Meaning). bytes_eq w n.name) (m ∷ ms) k m e in
    ap kind_name (slice_get-get_or (m ∷ ms) k m at.0) ∙ sym ((bytes_eq-Decides w (get_or (m ∷ ms) k m).name).0 at.1)

abbrev IsPlaceOf : List Meaning → List ℕ → ℕ → Type 0
IsPlaceOf kinds w k = (kind_text kinds k ≡ w) × (kind_place kinds w ≡ Some k)

kind_yields : (kinds : List Meaning) (w : List ℕ) → Yields (IsPlaceOf kinds w) (known_kind (kind_place kinds w))
kind_yields kinds w = go (kind_place kinds w) refl
  where
    go : (o : Option ℕ) → kind_place kinds w ≡ o → Yields (IsPlaceOf kinds w) (known_kind o)
    go None e = record { it = tt }
    go (Some k) e = record { it = (kind_named kinds w k e, e) }

within_yields : (limit : ℕ) (e : Expression) → Yields (λ n. n ≤ limit) (value_within limit e)
within_yields limit e = bind (value e) _ (any (value e)) (λ n p. go n (nat_le n limit) refl)
  where
    go : (n : ℕ) (b : Bool) → nat_le n limit ≡ b → Yields (λ m. m ≤ limit) (cond b (Ok n) (Err out_of_range))
    go n true q = record { it = leb-true n limit q }
    go n false q = record { it = tt }

unit_yields : (kinds : List Meaning) (line : ℕ) (name : List Part) (kind : List ℕ) (page slots reach : Expression) (ports : List (List Part)) → GoodDeclaration (unit name kind page slots reach ports) → Yields (GoodUnit kinds) (unit_draft kinds line name kind page slots reach ports)
unit_yields kinds line name kind page slots reach ports h = bind (full_name name) _ (name_yields name h.0) (λ t p. bind (known_kind (kind_place kinds kind)) _ (kind_yields kinds kind) (λ k q. bind (value_within 255 page) _ (within_yields 255 page) (λ a pa. bind (value_within 4294967295 slots) _ (within_yields 4294967295 slots) (λ b pb. bind (value_within 255 reach) _ (within_yields 255 reach) (λ c pc. bind (each full_name ports) _ (each_yields GoodName IsFullName full_name name_yields ports h.2) (λ ts u. given (record {
  line = line;
  name = t;
  unit = record { kind = k; page = a; slots = b; reach = c; ports = ts };
  is = refl;
  full = p;
  parts = record {
    printable = λ known. let n = u.1 in let m = length-map ts (node_number_of known) in let some = h.3 in let few = h.4 in record {
      word = word_any _ (subst IsWord (sym q.0) h.1);
      first = subst (λ (w : List ℕ). kind_place kinds w ≡ Some k) (sym q.0) q.1;
      page = pa;
      slots = pb;
      reach = pc;
      some = omega (arith, n, m, some);
      few = omega (arith, n, m, few);
    };
    ports = u.0;
  };
})))))))

only_yields : {A E : Type 0} {P Q : A → Type 0} (r : Result A E) → ((a : A) → P a → Q a) → Yields P r → Yields Q r
only_yields (Ok a) f h = record { it = f a h.it }
only_yields (Err e) f h = record { it = tt }

draft_yields : (kinds : List Meaning) (line : ℕ) (d : Declaration) → GoodDeclaration d → Yields (GoodDraft kinds) (draft_of kinds line d)
draft_yields kinds line (node role name spec) h = only_yields _ (λ d g. inl g) (node_yields line role name spec h.0 h.1)
draft_yields kinds line (unit name kind page slots reach ports) h = only_yields _ (λ d g. inr g) (unit_yields kinds line name kind page slots reach ports h)

declared_yields : (kinds : List Meaning) (line : ℕ) (d : Declaration) → GoodDeclaration d → Yields (GoodDraft kinds) (draft_of_declaration kinds line d)
declared_yields kinds line d h = at_yields (GoodDraft kinds) line (draft_of kinds line d) (draft_yields kinds line d h)

-- the state so far, and what is still to be done
abbrev GoodModule : Module → Type 0
GoodModule m = GoodItems m.body

abbrev GoodDrafts : List Meaning → List Draft → Type 0
GoodDrafts kinds ds = Each (GoodDraft kinds) ds × Grown [] ds

abbrev GoodState : List Meaning → ExpansionState → Type 0
GoodState kinds s = Each GoodModule s.modules × GoodDrafts kinds s.drafts

abbrev GoodWork : Work → Type 0
GoodWork (statement s i) = GoodItem i
GoodWork (turns s line w a b body) = (a ≤ b) × (b < 2 ^ 64) × GoodItems body

abbrev GoodNext : List Meaning → List Work × ExpansionState → Type 0
GoodNext kinds p = Each GoodWork p.0 × GoodState kinds p.1

added_yields : (kinds : List Meaning) (ds : List Draft) (d : Draft) → GoodDrafts kinds ds → GoodDraft kinds d → Yields (GoodDrafts kinds) (with_draft ds d)
added_yields kinds ds d h g = go (with_draft ds d) refl
  where
    go : (r : Result (List Draft) ExpansionFault) → with_draft ds d ≡ r → Yields (GoodDrafts kinds) r
    go (Ok es) e =
        let a = added_fits ds es d e in
        record { it = subst (GoodDrafts kinds) (sym a.1) (each_both (GoodDraft kinds) ds (d ∷ []) h.0 (g, tt), grown_more [] ds d h.1 a.0) }
    go (Err f) e = record { it = tt }

module_yields : (modules : List Module) (line : ℕ) (m : Module) → Each GoodModule modules → GoodModule m → Yields (Each GoodModule) (with_module modules line m)
module_yields modules line m h g = go (nat_lt 256 (length modules + 1)) (is_module modules m.title || has_twice (map word_of_param m.params))
  where
    go : (a b : Bool) → Yields (Each GoodModule) (cond a (Err (passes_limit line 256)) (cond b (Err (is_duplicate line)) (Ok (modules ++ m ∷ []))))
    go true b = record { it = tt }
    go false true = record { it = tt }
    go false false = record { it = each_both GoodModule modules (m ∷ []) h (g, tt) }

statements_good : (s : Visibility) (is : Items) → GoodItems is → Each GoodWork (statements s is)
statements_good s no_items h = tt
statements_good s (and_item i is) h = (h.0, statements_good s is h.1)

take_good : (n : ℕ) (ms : List Module) → Each GoodModule ms → Each GoodModule (take n ms)
take_good zero ms h = tt
take_good (suc n) [] h = tt
take_good (suc n) (m ∷ ms) h = (h.0, take_good n ms h.1)

usable_good : (s : Visibility) (ms : List Module) → Each GoodModule ms → Each GoodModule (usable_modules s ms)
usable_good outside ms h = h
usable_good (within_module before) ms h = take_good before ms h

abbrev GoodFound : ℕ × Module → Type 0
GoodFound p = GoodModule p.1

found_good : (n : ℕ) (title : List ℕ) (ms : List Module) → Each GoodModule ms → Maybe GoodFound (module_from n title ms)
found_good n title [] h = tt
found_good n title (m ∷ ms) h = go (bytes_eq title m.title) (found_good (suc n) title ms h.1)
  where
    go : (b : Bool) → Maybe GoodFound (module_from (suc n) title ms) → Maybe GoodFound (cond b (Some (n, m)) (module_from (suc n) title ms))
    go true more = h.0
    go false more = more

-- arguments
abbrev GoodGiven : Given → Type 0
GoodGiven (number n) = n < 2 ^ 64
GoodGiven (named t) = IsFullName t

arg_yields : (a : Arg) → GoodArg a → Yields GoodGiven (given_by a)
arg_yields (number_arg e) h = bind (value e) _ (value_yields e h) (λ n p. given p)
arg_yields (node_arg ps) h = bind (full_name ps) _ (name_yields ps h) (λ t p. given p)

number_pair_good : (w : List ℕ) (g : Given) → GoodGiven g → Standing IsSmallNumber (number_pair w g)
number_pair_good w (number n) h = (h, tt)
number_pair_good w (named t) h = tt

node_pair_good : (w : List ℕ) (g : Given) → GoodGiven g → Standing IsFullName (node_pair w g)
node_pair_good w (number n) h = tt
node_pair_good w (named t) h = (h, tt)

numbers_good : (ws : List (List ℕ)) (gs : List Given) → Each GoodGiven gs → Standing IsSmallNumber (numbers_of ws gs)
numbers_good [] gs h = tt
numbers_good (w ∷ ws) [] h = tt
numbers_good (w ∷ ws) (g ∷ gs) h = each_both (λ (b : List ℕ × ℕ). IsSmallNumber b.1) (number_pair w g) (numbers_of ws gs) (number_pair_good w g h.0) (numbers_good ws gs h.1)

nodes_good : (ws : List (List ℕ)) (gs : List Given) → Each GoodGiven gs → Standing IsFullName (nodes_of ws gs)
nodes_good [] gs h = tt
nodes_good (w ∷ ws) [] h = tt
nodes_good (w ∷ ws) (g ∷ gs) h = each_both (λ (b : List ℕ × List ℕ). IsFullName b.1) (node_pair w g) (nodes_of ws gs) (node_pair_good w g h.0) (nodes_good ws gs h.1)

used_good : (m : Module) (gs : List Given) (prefix : List ℕ) → GoodModule m → Each GoodGiven gs → IsFullName prefix → GoodItems (used_body m gs prefix)
used_good m gs prefix h g p = items_kept m.body (record { numbers = numbers_of (map word_of_param m.params) gs; naming = under prefix (nodes_of (map word_of_param m.params) gs) }) (numbers_good (map word_of_param m.params) gs g, (p, nodes_good (map word_of_param m.params) gs g)) h

use_yields : (line : ℕ) (args : List Arg) (prefix : List Part) (o : Option (ℕ × Module)) → Each GoodArg args → GoodName prefix → Maybe GoodFound o → Yields (Each GoodWork) (use_rewriting line args prefix o)
use_yields line args prefix None h g f = record { it = tt }
use_yields line args prefix (Some p) h g f = go (arguments_fit p.1.params args)
  where
    works : Yields (Each GoodWork) (at_line line (each given_by args) >>= λ givens. at_line line (full_name prefix) >>= λ text. Ok (statements (within_module p.0) (used_body p.1 givens text)))
    works = bind (at_line line (each given_by args)) _ (at_yields (Each GoodGiven) line (each given_by args) (only_each GoodArg GoodGiven given_by arg_yields args h)) (λ gs u. bind (at_line line (full_name prefix)) _ (at_yields IsFullName line (full_name prefix) (name_yields prefix g)) (λ t v. given (statements_good (within_module p.0) (used_body p.1 gs t) (used_good p.1 gs t f u v))))

    go : (b : Bool) → Yields (Each GoodWork) (cond b (at_line line (each given_by args) >>= λ givens. at_line line (full_name prefix) >>= λ text. Ok (statements (within_module p.0) (used_body p.1 givens text))) (Err (has_other_arguments line)))
    go true = works
    go false = record { it = tt }

-- loops
turns_good : (s : Visibility) (line : ℕ) (w : List ℕ) (a b : ℕ) (body : Items) (t : Bool) → (t ≡ true → a ≤ b) → b < 2 ^ 64 → GoodItems body → Each GoodWork (cond t (turns s line w a b body ∷ []) [])
turns_good s line w a b body true l h g = ((l refl, h, g), tt)
turns_good s line w a b body false l h g = tt

loop_yields : (s : Visibility) (line : ℕ) (w : List ℕ) (from upto : Expression) (body : Items) → Small from → Small upto → GoodItems body → Yields (Each GoodWork) (loop_of s line w from upto body)
loop_yields s line w from upto body f u g = bind (at_line line (value from)) _ (any (at_line line (value from))) (λ a p. bind (at_line line (value upto)) _ (at_yields IsSmallNumber line (value upto) (value_yields upto u)) (λ b q. given (turns_good s line w a b body (nat_le a b) (λ e. leb-true a b e) q g)))

turn_good : (s : Visibility) (line : ℕ) (w : List ℕ) (a b : ℕ) (body : Items) → a ≤ b → b < 2 ^ 64 → GoodItems body → Each GoodWork (turn_of s line w a b body)
turn_good s line w a b body l h g =
    let small : a < 2 ^ 64 = omega (arith, l, h) in
    each_both GoodWork (statements s (in_items (one_number w a) body)) _ (statements_good s (in_items (one_number w a) body) (items_kept body (one_number w a) ((small, tt), tt) g)) (turns_good s line w (suc a) b body (nat_lt a b) (λ e. ltb-true a b e) h g)

-- one rewriting, and all
item_yields : (kinds : List Meaning) (s : Visibility) (state : ExpansionState) (i : Item) → GoodState kinds state → GoodItem i → Yields (GoodNext kinds) (item_rewriting kinds s state i)
item_yields kinds s state (declared line d) h g = bind (draft_of_declaration kinds line d) _ (declared_yields kinds line d g) (λ draft p. bind (with_draft state.drafts draft) _ (added_yields kinds state.drafts draft h.1 p) (λ ds q. given (tt, (h.0, q))))
item_yields kinds s state (module_of line title params body) h g = bind (with_module state.modules line (record { title = title; params = params; body = body })) _ (module_yields state.modules line (record { title = title; params = params; body = body }) h.0 g) (λ next p. given (tt, (p, h.1)))
item_yields kinds s state (instance line title args prefix) h g = bind (use_rewriting line args prefix (module_from 0 title (usable_modules s state.modules))) _ (use_yields line args prefix (module_from 0 title (usable_modules s state.modules)) g.0 g.1 (found_good 0 title (usable_modules s state.modules) (usable_good s state.modules h.0))) (λ works p. given (p, h))
item_yields kinds s state (loop line w from upto body) h g = bind (loop_of s line w from upto body) _ (loop_yields s line w from upto body g.0 g.1 g.2) (λ works p. given (p, h))

work_yields : (kinds : List Meaning) (state : ExpansionState) (w : Work) → GoodState kinds state → GoodWork w → Yields (GoodNext kinds) (rewriting kinds state w)
work_yields kinds state (statement s i) h g = item_yields kinds s state i h g
work_yields kinds state (turns s line w a b body) h g = record { it = (turn_good s line w a b body g.0 g.1 g.2, h) }

all_yields : (kinds : List Meaning) (left : ℕ) (ws : List Work) (state : ExpansionState) → Each GoodWork ws → GoodState kinds state → Yields (GoodState kinds) (all_rewritings kinds left ws state)
all_yields kinds zero [] state h g = record { it = g }
all_yields kinds (suc left) [] state h g = record { it = g }
all_yields kinds zero (w ∷ ws) state h g = record { it = tt }
all_yields kinds (suc left) (w ∷ ws) state h g = bind (rewriting kinds state w) _ (work_yields kinds state w g h.0) (λ next p. all_yields kinds left (next.0 ++ ws) next.1 (each_both GoodWork next.0 ws p.0 h.1) p.1)

-- the nodes that a net was made from
pub record From (kinds : List Meaning) (net : List NodeDecl) : Type 0 where
  pub drafts : List Draft
  pub good : Each (GoodDraft kinds) drafts
  pub grown : Grown [] drafts
  pub nodes_are : each (node_of (names drafts)) drafts ≡ Ok net

net_from : (kinds : List Meaning) (state : ExpansionState) (commands : Result (List Command) ExpansionFault) (net : Result (List NodeDecl) ExpansionFault) (made : Expansion) → GoodState kinds state → each (node_of (names state.drafts)) state.drafts ≡ net → (commands >>= λ cs. net >>= λ n. Ok (record { net = n; commands = cs })) ≡ Ok made → From kinds made.net
net_from kinds state (Ok cs) (Ok n) made h is e = let same : record { net = n; commands = cs } ≡ made = cc in subst (λ (o : Expansion). From kinds o.net) same (record { drafts = state.drafts; good = h.1.0; grown = h.1.1; nodes_are = is })
net_from kinds state (Ok cs) (Err f) made h is e = cc
net_from kinds state (Err f) net made h is e = cc

state_from : (kinds : List Meaning) (r : Result ExpansionState ExpansionFault) (tree : Tree) (made : Expansion) → Yields (GoodState kinds) r → (r >>= λ state. commands_of (names state.drafts) tree.commands >>= λ cs. each (node_of (names state.drafts)) state.drafts >>= λ n. Ok (record { net = n; commands = cs })) ≡ Ok made → From kinds made.net
state_from kinds (Ok state) tree made h e = net_from kinds state (commands_of (names state.drafts) tree.commands) (each (node_of (names state.drafts)) state.drafts) made h.it refl e
state_from kinds (Err f) tree made h e = cc

-- the net of a well-formed tree
pub made_from : (kinds : List Meaning) (tree : Tree) (made : Expansion) → GoodItems tree.body → expansion_of kinds tree ≡ Ok made → From kinds made.net
unfolding expansion_of
made_from kinds tree made h e = state_from kinds (all_rewritings kinds most_steps (statements outside tree.body) nothing_yet) tree made (all_yields kinds most_steps (statements outside tree.body) nothing_yet (statements_good outside tree.body h) (tt, (tt, tt))) e
