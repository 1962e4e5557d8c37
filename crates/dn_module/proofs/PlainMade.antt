-- Commands of which each expression is a number, indices of names among them, have no fault.
use Rattle.std.proofs.Common.{rules, ◌≡◌, refl, Bool, true, ℕ, List, [], ◌∷◌, Option, Some, None, Result, Ok, Err, IsTrue, is_ok, length}
use Rattle.std.proofs.lemmas.Bool.{and_parts, false≢true}
use Rattle.std.specs.List.{list_all}
use Rattle.dn_parse.specs.Tree.{Expression, constant, variable, sum, product, minus, Part, Order, resolve, lookup, view, grant, route, revoke, dump, split, absorb, radix, gather, Piece, Command as CommandOf}
use Rattle.dn_parse.specs.Plain.{is_constant, is_constant_index, is_constant_name, is_plain_piece, is_plain_order, are_plain}
use Rattle.dn_module.specs.declared.command.Command.{Command}
use Rattle.dn_module.specs.declared.command.PieceTarget.{PieceTarget}
use Rattle.dn_module.specs.declared.command.Target.{Target}
use Rattle.dn_scope.specs.Values.{◌>>=◌, Flaw, each, value, part_text, part_by, dotted_text}
use Rattle.dn_scope.specs.Faults.{at_line, ExpansionFault}
use Rattle.dn_module.specs.Drafts.{number_in}
use Rattle.dn_module.specs.Commands.{target_of, piece_target, command_of, commands_of, commands_or_none, node_within, pieces_within, nodes_within, makes_within}

-- what follows a part that has no fault has none by itself
ok_then : {A B E : Type 0} (r : Result A E) (f : A → Result B E) → is_ok r ≡ true → ((a : A) → is_ok (f a) ≡ true) → is_ok (r >>= f) ≡ true
ok_then (Ok a) f h k = k a
ok_then (Err e) f h k = absurd (false≢true h)

-- a number is its own value
constant_value : (e : Expression) → IsTrue (is_constant e) → is_ok (value e) ≡ true
constant_value (constant n) h = refl
constant_value (variable w) h = absurd (false≢true h)
constant_value (sum es) h = absurd (false≢true h)
constant_value (product es) h = absurd (false≢true h)
constant_value (minus e f) h = absurd (false≢true h)

-- the text of a part whose index is a number
constant_part : (title : List ℕ) (o : Option Expression) → IsTrue (is_constant_index o) → is_ok (part_by title o) ≡ true
constant_part title None h = refl
constant_part title (Some e) h = ok_then (value e) _ (constant_value e h) (λ n. refl)

-- the texts of the parts of a name whose indices are numbers
constant_texts : (ps : List Part) → IsTrue (is_constant_name ps) → is_ok (each part_text ps) ≡ true
constant_texts [] h = refl
constant_texts (p ∷ ps) h =
    let q = and_parts (is_constant_index p.index) (is_constant_name ps) h in
    ok_then (part_text p) _ (constant_part p.title p.index q.0) (λ t. ok_then (each part_text ps) (λ ts. Ok (t ∷ ts)) (constant_texts ps q.1) (λ ts. refl))

module _ (known : List (List ℕ)) (line : ℕ) where
  -- what a command makes of a part
  abbrev pub Within : Result Command Flaw → Type 0
  Within r = IsTrue (makes_within (length known) (at_line line r))

  valued : {A : Type 0} (P : Result A Flaw → Type 0) (e : Expression) (f : ℕ → Result A Flaw) → IsTrue (is_constant e) → ((n : ℕ) → P (f n)) → P (value e >>= f)
  valued P (constant n) f h k = k n
  valued P (variable w) f h k = absurd (false≢true h)
  valued P (sum es) f h k = absurd (false≢true h)
  valued P (product es) f h k = absurd (false≢true h)
  valued P (minus e g) f h k = absurd (false≢true h)

  there : (text : List ℕ) → IsTrue (node_within (length known) (number_in known text))
  there text = search rules

  targeted : {A : Type 0} (P : Result A Flaw → Type 0) (name : List Part) (f : Target → Result A Flaw) → IsTrue (is_constant_name name) → ((t : Target) → IsTrue (node_within (length known) t.node) → P (f t)) → P (target_of known name >>= f)
  targeted P name f h k = go (each part_text name) (constant_texts name h)
    where
      go : (r : Result (List (List ℕ)) Flaw) → is_ok r ≡ true → P (((r >>= (λ ts. Ok (dotted_text ts))) >>= (λ text. Ok (record { text = text; node = number_in known text }))) >>= f)
      go (Ok ts) e = k (record { text = dotted_text ts; node = number_in known (dotted_text ts) }) (there (dotted_text ts))
      go (Err e) q = absurd (false≢true q)

  -- what passes a test is made
  abbrev Makes : {A : Type 0} → (A → Bool) → Result A Flaw → Type 0
  Makes test (Ok a) = IsTrue (test a)
  Makes test (Err e) = ⊥

  abbrev PieceMade : Result PieceTarget Flaw → Type 0
  PieceMade = Makes (λ (q : PieceTarget). node_within (length known) q.node.node)

  plain_piece : (p : Piece) → IsTrue (is_plain_piece p) → PieceMade (piece_target known p)
  plain_piece p h =
      let q = and_parts (is_constant_name p.node) _ h in
      let r = and_parts (is_constant p.base) (is_constant p.size) q.1 in
      targeted PieceMade p.node _ q.0 (λ t w. valued PieceMade p.base _ r.0 (λ n. valued PieceMade p.size _ r.1 (λ s. w)))

  plain_pieces : (ps : List Piece) → IsTrue (list_all is_plain_piece ps) → Makes (pieces_within (length known)) (each (piece_target known) ps)
  plain_pieces [] h = refl
  plain_pieces (p ∷ ps) h = let q = and_parts (is_plain_piece p) _ h in by (piece_target known p) (each (piece_target known) ps) (plain_piece p q.0) (plain_pieces ps q.1)
    where
      by : (r : Result PieceTarget Flaw) (s : Result (List PieceTarget) Flaw) → PieceMade r → Makes (pieces_within (length known)) s → Makes (pieces_within (length known)) (r >>= (λ y. s >>= (λ ys. Ok (y ∷ ys))))
      by (Ok y) (Ok ys) w v = rw w v
      by (Ok y) (Err e) w v = absurd v
      by (Err e) s w v = absurd w

  pieced : (r : Result (List PieceTarget) Flaw) (f : List PieceTarget → Result Command Flaw) → Makes (pieces_within (length known)) r → ((ps : List PieceTarget) → IsTrue (pieces_within (length known) ps) → Within (f ps)) → Within (r >>= f)
  pieced (Ok ps) f h k = k ps h
  pieced (Err e) f h k = absurd h

  -- a plain command is made, and its nodes are there
  pub plain_made : (o : Order) → IsTrue (is_plain_order o) → Within (command_of known o)
  plain_made (resolve name e m) h = let p = and_parts (is_constant_name name) (is_constant e) h in targeted Within name _ p.0 (λ t w. valued Within e _ p.1 (λ n. w))
  plain_made (lookup name e m) h = let p = and_parts (is_constant_name name) (is_constant e) h in targeted Within name _ p.0 (λ t w. valued Within e _ p.1 (λ n. w))
  plain_made (view name m) h = targeted Within name _ h (λ t w. w)
  plain_made (grant id agent name e f m) h =
      let p = and_parts (is_constant_name agent) _ h in
      let q = and_parts (is_constant_name name) _ p.1 in
      let r = and_parts (is_constant e) (is_constant f) q.1 in
      targeted Within agent _ p.0 (λ a v. targeted Within name _ q.0 (λ t w. valued Within e _ r.0 (λ n. valued Within f _ r.1 (λ s. rw v w))))
  plain_made (route id agent e name) h =
      let p = and_parts (is_constant_name agent) _ h in
      let q = and_parts (is_constant e) (is_constant_name name) p.1 in
      targeted Within agent _ p.0 (λ a v. valued Within e _ q.0 (λ n. targeted Within name _ q.1 (λ t w. rw v w)))
  plain_made (revoke id) h = refl
  plain_made dump h = refl
  plain_made split h = refl
  plain_made (absorb name) h = targeted Within name _ h (λ t w. w)
  plain_made (radix name e) h = let p = and_parts (is_constant_name name) (is_constant e) h in targeted Within name _ p.0 (λ t w. valued Within e _ p.1 (λ n. w))
  plain_made (gather agent pieces m) h = let p = and_parts (is_constant_name agent) _ h in targeted Within agent _ p.0 (λ a v. pieced (each (piece_target known) pieces) _ (plain_pieces pieces p.1) (λ ps w. rw v w))

-- commands that are all plain are all made, and their nodes are there
pub plain_list : (known : List (List ℕ)) (cs : List CommandOf) → IsTrue (are_plain cs) → (is_ok (commands_of known cs) ≡ true) × IsTrue (list_all (nodes_within (length known)) (commands_or_none (commands_of known cs)))
plain_list known [] h = (refl, refl)
plain_list known (c ∷ cs) h = let p = and_parts (is_plain_order c.order) _ h in by (at_line c.line (command_of known c.order)) (commands_of known cs) (plain_made known c.line c.order p.0) (plain_list known cs p.1)
  where
    by : (r : Result Command ExpansionFault) (s : Result (List Command) ExpansionFault) → IsTrue (makes_within (length known) r) → (is_ok s ≡ true) × IsTrue (list_all (nodes_within (length known)) (commands_or_none s)) → (is_ok (r >>= (λ y. s >>= (λ ys. Ok (y ∷ ys)))) ≡ true) × IsTrue (list_all (nodes_within (length known)) (commands_or_none (r >>= (λ y. s >>= (λ ys. Ok (y ∷ ys))))))
    by (Ok y) (Ok ys) w q = (refl, rw w q.1)
    by (Ok y) (Err e) w q = absurd (false≢true q.0)
    by (Err e) s w q = absurd (false≢true w)

-- where no command has a fault, these are they
pub made_is : (r : Result (List Command) ExpansionFault) → is_ok r ≡ true → r ≡ Ok (commands_or_none r)
made_is (Ok cs) h = refl
made_is (Err e) h = absurd (false≢true h)
