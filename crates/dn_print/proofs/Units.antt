-- The statement of a unit as it is printed: its tokens, what is read from them, and the unit that this declares.
use Rattle.std.proofs.Common.{◌≡◌, ◌∙◌, inl, inr, ap, sym, refl, subst, ℕ, ◌<◌, ◌≤◌, ◌^◌, nat_le, true, List, [], ◌∷◌, ◌++◌, map, length, codes, Some, Ok, IsTrue, arith, append_assoc, le-leb}
use Rattle.std.specs.Fmt.{decimal}
use Rattle.std.specs.List.{list_all}
use Rattle.dn_token.specs.declared.token.Keyword.TheVariants.{Unit as UnitWord, Kind, Page, Slots, Reach, To}
use Rattle.dn_token.specs.declared.token.Sign.TheVariants.{Semicolon, Comma}
use Rattle.dn_token.specs.Token.{Token, word_lexeme}
use Rattle.dn_token.specs.Words.{spelling}
use Rattle.dn_parse.specs.Tree.{constant, Part, Declaration, unit, declares}
use Rattle.dn_parse.specs.Descent.{any_of, after_sign, after_keyword, sign_at, keyword_at, any_word_at, measure_at, name_at, next_port_at, ports_at, unit_declaration_at, keyword_statement_at, statement_at, whole_statement_at}
use Rattle.dn_net.specs.declared.node.NodeDecl.{NodeDecl}
use Rattle.dn_net.specs.declared.node.Role.TheVariants.{Unit as UnitRole}
use Rattle.dn_kind.specs.Kind.{Meaning, kind_place}
use Rattle.dn_module.specs.declared.draft.Draft.{Draft}
use Rattle.dn_module.specs.declared.draft.DraftUnit.{DraftUnit}
use Rattle.dn_scope.specs.Values.{each, full_name}
use Rattle.dn_scope.specs.Numbered.{is_known}
use Rattle.dn_module.specs.Drafts.{draft_of_declaration, refers_to_known, node_number_of, unit_by_numbers, node_in}
use Rattle.dn_print.specs.Statement.{marked_texts, node_name, kind_text, ports_text, unit_text, statement_text}
use Rattle.dn_base.proofs.Lists.{Each}
use Rattle.dn_print.proofs.Titles.{IsFullName}
use Rattle.dn_print.proofs.Words.{IsWord, any_word}
use Rattle.dn_print.proofs.Formed.{GoodParts, GoodDraft, few_ports, some_ports, unit_with}
use Rattle.dn_print.proofs.Lexes.{number_token, sign_token, keyword_token, Closed, Quiet, closed_then, open_then, word_closed, decimal_closed, keyword_open, keyword_between}
use Rattle.dn_print.proofs.Shown.{Shown, row_shown, most_shown}
use Rattle.dn_print.proofs.Labels.{NameEnd, number_read, name_shown}
use Rattle.dn_print.proofs.Pieces.{Named, CommasEnd, comma_mark, each_passes, to_quiet}
use Rattle.dn_print.proofs.Nodes.{Said, node_said, end_lexed, marked_lexed}

-- the ports of a unit
abbrev PortsEnd : List Token → Type 0
PortsEnd rest = CommasEnd NameEnd rest

port_shown : (net : List NodeDecl) (known : List (List ℕ)) → Named net known → (line : ℕ) (t : List ℕ) → IsFullName t → IsTrue (is_known known t) → Shown line (node_name net (node_number_of known t)) (name_at 32) NameEnd full_name t
port_shown net known named line t h k =
    let name = name_shown line t h in
    record {
      tokens = name.tokens;
      tree = name.tree;
      lexed = subst (λ (u : List ℕ). Closed line u name.tokens) (sym (named t k)) name.lexed;
      read = name.read;
      valued = name.valued;
    }

comma_ends_name : (line : ℕ) (ts : List Token) → NameEnd (sign_token line Comma ∷ ts)
unfolding after_sign
comma_ends_name line ts = (refl, refl)

ports_shown : (net : List NodeDecl) (known : List (List ℕ)) → Named net known → (line : ℕ) (ts : List (List ℕ)) → Each IsFullName ts → 1 ≤ length ts → length ts ≤ 8 → IsTrue (list_all (is_known known) ts) → Shown line (ports_text net (map (node_number_of known) ts)) ports_at PortsEnd (each full_name) ts
unfolding ports_at next_port_at
ports_shown net known named line [] h some few k = absurd (omega (arith, some))
ports_shown net known named line (t ∷ ts) h some few k =
    let all = each_passes IsFullName (is_known known) (t ∷ ts) h k in
    let one = λ (u : List ℕ) (g : IsFullName u × IsTrue (is_known known u)). port_shown net known named line u g.0 g.1 in
    most_shown 7 (omega (arith, few)) (one t all.0) (row_shown (comma_mark line (name_at 32) NameEnd (comma_ends_name line)) (λ (u : List ℕ). IsFullName u × IsTrue (is_known known u)) (λ (u : List ℕ). node_name net (node_number_of known u)) (λ (us : List (List ℕ)). marked_texts (codes ", ") (node_name net) (map (node_number_of known) us)) refl (λ u us. refl) one ts all.1)

-- the word of a kind
abbrev kind_token : ℕ → List ℕ → Token
kind_token line w = record { lexeme = word_lexeme w; line = line }

kind_closed : (line : ℕ) (w : List ℕ) → IsWord w → Closed line w (kind_token line w ∷ [])
kind_closed line [] h = absurd h
kind_closed line (b ∷ w) h = word_closed line b w (word_lexeme (b ∷ w)) h.0 h.1 refl

kind_any : (w : List ℕ) → IsWord w → any_of (word_lexeme w) ≡ Some w
kind_any [] h = absurd h
kind_any (b ∷ w) h = h.2

-- the parts of a unit, up to its ports
abbrev parts_tokens : ℕ → List ℕ → DraftUnit → List Token → List Token
parts_tokens line w u ports =
    keyword_token line Kind ∷ kind_token line w
    ∷ keyword_token line Page ∷ number_token line u.page
    ∷ keyword_token line Slots ∷ number_token line u.slots
    ∷ keyword_token line Reach ∷ number_token line u.reach
    ∷ keyword_token line To ∷ ports

kind_quiet : (t : List ℕ) → Quiet (codes " kind " ++ t)
kind_quiet t = record { it = λ rest h. refl }

page_quiet : (t : List ℕ) → Quiet (codes " page " ++ t)
page_quiet t = record { it = λ rest h. refl }

slots_quiet : (t : List ℕ) → Quiet (codes " slots " ++ t)
slots_quiet t = record { it = λ rest h. refl }

reach_quiet : (t : List ℕ) → Quiet (codes " reach " ++ t)
reach_quiet t = record { it = λ rest h. refl }

parts_closed : (line : ℕ) (w : List ℕ) (u : DraftUnit) (p : List ℕ) (ts : List Token) → IsWord w → u.page < 2 ^ 64 → u.slots < 2 ^ 64 → u.reach < 2 ^ 64 → Closed line p ts → Closed line (codes " kind " ++ (w ++ (codes " page " ++ (decimal u.page ++ (codes " slots " ++ (decimal u.slots ++ (codes " reach " ++ (decimal u.reach ++ (codes " to " ++ p))))))))) (parts_tokens line w u ts)
unfolding spelling
parts_closed line w u p ts h a b c ports =
    let reach = closed_then (decimal_closed line u.reach c) (to_quiet p) (open_then (keyword_between line To) ports) in
    let slots = closed_then (decimal_closed line u.slots b) (reach_quiet (decimal u.reach ++ (codes " to " ++ p))) (open_then (keyword_between line Reach) reach) in
    let page = closed_then (decimal_closed line u.page a) (slots_quiet (decimal u.slots ++ (codes " reach " ++ (decimal u.reach ++ (codes " to " ++ p))))) (open_then (keyword_between line Slots) slots) in
    open_then (keyword_between line Kind) (closed_then (kind_closed line w h) (page_quiet (decimal u.page ++ (codes " slots " ++ (decimal u.slots ++ (codes " reach " ++ (decimal u.reach ++ (codes " to " ++ p))))))) (open_then (keyword_between line Page) page))

-- what is read of it
kind_ends_name : (line : ℕ) (ts : List Token) → NameEnd (keyword_token line Kind ∷ ts)
unfolding after_sign
kind_ends_name line ts = (refl, refl)

unit_read : (line : ℕ) (name : List Part) (w : List ℕ) (u : DraftUnit) (ports : List (List Part)) (xs ys rest : List Token) → any_of (word_lexeme w) ≡ Some w → name_at 32 (xs ++ parts_tokens line w u (ys ++ rest)) ≡ Ok (name, parts_tokens line w u (ys ++ rest)) → ports_at (ys ++ rest) ≡ Ok (ports, rest) → unit_declaration_at ((xs ++ parts_tokens line w u ys) ++ rest) ≡ Ok (unit name w (constant u.page) (constant u.slots) (constant u.reach) ports, rest)
unfolding unit_declaration_at any_word_at measure_at keyword_at after_keyword after_sign
unit_read line name w u ports xs ys rest k e f =
    let whole = ap (name_at 32) (append_assoc xs (parts_tokens line w u ys) rest) ∙ e in
    let page = number_read 32 line u.page (keyword_token line Slots ∷ number_token line u.slots ∷ keyword_token line Reach ∷ number_token line u.reach ∷ keyword_token line To ∷ (ys ++ rest)) (refl, refl) in
    let slots = number_read 32 line u.slots (keyword_token line Reach ∷ number_token line u.reach ∷ keyword_token line To ∷ (ys ++ rest)) (refl, refl) in
    let reach = number_read 32 line u.reach (keyword_token line To ∷ (ys ++ rest)) (refl, refl) in
    rw (whole, k, page, slots, reach, f) refl

semicolon_ends_ports : (line : ℕ) (rest : List Token) → PortsEnd (sign_token line Semicolon ∷ rest)
unfolding after_sign
semicolon_ends_ports line rest = ((refl, refl), refl)

statement_read : (line : ℕ) (ts rest : List Token) (d : Declaration) → unit_declaration_at ts ≡ Ok (d, sign_token line Semicolon ∷ rest) → whole_statement_at (keyword_token line UnitWord ∷ ts) ≡ Ok (declares d, rest)
unfolding whole_statement_at statement_at keyword_statement_at sign_at after_sign
statement_read line ts rest d e = rw e refl

-- what it declares
unit_declared : (kinds : List Meaning) (line : ℕ) (name : List Part) (text w : List ℕ) (u : DraftUnit) (ports : List (List Part)) → full_name name ≡ Ok text → kind_place kinds w ≡ Some u.kind → u.page ≤ 255 → u.slots ≤ 4294967295 → u.reach ≤ 255 → each full_name ports ≡ Ok u.ports → draft_of_declaration kinds line (unit name w (constant u.page) (constant u.slots) (constant u.reach) ports) ≡ Ok (unit_with line text u)
unit_declared kinds line name text w u ports n k a b c p =
    let page : nat_le u.page 255 ≡ true = le-leb u.page 255 a in
    let slots : nat_le u.slots 4294967295 ≡ true = le-leb u.slots 4294967295 b in
    let reach : nat_le u.reach 255 ≡ true = le-leb u.reach 255 c in
    rw (n, k, page, slots, reach, p) refl

-- the line of a unit
abbrev line_tokens : ℕ → List ℕ → DraftUnit → List Token → List Token → List Token
line_tokens line w u name ports = name ++ parts_tokens line w u ports

-- the ports of a unit of good parts
abbrev ports_said : (kinds : List Meaning) (net : List NodeDecl) (known : List (List ℕ)) → Named net known → (line : ℕ) (u : DraftUnit) → GoodParts kinds u → IsTrue (list_all (is_known known) u.ports) → Shown line (ports_text net (map (node_number_of known) u.ports)) ports_at PortsEnd (each full_name) u.ports
ports_said kinds net known named line u h k = ports_shown net known named line u.ports h.ports (some_ports kinds u h) (few_ports kinds u h) k

unit_said : (kinds : List Meaning) (net : List NodeDecl) (known : List (List ℕ)) → Named net known → (line before : ℕ) (text : List ℕ) (u : DraftUnit) → IsFullName text → GoodParts kinds u → IsTrue (list_all (is_known known) u.ports) → Said kinds line (codes "unit " ++ (text ++ (unit_text (kind_text kinds u.kind) net (unit_by_numbers known u) ++ codes ";\n"))) UnitRole (Some u) (unit_with before text u)
unfolding spelling
unit_said kinds net known named line before text u full h k =
    let w : List ℕ = kind_text kinds u.kind in
    let name = name_shown line text full in
    let ports = ports_said kinds net known named line u h k in
    let tokens : List Token = line_tokens line w u name.tokens ports.tokens in
    let said = h.printable known in
    let a = said.page in
    let b = said.slots in
    let c = said.reach in
    let closed = closed_then name.lexed (kind_quiet (w ++ (codes " page " ++ (decimal u.page ++ (codes " slots " ++ (decimal u.slots ++ (codes " reach " ++ (decimal u.reach ++ (codes " to " ++ ports_text net (map (node_number_of known) u.ports)))))))))) (parts_closed line w u (ports_text net (map (node_number_of known) u.ports)) ports.tokens (any_word w said.word) (omega (arith, a)) (omega (arith, b)) (omega (arith, c)) ports.lexed) in
    record {
      first = keyword_token line UnitWord;
      more = tokens ++ (sign_token line Semicolon ∷ []);
      begins = refl;
      declaration = unit name.tree w (constant u.page) (constant u.slots) (constant u.reach) ports.tree;
      lexed = λ rest. marked_lexed line (codes "unit ") (text ++ (unit_text w net (unit_by_numbers known u) ++ codes ";\n")) (keyword_token line UnitWord) (tokens ++ (sign_token line Semicolon ∷ [])) (keyword_open line UnitWord) rest (end_lexed line text (unit_text w net (unit_by_numbers known u)) tokens closed rest);
      read = λ rest. statement_read line ((tokens ++ (sign_token line Semicolon ∷ [])) ++ rest) rest (unit name.tree w (constant u.page) (constant u.slots) (constant u.reach) ports.tree) (reads rest);
      declared = unit_declared kinds line name.tree text w u ports.tree name.valued said.first a b c ports.valued;
    }
  where
    reads : (rest : List Token) → unit_declaration_at ((line_tokens line (kind_text kinds u.kind) u (name_shown line text full).tokens (ports_said kinds net known named line u h k).tokens ++ (sign_token line Semicolon ∷ [])) ++ rest) ≡ Ok (unit (name_shown line text full).tree (kind_text kinds u.kind) (constant u.page) (constant u.slots) (constant u.reach) (ports_said kinds net known named line u h k).tree, sign_token line Semicolon ∷ rest)
    reads rest =
        let w : List ℕ = kind_text kinds u.kind in
        let said = h.printable known in
        let name = name_shown line text full in
        let ports = ports_said kinds net known named line u h k in
        ap unit_declaration_at (append_assoc (line_tokens line w u name.tokens ports.tokens) (sign_token line Semicolon ∷ []) rest)
        ∙ unit_read line name.tree w u ports.tree name.tokens ports.tokens (sign_token line Semicolon ∷ rest) (kind_any w (any_word w said.word)) (name.read (parts_tokens line w u (ports.tokens ++ (sign_token line Semicolon ∷ rest))) (kind_ends_name line _)) (ports.read (sign_token line Semicolon ∷ rest) (semicolon_ends_ports line rest))

-- the line of any node
pub statement_said : (kinds : List Meaning) (net : List NodeDecl) (known : List (List ℕ)) → Named net known → (line : ℕ) (d : Draft) → GoodDraft kinds d → IsTrue (refers_to_known known d) → Said kinds line (statement_text kinds net (node_in known d)) d.role d.unit d
statement_said kinds net known named line d (inl h) k = node_said kinds net known named line d h k
statement_said kinds net known named line d (inr h) k =
    let there : IsTrue (refers_to_known known (unit_with h.line h.name h.unit)) = subst (λ (e : Draft). IsTrue (refers_to_known known e)) h.is k in
    subst (λ (e : Draft). Said kinds line (statement_text kinds net (node_in known e)) e.role e.unit e) (sym h.is) (unit_said kinds net known named line h.line h.name h.unit h.full h.parts there)
