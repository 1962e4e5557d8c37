-- The statement of a node as it is printed: its tokens, what is read from them, and the node that this declares.
use Rattle.std.proofs.Common.{◌≡◌, ◌∙◌, ap, sym, refl, subst, ℕ, ◌+◌, Bool, true, false, cond, not, List, [], ◌∷◌, ◌++◌, map, ◌&&◌, codes, Option, Some, None, option_map, Ok, IsTrue, append_assoc}
use Rattle.dn_token.specs.declared.token.Keyword.{Keyword}
use Rattle.dn_token.specs.declared.token.Keyword.TheVariants.{Agent, Vectors, Is, Accept, Map, Over}
use Rattle.dn_token.specs.declared.token.Sign.TheVariants.{Semicolon, OpenBracket, CloseBracket, Dot}
use Rattle.dn_token.specs.Token.{Lexeme, Token, word, keyword, number, sign}
use Rattle.dn_token.specs.Words.{spelling}
use Rattle.dn_parse.specs.Tree.{Part, Block as BlockOf, Entry as EntryOf, Spec, Role as RoleOf, plain_role, agent_role, vectors_role, Declaration, node, declares}
use Rattle.dn_token.specs.Going.{tokens_of}
use Rattle.dn_parse.specs.Descent.{refuses_at, after, after_sign, after_keyword, sign_at, keyword_at, word_at, row_at, index_at, part_at, next_part_at, name_at, blocks_at, entries_at, accept_at, map_at, over_at, spec_at, node_at, keyword_statement_at, is_free, begins_word, begins_node, statement_at, whole_statement_at}
use Rattle.dn_parse.specs.Forms.{is_sign, is_keyword, is_command_word}
use Rattle.dn_parse.proofs.Opening.{node_begins}
use Rattle.dn_token.proofs.Lexed.{with_tokens}
use Rattle.dn_net.specs.declared.node.Block.{Block}
use Rattle.dn_net.specs.declared.node.NodeDecl.{NodeDecl}
use Rattle.dn_net.specs.declared.node.Role.{Role}
use Rattle.dn_module.specs.declared.draft.Draft.{Draft}
use Rattle.dn_kind.specs.Kind.{Meaning}
use Rattle.dn_module.specs.declared.draft.DraftEntry.{DraftEntry}
use Rattle.dn_module.specs.declared.draft.DraftUnit.{DraftUnit}
use Rattle.dn_scope.specs.Values.{each, full_name, full_name_or_none}
use Rattle.dn_module.specs.Drafts.{block_of, entry_of, role_of, draft_of_declaration, over_known, ports_known, refers_to_known, node_number_of, entry_in, unit_by_numbers, node_in}
use Rattle.dn_print.specs.Statement.{accept_text, map_text, over_text, role_text, body_text, statement_text}
use Rattle.dn_base.proofs.Booleans.{and_parts}
use Rattle.dn_base.proofs.Lists.{Each}
use Rattle.dn_print.proofs.Titles.{IsFullName}
use Rattle.dn_print.proofs.Formed.{Maybe, GoodBlock, GoodEntry, GoodNode}
use Rattle.dn_print.proofs.Lexes.{word_token, sign_token, keyword_token, Closed, Open, Quiet, closed_then, open_then, quiet_then, quiet_none, closed_none, keyword_closed, keyword_open, keyword_between, bracket_open, behind_blank, end_open, with_both}
use Rattle.dn_print.proofs.Shown.{Shown}
use Rattle.dn_print.proofs.Labels.{NameEnd, name_shown, name_first, close_closed, close_quiet}
use Rattle.dn_print.proofs.Pieces.{Named, BlocksEnd, EntriesEnd, blocks_shown, entries_known, entries_shown}

-- what may follow the blocks, the entries and the `over` of a node
abbrev pub AcceptEnd : List Token → Type 0
AcceptEnd rest = after_keyword Accept rest ≡ None

abbrev pub MapEnd : List Token → Type 0
MapEnd rest = after_keyword Map rest ≡ None

abbrev pub SpecEnd : List Token → Type 0
SpecEnd rest = NameEnd rest × (after_keyword Over rest ≡ None) × MapEnd rest × AcceptEnd rest

-- what a node accepts
no_accept : (rest : List Token) → AcceptEnd rest → accept_at rest ≡ Ok ([], rest)
unfolding accept_at
no_accept rest h = rw h refl

close_ends_blocks : (line : ℕ) (rest : List Token) → BlocksEnd (sign_token line CloseBracket ∷ rest)
unfolding after_sign
close_ends_blocks line rest = ((refl, refl), refl)

accept_read : (line : ℕ) (bs : List BlockOf) (ts rest : List Token) → blocks_at (ts ++ (sign_token line CloseBracket ∷ rest)) ≡ Ok (bs, sign_token line CloseBracket ∷ rest) → accept_at ((keyword_token line Accept ∷ sign_token line OpenBracket ∷ (ts ++ (sign_token line CloseBracket ∷ []))) ++ rest) ≡ Ok (bs, rest)
unfolding accept_at after_keyword after_sign sign_at
accept_read line bs ts rest e =
    let whole = ap blocks_at (append_assoc ts (sign_token line CloseBracket ∷ []) rest) ∙ e in
    rw whole refl

accept_shown : (line : ℕ) (bs : List Block) → Each GoodBlock bs → Shown line (accept_text bs) accept_at AcceptEnd (each block_of) bs
unfolding spelling
accept_shown line [] h = record { tokens = []; tree = []; lexed = closed_none line; read = λ rest e. no_accept rest e; valued = refl }
accept_shown line (b ∷ bs) h =
    let blocks = blocks_shown line b bs h in
    record {
      tokens = keyword_token line Accept ∷ sign_token line OpenBracket ∷ (blocks.tokens ++ (sign_token line CloseBracket ∷ []));
      tree = blocks.tree;
      lexed = open_then (keyword_between line Accept) (open_then (bracket_open line) (closed_then blocks.lexed close_quiet (close_closed line)));
      read = λ rest e. accept_read line blocks.tree blocks.tokens rest (blocks.read (sign_token line CloseBracket ∷ rest) (close_ends_blocks line rest));
      valued = blocks.valued;
    }

accept_quiet : (bs : List Block) → Quiet (accept_text bs)
accept_quiet [] = quiet_none
accept_quiet (b ∷ bs) = record { it = λ rest h. refl }

-- what it maps
no_map : (rest : List Token) → MapEnd rest → map_at rest ≡ Ok ([], rest)
unfolding map_at
no_map rest h = rw h refl

close_ends_entries : (line : ℕ) (rest : List Token) → EntriesEnd (sign_token line CloseBracket ∷ rest)
unfolding after_sign after_keyword
close_ends_entries line rest = (((refl, refl), refl), refl)

map_read : (line : ℕ) (es : List EntryOf) (ts rest : List Token) → entries_at (ts ++ (sign_token line CloseBracket ∷ rest)) ≡ Ok (es, sign_token line CloseBracket ∷ rest) → map_at ((keyword_token line Map ∷ sign_token line OpenBracket ∷ (ts ++ (sign_token line CloseBracket ∷ []))) ++ rest) ≡ Ok (es, rest)
unfolding map_at after_keyword after_sign sign_at
map_read line es ts rest e =
    let whole = ap entries_at (append_assoc ts (sign_token line CloseBracket ∷ []) rest) ∙ e in
    rw whole refl

map_accepts : (line : ℕ) (rest : List Token) → AcceptEnd (keyword_token line Map ∷ rest)
unfolding after_keyword
map_accepts line rest = refl

record MapShown (line : ℕ) (text : List ℕ) (es : List DraftEntry) : Type 0 where
  shown : Shown line text map_at MapEnd (each entry_of) es
  quiet : Quiet text
  heads : (rest : List Token) → AcceptEnd rest → AcceptEnd (shown.tokens ++ rest)

map_shown : (net : List NodeDecl) (known : List (List ℕ)) → Named net known → (line : ℕ) (es : List DraftEntry) → Each GoodEntry es → IsTrue (entries_known known es) → MapShown line (map_text net (map (entry_in known) es)) es
unfolding spelling
map_shown net known named line [] h k = record {
  shown = record { tokens = []; tree = []; lexed = closed_none line; read = λ rest e. no_map rest e; valued = refl };
  quiet = quiet_none;
  heads = λ rest e. e;
}
map_shown net known named line (e ∷ es) h k =
    let entries = entries_shown net known named line e es h k in
    record {
      shown = record {
        tokens = keyword_token line Map ∷ sign_token line OpenBracket ∷ (entries.tokens ++ (sign_token line CloseBracket ∷ []));
        tree = entries.tree;
        lexed = open_then (keyword_between line Map) (open_then (bracket_open line) (closed_then entries.lexed close_quiet (close_closed line)));
        read = λ rest g. map_read line entries.tree entries.tokens rest (entries.read (sign_token line CloseBracket ∷ rest) (close_ends_entries line rest));
        valued = entries.valued;
      };
      quiet = record { it = λ rest g. refl };
      heads = λ rest g. map_accepts line ((sign_token line OpenBracket ∷ (entries.tokens ++ (sign_token line CloseBracket ∷ []))) ++ rest);
    }

-- the node that serves the rest
no_over : (rest : List Token) → after_keyword Over rest ≡ None → over_at rest ≡ Ok (None, rest)
unfolding over_at
no_over rest h = rw h refl

over_read : (line : ℕ) (name : List Part) (ts rest : List Token) → name_at 32 (ts ++ rest) ≡ Ok (name, rest) → over_at ((keyword_token line Over ∷ ts) ++ rest) ≡ Ok (Some name, rest)
unfolding over_at after_keyword
over_read line name ts rest e = rw e refl

over_accepts : (line : ℕ) (rest : List Token) → AcceptEnd (keyword_token line Over ∷ rest)
unfolding after_keyword
over_accepts line rest = refl

over_maps : (line : ℕ) (rest : List Token) → MapEnd (keyword_token line Over ∷ rest)
unfolding after_keyword
over_maps line rest = refl

record OverShown (line : ℕ) (text : List ℕ) (o : Option (List ℕ)) : Type 0 where
  shown : Shown line text over_at SpecEnd full_name_or_none o
  quiet : Quiet text
  accepts : (rest : List Token) → SpecEnd rest → AcceptEnd (shown.tokens ++ rest)
  maps : (rest : List Token) → SpecEnd rest → MapEnd (shown.tokens ++ rest)

over_shown : (net : List NodeDecl) (known : List (List ℕ)) → Named net known → (line : ℕ) (o : Option (List ℕ)) → Maybe IsFullName o → IsTrue (over_known known o) → OverShown line (over_text net (option_map (node_number_of known) o)) o
unfolding spelling
over_shown net known named line None h k = record {
  shown = record { tokens = []; tree = None; lexed = closed_none line; read = λ rest e. no_over rest e.1; valued = refl };
  quiet = quiet_none;
  accepts = λ rest e. e.3;
  maps = λ rest e. e.2;
}
over_shown net known named line (Some t) h k =
    let name = name_shown line t h in
    let v = name.valued in
    record {
      shown = record {
        tokens = keyword_token line Over ∷ name.tokens;
        tree = Some name.tree;
        lexed = open_then (keyword_between line Over) (subst (λ (u : List ℕ). Closed line u name.tokens) (sym (named t k)) name.lexed);
        read = λ rest e. over_read line name.tree name.tokens rest (name.read rest e.0);
        valued = rw v refl;
      };
      quiet = record { it = λ rest g. refl };
      accepts = λ rest e. over_accepts line (name.tokens ++ rest);
      maps = λ rest e. over_maps line (name.tokens ++ rest);
    }

-- the parts of a node
spec_read : (bs : List BlockOf) (es : List EntryOf) (o : Option (List Part)) (xs ys zs rest : List Token) → accept_at (xs ++ (ys ++ (zs ++ rest))) ≡ Ok (bs, ys ++ (zs ++ rest)) → map_at (ys ++ (zs ++ rest)) ≡ Ok (es, zs ++ rest) → over_at (zs ++ rest) ≡ Ok (o, rest) → spec_at ((xs ++ (ys ++ zs)) ++ rest) ≡ Ok (record { accepts = bs; entries = es; over = o }, rest)
unfolding spec_at
spec_read bs es o xs ys zs rest e f g =
    let whole = ap accept_at (append_assoc xs (ys ++ zs) rest ∙ ap (λ (l : List Token). xs ++ l) (append_assoc ys zs rest)) ∙ e in
    rw (whole, f, g) refl

record SpecShown (line : ℕ) (text : List ℕ) (d : Draft) : Type 0 where
  tokens : List Token
  tree : Spec
  lexed : Closed line text tokens
  quiet : Quiet text
  read : (rest : List Token) → SpecEnd rest → spec_at (tokens ++ rest) ≡ Ok (tree, rest)
  accepts : each block_of tree.accepts ≡ Ok d.accepts
  entries : each entry_of tree.entries ≡ Ok d.entries
  over : full_name_or_none tree.over ≡ Ok d.over

spec_shown : (net : List NodeDecl) (known : List (List ℕ)) → Named net known → (line : ℕ) (d : Draft) → GoodNode d → IsTrue (refers_to_known known d) → SpecShown line (accept_text d.accepts ++ (map_text net (map (entry_in known) d.entries) ++ over_text net (option_map (node_number_of known) d.over))) d
spec_shown net known named line d h k =
    let ks = and_parts (entries_known known d.entries) (over_known known d.over && ports_known known d.unit) k in
    let overs = and_parts (over_known known d.over) (ports_known known d.unit) ks.1 in
    let a = accept_shown line d.accepts h.accepts in
    let m = map_shown net known named line d.entries h.entries ks.0 in
    let o = over_shown net known named line d.over h.over overs.0 in
    record {
      tokens = a.tokens ++ (m.shown.tokens ++ o.shown.tokens);
      tree = record { accepts = a.tree; entries = m.shown.tree; over = o.shown.tree };
      lexed = closed_then a.lexed (quiet_then m.quiet o.quiet) (closed_then m.shown.lexed o.quiet o.shown.lexed);
      quiet = quiet_then (accept_quiet d.accepts) (quiet_then m.quiet o.quiet);
      read = λ rest e. spec_read a.tree m.shown.tree o.shown.tree a.tokens m.shown.tokens o.shown.tokens rest (a.read (m.shown.tokens ++ (o.shown.tokens ++ rest)) (m.heads (o.shown.tokens ++ rest) (o.accepts rest e))) (m.shown.read (o.shown.tokens ++ rest) (o.maps rest e)) (o.shown.read rest e);
      accepts = a.valued;
      entries = m.shown.valued;
      over = o.shown.valued;
    }

-- a node without the word before its name
is_ends_name : (line : ℕ) (ts : List Token) → NameEnd (keyword_token line Is ∷ ts)
unfolding after_sign
is_ends_name line ts = (refl, refl)

is_quiet : (t : List ℕ) → Quiet (codes " is" ++ t)
is_quiet t = record { it = λ rest h. refl }

node_read : (role : RoleOf) (line : ℕ) (name : List Part) (spec : Spec) (xs ys rest : List Token) → name_at 32 (xs ++ (keyword_token line Is ∷ (ys ++ rest))) ≡ Ok (name, keyword_token line Is ∷ (ys ++ rest)) → spec_at (ys ++ rest) ≡ Ok (spec, rest) → node_at role ((xs ++ (keyword_token line Is ∷ ys)) ++ rest) ≡ Ok (node role name spec, rest)
unfolding node_at keyword_at after_keyword
node_read role line name spec xs ys rest e f =
    let whole = ap (name_at 32) (append_assoc xs (keyword_token line Is ∷ ys) rest) ∙ e in
    rw (whole, f) refl

record Body (line : ℕ) (text : List ℕ) (d : Draft) : Type 0 where
  word : List ℕ
  more : List Token
  name : List Part
  spec : Spec
  lexed : Closed line text (word_token line word ∷ more)
  read : (role : RoleOf) (rest : List Token) → SpecEnd rest → node_at role (word_token line word ∷ (more ++ rest)) ≡ Ok (node role name spec, rest)
  named : full_name name ≡ Ok d.name
  accepts : each block_of spec.accepts ≡ Ok d.accepts
  entries : each entry_of spec.entries ≡ Ok d.entries
  over : full_name_or_none spec.over ≡ Ok d.over

abbrev rest_text : List NodeDecl → List (List ℕ) → Draft → List ℕ
rest_text net known d = codes " is" ++ (accept_text d.accepts ++ (map_text net (map (entry_in known) d.entries) ++ over_text net (option_map (node_number_of known) d.over)))

body_shown : (net : List NodeDecl) (known : List (List ℕ)) → Named net known → (line : ℕ) (d : Draft) → GoodNode d → IsTrue (refers_to_known known d) → Body line (d.name ++ rest_text net known d) d
unfolding spelling
body_shown net known named line d h k =
    let n = name_shown line d.name h.name in
    let f = name_first line d.name h.name in
    let s = spec_shown net known named line d h k in
    let same : n.tokens ++ (keyword_token line Is ∷ s.tokens) ≡ word_token line h.name.first.title ∷ (f.0 ++ (keyword_token line Is ∷ s.tokens)) = ap (λ (l : List Token). l ++ (keyword_token line Is ∷ s.tokens)) f.1 in
    record {
      word = h.name.first.title;
      more = f.0 ++ (keyword_token line Is ∷ s.tokens);
      name = n.tree;
      spec = s.tree;
      lexed = subst (λ (l : List Token). Closed line (d.name ++ rest_text net known d) l) same (closed_then n.lexed (is_quiet (accept_text d.accepts ++ (map_text net (map (entry_in known) d.entries) ++ over_text net (option_map (node_number_of known) d.over)))) (closed_then (behind_blank (keyword_closed line Is)) s.quiet s.lexed));
      read = λ role rest e. ap (λ (l : List Token). node_at role (l ++ rest)) (sym same) ∙ node_read role line n.tree s.tree n.tokens s.tokens rest (n.read (keyword_token line Is ∷ (s.tokens ++ rest)) (is_ends_name line (s.tokens ++ rest))) (s.read rest e);
      named = n.valued;
      accepts = s.accepts;
      entries = s.entries;
      over = s.over;
    }

-- A line of the printed net: its tokens, the declaration that is read from them, and the node that this makes.
pub record Said (kinds : List Meaning) (line : ℕ) (text : List ℕ) (role : Role) (part : Option DraftUnit) (d : Draft) : Type 0 where
  pub first : Token
  pub more : List Token
  pub begins : first.line ≡ line
  pub declaration : Declaration
  pub lexed : (rest : List ℕ) → tokens_of line (text ++ rest) ≡ with_tokens (first ∷ more) (tokens_of (line + 1) rest)
  pub read : (rest : List Token) → whole_statement_at (first ∷ (more ++ rest)) ≡ Ok (declares declaration, rest)
  pub declared : draft_of_declaration kinds line declaration ≡ Ok (record { line = line; role = role; name = d.name; accepts = d.accepts; entries = d.entries; over = d.over; unit = part })

pub semicolon_ends : (line : ℕ) (rest : List Token) → SpecEnd (sign_token line Semicolon ∷ rest)
unfolding after_sign after_keyword
semicolon_ends line rest = ((refl, refl), refl, refl, refl)

pub end_lexed : (line : ℕ) (p q : List ℕ) (ts : List Token) → Closed line (p ++ q) ts → (rest : List ℕ) → tokens_of line ((p ++ (q ++ codes ";\n")) ++ rest) ≡ with_tokens (ts ++ (sign_token line Semicolon ∷ [])) (tokens_of (line + 1) rest)
end_lexed line p q ts c rest =
    ap (tokens_of line) (append_assoc p (q ++ codes ";\n") rest ∙ ap (λ (l : List ℕ). p ++ l) (append_assoc q (codes ";\n") rest) ∙ sym (append_assoc p q (codes ";\n" ++ rest)))
    ∙ c.it (codes ";\n" ++ rest) refl
    ∙ ap (with_tokens ts) (end_open line rest)
    ∙ with_both ts (sign_token line Semicolon ∷ []) (tokens_of (line + 1) rest)

pub marked_lexed : (line : ℕ) (p q : List ℕ) (t : Token) (ts : List Token) → Open line p (t ∷ []) → (rest : List ℕ) → tokens_of line (q ++ rest) ≡ with_tokens ts (tokens_of (line + 1) rest) → tokens_of line ((p ++ q) ++ rest) ≡ with_tokens (t ∷ ts) (tokens_of (line + 1) rest)
marked_lexed line p q t ts o rest e =
    ap (tokens_of line) (append_assoc p q rest) ∙ o.it (q ++ rest) ∙ ap (with_tokens (t ∷ [])) e ∙ with_both (t ∷ []) ts (tokens_of (line + 1) rest)

-- no node is declared by a word that a word follows
none_at_word : (test : Lexeme → Bool) → ((w : List ℕ) → test (word w) ≡ false) → (ts : List Token) → begins_word ts ≡ true → after test ts ≡ None
none_at_word test never [] h = cc
none_at_word test never (t ∷ ts) h = go t.lexeme h
  where
    go : (l : Lexeme) → is_free l ≡ true → cond (test l) (Some ts) None ≡ None
    go (word w) e = ap (λ b. cond b (Some ts) None) (never w)
    go (keyword k) e = cc
    go (number x) e = cc
    go (sign s) e = cc

two_words_refused : (role : RoleOf) (line : ℕ) (w : List ℕ) (ts : List Token) → begins_word ts ≡ true → node_at role (word_token line w ∷ ts) ≡ refuses_at ts
unfolding node_at name_at part_at word_at index_at row_at next_part_at after_sign keyword_at after_keyword
two_words_refused role line w ts h =
    let bracket = none_at_word (is_sign OpenBracket) (λ v. refl) ts h in
    let dot = none_at_word (is_sign Dot) (λ v. refl) ts h in
    let is = none_at_word (is_keyword Is) (λ v. refl) ts h in
    rw (bracket, dot, is) refl

-- so where a node is declared, its first word begins no command
plain_begins : (line : ℕ) (w : List ℕ) (ts after : List Token) (d : Declaration) → node_at plain_role (word_token line w ∷ ts) ≡ Ok (d, after) → begins_node (word_token line w ∷ ts) ≡ true
plain_begins line w ts after d e = by (begins_word ts) refl
  where
    no_command : (b : Bool) → not (b && false) ≡ true
    no_command true = refl
    no_command false = refl

    by : (b : Bool) → begins_word ts ≡ b → not (is_command_word w && b) ≡ true
    by true h = let refused = sym (two_words_refused plain_role line w ts h) ∙ e in cc
    by false h = no_command (is_command_word w)

plain_read : (line : ℕ) (w : List ℕ) (ts rest : List Token) (d : Declaration) → node_at plain_role (word_token line w ∷ ts) ≡ Ok (d, sign_token line Semicolon ∷ rest) → whole_statement_at (word_token line w ∷ ts) ≡ Ok (declares d, rest)
unfolding whole_statement_at sign_at after_sign
plain_read line w ts rest d e =
    let begun = node_begins (word_token line w ∷ ts) (plain_begins line w ts _ d e) in
    rw (begun, e) refl

agent_read : (line : ℕ) (ts rest : List Token) (d : Declaration) → node_at agent_role ts ≡ Ok (d, sign_token line Semicolon ∷ rest) → whole_statement_at (keyword_token line Agent ∷ ts) ≡ Ok (declares d, rest)
unfolding whole_statement_at statement_at keyword_statement_at sign_at after_sign
agent_read line ts rest d e = rw e refl

vectors_read : (line : ℕ) (ts rest : List Token) (d : Declaration) → node_at vectors_role ts ≡ Ok (d, sign_token line Semicolon ∷ rest) → whole_statement_at (keyword_token line Vectors ∷ ts) ≡ Ok (declares d, rest)
unfolding whole_statement_at statement_at keyword_statement_at sign_at after_sign
vectors_read line ts rest d e = rw e refl

-- the tokens of a body and then the semicolon
body_read : (line : ℕ) (text : List ℕ) (d : Draft) (b : Body line text d) (role : RoleOf) (rest : List Token) → node_at role (word_token line b.word ∷ ((b.more ++ (sign_token line Semicolon ∷ [])) ++ rest)) ≡ Ok (node role b.name b.spec, sign_token line Semicolon ∷ rest)
body_read line text d b role rest =
    ap (λ (l : List Token). node_at role (word_token line b.word ∷ l)) (append_assoc b.more (sign_token line Semicolon ∷ []) rest)
    ∙ b.read role (sign_token line Semicolon ∷ rest) (semicolon_ends line rest)

body_declared : (kinds : List Meaning) (line : ℕ) (text : List ℕ) (d : Draft) (b : Body line text d) (role : RoleOf) → draft_of_declaration kinds line (node role b.name b.spec) ≡ Ok (record { line = line; role = role_of role; name = d.name; accepts = d.accepts; entries = d.entries; over = d.over; unit = None })
body_declared kinds line text d b role =
    let n = b.named in
    let a = b.accepts in
    let e = b.entries in
    let o = b.over in
    rw (n, a, e, o) refl

-- a body behind the word that says what the node is, and a space
marked_said : (kinds : List Meaning) (net : List NodeDecl) (known : List (List ℕ)) (line : ℕ) (d : Draft) → Body line (d.name ++ rest_text net known d) d → (role : RoleOf) (k : Keyword) (mark : List ℕ) → Open line mark (keyword_token line k ∷ []) → ((ts rest : List Token) (d : Declaration) → node_at role ts ≡ Ok (d, sign_token line Semicolon ∷ rest) → whole_statement_at (keyword_token line k ∷ ts) ≡ Ok (declares d, rest)) → Said kinds line (mark ++ (d.name ++ (rest_text net known d ++ codes ";\n"))) (role_of role) None d
marked_said kinds net known line d b role k mark opens reads = record {
  first = keyword_token line k;
  more = word_token line b.word ∷ (b.more ++ (sign_token line Semicolon ∷ []));
  begins = refl;
  declaration = node role b.name b.spec;
  lexed = λ rest. marked_lexed line mark (d.name ++ (rest_text net known d ++ codes ";\n")) (keyword_token line k) (word_token line b.word ∷ (b.more ++ (sign_token line Semicolon ∷ []))) opens rest (end_lexed line d.name (rest_text net known d) (word_token line b.word ∷ b.more) b.lexed rest);
  read = λ rest. reads (word_token line b.word ∷ ((b.more ++ (sign_token line Semicolon ∷ [])) ++ rest)) rest (node role b.name b.spec) (body_read line (d.name ++ rest_text net known d) d b role rest);
  declared = body_declared kinds line (d.name ++ rest_text net known d) d b role;
}

said_by : (kinds : List Meaning) (net : List NodeDecl) (known : List (List ℕ)) (line : ℕ) (d : Draft) → Body line (d.name ++ rest_text net known d) d → (role : RoleOf) → Said kinds line (role_text (role_of role) ++ (d.name ++ (rest_text net known d ++ codes ";\n"))) (role_of role) None d
unfolding spelling
said_by kinds net known line d b plain_role = record {
  first = word_token line b.word;
  more = b.more ++ (sign_token line Semicolon ∷ []);
  begins = refl;
  declaration = node plain_role b.name b.spec;
  lexed = λ rest. end_lexed line d.name (rest_text net known d) (word_token line b.word ∷ b.more) b.lexed rest;
  read = λ rest. plain_read line b.word ((b.more ++ (sign_token line Semicolon ∷ [])) ++ rest) rest (node plain_role b.name b.spec) (body_read line (d.name ++ rest_text net known d) d b plain_role rest);
  declared = body_declared kinds line (d.name ++ rest_text net known d) d b plain_role;
}
said_by kinds net known line d b agent_role = marked_said kinds net known line d b agent_role Agent (codes "agent ") (keyword_open line Agent) (agent_read line)
said_by kinds net known line d b vectors_role = marked_said kinds net known line d b vectors_role Vectors (codes "vectors ") (keyword_open line Vectors) (vectors_read line)

-- the line of a node that is no unit
pub node_said : (kinds : List Meaning) (net : List NodeDecl) (known : List (List ℕ)) → Named net known → (line : ℕ) (d : Draft) → GoodNode d → IsTrue (refers_to_known known d) → Said kinds line (statement_text kinds net (node_in known d)) d.role d.unit d
node_said kinds net known named line d h k =
    let P : Role → Option DraftUnit → Type 0 = λ r o. Said kinds line (role_text r ++ (d.name ++ (body_text kinds net (node_in known d) (option_map (unit_by_numbers known) o) ++ codes ";\n"))) r o d in
    subst (λ (r : Role). P r d.unit) (sym h.roles) (subst (λ (o : Option DraftUnit). P (role_of h.role) o) (sym h.no_unit) (said_by kinds net known line d (body_shown net known named line d h k) h.role))
