-- The text of a net is read as its nodes, one a line, and they make the net again.
use Rattle.std.proofs.Common.{◌≡◌, ◌∙◌, ap, sym, refl, subst, ℕ, zero, suc, ◌+◌, ◌≤◌, Bool, true, false, cond, not, ◌||◌, List, [], ◌∷◌, ◌++◌, map, flat_map, length, slice_get, Result, Ok, Err, IsTrue, arith, append_assoc, append-nil, bytes_eq, le-leb}
use Rattle.std.specs.List.{list_any, prefix_len}
use Rattle.std.proofs.lemmas.Slice.Eq.{bytes_eq-Decides}
use Rattle.dn_base.proofs.Lists.{Each}
use Rattle.dn_token.specs.Token.{Token, tokens}
use Rattle.dn_parse.specs.Tree.{declares, Declaration, Item, declared, Items, items, Tree}
use Rattle.dn_parse.specs.Whole.{Blocks, judge, reading, no_blocks_yet, last_line, too_long, of_token_list, text_reading}
use Rattle.dn_parse.specs.Descent.{whole_statement_at}
use Rattle.dn_token.specs.Going.{tokens_of}
use Rattle.dn_token.proofs.Going.{tokens_go_on}
use Rattle.dn_token.proofs.Lexed.{with_tokens}
use Rattle.dn_parse.proofs.Judge.{judge_step, judge_end}
use Rattle.dn_net.specs.declared.node.NodeDecl.{NodeDecl}
use Rattle.dn_kind.specs.Kind.{Meaning}
use Rattle.dn_module.specs.declared.draft.Draft.{Draft}
use Rattle.dn_scope.specs.Values.{each, ◌>>=◌}
use Rattle.dn_module.specs.Drafts.{names, refers_to_known, node_in, node_of, with_draft, draft_of_declaration}
use Rattle.dn_scope.specs.Uses.{outside, statements}
use Rattle.dn_module.specs.Expand.{all_rewritings, expansion_of, most_steps, nothing_yet}
use Rattle.dn_print.specs.Names.{node_text}
use Rattle.dn_print.specs.Statement.{statement_text, net_text}
use Rattle.dn_print.proofs.Formed.{GoodDraft}
use Rattle.dn_print.proofs.Grown.{bare, reline, relined, names_relined, Grown, grown_few, fits_alike, fits_added, map_bare_more}
use Rattle.dn_print.proofs.Nodes.{Said}
use Rattle.dn_print.proofs.Units.{statement_said}
use Rattle.dn_print.proofs.Pieces.{Named}
use Rattle.dn_scope.specs.Faults.{is_unknown}

-- the node of a known name has that name
named_from : (known : List (List ℕ)) (ds : List Draft) (t : List ℕ) → IsTrue (list_any (bytes_eq t) (names ds)) → node_text (slice_get (map (node_in known) ds) (prefix_len (λ x. not (bytes_eq t x)) (names ds))) ≡ t
named_from known [] t h = cc
named_from known (d ∷ ds) t h = go (bytes_eq t d.name) refl h (named_from known ds t)
  where
    go : (b : Bool) → bytes_eq t d.name ≡ b → IsTrue (b || list_any (bytes_eq t) (names ds)) → (IsTrue (list_any (bytes_eq t) (names ds)) → node_text (slice_get (map (node_in known) ds) (prefix_len (λ x. not (bytes_eq t x)) (names ds))) ≡ t) → node_text (slice_get (map (node_in known) (d ∷ ds)) (cond (not b) (1 + prefix_len (λ x. not (bytes_eq t x)) (names ds)) 0)) ≡ t
    go true e g more = sym ((bytes_eq-Decides t d.name).0 e)
    go false e g more =
        let n : 1 + prefix_len (λ x. not (bytes_eq t x)) (names ds) ≡ suc (prefix_len (λ x. not (bytes_eq t x)) (names ds)) = omega arith in
        ap (λ (i : ℕ). node_text (slice_get (map (node_in known) (d ∷ ds)) i)) n ∙ more g

pub all_named : (ds : List Draft) → Named (map (node_in (names ds)) ds) (names ds)
all_named ds t h = named_from (names ds) ds t h

-- the nodes of the net, and each node to which they refer is there
abbrev pub Refers : List (List ℕ) → Draft → Type 0
Refers known d = IsTrue (refers_to_known known d)

each_head : {A B E : Type 0} (f : A → Result B E) (x : A) (xs : List A) (ys : List B) → each f (x ∷ xs) ≡ Ok ys → (y : B) × (zs : List B) × (f x ≡ Ok y) × (each f xs ≡ Ok zs) × (ys ≡ y ∷ zs)
each_head {A} {B} {E} f x xs ys e = go (f x) refl (each f xs) refl e
  where
    go : (r : Result B E) → f x ≡ r → (q : Result (List B) E) → each f xs ≡ q → (r >>= λ y. q >>= λ zs. Ok (y ∷ zs)) ≡ Ok ys → (y : B) × (zs : List B) × (f x ≡ Ok y) × (each f xs ≡ Ok zs) × (ys ≡ y ∷ zs)
    go (Ok y) p (Ok zs) q g = let s : y ∷ zs ≡ ys = cc in (y, zs, p, q, sym s)
    go (Ok y) p (Err z) q g = cc
    go (Err z) p q r g = cc

node_by : (known : List (List ℕ)) (d : Draft) (n : NodeDecl) → node_of known d ≡ Ok n → Refers known d × (n ≡ node_in known d)
node_by known d n e = go (refers_to_known known d) refl e
  where
    go : (b : Bool) → refers_to_known known d ≡ b → cond b (Ok (node_in known d)) (Err (is_unknown d.line)) ≡ Ok n → Refers known d × (n ≡ node_in known d)
    go true p g = (p, (let s : node_in known d ≡ n = cc in sym s))
    go false p g = cc

pub nodes_all : (known : List (List ℕ)) (ds : List Draft) (net : List NodeDecl) → each (node_of known) ds ≡ Ok net → Each (Refers known) ds × (net ≡ map (node_in known) ds)
nodes_all known [] net e = (tt, (let s : [] ≡ net = cc in sym s))
nodes_all known (d ∷ ds) net e =
    let h = each_head (node_of known) d ds net e in
    let one = node_by known d h.0 h.2 in
    let more = nodes_all known ds h.1 h.3 in
    ((one.0, more.0), h.4 ∙ ap (λ (n : NodeDecl). n ∷ h.1) one.1 ∙ ap (λ (l : List NodeDecl). node_in known d ∷ l) more.1)

node_again : (known : List (List ℕ)) (line : ℕ) (d : Draft) → Refers known d → node_of known (reline line d) ≡ Ok (node_in known d)
node_again known line d h = ap (λ b. cond b (Ok (node_in known d)) (Err (is_unknown line))) h

nodes_again : (known : List (List ℕ)) (line : ℕ) (ds : List Draft) → Each (Refers known) ds → each (node_of known) (relined line ds) ≡ Ok (map (node_in known) ds)
nodes_again known line [] h = refl
nodes_again known line (d ∷ ds) h =
    let one = node_again known line d h.0 in
    let more = nodes_again known (line + 1) ds h.1 in
    rw (one, more) refl

-- the lines of the nodes from one on
abbrev blocks_of : List Item → Blocks
blocks_of body = record { frames = []; body = body; begun = false; commands = [] }

record Lines (kinds : List Meaning) (line : ℕ) (text : List ℕ) (ds : List Draft) : Type 0 where
  found : List Token
  trees : List Item
  lexed : tokens_of line text ≡ Ok found
  read : (last : ℕ) (all : List Token) (body : List Item) → judge last all (blocks_of body) found ≡ Ok (record { body = items (body ++ trees); commands = [] })
  made : (acc acc' : List Draft) → map bare acc ≡ map bare acc' → Grown acc ds → (left : ℕ) → length ds ≤ left → all_rewritings kinds left (statements outside (items trees)) (record { modules = []; drafts = acc' }) ≡ Ok (record { modules = []; drafts = acc' ++ relined line ds })

read_step : (first : Token) (more rest : List Token) (line : ℕ) (d : Declaration) (trees : List Item) → first.line ≡ line → whole_statement_at (first ∷ (more ++ rest)) ≡ Ok (declares d, rest) → (last : ℕ) (all : List Token) (body : List Item) → judge last all (blocks_of (body ++ declared line d ∷ [])) rest ≡ Ok (record { body = items ((body ++ declared line d ∷ []) ++ trees); commands = [] }) → judge last all (blocks_of body) (first ∷ (more ++ rest)) ≡ Ok (record { body = items (body ++ declared line d ∷ trees); commands = [] })
read_step first more rest line d trees b e last all body ih =
    judge_step last all (blocks_of body) first (more ++ rest) (declares d) rest e
    ∙ ap (λ (n : ℕ). judge last all (blocks_of (body ++ declared n d ∷ [])) rest) b
    ∙ ih
    ∙ ap (λ (l : List Item). Ok (record { body = items l; commands = [] })) (append_assoc body (declared line d ∷ []) trees)

made_step : (kinds : List Meaning) (line : ℕ) (d : Draft) (decl : Declaration) (trees : List Item) (left : ℕ) (acc' : List Draft) (ds' : List Draft) → draft_of_declaration kinds line decl ≡ Ok (reline line d) → with_draft acc' (reline line d) ≡ Ok (acc' ++ reline line d ∷ []) → all_rewritings kinds left (statements outside (items trees)) (record { modules = []; drafts = acc' ++ reline line d ∷ [] }) ≡ Ok (record { modules = []; drafts = (acc' ++ reline line d ∷ []) ++ ds' }) → all_rewritings kinds (suc left) (statements outside (items (declared line decl ∷ trees))) (record { modules = []; drafts = acc' }) ≡ Ok (record { modules = []; drafts = acc' ++ reline line d ∷ ds' })
made_step kinds line d decl trees left acc' ds' e w ih = rw (e, w) (ih ∙ ap (λ (l : List Draft). Ok (record { modules = []; drafts = l })) (append_assoc acc' (reline line d ∷ []) ds'))

next_lines : (kinds : List Meaning) (net : List NodeDecl) (known : List (List ℕ)) (line : ℕ) (d : Draft) (ds : List Draft) → Said kinds line (statement_text kinds net (node_in known d)) d.role d.unit d → Lines kinds (line + 1) (flat_map (statement_text kinds net) (map (node_in known) ds)) ds → Lines kinds line (flat_map (statement_text kinds net) (map (node_in known) (d ∷ ds))) (d ∷ ds)
next_lines kinds net known line d ds said rest = record {
  found = said.first ∷ (said.more ++ rest.found);
  trees = declared line said.declaration ∷ rest.trees;
  lexed = said.lexed (flat_map (statement_text kinds net) (map (node_in known) ds)) ∙ ap (with_tokens (said.first ∷ said.more)) rest.lexed;
  read = λ last all body. read_step said.first said.more rest.found line said.declaration rest.trees said.begins (said.read rest.found) last all body (rest.read last all (body ++ declared line said.declaration ∷ []));
  made = makes;
} where
  makes : (acc acc' : List Draft) → map bare acc ≡ map bare acc' → Grown acc (d ∷ ds) → (left : ℕ) → length (d ∷ ds) ≤ left → all_rewritings kinds left (statements outside (items (declared line said.declaration ∷ rest.trees))) (record { modules = []; drafts = acc' }) ≡ Ok (record { modules = []; drafts = acc' ++ relined line (d ∷ ds) })
  makes acc acc' e g zero l = absurd (omega (arith, l))
  makes acc acc' e g (suc left) l =
      let fits = fits_alike acc acc' d (reline line d) e refl g.0 in
      made_step kinds line d said.declaration rest.trees left acc' (relined (line + 1) ds) said.declared (fits_added acc' (reline line d) fits) (rest.made (acc ++ d ∷ []) (acc' ++ reline line d ∷ []) (map_bare_more acc acc' d (reline line d) e refl) g.1 left (omega (arith, l)))

lines_of : (kinds : List Meaning) (net : List NodeDecl) (known : List (List ℕ)) → Named net known → (line : ℕ) (ds : List Draft) → Each (GoodDraft kinds) ds → Each (Refers known) ds → Lines kinds line (flat_map (statement_text kinds net) (map (node_in known) ds)) ds
lines_of kinds net known named line [] h k = record {
  found = [];
  trees = [];
  lexed = tokens_go_on.none line;
  read = λ last all body. judge_end last all (blocks_of body) ∙ ap (λ (l : List Item). Ok (record { body = items l; commands = [] })) (sym (append-nil body));
  made = λ acc acc' e g left l. nothing_left left acc';
} where
  nothing_left : (left : ℕ) (acc' : List Draft) → all_rewritings kinds left [] (record { modules = []; drafts = acc' }) ≡ Ok (record { modules = []; drafts = acc' ++ [] })
  nothing_left zero acc' = ap (λ (l : List Draft). Ok (record { modules = []; drafts = l })) (sym (append-nil acc'))
  nothing_left (suc left) acc' = ap (λ (l : List Draft). Ok (record { modules = []; drafts = l })) (sym (append-nil acc'))
lines_of kinds net known named line (d ∷ ds) h k = next_lines kinds net known line d ds (statement_said kinds net known named line d h.0 k.0) (lines_of kinds net known named (line + 1) ds h.1 k.1)

-- what is left to say of a text that is short enough
reads : (text : List ℕ) (found : List Token) (tree : Tree) → length text ≤ 4194304 → tokens text ≡ Ok found → judge (last_line text) found no_blocks_yet found ≡ Ok tree → text_reading text ≡ Ok tree
unfolding text_reading reading judge
reads text found tree short e j =
    ap (λ b. cond b (of_token_list (last_line text) (tokens text)) (Err too_long)) (le-leb (length text) 4194304 short)
    ∙ ap (of_token_list (last_line text)) e
    ∙ j

enough_steps : 1024 ≤ most_steps
unfolding most_steps
enough_steps = omega arith

expands : (kinds : List Meaning) (body : Items) (ds ds' : List Draft) (net : List NodeDecl) → all_rewritings kinds most_steps (statements outside body) nothing_yet ≡ Ok (record { modules = []; drafts = ds' }) → names ds' ≡ names ds → each (node_of (names ds)) ds' ≡ Ok net → expansion_of kinds (record { body = body; commands = [] }) ≡ Ok (record { net = net; commands = [] })
unfolding expansion_of
expands kinds body ds ds' net e n l =
    let m = subst (λ (k : List (List ℕ)). each (node_of k) ds' ≡ Ok net) (sym n) l in
    rw (e, m) refl

-- the text of nodes that were made from a text gives them back
pub given_back : (kinds : List Meaning) (ds : List Draft) (net : List NodeDecl) → Each (GoodDraft kinds) ds → Grown [] ds → each (node_of (names ds)) ds ≡ Ok net → length (net_text kinds net) ≤ 4194304 → (again : Tree) × (text_reading (net_text kinds net) ≡ Ok again) × (expansion_of kinds again ≡ Ok (record { net = net; commands = [] }))
given_back kinds ds net good grown e short =
    let l = nodes_all (names ds) ds net e in
    let same : net ≡ map (node_in (names ds)) ds = l.1 in
    let named = subst (λ (n : List NodeDecl). Named n (names ds)) (sym same) (all_named ds) in
    let lines = lines_of kinds net (names ds) named 1 ds good l.0 in
    let text : flat_map (statement_text kinds net) (map (node_in (names ds)) ds) ≡ net_text kinds net = ap (flat_map (statement_text kinds net)) (sym same) in
    let lexed : tokens (net_text kinds net) ≡ Ok lines.found = tokens_go_on.whole (net_text kinds net) ∙ ap (tokens_of 1) (sym text) ∙ lines.lexed in
    let few = grown_few [] ds grown (omega arith) in
    let steps = enough_steps in
    let made = lines.made [] [] refl grown most_steps (omega (arith, few, steps)) in (
      record { body = items lines.trees; commands = [] },
      reads (net_text kinds net) lines.found (record { body = items lines.trees; commands = [] }) short lexed (lines.read (last_line (net_text kinds net)) lines.found []),
      expands kinds (items lines.trees) ds (relined 1 ds) net made (names_relined 1 ds) (nodes_again (names ds) 1 ds l.0 ∙ ap (λ (n : List NodeDecl). Ok n) (sym same)),
    )
