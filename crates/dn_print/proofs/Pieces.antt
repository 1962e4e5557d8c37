-- Blocks, destinations and entries as they are printed: their tokens, and what is read from them.
use Rattle.std.proofs.Common.{◌≡◌, ◌∙◌, ap, sym, refl, subst, ℕ, ◌≤◌, Bool, List, [], ◌∷◌, ◌++◌, map, length, codes, Some, None, Ok, IsTrue, arith, append_assoc}
use Rattle.std.specs.List.{list_all}
use Rattle.dn_token.specs.declared.token.Keyword.TheVariants.{To, And, At}
use Rattle.dn_token.specs.declared.token.Sign.TheVariants.{Comma, Minus}
use Rattle.dn_token.specs.Token.{Token}
use Rattle.dn_token.specs.Words.{spelling}
use Rattle.dn_parse.specs.Tree.{constant, Part, Block as BlockOf, Dest as DestOf}
use Rattle.dn_parse.specs.Descent.{Reader, if_there, one_more, after_sign, after_keyword, after_comma, keyword_at, name_at, upper_at, block_at, next_block_at, blocks_at, addr_at, dest_at, next_dest_at, dests_at, entry_at, next_entry_at, entries_at}
use Rattle.dn_net.specs.declared.node.Block.{Block}
use Rattle.dn_net.specs.declared.node.NodeDecl.{NodeDecl}
use Rattle.dn_module.specs.declared.draft.DraftEntry.{DraftEntry}
use Rattle.dn_module.specs.declared.draft.DraftDest.{DraftDest}
use Rattle.dn_scope.specs.Values.{each}
use Rattle.dn_module.specs.Drafts.{block_of, dest_of, entry_of, dests_known, node_number_of, dest_in, entry_in}
use Rattle.dn_scope.specs.Numbered.{is_known}
use Rattle.dn_print.specs.Names.{address_text}
use Rattle.dn_print.specs.Statement.{marked_texts, block_text, blocks_text, node_name, dest_text, dests_text, entry_text, entries_text}
use Rattle.dn_base.proofs.Booleans.{and_parts}
use Rattle.dn_base.proofs.Lists.{Each}
use Rattle.dn_print.proofs.Formed.{GoodBlock, GoodDest, GoodEntry}
use Rattle.dn_print.proofs.Lexes.{number_token, sign_token, keyword_token, Closed, Quiet, closed_then, open_then, address_closed, keyword_between, comma_open, minus_open}
use Rattle.dn_print.proofs.Labels.{NumberEnd, NameEnd, number_read, name_shown}
use Rattle.dn_print.proofs.Shown.{Shown, Mark, row_shown, first_shown, most_shown}

-- what may follow an entry, pieces with commas between them, and a list of blocks or of entries
abbrev pub EntryEnd : List Token → Type 0
EntryEnd rest = NumberEnd rest × (after_keyword And rest ≡ None)

abbrev pub CommasEnd : (List Token → Type 0) → List Token → Type 0
CommasEnd Fit rest = Fit rest × (after_sign Comma rest ≡ None)

abbrev pub BlocksEnd : List Token → Type 0
BlocksEnd rest = CommasEnd NumberEnd rest

abbrev pub EntriesEnd : List Token → Type 0
EntriesEnd rest = CommasEnd EntryEnd rest

-- the number that stands for a known name is that of the node with this text
abbrev pub Named : List NodeDecl → List (List ℕ) → Type 0
Named net known = (t : List ℕ) → IsTrue (is_known known t) → node_name net (node_number_of known t) ≡ t

-- a block
block_read : (line lo hi : ℕ) (rest : List Token) → NumberEnd rest → block_at (number_token line lo ∷ sign_token line Minus ∷ number_token line hi ∷ rest) ≡ Ok (record { lo = constant lo; hi = Some (constant hi) }, rest)
unfolding block_at upper_at after_sign
block_read line lo hi rest h =
    let first = number_read 32 line lo (sign_token line Minus ∷ number_token line hi ∷ rest) (refl, refl) in
    let second = number_read 32 line hi rest h in
    rw (first, second) refl

minus_quiet : (t : List ℕ) → Quiet (codes "-" ++ t)
minus_quiet t = record { it = λ rest h. refl }

pub block_shown : (line : ℕ) (b : Block) → GoodBlock b → Shown line (block_text b) block_at NumberEnd block_of b
block_shown line b h = record {
  tokens = number_token line b.lo ∷ sign_token line Minus ∷ number_token line b.hi ∷ [];
  tree = record { lo = constant b.lo; hi = Some (constant b.hi) };
  lexed = closed_then (address_closed line b.lo h.0) (minus_quiet (address_text b.hi)) (open_then (minus_open line) (address_closed line b.hi h.1));
  read = λ rest e. block_read line b.lo b.hi rest e;
  valued = refl;
}

-- commas between pieces
no_comma : {X : Type 0} (reader : Reader X) (rest : List Token) → after_sign Comma rest ≡ None → after_comma reader rest ≡ Ok None
no_comma reader rest h = rw h refl

pub comma_mark : {X : Type 0} (line : ℕ) (reader : Reader X) (Fit : List Token → Type 0) → ((ts : List Token) → Fit (sign_token line Comma ∷ ts)) → Mark line (codes ", ") reader (after_comma reader) Fit (CommasEnd Fit)
unfolding after_sign
comma_mark line reader Fit fit = record {
  token = sign_token line Comma;
  lexed = comma_open line;
  quiet = λ t. record { it = λ rest h. refl };
  one = λ ts. refl;
  fit = fit;
  none = λ rest h. no_comma reader rest h.1;
  ends = λ rest h. h.0;
}

comma_ends_number : (line : ℕ) (ts : List Token) → NumberEnd (sign_token line Comma ∷ ts)
unfolding after_sign
comma_ends_number line ts = (refl, refl)

pub blocks_shown : (line : ℕ) (b : Block) (bs : List Block) → Each GoodBlock (b ∷ bs) → Shown line (blocks_text (b ∷ bs)) blocks_at BlocksEnd (each block_of) (b ∷ bs)
unfolding blocks_at next_block_at
blocks_shown line b bs h = first_shown (block_shown line b h.0) (row_shown (comma_mark line block_at NumberEnd (comma_ends_number line)) GoodBlock block_text (marked_texts (codes ", ") block_text) refl (λ c cs. refl) (block_shown line) bs h.1)

-- a destination
addr_read : (line a : ℕ) (rest : List Token) → NumberEnd rest → addr_at (keyword_token line At ∷ number_token line a ∷ rest) ≡ Ok (Some (constant a), rest)
unfolding addr_at after_keyword
addr_read line a rest h =
    let e = number_read 32 line a rest h in
    rw e refl

at_ends_name : (line : ℕ) (ts : List Token) → NameEnd (keyword_token line At ∷ ts)
unfolding after_sign
at_ends_name line ts = (refl, refl)

dest_read : (line a : ℕ) (name : List Part) (ts rest : List Token) → NumberEnd rest → name_at 32 (ts ++ (keyword_token line At ∷ number_token line a ∷ rest)) ≡ Ok (name, keyword_token line At ∷ number_token line a ∷ rest) → dest_at ((ts ++ (keyword_token line At ∷ number_token line a ∷ [])) ++ rest) ≡ Ok (record { name = name; addr = Some (constant a) }, rest)
unfolding dest_at
dest_read line a name ts rest h e =
    let whole = ap (name_at 32) (append_assoc ts (keyword_token line At ∷ number_token line a ∷ []) rest) ∙ e in
    let addr = addr_read line a rest h in
    rw (whole, addr) refl

at_quiet : (t : List ℕ) → Quiet (codes " at " ++ t)
at_quiet t = record { it = λ rest h. refl }

pub dest_shown : (net : List NodeDecl) (known : List (List ℕ)) → Named net known → (line lo : ℕ) (d : DraftDest) → GoodDest d → IsTrue (is_known known d.to) → Shown line (dest_text net (dest_in known d)) dest_at NumberEnd (dest_of lo) d
unfolding spelling
dest_shown net known named line lo d h k =
    let name = name_shown line d.to h.0 in
    let v = name.valued in
    record {
      tokens = name.tokens ++ (keyword_token line At ∷ number_token line d.addr ∷ []);
      tree = record { name = name.tree; addr = Some (constant d.addr) };
      lexed = subst (λ (t : List ℕ). Closed line (t ++ (codes " at " ++ address_text d.addr)) (name.tokens ++ (keyword_token line At ∷ number_token line d.addr ∷ []))) (sym (named d.to k)) (closed_then name.lexed (at_quiet (address_text d.addr)) (open_then (keyword_between line At) (address_closed line d.addr h.1)));
      read = λ rest e. dest_read line d.addr name.tree name.tokens rest e (name.read (keyword_token line At ∷ number_token line d.addr ∷ rest) (at_ends_name line (number_token line d.addr ∷ rest)));
      valued = rw v refl;
    }

and_mark : (line : ℕ) → Mark line (codes " and ") dest_at next_dest_at NumberEnd EntryEnd
unfolding spelling next_dest_at after_sign after_keyword
and_mark line = record {
  token = keyword_token line And;
  lexed = keyword_between line And;
  quiet = λ t. record { it = λ rest h. refl };
  one = λ ts. refl;
  fit = λ ts. (refl, refl);
  none = λ rest h. ap (λ found. if_there found (λ behind. one_more (dest_at behind)) (Ok None)) h.1;
  ends = λ rest h. h.0;
}

-- each item is so, and passes a test
pub each_passes : {X : Type 0} (P : X → Type 0) (test : X → Bool) (xs : List X) → Each P xs → IsTrue (list_all test xs) → Each (λ x. P x × IsTrue (test x)) xs
each_passes P test [] h k = tt
each_passes P test (x ∷ xs) h k =
    let ks = and_parts (test x) (list_all test xs) k in
    ((h.0, ks.0), each_passes P test xs h.1 ks.1)

dests_shown : (net : List NodeDecl) (known : List (List ℕ)) → Named net known → (line lo : ℕ) (ds : List DraftDest) → Each GoodDest ds → 1 ≤ length ds → length ds ≤ 8 → IsTrue (dests_known known ds) → Shown line (dests_text net (map (dest_in known) ds)) dests_at EntryEnd (each (dest_of lo)) ds
unfolding dests_at
dests_shown net known named line lo [] h some few k = absurd (omega (arith, some))
dests_shown net known named line lo (d ∷ ds) h some few k =
    let all = each_passes GoodDest (λ (e : DraftDest). is_known known e.to) (d ∷ ds) h k in
    let one = λ (e : DraftDest) (g : GoodDest e × IsTrue (is_known known e.to)). dest_shown net known named line lo e g.0 g.1 in
    most_shown 7 (omega (arith, few)) (one d all.0) (row_shown (and_mark line) (λ (e : DraftDest). GoodDest e × IsTrue (is_known known e.to)) (λ (e : DraftDest). dest_text net (dest_in known e)) (λ (es : List DraftDest). marked_texts (codes " and ") (dest_text net) (map (dest_in known) es)) refl (λ e es. refl) one ds all.1)

-- an entry
pub to_quiet : (t : List ℕ) → Quiet (codes " to " ++ t)
to_quiet t = record { it = λ rest h. refl }

to_ends_number : (line : ℕ) (ts : List Token) → NumberEnd (keyword_token line To ∷ ts)
unfolding after_sign
to_ends_number line ts = (refl, refl)

entry_read : (line : ℕ) (b : BlockOf) (ds : List DestOf) (xs ys rest : List Token) → block_at (xs ++ (keyword_token line To ∷ (ys ++ rest))) ≡ Ok (b, keyword_token line To ∷ (ys ++ rest)) → dests_at (ys ++ rest) ≡ Ok (ds, rest) → entry_at ((xs ++ (keyword_token line To ∷ ys)) ++ rest) ≡ Ok (record { block = b; dests = ds }, rest)
unfolding entry_at keyword_at after_keyword
entry_read line b ds xs ys rest e g =
    let whole = ap block_at (append_assoc xs (keyword_token line To ∷ ys) rest) ∙ e in
    rw (whole, g) refl

pub entry_shown : (net : List NodeDecl) (known : List (List ℕ)) → Named net known → (line : ℕ) (e : DraftEntry) → GoodEntry e → IsTrue (dests_known known e.dests) → Shown line (entry_text net (entry_in known e)) entry_at EntryEnd entry_of e
unfolding spelling
entry_shown net known named line e h k =
    let block = block_shown line e.block h.0 in
    let dests = dests_shown net known named line e.block.lo e.dests h.1 h.2 h.3 k in
    let v = block.valued in
    let w = dests.valued in
    record {
      tokens = block.tokens ++ (keyword_token line To ∷ dests.tokens);
      tree = record { block = block.tree; dests = dests.tree };
      lexed = closed_then block.lexed (to_quiet (dests_text net (map (dest_in known) e.dests))) (open_then (keyword_between line To) dests.lexed);
      read = λ rest g. entry_read line block.tree dests.tree block.tokens dests.tokens rest (block.read (keyword_token line To ∷ (dests.tokens ++ rest)) (to_ends_number line (dests.tokens ++ rest))) (dests.read rest g);
      valued = rw v (rw w refl);
    }

comma_ends_entry : (line : ℕ) (ts : List Token) → EntryEnd (sign_token line Comma ∷ ts)
unfolding after_sign after_keyword
comma_ends_entry line ts = ((refl, refl), refl)

abbrev pub entries_known : List (List ℕ) → List DraftEntry → Bool
entries_known known es = list_all (λ e. dests_known known e.dests) es

pub entries_shown : (net : List NodeDecl) (known : List (List ℕ)) → Named net known → (line : ℕ) (e : DraftEntry) (es : List DraftEntry) → Each GoodEntry (e ∷ es) → IsTrue (entries_known known (e ∷ es)) → Shown line (entries_text net (map (entry_in known) (e ∷ es))) entries_at EntriesEnd (each entry_of) (e ∷ es)
unfolding entries_at next_entry_at
entries_shown net known named line e es h k =
    let all = each_passes GoodEntry (λ (x : DraftEntry). dests_known known x.dests) (e ∷ es) h k in
    let one = λ (x : DraftEntry) (g : GoodEntry x × IsTrue (dests_known known x.dests)). entry_shown net known named line x g.0 g.1 in
    first_shown (one e all.0) (row_shown (comma_mark line entry_at EntryEnd (comma_ends_entry line)) (λ (x : DraftEntry). GoodEntry x × IsTrue (dests_known known x.dests)) (λ (x : DraftEntry). entry_text net (entry_in known x)) (λ (xs : List DraftEntry). marked_texts (codes ", ") (entry_text net) (map (entry_in known) xs)) refl (λ x xs. refl) one es all.1)
