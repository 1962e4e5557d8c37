-- The tree of a text is well formed.
use Rattle.std.proofs.Common.{◌≡◌, ◌∙◌, sym, refl, subst, ℕ, zero, suc, ◌<◌, Bool, true, false, cond, nat_le, nat_lt, List, [], ◌∷◌, length, Result, Ok, Err, arith}
use Rattle.dn_base.proofs.Lists.{Each}
use Rattle.dn_token.specs.Token.{Token, tokens}
use Rattle.dn_parse.specs.Tree.{Statement, declares, heads_module, uses, heads_loop, ends, begins, orders, Placed, Item, items, Command, Tree}
use Rattle.dn_parse.specs.Machine.{Stop, whole, refused, deep}
use Rattle.dn_parse.specs.Descent.{Read, whole_statement_at}
use Rattle.dn_parse.specs.Whole.{Opener, opens_module, opens_loop, Frame, Blocks, no_blocks_yet, closed_block, BlockStep, crowded, with_item, with_frame, without_frame, outside_blocks, before_begin, after_begin, step, TextFault, at_stop, by_step, judge, reading, too_long, of_token_list, last_line, text_reading}
use Rattle.dn_parse.proofs.Judge.{judge_step, judge_stop, judge_end, statement_shorter}
use Rattle.dn_print.proofs.Formed.{each_both}
use Rattle.dn_print.proofs.Proper.{Proper, tokens_proper}
use Rattle.dn_print.proofs.Trees.{Small, GoodStatement, GoodItem, GoodItems}
use Rattle.dn_print.proofs.Read.{Reads, whole_statement_reads}

abbrev GoodOpener : Opener → Type 0
GoodOpener (opens_module w ps) = Unit {0}
GoodOpener (opens_loop w from upto) = Small from × Small upto

abbrev GoodFrame : Frame → Type 0
GoodFrame f = GoodOpener f.opener × Each GoodItem f.before

abbrev GoodBlocks : Blocks → Type 0
GoodBlocks b = Each GoodFrame b.frames × Each GoodItem b.body

abbrev GoodStep : BlockStep → Type 0
GoodStep (Ok b) = GoodBlocks b
GoodStep (Err m) = Unit {0}

items_good : (is : List Item) → Each GoodItem is → GoodItems (items is)
items_good [] h = tt
items_good (i ∷ is) h = (h.0, items_good is h.1)

closed_good : (line : ℕ) (o : Opener) (before body : List Item) → GoodOpener o → Each GoodItem body → GoodItem (closed_block (record { line = line; opener = o; before = before }) body)
closed_good line (opens_module w ps) before body h g = items_good body g
closed_good line (opens_loop w from upto) before body h g = (h.0, h.1, items_good body g)

with_item_good : (b : Blocks) (i : Item) → GoodBlocks b → GoodItem i → GoodStep (with_item b i)
with_item_good b i h g = (h.0, each_both GoodItem b.body (i ∷ []) h.1 (g, tt))

with_frame_good : (b : Blocks) (line : ℕ) (o : Opener) → GoodBlocks b → GoodOpener o → GoodStep (with_frame b line o)
with_frame_good b line o h g = go (nat_lt (length b.frames) 16)
  where
    go : (t : Bool) → GoodStep (cond t (Ok (record { frames = record { line = line; opener = o; before = b.body } ∷ b.frames; body = []; begun = b.begun; commands = b.commands })) (Err crowded))
    go true = (((g, h.1), h.0), tt)
    go false = tt

without_frame_good : (b : Blocks) (fs : List Frame) → Each GoodFrame fs → Each GoodItem b.body → GoodStep (without_frame b fs)
without_frame_good b [] h g = tt
without_frame_good b (f ∷ fs) h g = (h.1, each_both GoodItem f.before (closed_block f b.body ∷ []) h.0.1 (closed_good f.line f.opener f.before b.body h.0.0 g, tt))

outside_good : (fs : List Frame) (s : BlockStep) → GoodStep s → GoodStep (outside_blocks fs s)
outside_good [] s h = h
outside_good (f ∷ fs) s h = tt

before_good : (b : Blocks) (line : ℕ) (s : Statement) → GoodBlocks b → GoodStatement s → GoodStep (before_begin b line s)
before_good b line (declares d) h g = with_item_good b _ h g
before_good b line (heads_module w ps) h g = outside_good b.frames _ (with_frame_good b line (opens_module w ps) h tt)
before_good b line (uses w xs n) h g = with_item_good b _ h g
before_good b line (heads_loop w from upto) h g = with_frame_good b line (opens_loop w from upto) h g
before_good b line ends h g = without_frame_good b b.frames h.0 h.1
before_good b line begins h g = outside_good b.frames (Ok (record { frames = b.frames; body = b.body; begun = true; commands = b.commands })) h
before_good b line (orders o) h g = tt

after_good : (b : Blocks) (line : ℕ) (s : Statement) → GoodBlocks b → GoodStep (after_begin b line s)
after_good b line (orders o) h = h
after_good b line _ h = tt

step_good : (b : Blocks) (p : Placed) → GoodBlocks b → GoodStatement p.statement → GoodStep (step b p)
step_good b p h g = go b.begun
  where
    go : (t : Bool) → GoodStep (cond t (after_begin b p.line p.statement) (before_begin b p.line p.statement))
    go true = after_good b p.line p.statement h
    go false = before_good b p.line p.statement h g

-- where the reading stops
whole_good : (last : ℕ) (all : List Token) (frames : List Frame) (body : List Item) (begun : Bool) (commands : List Command) (tree : Tree) → Each GoodItem body → at_stop whole last all (record { frames = frames; body = body; begun = begun; commands = commands }) ≡ Ok tree → GoodItems tree.body
whole_good last all [] body begun commands tree h e = let same : record { body = items body; commands = commands } ≡ tree = cc in subst (λ (t : Tree). GoodItems t.body) same (items_good body h)
whole_good last all (f ∷ fs) body begun commands tree h e = cc

stop_good : (z : Stop) (last : ℕ) (all : List Token) (b : Blocks) (tree : Tree) → GoodBlocks b → at_stop z last all b ≡ Ok tree → GoodItems tree.body
stop_good whole last all b tree h e = whole_good last all b.frames b.body b.begun b.commands tree h.1 e
stop_good (refused n) last all b tree h e = cc
stop_good (deep n) last all b tree h e = cc

by_good : (s : BlockStep) (line : ℕ) (next : Blocks → Result Tree TextFault) (tree : Tree) → GoodStep s → ((b : Blocks) → GoodBlocks b → next b ≡ Ok tree → GoodItems tree.body) → by_step s line next ≡ Ok tree → GoodItems tree.body
by_good (Ok b) line next tree h more e = more b h e
by_good (Err m) line next tree h more e = cc

judged_good : (n last : ℕ) (all ts : List Token) (b : Blocks) (tree : Tree) → length ts < n → Proper ts → GoodBlocks b → judge last all b ts ≡ Ok tree → GoodItems tree.body
judged_good zero last all ts b tree l p h e = absurd (omega (arith, l))
judged_good (suc n) last all [] b tree l p h e = stop_good whole last all b tree h (sym (judge_end last all b) ∙ e)
judged_good (suc n) last all (t ∷ ts) b tree l p h e = go (whole_statement_at (t ∷ ts)) refl (whole_statement_reads (t ∷ ts) p) (λ rest c q r g. judged_good n last all rest c tree q r g)
  where
    go : (r : Read Statement) → whole_statement_at (t ∷ ts) ≡ r → Reads GoodStatement r → ((rest : List Token) (c : Blocks) → length rest < n → Proper rest → GoodBlocks c → judge last all c rest ≡ Ok tree → GoodItems tree.body) → GoodItems tree.body
    go (Ok (s, rest)) is g ih =
        let shorter = statement_shorter t ts s rest is in
        by_good (step b (record { line = t.line; statement = s })) t.line (λ c. judge last all c rest) tree (step_good b (record { line = t.line; statement = s }) h g.it.0) (λ c k f. ih rest c (omega (arith, l, shorter)) g.it.1 k f) (sym (judge_step last all b t ts s rest is) ∙ e)
    go (Err z) is g ih = stop_good z last all b tree h (sym (judge_stop last all b t ts z is) ∙ e)

reading_is : (last : ℕ) (ts : List Token) → judge last ts no_blocks_yet ts ≡ reading last ts
unfolding reading judge
reading_is last ts = refl

of_good : (last : ℕ) (ts : List Token) (tree : Tree) → Proper ts → reading last ts ≡ Ok tree → GoodItems tree.body
of_good last ts tree p e = judged_good (suc (length ts)) last ts ts no_blocks_yet tree (omega arith) p (tt, tt) (reading_is last ts ∙ e)

list_good : (last : ℕ) (text : List ℕ) (r : Result (List Token) ℕ) (tree : Tree) → tokens text ≡ r → of_token_list last r ≡ Ok tree → GoodItems tree.body
list_good last text (Ok ts) tree is e = of_good last ts tree (tokens_proper text ts is) e
list_good last text (Err line) tree is e = cc

-- the tree of a text
pub tree_good : (text : List ℕ) (tree : Tree) → text_reading text ≡ Ok tree → GoodItems tree.body
unfolding text_reading
tree_good text tree e = go (nat_le (length text) 4194304) e
  where
    go : (b : Bool) → cond b (of_token_list (last_line text) (tokens text)) (Err too_long) ≡ Ok tree → GoodItems tree.body
    go true f = list_good (last_line text) text (tokens text) tree refl f
    go false f = cc
