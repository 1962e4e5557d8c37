-- Writes that were made in order: on words, and in the set of which these are the words of a unit.
use Rattle.std.proofs.Common.{◌≡◌, ℕ, zero, suc, ◌+◌, ◌-◌, ◌<◌, ◌≤◌, Bool, true, false, List, [], ◌∷◌, ◌++◌, length, take, drop, get_or, replicate, slice_get, slice_set, Option, Some, None, IsTrue, refl, sym, ap, ◌∙◌, subst, arith, length-append, length-drop}
use Rattle.std.specs.Option.{option_map}
use Rattle.std.proofs.lemmas.List.{take_all, take_more, length-take-le, take_at, take-append-le, length_push}
use Rattle.dn_base.specs.Device.{Logged, UnitSize, has_word, sizes_of, with_word}
use Rattle.dn_base.proofs.Logs.{Logged-none, Logged-then}
use Rattle.dn_base.specs.declared.device.TableEvent.{TableEvent}
use Rattle.dn_base.specs.declared.device.TableEvent.TheVariants.{Write}
use Rattle.dn_base.specs.declared.device.UnitWords.{UnitWords}
use Rattle.dn_tables.specs.declared.table.NodeTable.{NodeTable}
use Rattle.dn_tables.specs.Set.{with_words, IsSet, IsOnDevice, has_slot, unit_of_table, words_of_table, tables_of_set}
use Rattle.dn_tables.specs.Writes.{WordWrite, writes_from, clears_from, write_events, words_after, device_after, AreWordsWritten, AreMade}
use Rattle.dn_tables.proofs.Devices.{word_on_device, on_device_after}
use Rattle.dn_tables.proofs.Kept.{with_table_is, IsSlot, slot_in_set, set_kept}
use Rattle.dn_tables.proofs.Values.{after_append, length_after, writes_last, writes_split, length_writes}

-- events, one row after another

events_append : (unit : ℕ) (xs ys : List WordWrite) → write_events unit (xs ++ ys) ≡ write_events unit xs ++ write_events unit ys
events_append unit [] ys = refl
events_append unit (x ∷ xs) ys = ap (λ (l : List TableEvent). Write unit x.word x.value ∷ l) (events_append unit xs ys)

device_append : (unit : ℕ) (xs ys : List WordWrite) (tables : List UnitWords) → device_after unit (xs ++ ys) tables ≡ device_after unit ys (device_after unit xs tables)
device_append unit [] ys tables = refl
device_append unit (x ∷ xs) ys tables = device_append unit xs ys _

told_append : (unit : ℕ) (xs ys : List WordWrite) (told : Option (List UnitWords)) → option_map (device_after unit ys) (option_map (device_after unit xs) told) ≡ option_map (device_after unit (xs ++ ys)) told
told_append unit xs ys None = refl
told_append unit xs ys (Some tables) = ap Some (sym (device_append unit xs ys tables))

-- words and the set that they are of

-- writes to the words of a unit are writes in the set
pub made_in_set : (set set' : List NodeTable) (node : ℕ) (t t' : NodeTable) (writes : List WordWrite) (failed : Bool) (log log' : Option (List TableEvent)) (told told' : Option (List UnitWords)) → slice_get set node ≡ Some t → set' ≡ slice_set set node t' → t' ≡ with_words t t'.words → AreWordsWritten node writes failed log log' told told' t.words t'.words → AreMade node writes failed log log' told told' set set'
made_in_set set set' node t t' writes failed log log' told told' at is same w = record {
  made = w.made;
  all = w.all;
  less = w.less;
  logged = w.logged;
  on_device = w.on_device;
  kept = is ∙ ap (slice_set set node) (same ∙ ap (with_words t) w.kept) ∙ with_table_is set node t (λ u. with_words u (words_after (take w.made writes) u.words)) at;
}

-- no write was made
pub none_written : (unit : ℕ) (log log' : Option (List TableEvent)) (told told' : Option (List UnitWords)) (words : List ℕ) → log' ≡ log → told' ≡ told → AreWordsWritten unit [] false log log' told told' words words
none_written unit log log' told told' words l t = record {
  made = 0;
  all = λ e. refl;
  less = λ e. cc;
  logged = Logged-none log log' l;
  on_device = t ∙ no_change_told told;
  kept = refl;
}
  where
    no_change_told : (o : Option (List UnitWords)) → o ≡ option_map (device_after unit []) o
    no_change_told None = refl
    no_change_told (Some tables) = refl

-- one write was made behind others
pub one_more : (unit : ℕ) (writes : List WordWrite) (word value : ℕ) (log log' log'' : Option (List TableEvent)) (told told' told'' : Option (List UnitWords)) (words words' words'' : List ℕ) → AreWordsWritten unit writes false log log' told told' words words' → Logged log' log'' (Write unit word value ∷ []) → told'' ≡ option_map (λ ts. with_word ts unit word value) told' → words'' ≡ slice_set words' word value → AreWordsWritten unit (writes ++ record { word = word; value = value } ∷ []) false log log'' told told'' words words''
one_more unit writes word value log log' log'' told told' told'' words words' words'' w l t e =
    let one : List WordWrite = record { word = word; value = value } ∷ [] in
    let whole : take w.made writes ≡ writes = take_all w.made writes (omega (arith, w.all refl)) in
    let len : length (writes ++ one) ≡ length writes + 1 = length_push writes (record { word = word; value = value }) in
    let all : take (length (writes ++ one)) (writes ++ one) ≡ writes ++ one = take_all (length (writes ++ one)) (writes ++ one) (omega arith) in
    let logged : Logged log log' (write_events unit writes) = subst (λ ws. Logged log log' (write_events unit ws)) whole w.logged in
    record {
      made = length (writes ++ one);
      all = λ f. refl;
      less = λ f. cc;
      logged = subst (λ es. Logged log log'' es) (sym (ap (write_events unit) all ∙ events_append unit writes one)) (Logged-then log log' log'' (write_events unit writes) (Write unit word value ∷ []) logged l);
      on_device = t ∙ ap (option_map (λ ts. with_word ts unit word value)) (w.on_device ∙ ap (λ ws. option_map (device_after unit ws) told) whole) ∙ told_append unit writes one told ∙ ap (λ ws. option_map (device_after unit ws) told) (sym all);
      kept = e ∙ ap (λ ws. slice_set ws word value) (w.kept ∙ ap (λ ws. words_after ws words) whole) ∙ sym (after_append writes one words) ∙ ap (λ ws. words_after ws words) (sym all);
    }

-- and then the next failed
pub stopped_before : (unit : ℕ) (writes later : List WordWrite) (log log' log'' : Option (List TableEvent)) (told told' told'' : Option (List UnitWords)) (words words' : List ℕ) → 0 < length later → AreWordsWritten unit writes false log log' told told' words words' → log'' ≡ log' → told'' ≡ told' → AreWordsWritten unit (writes ++ later) true log log'' told told'' words words'
stopped_before unit writes later log log' log'' told told' told'' words words' some w l t =
    let len : length (writes ++ later) ≡ length writes + length later = length-append writes later in
    let whole : take w.made writes ≡ writes = take_all w.made writes (omega (arith, w.all refl)) in
    let front : take (length writes) (writes ++ later) ≡ writes = take_at writes later (length writes) refl in
    record {
      made = length writes;
      all = λ f. cc;
      less = λ f. omega arith;
      logged = subst (λ ws. Logged log log'' (write_events unit ws)) (whole ∙ sym front) (subst (λ o. Logged log o (write_events unit (take w.made writes))) (sym l) w.logged);
      on_device = t ∙ w.on_device ∙ ap (λ ws. option_map (device_after unit ws) told) (whole ∙ sym front);
      kept = w.kept ∙ ap (λ ws. words_after ws words) (whole ∙ sym front);
    }

-- writes that stopped are the first of more writes
pub stopped_early : (unit : ℕ) (writes later : List WordWrite) (log log' : Option (List TableEvent)) (told told' : Option (List UnitWords)) (words words' : List ℕ) → AreWordsWritten unit writes true log log' told told' words words' → AreWordsWritten unit (writes ++ later) true log log' told told' words words'
stopped_early unit writes later log log' told told' words words' w =
    let len : length (writes ++ later) ≡ length writes + length later = length-append writes later in
    let less : w.made < length writes = w.less refl in
    let front : take w.made (writes ++ later) ≡ take w.made writes = take-append-le w.made writes later (omega arith) in
    record {
      made = w.made;
      all = λ f. cc;
      less = λ f. omega arith;
      logged = subst (λ ws. Logged log log' (write_events unit ws)) (sym front) w.logged;
      on_device = w.on_device ∙ ap (λ ws. option_map (device_after unit ws) told) (sym front);
      kept = w.kept ∙ ap (λ ws. words_after ws words) (sym front);
    }

-- writes that were made, and then others
pub written_then : (unit : ℕ) (xs ys : List WordWrite) (failed : Bool) (log log' log'' : Option (List TableEvent)) (told told' told'' : Option (List UnitWords)) (words words' words'' : List ℕ) → AreWordsWritten unit xs false log log' told told' words words' → AreWordsWritten unit ys failed log' log'' told' told'' words' words'' → AreWordsWritten unit (xs ++ ys) failed log log'' told told'' words words''
written_then unit xs ys failed log log' log'' told told' told'' words words' words'' w v =
    let len : length (xs ++ ys) ≡ length xs + length ys = length-append xs ys in
    let whole : take w.made xs ≡ xs = take_all w.made xs (omega (arith, w.all refl)) in
    let front : take (length xs + v.made) (xs ++ ys) ≡ xs ++ take v.made ys = take_more_of xs ys v.made in
    let first : Logged log log' (write_events unit xs) = subst (λ ws. Logged log log' (write_events unit ws)) whole w.logged in
    record {
      made = length xs + v.made;
      all = λ f. let e = v.all f in omega arith;
      less = λ f. let e = v.less f in omega arith;
      logged = subst (λ es. Logged log log'' es) (sym (ap (write_events unit) front ∙ events_append unit xs (take v.made ys))) (Logged-then log log' log'' (write_events unit xs) (write_events unit (take v.made ys)) first v.logged);
      on_device = v.on_device ∙ ap (option_map (device_after unit (take v.made ys))) (w.on_device ∙ ap (λ ws. option_map (device_after unit ws) told) whole) ∙ told_append unit xs (take v.made ys) told ∙ ap (λ ws. option_map (device_after unit ws) told) (sym front);
      kept = v.kept ∙ ap (words_after (take v.made ys)) (w.kept ∙ ap (λ ws. words_after ws words) whole) ∙ sym (after_append xs (take v.made ys) words) ∙ ap (λ ws. words_after ws words) (sym front);
    }
  where
    take_more_of : (xs ys : List WordWrite) (k : ℕ) → take (length xs + k) (xs ++ ys) ≡ xs ++ take k ys
    take_more_of [] ys k = let e : 0 + k ≡ k = omega arith in ap (λ n. take n ys) e
    take_more_of (x ∷ xs) ys k =
        let e : suc (length xs) + k ≡ suc (length xs + k) = omega arith in
        ap (λ n. take n (x ∷ (xs ++ ys))) e ∙ ap (λ (l : List WordWrite). x ∷ l) (take_more_of xs ys k)

-- values that are written in order

-- one value more
pub value_written : (unit first i word v : ℕ) (vs : List ℕ) (log log' log'' : Option (List TableEvent)) (told told' told'' : Option (List UnitWords)) (words words' words'' : List ℕ) → i < length vs → word ≡ first + i → v ≡ get_or vs i v → AreWordsWritten unit (writes_from first (take i vs)) false log log' told told' words words' → Logged log' log'' (Write unit word v ∷ []) → told'' ≡ option_map (λ ts. with_word ts unit word v) told' → words'' ≡ slice_set words' word v → AreWordsWritten unit (writes_from first (take (i + 1) vs)) false log log'' told told'' words words''
value_written unit first i word v vs log log' log'' told told' told'' words words' words'' l place at w logged t e =
    let many : length (take i vs) ≡ i = length-take-le i vs (omega arith) in
    let more : take (i + 1) vs ≡ take i vs ++ v ∷ [] = take_more vs i v l ∙ ap (λ x. take i vs ++ x ∷ []) (sym at) in
    let split : writes_from first (take (i + 1) vs) ≡ writes_from first (take i vs) ++ record { word = word; value = v } ∷ [] =
    ap (writes_from first) more ∙ writes_last first (take i vs) v ∙ ap (λ n. writes_from first (take i vs) ++ record { word = first + n; value = v } ∷ []) many ∙ ap (λ n. writes_from first (take i vs) ++ record { word = n; value = v } ∷ []) (sym place) in
    subst (λ ws. AreWordsWritten unit ws false log log'' told told'' words words'') (sym split) (one_more unit (writes_from first (take i vs)) word v log log' log'' told told' told'' words words' words'' w logged t e)

-- the next value failed
pub value_failed : (unit first i : ℕ) (vs : List ℕ) (failed : Bool) (log log' log'' : Option (List TableEvent)) (told told' told'' : Option (List UnitWords)) (words words' : List ℕ) → i < length vs → failed ≡ true → AreWordsWritten unit (writes_from first (take i vs)) false log log' told told' words words' → log'' ≡ log' → told'' ≡ told' → AreWordsWritten unit (writes_from first vs) failed log log'' told told'' words words'
value_failed unit first i vs failed log log' log'' told told' told'' words words' l f w e t =
    let d : length (drop i vs) ≡ length vs - i = length-drop i vs in
    let n : length (writes_from (first + i) (drop i vs)) ≡ length (drop i vs) = length_writes (first + i) (drop i vs) in
    subst (λ b. AreWordsWritten unit (writes_from first vs) b log log'' told told'' words words') (sym f)
    (subst (λ ws. AreWordsWritten unit ws true log log'' told told'' words words') (sym (writes_split i first vs))
    (stopped_before unit (writes_from first (take i vs)) (writes_from (first + i) (drop i vs)) log log' log'' told told' told'' words words' (omega arith) w e t))

-- words 0 of a constant
abbrev pub three_zeros : List ℕ
three_zeros = 0 ∷ 0 ∷ 0 ∷ []

pub zeros_front : (n : ℕ) → n ≤ 3 → take n three_zeros ≡ replicate n 0
zeros_front zero l = refl
zeros_front (suc zero) l = refl
zeros_front (suc (suc zero)) l = refl
zeros_front (suc (suc (suc zero))) l = refl
zeros_front (suc (suc (suc (suc n)))) l = absurd (omega arith)

-- the gate word is cleared, and then the others
pub cleared_in_order : (unit first width others others' : ℕ) (failed : Bool) (log log' log'' : Option (List TableEvent)) (told told' told'' : Option (List UnitWords)) (words words' words'' : List ℕ) → others ≡ width - 1 → others' ≡ width - 1 → width ≤ 4 → AreWordsWritten unit (writes_from (first + others) (0 ∷ [])) false log log' told told' words words' → AreWordsWritten unit (writes_from first (take others' three_zeros)) failed log' log'' told' told'' words' words'' → AreWordsWritten unit (clears_from first width) failed log log'' told told'' words words''
cleared_in_order unit first width others others' failed log log' log'' told told' told'' words words' words'' e f l w v =
    let zeros : take others' three_zeros ≡ replicate (width - 1) 0 = zeros_front others' (omega arith) ∙ ap (λ n. replicate n 0) f in
    let whole : writes_from (first + others) (0 ∷ []) ++ writes_from first (take others' three_zeros) ≡ clears_from first width =
    ap (λ n. record { word = first + n; value = 0 } ∷ writes_from first (take others' three_zeros)) e ∙ ap (λ (l : List ℕ). record { word = first + (width - 1); value = 0 } ∷ writes_from first l) zeros in
    subst (λ ws. AreWordsWritten unit ws failed log log'' told told'' words words'') whole (written_then unit (writes_from (first + others) (0 ∷ [])) (writes_from first (take others' three_zeros)) failed log log' log'' told told' told'' words words' words'' w v)

-- the gate word was not cleared
pub gate_not_cleared : (unit first width others : ℕ) (failed : Bool) (log log' : Option (List TableEvent)) (told told' : Option (List UnitWords)) (words words' : List ℕ) → others ≡ width - 1 → failed ≡ true → AreWordsWritten unit (writes_from (first + others) (0 ∷ [])) true log log' told told' words words' → AreWordsWritten unit (clears_from first width) failed log log' told told' words words'
gate_not_cleared unit first width others failed log log' told told' words words' e f w =
    let whole : writes_from (first + others) (0 ∷ []) ++ writes_from first (replicate (width - 1) 0) ≡ clears_from first width = ap (λ n. record { word = first + n; value = 0 } ∷ writes_from first (replicate (width - 1) 0)) e in
    subst (λ b. AreWordsWritten unit (clears_from first width) b log log' told told' words words') (sym f) (subst (λ ws. AreWordsWritten unit ws true log log' told told' words words') whole (stopped_early unit (writes_from (first + others) (0 ∷ [])) (writes_from first (replicate (width - 1) 0)) log log' told told' words words' w))

-- a call on the table of a node, seen from its set
pub record IsCallIn (items set : List NodeTable) (index node slot : ℕ) (t : NodeTable) : Type 0 where
  pub view : items ≡ set
  pub place : index ≡ node
  pub is_set : IsSet items
  pub here : IsSlot set node slot t

pub call_in : (items set : List NodeTable) (index node slot : ℕ) (t : NodeTable) → items ≡ set → index ≡ node → IsSet items → IsTrue (has_slot set node slot) → t ≡ get_or items index t → IsCallIn items set index node slot t
call_in items set index node slot t view place is_set there at = record { view = view; place = place; is_set = is_set; here = slot_in_set items set index node slot t view place is_set there at }

-- the words of the table are words of the device
pub words_on_device : (items set : List NodeTable) (index node slot : ℕ) (t : NodeTable) (sizes : List UnitSize) (told : Option (List UnitWords)) → IsCallIn items set index node slot t → IsOnDevice set sizes told → (word : ℕ) → word < length t.words → has_word sizes node word ≡ true
words_on_device items set index node slot t sizes told call d word l =
    let s : IsSlot set node slot t = call.here in
    let none : 0 + node ≡ node = omega arith in
    ap (λ z. has_word z node word) d.units
    ∙ ap (λ n. has_word (sizes_of (tables_of_set set)) n word) (sym none)
    ∙ word_on_device set 0 node word s.part (ap unit_of_table s.at ∙ s.unit) (subst (λ o. word < length (words_of_table o)) (sym s.at) l)

-- the set is one after it
pub call_keeps : (items set : List NodeTable) (index node slot : ℕ) (t t' : NodeTable) (writes : List WordWrite) (failed : Bool) (log log' : Option (List TableEvent)) (told told' : Option (List UnitWords)) → IsCallIn items set index node slot t → t' ≡ with_words t t'.words → AreWordsWritten node writes failed log log' told told' t.words t'.words → IsSet (slice_set items index t')
call_keeps items set index node slot t t' writes failed log log' told told' call same w =
    set_kept items index t t' call.is_set call.here.has.sized (ap (λ (u : NodeTable). u.unit) same) (ap (λ (u : NodeTable). u.width) same) (ap length w.kept ∙ length_after (take w.made writes) t.words) (ap (λ (u : NodeTable). length u.uses) same)

-- its writes are made in the set
pub call_made : (items set : List NodeTable) (index node slot : ℕ) (t t' : NodeTable) (writes seen : List WordWrite) (failed : Bool) (log log' : Option (List TableEvent)) (told told' : Option (List UnitWords)) → IsCallIn items set index node slot t → t' ≡ with_words t t'.words → seen ≡ writes → AreWordsWritten node writes failed log log' told told' t.words t'.words → AreMade node seen failed log log' told told' set (slice_set items index t')
call_made items set index node slot t t' writes seen failed log log' told told' call same e w =
    subst (λ ws. AreMade node ws failed log log' told told' set (slice_set items index t')) (sym e)
    (made_in_set set (slice_set items index t') node t t' writes failed log log' told told' call.here.at (ap (λ l. slice_set l index t') call.view ∙ ap (λ i. slice_set set i t') call.place) same w)

-- and the device is that of the set still
pub call_on_device : (items set : List NodeTable) (index node slot : ℕ) (t : NodeTable) (set' : List NodeTable) (writes : List WordWrite) (failed : Bool) (log log' : Option (List TableEvent)) (told told' : Option (List UnitWords)) (sizes sizes' : List UnitSize) → IsCallIn items set index node slot t → IsOnDevice set sizes told → sizes' ≡ sizes → AreMade node writes failed log log' told told' set set' → IsOnDevice set' sizes' told'
call_on_device items set index node slot t set' writes failed log log' told told' sizes sizes' call d e m =
    let s : IsSlot set node slot t = call.here in
    on_device_after (take m.made writes) set set' node s.part sizes sizes' told told' (ap unit_of_table s.at ∙ s.unit) d e m.on_device m.kept
