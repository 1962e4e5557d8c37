-- Records that are put, and slots that are cleared, part after part.
use Rattle.std.proofs.Common.{◌≡◌, Bool, true, false, if◌then◌else◌, List, [], ◌∷◌, ◌++◌, filter, replicate, Option, refl, sym, ap, ◌∙◌, subst}
use Rattle.std.proofs.lemmas.Grind.{flat_map-append}
use Rattle.std.proofs.lemmas.List.Elements.{filter-append}
use Rattle.dn_base.specs.declared.device.TableEvent.{TableEvent}
use Rattle.dn_base.specs.declared.device.UnitWords.{UnitWords}
use Rattle.dn_kind.specs.Kind.{Meaning}
use Rattle.dn_tables.specs.declared.table.NodeTable.{NodeTable}
use Rattle.dn_tables.specs.Set.{KeepsFit, packed_in, width_in, with_slot, words_of}
use Rattle.dn_tables.specs.Writes.{AreMade, clear_writes, put_writes, write_events}
use Rattle.dn_book.specs.Sets.{AreCleared, ArePut, after_clears, after_puts, clear_log, is_used_by, put_log}
use Rattle.dn_book.specs.Events.{AreWritten}
use Rattle.dn_book.specs.Writes.{Put}
use Rattle.dn_book.proofs.Written.{written_made, written_none, written_one, written_passed, written_stop, written_then}
use Rattle.dn_book.proofs.Facts.{fit_none, fit_then}
use Rattle.dn_book.proofs.Frames.{SameFrame, clear_log_in_frame, clears_append, frame_clears, frame_puts, put_log_in_frame, puts_append, used_in_frame}

abbrev put_events_in : List Meaning → List NodeTable → Put → List TableEvent
put_events_in kinds set s = write_events s.unit (put_writes kinds set s.unit s.slot s.holds)

abbrev clear_events_in : List NodeTable → Put → List TableEvent
clear_events_in set s = write_events s.unit (clear_writes set s.unit s.slot)

-- PUTS

-- no record
pub put_none : (kinds : List Meaning) (log log' : Option (List TableEvent)) (set set' : List NodeTable) → log' ≡ log → set' ≡ set → ArePut kinds [] false log log' set set'
put_none kinds log log' set set' l e = record {
  done = λ f. e;
  written = written_none log log' (words_of set) (words_of set') l (ap words_of e);
  fits = subst (KeepsFit set) (sym e) (fit_none set);
}

-- one record, of a slot that no grant uses
pub put_one : (kinds : List Meaning) (s : Put) (failed failed' : Bool) (log log' : Option (List TableEvent)) (told told' : Option (List UnitWords)) (set set' : List NodeTable) → is_used_by 0 set s ≡ true → failed' ≡ failed → (failed ≡ false → set' ≡ with_slot set s.unit s.slot (packed_in kinds set s.unit s.holds)) → KeepsFit set set' → AreMade s.unit (put_writes kinds set s.unit s.slot s.holds) failed log log' told told' set set' → ArePut kinds (s ∷ []) failed' log log' set set'
put_one kinds s failed failed' log log' told told' set set' e same done fits made = record {
  done = λ f. done (sym same ∙ f) ∙ sym (ap (λ b. after_puts kinds set (if b then s ∷ [] else [])) e);
  written = written_one (put_events_in kinds set) (is_used_by 0 set) s failed' log log' (words_of set) (words_of set') e (written_made s.unit (put_writes kinds set s.unit s.slot s.holds) failed failed' log log' told told' set set' same made);
  fits = fits;
}

-- one record, of a slot that a grant uses
pub put_passed : (kinds : List Meaning) (s : Put) (log log' : Option (List TableEvent)) (set set' : List NodeTable) → is_used_by 0 set s ≡ false → log' ≡ log → set' ≡ set → ArePut kinds (s ∷ []) false log log' set set'
put_passed kinds s log log' set set' e l same = record {
  done = λ f. same ∙ sym (ap (λ b. after_puts kinds set (if b then s ∷ [] else [])) e);
  written = written_passed (put_events_in kinds set) (is_used_by 0 set) s log log' (words_of set) (words_of set') e l (ap words_of same);
  fits = (put_none kinds log log' set set' l same).fits;
}

-- a part, and then another
pub put_then : (kinds : List Meaning) (xs ys : List Put) (failed : Bool) (a b c : Option (List TableEvent)) (s t u : List NodeTable) → ArePut kinds xs false a b s t → ArePut kinds ys failed b c t u → ArePut kinds (xs ++ ys) failed a c s u
put_then kinds xs ys failed a b c s t u x y =
    let p : Put → Bool = is_used_by 0 s in
    let split : filter p (xs ++ ys) ≡ filter p xs ++ filter p ys = filter-append p xs ys in
    let made : t ≡ after_puts kinds s (filter p xs) = x.done refl in
    let frame : SameFrame s t = subst (SameFrame s) (sym made) (frame_puts kinds s (filter p xs)) in
    let later : filter (is_used_by 0 t) ys ≡ filter p ys = used_in_frame 0 s t frame ys in
    let logs : put_log kinds t (filter (is_used_by 0 t) ys) ≡ put_log kinds s (filter p ys) = ap (put_log kinds t) later ∙ put_log_in_frame kinds s t frame (filter p ys) in
    let whole : put_log kinds s (filter p (xs ++ ys)) ≡ put_log kinds s (filter p xs) ++ put_log kinds s (filter p ys) = ap (put_log kinds s) split ∙ flat_map-append (put_events_in kinds s) (filter p xs) (filter p ys) in
    record {
      done = λ f. y.done f ∙ ap (after_puts kinds t) later ∙ ap (λ set. after_puts kinds set (filter p ys)) made ∙ sym (puts_append kinds s (filter p xs) (filter p ys)) ∙ ap (after_puts kinds s) (sym split);
      written = subst (λ es. AreWritten es failed a c (words_of s) (words_of u)) (sym whole) (written_then (put_log kinds s (filter p xs)) (put_log kinds s (filter p ys)) failed a b c (words_of s) (words_of t) (words_of u) x.written (subst (λ es. AreWritten es failed b c (words_of t) (words_of u)) logs y.written));
      fits = fit_then s t u x.fits y.fits;
    }

-- a part that stopped is the beginning of more
pub put_stop : (kinds : List Meaning) (xs ys : List Put) (failed failed' : Bool) (a b : Option (List TableEvent)) (s t : List NodeTable) → failed' ≡ true → failed ≡ true → ArePut kinds xs failed a b s t → ArePut kinds (xs ++ ys) failed' a b s t
put_stop kinds xs ys failed failed' a b s t e f x =
    let p : Put → Bool = is_used_by 0 s in
    let split : filter p (xs ++ ys) ≡ filter p xs ++ filter p ys = filter-append p xs ys in
    let whole : put_log kinds s (filter p (xs ++ ys)) ≡ put_log kinds s (filter p xs) ++ put_log kinds s (filter p ys) = ap (put_log kinds s) split ∙ flat_map-append (put_events_in kinds s) (filter p xs) (filter p ys) in
    record {
      done = λ g. let c : true ≡ false = sym e ∙ g in cc;
      written = subst (λ es. AreWritten es failed' a b (words_of s) (words_of t)) (sym whole) (written_stop (put_log kinds s (filter p xs)) (put_log kinds s (filter p ys)) failed failed' a b (words_of s) (words_of t) e f x.written);
      fits = x.fits;
    }

-- part after part, of a whole that is known by its parts
pub put_begin : (kinds : List Meaning) (whole : List Put) (log : Option (List TableEvent)) (set : List NodeTable) → [] ≡ whole → ArePut kinds whole false log log set set
put_begin kinds whole log set e = subst (λ l. ArePut kinds l false log log set set) e (put_none kinds log log set set refl refl)

pub put_next : (kinds : List Meaning) (xs ys whole : List Put) (failed : Bool) (a b c : Option (List TableEvent)) (s t u : List NodeTable) → whole ≡ xs ++ ys → failed ≡ false → ArePut kinds xs false a b s t → ArePut kinds ys failed b c t u → ArePut kinds whole false a c s u
put_next kinds xs ys whole failed a b c s t u e ok x y =
    subst (λ l. ArePut kinds l false a c s u) (sym e) (put_then kinds xs ys false a b c s t u x (subst (λ f. ArePut kinds ys f b c t u) ok y))

pub put_stopped : (kinds : List Meaning) (xs ys rest whole : List Put) (failed failed' : Bool) (a b c : Option (List TableEvent)) (s t u : List NodeTable) → whole ≡ (xs ++ ys) ++ rest → failed' ≡ true → failed ≡ true → ArePut kinds xs false a b s t → ArePut kinds ys failed b c t u → ArePut kinds whole failed' a c s u
put_stopped kinds xs ys rest whole failed failed' a b c s t u e stop was x y =
    subst (λ l. ArePut kinds l failed' a c s u) (sym e) (put_stop kinds (xs ++ ys) rest failed failed' a c s u stop was (put_then kinds xs ys failed a b c s t u x y))

pub put_end : (kinds : List Meaning) (xs whole : List Put) (a b : Option (List TableEvent)) (s t : List NodeTable) → xs ≡ whole → ArePut kinds xs false a b s t → ArePut kinds whole false a b s t
put_end kinds xs whole a b s t e x = subst (λ l. ArePut kinds l false a b s t) e x

-- CLEARS

-- no slot
pub clear_none : (log log' : Option (List TableEvent)) (set set' : List NodeTable) → log' ≡ log → set' ≡ set → AreCleared [] false log log' set set'
clear_none log log' set set' l e = record {
  done = λ f. e;
  written = written_none log log' (words_of set) (words_of set') l (ap words_of e);
  fits = (put_none [] log log' set set' l e).fits;
}

-- one slot, which one grant uses
pub clear_one : (s : Put) (failed failed' : Bool) (log log' : Option (List TableEvent)) (told told' : Option (List UnitWords)) (set set' : List NodeTable) → is_used_by 1 set s ≡ true → failed' ≡ failed → (failed ≡ false → set' ≡ with_slot set s.unit s.slot (replicate (width_in set s.unit) 0)) → KeepsFit set set' → AreMade s.unit (clear_writes set s.unit s.slot) failed log log' told told' set set' → AreCleared (s ∷ []) failed' log log' set set'
clear_one s failed failed' log log' told told' set set' e same done fits made = record {
  done = λ f. done (sym same ∙ f) ∙ sym (ap (λ b. after_clears set (if b then s ∷ [] else [])) e);
  written = written_one (clear_events_in set) (is_used_by 1 set) s failed' log log' (words_of set) (words_of set') e (written_made s.unit (clear_writes set s.unit s.slot) failed failed' log log' told told' set set' same made);
  fits = fits;
}

-- one slot, which several use
pub clear_passed : (s : Put) (log log' : Option (List TableEvent)) (set set' : List NodeTable) → is_used_by 1 set s ≡ false → log' ≡ log → set' ≡ set → AreCleared (s ∷ []) false log log' set set'
clear_passed s log log' set set' e l same = record {
  done = λ f. same ∙ sym (ap (λ b. after_clears set (if b then s ∷ [] else [])) e);
  written = written_passed (clear_events_in set) (is_used_by 1 set) s log log' (words_of set) (words_of set') e l (ap words_of same);
  fits = (put_none [] log log' set set' l same).fits;
}

-- a part, and then another
pub clear_then : (xs ys : List Put) (failed : Bool) (a b c : Option (List TableEvent)) (s t u : List NodeTable) → AreCleared xs false a b s t → AreCleared ys failed b c t u → AreCleared (xs ++ ys) failed a c s u
clear_then xs ys failed a b c s t u x y =
    let p : Put → Bool = is_used_by 1 s in
    let split : filter p (xs ++ ys) ≡ filter p xs ++ filter p ys = filter-append p xs ys in
    let made : t ≡ after_clears s (filter p xs) = x.done refl in
    let frame : SameFrame s t = subst (SameFrame s) (sym made) (frame_clears s (filter p xs)) in
    let later : filter (is_used_by 1 t) ys ≡ filter p ys = used_in_frame 1 s t frame ys in
    let logs : clear_log t (filter (is_used_by 1 t) ys) ≡ clear_log s (filter p ys) = ap (clear_log t) later ∙ clear_log_in_frame s t frame (filter p ys) in
    let whole : clear_log s (filter p (xs ++ ys)) ≡ clear_log s (filter p xs) ++ clear_log s (filter p ys) = ap (clear_log s) split ∙ flat_map-append (clear_events_in s) (filter p xs) (filter p ys) in
    record {
      done = λ f. y.done f ∙ ap (after_clears t) later ∙ ap (λ set. after_clears set (filter p ys)) made ∙ sym (clears_append s (filter p xs) (filter p ys)) ∙ ap (after_clears s) (sym split);
      written = subst (λ es. AreWritten es failed a c (words_of s) (words_of u)) (sym whole) (written_then (clear_log s (filter p xs)) (clear_log s (filter p ys)) failed a b c (words_of s) (words_of t) (words_of u) x.written (subst (λ es. AreWritten es failed b c (words_of t) (words_of u)) logs y.written));
      fits = fit_then s t u x.fits y.fits;
    }

-- a part that stopped is the beginning of more
pub clear_stop : (xs ys : List Put) (failed failed' : Bool) (a b : Option (List TableEvent)) (s t : List NodeTable) → failed' ≡ true → failed ≡ true → AreCleared xs failed a b s t → AreCleared (xs ++ ys) failed' a b s t
clear_stop xs ys failed failed' a b s t e f x =
    let p : Put → Bool = is_used_by 1 s in
    let split : filter p (xs ++ ys) ≡ filter p xs ++ filter p ys = filter-append p xs ys in
    let whole : clear_log s (filter p (xs ++ ys)) ≡ clear_log s (filter p xs) ++ clear_log s (filter p ys) = ap (clear_log s) split ∙ flat_map-append (clear_events_in s) (filter p xs) (filter p ys) in
    record {
      done = λ g. let c : true ≡ false = sym e ∙ g in cc;
      written = subst (λ es. AreWritten es failed' a b (words_of s) (words_of t)) (sym whole) (written_stop (clear_log s (filter p xs)) (clear_log s (filter p ys)) failed failed' a b (words_of s) (words_of t) e f x.written);
      fits = x.fits;
    }

-- part after part, of a whole that is known by its parts
pub clear_begin : (whole : List Put) (log : Option (List TableEvent)) (set : List NodeTable) → [] ≡ whole → AreCleared whole false log log set set
clear_begin whole log set e = subst (λ l. AreCleared l false log log set set) e (clear_none log log set set refl refl)

pub clear_next : (xs ys whole : List Put) (failed : Bool) (a b c : Option (List TableEvent)) (s t u : List NodeTable) → whole ≡ xs ++ ys → failed ≡ false → AreCleared xs false a b s t → AreCleared ys failed b c t u → AreCleared whole false a c s u
clear_next xs ys whole failed a b c s t u e ok x y =
    subst (λ l. AreCleared l false a c s u) (sym e) (clear_then xs ys false a b c s t u x (subst (λ f. AreCleared ys f b c t u) ok y))

pub clear_stopped : (xs ys rest whole : List Put) (failed failed' : Bool) (a b c : Option (List TableEvent)) (s t u : List NodeTable) → whole ≡ (xs ++ ys) ++ rest → failed' ≡ true → failed ≡ true → AreCleared xs false a b s t → AreCleared ys failed b c t u → AreCleared whole failed' a c s u
clear_stopped xs ys rest whole failed failed' a b c s t u e stop was x y =
    subst (λ l. AreCleared l failed' a c s u) (sym e) (clear_stop (xs ++ ys) rest failed failed' a c s u stop was (clear_then xs ys failed a b c s t u x y))

pub clear_end : (xs whole : List Put) (a b : Option (List TableEvent)) (s t : List NodeTable) → xs ≡ whole → AreCleared xs false a b s t → AreCleared whole false a b s t
clear_end xs whole a b s t e x = subst (λ l. AreCleared l false a b s t) e x

-- what clearing leaves
pub cleared_frame : (ss : List Put) (log log' : Option (List TableEvent)) (set set' : List NodeTable) → AreCleared ss false log log' set set' → SameFrame set set'
cleared_frame ss log log' set set' x = subst (SameFrame set) (sym (x.done refl)) (frame_clears set (filter (is_used_by 1 set) ss))
