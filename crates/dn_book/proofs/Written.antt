-- Events that are added to a log and done in tables in order, part after part.
use Rattle.std.proofs.Common.{◌≡◌, ℕ, zero, suc, ◌+◌, ◌<◌, Bool, true, false, if◌then◌else◌, List, [], ◌∷◌, ◌++◌, filter, length, take, Option, refl, sym, ap, ◌∙◌, subst, arith, append-nil, length-append}
use Rattle.std.specs.List.{flat_map}
use Rattle.std.proofs.lemmas.List.{take_all, take-append-le}
use Rattle.std.proofs.Math.Seq.{take-append-add}
use Rattle.dn_base.specs.Device.{Logged}
use Rattle.dn_base.specs.declared.device.TableEvent.{TableEvent}
use Rattle.dn_base.specs.declared.device.TableEvent.TheVariants.{Write}
use Rattle.dn_base.specs.declared.device.UnitWords.{UnitWords}
use Rattle.dn_base.proofs.Logs.{Logged-none, Logged-then}
use Rattle.dn_tables.specs.declared.table.NodeTable.{NodeTable}
use Rattle.dn_tables.specs.Set.{words_of}
use Rattle.dn_tables.specs.Writes.{WordWrite, AreMade, words_after, write_events}
use Rattle.dn_book.specs.Events.{AreWritten, after_events}
use Rattle.dn_book.specs.Writes.{AreAdded, fence_events}
use Rattle.dn_book.proofs.Going.{after_append}
use Rattle.dn_book.proofs.Nodes.{after_writes, table_words}

pub take_events : (unit k : ℕ) (ws : List WordWrite) → write_events unit (take k ws) ≡ take k (write_events unit ws)
take_events unit zero ws = refl
take_events unit (suc k) [] = refl
take_events unit (suc k) (w ∷ ws) = ap (λ (l : List TableEvent). Write unit w.word w.value ∷ l) (take_events unit k ws)

pub length_events : (unit : ℕ) (ws : List WordWrite) → length (write_events unit ws) ≡ length ws
length_events unit [] = refl
length_events unit (w ∷ ws) = ap suc (length_events unit ws)

-- what came to the log
pub added : (es : List TableEvent) (failed : Bool) (a b : Option (List TableEvent)) (v w : List (List ℕ)) → AreWritten es failed a b v w → AreAdded es failed a b
added es failed a b v w x = record { made = x.made; all = x.all; less = x.less; logged = x.logged }

-- nothing came
pub written_none : (log log' : Option (List TableEvent)) (v w : List (List ℕ)) → log' ≡ log → w ≡ v → AreWritten [] false log log' v w
written_none log log' v w e f = record { made = 0; all = λ g. refl; less = λ g. cc; logged = Logged-none log log' e; kept = f }

-- the events of writes
pub written_made : (unit : ℕ) (writes : List WordWrite) (failed failed' : Bool) (log log' : Option (List TableEvent)) (told told' : Option (List UnitWords)) (set set' : List NodeTable) → failed' ≡ failed → AreMade unit writes failed log log' told told' set set' → AreWritten (write_events unit writes) failed' log log' (words_of set) (words_of set')
written_made unit writes failed failed' log log' told told' set set' e m =
    let n : length (write_events unit writes) ≡ length writes = length_events unit writes in
    record {
      made = m.made;
      all = λ f. m.all (sym e ∙ f) ∙ sym n;
      less = λ f. let l = m.less (sym e ∙ f) in omega arith;
      logged = subst (Logged log log') (take_events unit m.made writes) m.logged;
      kept = ap words_of m.kept
          ∙ table_words set unit _ (words_after (take m.made writes)) (λ t. refl)
          ∙ sym (after_writes (take m.made writes) (words_of set) unit)
          ∙ ap (λ es. after_events es (words_of set)) (take_events unit m.made writes);
    }

-- all of the events came
every : (es : List TableEvent) (a b : Option (List TableEvent)) (v w : List (List ℕ)) (x : AreWritten es false a b v w) → take x.made es ≡ es
every es a b v w x = take_all x.made es (let h = x.all refl in omega arith)

-- so they did in the tables
pub written_words : (es : List TableEvent) (a b : Option (List TableEvent)) (v w : List (List ℕ)) → AreWritten es false a b v w → w ≡ after_events es v
written_words es a b v w x = x.kept ∙ ap (λ l. after_events l v) (every es a b v w x)

-- events, and then others
pub written_then : (es fs : List TableEvent) (failed : Bool) (a b c : Option (List TableEvent)) (u v w : List (List ℕ)) → AreWritten es false a b u v → AreWritten fs failed b c v w → AreWritten (es ++ fs) failed a c u w
written_then es fs failed a b c u v w x y =
    let n : length (es ++ fs) ≡ length es + length fs = length-append es fs in
    let front : take (length es + y.made) (es ++ fs) ≡ es ++ take y.made fs = take-append-add es fs y.made in
    record {
      made = length es + y.made;
      all = λ f. let h = y.all f in omega arith;
      less = λ f. let h = y.less f in omega arith;
      logged = subst (Logged a c) (sym front) (Logged-then a b c es (take y.made fs) (subst (Logged a b) (every es a b u v x) x.logged) y.logged);
      kept = y.kept
          ∙ ap (after_events (take y.made fs)) (written_words es a b u v x)
          ∙ sym (after_append es (take y.made fs) u)
          ∙ ap (λ l. after_events l u) (sym front);
    }

-- events that stopped are the first of more
pub written_stop : (es fs : List TableEvent) (failed failed' : Bool) (a b : Option (List TableEvent)) (v w : List (List ℕ)) → failed' ≡ true → failed ≡ true → AreWritten es failed a b v w → AreWritten (es ++ fs) failed' a b v w
written_stop es fs failed failed' a b v w e f x =
    let n : length (es ++ fs) ≡ length es + length fs = length-append es fs in
    let less : x.made < length es = x.less f in
    let front : take x.made (es ++ fs) ≡ take x.made es = take-append-le x.made es fs (omega arith) in
    record {
      made = x.made;
      all = λ g. let t : true ≡ false = sym e ∙ g in cc;
      less = λ g. omega arith;
      logged = subst (Logged a b) (sym front) x.logged;
      kept = x.kept ∙ ap (λ l. after_events l v) (sym front);
    }

-- one part of a list of parts: it is made, or passed over
pub written_one : {X : Type 0} (f : X → List TableEvent) (p : X → Bool) (x : X) (failed : Bool) (a b : Option (List TableEvent)) (v w : List (List ℕ)) → p x ≡ true → AreWritten (f x) failed a b v w → AreWritten (flat_map f (filter p (x ∷ []))) failed a b v w
written_one {X} f p x failed a b v w e y =
    let here : flat_map f (filter p (x ∷ [])) ≡ f x = ap (λ t. flat_map f (if t then x ∷ [] else [])) e ∙ append-nil (f x) in
    subst (λ es. AreWritten es failed a b v w) (sym here) y

pub written_passed : {X : Type 0} (f : X → List TableEvent) (p : X → Bool) (x : X) (a b : Option (List TableEvent)) (v w : List (List ℕ)) → p x ≡ false → b ≡ a → w ≡ v → AreWritten (flat_map f (filter p (x ∷ []))) false a b v w
written_passed {X} f p x a b v w e same kept =
    let here : flat_map f (filter p (x ∷ [])) ≡ [] = ap (λ t. flat_map f (if t then x ∷ [] else [])) e in
    subst (λ es. AreWritten es false a b v w) (sym here) (written_none a b v w same kept)

-- a fence changes no word
pub written_fence : (is_due failed : Bool) (a b : Option (List TableEvent)) (v : List (List ℕ)) → AreAdded (fence_events is_due) failed a b → AreWritten (fence_events is_due) failed a b v v
written_fence is_due failed a b v x = record { made = x.made; all = x.all; less = x.less; logged = x.logged; kept = sym (same is_due x.made) }
  where
    same : (is_due : Bool) (k : ℕ) → after_events (take k (fence_events is_due)) v ≡ v
    same false zero = refl
    same false (suc k) = refl
    same true zero = refl
    same true (suc zero) = refl
    same true (suc (suc k)) = refl
