-- An output that is written piece by piece.
use Rattle.std.proofs.Common.{◌≡◌, ◌∙◌, ap, sym, subst, refl, ℕ, ◌+◌, ◌<◌, ◌≤◌, Bool, true, false, List, [], ◌++◌, length, drop, get_or, slice_get, Option, Some, Result, is_ok, append_assoc, append-nil}
use Rattle.std.specs.List.{flat_map}
use Rattle.std.proofs.Math.ListN.{drop_of_length-le}
use Rattle.std.proofs.lemmas.Option.{slice_get-get_or}
use Rattle.dn_base.proofs.Lists.{drop_at, item_there}
use Rattle.dn_base.specs.Outside.{Added, Faults, IsCounted, IsWritten}
use Rattle.dn_base.proofs.Counts.{counted_then}
use Rattle.dn_base.proofs.Told.{Added-none, Added-then, less_then, prefix_by, prefix_then, written_all}
use Rattle.dn_script.specs.declared.halt.RunHalt.{RunHalt}
use Rattle.dn_script.specs.Halt.{HaltsBySink, Writes, is_device_halt, is_write_halt}

-- a part of an output was written, and the rest was not
pub record IsSoFar (a b : Option (List ℕ)) (rest all : List ℕ) : Type 0 where
  pub done : List ℕ
  pub added : Added a b done
  pub joined : done ++ rest ≡ all

-- nothing was written
pub begun : (a : Option (List ℕ)) (all : List ℕ) → IsSoFar a a all all
begun a all = record { done = []; added = Added-none a a refl; joined = refl }

-- one more piece was
pub gone_on : (a b c : Option (List ℕ)) (x rest later all : List ℕ) → IsSoFar a b rest all → rest ≡ x ++ later → Added b c x → IsSoFar a c later all
gone_on a b c x rest later all s e p = record {
  done = s.done ++ x;
  added = Added-then a b c s.done x s.added p;
  joined = append_assoc s.done x later ∙ ap (λ l. s.done ++ l) (sym e) ∙ s.joined;
}

-- it stopped before a piece
pub stopped_before : (a b : Option (List ℕ)) (rest all : List ℕ) → IsSoFar a b rest all → IsWritten a b false false all
stopped_before a b rest all s = record { whole = λ e. cc; less = λ e. cc; front = prefix_by a b s.done rest all s.added s.joined }

-- it stopped in a piece
pub stopped_in : (a b c : Option (List ℕ)) (failed : Bool) (x rest later all : List ℕ) → IsSoFar a b rest all → rest ≡ x ++ later → IsWritten b c false failed x → IsWritten a c false failed all
stopped_in a b c failed x rest later all s e w =
    let joined : s.done ++ (x ++ later) ≡ all = ap (λ l. s.done ++ l) (sym e) ∙ s.joined in
    record {
      whole = λ t. cc;
      less = λ t. less_then a b c s.done x later all s.added (w.less t) joined;
      front = prefix_then a b c s.done x later all s.added w.front joined;
    }

-- what is told of a call that stopped before a piece, and of one that stopped where it wrote one
pub stopped_here : {A : Type 0} (r : Result A RunHalt) (a b : Option (List ℕ)) (rest all : List ℕ) (old new : Faults) → is_ok r ≡ false → is_write_halt r ≡ false → is_device_halt r ≡ false →
    IsSoFar a b rest all → IsCounted old new false → Writes r a b all × HaltsBySink r old new
stopped_here r a b rest all old new done failed no_device s n = (rw (done, failed) (stopped_before a b rest all s), record { no_device = no_device; counted = rw failed n })

pub stopped_there : {A B : Type 0} (r : Result A RunHalt) (w : Result B RunHalt) (a b c : Option (List ℕ)) (x rest later all : List ℕ) (old mid new : Faults) → is_ok r ≡ false → is_write_halt r ≡ is_write_halt w → is_device_halt r ≡ false → is_ok w ≡ false →
    IsSoFar a b rest all → rest ≡ x ++ later → Writes w b c x → IsCounted old mid false → IsCounted mid new (is_write_halt w) → Writes r a c all × HaltsBySink r old new
stopped_there r w a b c x rest later all old mid new done failed no_device stop s e written n m = (
  rw (done, failed) (stopped_in a b c (is_write_halt w) x rest later all s e (rw stop at written)),
  record { no_device = no_device; counted = rw failed (counted_then old mid new (is_write_halt w) n m) },
)

-- all of it, or a part, was written where a part of the rest was
pub rest_written : (a b c : Option (List ℕ)) (done failed : Bool) (rest all : List ℕ) → IsSoFar a b rest all → IsWritten b c done failed rest → IsWritten a c done failed all
rest_written a b c done failed rest all s w =
    let joined : s.done ++ (rest ++ []) ≡ all = ap (λ l. s.done ++ l) (append-nil rest) ∙ s.joined in
    record {
      whole = λ t. subst (λ l. Added a c l) s.joined (Added-then a b c s.done rest s.added (w.whole t));
      less = λ t. less_then a b c s.done rest [] all s.added (w.less t) joined;
      front = prefix_then a b c s.done rest [] all s.added w.front joined;
    }

-- a piece was written, and then the rest, or a part of it
pub then_written : (a b c : Option (List ℕ)) (done failed : Bool) (x later : List ℕ) → Added a b x → IsWritten b c done failed later → IsWritten a c done failed (x ++ later)
then_written a b c done failed x later p w = rest_written a b c done failed later (x ++ later) (gone_on a a b x (x ++ later) later (x ++ later) (begun a (x ++ later)) refl p) w

-- a call that stopped where it wrote the first piece
pub stopped_first : {A B : Type 0} (r : Result A RunHalt) (w : Result B RunHalt) (a b : Option (List ℕ)) (x later : List ℕ) → is_ok r ≡ false → is_write_halt r ≡ is_write_halt w → is_ok w ≡ false → Writes w a b x → Writes r a b (x ++ later)
stopped_first r w a b x later done failed stop written = rw (done, failed) (stopped_in a a b (is_write_halt w) x (x ++ later) later (x ++ later) (begun a (x ++ later)) refl (rw stop at written))

-- all of it was written
pub ended : (a b : Option (List ℕ)) (rest all : List ℕ) → IsSoFar a b rest all → rest ≡ [] → IsWritten a b true false all
ended a b rest all s e =
    let P : List ℕ → Type 0 = λ l. Added a b l in
    written_all a b all (subst P (sym (append-nil s.done) ∙ ap (λ l. s.done ++ l) (sym e) ∙ s.joined) s.added)

-- the text of the first of the items that are left, and of those behind it
pub record NextText {X : Type 0} (f : X → List ℕ) (xs : List X) (i : ℕ) : Type 0 where
  pub item : X
  pub at : slice_get xs i ≡ Some item
  pub text : flat_map f (drop i xs) ≡ f item ++ flat_map f (drop (i + 1) xs)

pub next_text : {X : Type 0} (f : X → List ℕ) (xs : List X) (i : ℕ) → i < length xs → NextText f xs i
next_text {X} f xs i l =
    let r = item_there xs i l in
    let s : ◌≡◌ {A = Option X} (Some (get_or xs i r.0)) (Some r.0) = sym (slice_get-get_or xs i r.0 l) ∙ r.1 in
    let g : r.0 ≡ get_or xs i r.0 = cc in
    record { item = r.0; at = r.1; text = ap (flat_map f) (drop_at xs i r.0 l g) }

pub no_text : {X : Type 0} (f : X → List ℕ) (xs : List X) (i : ℕ) → length xs ≤ i → flat_map f (drop i xs) ≡ []
no_text f xs i l = ap (flat_map f) (drop_of_length-le xs l)
