-- Tables after logs that stand one after the other, and logs that only add records or only clear them.
use Rattle.std.proofs.Common.{◌≡◌, ℕ, zero, suc, ◌<◌, Bool, true, false, List, [], ◌∷◌, ◌++◌, length, take, refl, arith}
use Rattle.dn_base.specs.declared.device.TableEvent.{TableEvent}
use Rattle.dn_net.specs.declared.node.NodeDecl.{NodeDecl}
use Rattle.dn_kind.specs.Kind.{Meaning}
use Rattle.dn_kind.specs.Tables.{Extends}
use Rattle.dn_book.specs.Events.{after_event, after_events, held_at}
use Rattle.dn_book.specs.Going.{AreGoing, Goes, falls, rises, waits}

pub after_append : (es fs : List TableEvent) (words : List (List ℕ)) → after_events (es ++ fs) words ≡ after_events fs (after_events es words)
after_append [] fs words = refl
after_append (e ∷ es) fs words = after_append es fs (after_event e words)

-- what goes so where it is told that a record was cleared goes so where none was
lowered : (net : List NodeDecl) (kinds : List Meaning) (words : List (List ℕ)) (a b c : Bool) (es : List TableEvent) → (b ≡ false → a ≡ false) → AreGoing net kinds words b es c → AreGoing net kinds words a es c
lowered net kinds words a b c [] f g = λ e. f (g e)
lowered net kinds words a b c (e ∷ es) f g = (g.0, by g.1, g.2)
  where
    by : Goes net kinds words b e g.0 → Goes net kinds words a e g.0
    by (waits i) = waits i
    by (rises i j x) = rises (f i) j x
    by (falls j x) = falls j x

pub going_append : (net : List NodeDecl) (kinds : List Meaning) (words : List (List ℕ)) (a b c : Bool) (es fs : List TableEvent) → AreGoing net kinds words a es b → AreGoing net kinds (after_events es words) b fs c → AreGoing net kinds words a (es ++ fs) c
going_append net kinds words a b c [] fs g h = lowered net kinds words a b c fs g h
going_append net kinds words a b c (e ∷ es) fs g h = (g.0, g.1, going_append net kinds (after_event e words) g.0 b c es fs g.2 h)

-- a front of such a log is one
pub going_front : (net : List NodeDecl) (kinds : List Meaning) (words : List (List ℕ)) (a b : Bool) (k : ℕ) (es : List TableEvent) → AreGoing net kinds words a es b → (c : Bool) × AreGoing net kinds words a (take k es) c
going_front net kinds words a b zero es g = (a, λ e. e)
going_front net kinds words a b (suc k) [] g = (a, λ e. e)
going_front net kinds words a b (suc k) (e ∷ es) g =
    let r = going_front net kinds (after_event e words) g.0 b k es g.2 in
    (r.0, (g.0, g.1, r.1))

-- events that only add
pub adding : (net : List NodeDecl) (kinds : List Meaning) (words : List (List ℕ)) (es : List TableEvent) → ((k : ℕ) → k < length es → Extends (held_at net kinds words es k) (held_at net kinds words es (suc k))) → AreGoing net kinds words false es false
adding net kinds words [] f = λ e. e
adding net kinds words (e ∷ es) f = (false, rises refl refl (f 0 (omega arith)), adding net kinds (after_event e words) es (λ k l. f (suc k) (omega arith)))

-- and events that only clear
pub clearing : (net : List NodeDecl) (kinds : List Meaning) (words : List (List ℕ)) (a : Bool) (es : List TableEvent) → ((k : ℕ) → k < length es → Extends (held_at net kinds words es (suc k)) (held_at net kinds words es k)) → AreGoing net kinds words a es true
clearing net kinds words a [] f = λ e. (let c : true ≡ false = e in cc)
clearing net kinds words a (e ∷ es) f = (true, falls refl (f 0 (omega arith)), clearing net kinds (after_event e words) true es (λ k l. f (suc k) (omega arith)))
