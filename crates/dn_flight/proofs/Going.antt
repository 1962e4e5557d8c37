-- A log that goes so is fenced, event by event.
use Rattle.std.proofs.Common.{◌≡◌, ◌∙◌, ap, sym, subst, refl, ℕ, zero, suc, ◌+◌, ◌-◌, ◌<◌, ◌≤◌, ◌⊎◌, inl, inr, Bool, true, false, List, [], ◌∷◌, length, Some, slice_get, arith}
use Rattle.dn_base.specs.declared.device.TableEvent.{TableEvent}
use Rattle.dn_base.specs.declared.device.TableEvent.TheVariants.{Fence}
use Rattle.dn_net.specs.declared.node.NodeDecl.{NodeDecl}
use Rattle.dn_kind.specs.Kind.{Meaning}
use Rattle.dn_kind.specs.Tables.{Extends, Held}
use Rattle.dn_book.specs.Events.{after_event, held_at}
use Rattle.dn_book.specs.Going.{AreGoing, Goes, falls, rises, waits}
use Rattle.dn_flight.specs.Fences.{GoingIsFenced, RisesThenFalls}

-- what a log does at a moment
pub data Moves (held : ℕ → Held) (flag : ℕ → Bool) (log : List TableEvent) (d : ℕ) : Type 0 where
  stays : slice_get log d ≡ Some Fence → Moves held flag log d
  grows : flag d ≡ false → flag (suc d) ≡ false → Extends (held d) (held (suc d)) → Moves held flag log d
  shrinks : flag (suc d) ≡ true → Extends (held (suc d)) (held d) → Moves held flag log d

abbrev shift : Bool → (ℕ → Bool) → ℕ → Bool
shift c f zero = c
shift c f (suc n) = f n

record Flagged (net : List NodeDecl) (kinds : List Meaning) (words : List (List ℕ)) (cleared : Bool) (log : List TableEvent) : Type 0 where
  flag : ℕ → Bool
  first : flag 0 ≡ cleared
  moves : (d : ℕ) → d < length log → Moves (held_at net kinds words log) flag log d

flagged : (net : List NodeDecl) (kinds : List Meaning) (words : List (List ℕ)) (cleared last : Bool) (log : List TableEvent) → AreGoing net kinds words cleared log last → Flagged net kinds words cleared log
flagged net kinds words cleared last [] g = record { flag = λ d. cleared; first = refl; moves = λ d l. absurd (omega arith) }
flagged net kinds words cleared last (e ∷ es) g = by (flagged net kinds (after_event e words) g.0 last es g.2)
  where
    by : Flagged net kinds (after_event e words) g.0 es → Flagged net kinds words cleared (e ∷ es)
    by r = record { flag = shift cleared r.flag; first = refl; moves = moves }
      where
        here : Goes net kinds words cleared e g.0 → Moves (held_at net kinds words (e ∷ es)) (shift cleared r.flag) (e ∷ es) 0
        here (waits f) = stays (ap (λ (t : TableEvent). Some t) f)
        here (rises a b x) = grows a (r.first ∙ b) x
        here (falls b x) = shrinks (r.first ∙ b) x

        later : (d : ℕ) → Moves (held_at net kinds (after_event e words) es) r.flag es d → Moves (held_at net kinds words (e ∷ es)) (shift cleared r.flag) (e ∷ es) (suc d)
        later d (stays f) = stays f
        later d (grows a b x) = grows a b x
        later d (shrinks b x) = shrinks b x

        moves : (d : ℕ) → d < length (e ∷ es) → Moves (held_at net kinds words (e ∷ es)) (shift cleared r.flag) (e ∷ es) d
        moves zero l = here g.1
        moves (suc d) l = later d (r.moves d (omega arith))

-- from a moment on, so far, and the peak is now where no record was cleared
record SoFar (held : ℕ → Held) (flag : ℕ → Bool) (from to : ℕ) : Type 0 where
  stretch : RisesThenFalls held from to
  fresh : flag to ≡ false → stretch.peak ≡ to

so_far : (held : ℕ → Held) (flag : ℕ → Bool) (log : List TableEvent) (from k : ℕ) → ((d : ℕ) → from ≤ d → d < from + k → Moves held flag log d) → ((d : ℕ) → from ≤ d → d < from + k → slice_get log d ≡ Some Fence → ⊥) → SoFar held flag from (from + k)
so_far held flag log from zero m calm = record {
  stretch = record { peak = from; after = (omega arith); before = (omega arith); rises = λ d p q. absurd (omega arith); falls = λ d p q. absurd (omega arith) };
  fresh = λ f. (omega arith);
}
so_far held flag log from (suc k) m calm =
    subst (λ n. SoFar held flag from n) (one_more from k) (next (so_far held flag log from k (λ d p q. m d p (omega arith)) (λ d p q. calm d p (omega arith))) (m (from + k) (omega arith) (omega arith)))
  where
    one_more : (a b : ℕ) → suc (a + b) ≡ a + suc b
    one_more a b = omega arith

    cases : (d n : ℕ) → d < suc n → (d < n) ⊎ (d ≡ n)
    cases d n l = grind arith

    next : SoFar held flag from (from + k) → Moves held flag log (from + k) → SoFar held flag from (suc (from + k))
    next s (stays f) = absurd (calm (from + k) (omega arith) (omega arith) f)
    next s (grows a b x) = record {
      stretch = record {
        peak = suc (from + k);
        after = (omega arith);
        before = (omega arith);
        rises = λ d p q. up d p (cases d (from + k) q);
        falls = λ d p q. absurd (omega arith);
      };
      fresh = λ f. refl;
    }
      where
        up : (d : ℕ) → from ≤ d → (d < from + k) ⊎ (d ≡ from + k) → Extends (held d) (held (suc d))
        up d p (inl l) = s.stretch.rises d p (let e : s.stretch.peak ≡ from + k = s.fresh a in omega arith)
        up d p (inr e) = subst (λ n. Extends (held n) (held (suc n))) (sym e) x
    next s (shrinks b x) = record {
      stretch = record {
        peak = s.stretch.peak;
        after = s.stretch.after;
        before = (let l : s.stretch.peak ≤ from + k = s.stretch.before in omega arith);
        rises = s.stretch.rises;
        falls = λ d p q. down d p (cases d (from + k) q);
      };
      fresh = λ f. (let c : true ≡ false = sym b ∙ f in cc);
    }
      where
        down : (d : ℕ) → s.stretch.peak ≤ d → (d < from + k) ⊎ (d ≡ from + k) → Extends (held (suc d)) (held d)
        down d p (inl l) = s.stretch.falls d p l
        down d p (inr e) = subst (λ n. Extends (held (suc n)) (held n)) (sym e) x

pub going_is_fenced : GoingIsFenced
going_is_fenced net kinds words log cleared last g from to l within calm = go (to - from) (omega arith)
  where
    f : Flagged net kinds words cleared log
    f = flagged net kinds words cleared last log g

    go : (k : ℕ) → from + k ≡ to → RisesThenFalls (held_at net kinds words log) from to
    go k e = subst (λ n. RisesThenFalls (held_at net kinds words log) from n) e
        (so_far (held_at net kinds words log) f.flag log from k (λ d p q. f.moves d (omega arith)) (λ d p q. calm d p (omega arith))).stretch
