-- Between two fences records are first only added and then only cleared: so at one moment of such a stretch all records of
-- the others stand, and a record that stands at both its ends stands throughout.
use Rattle.std.proofs.Common.{◌≡◌, ℕ, ◌-◌, ◌≤◌, ◌⊎◌, inl, inr, Some, arith}
use Rattle.dn_kind.specs.declared.unit_kind.Record.{Record}
use Rattle.dn_kind.specs.Tables.{Extends, Held}
use Rattle.dn_book.proofs.Rising.{falls_to, rises_to}
use Rattle.dn_flight.specs.Fences.{RisesThenFalls}

-- at the peak all records of a stretch stand
pub peak_over : (held : ℕ → Held) (i j : ℕ) (w : RisesThenFalls held i j) (m : ℕ) → i ≤ m → m ≤ j → Extends (held m) (held w.peak)
peak_over held i j w m l r = by (sides m w.peak)
  where
    sides : (m p : ℕ) → (m ≤ p) ⊎ (p ≤ m)
    sides m p = grind arith

    by : (m ≤ w.peak) ⊎ (w.peak ≤ m) → Extends (held m) (held w.peak)
    by (inl below) = rises_to held m w.peak below (λ d a b. w.rises d (omega arith) b)
    by (inr above) = falls_to held w.peak m above (λ d a b. w.falls d a (omega arith))

-- a record that stands at both ends stands throughout
pub stands_throughout : (held : ℕ → Held) (i j : ℕ) (w : RisesThenFalls held i j) (m : ℕ) → i ≤ m → m ≤ j → (n q : ℕ) (r : Record) → held i n q ≡ Some r → held j n q ≡ Some r → held m n q ≡ Some r
stands_throughout held i j w m l g n q r a b = by (sides m w.peak)
  where
    sides : (m p : ℕ) → (m ≤ p) ⊎ (p ≤ m)
    sides m p = grind arith

    by : (m ≤ w.peak) ⊎ (w.peak ≤ m) → held m n q ≡ Some r
    by (inl below) = rises_to held i m l (λ d x y. w.rises d x (omega arith)) n q r a
    by (inr above) = falls_to held m j g (λ d x y. w.falls d (omega arith) y) n q r b
