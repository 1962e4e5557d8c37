-- Texts that are appended one after the other.
use Rattle.std.proofs.Common.{Result, Ok, Err, is_ok, if◌then◌else◌, ◌≡◌, ◌∙◌, ap, sym, ℕ, suc, ◌+◌, List, ◌++◌, arith, append_assoc}
use Rattle.std.specs.Result.{OnOk}
use Rattle.dn_demo.specs.Text.{texts_below}

-- two texts behind what was there before
pub behind : (old middle now first second : List ℕ) → middle ≡ old ++ first → now ≡ middle ++ second → now ≡ old ++ (first ++ second)
behind old middle now first second e f =
    f ∙ ap (λ (l : List ℕ). l ++ second) e ∙ append_assoc old first second

-- the text of one number more
pub below_more : (text : ℕ → List ℕ) (count : ℕ) → texts_below text (count + 1) ≡ texts_below text count ++ text count
below_more text count = let next : count + 1 ≡ suc count = omega arith in ap (λ (n : ℕ). texts_below text n) next

-- the text of one number more behind what was there before
pub behind_more : (old now next : List ℕ) (text : ℕ → List ℕ) (count : ℕ) → now ≡ old ++ texts_below text count → next ≡ now ++ text count → next ≡ old ++ texts_below text (count + 1)
behind_more old now next text count e f =
    behind old now next (texts_below text count) (text count) e f
    ∙ ap (λ (l : List ℕ). old ++ l) (sym (below_more text count))

-- what follows of a text that was appended, where it was
pub said : {E : Type 0} (r : Result (Unit {0}) E) (now old text : List ℕ) (P : Type 0) → now ≡ (if is_ok r then old ++ text else old) → (now ≡ old ++ text → P) → OnOk r P
said (Ok a) now old text P e f = f e
said (Err a) now old text P e f = tt
