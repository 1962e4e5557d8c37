-- What calls answer, held against the reading of bytes.
use Rattle.std.proofs.Common.{◌≡◌, ◌∙◌, ℕ, suc, ◌+◌, ◌-◌, ◌<◌, ◌≤◌, if◌then◌else◌, List, [], ◌∷◌, drop, length, get_or, Option, Some, None, IfSome, Result, Ok, Err, IfOk, ap, subst, arith, length-drop, lt-ltb}
use Rattle.dn_base.proofs.Orders.{le-ltb}
use Rattle.dn_base.specs.Answers.{Answers}
use Rattle.dn_net.specs.declared.node.NodeDecl.{NodeDecl}
use Rattle.dn_kind.specs.Kind.{Meaning}
use Rattle.dn_image.specs.declared.fault.ImageFault.{ImageFault}
use Rattle.dn_image.specs.Bytes.{AreBytes}
use Rattle.dn_image.specs.Image.{ImageWords, IsImageOf}
use Rattle.dn_image.specs.Reading.{BrokenImage, broken_in, image_fault_view, reading_by, image_reading}
use Rattle.dn_image.specs.Reading.BrokenImage.{trails}
use Rattle.dn_image.proofs.Told.{image_is_read, read_is_image}

-- a fault that says what is wrong is the answer
pub broken_answers : {X : Type 0} (o : Option BrokenImage) (e : ImageFault) (x : X) → o ≡ image_fault_view e → Answers {X = X} (λ v. v) image_fault_view (Err e) (reading_by o x)
broken_answers o e x same = go (image_fault_view e) same
  where
    go : (v : Option BrokenImage) → o ≡ v → IfSome v (λ f. reading_by o x ≡ Err f)
    go None s = tt
    go (Some b) s = ap (λ p. reading_by p x) s

-- the bytes end with the last word, or go on
pub ends_there : (bytes : List ℕ) (size : ℕ) → length bytes ≤ 8 + size → broken_in (length bytes) [] (drop size (drop 8 bytes)) ≡ None
ends_there bytes size l =
    let d = length-drop 8 bytes in
    let e = length-drop size (drop 8 bytes) in
    ap (λ b. if b then Some (trails (length bytes - length (drop size (drop 8 bytes)))) else None) (le-ltb 0 (length (drop size (drop 8 bytes))) (omega arith))

pub ends_later : (bytes : List ℕ) (size : ℕ) → 8 + size < length bytes → broken_in (length bytes) [] (drop size (drop 8 bytes)) ≡ Some (trails (8 + size))
ends_later bytes size l =
    let d = length-drop 8 bytes in
    let e = length-drop size (drop 8 bytes) in
    let at : length bytes - length (drop size (drop 8 bytes)) ≡ 8 + size = omega arith in
    ap (λ b. if b then Some (trails (length bytes - length (drop size (drop 8 bytes)))) else None) (lt-ltb 0 (length (drop size (drop 8 bytes))) (omega arith))
    ∙ ap (λ n. Some (trails n)) at

-- the bytes of a slice are bytes
pub all_bytes : (bytes : List ℕ) → ((i : ℕ) → get_or bytes i 0 < 256) → AreBytes bytes
all_bytes [] small = tt
all_bytes (b ∷ bs) small = (small 0, all_bytes bs (λ i. small (suc i)))

pub found_by : (net : List NodeDecl) (kinds : List Meaning) (bytes : List ℕ) (r : Result ImageWords ImageFault) → AreBytes bytes → Answers (λ i. i) image_fault_view r (image_reading net kinds bytes) → IfOk r (λ i. IsImageOf net kinds bytes i)
found_by net kinds bytes (Ok i) all e = read_is_image net kinds bytes i all e
found_by net kinds bytes (Err f) all e = tt

pub only_by : (net : List NodeDecl) (kinds : List Meaning) (bytes : List ℕ) (r : Result ImageWords ImageFault) → Answers (λ i. i) image_fault_view r (image_reading net kinds bytes) → (i : ImageWords) → IsImageOf net kinds bytes i → Answers (λ i. i) image_fault_view r (Ok i)
only_by net kinds bytes r e i is = subst (λ m. Answers (λ i. i) image_fault_view r m) (image_is_read net kinds bytes i is) e
