-- What the test of bytes says of their audit.
use Rattle.std.proofs.Common.{◌≡◌, ℕ, List, Option, Some, None, Ok, Err, IfSome, refl, sym, ap, ◌∙◌}
use Rattle.dn_image.specs.declared.fault.ImageFault.{ImageFault}
use Rattle.dn_image.specs.declared.fault.ImageFault.TheVariants.{Short, Header, Shape, Trailing, OutOfMemory}
use Rattle.dn_net.specs.declared.node.NodeDecl.{NodeDecl}
use Rattle.dn_kind.specs.Kind.{Meaning}
use Rattle.dn_image.specs.Image.{ImageWords}
use Rattle.dn_image.specs.Reading.{BrokenImage, broken_image, image_fault_view, image_reading, image_words, reading_by, version_of}
use Rattle.dn_audit.specs.Audit.{IsBroken}
use Rattle.dn_audit.specs.Told.{told_by}

-- bytes of which a version is told are whole
pub is_whole : (o : Option BrokenImage) (n version : ℕ) → reading_by o n ≡ Ok version → o ≡ None
is_whole None n version e = refl
is_whole (Some b) n version e = cc

pub is_version : (o : Option BrokenImage) (n version : ℕ) → reading_by o n ≡ Ok version → version ≡ n
is_version None n version e = cc
is_version (Some b) n version e = cc

by_view : (o : Option BrokenImage) (n : ℕ) (b : BrokenImage) → reading_by o n ≡ Err b → IsBroken o (Some b)
by_view None n b e = cc
by_view (Some d) n b e = let same : d ≡ b = cc in ap (λ c. Some c) (sym same)

-- and a fault that is told is the first that is wrong
pub is_broken : (o : Option BrokenImage) (n : ℕ) (fault : ImageFault) → IfSome (image_fault_view fault) (λ f. reading_by o n ≡ Err f) → (fault ≡ OutOfMemory → ⊥) → IsBroken o (image_fault_view fault)
is_broken o n (Short at) e ne = by_view o n _ e
is_broken o n (Header at) e ne = by_view o n _ e
is_broken o n (Shape unit) e ne = by_view o n _ e
is_broken o n (Trailing at) e ne = by_view o n _ e
is_broken o n OutOfMemory e ne = absurd (ne refl)

-- so bytes of which a version is told say an image
pub whole_reading : (net : List NodeDecl) (kinds : List Meaning) (bytes : List ℕ) (version : ℕ) (i : ImageWords) → reading_by (broken_image net kinds bytes) (version_of bytes) ≡ Ok version → i ≡ record { version = version; words = image_words net kinds bytes } → image_reading net kinds bytes ≡ Ok i
whole_reading net kinds bytes version i e is =
    let o : Option BrokenImage = broken_image net kinds bytes in
    let x : ImageWords = record { version = version_of bytes; words = image_words net kinds bytes } in
    ap (λ p. reading_by p x) (is_whole o (version_of bytes) version e)
    ∙ ap (λ n. Ok (record { version = n; words = image_words net kinds bytes })) (sym (is_version o (version_of bytes) version e))
    ∙ ap Ok (sym is)

-- and what is told of others is the fault
pub broken_told : (net : List NodeDecl) (kinds : List Meaning) (bytes : List ℕ) (o : Option BrokenImage) (n : ℕ) (x : ImageWords) (b : BrokenImage) → reading_by o n ≡ Err b → told_by net kinds bytes (reading_by o x) ≡ Err b
broken_told net kinds bytes None n x b e = cc
broken_told net kinds bytes (Some d) n x b e = let same : d ≡ b = cc in ap Err same
