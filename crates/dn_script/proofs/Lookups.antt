-- A lookup in the image of the tables of a sound and faithful book finds what the book owes.
use Rattle.std.proofs.Common.{◌≡◌, ◌∙◌, ap, sym, refl, ℕ, Bool, true, false, if◌then◌else◌, List, codes, slice_get, Option, Some, None, Ok, Err, IsTrue}
use Rattle.dn_net.specs.declared.node.NodeDecl.{NodeDecl}
use Rattle.dn_net.specs.Decode.{is_agent_at}
use Rattle.dn_kind.specs.declared.rights.Access.{Access}
use Rattle.dn_kind.specs.Kind.{Meaning}
use Rattle.dn_kind.specs.Tables.{Held, record_held, resolved_names_under}
use Rattle.dn_image.specs.Image.{ImageWords, are_filled, image, written_version}
use Rattle.dn_image.specs.Reading.{BrokenImage, broken_image, image_reading, image_words, reading_by, version_of}
use Rattle.dn_image.proofs.Told.{image_is_read}
use Rattle.dn_lookup.specs.Lookup.{lookup_in, no_agent}
use Rattle.dn_book.specs.declared.grant.Grant.{Grant}
use Rattle.dn_book.specs.Book.{IsFaithful}
use Rattle.dn_book.specs.Tables.{tables_of}
use Rattle.dn_book.proofs.Begun.{tables_hold_records}
use Rattle.dn_book.proofs.Owed.{owed_names_are_resolved}
use Rattle.dn_print.specs.Names.{names_text}
use Rattle.dn_script.specs.Books.{FaithfulImageGivesOwed}
use Rattle.dn_script.specs.Found.{agent_of, found_text, owed_text}
use Rattle.dn_script.proofs.Filled.{tables_filled}
use Rattle.dn_script.proofs.Seen.{held_same}

-- what is found in the image is what is owed
pub faithful_image_gives_owed : FaithfulImageGivesOwed
faithful_image_gives_owed kinds net book lawful legal kept access x agent =
    let filled = tables_filled kinds net book lawful legal kept.sound in
    let bytes : List ℕ = image net kinds (tables_of net kinds book) in
    let i : ImageWords = record { version = 2; words = tables_of net kinds book } in
    let read : image_reading net kinds bytes ≡ Ok i = image_is_read net kinds bytes i (record { version = refl; filled = filled; bytes = refl }) in
    let held = tables_hold_records net kinds book legal.legal legal.shaped lawful kept.sound in
    ap (λ (b : Bool). if b then lookup_in net kinds access x (image_reading net kinds bytes) else Err no_agent) agent
    ∙ ap (lookup_in net kinds access x) read
    ∙ ap (λ (h : Held). Ok (resolved_names_under net h x)) (held_same net book access (record_held net kinds (tables_of net kinds book)) held)
    ∙ ap Ok (sym (owed_names_are_resolved net book kept.faithful access x agent))

-- the image of tables of words of 64 bits is whole, and of the version that is written
pub image_is_whole : (kinds : List Meaning) (net : List NodeDecl) (words : List (List ℕ)) → IsTrue (are_filled kinds net words) → (broken_image net kinds (image net kinds words) ≡ None) × (written_version ≡ version_of (image net kinds words))
image_is_whole kinds net words filled =
    let bytes : List ℕ = image net kinds words in
    let i : ImageWords = record { version = written_version; words = words } in
    let read : image_reading net kinds bytes ≡ Ok i = image_is_read net kinds bytes i (record { version = refl; filled = filled; bytes = refl }) in
    let parts = is_read (broken_image net kinds bytes) (record { version = version_of bytes; words = image_words net kinds bytes }) i read in
    (parts.0, sym (ap (λ (j : ImageWords). j.version) parts.1))
  where
    is_read : (o : Option BrokenImage) (a b : ImageWords) → reading_by o a ≡ Ok b → (o ≡ None) × (a ≡ b)
    is_read None a b e = (refl, cc)
    is_read (Some x) a b e = absurd (cc)

-- what an address of an agent resolves to is what the book owes it
pub found_is_owed : (net : List NodeDecl) (book : List Grant) → IsFaithful net book → (access : Access) (node : Option ℕ) (a : ℕ) → found_text (codes "no such agent") net book access (agent_of net node) a ≡ owed_text net book access (agent_of net node) a
found_is_owed net book faithful access None a = refl
found_is_owed net book faithful access (Some n) a = by (is_agent_at (slice_get net n)) refl
  where
    by : (b : Bool) → is_agent_at (slice_get net n) ≡ b → found_text (codes "no such agent") net book access (if b then Some n else None) a ≡ owed_text net book access (if b then Some n else None) a
    by true e = ap (names_text net) (sym (owed_names_are_resolved net book faithful access (record { node = n; addr = a }) e))
    by false e = refl
