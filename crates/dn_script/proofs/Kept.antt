-- What is known of the book that is kept, for the calls that take it.
use Rattle.std.proofs.Common.{◌≡◌, ◌∙◌, ap, sym, subst, ℕ, List, Option, IfSome, Some, None, Ok, IsTrue, slice_get}
use Rattle.std.specs.List.{All}
use Rattle.dn_net.specs.declared.node.Name.{Name}
use Rattle.dn_net.specs.declared.node.NodeDecl.{NodeDecl}
use Rattle.dn_net.specs.Decode.{is_agent_at}
use Rattle.dn_kind.specs.declared.rights.Access.{Access}
use Rattle.dn_kind.specs.Kinded.{kinds_of}
use Rattle.dn_kind.specs.Kind.{IsLawful, Meaning}
use Rattle.dn_kind.specs.Units.{IsLegalWith, shape_fault}
use Rattle.dn_kind.proofs.Shapes.{shape_fault_is_first}
use Rattle.dn_walk.specs.Rows.{AreWalksOf}
use Rattle.dn_image.specs.Image.{are_filled, image, written_version}
use Rattle.dn_image.specs.Reading.{broken_image, version_of}
use Rattle.dn_lookup.specs.Lookup.{lookup_of}
use Rattle.dn_tables.specs.declared.table.NodeTable.{NodeTable}
use Rattle.dn_tables.specs.Set.{words_of}
use Rattle.dn_tables.proofs.Slots.{all_of_map}
use Rattle.dn_book.specs.Book.{owed_names}
use Rattle.dn_book.specs.Tables.{tables_of}
use Rattle.dn_script.specs.declared.machine.Machine.{Machine}
use Rattle.dn_script.specs.declared.state.Session.{Session as Kept}
use Rattle.dn_script.specs.Books.{GivesOwed, IsKeptFaithful}
use Rattle.dn_script.specs.Machine.{IsMachine}
use Rattle.dn_script.specs.State.{IsState}
use Rattle.dn_script.proofs.Filled.{tables_filled}
use Rattle.dn_script.proofs.Lookups.{faithful_image_gives_owed, image_is_whole}

-- the machine of a net that breaks no rule, with its live walks
pub platform_machine : {K : Type 0} {V : K → Type 0} (means : (k : K) × V k → Meaning) (m : Machine K V) → All (λ k. IsLawful (means (k.vtable, k.value))) m.on.kinds.now.list.items → shape_fault (kinds_of means m.on.kinds.now) m.on.net.now ≡ None → AreWalksOf m.on.net.now m.walks.now → IsMachine means m
platform_machine means m lawful none walked = record {
  kinded = record {
    lawful = lawful;
    legal = record { legal = walked.legal; shaped = (shape_fault_is_first (kinds_of means m.on.kinds.now) m.on.net.now).0.0 none };
  };
  walked = walked;
}

-- the kinds are lawful, and the net is legal with them
pub record IsLawfulNet (kinds : List Meaning) (net : List NodeDecl) : Type 0 where
  pub lawful : All IsLawful kinds
  pub legal : IsLegalWith kinds net

-- so is the net of a machine
pub machine_lawful : {K : Type 0} {V : K → Type 0} (means : (k : K) × V k → Meaning) (m : Machine K V) → IsMachine means m → IsLawfulNet (kinds_of means m.on.kinds.now) m.on.net.now
machine_lawful means m is = record { lawful = all_of_map _ m.on.kinds.now.list.items is.kinded.lawful; legal = is.kinded.legal }

-- the book is sound and faithful
pub state_faithful : (kinds : List Meaning) (net : List NodeDecl) (k : Kept) → IsState kinds net k → IsKeptFaithful net k.book.grants
state_faithful kinds net k s = record { sound = s.kept.sound; faithful = s.faithful }

-- and gives what it owes
pub state_owed : (kinds : List Meaning) (net : List NodeDecl) (k : Kept) → All IsLawful kinds → IsLegalWith kinds net → IsState kinds net k → GivesOwed kinds net k.book.grants
state_owed kinds net k lawful legal s =
    let faithful = state_faithful kinds net k s in
    record { kept = faithful; dumped = faithful_image_gives_owed kinds net k.book.grants lawful legal faithful }

-- the same of what a machine keeps
pub machine_owed : {K : Type 0} {V : K → Type 0} (means : (k : K) × V k → Meaning) (m : Machine K V) (k : Kept) → IsMachine means m → IsState (kinds_of means m.on.kinds.now) m.on.net.now k → GivesOwed (kinds_of means m.on.kinds.now) m.on.net.now k.book.grants
machine_owed means m k is s = state_owed (kinds_of means m.on.kinds.now) m.on.net.now k (all_of_map _ m.on.kinds.now.list.items is.kinded.lawful) is.kinded.legal s

-- what bytes are that were made of the tables, or kept: the image of the book's tables, whole, of the
-- version that is written, and a lookup of an agent's name in them finds what is owed
pub record IsImageShown (kinds : List Meaning) (net : List NodeDecl) (k : Kept) (bytes : List ℕ) : Type 0 where
  pub is_image : bytes ≡ image net kinds (tables_of net kinds k.book.grants)
  pub whole : broken_image net kinds bytes ≡ None
  pub version : written_version ≡ version_of bytes
  pub owed : (access : Access) (x : Name) → IsTrue (is_agent_at (slice_get net x.node)) →
      lookup_of net kinds bytes access x ≡ Ok (owed_names net k.book.grants access x)

-- the bytes that were made of the tables, or kept
image_shown : (kinds : List Meaning) (net : List NodeDecl) (k : Kept) (kept : Option (List ℕ)) (bytes : List ℕ) (set : List NodeTable) → All IsLawful kinds → IsLegalWith kinds net → IsState kinds net k → IfSome kept (λ b. b ≡ image net kinds (words_of set)) → kept ≡ Some bytes → set ≡ k.book.set → IsImageShown kinds net k bytes
image_shown kinds net k kept bytes set lawful legal s given some tables =
    let made : bytes ≡ image net kinds (words_of set) = subst (λ (o : Option (List ℕ)). IfSome o (λ b. b ≡ image net kinds (words_of set))) some given in
    let is : bytes ≡ image net kinds (words_of k.book.set) = made ∙ ap (λ (t : List NodeTable). image net kinds (words_of t)) tables in
    let filled : IsTrue (are_filled kinds net (words_of k.book.set)) = subst (λ (ws : List (List ℕ)). IsTrue (are_filled kinds net ws)) (sym s.kept.words) (tables_filled kinds net k.book.grants lawful legal s.kept.sound) in
    let whole = image_is_whole kinds net (words_of k.book.set) filled in
    record {
      is_image = is ∙ ap (image net kinds) s.kept.words;
      whole = ap (broken_image net kinds) is ∙ whole.0;
      version = whole.1 ∙ sym (ap version_of is);
      owed = λ access x agent.
          ap (λ (b : List ℕ). lookup_of net kinds b access x) (is ∙ ap (image net kinds) s.kept.words)
          ∙ (state_owed kinds net k lawful legal s).dumped access x agent;
    }

-- the same of what a machine keeps
pub machine_image : {K : Type 0} {V : K → Type 0} (means : (k : K) × V k → Meaning) (m : Machine K V) (k : Kept) (kept : Option (List ℕ)) (bytes : List ℕ) (set : List NodeTable) → IsMachine means m → IsState (kinds_of means m.on.kinds.now) m.on.net.now k → IfSome kept (λ b. b ≡ image m.on.net.now (kinds_of means m.on.kinds.now) (words_of set)) → kept ≡ Some bytes → set ≡ k.book.set → IsImageShown (kinds_of means m.on.kinds.now) m.on.net.now k bytes
machine_image means m k kept bytes set is s given some tables =
    image_shown (kinds_of means m.on.kinds.now) m.on.net.now k kept bytes set (all_of_map _ m.on.kinds.now.list.items is.kinded.lawful) is.kinded.legal s given some tables
