-- What opening a description comes to, and answering a text as the program does.
use Rattle.std.specs.Prelude.{◌≡◌, ℕ, ◌<◌, ◌⊎◌, false, List, [], ◌∷◌, codes, length, map, take, Option, Some, None, Ok, Err}
use Rattle.dn_base.specs.Device.{UnitSize}
use Rattle.dn_module.specs.Expand.{Expansion}
use Rattle.dn_tables.specs.Set.{fresh_set, tables_of_set}
use Rattle.dn_tables.specs.Writes.{make_event}
use Rattle.dn_tool.specs.declared.refusal.Refusal.{Refusal}
use Rattle.dn_tool.specs.Answer.{Answer, IsAnswered, answer}
use Rattle.dn_tool.specs.Compiled.{compilation, with_refusal}
use Rattle.dn_session.specs.Open.{SessionState}
use Rattle.dn_session.specs.Shipped.{shipped_kinds}

-- the text breaks no rule, and the session has its net, in which no grant lives; that the units are
-- made is pending
pub record IsOpenedFrom (text : List ℕ) (s : SessionState) : Type 0 where
  pub made : Expansion
  pub compiled : with_refusal (compilation shipped_kinds text) ≡ Ok made
  pub net : s.net ≡ made.net
  pub none : s.book.grants ≡ []
  pub cleared : s.book.cleared ≡ false
  pub pending : s.pending ≡ map make_event (tables_of_set (fresh_set shipped_kinds made.net))

-- the handle has a session of the text
abbrev pub IsOpenedIn : List ℕ → Option SessionState → Type 0
IsOpenedIn text (Some s) = IsOpenedFrom text s
IsOpenedIn text None = ⊥

-- the text breaks a rule, and what is said of it is written
pub record IsTextRefused (text line : List ℕ) : Type 0 where
  pub why : Refusal
  pub broken : with_refusal (compilation shipped_kinds text) ≡ Err why
  pub written : line ≡ why.text

-- the text breaks a rule, of which so many bytes are to be said, for which there is no room
pub record IsLineTooLong (text : List ℕ) (size room : ℕ) : Type 0 where
  pub line : List ℕ
  pub refused : IsTextRefused text line
  pub counted : size ≡ length line
  pub long : room < size

-- the answer of the program to a text
abbrev pub run_answer : List ℕ → Answer
run_answer text = answer (codes "run" ∷ []) shipped_kinds text

-- The program answers the text with this status and exactly this output: 0 where it came to its
-- end, and 4 where it refused the text. Its device tells neither a log nor words, and which units
-- were made is left open.
pub record IsRunOf (text : List ℕ) (status : ℕ) (output : List ℕ) : Type 0 where
  pub ended : (status ≡ 0) ⊎ (status ≡ 4)
  pub units : List UnitSize
  pub answered : IsAnswered shipped_kinds (run_answer text) status (Some []) (Some output)
      None None units None

-- the program answers the text with this status and so many bytes, for which there is no room
pub record IsRunTooLong (text : List ℕ) (status size room : ℕ) : Type 0 where
  pub output : List ℕ
  pub run : IsRunOf text status output
  pub counted : size ≡ length output
  pub long : room < size
