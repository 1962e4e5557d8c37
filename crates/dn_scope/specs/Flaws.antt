-- What a call that appends to a text answers, and what it appends; and what one answers that links a part.
use Rattle.std.specs.Prelude.{◌≡◌, ℕ, Bool, true, false, List, ◌++◌, IfSome, Result, Ok, Err}
use Rattle.dn_scope.specs.declared.values.NameFault.{NameFault}
use Rattle.dn_parse.specs.Tree.{Part}
use Rattle.dn_scope.specs.Faults.{name_fault_view}
use Rattle.dn_scope.specs.Values.{◌>>=◌, Flaw, unknown_word, each, part_text, after_dots}

-- A part that is linked refers to nodes that are all there. The only flaw of one that is not is that a node is not there.
abbrev pub Links : {X : Type 0} → Result X NameFault → Bool → Type 0
Links (Ok x) known = known ≡ true
Links (Err e) known = IfSome (name_fault_view e) (λ f. (f ≡ unknown_word) × (known ≡ false))

-- a text with what is made behind it
abbrev pub text_before : List ℕ → Result (List ℕ) Flaw → Result (List ℕ) Flaw
text_before text made = do
  more ← made
  Ok (text ++ more)

-- the text became itself with what is made behind it
abbrev pub Appends : {X : Type 0} → Result X NameFault → List ℕ → List ℕ → Result (List ℕ) Flaw → Type 0
Appends (Ok x) before after made = text_before before made ≡ Ok after
Appends (Err e) before after made = IfSome (name_fault_view e) (λ f. made ≡ Err f)

-- the texts of parts, each with a dot before it
abbrev pub dots_before : List Part → Result (List ℕ) Flaw
dots_before ps = do
  ts ← each part_text ps
  Ok (after_dots ts)
