-- A run over a device that tells its units alone, at the kinds that the program knows.
use Rattle.std.proofs.Common.{◌≡◌, ◌∙◌, ap, sym, subst, ℕ, List, [], ◌∷◌, ◌++◌, map, Option, None}
use Rattle.dn_base.specs.Device.{UnitSize}
use Rattle.dn_kind.specs.Kind.{Meaning}
use Rattle.dn_kinds.specs.Layouts.{pages, radix, remap, vectors}
use Rattle.dn_tool.specs.Answer.{IsRunAnswered}
use Rattle.netconf.specs.Shipped.{program_kinds}

-- what holds of a device that had no unit holds of the units that it was given
pub units_alone : {S D : Type 0} (words : List (List ℕ)) (kinds kinds' : List Meaning) (left : S → Option (List ℕ)) (given : S → List ℕ) (source source' : S) (status : ℕ) (before after : Option (List ℕ)) (units : D → List UnitSize) (device device' : D) → IsRunAnswered words kinds left given source source' status before after units (λ _. None) (λ _. None) device device' → kinds ≡ kinds' → units device ≡ [] → (made : List UnitSize) × IsRunAnswered {D = List UnitSize} words kinds' left given source source' status before after (λ sizes. sizes) (λ _. None) (λ _. None) [] made
units_alone words kinds kinds' left given source source' status before after units device device' a same none = (
  units device',
  subst (λ (ks : List Meaning). IsRunAnswered {D = List UnitSize} words ks left given source source' status before after (λ sizes. sizes) (λ _. None) (λ _. None) [] (units device')) same (record {
    bytes = a.bytes;
    read = a.read;
    gave = a.gave;
    answered = a.answered;
    untouched = λ said. ap units (a.untouched said) ∙ none;
  }),
)

-- four kinds that were added one after another to none
pub added_kinds : {X : Type 0} (f : X → Meaning) (none one two three four : List X) (a b c d : X) → none ≡ [] → one ≡ none ++ a ∷ [] → two ≡ one ++ b ∷ [] → three ≡ two ++ c ∷ [] → four ≡ three ++ d ∷ [] → f a ≡ pages → f b ≡ remap → f c ≡ vectors → f d ≡ radix → map f four ≡ program_kinds
added_kinds {X} f none one two three four a b c d e h i j k p q r s =
    ap (map f) (k ∙ ap (λ (l : List X). l ++ d ∷ []) (j ∙ ap (λ (l : List X). l ++ c ∷ []) (i ∙ ap (λ (l : List X). l ++ b ∷ []) (h ∙ ap (λ (l : List X). l ++ a ∷ []) e))))
    ∙ (λ n. p n ∷ q n ∷ r n ∷ s n ∷ [])

-- what a box means is told by its table of methods alone
pub means_by : {I : Type 0} {V : I → Type 0} (means : (k : I) × V k → Meaning) (m : Meaning) (i : I) → ((v : V i) → means (i, v) ≡ m) → (j : I) → j ≡ i → (v : V j) → means (j, v) ≡ m
means_by {V = V} means m i told j e = subst (λ (k : _). (v : V k) → means (k, v) ≡ m) (sym e) told
