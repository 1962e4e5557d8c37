-- The place of a unit among tables in memory.
use Rattle.std.proofs.Common.{◌≡◌, ℕ, suc, ◌+◌, ◌<◌, Bool, true, false, if◌then◌else◌, nat_lt, ◌==◌, List, [], ◌∷◌, ◌++◌, length, take, drop, get_or, slice_set, refl, sym, ap, ◌∙◌, subst, arith, ltb-true}
use Rattle.std.proofs.lemmas.List.{set_split, get_or_default, length-set}
use Rattle.dn_base.proofs.Lists.{drop_at}
use Rattle.dn_base.proofs.Orders.{eq-eqb}
use Rattle.dn_base.specs.Device.{PlacedAt, UnitSize, has_word, size_of, sizes_of, with_word}
use Rattle.dn_base.specs.declared.device.UnitWords.{UnitWords}

-- the first of these tables has the unit
here : (t : UnitWords) (ts : List UnitWords) (unit word value : ℕ) → t.unit ≡ unit → with_word (t ∷ ts) unit word value ≡ record { unit = t.unit; words = slice_set t.words word value } ∷ ts
here t ts unit word value e =
    ap (λ b. if b then record { unit = t.unit; words = slice_set t.words word value } ∷ ts else t ∷ with_word ts unit word value) (eq-eqb t.unit unit e)

has_here : (t : UnitWords) (ts : List UnitWords) (unit word : ℕ) → t.unit ≡ unit → has_word (sizes_of (t ∷ ts)) unit word ≡ true → word < length t.words
has_here t ts unit word e h =
    ltb-true word (length t.words) (sym (ap (λ b. if b then nat_lt word (length t.words) else has_word (sizes_of ts) unit word) (eq-eqb t.unit unit e)) ∙ h)

-- the table at a place, where none before it is of the unit
pub placed : (ts : List UnitWords) (i unit word : ℕ) (t : UnitWords) → i < length ts → t ≡ get_or ts i t → t.unit ≡ unit → has_word (sizes_of (drop i ts)) unit word ≡ true → ((value : ℕ) → with_word ts unit word value ≡ take i ts ++ with_word (drop i ts) unit word value) → PlacedAt ts unit word i
placed ts i unit word t l at e has passed =
    let rest : drop i ts ≡ t ∷ drop (i + 1) ts = drop_at ts i t l at in
    let one : i + 1 ≡ suc i = omega arith in
    let room : word < length t.words = has_here t (drop (i + 1) ts) unit word e (sym (ap (λ (l : List UnitWords). has_word (sizes_of l) unit word) rest) ∙ has) in
    let same : (d : UnitWords) → get_or ts i d ≡ t = λ d. get_or_default ts i d t l ∙ sym at in
    record {
      within = l;
      has = λ d. subst (λ (u : UnitWords). word < length u.words) (sym (same d)) room;
      sets = λ value d.
          passed value
          ∙ ap (λ (l : List UnitWords). take i ts ++ with_word l unit word value) rest
          ∙ ap (λ (l : List UnitWords). take i ts ++ l) (here t (drop (i + 1) ts) unit word value e)
          ∙ ap (λ n. take i ts ++ record { unit = t.unit; words = slice_set t.words word value } ∷ drop n ts) one
          ∙ sym (set_split ts i (record { unit = t.unit; words = slice_set t.words word value }) l)
          ∙ ap (λ (u : UnitWords). slice_set ts i (record { unit = u.unit; words = slice_set u.words word value })) (sym (same d));
    }

-- units whose words are set keep their sizes
pub sizes_kept : (ts : List UnitWords) (unit word value : ℕ) → sizes_of (with_word ts unit word value) ≡ sizes_of ts
sizes_kept [] unit word value = refl
sizes_kept (t ∷ ts) unit word value = go (sizes_kept ts unit word value) (t.unit == unit)
  where
    go : sizes_of (with_word ts unit word value) ≡ sizes_of ts → (b : Bool) → sizes_of (if b then record { unit = t.unit; words = slice_set t.words word value } ∷ ts else t ∷ with_word ts unit word value) ≡ sizes_of (t ∷ ts)
    go later true = ap (λ n. record { unit = t.unit; words = n } ∷ sizes_of ts) (length-set t.words word value)
    go later false = ap (λ (l : List UnitSize). size_of t ∷ l) later

-- what is set at the place of a unit
pub set_placed : (ts : List UnitWords) (unit word value i : ℕ) (t : UnitWords) (ws : List ℕ) → PlacedAt ts unit word i → t ≡ get_or ts i t → ws ≡ slice_set t.words word value → slice_set ts i (record { unit = t.unit; words = ws }) ≡ with_word ts unit word value
set_placed ts unit word value i t ws p at e =
    ap (λ v. slice_set ts i (record { unit = t.unit; words = v })) e
    ∙ ap (λ (u : UnitWords). slice_set ts i (record { unit = u.unit; words = slice_set u.words word value })) at
    ∙ sym (p.sets value t)
