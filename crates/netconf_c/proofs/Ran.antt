-- A run over objects in memory answers the text.
use Rattle.std.proofs.Common.{◌≡◌, ◌⊎◌, inl, inr, ap, subst, sym, refl, arith, rules, ℕ, zero, suc, ◌<◌, ◌==◌, false, true, true≢false, List, [], ◌∷◌, codes, is_err, Option, Some, None, OnOk, Result, Ok, Err}
use Rattle.std.specs.Option.{IfSome}
use Rattle.dn_base.specs.Device.{UnitSize}
use Rattle.dn_kind.specs.Kind.{Meaning}
use Rattle.dn_words.specs.Words.{task_of}
use Rattle.dn_tool.specs.Answer.{IsAnswered, IsRunAnswered, answer}
use Rattle.dn_session.specs.Shipped.{shipped_kinds}
use Rattle.netconf_c.specs.Opening.{IsRunOf, run_answer}

-- what holds where a call was done
pub on_done : {A E : Type 0} {P : Type 0} (result : Result A E) → is_err result ≡ false → OnOk result P → P
on_done (Ok a) e p = p
on_done (Err why) e p = absurd (true≢false e)

-- a status that stands neither for wrong words, nor for a fault of the source, the sink or the device, nor for want of
-- memory
ended_is : (status : ℕ) → (status < 5) ⊎ ((status ≡ 6) ⊎ (status ≡ 7)) → (status ≡ 1 → ⊥) → (status == 2) ≡ false → (status == 3) ≡ false → (status == 6) ≡ false → (status ≡ 7 → ⊥) → (status ≡ 0) ⊎ (status ≡ 4)
ended_is zero is words source sink device memory = inl refl
ended_is (suc zero) is words source sink device memory = absurd (words refl)
ended_is (suc (suc zero)) is words source sink device memory = absurd (true≢false source)
ended_is (suc (suc (suc zero))) is words source sink device memory = absurd (true≢false sink)
ended_is (suc (suc (suc (suc zero)))) is words source sink device memory = inr refl
ended_is (suc (suc (suc (suc (suc n))))) (inl few) words source sink device memory = absurd (omega arith)
ended_is (suc (suc (suc (suc (suc n))))) (inr (inl six)) words source sink device memory = absurd (true≢false (subst (λ s. (s == 6) ≡ false) six device))
ended_is (suc (suc (suc (suc (suc n))))) (inr (inr seven)) words source sink device memory = absurd (memory seven)

-- the word is of a form
is_word : (words : List (List ℕ)) → words ≡ codes "run" ∷ [] → task_of words ≡ None → ⊥
is_word words is none = some (subst (λ (w : List (List ℕ)). task_of w ≡ None) is none)
  where
    some : task_of (codes "run" ∷ []) ≡ None → ⊥
    some e = search rules

pub ran : {S D : Type 0} (ks : List Meaning) (words : List (List ℕ)) (left : S → Option (List ℕ)) (given : S → List ℕ) (source source' : S) (text : List ℕ) (status : ℕ) (before after : List ℕ) (units : D → List UnitSize) (device device' : D) → ks ≡ shipped_kinds → words ≡ codes "run" ∷ [] → left source ≡ Some text → before ≡ [] → (status < 5) ⊎ ((status ≡ 6) ⊎ (status ≡ 7)) → (status ≡ 1 → task_of words ≡ None) → (status == 2) ≡ false → (status == 3) ≡ false → (status == 6) ≡ false → (status ≡ 7 → ⊥) → IsRunAnswered words ks left given source source' status (Some before) (Some after) units (λ _. None) (λ _. None) device device' → IsRunOf text status after
ran ks words left given source source' text status before after units device device' shipped asked told empty is wrong no_read sink faults memory run =
    let e : IsRunAnswered (codes "run" ∷ []) ks left given source source' status (Some before) (Some after) units (λ _. None) (λ _. None) device device' = subst (λ (w : List (List ℕ)). IsRunAnswered w ks left given source source' status (Some before) (Some after) units (λ _. None) (λ _. None) device device') asked run in
    let same : text ≡ e.bytes = subst (λ (o : Option (List ℕ)). IfSome o (λ whole. whole ≡ e.bytes)) told (e.read refl) in
    record {
      ended = ended_is status is (λ one. is_word words asked (wrong one)) no_read sink faults memory;
      units = units device';
      answered =
          subst (λ (b : List ℕ). IsAnswered shipped_kinds (run_answer text) status (Some b) (Some after) None None (units device') None) empty
          (subst (λ (l : List Meaning). IsAnswered l (answer (codes "run" ∷ []) l text) status (Some before) (Some after) None None (units device') None) shipped
          (subst (λ (b : List ℕ). IsAnswered ks (answer (codes "run" ∷ []) ks b) status (Some before) (Some after) None None (units device') None) (sym same) e.answered));
    }
