-- Full names: words that are not reserved, each with or without an index, joined by dots.
use Rattle.std.proofs.Common.{◌≡◌, ◌∙◌, ap, sym, refl, ℕ, List, [], ◌∷◌, ◌++◌, map, codes, append_assoc, append-nil}
use Rattle.dn_scope.specs.Values.{after_dots}
pub use Rattle.dn_print.specs.Spelled.{Title, Label, label_by, label_text, IsSmall, IsLabel, AreLabels, IsFullName}

-- the full name of one part
pub full_one : (l : Label) → IsLabel l → IsFullName (label_text l)
full_one l h = record { first = l; more = []; one = h; all = tt; is = sym (append-nil (label_text l)) }

labels_both : (ls ms : List Label) → AreLabels ls → AreLabels ms → AreLabels (ls ++ ms)
labels_both [] ms h g = g
labels_both (l ∷ ls) ms h g = (h.0, labels_both ls ms h.1 g)

dots_both : (ls ms : List Label) → after_dots (map label_text (ls ++ ms)) ≡ after_dots (map label_text ls) ++ after_dots (map label_text ms)
dots_both [] ms = refl
dots_both (l ∷ ls) ms =
    ap (λ (t : List ℕ). codes "." ++ (label_text l ++ t)) (dots_both ls ms)
    ∙ ap (λ (t : List ℕ). codes "." ++ t) (sym (append_assoc (label_text l) (after_dots (map label_text ls)) (after_dots (map label_text ms))))

-- a full name behind another and a dot
pub full_both : (s t : List ℕ) → IsFullName s → IsFullName t → IsFullName (s ++ (codes "." ++ t))
full_both s t f g = record {
  first = f.first;
  more = f.more ++ (g.first ∷ g.more);
  one = f.one;
  all = labels_both f.more (g.first ∷ g.more) f.all (g.one, g.all);
  is = ap (λ (u : List ℕ). u ++ (codes "." ++ t)) f.is
      ∙ ap (λ (u : List ℕ). (label_text f.first ++ after_dots (map label_text f.more)) ++ (codes "." ++ u)) g.is
      ∙ append_assoc (label_text f.first) (after_dots (map label_text f.more)) (codes "." ++ (label_text g.first ++ after_dots (map label_text g.more)))
      ∙ ap (λ (u : List ℕ). label_text f.first ++ u) (sym (dots_both f.more (g.first ∷ g.more)));
}
