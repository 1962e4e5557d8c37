-- What was made grows by one, and the next node has its place.
use Rattle.std.proofs.Common.{rules, ◌≡◌, ◌∙◌, ◌++◌, [], ◌∷◌, List, ℕ, ap, sym, subst, length, map}
use Rattle.dn_flat.specs.declared.levels.Levels.{Levels}
use Rattle.dn_flat.specs.Shared.{levels_at}
use Rattle.dn_flat.proofs.Sharing.{Within, wider, made_within, made_more}
use Rattle.dn_flat.proofs.shared.Shared.push.Goals as goal

pub invariant_of-self-in_err-push-2 : goal.invariant_of-self-in_err-push-2
invariant_of-self-in_err-push-2 c =
    let made = c.self.inside.made.items in
    let places = c.self.inside.places.items in
    let levels = c.args.levels in
    subst (λ (m : List Levels). Within m c.push-2.new.self.items) (sym c.in_ok-push.ensures.items)
    (subst (λ (ps : List ℕ). Within (made ++ levels ∷ []) ps) (sym c.in_err-push-2.ensures.items) (wider made levels places c.self.invariant))

pub invariant_of-self-2 : goal.invariant_of-self-2
invariant_of-self-2 c =
    let made = c.self.inside.made.items in
    let places = c.self.inside.places.items in
    let levels = c.args.levels in
    let long : c.len-place.result ≡ length made = search rules in
    let at : c.push-2.new.self.items ≡ places ++ length made ∷ [] = c.in_ok-push-2.ensures.items ∙ ap (λ n. places ++ n ∷ []) long in
    subst (λ (m : List Levels). Within m c.push-2.new.self.items) (sym c.in_ok-push.ensures.items)
    (subst (λ (ps : List ℕ). Within (made ++ levels ∷ []) ps) (sym at) (made_within made levels places c.self.invariant))

pub returns : goal.returns
returns c =
    let made = c.self.inside.made.items in
    let places = c.self.inside.places.items in
    let levels = c.args.levels in
    let long : c.len-place.result ≡ length made = search rules in
    let at : c.push-2.new.self.items ≡ places ++ length made ∷ [] = c.in_ok-push-2.ensures.items ∙ ap (λ n. places ++ n ∷ []) long in
    ap (λ (m : List Levels). map (levels_at m) c.push-2.new.self.items) c.in_ok-push.ensures.items
    ∙ ap (λ (ps : List ℕ). map (levels_at (made ++ levels ∷ [])) ps) at
    ∙ made_more made levels places c.self.invariant
    ∙ ap (λ (fs : List Levels). fs ++ levels ∷ []) c.self.view_is
