-- What a stack still has to do, through the moves of the machine.
use Rattle.std.proofs.Common.{◌≡◌, ◌∙◌, ap, sym, List, [], ◌∷◌, ◌++◌, reverse, None}
use Rattle.std.proofs.lemmas.List.{append_assoc, reverse-append}
use Rattle.dn_scope.specs.declared.stack.Turns.{Turns}
use Rattle.dn_scope.specs.declared.stack.Rest.{Rest}
use Rattle.dn_scope.specs.declared.stack.Use.{Use}
use Rattle.dn_scope.specs.Uses.{Visibility, statements}
use Rattle.dn_scope.specs.Replace.{Replacement, one_number, in_items}
use Rattle.dn_scope.specs.Stack.{body_view, loop_body, turns_works, after_works, turn_works, rest_works, outside_of, bodies_works, use_view, uses_view}
use Rattle.dn_scope.proofs.Replaced.{one_more}

-- a body that is at its end goes
pub bodies_left : (s : Visibility) (r : Replacement) (b x : Rest) (bs : List Rest) → rest_works s r b ≡ [] → bodies_works s r (b ∷ reverse (bs ++ x ∷ [])) ≡ bodies_works s (outside_of r) (x ∷ reverse bs)
bodies_left s r b x bs none =
    ap (λ ws. ws ++ bodies_works s (outside_of r) (reverse (bs ++ x ∷ []))) none
    ∙ ap (bodies_works s (outside_of r)) (reverse-append bs (x ∷ []))

-- a use that is at its end goes
pub uses_left : (u x : Use) (us : List Use) → use_view u ≡ [] → uses_view (u ∷ reverse (us ++ x ∷ [])) ≡ uses_view (x ∷ reverse us)
uses_left u x us none =
    ap (λ ws. ws ++ uses_view (reverse (us ++ x ∷ []))) none
    ∙ ap uses_view (reverse-append us (x ∷ []))

-- one use more
pub uses_more : (u x : Use) (us : List Use) → uses_view (x ∷ reverse (us ++ u ∷ [])) ≡ use_view x ++ uses_view (u ∷ reverse us)
uses_more u x us = ap (λ l. use_view x ++ uses_view l) (reverse-append us (u ∷ []))

-- a turn is gone into: its body, the turns after it, and what was there before
pub turn_entered : (s : Visibility) (r : Replacement) (t : Turns) (inner pushed now : Rest) (bs : List Rest) → rest_works s r inner ≡ statements s (in_items r (body_view inner.statements.now))
    → rest_works s r pushed ≡ after_works s r t ++ statements s (in_items r (body_view inner.statements.now))
    → rest_works s (record { numbers = (t.variable.now, t.next) ∷ r.numbers; naming = r.naming }) now ≡ statements s (in_items (record { numbers = (t.variable.now, t.next) ∷ r.numbers; naming = r.naming }) (body_view t.body.now))
    → bodies_works s (record { numbers = (t.variable.now, t.next) ∷ r.numbers; naming = r.naming }) (now ∷ reverse (bs ++ pushed ∷ [])) ≡ turn_works s r t ++ bodies_works s r (inner ∷ reverse bs)
turn_entered s r t inner pushed now bs before after body =
    let entered : Replacement = record { numbers = (t.variable.now, t.next) ∷ r.numbers; naming = r.naming } in
    let rest = bodies_works s (outside_of r) (reverse bs) in
    let here = statements s (in_items r (body_view inner.statements.now)) in
    let turn = statements s (in_items (one_number t.variable.now t.next) (loop_body r t)) in
    ap (λ l. rest_works s entered now ++ bodies_works s r l) (reverse-append bs (pushed ∷ []))
    ∙ ap (λ ws. ws ++ (rest_works s r pushed ++ rest)) (body ∙ ap (statements s) (sym (one_more t.variable.now t.next r (body_view t.body.now))))
    ∙ ap (λ ws. turn ++ (ws ++ rest)) after
    ∙ ap (λ ws. turn ++ ws) (append_assoc (after_works s r t) here rest)
    ∙ sym (append_assoc turn (after_works s r t) (here ++ rest))
    ∙ ap (λ ws. turn_works s r t ++ (ws ++ rest)) (sym before)

-- a body with no turns to do
pub free_rest : (s : Visibility) (r : Replacement) (b : Rest) → b.turns ≡ None → rest_works s r b ≡ statements s (in_items r (body_view b.statements.now))
free_rest s r b none = ap (λ t. turns_works s r t ++ statements s (in_items r (body_view b.statements.now))) none
