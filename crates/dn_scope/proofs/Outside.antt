-- Outside of modules and loops nothing is replaced.
use Rattle.std.proofs.Common.{◌≡◌, ◌∙◌, ap, refl, List, [], ◌∷◌, map, Option, Some, None}
use Rattle.dn_parse.specs.Tree.{Expression, constant, variable, sum, product, minus, Expressions, no_expressions, and_expression, Part}
use Rattle.dn_scope.specs.Replace.{in_expression, in_expressions, in_option, in_part, in_declared, Replacement, as_they_stand}

-- what is replaced outside of modules and loops
abbrev pub nothing_replaced : Replacement
nothing_replaced = record { numbers = []; naming = as_they_stand }

mutual
  pub expression_stays : (e : Expression) → in_expression [] e ≡ e
  expression_stays (constant n) = refl
  expression_stays (variable w) = refl
  expression_stays (sum es) = ap (λ es. sum es) (expressions_stay es)
  expression_stays (product es) = ap (λ es. product es) (expressions_stay es)
  expression_stays (minus e f) = ap (λ x. minus x (in_expression [] f)) (expression_stays e) ∙ ap (λ y. minus e y) (expression_stays f)

  expressions_stay : (es : Expressions) → in_expressions [] es ≡ es
  expressions_stay no_expressions = refl
  expressions_stay (and_expression e es) = ap (λ x. and_expression x (in_expressions [] es)) (expression_stays e) ∙ ap (λ y. and_expression e y) (expressions_stay es)

pub index_stays : (o : Option Expression) → in_option [] o ≡ o
index_stays None = refl
index_stays (Some e) = ap (λ x. Some x) (expression_stays e)

pub parts_stay : (ps : List Part) → map (in_part []) ps ≡ ps
parts_stay [] = refl
parts_stay (p ∷ ps) = ap (λ (o : Option Expression). record { title = p.title; index = o } ∷ map (in_part []) ps) (index_stays p.index) ∙ ap (λ l. p ∷ l) (parts_stay ps)

pub name_stays : (ps : List Part) → in_declared nothing_replaced ps ≡ ps
name_stays ps = parts_stay ps
