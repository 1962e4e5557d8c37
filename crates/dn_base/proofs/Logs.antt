-- Logs of events, call after call: laws of Logged for this crate and those above it.
use Rattle.std.proofs.Common.{◌≡◌, ◌∙◌, ap, sym, refl, true, List, [], ◌++◌, Option, None, Some, is_some, append_assoc, append-nil}
use Rattle.std.specs.Option.{option_map}
use Rattle.dn_base.specs.Device.{Logged}
use Rattle.dn_base.specs.declared.device.TableEvent.{TableEvent}

none_added : (a : Option (List TableEvent)) → a ≡ option_map (λ told. told ++ []) a
none_added None = refl
none_added (Some told) = ap Some (sym (append-nil told))

told_alike : (fs : List TableEvent) (a : Option (List TableEvent)) → is_some (option_map (λ told. told ++ fs) a) ≡ is_some a
told_alike fs None = refl
told_alike fs (Some told) = refl

both_added : (es fs : List TableEvent) (a : Option (List TableEvent)) → option_map (λ told. told ++ fs) (option_map (λ told. told ++ es) a) ≡ option_map (λ told. told ++ (es ++ fs)) a
both_added es fs None = refl
both_added es fs (Some told) = ap Some (append_assoc told es fs)

-- nothing was logged where the log is the same
pub Logged-none : (a b : Option (List TableEvent)) → b ≡ a → Logged a b []
Logged-none a b e s = e ∙ none_added a

-- events that were logged one after the other were logged
pub Logged-then : (a b c : Option (List TableEvent)) (es fs : List TableEvent) → Logged a b es → Logged b c fs → Logged a c (es ++ fs)
Logged-then a b c es fs l m s =
    let last = m s in
    let told : is_some b ≡ true = sym (told_alike fs b) ∙ ap is_some (sym last) ∙ s in
    last ∙ ap (option_map (λ told. told ++ fs)) (l told) ∙ both_added es fs a
