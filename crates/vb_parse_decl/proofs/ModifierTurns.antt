-- One turn of the loop that reads modifiers.
use Rattle.std.proofs.Common.{◌≡◌, ℕ, suc, ◌+◌, ◌-◌, ◌<◌, List, [], ◌∷◌, ◌++◌, Some, ap, ◌∙◌, arith}
use Rattle.vb_syntax.specs.declared.{tokens.Token.Token, declaration.Modifier.Modifier}
use Rattle.vb_parse_decl.specs.ModifierReading.{first_modifier, modifier_on, modifiers_from}

pub goes : (k : ℕ) (ms : List Modifier) (m : Modifier) (ts us : List Token) → first_modifier ts ≡ Some (m, us)
    → modifiers_from (suc k) ms ts ≡ modifiers_from k (ms ++ m ∷ []) us
unfolding modifiers_from
goes k ms m ts us e = ap (λ r. modifier_on (modifiers_from k) ms ts r) e

pub turn_goes : (n at : ℕ) (ms : List Modifier) (m : Modifier) (ts us : List Token) → at < n → first_modifier ts ≡ Some (m, us)
    → modifiers_from (n - at) ms ts ≡ modifiers_from (n - (at + 1)) (ms ++ m ∷ []) us
turn_goes n at ms m ts us below e =
    let turn : n - at ≡ suc (n - (at + 1)) = omega arith in
    ap (λ k. modifiers_from k ms ts) turn ∙ goes (n - (at + 1)) ms m ts us e
