-- What is read behind `On` stands there.
use Rattle.std.proofs.Common.{◌≡◌, pos, Bool, true, false, if◌then◌else◌, ◌&&◌, List, [], ◌∷◌, drop, Option, Some, None, refl, subst}
use Rattle.std.specs.Ordering.{int_eq}
use Rattle.std.proofs.lemmas.Bool.Decides.{Decides-int_eq}
use Rattle.vb_syntax.specs.declared.keyword.Keyword.TheVariants as word
use Rattle.vb_syntax.specs.declared.symbol.Symbol.TheVariants as sign
use Rattle.vb_syntax.specs.declared.{tokens.{IntegerLiteral.IntegerLiteral, Token.Token}, statement.OnErrorAction.OnErrorAction}
use Rattle.vb_syntax.specs.declared.tokens.Token.TheVariants as token
use Rattle.vb_syntax.specs.declared.statement.OnErrorAction.TheVariants as action
use Rattle.vb_parse_decl.specs.Parts.{reserved, Begins}
use Rattle.vb_parse_stmt.specs.{Statements.IsAction, JumpLines.action_of}

abbrev pub IsErrorAction : List Token → OnErrorAction → Type 0
IsErrorAction ts a = Begins word.Error (λ us. IsAction us a) ts

-- what is found stands there
abbrev pub IsThere : List Token → Option OnErrorAction → Type 0
IsThere ts (Some a) = IsErrorAction ts a
IsThere ts None = Unit {0}

zero_there : (l : IntegerLiteral) (b d : Bool) → (b ≡ true → l.value ≡ pos 0) → l.is_digit ≡ d
    → IsThere (reserved word.Error ∷ reserved word.GoTo ∷ token.Integer l ∷ []) (if b && d then Some action.GoToZero else None)
zero_there l true true is digit = (_, refl, (l, is refl, digit, refl))
zero_there l true false is digit = tt
zero_there l false d is digit = tt

one_there : (l : IntegerLiteral) (b d : Bool) → (b ≡ true → l.value ≡ pos 1) → l.is_digit ≡ d
    → IsThere (reserved word.Error ∷ reserved word.GoTo ∷ token.Symbol sign.Minus ∷ token.Integer l ∷ []) (if b && d then Some action.GoToMinusOne else None)
one_there l true true is digit = (_, refl, (l, is refl, digit, refl))
one_there l true false is digit = tt
one_there l false d is digit = tt

action_there : (ts : List Token) → IsThere (drop 1 ts) (action_of ts)
action_there (first ∷ token.Keyword word.Error ∷ token.Keyword word.GoTo ∷ token.Name n ∷ []) = (_, refl, (_, refl, (token.Name n, refl, refl)))
action_there (first ∷ token.Keyword word.Error ∷ token.Keyword word.GoTo ∷ token.EscapedName n ∷ []) = (_, refl, (_, refl, (token.EscapedName n, refl, refl)))
action_there (first ∷ token.Keyword word.Error ∷ token.Keyword word.GoTo ∷ token.Integer l ∷ []) =
    let decides = Decides-int_eq l.value (pos 0) in zero_there l (int_eq l.value (pos 0)) l.is_digit decides.0 refl
action_there (first ∷ token.Keyword word.Error ∷ token.Keyword word.GoTo ∷ token.Symbol sign.Minus ∷ token.Integer l ∷ []) =
    let decides = Decides-int_eq l.value (pos 1) in one_there l (int_eq l.value (pos 1)) l.is_digit decides.0 refl
action_there (first ∷ token.Keyword word.Error ∷ token.Keyword word.Resume ∷ token.Keyword word.Next ∷ []) = (_, refl, refl)
action_there ts = tt

pub action_stands : (ts : List Token) (a : OnErrorAction) → action_of ts ≡ Some a → IsErrorAction (drop 1 ts) a
action_stands ts a e = subst (λ (r : Option OnErrorAction). IsThere (drop 1 ts) r) e (action_there ts)
