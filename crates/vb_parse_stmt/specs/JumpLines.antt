-- How the tokens of a jump are looked at: private functions, which the code equals.
use Rattle.std.specs.Prelude.{pos, if◌then◌else◌, ◌&&◌, List, [], ◌∷◌, Option, Some, None}
use Rattle.std.specs.Ordering.{int_eq}
use Rattle.vb_text.specs.declared.names.Name.{Name}
use Rattle.vb_syntax.specs.declared.{keyword.Keyword.Keyword, tokens.Token.Token, statement.{ExitKind.ExitKind, ContinueKind.ContinueKind, OnErrorAction.OnErrorAction, ResumePlace.ResumePlace}}
use Rattle.vb_syntax.specs.declared.keyword.Keyword.TheVariants as word
use Rattle.vb_syntax.specs.declared.symbol.Symbol.TheVariants as sign
use Rattle.vb_syntax.specs.declared.tokens.Token.TheVariants as token
use Rattle.vb_syntax.specs.declared.statement.ExitKind.TheVariants as exit
use Rattle.vb_syntax.specs.declared.statement.ContinueKind.TheVariants as continue
use Rattle.vb_syntax.specs.declared.statement.OnErrorAction.TheVariants as action
use Rattle.vb_syntax.specs.declared.statement.ResumePlace.TheVariants as place
use Rattle.vb_parse_expr.specs.Words.{name_of}

-- the label that is all behind the first token
abbrev pub label_of : List Token → Option Name
label_of (first ∷ t ∷ []) = name_of t
label_of ts = None

-- what a word behind `Exit` leaves
abbrev pub exit_of_word : Keyword → Option ExitKind
exit_of_word word.Sub = Some exit.Sub
exit_of_word word.Function = Some exit.Function
exit_of_word word.Property = Some exit.Property
exit_of_word word.Do = Some exit.Do
exit_of_word word.For = Some exit.For
exit_of_word word.While = Some exit.While
exit_of_word word.Select = Some exit.Select
exit_of_word word.Try = Some exit.Try
exit_of_word w = None

abbrev pub exit_of : List Token → Option ExitKind
exit_of (first ∷ token.Keyword w ∷ []) = exit_of_word w
exit_of ts = None

-- the loop that a word behind `Continue` goes on with
abbrev pub continue_of_word : Keyword → Option ContinueKind
continue_of_word word.Do = Some continue.Do
continue_of_word word.For = Some continue.For
continue_of_word word.While = Some continue.While
continue_of_word w = None

abbrev pub continue_of : List Token → Option ContinueKind
continue_of (first ∷ token.Keyword w ∷ []) = continue_of_word w
continue_of ts = None

-- what stands behind `Resume`
abbrev pub place_of : List Token → Option ResumePlace
place_of (first ∷ []) = Some place.Same
place_of (first ∷ token.Keyword word.Next ∷ []) = Some place.Next
place_of (first ∷ token.Name n ∷ []) = Some (place.Label n)
place_of (first ∷ token.EscapedName n ∷ []) = Some (place.Label n)
place_of ts = None

-- what stands behind `On`
abbrev pub action_of : List Token → Option OnErrorAction
action_of (first ∷ token.Keyword word.Error ∷ token.Keyword word.GoTo ∷ token.Name n ∷ []) = Some (action.GoTo n)
action_of (first ∷ token.Keyword word.Error ∷ token.Keyword word.GoTo ∷ token.EscapedName n ∷ []) = Some (action.GoTo n)
action_of (first ∷ token.Keyword word.Error ∷ token.Keyword word.GoTo ∷ token.Integer l ∷ []) =
    if int_eq l.value (pos 0) && l.is_digit then Some action.GoToZero else None
action_of (first ∷ token.Keyword word.Error ∷ token.Keyword word.GoTo ∷ token.Symbol sign.Minus ∷ token.Integer l ∷ []) =
    if int_eq l.value (pos 1) && l.is_digit then Some action.GoToMinusOne else None
action_of (first ∷ token.Keyword word.Error ∷ token.Keyword word.Resume ∷ token.Keyword word.Next ∷ []) = Some action.ResumeNext
action_of ts = None
