-- The tokens of a line are those of one jump at most.
use Rattle.std.proofs.Common.{◌≡◌, List, [], ◌∷◌, Some, None, refl, sym, ap, subst, ◌∙◌}
use Rattle.vb_text.specs.declared.names.Name.{Name}
use Rattle.vb_syntax.specs.declared.keyword.Keyword.TheVariants as word
use Rattle.vb_syntax.specs.declared.{tokens.Token.Token, words.Context.Context, statement.{ExitKind.ExitKind, ContinueKind.ContinueKind, OnErrorAction.OnErrorAction, ResumePlace.ResumePlace}}
use Rattle.vb_syntax.specs.declared.tokens.Token.TheVariants as token
use Rattle.vb_syntax.specs.declared.statement.ExitKind.TheVariants as exit
use Rattle.vb_syntax.specs.declared.statement.ContinueKind.TheVariants as continue
use Rattle.vb_syntax.specs.declared.statement.OnErrorAction.TheVariants as action
use Rattle.vb_syntax.specs.declared.statement.ResumePlace.TheVariants as place
use Rattle.vb_syntax.specs.declared.item.Item.TheVariants as item
use Rattle.vb_parse_expr.specs.Words.{name_of}
use Rattle.vb_parse_decl.specs.Parts.{reserved, IsNamed, Begins}
use Rattle.vb_parse_stmt.specs.{Statements.{exit_word, continue_word, IsAction, IsPlace}, JumpLines.{exit_of_word, continue_of_word}, Items.IsOtherItem}

-- LABELS

pub named_same : (ts us : List Token) (n m : Name) → ts ≡ us → IsNamed n ts → IsNamed m us → n ≡ m
named_same ts us n m e (t, split, p) (u, split', q) =
    let token_same : t ≡ u = cc in
    let read : Some n ≡ Some m = sym p ∙ ap name_of token_same ∙ q in cc

pub go_to_same : (c : Context) (ts : List Token) (n m : Name) → IsOtherItem c ts (item.GoTo n) → IsOtherItem c ts (item.GoTo m) → item.GoTo n ≡ item.GoTo m
go_to_same c ts n m (us, split, p) (vs, split', q) = ap item.GoTo (named_same us vs n m (cc) p q)

-- EXIT AND CONTINUE

exit_read : (k : ExitKind) → exit_of_word (exit_word k) ≡ Some k
exit_read exit.Sub = refl
exit_read exit.Function = refl
exit_read exit.Property = refl
exit_read exit.Do = refl
exit_read exit.For = refl
exit_read exit.While = refl
exit_read exit.Select = refl
exit_read exit.Try = refl

exit_word_same : (k k' : ExitKind) → exit_word k ≡ exit_word k' → k ≡ k'
exit_word_same k k' e = let read : Some k ≡ Some k' = sym (exit_read k) ∙ ap exit_of_word e ∙ exit_read k' in cc

pub exit_same : (c : Context) (ts : List Token) (k k' : ExitKind) → IsOtherItem c ts (item.Exit k) → IsOtherItem c ts (item.Exit k') → item.Exit k ≡ item.Exit k'
exit_same c ts k k' p q = let words : exit_word k ≡ exit_word k' = cc in ap item.Exit (exit_word_same k k' words)

continue_read : (k : ContinueKind) → continue_of_word (continue_word k) ≡ Some k
continue_read continue.Do = refl
continue_read continue.For = refl
continue_read continue.While = refl

continue_word_same : (k k' : ContinueKind) → continue_word k ≡ continue_word k' → k ≡ k'
continue_word_same k k' e = let read : Some k ≡ Some k' = sym (continue_read k) ∙ ap continue_of_word e ∙ continue_read k' in cc

pub continue_same : (c : Context) (ts : List Token) (k k' : ContinueKind) → IsOtherItem c ts (item.Continue k) → IsOtherItem c ts (item.Continue k') → item.Continue k ≡ item.Continue k'
continue_same c ts k k' p q = let words : continue_word k ≡ continue_word k' = cc in ap item.Continue (continue_word_same k k' words)

-- ON ERROR

-- no label is a number or a sign
no_label : (t : Token) (us : List Token) (n : Name) → name_of t ≡ None → Begins word.GoTo (IsNamed n) (reserved word.GoTo ∷ t ∷ us) → ⊥
no_label t us n none (vs, split, (u, split', p)) =
    let token_same : t ≡ u = cc in
    let read : None ≡ Some n = sym none ∙ ap name_of token_same ∙ p in cc

action_same : (ts us : List Token) (a b : OnErrorAction) → ts ≡ us → IsAction ts a → IsAction us b → a ≡ b
action_same ts us (action.GoTo n) (action.GoTo m) e (vs, split, p) (ws, split', q) = ap action.GoTo (named_same vs ws n m (cc) p q)
action_same ts us (action.GoTo n) action.GoToZero e p (l, value, digit, split) =
    absurd (no_label (token.Integer l) [] n refl (subst (λ (vs : List Token). Begins word.GoTo (IsNamed n) vs) (e ∙ split) p))
action_same ts us (action.GoTo n) action.GoToMinusOne e p (l, value, digit, split) =
    absurd (no_label _ _ n refl (subst (λ (vs : List Token). Begins word.GoTo (IsNamed n) vs) (e ∙ split) p))
action_same ts us (action.GoTo n) action.ResumeNext e (vs, split, p) q = absurd cc
action_same ts us action.GoToZero (action.GoTo n) e (l, value, digit, split) q =
    absurd (no_label (token.Integer l) [] n refl (subst (λ (vs : List Token). Begins word.GoTo (IsNamed n) vs) (sym e ∙ split) q))
action_same ts us action.GoToZero action.GoToZero e p q = refl
action_same ts us action.GoToZero action.GoToMinusOne e (l, value, digit, split) (l', value', digit', split') = absurd cc
action_same ts us action.GoToZero action.ResumeNext e (l, value, digit, split) q = absurd cc
action_same ts us action.GoToMinusOne (action.GoTo n) e (l, value, digit, split) q =
    absurd (no_label _ _ n refl (subst (λ (vs : List Token). Begins word.GoTo (IsNamed n) vs) (sym e ∙ split) q))
action_same ts us action.GoToMinusOne action.GoToZero e (l, value, digit, split) (l', value', digit', split') = absurd cc
action_same ts us action.GoToMinusOne action.GoToMinusOne e p q = refl
action_same ts us action.GoToMinusOne action.ResumeNext e (l, value, digit, split) q = absurd cc
action_same ts us action.ResumeNext (action.GoTo n) e p (vs, split, q) = absurd cc
action_same ts us action.ResumeNext action.GoToZero e p (l, value, digit, split) = absurd cc
action_same ts us action.ResumeNext action.GoToMinusOne e p (l, value, digit, split) = absurd cc
action_same ts us action.ResumeNext action.ResumeNext e p q = refl

pub on_error_same : (c : Context) (ts : List Token) (a b : OnErrorAction) → IsOtherItem c ts (item.OnError a) → IsOtherItem c ts (item.OnError b) → item.OnError a ≡ item.OnError b
on_error_same c ts a b (us, split, (us', inner, p)) (vs, split', (vs', inner', q)) =
    let rest : us ≡ vs = cc in
    ap item.OnError (action_same us' vs' a b (cc) p q)

-- RESUME

place_same : (ts us : List Token) (p q : ResumePlace) → ts ≡ us → IsPlace ts p → IsPlace us q → p ≡ q
place_same ts us place.Same place.Same e p q = refl
place_same ts us place.Same place.Next e p q = absurd cc
place_same ts us place.Same (place.Label n) e p (t, split, named) = absurd cc
place_same ts us place.Next place.Same e p q = absurd cc
place_same ts us place.Next place.Next e p q = refl
place_same ts us place.Next (place.Label n) e p (t, split, named) =
    let token_same : reserved word.Next ≡ t = cc in
    let read : None ≡ Some n = ap name_of token_same ∙ named in absurd cc
place_same ts us (place.Label n) place.Same e (t, split, named) q = absurd cc
place_same ts us (place.Label n) place.Next e (t, split, named) q =
    let token_same : reserved word.Next ≡ t = cc in
    let read : None ≡ Some n = ap name_of token_same ∙ named in absurd cc
place_same ts us (place.Label n) (place.Label m) e p q = ap place.Label (named_same ts us n m e p q)

pub resume_same : (c : Context) (ts : List Token) (p q : ResumePlace) → IsOtherItem c ts (item.Resume p) → IsOtherItem c ts (item.Resume q) → item.Resume p ≡ item.Resume q
resume_same c ts p q (us, split, is) (vs, split', is') = ap item.Resume (place_same us vs p q (cc) is is')
