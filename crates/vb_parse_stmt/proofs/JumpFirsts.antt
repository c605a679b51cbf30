-- With what jumps begin.
use Rattle.std.proofs.Common.{◌≡◌, true, List, ap}
use Rattle.vb_text.specs.declared.names.Name.{Name}
use Rattle.vb_syntax.specs.declared.{tokens.Token.Token, words.Context.Context, statement.{ExitKind.ExitKind, ContinueKind.ContinueKind, OnErrorAction.OnErrorAction, ResumePlace.ResumePlace}}
use Rattle.vb_syntax.specs.declared.item.Item.TheVariants as item
use Rattle.vb_parse_stmt.specs.{Items.IsOtherItem, Reading.{front_of, may_begin}}

pub go_to_first : (c : Context) (ts : List Token) (n : Name) → IsOtherItem c ts (item.GoTo n) → may_begin (front_of c ts) (item.GoTo n) ≡ true
go_to_first c ts n (us, split, p) = ap (λ (vs : List Token). may_begin (front_of c vs) (item.GoTo n)) split

pub exit_first : (c : Context) (ts : List Token) (k : ExitKind) → IsOtherItem c ts (item.Exit k) → may_begin (front_of c ts) (item.Exit k) ≡ true
exit_first c ts k split = ap (λ (vs : List Token). may_begin (front_of c vs) (item.Exit k)) split

pub continue_first : (c : Context) (ts : List Token) (k : ContinueKind) → IsOtherItem c ts (item.Continue k) → may_begin (front_of c ts) (item.Continue k) ≡ true
continue_first c ts k split = ap (λ (vs : List Token). may_begin (front_of c vs) (item.Continue k)) split

pub on_error_first : (c : Context) (ts : List Token) (a : OnErrorAction) → IsOtherItem c ts (item.OnError a) → may_begin (front_of c ts) (item.OnError a) ≡ true
on_error_first c ts a (us, split, p) = ap (λ (vs : List Token). may_begin (front_of c vs) (item.OnError a)) split

pub resume_first : (c : Context) (ts : List Token) (p : ResumePlace) → IsOtherItem c ts (item.Resume p) → may_begin (front_of c ts) (item.Resume p) ≡ true
resume_first c ts p (us, split, q) = ap (λ (vs : List Token). may_begin (front_of c vs) (item.Resume p)) split
