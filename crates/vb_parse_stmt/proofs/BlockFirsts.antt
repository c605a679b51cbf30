-- Each item of a block's line begins so that its line may be it.
use Rattle.std.proofs.Common.{◌≡◌, true, List, Option, Some, None, ap}
use Rattle.vb_text.specs.declared.names.Name.{Name}
use Rattle.vb_syntax.specs.declared.{tokens.Token.Token, expression.Expr.Expr, statement.{LoopCondition.LoopCondition, LoopControlVariable.LoopControlVariable, CaseItem.CaseItem, CatchVariable.CatchVariable, UsingResource.UsingResource}, words.Context.Context}
use Rattle.vb_syntax.specs.declared.item.Item.TheVariants as item
use Rattle.vb_parse_stmt.specs.{Items.IsOtherItem, Reading.{front_of, may_begin}}

pub if_first : (c : Context) (ts : List Token) (x : Expr) → IsOtherItem c ts (item.If x) → may_begin (front_of c ts) (item.If x) ≡ true
if_first c ts x (us, split, p) = ap (λ (ws : List Token). may_begin (front_of c ws) (item.If x)) split

pub else_if_first : (c : Context) (ts : List Token) (x : Expr) → IsOtherItem c ts (item.ElseIf x) → may_begin (front_of c ts) (item.ElseIf x) ≡ true
else_if_first c ts x (us, split, p) = ap (λ (ws : List Token). may_begin (front_of c ws) (item.ElseIf x)) split

pub else_first : (c : Context) (ts : List Token) → IsOtherItem c ts item.Else → may_begin (front_of c ts) item.Else ≡ true
else_first c ts split = ap (λ (ws : List Token). may_begin (front_of c ws) item.Else) split

pub while_first : (c : Context) (ts : List Token) (x : Expr) → IsOtherItem c ts (item.While x) → may_begin (front_of c ts) (item.While x) ≡ true
while_first c ts x (us, split, p) = ap (λ (ws : List Token). may_begin (front_of c ws) (item.While x)) split

pub do_first : (c : Context) (ts : List Token) (t : Option LoopCondition) → IsOtherItem c ts (item.Do t) → may_begin (front_of c ts) (item.Do t) ≡ true
do_first c ts t (us, split, p) = ap (λ (ws : List Token). may_begin (front_of c ws) (item.Do t)) split

pub loop_first : (c : Context) (ts : List Token) (t : Option LoopCondition) → IsOtherItem c ts (item.Loop t) → may_begin (front_of c ts) (item.Loop t) ≡ true
loop_first c ts t (us, split, p) = ap (λ (ws : List Token). may_begin (front_of c ws) (item.Loop t)) split

pub for_first : (c : Context) (ts : List Token) (v : LoopControlVariable) (a b : Expr) (s : Option Expr) → IsOtherItem c ts (item.For v a b s) → may_begin (front_of c ts) (item.For v a b s) ≡ true
for_first c ts v a b s (us, split, p) = ap (λ (ws : List Token). may_begin (front_of c ws) (item.For v a b s)) split

pub for_each_first : (c : Context) (ts : List Token) (v : LoopControlVariable) (x : Expr) → IsOtherItem c ts (item.ForEach v x) → may_begin (front_of c ts) (item.ForEach v x) ≡ true
for_each_first c ts v x (us, split, p) = ap (λ (ws : List Token). may_begin (front_of c ws) (item.ForEach v x)) split

pub select_first : (c : Context) (ts : List Token) (x : Expr) → IsOtherItem c ts (item.Select x) → may_begin (front_of c ts) (item.Select x) ≡ true
select_first c ts x (us, split, p) = ap (λ (ws : List Token). may_begin (front_of c ws) (item.Select x)) split

pub case_first : (c : Context) (ts : List Token) (cs : List CaseItem) → IsOtherItem c ts (item.Case cs) → may_begin (front_of c ts) (item.Case cs) ≡ true
case_first c ts cs (us, split, p) = ap (λ (ws : List Token). may_begin (front_of c ws) (item.Case cs)) split

pub case_else_first : (c : Context) (ts : List Token) → IsOtherItem c ts item.CaseElse → may_begin (front_of c ts) item.CaseElse ≡ true
case_else_first c ts split = ap (λ (ws : List Token). may_begin (front_of c ws) item.CaseElse) split

pub try_first : (c : Context) (ts : List Token) → IsOtherItem c ts item.Try → may_begin (front_of c ts) item.Try ≡ true
try_first c ts split = ap (λ (ws : List Token). may_begin (front_of c ws) item.Try) split

pub catch_first : (c : Context) (ts : List Token) (v : Option CatchVariable) (x : Option Expr) → IsOtherItem c ts (item.Catch v x) → may_begin (front_of c ts) (item.Catch v x) ≡ true
catch_first c ts v x (us, split, p) = ap (λ (ws : List Token). may_begin (front_of c ws) (item.Catch v x)) split

pub finally_first : (c : Context) (ts : List Token) → IsOtherItem c ts item.Finally → may_begin (front_of c ts) item.Finally ≡ true
finally_first c ts split = ap (λ (ws : List Token). may_begin (front_of c ws) item.Finally) split

pub sync_lock_first : (c : Context) (ts : List Token) (x : Expr) → IsOtherItem c ts (item.SyncLock x) → may_begin (front_of c ts) (item.SyncLock x) ≡ true
sync_lock_first c ts x (us, split, p) = ap (λ (ws : List Token). may_begin (front_of c ws) (item.SyncLock x)) split

pub with_first : (c : Context) (ts : List Token) (x : Expr) → IsOtherItem c ts (item.With x) → may_begin (front_of c ts) (item.With x) ≡ true
with_first c ts x (us, split, p) = ap (λ (ws : List Token). may_begin (front_of c ws) (item.With x)) split

pub using_first : (c : Context) (ts : List Token) (r : UsingResource) → IsOtherItem c ts (item.Using r) → may_begin (front_of c ts) (item.Using r) ≡ true
using_first c ts r (us, split, p) = ap (λ (ws : List Token). may_begin (front_of c ws) (item.Using r)) split

pub next_first : (c : Context) (ts : List Token) (n : Option Name) → IsOtherItem c ts (item.Next n) → may_begin (front_of c ts) (item.Next n) ≡ true
next_first c ts None split = ap (λ (ws : List Token). may_begin (front_of c ws) (item.Next None)) split
next_first c ts (Some n) (us, split, p) = ap (λ (ws : List Token). may_begin (front_of c ws) (item.Next (Some n))) split
