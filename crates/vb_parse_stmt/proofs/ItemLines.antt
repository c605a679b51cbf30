-- A line that begins with a word of its own is one item at most.
use Rattle.std.proofs.Common.{◌≡◌, ◌≤◌, true, List, length, Option, refl, ap}
use Rattle.vb_text.specs.declared.names.Name.{Name}
use Rattle.vb_syntax.specs.{declared.{tokens.Token.Token, expression.Expr.Expr, declarator.Declarator.Declarator, declaration.OptionSetting.OptionSetting, statement.{LocalModifier.LocalModifier, ExitKind.ExitKind, ContinueKind.ContinueKind, OnErrorAction.OnErrorAction, ResumePlace.ResumePlace, LoopCondition.LoopCondition, LoopControlVariable.LoopControlVariable, CaseItem.CaseItem, CatchVariable.CatchVariable, UsingResource.UsingResource}, item.{BlockWord.BlockWord, Item.Item}, words.Context.Context}, ContextualWords.OptionsApart}
use Rattle.vb_syntax.specs.declared.statement.LocalModifier.TheVariants as local
use Rattle.vb_syntax.specs.declared.item.Item.TheVariants as item
use Rattle.vb_parse_stmt.specs.{declared.front.Front.Front, Statements.local_word, Items.IsOtherItem, Reading.{word_front, may_begin}}
use Rattle.vb_parse_stmt.specs.declared.front.Front.TheVariants as front
use Rattle.vb_parse_expr.specs.TypeReading.{most_tokens}
use Rattle.vb_parse_decl.proofs.DeclaredDeclarators.{Readings}
use Rattle.vb_parse_stmt.proofs.{FileOptionSame.option_same, ImportsSame.imports_same, FileSame.end_same, DeclaredSame.{declaration_same, redim_same}, SimpleSame.{add_handler_same, raise_event_same, remove_handler_same, return_same, throw_same, yield_same}, JumpSame.{continue_same, exit_same, go_to_same, on_error_same, resume_same}, BlockSame.{catch_same, do_same, else_if_same, for_each_same, for_not_each, for_same, loop_same, next_same, select_same, sync_lock_same, while_same, with_same}, CaseSame.{case_not_else, case_same}, GuardResources.using_same}

-- each item of a line that begins so is this one
abbrev pub OneItem : Context → List Token → Front → Item → Type 0
OneItem c ts f x = (y : Item) → may_begin f y ≡ true → IsOtherItem c ts y → x ≡ y

pub option_line : Readings → (c : Context) (ts : List Token) (s : OptionSetting) → OptionsApart c.words → length ts ≤ most_tokens → IsOtherItem c ts (item.Option s) → OneItem c ts front.Option (item.Option s)
option_line laws c ts s apart few is (item.Option s') e is' = ap item.Option (option_same c ts s s' apart is is')
option_line laws c ts s apart few is z e is' = absurd cc

pub imports_line : Readings → (c : Context) (ts : List Token) (s : List (List Name)) → length ts ≤ most_tokens → IsOtherItem c ts (item.Imports s) → OneItem c ts front.Imports (item.Imports s)
imports_line laws c ts s few is (item.Imports s') e is' = ap item.Imports (imports_same c ts s s' few is is')
imports_line laws c ts s few is z e is' = absurd cc

pub end_line : Readings → (c : Context) (ts : List Token) (b : BlockWord) → length ts ≤ most_tokens → IsOtherItem c ts (item.End b) → OneItem c ts front.End (item.End b)
end_line laws c ts b few is (item.End b') e is' = ap item.End (end_same c ts b b' is is')
end_line laws c ts b few is z e is' = absurd cc

pub redim_line : Readings → (c : Context) (ts : List Token) (n : Name) (x : Expr) → length ts ≤ most_tokens → IsOtherItem c ts (item.ReDim n x) → OneItem c ts front.ReDim (item.ReDim n x)
redim_line laws c ts n x few is (item.ReDim n' x') e is' = redim_same laws.expressions c ts n n' x x' few is is'
redim_line laws c ts n x few is z e is' = absurd cc

pub throw_line : Readings → (c : Context) (ts : List Token) (x : Option Expr) → length ts ≤ most_tokens → IsOtherItem c ts (item.Throw x) → OneItem c ts front.Throw (item.Throw x)
throw_line laws c ts x few is (item.Throw x') e is' = throw_same laws.begins laws.expressions c ts x x' few is is'
throw_line laws c ts x few is z e is' = absurd cc

pub yield_line : Readings → (c : Context) (ts : List Token) (x : Expr) → length ts ≤ most_tokens → IsOtherItem c ts (item.Yield x) → OneItem c ts front.Yield (item.Yield x)
yield_line laws c ts x few is (item.Yield x') e is' = yield_same laws.expressions c ts x x' few is is'
yield_line laws c ts x few is z e is' = absurd cc

pub return_line : Readings → (c : Context) (ts : List Token) (x : Option Expr) → length ts ≤ most_tokens → IsOtherItem c ts (item.Return x) → OneItem c ts front.Return (item.Return x)
return_line laws c ts x few is (item.Return x') e is' = return_same laws.begins laws.expressions c ts x x' few is is'
return_line laws c ts x few is z e is' = absurd cc

pub go_to_line : Readings → (c : Context) (ts : List Token) (n : Name) → length ts ≤ most_tokens → IsOtherItem c ts (item.GoTo n) → OneItem c ts front.GoTo (item.GoTo n)
go_to_line laws c ts n few is (item.GoTo n') e is' = go_to_same c ts n n' is is'
go_to_line laws c ts n few is z e is' = absurd cc

pub exit_line : Readings → (c : Context) (ts : List Token) (k : ExitKind) → length ts ≤ most_tokens → IsOtherItem c ts (item.Exit k) → OneItem c ts front.Exit (item.Exit k)
exit_line laws c ts k few is (item.Exit k') e is' = exit_same c ts k k' is is'
exit_line laws c ts k few is z e is' = absurd cc

pub continue_line : Readings → (c : Context) (ts : List Token) (k : ContinueKind) → length ts ≤ most_tokens → IsOtherItem c ts (item.Continue k) → OneItem c ts front.Continue (item.Continue k)
continue_line laws c ts k few is (item.Continue k') e is' = continue_same c ts k k' is is'
continue_line laws c ts k few is z e is' = absurd cc

pub on_error_line : Readings → (c : Context) (ts : List Token) (a : OnErrorAction) → length ts ≤ most_tokens → IsOtherItem c ts (item.OnError a) → OneItem c ts front.On (item.OnError a)
on_error_line laws c ts a few is (item.OnError a') e is' = on_error_same c ts a a' is is'
on_error_line laws c ts a few is z e is' = absurd cc

pub resume_line : Readings → (c : Context) (ts : List Token) (p : ResumePlace) → length ts ≤ most_tokens → IsOtherItem c ts (item.Resume p) → OneItem c ts front.Resume (item.Resume p)
resume_line laws c ts p few is (item.Resume p') e is' = resume_same c ts p p' is is'
resume_line laws c ts p few is z e is' = absurd cc

pub add_handler_line : Readings → (c : Context) (ts : List Token) (x : Expr) (y : Expr) → length ts ≤ most_tokens → IsOtherItem c ts (item.AddHandler x y) → OneItem c ts front.AddHandler (item.AddHandler x y)
add_handler_line laws c ts x y few is (item.AddHandler x' y') e is' = add_handler_same laws.expressions c ts x y x' y' few is is'
add_handler_line laws c ts x y few is z e is' = absurd cc

pub remove_handler_line : Readings → (c : Context) (ts : List Token) (x : Expr) (y : Expr) → length ts ≤ most_tokens → IsOtherItem c ts (item.RemoveHandler x y) → OneItem c ts front.RemoveHandler (item.RemoveHandler x y)
remove_handler_line laws c ts x y few is (item.RemoveHandler x' y') e is' = remove_handler_same laws.expressions c ts x y x' y' few is is'
remove_handler_line laws c ts x y few is z e is' = absurd cc

pub raise_event_line : Readings → (c : Context) (ts : List Token) (n : Name) (xs : List Expr) → length ts ≤ most_tokens → IsOtherItem c ts (item.RaiseEvent n xs) → OneItem c ts front.RaiseEvent (item.RaiseEvent n xs)
raise_event_line laws c ts n xs few is (item.RaiseEvent n' xs') e is' = raise_event_same laws.primaries c ts n n' xs xs' few is is'
raise_event_line laws c ts n xs few is z e is' = absurd cc

pub else_if_line : Readings → (c : Context) (ts : List Token) (x : Expr) → length ts ≤ most_tokens → IsOtherItem c ts (item.ElseIf x) → OneItem c ts front.ElseIf (item.ElseIf x)
else_if_line laws c ts x few is (item.ElseIf x') e is' = ap item.ElseIf (else_if_same laws.expressions c ts x x' few is is')
else_if_line laws c ts x few is z e is' = absurd cc

pub else_line : Readings → (c : Context) (ts : List Token) → length ts ≤ most_tokens → IsOtherItem c ts item.Else → OneItem c ts front.Else item.Else
else_line laws c ts few is item.Else e is' = refl
else_line laws c ts few is z e is' = absurd cc

pub while_line : Readings → (c : Context) (ts : List Token) (x : Expr) → length ts ≤ most_tokens → IsOtherItem c ts (item.While x) → OneItem c ts front.While (item.While x)
while_line laws c ts x few is (item.While x') e is' = ap item.While (while_same laws.expressions c ts x x' few is is')
while_line laws c ts x few is z e is' = absurd cc

pub do_line : Readings → (c : Context) (ts : List Token) (t : Option LoopCondition) → length ts ≤ most_tokens → IsOtherItem c ts (item.Do t) → OneItem c ts front.Do (item.Do t)
do_line laws c ts t few is (item.Do t') e is' = ap item.Do (do_same laws.expressions c ts t t' few is is')
do_line laws c ts t few is z e is' = absurd cc

pub loop_line : Readings → (c : Context) (ts : List Token) (t : Option LoopCondition) → length ts ≤ most_tokens → IsOtherItem c ts (item.Loop t) → OneItem c ts front.Loop (item.Loop t)
loop_line laws c ts t few is (item.Loop t') e is' = ap item.Loop (loop_same laws.expressions c ts t t' few is is')
loop_line laws c ts t few is z e is' = absurd cc

pub for_line : Readings → (c : Context) (ts : List Token) (v : LoopControlVariable) (a : Expr) (b : Expr) (s : Option Expr) → length ts ≤ most_tokens → IsOtherItem c ts (item.For v a b s) → OneItem c ts front.For (item.For v a b s)
for_line laws c ts v a b s few is (item.For v' a' b' s') e is' = for_same laws.expressions laws.types c ts v v' a a' b b' s s' few is is'
for_line laws c ts v a b s few is (item.ForEach w y) e is' = absurd (for_not_each c ts v w a b y s is is')
for_line laws c ts v a b s few is z e is' = absurd cc

pub for_each_line : Readings → (c : Context) (ts : List Token) (v : LoopControlVariable) (x : Expr) → length ts ≤ most_tokens → IsOtherItem c ts (item.ForEach v x) → OneItem c ts front.For (item.ForEach v x)
for_each_line laws c ts v x few is (item.ForEach v' x') e is' = for_each_same laws.expressions laws.types c ts v v' x x' few is is'
for_each_line laws c ts v x few is (item.For w a b s) e is' = absurd (for_not_each c ts w v a b x s is' is)
for_each_line laws c ts v x few is z e is' = absurd cc

pub next_line : Readings → (c : Context) (ts : List Token) (n : Option Name) → length ts ≤ most_tokens → IsOtherItem c ts (item.Next n) → OneItem c ts front.Next (item.Next n)
next_line laws c ts n few is (item.Next n') e is' = ap item.Next (next_same c ts n n' is is')
next_line laws c ts n few is z e is' = absurd cc

pub select_line : Readings → (c : Context) (ts : List Token) (x : Expr) → length ts ≤ most_tokens → IsOtherItem c ts (item.Select x) → OneItem c ts front.Select (item.Select x)
select_line laws c ts x few is (item.Select x') e is' = ap item.Select (select_same laws.expressions laws.begins c ts x x' few is is')
select_line laws c ts x few is z e is' = absurd cc

pub case_line : Readings → (c : Context) (ts : List Token) (cs : List CaseItem) → length ts ≤ most_tokens → IsOtherItem c ts (item.Case cs) → OneItem c ts front.Case (item.Case cs)
case_line laws c ts cs few is (item.Case cs') e is' = ap item.Case (case_same laws c ts cs cs' few is is')
case_line laws c ts cs few is item.CaseElse e is' = absurd (case_not_else laws.begins c ts cs is is')
case_line laws c ts cs few is z e is' = absurd cc

pub case_else_line : Readings → (c : Context) (ts : List Token) → length ts ≤ most_tokens → IsOtherItem c ts item.CaseElse → OneItem c ts front.Case item.CaseElse
case_else_line laws c ts few is item.CaseElse e is' = refl
case_else_line laws c ts few is (item.Case cs) e is' = absurd (case_not_else laws.begins c ts cs is' is)
case_else_line laws c ts few is z e is' = absurd cc

pub try_line : Readings → (c : Context) (ts : List Token) → length ts ≤ most_tokens → IsOtherItem c ts item.Try → OneItem c ts front.Try item.Try
try_line laws c ts few is item.Try e is' = refl
try_line laws c ts few is z e is' = absurd cc

pub catch_line : Readings → (c : Context) (ts : List Token) (v : Option CatchVariable) (x : Option Expr) → length ts ≤ most_tokens → IsOtherItem c ts (item.Catch v x) → OneItem c ts front.Catch (item.Catch v x)
catch_line laws c ts v x few is (item.Catch v' x') e is' = catch_same laws.expressions laws.types c ts v v' x x' few is is'
catch_line laws c ts v x few is z e is' = absurd cc

pub finally_line : Readings → (c : Context) (ts : List Token) → length ts ≤ most_tokens → IsOtherItem c ts item.Finally → OneItem c ts front.Finally item.Finally
finally_line laws c ts few is item.Finally e is' = refl
finally_line laws c ts few is z e is' = absurd cc

pub sync_lock_line : Readings → (c : Context) (ts : List Token) (x : Expr) → length ts ≤ most_tokens → IsOtherItem c ts (item.SyncLock x) → OneItem c ts front.SyncLock (item.SyncLock x)
sync_lock_line laws c ts x few is (item.SyncLock x') e is' = ap item.SyncLock (sync_lock_same laws.expressions c ts x x' few is is')
sync_lock_line laws c ts x few is z e is' = absurd cc

pub with_line : Readings → (c : Context) (ts : List Token) (x : Expr) → length ts ≤ most_tokens → IsOtherItem c ts (item.With x) → OneItem c ts front.With (item.With x)
with_line laws c ts x few is (item.With x') e is' = ap item.With (with_same laws.expressions c ts x x' few is is')
with_line laws c ts x few is z e is' = absurd cc

pub using_line : Readings → (c : Context) (ts : List Token) (r : UsingResource) → length ts ≤ most_tokens → IsOtherItem c ts (item.Using r) → OneItem c ts front.Using (item.Using r)
using_line laws c ts r few is (item.Using r') e is' = ap item.Using (using_same laws.expressions laws.primaries laws.types c ts r r' few is is')
using_line laws c ts r few is z e is' = absurd cc

pub declaration_line : Readings → (c : Context) (ts : List Token) (m : LocalModifier) (ds : List Declarator) → length ts ≤ most_tokens → IsOtherItem c ts (item.Declaration m ds)
    → OneItem c ts (word_front (local_word m)) (item.Declaration m ds)
declaration_line laws c ts m ds few p (item.Declaration m' ds') e q = declaration_same laws c ts m m' ds ds' few p q
declaration_line laws c ts local.Dim ds few p y e q = absurd cc
declaration_line laws c ts local.Const ds few p y e q = absurd cc
declaration_line laws c ts local.Static ds few p y e q = absurd cc
