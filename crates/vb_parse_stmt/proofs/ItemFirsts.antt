-- Each item begins so that its line may be it, and what is told of the items that begin so holds of all.
use Rattle.std.proofs.Common.{◌≡◌, true, List, Result, Ok, Err, ap, sym, ◌∙◌}
use Rattle.vb_syntax.specs.declared.{tokens.{Token.Token, Line.Line}, item.Item.Item, words.Context.Context}
use Rattle.vb_syntax.specs.declared.item.Item.TheVariants as item
use Rattle.vb_parse_expr.specs.declared.error.ParseErr.{ParseErr, TheVariants.{Refused, Memory}}
use Rattle.vb_parse_stmt.specs.{declared.front.Front.Front, Items.IsOtherItem, Reading.{front_of, may_begin, IsItemFrom}}
use Rattle.vb_parse_decl.specs.Answers.{Tells}
use Rattle.vb_parse_stmt.proofs.{FileSame.{option_first, imports_first, end_first}, DeclaredSame.{declaration_first, redim_first}, SimpleFirsts.{PrimaryBegins, assignment_first, compound_first, invocation_first, throw_first, yield_first, return_first, add_handler_first, remove_handler_first, raise_event_first}, JumpFirsts.{go_to_first, exit_first, continue_first, on_error_first, resume_first}, BlockFirsts.{if_first, else_if_first, else_first, while_first, do_first, loop_first, for_first, for_each_first, next_first, select_first, case_first, case_else_first, try_first, catch_first, finally_first, sync_lock_first, with_first, using_first}}

pub may_begin_all : PrimaryBegins → (c : Context) (ts : List Token) (x : Item) → IsOtherItem c ts x → may_begin (front_of c ts) x ≡ true
may_begin_all begins c ts (item.Option s) is = option_first c ts s is
may_begin_all begins c ts (item.Imports s) is = imports_first c ts s is
may_begin_all begins c ts (item.Declares d) is = absurd is
may_begin_all begins c ts (item.Label n) is = absurd is
may_begin_all begins c ts (item.End b) is = end_first c ts b is
may_begin_all begins c ts (item.Declaration m ds) is = declaration_first c ts m ds is
may_begin_all begins c ts (item.ReDim n x) is = redim_first c ts n x is
may_begin_all begins c ts (item.Assignment x y) is = assignment_first begins c ts x y is
may_begin_all begins c ts (item.CompoundAssignment o x y) is = compound_first begins c ts o x y is
may_begin_all begins c ts (item.Invocation x) is = invocation_first begins c ts x is
may_begin_all begins c ts (item.Throw x) is = throw_first c ts x is
may_begin_all begins c ts (item.Yield x) is = yield_first c ts x is
may_begin_all begins c ts (item.Return x) is = return_first c ts x is
may_begin_all begins c ts (item.GoTo n) is = go_to_first c ts n is
may_begin_all begins c ts (item.Exit k) is = exit_first c ts k is
may_begin_all begins c ts (item.Continue k) is = continue_first c ts k is
may_begin_all begins c ts (item.OnError a) is = on_error_first c ts a is
may_begin_all begins c ts (item.Resume p) is = resume_first c ts p is
may_begin_all begins c ts (item.AddHandler x y) is = add_handler_first c ts x y is
may_begin_all begins c ts (item.RemoveHandler x y) is = remove_handler_first c ts x y is
may_begin_all begins c ts (item.RaiseEvent n xs) is = raise_event_first c ts n xs is
may_begin_all begins c ts (item.If x) is = if_first c ts x is
may_begin_all begins c ts (item.ElseIf x) is = else_if_first c ts x is
may_begin_all begins c ts item.Else is = else_first c ts is
may_begin_all begins c ts (item.While x) is = while_first c ts x is
may_begin_all begins c ts (item.Do t) is = do_first c ts t is
may_begin_all begins c ts (item.Loop t) is = loop_first c ts t is
may_begin_all begins c ts (item.For v a b s) is = for_first c ts v a b s is
may_begin_all begins c ts (item.ForEach v x) is = for_each_first c ts v x is
may_begin_all begins c ts (item.Next n) is = next_first c ts n is
may_begin_all begins c ts (item.Select x) is = select_first c ts x is
may_begin_all begins c ts (item.Case cs) is = case_first c ts cs is
may_begin_all begins c ts item.CaseElse is = case_else_first c ts is
may_begin_all begins c ts item.Try is = try_first c ts is
may_begin_all begins c ts (item.Catch v x) is = catch_first c ts v x is
may_begin_all begins c ts item.Finally is = finally_first c ts is
may_begin_all begins c ts (item.SyncLock x) is = sync_lock_first c ts x is
may_begin_all begins c ts (item.With x) is = with_first c ts x is
may_begin_all begins c ts (item.Using r) is = using_first c ts r is

-- with another name for the front
pub begins_so : PrimaryBegins → (c : Context) (f : Front) (ts : List Token) (x : Item) → front_of c ts ≡ f → IsOtherItem c ts x → may_begin f x ≡ true
begins_so begins c f ts x here p = ap (λ (g : Front). may_begin g x) (sym here) ∙ may_begin_all begins c ts x p

pub tells_all : PrimaryBegins → (c : Context) (f : Front) (line : Line) (ts : List Token) → front_of c ts ≡ f → (r : Result Item ParseErr)
    → Tells (IsItemFrom c f) line ts r → Tells (IsOtherItem c) line ts r
tells_all begins c f line ts here (Ok x) p = p.1
tells_all begins c f line ts here (Err (Refused e)) p = (λ x q. p.0 x (begins_so begins c f ts x here q, q), p.1)
tells_all begins c f line ts here (Err Memory) p = tt
