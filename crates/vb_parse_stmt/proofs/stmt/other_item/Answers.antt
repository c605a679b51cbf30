use Rattle.vb_parse_stmt.specs.declared.front.Front.TheVariants as front
use Rattle.vb_parse_stmt.proofs.ItemFirsts.{tells_all}
use Rattle.vb_parse_stmt.proofs.stmt.other_item.Goals as goal

pub returns-in-Option : goal.returns-in-Option
returns-in-Option c =
    tells_all c.primary_begins.ensures c.args.context.now front.Option c.args.line.now c.args.line.now.tokens (cc c.in-Option.ensures) c.option.result c.option.ensures

pub returns-in-Imports : goal.returns-in-Imports
returns-in-Imports c =
    tells_all c.primary_begins.ensures c.args.context.now front.Imports c.args.line.now c.args.line.now.tokens (cc c.in-Imports.ensures) c.imports.result c.imports.ensures

pub returns-in-End : goal.returns-in-End
returns-in-End c =
    tells_all c.primary_begins.ensures c.args.context.now front.End c.args.line.now c.args.line.now.tokens (cc c.in-End.ensures) c.end.result c.end.ensures

pub returns-in-Dim : goal.returns-in-Dim
returns-in-Dim c =
    tells_all c.primary_begins.ensures c.args.context.now front.Dim c.args.line.now c.args.line.now.tokens (cc c.in-Dim.ensures) c.dim.result c.dim.ensures

pub returns-in-Const : goal.returns-in-Const
returns-in-Const c =
    tells_all c.primary_begins.ensures c.args.context.now front.Const c.args.line.now c.args.line.now.tokens (cc c.in-Const.ensures) c.constant.result c.constant.ensures

pub returns-in-Static : goal.returns-in-Static
returns-in-Static c =
    tells_all c.primary_begins.ensures c.args.context.now front.Static c.args.line.now c.args.line.now.tokens (cc c.in-Static.ensures) c.static_local.result c.static_local.ensures

pub returns-in-ReDim : goal.returns-in-ReDim
returns-in-ReDim c =
    tells_all c.primary_begins.ensures c.args.context.now front.ReDim c.args.line.now c.args.line.now.tokens (cc c.in-ReDim.ensures) c.redim.result c.redim.ensures

pub returns-in-Call : goal.returns-in-Call
returns-in-Call c =
    tells_all c.primary_begins.ensures c.args.context.now front.Call c.args.line.now c.args.line.now.tokens (cc c.in-Call.ensures) c.call.result c.call.ensures

pub returns-in-Throw : goal.returns-in-Throw
returns-in-Throw c =
    tells_all c.primary_begins.ensures c.args.context.now front.Throw c.args.line.now c.args.line.now.tokens (cc c.in-Throw.ensures) c.throw.result c.throw.ensures

pub returns-in-Yield : goal.returns-in-Yield
returns-in-Yield c =
    tells_all c.primary_begins.ensures c.args.context.now front.Yield c.args.line.now c.args.line.now.tokens (cc c.in-Yield.ensures) c.yield_value.result c.yield_value.ensures

pub returns-in-Return : goal.returns-in-Return
returns-in-Return c =
    tells_all c.primary_begins.ensures c.args.context.now front.Return c.args.line.now c.args.line.now.tokens (cc c.in-Return.ensures) c.return_value.result c.return_value.ensures

pub returns-in-GoTo : goal.returns-in-GoTo
returns-in-GoTo c =
    tells_all c.primary_begins.ensures c.args.context.now front.GoTo c.args.line.now c.args.line.now.tokens (cc c.in-GoTo.ensures) c.go_to.result c.go_to.ensures

pub returns-in-Exit : goal.returns-in-Exit
returns-in-Exit c =
    tells_all c.primary_begins.ensures c.args.context.now front.Exit c.args.line.now c.args.line.now.tokens (cc c.in-Exit.ensures) c.exit.result c.exit.ensures

pub returns-in-Continue : goal.returns-in-Continue
returns-in-Continue c =
    tells_all c.primary_begins.ensures c.args.context.now front.Continue c.args.line.now c.args.line.now.tokens (cc c.in-Continue.ensures) c.continue_loop.result c.continue_loop.ensures

pub returns-in-On : goal.returns-in-On
returns-in-On c =
    tells_all c.primary_begins.ensures c.args.context.now front.On c.args.line.now c.args.line.now.tokens (cc c.in-On.ensures) c.on_error.result c.on_error.ensures

pub returns-in-Resume : goal.returns-in-Resume
returns-in-Resume c =
    tells_all c.primary_begins.ensures c.args.context.now front.Resume c.args.line.now c.args.line.now.tokens (cc c.in-Resume.ensures) c.resume.result c.resume.ensures

pub returns-in-AddHandler : goal.returns-in-AddHandler
returns-in-AddHandler c =
    tells_all c.primary_begins.ensures c.args.context.now front.AddHandler c.args.line.now c.args.line.now.tokens (cc c.in-AddHandler.ensures) c.add_handler.result c.add_handler.ensures

pub returns-in-RemoveHandler : goal.returns-in-RemoveHandler
returns-in-RemoveHandler c =
    tells_all c.primary_begins.ensures c.args.context.now front.RemoveHandler c.args.line.now c.args.line.now.tokens (cc c.in-RemoveHandler.ensures) c.remove_handler.result c.remove_handler.ensures

pub returns-in-RaiseEvent : goal.returns-in-RaiseEvent
returns-in-RaiseEvent c =
    tells_all c.primary_begins.ensures c.args.context.now front.RaiseEvent c.args.line.now c.args.line.now.tokens (cc c.in-RaiseEvent.ensures) c.raise_event.result c.raise_event.ensures

pub returns-in-If : goal.returns-in-If
returns-in-If c =
    tells_all c.primary_begins.ensures c.args.context.now front.If c.args.line.now c.args.line.now.tokens (cc c.in-If.ensures) c.if_or_call.result c.if_or_call.ensures

pub returns-in-ElseIf : goal.returns-in-ElseIf
returns-in-ElseIf c =
    tells_all c.primary_begins.ensures c.args.context.now front.ElseIf c.args.line.now c.args.line.now.tokens (cc c.in-ElseIf.ensures) c.else_if.result c.else_if.ensures

pub returns-in-Else : goal.returns-in-Else
returns-in-Else c =
    tells_all c.primary_begins.ensures c.args.context.now front.Else c.args.line.now c.args.line.now.tokens (cc c.in-Else.ensures) c.otherwise.result c.otherwise.ensures

pub returns-in-While : goal.returns-in-While
returns-in-While c =
    tells_all c.primary_begins.ensures c.args.context.now front.While c.args.line.now c.args.line.now.tokens (cc c.in-While.ensures) c.while_front.result c.while_front.ensures

pub returns-in-Do : goal.returns-in-Do
returns-in-Do c =
    tells_all c.primary_begins.ensures c.args.context.now front.Do c.args.line.now c.args.line.now.tokens (cc c.in-Do.ensures) c.do_front.result c.do_front.ensures

pub returns-in-Loop : goal.returns-in-Loop
returns-in-Loop c =
    tells_all c.primary_begins.ensures c.args.context.now front.Loop c.args.line.now c.args.line.now.tokens (cc c.in-Loop.ensures) c.loop_end.result c.loop_end.ensures

pub returns-in-For : goal.returns-in-For
returns-in-For c =
    tells_all c.primary_begins.ensures c.args.context.now front.For c.args.line.now c.args.line.now.tokens (cc c.in-For.ensures) c.for_front.result c.for_front.ensures

pub returns-in-Next : goal.returns-in-Next
returns-in-Next c =
    tells_all c.primary_begins.ensures c.args.context.now front.Next c.args.line.now c.args.line.now.tokens (cc c.in-Next.ensures) c.next.result c.next.ensures

pub returns-in-Select : goal.returns-in-Select
returns-in-Select c =
    tells_all c.primary_begins.ensures c.args.context.now front.Select c.args.line.now c.args.line.now.tokens (cc c.in-Select.ensures) c.select.result c.select.ensures

pub returns-in-Case : goal.returns-in-Case
returns-in-Case c =
    tells_all c.primary_begins.ensures c.args.context.now front.Case c.args.line.now c.args.line.now.tokens (cc c.in-Case.ensures) c.case.result c.case.ensures

pub returns-in-Try : goal.returns-in-Try
returns-in-Try c =
    tells_all c.primary_begins.ensures c.args.context.now front.Try c.args.line.now c.args.line.now.tokens (cc c.in-Try.ensures) c.try_front.result c.try_front.ensures

pub returns-in-Catch : goal.returns-in-Catch
returns-in-Catch c =
    tells_all c.primary_begins.ensures c.args.context.now front.Catch c.args.line.now c.args.line.now.tokens (cc c.in-Catch.ensures) c.catch.result c.catch.ensures

pub returns-in-Finally : goal.returns-in-Finally
returns-in-Finally c =
    tells_all c.primary_begins.ensures c.args.context.now front.Finally c.args.line.now c.args.line.now.tokens (cc c.in-Finally.ensures) c.finally.result c.finally.ensures

pub returns-in-SyncLock : goal.returns-in-SyncLock
returns-in-SyncLock c =
    tells_all c.primary_begins.ensures c.args.context.now front.SyncLock c.args.line.now c.args.line.now.tokens (cc c.in-SyncLock.ensures) c.sync_lock.result c.sync_lock.ensures

pub returns-in-With : goal.returns-in-With
returns-in-With c =
    tells_all c.primary_begins.ensures c.args.context.now front.With c.args.line.now c.args.line.now.tokens (cc c.in-With.ensures) c.with.result c.with.ensures

pub returns-in-Using : goal.returns-in-Using
returns-in-Using c =
    tells_all c.primary_begins.ensures c.args.context.now front.Using c.args.line.now c.args.line.now.tokens (cc c.in-Using.ensures) c.using.result c.using.ensures

pub returns-in-Other : goal.returns-in-Other
returns-in-Other c =
    tells_all c.primary_begins.ensures c.args.context.now front.Other c.args.line.now c.args.line.now.tokens (cc c.in-Other.ensures) c.assignment_or_call.result c.assignment_or_call.ensures
