-- With what a line begins: private functions, which the code equals.
use Rattle.std.specs.Prelude.{◌≡◌, ◌&&◌, ◌==◌, Bool, true, false, if◌then◌else◌, List, ◌∷◌}
use Rattle.vb_syntax.specs.declared.{keyword.Keyword.Keyword, tokens.Token.Token, item.Item.Item, words.Context.Context}
use Rattle.vb_syntax.specs.declared.keyword.Keyword.TheVariants as word
use Rattle.vb_syntax.specs.declared.tokens.Token.TheVariants as token
use Rattle.vb_syntax.specs.declared.statement.LocalModifier.TheVariants as local
use Rattle.vb_syntax.specs.declared.item.Item.TheVariants as item
use Rattle.vb_parse_stmt.specs.{declared.front.Front.Front, Items.IsOtherItem}
use Rattle.vb_parse_stmt.specs.declared.front.Front.TheVariants as front

abbrev pub word_front : Keyword → Front
word_front word.Option = front.Option
word_front word.Imports = front.Imports
word_front word.End = front.End
word_front word.Dim = front.Dim
word_front word.Const = front.Const
word_front word.Static = front.Static
word_front word.ReDim = front.ReDim
word_front word.Call = front.Call
word_front word.Throw = front.Throw
word_front word.Return = front.Return
word_front word.GoTo = front.GoTo
word_front word.Exit = front.Exit
word_front word.Continue = front.Continue
word_front word.On = front.On
word_front word.Resume = front.Resume
word_front word.AddHandler = front.AddHandler
word_front word.RemoveHandler = front.RemoveHandler
word_front word.RaiseEvent = front.RaiseEvent
word_front word.If = front.If
word_front word.ElseIf = front.ElseIf
word_front word.Else = front.Else
word_front word.While = front.While
word_front word.Do = front.Do
word_front word.Loop = front.Loop
word_front word.For = front.For
word_front word.Next = front.Next
word_front word.Select = front.Select
word_front word.Case = front.Case
word_front word.Try = front.Try
word_front word.Catch = front.Catch
word_front word.Finally = front.Finally
word_front word.SyncLock = front.SyncLock
word_front word.With = front.With
word_front word.Using = front.Using
word_front w = front.Other

abbrev pub front_of : Context → List Token → Front
front_of c (token.Keyword w ∷ ts) = word_front w
front_of c (token.Name n ∷ ts) = if c.in_iterator && (n.index == c.words.yields.index) then front.Yield else front.Other
front_of c ts = front.Other

-- whether a line that begins so may be the item
abbrev pub may_begin : Front → Item → Bool
may_begin front.Option (item.Option s) = true
may_begin front.Imports (item.Imports s) = true
may_begin front.End (item.End b) = true
may_begin front.Dim (item.Declaration local.Dim ds) = true
may_begin front.Const (item.Declaration local.Const ds) = true
may_begin front.Static (item.Declaration local.Static ds) = true
may_begin front.ReDim (item.ReDim n x) = true
may_begin front.Call (item.Invocation x) = true
may_begin front.Throw (item.Throw x) = true
may_begin front.Yield (item.Yield x) = true
may_begin front.Return (item.Return x) = true
may_begin front.GoTo (item.GoTo n) = true
may_begin front.Exit (item.Exit k) = true
may_begin front.Continue (item.Continue k) = true
may_begin front.On (item.OnError a) = true
may_begin front.Resume (item.Resume p) = true
may_begin front.AddHandler (item.AddHandler x y) = true
may_begin front.RemoveHandler (item.RemoveHandler x y) = true
may_begin front.RaiseEvent (item.RaiseEvent n xs) = true
may_begin front.If (item.If x) = true
may_begin front.If (item.Assignment x y) = true
may_begin front.If (item.CompoundAssignment o x y) = true
may_begin front.If (item.Invocation x) = true
may_begin front.ElseIf (item.ElseIf x) = true
may_begin front.Else item.Else = true
may_begin front.While (item.While x) = true
may_begin front.Do (item.Do t) = true
may_begin front.Loop (item.Loop t) = true
may_begin front.For (item.For v a b s) = true
may_begin front.For (item.ForEach v x) = true
may_begin front.Next (item.Next o) = true
may_begin front.Select (item.Select x) = true
may_begin front.Case (item.Case cs) = true
may_begin front.Case item.CaseElse = true
may_begin front.Try item.Try = true
may_begin front.Catch (item.Catch v x) = true
may_begin front.Finally item.Finally = true
may_begin front.SyncLock (item.SyncLock x) = true
may_begin front.With (item.With x) = true
may_begin front.Using (item.Using r) = true
may_begin front.Other (item.Assignment x y) = true
may_begin front.Other (item.CompoundAssignment o x y) = true
may_begin front.Other (item.Invocation x) = true
may_begin f x = false

-- an item that begins so
abbrev pub IsItemFrom : Context → Front → List Token → Item → Type 0
IsItemFrom c f ts x = (may_begin f x ≡ true) × IsOtherItem c ts x
