-- The tokens of which there is a list.
use Rattle.std.specs.Prelude.{List, [], ◌∷◌, ◌++◌}
use Rattle.vb_syntax.specs.declared.{keyword.Keyword.Keyword, symbol.Symbol.Symbol}
use Rattle.vb_syntax.specs.declared.keyword.Keyword.TheVariants as word
use Rattle.vb_syntax.specs.declared.symbol.Symbol.TheVariants as sign

-- RESERVED WORDS (Visual Basic Language Specification 11.0, 2.3), by their first letters

unfoldable pub keywords_a : List Keyword
keywords_a = word.AddHandler ∷ word.AddressOf ∷ word.Alias ∷ word.And ∷ word.AndAlso ∷ word.As ∷ []

unfoldable pub keywords_b : List Keyword
keywords_b = word.Boolean ∷ word.ByRef ∷ word.Byte ∷ word.ByVal ∷ []

unfoldable pub keywords_c : List Keyword
keywords_c = word.Call ∷ word.Case ∷ word.Catch ∷ word.CBool ∷ word.CByte ∷ word.CChar ∷ word.CDate ∷ word.CDbl ∷ word.CDec ∷ word.Char ∷ word.CInt ∷ word.Class ∷ word.CLng ∷ word.CObj ∷ word.Const ∷ word.Continue ∷ word.CSByte ∷ word.CShort ∷ word.CSng ∷ word.CStr ∷ word.CType ∷ word.CUInt ∷ word.CULng ∷ word.CUShort ∷ []

unfoldable pub keywords_d : List Keyword
keywords_d = word.Date ∷ word.Decimal ∷ word.Declare ∷ word.Default ∷ word.Delegate ∷ word.Dim ∷ word.DirectCast ∷ word.Do ∷ word.Double ∷ []

unfoldable pub keywords_e : List Keyword
keywords_e = word.Each ∷ word.Else ∷ word.ElseIf ∷ word.End ∷ word.EndIf ∷ word.Enum ∷ word.Erase ∷ word.Error ∷ word.Event ∷ word.Exit ∷ []

unfoldable pub keywords_f : List Keyword
keywords_f = word.False ∷ word.Finally ∷ word.For ∷ word.Friend ∷ word.Function ∷ []

unfoldable pub keywords_g : List Keyword
keywords_g = word.Get ∷ word.GetType ∷ word.GetXmlNamespace ∷ word.Global ∷ word.GoSub ∷ word.GoTo ∷ []

unfoldable pub keywords_h : List Keyword
keywords_h = word.Handles ∷ []

unfoldable pub keywords_i : List Keyword
keywords_i = word.If ∷ word.Implements ∷ word.Imports ∷ word.In ∷ word.Inherits ∷ word.Integer ∷ word.Interface ∷ word.Is ∷ word.IsNot ∷ []

unfoldable pub keywords_l : List Keyword
keywords_l = word.Let ∷ word.Lib ∷ word.Like ∷ word.Long ∷ word.Loop ∷ []

unfoldable pub keywords_m : List Keyword
keywords_m = word.Me ∷ word.Mod ∷ word.Module ∷ word.MustInherit ∷ word.MustOverride ∷ word.MyBase ∷ word.MyClass ∷ []

unfoldable pub keywords_n : List Keyword
keywords_n = word.Namespace ∷ word.Narrowing ∷ word.New ∷ word.Next ∷ word.Not ∷ word.Nothing ∷ word.NotInheritable ∷ word.NotOverridable ∷ []

unfoldable pub keywords_o : List Keyword
keywords_o = word.Object ∷ word.Of ∷ word.On ∷ word.Operator ∷ word.Option ∷ word.Optional ∷ word.Or ∷ word.OrElse ∷ word.Overloads ∷ word.Overridable ∷ word.Overrides ∷ []

unfoldable pub keywords_p : List Keyword
keywords_p = word.ParamArray ∷ word.Partial ∷ word.Private ∷ word.Property ∷ word.Protected ∷ word.Public ∷ []

unfoldable pub keywords_r : List Keyword
keywords_r = word.RaiseEvent ∷ word.ReadOnly ∷ word.ReDim ∷ word.RemoveHandler ∷ word.Resume ∷ word.Return ∷ []

unfoldable pub keywords_s : List Keyword
keywords_s = word.SByte ∷ word.Select ∷ word.Set ∷ word.Shadows ∷ word.Shared ∷ word.Short ∷ word.Single ∷ word.Static ∷ word.Step ∷ word.Stop ∷ word.String ∷ word.Structure ∷ word.Sub ∷ word.SyncLock ∷ []

unfoldable pub keywords_t : List Keyword
keywords_t = word.Then ∷ word.Throw ∷ word.To ∷ word.True ∷ word.Try ∷ word.TryCast ∷ word.TypeOf ∷ []

unfoldable pub keywords_u : List Keyword
keywords_u = word.UInteger ∷ word.ULong ∷ word.UShort ∷ word.Using ∷ []

unfoldable pub keywords_v : List Keyword
keywords_v = word.Variant ∷ []

unfoldable pub keywords_w : List Keyword
keywords_w = word.Wend ∷ word.When ∷ word.While ∷ word.Widening ∷ word.With ∷ word.WithEvents ∷ word.WriteOnly ∷ []

unfoldable pub keywords_x : List Keyword
keywords_x = word.Xor ∷ []

unfoldable pub keywords : List Keyword
keywords = keywords_a ++ (keywords_b ++ (keywords_c ++ (keywords_d ++ (keywords_e ++ (keywords_f ++ (keywords_g ++ (keywords_h ++ (keywords_i ++ (keywords_l ++ (keywords_m ++ (keywords_n ++ (keywords_o ++ (keywords_p ++ (keywords_r ++ (keywords_s ++ (keywords_t ++ (keywords_u ++ (keywords_v ++ (keywords_w ++ keywords_x)))))))))))))))))))

-- SEPARATORS AND OPERATORS (Visual Basic Language Specification 11.0, 2.5 and 2.6), the longer before the shorter
abbrev pub symbols : List Symbol
symbols =
    sign.ShiftLeftEqual ∷ sign.ShiftRightEqual
    ∷ sign.NotEqual ∷ sign.LessOrEqual ∷ sign.GreaterOrEqual ∷ sign.ShiftLeft ∷ sign.ShiftRight
    ∷ sign.PlusEqual ∷ sign.MinusEqual ∷ sign.TimesEqual ∷ sign.BackslashEqual ∷ sign.AmpersandEqual
    ∷ sign.OpenParenthesis ∷ sign.CloseParenthesis ∷ sign.OpenBrace ∷ sign.CloseBrace ∷ sign.Comma ∷ sign.Dot ∷ sign.Colon
    ∷ sign.Equal ∷ sign.Less ∷ sign.Greater ∷ sign.Plus ∷ sign.Minus ∷ sign.Times ∷ sign.Backslash ∷ sign.Ampersand ∷ []
