-- What a single token means in an expression.
use Rattle.std.specs.Prelude.{ℕ, Bool, true, false, ◌||◌, List, [], ◌∷◌, Option, Some, None}
use Rattle.vb_text.specs.declared.names.Name.{Name}
use Rattle.vb_syntax.specs.{declared.{keyword.Keyword.Keyword, symbol.Symbol.Symbol, tokens.Token.Token, types.{PrimitiveTypeName.PrimitiveTypeName, BuiltInTypeName.BuiltInTypeName}, expression.{UnaryOperator.UnaryOperator, BinaryOperator.BinaryOperator, CastOperator.CastOperator, Expr.Expr}}, Literals.integer}
use Rattle.vb_syntax.specs.declared.keyword.Keyword.TheVariants as word
use Rattle.vb_syntax.specs.declared.symbol.Symbol.TheVariants as sign
use Rattle.vb_syntax.specs.declared.tokens.Token.TheVariants as token
use Rattle.vb_syntax.specs.declared.types.PrimitiveTypeName.TheVariants as primitive
use Rattle.vb_syntax.specs.declared.types.BuiltInTypeName.TheVariants as built_in
use Rattle.vb_syntax.specs.declared.expression.UnaryOperator.TheVariants as unary
use Rattle.vb_syntax.specs.declared.expression.BinaryOperator.TheVariants as binary
use Rattle.vb_syntax.specs.declared.expression.RelationalOperator.TheVariants as relation
use Rattle.vb_syntax.specs.declared.expression.CastOperator.TheVariants as cast
use Rattle.vb_syntax.specs.declared.expression.Expr.TheVariants as expr

-- SEPARATORS (Visual Basic Language Specification 11.0, 2.5)

abbrev pub opening : Token
opening = token.Symbol sign.OpenParenthesis

abbrev pub closing : Token
closing = token.Symbol sign.CloseParenthesis

abbrev pub opening_brace : Token
opening_brace = token.Symbol sign.OpenBrace

abbrev pub closing_brace : Token
closing_brace = token.Symbol sign.CloseBrace

abbrev pub comma : Token
comma = token.Symbol sign.Comma

abbrev pub dot : Token
dot = token.Symbol sign.Dot

-- NAMES AND TYPES THAT HAVE A RESERVED WORD (Visual Basic Language Specification 11.0, 2.2, 7 and 7.3)

-- the name that a token is, between brackets or not
abbrev pub name_of : Token → Option Name
name_of (token.Name n) = Some n
name_of (token.EscapedName n) = Some n
name_of _ = None

abbrev pub word_type : Keyword → Option BuiltInTypeName
word_type word.Boolean = Some (built_in.Primitive primitive.Boolean)
word_type word.Byte = Some (built_in.Primitive primitive.Byte)
word_type word.SByte = Some (built_in.Primitive primitive.SByte)
word_type word.Short = Some (built_in.Primitive primitive.Short)
word_type word.UShort = Some (built_in.Primitive primitive.UShort)
word_type word.Integer = Some (built_in.Primitive primitive.Integer)
word_type word.UInteger = Some (built_in.Primitive primitive.UInteger)
word_type word.Long = Some (built_in.Primitive primitive.Long)
word_type word.ULong = Some (built_in.Primitive primitive.ULong)
word_type word.Char = Some (built_in.Primitive primitive.Char)
word_type word.String = Some (built_in.Primitive primitive.String)
word_type word.Object = Some built_in.Object
word_type _ = None

abbrev pub type_of : Token → Option BuiltInTypeName
type_of (token.Keyword w) = word_type w
type_of _ = None

-- EXPRESSIONS OF ONE TOKEN (11.4.1 and 11.4.3)

abbrev pub word_alone : Keyword → Option Expr
word_alone word.True = Some expr.True
word_alone word.False = Some expr.False
word_alone word.Nothing = Some expr.Nothing
word_alone word.Me = Some expr.Me
word_alone word.MyBase = Some expr.MyBase
word_alone _ = None

abbrev pub alone_of : Token → Option Expr
alone_of (token.Integer l) = Some (expr.Integer (integer l))
alone_of (token.Text t) = Some (expr.Text t)
alone_of (token.Char u) = Some (expr.Char u)
alone_of (token.Keyword w) = word_alone w
alone_of _ = None

-- CASTS (11.11)

-- the type that a word of one argument casts to
abbrev pub word_cast : Keyword → Option PrimitiveTypeName
word_cast word.CBool = Some primitive.Boolean
word_cast word.CByte = Some primitive.Byte
word_cast word.CChar = Some primitive.Char
word_cast word.CInt = Some primitive.Integer
word_cast word.CLng = Some primitive.Long
word_cast word.CSByte = Some primitive.SByte
word_cast word.CShort = Some primitive.Short
word_cast word.CStr = Some primitive.String
word_cast word.CUInt = Some primitive.UInteger
word_cast word.CULng = Some primitive.ULong
word_cast word.CUShort = Some primitive.UShort
word_cast _ = None

abbrev pub primitive_cast : Token → Option PrimitiveTypeName
primitive_cast (token.Keyword w) = word_cast w
primitive_cast _ = None

-- the cast of a word whose second argument is a type
abbrev pub word_cast_operator : Keyword → Option CastOperator
word_cast_operator word.CType = Some cast.CType
word_cast_operator word.DirectCast = Some cast.DirectCast
word_cast_operator word.TryCast = Some cast.TryCast
word_cast_operator _ = None

abbrev pub cast_operator : Token → Option CastOperator
cast_operator (token.Keyword w) = word_cast_operator w
cast_operator _ = None

-- OPERATORS AND THEIR STRENGTHS (11.12 to 11.17), 1 for the strongest: unary + and - 1, * 2, \ 3, Mod 4, + and - 5, & 6,
-- << and >> 7, the relational ones 8, Not 9, And 10, Or 11, Xor 12

-- the operator that a token is before its operand, and its strength
abbrev pub prefix_of : Token → Option (UnaryOperator × ℕ)
prefix_of (token.Symbol sign.Plus) = Some (unary.Plus, 1)
prefix_of (token.Symbol sign.Minus) = Some (unary.Minus, 1)
prefix_of (token.Keyword word.Not) = Some (unary.Not, 9)
prefix_of _ = None

abbrev pub sign_between : Symbol → Option (BinaryOperator × ℕ)
sign_between sign.Times = Some (binary.Multiply, 2)
sign_between sign.Backslash = Some (binary.IntegerDivide, 3)
sign_between sign.Plus = Some (binary.Add, 5)
sign_between sign.Minus = Some (binary.Subtract, 5)
sign_between sign.Ampersand = Some (binary.Concatenate, 6)
sign_between sign.ShiftLeft = Some (binary.ShiftLeft, 7)
sign_between sign.ShiftRight = Some (binary.ShiftRight, 7)
sign_between sign.Equal = Some (binary.Relational relation.Equal, 8)
sign_between sign.NotEqual = Some (binary.Relational relation.NotEqual, 8)
sign_between sign.Less = Some (binary.Relational relation.Less, 8)
sign_between sign.LessOrEqual = Some (binary.Relational relation.LessOrEqual, 8)
sign_between sign.Greater = Some (binary.Relational relation.Greater, 8)
sign_between sign.GreaterOrEqual = Some (binary.Relational relation.GreaterOrEqual, 8)
sign_between _ = None

abbrev pub word_between : Keyword → Option (BinaryOperator × ℕ)
word_between word.Mod = Some (binary.Mod, 4)
word_between word.Is = Some (binary.Is, 8)
word_between word.IsNot = Some (binary.IsNot, 8)
word_between word.And = Some (binary.And, 10)
word_between word.AndAlso = Some (binary.AndAlso, 10)
word_between word.Or = Some (binary.Or, 11)
word_between word.OrElse = Some (binary.OrElse, 11)
word_between word.Xor = Some (binary.Xor, 12)
word_between _ = None

-- the operator that a token is between its operands, and its strength
abbrev pub operator_of : Token → Option (BinaryOperator × ℕ)
operator_of (token.Symbol s) = sign_between s
operator_of (token.Keyword w) = word_between w
operator_of _ = None

-- RESERVED WORDS THAT THE GRAMMAR DOESN'T USE (2.3). After a dot, and between brackets, the token is a name.

abbrev pub word_unused : Keyword → Bool
word_unused word.Alias = true
word_unused word.CDate = true
word_unused word.CDbl = true
word_unused word.CDec = true
word_unused word.CObj = true
word_unused word.CSng = true
word_unused word.Date = true
word_unused word.Decimal = true
word_unused word.Declare = true
word_unused word.Default = true
word_unused word.Double = true
word_unused word.EndIf = true
word_unused word.Enum = true
word_unused word.Erase = true
word_unused word.GetType = true
word_unused word.GetXmlNamespace = true
word_unused word.Global = true
word_unused word.GoSub = true
word_unused word.Handles = true
word_unused word.Let = true
word_unused word.Lib = true
word_unused word.Like = true
word_unused word.MyClass = true
word_unused word.Namespace = true
word_unused word.Narrowing = true
word_unused word.Operator = true
word_unused word.Optional = true
word_unused word.ParamArray = true
word_unused word.Partial = true
word_unused word.Single = true
word_unused word.Stop = true
word_unused word.Structure = true
word_unused word.Variant = true
word_unused word.Wend = true
word_unused word.Widening = true
word_unused word.WithEvents = true
word_unused _ = false

abbrev pub is_unused : Token → Bool
is_unused (token.Keyword w) = word_unused w
is_unused _ = false

abbrev pub has_unused : List Token → Bool
has_unused [] = false
has_unused (t ∷ ts) = is_unused t || has_unused ts
