-- What an integer literal stands for (Visual Basic Language Specification 11.0, 2.4.2).
use Rattle.vb_syntax.specs.declared.tokens.{IntegerLiteral.IntegerLiteral, IntegerValue.IntegerValue}

-- the same value of the same type, however it is written
abbrev pub integer : IntegerLiteral → IntegerValue
integer l = record { kind = l.kind; value = l.value }
