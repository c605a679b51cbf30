-- What a step of the reading does where an operand is wanted, for each token that one begins with.
use Rattle.std.proofs.Common.{◌≡◌, ℕ, true, false, List, [], ◌∷◌, ◌++◌, Some, None, if◌then◌else◌, refl, ap, ◌∙◌}
use Rattle.vb_text.specs.declared.names.Name.{Name}
use Rattle.vb_syntax.specs.declared.{keyword.Keyword.Keyword, symbol.Symbol.Symbol, tokens.Token.Token, types.{PrimitiveTypeName.PrimitiveTypeName, BuiltInTypeName.BuiltInTypeName, SimpleTypeName.SimpleTypeName, TypeName.TypeName}, expression.{UnaryOperator.UnaryOperator, CastOperator.CastOperator, Expr.Expr}}
use Rattle.vb_syntax.specs.declared.keyword.Keyword.TheVariants as word
use Rattle.vb_syntax.specs.declared.tokens.Token.TheVariants as token
use Rattle.vb_syntax.specs.declared.expression.Expr.TheVariants as expr
use Rattle.vb_parse_expr.specs.{declared.pending.{Pending.Pending, Goal.Goal}, Words.{opening, opening_brace, dot, name_of, word_type, type_of, word_alone, alone_of, word_cast, primitive_cast, word_cast_operator, cast_operator, prefix_of}, Reading.{after_opening, after_opening_brace, after_dot}, TypeReading.{and_then, name_at, read_name, read_type_arguments, read_simple_type}, MachineReading.{wants_primary, wants_element, elements, creation_at, creation, call_of, word_at, begin_word, begin_sign, named, begin, prefix_or_begin, want, step}}
use Rattle.vb_parse_expr.specs.declared.pending.Pending.TheVariants as wait
use Rattle.vb_parse_expr.specs.declared.machine.State.TheVariants as at

pub nothing_is_some : {A : Type 0} {x : A} (B : Type 0) → None ≡ Some x → B
nothing_is_some B e = absurd cc

pub same_some : {A B : Type 0} {x y : A} (f : A → B) → Some x ≡ Some y → f x ≡ f y
same_some f e = cc

module _ (goal : Goal) (ws : List Pending) where
  -- an expression of one token
  word_read : {x : Expr} (w : Keyword) (ts : List Token) → word_alone w ≡ Some x
      → step goal ws at.Want (token.Keyword w ∷ ts) ≡ Some (ws, at.Primary x, ts)
  unfolding step want begin after_opening_brace
  word_read word.True ts e = same_some (λ x. Some (ws, at.Primary x, ts)) e
  word_read word.False ts e = same_some (λ x. Some (ws, at.Primary x, ts)) e
  word_read word.Nothing ts e = same_some (λ x. Some (ws, at.Primary x, ts)) e
  word_read word.Me ts e = same_some (λ x. Some (ws, at.Primary x, ts)) e
  word_read word.MyBase ts e = same_some (λ x. Some (ws, at.Primary x, ts)) e
  word_read w ts e = nothing_is_some _ e

  pub alone_step : {x : Expr} (t : Token) (ts : List Token) → alone_of t ≡ Some x
      → step goal ws at.Want (t ∷ ts) ≡ Some (ws, at.Primary x, ts)
  unfolding step want begin after_opening_brace
  alone_step (token.Integer l) ts e = same_some (λ x. Some (ws, at.Primary x, ts)) e
  alone_step (token.Text l) ts e = same_some (λ x. Some (ws, at.Primary x, ts)) e
  alone_step (token.Char l) ts e = same_some (λ x. Some (ws, at.Primary x, ts)) e
  alone_step (token.Keyword w) ts e = word_read w ts e
  alone_step (token.Name n) ts e = nothing_is_some _ e
  alone_step (token.EscapedName n) ts e = nothing_is_some _ e
  alone_step (token.Symbol s) ts e = nothing_is_some _ e

  pub opening_step : (ts : List Token) → step goal ws at.Want (opening ∷ ts) ≡ Some (ws ++ wait.Parenthesis ∷ [], at.Want, ts)
  unfolding step want begin begin_sign after_opening_brace
  opening_step ts = refl

  -- a name
  named_step : (n m : Name) (ts rest : List Token) (args : List TypeName) → Some n ≡ Some m → read_type_arguments ts ≡ Some (args, rest)
      → named ws n ts ≡ Some (ws, at.Primary (expr.SimpleName m args), rest)
  named_step n m ts rest args e read =
      ap (λ r. and_then r (λ args rest. Some (ws, at.Primary (expr.SimpleName n args), rest))) read
      ∙ same_some (λ n. Some (ws, at.Primary (expr.SimpleName n args), rest)) e

  pub name_step : {n : Name} {args : List TypeName} {rest : List Token} (t : Token) (ts : List Token) → name_of t ≡ Some n
      → read_type_arguments ts ≡ Some (args, rest) → step goal ws at.Want (t ∷ ts) ≡ Some (ws, at.Primary (expr.SimpleName n args), rest)
  unfolding step want begin after_opening_brace
  name_step {n = n} {args = args} {rest = rest} (token.Name m) ts e read = named_step m n ts rest args e read
  name_step {n = n} {args = args} {rest = rest} (token.EscapedName m) ts e read = named_step m n ts rest args e read
  name_step (token.Integer l) ts e read = nothing_is_some _ e
  name_step (token.Text l) ts e read = nothing_is_some _ e
  name_step (token.Char l) ts e read = nothing_is_some _ e
  name_step (token.Keyword w) ts e read = nothing_is_some _ e
  name_step (token.Symbol s) ts e read = nothing_is_some _ e

  pub address_step : (ts : List Token) → step goal ws at.Want (token.Keyword word.AddressOf ∷ ts) ≡ Some (ws ++ wait.AddressOf ∷ [], at.Want, ts)
  unfolding step want begin after_opening_brace
  address_step ts = refl

  pub test_step : (ts : List Token) → step goal ws at.Want (token.Keyword word.TypeOf ∷ ts) ≡ Some (ws ++ wait.TypeOf ∷ [], at.Want, ts)
  unfolding step want begin after_opening_brace
  test_step ts = refl

  pub member_step : {n : Name} (t : Token) (ts : List Token) → name_of t ≡ Some n
      → step goal ws at.Want (dot ∷ t ∷ ts) ≡ Some (ws, at.Primary (expr.WithMemberAccess n), ts)
  unfolding step want begin begin_sign after_opening_brace read_name
  member_step t ts e = ap (λ n. and_then (name_at ts n) (λ n rest. Some (ws, at.Primary (expr.WithMemberAccess n), rest))) e

  pub new_step : {a : SimpleTypeName} {rest : List Token} (ts : List Token) → read_simple_type ts ≡ Some (a, rest)
      → step goal ws at.Want (token.Keyword word.New ∷ ts) ≡ creation_at ws a rest (after_opening rest)
  unfolding step want begin after_opening_brace creation
  new_step ts read = ap (λ r. and_then r (λ a rest. creation_at ws a rest (after_opening rest))) read

  -- an operator before its operand
  pub prefix_step : {o : UnaryOperator} {s : ℕ} (t : Token) (ts : List Token) → prefix_of t ≡ Some (o, s) → wants_primary goal ws ≡ false
      → step goal ws at.Want (t ∷ ts) ≡ Some (ws ++ wait.Before o s ∷ [], at.Want, ts)
  unfolding step want
  prefix_step {o = o} {s = s} t ts e stands =
      ap (prefix_or_begin goal ws t ts) e
      ∙ ap (λ b. if b then None else Some (ws ++ wait.Before o s ∷ [], at.Want, ts)) stands

  pub brace_step : (ts : List Token) → wants_element goal ws ≡ true → step goal ws at.Want (opening_brace ∷ ts) ≡ elements ws ts
  unfolding step want after_opening_brace
  brace_step ts stands = ap (λ b. if b then elements ws ts else None) stands

  -- words with a call behind them, and types that have a word
  type_begins : {b : BuiltInTypeName} (w : Keyword) (ts : List Token) → word_type w ≡ Some b
      → step goal ws at.Want (token.Keyword w ∷ ts) ≡ begin_word ws (token.Keyword w) ts
  unfolding step want begin after_opening_brace
  type_begins word.True ts e = nothing_is_some _ e
  type_begins word.False ts e = nothing_is_some _ e
  type_begins word.Nothing ts e = nothing_is_some _ e
  type_begins word.Me ts e = nothing_is_some _ e
  type_begins word.MyBase ts e = nothing_is_some _ e
  type_begins word.AddressOf ts e = nothing_is_some _ e
  type_begins word.TypeOf ts e = nothing_is_some _ e
  type_begins word.New ts e = nothing_is_some _ e
  type_begins word.Not ts e = nothing_is_some _ e
  type_begins w ts e = refl

  member_of : {b : BuiltInTypeName} {n : Name} (t u : Token) (ts : List Token) → type_of t ≡ Some b → name_of u ≡ Some n
      → begin_word ws t (dot ∷ u ∷ ts) ≡ Some (ws, at.Primary (expr.BuiltInMemberAccess b n), ts)
  unfolding begin_word after_dot read_name
  member_of {b = b} t u ts e is =
      ap (word_at ws t (dot ∷ u ∷ ts)) e
      ∙ ap (λ n. and_then (name_at ts n) (λ n rest. Some (ws, at.Primary (expr.BuiltInMemberAccess b n), rest))) is

  pub type_member_step : {b : BuiltInTypeName} {n : Name} (t u : Token) (ts : List Token) → type_of t ≡ Some b → name_of u ≡ Some n
      → step goal ws at.Want (t ∷ dot ∷ u ∷ ts) ≡ Some (ws, at.Primary (expr.BuiltInMemberAccess b n), ts)
  type_member_step (token.Keyword w) u ts e is = type_begins w (dot ∷ u ∷ ts) e ∙ member_of (token.Keyword w) u ts e is
  type_member_step (token.Name n) u ts e is = nothing_is_some _ e
  type_member_step (token.EscapedName n) u ts e is = nothing_is_some _ e
  type_member_step (token.Integer l) u ts e is = nothing_is_some _ e
  type_member_step (token.Text l) u ts e is = nothing_is_some _ e
  type_member_step (token.Char l) u ts e is = nothing_is_some _ e
  type_member_step (token.Symbol s) u ts e is = nothing_is_some _ e

  cast_begins : {a : PrimitiveTypeName} (w : Keyword) (ts : List Token) → word_cast w ≡ Some a
      → step goal ws at.Want (token.Keyword w ∷ opening ∷ ts) ≡ Some (ws ++ wait.Conversion a ∷ [], at.Want, ts)
  unfolding step want begin after_opening_brace begin_word after_opening call_of
  cast_begins word.CBool ts e = same_some (λ a. Some (ws ++ wait.Conversion a ∷ [], at.Want, ts)) e
  cast_begins word.CByte ts e = same_some (λ a. Some (ws ++ wait.Conversion a ∷ [], at.Want, ts)) e
  cast_begins word.CChar ts e = same_some (λ a. Some (ws ++ wait.Conversion a ∷ [], at.Want, ts)) e
  cast_begins word.CInt ts e = same_some (λ a. Some (ws ++ wait.Conversion a ∷ [], at.Want, ts)) e
  cast_begins word.CLng ts e = same_some (λ a. Some (ws ++ wait.Conversion a ∷ [], at.Want, ts)) e
  cast_begins word.CSByte ts e = same_some (λ a. Some (ws ++ wait.Conversion a ∷ [], at.Want, ts)) e
  cast_begins word.CShort ts e = same_some (λ a. Some (ws ++ wait.Conversion a ∷ [], at.Want, ts)) e
  cast_begins word.CStr ts e = same_some (λ a. Some (ws ++ wait.Conversion a ∷ [], at.Want, ts)) e
  cast_begins word.CUInt ts e = same_some (λ a. Some (ws ++ wait.Conversion a ∷ [], at.Want, ts)) e
  cast_begins word.CULng ts e = same_some (λ a. Some (ws ++ wait.Conversion a ∷ [], at.Want, ts)) e
  cast_begins word.CUShort ts e = same_some (λ a. Some (ws ++ wait.Conversion a ∷ [], at.Want, ts)) e
  cast_begins w ts e = nothing_is_some _ e

  pub conversion_step : {a : PrimitiveTypeName} (t : Token) (ts : List Token) → primitive_cast t ≡ Some a
      → step goal ws at.Want (t ∷ opening ∷ ts) ≡ Some (ws ++ wait.Conversion a ∷ [], at.Want, ts)
  conversion_step (token.Keyword w) ts e = cast_begins w ts e
  conversion_step (token.Name n) ts e = nothing_is_some _ e
  conversion_step (token.EscapedName n) ts e = nothing_is_some _ e
  conversion_step (token.Integer l) ts e = nothing_is_some _ e
  conversion_step (token.Text l) ts e = nothing_is_some _ e
  conversion_step (token.Char l) ts e = nothing_is_some _ e
  conversion_step (token.Symbol s) ts e = nothing_is_some _ e

  operator_begins : {o : CastOperator} (w : Keyword) (ts : List Token) → word_cast_operator w ≡ Some o
      → step goal ws at.Want (token.Keyword w ∷ opening ∷ ts) ≡ Some (ws ++ wait.Cast o ∷ [], at.Want, ts)
  unfolding step want begin after_opening_brace begin_word after_opening call_of
  operator_begins word.CType ts e = same_some (λ o. Some (ws ++ wait.Cast o ∷ [], at.Want, ts)) e
  operator_begins word.DirectCast ts e = same_some (λ o. Some (ws ++ wait.Cast o ∷ [], at.Want, ts)) e
  operator_begins word.TryCast ts e = same_some (λ o. Some (ws ++ wait.Cast o ∷ [], at.Want, ts)) e
  operator_begins w ts e = nothing_is_some _ e

  pub cast_step : {o : CastOperator} (t : Token) (ts : List Token) → cast_operator t ≡ Some o
      → step goal ws at.Want (t ∷ opening ∷ ts) ≡ Some (ws ++ wait.Cast o ∷ [], at.Want, ts)
  cast_step (token.Keyword w) ts e = operator_begins w ts e
  cast_step (token.Name n) ts e = nothing_is_some _ e
  cast_step (token.EscapedName n) ts e = nothing_is_some _ e
  cast_step (token.Integer l) ts e = nothing_is_some _ e
  cast_step (token.Text l) ts e = nothing_is_some _ e
  cast_step (token.Char l) ts e = nothing_is_some _ e
  cast_step (token.Symbol s) ts e = nothing_is_some _ e

  pub if_step : (ts : List Token) → step goal ws at.Want (token.Keyword word.If ∷ opening ∷ ts) ≡ Some (ws ++ wait.Test ∷ [], at.Want, ts)
  unfolding step want begin after_opening_brace begin_word after_opening call_of
  if_step ts = refl
