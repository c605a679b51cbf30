-- Which tokens spell which item of a line, and what is said where there is none.
use Rattle.std.specs.Prelude.{◌≡◌, ◌⊎◌, true, List, [], ◌∷◌, Some, None}
use Rattle.vb_syntax.specs.declared.{keyword.Keyword.Keyword, tokens.Token.Token, item.{BlockWord.BlockWord, DeclarationLine.DeclarationLine, Item.Item}, words.{Context.Context, ContextualWords.ContextualWords}}
use Rattle.vb_syntax.specs.declared.keyword.Keyword.TheVariants as word
use Rattle.vb_syntax.specs.declared.tokens.Token.TheVariants as token
use Rattle.vb_syntax.specs.declared.item.BlockWord.TheVariants as block
use Rattle.vb_syntax.specs.declared.item.Item.TheVariants as item
use Rattle.vb_parse_expr.specs.{Words.comma, Types.SpellsNames}
use Rattle.vb_parse_decl.specs.{Parts.{reserved, equal, IsExpression, IsPrimary, IsNamed, After, Begins, Names, IsOptional, IsParted, AreListed}, Declarators.{IsBound, IsDeclarator}, DeclarationLines.IsDeclarationLine}
use Rattle.vb_parse_stmt.specs.Statements.{IsSetting, local_word, compound_sign, exit_word, continue_word, IsAction, IsPlace, IsRaised, IsTest, IsCondition, IsVariable, IsRange, IsCaseItem, IsCaught, IsResource}

abbrev pub block_word : BlockWord → Keyword
block_word block.Module = word.Module
block_word block.Class = word.Class
block_word block.Interface = word.Interface
block_word block.Sub = word.Sub
block_word block.Function = word.Function
block_word block.Property = word.Property
block_word block.Get = word.Get
block_word block.Set = word.Set
block_word block.Event = word.Event
block_word block.AddHandler = word.AddHandler
block_word block.RemoveHandler = word.RemoveHandler
block_word block.RaiseEvent = word.RaiseEvent
block_word block.If = word.If
block_word block.Select = word.Select
block_word block.SyncLock = word.SyncLock
block_word block.Try = word.Try
block_word block.Using = word.Using
block_word block.While = word.While
block_word block.With = word.With

-- `Yield` stands first, where it is a word
abbrev pub BeginsYield : Context → List Token → Type 0
BeginsYield c ts = (c.in_iterator ≡ true) × ((us : List Token) × (ts ≡ token.Name c.words.yields ∷ us))

-- a reserved word alone
abbrev pub Alone : Keyword → List Token → Type 0
Alone w ts = ts ≡ reserved w ∷ []

-- The tokens spell the item, which is no line of declarations and no label (Visual Basic Language Specification 11.0, at each form).
abbrev pub IsOtherItem : Context → List Token → Item → Type 0
-- 6.2 and 6.3.2
IsOtherItem c ts (item.Option s) = Begins word.Option (λ us. IsSetting c.words us s) ts
IsOtherItem c ts (item.Imports spaces) = Begins word.Imports (λ us. AreListed SpellsNames us spaces) ts
-- 7, 9 and 10
IsOtherItem c ts (item.Declares d) = ⊥
IsOtherItem c ts (item.Label n) = ⊥
IsOtherItem c ts (item.End b) = ts ≡ reserved word.End ∷ reserved (block_word b) ∷ []
-- 10.2 and 10.12.1
IsOtherItem c ts (item.Declaration m ds) = Begins (local_word m) (λ us. AreListed IsDeclarator us ds) ts
IsOtherItem c ts (item.ReDim n x) = Begins word.ReDim (Names n (λ us. IsBound us x)) ts
-- 10.6 and 10.7
IsOtherItem c ts (item.Assignment x y) = (BeginsYield c ts → ⊥) × IsParted equal IsPrimary IsExpression ts x y
IsOtherItem c ts (item.CompoundAssignment o x y) = (BeginsYield c ts → ⊥) × IsParted (token.Symbol (compound_sign o)) IsPrimary IsExpression ts x y
IsOtherItem c ts (item.Invocation x) = ((BeginsYield c ts → ⊥) × IsPrimary ts x) ⊎ Begins word.Call (λ us. IsPrimary us x) ts
-- 10.10.1.3, 10.11 and 10.15
IsOtherItem c ts (item.Throw x) = Begins word.Throw (λ us. IsOptional IsExpression us x) ts
IsOtherItem c ts (item.Yield x) = (c.in_iterator ≡ true) × After (token.Name c.words.yields) (λ us. IsExpression us x) ts
IsOtherItem c ts (item.Return x) = Begins word.Return (λ us. IsOptional IsExpression us x) ts
IsOtherItem c ts (item.GoTo n) = Begins word.GoTo (IsNamed n) ts
IsOtherItem c ts (item.Exit k) = ts ≡ reserved word.Exit ∷ reserved (exit_word k) ∷ []
IsOtherItem c ts (item.Continue k) = ts ≡ reserved word.Continue ∷ reserved (continue_word k) ∷ []
-- 10.10.2
IsOtherItem c ts (item.OnError a) = Begins word.On (Begins word.Error (λ us. IsAction us a)) ts
IsOtherItem c ts (item.Resume p) = Begins word.Resume (λ us. IsPlace us p) ts
-- 10.5
IsOtherItem c ts (item.AddHandler x y) = Begins word.AddHandler (λ us. IsParted comma IsExpression IsExpression us x y) ts
IsOtherItem c ts (item.RemoveHandler x y) = Begins word.RemoveHandler (λ us. IsParted comma IsExpression IsExpression us x y) ts
IsOtherItem c ts (item.RaiseEvent n xs) = Begins word.RaiseEvent (λ us. IsRaised us n xs) ts
-- 10.8.1
IsOtherItem c ts (item.If x) = Begins word.If (λ us. IsTest us x) ts
IsOtherItem c ts (item.ElseIf x) = Begins word.ElseIf (λ us. IsTest us x) ts
IsOtherItem c ts item.Else = Alone word.Else ts
-- 10.9
IsOtherItem c ts (item.While x) = Begins word.While (λ us. IsExpression us x) ts
IsOtherItem c ts (item.Do t) = Begins word.Do (λ us. IsOptional (IsCondition c.words) us t) ts
IsOtherItem c ts (item.Loop t) = Begins word.Loop (λ us. IsOptional (IsCondition c.words) us t) ts
IsOtherItem c ts (item.For v a b s) = Begins word.For (λ us. IsParted equal IsVariable IsRange us v (a, (b, s))) ts
IsOtherItem c ts (item.ForEach v x) = Begins word.For (Begins word.Each (λ us. IsParted (reserved word.In) IsVariable IsExpression us v x)) ts
IsOtherItem c ts (item.Next None) = Alone word.Next ts
IsOtherItem c ts (item.Next (Some n)) = Begins word.Next (IsNamed n) ts
-- 10.8.2
IsOtherItem c ts (item.Select x) = Begins word.Select (λ us. IsExpression us x ⊎ Begins word.Case (λ vs. IsExpression vs x) us) ts
IsOtherItem c ts (item.Case cs) = Begins word.Case (λ us. AreListed IsCaseItem us cs) ts
IsOtherItem c ts item.CaseElse = ts ≡ reserved word.Case ∷ reserved word.Else ∷ []
-- 10.10.1
IsOtherItem c ts item.Try = Alone word.Try ts
IsOtherItem c ts (item.Catch v x) = Begins word.Catch (λ us. IsCaught us v x) ts
IsOtherItem c ts item.Finally = Alone word.Finally ts
-- 10.3, 10.4 and 10.13
IsOtherItem c ts (item.SyncLock x) = Begins word.SyncLock (λ us. IsExpression us x) ts
IsOtherItem c ts (item.With x) = Begins word.With (λ us. IsExpression us x) ts
IsOtherItem c ts (item.Using r) = Begins word.Using (λ us. IsResource us r) ts

-- ALL LINES

abbrev pub DeclaresNothing : ContextualWords → List Token → Type 0
DeclaresNothing words ts = (d : DeclarationLine) → IsDeclarationLine words ts d → ⊥

-- The tokens spell the item: a line of the declarations of types and members, or, where they are none, another item. A label is told by the
-- colon behind it, which is no part of an item.
abbrev pub IsItem : Context → List Token → Item → Type 0
IsItem c ts (item.Declares d) = IsDeclarationLine c.words ts d
IsItem c ts x = DeclaresNothing c.words ts × IsOtherItem c ts x
