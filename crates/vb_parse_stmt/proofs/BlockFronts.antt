-- What stands behind the word that a line of a block begins with.
use Rattle.std.proofs.Common.{List, drop, Option, sym, ap, subst}
use Rattle.vb_syntax.specs.declared.{keyword.Keyword.Keyword, tokens.Token.Token, expression.Expr.Expr, statement.LoopCondition.LoopCondition, item.Item.Item, words.Context.Context}
use Rattle.vb_syntax.specs.declared.item.Item.TheVariants as item
use Rattle.vb_parse_stmt.specs.declared.front.Front.TheVariants as front
use Rattle.vb_parse_decl.specs.Parts.{IsExpression, IsOptional, Begins}
use Rattle.vb_parse_stmt.specs.{Statements.{IsTest, IsCondition}, Reading.IsItemFrom}

pub behind_word : (w : Keyword) (P : List Token → Type 0) (ts : List Token) → Begins w P ts → P (drop 1 ts)
behind_word w P ts (us, split, p) = subst P (sym (ap (λ (vs : List Token). drop 1 vs) split)) p

-- A WORD AND AN EXPRESSION

pub no_while : (c : Context) (ts : List Token) → ((x : Expr) → IsExpression (drop 1 ts) x → ⊥) → (x : Item) → IsItemFrom c front.While ts x → ⊥
no_while c ts none (item.While x) (e, p) = none x (behind_word _ (λ us. IsExpression us x) ts p)
no_while c ts none x (e, p) = absurd cc

pub no_sync_lock : (c : Context) (ts : List Token) → ((x : Expr) → IsExpression (drop 1 ts) x → ⊥) → (x : Item) → IsItemFrom c front.SyncLock ts x → ⊥
no_sync_lock c ts none (item.SyncLock x) (e, p) = none x (behind_word _ (λ us. IsExpression us x) ts p)
no_sync_lock c ts none x (e, p) = absurd cc

pub no_with : (c : Context) (ts : List Token) → ((x : Expr) → IsExpression (drop 1 ts) x → ⊥) → (x : Item) → IsItemFrom c front.With ts x → ⊥
no_with c ts none (item.With x) (e, p) = none x (behind_word _ (λ us. IsExpression us x) ts p)
no_with c ts none x (e, p) = absurd cc

-- A WORD AND A CONDITION OR A TEST

pub no_do : (c : Context) (ts : List Token) → ((x : Option LoopCondition) → IsOptional (IsCondition c.words) (drop 1 ts) x → ⊥)
    → (x : Item) → IsItemFrom c front.Do ts x → ⊥
no_do c ts none (item.Do x) (e, p) = none x (behind_word _ (λ us. IsOptional (IsCondition c.words) us x) ts p)
no_do c ts none x (e, p) = absurd cc

pub no_loop : (c : Context) (ts : List Token) → ((x : Option LoopCondition) → IsOptional (IsCondition c.words) (drop 1 ts) x → ⊥)
    → (x : Item) → IsItemFrom c front.Loop ts x → ⊥
no_loop c ts none (item.Loop x) (e, p) = none x (behind_word _ (λ us. IsOptional (IsCondition c.words) us x) ts p)
no_loop c ts none x (e, p) = absurd cc

pub no_else_if : (c : Context) (ts : List Token) → ((x : Expr) → IsTest (drop 1 ts) x → ⊥) → (x : Item) → IsItemFrom c front.ElseIf ts x → ⊥
no_else_if c ts none (item.ElseIf x) (e, p) = none x (behind_word _ (λ us. IsTest us x) ts p)
no_else_if c ts none x (e, p) = absurd cc
