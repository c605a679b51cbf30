-- What the reading of expressions finds is spelled at the front, and nothing goes on with it.
use Rattle.std.proofs.Common.{◌≡◌, ℕ, ◌≤◌, Bool, true, false, List, [], ◌∷◌, ◌++◌, length, Option, Some, None, refl, ap, sym, ◌∙◌, true≢false}
use Rattle.vb_syntax.specs.declared.{tokens.Token.Token, expression.{Expr.Expr, VariableInitializer.VariableInitializer}}
use Rattle.vb_syntax.specs.declared.expression.VariableInitializer.TheVariants as init
use Rattle.vb_parse_expr.specs.declared.pending.Goal.TheVariants as for
use Rattle.vb_parse_expr.specs.declared.machine.State.TheVariants as at
use Rattle.vb_parse_expr.specs.{Expressions.{Edge, Spells, SpellsPrimary, SpellsInitializer, expression, elements}, Fronts.{goes_on, goes_on_primary, goes_on_initializer}, MachineReading.run}
use Rattle.vb_parse_expr.proofs.{Waiting.{EndsWith, primary_ends, expression_ends, elements_end}, Kept.run_ended}

pub record FoundPrimary (ts : List Token) (x : Expr) (rest : List Token) : Type 0 where
  pub front : List Token
  pub edge : Edge
  pub split : ts ≡ front ++ rest
  pub spells : SpellsPrimary edge front x
  pub over : goes_on_primary rest ≡ false

pub record FoundExpression (ts : List Token) (x : Expr) (rest : List Token) : Type 0 where
  pub front : List Token
  pub strength : ℕ
  pub weakest : ℕ
  pub split : ts ≡ front ++ rest
  pub spells : Spells strength weakest front x
  pub over : goes_on rest ≡ false

pub record FoundInitializer (ts : List Token) (i : VariableInitializer) (rest : List Token) : Type 0 where
  pub front : List Token
  pub split : ts ≡ front ++ rest
  pub spells : SpellsInitializer front i
  pub over : goes_on_initializer i rest ≡ false

primary_ended : {ts front rest : List Token} {i : VariableInitializer} → ts ≡ front ++ rest → EndsWith for.Primary i front rest
    → (x : Expr) × (i ≡ init.Expression x) × FoundPrimary ts x rest
primary_ended split (primary_ends {edge} {front} {x} s over) = (x, refl, record { front = front; edge = edge; split = split; spells = s; over = over })
primary_ended split (expression_ends _ other s over) = absurd (true≢false other)

expression_ended : {ts front rest : List Token} {i : VariableInitializer} → ts ≡ front ++ rest → EndsWith for.Expression i front rest
    → (x : Expr) × (i ≡ init.Expression x) × FoundExpression ts x rest
expression_ended split (expression_ends {h} {w} {front} {x} _ other s over) =
    (x, refl, record { front = front; strength = h; weakest = w; split = split; spells = s; over = over })

initializer_ended : {ts front rest : List Token} {i : VariableInitializer} → ts ≡ front ++ rest → EndsWith for.Initializer i front rest
    → FoundInitializer ts i rest
initializer_ended split (expression_ends {front} _ other s over) = record { front = front; split = split; spells = expression s; over = over }
initializer_ended split (elements_end {front} s) = record { front = front; split = split; spells = elements s; over = refl }

pub primary_found : {ts rest : List Token} {i : VariableInitializer} (n : ℕ) → run for.Primary n [] at.Want ts ≡ Some (i, rest)
    → (x : Expr) × (i ≡ init.Expression x) × FoundPrimary ts x rest
primary_found {ts} {rest} {i} n e = let r = run_ended for.Primary n ts rest i e in primary_ended r.split r.ends

pub expression_found : {ts rest : List Token} {i : VariableInitializer} (n : ℕ) → run for.Expression n [] at.Want ts ≡ Some (i, rest)
    → (x : Expr) × (i ≡ init.Expression x) × FoundExpression ts x rest
expression_found {ts} {rest} {i} n e = let r = run_ended for.Expression n ts rest i e in expression_ended r.split r.ends

pub initializer_found : {ts rest : List Token} {i : VariableInitializer} (n : ℕ) → run for.Initializer n [] at.Want ts ≡ Some (i, rest)
    → FoundInitializer ts i rest
initializer_found {ts} {rest} {i} n e = let r = run_ended for.Initializer n ts rest i e in initializer_ended r.split r.ends
