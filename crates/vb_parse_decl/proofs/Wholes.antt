-- What all the tokens are stands at their front.
use Rattle.std.proofs.Common.{◌≡◌, Bool, true, false, List, [], length, refl, sym, ap, subst, arith}
use Rattle.std.proofs.Math.Seq.{take-length, drop-length}
use Rattle.vb_syntax.specs.declared.{tokens.Token.Token, types.TypeName.TypeName, expression.{Expr.Expr, VariableInitializer.VariableInitializer}}
use Rattle.vb_syntax.specs.declared.expression.VariableInitializer.TheVariants as init
use Rattle.vb_parse_expr.specs.{Types.{SpellsType, goes_on_type, IsTypeFront}, Expressions.{Spells, SpellsPrimary, SpellsInitializer}, Fronts.{goes_on, goes_on_primary, goes_on_initializer, IsFront, IsPrimaryFront, IsInitializerFront}}
use Rattle.vb_parse_decl.specs.Parts.{IsExpression, IsPrimary, IsType}

-- EXPRESSIONS

pub expression_front : (ts : List Token) (x : Expr) → IsExpression ts x → IsFront ts x (length ts)
expression_front ts x p = record {
  within = omega arith;
  strength = p.strength;
  weakest = p.weakest;
  spells = subst (λ (us : List Token). Spells p.strength p.weakest us x) (sym (take-length ts)) p.spells;
  over = ap goes_on (drop-length ts);
}

-- PRIMARIES

pub primary_front : (ts : List Token) (x : Expr) → IsPrimary ts x → IsPrimaryFront ts x (length ts)
primary_front ts x p = record {
  within = omega arith;
  edge = p.edge;
  spells = subst (λ (us : List Token). SpellsPrimary p.edge us x) (sym (take-length ts)) p.spells;
  over = ap goes_on_primary (drop-length ts);
}

-- FIRST VALUES

nothing_goes_on : (i : VariableInitializer) → goes_on_initializer i [] ≡ false
nothing_goes_on (init.Expression x) = refl
nothing_goes_on i = refl

pub initializer_front : (ts : List Token) (i : VariableInitializer) → SpellsInitializer ts i → IsInitializerFront ts i (length ts)
initializer_front ts i p = record {
  within = omega arith;
  spells = subst (λ (us : List Token). SpellsInitializer us i) (sym (take-length ts)) p;
  over = subst (λ (us : List Token). goes_on_initializer i us ≡ false) (sym (drop-length ts)) (nothing_goes_on i);
}

-- TYPES

type_over : (dotted opened : Bool) → goes_on_type dotted opened [] ≡ false
type_over true true = refl
type_over true false = refl
type_over false true = refl
type_over false false = refl

pub type_front : (ts : List Token) (a : TypeName) → IsType ts a → IsTypeFront ts a (length ts)
type_front ts a p = record {
  within = omega arith;
  dotted = p.dotted;
  opened = p.opened;
  spells = subst (λ (us : List Token). SpellsType p.dotted p.opened us a) (sym (take-length ts)) p.spells;
  over = subst (λ (us : List Token). goes_on_type p.dotted p.opened us ≡ false) (sym (drop-length ts)) (type_over p.dotted p.opened);
}
