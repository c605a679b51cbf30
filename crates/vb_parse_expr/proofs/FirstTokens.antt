-- What a look at the first token says of the tokens.
use Rattle.std.proofs.Common.{◌≡◌, ℕ, false, List, [], ◌∷◌, Option, Some, None, is_some, refl, ap, ◌∙◌}
use Rattle.vb_text.specs.declared.names.Name.{Name}
use Rattle.vb_syntax.specs.declared.keyword.Keyword.TheVariants as word
use Rattle.vb_syntax.specs.declared.symbol.Symbol.TheVariants as sign
use Rattle.vb_syntax.specs.declared.{tokens.Token.Token, expression.BinaryOperator.BinaryOperator}
use Rattle.vb_syntax.specs.declared.tokens.Token.TheVariants as token
use Rattle.vb_parse_expr.specs.{Words.{opening, closing, opening_brace, closing_brace, comma, dot, name_of, operator_of}, Fronts.{goes_on_primary, goes_on_operator, goes_on}, Reading.{after_opening, after_closing, after_opening_brace, after_closing_brace, after_comma, after_dot, after_is}, TypeReading.{name_at, read_name}, MachineReading.{operator_at, operator_first}}

-- A TOKEN THAT STANDS FIRST

pub opening_first : (ts rest : List Token) → after_opening ts ≡ Some rest → ts ≡ opening ∷ rest
unfolding after_opening
opening_first [] rest e = cc
opening_first (token.Symbol sign.OpenParenthesis ∷ ts) rest e = cc
opening_first (t ∷ ts) rest e = cc

pub closing_first : (ts rest : List Token) → after_closing ts ≡ Some rest → ts ≡ closing ∷ rest
unfolding after_closing
closing_first [] rest e = cc
closing_first (token.Symbol sign.CloseParenthesis ∷ ts) rest e = cc
closing_first (t ∷ ts) rest e = cc

pub opening_brace_first : (ts rest : List Token) → after_opening_brace ts ≡ Some rest → ts ≡ opening_brace ∷ rest
unfolding after_opening_brace
opening_brace_first [] rest e = cc
opening_brace_first (token.Symbol sign.OpenBrace ∷ ts) rest e = cc
opening_brace_first (t ∷ ts) rest e = cc

pub closing_brace_first : (ts rest : List Token) → after_closing_brace ts ≡ Some rest → ts ≡ closing_brace ∷ rest
unfolding after_closing_brace
closing_brace_first [] rest e = cc
closing_brace_first (token.Symbol sign.CloseBrace ∷ ts) rest e = cc
closing_brace_first (t ∷ ts) rest e = cc

pub comma_first : (ts rest : List Token) → after_comma ts ≡ Some rest → ts ≡ comma ∷ rest
unfolding after_comma
comma_first [] rest e = cc
comma_first (token.Symbol sign.Comma ∷ ts) rest e = cc
comma_first (t ∷ ts) rest e = cc

pub dot_first : (ts rest : List Token) → after_dot ts ≡ Some rest → ts ≡ dot ∷ rest
unfolding after_dot
dot_first [] rest e = cc
dot_first (token.Symbol sign.Dot ∷ ts) rest e = cc
dot_first (t ∷ ts) rest e = cc

pub is_first : (ts rest : List Token) → after_is ts ≡ Some rest → ts ≡ token.Keyword word.Is ∷ rest
unfolding after_is
is_first [] rest e = cc
is_first (token.Keyword word.Is ∷ ts) rest e = cc
is_first (t ∷ ts) rest e = cc

-- A NAME OR AN OPERATOR THAT STANDS FIRST

pub record NameFirst (ts : List Token) (n : Name) (rest : List Token) : Type 0 where
  pub first : Token
  pub split : ts ≡ first ∷ rest
  pub is : name_of first ≡ Some n

name_first_at : (t : Token) (ts rest : List Token) (n : Name) (o : Option Name) → name_of t ≡ o → name_at ts o ≡ Some (n, rest)
    → NameFirst (t ∷ ts) n rest
name_first_at t ts rest n None was e = cc
name_first_at t ts rest n (Some m) was e =
    let same : (m, ts) ≡ (n, rest) = cc in
    record {
      first = t;
      split = ap (λ (p : Name × List Token). t ∷ p.1) same;
      is = was ∙ ap (λ (p : Name × List Token). Some p.0) same;
    }

pub name_first : (ts rest : List Token) (n : Name) → read_name ts ≡ Some (n, rest) → NameFirst ts n rest
unfolding read_name
name_first [] rest n e = cc
name_first (t ∷ ts) rest n e = name_first_at t ts rest n (name_of t) refl e

pub record OperatorFirst (ts : List Token) (p : BinaryOperator × ℕ × List Token) : Type 0 where
  pub first : Token
  pub split : ts ≡ first ∷ p.2
  pub is : operator_of first ≡ Some (p.0, p.1)

operator_first_at : (t : Token) (ts : List Token) (p : BinaryOperator × ℕ × List Token) (o : Option (BinaryOperator × ℕ))
    → operator_of t ≡ o
    → operator_at ts o ≡ Some p → OperatorFirst (t ∷ ts) p
operator_first_at t ts p None was e = cc
operator_first_at t ts p (Some q) was e =
    let same : ◌≡◌ {A = BinaryOperator × ℕ × List Token} (q.0, q.1, ts) p = cc in
    record {
      first = t;
      split = ap (λ (r : BinaryOperator × ℕ × List Token). t ∷ r.2) same;
      is = was ∙ ap (λ (r : BinaryOperator × ℕ × List Token). Some (r.0, r.1)) same;
    }

pub operator_found : (ts : List Token) (p : BinaryOperator × ℕ × List Token) → operator_first ts ≡ Some p → OperatorFirst ts p
unfolding operator_first
operator_found [] p e = cc
operator_found (t ∷ ts) p e = operator_first_at t ts p (operator_of t) refl e

-- NOTHING GOES ON

no_operator_at : (ts : List Token) (o : Option (BinaryOperator × ℕ)) → operator_at ts o ≡ None → is_some o ≡ false
no_operator_at ts None e = refl
no_operator_at ts (Some q) e = cc

pub no_operator : (ts : List Token) → operator_first ts ≡ None → goes_on_operator ts ≡ false
unfolding operator_first
no_operator [] e = refl
no_operator (t ∷ ts) e = no_operator_at ts (operator_of t) e

pub over_primary : (ts : List Token) → after_dot ts ≡ None → after_opening ts ≡ None → after_opening_brace ts ≡ None
    → goes_on_primary ts ≡ false
unfolding after_dot after_opening after_opening_brace
over_primary [] e f g = refl
over_primary (token.Symbol sign.Dot ∷ ts) e f g = cc
over_primary (token.Symbol sign.OpenParenthesis ∷ ts) e f g = cc
over_primary (token.Symbol sign.OpenBrace ∷ ts) e f g = cc
over_primary (t ∷ ts) e f g = refl

pub over_both : (ts : List Token) → goes_on_primary ts ≡ false → goes_on_operator ts ≡ false → goes_on ts ≡ false
over_both ts e f = rw (e, f)
