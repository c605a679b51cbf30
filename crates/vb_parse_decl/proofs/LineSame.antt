-- A line declares one thing at most.
use Rattle.std.proofs.Common.{◌≡◌, ℕ, ◌≤◌, Bool, true, false, List, length, drop, Option, Some, None, refl, sym, ap, ◌∙◌, arith, length-drop}
use Rattle.vb_syntax.specs.declared.{tokens.Token.Token, declarator.Declarator.Declarator, declaration.Modifier.Modifier, item.DeclarationLine.DeclarationLine, words.ContextualWords.ContextualWords}
use Rattle.vb_syntax.specs.declared.item.DeclarationLine.TheVariants as line
use Rattle.vb_parse_expr.specs.TypeReading.{most_tokens}
use Rattle.vb_parse_decl.specs.{Parts.AreListed, Declarators.IsDeclarator, DeclarationLines.IsDeclarationLine, LineReading.{variables_at, begins_constants}}
use Rattle.vb_parse_decl.proofs.{DeclaredDeclarators.{Readings, declarators_same}, Readers.some_same, LinesRead.header_read, LineForms.{ReadsAs, as_constants, as_variables, as_header, line_read, read_as}}

-- both are read with these modifiers, and are spelled behind them
module _ (laws : Readings) (words : ContextualWords) (us : List Token) (ms : List Modifier) (x y : DeclarationLine) (few : length us ≤ most_tokens)
    (p : ReadsAs words ms us x) (q : ReadsAs words ms us y) where
  listed_same : (k : ℕ) (ds es : List Declarator) → AreListed IsDeclarator (drop k us) ds → AreListed IsDeclarator (drop k us) es → ds ≡ es
  listed_same k ds es a b = declarators_same laws (drop k us) ds es (omega (arith, few, length-drop k us)) a b

  as_constant : begins_constants us ≡ true → x ≡ y
  as_constant e =
      let a = as_constants words x ms us p.modifiers p.behind e in
      let b = as_constants words y ms us q.modifiers q.behind e in
      a.1 ∙ ap (line.Constants ms) (listed_same 1 a.0 b.0 a.3 b.3) ∙ sym b.1

  as_variable : (k : ℕ) → variables_at us ≡ Some k → x ≡ y
  as_variable k e =
      let a = as_variables words x ms us k p.modifiers p.behind e in
      let b = as_variables words y ms us k q.modifiers q.behind e in
      a.1 ∙ ap (line.Variables ms) (listed_same k a.0 b.0 a.3 b.3) ∙ sym b.1

  as_headers : begins_constants us ≡ false → variables_at us ≡ None → x ≡ y
  as_headers e v =
      let a = header_read words x ms us (as_header words x us p.behind e v) few p.modifiers p.behind in
      let b = header_read words y ms us (as_header words y us q.behind e v) few q.modifiers q.behind in
      some_same x y (sym a ∙ b)

  by_form : (b : Bool) (o : Option ℕ) → begins_constants us ≡ b → variables_at us ≡ o → x ≡ y
  by_form true o e v = as_constant e
  by_form false (Some k) e v = as_variable k v
  by_form false None e v = as_headers e v

pub line_same : Readings → (words : ContextualWords) (ts : List Token) (x y : DeclarationLine) → length ts ≤ most_tokens → IsDeclarationLine words ts x → IsDeclarationLine words ts y
    → x ≡ y
line_same laws words ts x y few (all, are, p) q =
    let r = line_read words x all ts p in
    let a : ReadsAs words all r.us x = record { modifiers = are; behind = r.behind } in
    let b = read_as words ts r.us all y r.reads q in
    by_form laws words r.us all x y (omega (arith, few, r.fewer)) a b (begins_constants r.us) (variables_at r.us) refl refl
