-- What is told of a line, by what is read behind its modifiers.
use Rattle.std.proofs.Common.{◌≡◌, ◌⊎◌, inl, inr, ℕ, ◌+◌, ◌-◌, ◌≤◌, Bool, true, false, List, [], ◌∷◌, length, drop, Some, None, refl, sym, ap, subst, ◌∙◌, arith}
use Rattle.std.specs.Prelude.{if◌then◌else◌}
use Rattle.std.proofs.lemmas.List.{drop-drop}
use Rattle.vb_syntax.specs.declared.keyword.Keyword.TheVariants as word
use Rattle.vb_syntax.specs.declared.{tokens.Token.Token, declarator.Declarator.Declarator, declaration.Modifier.Modifier, item.DeclarationLine.DeclarationLine, words.ContextualWords.ContextualWords}
use Rattle.vb_syntax.specs.declared.tokens.Token.TheVariants as token
use Rattle.vb_syntax.specs.declared.item.DeclarationLine.TheVariants as line
use Rattle.vb_parse_expr.specs.TypeReading.{most_tokens}
use Rattle.vb_parse_decl.specs.{Parts.{reserved, AreListed}, Declarators.IsDeclarator, DeclarationLines.{Behind, IsDeclarationLine}, ModifierReading.read_modifiers, LineReading.{begins_member, variables_at, begins_constants, read_header, IsAfterModifiers}}
use Rattle.vb_parse_decl.proofs.{LinesFound.header_stands, LinesRead.header_read, LineForms.{as_constants, as_variables, as_header, read_as, line_found, place_behind}}

-- WHAT STANDS BEFORE DECLARATORS

const_first : (us : List Token) → begins_constants us ≡ true → us ≡ reserved word.Const ∷ drop 1 us
const_first (token.Keyword word.Const ∷ us) e = refl
const_first us e = absurd cc

abbrev pub Before : List Token → ℕ → Type 0
Before us k = (k ≡ 0) ⊎ ((k ≡ 1) × (us ≡ reserved word.Dim ∷ drop 1 us))

name_before : (b : Bool) (us : List Token) (k : ℕ) → (if b then None else Some 0) ≡ Some k → Before us k
name_before true us k e = absurd cc
name_before false us k e = let same : 0 ≡ k = cc in inl (sym same)

variables_before : (us : List Token) (k : ℕ) → variables_at us ≡ Some k → Before us k
variables_before (token.Keyword word.Dim ∷ us) k e = let same : 1 ≡ k = cc in inr (sym same, refl)
variables_before (token.Name n ∷ us) k e = name_before (begins_member us) (token.Name n ∷ us) k e
variables_before (token.EscapedName n ∷ us) k e = let same : 0 ≡ k = cc in inl (sym same)
variables_before us k e = absurd cc

before_within : (us : List Token) (k : ℕ) → Before us k → k ≤ length us
before_within us k (inl e) = omega arith
before_within us k (inr (e, is)) = omega (arith, e, ap length is)

pub constants_within : (us : List Token) → begins_constants us ≡ true → 1 ≤ length us
constants_within us e = omega (arith, ap length (const_first us e))

pub variables_within : (us : List Token) (k : ℕ) → variables_at us ≡ Some k → k ≤ length us
variables_within us k e = before_within us k (variables_before us k e)

module _ (words : ContextualWords) (tokens us : List Token) (ms : List Modifier) (read : read_modifiers tokens ≡ (ms, us)) where
  -- PLACES

  pub shorter : length us ≤ length tokens
  shorter = let place = place_behind tokens us ms read in place.within

  pub within : (n k : ℕ) → n ≡ length tokens → k ≤ length us → n - length us + k ≤ length tokens
  within n k size inside = omega (arith, shorter)

  far : (n k : ℕ) → n ≡ length tokens → drop (n - length us + k) tokens ≡ drop k us
  far n k size =
      let place = place_behind tokens us ms read in
      ap (λ (m : ℕ). drop (m - length us + k) tokens) size ∙ sym (drop-drop k (length tokens - length us) tokens) ∙ ap (λ vs. drop k vs) place.there

  -- CONSTANTS

  pub constants_line : (n : ℕ) (ds : List Declarator) → n ≡ length tokens → begins_constants us ≡ true → IsAfterModifiers ms (drop (n - length us + 1) tokens) ds
      → IsDeclarationLine words tokens (line.Constants ms ds)
  constants_line n ds size e p =
      line_found words tokens us ms (line.Constants ms ds) read refl
      (p.0, (drop 1 us, const_first us e, subst (λ vs. AreListed IsDeclarator vs ds) (far n 1 size) p.1))

  pub no_constants : (n : ℕ) → n ≡ length tokens → begins_constants us ≡ true → ((ds : List Declarator) → IsAfterModifiers ms (drop (n - length us + 1) tokens) ds → ⊥)
      → (d : DeclarationLine) → IsDeclarationLine words tokens d → ⊥
  no_constants n size e none d p =
      let r = read_as words tokens us ms d read p in
      let a = as_constants words d ms us r.modifiers r.behind e in
      none a.0 (a.2, subst (λ vs. AreListed IsDeclarator vs a.0) (sym (far n 1 size)) a.3)

  -- VARIABLES

  variables_stand : (k : ℕ) (ds : List Declarator) → Before us k → (ms ≡ [] → ⊥) → AreListed IsDeclarator (drop k us) ds → Behind words (line.Variables ms ds) us
  variables_stand k ds (inl e) some p = (some, inl (subst (λ (m : ℕ). AreListed IsDeclarator (drop m us) ds) e p))
  variables_stand k ds (inr (e, is)) some p = (some, inr (drop 1 us, is, subst (λ (m : ℕ). AreListed IsDeclarator (drop m us) ds) e p))

  pub variables_line : (n k : ℕ) (ds : List Declarator) → n ≡ length tokens → variables_at us ≡ Some k → IsAfterModifiers ms (drop (n - length us + k) tokens) ds
      → IsDeclarationLine words tokens (line.Variables ms ds)
  variables_line n k ds size e p =
      line_found words tokens us ms (line.Variables ms ds) read refl
      (variables_stand k ds (variables_before us k e) p.0 (subst (λ vs. AreListed IsDeclarator vs ds) (far n k size) p.1))

  pub no_variables : (n k : ℕ) → n ≡ length tokens → variables_at us ≡ Some k → ((ds : List Declarator) → IsAfterModifiers ms (drop (n - length us + k) tokens) ds → ⊥)
      → (d : DeclarationLine) → IsDeclarationLine words tokens d → ⊥
  no_variables n k size e none d p =
      let r = read_as words tokens us ms d read p in
      let a = as_variables words d ms us k r.modifiers r.behind e in
      none a.0 (a.2, subst (λ vs. AreListed IsDeclarator vs a.0) (sym (far n k size)) a.3)

  -- HEADERS

  pub header_line : (d : DeclarationLine) → read_header words ms us ≡ Some d → IsDeclarationLine words tokens d
  header_line d e = let s = header_stands words ms us d e in line_found words tokens us ms d read s.modifiers s.behind

  pub no_header : length tokens ≤ most_tokens → begins_constants us ≡ false → variables_at us ≡ None → read_header words ms us ≡ None
      → (d : DeclarationLine) → IsDeclarationLine words tokens d → ⊥
  no_header few e v none d p =
      let r = read_as words tokens us ms d read p in
      let header = as_header words d us r.behind e v in
      let there = header_read words d ms us header (omega (arith, few, shorter)) r.modifiers r.behind in
      let same : None ≡ Some d = sym none ∙ there in
      absurd cc
