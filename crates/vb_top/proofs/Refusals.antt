-- The least rule that bytes break is one.
use Rattle.std.proofs.Common.{◌≡◌, ◌⊎◌, inl, inr, ℕ, ◌<◌, ◌≤◌, List, [], ◌∷◌, length, Option, Some, None, refl, sym, ap, subst, ◌∙◌, arith}
use Rattle.std.specs.Prelude.{nat_le, unwrap_or}
use Rattle.std.specs.List.{All}
use Rattle.std.proofs.lemmas.List.Elements.{All-nil, All-cons}
use Rattle.std.proofs.lemmas.Bool.Decides.{nat_tests}
use Rattle.vb_diag.specs.{declared.refusal.Refusal.Refusal, Broken.{IsLeastLine, InFile}}
use Rattle.vb_diag.proofs.Least.{one_least, lines_ordered, rules_ordered}
use Rattle.vb_text.specs.Names.{AreApart}
use Rattle.vb_syntax.specs.{declared.{tokens.Line.Line, declaration.SourceFile.SourceFile, item.Row.Row, words.ContextualWords.ContextualWords}, ContextualWords.{AreWords, OptionsApart}}
use Rattle.vb_lexer.specs.Lines.{Item, AreLines, Breaks, SomeLineBreaks, line_number, token_count, groups_of}
use Rattle.vb_lexer.proofs.{Groups.tokens_counted, Unique.never_both}
use Rattle.vb_parse_expr.specs.TypeReading.{most_tokens}
use Rattle.vb_rows.specs.Files.{AreRowsOf}
use Rattle.vb_blocks.specs.Trees.{IsTree}
use Rattle.vb_parse.specs.Rules.{BreaksLines, IsTreeOf}
use Rattle.vb_bind.specs.{declared.names.KnownNames.KnownNames, Grammar.HasUnbuiltForm}
use Rattle.vb_bind.proofs.Trees.{by_test}
use Rattle.vb_top.specs.Programs.{all_names, HasLines, HasTree, IsFirstUnbuilt, IsLeastRule, LeastBroken}
use Rattle.vb_top.proofs.Compiled.{same_lines}

-- ONE LEAST

abbrev at_line : ℕ → ℕ → Refusal
at_line line rule = record { file = 0; line = line; rule = rule }

same_refusal : (a b c d : ℕ) → ◌≡◌ {A = Option Refusal} (Some (at_line a b)) (Some (at_line c d)) → (a ≡ c) × (b ≡ d)
same_refusal a b c d e =
    let same : at_line a b ≡ at_line c d = cc in
    (ap (λ (r : Refusal). r.line) same, ap (λ (r : Refusal). r.rule) same)

-- of these rules one in one line is the least
one_rule : (Broken : ℕ → ℕ → Type 0) (a b c d : ℕ) → IsLeastRule Broken a b → IsLeastRule Broken c d → (a ≡ c) × (b ≡ d)
one_rule Broken a b c d h k = same_refusal a b c d (one_least rules_ordered (InFile 0 Broken) (Some (at_line a b)) (Some (at_line c d)) h k)

-- SHORT LINES

abbrev IsShort : Line → Type 0
IsShort l = length l.tokens ≤ most_tokens

short_line : (table : List (List ℕ)) (group : List Item) (gs : List (List Item)) (l : Line) → token_count group ≡ length l.tokens
    → ((line rule : ℕ) → SomeLineBreaks (group ∷ gs) line rule → ⊥) → IsShort l
short_line table group gs l count sound = by_test (nat_le (length l.tokens) 4096) _
    (λ e. let le : length l.tokens ≤ 4096 = grind (arith, nat_tests, e) in omega (arith, le))
    (λ e. let over : 4096 < length l.tokens = grind (arith, nat_tests, e) in absurd (sound (line_number group) 7 (inl (refl, inr (refl, omega (arith, over, count))))))

-- lines that break no lexical rule are short
short_lines : (table : List (List ℕ)) (gs : List (List Item)) (ls : List Line) → AreLines table 0 gs ls → ((line rule : ℕ) → SomeLineBreaks gs line rule → ⊥) → All IsShort ls
short_lines table [] [] are sound = All-nil IsShort
short_lines table [] (l ∷ ls) are sound = absurd are
short_lines table (g ∷ gs) [] are sound = absurd are
short_lines table (g ∷ gs) (l ∷ ls) are sound =
    All-cons IsShort l ls (short_line table g gs l (tokens_counted table g l.tokens are.0.2) sound) (short_lines table gs ls are.1 (λ n r h. sound n r (inr h)))

lines_short : (bytes : List ℕ) (read : HasLines bytes) → All IsShort read.lines
lines_short bytes read =
    let lexed = read.lexed.lexed in
    short_lines read.names (groups_of lexed.parts) read.lines lexed.lines_are (λ n r h. lexed.sound n r (inl h))

-- ONE REFUSAL

module _ (words_apart : (table : List (List ℕ)) (words : ContextualWords) → AreApart table → AreWords table words → OptionsApart words)
    (one_list : (words : ContextualWords) (lines : List Line) (rows other : List Row) → OptionsApart words → All IsShort lines → AreRowsOf words [] lines rows → AreRowsOf words [] lines other → rows ≡ other)
    (one_tree : (n : ℕ) (rows : List Row) (t u : SourceFile) → IsTree n rows t → IsTree n rows u → t ≡ u)
    (bytes : List ℕ) where
  same_trees : (a b : HasTree bytes) → a.tree ≡ b.tree
  same_trees a b =
      let same = same_lines bytes a.read b.read in
      let here : IsTreeOf a.read.words 0 b.read.lines a.tree = subst (λ (ls : List Line). IsTreeOf a.read.words 0 ls a.tree) same.0 a.is_tree in
      let there : IsTreeOf b.read.words 0 b.read.lines a.tree = subst (λ (w : ContextualWords). IsTreeOf w 0 b.read.lines a.tree) same.2 here in
      let apart = words_apart (all_names b.read.names) b.read.words b.read.all_apart b.read.are_words in
      let rows : there.rows ≡ b.is_tree.rows = one_list b.read.words b.read.lines there.rows b.is_tree.rows apart (lines_short bytes b.read) there.are_rows b.is_tree.are_rows in
      one_tree 0 b.is_tree.rows a.tree b.tree (subst (λ (rs : List Row). IsTree 0 rs a.tree) rows there.is_tree) b.is_tree.is_tree

  same_broken : (a b : HasLines bytes) (line rule : ℕ) → IsLeastRule (BreaksLines a.words a.lines) line rule → IsLeastRule (BreaksLines b.words b.lines) line rule
  same_broken a b line rule h =
      let same = same_lines bytes a b in
      subst (λ (w : ContextualWords). IsLeastRule (BreaksLines w b.lines) line rule) same.2 (subst (λ (ls : List Line). IsLeastRule (BreaksLines a.words ls) line rule) same.0 h)

  same_first : (a b : HasTree bytes) (line other : ℕ) → IsFirstUnbuilt a.read.known a.tree line → IsFirstUnbuilt b.read.known b.tree other → line ≡ other
  same_first a b line other h k =
      let same = same_lines bytes a.read b.read in
      let here : IsLeastLine (HasUnbuiltForm a.read.known b.tree) h.0 = subst (λ (f : SourceFile). IsLeastLine (HasUnbuiltForm a.read.known f) h.0) (same_trees a b) h.1 in
      let there : IsLeastLine (HasUnbuiltForm b.read.known b.tree) h.0 = subst (λ (known : KnownNames). IsLeastLine (HasUnbuiltForm known b.tree) h.0) same.1 here in
      let least : h.0 ≡ k.0 = one_least lines_ordered (HasUnbuiltForm b.read.known b.tree) h.0 k.0 there k.1 in
      h.2 ∙ ap (λ (o : Option ℕ). unwrap_or o 1) least ∙ sym k.2

  pub one : (line rule other_line other_rule : ℕ) → LeastBroken bytes line rule → LeastBroken bytes other_line other_rule → (line ≡ other_line) × (rule ≡ other_rule)
  one line rule other_line other_rule (inl h) (inl k) = one_rule (Breaks bytes) line rule other_line other_rule h k
  one line rule other_line other_rule (inl h) (inr (inl k)) = absurd (never_both k.0.names 0 bytes k.0.lines line rule k.0.lexed.lexed h.0.1)
  one line rule other_line other_rule (inl h) (inr (inr k)) = absurd (never_both k.0.read.names 0 bytes k.0.read.lines line rule k.0.read.lexed.lexed h.0.1)
  one line rule other_line other_rule (inr (inl h)) (inl k) = absurd (never_both h.0.names 0 bytes h.0.lines other_line other_rule h.0.lexed.lexed k.0.1)
  one line rule other_line other_rule (inr (inr h)) (inl k) = absurd (never_both h.0.read.names 0 bytes h.0.read.lines other_line other_rule h.0.read.lexed.lexed k.0.1)
  one line rule other_line other_rule (inr (inl h)) (inr (inl k)) = one_rule (BreaksLines k.0.words k.0.lines) line rule other_line other_rule (same_broken h.0 k.0 line rule h.1) k.1
  one line rule other_line other_rule (inr (inl h)) (inr (inr k)) = absurd (k.0.sound line rule (same_broken h.0 k.0.read line rule h.1).0.1)
  one line rule other_line other_rule (inr (inr h)) (inr (inl k)) = absurd (h.0.sound other_line other_rule (same_broken k.0 h.0.read other_line other_rule k.1).0.1)
  one line rule other_line other_rule (inr (inr h)) (inr (inr k)) = (same_first h.0 k.0 line other_line h.3 k.3, h.1 ∙ sym k.1)
