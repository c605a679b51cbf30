-- Which bytes are a program, and which rule they break.
use Rattle.std.specs.Prelude.{◌≡◌, ◌⊎◌, ℕ, List, [], Option, Some, unwrap_or}
use Rattle.vb_diag.specs.Broken.{IsLeast, IsLeastLine, InFile}
use Rattle.vb_text.specs.Names.{AreApart}
use Rattle.vb_syntax.specs.{declared.{tokens.Line.Line, declaration.SourceFile.SourceFile, words.ContextualWords.ContextualWords}, ContextualWords.{AreWords, with_words}}
use Rattle.vb_lexer.specs.Lines.{LexedFrom, Breaks}
use Rattle.vb_parse.specs.Rules.{BreaksLines, IsTreeOf}
use Rattle.vb_bound.specs.Tree.{Tree}
use Rattle.vb_bind.specs.{declared.names.KnownNames.KnownNames, Grammar.{AreKnown, with_known, IsProgramOf, HasUnbuiltForm}}

-- LINES AND TREES

-- These names, and behind them those that the grammar uses and that aren't among them yet.
abbrev pub all_names : List (List ℕ) → List (List ℕ)
all_names names = with_words (with_known names)

-- The bytes have logical lines: they break no lexical rule. The names are those of the text, each as it is spelled first, in their
-- order.
pub record HasLines (bytes : List ℕ) : Type 0 where
  pub names : List (List ℕ)
  pub lines : List Line
  pub known : KnownNames
  pub words : ContextualWords
  pub lexed : LexedFrom [] names 0 bytes lines
  pub apart : AreApart names
  pub all_apart : AreApart (all_names names)
  pub are_known : AreKnown (all_names names) known
  pub are_words : AreWords (all_names names) words

-- The bytes have a syntax tree, that of their logical lines, and break no rule on lines and blocks.
pub record HasTree (bytes : List ℕ) : Type 0 where
  pub read : HasLines bytes
  pub tree : SourceFile
  pub is_tree : IsTreeOf read.words 0 read.lines tree
  pub sound : (line rule : ℕ) → BreaksLines read.words read.lines line rule → ⊥

-- PROGRAMS

-- The bytes are the file of a program: their tree is that of a module whose Main has these locals and this body.
pub record IsProgram (bytes : List ℕ) (t : Tree) : Type 0 where
  pub parsed : HasTree bytes
  pub program : IsProgramOf parsed.read.known parsed.tree t

abbrev pub IsNoProgram : List ℕ → Type 0
IsNoProgram bytes = (t : Tree) → IsProgram bytes t → ⊥

-- BROKEN RULES

-- of the rules that the one file breaks, this one in this line is the least
abbrev pub IsLeastRule : (ℕ → ℕ → Type 0) → ℕ → ℕ → Type 0
IsLeastRule Broken line rule = IsLeast (InFile 0 Broken) (Some (record { file = 0; line = line; rule = rule }))

-- the least rule on lines and blocks that the bytes break, and its line; they break no lexical one
abbrev pub BreaksParsing : List ℕ → ℕ → ℕ → Type 0
BreaksParsing bytes line rule = (read : HasLines bytes) × IsLeastRule (BreaksLines read.words read.lines) line rule

-- the least line of the tree that has a form which no program has, or line 1 where none has
abbrev pub IsFirstUnbuilt : KnownNames → SourceFile → ℕ → Type 0
IsFirstUnbuilt known tree line = (least : Option ℕ) × IsLeastLine (HasUnbuiltForm known tree) least × (line ≡ unwrap_or least 1)

-- the rule against forms that aren't built yet, and its line, where the bytes have a tree and are no program
abbrev pub BreaksUnbuilt : List ℕ → ℕ → ℕ → Type 0
BreaksUnbuilt bytes line rule = (parsed : HasTree bytes) × (rule ≡ 999) × IsNoProgram bytes × IsFirstUnbuilt parsed.read.known parsed.tree line

-- the least rule that the bytes break, and its line: a lexical one, or else one on lines and blocks, or else that against forms
-- that aren't built yet
abbrev pub LeastBroken : List ℕ → ℕ → ℕ → Type 0
LeastBroken bytes line rule = IsLeastRule (Breaks bytes) line rule ⊎ (BreaksParsing bytes line rule ⊎ BreaksUnbuilt bytes line rule)
