-- The program of a file, or that there is none.
use Rattle.std.proofs.Common.{◌≡◌, ℕ, suc, ◌≤◌, List, [], ◌∷◌, ◌++◌, length, Option, Some, refl, sym, ap, subst, ◌∙◌, arith}
use Rattle.std.specs.Prelude.{nat_le, false, codes}
use Rattle.std.proofs.lemmas.Bool.Decides.{nat_tests}
use Rattle.vb_diag.specs.{declared.refusal.Refusal.Refusal, Broken.{IsLeast, InFile}}
use Rattle.vb_text.specs.{declared.names.Name.Name, Names.{AreApart, Extends, IsNameOf, folding}}
use Rattle.vb_text.proofs.Growth.{kept_name}
use Rattle.vb_syntax.specs.{declared.{tokens.{Token.Token, Line.Line}, declaration.{ImportsStatement.ImportsStatement, SourceFile.SourceFile}, item.{Item.Item, Row.Row}, words.ContextualWords.ContextualWords}, ContextualWords.{AreWords, with_words}}
use Rattle.vb_syntax.specs.declared.item.Item.TheVariants as item
use Rattle.vb_lexer.specs.Lines.{LexedFrom}
use Rattle.vb_lexer.proofs.Unique.{table_unique, reading_unique}
use Rattle.vb_rows.specs.{Pieces.{label_of, pieces_of}, Rows.{items_behind, ArePieceRows, AreLineRows, label_rows, joined}, Files.AreRowsOf}
use Rattle.vb_blocks.specs.Trees.{whole, AreImports, nothing, more, IsTree, file}
use Rattle.vb_bound.specs.Tree.{Tree}
use Rattle.vb_bind.specs.{declared.names.KnownNames.KnownNames, Grammar.{AreKnown, with_known, IsProgramOf, widest}}
use Rattle.vb_bind.proofs.{Trees.by_test, Widest.is_wide as wide_first}
use Rattle.vb_parse.specs.Rules.{BreaksLines, IsTreeOf}
use Rattle.vb_top.specs.Programs.{all_names, HasLines, HasTree, IsProgram, IsNoProgram, IsLeastRule}

pub known_stay : (earlier later : List (List ℕ)) (known : KnownNames) → AreKnown earlier known → Extends later earlier → AreKnown later known
known_stay earlier later known are ext =
    (kept_name earlier later (codes "System") known.system are.0 ext, kept_name earlier later (codes "Console") known.console are.1 ext, kept_name earlier later (codes "WriteLine") known.write_line are.2 ext, kept_name earlier later (codes "Main") known.main are.3 ext)

one_name : (names : List (List ℕ)) (text : List ℕ) (n m : Name) → AreApart names → IsNameOf names text n → IsNameOf names text m → n ≡ m
one_name names text n m apart a b = let same = apart n.index m.index (folding text) a b in ap (λ i. record { index = i }) same

abbrev four : Name → Name → Name → Name → KnownNames
four a b c d = record { system = a; console = b; write_line = c; main = d }

same_known : (names : List (List ℕ)) (known other : KnownNames) → AreApart names → AreKnown names known → AreKnown names other → known ≡ other
same_known names known other apart a b =
    let s : known.system ≡ other.system = one_name names (codes "System") known.system other.system apart a.0 b.0 in
    let c : known.console ≡ other.console = one_name names (codes "Console") known.console other.console apart a.1 b.1 in
    let w : known.write_line ≡ other.write_line = one_name names (codes "WriteLine") known.write_line other.write_line apart a.2 b.2 in
    let m : known.main ≡ other.main = one_name names (codes "Main") known.main other.main apart a.3 b.3 in
    ap (λ x. four x known.console known.write_line known.main) s ∙ ap (λ x. four other.system x known.write_line known.main) c
    ∙ ap (λ x. four other.system other.console x known.main) w ∙ ap (λ x. four other.system other.console other.write_line x) m

abbrev eleven : Name → Name → Name → Name → Name → Name → Name → Name → Name → Name → Name → ContextualWords
eleven x0 x1 x2 x3 x4 x5 x6 x7 x8 x9 x10 = record { binary = x0; compare = x1; custom = x2; explicit = x3; infer = x4; iterator = x5; off = x6; strict = x7; text = x8; until = x9; yields = x10 }

same_words : (names : List (List ℕ)) (v w : ContextualWords) → AreApart names → AreWords names v → AreWords names w → v ≡ w
same_words names v w apart a b =
    let e0 : v.binary ≡ w.binary = one_name names (codes "Binary") v.binary w.binary apart a.0 b.0 in
    let e1 : v.compare ≡ w.compare = one_name names (codes "Compare") v.compare w.compare apart a.1 b.1 in
    let e2 : v.custom ≡ w.custom = one_name names (codes "Custom") v.custom w.custom apart a.2 b.2 in
    let e3 : v.explicit ≡ w.explicit = one_name names (codes "Explicit") v.explicit w.explicit apart a.3 b.3 in
    let e4 : v.infer ≡ w.infer = one_name names (codes "Infer") v.infer w.infer apart a.4 b.4 in
    let e5 : v.iterator ≡ w.iterator = one_name names (codes "Iterator") v.iterator w.iterator apart a.5 b.5 in
    let e6 : v.off ≡ w.off = one_name names (codes "Off") v.off w.off apart a.6 b.6 in
    let e7 : v.strict ≡ w.strict = one_name names (codes "Strict") v.strict w.strict apart a.7 b.7 in
    let e8 : v.text ≡ w.text = one_name names (codes "Text") v.text w.text apart a.8 b.8 in
    let e9 : v.until ≡ w.until = one_name names (codes "Until") v.until w.until apart a.9 b.9 in
    let e10 : v.yields ≡ w.yields = one_name names (codes "Yield") v.yields w.yields apart a.10 b.10 in
    ap (λ x. eleven x v.compare v.custom v.explicit v.infer v.iterator v.off v.strict v.text v.until v.yields) e0
    ∙ ap (λ x. eleven w.binary x v.custom v.explicit v.infer v.iterator v.off v.strict v.text v.until v.yields) e1
    ∙ ap (λ x. eleven w.binary w.compare x v.explicit v.infer v.iterator v.off v.strict v.text v.until v.yields) e2
    ∙ ap (λ x. eleven w.binary w.compare w.custom x v.infer v.iterator v.off v.strict v.text v.until v.yields) e3
    ∙ ap (λ x. eleven w.binary w.compare w.custom w.explicit x v.iterator v.off v.strict v.text v.until v.yields) e4
    ∙ ap (λ x. eleven w.binary w.compare w.custom w.explicit w.infer x v.off v.strict v.text v.until v.yields) e5
    ∙ ap (λ x. eleven w.binary w.compare w.custom w.explicit w.infer w.iterator x v.strict v.text v.until v.yields) e6
    ∙ ap (λ x. eleven w.binary w.compare w.custom w.explicit w.infer w.iterator w.off x v.text v.until v.yields) e7
    ∙ ap (λ x. eleven w.binary w.compare w.custom w.explicit w.infer w.iterator w.off w.strict x v.until v.yields) e8
    ∙ ap (λ x. eleven w.binary w.compare w.custom w.explicit w.infer w.iterator w.off w.strict w.text x v.yields) e9
    ∙ ap (λ x. eleven w.binary w.compare w.custom w.explicit w.infer w.iterator w.off w.strict w.text w.until x) e10

-- the same bytes have the same lines, the same known names and the same words
pub same_lines : (bytes : List ℕ) (a b : HasLines bytes) → (a.lines ≡ b.lines) × (a.known ≡ b.known) × (a.words ≡ b.words)
same_lines bytes a b =
    let table : a.names ≡ b.names = table_unique [] a.names b.names 0 0 bytes a.lines b.lines a.lexed b.lexed in
    let moved : LexedFrom [] b.names 0 bytes a.lines = subst (λ ns. LexedFrom [] ns 0 bytes a.lines) table a.lexed in
    let same : a.lines ≡ b.lines = reading_unique b.names 0 bytes a.lines b.lines b.apart moved.lexed b.lexed.lexed in
    let all : List (List ℕ) = all_names b.names in (
      same,
      same_known all a.known b.known b.all_apart (subst (λ ns. AreKnown (all_names ns) a.known) table a.are_known) b.are_known,
      same_words all a.words b.words b.all_apart (subst (λ ns. AreWords (all_names ns) a.words) table a.are_words) b.are_words,
    )

-- the lines of a file, behind whose names those of the grammar were put into the table, and then the words
abbrev pub has_lines : (bytes : List ℕ) (first names second third : List (List ℕ)) (known : KnownNames) (words : ContextualWords) (lines : List Line)
    → first ≡ [] → LexedFrom first names 0 bytes lines → AreApart names → second ≡ with_known names → AreKnown second known → third ≡ with_words second → Extends third second → AreWords third words
    → AreApart third → HasLines bytes
has_lines bytes first names second third known words lines a lexed apart b are_known c extended are_words all_apart =
    let grown : third ≡ all_names names = c ∙ ap (λ ns. with_words ns) b in record {
      names = names;
      lines = lines;
      known = known;
      words = words;
      lexed = subst (λ ns. LexedFrom ns names 0 bytes lines) a lexed;
      apart = apart;
      all_apart = subst (λ ns. AreApart ns) grown all_apart;
      are_known = subst (λ ns. AreKnown ns known) grown (known_stay second third known are_known extended);
      are_words = subst (λ ns. AreWords ns words) grown are_words;
    }

-- the least refusal of the one file is the least rule
pub least_rule : (Broken : ℕ → ℕ → Type 0) (r : Refusal) → IsLeast (InFile 0 Broken) (Some r) → IsLeastRule Broken r.line r.rule
least_rule Broken r h = subst (λ (f : ℕ). IsLeast (InFile 0 Broken) (Some (record { file = f; line = r.line; rule = r.rule }))) h.0.0 h

-- lines that break no rule on lines and blocks have their tree
abbrev pub has_tree : (bytes : List ℕ) (read : HasLines bytes) (lines : List Line) (tree : SourceFile) → lines ≡ read.lines → IsTreeOf read.words 0 lines tree
    → ((line rule : ℕ) → BreaksLines read.words lines line rule → ⊥) → HasTree bytes
has_tree bytes read lines tree e is sound = record {
  read = read;
  tree = tree;
  is_tree = subst (λ (ls : List Line). IsTreeOf read.words 0 ls tree) e is;
  sound = subst (λ (ls : List Line). (line rule : ℕ) → BreaksLines read.words ls line rule → ⊥) e sound;
}

-- where the tree of these lines is the only one of theirs, and of no program, the bytes are none
pub no_other : (bytes : List ℕ) (read : HasLines bytes) (tree : SourceFile) → ((other : SourceFile) → IsTreeOf read.words 0 read.lines other → other ≡ tree)
    → ((t : Tree) → IsProgramOf read.known tree t → ⊥) → IsNoProgram bytes
no_other bytes read tree alone none = λ t p.
    let of = p.parsed in
    let same = same_lines bytes of.read read in
    let here : IsTreeOf of.read.words 0 read.lines of.tree = subst (λ (ls : List Line). IsTreeOf of.read.words 0 ls of.tree) same.0 of.is_tree in
    let it : of.tree ≡ tree = alone of.tree (subst (λ (w : ContextualWords). IsTreeOf w 0 read.lines of.tree) same.2 here) in
    none t (subst (λ (f : SourceFile). IsProgramOf read.known f t) it (subst (λ (k : KnownNames). IsProgramOf k of.tree t) same.1 p.program))

-- THE WIDTH OF A PROGRAM

later_wide : (l : Line) (lines : List Line) → 1 ≤ widest lines → 1 ≤ widest (l ∷ lines)
later_wide l lines h = by_test (nat_le (length l.tokens) (widest lines)) _ (λ e. rw e h) (λ e. let over : 1 ≤ length l.tokens = grind (arith, nat_tests, e) in rw e over)

-- a line without a token has no row
no_rows : (words : ContextualWords) (before : List (Option Item)) (l : Line) (here : List Row) → l.tokens ≡ [] → AreLineRows words before l here → here ≡ []
no_rows words before l here e are = parts_of are.parts (subst (λ (ts : List Token). ArePieceRows words l.number (items_behind before (label_rows l.number (label_of ts))) (pieces_of ts) are.parts) e are.are)
    (subst (λ (ts : List Token). here ≡ label_rows l.number (label_of ts) ++ joined false are.parts) e are.joined_are)
  where
    parts_of : (parts : List Row) → ArePieceRows words l.number before [] parts → here ≡ joined false parts → here ≡ []
    parts_of [] a is = is
    parts_of (r ∷ rs) a is = absurd a

by_tokens : (l : Line) (lines : List Line) (ts : List Token) → l.tokens ≡ ts → (l.tokens ≡ [] → 1 ≤ widest lines) → 1 ≤ widest (l ∷ lines)
by_tokens l lines (t ∷ ts) is later = let long : length l.tokens ≡ suc (length ts) = ap length is in wide_first l lines (omega (arith, long))
by_tokens l lines [] is later = later_wide l lines (later is)

-- lines with a row have a line of one token at least
rows_wide : (words : ContextualWords) (before : List (Option Item)) (lines : List Line) (rows rest : List Row) (r : Row) → AreRowsOf words before lines rows → rows ≡ r ∷ rest → 1 ≤ widest lines
rows_wide words before [] rows rest r are e = let no : [] ≡ r ∷ rest = sym are ∙ e in absurd cc
rows_wide words before (l ∷ lines) rows rest r are e = by_tokens l lines l.tokens refl
    (λ is.
    let none : are.0 ≡ [] = no_rows words before l are.0 is are.3 in
    let all : are.1 ≡ r ∷ rest = ap (λ rs. rs ++ are.1) (sym none) ∙ sym are.2 ∙ e in
    rows_wide words (items_behind before are.0) lines are.1 rest r are.4 all)

-- rows of which there is one at least
abbrev HasFirst : List Row → Type 0
HasFirst rows = (r : Row) × (rest : List Row) × (rows ≡ r ∷ rest)

more_behind : (rows others : List Row) → HasFirst rows → HasFirst (rows ++ others)
more_behind rows others has = (has.0, has.1 ++ others, ap (λ rs. rs ++ others) has.2)

more_before : (others rows : List Row) → HasFirst rows → HasFirst (others ++ rows)
more_before [] rows has = has
more_before (x ∷ xs) rows has = (x, xs ++ rows, refl)

imports_row : (rows : List Row) (is : List ImportsStatement) (i : ImportsStatement) → AreImports rows is → is ≡ i ∷ [] → HasFirst rows
imports_row rows is i nothing e = absurd cc
imports_row rows is i (more {line = line} {ns = ns} {others = others} a) e = (whole line (item.Imports ns), others, refl)

-- a file that imports has a row
tree_row : (n : ℕ) (rows : List Row) (f : SourceFile) (i : ImportsStatement) → IsTree n rows f → f.imports ≡ i ∷ [] → HasFirst rows
tree_row n rows f i (file {options = options} {imports = imports} {types = types} {is = is} a b c) e = more_before options (imports ++ types) (more_behind imports types (imports_row imports is i b e))

-- the lines of a program have a line of one token at least
pub is_wide : (bytes : List ℕ) (t : Tree) (p : IsProgram bytes t) → 1 ≤ widest p.parsed.read.lines
is_wide bytes t p =
    let is = p.parsed.is_tree in
    let first = tree_row 0 is.rows p.parsed.tree p.program.is_file.imports is.is_tree p.program.is_file.one_imports in
    rows_wide p.parsed.read.words [] p.parsed.read.lines is.rows first.1 first.0 is.are_rows first.2
