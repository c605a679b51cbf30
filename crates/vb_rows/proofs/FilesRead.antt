-- The lines of a file that were read.
use Rattle.std.proofs.Common.{◌≡◌, ◌⊎◌, inl, inr, ℕ, zero, suc, ◌≤◌, Bool, true, false, List, [], ◌∷◌, ◌++◌, Option, Some, length, All, refl, sym, ap, ◌∙◌, subst, arith}
use Rattle.std.proofs.lemmas.List.Elements.{All-append}
use Rattle.vb_diag.specs.{declared.refusal.Refusal.Refusal, Broken.{IsNotAfter, InFile, IsLeast, lesser}}
use Rattle.vb_diag.proofs.Least.{least_same, least_of_two, itself, rules_ordered}
use Rattle.vb_syntax.specs.declared.{tokens.Line.Line, item.Row.Row, words.ContextualWords.ContextualWords}
use Rattle.vb_rows.specs.{declared.{files.FileRows.FileRows, lines.LineReader.LineReader}, Rows.{items_behind, AreLineRows}, Reading.HasRead, Files.{line_depths, depths_of, AreRowsOf, is_of_grammar, row_count, BreaksGrammarRule, IsLeastRefusal}, FileReading.{IsRefused, IsLineRead}}
use Rattle.vb_parse_expr.specs.{TypeReading.most_tokens, Fronts.line_rule}
use Rattle.vb_rows.proofs.{Counts.line_count, MoreLines.{behind_both, rows_more, depths_more, flag, flag_more, broken_split, broken_front, broken_last}}

-- These lines were read, and this is what is known behind them.
pub record AreLinesRead (file : ℕ) (words : ContextualWords) (lines : List Line) (reader : LineReader) (first : Bool) (read : FileRows) : Type 0 where
  pub rows_are : AreRowsOf words [] lines read.rows
  pub depths_are : read.depths ≡ depths_of lines
  pub few : All (λ l. length l.tokens ≤ most_tokens) lines
  pub same : reader.words ≡ words
  pub behind : HasRead reader (items_behind [] read.rows)
  pub is_first : first ≡ flag true lines
  pub least : IsLeastRefusal file lines read.rows read.refusal

one_refusal : (a b : Refusal) → a.file ≡ b.file → a.line ≡ b.line → a.rule ≡ b.rule → a ≡ b
one_refusal a b files lines rules = λ i. record { file = files i; line = lines i; rule = rules i }

-- by whether the line is of the grammar
refused_by : (file : ℕ) (words : ContextualWords) (lines : List Line) (rows here : List Row) (line : Line) (known result : Option Refusal) (b : Bool) → is_of_grammar (flag true lines) line here ≡ b
    → AreRowsOf words [] lines rows → length here ≡ row_count line → IsRefused file b line known result → IsLeastRefusal file lines rows known → IsLeastRefusal file (lines ++ line ∷ []) (rows ++ here) result
refused_by file words lines rows here line known result true e are count refused least =
    let Before = InFile file (BreaksGrammarRule lines rows) in
    let Now = InFile file (BreaksGrammarRule (lines ++ line ∷ []) (rows ++ here)) in
    subst (λ o. IsLeast Now o) (sym refused)
    (least_same rules_ordered Before Now known least
    (λ r h. (h.0, (h.1.0, broken_front true words [] lines rows line here h.1.0 are h.1.1, h.1.2, h.1.3)))
    (λ r h. elim (broken_split true words [] lines rows line here h.1.0 are count h.1.1) [ inl a ↦ (h.0, (h.1.0, a, h.1.2, h.1.3)) | inr b ↦ let none : true ≡ false = sym e ∙ b.1 in cc ]))
refused_by file words lines rows here line known result false e are count refused least =
    let Before = InFile file (BreaksGrammarRule lines rows) in
    let Now = InFile file (BreaksGrammarRule (lines ++ line ∷ []) (rows ++ here)) in
    let next = refused.0 in
    let tells = refused.1 in
    subst (λ o. IsLeast Now o) (sym refused.2)
    (least_same rules_ordered (λ r. Before r ⊎ (next ≡ r)) Now (lesser known (Some next))
    (least_of_two rules_ordered Before (λ r. next ≡ r) known (Some next) least (refl, λ r same. subst (IsNotAfter next) same (itself rules_ordered next)))
    (λ r h. elim h [
      | inl a ↦ (a.0, (a.1.0, broken_front true words [] lines rows line here a.1.0 are a.1.1, a.1.2, a.1.3))
      | inr same ↦ subst Now same (tells.0, (line, broken_last true words [] lines rows line here line are count (refl, e), tells.1, tells.2))
    ])
    (λ r h. elim (broken_split true words [] lines rows line here h.1.0 are count h.1.1) [
      | inl a ↦ inl (h.0, (h.1.0, a, h.1.2, h.1.3))
      | inr b ↦ inr (one_refusal next r (tells.0 ∙ sym h.0) (tells.1 ∙ ap (λ l. l.number) b.0 ∙ sym h.1.2) (tells.2 ∙ ap (λ l. line_rule l.tokens) b.0 ∙ sym h.1.3))
    ]))

no_more_few : (l : Line) → length l.tokens ≤ most_tokens → All (λ k. length k.tokens ≤ most_tokens) (l ∷ [])
no_more_few l few zero d h = few
no_more_few l few (suc n) d h = absurd (omega arith)

pub line_more : (file : ℕ) (words : ContextualWords) (lines : List Line) (line : Line) (reader now : LineReader) (first : Bool) (read grown : FileRows)
    → AreLinesRead file words lines reader first read → IsLineRead file reader now first line read grown → AreLinesRead file words (lines ++ line ∷ []) now false grown
line_more file words lines line reader now first read grown known more =
    let are : AreLineRows words (items_behind [] read.rows) line more.here = subst (λ w. AreLineRows w (items_behind [] read.rows) line more.here) known.same (more.are (items_behind [] read.rows) known.behind) in
    record {
      rows_are = subst (λ rs. AreRowsOf words [] (lines ++ line ∷ []) rs) (sym more.rows) (rows_more words [] lines read.rows line more.here known.rows_are are);
      depths_are = more.depths ∙ ap (λ ds. ds ++ line_depths line) known.depths_are ∙ sym (depths_more lines line);
      few = All-append (λ l. length l.tokens ≤ most_tokens) lines (line ∷ []) known.few (no_more_few line more.few);
      same = more.words ∙ known.same;
      behind = subst (λ is. HasRead now is) (sym (behind_both [] read.rows more.here) ∙ ap (λ rs. items_behind [] rs) (sym more.rows)) (more.read (items_behind [] read.rows) known.behind);
      is_first = sym (flag_more true lines line);
      least = subst (λ rs. IsLeastRefusal file (lines ++ line ∷ []) rs grown.refusal) (sym more.rows)
          (refused_by file words lines read.rows more.here line read.refusal grown.refusal (is_of_grammar (flag true lines) line more.here) refl known.rows_are
          (line_count words (items_behind [] read.rows) line more.here are)
          (subst (λ f. IsRefused file (is_of_grammar f line more.here) line read.refusal grown.refusal) known.is_first more.refusal) known.least);
    }
