-- Where lines have a tree, they break neither the rule on the ends of blocks nor that on where rows stand, and that on a line's form only by
-- a colon at the file's front.
use Rattle.std.proofs.Common.{◌≡◌, ◌⊎◌, inl, inr, ℕ, ◌<◌, Bool, true, false, if◌then◌else◌, List, [], reverse, None, sym, subst, arith}
use Rattle.vb_syntax.specs.declared.{tokens.Line.Line, declaration.SourceFile.SourceFile, item.Row.Row, words.ContextualWords.ContextualWords}
use Rattle.vb_syntax.specs.declared.item.Joint.TheVariants as joint
use Rattle.vb_rows.specs.{Rows.are_in_place, Files.{AreRowsOf, BreaksGrammarRule}}
use Rattle.vb_parse_expr.specs.{Words.has_unused, Fronts.line_rule}
use Rattle.vb_ends.specs.{Enders.BreaksBackwards, Roles.marks_of}
use Rattle.vb_blocks.specs.Trees.{IsMisplaced}
use Rattle.vb_tree.specs.Excluded.{ArePlaced, HaveEnds}
use Rattle.vb_parse.specs.{Rules.IsTreeOf, Excluded.{BeginsColon, BreakNoRuleOfForm}}
use Rattle.vb_parse.proofs.{TreeJoints.tree_in_place, LineJoints.{lines_free, led_by_colon}}

-- the rule is none of these; or it is a line's own, and the line is led by a colon
abbrev IsAllowed : Type 0 → ℕ → Type 0
IsAllowed Led rule = (rule ≡ 31 → ⊥) × (rule ≡ 34 → ⊥) × ((rule ≡ 30) ⊎ (rule ≡ 32) → Led)

allowed_by : (Led : Type 0) (rule n : ℕ) → rule ≡ n → IsAllowed Led n → IsAllowed Led rule
allowed_by Led rule n e o = subst (λ (m : ℕ). IsAllowed Led m) (sym e) o

-- the rule of a line
of_line : (Led : Type 0) (unused : Bool) → Led → IsAllowed Led (if unused then 32 else 30)
of_line Led true led = (λ e. omega arith, λ e. omega arith, λ e. led)
of_line Led false led = (λ e. omega arith, λ e. omega arith, λ e. led)

neither : (Led : Type 0) (n : ℕ) → 32 < n → (n ≡ 30) ⊎ (n ≡ 32) → Led
neither Led n more (inl e) = absurd (omega arith)
neither Led n more (inr e) = absurd (omega arith)

-- of the rules on rows, whatever the others say
of_rows : {D E F : Type 0} (Led : Type 0) (rows : List Row) → ArePlaced rows → HaveEnds rows → (line rule : ℕ)
    → ((rule ≡ 31) × BreaksBackwards (marks_of None (reverse rows)) line) ⊎ ((rule ≡ 33) × D) ⊎ ((rule ≡ 34) × IsMisplaced rows line) ⊎ ((rule ≡ 35) × E) ⊎ ((rule ≡ 36) × F) → IsAllowed Led rule
of_rows Led rows placed ends line rule (inl h) = absurd (ends line h.1)
of_rows Led rows placed ends line rule (inr (inl h)) = allowed_by Led rule 33 h.0 (λ e. omega arith, λ e. omega arith, neither Led 33 (omega arith))
of_rows Led rows placed ends line rule (inr (inr (inl h))) = absurd (placed line h.1)
of_rows Led rows placed ends line rule (inr (inr (inr (inl h)))) = allowed_by Led rule 35 h.0 (λ e. omega arith, λ e. omega arith, neither Led 35 (omega arith))
of_rows Led rows placed ends line rule (inr (inr (inr (inr h)))) = allowed_by Led rule 36 h.0 (λ e. omega arith, λ e. omega arith, neither Led 36 (omega arith))

-- of the rule on a line
of_grammar : (words : ContextualWords) (lines : List Line) (rows : List Row) → AreRowsOf words [] lines rows → are_in_place joint.End 0 rows ≡ true → (line rule : ℕ)
    → BreaksGrammarRule lines rows line rule → IsAllowed (BeginsColon lines line) rule
of_grammar words lines rows are placed line rule h =
    let l = h.0 in
    let led = subst (λ (n : ℕ). BeginsColon lines n) (sym h.2) (led_by_colon words lines rows are placed l h.1) in
    allowed_by (BeginsColon lines line) rule (line_rule l.tokens) h.3 (of_line (BeginsColon lines line) (has_unused l.tokens) led)

-- the lines have no rows but these, which are a tree
pub excluded : (words : ContextualWords) (file : ℕ) (lines : List Line) (tree : SourceFile) (is : IsTreeOf words file lines tree) → ((others : List Row) → AreRowsOf words [] lines others → is.rows ≡ others)
    → ArePlaced is.rows → HaveEnds is.rows → BreakNoRuleOfForm words lines
excluded words file lines tree is alone placed ends line rule h =
    let same : is.rows ≡ h.rows = alone h.rows h.are_rows in
    let there : ArePlaced h.rows = subst (λ (rs : List Row). ArePlaced rs) same placed in
    let ended : HaveEnds h.rows = subst (λ (rs : List Row). HaveEnds rs) same ends in
    let joined : are_in_place joint.End 0 is.rows ≡ true = tree_in_place file is.rows tree is.is_tree (lines_free words [] lines is.rows is.are_rows) in
    let fit : are_in_place joint.End 0 h.rows ≡ true = subst (λ (rs : List Row). are_in_place joint.End 0 rs ≡ true) same joined in
    elim h.broken [ inl g ↦ of_grammar words lines h.rows h.are_rows fit line rule g | inr k ↦ of_rows (BeginsColon lines line) h.rows there ended line rule k ]
