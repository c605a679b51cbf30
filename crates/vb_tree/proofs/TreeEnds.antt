-- In a tree each block has an end, and each end a block.
use Rattle.std.proofs.Common.{ℕ, List, [], reverse, None, sym, subst}
use Rattle.std.proofs.lemmas.List.{reverse-reverse}
use Rattle.vb_syntax.specs.declared.{declaration.SourceFile.SourceFile, item.Row.Row}
use Rattle.vb_ends.specs.{declared.role.Mark.Mark, Brackets.AreBrackets, Enders.{IsBroken, BreaksBackwards}, Roles.{marks_of, AreOpenBehind}}
use Rattle.vb_blocks.specs.Trees.{IsTree}
use Rattle.vb_blocks.specs.declared.frame.Frame.TheVariants as frame
use Rattle.vb_tree.specs.Excluded.{HaveEnds}
use Rattle.vb_tree.proofs.{Leads.leads_run, FileRows.tree_leads, Unended.open_behind, NoneOpen.none_open}

bracketed : (n : ℕ) (rows : List Row) (t : SourceFile) → IsTree n rows t → AreBrackets (reverse (marks_of None (reverse rows)))
bracketed n rows t is =
    let l = tree_leads is in
    let none : AreOpenBehind (marks_of None (reverse rows)) [] = open_behind rows (frame.File l.parts, []) (leads_run l.leads) in
    none_open (marks_of None (reverse rows)) none

pub ended : ((marks : List Mark) → AreBrackets marks → (line : ℕ) → IsBroken marks line → ⊥) → (n : ℕ) (rows : List Row) (t : SourceFile) → IsTree n rows t → HaveEnds rows
ended sound n rows t is line broken =
    let marks = marks_of None (reverse rows) in
    sound (reverse marks) (bracketed n rows t is) line (subst (λ (ms : List Mark). BreaksBackwards ms line) (sym (reverse-reverse marks)) broken)
