-- No row of a tree is misplaced: the tree itself goes on with it.
use Rattle.std.proofs.Common.{◌≡◌, ℕ, List, [], ◌∷◌, ◌++◌, refl, sym, ◌∙◌, append_assoc, subst}
use Rattle.vb_syntax.specs.declared.{declaration.SourceFile.SourceFile, item.Row.Row}
use Rattle.vb_blocks.specs.Trees.{IsTree, file, CanGoOn}
use Rattle.vb_tree.specs.Excluded.{ArePlaced}

is_file : {n : ℕ} {rows : List Row} {t : SourceFile} → IsTree n rows t → t.file ≡ n
is_file (file a b c) = refl

-- a file goes on with each of its rows
goes_on : (n : ℕ) (rows : List Row) (t : SourceFile) → IsTree n rows t → (before : List Row) (r : Row) (behind : List Row) → rows ≡ before ++ r ∷ behind → CanGoOn (before ++ r ∷ [])
goes_on n rows t is before r behind are =
    let own : IsTree t.file rows t = subst (λ (m : ℕ). IsTree m rows t) (sym (is_file is)) is in
    (behind, t, subst (λ (rs : List Row). IsTree t.file rs t) (are ∙ sym (append_assoc before (r ∷ []) behind)) own)

pub placed : (n : ℕ) (rows : List Row) (t : SourceFile) → IsTree n rows t → ArePlaced rows
placed n rows t is line (before, r, behind, are, on_, off, at) = off (goes_on n rows t is before r behind are)
