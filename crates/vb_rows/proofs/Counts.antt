-- How many rows a line has.
use Rattle.std.proofs.Common.{◌≡◌, ℕ, suc, ◌+◌, Bool, not, false, List, [], ◌∷◌, Option, Some, None, length, refl, sym, ap, ◌∙◌, length-append}
use Rattle.vb_text.specs.declared.names.Name.{Name}
use Rattle.vb_syntax.specs.{declared.{tokens.Line.Line, item.{Item.Item, Row.Row}, words.ContextualWords.ContextualWords}, Items.is_end}
use Rattle.vb_rows.specs.{Pieces.{Piece, label_of, pieces_of}, Rows.{items_behind, joint_of, joined, label_rows, ArePieceRows, AreLineRows}, Files.{ifs_behind, piece_depths, label_depths, line_depths, depths_of, AreRowsOf, row_count}}

pub joined_count : (inside : Bool) (rs : List Row) → length (joined inside rs) ≡ length rs
joined_count inside [] = refl
joined_count inside (r ∷ rs) = ap suc (joined_count (not (is_end (joint_of inside r.behind rs))) rs)

pub piece_count : (words : ContextualWords) (number : ℕ) (items : List (Option Item)) (ps : List Piece) (rs : List Row) → ArePieceRows words number items ps rs → length rs ≡ length ps
piece_count words number items [] [] h = refl
piece_count words number items [] (r ∷ rs) h = absurd h
piece_count words number items (p ∷ ps) [] h = absurd h
piece_count words number items (p ∷ ps) (r ∷ rs) h = ap suc (piece_count words number (r.item ∷ items) ps rs h.3)

pub line_count : (words : ContextualWords) (items : List (Option Item)) (line : Line) (rows : List Row) → AreLineRows words items line rows → length rows ≡ row_count line
line_count words items line rows are =
    let labels = label_rows line.number (label_of line.tokens) in
    ap (λ rs. length rs) are.joined_are ∙ length-append labels (joined false are.parts)
    ∙ ap (λ n. length labels + n) (joined_count false are.parts ∙ piece_count words line.number (items_behind items (label_rows line.number (label_of line.tokens))) (pieces_of line.tokens) are.parts are.are)

-- DEPTHS

piece_depths_count : (ifs : ℕ) (ps : List Piece) → length (piece_depths ifs ps) ≡ length ps
piece_depths_count ifs [] = refl
piece_depths_count ifs (p ∷ ps) = ap suc (piece_depths_count (ifs_behind ifs p.behind) ps)

label_depths_count : (number : ℕ) (o : Option Name) → length (label_depths o) ≡ length (label_rows number o)
label_depths_count number None = refl
label_depths_count number (Some n) = refl

line_depths_count : (l : Line) → length (line_depths l) ≡ row_count l
line_depths_count l =
    let o = label_of l.tokens in let ps = pieces_of l.tokens in
    length-append (label_depths o) (piece_depths 0 ps) ∙ ap (λ n. n + length (piece_depths 0 ps)) (label_depths_count l.number o)
    ∙ ap (λ n. length (label_rows l.number o) + n) (piece_depths_count 0 ps)

-- each row has its depth
pub depths_count : (words : ContextualWords) (items : List (Option Item)) (ls : List Line) (rows : List Row) → AreRowsOf words items ls rows → length (depths_of ls) ≡ length rows
depths_count words items [] rows h = sym (ap (λ rs. length rs) h)
depths_count words items (l ∷ ls) rows h =
    length-append (line_depths l) (depths_of ls)
    ∙ ap (λ n. n + length (depths_of ls)) (line_depths_count l ∙ sym (line_count words items l h.0 h.3))
    ∙ ap (λ n. length h.0 + n) (depths_count words (items_behind items h.0) ls h.1 h.4)
    ∙ sym (ap (λ rs. length rs) h.2 ∙ length-append h.0 h.1)
