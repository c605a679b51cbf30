-- The rows of a line, whose colons are told.
use Rattle.std.proofs.Common.{◌≡◌, ℕ, Bool, false, not, List, [], ◌∷◌, ◌++◌, Option, Some, None, refl, sym, ap, ◌∙◌, subst}
use Rattle.vb_text.specs.declared.names.Name.{Name}
use Rattle.vb_syntax.specs.{declared.{tokens.{Token.Token, Line.Line}, item.{Item.Item, Row.Row}}, Items.is_end}
use Rattle.vb_syntax.specs.declared.item.Joint.TheVariants as joint
use Rattle.vb_rows.specs.declared.pieces.Before.TheVariants as before
use Rattle.vb_rows.specs.{declared.lines.LineReader.LineReader, Pieces.{cut, kept, label_of, behind_label}, Rows.{items_behind, joint_of, joined, label_rows, ArePieceRows, AreLineRows}, Reading.{HasRead, ArePiecesAdded}}
use Rattle.vb_rows.proofs.MoreLines.{behind_both}

pub label_joined : (number : ℕ) (o : Option Name) (parts : List Row) → joined false (label_rows number o ++ parts) ≡ label_rows number o ++ joined false parts
label_joined number None parts = refl
label_joined number (Some n) parts = refl

-- the items stay where colons are told
pub items_joined : (inside : Bool) (items : List (Option Item)) (rs : List Row) → items_behind items (joined inside rs) ≡ items_behind items rs
items_joined inside items [] = refl
items_joined inside items (r ∷ rs) = items_joined (not (is_end (joint_of inside r.behind rs))) (r.item ∷ items) rs

pub joined_rows : (number : ℕ) (o : Option Name) (labels grown final parts : List Row) → labels ≡ label_rows number o → grown ≡ labels ++ parts → final ≡ joined false grown → final ≡ label_rows number o ++ joined false parts
joined_rows number o labels grown final parts first grows done =
    done ∙ ap (λ rs. joined false rs) (grows ∙ ap (λ rs. rs ++ parts) first) ∙ label_joined number o parts

-- behind the label, these items were read
pub line_read : (earlier middle now : LineReader) (line : Line) (us : List Token) (labels grown final : List Row) → us ≡ behind_label line.tokens → labels ≡ label_rows line.number (label_of line.tokens)
    → middle.words ≡ earlier.words → ArePiecesAdded middle now line.number us labels grown → final ≡ joined false grown
    → (items : List (Option Item)) → HasRead middle (items_behind items (label_rows line.number (label_of line.tokens))) → AreLineRows earlier.words items line final
line_read earlier middle now line us labels grown final behind first words added done items read =
    let all = items_behind items (label_rows line.number (label_of line.tokens)) in
    let more = added.added all read in
    record {
      parts = more.parts;
      are = subst (λ w. ArePieceRows w line.number all (kept joint.End (cut before.Front (behind_label line.tokens))) more.parts) words
          (subst (λ ts. ArePieceRows middle.words line.number all (kept joint.End (cut before.Front ts)) more.parts) behind more.are);
      joined_are = joined_rows line.number (label_of line.tokens) labels grown final more.parts first more.grows done;
    }

pub line_behind : (middle now : LineReader) (line : Line) (us : List Token) (labels grown final : List Row) → labels ≡ label_rows line.number (label_of line.tokens)
    → ArePiecesAdded middle now line.number us labels grown → final ≡ joined false grown
    → (items : List (Option Item)) → HasRead middle (items_behind items (label_rows line.number (label_of line.tokens))) → HasRead now (items_behind items final)
line_behind middle now line us labels grown final first added done items read =
    let labelled = label_rows line.number (label_of line.tokens) in
    let all = items_behind items labelled in
    let more = added.added all read in
    subst (λ is. HasRead now is)
    (sym (items_joined false all more.parts) ∙ sym (behind_both items labelled (joined false more.parts))
    ∙ ap (λ rs. items_behind items rs) (sym (joined_rows line.number (label_of line.tokens) labels grown final more.parts first more.grows done)))
    more.read
