-- How far the pieces of a line were read.
use Rattle.std.proofs.Common.{◌≡◌, ℕ, zero, suc, ◌≤◌, ◌<◌, ◌+◌, ◌-◌, ◌==◌, ◌&&◌, true, false, List, [], ◌∷◌, ◌++◌, Option, length, take, drop, refl, sym, ap, ◌∙◌, subst, append_assoc, append-nil, drop-drop, length-drop, arith}
use Rattle.std.proofs.lemmas.List.{take_all}
use Rattle.std.specs.List.{slice_range}
use Rattle.vb_syntax.specs.{declared.{tokens.Token.Token, item.{Item.Item, Joint.Joint, Row.Row}}, Items.is_end}
use Rattle.vb_syntax.specs.declared.item.Joint.TheVariants as joint
use Rattle.vb_rows.specs.{declared.{lines.LineReader.LineReader, pieces.{Found.Found, Before.Before}}, Pieces.{Piece, piece, cut, kept, is_empty, parts_statements}, Cutting.{FirstPiece, Shrinks, before_behind, skipped, cut_behind, is_left_out}, Rows.{items_behind, context_behind, Spells, ArePieceRows}, Reading.{HasRead, IsRowAdded, ArePiecesAdded}}
use Rattle.vb_rows.specs.declared.pieces.Before.TheVariants as before
use Rattle.vb_rows.specs.Pieces as spec

-- Of the pieces those before the rest were read, behind these items.
pub record IsReadTo (all rest : List Piece) (earlier now : LineReader) (number : ℕ) (rows grown : List Row) (items : List (Option Item)) : Type 0 where
  pub parts : List Row
  pub grows : grown ≡ rows ++ parts
  pub goes_on : (more : List Row) → ArePieceRows earlier.words number (items_behind items parts) rest more → ArePieceRows earlier.words number items all (parts ++ more)
  pub read : HasRead now (items_behind items parts)

pub begin_read : (all : List Piece) (earlier : LineReader) (number : ℕ) (rows : List Row) (items : List (Option Item)) → HasRead earlier items → IsReadTo all all earlier earlier number rows rows items
begin_read all earlier number rows items read = record {
  parts = [];
  grows = sym (append-nil rows);
  goes_on = λ more are. are;
  read = read;
}

-- ONE PIECE MORE

pub items_append : (items : List (Option Item)) (rs : List Row) (r : Row) → items_behind items (rs ++ r ∷ []) ≡ r.item ∷ items_behind items rs
items_append items [] r = refl
items_append items (s ∷ rs) r = items_append (s.item ∷ items) rs r

pub read_row : (all rest : List Piece) (p : Piece) (earlier before now : LineReader) (number : ℕ) (rows middle grown : List Row) (items : List (Option Item))
    → before.words ≡ earlier.words → IsRowAdded before now number p.tokens p.behind middle grown
    → IsReadTo all (p ∷ rest) earlier before number rows middle items → IsReadTo all rest earlier now number rows grown items
read_row all rest p earlier before now number rows middle grown items words added known =
    let behind = items_append items known.parts added.row in
    record {
      parts = known.parts ++ added.row ∷ [];
      grows = added.grows ∙ ap (λ rs. rs ++ added.row ∷ []) known.grows ∙ append_assoc rows known.parts (added.row ∷ []);
      goes_on = λ more are. subst (λ rs. ArePieceRows earlier.words number items all rs) (sym (append_assoc known.parts (added.row ∷ []) more))
          (known.goes_on (added.row ∷ more)
          (added.line, added.stands, subst (λ w. Spells (context_behind w (items_behind items known.parts)) p.tokens added.row.item) words (added.spells (items_behind items known.parts) known.read), subst (λ is. ArePieceRows earlier.words number is rest more) behind are));
      read = subst (λ is. HasRead now is) (sym behind) (added.read (items_behind items known.parts) known.read);
    }

not_none : (n : ℕ) → false ≡ (suc n == 0)
not_none n = grind arith

-- whether a piece is left out is told by its length
pub empty_by_length : (us : List Token) (n : ℕ) → n ≤ length us → is_empty (take n us) ≡ (n == 0)
empty_by_length us zero h = refl
empty_by_length [] (suc n) h = absurd (omega arith)
empty_by_length (t ∷ us) (suc n) h = not_none n

pub left_out_by_length : (from : Joint) (us : List Token) (found : Found) → found.length ≤ length us → spec.is_left_out from (piece (take found.length us) found.behind) ≡ is_left_out from found
left_out_by_length from us found h = ap (λ b. b && (parts_statements from && parts_statements found.behind)) (empty_by_length us found.length h)

pub kept_out : (from : Joint) (p : Piece) (ps : List Piece) → spec.is_left_out from p ≡ true → kept from (p ∷ ps) ≡ kept p.behind ps
kept_out from p ps h = rw h refl

pub kept_in : (from : Joint) (p : Piece) (ps : List Piece) → spec.is_left_out from p ≡ false → kept from (p ∷ ps) ≡ p ∷ kept p.behind ps
kept_in from p ps h = rw h refl

-- the pieces behind a place of the tokens, with this before it
abbrev pub pieces_from : Joint → List Token → List Piece
pieces_from from us = kept from (cut (before_behind from) us)

-- what is left behind the first piece
abbrev pub left_behind : Found → List Token → List Piece
left_behind found us = kept found.behind (cut_behind found.behind (drop found.length us))

pub next_left_out : (from : Joint) (us : List Token) (found : Found) → FirstPiece (before_behind from) us found → is_left_out from found ≡ true → pieces_from from us ≡ left_behind found us
next_left_out from us found first out =
    ap (λ ps. kept from ps) first.cuts ∙ kept_out from (piece (take found.length us) found.behind) (cut_behind found.behind (drop found.length us)) (left_out_by_length from us found first.within ∙ out)

pub next_kept : (from : Joint) (us : List Token) (found : Found) → FirstPiece (before_behind from) us found → is_left_out from found ≡ false
    → pieces_from from us ≡ piece (take found.length us) found.behind ∷ left_behind found us
next_kept from us found first out =
    ap (λ ps. kept from ps) first.cuts ∙ kept_in from (piece (take found.length us) found.behind) (cut_behind found.behind (drop found.length us)) (left_out_by_length from us found first.within ∙ out)

-- Such pieces were read, whatever items stand before the line.
abbrev pub AreReadTo : List Piece → List Piece → LineReader → LineReader → ℕ → List Row → List Row → Type 0
AreReadTo all rest earlier now number rows grown = (items : List (Option Item)) → HasRead earlier items → IsReadTo all rest earlier now number rows grown items

pub read_left_out : (all : List Piece) (from : Joint) (us : List Token) (found : Found) (earlier before now : LineReader) (number : ℕ) (rows middle grown : List Row)
    → FirstPiece (before_behind from) us found → is_left_out from found ≡ true → now ≡ before → grown ≡ middle
    → AreReadTo all (pieces_from from us) earlier before number rows middle → AreReadTo all (left_behind found us) earlier now number rows grown
read_left_out all from us found earlier before now number rows middle grown first out same_reader same_rows known = λ items inside.
    subst (λ d. IsReadTo all (left_behind found us) earlier d number rows grown items) (sym same_reader)
    (subst (λ rs. IsReadTo all (left_behind found us) earlier before number rows rs items) (sym same_rows)
    (subst (λ ps. IsReadTo all ps earlier before number rows middle items) (next_left_out from us found first out) (known items inside)))

pub read_kept : (all : List Piece) (from : Joint) (us ts : List Token) (found : Found) (earlier before added_reader now : LineReader) (number : ℕ) (rows middle added_rows grown : List Row)
    → FirstPiece (before_behind from) us found → is_left_out from found ≡ false → ts ≡ take found.length us → before.words ≡ earlier.words
    → IsRowAdded before added_reader number ts found.behind middle added_rows → now ≡ added_reader → grown ≡ added_rows
    → AreReadTo all (pieces_from from us) earlier before number rows middle → AreReadTo all (left_behind found us) earlier now number rows grown
read_kept all from us ts found earlier before added_reader now number rows middle added_rows grown first out same words added same_reader same_rows known = λ items inside.
    read_row all (left_behind found us) (piece (take found.length us) found.behind) earlier before now number rows middle grown items words
    (subst (λ d. IsRowAdded before d number (take found.length us) found.behind middle grown) (sym same_reader)
    (subst (λ rs. IsRowAdded before added_reader number (take found.length us) found.behind middle rs) (sym same_rows)
    (subst (λ vs. IsRowAdded before added_reader number vs found.behind middle added_rows) same added)))
    (subst (λ ps. IsReadTo all ps earlier before number rows middle items) (next_kept from us found first out) (known items inside))

-- THE NEXT PLACE

drop_thrice : (skip n place : ℕ) (tokens : List Token) → drop skip (drop n (drop place tokens)) ≡ drop (place + n + skip) tokens
drop_thrice skip n place tokens = ap (λ us. drop skip us) (drop-drop n place tokens) ∙ drop-drop skip (place + n) tokens

pub next_place : (j : Joint) (n : ℕ) (tokens : List Token) (place : ℕ) → is_end j ≡ false
    → kept j (cut_behind j (drop n (drop place tokens))) ≡ pieces_from j (drop (place + n + skipped j) tokens)
next_place joint.End n tokens place h = cc
next_place joint.Colon n tokens place h = ap (λ us. kept joint.Colon (cut before.Front us)) (drop_thrice 1 n place tokens)
next_place joint.Then n tokens place h = ap (λ us. kept joint.Then (cut before.Other us)) (drop_thrice 0 n place tokens)
next_place joint.Else n tokens place h = ap (λ us. kept joint.Else (cut before.Other us)) (drop_thrice 1 n place tokens)

-- the next place is within the tokens, and behind this one
pub next_within : (j : Joint) (n tokens : ℕ) → is_end j ≡ false → n ≤ tokens → Shrinks j n tokens → (n + skipped j ≤ tokens) × (0 < n + skipped j)
next_within joint.End n tokens h within shrinks = cc
next_within joint.Colon n tokens h within shrinks = (omega arith, omega arith)
next_within joint.Then n tokens h within shrinks = (omega arith, omega arith)
next_within joint.Else n tokens h within shrinks = (omega arith, omega arith)

nothing_behind : (j : Joint) (us : List Token) → is_end j ≡ true → kept j (cut_behind j us) ≡ []
nothing_behind joint.End us h = refl
nothing_behind joint.Colon us h = cc
nothing_behind joint.Then us h = cc
nothing_behind joint.Else us h = cc

pub at_end : (found : Found) (us : List Token) → is_end found.behind ≡ true → left_behind found us ≡ []
at_end found us h = nothing_behind found.behind (drop found.length us) h

pub all_added : (all : List Token) (found : Found) (us : List Token) (earlier now : LineReader) (number : ℕ) (rows grown : List Row) → is_end found.behind ≡ true → now.words ≡ earlier.words
    → AreReadTo (pieces_from joint.End all) (left_behind found us) earlier now number rows grown → ArePiecesAdded earlier now number all rows grown
all_added all found us earlier now number rows grown h words known = record {
  words = words;
  added = λ items inside.
      let read : IsReadTo (pieces_from joint.End all) [] earlier now number rows grown items =
      subst (λ ps. IsReadTo (pieces_from joint.End all) ps earlier now number rows grown items) (at_end found us h) (known items inside) in
      record {
        parts = read.parts;
        grows = read.grows;
        are = subst (λ rs. ArePieceRows earlier.words number items (pieces_from joint.End all) rs) (append-nil read.parts) (read.goes_on [] tt);
        read = read.read;
      };
}

-- the tokens from a place on, as the code takes them
pub first_here : (from : Joint) (b : Before) (tokens all : List Token) (place : ℕ) (found : Found) → b ≡ before_behind from → tokens ≡ all
    → FirstPiece b (take (length tokens - place) (drop place tokens)) found → FirstPiece (before_behind from) (drop place all) found
first_here from b tokens all place found e same first =
    let whole : take (length tokens - place) (drop place tokens) ≡ drop place all = take_all (length tokens - place) (drop place tokens) (omega (arith, length-drop place tokens)) ∙ ap (λ ts. drop place ts) same in
    subst (λ ts. FirstPiece (before_behind from) ts found) whole (subst (λ d. FirstPiece d (take (length tokens - place) (drop place tokens)) found) e first)

pub range_of_piece : (tokens : List Token) (place n : ℕ) → slice_range tokens place (place + n) ≡ take n (drop place tokens)
range_of_piece tokens place n = let count : place + n - place ≡ n = omega arith in ap (λ m. take m (drop place tokens)) count
