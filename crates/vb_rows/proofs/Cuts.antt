-- How far a line was searched for the end of a piece.
use Rattle.std.proofs.Common.{◌≡◌, true, false, List, [], ◌∷◌, ◌++◌, refl, sym, ap, ◌∙◌, append_assoc}
use Rattle.vb_syntax.specs.declared.tokens.Token.{Token}
use Rattle.vb_syntax.specs.declared.item.Joint.TheVariants as joint
use Rattle.vb_rows.specs.{declared.pieces.Before.Before, Pieces.{Piece, piece, cut, push, is_colon, parts_at_else, parts_at_then, before_next}}
use Rattle.vb_rows.specs.declared.pieces.Before.TheVariants as before

-- tokens at the front of the first piece
abbrev pub pushes : List Token → List Piece → List Piece
pushes us [] = []
pushes us (p ∷ ps) = piece (us ++ p.tokens) p.behind ∷ ps

-- The tokens of the rest are those behind a front with no end of a piece in it.
pub record IsCutTo (b : Before) (ts : List Token) (now : Before) (rest : List Token) : Type 0 where
  pub front : List Token
  pub split : ts ≡ front ++ rest
  pub cuts : cut b ts ≡ pushes front (cut now rest)

pub pushes_none : (ps : List Piece) → pushes [] ps ≡ ps
pushes_none [] = refl
pushes_none (p ∷ ps) = refl

pub pushes_push : (us : List Token) (t : Token) (ps : List Piece) → pushes us (push t ps) ≡ pushes (us ++ t ∷ []) ps
pushes_push us t [] = refl
pushes_push us t (p ∷ ps) = ap (λ vs. piece vs p.behind ∷ ps) (sym (append_assoc us (t ∷ []) p.tokens))

pub begin_cut : (b : Before) (ts : List Token) → IsCutTo b ts b ts
begin_cut b ts = record { front = []; split = refl; cuts = sym (pushes_none (cut b ts)) }

-- ONE TOKEN MORE

pub cut_colon : (b : Before) (t : Token) (ts : List Token) → is_colon t ≡ true → cut b (t ∷ ts) ≡ piece [] joint.Colon ∷ cut before.Front ts
cut_colon b t ts h = rw h refl

pub cut_else : (b : Before) (t : Token) (ts : List Token) → is_colon t ≡ false → parts_at_else b t ≡ true → cut b (t ∷ ts) ≡ piece [] joint.Else ∷ cut before.Other ts
cut_else b t ts h i = rw (h, i) refl

pub cut_then : (b : Before) (t : Token) (ts : List Token) → is_colon t ≡ false → parts_at_else b t ≡ false → parts_at_then t ts ≡ true → cut b (t ∷ ts) ≡ piece (t ∷ []) joint.Then ∷ cut before.Other ts
cut_then b t ts h i j = rw (h, i, j) refl

pub cut_more : (b : Before) (t : Token) (ts : List Token) → is_colon t ≡ false → parts_at_else b t ≡ false → parts_at_then t ts ≡ false → cut b (t ∷ ts) ≡ push t (cut (before_next t) ts)
cut_more b t ts h i j = rw (h, i, j) refl

pub next_cut : (b now : Before) (ts rest behind : List Token) (t : Token) → rest ≡ t ∷ behind → is_colon t ≡ false → parts_at_else now t ≡ false → parts_at_then t behind ≡ false
    → IsCutTo b ts now rest → IsCutTo b ts (before_next t) behind
next_cut b now ts rest behind t e h i j known = record {
  front = known.front ++ t ∷ [];
  split = known.split ∙ ap (λ us. known.front ++ us) e ∙ sym (append_assoc known.front (t ∷ []) behind);
  cuts = known.cuts ∙ ap (λ us. pushes known.front (cut now us)) e ∙ ap (λ ps. pushes known.front ps) (cut_more now t behind h i j) ∙ pushes_push known.front t (cut (before_next t) behind);
}
