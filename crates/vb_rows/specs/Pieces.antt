-- How a logical line falls into pieces (Visual Basic Language Specification 11.0, 10.1 and 10.8.1).
use Rattle.std.specs.Prelude.{Bool, true, false, ◌&&◌, if◌then◌else◌, List, [], ◌∷◌, Option, Some, None}
use Rattle.vb_text.specs.declared.names.Name.{Name}
use Rattle.vb_syntax.specs.declared.keyword.Keyword.TheVariants as word
use Rattle.vb_syntax.specs.declared.symbol.Symbol.TheVariants as sign
use Rattle.vb_syntax.specs.declared.{tokens.Token.Token, item.Joint.Joint}
use Rattle.vb_syntax.specs.declared.tokens.Token.TheVariants as token
use Rattle.vb_syntax.specs.declared.item.Joint.TheVariants as joint
use Rattle.vb_rows.specs.declared.pieces.Before.{Before}
use Rattle.vb_rows.specs.declared.pieces.Before.TheVariants as before

-- a piece of a line, and what stands behind it: the end of the line, a colon of whatever kind, a `Then` or an `Else`
pub record Piece : Type 0 where
  pub tokens : List Token
  pub behind : Joint

abbrev pub piece : List Token → Joint → Piece
piece ts j = record { tokens = ts; behind = j }

abbrev pub is_colon : Token → Bool
is_colon (token.Symbol sign.Colon) = true
is_colon t = false

-- CUTTING (10.1 and 10.8.1)

-- an `Else` parts two pieces where it is neither the first of its part between colons nor behind `Case`
abbrev pub parts_at_else : Before → Token → Bool
parts_at_else before.Other (token.Keyword word.Else) = true
parts_at_else b t = false

-- more stands in the part between colons
abbrev pub goes_on_in_part : List Token → Bool
goes_on_in_part [] = false
goes_on_in_part (t ∷ ts) = if is_colon t then false else true

-- a `Then` parts two pieces where more stands behind it in its part
abbrev pub parts_at_then : Token → List Token → Bool
parts_at_then (token.Keyword word.Then) ts = goes_on_in_part ts
parts_at_then t ts = false

-- what a token is to the one behind it
abbrev pub before_next : Token → Before
before_next (token.Keyword word.Case) = before.Case
before_next t = before.Other

-- one token more at the front of the first piece
abbrev pub push : Token → List Piece → List Piece
push t [] = []
push t (p ∷ ps) = record p { tokens = t ∷ p.tokens } ∷ ps

-- A line is cut at each colon, behind each `Then` that parts, and at each `Else` that parts.
abbrev pub cut : Before → List Token → List Piece
cut b [] = piece [] joint.End ∷ []
cut b (t ∷ ts) =
    if is_colon t then piece [] joint.Colon ∷ cut before.Front ts
    else if parts_at_else b t then piece [] joint.Else ∷ cut before.Other ts
    else if parts_at_then t ts then piece (t ∷ []) joint.Then ∷ cut before.Other ts
    else push t (cut (before_next t) ts)

-- LABELS (10.1)

-- a name and a colon at the front of a line are a label
abbrev pub label_of : List Token → Option Name
label_of (token.Name n ∷ token.Symbol sign.Colon ∷ ts) = Some n
label_of (token.EscapedName n ∷ token.Symbol sign.Colon ∷ ts) = Some n
label_of ts = None

-- all tokens, or what stands behind the label
abbrev pub behind_label : List Token → List Token
behind_label (token.Name n ∷ token.Symbol sign.Colon ∷ ts) = ts
behind_label (token.EscapedName n ∷ token.Symbol sign.Colon ∷ ts) = ts
behind_label ts = ts

-- PIECES WITH NOTHING IN THEM (10.1)

abbrev pub is_empty : List Token → Bool
is_empty [] = true
is_empty ts = false

-- a colon or an end of the line
abbrev pub parts_statements : Joint → Bool
parts_statements joint.End = true
parts_statements joint.Colon = true
parts_statements j = false

-- between two colons, or a colon and an end of the line, may stand nothing
abbrev pub is_left_out : Joint → Piece → Bool
is_left_out from p = is_empty p.tokens && (parts_statements from && parts_statements p.behind)

-- the pieces that aren't left out, of which the first stands behind this
abbrev pub kept : Joint → List Piece → List Piece
kept from [] = []
kept from (p ∷ ps) = if is_left_out from p then kept p.behind ps else p ∷ kept p.behind ps

-- the pieces of a line, behind its label if it has one
abbrev pub pieces_of : List Token → List Piece
pieces_of ts = kept joint.End (cut before.Front (behind_label ts))
