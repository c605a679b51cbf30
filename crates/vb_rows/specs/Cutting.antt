-- The first piece of tokens: private definitions, for the clauses of the code's own functions.
use Rattle.std.specs.Prelude.{◌≡◌, ℕ, ◌≤◌, ◌<◌, ◌==◌, Bool, ◌&&◌, List, [], ◌∷◌, length, take, drop}
use Rattle.vb_syntax.specs.declared.{tokens.Token.Token, item.Joint.Joint}
use Rattle.vb_syntax.specs.declared.item.Joint.TheVariants as joint
use Rattle.vb_rows.specs.{declared.pieces.{Before.Before, Found.Found}, Pieces.{Piece, piece, cut, parts_statements}}
use Rattle.vb_rows.specs.declared.pieces.Before.TheVariants as before

-- what stands before the first token behind this
abbrev pub before_behind : Joint → Before
before_behind joint.End = before.Front
before_behind joint.Colon = before.Front
before_behind joint.Then = before.Other
before_behind joint.Else = before.Other

-- how many tokens stand between a piece and the next one
abbrev pub skipped : Joint → ℕ
skipped joint.End = 0
skipped joint.Colon = 1
skipped joint.Then = 0
skipped joint.Else = 1

-- the pieces behind one, of the tokens behind it
abbrev pub cut_behind : Joint → List Token → List Piece
cut_behind joint.End ts = []
cut_behind j ts = cut (before_behind j) (drop (skipped j) ts)

-- another piece stands behind a piece of n tokens, with fewer tokens
abbrev pub Shrinks : Joint → ℕ → ℕ → Type 0
Shrinks joint.End n tokens = n ≡ tokens
Shrinks joint.Then n tokens = 0 < n
Shrinks j n tokens = n < tokens

-- The piece is the first of the tokens.
pub record FirstPiece (b : Before) (ts : List Token) (found : Found) : Type 0 where
  pub within : found.length ≤ length ts
  pub shrinks : Shrinks found.behind found.length (length ts)
  pub cuts : cut b ts ≡ piece (take found.length ts) found.behind ∷ cut_behind found.behind (drop found.length ts)

abbrev pub is_left_out : Joint → Found → Bool
is_left_out from found = found.length == 0 && (parts_statements from && parts_statements found.behind)
