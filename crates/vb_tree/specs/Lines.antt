-- `If` on one line, step by step.
use Rattle.std.specs.Prelude.{Bool, true, false, if◌then◌else◌, List, [], ◌∷◌, ◌++◌, Option, Some, None}
use Rattle.vb_syntax.specs.declared.statement.Statement.{Statement}
use Rattle.vb_blocks.specs.{declared.{scope.{Scope.Scope, LineClause.LineClause}, frame.Frame.Frame}, Steps.{State, body, is_line, line_whole}}
use Rattle.vb_blocks.specs.declared.scope.Scope.TheVariants as scope
use Rattle.vb_blocks.specs.declared.scope.LineClause.TheVariants as line_clause
use Rattle.vb_blocks.specs.declared.frame.Frame.TheVariants as frame

abbrev pub in_line : Frame → Bool
in_line (frame.Body (scope.Line c) ss) = true
in_line f = false

abbrev pub is_else : LineClause → Bool
is_else (line_clause.Else l t b) = true
is_else c = false

abbrev pub in_else : Frame → Bool
in_else (frame.Body (scope.Line c) ss) = is_else c
in_else f = false

abbrev pub line_goes_on : Scope → List Statement → Option Frame
line_goes_on s ss = if is_line s then Some (frame.Body s ss) else None

abbrev pub else_clause : Frame → Option Frame
else_clause (frame.Body (scope.Line (line_clause.Then l t)) ss) = Some (body (scope.Line (line_clause.Else l t ss)))
else_clause f = None

abbrev pub among : Statement → Frame → Option Frame
among s (frame.Body sc ss) = Some (frame.Body sc (ss ++ s ∷ []))
among s f = None

abbrev pub among_below : List Frame → Option Frame → Option State
among_below below None = None
among_below below (Some f) = Some (f, below)

abbrev pub line_put : Statement → List Frame → Option State
line_put s [] = None
line_put s (f ∷ below) = among_below below (among s f)

-- the statements that an `If` on one line stands among, with it
abbrev pub left : Frame → List Frame → Option State
left (frame.Body (scope.Line c) ss) below = line_put (line_whole c ss) below
left f below = None
