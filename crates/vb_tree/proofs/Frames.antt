-- The code's steps on frames are those of the mirror.
use Rattle.std.proofs.Common.{◌≡◌, ℕ, ◌<◌, length, arith, true, false, List, [], ◌∷◌, ◌++◌, reverse, Option, Some, None, Result, refl, ap, sym, ◌∙◌, subst}
use Rattle.std.proofs.lemmas.List.{reverse-append, length-reverse}
use Rattle.vb_syntax.specs.declared.{statement.{Statement.Statement, StatementForm.StatementForm}, item.{Item.Item, Joint.Joint}, declaration.Member.Member}
use Rattle.vb_syntax.specs.declared.item.Item.TheVariants as item
use Rattle.vb_syntax.specs.declared.item.Joint.TheVariants as joint
use Rattle.vb_blocks.specs.{declared.{scope.Scope.Scope, frame.Frame.Frame, fault.Fault.Fault}, Trees.simple_form, Steps.{State, Gives, line_ends, else_begins, body_step, frame_step, no_statement_in, automatic, last_of, last_property}}
use Rattle.vb_blocks.specs.declared.scope.Scope.TheVariants as scope
use Rattle.vb_blocks.specs.declared.scope.LineClause.TheVariants as line_clause
use Rattle.vb_blocks.specs.declared.frame.Frame.TheVariants as frame
use Rattle.vb_tree.proofs.MemberRows.{popped_append}
use Rattle.vb_tree.specs.Lines.{in_line, in_else, else_clause, among_below, left}

pub reverse_last : {A : Type 0} (xs : List A) (x : A) → reverse (xs ++ x ∷ []) ≡ x ∷ reverse xs
reverse_last xs x = reverse-append xs (x ∷ [])

-- the ends of lines, of a frame
abbrev pub line_ends_of : Frame → List Frame → Option State
line_ends_of (frame.Body s ss) below = line_ends s ss below
line_ends_of f below = Some (f, below)

abbrev pub line_ends_from : Option State → Option State
line_ends_from None = None
line_ends_from (Some st) = line_ends_of st.0 st.1

pub line_ends_left : (f : Frame) (below : List Frame) → in_line f ≡ true → line_ends_of f below ≡ line_ends_from (left f below)
line_ends_left (frame.Body (scope.Line c) ss) [] h = refl
line_ends_left (frame.Body (scope.Line c) ss) (frame.Body s before ∷ below) h = refl
line_ends_left (frame.Body (scope.Line c) ss) (f ∷ below) h = refl
line_ends_left (frame.Body s ss) below h = absurd cc
line_ends_left f below h = absurd cc

pub line_ends_done : (f : Frame) (below : List Frame) → in_line f ≡ false → line_ends_of f below ≡ Some (f, below)
line_ends_done (frame.Body (scope.Line c) ss) below h = absurd cc
line_ends_done (frame.Body s ss) below h = refl
line_ends_done f below h = refl

-- the beginning of `Else`, of a frame
abbrev pub else_begins_of : Frame → List Frame → Option State
else_begins_of (frame.Body s ss) below = else_begins s ss below
else_begins_of f below = None

abbrev pub else_begins_from : Option State → Option State
else_begins_from None = None
else_begins_from (Some st) = else_begins_of st.0 st.1

pub else_begins_left : (f : Frame) (below : List Frame) → in_else f ≡ true → else_begins_of f below ≡ else_begins_from (left f below)
else_begins_left (frame.Body (scope.Line (line_clause.Else l t b)) ss) [] h = refl
else_begins_left (frame.Body (scope.Line (line_clause.Else l t b)) ss) (frame.Body s before ∷ below) h = refl
else_begins_left (frame.Body (scope.Line (line_clause.Else l t b)) ss) (f ∷ below) h = refl
else_begins_left (frame.Body (scope.Line (line_clause.Then l t)) ss) below h = absurd cc
else_begins_left (frame.Body s ss) below h = absurd cc
else_begins_left f below h = absurd cc

pub else_begins_done : (f : Frame) (below : List Frame) → in_else f ≡ false → else_begins_of f below ≡ among_below below (else_clause f)
else_begins_done (frame.Body (scope.Line (line_clause.Else l t b)) ss) below h = absurd cc
else_begins_done (frame.Body (scope.Line (line_clause.Then l t)) ss) below h = refl
else_begins_done (frame.Body s ss) below h = refl
else_begins_done f below h = refl

abbrev below_of : List Frame → Option State → List Frame
below_of fs None = fs
below_of fs (Some st) = st.1

-- each part of a line that is whole lets go a frame
left_takes : (f : Frame) (fs : List Frame) (st : State) → left f fs ≡ Some st → length st.1 < length fs
left_takes (frame.Body (scope.Line c) ss) [] st h = absurd cc
left_takes (frame.Body (scope.Line c) ss) (frame.Body s before ∷ fs) st h =
    let e : fs ≡ st.1 = ap (λ (o : Option State). below_of fs o) h in rw (← e) (omega arith)
left_takes (frame.Body (scope.Line c) ss) (f ∷ fs) st h = absurd cc
left_takes (frame.Body s ss) fs st h = absurd cc
left_takes f fs st h = absurd cc

pub left_shorter : (f g : Frame) (b c : List Frame) → left f (reverse b) ≡ Some (g, reverse c) → length c < length b
left_shorter f g b c h =
    let s : length (reverse c) < length (reverse b) = left_takes f (reverse b) (g, reverse c) h in
    omega (arith, s, length-reverse b, length-reverse c)

-- the last member is taken out
pub last_taken : (old new : List Member) (m : Member) → old ≡ new ++ m ∷ [] → last_property old ≡ (new, automatic m)
last_taken old new m e = ap last_property e ∙ ap last_of (popped_append new m)

same_no_statement : (j : Joint) (s : Scope) (ss : List Statement) (below : List Frame) (line : ℕ) (x : Item) → no_statement_in (frame.Body s ss) j below line x ≡ body_step s ss below line x j None
same_no_statement joint.End s ss below line x = refl
same_no_statement joint.Then s ss below line (item.If t) = refl
same_no_statement joint.Then s ss below line x = refl
same_no_statement joint.Else s ss below line x = refl
same_no_statement joint.Colon s ss below line x = refl

-- an item that is no statement by itself, behind statements
pub by_no_statement : (view : Frame → State) (r : Result Frame Fault) (s : Scope) (ss : List Statement) (below : List Frame) (line : ℕ) (x y : Item) (behind : Joint) → y ≡ x → simple_form x ≡ None
    → Gives view r (no_statement_in (frame.Body s ss) behind below line y) → Gives view r (frame_step (frame.Body s ss) below line x behind)
by_no_statement view r s ss below line x y behind same none g =
    let h : Gives view r (no_statement_in (frame.Body s ss) behind below line x) = subst (λ (z : Item). Gives view r (no_statement_in (frame.Body s ss) behind below line z)) same g in
    let k : Gives view r (body_step s ss below line x behind None) = subst (λ (o : Option State). Gives view r o) (same_no_statement behind s ss below line x) h in
    subst (λ (o : Option StatementForm). Gives view r (body_step s ss below line x behind o)) (sym none) k
