-- A line is one item at most, where the words of options are different names.
use Rattle.std.proofs.Common.{◌≡◌, inl, inr, ◌≤◌, Bool, true, false, List, length, Some, None, refl, ap, sym, ◌∙◌}
use Rattle.vb_syntax.specs.{declared.{tokens.Token.Token, expression.Expr.Expr, statement.CompoundOperator.CompoundOperator, item.Item.Item, words.Context.Context, keyword.Keyword.Keyword}, ContextualWords.OptionsApart}
use Rattle.vb_syntax.specs.declared.item.Item.TheVariants as item
use Rattle.vb_parse_stmt.specs.{declared.front.Front.Front, Statements.{local_word, compound_sign}, Items.IsOtherItem, Reading.{word_front, front_of, may_begin}}
use Rattle.vb_parse_stmt.specs.declared.front.Front.TheVariants as front
use Rattle.vb_parse_expr.specs.TypeReading.{most_tokens}
use Rattle.vb_parse_decl.proofs.{DeclaredDeclarators.Readings, Wholes.primary_front, Parted.primary_of_parted}
use Rattle.vb_syntax.specs.declared.keyword.Keyword.TheVariants as word
use Rattle.vb_syntax.specs.declared.tokens.Token.TheVariants as token
use Rattle.vb_parse_decl.specs.Parts.{equal, Begins, IsExpression, IsPrimary}
use Rattle.vb_parse_stmt.proofs.{SimpleRefusals.compound_ends, SimpleFirsts.{IsOpen, primary_first, yield_front}, SimpleSame.{assignment_same, compound_same, invocation_same, assignment_no_compound, invocation_no_assignment, invocation_no_compound}, BlockSame.if_same, BranchIf.if_not_primary, ItemFirsts.{may_begin_all, begins_so}, ItemLines.{OneItem, option_line, imports_line, end_line, declaration_line, redim_line, throw_line, yield_line, return_line, go_to_line, exit_line, continue_line, on_error_line, resume_line, add_handler_line, remove_handler_line, raise_event_line, else_if_line, else_line, while_line, do_line, loop_line, for_line, for_each_line, next_line, select_line, case_line, case_else_line, try_line, catch_line, finally_line, sync_lock_line, with_line, using_line}}

-- LINES THAT A PRIMARY MAY BEGIN

-- what may begin with `If`
abbrev may_be_open : Item → Bool
may_be_open (item.If x) = true
may_be_open (item.Assignment x y) = true
may_be_open (item.CompoundAssignment o x y) = true
may_be_open (item.Invocation x) = true
may_be_open x = false

other_open : (x : Item) → may_begin front.Other x ≡ true → may_be_open x ≡ true
other_open (item.Assignment x y) e = refl
other_open (item.CompoundAssignment o x y) e = refl
other_open (item.Invocation x) e = refl
other_open x e = absurd cc

if_open : (x : Item) → may_begin front.If x ≡ true → may_be_open x ≡ true
if_open (item.If x) e = refl
if_open (item.Assignment x y) e = refl
if_open (item.CompoundAssignment o x y) e = refl
if_open (item.Invocation x) e = refl
if_open x e = absurd cc

open_item : (f : Front) (x : Item) → IsOpen f → may_begin f x ≡ true → may_be_open x ≡ true
open_item f x (inl same) e = other_open x (ap (λ (g : Front). may_begin g x) (sym same) ∙ e)
open_item f x (inr same) e = if_open x (ap (λ (g : Front). may_begin g x) (sym same) ∙ e)

-- an `If` is no assignment and no call
if_no_assignment : Readings → (c : Context) (ts : List Token) (x y z : Expr) → length ts ≤ most_tokens → IsOtherItem c ts (item.If x) → IsOtherItem c ts (item.Assignment y z) → ⊥
if_no_assignment laws c ts x y z few p (none, q) =
    if_not_primary laws.expressions ts x y (length q.left) few p (primary_of_parted equal (λ us. refl) IsExpression ts y z q)

if_no_compound : Readings → (c : Context) (ts : List Token) (x : Expr) (o : CompoundOperator) (y z : Expr) → length ts ≤ most_tokens → IsOtherItem c ts (item.If x)
    → IsOtherItem c ts (item.CompoundAssignment o y z) → ⊥
if_no_compound laws c ts x o y z few p (none, q) =
    if_not_primary laws.expressions ts x y (length q.left) few p (primary_of_parted (token.Symbol (compound_sign o)) (compound_ends o) IsExpression ts y z q)

if_no_call : Readings → (c : Context) (ts : List Token) (x y : Expr) → length ts ≤ most_tokens → IsOtherItem c ts (item.If x) → IsOtherItem c ts (item.Invocation y) → ⊥
if_no_call laws c ts x y few p (inl q) = if_not_primary laws.expressions ts x y (length ts) few p (primary_front ts y q.1)
if_no_call laws c ts x y few (us, split, p) (inr (vs, split', q)) = cc

if_line : Readings → (c : Context) (ts : List Token) (x : Expr) → length ts ≤ most_tokens → IsOtherItem c ts (item.If x) → OneItem c ts front.If (item.If x)
if_line laws c ts x few p (item.If y) e q = ap item.If (if_same laws.expressions c ts x y few p q)
if_line laws c ts x few p (item.Assignment y z) e q = absurd (if_no_assignment laws c ts x y z few p q)
if_line laws c ts x few p (item.CompoundAssignment o y z) e q = absurd (if_no_compound laws c ts x o y z few p q)
if_line laws c ts x few p (item.Invocation y) e q = absurd (if_no_call laws c ts x y few p q)
if_line laws c ts x few p y e q = absurd cc

assignment_line : Readings → (c : Context) (ts : List Token) (x y : Expr) → length ts ≤ most_tokens → IsOtherItem c ts (item.Assignment x y) → (z : Item) → may_be_open z ≡ true
    → IsOtherItem c ts z → item.Assignment x y ≡ z
assignment_line laws c ts x y few p (item.If z) e q = absurd (if_no_assignment laws c ts z x y few q p)
assignment_line laws c ts x y few p (item.Assignment x' y') e q = assignment_same laws.primaries laws.expressions c ts x y x' y' few p q
assignment_line laws c ts x y few p (item.CompoundAssignment o x' y') e q = absurd (assignment_no_compound laws.primaries laws.expressions c ts o x y x' y' few p q)
assignment_line laws c ts x y few p (item.Invocation z) e q = absurd (invocation_no_assignment laws.begins laws.primaries c ts z x y few q p)
assignment_line laws c ts x y few p z e q = absurd cc

compound_line : Readings → (c : Context) (ts : List Token) (o : CompoundOperator) (x y : Expr) → length ts ≤ most_tokens → IsOtherItem c ts (item.CompoundAssignment o x y)
    → (z : Item) → may_be_open z ≡ true → IsOtherItem c ts z → item.CompoundAssignment o x y ≡ z
compound_line laws c ts o x y few p (item.If z) e q = absurd (if_no_compound laws c ts z o x y few q p)
compound_line laws c ts o x y few p (item.Assignment x' y') e q = absurd (assignment_no_compound laws.primaries laws.expressions c ts o x' y' x y few q p)
compound_line laws c ts o x y few p (item.CompoundAssignment o' x' y') e q = compound_same laws.primaries laws.expressions c ts o o' x y x' y' few p q
compound_line laws c ts o x y few p (item.Invocation z) e q = absurd (invocation_no_compound laws.begins laws.primaries c ts o z x y few q p)
compound_line laws c ts o x y few p z e q = absurd cc

invocation_line : Readings → (c : Context) (ts : List Token) (x : Expr) → length ts ≤ most_tokens → IsOtherItem c ts (item.Invocation x) → (z : Item) → may_be_open z ≡ true
    → IsOtherItem c ts z → item.Invocation x ≡ z
invocation_line laws c ts x few p (item.If z) e q = absurd (if_no_call laws c ts z x few q p)
invocation_line laws c ts x few p (item.Assignment x' y') e q = absurd (invocation_no_assignment laws.begins laws.primaries c ts x x' y' few p q)
invocation_line laws c ts x few p (item.CompoundAssignment o x' y') e q = absurd (invocation_no_compound laws.begins laws.primaries c ts o x x' y' few p q)
invocation_line laws c ts x few p (item.Invocation z) e q = invocation_same laws.begins laws.primaries c ts x z few p q
invocation_line laws c ts x few p z e q = absurd cc

call_line : Readings → (c : Context) (ts : List Token) (x : Expr) → length ts ≤ most_tokens → IsOtherItem c ts (item.Invocation x) → OneItem c ts front.Call (item.Invocation x)
call_line laws c ts x few p (item.Invocation z) e q = invocation_same laws.begins laws.primaries c ts x z few p q
call_line laws c ts x few p z e q = absurd cc

-- ALL LINES

-- with which word a line begins
begun : (c : Context) (w : Keyword) (P : List Token → Type 0) (ts : List Token) → Begins w P ts → front_of c ts ≡ word_front w
begun c w P ts (us, split, p) = ap (front_of c) split

assignment_all : Readings → (c : Context) (ts : List Token) (x y : Expr) (z : Item) → length ts ≤ most_tokens → IsOtherItem c ts (item.Assignment x y) → IsOtherItem c ts z → item.Assignment x y ≡ z
assignment_all laws c ts x y z few (none, p) q =
    assignment_line laws c ts x y few (none, p) z
    (open_item (front_of c ts) z (primary_first laws.begins c ts x (length p.left) (primary_of_parted equal (λ us. refl) IsExpression ts x y p) none)
    (may_begin_all laws.begins c ts z q)) q

compound_all : Readings → (c : Context) (ts : List Token) (o : CompoundOperator) (x y : Expr) (z : Item) → length ts ≤ most_tokens → IsOtherItem c ts (item.CompoundAssignment o x y)
    → IsOtherItem c ts z → item.CompoundAssignment o x y ≡ z
compound_all laws c ts o x y z few (none, p) q =
    compound_line laws c ts o x y few (none, p) z
    (open_item (front_of c ts) z
    (primary_first laws.begins c ts x (length p.left) (primary_of_parted (token.Symbol (compound_sign o)) (compound_ends o) IsExpression ts x y p) none)
    (may_begin_all laws.begins c ts z q)) q

invocation_all : Readings → (c : Context) (ts : List Token) (x : Expr) (z : Item) → length ts ≤ most_tokens → IsOtherItem c ts (item.Invocation x) → IsOtherItem c ts z → item.Invocation x ≡ z
invocation_all laws c ts x z few (inl (none, p)) q =
    invocation_line laws c ts x few (inl (none, p)) z
    (open_item (front_of c ts) z (primary_first laws.begins c ts x (length ts) (primary_front ts x p) none) (may_begin_all laws.begins c ts z q)) q
invocation_all laws c ts x z few (inr p) q =
    call_line laws c ts x few (inr p) z (begins_so laws.begins c front.Call ts z (begun c word.Call (λ us. IsPrimary us x) ts p) q) q

pub item_same : Readings → (c : Context) (ts : List Token) (x z : Item) → OptionsApart c.words → length ts ≤ most_tokens → IsOtherItem c ts x → IsOtherItem c ts z → x ≡ z
item_same laws c ts (item.Option s) z apart few is q = option_line laws c ts s apart few is z (begins_so laws.begins c front.Option ts z (ap (front_of c) is.1) q) q
item_same laws c ts (item.Imports s) z apart few is q = imports_line laws c ts s few is z (begins_so laws.begins c front.Imports ts z (ap (front_of c) is.1) q) q
item_same laws c ts (item.Declares d) z apart few is q = absurd is
item_same laws c ts (item.Label n) z apart few is q = absurd is
item_same laws c ts (item.End b) z apart few is q = end_line laws c ts b few is z (begins_so laws.begins c front.End ts z (ap (front_of c) is) q) q
item_same laws c ts (item.Declaration m ds) z apart few is q =
    declaration_line laws c ts m ds few is z (begins_so laws.begins c (word_front (local_word m)) ts z (ap (front_of c) is.1) q) q
item_same laws c ts (item.ReDim n x) z apart few is q = redim_line laws c ts n x few is z (begins_so laws.begins c front.ReDim ts z (ap (front_of c) is.1) q) q
item_same laws c ts (item.Assignment x y) z apart few is q = assignment_all laws c ts x y z few is q
item_same laws c ts (item.CompoundAssignment o x y) z apart few is q = compound_all laws c ts o x y z few is q
item_same laws c ts (item.Invocation x) z apart few is q = invocation_all laws c ts x z few is q
item_same laws c ts (item.Throw x) z apart few is q = throw_line laws c ts x few is z (begins_so laws.begins c front.Throw ts z (ap (front_of c) is.1) q) q
item_same laws c ts (item.Yield x) z apart few is q = yield_line laws c ts x few is z (begins_so laws.begins c front.Yield ts z (yield_front c ts (is.0, (is.1.0, is.1.1))) q) q
item_same laws c ts (item.Return x) z apart few is q = return_line laws c ts x few is z (begins_so laws.begins c front.Return ts z (ap (front_of c) is.1) q) q
item_same laws c ts (item.GoTo n) z apart few is q = go_to_line laws c ts n few is z (begins_so laws.begins c front.GoTo ts z (ap (front_of c) is.1) q) q
item_same laws c ts (item.Exit k) z apart few is q = exit_line laws c ts k few is z (begins_so laws.begins c front.Exit ts z (ap (front_of c) is) q) q
item_same laws c ts (item.Continue k) z apart few is q = continue_line laws c ts k few is z (begins_so laws.begins c front.Continue ts z (ap (front_of c) is) q) q
item_same laws c ts (item.OnError a) z apart few is q = on_error_line laws c ts a few is z (begins_so laws.begins c front.On ts z (ap (front_of c) is.1) q) q
item_same laws c ts (item.Resume p) z apart few is q = resume_line laws c ts p few is z (begins_so laws.begins c front.Resume ts z (ap (front_of c) is.1) q) q
item_same laws c ts (item.AddHandler x y) z apart few is q = add_handler_line laws c ts x y few is z (begins_so laws.begins c front.AddHandler ts z (ap (front_of c) is.1) q) q
item_same laws c ts (item.RemoveHandler x y) z apart few is q = remove_handler_line laws c ts x y few is z (begins_so laws.begins c front.RemoveHandler ts z (ap (front_of c) is.1) q) q
item_same laws c ts (item.RaiseEvent n xs) z apart few is q = raise_event_line laws c ts n xs few is z (begins_so laws.begins c front.RaiseEvent ts z (ap (front_of c) is.1) q) q
item_same laws c ts (item.If x) z apart few is q = if_line laws c ts x few is z (begins_so laws.begins c front.If ts z (ap (front_of c) is.1) q) q
item_same laws c ts (item.ElseIf x) z apart few is q = else_if_line laws c ts x few is z (begins_so laws.begins c front.ElseIf ts z (ap (front_of c) is.1) q) q
item_same laws c ts item.Else z apart few is q = else_line laws c ts few is z (begins_so laws.begins c front.Else ts z (ap (front_of c) is) q) q
item_same laws c ts (item.While x) z apart few is q = while_line laws c ts x few is z (begins_so laws.begins c front.While ts z (ap (front_of c) is.1) q) q
item_same laws c ts (item.Do t) z apart few is q = do_line laws c ts t few is z (begins_so laws.begins c front.Do ts z (ap (front_of c) is.1) q) q
item_same laws c ts (item.Loop t) z apart few is q = loop_line laws c ts t few is z (begins_so laws.begins c front.Loop ts z (ap (front_of c) is.1) q) q
item_same laws c ts (item.For v a b s) z apart few is q = for_line laws c ts v a b s few is z (begins_so laws.begins c front.For ts z (ap (front_of c) is.1) q) q
item_same laws c ts (item.ForEach v x) z apart few is q = for_each_line laws c ts v x few is z (begins_so laws.begins c front.For ts z (ap (front_of c) is.1) q) q
item_same laws c ts (item.Next None) z apart few is q = next_line laws c ts None few is z (begins_so laws.begins c front.Next ts z (ap (front_of c) is) q) q
item_same laws c ts (item.Next (Some n)) z apart few is q = next_line laws c ts (Some n) few is z (begins_so laws.begins c front.Next ts z (ap (front_of c) is.1) q) q
item_same laws c ts (item.Select x) z apart few is q = select_line laws c ts x few is z (begins_so laws.begins c front.Select ts z (ap (front_of c) is.1) q) q
item_same laws c ts (item.Case cs) z apart few is q = case_line laws c ts cs few is z (begins_so laws.begins c front.Case ts z (ap (front_of c) is.1) q) q
item_same laws c ts item.CaseElse z apart few is q = case_else_line laws c ts few is z (begins_so laws.begins c front.Case ts z (ap (front_of c) is) q) q
item_same laws c ts item.Try z apart few is q = try_line laws c ts few is z (begins_so laws.begins c front.Try ts z (ap (front_of c) is) q) q
item_same laws c ts (item.Catch v x) z apart few is q = catch_line laws c ts v x few is z (begins_so laws.begins c front.Catch ts z (ap (front_of c) is.1) q) q
item_same laws c ts item.Finally z apart few is q = finally_line laws c ts few is z (begins_so laws.begins c front.Finally ts z (ap (front_of c) is) q) q
item_same laws c ts (item.SyncLock x) z apart few is q = sync_lock_line laws c ts x few is z (begins_so laws.begins c front.SyncLock ts z (ap (front_of c) is.1) q) q
item_same laws c ts (item.With x) z apart few is q = with_line laws c ts x few is z (begins_so laws.begins c front.With ts z (ap (front_of c) is.1) q) q
item_same laws c ts (item.Using r) z apart few is q = using_line laws c ts r few is z (begins_so laws.begins c front.Using ts z (ap (front_of c) is.1) q) q
