-- With what statements without a block begin, and with what lines begin that have these fronts.
use Rattle.std.proofs.Common.{◌≡◌, ◌⊎◌, inl, inr, ℕ, ◌==◌, ◌&&◌, Bool, true, false, if◌then◌else◌, List, ◌∷◌, length, drop, Option, Some, None, refl, sym, ap, subst, ◌∙◌}
use Rattle.std.proofs.lemmas.Bool.{eqb-true, eq-eqb}
use Rattle.vb_text.specs.declared.names.Name.{Name}
use Rattle.vb_syntax.specs.declared.{keyword.Keyword.Keyword, tokens.Token.Token, words.Context.Context, expression.Expr.Expr, statement.CompoundOperator.CompoundOperator, item.Item.Item}
use Rattle.vb_syntax.specs.declared.keyword.Keyword.TheVariants as word
use Rattle.vb_syntax.specs.declared.tokens.Token.TheVariants as token
use Rattle.vb_syntax.specs.declared.item.Item.TheVariants as item
use Rattle.vb_parse_stmt.specs.{declared.front.Front.Front, Statements.compound_sign, Items.{IsOtherItem, BeginsYield}, Reading.{word_front, front_of, may_begin, IsItemFrom}, SimpleLines.IsPrimaryLine}
use Rattle.vb_parse_stmt.specs.declared.front.Front.TheVariants as front
use Rattle.vb_parse_expr.specs.Fronts.{IsPrimaryFront, begins_primary}
use Rattle.vb_parse_decl.specs.Parts.{reserved, equal, IsExpression, IsPrimary, Begins}
use Rattle.vb_parse_decl.proofs.{Wholes.primary_front, Parted.primary_of_parted}
use Rattle.vb_parse_stmt.proofs.SimpleRefusals.{compound_ends}

-- WITH WHAT A LINE BEGINS

-- the reserved word of a front
abbrev pub first_word : Front → Option Keyword
first_word front.Option = Some word.Option
first_word front.Imports = Some word.Imports
first_word front.End = Some word.End
first_word front.Dim = Some word.Dim
first_word front.Const = Some word.Const
first_word front.Static = Some word.Static
first_word front.ReDim = Some word.ReDim
first_word front.Call = Some word.Call
first_word front.Throw = Some word.Throw
first_word front.Return = Some word.Return
first_word front.GoTo = Some word.GoTo
first_word front.Exit = Some word.Exit
first_word front.Continue = Some word.Continue
first_word front.On = Some word.On
first_word front.Resume = Some word.Resume
first_word front.AddHandler = Some word.AddHandler
first_word front.RemoveHandler = Some word.RemoveHandler
first_word front.RaiseEvent = Some word.RaiseEvent
first_word front.If = Some word.If
first_word front.ElseIf = Some word.ElseIf
first_word front.Else = Some word.Else
first_word front.While = Some word.While
first_word front.Do = Some word.Do
first_word front.Loop = Some word.Loop
first_word front.For = Some word.For
first_word front.Next = Some word.Next
first_word front.Select = Some word.Select
first_word front.Case = Some word.Case
first_word front.Try = Some word.Try
first_word front.Catch = Some word.Catch
first_word front.Finally = Some word.Finally
first_word front.SyncLock = Some word.SyncLock
first_word front.With = Some word.With
first_word front.Using = Some word.Using
first_word f = None

word_back : (w : Keyword) → (first_word (word_front w) ≡ Some w) ⊎ (word_front w ≡ front.Other)
word_back word.Option = inl refl
word_back word.Imports = inl refl
word_back word.End = inl refl
word_back word.Dim = inl refl
word_back word.Const = inl refl
word_back word.Static = inl refl
word_back word.ReDim = inl refl
word_back word.Call = inl refl
word_back word.Throw = inl refl
word_back word.Return = inl refl
word_back word.GoTo = inl refl
word_back word.Exit = inl refl
word_back word.Continue = inl refl
word_back word.On = inl refl
word_back word.Resume = inl refl
word_back word.AddHandler = inl refl
word_back word.RemoveHandler = inl refl
word_back word.RaiseEvent = inl refl
word_back word.If = inl refl
word_back word.ElseIf = inl refl
word_back word.Else = inl refl
word_back word.While = inl refl
word_back word.Do = inl refl
word_back word.Loop = inl refl
word_back word.For = inl refl
word_back word.Next = inl refl
word_back word.Select = inl refl
word_back word.Case = inl refl
word_back word.Try = inl refl
word_back word.Catch = inl refl
word_back word.Finally = inl refl
word_back word.SyncLock = inl refl
word_back word.With = inl refl
word_back word.Using = inl refl
word_back w = inr refl

none_is_none : {X : Type 0} (x : X) → None ≡ Some x → ⊥
none_is_none x e = cc

word_same : (f : Front) (v w : Keyword) → first_word f ≡ Some v → word_front w ≡ f → (first_word (word_front w) ≡ Some w) ⊎ (word_front w ≡ front.Other) → w ≡ v
word_same f v w e here (inl s) = let same : Some w ≡ Some v = sym s ∙ ap first_word here ∙ e in cc
word_same f v w e here (inr s) = absurd (none_is_none v (ap first_word (sym s ∙ here) ∙ e))

name_starts : (b : Bool) (f : Front) (v : Keyword) → first_word f ≡ Some v → (if b then front.Yield else front.Other) ≡ f → ⊥
name_starts true f v e here = none_is_none v (ap first_word here ∙ e)
name_starts false f v e here = none_is_none v (ap first_word here ∙ e)

-- a line with the front of a reserved word begins with it
pub starts : (c : Context) (f : Front) (v : Keyword) → first_word f ≡ Some v → (ts : List Token) → front_of c ts ≡ f → ts ≡ reserved v ∷ drop 1 ts
starts c f v e (token.Keyword w ∷ ts) here = ap (λ (u : Keyword). reserved u ∷ ts) (word_same f v w e here (word_back w))
starts c f v e (token.Name n ∷ ts) here = absurd (name_starts (c.in_iterator && (n.index == c.words.yields.index)) f v e here)
starts c f v e ts here = absurd (none_is_none v (ap first_word here ∙ e))

-- what stands behind that word
pub behind : (w : Keyword) (P : List Token → Type 0) (ts : List Token) → Begins w P ts → P (drop 1 ts)
behind w P ts (us, split, p) = subst P (sym (ap (λ (vs : List Token). drop 1 vs) split)) p

-- YIELD

both : (a b : Bool) → (a && b) ≡ true → (a ≡ true) × (b ≡ true)
both true b e = (refl, e)
both false b e = absurd cc

-- the name is `Yield` where that is a word
yields_same : (c : Context) (n : Name) → (c.in_iterator && (n.index == c.words.yields.index)) ≡ true → (c.in_iterator ≡ true) × (n ≡ c.words.yields)
yields_same c n e =
    let found = both c.in_iterator (n.index == c.words.yields.index) e in
    let index : n.index ≡ c.words.yields.index = eqb-true n.index c.words.yields.index found.1 in
    (found.0, ap (λ (i : ℕ). record { index = i }) index)

-- a line that begins with `Yield` where that is a word has its front
pub yield_front : (c : Context) (ts : List Token) → BeginsYield c ts → front_of c ts ≡ front.Yield
yield_front c ts (inside, (us, split)) =
    let index : (c.words.yields.index == c.words.yields.index) ≡ true = eq-eqb c.words.yields.index c.words.yields.index refl in
    ap (front_of c) split
    ∙ ap (λ (b : Bool). if b && (c.words.yields.index == c.words.yields.index) then front.Yield else front.Other) inside
    ∙ ap (λ (b : Bool). if b then front.Yield else front.Other) index

-- LINES WITH NO WORD OF THEIR OWN

pub no_yield : (c : Context) (f : Front) (ts : List Token) → front_of c ts ≡ f → (f ≡ front.Yield → ⊥) → BeginsYield c ts → ⊥
no_yield c f ts here other p = other (sym here ∙ yield_front c ts p)

pub no_call_word : (c : Context) (f : Front) (P : List Token → Type 0) (ts : List Token) → front_of c ts ≡ f → (f ≡ front.Call → ⊥) → Begins word.Call P ts → ⊥
no_call_word c f P ts here other (us, split, p) = other (sym here ∙ ap (front_of c) split)

-- what a line with the front of none is
pub other_is : (c : Context) (ts : List Token) → front_of c ts ≡ front.Other → (x : Item) → IsItemFrom c front.Other ts x → IsPrimaryLine ts x
other_is c ts here (item.Assignment x y) (e, p) = p.1
other_is c ts here (item.CompoundAssignment o x y) (e, p) = p.1
other_is c ts here (item.Invocation x) (e, inl p) = p.1
other_is c ts here (item.Invocation x) (e, inr p) = absurd (no_call_word c front.Other (λ us. IsPrimary us x) ts here (λ s. cc) p)
other_is c ts here x (e, p) = absurd cc

-- what a primary begins is an item, where the line doesn't begin with `Yield`
pub line_item : (c : Context) (f : Front) (ts : List Token) → front_of c ts ≡ f → (f ≡ front.Yield → ⊥) → (x : Item) → IsPrimaryLine ts x → IsOtherItem c ts x
line_item c f ts here other (item.Assignment x y) p = (no_yield c f ts here other, p)
line_item c f ts here other (item.CompoundAssignment o x y) p = (no_yield c f ts here other, p)
line_item c f ts here other (item.Invocation x) p = inl (no_yield c f ts here other, p)
line_item c f ts here other x p = absurd p

pub is_other : (c : Context) (ts : List Token) → front_of c ts ≡ front.Other → (x : Item) → IsPrimaryLine ts x → IsItemFrom c front.Other ts x
is_other c ts here (item.Assignment x y) p = (refl, line_item c front.Other ts here (λ s. cc) (item.Assignment x y) p)
is_other c ts here (item.CompoundAssignment o x y) p = (refl, line_item c front.Other ts here (λ s. cc) (item.CompoundAssignment o x y) p)
is_other c ts here (item.Invocation x) p = (refl, line_item c front.Other ts here (λ s. cc) (item.Invocation x) p)
is_other c ts here x p = absurd p

-- WITH WHAT THE ITEMS BEGIN

-- each primary begins with a token of those
abbrev pub PrimaryBegins : Type 0
PrimaryBegins = (ts : List Token) (x : Expr) (n : ℕ) → IsPrimaryFront ts x n
    → (t : Token) × (us : List Token) × (ts ≡ t ∷ us) × (begins_primary t ≡ true)

abbrev pub IsOpen : Front → Type 0
IsOpen f = (f ≡ front.Other) ⊎ (f ≡ front.If)

-- `If` is the only one of the words with which a primary begins
open_word : (w : Keyword) → begins_primary (token.Keyword w) ≡ true → IsOpen (word_front w)
open_word word.If e = inr refl
open_word word.Option e = absurd cc
open_word word.Imports e = absurd cc
open_word word.End e = absurd cc
open_word word.Dim e = absurd cc
open_word word.Const e = absurd cc
open_word word.Static e = absurd cc
open_word word.ReDim e = absurd cc
open_word word.Call e = absurd cc
open_word word.Throw e = absurd cc
open_word word.Return e = absurd cc
open_word word.GoTo e = absurd cc
open_word word.Exit e = absurd cc
open_word word.Continue e = absurd cc
open_word word.On e = absurd cc
open_word word.Resume e = absurd cc
open_word word.AddHandler e = absurd cc
open_word word.RemoveHandler e = absurd cc
open_word word.RaiseEvent e = absurd cc
open_word word.ElseIf e = absurd cc
open_word word.Else e = absurd cc
open_word word.While e = absurd cc
open_word word.Do e = absurd cc
open_word word.Loop e = absurd cc
open_word word.For e = absurd cc
open_word word.Next e = absurd cc
open_word word.Select e = absurd cc
open_word word.Case e = absurd cc
open_word word.Try e = absurd cc
open_word word.Catch e = absurd cc
open_word word.Finally e = absurd cc
open_word word.SyncLock e = absurd cc
open_word word.With e = absurd cc
open_word word.Using e = absurd cc
open_word w e = inl refl

open_name : (b : Bool) → (b ≡ true → ⊥) → IsOpen (if b then front.Yield else front.Other)
open_name true none = absurd (none refl)
open_name false none = inl refl

begins_yield : (c : Context) (n : Name) (us : List Token) → (c.in_iterator && (n.index == c.words.yields.index)) ≡ true → BeginsYield c (token.Name n ∷ us)
begins_yield c n us e = let found = yields_same c n e in (found.0, (us, ap (λ (m : Name). token.Name m ∷ us) found.1))

open_token : (c : Context) (t : Token) (us : List Token) → begins_primary t ≡ true → (BeginsYield c (t ∷ us) → ⊥) → IsOpen (front_of c (t ∷ us))
open_token c (token.Keyword w) us e none = open_word w e
open_token c (token.Name n) us e none = open_name (c.in_iterator && (n.index == c.words.yields.index)) (λ b. none (begins_yield c n us b))
open_token c t us e none = inl refl

open_line : (c : Context) (ts : List Token) → (BeginsYield c ts → ⊥) → (t : Token) × (us : List Token) × (ts ≡ t ∷ us) × (begins_primary t ≡ true) → IsOpen (front_of c ts)
open_line c ts none (t, us, split, e) =
    subst (λ (vs : List Token). IsOpen (front_of c vs)) (sym split)
    (open_token c t us e (subst (λ (vs : List Token). BeginsYield c vs → ⊥) split none))

-- the front of a line that a primary begins, where `Yield` doesn't
pub primary_first : PrimaryBegins → (c : Context) (ts : List Token) (x : Expr) (n : ℕ) → IsPrimaryFront ts x n → (BeginsYield c ts → ⊥) → IsOpen (front_of c ts)
primary_first begins c ts x n p none = open_line c ts none (begins ts x n p)

assignment_open : (f : Front) (x y : Expr) → IsOpen f → may_begin f (item.Assignment x y) ≡ true
assignment_open f x y (inl e) = ap (λ (g : Front). may_begin g (item.Assignment x y)) e
assignment_open f x y (inr e) = ap (λ (g : Front). may_begin g (item.Assignment x y)) e

compound_open : (f : Front) (o : CompoundOperator) (x y : Expr) → IsOpen f → may_begin f (item.CompoundAssignment o x y) ≡ true
compound_open f o x y (inl e) = ap (λ (g : Front). may_begin g (item.CompoundAssignment o x y)) e
compound_open f o x y (inr e) = ap (λ (g : Front). may_begin g (item.CompoundAssignment o x y)) e

invocation_open : (f : Front) (x : Expr) → IsOpen f → may_begin f (item.Invocation x) ≡ true
invocation_open f x (inl e) = ap (λ (g : Front). may_begin g (item.Invocation x)) e
invocation_open f x (inr e) = ap (λ (g : Front). may_begin g (item.Invocation x)) e

pub assignment_first : PrimaryBegins → (c : Context) (ts : List Token) (x y : Expr) → IsOtherItem c ts (item.Assignment x y) → may_begin (front_of c ts) (item.Assignment x y) ≡ true
assignment_first begins c ts x y (none, p) =
    assignment_open (front_of c ts) x y (primary_first begins c ts x (length p.left) (primary_of_parted equal (λ us. refl) IsExpression ts x y p) none)

pub compound_first : PrimaryBegins → (c : Context) (ts : List Token) (o : CompoundOperator) (x y : Expr) → IsOtherItem c ts (item.CompoundAssignment o x y)
    → may_begin (front_of c ts) (item.CompoundAssignment o x y) ≡ true
compound_first begins c ts o x y (none, p) =
    compound_open (front_of c ts) o x y
    (primary_first begins c ts x (length p.left) (primary_of_parted (token.Symbol (compound_sign o)) (compound_ends o) IsExpression ts x y p) none)

pub invocation_first : PrimaryBegins → (c : Context) (ts : List Token) (x : Expr) → IsOtherItem c ts (item.Invocation x) → may_begin (front_of c ts) (item.Invocation x) ≡ true
invocation_first begins c ts x (inl p) = invocation_open (front_of c ts) x (primary_first begins c ts x (length ts) (primary_front ts x p.1) p.0)
invocation_first begins c ts x (inr (us, split, p)) = ap (λ (vs : List Token). may_begin (front_of c vs) (item.Invocation x)) split

pub throw_first : (c : Context) (ts : List Token) (x : Option Expr) → IsOtherItem c ts (item.Throw x) → may_begin (front_of c ts) (item.Throw x) ≡ true
throw_first c ts x (us, split, p) = ap (λ (vs : List Token). may_begin (front_of c vs) (item.Throw x)) split

pub yield_first : (c : Context) (ts : List Token) (x : Expr) → IsOtherItem c ts (item.Yield x) → may_begin (front_of c ts) (item.Yield x) ≡ true
yield_first c ts x (inside, (us, split, p)) =
    ap (λ (f : Front). may_begin f (item.Yield x)) (yield_front c ts (inside, (us, split)))

pub return_first : (c : Context) (ts : List Token) (x : Option Expr) → IsOtherItem c ts (item.Return x) → may_begin (front_of c ts) (item.Return x) ≡ true
return_first c ts x (us, split, p) = ap (λ (vs : List Token). may_begin (front_of c vs) (item.Return x)) split

pub add_handler_first : (c : Context) (ts : List Token) (x y : Expr) → IsOtherItem c ts (item.AddHandler x y) → may_begin (front_of c ts) (item.AddHandler x y) ≡ true
add_handler_first c ts x y (us, split, p) = ap (λ (vs : List Token). may_begin (front_of c vs) (item.AddHandler x y)) split

pub remove_handler_first : (c : Context) (ts : List Token) (x y : Expr) → IsOtherItem c ts (item.RemoveHandler x y) → may_begin (front_of c ts) (item.RemoveHandler x y) ≡ true
remove_handler_first c ts x y (us, split, p) = ap (λ (vs : List Token). may_begin (front_of c vs) (item.RemoveHandler x y)) split

pub raise_event_first : (c : Context) (ts : List Token) (n : Name) (xs : List Expr) → IsOtherItem c ts (item.RaiseEvent n xs) → may_begin (front_of c ts) (item.RaiseEvent n xs) ≡ true
raise_event_first c ts n xs (us, split, p) = ap (λ (vs : List Token). may_begin (front_of c vs) (item.RaiseEvent n xs)) split
