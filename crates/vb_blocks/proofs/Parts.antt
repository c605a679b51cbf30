-- The smaller functions of the code are those of the steps.
use Rattle.std.proofs.Common.{◌≡◌, ℕ, Bool, true, false, not, ◌&&◌, ◌||◌, cond, List, [], ◌∷◌, ◌++◌, Option, Some, None, Result, refl, ap, subst}
use Rattle.vb_text.specs.declared.names.Name.{Name}
use Rattle.vb_syntax.specs.{declared.{types.TypeName.TypeName, expression.Expr.Expr, statement.{Statement.Statement, BlockClause.BlockClause, LoopCondition.LoopCondition, LoopControlVariable.LoopControlVariable, LoopTest.LoopTest, UsingResource.UsingResource}, declaration.{Access.Access, EventAccessor.EventAccessor, Parameter.Parameter, MethodSignature.MethodSignature, ImplementedMember.ImplementedMember, FunctionKind.FunctionKind, Modifier.Modifier, MemberForm.MemberForm, Member.Member, ClassBase.ClassBase, InterfaceList.InterfaceList, InterfaceMember.InterfaceMember, PropertyAccessors.PropertyAccessors}, item.{PropertyHeader.PropertyHeader, EventAccessorKind.EventAccessorKind, DeclarationLine.DeclarationLine, BlockWord.BlockWord, Item.Item}}, Items.must_override}
use Rattle.vb_syntax.specs.declared.statement.StatementForm.TheVariants as form
use Rattle.vb_syntax.specs.declared.statement.LoopTest.TheVariants as loop
use Rattle.vb_syntax.specs.declared.declaration.MemberForm.TheVariants as member
use Rattle.vb_syntax.specs.declared.declaration.TypeForm.TheVariants as type_form
use Rattle.vb_syntax.specs.declared.item.EventAccessorKind.TheVariants as accessor
use Rattle.vb_syntax.specs.declared.item.DeclarationLine.TheVariants as header
use Rattle.vb_syntax.specs.declared.item.BlockWord.TheVariants as word
use Rattle.vb_syntax.specs.declared.item.Item.TheVariants as item
use Rattle.vb_blocks.specs.{declared.{fault.Fault.Fault, scope.{IfParts.IfParts, SelectParts.SelectParts, TryParts.TryParts, AccessorHeader.AccessorHeader}, frame.{ClassParts.ClassParts, InterfaceParts.InterfaceParts, Turn.Turn}}, Trees.{statement, enclosed, procedure, accessor_word}, Words.is_word, Steps.{Gives, word_of, if_end, select_end, try_end, loop_test, enclosed_whole, procedure_whole, event_accessor_end, accessor_turn, accessor_end, is_next, next_of, is_bare, procedure_end, is_empty, has_no_base, class_based, class_based_if, before_all, class_of, class_implements, members_turn, with_list, interface_of, interface_inherits, interface_turn, automatic_form, has_accessors}}
use Rattle.vb_blocks.specs.declared.scope.AccessorHeader.TheVariants as accessor_header
use Rattle.vb_blocks.specs.declared.frame.Frame.TheVariants as frame
use Rattle.vb_blocks.specs.declared.frame.TypeHeader.TheVariants as type_header
use Rattle.vb_blocks.specs.declared.frame.Whole.TheVariants as is
use Rattle.vb_blocks.specs.declared.frame.Turn.TheVariants as turn

-- THE ENDS OF CLAUSES

pub if_ends : (p : IfParts) (o : Option BlockClause) (w : Option BlockWord)
    → cond (is_word word.If w) (Some (turn.Closes (is.Statement (statement p.line (form.If p.test p.body p.else_ifs o))))) None ≡ if_end p o w
if_ends p o (Some word.If) = refl
if_ends p o (Some w) = refl
if_ends p o None = refl

pub select_ends : (p : SelectParts) (o : Option BlockClause) (w : Option BlockWord)
    → cond (is_word word.Select w) (Some (turn.Closes (is.Statement (statement p.line (form.Select p.value p.cases o))))) None ≡ select_end p o w
select_ends p o (Some word.Select) = refl
select_ends p o (Some w) = refl
select_ends p o None = refl

pub try_ends : (p : TryParts) (o : Option BlockClause) (w : Option BlockWord)
    → cond (is_word word.Try w) (Some (turn.Closes (is.Statement (statement p.line (form.Try p.body p.catches o))))) None ≡ try_end p o w
try_ends p o (Some word.Try) = refl
try_ends p o (Some w) = refl
try_ends p o None = refl

-- STATEMENTS WITH ONE BLOCK

pub while_ends : (l : ℕ) (x : Expr) (ss : List Statement) (line : ℕ) (y : Item)
    → cond (is_word word.While (word_of y)) (enclosed_whole l (Some (form.While x ss))) None ≡ enclosed_whole l (enclosed (item.While x) ss line y)
while_ends l x ss line (item.End word.While) = refl
while_ends l x ss line (item.End w) = refl
while_ends l x ss line y = refl

pub sync_lock_ends : (l : ℕ) (x : Expr) (ss : List Statement) (line : ℕ) (y : Item)
    → cond (is_word word.SyncLock (word_of y)) (enclosed_whole l (Some (form.SyncLock x ss))) None ≡ enclosed_whole l (enclosed (item.SyncLock x) ss line y)
sync_lock_ends l x ss line (item.End word.SyncLock) = refl
sync_lock_ends l x ss line (item.End w) = refl
sync_lock_ends l x ss line y = refl

pub with_ends : (l : ℕ) (x : Expr) (ss : List Statement) (line : ℕ) (y : Item)
    → cond (is_word word.With (word_of y)) (enclosed_whole l (Some (form.With x ss))) None ≡ enclosed_whole l (enclosed (item.With x) ss line y)
with_ends l x ss line (item.End word.With) = refl
with_ends l x ss line (item.End w) = refl
with_ends l x ss line y = refl

pub using_ends : (l : ℕ) (r : UsingResource) (ss : List Statement) (line : ℕ) (y : Item)
    → cond (is_word word.Using (word_of y)) (enclosed_whole l (Some (form.Using r ss))) None ≡ enclosed_whole l (enclosed (item.Using r) ss line y)
using_ends l r ss line (item.End word.Using) = refl
using_ends l r ss line (item.End w) = refl
using_ends l r ss line y = refl

pub for_ends : (l : ℕ) (v : LoopControlVariable) (a b : Expr) (c : Option Expr) (ss : List Statement) (line : ℕ) (y : Item)
    → cond (is_next y) (Some (turn.Closes (is.Statement (statement l (form.For v a b c ss (next_of line y)))))) None ≡ enclosed_whole l (enclosed (item.For v a b c) ss line y)
for_ends l v a b c ss line (item.Next n) = refl
for_ends l v a b c ss line y = refl

pub for_each_ends : (l : ℕ) (v : LoopControlVariable) (x : Expr) (ss : List Statement) (line : ℕ) (y : Item)
    → cond (is_next y) (Some (turn.Closes (is.Statement (statement l (form.ForEach v x ss (next_of line y)))))) None ≡ enclosed_whole l (enclosed (item.ForEach v x) ss line y)
for_each_ends l v x ss line (item.Next n) = refl
for_each_ends l v x ss line y = refl

abbrev test_whole : ℕ → List Statement → Option LoopTest → Option Turn
test_whole l ss None = None
test_whole l ss (Some t) = Some (turn.Closes (is.Statement (statement l (form.Do t ss))))

pub do_ends : (l : ℕ) (ss : List Statement) (line : ℕ) (b : Option LoopCondition) (t : LoopTest) → Some t ≡ loop_test None line b
    → Some (turn.Closes (is.Statement (statement l (form.Do t ss)))) ≡ enclosed_whole l (enclosed (item.Do None) ss line (item.Loop b))
do_ends l ss line None t e = ap (λ (o : Option LoopTest). test_whole l ss o) e
do_ends l ss line (Some c) t e = ap (λ (o : Option LoopTest). test_whole l ss o) e

pub do_top_ends : (l : ℕ) (c : LoopCondition) (ss : List Statement) (line : ℕ) (b : Option LoopCondition)
    → cond (is_bare b) (Some (turn.Closes (is.Statement (statement l (form.Do (loop.Top c) ss))))) None ≡ enclosed_whole l (enclosed (item.Do (Some c)) ss line (item.Loop b))
do_top_ends l c ss line None = refl
do_top_ends l c ss line (Some d) = refl

-- an item that isn't `Loop`
pub not_loop : (l : ℕ) (top : Option LoopCondition) (ss : List Statement) (line : ℕ) (x : Item) → ((b : Option LoopCondition) → x ≡ item.Loop b → ⊥)
    → enclosed_whole l (enclosed (item.Do top) ss line x) ≡ None
not_loop l top ss line (item.Loop b) h = absurd (h b refl)
not_loop l None ss line x h = refl
not_loop l (Some c) ss line x h = refl

-- ACCESSORS

event_ends : (k : EventAccessorKind) (a : EventAccessor) (w : Option BlockWord)
    → cond (is_word (accessor_word k) w) (Some (turn.Closes (is.Event k a))) None ≡ event_accessor_end k a w
event_ends accessor.AddHandler a (Some word.AddHandler) = refl
event_ends accessor.AddHandler a (Some w) = refl
event_ends accessor.AddHandler a None = refl
event_ends accessor.RemoveHandler a (Some word.RemoveHandler) = refl
event_ends accessor.RemoveHandler a (Some w) = refl
event_ends accessor.RemoveHandler a None = refl
event_ends accessor.RaiseEvent a (Some word.RaiseEvent) = refl
event_ends accessor.RaiseEvent a (Some w) = refl
event_ends accessor.RaiseEvent a None = refl

get_ends : (l : ℕ) (a : Option Access) (ss : List Statement) (x : Item) → accessor_end (accessor_header.Get l a) ss (word_of x) ≡ accessor_turn (accessor_header.Get l a) ss x
get_ends l a ss (item.End word.Get) = refl
get_ends l a ss (item.End w) = refl
get_ends l a ss x = refl

set_ends : (l : ℕ) (a : Option Access) (ps : List Parameter) (ss : List Statement) (x : Item) → accessor_end (accessor_header.Set l a ps) ss (word_of x) ≡ accessor_turn (accessor_header.Set l a ps) ss x
set_ends l a ps ss (item.End word.Set) = refl
set_ends l a ps ss (item.End w) = refl
set_ends l a ps ss x = refl

pub accessor_ends : (h : AccessorHeader) (ss : List Statement) (x : Item) → accessor_end h ss (word_of x) ≡ accessor_turn h ss x
accessor_ends (accessor_header.Get l a) ss x = get_ends l a ss x
accessor_ends (accessor_header.Set l a ps) ss x = set_ends l a ps ss x
accessor_ends (accessor_header.Event l k ps) ss x = event_ends k (record { line = l; parameters = ps; body = ss }) (word_of x)

-- PROCEDURES

choice : (m : Bool) (l : ℕ) (p : List Modifier × MemberForm) → cond (not m) (procedure_whole l (Some p)) None ≡ procedure_whole l (cond m None (Some p))
choice true l p = refl
choice false l p = refl

sub_ends : (l : ℕ) (ms : List Modifier) (s : MethodSignature) (is : List ImplementedMember) (ss : List Statement) (x : Item)
    → procedure_end l (header.Sub ms s is) ss (word_of x) ≡ procedure_whole l (procedure (item.Declares (header.Sub ms s is)) ss x)
sub_ends l ms s is ss (item.End word.Sub) = choice (must_override ms) l (ms, member.Sub s is (Some ss))
sub_ends l ms s is ss (item.End w) = refl
sub_ends l ms s is ss x = refl

constructor_ends : (l : ℕ) (ms : List Modifier) (ps : List Parameter) (is : List ImplementedMember) (ss : List Statement) (x : Item)
    → procedure_end l (header.Constructor ms ps is) ss (word_of x) ≡ procedure_whole l (procedure (item.Declares (header.Constructor ms ps is)) ss x)
constructor_ends l ms ps is ss (item.End word.Sub) = choice (must_override ms) l (ms, member.Constructor ps is (Some ss))
constructor_ends l ms ps is ss (item.End w) = refl
constructor_ends l ms ps is ss x = refl

function_ends : (l : ℕ) (ms : List Modifier) (k : FunctionKind) (s : MethodSignature) (t : TypeName) (is : List ImplementedMember) (ss : List Statement) (x : Item)
    → procedure_end l (header.Function ms k s t is) ss (word_of x) ≡ procedure_whole l (procedure (item.Declares (header.Function ms k s t is)) ss x)
function_ends l ms k s t is ss (item.End word.Function) = choice (must_override ms) l (ms, member.Function k s t is (Some ss))
function_ends l ms k s t is ss (item.End w) = refl
function_ends l ms k s t is ss x = refl

pub procedure_ends : (l : ℕ) (d : DeclarationLine) (ss : List Statement) (x : Item) → procedure_end l d ss (word_of x) ≡ procedure_whole l (procedure (item.Declares d) ss x)
procedure_ends l (header.Sub ms s is) ss x = sub_ends l ms s is ss x
procedure_ends l (header.Constructor ms ps is) ss x = constructor_ends l ms ps is ss x
procedure_ends l (header.Function ms k s t is) ss x = function_ends l ms k s t is ss x
procedure_ends l d ss x = refl

-- TYPES

pub class_bases : (p : ClassParts) (line : ℕ) (b : Option ClassBase) (ls : List InterfaceList) (ms : List Member) (o : Option TypeName)
    → class_based_if ((has_no_base b && is_empty ls) && is_empty ms) p line o ≡ class_based p line (before_all b ls ms o)
class_bases p line None [] [] None = refl
class_bases p line None [] [] (Some t) = refl
class_bases p line None [] (m ∷ ms) None = refl
class_bases p line None [] (m ∷ ms) (Some t) = refl
class_bases p line None (l ∷ ls) ms None = refl
class_bases p line None (l ∷ ls) ms (Some t) = refl
class_bases p line (Some b) ls ms None = refl
class_bases p line (Some b) ls ms (Some t) = refl

-- the turn of a class, by its members
pub class_implements_is : (p : ClassParts) (line : ℕ) (ts : List TypeName) (ms : List Member)
    → cond (is_empty ms) (Some (turn.Goes (frame.Members (type_header.Class (with_list p line ts)) ms))) None ≡ class_implements p line ts ms
class_implements_is p line ts [] = refl
class_implements_is p line ts (m ∷ ms) = refl

pub module_ends : (l : ℕ) (a : Option Access) (n : Name) (ms : List Member) (line : ℕ) (w : BlockWord)
    → cond (is_word word.Module (Some w)) (Some (turn.Closes (is.Type (record { line = l; access = a; name = n; form = type_form.Module ms })))) None
    ≡ members_turn (type_header.Module l a n) ms line (item.End w)
module_ends l a n ms line word.Module = refl
module_ends l a n ms line w = refl

pub class_ends : (p : ClassParts) (ms : List Member) (line : ℕ) (w : BlockWord)
    → cond (is_word word.Class (Some w)) (Some (turn.Closes (is.Type (class_of p ms)))) None ≡ members_turn (type_header.Class p) ms line (item.End w)
class_ends p ms line word.Class = refl
class_ends p ms line w = refl

-- INTERFACES

pub interface_ends : (p : InterfaceParts) (line : ℕ) (w : BlockWord)
    → cond (is_word word.Interface (Some w)) (Some (turn.Closes (is.Type (interface_of p)))) None ≡ interface_turn p line (item.End w)
interface_ends p line word.Interface = refl
interface_ends p line w = refl

inherits_by : (p : InterfaceParts) (line : ℕ) (ts : List TypeName) (ms : List InterfaceMember)
    → cond (is_empty ms) (Some (turn.Goes (frame.Interface (record {
      line = p.line;
      access = p.access;
      name = p.name;
      type_parameters = p.type_parameters;
      inherits = p.inherits ++ record { line = line; interfaces = ts } ∷ [];
      members = ms;
    })))) None ≡ interface_inherits p line ts ms
inherits_by p line ts [] = refl
inherits_by p line ts (m ∷ ms) = refl

pub interface_inherits_is : (p : InterfaceParts) (line : ℕ) (ts : List TypeName)
    → cond (is_empty p.members) (Some (turn.Goes (frame.Interface (record {
      line = p.line;
      access = p.access;
      name = p.name;
      type_parameters = p.type_parameters;
      inherits = p.inherits ++ record { line = line; interfaces = ts } ∷ [];
      members = p.members;
    })))) None ≡ interface_inherits p line ts p.members
interface_inherits_is p line ts = inherits_by p line ts p.members

-- AUTOMATIC PROPERTIES

unless : {A : Type 0} (b : Bool) (x : A) → cond (b || false) None (Some x) ≡ cond b None (Some x)
unless true x = refl
unless false x = refl

never : {A : Type 0} (b : Bool) (x : A) → cond (b || true) None (Some x) ≡ None
never true x = refl
never false x = refl

pub automatic_is : (line : ℕ) (ms : List Modifier) (h : PropertyHeader) (a : Option PropertyAccessors)
    → cond (must_override ms || has_accessors a) None (Some (record { line = line; modifiers = ms; header = h; get = None; set = None })) ≡ automatic_form line ms (member.Property h a)
automatic_is line ms h None = unless (must_override ms) _
automatic_is line ms h (Some a) = never (must_override ms) _

-- WITH THE TEST AS THE CODE HAS IT

pub turn_as : (r : Result Turn Fault) (o p : Option Turn) → o ≡ p → Gives (λ t. t) r o → Gives (λ t. t) r p
turn_as r o p e h = subst (λ (q : Option Turn). Gives (λ t. t) r q) e h

pub if_closes : (p : IfParts) (o : Option BlockClause) (w : Option BlockWord) (b : Bool) → b ≡ is_word word.If w
    → cond b (Some (turn.Closes (is.Statement (statement p.line (form.If p.test p.body p.else_ifs o))))) None ≡ if_end p o w
if_closes p o w b e = rw e (if_ends p o w)

pub select_closes : (p : SelectParts) (o : Option BlockClause) (w : Option BlockWord) (b : Bool) → b ≡ is_word word.Select w
    → cond b (Some (turn.Closes (is.Statement (statement p.line (form.Select p.value p.cases o))))) None ≡ select_end p o w
select_closes p o w b e = rw e (select_ends p o w)

pub try_closes : (p : TryParts) (o : Option BlockClause) (w : Option BlockWord) (b : Bool) → b ≡ is_word word.Try w
    → cond b (Some (turn.Closes (is.Statement (statement p.line (form.Try p.body p.catches o))))) None ≡ try_end p o w
try_closes p o w b e = rw e (try_ends p o w)
